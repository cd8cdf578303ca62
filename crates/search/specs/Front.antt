-- Bytes written at the front of a lent buffer, the rest kept, and the loop that writes them.
use Rattle.std.specs.Prelude.{◌≡◌, refl, List, [], ◌∷◌, ◌++◌, ℕ, ◌+◌, ◌≤◌, ◌<◌}
use Rattle.std.proofs.Common.{
  sym,
  ap,
  ◌∙◌,
  append_assoc,
  append-nil,
  add-one,
  arith,
  take-suc-set,
  drop-set-lt,
  drop-drop,
  length-take-le,
}
use lib.ListN.{length, take, drop, set, take-append-drop}

-- the buffer with the bytes at its front, every other byte as it was
abbrev pub fronted : List ℕ → List ℕ → List ℕ
fronted bytes out = bytes ++ drop (length bytes) out

-- a loop that writes `whole` has written k bytes, `rest` is to come, the bytes behind are kept
pub record Fronting (whole rest out₀ out : List ℕ) (k : ℕ) : Type 0 where
  pub fits : k ≤ length out
  pub long : length out ≡ length out₀
  pub made : whole ≡ take k out ++ rest
  pub kept : drop k out ≡ drop k out₀

pub fronting_starts : (whole out : List ℕ) → Fronting whole whole out out 0
fronting_starts whole out = record { fits = omega arith; long = refl; made = refl; kept = refl }

pub fronting_on : (whole rest out₀ out : List ℕ) (k c : ℕ) → k < length out
    → Fronting whole (c ∷ rest) out₀ out k → Fronting whole rest out₀ (set out k c) (k + 1)
fronting_on whole rest out₀ out k c h w = record {
  fits = simp lib.ListN.length-set (omega arith);
  long = simp lib.ListN.length-set w.long;
  made = rw (add-one, take-suc-set out k c, append_assoc) w.made;
  kept = rw (drop-set-lt (k + 1) out k c (omega arith))
      (sym (drop-drop 1 k out) ∙ ap (drop 1) w.kept ∙ drop-drop 1 k out₀);
}

pub fronting_ends : (whole rest out₀ out : List ℕ) (k : ℕ) → Fronting whole rest out₀ out k
    → rest ≡ []
    → (k ≡ length whole) × (out ≡ fronted whole out₀)
fronting_ends whole rest out₀ out k w e =
    let m : whole ≡ take k out = w.made ∙ ap (λ r. take k out ++ r) e ∙ append-nil (take k out) in
    let n : k ≡ length whole = sym (ap length m ∙ length-take-le k out w.fits) in
    (n, sym (take-append-drop k out) ∙ rw (← n, m, w.kept))
