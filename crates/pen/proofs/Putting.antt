-- The loop that puts bytes: the first i of them stand in the buffer.
use Prim.Native.Nat.{ℕ, ◌+◌, ◌-◌, ◌≤◌, ◌<◌}
use mathlib.Core.Path.{◌≡◌, refl, sym, ◌∙◌}
use mathlib.Core.Bool.{true, false}
use mathlib.Core.List.{List, [], ◌∷◌, ◌++◌}
use native.Mathlib.Numerals.{add-one}
use native.Mathlib.Omega.{arith}
use lib.ListN.{length, take, set, get_or, length-set}
use lib.Seq.{set_split, take-suc, take_all}
use lib.Dec.{leb}
use borrow.Author.Tests.{le-leb, lt-leb}
use native.Mathlib.Decide.{dec_le}
use Rattle.pen.specs.Put.{over, fits, wrote, behind, Put}
use Rattle.pen.specs.Chain.{Wrote, wrote_none, wrote_then}

pub put_whole : {out : List ℕ} {at : ℕ} {s after : List ℕ} {k : ℕ} → Wrote out at s after k
    → Put out at s after k
unfolding wrote behind fits
put_whole {out} {at} {s} w =
    let e : leb (at + length s) (length out) ≡ true = le-leb _ _ w.room in
    record { bytes = rw e w.bytes; place = rw e w.place }

pub wrote_one : (out : List ℕ) (at b : ℕ) → at < length out
    → Wrote out at (b ∷ []) (set out at b) (at + 1)
unfolding over
wrote_one out at b h =
    record { room = omega arith; bytes = rw (add-one at) (set_split out at b h); place = refl }

pub record Putting (out₀ : List ℕ) (at : ℕ) (s out : List ℕ) (i : ℕ) : Type 0 where
  pub passed : i ≤ length s
  pub room : at + length s ≤ length out₀
  pub done : Wrote out₀ at (take i s) out (at + i)
  pub long : length out ≡ length out₀

pub putting_starts : (out : List ℕ) (at : ℕ) (s : List ℕ) → at + length s ≤ length out
    → Putting out at s out 0
putting_starts out at s h =
    record {
      passed = omega arith;
      room = h;
      done = rw native.Mathlib.Nat.add-zero
          (wrote_none out at (omega arith));
      long = refl;
    }

module _ {out₀ : List ℕ} {at : ℕ} {s out : List ℕ} {i : ℕ} (p : Putting out₀ at s out i) where
  pub putting_on : i < length s → Putting out₀ at s (set out (at + i) (get_or s i 0)) (i + 1)
  putting_on h =
      let one = wrote_one out (at + i) (get_or s i 0) (omega (arith, p.room, p.long)) in
      let e : take i s ++ (get_or s i 0 ∷ []) ≡ take (i + 1) s =
      rw (add-one i) (sym (take-suc s i 0 h)) in
      record {
        passed = omega arith;
        room = p.room;
        done = rw e at (rw (native.Mathlib.Nat.add_assoc at i 1) at (wrote_then p.done one));
        long = length-set out (at + i) (get_or s i 0) ∙ p.long;
      }

  pub putting_ends : length s ≤ i → Put out₀ at s out (at + i)
  putting_ends h = put_whole (rw (take_all i s h) at p.done)

pub room-none : (size at n : ℕ) → size < n → false ≡ leb (at + n) size
room-none size at n h = sym (lt-leb (at + n) size (omega arith))

pub room-some : (size at n : ℕ) → n ≤ size → leb at (size - n) ≡ leb (at + n) size
room-some size at n h = go (dec_le at (size - n))
  where
    go : Dec (at ≤ size - n) → leb at (size - n) ≡ leb (at + n) size
    go (yes g) = le-leb at (size - n) g ∙ sym (le-leb (at + n) size (omega arith))
    go (no g) = lt-leb at (size - n) (omega arith) ∙ sym (lt-leb (at + n) size (omega arith))
