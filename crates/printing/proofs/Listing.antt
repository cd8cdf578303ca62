-- The loops over the calls: what is printed of those from place i on is to come.
use Prim.Native.Nat.{ℕ, ◌+◌, ◌-◌, ◌<◌, ◌≤◌}
use mathlib.Core.Path.{◌≡◌, refl, ap, sym, ◌∙◌}
use mathlib.Core.Bool.{true, false}
use mathlib.Core.List.{List, [], ◌++◌, append_assoc, append-nil}
use native.Mathlib.Numerals.{add-one}
use native.Mathlib.Omega.{arith}
use lib.ListN.{length, get_or, drop, length-append, drop_of_length-le}
use lib.Seq.{drop-cons}
use lib.Dec.{leb}
use borrow.Author.Tests.{le-leb, lt-leb}
use Rattle.pen.specs.Chain.{Wrote, wrote_none, wrote_then, wrote-long}
use Rattle.printing.specs.Entries.{entries}
use Rattle.printing.specs.Indexed.{entry_of, entries_of}

module _ (t cs : List ℕ) (i : ℕ) where
  one_entry :
      i < length cs →
      entries_of t i (drop i cs) ≡ entry_of t i (get_or cs i 0) ++ entries_of t (i + 1)
      (drop (i + 1) cs)
  unfolding entries
  one_entry h = rw (drop-cons cs i 0, add-one)

  no-entry : length cs ≤ i → entries_of t i (drop i cs) ≡ []
  unfolding entries
  no-entry h = rw (drop_of_length-le cs h)

-- ---- room for the lines

pub record Fitting (t cs : List ℕ) (room left i : ℕ) : Type 0 where
  pub passed : i ≤ length cs
  pub rest : room + length (entries_of t i (drop i cs)) ≡ left + length (entries_of t 0 cs)

pub fitting_starts : (t cs : List ℕ) (room : ℕ) → Fitting t cs room room 0
fitting_starts t cs room = record { passed = omega arith; rest = refl }

module _ {t cs : List ℕ} {room left i : ℕ} (g : Fitting t cs room left i) where
  module _ (n : ℕ) (h : i < length cs) (e : n ≡ length (entry_of t i (get_or cs i 0))) where
    next : room + (n + length (entries_of t (i + 1) (drop (i + 1) cs))) ≡ left
        + length (entries_of t 0 cs)
    next =
        omega (
          arith,
          g.rest,
          e,
          ap length (one_entry t cs i h),
          length-append (entry_of t i (get_or cs i 0)) (entries_of t (i + 1) (drop (i + 1) cs)),
        )

    pub fitting_on : n ≤ left → Fitting t cs room (left - n) (i + 1)
    fitting_on f = record { passed = omega arith; rest = omega (arith, next) }

    pub fitting_not : left < n → false ≡ leb (length (entries_of t 0 cs)) room
    fitting_not f = sym (lt-leb (length (entries_of t 0 cs)) room (omega (arith, next)))

  pub fitting_ends : length cs ≤ i → true ≡ leb (length (entries_of t 0 cs)) room
  fitting_ends h =
      sym (le-leb (length (entries_of t 0 cs)) room
      (omega (arith, g.rest, ap length (no-entry t cs i h))))

-- ---- the lines put

pub record Writing (t cs out₀ : List ℕ) (at : ℕ) (out : List ℕ) (end i : ℕ) : Type 0 where
  pub passed : i ≤ length cs
  pub done : List ℕ
  pub wrote : Wrote out₀ at done out end
  pub rest : done ++ entries_of t i (drop i cs) ≡ entries_of t 0 cs

pub writing-starts :
    (t cs out : List ℕ) (at : ℕ) → at + length (entries_of t 0 cs) ≤ length out
    → Writing t cs out at out at 0
writing-starts t cs out at h =
    record { passed = omega arith; done = []; wrote = wrote_none out at (omega arith); rest = refl }

module _ {t cs out₀ : List ℕ} {at : ℕ} {out : List ℕ} {end i : ℕ}
    (g : Writing t cs out₀ at out end i) where
  pub writing_long : length out ≡ length out₀
  writing_long = wrote-long g.wrote

  module _ (h : i < length cs) where
    more : (g.done ++ entry_of t i (get_or cs i 0)) ++ entries_of t (i + 1) (drop (i + 1) cs)
        ≡ entries_of t 0 cs
    more =
        append_assoc g.done (entry_of t i (get_or cs i 0)) (entries_of t (i + 1) (drop (i + 1) cs))
        ∙ ap (λ s. g.done ++ s) (sym (one_entry t cs i h)) ∙ g.rest

    pub writing-room :
        at + length (entries_of t 0 cs) ≤ length out₀
        → end + length (entry_of t i (get_or cs i 0)) ≤ length out
    writing-room room =
        omega (
          arith,
          room,
          writing_long,
          g.wrote.place,
          ap length more,
          length-append (g.done ++ entry_of t i (get_or cs i 0))
              (entries_of t (i + 1) (drop (i + 1) cs)),
          length-append g.done (entry_of t i (get_or cs i 0)),
        )

    pub writing-on :
        {after : List ℕ} {k : ℕ} → Wrote out end (entry_of t i (get_or cs i 0)) after k →
        Writing t cs out₀ at after k (i + 1)
    writing-on w =
        record {
          passed = omega arith;
          done = g.done ++ entry_of t i (get_or cs i 0);
          wrote = wrote_then g.wrote w;
          rest = more;
        }

  pub writing_ends : length cs ≤ i → Wrote out₀ at (entries_of t 0 cs) out end
  writing_ends h =
      let e : g.done ≡ entries_of t 0 cs =
      sym (append-nil g.done) ∙ ap (λ s. g.done ++ s) (sym (no-entry t cs i h)) ∙ g.rest in
      rw (← e) g.wrote
