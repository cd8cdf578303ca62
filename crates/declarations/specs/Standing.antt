-- At each place that is noted stands the line with that number.
use Prim.Native.Nat.{ℕ, zero, suc, ◌+◌, ◌<◌, ◌≤◌}
use Rattle.std.specs.Prelude.{◌≡◌, refl, Bool, cond, take, drop}
use Rattle.std.proofs.Math.Path.{ap, sym}
use Rattle.std.proofs.Common.{◌∙◌, arith, get_or-take, take_all, drop_of_length-le, le-ltb, lt-ltb}
use Rattle.std.proofs.Math.Bool.{true, false}
use mathlib.Core.List.{List, [], ◌∷◌}
use Rattle.std.proofs.Math.Decide.{dec_le}
use Rattle.std.proofs.Math.ListN.{length, get_or, length-take}
use Rattle.grammar.specs.Rows.{rows, row_at}
use Rattle.fields.specs.Spans.{span, fields_at}
use Rattle.fields.specs.Promise.{fields_told}
use Rattle.fields.specs.Parts.{next-line}
use Rattle.fields.specs.Places.{rows_none}
use Rattle.grammar.specs.Opening.{lines_of}
use Rattle.declarations.specs.Noted.{opens, told, declared, begins_of, begins_from}

module _ (w t : List ℕ) (d : ℕ) (small : length t ≤ 65535) (past : length t ≤ d) where
  no_row : row_at t d ≡ []
  unfolding row_at rows
  no_row = rw (drop_of_length-le t past)

  -- a line of the text and the lines below it
  row_first :
      (a : ℕ) (f : List (List ℕ)) (fs : List (List (List ℕ))) → rows (drop a t) ≡ f ∷ fs
      → row_at t a ≡ f
  unfolding row_at
  row_first a f fs e = ap (λ r. get_or r 0 []) e

  row-some :
      (a : ℕ) (f : List (List ℕ)) (fs : List (List (List ℕ))) → rows (drop a t) ≡ f ∷ fs →
      0 < length (row_at t a)
  row-some a f fs e = go (row_at t a) refl
    where
      go : (r : List (List ℕ)) → row_at t a ≡ r → 0 < length r
      go [] n = absurd (omega (arith, ap length (sym (rows_none t a n) ∙ e)))
      go (g ∷ gs) n = omega arith

  rows-below :
      (a : ℕ) (f : List (List ℕ)) (fs : List (List (List ℕ))) → rows (drop a t) ≡ f ∷ fs →
      rows (drop (a + span f) t) ≡ fs
  rows-below a f fs e =
      let s = row-some a f fs e in
      let n : (fields_at t a).next ≡ a + span f =
      next-line t a small s ∙ ap (λ r. a + span r) (row_first a f fs e) in
      ap (λ k. rows (drop k t)) (sym n) ∙ ap (drop 1) (sym (fields_told t a small s).rest ∙ e)

  stands :
      (fs : List (List (List ℕ))) (a k : ℕ) → rows (drop a t) ≡ fs →
      row_at t (get_or (begins_of w a fs) k d) ≡ get_or (lines_of fs w) k []
  unfolding begins_of lines_of
  stands [] a k e = no_row
  stands (f ∷ fs) a k e =
      go (opens w f) k (stands fs (a + span f) k (rows-below a f fs e))
      (λ j. stands fs (a + span f) j (rows-below a f fs e))
    where
      go :
          (b : Bool) (k : ℕ) →
          row_at t (get_or (begins_of w (a + span f) fs) k d) ≡ get_or (lines_of fs w) k [] →
          ((j : ℕ) → row_at t (get_or (begins_of w (a + span f) fs) j d)
          ≡ get_or (lines_of fs w) j []) →
          row_at t (get_or (cond b (a ∷ begins_of w (a + span f) fs) (begins_of w (a + span f) fs))
          k d)
          ≡ get_or (cond b (f ∷ lines_of fs w) (lines_of fs w)) k []
      go true zero same ih = row_first a f fs e
      go true (suc j) same ih = ih j
      go false k same ih = same

  -- the line at the k-th place is the k-th line that opens with w; past the last there is none
  line-stands : (k : ℕ) → row_at t (get_or (begins_from w t 0) k d)
      ≡ get_or (lines_of (told t) w) k []
  unfolding begins_from told
  line-stands k = rw (le-ltb 65535 (length t) small) (stands (rows t) 0 k refl)

many :
    (w : List ℕ) (fs : List (List (List ℕ))) (a : ℕ)
    → length (begins_of w a fs) ≡ length (lines_of fs w)
unfolding begins_of lines_of
many w [] a = refl
many w (f ∷ fs) a = go (opens w f) (many w fs (a + span f))
  where
    go :
        (b : Bool) → length (begins_of w (a + span f) fs) ≡ length (lines_of fs w) →
        length (cond b (a ∷ begins_of w (a + span f) fs) (begins_of w (a + span f) fs))
        ≡ length (cond b (f ∷ lines_of fs w) (lines_of fs w))
    go true ih = ap suc ih
    go false ih = ih

begins-many : (w t : List ℕ) → length (begins_from w t 0) ≡ length (lines_of (told t) w)
unfolding begins_from told lines_of
begins-many w t = elim (dec_le (length t) 65535) [
  | yes h ↦ rw (le-ltb 65535 (length t) h) (many w (rows t) 0)
  | no h ↦ rw (lt-ltb 65535 (length t) (omega arith))
]

any_default : (xs : List ℕ) (k a b : ℕ) → k < length xs → get_or xs k a ≡ get_or xs k b
any_default [] k a b h = absurd (omega arith)
any_default (x ∷ xs) zero a b h = refl
any_default (x ∷ xs) (suc k) a b h = any_default xs k a b (omega arith)

-- ---- the first n places and the first n lines
module _ (w : List ℕ) (n : ℕ) (t : List ℕ) where
  -- where there are no more than n, they are all the lines that open with w
  pub declared-all : length t ≤ 65535 → length (lines_of (rows t) w) ≤ n
      → declared w n t ≡ lines_of (rows t) w
  unfolding declared told
  declared-all h l = rw (le-ltb 65535 (length t) h) (take_all n (lines_of (rows t) w) l)

  pub declared-many : length (take n (begins_from w t 0)) ≡ length (declared w n t)
  unfolding declared
  declared-many = rw (length-take, length-take, begins-many w t)

  module _ (k : ℕ) (h : k < length (take n (begins_from w t 0))) where
    within : (k < n) × (k < length (begins_from w t 0))
    within =
        let l = length-take n (begins_from w t 0) in (omega (arith, l), omega (arith, l))

    pub declared-small : length t ≤ 65535
    unfolding begins_from
    declared-small = elim (dec_le (length t) 65535) [
      | yes s ↦ s
      | no s ↦
          let z : length (begins_from w t 0) ≡ 0 = rw (lt-ltb 65535 (length t) (omega arith)) in
          absurd (omega (arith, within.1))
    ]

    pub declared-row : row_at t (get_or (take n (begins_from w t 0)) k 0)
        ≡ get_or (declared w n t) k []
    unfolding declared
    declared-row =
        ap (row_at t)
        (get_or-take n (begins_from w t 0) k 0 within.0
        ∙ any_default (begins_from w t 0) k 0 (length t) within.1)
        ∙ line-stands w t (length t) declared-small (omega arith) k
        ∙ sym (get_or-take n (lines_of (told t) w) k [] within.0)
