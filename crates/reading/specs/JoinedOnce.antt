-- No input is joined twice: each line that joins is found by the input that it names.
use Rattle.std.specs.Prelude.{ℕ, zero, suc, ◌<◌, ◌≤◌, ◌≡◌, refl, List, [], ◌∷◌, length, get_or}
use Rattle.std.proofs.Common.{ap, sym, ◌∙◌, arith}
use Rattle.grammar.specs.Quoted.{ascii}
use Rattle.grammar.specs.Words.{same}
use Rattle.grammar.specs.Opening.{Row, lines_of}
use Rattle.grammar.specs.Draft.{Draft, unjoined, add_unit, add_output, add_feed}
use Rattle.reading.specs.Takes.{takes-unit, takes-output, takes-input}
use Rattle.reading.specs.Takes.{takes-feed, takes-join, Takes, Runs, ends, goes_on}
use Rattle.reading.specs.Joined.{join_input, join_output, source_at, first_more}
use Rattle.reading.specs.Joined.{none_more, source_more, source-joined, source-other}
use Rattle.reading.specs.Joined.{source_free, join-input-stays, outputs-more}

-- none of the lines joins input x
unfoldable NoneJoins : Draft → ℕ → List Row → Type 0
NoneJoins d x js = (i : ℕ) → i < length js → join_input d (get_or js i []) ≡ x → ⊥

none_first : (d : Draft) (x : ℕ) → NoneJoins d x (lines_of [] (ascii "join"))
unfolding NoneJoins lines_of
none_first d x i l e = absurd (omega arith)

none_joins : (d : Draft) (x : ℕ) (f : Row) (js : List Row) → (join_input d f ≡ x → ⊥)
    → NoneJoins d x js → NoneJoins d x (f ∷ js)
unfolding NoneJoins
none_joins d x f js n h zero l e = n e
none_joins d x f js n h (suc i) l e = h i (omega arith) e

-- an input that is joined is joined by no line below
not-again : {d last : Draft} {k : ℕ} {fs : List Row} → Runs d k fs last
    → (x : ℕ) → (source_at d x ≡ unjoined → ⊥) → NoneJoins last x (lines_of fs (ascii "join"))
unfolding same add_unit add_output add_feed
not-again ends x n = none_first _ x
not-again {d} (goes_on {last = last} {k = k} {f = f} {fs = fs} t r) x n = step t (not-again r x)
  where
    step : {e : Draft} → Takes d k f e
        → ((source_at e x ≡ unjoined → ⊥) → NoneJoins last x (lines_of fs (ascii "join")))
        → NoneJoins last x (lines_of (f ∷ fs) (ascii "join"))
    step (takes-unit w h) b = rw (none_more (ascii "join") _ _ _ w tt) (b n)
    step (takes-output w u h) b = rw (none_more (ascii "join") _ _ _ w tt) (b n)
    step (takes-input w u h) b =
        rw (none_more (ascii "join") _ _ _ w tt)
        (b (λ e. n (sym (source_more d _ refl x) ∙ e)))
    step (takes-feed w u y z) b = rw (none_more (ascii "join") _ _ _ w tt) (b n)
    step (takes-join w u y v z s) b =
        let j = join-input-stays (goes_on t r) f v z in
        let free = source_free d (join_input d f) (join_output d f) z s in
        let other : x ≡ join_input d f → ⊥ = λ e. n (ap (source_at d) e ∙ free) in
        rw (first_more (ascii "join") _ _ w)
        (none_joins last x f _ (λ e. other (sym e ∙ j))
        (b (λ e. n (sym (source-other d (join_input d f) (join_output d f) x other) ∙ e))))

-- no two of the lines join one input
unfoldable pub Apart : Draft → List Row → Type 0
Apart d js =
    (i j : ℕ) → i < j → j < length js → join_input d (get_or js i [])
    ≡ join_input d (get_or js j []) → ⊥

apart-first : (d : Draft) → Apart d (lines_of [] (ascii "join"))
unfolding Apart lines_of
apart-first d i j h l e = absurd (omega arith)

apart_more : (d : Draft) (f : Row) (js : List Row) → NoneJoins d (join_input d f) js → Apart d js
    → Apart d (f ∷ js)
unfolding Apart NoneJoins
apart_more d f js n a i zero h l e = absurd (omega arith)
apart_more d f js n a zero (suc j) h l e = n j (omega arith) (sym e)
apart_more d f js n a (suc i) (suc j) h l e = a i j (omega arith) (omega arith) e

pub joins_apart : {d last : Draft} {k : ℕ} {fs : List Row} → Runs d k fs last
    → length last.outputs ≤ 255 → Apart last (lines_of fs (ascii "join"))
unfolding same add_unit add_output add_feed
joins_apart ends m = apart-first _
joins_apart {d} (goes_on {last = last} {k = k} {f = f} {fs = fs} t r) m =
    step t r (joins_apart r m)
  where
    step : {e : Draft} → Takes d k f e → Runs e (suc k) fs last
        → Apart last (lines_of fs (ascii "join")) → Apart last (lines_of (f ∷ fs) (ascii "join"))
    step (takes-unit w h) c a = rw (none_more (ascii "join") _ _ _ w tt) a
    step (takes-output w u h) c a = rw (none_more (ascii "join") _ _ _ w tt) a
    step (takes-input w u h) c a = rw (none_more (ascii "join") _ _ _ w tt) a
    step (takes-feed w u y z) c a = rw (none_more (ascii "join") _ _ _ w tt) a
    step (takes-join w u y v z s) c a =
        let g = goes_on t r in
        let j = join-input-stays g f v z in
        let low : join_output d f < 255 = omega (arith, outputs-more g) in
        rw (first_more (ascii "join") _ _ w)
        (apart_more last f _
        (rw j (not-again c (join_input d f)
        (λ e. omega (arith, sym (source-joined d (join_input d f) (join_output d f) z) ∙ e))))
        a)
