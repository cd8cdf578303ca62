-- No name is declared twice: each unit, output and input is found by its name at its own number.
use Rattle.std.specs.Prelude.{ℕ, ◌≡◌, Bool, true, ◌&&◌, List, [], map, eqb}
use Rattle.std.proofs.lemmas.List.{map-append, length-map}
use Rattle.std.proofs.Math.Dec.{eqb_refl}
use Rattle.search.specs.Truth.{is_true, and_T}
use Rattle.grammar.specs.Words.{same}
use Rattle.grammar.specs.Same.{same_self}
use Rattle.grammar.specs.Rows.{word}
use Rattle.grammar.specs.Opening.{Row}
use Rattle.grammar.specs.Draft.{Draft, Output, Input, no_input, unit_named, output_named}
use Rattle.grammar.specs.Draft.{add_unit, add_output, add_input, add_feed, add_join}
use Rattle.reading.specs.Proper.{no_output}
use Rattle.reading.specs.Takes.{takes-unit, takes-output, takes-input}
use Rattle.reading.specs.Takes.{takes-feed, takes-join, Takes, Runs, ends, goes_on}
use Rattle.reading.specs.Found.{Once, once_more}
use Rattle.reading.specs.Declared.{bare, bare-join, named-bare}

abbrev pub same_name : List ℕ → List ℕ → Bool
same_name v w = same w v

abbrev pub same_output : Output → Output → Bool
same_output o q = eqb q.owner o.owner && same q.name o.name

abbrev pub same_input : Input → Input → Bool
same_input i j = eqb j.owner i.owner && same j.name i.name

self : (u : ℕ) (w : List ℕ) → eqb u u && same w w ≡ true
self u w = is_true (eqb u u && same w w) (and_T (eqb u u) (same w w) (eqb_refl u) (same_self w))

pub units-once : {d last : Draft} {k : ℕ} {fs : List Row} → Runs d k fs last
    → Once same_name [] d.units → Once same_name [] last.units
unfolding unit_named add_unit add_output add_input add_feed add_join
units-once ends h = h
units-once {d} (goes_on {k = k} {f = f} t r) h = units-once r (step t)
  where
    step : {e : Draft} → Takes d k f e → Once same_name [] e.units
    step (takes-unit w n) = once_more same_name [] d.units _ h n (is_true _ (same_self _))
    step (takes-output w u n) = h
    step (takes-input w u n) = h
    step (takes-feed w u x y) = h
    step (takes-join w u y v x s) = h

pub outputs-once : {d last : Draft} {k : ℕ} {fs : List Row} → Runs d k fs last
    → Once same_output no_output d.outputs → Once same_output no_output last.outputs
unfolding output_named add_unit add_output add_input add_feed add_join
outputs-once ends h = h
outputs-once {d} (goes_on {k = k} {f = f} t r) h = outputs-once r (step t)
  where
    step : {e : Draft} → Takes d k f e → Once same_output no_output e.outputs
    step (takes-unit w n) = h
    step (takes-output w u n) =
        once_more same_output no_output d.outputs _ h n
        (self (unit_named d (word f 1)) (word f 2))
    step (takes-input w u n) = h
    step (takes-feed w u x y) = h
    step (takes-join w u y v x s) = h

pub inputs-once : {d last : Draft} {k : ℕ} {fs : List Row} → Runs d k fs last
    → Once same_input no_input (map bare d.inputs)
    → Once same_input no_input (map bare last.inputs)
unfolding add_unit add_output add_input add_feed
inputs-once ends h = h
inputs-once {d} (goes_on {k = k} {f = f} t r) h = inputs-once r (step t)
  where
    step : {e : Draft} → Takes d k f e → Once same_input no_input (map bare e.inputs)
    step (takes-unit w n) = h
    step (takes-output w u n) = h
    step (takes-input w u n) = rw (map-append bare d.inputs)
        (once_more same_input no_input (map bare d.inputs) _ h
        (rw (length-map d.inputs bare, named-bare d (unit_named d (word f 1)) (word f 2)) n)
        (self (unit_named d (word f 1)) (word f 2)))
    step (takes-feed w u x y) = h
    step (takes-join w u y v x s) = rw (bare-join d) h
