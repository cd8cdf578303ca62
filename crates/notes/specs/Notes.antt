-- How the arrays of notes stand for a draft.
use Rattle.std.specs.Prelude.{ℕ, ◌+◌, ◌*◌, ◌<◌, ◌≤◌, ◌≡◌, Bool, ◌&&◌, List, length, get_or, eqb}
use Rattle.grammar.specs.Words.{same}
use Rattle.grammar.specs.Draft.{Draft, Output, Input, Feed}
use Rattle.notes.specs.Layout.{outputs_base, inputs_base, lines_base, owners_base}
use Rattle.notes.specs.Layout.{output_owners, input_owners, kinds_base, sources_base}
use Rattle.notes.specs.Layout.{feeds_base, fed_base, places_size, slots_size}
use Rattle.notes.specs.Listed.{listed}
use Rattle.notes.specs.Ranks.{name_at, Ranked}
use Rattle.notes.specs.declared.Counts.{Counts}

-- ---- what stands in the slots of one number

unfoldable pub output_at : List ℕ → List ℕ → List ℕ → ℕ → Output
output_at t p s y =
    record { owner = get_or s (output_owners + y) 0; name = name_at t p (outputs_base + y) }

unfoldable pub input_at : List ℕ → List ℕ → List ℕ → ℕ → Input
input_at t p s x =
    record {
      owner = get_or s (input_owners + x) 0;
      name = name_at t p (inputs_base + x);
      kind = get_or s (kinds_base + x) 0;
      source = get_or s (sources_base + x) 0;
      line = get_or p (lines_base + x) 0;
    }

unfoldable pub feed_at : List ℕ → ℕ → Feed
feed_at s k = record {
  input = get_or s (feeds_base + 2 * k) 0;
  output =
      get_or s (fed_base + 2 * k) 0;
}

-- the draft that the notes stand for
unfoldable pub draft_of : List ℕ → List ℕ → List ℕ → Counts → Draft
draft_of t p s c =
    record {
      units = listed (name_at t p) c.units;
      outputs = listed (output_at t p s) c.outputs;
      inputs = listed (input_at t p s) c.inputs;
      feeds = listed (feed_at s) c.feeds;
    }

-- what the notes keep: the arrays' sizes, the counts' limits, names that can be found
pub record Fit (t p s : List ℕ) (c : Counts) : Type 0 where
  pub places-long : length p ≡ places_size
  pub slots-long : length s ≡ slots_size
  pub units-most : c.units ≤ 32
  pub outputs-most : c.outputs ≤ 96
  pub inputs-most : c.inputs ≤ 96
  pub feeds-most : c.feeds ≤ 128
  pub units-ranked : Ranked t p s 0 c.units
  pub units-free : (i : ℕ) → i < c.units → get_or s (owners_base + i) 0 ≡ 0
  pub outputs-ranked : Ranked t p s outputs_base c.outputs
  pub inputs-ranked : Ranked t p s inputs_base c.inputs

-- the notes stand for that draft
pub record Stands (t p s : List ℕ) (c : Counts) (d : Draft) : Type 0 where
  pub fit : Fit t p s c
  pub is : draft_of t p s c ≡ d

-- name k is w, of owner u
unfoldable pub is_named : List ℕ → List ℕ → List ℕ → ℕ → List ℕ → ℕ → Bool
is_named t p s u w k = eqb (get_or s (owners_base + k) 0) u && same (name_at t p k) w

-- the same of the names from name b on
abbrev pub named : List ℕ → List ℕ → List ℕ → ℕ → ℕ → List ℕ → ℕ → Bool
named t p s b u w i = is_named t p s u w (b + i)

-- feed k is from input x to output y
unfoldable pub is_fed : List ℕ → ℕ → ℕ → ℕ → Bool
is_fed s x y k = eqb (get_or s (feeds_base + 2 * k) 0) x && eqb (get_or s (fed_base + 2 * k) 0) y

-- input x is not joined
unfoldable pub is_loose : List ℕ → ℕ → Bool
is_loose s x = eqb (get_or s (sources_base + x) 0) 255
