-- One declaration more: what becomes of the arrays and of the counts, and what it is in the draft.
use Rattle.std.specs.Prelude.{
  ℕ,
  ◌+◌,
  ◌-◌,
  ◌*◌,
  ◌≤◌,
  ◌<◌,
  ◌≡◌,
  cond,
  List,
  length,
  get_or,
  set,
  eqb,
  ltb,
  leb,
}
use Rattle.grammar.specs.Rows.{field_at}
use Rattle.grammar.specs.Draft.{
  Draft,
  unjoined,
  add_unit,
  add_output,
  add_input,
  add_feed,
  add_join,
}
use Rattle.notes.specs.Layout.{outputs_base, inputs_base, lines_base, owners_base, kinds_base}
use Rattle.notes.specs.Layout.{sources_base, feeds_base, fed_base, places_size, slots_size}
use Rattle.notes.specs.Listed.{listed}
use Rattle.notes.specs.Ranks.{Ranked, Between}
use Rattle.notes.specs.Notes.{draft_of}
use Rattle.notes.specs.declared.Counts.{Counts}
use Rattle.notes.specs.declared.Entry.{Entry}

-- from place a up to place b both lists have the same numbers
pub record Kept (a b : ℕ) (xs ys : List ℕ) : Type 0 where
  pub at : (i : ℕ) → a ≤ i → i < b → get_or ys i 0 ≡ get_or xs i 0

-- slots r are slots s with v put in at place a: what stood there, up to place e, is one further
pub record PutIn (s r : List ℕ) (a e v : ℕ) : Type 0 where
  pub long : length r ≡ length s
  pub here : get_or r a 0 ≡ v
  pub moved : (i : ℕ) → a ≤ i → i < e → get_or r (i + 1) 0 ≡ get_or s i 0
  pub below : (i : ℕ) → i < a → get_or r i 0 ≡ get_or s i 0
  pub above : (i : ℕ) → e < i → get_or r i 0 ≡ get_or s i 0

-- q and r, which were p and s, hold one name more behind n names from name b on: place a, owner u
pub record NameNoted (t p s q r : List ℕ) (b n a u : ℕ) : Type 0 where
  pub place : get_or q (b + n) 0 ≡ a
  pub owner : get_or r (owners_base + (b + n)) 0 ≡ u
  pub ranked : Ranked t q r b (n + 1)
  pub places-long : length q ≡ length p
  pub slots-long : length r ≡ length s
  pub places-kept : (x e : ℕ) → ((i : ℕ) → x ≤ i → i < e → i ≡ b + n → ⊥) → Kept x e p q
  pub slots_kept : (x e : ℕ) → ((i : ℕ) → x ≤ i → i < e → b ≤ i → i ≤ b + n → ⊥)
      → ((i : ℕ) → x ≤ i → i < e → i ≡ owners_base + (b + n) → ⊥) → Kept x e s r

-- nothing is declared
abbrev pub no_entry : Entry
no_entry = record { what = 0; owner = 0; rank = 0; kind = 0; input = 0; output = 0; begin = 0 }

-- ---- the arrays and the counts after it

-- the same as a list: what stands at place i once v was put in at place a
unfoldable pub shifted : List ℕ → ℕ → ℕ → ℕ → ℕ → ℕ
shifted s a e v i =
    cond (ltb i a) (get_or s i 0) (cond (eqb i a) v
    (cond (leb i e) (get_or s (i - 1) 0) (get_or s i 0)))

unfoldable pub put_in : List ℕ → ℕ → ℕ → ℕ → List ℕ
put_in s a e v = listed (shifted s a e v) (length s)

-- the name of an entry behind n names from name b on
unfoldable pub named_places : List ℕ → ℕ → ℕ → Entry → List ℕ
named_places p b n e = set p (b + n) e.begin

unfoldable pub named_slots : List ℕ → ℕ → ℕ → Entry → List ℕ
named_slots s b n e = put_in (set s (owners_base + (b + n)) e.owner) (b + e.rank) (b + n) n

-- input x, on line k
unfoldable pub input_places : List ℕ → ℕ → Entry → ℕ → List ℕ
input_places p x e k = set (named_places p inputs_base x e) (lines_base + x) k

unfoldable pub input_slots : List ℕ → ℕ → Entry → List ℕ
input_slots s x e =
    set (set (named_slots s inputs_base x e) (kinds_base + x) e.kind) (sources_base + x) 255

-- feed k
unfoldable pub feed_slots : List ℕ → ℕ → Entry → List ℕ
feed_slots s k e = set (set s (feeds_base + 2 * k) e.input) (fed_base + 2 * k) e.output

unfoldable pub join_slots : List ℕ → Entry → List ℕ
join_slots s e = set s (sources_base + e.input) e.output

abbrev pub more_units : Counts → Counts
more_units c =
    record { units = c.units + 1; outputs = c.outputs; inputs = c.inputs; feeds = c.feeds }

abbrev pub more_outputs : Counts → Counts
more_outputs c =
    record { units = c.units; outputs = c.outputs + 1; inputs = c.inputs; feeds = c.feeds }

abbrev pub more_inputs : Counts → Counts
more_inputs c =
    record { units = c.units; outputs = c.outputs; inputs = c.inputs + 1; feeds = c.feeds }

abbrev pub more_feeds : Counts → Counts
more_feeds c =
    record { units = c.units; outputs = c.outputs; inputs = c.inputs; feeds = c.feeds + 1 }

-- ---- by what is declared: 1 a unit, 2 an output, 3 an input, 4 a feed, 5 a join

unfoldable pub counts_with : Counts → Entry → Counts
counts_with c e =
    cond (eqb e.what 1) (more_units c)
    (cond (eqb e.what 2) (more_outputs c)
    (cond (eqb e.what 3) (more_inputs c)
    (cond (eqb e.what 4) (more_feeds c) c)))

-- k is the line
unfoldable pub places_with : List ℕ → Counts → Entry → ℕ → List ℕ
places_with p c e k =
    cond (eqb e.what 1) (named_places p 0 c.units e)
    (cond (eqb e.what 2) (named_places p outputs_base c.outputs e)
    (cond (eqb e.what 3) (input_places p c.inputs e k) p))

unfoldable pub slots_with : List ℕ → Counts → Entry → List ℕ
slots_with s c e =
    cond (eqb e.what 1) (named_slots s 0 c.units e)
    (cond (eqb e.what 2) (named_slots s outputs_base c.outputs e)
    (cond (eqb e.what 3) (input_slots s c.inputs e)
    (cond (eqb e.what 4) (feed_slots s c.feeds e)
    (cond (eqb e.what 5) (join_slots s e) s))))

-- places q, slots r and counts m are those named
pub record Became (q r : List ℕ) (m : Counts) (q₁ r₁ : List ℕ) (m₁ : Counts) : Type 0 where
  pub places : q ≡ q₁
  pub slots : r ≡ r₁
  pub counts : m ≡ m₁

-- there is room for what is declared
pub record Room (p s : List ℕ) (c : Counts) (e : Entry) : Type 0 where
  pub places-long : length p ≡ places_size
  pub slots-long : length s ≡ slots_size
  pub unit : e.what ≡ 1 → (c.units < 32) × (e.rank ≤ c.units)
  pub output : e.what ≡ 2 → (c.outputs < 96) × (e.rank ≤ c.outputs)
  pub input : e.what ≡ 3 → (c.inputs < 96) × (e.rank ≤ c.inputs)
  pub feed : e.what ≡ 4 → c.feeds < 128
  pub join : e.what ≡ 5 → e.input < 96

-- ---- what is declared on line k, and the draft with it; the notes stand for the draft without it
pub data Declares (t p s : List ℕ) (c : Counts) (k : ℕ) : Entry → Draft → Type 0 where
  unit : (e : Entry) → e.what ≡ 1 → e.owner ≡ 0 → c.units < 32
      → Between t p s 0 c.units 0 (field_at t e.begin) e.rank e.rank
      → Declares t p s c k e (add_unit (draft_of t p s c) (field_at t e.begin))
  output : (e : Entry) → e.what ≡ 2 → c.outputs < 96
      → Between t p s outputs_base c.outputs e.owner (field_at t e.begin) e.rank e.rank
      → Declares t p s c k e (add_output (draft_of t p s c)
      (record { owner = e.owner; name = field_at t e.begin }))
  input : (e : Entry) → e.what ≡ 3 → c.inputs < 96
      → Between t p s inputs_base c.inputs e.owner (field_at t e.begin) e.rank e.rank
      → Declares t p s c k e (add_input (draft_of t p s c)
      (record {
        owner = e.owner;
        name = field_at t e.begin;
        kind = e.kind;
        source = unjoined;
        line = k;
      }))
  feed : (e : Entry) → e.what ≡ 4 → e.rank ≡ 0 → c.feeds < 128
      → Declares t p s c k e (add_feed (draft_of t p s c)
      (record { input = e.input; output = e.output }))
  join : (e : Entry) → e.what ≡ 5 → e.rank ≡ 0 → e.input < c.inputs
      → Declares t p s c k e (add_join (draft_of t p s c) e.input e.output)
