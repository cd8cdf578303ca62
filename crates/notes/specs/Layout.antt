-- Where the parts of the notes begin, and how long the arrays are: no other file has these numbers.
-- places: where each unit's name begins, each output's, each input's; then each input's line.
-- slots: the names' numbers by rank, parted alike; each name's owner; kinds, sources, feeds.
use Rattle.std.specs.Prelude.{ℕ}

-- ---- names

abbrev pub outputs_base : ℕ
outputs_base = 32

abbrev pub inputs_base : ℕ
inputs_base = 128

-- how many there can be
abbrev pub names_size : ℕ
names_size = 224

-- ---- places

abbrev pub lines_base : ℕ
lines_base = 224

abbrev pub places_size : ℕ
places_size = 320

-- ---- slots

abbrev pub owners_base : ℕ
owners_base = 224

-- the owners of the outputs and of the inputs among them
abbrev pub output_owners : ℕ
output_owners = 256

abbrev pub input_owners : ℕ
input_owners = 352

abbrev pub kinds_base : ℕ
kinds_base = 448

abbrev pub sources_base : ℕ
sources_base = 544

-- the input of the first feed, and its output
abbrev pub feeds_base : ℕ
feeds_base = 640

abbrev pub fed_base : ℕ
fed_base = 641

abbrev pub slots_size : ℕ
slots_size = 896
