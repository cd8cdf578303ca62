-- The check on examples, computed: a definition that says something else makes one false.
use Rattle.std.specs.Prelude.{◌≡◌, refl, [], ◌∷◌}
use Rattle.search.specs.Every.{every, some}
use Rattle.table.specs.Check.{counts_in, all_below, is_pair, feed_known, feed_again}
use Rattle.table.specs.Check.{feeds_from, checked}
use Rattle.table.specs.Layout.{layout}
use Rattle.table.specs.Chain.{chain}
use Rattle.table.specs.Tables.{A, C_with}

-- all that a check is computed with: `unfolding words` opens each of them
unfoldable pub words : Unit {0}
unfolding every some layout chain counts_in all_below is_pair feed_known feed_again feeds_from
words = tt

pub checks :
    -- A is taken; U of 32 is, 33 is 2
    (checked A ≡ record { number = 0; place = 6 })
    × (checked (32 ∷ 0 ∷ 0 ∷ 0 ∷ []) ≡ record { number = 0; place = 32 })
    × (checked (33 ∷ 0 ∷ 0 ∷ 0 ∷ []) ≡ record { number = 2; place = 0 })
    -- C with feed (0,1), whose owners differ, and with feed (1,1) given twice
    × (checked (C_with 1 (0 ∷ 1 ∷ [])) ≡ record { number = 6; place = 0 })
    × (checked (C_with 2 (1 ∷ 1 ∷ 1 ∷ 1 ∷ [])) ≡ record { number = 7; place = 0 })
unfolding words
checks = (refl, refl, refl, refl, refl)
