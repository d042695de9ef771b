-- Frequency records behind the first (01, The book), at 432, 1168 and 1536: a book that ends behind them.
use Rattle.std.specs.Prelude.{refl, [], ◌∷◌}
use Rattle.books.specs.Computing.{computing}
use Rattle.books.specs.Told.{no}
use Rattle.refused.specs.Changed.{with, Alone}

-- regions 0 to 4 in order
pub next_region : Alone 0 800 (no 71 2 0) (with 432 1 0 ∷ with 432 1 2 ∷ [])
unfolding computing
next_region = record { refusals = refl }

pub last_region : Alone 0 1_904 (no 71 5 0) (with 1_536 1 3 ∷ with 1_536 1 5 ∷ [])
unfolding computing
last_region = record { refusals = refl }

-- a spare quality bit alone, in a record whose last three points are bad
pub spare_bit_alone : Alone 0 1_536 (no 73 4 0) (with 1_179 1 8 ∷ [])
unfolding computing
spare_bit_alone = record { refusals = refl }
