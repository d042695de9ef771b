-- Units one after the other (01, The book), at 1904 and 2276: a record that is cut short, and numbers that do not rise.
use Rattle.std.specs.Prelude.{refl, [], ◌∷◌}
use Rattle.books.specs.Computing.{computing}
use Rattle.books.specs.Told.{no}
use Rattle.refused.specs.Changed.{with, all_changed, Alone, Together}

-- a record cut short is refused with 1, whatever its bytes
pub cut_short : Alone 0 2_275 (no 1 1 0) (with 1_906 1 5 ∷ [])
unfolding computing
cut_short = record { refusals = refl }

-- u16 unit number, rising: 258 and 772
pub not_rising : Alone 0 2_648 (no 9 2 0) (with 1_904 2 772 ∷ with 2_276 2 257 ∷ [])
unfolding computing
not_rising = record { refusals = refl }

-- every number of a field precedes 9, that of the last reading too
pub last_reading_first : Together 0 2_648 (no 84 2 75) (with 2_276 2 257 ∷ with 2_644 4 100_001 ∷ [])
unfolding computing all_changed
last_reading_first = record { refusal_is = refl }

-- a generation's bad point holds the value 0 as a load's does (UnitPoints)
pub bad_point : Together 0 2_648 (no 84 2 1) (with 2_336 1 254 ∷ [])
unfolding computing all_changed
bad_point = record { refusal_is = refl }
