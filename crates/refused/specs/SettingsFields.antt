-- The settings record (01, The book), at 56: a book that ends behind it. A record that is taken gives 1, since nothing follows it.
use Rattle.std.specs.Prelude.{refl, [], ◌∷◌}
use Rattle.books.specs.Computing.{computing}
use Rattle.books.specs.Told.{no}
use Rattle.refused.specs.Changed.{with, all_changed, Alone, Together}

-- u16 smoothing a, 1 to 10,000; u8 bad-frequency limit, 0 to 75; u8 bad-unit percent, 0 to 100; u32 interval number
pub lowest : Together 0 64 (no 1 1 0) (with 56 2 1 ∷ with 58 1 0 ∷ with 59 1 0 ∷ with 60 4 0 ∷ [])
unfolding computing all_changed
lowest = record { refusal_is = refl }

pub highest : Together 0 64 (no 1 1 0) (with 56 2 10_000 ∷ with 58 1 75 ∷ with 59 1 100 ∷ with 60 4 4_294_967_295 ∷ [])
unfolding computing all_changed
highest = record { refusal_is = refl }

pub smoothing : Alone 0 64 (no 6 1 0) (with 56 2 0 ∷ with 56 2 10_001 ∷ [])
unfolding computing
smoothing = record { refusals = refl }

pub limit_and_percent : Alone 0 64 (no 6 1 0) (with 58 1 76 ∷ with 58 1 255 ∷ with 59 1 101 ∷ with 59 1 255 ∷ [])
unfolding computing
limit_and_percent = record { refusals = refl }

-- a record cut short is refused with 1, whatever its bytes
pub cut_short : Alone 0 63 (no 1 1 0) (with 56 2 0 ∷ [])
unfolding computing
cut_short = record { refusals = refl }
