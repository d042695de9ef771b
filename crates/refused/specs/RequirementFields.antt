-- The requirement records (01, The book), at 2648 and 2672, of a whole book: it is taken, which gives 0, or refused.
use Rattle.std.specs.Prelude.{refl, [], ◌∷◌}
use Rattle.integers.specs.Totals.{all}
use Rattle.books.specs.Computing.{computing}
use Rattle.books.specs.Told.{no}
use Rattle.refused.specs.Changed.{with, all_changed, Alone, Together, alone_later, together_later}
use Rattle.refused.specs.UnitsTaken.{units_taken}

-- u16 number, rising: 513 and 1027; u8 region set: bits 0 to 4, not empty; u8 direction, 0 or 1; u32 price, 0 to 10,000,000; u64 cost, 0 to
-- 1,000,000,000,000; u32 enabled and u32 used, 0 to 2,000,000 each
pub lowest :
    Together 2_648 2_696 (no 0 0 0)
    (with 2_648 2 0 ∷ with 2_650 1 1 ∷ with 2_651 1 0 ∷ with 2_652 4 0 ∷ with 2_656 8 0 ∷ with 2_664 4 0 ∷ with 2_668 4 0 ∷ with 2_672 2 1
    ∷ [])
unfolding computing all_changed
lowest = together_later units_taken refl refl

pub highest :
    Together 2_648 2_696 (no 0 0 0)
    (with 2_648 2 65_534 ∷ with 2_650 1 31 ∷ with 2_651 1 1 ∷ with 2_652 4 10_000_000 ∷ with 2_656 8 1_000_000_000_000 ∷ with 2_664 4 2_000_000
    ∷ with 2_668 4 2_000_000 ∷ with 2_672 2 65_535
    ∷ [])
unfolding computing all_changed
highest = together_later units_taken refl refl

pub not_rising : Alone 2_648 2_696 (no 10 2 0) (with 2_648 2 1_027 ∷ with 2_648 2 65_535 ∷ with 2_672 2 513 ∷ with 2_672 2 0 ∷ [])
unfolding computing all
not_rising = alone_later units_taken refl refl

pub set_and_direction :
    Alone 2_648 2_696 (no 10 1 0) (with 2_650 1 0 ∷ with 2_650 1 32 ∷ with 2_650 1 33 ∷ with 2_650 1 255 ∷ with 2_651 1 2 ∷ with 2_651 1 255 ∷ [])
unfolding computing all
set_and_direction = alone_later units_taken refl refl

pub price_and_cost :
    Alone 2_648 2_696 (no 10 1 0) (with 2_652 4 10_000_001 ∷ with 2_652 4 0x01000000 ∷ with 2_656 8 1_000_000_000_001 ∷ with 2_656 8 0x0100000000000000 ∷ [])
unfolding computing all
price_and_cost = alone_later units_taken refl refl

pub enabled_and_used :
    Alone 2_648 2_696 (no 10 1 0) (with 2_664 4 2_000_001 ∷ with 2_664 4 0x01000000 ∷ with 2_668 4 2_000_001 ∷ with 2_668 4 0x01000000 ∷ [])
unfolding computing all
enabled_and_used = alone_later units_taken refl refl

-- the last requirement's fields too, which asks for lower
pub last_fields :
    Alone 2_648 2_696 (no 10 2 0)
    (with 2_674 1 0 ∷ with 2_675 1 2 ∷ with 2_676 4 10_000_001 ∷ with 2_680 8 1_000_000_000_001 ∷ with 2_688 4 2_000_001 ∷ with 2_692 4 2_000_001 ∷ [])
unfolding computing all
last_fields = alone_later units_taken refl refl
