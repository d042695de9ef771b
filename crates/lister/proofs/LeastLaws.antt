-- Laws of how long a unit's line is at the least and at the most, by its numbers.
use Prim.Native.Nat.{ℕ, ◌+◌, ◌≤◌}
use native.Mathlib.Omega.{arith}
use lib.Dec.{lit≤}
use lib.IntN.{ℤ}
use lib.ListN.{length, length-append}
use Rattle.rules.specs.declared.Standing.{Standing}
use Rattle.rules.specs.declared.Standing.TheVariants.{Live, Default}
use Rattle.rules.specs.Text.{text, words, integer}
use Rattle.rules.specs.Listing.{standing_word, member_line}
use Rattle.listing.specs.declared.Amounts.{Amounts}
use Rattle.listing.specs.Lines.{unit_of}
use Rattle.listing.proofs.PiecesLaws.{digits_some, integer_most}

standing_least : (standing : Standing) → 4 ≤ length (standing_word standing)
unfolding text
standing_least Live = lit≤ tt
standing_least (Default why) = lit≤ tt

-- its five numbers, and 17 bytes beside them
pub unit_least : (number : ℕ) (standing : Standing) (a : Amounts) →
    17
    + (length (integer a.performance) + length (integer a.factor))
    + (length (integer a.payment) + length (integer a.used) + length (integer a.unused))
    ≤ length (member_line (unit_of number standing a))
unfolding words text
unit_least number standing a =
    simp length-append (omega (arith, standing_least standing, digits_some 19 number))

-- a number with its sign is short
pub integer_short : (x : ℤ) → length (integer x) ≤ 21
unfolding text
integer_short x = omega (arith, integer_most x)
