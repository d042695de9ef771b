-- The members' numbers of one field, in roster order, then the residual's (01, Members): what the functions that gather them promise each other.
use Rattle.std.specs.Prelude.{◌≡◌, Bool, cond, List, [], ◌∷◌, ◌++◌, ℕ, ◌+◌, ◌<◌, ◌≤◌, ℤ, length, set}
use Rattle.integers.specs.Bounds.{Within}
use Rattle.rules.specs.declared.Direction.{Direction}
use Rattle.rules.specs.Quantities.{regions, unit_default_limit}
use Rattle.rules.specs.Bytes.{bit}
use Rattle.interval.specs.Lent.{Lent, in_row}
use Rattle.kept.specs.Kept.{region_of, row_member}
use Rattle.answer.specs.declared.Field.{Field}
use Rattle.answer.specs.declared.Member.{Member}
use Rattle.answer.specs.Made.{picked, field_of, RowThere}
use Rattle.answer.specs.Residual.{RegionsWithin, residual_to}
use Rattle.answer.specs.Lists.{headed, gathered}

-- ---- is a row one of the requirement's, and its number
abbrev pub meant : ℕ → Lent → ℕ → Bool
meant set l i = bit (region_of l i) set

abbrev pub row_number : Field → Direction → Lent → ℕ → ℤ
row_number f d l i = field_of f (row_member l d i)

pub record RowPut (f : Field) (d : Direction) (s row at : ℕ) (l : Lent) (old : List ℤ) (r : ℕ) (new : List ℤ) : Type 0 where
  pub many : r ≡ cond (meant s l row) (at + 1) at
  pub put : new ≡ cond (meant s l row) (set old at (row_number f d l row)) old

-- ---- those of the rows
pub record RowsThere (units : ℕ) (l : Lent) : Type 0 where
  pub there : (i : ℕ) → i < units → RowThere i l

abbrev pub row_numbers : Field → Direction → ℕ → ℕ → Lent → List ℤ
row_numbers f d set units l = gathered (meant set l) (row_number f d l) units

pub record RowsPut (f : Field) (d : Direction) (s units : ℕ) (l : Lent) (old : List ℤ) (r : ℕ) (new : List ℤ) : Type 0 where
  pub few : r ≤ units
  pub many : r ≡ length (row_numbers f d s units l)
  pub put : new ≡ headed (row_numbers f d s units l) old

-- ---- of all members
-- what the tests show of rows and figures
pub record InRange (units : ℕ) (l : Lent) : Type 0 where
  pub rows : RowsThere units l
  pub regions : RegionsWithin units l
  pub defaults : (i f : ℕ) → i < units → f < 6 → Within unit_default_limit (in_row l.rows i (2 + f))

-- the members' numbers can be listed: the rows and the residual are there, the set is of the five regions, which a row that is passed over is not of, and the
-- column takes one number more than there are units
pub record MembersThere (units : ℕ) (d : Direction) (set : ℕ) (l : Lent) (residual : Member) (column_length : ℕ) : Type 0 where
  pub tested : InRange units l
  pub last : residual ≡ residual_to units l d set regions
  pub five : set ≤ 31
  pub column : units < column_length

module _ (f : Field) (units : ℕ) (d : Direction) (set : ℕ) (l : Lent) where
  abbrev pub numbers : List ℤ
  numbers = row_numbers f d set units l ++ (picked f (residual_to units l d set regions) ∷ [])

  pub record Listed (old : List ℤ) (r : ℕ) (new : List ℤ) : Type 0 where
    pub many : r ≡ length numbers
    pub column : new ≡ headed numbers old
