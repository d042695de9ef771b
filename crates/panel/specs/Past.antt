-- What the tests of a key press show, as what comes after them asks for it.
use Rattle.std.specs.Prelude.{◌≡◌, Bool, true, ◌&&◌, List, ℕ, ◌/◌, ◌≤◌, ◌<◌, length, get_or}
use Rattle.rules.specs.Bytes.{bit}
use Rattle.rules.specs.RequirementRecord.{set_fine}
use Rattle.rules.specs.Panel.{page_places}
use Rattle.interval.specs.declared.Tally.{Tally}
use Rattle.interval.specs.Tally.{in_range, answer_turn}
use Rattle.interval.specs.Lent.{Lent, figures_length}
use Rattle.panel.specs.Press.{Cents, press_fine, homes_fine, set_rows}

-- ---- the rows of the set's regions
-- is a row's region in the set?
abbrev pub of_set : ℕ → List ℕ → ℕ → Bool
of_set set homes row = bit (get_or homes row 0 / 2) set

-- homes of a roster that can be counted
pub record Homed (units : ℕ) (homes : List ℕ) : Type 0 where
  pub few : units ≤ 512
  pub long : units ≤ length homes
  pub fine : homes_fine units homes ≡ true

-- the row of such a member, or the number of units past the last
pub record RowFound (set units : ℕ) (homes : List ℕ) (member row : ℕ) : Type 0 where
  pub is : row ≡ get_or (set_rows set units homes) member units
  pub within : row ≤ units
  pub covered : row < units → of_set set homes row ≡ true

-- ---- a roster of which no row is refused, for a requirement of these regions
pub record RosterFine (t : Tally) (regions : ℕ) (l : Lent) : Type 0 where
  pub turn : (in_range t && answer_turn t) ≡ true
  pub set : set_fine regions ≡ true
  pub figures : figures_length ≤ length l.figures
  pub numbers : t.units ≤ length l.numbers
  pub homes : t.units ≤ length l.homes
  pub fine : press_fine t.interval t.units l.figures l.homes ≡ true

-- and columns and a text for every page
pub record Ready (t : Tally) (regions : ℕ) (l : Lent) (c : Cents) (text : ℕ) : Type 0 where
  pub roster : RosterFine t regions l
  pub payments : t.units < length c.payments
  pub used : t.units < length c.used
  pub unused : t.units < length c.unused
  pub room : page_places ≤ text
