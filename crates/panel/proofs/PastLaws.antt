-- Laws of what the tests show: the homes can be counted, and no row of the set's regions is refused.
use mathlib.Core.Path.{◌≡◌}
use mathlib.Core.Bool.{true, ◌&&◌}
use Prim.Native.Nat.{ℕ, ◌/◌, ◌≤◌, ◌<◌}
use native.Mathlib.Omega.{arith}
use lib.ListN.{length, get_or}
use borrow.Author.Tests.{le-leb, lt-ltb, ne_eqb}
use Rattle.integers.specs.Sums.{both}
use Rattle.integers.proofs.Sums.{every_at}
use Rattle.rules.specs.declared.Direction.{Direction}
use Rattle.rules.specs.declared.Direction.TheVariants.{Raise, Lower}
use Rattle.rules.specs.Quantities.{regions}
use Rattle.rules.specs.Refusals.{taken}
use Rattle.interval.specs.declared.Tally.{Tally}
use Rattle.interval.specs.Lent.{Lent, figures_length, of_interval}
use Rattle.kept.specs.Kept.{figure, row_standing}
use Rattle.kept.specs.Range.{from_0}
use Rattle.answer.specs.Made.{reliable_at}
use Rattle.answer.specs.declared.Row.TheVariants.{Unit}
use Rattle.answer.specs.Roster.{member_reply}
use Rattle.answer.proofs.TestedLaws.{units_few}
use Rattle.answer.proofs.RosterLaws.{set_five}
use Rattle.answer.proofs.UnitsHeld.{in_a_region}
use Rattle.panel.specs.Press.{reliability_fine, reliabilities_fine, homes_fine}
use Rattle.panel.specs.Past.{of_set, Homed, RosterFine}
use Rattle.panel.proofs.MembersLaws.{home_least}

module _ {t : Tally} {set : ℕ} {l : Lent} (h : RosterFine t set l) where
  own : (of_interval t.interval l.figures ≡ true) × ((reliabilities_fine l.figures && homes_fine t.units l.homes) ≡ true)
  own = both (of_interval t.interval l.figures) _ h.fine

  each : (reliabilities_fine l.figures ≡ true) × (homes_fine t.units l.homes ≡ true)
  each = both (reliabilities_fine l.figures) _ own.1

  pub homed : Homed t.units l.homes
  homed = record { few = units_few t h.turn; long = h.homes; fine = each.1 }

  figure_fine : (d : Direction) (r : ℕ) → r < regions → from_0 1 (figure l r (reliable_at d)) ≡ true
  figure_fine d r below = go d
    where
      fine : reliability_fine l.figures r ≡ true
      fine = every_at regions (reliability_fine l.figures) each.0 r below

      go : (d : Direction) → from_0 1 (figure l r (reliable_at d)) ≡ true
      go Raise = (both (from_0 1 (figure l r 2)) _ fine).0
      go Lower = (both (from_0 1 (figure l r 2)) _ fine).1

  -- a row of the set's regions is told by its number and standing
  pub row_told :
      (d : Direction) (i : ℕ) → i < t.units → of_set set l.homes i ≡ true →
      member_reply t i d set l ≡ taken (Unit (get_or l.numbers i 0) (row_standing l d i))
  unfolding member_reply
  row_told d i there e =
      let home = get_or l.homes i 0 in
      let least : home ≤ 10 = home_least homed i there in
      let named : home < 10 = in_a_region home set least (set_five set h.set) e in
      rw (
        h.turn,
        h.set,
        lt-ltb i t.units there,
        le-leb figures_length (length l.figures) h.figures,
        le-leb t.units (length l.numbers) h.numbers,
        le-leb t.units (length l.homes) h.homes,
        own.0,
        le-leb home 10 least,
        ne_eqb home 10 (λ z. omega arith),
        figure_fine d (home / 2) (omega arith),
        e,
      )
