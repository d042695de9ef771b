-- The home and its region's reliability first, then the set, which has no region of a row that is passed over.
use mathlib.Core.Path.{◌≡◌, sym, ◌∙◌, ap}
use mathlib.Core.Bool.{true}
use Prim.Native.Nat.{◌≤◌}
use native.Mathlib.Omega.{arith}
use Rattle.rules.specs.declared.Standing.{Standing}
use Rattle.interval.specs.Lent.{passed_over}
use Rattle.answer.specs.declared.Row.TheVariants.{Unit}
use Rattle.answer.specs.Roster.{home_fine}
use Rattle.answer.proofs.RosterLaws.{home_means}
use Rattle.answer.proofs.UnitsHeld.{in_a_region}
use Rattle.answer.proofs.roster.unit_or_other.Goals as goal
use Rattle.answer.proofs.roster.unit_or_other.Goals.{Else-not-home_in_range, Start}

abbrev S : Else-not-home_in_range → Start
S c = (goal.at.Else-not-home_in_range c).Start

fine : (c : Else-not-home_in_range) → home_fine (S c).args.direction (S c).args.home (S c).args.figures.now ≡ true
fine c = sym c.home_in_range.ensures ∙ c.if-not-home_in_range.false

homed : (c : Else-not-home_in_range) → (S c).args.home ≤ passed_over
homed c = home_means (S c).args.direction (S c).args.home (S c).args.figures.now (fine c)

pub returns-then-not-home_in_range : goal.returns-then-not-home_in_range
returns-then-not-home_in_range c = rw (sym c.home_in_range.ensures ∙ c.if-not-home_in_range.true)

pub in_set-requires : goal.in_set-requires
in_set-requires c = omega (arith, homed (goal.at.in_set-requires c).Else-not-home_in_range)

pub returns-then-not-in_set : goal.returns-then-not-in_set
returns-then-not-in_set c = rw (fine (goal.at.returns-then-not-in_set c).Else-not-home_in_range, sym c.in_set.ensures ∙ c.if-not-in_set.true)

pub row_standing-requires : goal.row_standing-requires
row_standing-requires c =
    let s = S (goal.at.row_standing-requires c).Else-not-home_in_range in
    (in_a_region s.args.home s.args.set (homed (goal.at.row_standing-requires c).Else-not-home_in_range) s.requires.0 (sym c.in_set.ensures ∙ c.if-not-in_set.false), s.requires.1)

pub returns : goal.returns
returns c =
    rw (fine (goal.at.returns c).Else-not-home_in_range, sym c.in_set.ensures ∙ c.if-not-in_set.false) (ap (λ (s : Standing). Unit (S (goal.at.returns c).Else-not-home_in_range).args.number s) c.row_standing.ensures)
