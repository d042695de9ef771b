-- Every member passed so far is fine; the first that is not settles it.
use mathlib.Core.Path.{◌≡◌, sym, ◌∙◌, ap}
use lib.ListN.{length}
use native.Mathlib.Omega.{arith}
use Rattle.integers.proofs.Sums.{every_none, every_step, every_fails}
use Rattle.rules.specs.Week.{whose_fine}
use Rattle.weeks.specs.Runs.{units_fine}
use Rattle.weeks.proofs.Runs.{fine_units}
use Rattle.weeks.proofs.roster.all_fine.Invariants.{fine}
use Rattle.weeks.proofs.roster.all_fine.Goals as goal
use Rattle.weeks.proofs.roster.all_fine.Goals.{After-is_fine}

told :
    (c : After-is_fine) →
    c.is_fine.result ≡ fine c.args.whose.now c.loop-j.j
told c =
    c.is_fine.ensures ∙ ap units_fine c.units_of.ensures ∙ fine_units c.whose_of.result ∙ ap whose_fine c.whose_of.ensures

pub loop-j-init : goal.loop-j-init
loop-j-init c =
    (omega arith, every_none _)

pub returns-then-not-is_fine : goal.returns-then-not-is_fine
returns-then-not-is_fine c =
    let ms = c.args.whose.now in
    sym (every_fails (length ms) (fine ms) c.loop-j.j c.loop-j-test.true (sym (told (goal.at.returns-then-not-is_fine c).After-is_fine) ∙ c.if-not-is_fine.true))

pub loop-j-preserved : goal.loop-j-preserved
loop-j-preserved c =
    (omega arith, every_step c.loop-j.j (fine c.args.whose.now) c.loop-j.invariant.1 (sym (told (goal.at.loop-j-preserved c).After-is_fine) ∙ c.if-not-is_fine.false))
