-- Each part is ready by the tests, and the parts together are the answer of what is kept.
use mathlib.Core.Path.{◌≡◌, ◌∙◌, ap}
use Prim.Native.Nat.{◌≤◌}
use lib.ListN.{length}
use native.Mathlib.Omega.{arith}
use Rattle.interval.specs.Lent.{lent_answer}
use Rattle.answer.proofs.Lists.{headed_length}
use Rattle.answer.proofs.WorkedLaws.{found_tested, rcr_small, numbers_tested, long_columns, members_there, cost_tested, worked_out}
use Rattle.answer.proofs.worked.work_out.Goals as goal
use Rattle.answer.proofs.worked.work_out.Goals.{After-charge_cost-charges, After-rcr-found, After-residual_member-residual, Start}

abbrev found : After-residual_member-residual → After-rcr-found
found c = (goal.at.After-residual_member-residual c).After-rcr-found

abbrev start : After-residual_member-residual → Start
start c = (goal.at.After-residual_member-residual c).Start

abbrev last : After-charge_cost-charges → After-residual_member-residual
last c = (goal.at.After-charge_cost-charges c).After-residual_member-residual

-- RCR is within its bound
found_small : (c : After-rcr-found) → c.rcr-found.result.rcr ≤ 7_680_000_000
found_small c =
    rw c.rcr-found.ensures (rcr_small c.requires c.args.fields.direction c.args.fields.set)

-- the column that holds the members' numbers keeps its length
same_long : (c : After-charge_cost-charges) → length c.charge_cost-charges.new.values ≡ length (start (last c)).args.performances.now
same_long c = ap length c.charge_cost-charges.ensures.over_used.column ∙ headed_length _ _ ∙ headed_length _ _

pub rcr-found-requires : goal.rcr-found-requires
rcr-found-requires c = found_tested c.requires

pub residual_member-residual-requires : goal.residual_member-residual-requires
residual_member-residual-requires c = (numbers_tested c.requires).regions

pub charge_cost-charges-requires : goal.charge_cost-charges-requires
charge_cost-charges-requires c = cost_tested (start (goal.at.charge_cost-charges-requires c).After-residual_member-residual).requires c.residual_member-residual.ensures

pub pay-paying-requires : goal.pay-paying-requires
pay-paying-requires c =
    let m = last (goal.at.pay-paying-requires c).After-charge_cost-charges in
    let h = (start m).requires in (
      h.price,
      found_small (found m),
      (long_columns h).factors,
      (long_columns h).payments,
      members_there h m.residual_member-residual.ensures _ (omega (arith, (long_columns h).performances, same_long (goal.at.pay-paying-requires c).After-charge_cost-charges)),
    )

pub returns : goal.returns
returns c =
    let m = last (goal.at.returns c).After-charge_cost-charges in
    let a = (start m).args in
    λ rest.
    rw c.gathered.ensures
    (worked_out a.tally a.fields (lent_answer rest a.measures.now a.sums.now a.figures.now a.homes.now a.rows.now)
    (found m).rcr-found.ensures m.residual_member-residual.ensures c.charge_cost-charges.ensures c.pay-paying.ensures)
