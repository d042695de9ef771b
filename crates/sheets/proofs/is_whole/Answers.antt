-- A side without a member has the total 0; of one that has, the factors' own total on that side is what its members sum to (SidesLaws).
use mathlib.Core.Path.{sym}
use Rattle.sheets.proofs.SidesLaws.{no_member, some_member}
use Rattle.sheets.proofs.is_whole.Goals as goal

pub returns-then-side_sum-eq0 : goal.returns-then-side_sum-eq0
returns-then-side_sum-eq0 c =
    let a = c.args in
    sym (no_member a.side a.performances.now a.factors.now c.side_sum.result c.side_sum.ensures c.if-side_sum-eq0.true)

pub returns : goal.returns
returns c =
    some_member c.args.side c.args.performances.now c.args.factors.now c.requires c.side_sum.result c.side_sum-2.result
    c.side_sum.ensures c.if-side_sum-eq0.false c.side_sum-2.ensures
