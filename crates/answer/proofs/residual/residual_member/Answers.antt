-- Before a region the residual is that of the regions passed.
use mathlib.Core.Path.{◌≡◌}
use native.Mathlib.Omega.{arith}
use Rattle.answer.specs.Asked.{lent_members}
use Rattle.answer.proofs.ResidualLaws.{none_yet}
use Rattle.answer.proofs.residual.residual_member.Goals as goal

pub loop-region-init : goal.loop-region-init
loop-region-init c =
    let a = c.args in (omega arith, none_yet a.units (lent_members a.figures.now a.homes.now a.rows.now) a.direction a.set)

pub with_region-sum-requires : goal.with_region-sum-requires
with_region-sum-requires c = (omega arith, c.requires, c.loop-region.invariant.1)

pub loop-region-preserved : goal.loop-region-preserved
loop-region-preserved c = (omega arith, c.with_region-sum.ensures)

pub returns : goal.returns
returns c = let e : c.loop-region.region ≡ 5 = omega arith in rw e at c.loop-region.invariant.1
