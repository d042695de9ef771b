-- Before a row what is held is that of the rows passed.
use mathlib.Core.Path.{◌≡◌}
use mathlib.Core.List.{[]}
use native.Mathlib.Omega.{arith}
use Rattle.answer.specs.Asked.{lent_members}
use Rattle.answer.proofs.ResidualLaws.{fewer_within, holds_none}
use Rattle.answer.proofs.residual.rows_held.Goals as goal

pub loop-row-init : goal.loop-row-init
loop-row-init c = let a = c.args in (omega arith, holds_none a.at a.region (lent_members [] a.homes.now a.rows.now))

pub with_row-held-requires : goal.with_row-held-requires
with_row-held-requires c = (fewer_within (omega arith) c.requires, c.loop-row.invariant.1)

pub loop-row-preserved : goal.loop-row-preserved
loop-row-preserved c = (omega arith, c.with_row-held.ensures)

pub returns : goal.returns
returns c = let e : c.loop-row.row ≡ c.args.units = omega arith in rw e at c.loop-row.invariant.1
