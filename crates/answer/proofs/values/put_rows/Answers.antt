-- Before a row the numbers of the rows passed stand at the front, and they are no more than the rows.
use mathlib.Core.Path.{◌≡◌, ◌∙◌, ap}
use native.Mathlib.Omega.{arith}
use lib.ListN.{length}
use Rattle.answer.proofs.Lists.{headed_length}
use Rattle.answer.specs.Asked.{lent_members}
use Rattle.answer.proofs.ValuesLaws.{rows_none, rows_more}
use Rattle.answer.proofs.values.put_rows.Goals as goal
use Rattle.answer.proofs.values.put_rows.Goals.{At-loop-row}

-- the column keeps its length
same_long : (l : At-loop-row) → length l.loop-row.column ≡ length l.args.column.now
same_long l = ap length l.loop-row.invariant.1.put ∙ headed_length _ _

pub loop-row-init : goal.loop-row-init
loop-row-init c =
    let a = c.args in (
      omega arith,
      rows_none a.field a.direction a.set (lent_members a.figures.now a.homes.now a.rows.now) a.column.now,
    )

pub put_row-at-requires : goal.put_row-at-requires
put_row-at-requires c =
    (c.requires.0, omega (arith, c.loop-row.invariant.1.few, same_long (goal.at.put_row-at-requires c).At-loop-row), c.requires.2.there c.loop-row.row (omega arith))

pub loop-row-preserved : goal.loop-row-preserved
loop-row-preserved c =
    let a = c.args in (
      omega arith,
      rows_more a.field a.direction a.set (lent_members a.figures.now a.homes.now a.rows.now)
          a.column.now c.loop-row.invariant.1 c.put_row-at.ensures,
    )

pub returns : goal.returns
returns c = let e : c.loop-row.row ≡ c.args.units = omega arith in rw e at c.loop-row.invariant.1
