-- The decimals of the number's size, and a minus before those of one below zero.
use lib.IntN.{nat_abs}
use mir.Facts.{to_z-of_z}
use Rattle.integers.proofs.Tests.{leZ_true, leZ_false}
use Rattle.rules.specs.Text.{text}
use Rattle.rules.specs.ReportRow.{decimals}
use Rattle.listing.specs.Pieces.{Put}
use Rattle.listing.proofs.PiecesLaws.{put_before}
use Rattle.report_row.proofs.PutLaws.{first_put, decimals_most, performance_above, performance_below}
use Rattle.report_row.proofs.columns.put_performance.Goals as goal
use Rattle.report_row.proofs.columns.put_performance.Goals.{After-put_decimals-to, Start}

module _ (d : After-put_decimals-to) where
  abbrev S : Start
  S = (goal.at.After-put_decimals-to d).Start

  decimals_put : Put (decimals (nat_abs S.args.number)) S.args.at S.args.line.now d.put_decimals-to.result d.put_decimals-to.new.line
  decimals_put = rw (simp (to_z-of_z, S.ranges.number) at d.size.ensures) at d.put_decimals-to.ensures

pub returns-then-number-ge0 : goal.returns-then-number-ge0
returns-then-number-ge0 c =
    rw (performance_above (S (goal.at.returns-then-number-ge0 c).After-put_decimals-to).args.number (leZ_true (simp (to_z-of_z, (S (goal.at.returns-then-number-ge0 c).After-put_decimals-to).ranges.number) at c.if-number-ge0.true))) (decimals_put (goal.at.returns-then-number-ge0 c).After-put_decimals-to)

pub put_byte-requires : goal.put_byte-requires
put_byte-requires c =
    (first_put 30 1 (S (goal.at.put_byte-requires c).After-put_decimals-to).requires (decimals_most (nat_abs (S (goal.at.put_byte-requires c).After-put_decimals-to).args.number)) (decimals_put (goal.at.put_byte-requires c).After-put_decimals-to)).room

pub returns : goal.returns
unfolding text
returns c =
    rw (performance_below (S (goal.at.returns c).After-put_decimals-to).args.number (leZ_false (simp (to_z-of_z, (S (goal.at.returns c).After-put_decimals-to).ranges.number) at c.if-number-ge0.false)))
    (put_before (decimals_put (goal.at.returns c).After-put_decimals-to) c.put_byte.ensures)
