-- From the last comma to the performance, each piece before the one that was put last.
use mathlib.Core.List.{◌++◌}
use native.Mathlib.Omega.{arith}
use lib.Dec.{lit≤}
use mir.Syntax.{w64}
use mir.Val.{SFits}
use mir.Facts.{to_z-of_z}
use borrow.Author.Rules.{rules}
use Rattle.integers.proofs.Casts.{back}
use Rattle.rules.specs.Text.{text}
use Rattle.rules.specs.ReportRow.{type_text, billionths}
use Rattle.listing.proofs.PiecesLaws.{room_less, put_before}
use Rattle.report_row.proofs.ColumnLaws.{type_long, performance_long}
use Rattle.report_row.proofs.BillionthsLaws.{billionths_most_of}
use Rattle.report_row.proofs.PutLaws.{Stands, first_put, next_put, figure_most}
use Rattle.report_row.proofs.write.put_figure.Goals as goal
use Rattle.report_row.proofs.write.put_figure.Goals.{After-put_byte-to, After-put_byte-to-2, After-put_type-to, Start}

abbrev S : After-put_byte-to → Start
S c = (goal.at.After-put_byte-to c).Start

abbrev B : After-put_type-to → After-put_byte-to
B c = (goal.at.After-put_type-to c).After-put_byte-to

abbrev T : After-put_byte-to-2 → After-put_type-to
T c = (goal.at.After-put_byte-to-2 c).After-put_type-to

comma : (c : After-put_byte-to) → Stands 42 (text ",") (S c).args.at (S c).args.line.now c.put_byte-to.result c.put_byte-to.new.line
unfolding text
comma c = first_put 1 42 (S c).requires (lit≤ tt) c.put_byte-to.ensures

typed : (c : After-put_type-to) → Stands 32 (type_text (S (B c)).args.figure.typed ++ text ",") (S (B c)).args.at (S (B c)).args.line.now
    c.put_type-to.result c.put_type-to.new.line
typed c = next_put 10 32 (comma (B c)) (type_long (S (B c)).args.figure.typed).most c.put_type-to.ensures

second_comma : (c : After-put_byte-to-2) → Stands 31 (text "," ++ (type_text (S (B (T c))).args.figure.typed ++ text ",")) (S (B (T c))).args.at
    (S (B (T c))).args.line.now c.put_byte-to-2.result c.put_byte-to-2.new.line
unfolding text
second_comma c = next_put 1 31 (typed (T c)) (lit≤ tt) c.put_byte-to-2.ensures

pub put_byte-to-requires : goal.put_byte-to-requires
put_byte-to-requires c = room_less (lit≤ tt) c.requires

pub put_type-to-requires : goal.put_type-to-requires
put_type-to-requires c = room_less (lit≤ tt) (comma (goal.at.put_type-to-requires c).After-put_byte-to).room

pub put_byte-to-requires-2 : goal.put_byte-to-requires-2
put_byte-to-requires-2 c = room_less (lit≤ tt) (typed (goal.at.put_byte-to-requires-2 c).After-put_type-to).room

pub put_performance-requires : goal.put_performance-requires
put_performance-requires c = (second_comma (goal.at.put_performance-requires c).After-put_byte-to-2).room

pub returns : goal.returns
returns c =
    let fits : SFits w64 c.args.figure.performance = search rules in
    let said = rw (to_z-of_z fits) at c.in_billionths.ensures in
    let put = put_before (second_comma (goal.at.returns c).After-put_byte-to-2).put (rw (back w64 c.in_billionths.type_inv said) at c.put_performance.ensures) in
    let x = (S (B (T (goal.at.returns c).After-put_byte-to-2))).args.figure in
    let long = performance_long (billionths x.performance) (billionths_most_of x.performance fits) in
    record { put = put; at_bound = omega (arith, put.place, figure_most x long) }
