-- The line is what the writer makes of it, and the column is the same bytes or not.
use mathlib.Core.Path.{refl}
use mathlib.Core.Bool.{true, false}
use Rattle.rules.specs.ReportRow.{whose_text}
use Rattle.report_row.proofs.ReadLaws.{as_written, right, differs}
use Rattle.report_row.proofs.columns_in.whose_if_written.Goals as goal
use Rattle.report_row.proofs.columns_in.whose_if_written.Goals.{After-put_whose-to, After-same_bytes}

-- the line that was written, before it was compared
abbrev put : After-same_bytes → After-put_whose-to
put c = (goal.at.After-same_bytes c).After-put_whose-to

pub returns-then-same_bytes : goal.returns-then-same_bytes
returns-then-same_bytes c =
    right whose_text _ true _ refl (as_written (put (goal.at.returns-then-same_bytes c).After-same_bytes).put_whose-to.ensures.put refl _ _ c.same_bytes.ensures true c.if-same_bytes.true)

pub returns : goal.returns
returns c =
    let start = (put (goal.at.returns c).After-same_bytes) in
    differs whose_text start.args.column.now true start.args.whose
    (as_written (put (goal.at.returns c).After-same_bytes).put_whose-to.ensures.put refl _ _ c.same_bytes.ensures false c.if-same_bytes.false)
