-- The size that is said is within the range or not, and what the writer makes of it with its sign is the same bytes or not.
use mathlib.Core.Path.{◌≡◌, refl, ◌∙◌}
use mathlib.Core.Bool.{true, false}
use mir.Syntax.{w64}
use mir.Val.{SFits, to_z, of_z}
use mir.Facts.{to_z-of_z}
use Rattle.rules.specs.ReportRow.{performance_text}
use Rattle.rules.specs.ReportRead.{billionths_most}
use Rattle.report_row.proofs.ReadLaws.{signed, as_written, number_over, number_right, number_differs}
use Rattle.report_row.proofs.columns_in.performance_in.Goals as goal
use Rattle.report_row.proofs.columns_in.performance_in.Goals.{After-with_sign-number}

-- the number with its sign
number_is : (c : After-with_sign-number) → to_z w64 (of_z w64 c.with_sign-number.result) ≡
    signed c.args.column.now c.number_said-size.result
number_is c = let f : SFits w64 c.with_sign-number.result = record { sfits = c.with_sign-number.type_inv } in to_z-of_z f ∙ c.with_sign-number.ensures

pub returns-then-size-gt-BILLIONTHS_MOST : goal.returns-then-size-gt-BILLIONTHS_MOST
returns-then-size-gt-BILLIONTHS_MOST c =
    let bs = c.args.column.now in
    number_over performance_text (signed bs) billionths_most _ _ c.number_said-size.ensures c.if-size-gt-BILLIONTHS_MOST.true

pub returns-then-same_bytes : goal.returns-then-same_bytes
returns-then-same_bytes c =
    let bs = c.args.column.now in
    number_right performance_text (signed bs) billionths_most bs _ c.number_said-size.ensures c.if-size-gt-BILLIONTHS_MOST.false _
    (number_is (goal.at.returns-then-same_bytes c).After-with_sign-number)
    (as_written c.put_performance-to.ensures refl _ _ c.same_bytes.ensures true c.if-same_bytes.true)

pub returns : goal.returns
returns c =
    let bs = c.args.column.now in
    number_differs performance_text (signed bs) billionths_most bs _ c.number_said-size.ensures c.if-size-gt-BILLIONTHS_MOST.false _
    (number_is (goal.at.returns c).After-with_sign-number)
    (as_written c.put_performance-to.ensures refl _ _ c.same_bytes.ensures false c.if-same_bytes.false)
