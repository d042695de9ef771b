-- By the first byte it is a residual or a unit, and what that says is what the writer makes of it, or not.
use mathlib.Core.Path.{sym, ◌∙◌, ap}
use Rattle.report_row.specs.Reading.{region_of}
use Rattle.report_row.proofs.ReadLaws.{residual_said, unit_over, unit_said}
use Rattle.report_row.proofs.columns_in.whose_in.Goals as goal

pub returns-then-byte_at-eq82 : goal.returns-then-byte_at-eq82
returns-then-byte_at-eq82 c =
    let name = c.region_said-name.ensures ∙ ap region_of c.byte_at-then-byte_at-eq82.ensures in
    λ k. c.whose_if_written.ensures k ∙ residual_said _ _ name (sym c.byte_at.ensures ∙ c.if-byte_at-eq82.true) k

pub returns-then-number-gt-NUMBER_MOST : goal.returns-then-number-gt-NUMBER_MOST
returns-then-number-gt-NUMBER_MOST c =
    unit_over _ (λ e. c.if-byte_at-eq82.false (c.byte_at.ensures ∙ e)) _ c.number_said-number.ensures c.if-number-gt-NUMBER_MOST.true

pub returns : goal.returns
returns c =
    let said = unit_said _ (λ e. c.if-byte_at-eq82.false (c.byte_at.ensures ∙ e)) _ c.number_said-number.ensures c.if-number-gt-NUMBER_MOST.false in
    λ k. c.whose_if_written-2.ensures k ∙ said k
