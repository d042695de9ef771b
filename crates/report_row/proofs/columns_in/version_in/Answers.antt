-- The number that is said is within the range or not, and what the writer makes of it is the same bytes or not.
use mathlib.Core.Path.{refl}
use mathlib.Core.Bool.{true, false}
use Rattle.rules.specs.ReportRow.{version_text}
use Rattle.rules.specs.ReportRead.{number_most}
use Rattle.report_row.proofs.ReadLaws.{as_written, number_over, number_right, number_differs}
use Rattle.report_row.proofs.columns_in.version_in.Goals as goal

pub returns-then-number-gt-NUMBER_MOST : goal.returns-then-number-gt-NUMBER_MOST
returns-then-number-gt-NUMBER_MOST c = number_over version_text (λ n. n) number_most _ _ c.number_said-number.ensures c.if-number-gt-NUMBER_MOST.true

pub returns-then-same_bytes : goal.returns-then-same_bytes
returns-then-same_bytes c =
    number_right version_text (λ n. n) number_most _ _ c.number_said-number.ensures c.if-number-gt-NUMBER_MOST.false _ refl
    (as_written c.put_version-to.ensures.put refl _ _ c.same_bytes.ensures true c.if-same_bytes.true)

pub returns : goal.returns
returns c =
    number_differs version_text (λ n. n) number_most _ _ c.number_said-number.ensures c.if-number-gt-NUMBER_MOST.false _ refl
    (as_written c.put_version-to.ensures.put refl _ _ c.same_bytes.ensures false c.if-same_bytes.false)
