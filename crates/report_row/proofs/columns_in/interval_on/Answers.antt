-- 288 intervals a day, up to the last day of 9999, and less than two days more fit.
use mathlib.Core.Path.{ap}
use native.Mathlib.Omega.{arith}
use Rattle.rules.specs.Calendar.{days_to}
use Rattle.report_row.proofs.ReadLaws.{days_few}
use Rattle.report_row.proofs.columns_in.interval_on.Goals as goal

pub overflow_mul-result : goal.overflow_mul-result
overflow_mul-result c = omega (arith, c.days_to.ensures, days_few _ c.requires.0)

pub overflow_add-result-2 : goal.overflow_add-result-2
overflow_add-result-2 c = omega (arith, c.days_to.ensures, days_few _ c.requires.0)

pub returns : goal.returns
returns c = omega (arith, c.days_to.ensures, ap days_to c.requires.1)
