-- A moment that is written has a date and few enough digits; what it says is an interval, and what the writer makes of that is the same bytes or not.
use mathlib.Core.Path.{refl, ap}
use mathlib.Core.Bool.{true, false}
use native.Mathlib.Omega.{arith}
use Rattle.rules.specs.Calendar.{Date}
use Rattle.report_row.specs.Dates.{date_of, Dated}
use Rattle.report_row.proofs.ReadLaws.{as_written, moment_over, moment_undated, interval_over, interval_right, interval_differs, holds, holds_not}
use Rattle.report_row.proofs.columns_in.interval_in.Goals as goal

pub returns-then-moment-gt-MOMENT_MOST : goal.returns-then-moment-gt-MOMENT_MOST
returns-then-moment-gt-MOMENT_MOST c = moment_over _ _ c.number_said-moment.ensures c.if-moment-gt-MOMENT_MOST.true

pub is_dated-requires : goal.is_dated-requires
is_dated-requires c =
    let e = c.date_in-date.ensures in
    (omega (arith, ap (λ (d : Date). d.year) e), omega (arith, ap (λ (d : Date). d.day) e))

pub returns-then-not-is_dated : goal.returns-then-not-is_dated
returns-then-not-is_dated c =
    let date = date_of c.date_in-date.result in
    let undated = holds_not c.is_dated.result (Dated date) c.is_dated.ensures (c.if-not-is_dated.true) in
    moment_undated _ _ c.number_said-moment.ensures c.if-moment-gt-MOMENT_MOST.false (rw c.date_in-date.ensures at undated)

pub interval_on-interval-requires : goal.interval_on-interval-requires
interval_on-interval-requires c =
    let date = date_of c.date_in-date.result in
    (holds c.is_dated.result (Dated date) c.is_dated.ensures (c.if-not-is_dated.false), c.date_in-date.ensures)

pub returns-then-interval-gt-LAST_INTERVAL : goal.returns-then-interval-gt-LAST_INTERVAL
returns-then-interval-gt-LAST_INTERVAL c =
    interval_over _ _ c.number_said-moment.ensures c.if-moment-gt-MOMENT_MOST.false _ c.interval_on-interval.ensures c.if-interval-gt-LAST_INTERVAL.true

pub returns-then-same_bytes : goal.returns-then-same_bytes
returns-then-same_bytes c =
    interval_right _ _ c.number_said-moment.ensures c.if-moment-gt-MOMENT_MOST.false _ c.interval_on-interval.ensures c.if-interval-gt-LAST_INTERVAL.false
    (as_written c.put_interval-to.ensures refl _ _ c.same_bytes.ensures true c.if-same_bytes.true)

pub returns : goal.returns
returns c =
    interval_differs _ _ c.number_said-moment.ensures c.if-moment-gt-MOMENT_MOST.false _ c.interval_on-interval.ensures
    (as_written c.put_interval-to.ensures refl _ _ c.same_bytes.ensures false c.if-same_bytes.false)
