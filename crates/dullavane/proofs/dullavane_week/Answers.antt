-- Without room for the answer that is told; else what the week comes to.
use mathlib.Core.Path.{subst}
use Rattle.rules.specs.declared.Whose.{Whose}
use Rattle.weeks.specs.Promises.{WeekPromise}
use Rattle.dullavane.proofs.WeeklyLaws.{week_no_room, week_told}
use Rattle.dullavane.proofs.dullavane_week.Goals as goal

pub returns-then-reply-lt-DEFAULT_NUMBERS : goal.returns-then-reply-lt-DEFAULT_NUMBERS
returns-then-reply-lt-DEFAULT_NUMBERS c =
    let a = c.args in
    week_no_room a.whose a.performances.now a.live.now a.reply.now c.if-reply-lt-DEFAULT_NUMBERS.true c.refusal_number.ensures

pub returns : goal.returns
returns c =
    let a = c.args in
    let p = subst (λ (k : Whose). WeekPromise k a.performances.now a.live.now c.week.result) c.whose_of.ensures c.week.ensures in
    week_told a.whose a.performances.now a.live.now a.reply.now c.if-reply-lt-DEFAULT_NUMBERS.false c.week.result p c.tell_default.ensures.0
    c.tell_default.ensures.1
