-- Without room for the answer that is told first; then as for an interval added.
use mathlib.Core.Path.{subst}
use Rattle.rules.specs.declared.Whose.{Whose}
use Rattle.weeks.specs.Promises.{ReadPromise}
use Rattle.dullavane.proofs.WordsLaws.{was_handed}
use Rattle.dullavane.proofs.WeeklyLaws.{read_no_room, read_unheld, read_told}
use Rattle.dullavane.proofs.dullavane_week_read.Goals as goal

pub returns-then-reply-lt-DEFAULT_NUMBERS : goal.returns-then-reply-lt-DEFAULT_NUMBERS
returns-then-reply-lt-DEFAULT_NUMBERS c =
    let a = c.args in
    read_no_room a.whose a.week.now a.reply.now c.if-reply-lt-DEFAULT_NUMBERS.true c.refusal_number.ensures

pub returns-in-Ok : goal.returns-in-Ok
returns-in-Ok c =
    let a = c.args in
    let p = subst (λ (k : Whose). ReadPromise k c.in-Ok.running c.read.result) c.whose_of.ensures c.read.ensures in
    read_told a.whose a.week.now a.reply.now c.if-reply-lt-DEFAULT_NUMBERS.false c.in-Ok.running (was_handed _ c.week_held.ensures c.in-Ok.is) c.read.result p
    c.tell_default.ensures.0 c.tell_default.ensures.1

pub returns-in-Err : goal.returns-in-Err
returns-in-Err c =
    let a = c.args in
    read_unheld a.whose a.week.now a.reply.now c.if-reply-lt-DEFAULT_NUMBERS.false (was_handed _ c.week_held.ensures c.in-Err.is) c.refusal_number-in-Err.ensures
