-- By the tests, unreliable first.
use Rattle.answer.proofs.made.standing_of.Goals as goal

pub returns-then-not-reliable : goal.returns-then-not-reliable
returns-then-not-reliable c = rw (c.if-not-reliable.true)

pub returns-then-not-fine : goal.returns-then-not-fine
returns-then-not-fine c =
    let a = c.args in
    rw (c.if-not-reliable.false, c.if-not-fine.true)

pub returns : goal.returns
returns c =
    let a = c.args in
    rw (c.if-not-reliable.false, c.if-not-fine.false)
