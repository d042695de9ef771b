-- Each branch settles one sign.
use Rattle.answer.proofs.pools.pool.Goals as goal

pub returns-then-not-up : goal.returns-then-not-up
returns-then-not-up c = rw (c.if-not-up.true)

pub returns-then-not-down : goal.returns-then-not-down
returns-then-not-down c = let a = c.args in rw (c.if-not-up.false, c.if-not-down.true)

pub returns : goal.returns
returns c =
    let a = c.args in
    rw (c.if-not-up.false, c.if-not-down.false) c.priced.ensures
