-- By the replies of the shares, in the order in which they are asked.
use Rattle.std.proofs.lemmas.Result.{err_from_is_err_and}
use Rattle.answer.proofs.worked.gathered.Goals as goal

pub returns : goal.returns
returns c = rw (c.in_ok-used_left.was, c.in_ok-unused_left.was, c.in_ok-paid.was)

pub returns-in_err-paid : goal.returns-in_err-paid
returns-in_err-paid c =
    let p = err_from_is_err_and c.from_residual-in_err-paid.result c.from_residual-in_err-paid.ensures.1 in
    rw (p.1, p.2, c.in_ok-used_left.was, c.in_ok-unused_left.was, c.in_err-paid.was)

pub returns-in_err-unused_left : goal.returns-in_err-unused_left
returns-in_err-unused_left c =
    let p = err_from_is_err_and c.from_residual-in_err-unused_left.result c.from_residual-in_err-unused_left.ensures.1 in
    rw (p.1, p.2, c.in_ok-used_left.was, c.in_err-unused_left.was)

pub returns-in_err-used_left : goal.returns-in_err-used_left
returns-in_err-used_left c =
    let p = err_from_is_err_and c.from_residual.result c.from_residual.ensures.1 in
    rw (p.1, p.2, c.in_err-used_left.was)
