-- By the two ways a page is drawn.
use Rattle.std.proofs.lemmas.Result.{err_from_is_err_and}
use Rattle.panel.proofs.press.told.Goals as goal

pub returns : goal.returns
returns c = rw c.in_ok-drawn.was

pub returns-in_err-drawn : goal.returns-in_err-drawn
returns-in_err-drawn c =
    let p = err_from_is_err_and c.from_residual.result c.from_residual.ensures.1 in
    rw (p.1, p.2, c.in_err-drawn.was)
