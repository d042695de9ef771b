-- What was read is the answer, or its group refuses it.
use Rattle.std.proofs.Common.{sym, ◌∙◌}
use Rattle.std.proofs.lemmas.Result.{err_from_is_err_and}
use Rattle.units.proofs.group.in_group.Goals as goal

pub returns-in_err-fields : goal.returns-in_err-fields
returns-in_err-fields c =
    let p = err_from_is_err_and c.from_residual.result c.from_residual.ensures.1 in
    rw (p.1, p.2, c.in_err-fields.was)

pub returns-then-not-fits_group : goal.returns-then-not-fits_group
returns-then-not-fits_group c = rw (c.in_ok-fields.was, sym c.fits_group.ensures ∙ c.if-not-fits_group.true)

pub returns : goal.returns
returns c = rw (c.in_ok-fields.was, sym c.fits_group.ensures ∙ c.if-not-fits_group.false)
