-- What the reader answers is what the format says, and the tally is made of it.
use mathlib.Core.Path.{sym, ◌∙◌, ap}
use Rattle.std.proofs.lemmas.Result.{err_from_is_err_and}
use Rattle.rules.specs.Contents.{contents}
use Rattle.interval.proofs.Calls.{opened_from, opened_is}
use Rattle.interval.proofs.contents.contents.Goals as goal

pub returns : goal.returns
returns c =
    let e = sym c.in_ok-counts.was ∙ c.read_contents.ensures.reply in
    record { reply = ap opened_from e ∙ opened_is (contents c.args.part.now) }

pub returns-in_err-counts : goal.returns-in_err-counts
returns-in_err-counts c =
    let p = err_from_is_err_and c.from_residual.result c.from_residual.ensures.1 in
    let e = sym c.in_err-counts.was ∙ c.read_contents.ensures.reply in
    rw (p.1, p.2) (record { reply = ap opened_from e ∙ opened_is (contents c.args.part.now) })
