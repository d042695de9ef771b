-- The table of contents begins a chain, or is refused.
use mathlib.Core.Path.{sym, ◌∙◌, ap}
use Rattle.reader.specs.declared.Came as n
use Rattle.reader.specs.Reading.{after_contents}
use Rattle.reader.proofs.step.open.Goals as goal

pub returns-in-Ok : goal.returns-in-Ok
returns-in-Ok c =
    record { opened = c.contents-opened.result; promise = c.contents-opened.ensures; reply = ap after_contents (sym c.in-Ok.is) }

pub returns-in-Err : goal.returns-in-Err
returns-in-Err c =
    let says = ap n.TheVariants.Refused c.locate.ensures in
    record { opened = c.contents-opened.result; promise = c.contents-opened.ensures; reply = says ∙ ap after_contents (sym c.in-Err.is) }
