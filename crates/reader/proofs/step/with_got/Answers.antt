-- By what is being read.
use mathlib.Core.Path.{sym, ap}
use Rattle.reader.specs.Reading.{with_got}
use Rattle.reader.proofs.step.with_got.Goals as goal

pub returns-in-Contents : goal.returns-in-Contents
returns-in-Contents c = ap (with_got _) (sym c.in-Contents.is)

pub returns-in-Record : goal.returns-in-Record
returns-in-Record c = ap (with_got _) (sym c.in-Record.is)
