-- The record that was read is the one that its line is of.
use mathlib.Core.Path.{sym, ◌∙◌}
use Rattle.trend.proofs.text.unit_line.Goals as goal

pub taken_line-requires : goal.taken_line-requires
taken_line-requires c = sym c.in-Ok.is ∙ c.read_unit-read.ensures.reply
