-- The line with its line feed.
use mathlib.Core.Path.{◌∙◌, ap}
use Rattle.printing.specs.Lines.{Line, with_byte}
use Rattle.report_rows.proofs.words.print_row.Goals as goal

pub returns : goal.returns
returns c = c.print.ensures ∙ ap (λ (l : Line). (with_byte 10 l).bytes) c.put_row-at.ensures
