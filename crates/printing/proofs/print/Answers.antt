-- Writing leaves the line as it is, with its line feed.
use mathlib.Core.Path.{ap}
use Rattle.printing.specs.Lines.{Line}
use Rattle.printing.proofs.print.Goals as goal

pub returns : goal.returns
returns c = ap (λ (l : Line). l.bytes) c.put_byte-end.ensures.text_after
