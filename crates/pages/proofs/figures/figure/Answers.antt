-- The figure is put at the end of a line of its own, and its 16 places are handed over.
use Rattle.pages.proofs.DrawLaws.{figure_drawn, drawn_not}
use mathlib.Core.Path.{refl}
use mir.Facts.{to_z-of_z}
use Rattle.pages.proofs.FigureLaws.{figure_of, amount_said}
use Rattle.pages.proofs.figures.figure.Goals as goal

pub returns-then-text-lt-FIGURE : goal.returns-then-text-lt-FIGURE
returns-then-text-lt-FIGURE c = drawn_not c.if-text-lt-FIGURE.true

pub returns : goal.returns
returns c =
    figure_drawn c.args.x refl c.if-text-lt-FIGURE.false
    (figure_of {y = c.args.x} (amount_said (simp (to_z-of_z, c.ranges.x) at c.signed_amount.ensures)) c.put_figure-start.ensures) refl
    c.put_word.ensures
