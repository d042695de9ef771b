-- The figure, and the label before it.
use native.Mathlib.Omega.{arith}
use mir.Facts.{to_z-of_z}
use Rattle.rules.specs.Text.{integer}
use Rattle.listing.proofs.PiecesLaws.{put_there, put_before}
use Rattle.pages.proofs.FigureLaws.{placed_long, figure_of, amount_said}
use Rattle.pages.proofs.lines.put_labelled.Goals as goal

pub returns : goal.returns
returns c =
    let p = figure_of {y = c.args.x} (amount_said (simp (to_z-of_z, c.ranges.x) at c.signed_amount.ensures)) c.put_figure-figure.ensures in
    let long = placed_long (integer c.args.x) in
    put_before p
    (put_there
    (record { free = omega (arith, p.place, long, c.requires.0.free, c.requires.1); inside = omega (arith, p.place, p.size, c.requires.0.inside) })
    c.put_word.ensures)
