-- The home first, which may be that of a row that is passed over; then the figure by its bounds.
use mathlib.Core.Path.{◌≡◌, ◌∙◌}
use mathlib.Core.List.{[]}
use Prim.Native.Nat.{◌/◌}
use borrow.Author.Rules.{sfits_of}
use borrow.Author.Tests.{le-leb, lt-leb, eq-eqb, ne_eqb}
use mir.Syntax.{w64}
use mir.Val.{to_z, of_z}
use mir.Facts.{to_z-of_z}
use Rattle.kept.specs.Kept.{figure}
use Rattle.answer.specs.Asked.{lent_members}
use Rattle.answer.specs.Made.{reliable_at}
use Rattle.answer.proofs.roster.home_in_range.Goals as goal
use Rattle.answer.proofs.roster.home_in_range.Goals.{After-figure_of}

read :
    (c : After-figure_of) → let a = c.args in
    to_z w64 (of_z w64 c.figure_of.result) ≡ figure (lent_members a.figures.now [] []) (a.home / 2) (reliable_at a.direction)
read c = to_z-of_z {w = w64} (sfits_of c.figure_of.type_inv) ∙ c.figure_of.ensures

pub returns-then-home-gt-PASSED_OVER : goal.returns-then-home-gt-PASSED_OVER
returns-then-home-gt-PASSED_OVER c = rw (lt-leb _ _ c.if-home-gt-PASSED_OVER.true)

pub returns-then-home-eq-PASSED_OVER : goal.returns-then-home-eq-PASSED_OVER
returns-then-home-eq-PASSED_OVER c = rw (le-leb _ _ c.if-home-gt-PASSED_OVER.false, eq-eqb _ _ c.if-home-eq-PASSED_OVER.true)

pub returns : goal.returns
returns c =
    rw (le-leb _ _ c.if-home-gt-PASSED_OVER.false, ne_eqb _ _ c.if-home-eq-PASSED_OVER.false) (rw (read (goal.at.returns c).After-figure_of) at c.within_bounds.ensures)
