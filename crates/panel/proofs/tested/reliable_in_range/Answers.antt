-- Each figure by its bounds.
use mathlib.Core.Path.{◌≡◌, sym, ◌∙◌}
use Prim.Native.Nat.{◌+◌, ◌*◌}
use lib.IntN.{pos}
use lib.ListN.{get_or}
use borrow.Author.Rules.{sfits_of}
use mir.Facts.{to_z-of_z}
use Rattle.kept.specs.Range.{from_0}
use Rattle.panel.proofs.tested.reliable_in_range.Goals as goal
use Rattle.panel.proofs.tested.reliable_in_range.Goals.{After-within_bounds}

told :
    (c : After-within_bounds) → let a = c.args in
    from_0 1 (get_or a.figures.now (10 * a.region + 2) (pos 0)) ≡ c.within_bounds.result
told c = sym (rw (to_z-of_z (sfits_of c.within_bounds-arg-1.given)) at c.within_bounds.ensures)

pub returns-then-not-within_bounds : goal.returns-then-not-within_bounds
returns-then-not-within_bounds c = rw (told (goal.at.returns-then-not-within_bounds c).After-within_bounds ∙ c.if-not-within_bounds.true)

pub returns : goal.returns
returns c =
    rw (told (goal.at.returns c).After-within_bounds ∙ c.if-not-within_bounds.false) (rw (to_z-of_z (sfits_of c.within_bounds-arg-2-1.given)) at c.within_bounds-2.ensures)
