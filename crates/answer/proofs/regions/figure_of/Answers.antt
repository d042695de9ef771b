-- The figure at the direction's place, which is among the ten of the region.
use mathlib.Core.Path.{ap}
use Prim.Native.Nat.{ℕ, ◌+◌, ◌*◌, ◌≤◌}
use native.Mathlib.Omega.{arith}
use borrow.Author.Rules.{sfits_of}
use lib.IntN.{pos}
use lib.ListN.{get_or}
use mir.Facts.{to_z-of_z}
use Rattle.answer.proofs.MadeLaws.{reliable_at_≤}
use Rattle.answer.proofs.regions.figure_of.Goals as goal
use Rattle.answer.proofs.regions.figure_of.Goals.{After-reliable_place}

place : (c : After-reliable_place) → c.reliable_place.result ≤ 3
place c = rw c.reliable_place.ensures (reliable_at_≤ c.args.direction)

pub overflow_add-result : goal.overflow_add-result
overflow_add-result c = omega (arith, place (goal.at.overflow_add-result c).After-reliable_place)

pub offset_bounds-figures-region : goal.offset_bounds-figures-region
offset_bounds-figures-region c = omega (arith, place (goal.at.offset_bounds-figures-region c).After-reliable_place)

pub bounds-figures-region : goal.bounds-figures-region
bounds-figures-region c = omega (arith, place (goal.at.bounds-figures-region c).After-reliable_place)

pub returns : goal.returns
returns c =
    rw (to_z-of_z (sfits_of c.result-1.given))
    (ap (λ (n : ℕ). get_or c.args.figures.now (10 * c.args.region + n) (pos 0)) c.reliable_place.ensures)
