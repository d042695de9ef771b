-- What stands at the direction's place among the six defaults of the region.
use mathlib.Core.Path.{◌≡◌, refl, ◌∙◌, ap}
use mathlib.Core.List.{[]}
use Prim.Native.Nat.{ℕ, ◌+◌, ◌*◌, ◌≤◌}
use native.Mathlib.Omega.{arith}
use borrow.Author.Rules.{sfits_of}
use lib.IntN.{pos}
use lib.ListN.{get_or}
use mir.Syntax.{w64}
use mir.Facts.{to_z-of_z}
use Rattle.kept.specs.Kept.{residual_default}
use Rattle.answer.specs.Asked.{lent_members}
use Rattle.answer.proofs.MadeLaws.{defaults_at_≤, made_same, residual_default_is}
use Rattle.answer.proofs.residual.with_defaults.Goals as goal
use Rattle.answer.proofs.residual.with_defaults.Goals.{After-defaults_place-at}

place : (c : After-defaults_place-at) → c.defaults_place-at.result ≤ 3
place c = rw c.defaults_place-at.ensures (defaults_at_≤ c.args.direction)

-- a default of the three, by its place
default :
    (c : After-defaults_place-at) (f : ℕ) → let a = c.args in
    get_or a.figures.now (10 * a.region + (4 + c.defaults_place-at.result + f)) (pos 0) ≡
    residual_default (lent_members a.figures.now [] []) a.direction f a.region
default c f =
    let a = c.args in
    ap (λ (n : ℕ). get_or a.figures.now (10 * a.region + (4 + n + f)) (pos 0)) c.defaults_place-at.ensures
    ∙ residual_default_is (lent_members a.figures.now [] []) a.direction f a.region

pub overflow_add-at : goal.overflow_add-at
overflow_add-at c = omega (arith, place (goal.at.overflow_add-at c).After-defaults_place-at)

pub overflow_add-at-2 : goal.overflow_add-at-2
overflow_add-at-2 c = omega (arith, place (goal.at.overflow_add-at-2 c).After-defaults_place-at)

pub overflow_add-start : goal.overflow_add-start
overflow_add-start c = omega (arith, place (goal.at.overflow_add-start c).After-defaults_place-at)

pub offset_bounds-figures-start : goal.offset_bounds-figures-start
offset_bounds-figures-start c = omega (arith, place (goal.at.offset_bounds-figures-start c).After-defaults_place-at)

pub bounds-figures-start : goal.bounds-figures-start
bounds-figures-start c = omega (arith, place (goal.at.bounds-figures-start c).After-defaults_place-at)

pub overflow_add-at-3 : goal.overflow_add-at-3
overflow_add-at-3 c = omega (arith, place (goal.at.overflow_add-at-3 c).After-defaults_place-at)

pub overflow_add-start-2 : goal.overflow_add-start-2
overflow_add-start-2 c = omega (arith, place (goal.at.overflow_add-start-2 c).After-defaults_place-at)

pub offset_bounds-figures-start-2 : goal.offset_bounds-figures-start-2
offset_bounds-figures-start-2 c = omega (arith, place (goal.at.offset_bounds-figures-start-2 c).After-defaults_place-at)

pub bounds-figures-start-2 : goal.bounds-figures-start-2
bounds-figures-start-2 c = omega (arith, place (goal.at.bounds-figures-start-2 c).After-defaults_place-at)

pub overflow_add-at-4 : goal.overflow_add-at-4
overflow_add-at-4 c = omega (arith, place (goal.at.overflow_add-at-4 c).After-defaults_place-at)

pub overflow_add-start-3 : goal.overflow_add-start-3
overflow_add-start-3 c = omega (arith, place (goal.at.overflow_add-start-3 c).After-defaults_place-at)

pub offset_bounds-figures-start-3 : goal.offset_bounds-figures-start-3
offset_bounds-figures-start-3 c = omega (arith, place (goal.at.offset_bounds-figures-start-3 c).After-defaults_place-at)

pub bounds-figures-start-3 : goal.bounds-figures-start-3
bounds-figures-start-3 c = omega (arith, place (goal.at.bounds-figures-start-3 c).After-defaults_place-at)

pub returns : goal.returns
returns c =
    c.member_of.ensures
    ∙ made_same
    refl
    (to_z-of_z {w = w64} c.ranges.performance)
    (to_z-of_z {w = w64} (sfits_of c.member_of-arg-1.given) ∙ default (goal.at.returns c).After-defaults_place-at 0)
    (to_z-of_z {w = w64} (sfits_of c.member_of-arg-2-1.given) ∙ default (goal.at.returns c).After-defaults_place-at 1)
    (to_z-of_z {w = w64} (sfits_of c.member_of-arg-3-1.given) ∙ default (goal.at.returns c).After-defaults_place-at 2)
