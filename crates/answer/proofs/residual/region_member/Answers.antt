-- The standing by what the rows hold; minus the sum, which is far from the ends of 64 bits; the direction's three defaults.
use mathlib.Core.Path.{refl, ◌∙◌, ap, ap₂}
use mathlib.Core.Bool.{Bool, ◌||◌}
use mathlib.Core.List.{[]}
use Prim.Native.Nat.{ℕ}
use native.Mathlib.Omega.{arith}
use lib.Dec.{eqb, leb}
use lib.IntN.{neg_ℤ}
use Rattle.integers.specs.Bounds.{Within}
use Rattle.rules.specs.declared.Reason.TheVariants.{NoGoodUnit}
use Rattle.rules.specs.Standings.{standing}
use Rattle.interval.specs.Lent.{Lent}
use Rattle.answer.specs.Asked.{lent_members}
use Rattle.answer.specs.Residual.{RowsWithin, performances_there}
use Rattle.answer.proofs.MadeLaws.{made_same}
use Rattle.answer.proofs.ResidualLaws.{rows_toward, residual_is, held_within, turned_fits, turned_back}
use Rattle.answer.proofs.residual.region_member.Goals as goal
use Rattle.answer.proofs.residual.region_member.Goals.{After-performance_place, After-rows_held-held, Start}

abbrev start : After-performance_place → Start
start c = (goal.at.After-performance_place c).Start

abbrev rows : Start → Lent
rows s = lent_members [] s.args.homes.now s.args.rows.now

within : (c : After-performance_place) → RowsWithin c.performance_place.result (start c).args.units (rows (start c))
within c = rows_toward (start c).args.direction c.performance_place.ensures (start c).requires.1

summed : (c : After-rows_held-held) → Within 2_880_000_000_000_000_000 c.rows_held-held.result.sum
summed c =
    let a = (start (goal.at.After-rows_held-held c).After-performance_place).args in
    rw c.rows_held-held.ensures.performed (held_within (within (goal.at.After-rows_held-held c).After-performance_place) a.region a.units (omega arith))

pub rows_held-held-requires : goal.rows_held-held-requires
rows_held-held-requires c = within (goal.at.rows_held-held-requires c).After-performance_place

pub reliable-sound-requires : goal.reliable-sound-requires
reliable-sound-requires c = let s = start (goal.at.reliable-sound-requires c).After-performance_place in (s.requires.0, s.requires.1.figures)

pub overflow_sub-held : goal.overflow_sub-held
overflow_sub-held c = turned_fits (summed (goal.at.overflow_sub-held c).After-rows_held-held)

pub with_defaults-requires : goal.with_defaults-requires
with_defaults-requires c = let s = start (goal.at.with_defaults-requires c).After-performance_place in (s.requires.0, s.requires.1.figures)

pub returns : goal.returns
returns c =
    let a = (start (goal.at.returns c).After-performance_place).args in
    let holds = c.rows_held-held.ensures in
    c.with_defaults.ensures
    ∙ made_same
    (c.standing_of-standing.ensures ∙ ap₂ (λ (x y : Bool). standing x y NoGoodUnit) c.reliable-sound.ensures
    (c.some_good_or_none-fine.ensures ∙ ap₂ (λ (g n : ℕ). leb 1 g || eqb n 0) holds.good holds.rows))
    (turned_back (summed (goal.at.returns c).After-rows_held-held) ∙ ap neg_ℤ holds.performed
    ∙ ap (λ (at : ℕ). neg_ℤ (performances_there at a.region a.units (rows (start (goal.at.returns c).After-performance_place)))) c.performance_place.ensures
    ∙ residual_is a.direction a.region a.units (rows (start (goal.at.returns c).After-performance_place)))
    refl
    refl
    refl
