-- Used, capped at enabled, is at most 2,000,000, so the product is at most 2·10^18.
use mathlib.Core.Path.{◌∙◌, ap}
use Prim.Native.Nat.{ℕ, ◌*◌, ◌≤◌}
use native.Mathlib.Nat.{mul-le-mul}
use native.Mathlib.Omega.{arith}
use borrow.Author.Tests.{eq-eqb, ne_eqb}
use Rattle.integers.specs.Nearest.{nearestℕ}
use Rattle.answer.proofs.pools.used_pool.Goals as goal
use Rattle.answer.proofs.pools.used_pool.Goals.{After-lesser-capped, Start}

abbrev start : After-lesser-capped → Start
start c = (goal.at.After-lesser-capped c).Start

capped : (c : After-lesser-capped) → c.lesser-capped.result ≤ 2_000_000
capped c = omega (arith, c.lesser-capped.ensures, (start c).requires.1)

pub returns-then-not-reliable : goal.returns-then-not-reliable
returns-then-not-reliable c = rw (c.if-not-reliable.true)

pub returns-then-enabled-eq0 : goal.returns-then-enabled-eq0
returns-then-enabled-eq0 c = let a = c.args in rw (c.if-not-reliable.false, eq-eqb a.enabled 0 c.if-enabled-eq0.true)

pub overflow_mul-cost : goal.overflow_mul-cost
overflow_mul-cost c = omega (arith, mul-le-mul (start (goal.at.overflow_mul-cost c).After-lesser-capped).requires.0 (capped (goal.at.overflow_mul-cost c).After-lesser-capped))

pub nearest_cent-requires : goal.nearest_cent-requires
nearest_cent-requires c =
    (omega (arith, mul-le-mul (start (goal.at.nearest_cent-requires c).After-lesser-capped).requires.0 (capped (goal.at.nearest_cent-requires c).After-lesser-capped)), omega (arith, c.if-enabled-eq0.false), omega (arith, (start (goal.at.nearest_cent-requires c).After-lesser-capped).requires.1))

pub returns : goal.returns
returns c =
    let a = (start (goal.at.returns c).After-lesser-capped).args in
    rw (c.if-not-reliable.false, ne_eqb a.enabled 0 c.if-enabled-eq0.false)
    (c.nearest_cent.ensures ∙ ap (λ (n : ℕ). nearestℕ (a.cost * n) a.enabled) c.lesser-capped.ensures)
