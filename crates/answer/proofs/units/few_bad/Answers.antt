-- Neither count is over 512, so neither product wraps.
use mathlib.Core.Path.{ap₂}
use Prim.Native.Nat.{ℕ, ◌*◌, ◌≤◌}
use native.Mathlib.Nat.{mul-le-mul}
use native.Mathlib.Omega.{arith}
use lib.Dec.{leb}
use Rattle.integers.proofs.Sums.{count_≤}
use mathlib.Core.List.{[]}
use Rattle.answer.specs.Asked.{lent_members}
use Rattle.answer.specs.Values.{meant}
use Rattle.answer.specs.Rcr.{bad_there}
use Rattle.answer.proofs.units.few_bad.Goals as goal
use Rattle.answer.proofs.units.few_bad.Goals.{After-count_units-found}

all_few : (c : After-count_units-found) → c.count_units-found.result.all ≤ 512
all_few c =
    let a = c.args in
    omega (arith, c.count_units-found.ensures.all, count_≤ a.units (meant a.set (lent_members [] a.homes.now [])))

pub count_units-found-requires : goal.count_units-found-requires
count_units-found-requires c = (c.requires.0, c.requires.2)

pub overflow_mul-result : goal.overflow_mul-result
overflow_mul-result c =
    let a = c.args in
    omega (arith, c.count_units-found.ensures.bad, count_≤ a.units (bad_there a.set (lent_members [] a.homes.now [])))

pub overflow_mul-result-2 : goal.overflow_mul-result-2
overflow_mul-result-2 c =
    omega (arith, mul-le-mul c.requires.1 (all_few (goal.at.overflow_mul-result-2 c).After-count_units-found))

pub returns : goal.returns
returns c =
    ap₂ (λ (b n : ℕ). leb (100 * b) (c.args.percent * n)) c.count_units-found.ensures.bad c.count_units-found.ensures.all
