-- The rest of the division tells on which side of the half a / d is, and only one number is so near.
use mathlib.Core.Path.{sym}
use native.Mathlib.Nat.{div-add-mod, div-le_self, mod-lt}
use native.Mathlib.Omega.{arith}
use Rattle.integers.proofs.Nearest.{nearestℕ_only}
use Rattle.answer.proofs.pools.nearest_cent.Goals as goal

pub overflow_mul-a : goal.overflow_mul-a
overflow_mul-a c = omega (arith, mod-lt c.args.a c.requires.1)

pub returns-then-a-d : goal.returns-then-a-d
returns-then-a-d c =
    let a = c.args.a in
    let d = c.args.d in
    sym (nearestℕ_only a d c.requires.1 _ (omega (arith, div-add-mod a d)) (omega (arith, div-add-mod a d)))

pub overflow_add-result : goal.overflow_add-result
overflow_add-result c = omega (arith, div-le_self c.args.a c.args.d)

pub returns : goal.returns
returns c =
    let a = c.args.a in
    let d = c.args.d in
    sym (nearestℕ_only a d c.requires.1 _ (omega (arith, div-add-mod a d)) (omega (arith, div-add-mod a d, mod-lt a c.requires.1)))
