-- Laws of the definitions in specs/Pools.antt.
use mathlib.Core.Path.{◌≡◌, refl, sym, ◌∙◌}
use mathlib.Core.Bool.{Bool, true, false, cond}
use mathlib.Core.List.{List}
use Prim.Native.Nat.{ℕ, ◌≤◌, ◌<◌}
use native.Mathlib.Omega.{arith}
use lib.Dec.{eqb, leb}
use borrow.Author.Tests.{le-leb, lt-leb, ne_eqb, eqb-true}
use Rattle.integers.specs.Totals.{totalℕ}
use Rattle.integers.proofs.Totals.{total_indexes}
use Rattle.rules.specs.declared.Direction.TheVariants.{Raise}
use Rattle.rules.specs.Quantities.{total_limit, price_limit}
use Rattle.rules.specs.Share.{unplaced, unplaced_of}
use Rattle.laws.proofs.ShareLaws.{not_zero}
use Rattle.rules.specs.Cents.{any_weight}
use Rattle.laws.proofs.CentsLaws.{priced_within, used_pool_≤}
use Rattle.answer.specs.Pools.{pool_cents, used_cents}

-- within the limit of T, and the used pool within the cost
pub pool_cents_within : (price rcr : ℕ) (up down : Bool) → price ≤ price_limit → rcr ≤ 7_680_000_000 → pool_cents price rcr up down ≤ total_limit
pool_cents_within price rcr true true hp hr = omega (arith, priced_within price rcr hp hr)
pool_cents_within price rcr true false hp hr = omega arith
pool_cents_within price rcr false down hp hr = omega arith

pub used_cents_≤ : (cost enabled used : ℕ) (reliable : Bool) → used_cents cost enabled used reliable ≤ cost
used_cents_≤ cost enabled used reliable =
    used_pool_≤ (record { number = 0; set = 0; direction = Raise; price = 0; cost = cost; enabled = enabled; used = used }) reliable

-- ---- the signs
-- a total above 0 is placed in full where there is weight, and else not at all
pub placed_by_weight : (T : ℕ) (ws : List ℕ) → 0 < T → eqb (unplaced_of T ws) 0 ≡ any_weight ws
unfolding unplaced
placed_by_weight T ws h = rw (total_indexes ws) (go (totalℕ (λ w. w) ws) (eqb (totalℕ (λ w. w) ws) 0) refl)
  where
    go : (W : ℕ) (t : Bool) → eqb W 0 ≡ t → eqb (cond t T 0) 0 ≡ leb 1 W
    go W true e = ne_eqb T 0 (λ z. omega arith) ∙ sym (lt-leb 1 W (omega (arith, eqb-true W 0 e)))
    go W false e = sym (le-leb 1 W (omega (arith, not_zero W e)))
