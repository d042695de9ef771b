-- Laws of the definitions in specs/Weighing.antt.
use Rattle.std.proofs.Common.{◌≡◌, ℕ, ◌+◌, ◌<◌, ◌≤◌, Bool, true, false, cond, ltb, leb, List, length, refl, arith, leb-false}
use Rattle.integers.specs.Sums.{count}
use Rattle.rules.specs.Quantities.{weight_limit}
use Rattle.rules.specs.Share.{weight_at}
use Rattle.share.specs.Weighing.{limited}

abbrev pub weighty : List ℕ → ℕ
weighty xs = count (length xs) (λ i. ltb 0 (weight_at xs i))

-- a sum over the limit is told as such, and one within it as it is
pub over_limit : (W r : ℕ) → r ≡ limited W → weight_limit < r → weight_limit < W
over_limit W r e h = go (leb W weight_limit) refl e
  where
    go : (t : Bool) → leb W weight_limit ≡ t → r ≡ cond t W (weight_limit + 1) → weight_limit < W
    go true f e = omega arith
    go false f e = leb-false W weight_limit f

pub within_limit : (W r : ℕ) → r ≡ limited W → r ≤ weight_limit → r ≡ W
within_limit W r e h = go (leb W weight_limit) e
  where
    go : (t : Bool) → r ≡ cond t W (weight_limit + 1) → r ≡ W
    go true e = e
    go false e = absurd (omega arith)
