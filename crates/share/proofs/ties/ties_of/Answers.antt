-- `ties_of` meets its contract: W is the divisor times what is apart, which has one bit more than are shifted out.
use Rattle.std.proofs.Common.{◌≡◌, ℕ, zero, suc, ◌+◌, ◌-◌, ◌*◌, ◌/◌, ◌^◌, ◌<◌, ◌≤◌, sym, ap, ◌∙◌, mul-le-mul_left, div-le_self, mul-div_cancel, arith}
use native.Mathlib.Nat.{mul-lt-mul_of_pos_left}
use lib.Count.{count_leading_zeros, leading_top}
use Rattle.integers.specs.Multiples.{Common}
use Rattle.share.specs.Keys.{Tied}
use Rattle.share.proofs.ties.ties_of.Goals as goal
use Rattle.share.proofs.ties.ties_of.Goals.{After-common-divisor}

-- W over the divisor
module _ (c : After-common-divisor) where
  abbrev W : ℕ
  W = c.args.sum

  abbrev g : ℕ
  g = c.common-divisor.result

  abbrev divides : Common W c.args.total g
  divides = c.common-divisor.ensures

  apart : W / g * g ≡ W
  apart =
      ap (λ (z : ℕ). z / g * g) divides.left.is ∙ ap (λ (z : ℕ). z * g) (mul-div_cancel divides.left.times divides.some)
      ∙ sym divides.left.is

  some : 0 < W / g
  some = go (W / g) apart
    where
      go : (k : ℕ) → k * g ≡ W → 0 < k
      go zero e = absurd (omega (arith, c.requires.0))
      go (suc k) e = omega arith

  top : (j : ℕ) × (count_leading_zeros 64 (W / g) + suc j ≡ 64) × (2 ^ j ≤ W / g) × (W / g < 2 ^ suc j)
  top = leading_top 64 (W / g) some (omega (arith, div-le_self W g, c.ranges.sum.fits))

tied : (T W g k z j : ℕ) → Common W T g → k * g ≡ W → z + suc j ≡ 64 → 2 ^ j ≤ k → k < 2 ^ suc j → Tied T W (record { most = g - 1; shift = 63 - z })
tied T W g k z j c e f low high =
    let same : g - 1 + 1 ≡ g = omega (arith, c.some) in
    let bits : 63 - z ≡ j = omega arith in
    record {
      common = rw same c;
      low = rw (same, bits) (omega (arith, mul-le-mul_left g low));
      high = rw (same, bits) (omega (arith, mul-lt-mul_of_pos_left {m = k} {n = 2 * 2 ^ j} {k = g} (omega arith) c.some));
      small = omega arith;
    }

pub returns : goal.returns
returns c =
    tied c.args.total (W (goal.at.returns c).After-common-divisor) (g (goal.at.returns c).After-common-divisor) (W (goal.at.returns c).After-common-divisor / g (goal.at.returns c).After-common-divisor) (count_leading_zeros 64 (W (goal.at.returns c).After-common-divisor / g (goal.at.returns c).After-common-divisor)) (top (goal.at.returns c).After-common-divisor).0 (divides (goal.at.returns c).After-common-divisor) (apart (goal.at.returns c).After-common-divisor) (top (goal.at.returns c).After-common-divisor).1 (top (goal.at.returns c).After-common-divisor).2 (top (goal.at.returns c).After-common-divisor).3
