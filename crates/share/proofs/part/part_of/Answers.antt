-- `part_of` meets its contract: the estimate leaves less than twice the sum, so that it is the quotient or one less; the quotient is at most the
-- total.
use Rattle.std.proofs.Common.{◌≡◌, ℕ, ◌+◌, ◌-◌, ◌*◌, ◌^◌, ◌<◌, ◌≤◌, mul-le-mul_left, le_of_mul-le-mul_right, arith}
use Rattle.integers.specs.Division.{Divided}
use Rattle.rules.specs.Quantities.{weight_limit}
use Rattle.share.specs.declared.part.Rate.{Rate}
use Rattle.share.specs.Rates.{total_of, Rated}
use Rattle.share.proofs.Rates.{estimate_few, left_by, with_whole}
use Rattle.share.proofs.part.part_of.Goals as goal
use Rattle.share.proofs.part.part_of.Goals.{After-upper-q, After-wrapping_sub_u64-over, Else-over-rate, Start}

-- an estimate that is right, and one that is one too small
right : (T w W p o : ℕ) → T * w ≡ p * W + o → o < W → Divided (T * w) W p o
right T w W p o e h = record { is = e; small = h }

one_short : (T w W p o : ℕ) → T * w ≡ p * W + o → W ≤ o → o < 2 * W → Divided (T * w) W (p + 1) (o - W)
one_short T w W p o e h l = record { is = omega (arith, e); small = omega arith }

-- and neither is more than the total
at_most : (T w W p o : ℕ) → T * w ≡ p * W + o → w ≤ W → 0 < W → p ≤ T
at_most T w W p o e h some = le_of_mul-le-mul_right {k = W} (omega (arith, e, mul-le-mul_left T h)) some

below : (a b : ℕ) → a ≤ b → b ≤ weight_limit → a < 2 ^ 63
below a b h l = omega arith

-- what is known at the estimate
module _ (c : After-upper-q) where
  abbrev S : Start
  S = (goal.at.After-upper-q c).Start

  abbrev rate : Rate
  rate = S.args.rate

  abbrev w : ℕ
  w = S.args.weight

  abbrev rated : Rated rate
  rated = S.requires.0

  short : c.upper-q.result ≤ rate.rest
  short = estimate_few rate rated w c.upper-q.result S.requires.1 c.upper-q.ensures

-- and of what it leaves over
module _ (c : After-wrapping_sub_u64-over) where
  abbrev at : After-upper-q
  at = (goal.at.After-wrapping_sub_u64-over c).After-upper-q

  abbrev whole : ℕ
  whole = (rate at).whole * w at + at.upper-q.result

  abbrev over : ℕ
  over = c.wrapping_sub_u64-over.result

  leaves : ((rate at).rest * w at ≡ at.upper-q.result * (rate at).sum + over) × (over < 2 * (rate at).sum)
  leaves =
      left_by (rate at) (rated at) (w at) at.upper-q.result (S at).requires.1 at.upper-q.ensures c.lower.result c.lower-2.result
      over c.lower.ensures c.lower-2.ensures c.wrapping_sub_u64-over.type_inv c.wrapping_sub_u64-over.ensures.value

  all : total_of (rate at) * w at ≡ whole * (rate at).sum + over
  all =
      with_whole (rate at) (rated at) (w at) at.upper-q.result (S at).requires.1 at.upper-q.ensures over leaves.0

  few : whole ≤ total_of (rate at)
  few =
      at_most (total_of (rate at)) (w at) (rate at).sum whole over all (S at).requires.1 (some (rate at).rest (rate at).sum (rated at).below)
    where
      some : (r W : ℕ) → r < W → 0 < W
      some r W h = omega arith

next_one : (c : Else-over-rate) → Divided (total_of (rate (at (goal.at.Else-over-rate c).After-wrapping_sub_u64-over)) * w (at (goal.at.Else-over-rate c).After-wrapping_sub_u64-over))
    (rate (at (goal.at.Else-over-rate c).After-wrapping_sub_u64-over)).sum (whole (goal.at.Else-over-rate c).After-wrapping_sub_u64-over + 1)
    (over (goal.at.Else-over-rate c).After-wrapping_sub_u64-over - (rate (at (goal.at.Else-over-rate c).After-wrapping_sub_u64-over)).sum)
next_one c =
    one_short (total_of (rate (at (goal.at.Else-over-rate c).After-wrapping_sub_u64-over))) (w (at (goal.at.Else-over-rate c).After-wrapping_sub_u64-over)) (rate (at (goal.at.Else-over-rate c).After-wrapping_sub_u64-over)).sum (whole (goal.at.Else-over-rate c).After-wrapping_sub_u64-over) (over (goal.at.Else-over-rate c).After-wrapping_sub_u64-over) (all (goal.at.Else-over-rate c).After-wrapping_sub_u64-over) c.if-over-rate.false (leaves (goal.at.Else-over-rate c).After-wrapping_sub_u64-over).1

pub returns-then-over-rate : goal.returns-then-over-rate
returns-then-over-rate c =
    right (total_of (rate (at (goal.at.returns-then-over-rate c).After-wrapping_sub_u64-over))) (w (at (goal.at.returns-then-over-rate c).After-wrapping_sub_u64-over)) (rate (at (goal.at.returns-then-over-rate c).After-wrapping_sub_u64-over)).sum (whole (goal.at.returns-then-over-rate c).After-wrapping_sub_u64-over) (over (goal.at.returns-then-over-rate c).After-wrapping_sub_u64-over) (all (goal.at.returns-then-over-rate c).After-wrapping_sub_u64-over) c.if-over-rate.true

pub returns : goal.returns
returns c = next_one (goal.at.returns c).Else-over-rate
