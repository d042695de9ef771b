-- RCR, the requirement for corrective response (01, The rules; the Procedure, 7).
use Rattle.std.specs.Prelude.{Bool, cond, not, ◌&&◌, List, ℕ, ◌+◌, ◌*◌, leb, ℤ, pos, ◌*ℤ◌, length}
use Rattle.std.specs.Int.Signed.{lt_z}
use Rattle.integers.specs.Pairs.{gain}
use Rattle.integers.specs.Sums.{largest}
use Rattle.integers.specs.Totals.{totalℕ, those}
use Rattle.rules.specs.declared.Direction.{Direction}
use Rattle.rules.specs.Quantities.{points}
use Rattle.rules.specs.Book.{toward, Requirement, Book, regionOf}
use Rattle.rules.specs.Measure.{measure_in}
use Rattle.rules.specs.Reliability.{reliable_in}
use Rattle.rules.specs.Plants.{Plant, good_plants, residual_deviation}
use Rattle.rules.specs.Members.{over_regions, each_region, plants_among}

-- the requirement's FM sign at a point is the sign of the sum of generation times FM over its regions
unfoldable pub weighed_measure : Book → Requirement → ℕ → ℤ
weighed_measure b q t = over_regions q (λ r. pos (regionOf b r).generation *ℤ measure_in b r t)

abbrev pub right_sign : Book → Requirement → ℕ → Bool
right_sign b q t = lt_z (pos 0) (toward q.direction (weighed_measure b q t))

-- the sum of positive deviations of good plants plus the residual (minus the sum of all good ones) if positive; lower takes the negative ones, sign turned
unfoldable pub response : Direction → List Plant → ℕ → ℕ
response d ps t = totalℕ (λ p. gain (toward d (p.deviation t))) (good_plants ps) + gain (toward d (residual_deviation ps t))

-- none of its regions is unreliable in that direction
unfoldable pub all_reliable : Book → Requirement → Bool
all_reliable b q = each_region q (reliable_in b q.direction)

-- 100·(bad plants) is not more than percent·(plants), both counted over the plants of its regions
abbrev pub few_bad : ℕ → List Plant → Bool
few_bad percent ps = leb (100 * length (those (λ p. not p.good) ps)) (percent * length ps)

-- the largest over the points of the right sign, 0 if none
unfoldable pub rcr : Book → Requirement → ℕ
rcr b q =
    let ps = plants_among b q in
    cond (all_reliable b q && few_bad b.settings.percent ps) (largest points (λ t. cond (right_sign b q t) (response q.direction ps t) 0)) 0
