-- Members (01, The rules; 02, R-5): a requirement's members are the plants of its regions in roster order, then one residual.
use Rattle.std.specs.Prelude.{Bool, not, ◌||◌, List, [], ◌∷◌, ◌++◌, map, ℕ, ℤ}
use Rattle.integers.specs.Sums.{sum, every, when}
use Rattle.rules.specs.declared.Direction.{Direction}
use Rattle.rules.specs.declared.Standing.{Standing}
use Rattle.rules.specs.declared.Reason.TheVariants.{NoGoodUnit}
use Rattle.rules.specs.Quantities.{regions}
use Rattle.rules.specs.Book.{by, Defaults, Requirement, covers, Book, regionOf}
use Rattle.rules.specs.Reliability.{reliable_in}
use Rattle.rules.specs.Plants.{Plant, plants, plants_in}
use Rattle.rules.specs.Performance.{plant_performance, residual_performance}
use Rattle.rules.specs.Standings.{standing, plant_standing, some_good_or_none, residual_standing, live_or}

-- a group goes by its primary's unit number
pub data Name : Type 0 where
  unit : ℕ → Name
  residual : Name

-- a member, with the numbers that its shares go by: its performance, or the default that stands in, for payment and for use; its unused default
pub record Member : Type 0 where
  pub name : Name
  pub standing : Standing
  pub payment : ℤ
  pub used : ℤ
  pub unused : ℤ

unfoldable pub plant_member : Book → Direction → Plant → Member
plant_member b d p =
    let s = plant_standing b d p in
    let x = plant_performance b d p in
    let f = by d p.defaults in
    record { name = unit p.number; standing = s; payment = live_or s x f.payment; used = live_or s x f.used; unused = f.unused }

-- over the regions of a requirement: a sum, and a test that each has to pass
abbrev pub over_regions : Requirement → (ℕ → ℤ) → ℤ
over_regions q f = sum regions (λ r. when (covers q r) (f r))

abbrev pub each_region : Requirement → (ℕ → Bool) → Bool
each_region q p = every regions (λ r. not (covers q r) || p r)

-- a region's residual, live or default
abbrev pub residual_or : Book → Direction → (Defaults → ℤ) → ℕ → ℤ
residual_or b d field r = live_or (residual_standing b d r) (residual_performance b d r) (field (by d (regionOf b r).defaults))

-- one residual, whose performance is the sum of its regions' residuals, live or default, and whose unused default is the sum of theirs; it counts as default if
-- any is
unfoldable pub residual_member : Book → Requirement → Member
residual_member b q =
    let d = q.direction in
    record {
      name = residual;
      standing = standing (each_region q (reliable_in b d)) (each_region q (some_good_or_none b)) NoGoodUnit;
      payment = over_regions q (residual_or b d (λ f. f.payment));
      used = over_regions q (residual_or b d (λ f. f.used));
      unused = over_regions q (λ r. (by d (regionOf b r).defaults).unused);
    }

abbrev pub plants_among : Book → Requirement → List Plant
plants_among b q = plants_in (covers q) (plants b.roster)

unfoldable pub members : Book → Requirement → List Member
members b q = map (plant_member b q.direction) (plants_among b q) ++ (residual_member b q ∷ [])
