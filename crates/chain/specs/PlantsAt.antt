-- The plants of units that are given by their index (02, R-5): the plant of each unit up to it, and which units are the last of their plant. Proofs of the calls,
-- which take units one by one, stand on it; that it is what `plants` says of the list is `plants_listed` (proofs/PlantsAt.antt).
use Rattle.std.specs.Prelude.{◌≡◌, Bool, true, false, cond, not, ◌&&◌, List, [], ◌∷◌, ℕ, zero, suc, ltb, ℤ, pos}
use Rattle.integers.specs.Sums.{when}
use Rattle.rules.specs.Book.{Unit}
use Rattle.rules.specs.Groups.{same_group}
use Rattle.rules.specs.Plants.{Plant, alone, behind}
use Rattle.interval.specs.Lent.{home, passed_over}

module _ (unit : ℕ → Unit) where
  -- a unit is of the group of the unit before
  abbrev pub joined_at : ℕ → Bool
  joined_at zero = false
  joined_at (suc i) = same_group (unit i).group (unit (suc i)).group

  -- the plant of a unit, up to it
  unfoldable pub plant_at : ℕ → Plant
  plant_at zero = alone (unit 0)
  plant_at (suc i) = behind (plant_at i) (unit (suc i))

  -- what it was before the unit: where the unit joins none, nothing, and good
  abbrev pub good_before : ℕ → Bool
  good_before zero = true
  good_before (suc i) = cond (joined_at (suc i)) (plant_at i).good true

  abbrev pub deviation_before : ℕ → ℕ → ℤ
  deviation_before zero t = pos 0
  deviation_before (suc i) t = when (joined_at (suc i)) ((plant_at i).deviation t)

  -- among n units, unit i is the last of its plant
  abbrev pub ends : ℕ → ℕ → Bool
  ends n i = not (ltb (suc i) n && joined_at (suc i))

  -- its home among them, which is passed over where the next unit joins
  abbrev pub home_at : ℕ → ℕ → ℕ
  home_at n i = cond (ends n i) (home (unit i).region (plant_at i).good) passed_over

  -- a unit is in one region with the unit that it joins
  abbrev pub OneRegion : ℕ → Type 0
  OneRegion zero = zero ≡ zero
  OneRegion (suc i) = joined_at (suc i) ≡ true → (unit i).region ≡ (unit (suc i)).region

  -- the units before unit i, the last of them first
  unfoldable pub units_before : ℕ → List Unit
  units_before zero = []
  units_before (suc i) = unit i ∷ units_before i
