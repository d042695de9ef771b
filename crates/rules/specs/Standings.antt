-- A member's standing (01, The rules, Performance; Numbers the box can say no with, last line): live, or default with its reason; unreliable is named first.
use Rattle.std.specs.Prelude.{Bool, true, false, cond, ◌||◌, ℕ, eqb, leb, ℤ, length}
use Rattle.rules.specs.declared.Direction.{Direction}
use Rattle.rules.specs.declared.Reason.{Reason}
use Rattle.rules.specs.declared.Reason.TheVariants.{UnreliableRegion, BadUnit, NoGoodUnit}
use Rattle.rules.specs.declared.Standing.{Standing}
use Rattle.rules.specs.declared.Standing.TheVariants.{Live, Default}
use Rattle.rules.specs.Book.{Book}
use Rattle.rules.specs.Reliability.{reliable_in}
use Rattle.rules.specs.Plants.{Plant, good_plants}
use Rattle.rules.specs.Performance.{plants_of}

-- live unless the region is unreliable or, in a reliable region, something else is amiss
abbrev pub standing : Bool → Bool → Reason → Standing
standing reliable fine why = cond reliable (cond fine Live (Default why)) (Default UnreliableRegion)

-- a plant is live in a direction if it is good and its region reliable there
abbrev pub plant_standing : Book → Direction → Plant → Standing
plant_standing b d p = standing (reliable_in b d p.region) p.good BadUnit

-- a residual is live if the region is reliable and has a good plant or none at all
unfoldable pub some_good_or_none : Book → ℕ → Bool
some_good_or_none b r = leb 1 (length (good_plants (plants_of b r))) || eqb (length (plants_of b r)) 0

abbrev pub residual_standing : Book → Direction → ℕ → Standing
residual_standing b d r = standing (reliable_in b d r) (some_good_or_none b r) NoGoodUnit

abbrev pub is_live : Standing → Bool
is_live Live = true
is_live (Default why) = false

-- otherwise the default stands in
abbrev pub live_or : Standing → ℤ → ℤ → ℤ
live_or Live performance default = performance
live_or (Default why) performance default = default
