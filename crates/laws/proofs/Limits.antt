-- What a record that was taken satisfies: each field is within its limit (01, The book). Laws of the rules ask for these facts and for nothing else of a book.
use mathlib.Core.Path.{◌≡◌}
use mathlib.Core.Bool.{true}
use Prim.Native.Nat.{ℕ, ◌*◌, ◌≤◌, ◌<◌}
use lib.IntN.{ℤ, pos, ◌-ℤ◌}
use lib.ListN.{length, get_or}
use lib.Signed.{◌≤ℤ◌}
use Rattle.integers.specs.Bounds.{Within}
use Rattle.integers.specs.Totals.{All}
use Rattle.rules.specs.declared.Direction.{Direction}
use Rattle.rules.specs.Quantities.{
  points,
  regions,
  most_units,
  nominal,
  measure_limit,
  power_limit,
  amount_limit,
  deviation_limit,
  unit_default_limit,
  residual_default_limit,
  price_limit,
  cost_limit,
}
use Rattle.rules.specs.Book.{by, Settings, Defaults, Region, Unit, Requirement, Book, regionOf}
use Rattle.rules.specs.Fields.{good_at}
use Rattle.rules.specs.Plants.{Plant}

pub record SettingsFit (s : Settings) : Type 0 where
  pub smoothing_least : 1 ≤ s.smoothing
  pub smoothing : s.smoothing ≤ 10_000
  pub limit : s.limit ≤ points
  pub percent : s.percent ≤ 100

-- at most 0, and at least minus the limit
pub record DefaultFits (limit : ℕ) (x : ℤ) : Type 0 where
  pub size : Within limit x
  pub sign : x ≤ℤ pos 0

pub record DefaultsFit (limit : ℕ) (f : Defaults) : Type 0 where
  pub payment : DefaultFits limit f.payment
  pub used : DefaultFits limit f.used
  pub unused : DefaultFits limit f.unused

pub record RegionFits (r : Region) : Type 0 where
  pub before : Within measure_limit r.before
  pub generation : r.generation ≤ amount_limit
  pub defaults : (d : Direction) → DefaultsFit residual_default_limit (by d r.defaults)
  pub frequency : (t : ℕ) → t < points → good_at r.quality t ≡ true → Within measure_limit (pos nominal -ℤ pos (get_or r.frequency t 0))

pub record UnitFits (u : Unit) : Type 0 where
  pub region : u.region < regions
  pub start : Within power_limit u.start
  pub end : Within power_limit u.end
  pub defaults : (d : Direction) → DefaultsFit unit_default_limit (by d u.defaults)
  pub reading : (t : ℕ) → t < points → Within power_limit (get_or u.reading t (pos 0))

-- so much for each of its units
pub record PlantFits (p : Plant) : Type 0 where
  pub region : p.region < regions
  pub some : 1 ≤ p.units
  pub defaults : (d : Direction) → DefaultsFit unit_default_limit (by d p.defaults)
  pub deviation : (t : ℕ) → t < points → Within (p.units * deviation_limit) (p.deviation t)

pub record RequirementFits (q : Requirement) : Type 0 where
  pub set : q.set ≤ 31
  pub price : q.price ≤ price_limit
  pub cost : q.cost ≤ cost_limit
  pub enabled : q.enabled ≤ amount_limit
  pub used : q.used ≤ amount_limit

pub record BookFits (b : Book) : Type 0 where
  pub settings : SettingsFit b.settings
  pub region : (r : ℕ) → r < regions → RegionFits (regionOf b r)
  pub roster : All UnitFits b.roster
  pub few : length b.roster ≤ most_units
  pub requirements : All RequirementFits b.requirements
