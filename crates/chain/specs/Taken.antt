-- What proofs/Taken.antt speaks of.
use Rattle.std.specs.Prelude.{◌≡◌, true, List, ℕ, ◌+◌, ◌≤◌, ◌<◌}
use Rattle.rules.specs.Quantities.{most_units, most_requirements}
use Rattle.rules.specs.Refusals.{Reply, taken, ◌>>=◌}
use Rattle.rules.specs.Book.{Region, Unit}
use Rattle.rules.specs.Contents.{Counts, items}
use Rattle.rules.specs.FrequencyRecord.{frequency_record}
use Rattle.rules.specs.UnitRecord.{unit_record}
use Rattle.rules.specs.Groups.{in_its_group}
use Rattle.interval.specs.declared.Tally.{Tally}
use Rattle.interval.specs.Tally.{next_region, units_taken, before_units, units_end}
use Rattle.interval.specs.Lent.{Lent, group_fits}
use Rattle.chain.specs.Long.{Long}

-- ---- the records in their bytes
abbrev pub counts_in : List ℕ → Counts
counts_in bs = record { units = items 32 bs; requirements = items 44 bs }

pub record CountsFit (c : Counts) : Type 0 where
  pub units : c.units ≤ most_units
  pub some : 1 ≤ c.requirements
  pub requirements : c.requirements ≤ most_requirements

-- ---- a unit's record, behind the units before it, the last of them first
abbrev pub unit_behind : List Unit → ℕ → List ℕ → Reply Unit
unit_behind before least bs = unit_record least bs >>= in_its_group before

-- ---- what the tests of a call that took its record have shown
pub record FrequencyTaken (t : Tally) (p : List ℕ) (l : Lent) (x : Region) : Type 0 where
  pub first : 1 ≤ t.records
  pub last : t.records < before_units
  pub long : Long l 0
  pub record_taken : frequency_record (next_region t) p ≡ taken x

pub record UnitTaken (t : Tally) (p : List ℕ) (l : Lent) (u : Unit) : Type 0 where
  pub first : before_units ≤ t.records
  pub last : t.records < units_end t
  pub long : Long l (units_taken t + 1)
  pub record_taken : unit_record t.least p ≡ taken u
  pub group : group_fits (units_taken t) u l ≡ true
