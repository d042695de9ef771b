-- What each call answers: what it takes of the book, or the refusal, tested in document 01's order: 11 for the tally, 12, 11 for lent numbers, 1,
-- then content by place. What is lent stands as it came.
use Rattle.std.specs.Prelude.{Bool, cond, ◌&&◌, List, ℕ, ◌+◌, eqb, leb, ltb, length, Result, Ok, Err}
use Rattle.rules.specs.declared.Refusal.{Refusal}
use Rattle.rules.specs.declared.Refusal.TheVariants.{WrongState, TooShort, WrongGroup}
use Rattle.rules.specs.declared.Located.{Located}
use Rattle.rules.specs.Refusals.{Reply, taken, refused, unless, located, ◌>>=◌}
use Rattle.rules.specs.Quantities.{points}
use Rattle.rules.specs.Book.{Settings, Region, Unit, Requirement}
use Rattle.rules.specs.Contents.{Counts}
use Rattle.rules.specs.SettingsRecord.{settings}
use Rattle.rules.specs.FrequencyRecord.{frequency_record}
use Rattle.rules.specs.UnitRecord.{unit_record}
use Rattle.rules.specs.RequirementRecord.{requirement_record}
use Rattle.interval.specs.declared.Tally.{Tally}
use Rattle.interval.specs.declared.Step.{Step}
use Rattle.interval.specs.Tally.{
  in_range,
  settings_turn,
  frequency_turn,
  unit_turn,
  requirement_turn,
  next_region,
  next_place,
  units_taken,
  units_end,
  book_end,
  most_records,
}
use Rattle.interval.specs.Lent.{
  Lent,
  regions_long,
  rows_long,
  of_interval,
  named_region,
  named_group,
  series_in_range,
  plant_in_range,
  group_fits,
}

-- ---- the table of contents starts a tally
abbrev pub fresh : Counts → Tally
fresh c = record { units = c.units; requirements = c.requirements; records = 0; least = 0; smoothing = 0; limit = 0; percent = 0; interval = 0 }

abbrev pub opened : Reply Counts → Result Tally Refusal
opened (taken c) = Ok (fresh c)
opened (refused r) = Err r

-- ---- a step: the tally that the record leads to, or the one that was handed in
abbrev pub taken_step : Tally → Step
taken_step t = record { tally = t; taking = Ok tt }

abbrev pub stopped_step : Tally → Located → Step
stopped_step t r = record { tally = t; taking = Err r }

-- a refusal names the place of the record that was to be taken
abbrev pub refused_step : Tally → Refusal → Step
refused_step t r = stopped_step t (located (next_place t) r)

abbrev pub stepped : {A : Type 0} → (A → Tally) → Reply A → Tally → Step
stepped next (taken a) t = taken_step (next a)
stepped next (refused r) t = refused_step t r

-- what is left of what was lent
abbrev pub left : {A L : Type 0} → (A → L → L) → Reply A → L → L
left write (taken a) old = write a old
left write (refused r) old = old

-- one record more, and the least number that the next may have
abbrev pub counted : ℕ → Tally → Tally
counted least t =
    record {
      units = t.units;
      requirements = t.requirements;
      records = t.records + 1;
      least = least;
      smoothing = t.smoothing;
      limit = t.limit;
      percent = t.percent;
      interval = t.interval;
    }

-- a tally that counts as many records as a book can have counts no further
unfoldable pub count_step : ℕ → Tally → Step
count_step least t = cond (ltb t.records most_records) (taken_step (counted least t)) (refused_step t WrongState)

-- ---- settings
unfoldable pub settings_reply : Tally → List ℕ → Reply Settings
settings_reply t part = unless (in_range t && settings_turn t) WrongState (settings part)

abbrev pub settled : Tally → Settings → Tally
settled t s =
    record {
      units = t.units;
      requirements = t.requirements;
      records = 1;
      least = 0;
      smoothing = s.smoothing;
      limit = s.limit;
      percent = s.percent;
      interval = s.interval;
    }

-- ---- a frequency record
unfoldable pub frequency_reply : Tally → List ℕ → Lent → Reply Region
frequency_reply t part l =
    unless (in_range t && frequency_turn t) WrongState
    (unless (regions_long l) TooShort
    (frequency_record (next_region t) part))

-- ---- a unit
-- long enough for one unit more, and for the deviations of a group
abbrev pub unit_long : ℕ → Lent → Bool
unit_long n l =
    regions_long l && (leb n (length l.numbers) && (rows_long n l && (leb n (length l.groups) && leb points (length l.deviations))))

-- the unit of a record, where it may stand in its group
abbrev pub in_lent_group : ℕ → Lent → Unit → Reply Unit
in_lent_group n l u = unless (group_fits n u l) WrongGroup (taken u)

unfoldable pub unit_reply : Tally → List ℕ → Lent → Reply Unit
unit_reply t part l =
    unless (in_range t && unit_turn t) WrongState
    (unless (unit_long (units_taken t + 1) l) TooShort
    (unless (of_interval t.interval l.figures
    && (series_in_range (named_region part) (units_taken t) l && plant_in_range (named_group part) (units_taken t) l)) WrongState
    (unit_record t.least part >>= in_lent_group (units_taken t) l)))

-- after the last unit the first requirement may have any number
abbrev pub least_after : Tally → ℕ → ℕ
least_after t number = cond (eqb (t.records + 1) (units_end t)) 0 (number + 1)

abbrev pub unit_counted : Tally → Unit → Tally
unit_counted t u = counted (least_after t u.number) t

-- ---- a requirement
unfoldable pub requirement_reply : Tally → List ℕ → Reply Requirement
requirement_reply t part = unless (in_range t && requirement_turn t) WrongState (requirement_record t.least (eqb (t.records + 1) (book_end t)) part)
