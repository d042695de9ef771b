-- The tally: how far a book is, and which tallies a call refuses with 11 (01, Numbers the box can say no with).
use Rattle.std.specs.Prelude.{Bool, cond, ◌&&◌, ◌||◌, ℕ, ◌+◌, ◌-◌, eqb, leb, ltb}
use Rattle.rules.specs.Quantities.{regions, most_units, most_requirements}
use Rattle.rules.specs.Book.{Settings}
use Rattle.rules.specs.SettingsRecord.{settings_fine}
use Rattle.interval.specs.declared.Tally.{Tally}

abbrev pub settings_of : Tally → Settings
settings_of t = record { smoothing = t.smoothing; limit = t.limit; percent = t.percent; interval = t.interval }

-- the settings and five frequency records come before the units
abbrev pub before_units : ℕ
before_units = 1 + regions

abbrev pub units_end : Tally → ℕ
units_end t = before_units + t.units

abbrev pub book_end : Tally → ℕ
book_end t = units_end t + t.requirements

-- no book has more records
abbrev pub most_records : ℕ
most_records = before_units + most_units + most_requirements

-- how many units were taken, once units may be
abbrev pub units_taken : Tally → ℕ
units_taken t = t.records - before_units

-- the place in its body, from 1, of record m of a book with so many units: the settings, five regions, the units, the requirements (02, R-1)
unfoldable pub record_place : ℕ → ℕ → ℕ
record_place units m =
    cond (ltb m 1) 1
    (cond (ltb m before_units) m
    (cond (ltb (m - before_units) units) (m - before_units + 1) (m - before_units - units + 1)))

-- of the record that comes next
abbrev pub next_place : Tally → ℕ
next_place t = record_place t.units t.records

-- the settings keep their rule once they are taken
abbrev pub settings_kept : Tally → Bool
settings_kept t = eqb t.records 0 || settings_fine (settings_of t)

-- a count over its limit, or a kept field that breaks its rule, is out of range
unfoldable pub in_range : Tally → Bool
in_range t =
    leb t.units most_units
    && (leb 1 t.requirements
    && (leb t.requirements most_requirements
    && (leb t.records (book_end t) && (leb t.least 65_536 && settings_kept t))))

-- ---- whose turn it is
abbrev pub settings_turn : Tally → Bool
settings_turn t = eqb t.records 0

abbrev pub frequency_turn : Tally → Bool
frequency_turn t = leb 1 t.records && ltb t.records before_units

abbrev pub unit_turn : Tally → Bool
unit_turn t = leb before_units t.records && ltb t.records (units_end t)

abbrev pub requirement_turn : Tally → Bool
requirement_turn t = leb (units_end t) t.records && ltb t.records (book_end t)

-- a requirement is answered once all units are in
abbrev pub answer_turn : Tally → Bool
answer_turn t = leb (units_end t) t.records

-- the region whose frequency record comes next
abbrev pub next_region : Tally → ℕ
next_region t = t.records - 1
