-- Defaults from seven days of record (02, R-7; the Procedure, 6.4.1): the sum of min(0, performance) over the intervals with a live value, divided
-- by their number. A week is that of one member in one direction: n intervals, w 0 to w (n - 1).
use Rattle.std.specs.Prelude.{Bool, true, false, cond, ◌&&◌, List, ℕ, zero, suc, ◌+◌, ◌*◌, ◌/◌, ◌%◌, leb, ℤ, pos, neg_ℤ, length, get_or}
use Rattle.integers.specs.Pairs.{loss}
use Rattle.integers.specs.Sums.{sumℕ, count, every}
use Rattle.integers.specs.Nearest.{nearestℕ}
use Rattle.rules.specs.declared.Refusal.TheVariants.{TooShort, WrongCount, AverageTooLow, WrongWeek}
use Rattle.rules.specs.declared.WeekDefault.{WeekDefault}
use Rattle.rules.specs.declared.Whose.{Whose}
use Rattle.rules.specs.declared.Whose.TheVariants as whose
use Rattle.rules.specs.Quantities.{most_units, performance_limit, unit_default_limit, residual_default_limit}
use Rattle.rules.specs.Bytes.{bit}
use Rattle.rules.specs.Fields.{sized}
use Rattle.rules.specs.Refusals.{Reply, taken, unless}

-- seven days of five minutes
abbrev pub most_intervals : ℕ
most_intervals = 2_016

-- an interval of the record: live with a performance, or not
pub data Interval : Type 0 where
  live : ℤ → Interval
  not_live : Interval

abbrev pub interval : Bool → ℤ → Interval
interval is p = cond is (live p) not_live

-- ---- who the member is
-- a group has 1 to 512 units
abbrev pub whose_fine : Whose → Bool
whose_fine whose.Unit = true
whose_fine (whose.Group k) = leb 1 k && leb k most_units
whose_fine whose.Residual = true

-- what a live performance can reach either way: a residual's is that of 512 units
abbrev pub reach : Whose → ℕ
reach whose.Unit = performance_limit
reach (whose.Group k) = k * performance_limit
reach whose.Residual = most_units * performance_limit

-- the limit of its default's field in a book; a group's default stands at its primary
abbrev pub default_limit : Whose → ℕ
default_limit whose.Unit = unit_default_limit
default_limit (whose.Group k) = unit_default_limit
default_limit whose.Residual = residual_default_limit

-- ---- one interval
abbrev pub is_live : Interval → Bool
is_live (live p) = true
is_live not_live = false

-- minus min(0, performance) of a live one: a performance above 0 counts and adds 0
abbrev pub shortfall : Interval → ℕ
shortfall (live p) = loss p
shortfall not_live = 0

-- a live performance is within a limit; what stands at an interval that is not live is not looked at
abbrev pub within : ℕ → Interval → Bool
within limit (live p) = sized limit p
within limit not_live = true

abbrev pub in_reach : Whose → Interval → Bool
in_reach m x = within (reach m) x

-- ---- the week
abbrev pub live_count : ℕ → (ℕ → Interval) → ℕ
live_count n w = count n (λ i. is_live (w i))

-- it may pass 64 bits
abbrev pub live_total : ℕ → (ℕ → Interval) → ℕ
live_total n w = sumℕ n (λ i. shortfall (w i))

-- the nearest of a total over so many live intervals, as a size; none gives 0
abbrev pub average : ℕ → ℕ → ℕ
average total zero = 0
average total (suc n) = nearestℕ total (suc n)

-- how many intervals are live, and the default
abbrev pub default_of : ℕ → ℕ → WeekDefault
default_of total n = record { count = n; default = neg_ℤ (pos (average total n)) }

-- at most 2,016 intervals, and no live performance that such a member cannot have
abbrev pub week_fine : Whose → ℕ → (ℕ → Interval) → Bool
week_fine m n w = leb n most_intervals && every n (λ i. in_reach m (w i))

-- the rounded average is not below the limit of its book field
abbrev pub average_fine : Whose → ℕ → ℕ → Bool
average_fine m total n = leb (average total n) (default_limit m)

-- what is read off a total over so many live intervals
abbrev pub default_reply : Whose → ℕ → ℕ → Reply WeekDefault
default_reply m total n = unless (average_fine m total n) AverageTooLow (taken (default_of total n))

unfoldable pub week_reply : Whose → ℕ → (ℕ → Interval) → Reply WeekDefault
week_reply m n w =
    unless (whose_fine m) WrongCount (unless (week_fine m n w) WrongWeek (default_reply m (live_total n w) (live_count n w)))

-- ---- the week as it is lent: a list of performances, and a bit for each that says if it is live
-- the bit for interval i is bit i mod 8 of byte i div 8, as quality bits are laid out
abbrev pub live_bit : List ℕ → ℕ → Bool
live_bit bits i = bit (i % 8) (get_or bits (i / 8) 0)

abbrev pub interval_at : List ℤ → List ℕ → ℕ → Interval
interval_at ps bits i = interval (live_bit bits i) (get_or ps i (pos 0))

-- the bytes that hold n bits
abbrev pub bytes_for : ℕ → ℕ
bytes_for n = (n + 7) / 8

unfoldable pub list_reply : Whose → List ℤ → List ℕ → Reply WeekDefault
list_reply m ps bits =
    unless (leb (bytes_for (length ps)) (length bits)) TooShort (week_reply m (length ps) (interval_at ps bits))
