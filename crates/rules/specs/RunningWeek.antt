-- The running week (02, R-7), for a box that cannot keep 2,016 intervals of every member: what is kept of those seen so far, an interval added, and
-- count and default read at any time.
use Rattle.std.specs.Prelude.{Bool, ◌&&◌, ℕ, zero, suc, ◌+◌, ◌*◌, ◌/◌, ◌%◌, leb, ltb}
use Rattle.integers.specs.Sums.{one}
use Rattle.rules.specs.declared.Refusal.TheVariants.{WrongState, WrongCount, WrongWeek}
use Rattle.rules.specs.declared.RunningWeek.{RunningWeek}
use Rattle.rules.specs.declared.WeekDefault.{WeekDefault}
use Rattle.rules.specs.declared.Whose.{Whose}
use Rattle.rules.specs.Quantities.{most_units, performance_limit}
use Rattle.rules.specs.Refusals.{Reply, taken, unless, ◌>>=◌}
use Rattle.rules.specs.Week.{Interval, is_live, shortfall, in_reach, whose_fine, most_intervals, default_reply}

-- the total stands in two digits: what a residual can reach in one interval is the base
abbrev pub base : ℕ
base = most_units * performance_limit

abbrev pub running : ℕ → ℕ → ℕ → RunningWeek
running seen n total = record { seen = seen; live = n; high = total / base; low = total % base }

abbrev pub total_in : RunningWeek → ℕ
total_in r = r.high * base + r.low

-- before the first interval
abbrev pub fresh : RunningWeek
fresh = running 0 0 0

-- a record that some run of calls leaves: no more live than seen, and a total that so many live ones can reach
unfoldable pub left_by_a_run : RunningWeek → Bool
left_by_a_run r =
    leb r.live r.seen
    && (leb r.seen most_intervals
    && (ltb r.low base
    && leb (total_in r) (r.live * base)))

-- one interval more
abbrev pub with_interval : RunningWeek → Interval → RunningWeek
with_interval r x = running (r.seen + 1) (r.live + one (is_live x)) (total_in r + shortfall x)

unfoldable pub add_reply : Whose → Interval → RunningWeek → Reply RunningWeek
add_reply m x r =
    unless (left_by_a_run r) WrongState
    (unless (whose_fine m) WrongCount
    (unless (ltb r.seen most_intervals && in_reach m x) WrongWeek
    (taken (with_interval r x))))

unfoldable pub read_reply : Whose → RunningWeek → Reply WeekDefault
read_reply m r =
    unless (left_by_a_run r) WrongState (unless (whose_fine m) WrongCount (default_reply m (total_in r) r.live))

-- the intervals w 0 to w (n - 1) added one after another, each as that of the member m 0 to m (n - 1)
unfoldable pub run : (ℕ → Whose) → ℕ → (ℕ → Interval) → Reply RunningWeek
run m zero w = taken fresh
run m (suc n) w = run m n w >>= add_reply (m n) (w n)
