-- The tests of a roster's weeks, for all members one after another, and what is written when none refuses.
use Rattle.std.specs.Prelude.{◌≡◌, Bool, true, cond, List, ℕ, ◌*◌, ◌≤◌, ◌<◌, ℤ, length, get_or, Result, Ok, Err, ⊤}
use Rattle.integers.specs.Sums.{every}
use Rattle.rules.specs.declared.Refusal.{Refusal}
use Rattle.rules.specs.declared.Refusal.TheVariants.{WrongWeek, AverageTooLow}
use Rattle.rules.specs.declared.WeekDefault.{WeekDefault}
use Rattle.rules.specs.Week.{whose_fine, week_fine, average_fine, week_reply, bytes_for}
use Rattle.rules.specs.WeekRoster.{whose_of, member, member_interval, member_total, member_count, member_default, counts_after, defaults_after}
use Rattle.weeks.specs.Promises.{told_of}

-- 17 where a week is wrong, else 14 where an average is too low, by what the tests say of weeks and averages
abbrev pub judgement : Bool → Bool → Result ⊤ Refusal
judgement weeks averages = cond weeks (cond averages (Ok tt) (Err AverageTooLow)) (Err WrongWeek)

-- every member is a unit, a residual or a group of 1 to 512
pub record AllFine (ms : List ℕ) : Type 0 where
  pub all : every (length ms) (λ j. whose_fine (whose_of (get_or ms j 0))) ≡ true

module _ (n : ℕ) (ms : List ℕ) (ps : List ℤ) (bits : List ℕ) where
  -- the lists hold every member's week
  pub record Long : Type 0 where
    pub weeks : length ms * n ≤ length ps
    pub bytes : length ms * bytes_for n ≤ length bits

  abbrev pub member_told : ℕ → Result WeekDefault Refusal
  member_told j = told_of (week_reply (member n ms ps bits j) n (member_interval n ms ps bits j))

  -- the tests of one member's week, and of the first so many
  abbrev pub weeks_fine : ℕ → Bool
  weeks_fine j = week_fine (member n ms ps bits j) n (member_interval n ms ps bits j)

  abbrev pub averages_fine : ℕ → Bool
  averages_fine j = average_fine (member n ms ps bits j) (member_total n ms ps bits j) (member_count n ms ps bits j)

  abbrev pub judged : ℕ → Result ⊤ Refusal
  judged k = judgement (every k weeks_fine) (every k averages_fine)

  -- every member is told its default
  pub record AllTold : Type 0 where
    pub all : (j : ℕ) → j < length ms → member_told j ≡ Ok (member_default n ms ps bits j)

  -- the columns are filled with the members' defaults
  pub record ColumnsWritten (counts : List ℕ) (defaults : List ℤ) (counts' : List ℕ) (defaults' : List ℤ) : Type 0 where
    pub counted : counts' ≡ counts_after n ms ps bits counts
    pub averaged : defaults' ≡ defaults_after n ms ps bits defaults
