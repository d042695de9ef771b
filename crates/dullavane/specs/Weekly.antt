-- The calls for defaults from seven days of record (02, R-7): a running week stands in two words, a week's count and default in two numbers.
use Rattle.rules.specs.declared.Refusal.{Refusal}
use Rattle.std.specs.Prelude.{◌≡◌, Bool, not, List, ◌∷◌, ℕ, ◌+◌, ◌*◌, ◌/◌, ◌%◌, ◌≤◌, ◌<◌, leb, ltb, eqb, ℤ, pos, length, get_or, drop, Result, Ok, Err}
use Rattle.rules.specs.declared.Refusal.TheVariants.{WrongState, TooShort}
use Rattle.rules.specs.declared.RunningWeek.{RunningWeek}
use Rattle.rules.specs.declared.WeekDefault.{WeekDefault}
use Rattle.rules.specs.Refusals.{Reply, taken, unless, number, ◌>>=◌}
use Rattle.rules.specs.Week.{interval, list_reply}
use Rattle.rules.specs.RunningWeek.{add_reply, read_reply}
use Rattle.rules.specs.WeekRoster.{whose_of, counts_after, defaults_after}
use Rattle.interval.specs.Calls.{left}
use Rattle.weeks.specs.Promises.{where_taken, reply_to}
use Rattle.dullavane.specs.Words.{reply_number}

-- ---- a running week in two words: `low`; then seen, live and `high`, 16 bits each
abbrev pub week_words : ℕ
week_words = 2

abbrev pub fields_of : RunningWeek → ℕ
fields_of r = r.seen + 65_536 * r.live + 4_294_967_296 * r.high

-- words past the two as they were
abbrev pub with_week : RunningWeek → List ℕ → List ℕ
with_week r ws = r.low ∷ fields_of r ∷ drop week_words ws

abbrev pub week_of : List ℕ → RunningWeek
week_of ws =
    record { seen = get_or ws 1 0 % 65_536; live = get_or ws 1 0 / 65_536 % 65_536; high = get_or ws 1 0 / 4_294_967_296; low = get_or ws 0 0 }

-- the running week that words hold, or why they hold none: a bit past the three fields is a record out of range
unfoldable pub week_held : List ℕ → Reply RunningWeek
week_held ws =
    unless (leb week_words (length ws)) TooShort (unless (ltb (get_or ws 1 0) 281_474_976_710_656) WrongState (taken (week_of ws)))

-- ---- a week's count and default in two numbers, and those past them as they were
abbrev pub default_numbers : ℕ
default_numbers = 2

abbrev pub with_default : WeekDefault → List ℤ → List ℤ
with_default d xs = pos d.count ∷ d.default ∷ drop default_numbers xs

-- ---- the calls
-- a member's week
abbrev pub week_answer : ℕ → List ℤ → List ℕ → List ℤ → Reply WeekDefault
week_answer m ps bits xs = unless (leb default_numbers (length xs)) TooShort (list_reply (whose_of m) ps bits)

pub record WeekCalled (m : ℕ) (ps : List ℤ) (bits : List ℕ) (xs : List ℤ) (r : ℕ) (xs' : List ℤ) : Type 0 where
  pub reply : r ≡ reply_number (week_answer m ps bits xs)
  pub numbers : xs' ≡ left with_default (week_answer m ps bits xs) xs

-- a roster's
module _ (n : ℕ) (ms : List ℕ) (ps : List ℤ) (bits counts : List ℕ) (defaults : List ℤ) where
  pub record WeeksCalled (r : ℕ) (counts' : List ℕ) (defaults' : List ℤ) : Type 0 where
    pub reply : r ≡ reply_number (reply_to n ms ps bits counts defaults)
    pub counted : counts' ≡ where_taken (reply_to n ms ps bits counts defaults) (counts_after n ms ps bits counts) counts
    pub averaged : defaults' ≡ where_taken (reply_to n ms ps bits counts defaults) (defaults_after n ms ps bits defaults) defaults

-- an interval added; any flag but 0 says that it is live
abbrev pub flag : ℕ → Bool
flag live = not (eqb live 0)

abbrev pub add_answer : ℕ → ℕ → ℤ → List ℕ → Reply RunningWeek
add_answer m live p ws = week_held ws >>= add_reply (whose_of m) (interval (flag live) p)

pub record WeekAddCalled (m live : ℕ) (p : ℤ) (ws : List ℕ) (r : ℕ) (ws' : List ℕ) : Type 0 where
  pub reply : r ≡ reply_number (add_answer m live p ws)
  pub words : ws' ≡ left with_week (add_answer m live p ws) ws

-- what is read off
abbrev pub read_answer : ℕ → List ℕ → List ℤ → Reply WeekDefault
read_answer m ws xs = unless (leb default_numbers (length xs)) TooShort (week_held ws >>= read_reply (whose_of m))

pub record WeekReadCalled (m : ℕ) (ws : List ℕ) (xs : List ℤ) (r : ℕ) (xs' : List ℤ) : Type 0 where
  pub reply : r ≡ reply_number (read_answer m ws xs)
  pub numbers : xs' ≡ left with_default (read_answer m ws xs) xs

-- ---- what is told of the answers of `weeks`
abbrev pub told_number : Result WeekDefault Refusal → ℕ
told_number (Ok d) = 0
told_number (Err r) = number r

abbrev pub default_after : Result WeekDefault Refusal → List ℤ → List ℤ
default_after (Ok d) xs = with_default d xs
default_after (Err r) xs = xs

abbrev pub added_number : Result RunningWeek Refusal → ℕ
added_number (Ok w) = 0
added_number (Err r) = number r

abbrev pub week_after : Result RunningWeek Refusal → List ℕ → List ℕ
week_after (Ok w) ws = with_week w ws
week_after (Err r) ws = ws

-- words that hold a running week
pub record WeekHeld (ws : List ℕ) : Type 0 where
  pub long : week_words ≤ length ws
  pub narrow : get_or ws 1 0 < 281_474_976_710_656
  pub week : week_held ws ≡ taken (week_of ws)
