-- What the functions of the calendar promise each other: a date as the code holds it, and as the rules do.
use Rattle.std.specs.Prelude.{Bool, ℕ, ◌≤◌}
use Rattle.rules.specs.Calendar.{Date as RulesDate, Fallen, falls, month_days}
use Rattle.report_row.specs.declared.calendar.Date.{Date}

abbrev pub date_of : Date → RulesDate
date_of d = record { year = d.year; month = d.month; day = d.day }

-- a day of the years 2000 to 9999, or one that is written like one: a month may have fewer days
pub record Dated (d : RulesDate) : Type 0 where
  pub from_2000 : 2_000 ≤ d.year
  pub to_9999 : d.year ≤ 9_999
  pub from_january : 1 ≤ d.month
  pub to_december : d.month ≤ 12
  pub from_first : 1 ≤ d.day
  pub to_last : d.day ≤ 31

-- 31/12/9999, by the days from 01/01/2000 on
abbrev pub last_day : ℕ
last_day = 2_921_939

-- where a day falls among the months of a year, from 0
abbrev pub month_in : Bool → ℕ → Fallen
month_in leap day = falls (month_days leap) 11 0 day
