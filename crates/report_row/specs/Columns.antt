-- Date and time of an interval's end, as the two functions put them: by the days from 01/01/2000 on, and by the intervals of the day.
use Rattle.std.specs.Prelude.{List, ◌++◌, ℕ, ◌*◌, ◌/◌, ◌%◌}
use Rattle.rules.specs.Text.{text}
use Rattle.rules.specs.Calendar.{Date, date_after, hour_intervals, interval_minutes}
use Rattle.rules.specs.declared.Figure.{Figure}
use Rattle.rules.specs.ReportRow.{padded, billionths, performance_text, type_text}

abbrev pub day_text : Date → List ℕ
day_text d = padded 2 d.day ++ (text "/" ++ (padded 2 d.month ++ (text "/" ++ padded 4 d.year)))

abbrev pub date_text : ℕ → List ℕ
date_text days = day_text (date_after days)

abbrev pub time_text : ℕ → List ℕ
time_text slot = padded 2 (slot / hour_intervals) ++ (text ":" ++ (padded 2 (interval_minutes * (slot % hour_intervals)) ++ text ":00"))

-- a performance and its type, each with a comma behind it
abbrev pub figure_text : Figure → List ℕ
figure_text f = performance_text (billionths f.performance) ++ (text "," ++ (type_text f.typed ++ text ","))
