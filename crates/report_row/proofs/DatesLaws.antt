-- Laws of the definitions in specs/Dates.antt: a date of the calendar is written like one.
use Prim.Native.Nat.{ℕ, ◌≤◌}
use Rattle.rules.specs.Calendar.{Date, date_after}
use Rattle.report_row.specs.Dates.{Dated, last_day}
use Rattle.report_row.proofs.CalendarLaws.{CalendarDate, date_inside, to_31}

pub calendar_dated : {x : Date} → CalendarDate x → Dated x
calendar_dated {x} c =
    record {
      from_2000 = c.from_2000;
      to_9999 = c.to_9999;
      from_january = c.from_january;
      to_december = c.to_december;
      from_first = c.from_first;
      to_last = to_31 x c;
    }

pub dated_inside : (d : ℕ) → d ≤ last_day → Dated (date_after d)
dated_inside d h = calendar_dated (date_inside d h)
