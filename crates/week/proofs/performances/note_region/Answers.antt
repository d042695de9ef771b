-- `each` is one of ten, as the function was asked.
use native.Mathlib.Omega.{arith}
use Rattle.week.proofs.performances.note_region.Goals as goal
use Rattle.week.proofs.performances.note_region.Goals.{After-answer, After-note_rows-noted, Start}

abbrev start_of : After-answer → Start
start_of c = (goal.at.After-answer c).Start

abbrev answered_in : After-note_rows-noted → After-answer
answered_in c = (goal.at.After-note_rows-noted c).After-answer

pub overflow_add-each : goal.overflow_add-each
overflow_add-each c = omega (arith, (start_of (answered_in (goal.at.overflow_add-each c).After-note_rows-noted)).requires)

pub offset_bounds-done-each : goal.offset_bounds-done-each
offset_bounds-done-each c = omega (arith, (start_of (answered_in (goal.at.offset_bounds-done-each c).After-note_rows-noted)).requires)

pub bounds-done-each : goal.bounds-done-each
bounds-done-each c = omega (arith, (start_of (answered_in (goal.at.bounds-done-each c).After-note_rows-noted)).requires)

pub overflow_add-live : goal.overflow_add-live
overflow_add-live c = omega (arith, (start_of (answered_in (goal.at.overflow_add-live c).After-note_rows-noted)).requires)

pub bounds-live-each : goal.bounds-live-each
bounds-live-each c = omega (arith, (start_of (answered_in (goal.at.bounds-live-each c).After-note_rows-noted)).requires)
