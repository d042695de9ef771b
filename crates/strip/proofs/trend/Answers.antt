-- 12 for a short list, then what the reader answers.
use mathlib.Core.Path.{sym, ◌∙◌}
use Rattle.rules.specs.UnitRecord.{unit_record}
use Rattle.book.proofs.UnitHeld.{Read, was_read, was_refused}
use Rattle.strip.proofs.TrendLaws.{too_short, in_range, draws, refuses}
use Rattle.strip.proofs.trend.Goals as goal
use Rattle.strip.proofs.trend.Goals.{After-read_unit-read, In-Ok, Start}

abbrev start : After-read_unit-read → Start
start c = (goal.at.After-read_unit-read c).Start

read : (c : In-Ok) → Read (unit_record 0 (start (goal.at.In-Ok c).After-read_unit-read).args.part.now) c.in-Ok.fields
read c = was_read _ _ (sym c.read_unit-read.ensures.reply ∙ c.in-Ok.is)

pub returns-then-points-lt-POINTS : goal.returns-then-points-lt-POINTS
returns-then-points-lt-POINTS c = too_short c.args.part.now c.args.points.now c.if-points-lt-POINTS.true

pub drawn-requires : goal.drawn-requires
drawn-requires c =
    let s = start (goal.at.drawn-requires c).After-read_unit-read in
    (c.if-points-lt-POINTS.false, in_range s.args.part.now s.args.points.now (read (goal.at.drawn-requires c).In-Ok))

pub returns-in-Ok : goal.returns-in-Ok
returns-in-Ok c =
    let s = start (goal.at.returns-in-Ok c).After-read_unit-read in
    draws s.args.part.now s.args.points.now (read (goal.at.returns-in-Ok c).In-Ok) c.if-points-lt-POINTS.false c.drawn.ensures

pub returns-in-Err : goal.returns-in-Err
returns-in-Err c =
    let s = start (goal.at.returns-in-Err c).After-read_unit-read in
    refuses s.args.part.now s.args.points.now c.if-points-lt-POINTS.false (was_refused _ _ (sym c.read_unit-read.ensures.reply ∙ c.in-Err.is))
