-- What the writer promises, and what is told of it.
use mir.Facts.{to_z-of_z}
use Rattle.dullavane.specs.Writing.{handed_in}
use Rattle.dullavane.proofs.WritingLaws.{write_told}
use Rattle.dullavane.proofs.dullavane_write.Goals as goal

pub returns : goal.returns
returns c =
    let a = c.args in
    let f = c.ranges in
    let promise = rw (to_z-of_z f.smoothing, to_z-of_z f.limit, to_z-of_z f.percent, to_z-of_z f.interval) at c.write.ensures.write_promise in
    write_told (handed_in a.smoothing a.limit a.percent a.interval a.region_rows.now a.region_qualities.now a.frequencies.now a.units
    a.unit_rows.now a.unit_qualities.now a.readings.now a.requirements a.requirement_rows.now) a.book.now promise
    c.tell_written.ensures
