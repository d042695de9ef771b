-- What has come is behind the start, as far as there is room.
use Rattle.reader.proofs.ReadingLaws.{from_end, from_start, wanted_says}
use Rattle.reader.proofs.step.wanted.Goals as goal

pub returns-then-to-start : goal.returns-then-to-start
returns-then-to-start c =
    let a = c.args in
    let to = c.within-to.ensures in
    wanted_says a.reading a.alone a.room c.span-span.ensures.value to
    (from_end c.span-span.result a.room to c.within-start.ensures c.if-to-start.true)

pub returns : goal.returns
returns c =
    let a = c.args in
    let to = c.within-to.ensures in
    wanted_says a.reading a.alone a.room c.span-span.ensures.value to
    (from_start c.span-span.result a.room to c.within-start.ensures c.if-to-start.false)
