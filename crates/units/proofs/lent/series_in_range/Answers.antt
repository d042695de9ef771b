-- A region past the last reads nothing; else each list is tested from the region's start on.
use Rattle.std.proofs.Common.{sym, ◌∙◌, le-ltb, lt-ltb}
use Rattle.units.proofs.lent.series_in_range.Goals as goal

pub returns-then-region-ge-NO_REGION : goal.returns-then-region-ge-NO_REGION
returns-then-region-ge-NO_REGION c = rw (le-ltb _ _ c.if-region-ge-NO_REGION.true)

pub returns-then-not-each_measure_within : goal.returns-then-not-each_measure_within
returns-then-not-each_measure_within c =
    rw (lt-ltb _ _ c.if-region-ge-NO_REGION.false, sym c.each_measure_within.ensures ∙ c.if-not-each_measure_within.true)

pub returns : goal.returns
returns c =
    rw (lt-ltb _ _ c.if-region-ge-NO_REGION.false, sym c.each_measure_within.ensures ∙ c.if-not-each_measure_within.false) c.each_within.ensures
