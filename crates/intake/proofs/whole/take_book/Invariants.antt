-- The invariant: what has come is an input, and the reading of it a walk that wants more. Each turn that wants more again has come further.
use Prim.Native.Nat.{◌-◌}
use Rattle.interval.specs.Lent.{lent_unit}
use Rattle.reader.specs.declared.Came.TheVariants.{Wants}
use Rattle.reader.specs.Arrives.{ReadFrom}
use Rattle.reader.proofs.ReadFrom.{position}
use Rattle.intake.proofs.whole.take_book.Given as goal

abbrev pub invariant-loop-reading : goal.invariant-loop-reading
invariant-loop-reading g l =
    ReadFrom l.alone l.initial.bytes
    (lent_unit l.initial.measures l.initial.sums l.initial.figures l.initial.numbers l.initial.homes l.initial.rows l.initial.groups l.initial.deviations)
    (Wants l.reading) l.bytes
    (lent_unit l.measures l.sums l.figures l.numbers l.homes l.rows l.groups l.deviations)

abbrev pub decreases-loop-reading : goal.decreases-loop-reading
decreases-loop-reading g l = 210_000 - position l.reading
