-- Each turn lays one unit behind those that are laid already.
use Rattle.rules.specs.Written.{unit_laid}
use Rattle.writer.specs.Values.{unit_values}
use Rattle.writer.proofs.PutLaws.{Run}
use Rattle.writer.proofs.write.lay_units.Given as goal

abbrev pub invariant-loop-unit : goal.invariant-loop-unit
invariant-loop-unit l = Run 1904 l.units (unit_laid (unit_values l.rows l.qualities l.readings)) l.initial.book l.unit l.book
