-- Each turn lays one region behind those that are laid already.
use Rattle.rules.specs.Written.{region_laid}
use Rattle.writer.specs.Values.{region_values}
use Rattle.writer.proofs.PutLaws.{Run}
use Rattle.writer.proofs.write.lay_regions.Given as goal

abbrev pub invariant-loop-region : goal.invariant-loop-region
invariant-loop-region l = Run 64 5 (region_laid (region_values l.rows l.qualities l.frequencies)) l.initial.book l.region l.book
