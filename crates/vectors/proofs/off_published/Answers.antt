-- `vectors::off_published` is safe: what 32 bits hold fits 64.
use Rattle.std.proofs.Common.{to_z-of_z, w32, w64}
use borrow.Author.Rules.{sfits_of}
use mir.Facts.{sfits_widen}
use Rattle.vectors.proofs.off_published.Goals as goal

pub overflow_cast-measure_held : goal.overflow_cast-measure_held
overflow_cast-measure_held c = let f = sfits_of {w = w32} {z = c.measure_held.result} c.measure_held.type_inv in rw (to_z-of_z f) (sfits_widen {w' = w64} tt f)
