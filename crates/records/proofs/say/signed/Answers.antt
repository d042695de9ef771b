-- By the sign; each test tells what the cast or the call asks.
use mir.Facts.{to_z-of_z}
use Rattle.integers.proofs.Tests.{ltZ_true, ltZ_false}
use Rattle.integers.proofs.Casts.{to_unsigned}
use Rattle.records.proofs.say.signed.Goals as goal

pub size-requires : goal.size-requires
size-requires c =
    rw (to_z-of_z c.ranges.x) (
      ltZ_false (simp (to_z-of_z c.ranges.x) at c.if-x-ltminus1000000000000000000.false),
      ltZ_true (simp (to_z-of_z c.ranges.x) at c.if-x-lt0.true),
    )

pub overflow_cast-x : goal.overflow_cast-x
overflow_cast-x c =
    simp (to_z-of_z c.ranges.x) (to_unsigned tt c.ranges.x (ltZ_false (simp (to_z-of_z c.ranges.x) at c.if-x-lt0.false)))
