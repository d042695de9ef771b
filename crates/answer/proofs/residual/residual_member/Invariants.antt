-- Before a region the residual is that of the regions passed.
use mathlib.Core.Path.{◌≡◌}
use Prim.Native.Nat.{◌≤◌}
use Rattle.answer.specs.Asked.{lent_members}
use Rattle.answer.specs.Residual.{residual_to}
use Rattle.answer.proofs.residual.residual_member.Given as goal

abbrev pub invariant-loop-region : goal.invariant-loop-region
invariant-loop-region l =
    (l.region ≤ 5) × (l.sum ≡ residual_to l.units (lent_members l.figures l.homes l.rows) l.direction l.set l.region)
