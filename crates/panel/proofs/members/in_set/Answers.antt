-- The set shifted down by the region and masked by 1 is the bit of the definition.
use Prim.Native.Nat.{◌/◌}
use Rattle.laws.proofs.RecordLaws.{bit_masked}
use Rattle.panel.proofs.members.in_set.Goals as goal

pub returns : goal.returns
returns c = bit_masked (c.args.home / 2) c.args.set
