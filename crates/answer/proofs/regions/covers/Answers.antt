-- The set shifted down by the region and masked by 1 is the bit of the definition.
use Rattle.laws.proofs.RecordLaws.{bit_masked}
use Rattle.answer.proofs.regions.covers.Goals as goal

pub returns : goal.returns
returns c = bit_masked c.args.region c.args.set
