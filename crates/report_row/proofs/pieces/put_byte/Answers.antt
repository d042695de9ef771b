-- The byte goes right before what stands.
use Rattle.report_row.proofs.PutLaws.{put_one}
use Rattle.report_row.proofs.pieces.put_byte.Goals as goal

pub returns : goal.returns
returns c = put_one c.args.byte c.requires
