-- Past the end stands 0, by the law of numbers that start there.
use mathlib.Core.Path.{sym}
use Rattle.laws.proofs.BytesLaws.{byte_is, number_past}
use Rattle.little.proofs.u8_at.Goals as goal

pub returns-then-bytes-place : goal.returns-then-bytes-place
returns-then-bytes-place c = record { reply = sym (number_past 1 c.args.place c.args.bytes.now c.if-bytes-place.true) }

pub returns : goal.returns
returns c = record { reply = sym (byte_is c.args.place c.args.bytes.now) }
