-- A byte is a number of one byte.
use mathlib.Core.Path.{sym}
use Rattle.laws.proofs.BytesLaws.{byte_is}
use Rattle.book.proofs.inside.byte_in.Goals as goal

pub returns : goal.returns
returns c = sym (byte_is c.args.place c.args.bytes.now)
