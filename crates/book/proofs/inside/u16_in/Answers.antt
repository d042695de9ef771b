-- One byte, and one after it.
use native.Mathlib.Omega.{arith}
use Rattle.laws.proofs.BytesLaws.{number_parts}
use Rattle.book.proofs.inside.u16_in.Goals as goal

pub returns : goal.returns
returns c = omega (arith, number_parts 1 1 c.args.place c.args.bytes.now)
