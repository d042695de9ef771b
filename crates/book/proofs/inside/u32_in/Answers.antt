-- The four bytes are those of the definition, the lowest first.
use native.Mathlib.Omega.{arith}
use Rattle.laws.proofs.BytesLaws.{four_is}
use Rattle.book.proofs.inside.u32_in.Goals as goal

pub returns : goal.returns
returns c =
    let bs = c.args.bytes.now in
    let p = c.args.place in
    omega (arith, four_is p bs)
