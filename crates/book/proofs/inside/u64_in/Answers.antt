-- Four bytes, and four after them.
use native.Mathlib.Omega.{arith}
use Rattle.laws.proofs.BytesLaws.{number_parts}
use Rattle.book.proofs.inside.u64_in.Goals as goal

pub returns : goal.returns
returns c =
    let bs = c.args.bytes.now in
    let p = c.args.place in
    omega (arith, number_parts 4 4 p bs)
