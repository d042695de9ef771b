-- `lower` meets its contract: what the upper half holds is a multiple of a word.
use Rattle.std.proofs.Common.{ℕ, ◌+◌, ◌*◌, ◌/◌, ◌%◌, ◌^◌, ◌<◌, ◌≤◌, ◌∙◌, mul-le-mul, arith}
use Rattle.share.proofs.Rates.{half, halves, lower_is}
use Rattle.share.proofs.part.lower.Goals as goal
use Rattle.share.proofs.part.lower.Goals.{Start}

module _ (c : Start) where
  abbrev x : ℕ
  x = c.args.x

  abbrev y : ℕ
  y = c.args.y

  low : x % half * (y % half) + half ≤ 18_446_744_073_709_551_615
  low = halves (x % half) (y % half) (omega arith) (omega arith)

  -- the numbers are below 2^63, so that the middle products are
  cross : (a b : ℕ) → a < 2 ^ 63 → a / half * (b % half) < 2 ^ 63
  cross a b h =
      let p : a / half ≤ 2_147_483_647 = omega arith in
      let q : b % half ≤ 4_294_967_295 = omega arith in
      omega (arith, mul-le-mul p q)

  across : (a b : ℕ) → b < 2 ^ 63 → a % half * (b / half) < 2 ^ 63
  across a b h =
      let p : a % half ≤ 4_294_967_295 = omega arith in
      let q : b / half ≤ 2_147_483_647 = omega arith in
      omega (arith, mul-le-mul p q)

pub returns : goal.returns
returns c = c.wrapping_add_u64.ensures.value ∙ lower_is c.args.x c.args.y
