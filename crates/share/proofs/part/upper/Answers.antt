-- `upper` meets its contract: each product of two halves fits a word, with the carry beside it, and the columns add up to the product.
use Rattle.std.proofs.Common.{ℕ, ◌+◌, ◌*◌, ◌/◌, ◌%◌, ◌^◌, ◌<◌, ◌≤◌, arith}
use Rattle.share.proofs.Rates.{half, halves, middle, next, upper_is, upper_small}
use Rattle.share.proofs.part.upper.Goals as goal
use Rattle.share.proofs.part.upper.Goals.{Start}

module _ (c : Start) where
  abbrev x : ℕ
  x = c.args.x

  abbrev y : ℕ
  y = c.args.y

  low : x % half * (y % half) + half ≤ 18_446_744_073_709_551_615
  low = halves (x % half) (y % half) (omega arith) (omega arith)

  cross : x / half * (y % half) + half ≤ 18_446_744_073_709_551_615
  cross = halves (x / half) (y % half) (omega (arith, c.ranges.x)) (omega arith)

  across : x % half * (y / half) + half ≤ 18_446_744_073_709_551_615
  across = halves (x % half) (y / half) (omega arith) (omega (arith, c.ranges.y))

  all : x / half * (y / half) + middle x y / half + next x y / half < 2 ^ 64
  all = upper_small x y c.ranges.x.fits c.ranges.y.fits

pub returns : goal.returns
returns c = upper_is c.args.x c.args.y
