-- A number that is not below a power of ten has more digits than that power has zeros.
use lib.Dec.{lit≤}
use Rattle.listing.proofs.PiecesLaws.{digits_some, digits_least}
use Rattle.lister.proofs.least.least_digits.Goals as goal

pub returns-then-n-lt100 : goal.returns-then-n-lt100
returns-then-n-lt100 c = digits_some 19 c.args.n

pub returns-then-n-lt10000 : goal.returns-then-n-lt10000
returns-then-n-lt10000 c = digits_least 20 2 c.args.n (lit≤ tt) c.if-n-lt100.false

pub returns-then-n-lt1000000 : goal.returns-then-n-lt1000000
returns-then-n-lt1000000 c = digits_least 20 4 c.args.n (lit≤ tt) c.if-n-lt10000.false

pub returns-then-n-lt100000000 : goal.returns-then-n-lt100000000
returns-then-n-lt100000000 c = digits_least 20 6 c.args.n (lit≤ tt) c.if-n-lt1000000.false

pub returns-then-n-lt10000000000 : goal.returns-then-n-lt10000000000
returns-then-n-lt10000000000 c = digits_least 20 8 c.args.n (lit≤ tt) c.if-n-lt100000000.false

pub returns : goal.returns
returns c = digits_least 20 10 c.args.n (lit≤ tt) c.if-n-lt10000000000.false
