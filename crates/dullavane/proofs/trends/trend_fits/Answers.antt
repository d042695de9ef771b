-- Both tests, one after the other.
use mathlib.Core.Path.{refl}
use borrow.Author.Tests.{lt-leb, le-leb}
use Rattle.dullavane.proofs.trends.trend_fits.Goals as goal

pub returns-then-strip-lt-STRIP_NUMBERS : goal.returns-then-strip-lt-STRIP_NUMBERS
returns-then-strip-lt-STRIP_NUMBERS c = rw (lt-leb 3 c.args.strip c.if-strip-lt-STRIP_NUMBERS.true) refl

pub returns : goal.returns
returns c = rw (le-leb 3 c.args.strip c.if-strip-lt-STRIP_NUMBERS.false) refl
