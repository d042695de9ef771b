-- A number that is not drawn as hashes fits a signed one.
use mathlib.Core.Path.{◌∙◌}
use native.Mathlib.Omega.{arith}
use borrow.Author.Tests.{le-leb, lt-leb}
use mir.Syntax.{w64}
use Rattle.integers.proofs.Casts.{toZ_small}
use Rattle.panel.proofs.press.unsigned.Goals as goal

pub returns-then-n-ge-ALL_HASHES : goal.returns-then-n-ge-ALL_HASHES
returns-then-n-ge-ALL_HASHES c = rw (le-leb _ _ c.if-n-ge-ALL_HASHES.true)

pub returns : goal.returns
returns c = toZ_small w64 {n = c.args.n} (omega (arith, c.if-n-ge-ALL_HASHES.false)) ∙ rw (lt-leb _ _ c.if-n-ge-ALL_HASHES.false)
