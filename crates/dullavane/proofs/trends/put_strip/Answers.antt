-- Three stores in a row are the three numbers.
use native.Mathlib.Omega.{arith}
use lib.ListN.{length-set}
use Rattle.dullavane.proofs.AskedLaws.{three_stores}
use Rattle.dullavane.proofs.trends.put_strip.Goals as goal

pub bounds-strip-1 : goal.bounds-strip-1
bounds-strip-1 c = omega (arith, length-set c.args.strip.now 0 c.args.found.lowest, c.requires)

pub returns : goal.returns
returns c = let f = c.args.found in three_stores c.args.strip.now f.lowest f.highest f.last c.requires
