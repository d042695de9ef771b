-- Three stores in a row are the three words.
use native.Mathlib.Omega.{arith}
use lib.ListN.{length-set}
use borrow.Author.Rules.{rules}
use Rattle.dullavane.proofs.AskedLaws.{three_stores}
use Rattle.dullavane.proofs.asked.put_row.Goals as goal

pub bounds-words-1 : goal.bounds-words-1
bounds-words-1 c = simp length-set (omega arith)

pub bounds-words-2 : goal.bounds-words-2
bounds-words-2 c = simp length-set (omega arith)

pub returns : goal.returns
returns c = let a = c.args in three_stores a.words.now a.one a.number a.standing (search rules)
