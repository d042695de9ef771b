-- Three stores in a row.
use borrow.Author.Rules.{rules}
use native.Mathlib.Omega.{arith}
use lib.ListN.{length-set}
use Rattle.dullavane.proofs.AskedLaws.{three_stores}
use Rattle.dullavane_panel.proofs.words.put_page.Goals as goal

pub bounds-words-1 : goal.bounds-words-1
bounds-words-1 c = simp length-set (omega arith)

pub returns : goal.returns
returns c =
    let a = c.args in
    let p = a.page in
    three_stores a.words.now p.book p.requirement p.page (search rules)
