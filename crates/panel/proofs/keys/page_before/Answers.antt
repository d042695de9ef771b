-- `keys::page_before`: each way out is one case of where the page stands.
use mathlib.Core.Path.{sym}
use native.Mathlib.Nat.{le_of_lt}
use Rattle.panel.proofs.KeysLaws.{other_book, other_requirement, past, within}
use Rattle.panel.proofs.keys.page_before.Goals as goal

pub returns-then-page-book : goal.returns-then-page-book
returns-then-page-book c = let a = c.args in sym (other_book a.page a.book a.requirement a.members c.if-page-book.true)

pub returns-then-page-requirement : goal.returns-then-page-requirement
returns-then-page-requirement c =
    let a = c.args in sym (other_requirement a.page a.book a.requirement a.members c.if-page-requirement.true)

pub returns-then-members-page : goal.returns-then-members-page
returns-then-members-page c =
    let a = c.args in
    sym (past a.page a.book a.requirement a.members c.if-page-book.false c.if-page-requirement.false (le_of_lt c.if-members-page.true))

pub returns : goal.returns
returns c =
    let a = c.args in
    sym (within a.page a.book a.requirement a.members c.if-page-book.false c.if-page-requirement.false c.if-members-page.false)
