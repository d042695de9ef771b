-- `keys::page_after`: each arm knows its key, and each way of `next` and `previous` how the page stands to the end.
use mathlib.Core.Path.{sym}
use native.Mathlib.Omega.{arith}
use Rattle.panel.proofs.KeysLaws.{next_goes, next_stays}
use Rattle.panel.proofs.keys.page_after.Goals as goal

pub returns-then-page-last : goal.returns-then-page-last
returns-then-page-last c = rw c.in-Next.is (sym (next_goes _ _ c.if-page-last.true))

pub returns-else-page-last : goal.returns-else-page-last
returns-else-page-last c = rw c.in-Next.is (sym (next_stays _ _ c.if-page-last.false))

pub returns-then-page-gt0 : goal.returns-then-page-gt0
returns-then-page-gt0 c = rw c.in-Previous.is

pub returns-else-page-gt0 : goal.returns-else-page-gt0
returns-else-page-gt0 c = rw c.in-Previous.is (omega arith)
