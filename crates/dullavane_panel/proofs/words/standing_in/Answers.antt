-- Each number's standing is computed; past the named ones it is the last.
use native.Mathlib.Omega.{arith}
use Rattle.dullavane_panel.proofs.WordsLaws.{last_standing}
use Rattle.dullavane_panel.proofs.words.standing_in.Goals as goal

pub returns-in-1 : goal.returns-in-1
returns-in-1 c = rw c.in-1.is

pub returns-in-2 : goal.returns-in-2
returns-in-2 c = rw c.in-2.is

pub returns-in_default : goal.returns-in_default
returns-in_default c = last_standing _ (omega arith) (omega arith) (omega arith)
