-- Each number's key is computed; any other draws again.
use native.Mathlib.Omega.{arith}
use Rattle.dullavane_panel.proofs.WordsLaws.{other_key}
use Rattle.dullavane_panel.proofs.words.key_in.Goals as goal

pub returns-in_default : goal.returns-in_default
returns-in_default c = other_key _ (omega arith) (omega arith) (omega arith)
