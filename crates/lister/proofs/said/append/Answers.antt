-- Where the line has room, the word is put behind the first bytes.
use native.Mathlib.Omega.{arith}
use Rattle.lister.proofs.SaidLaws.{said_put, said_nothing}
use Rattle.lister.proofs.said.append.Goals as goal

pub returns-then-text-done : goal.returns-then-text-done
returns-then-text-done c = said_nothing c.requires.0 (omega (arith, c.if-text-done.true))

pub returns : goal.returns
returns c =
    said_put c.requires.0 (omega (arith, c.if-text-done.false)) c.put_word.ensures
