-- By the field.
use borrow.Author.Rules.{sfits_of}
use mir.Syntax.{w64}
use mir.Facts.{to_z-of_z}
use Rattle.answer.proofs.made.value.Goals as goal

pub returns-in-Payment : goal.returns-in-Payment
returns-in-Payment c = rw c.in-Payment.is (to_z-of_z {w = w64} (sfits_of c.struct_told-1.given.1.0.1))

pub returns-in-Used : goal.returns-in-Used
returns-in-Used c = rw c.in-Used.is (to_z-of_z {w = w64} (sfits_of c.struct_told-in-Used-1.given.1.1.0.1))

pub returns-in-Unused : goal.returns-in-Unused
returns-in-Unused c = rw c.in-Unused.is (to_z-of_z {w = w64} (sfits_of c.struct_told-in-Unused-1.given.1.1.1.0.1))
