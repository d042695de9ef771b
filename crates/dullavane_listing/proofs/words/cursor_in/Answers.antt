-- The stage settles which cursor the words hold.
use mathlib.Core.Path.{sym, ◌∙◌, ap}
use Prim.Native.Nat.{ℕ}
use native.Mathlib.Omega.{arith}
use lib.ListN.{get_or}
use Rattle.rules.specs.Refusals.{taken}
use Rattle.answer.specs.declared.Answer.{Answer}
use Rattle.lister.specs.declared.Cursor.TheVariants as at
use Rattle.dullavane_listing.specs.Cursor.{cursor_at}
use Rattle.dullavane_listing.proofs.CursorLaws.{last_stage}
use Rattle.dullavane_listing.proofs.words.cursor_in.Goals as goal

pub returns-in-0 : goal.returns-in-0
returns-in-0 c =
    c.requires.cursor ∙ ap (λ (n : ℕ). taken (cursor_at n c.args.words.now)) c.in-0.is

pub returns-in-1 : goal.returns-in-1
returns-in-1 c =
    c.requires.cursor ∙ ap (λ (n : ℕ). taken (cursor_at n c.args.words.now)) c.in-1.is

pub returns-in-2 : goal.returns-in-2
returns-in-2 c =
    c.requires.cursor
    ∙ ap (λ (n : ℕ). taken (cursor_at n c.args.words.now)) c.in-2.is
    ∙ ap (λ (a : Answer). taken (at.Answered (get_or c.args.words.now 2 0) a)) (sym c.answer_in.ensures)

pub returns-in_default : goal.returns-in_default
returns-in_default c =
    let ws = c.args.words.now in
    c.requires.cursor
    ∙ ap taken (sym (last_stage _ ws (omega arith) (omega arith) (omega arith)))
    ∙ ap (λ (a : Answer). taken (at.Members (get_or ws 2 0) a (get_or ws 3 0) (get_or ws 4 0))) (sym c.answer_in-in_default.ensures)
