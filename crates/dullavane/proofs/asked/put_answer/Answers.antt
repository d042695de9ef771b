-- Eight stores in a row are the eight words.
use mathlib.Core.Path.{◌∙◌, ap}
use mathlib.Core.List.{◌∷◌}
use Prim.Native.Nat.{ℕ}
use native.Mathlib.Nat.{lt_of_lt_of_le}
use lib.Dec.{lit<}
use lib.ListN.{length-set, drop}
use Rattle.dullavane.proofs.WordsLaws.{eight_stores}
use Rattle.dullavane.specs.Answers.{reply_words}
use Rattle.dullavane.proofs.asked.put_answer.Goals as goal
use Rattle.dullavane.proofs.asked.put_answer.Goals.{After-struct_known-1, Start}

abbrev start : After-struct_known-1 → Start
start c = (goal.at.After-struct_known-1 c).Start

pub bounds-reply-1 : goal.bounds-reply-1
bounds-reply-1 c = simp length-set (lt_of_lt_of_le (lit< tt) (start (goal.at.bounds-reply-1 c).After-struct_known-1).requires)

pub bounds-reply-2 : goal.bounds-reply-2
bounds-reply-2 c = simp length-set (lt_of_lt_of_le (lit< tt) (start (goal.at.bounds-reply-2 c).After-struct_known-1).requires)

pub bounds-reply-3 : goal.bounds-reply-3
bounds-reply-3 c = simp length-set (lt_of_lt_of_le (lit< tt) (start (goal.at.bounds-reply-3 c).After-struct_known-1).requires)

pub bounds-reply-4 : goal.bounds-reply-4
bounds-reply-4 c = simp length-set (lt_of_lt_of_le (lit< tt) (start (goal.at.bounds-reply-4 c).After-struct_known-1).requires)

pub bounds-reply-5 : goal.bounds-reply-5
bounds-reply-5 c = simp length-set (lt_of_lt_of_le (lit< tt) (start (goal.at.bounds-reply-5 c).After-struct_known-1).requires)

pub bounds-reply-6 : goal.bounds-reply-6
bounds-reply-6 c = simp length-set (lt_of_lt_of_le (lit< tt) (start (goal.at.bounds-reply-6 c).After-struct_known-1).requires)

pub bounds-reply-7 : goal.bounds-reply-7
bounds-reply-7 c = simp length-set (lt_of_lt_of_le (lit< tt) (start (goal.at.bounds-reply-7 c).After-struct_known-1).requires)

pub returns : goal.returns
returns c =
    let a = (start (goal.at.returns c).After-struct_known-1).args in
    let g = a.given in
    let ws = a.reply.now in
    eight_stores ws g.members g.rcr g.pool g.used.pool g.unused.pool g.used.unplaced g.unused.unplaced
    c.standing_number-standing.result (start (goal.at.returns c).After-struct_known-1).requires
    ∙ ap (λ (s : ℕ). g.members ∷ g.rcr ∷ g.pool ∷ g.used.pool ∷ g.unused.pool ∷ g.used.unplaced ∷ g.unused.unplaced ∷ s ∷ drop reply_words ws)
    c.standing_number-standing.ensures
