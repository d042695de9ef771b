-- Sixteen stores in a row are the sixteen words.
use borrow.Author.Rules.{rules}
use native.Mathlib.Nat.{lt_of_lt_of_le}
use mathlib.Core.Path.{◌∙◌}
use Prim.Native.Nat.{◌<◌}
use lib.Dec.{lit<}
use lib.ListN.{length-set}
use Rattle.dullavane_listing.proofs.CursorLaws.{sixteen_stores}
use Rattle.dullavane_listing.proofs.words.put_words.Goals as goal
use Rattle.dullavane_listing.proofs.words.put_words.Goals.{After-struct_known-1, After-struct_known-2-1, After-struct_known-3-1}

fits_number : (c : After-struct_known-1) → c.args.given.number < 65_536
fits_number c = search rules

fits_set : (c : After-struct_known-2-1) → c.args.given.set < 256
fits_set c = search rules

fits_members : (c : After-struct_known-3-1) → c.args.given.members < 65_536
fits_members c = search rules

pub bounds-words-1 : goal.bounds-words-1
bounds-words-1 c = simp length-set (lt_of_lt_of_le (lit< tt) c.requires)

pub bounds-words-2 : goal.bounds-words-2
bounds-words-2 c = simp length-set (lt_of_lt_of_le (lit< tt) c.requires)

pub bounds-words-3 : goal.bounds-words-3
bounds-words-3 c = simp length-set (lt_of_lt_of_le (lit< tt) c.requires)

pub bounds-words-4 : goal.bounds-words-4
bounds-words-4 c = simp length-set (lt_of_lt_of_le (lit< tt) c.requires)

pub bounds-words-5 : goal.bounds-words-5
bounds-words-5 c = simp length-set (lt_of_lt_of_le (lit< tt) c.requires)

pub bounds-words-6 : goal.bounds-words-6
bounds-words-6 c = simp length-set (lt_of_lt_of_le (lit< tt) c.requires)

pub bounds-words-7 : goal.bounds-words-7
bounds-words-7 c = simp length-set (lt_of_lt_of_le (lit< tt) c.requires)

pub bounds-words-8 : goal.bounds-words-8
bounds-words-8 c = simp length-set (lt_of_lt_of_le (lit< tt) c.requires)

pub bounds-words-9 : goal.bounds-words-9
bounds-words-9 c = simp length-set (lt_of_lt_of_le (lit< tt) c.requires)

pub bounds-words-10 : goal.bounds-words-10
bounds-words-10 c = simp length-set (lt_of_lt_of_le (lit< tt) c.requires)

pub bounds-words-11 : goal.bounds-words-11
bounds-words-11 c = simp length-set (lt_of_lt_of_le (lit< tt) c.requires)

pub bounds-words-12 : goal.bounds-words-12
bounds-words-12 c = simp length-set (lt_of_lt_of_le (lit< tt) c.requires)

pub bounds-words-13 : goal.bounds-words-13
bounds-words-13 c = simp length-set (lt_of_lt_of_le (lit< tt) c.requires)

pub bounds-words-14 : goal.bounds-words-14
bounds-words-14 c = simp length-set (lt_of_lt_of_le (lit< tt) c.requires)

pub bounds-words-15 : goal.bounds-words-15
bounds-words-15 c = simp length-set (lt_of_lt_of_le (lit< tt) c.requires)

pub returns : goal.returns
returns c =
    let a = c.args in
    let g = a.given in (
      sixteen_stores a.words.now a.written a.stage a.requirement a.row a.before g.number c.direction_number-direction.result g.set
          g.members g.rcr g.pool g.used.pool g.unused.pool g.used.unplaced g.unused.unplaced c.standing_number-standing.result c.requires
          ∙ rw (c.direction_number-direction.ensures, c.standing_number-standing.ensures),
      record { number = fits_number (goal.at.returns c).After-struct_known-1; set = fits_set (goal.at.returns c).After-struct_known-2-1; members = fits_members (goal.at.returns c).After-struct_known-3-1 },
    )
