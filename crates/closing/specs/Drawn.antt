-- A book in which a unit is drawn as two, and what becomes of the members of a requirement.
use Rattle.std.specs.Prelude.{◌≡◌, Bool, true, ◌&&◌, List, [], ◌∷◌, ◌++◌, ◌+ℤ◌}
use Rattle.rules.specs.Book.{Unit, Requirement, Book}
use Rattle.rules.specs.Groups.{group_fine}
use Rattle.rules.specs.Plants.{alone, plants}
use Rattle.rules.specs.Members.{Member, plant_member, residual_member, members}
use Rattle.closing.specs.Parts.{Parts}
use Rattle.closing.specs.TwoForOne.{TwoForOne}

-- a book with another roster
abbrev pub with_roster : Book → List Unit → Book
with_roster b us = record { settings = b.settings; regions = b.regions; roster = us; requirements = b.requirements }

-- two books that differ in their rosters alone
abbrev pub SameElse : Book → Book → Type 0
SameElse b c = c ≡ with_roster b c.roster

-- book c is book b with its unit u drawn as x and y, which are its parts: of the plants all others stay, and the two may stand anywhere among them, by numbers
-- of their own
pub record Drawn (b c : Book) (u x y : Unit) : Type 0 where
  pub parts : Parts u x y
  pub places : TwoForOne (alone u) (alone x) (alone y) (plants b.roster) (plants c.roster)
  pub all_else : SameElse b c

-- units behind others, the last of them first: each may stand there (02, R-5), so no group is split. The rosters that the format takes are such.
unfoldable pub whole_groups : List Unit → List Unit → Bool
whole_groups before [] = true
whole_groups before (u ∷ us) = group_fine before u && whole_groups (u ∷ before) us

abbrev pub Unsplit : Book → Type 0
Unsplit b = whole_groups [] b.roster ≡ true

-- the same by the rosters: of the units all others stay, and the two may stand anywhere among them where they split no group
pub record RosterDrawn (b c : Book) (u x y : Unit) : Type 0 where
  pub parts : Parts u x y
  pub places : TwoForOne u x y b.roster c.roster
  pub unsplit : Unsplit c
  pub all_else : SameElse b c

-- two members stand as one does, and what their shares go by adds up to its own
pub record MembersAddUp (m n k : Member) : Type 0 where
  pub first : n.standing ≡ m.standing
  pub second : k.standing ≡ m.standing
  pub payment : n.payment +ℤ k.payment ≡ m.payment
  pub used : n.used +ℤ k.used ≡ m.used
  pub unused : n.unused +ℤ k.unused ≡ m.unused

-- a requirement's members in both books: the same but for two members for one, and behind them all the same residual
pub record MembersRedrawn (b c : Book) (q : Requirement) (u x y : Unit) : Type 0 where
  pub before : List Member
  pub after : List Member
  pub old : members b q ≡ before ++ (residual_member b q ∷ [])
  pub new : members c q ≡ after ++ (residual_member b q ∷ [])
  pub plants : TwoForOne (plant_member b q.direction (alone u)) (plant_member c q.direction (alone x)) (plant_member c q.direction (alone y))
      before after
