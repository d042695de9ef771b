-- Two elements of a list for one: the two stand anywhere, in either order, and all others stay in their order. It is said of a roster in which a unit is drawn
-- as two, of its plants, and of the members that they are.
use Rattle.std.specs.Prelude.{List, ◌∷◌}

-- `whole` is `rest` with z put in at one place: in front, or somewhere behind the first
pub data Inserted {A : Type 0} (z : A) : List A → List A → Type 0 where
  here : {rest : List A} → Inserted z rest (z ∷ rest)
  later : {w : A} {rest whole : List A} → Inserted z rest whole → Inserted z (w ∷ rest) (w ∷ whole)

-- the old list is the others with u put in; the new list is the others with x and then y put in
pub record TwoForOne {A : Type 0} (u x y : A) (old new : List A) : Type 0 where
  pub others : List A
  pub with_first : List A
  pub one : Inserted u others old
  pub first : Inserted x others with_first
  pub second : Inserted y with_first new
