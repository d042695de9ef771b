-- What proofs/PaperCloses.antt speaks of.
use Rattle.std.specs.Prelude.{◌≡◌, true, [], ◌∷◌, map, ℕ, ℤ, pos, neg_ℤ}
use Rattle.rules.specs.declared.Direction.TheVariants.{Raise}
use Rattle.rules.specs.declared.Kind.TheVariants.{Generation}
use Rattle.rules.specs.Refusals.{taken}
use Rattle.rules.specs.Book.{ByDirection, Defaults, Unit, Book}
use Rattle.rules.specs.WholeBook.{book}
use Rattle.rules.specs.Plants.{alone, plants}
use Rattle.rules.specs.Performance.{plant_performance}
use Rattle.rules.specs.Standings.{residual_standing, is_live}
use Rattle.rules.specs.Rcr.{response}
use Rattle.books.specs.Writing.{book_bytes, flat}
use Rattle.books.specs.PaperBook.{none, requirement, paper_book}
use Rattle.books.specs.GroupBooks.{grouped}
use Rattle.closing.specs.Parties.{some_helpful, some_unhelpful, no_default}
use Rattle.closing.specs.Parts.{Parts}
use Rattle.closing.specs.Drawn.{with_roster}
use Rattle.closing.specs.Demand3.{Redrawn}

-- ---- the paper's book
pub record PaperCloses : Type 0 where
  pub live : is_live (residual_standing (paper_book 7) Raise 0) ≡ true
  pub no_default : no_default (paper_book 7) requirement ≡ true
  pub helpful : some_helpful (paper_book 7) requirement ≡ true
  pub unhelpful : some_unhelpful (paper_book 7) requirement ≡ true

-- ---- units in two parts
-- no default but the unused one for raise
abbrev pub unused_alone : ℕ → ByDirection Defaults
unused_alone unused = record { raise = record { payment = pos 0; used = pos 0; unused = neg_ℤ (pos unused) }; lower = none }

-- a good generating unit of region 0 without a group, by its number, start, end, one reading throughout and its unused default for raise
abbrev pub generator : ℕ → ℕ → ℕ → ℤ → ℕ → Unit
generator number start end reading unused =
    record {
      number = number;
      region = 0;
      kind = Generation;
      start = pos start;
      end = pos end;
      defaults = unused_alone unused;
      quality = flat true;
      group = 0;
      reading = flat reading;
    }

-- a unit that should stand still and moves
abbrev moving : ℤ → Unit
moving reading = generator 1 0 0 reading 0

-- RCR need not stay: where a unit that does not move is drawn as two that move against each other, both count
pub record ResponseGrows : Type 0 where
  pub parts : Parts (moving (pos 0)) (moving (pos 1)) (moving (neg_ℤ (pos 1)))
  pub one : response Raise (plants (moving (pos 0) ∷ [])) 0 ≡ 0
  pub two : response Raise (plants (moving (pos 1) ∷ moving (neg_ℤ (pos 1)) ∷ [])) 0 ≡ 75

-- ---- the roster 1, 2, 3 becomes 1, 2, 3, 9: unit 2 is drawn as a smaller unit 2 and a larger unit 9
abbrev pub before : Unit
before = generator 1 8_000 8_200 (pos 8_150) 300

abbrev pub whole : Unit
whole = generator 2 10_000 10_002 (pos 10_100) 1_000

abbrev pub smaller : Unit
smaller = generator 2 4_000 4_001 (pos 4_040) 400

abbrev pub larger : Unit
larger = generator 9 6_000 6_001 (pos 6_060) 600

abbrev pub behind : Unit
behind = generator 3 5_000 5_000 (pos 4_950) 0

abbrev pub three_units : Book
three_units = with_roster (paper_book 7) (before ∷ whole ∷ behind ∷ [])

abbrev pub four_units : Book
four_units = with_roster (paper_book 7) (before ∷ smaller ∷ behind ∷ larger ∷ [])

-- the format takes both books, and demand 3 holds of them
pub record UnitRedrawn : Type 0 where
  pub old_taken : book (book_bytes three_units) ≡ taken three_units
  pub new_taken : book (book_bytes four_units) ≡ taken four_units
  pub redrawn : Redrawn three_units four_units whole smaller larger
  pub one : plant_performance three_units Raise (alone whole) ≡ pos 11_136_000_000
  pub first : plant_performance four_units Raise (alone smaller) ≡ pos 4_443_000_000
  pub second : plant_performance four_units Raise (alone larger) ≡ pos 6_693_000_000

-- ---- the roster 1, 2, 3, 4, in which 3 and 4 are a group, becomes 1, 2, 3, 4, 9: the parts of unit 2 stand on both sides of the group
abbrev pub primary : Unit
primary = grouped 7 behind

abbrev pub follower : Unit
follower = grouped 7 (generator 4 1_000 1_000 (pos 1_030) 0)

abbrev pub with_group : Book
with_group = with_roster (paper_book 7) (before ∷ whole ∷ primary ∷ follower ∷ [])

abbrev pub around_group : Book
around_group = with_roster (paper_book 7) (before ∷ smaller ∷ primary ∷ follower ∷ larger ∷ [])

-- the group is one plant before and after
pub record RedrawnAroundGroup : Type 0 where
  pub old_taken : book (book_bytes with_group) ≡ taken with_group
  pub new_taken : book (book_bytes around_group) ≡ taken around_group
  pub redrawn : Redrawn with_group around_group whole smaller larger
  pub old : map (plant_performance with_group Raise) (plants with_group.roster) ≡
      pos 5_475_000_000 ∷ pos 11_136_000_000 ∷ neg_ℤ (pos 2_250_000_000) ∷ []
  pub new : map (plant_performance around_group Raise) (plants around_group.roster) ≡
      pos 5_475_000_000 ∷ pos 4_443_000_000 ∷ neg_ℤ (pos 2_250_000_000) ∷ pos 6_693_000_000 ∷ []
