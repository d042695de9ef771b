-- Worked answers, straight from what a book says: facts that the paper's own listing never uses, each a theorem by computing. The figures are the
-- second program's (tests/worked/); whole listings of these books, but for `weights_decide`, are theorems of the crate `worked`. The reasons of the defaults,
-- which no listing prints, and the lowest limits are worked out by hand; pools over given payments are the second program's too.
use Rattle.std.specs.Prelude.{◌≡◌, refl, true, false, List, [], ◌∷◌, map, ℕ, ℤ, pos, neg_ℤ, get_or}
use Rattle.rules.specs.declared.Direction.{Direction}
use Rattle.rules.specs.declared.Direction.TheVariants.{Raise, Lower}
use Rattle.rules.specs.declared.Standing.{Standing}
use Rattle.rules.specs.declared.Standing.TheVariants.{Live, Default}
use Rattle.rules.specs.declared.Reason.TheVariants.{UnreliableRegion, BadUnit, NoGoodUnit}
use Rattle.rules.specs.Book.{Requirement, Book}
use Rattle.rules.specs.Fields.{spare_bits_zero}
use Rattle.rules.specs.Reliability.{sound}
use Rattle.rules.specs.Plants.{plants}
use Rattle.rules.specs.Members.{residual, members}
use Rattle.rules.specs.Rcr.{few_bad, rcr}
use Rattle.rules.specs.Cents.{pool_of}
use Rattle.rules.specs.Text.{text, natural, integer}
use Rattle.books.specs.PaperBook.{requirement}
use Rattle.books.specs.Computing.{computing}
use Rattle.books.specs.WorkedBooks.{lower_two_regions, default_reasons, weights_decide, no_units, one_side, lower_defaults}

-- a requirement by its place in the book, from 0
abbrev at : Book → ℕ → Requirement
at b i = get_or b.requirements i requirement

abbrev standings : Book → ℕ → List Standing
standings b i = map (λ m. m.standing) (members b (at b i))

-- the tenth quality byte holds points 73 to 75, and five bits to spare
abbrev ending : ℕ → List ℕ
ending last = 255 ∷ 255 ∷ 255 ∷ 255 ∷ 255 ∷ 255 ∷ 255 ∷ 255 ∷ 255 ∷ last ∷ []

pub spare_bits : (spare_bits_zero 0 (ending 7) ≡ true) × (spare_bits_zero 0 (ending 8) ≡ false)
unfolding computing
spare_bits = (refl, refl)

-- lower over two regions: one RCR over the set, not two added up
pub lower : rcr lower_two_regions (at lower_two_regions 0) ≡ 10_500
unfolding computing
lower = refl

-- raise is wanted at every point, so the largest response is at t = 75: 75·75; by the sum of FM alone it would be at t = 10
pub weighed : rcr weights_decide (at weights_decide 0) ≡ 5_625
unfolding computing
weighed = refl

-- RCR above 0 and a negative side alone: no pool; the same for lower
pub one_sided : pool_of (at one_side 0) 7_500 (members one_side (at one_side 0)) ≡ 0
unfolding computing
one_sided = refl

pub one_sided_lower : pool_of (at one_side 4) 7_500 (members one_side (at one_side 4)) ≡ 0
unfolding computing
one_sided_lower = refl

-- a pool over members of these payments, of price 1,200 and RCR 7,500
abbrev pool_over : Direction → List ℤ → ℕ
pool_over d payments =
    pool_of (record { number = 1; set = 1; direction = d; price = 1_200; cost = 0; enabled = 0; used = 0 }) 7_500
    (map (λ p. record { name = residual; standing = Live; payment = p; used = pos 0; unused = pos 0 }) payments)

-- 0 if either sign has no member. In a book no positive side is alone, since the payments of all members add up to 0 or less; in lent numbers one may be
pub record Pools (d : Direction) : Type 0 where
  pub both_sides : pool_over d (pos 1 ∷ neg_ℤ (pos 1) ∷ []) ≡ 100
  pub positive_alone : pool_over d (pos 5 ∷ pos 0 ∷ []) ≡ 0
  pub negative_alone : pool_over d (neg_ℤ (pos 5) ∷ pos 0 ∷ []) ≡ 0
  pub neither : pool_over d (pos 0 ∷ []) ≡ 0

pub raise_pools : Pools Raise
unfolding computing
raise_pools = record { both_sides = refl; positive_alone = refl; negative_alone = refl; neither = refl }

pub lower_pools : Pools Lower
unfolding computing
lower_pools = record { both_sides = refl; positive_alone = refl; negative_alone = refl; neither = refl }

-- both sides of the lowest limits: no bad point, no bad unit
pub record Lowest : Type 0 where
  pub no_bad_point : sound false 0 0 ≡ true
  pub one_bad_point : sound false 1 0 ≡ false
  pub no_bad_unit : few_bad 0 (plants lower_two_regions.roster) ≡ true
  pub bad_units : few_bad 0 (plants default_reasons.roster) ≡ false

pub lowest_limits : Lowest
unfolding computing
lowest_limits = record { no_bad_point = refl; one_bad_point = refl; no_bad_unit = refl; bad_units = refl }

-- numbers as text: 20 digits at most, no leading 0, no sign at 0
pub record Texts : Type 0 where
  pub zero : integer (pos 0) ≡ text "0"
  pub nine : natural 9 ≡ text "9"
  pub ten : natural 10 ≡ text "10"
  pub minus_one : integer (neg_ℤ (pos 1)) ≡ text "-1"
  pub most_digits : natural 18_446_744_073_709_551_615 ≡ text "18446744073709551615"
  pub lowest : integer (neg_ℤ (pos 9_223_372_036_854_775_808)) ≡ text "-9223372036854775808"

pub texts : Texts
unfolding computing
texts = record { zero = refl; nine = refl; ten = refl; minus_one = refl; most_digits = refl; lowest = refl }

-- each reason, unreliable named first
pub record Reasons : Type 0 where
  pub no_good_unit : standings default_reasons 1 ≡ (Live ∷ Default BadUnit ∷ Default BadUnit ∷ Default NoGoodUnit ∷ [])
  pub unreliable_first : standings default_reasons 2 ≡ (Live ∷ Default BadUnit ∷ Default UnreliableRegion ∷ Default BadUnit ∷ Default UnreliableRegion ∷ [])
  pub unreliable_lower : standings lower_defaults 2 ≡ (Default UnreliableRegion ∷ Default UnreliableRegion ∷ [])
  pub no_unit : standings no_units 0 ≡ (Live ∷ [])
  pub unreliable_no_unit : standings no_units 1 ≡ (Default UnreliableRegion ∷ [])

pub reasons : Reasons
unfolding computing
reasons = record { no_good_unit = refl; unreliable_first = refl; unreliable_lower = refl; no_unit = refl; unreliable_no_unit = refl }
