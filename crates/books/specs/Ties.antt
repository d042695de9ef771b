-- Request R-9 in figures: the shares of the worked book `larger_first`, in each of which the rule before it would have given some members other amounts. The
-- weights are the book's, and the figures the second program's (tests/worked/larger_first.txt); its listing from bytes is a theorem of `worked`.
use Rattle.std.specs.Prelude.{◌≡◌, refl, List, [], ◌∷◌, map, ℕ, ◌*◌, length, get_or}
use Rattle.rules.specs.Quantities.{billion}
use Rattle.rules.specs.Bytes.{listed}
use Rattle.rules.specs.Members.{Member, members}
use Rattle.rules.specs.Share.{earlier_first, share_by, share_of}
use Rattle.rules.specs.Factors.{helpful, unhelpful}
use Rattle.rules.specs.Cents.{used_weights, unused_weights}
use Rattle.books.specs.PaperBook.{requirement}
use Rattle.books.specs.Computing.{computing}
use Rattle.books.specs.WorkedBooks.{larger_first}

-- units 1 to 7 and the residual, for raise and for lower
abbrev raise : List Member
raise = members larger_first (get_or larger_first.requirements 0 requirement)

abbrev lower : List Member
lower = members larger_first (get_or larger_first.requirements 1 requirement)

-- weights that are multiples of one number
abbrev each : ℕ → List ℕ → List ℕ
each k ws = map (λ w. k * w) ws

-- 1 cMW off the trajectory comes to 60,000,000 for raise and to 52,500,000 for lower: the positive performances, the negative ones, those with the used
-- defaults standing in, and the unused defaults
abbrev raise_helpful : List ℕ
raise_helpful = each 60_000_000 (4 ∷ 1 ∷ 295 ∷ 0 ∷ 0 ∷ 0 ∷ 0 ∷ 0 ∷ [])

abbrev raise_unhelpful : List ℕ
raise_unhelpful = each 60_000_000 (0 ∷ 0 ∷ 0 ∷ 2 ∷ 5 ∷ 199 ∷ 101 ∷ 293 ∷ [])

abbrev raise_used : List ℕ
raise_used = each 60_000_000 (0 ∷ 0 ∷ 0 ∷ 2 ∷ 5 ∷ 47 ∷ 53 ∷ 293 ∷ [])

abbrev raise_unused : List ℕ
raise_unused = 1 ∷ 3 ∷ 1 ∷ 3 ∷ 5 ∷ 3 ∷ 5 ∷ 3 ∷ []

abbrev lower_helpful : List ℕ
lower_helpful = each 52_500_000 (0 ∷ 0 ∷ 0 ∷ 2 ∷ 5 ∷ 0 ∷ 0 ∷ 293 ∷ [])

abbrev lower_unhelpful : List ℕ
lower_unhelpful = each 52_500_000 (4 ∷ 1 ∷ 295 ∷ 0 ∷ 0 ∷ 103 ∷ 197 ∷ 0 ∷ [])

abbrev lower_used : List ℕ
lower_used = each 52_500_000 (4 ∷ 1 ∷ 295 ∷ 0 ∷ 0 ∷ 40 ∷ 20 ∷ 0 ∷ [])

abbrev lower_unused : List ℕ
lower_unused = 2 ∷ 5 ∷ 0 ∷ 8 ∷ 5 ∷ 2 ∷ 0 ∷ 8 ∷ []

-- these are the weights of the book's shares
pub record Weights : Type 0 where
  pub raise_helpful_is : helpful raise ≡ raise_helpful
  pub raise_unhelpful_is : unhelpful raise ≡ raise_unhelpful
  pub raise_used_is : used_weights raise ≡ raise_used
  pub raise_unused_is : unused_weights raise ≡ raise_unused
  pub lower_helpful_is : helpful lower ≡ lower_helpful
  pub lower_unhelpful_is : unhelpful lower ≡ lower_unhelpful
  pub lower_used_is : used_weights lower ≡ lower_used
  pub lower_unused_is : unused_weights lower ≡ lower_unused

pub weights : Weights
unfolding computing
weights =
    record {
      raise_helpful_is = refl;
      raise_unhelpful_is = refl;
      raise_used_is = refl;
      raise_unused_is = refl;
      lower_helpful_is = refl;
      lower_unhelpful_is = refl;
      lower_used_is = refl;
      lower_unused_is = refl;
    }

-- a total over weights: the amounts by the rule before R-9, and as they are now
pub record Otherwise (T : ℕ) (ws once now : List ℕ) : Type 0 where
  pub by_the_rule_before : listed 0 (length ws) (share_by earlier_first T ws) ≡ once
  pub as_it_stands : listed 0 (length ws) (share_of T ws) ≡ now

-- factors, payments (credits and debits), used and unused charges
pub record OnceOtherwise : Type 0 where
  -- all three leave a third, and one is left over: once it went to 4, now to 295
  pub raise_factors : Otherwise billion raise_helpful
      (13_333_334 ∷ 3_333_333 ∷ 983_333_333 ∷ 0 ∷ 0 ∷ 0 ∷ 0 ∷ 0 ∷ [])
      (13_333_333 ∷ 3_333_333 ∷ 983_333_334 ∷ 0 ∷ 0 ∷ 0 ∷ 0 ∷ 0 ∷ [])
  -- 199 leaves two thirds and comes first; the others leave a third, and the second went to 2, now to 293
  pub raise_negative_factors : Otherwise billion raise_unhelpful
      (0 ∷ 0 ∷ 0 ∷ 3_333_334 ∷ 8_333_333 ∷ 331_666_667 ∷ 168_333_333 ∷ 488_333_333 ∷ [])
      (0 ∷ 0 ∷ 0 ∷ 3_333_333 ∷ 8_333_333 ∷ 331_666_667 ∷ 168_333_333 ∷ 488_333_334 ∷ [])
  -- 4, 1, 295 leave two thirds, two are left over: to 295 and 4
  pub raise_credits : Otherwise 200 raise_helpful (3 ∷ 1 ∷ 196 ∷ 0 ∷ 0 ∷ 0 ∷ 0 ∷ 0 ∷ []) (3 ∷ 0 ∷ 197 ∷ 0 ∷ 0 ∷ 0 ∷ 0 ∷ 0 ∷ [])
  -- all but 199 leave two thirds, three are left over: to 293, 101 and 5
  pub raise_debits : Otherwise 200 raise_unhelpful (0 ∷ 0 ∷ 0 ∷ 1 ∷ 2 ∷ 66 ∷ 34 ∷ 97 ∷ []) (0 ∷ 0 ∷ 0 ∷ 0 ∷ 2 ∷ 66 ∷ 34 ∷ 98 ∷ [])
  -- 2 leaves nothing, the others a half, two are left over: to 293 and 53
  pub raise_used_charges : Otherwise 200 raise_used (0 ∷ 0 ∷ 0 ∷ 1 ∷ 3 ∷ 24 ∷ 26 ∷ 146 ∷ []) (0 ∷ 0 ∷ 0 ∷ 1 ∷ 2 ∷ 23 ∷ 27 ∷ 147 ∷ [])
  -- all eight leave a half, four are left over: to 5 and 5, then to the first two of 3
  pub raise_unused_charges : Otherwise 300 raise_unused (13 ∷ 38 ∷ 13 ∷ 38 ∷ 62 ∷ 37 ∷ 62 ∷ 37 ∷ []) (12 ∷ 38 ∷ 12 ∷ 38 ∷ 63 ∷ 37 ∷ 63 ∷ 37 ∷ [])
  -- 2, 5, 293 leave two thirds, two are left over: to 293 and 5
  pub lower_factors : Otherwise billion lower_helpful
      (0 ∷ 0 ∷ 0 ∷ 6_666_667 ∷ 16_666_667 ∷ 0 ∷ 0 ∷ 976_666_666 ∷ [])
      (0 ∷ 0 ∷ 0 ∷ 6_666_666 ∷ 16_666_667 ∷ 0 ∷ 0 ∷ 976_666_667 ∷ [])
  -- all but 197 leave two thirds, three are left over: to 295, 103 and 4
  pub lower_negative_factors : Otherwise billion lower_unhelpful
      (6_666_667 ∷ 1_666_667 ∷ 491_666_667 ∷ 0 ∷ 0 ∷ 171_666_666 ∷ 328_333_333 ∷ 0 ∷ [])
      (6_666_667 ∷ 1_666_666 ∷ 491_666_667 ∷ 0 ∷ 0 ∷ 171_666_667 ∷ 328_333_333 ∷ 0 ∷ [])
  -- as the factors
  pub lower_credits : Otherwise 400 lower_helpful (0 ∷ 0 ∷ 0 ∷ 3 ∷ 7 ∷ 0 ∷ 0 ∷ 390 ∷ []) (0 ∷ 0 ∷ 0 ∷ 2 ∷ 7 ∷ 0 ∷ 0 ∷ 391 ∷ [])
  -- as the negative factors
  pub lower_debits : Otherwise 400 lower_unhelpful (3 ∷ 1 ∷ 197 ∷ 0 ∷ 0 ∷ 68 ∷ 131 ∷ 0 ∷ []) (3 ∷ 0 ∷ 197 ∷ 0 ∷ 0 ∷ 69 ∷ 131 ∷ 0 ∷ [])
  -- 20 leaves two thirds and comes first; the others leave a third, and the second goes to 295
  pub lower_used_charges : Otherwise 120 lower_used (2 ∷ 0 ∷ 98 ∷ 0 ∷ 0 ∷ 13 ∷ 7 ∷ 0 ∷ []) (1 ∷ 0 ∷ 99 ∷ 0 ∷ 0 ∷ 13 ∷ 7 ∷ 0 ∷ [])
  -- all with weight leave a third, two are left over: to 8 and 8
  pub lower_unused_charges : Otherwise 80 lower_unused (6 ∷ 14 ∷ 0 ∷ 21 ∷ 13 ∷ 5 ∷ 0 ∷ 21 ∷ []) (5 ∷ 13 ∷ 0 ∷ 22 ∷ 13 ∷ 5 ∷ 0 ∷ 22 ∷ [])

pub once_otherwise : OnceOtherwise
unfolding computing
once_otherwise =
    record {
      raise_factors = record { by_the_rule_before = refl; as_it_stands = refl };
      raise_negative_factors = record { by_the_rule_before = refl; as_it_stands = refl };
      raise_credits = record { by_the_rule_before = refl; as_it_stands = refl };
      raise_debits = record { by_the_rule_before = refl; as_it_stands = refl };
      raise_used_charges = record { by_the_rule_before = refl; as_it_stands = refl };
      raise_unused_charges = record { by_the_rule_before = refl; as_it_stands = refl };
      lower_factors = record { by_the_rule_before = refl; as_it_stands = refl };
      lower_negative_factors = record { by_the_rule_before = refl; as_it_stands = refl };
      lower_credits = record { by_the_rule_before = refl; as_it_stands = refl };
      lower_debits = record { by_the_rule_before = refl; as_it_stands = refl };
      lower_used_charges = record { by_the_rule_before = refl; as_it_stands = refl };
      lower_unused_charges = record { by_the_rule_before = refl; as_it_stands = refl };
    }
