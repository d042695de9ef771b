-- Worked sheets, by computing: the placings of a left-over, sides whose sums are off, both tie rules, no performance, both sides of each limit, the paper's
-- listing.
use Rattle.std.specs.Prelude.{◌≡◌, refl, List, [], ◌∷◌, ℕ, zero, suc, ◌+◌, ◌-◌, ℤ, pos, negsuc, neg_ℤ}
use Rattle.integers.specs.Sums.{sum, sumℕ, every, first_wrong}
use Rattle.rules.specs.declared.Refusal.TheVariants.{TooShort, WrongCount}
use Rattle.rules.specs.declared.Side.TheVariants.{Positive, Negative}
use Rattle.rules.specs.declared.Verdict.TheVariants.{Possible, WrongMember, WrongSide}
use Rattle.rules.specs.Refusals.{taken, refused}
use Rattle.rules.specs.Sheet.{verdict, sheet_reply}

-- n below zero
abbrev minus : ℕ → ℤ
minus n = neg_ℤ (pos n)

abbrev three : ℤ → ℤ → ℤ → List ℤ
three a b c = a ∷ b ∷ c ∷ []

-- the same number n times
abbrev times : ℕ → ℤ → List ℤ
times zero x = []
times (suc n) x = x ∷ times n x

abbrev ones : List ℤ
ones = three (pos 1) (pos 1) (pos 1)

abbrev minus_ones : List ℤ
minus_ones = three (minus 1) (minus 1) (minus 1)

-- a third of 1,000,000,000, and one more
abbrev third : ℤ
third = pos 333_333_333

abbrev third_and_one : ℤ
third_and_one = pos 333_333_334

abbrev minus_third : ℤ
minus_third = minus 333_333_333

-- 4 and 12 of 8,000,000,000 have half a billionth left over each
abbrev halves : List ℤ
halves = three (pos 4) (pos 12) (pos 7_999_999_984)

abbrev limit : ℕ
limit = 6_010_000_000_000_000_000

-- what is worth nothing beside the limit: the whole of the other side
abbrev at_limit : ℤ → ℤ → List ℤ
at_limit a b = a ∷ b ∷ []

abbrev whole : ℤ
whole = pos 1_000_000_000

abbrev minus_whole : ℤ
minus_whole = minus 1_000_000_000

-- those of the paper's listing
abbrev paper_performances : List ℤ
paper_performances = three (pos 11_250_000_000) (minus 3_375_000_000) (minus 7_875_000_000)

pub record WorkedSheets : Type 0 where
  -- the left-over with each of the three, with none, with two
  pub with_the_first : sheet_reply ones (three third_and_one third third) ≡ taken Possible
  pub with_the_second : sheet_reply ones (three third third_and_one third) ≡ taken Possible
  pub with_the_third : sheet_reply ones (three third third third_and_one) ≡ taken Possible
  pub with_none : sheet_reply ones (three third third third) ≡ taken (WrongSide Positive)
  pub with_two : sheet_reply ones (three third_and_one third_and_one third) ≡ taken (WrongSide Positive)
  pub with_none_below : sheet_reply minus_ones (three minus_third minus_third minus_third) ≡ taken (WrongSide Negative)
  pub placed_below : sheet_reply minus_ones (three minus_third (minus 333_333_334) minus_third) ≡ taken Possible
  -- both sides off; a wrong member after an off side; two wrong ones; two away from the whole part, and one below it
  pub both_off :
      sheet_reply (pos 1 ∷ pos 1 ∷ pos 1 ∷ minus_ones) (third ∷ third ∷ third ∷ three minus_third minus_third minus_third) ≡ taken (WrongSide Positive)
  pub member_after_off : sheet_reply (pos 1 ∷ pos 1 ∷ pos 1 ∷ minus 7 ∷ []) (third ∷ third ∷ third ∷ minus 999_999_999 ∷ []) ≡ taken (WrongMember 4)
  pub two_wrong : sheet_reply ones (three third (pos 333_333_335) (pos 333_333_332)) ≡ taken (WrongMember 2)
  pub one_below : sheet_reply ones (three (pos 333_333_332) third_and_one third_and_one) ≡ taken (WrongMember 1)
  -- on the wrong side of 0
  pub wrong_sign : sheet_reply (pos 1 ∷ minus 1 ∷ []) (minus_whole ∷ whole ∷ []) ≡ taken (WrongMember 1)
  pub little_and_wrong_sign : sheet_reply (three (pos 1) (pos 5_999_999_999) (minus 1)) (three (minus 1) whole minus_whole) ≡ taken (WrongMember 1)
  -- the tie rule since R-9, the one before, and neither
  pub larger_first : sheet_reply halves (three (pos 0) (pos 2) (pos 999_999_998)) ≡ taken Possible
  pub earlier_first : sheet_reply halves (three (pos 1) (pos 1) (pos 999_999_998)) ≡ taken Possible
  pub both_of_them : sheet_reply halves (three (pos 1) (pos 2) (pos 999_999_998)) ≡ taken (WrongSide Positive)
  -- no performance, no factor; nobody
  pub none_but_one : sheet_reply (pos 0 ∷ []) (pos 1 ∷ []) ≡ taken (WrongMember 1)
  pub none_but_less : sheet_reply (pos 5 ∷ pos 0 ∷ []) (whole ∷ minus 1 ∷ []) ≡ taken (WrongMember 2)
  pub nothing_for_nothing : sheet_reply (pos 0 ∷ pos 0 ∷ []) (pos 0 ∷ pos 0 ∷ []) ≡ taken Possible
  pub nobody : sheet_reply [] [] ≡ taken Possible
  -- the limit of W on each side, and one past it
  pub at_the_limit : sheet_reply (at_limit (pos limit) (minus limit)) (whole ∷ minus_whole ∷ []) ≡ taken Possible
  pub in_two_at_the_limit : sheet_reply (three (pos 1) (pos (limit - 1)) (minus 1)) (three (pos 0) whole minus_whole) ≡ taken Possible
  pub past_it : sheet_reply (at_limit (pos (limit + 1)) (minus limit)) (whole ∷ minus_whole ∷ []) ≡ refused WrongCount
  pub past_it_below : sheet_reply (at_limit (pos limit) (minus (limit + 1))) (whole ∷ minus_whole ∷ []) ≡ refused WrongCount
  pub past_it_in_two : sheet_reply (three (pos 1) (pos limit) (minus 1)) (three (pos 0) whole minus_whole) ≡ refused WrongCount
  pub least_number : sheet_reply (negsuc 9_223_372_036_854_775_807 ∷ []) (minus_whole ∷ []) ≡ refused WrongCount
  pub least_factor : sheet_reply (minus 1 ∷ []) (negsuc 9_223_372_036_854_775_807 ∷ []) ≡ taken (WrongMember 1)
  -- 513 members; 5 comes before 12, and 12 before the second 5
  pub longest : sheet_reply (times 513 (pos 0)) (times 513 (pos 0)) ≡ taken Possible
  pub too_long : sheet_reply (times 514 (pos 0)) (times 514 (pos 0)) ≡ refused WrongCount
  pub too_long_first : sheet_reply (times 513 (pos 0)) (times 514 (pos 0)) ≡ refused WrongCount
  pub other_length : sheet_reply (times 514 (pos 0)) (times 513 (pos 0)) ≡ refused TooShort
  pub length_first : sheet_reply (pos (limit + 1) ∷ []) [] ≡ refused TooShort
  -- the paper's listing: all shares are exact, and nothing else passes
  pub paper : sheet_reply paper_performances (three whole (minus 300_000_000) (minus 700_000_000)) ≡
      taken Possible
  pub paper_more : sheet_reply paper_performances (three (pos 1_000_000_001) (minus 300_000_000)
      (minus 700_000_000)) ≡ taken (WrongMember 1)
  pub paper_less : sheet_reply paper_performances (three (pos 999_999_999) (minus 300_000_000)
      (minus 700_000_000)) ≡ taken (WrongMember 1)
  pub paper_moved : sheet_reply paper_performances (three whole (minus 300_000_001) (minus 699_999_999)) ≡
      taken (WrongMember 2)
  pub paper_moved_back : sheet_reply paper_performances (three whole (minus 300_000_000) (minus 700_000_001))
      ≡ taken (WrongMember 3)

pub worked_sheets : WorkedSheets
unfolding sum sumℕ every first_wrong verdict sheet_reply
worked_sheets =
    record {
      with_the_first = refl;
      with_the_second = refl;
      with_the_third = refl;
      with_none = refl;
      with_two = refl;
      with_none_below = refl;
      placed_below = refl;
      both_off = refl;
      member_after_off = refl;
      two_wrong = refl;
      one_below = refl;
      wrong_sign = refl;
      little_and_wrong_sign = refl;
      larger_first = refl;
      earlier_first = refl;
      both_of_them = refl;
      none_but_one = refl;
      none_but_less = refl;
      nothing_for_nothing = refl;
      nobody = refl;
      at_the_limit = refl;
      in_two_at_the_limit = refl;
      past_it = refl;
      past_it_below = refl;
      past_it_in_two = refl;
      least_number = refl;
      least_factor = refl;
      longest = refl;
      too_long = refl;
      too_long_first = refl;
      other_length = refl;
      length_first = refl;
      paper = refl;
      paper_more = refl;
      paper_less = refl;
      paper_moved = refl;
      paper_moved_back = refl;
    }
