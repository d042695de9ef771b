-- Is a factor sheet possible (02, R-12)? A sheet has a factor, in billionths, for each of a requirement's performances: those that factors are made of, payment
-- defaults where they stand in. A member is on the side of its performance's sign; one whose performance is 0 is on neither.
use Rattle.std.specs.Prelude.{Bool, cond, ◌&&◌, ◌||◌, List, map, ℕ, zero, suc, leb, ltb, eqb, ℤ, pos, negsuc, neg_ℤ, nat_abs, ◌-ℤ◌, ◌*ℤ◌, length, get_or}
use Rattle.std.specs.Int.Signed.{le_z}
use Rattle.integers.specs.Pairs.{gain, loss}
use Rattle.integers.specs.Sums.{sum, every, first_wrong, when}
use Rattle.rules.specs.declared.Refusal.TheVariants.{TooShort, WrongCount}
use Rattle.rules.specs.declared.Side.{Side}
use Rattle.rules.specs.declared.Side.TheVariants.{Positive, Negative}
use Rattle.rules.specs.declared.Verdict.{Verdict}
use Rattle.rules.specs.declared.Verdict.TheVariants.{Possible, WrongMember, WrongSide}
use Rattle.rules.specs.Quantities.{billion, most_members, total_limit, weight_limit}
use Rattle.rules.specs.Refusals.{Reply, taken, unless}
use Rattle.rules.specs.Share.{weight_sum, weight_at}

-- ---- the sides
-- the size of a number on a side: 0 where it is on the other, or 0
abbrev pub on : Side → ℤ → ℕ
on Positive x = gain x
on Negative x = loss x

-- a size with its side's sign
abbrev pub signed : Side → ℕ → ℤ
signed Positive n = pos n
signed Negative n = neg_ℤ (pos n)

-- the absolute total of a side
abbrev pub side_total : Side → List ℤ → ℕ
side_total s ps = weight_sum (length (map (on s) ps)) (weight_at (map (on s) ps))

abbrev pub sides_fit : List ℤ → Bool
sides_fit ps = leb (side_total Positive ps) weight_limit && leb (side_total Negative ps) weight_limit

-- ---- a member, of T shared over both sides; a sheet's T is 1,000,000,000
-- less than one unit from T times performance over the absolute total W of its side, multiplied out
abbrev pub near : ℕ → ℕ → ℤ → ℤ → Bool
near T W p f = ltb (nat_abs (f *ℤ pos W -ℤ pos T *ℤ p)) W

-- its sign agreeing, or the factor being 0
abbrev pub agrees : Side → ℤ → Bool
agrees Positive f = le_z (pos 0) f
agrees Negative f = le_z f (pos 0)

-- a member whose performance is 0 must have the factor 0
abbrev pub right : ℕ → (Side → ℕ) → ℤ → ℤ → Bool
right T W (pos zero) f = eqb (nat_abs f) 0
right T W (pos (suc p)) f = near T (W Positive) (pos (suc p)) f && agrees Positive f
right T W (negsuc p) f = near T (W Negative) (negsuc p) f && agrees Negative f

-- the numbers of a member in a list
abbrev pub number_at : List ℤ → ℕ → ℤ
number_at xs i = get_or xs i (pos 0)

abbrev pub right_at : ℕ → List ℤ → List ℤ → ℕ → Bool
right_at T ps fs i = right T (λ s. side_total s ps) (number_at ps i) (number_at fs i)

-- what a call that looks for the first wrong member answers: its place, from 1; 0 where none is wrong
unfoldable pub members_reply : ℕ → List ℤ → List ℤ → Reply ℕ
members_reply T ps fs =
    unless (eqb (length ps) (length fs)) TooShort
    (unless (leb T total_limit && sides_fit ps) WrongCount
    (taken (first_wrong (right_at T ps fs) (length ps))))

-- ---- the sheet
-- what the factors of a side's members sum to
abbrev pub side_sum : Side → List ℤ → List ℤ → ℤ
side_sum s ps fs = sum (length ps) (λ i. when (ltb 0 (on s (number_at ps i))) (number_at fs i))

-- each side that has a member, so that its total is not 0, sums to exactly plus or minus 1,000,000,000
abbrev pub side_right : Side → List ℤ → List ℤ → Bool
side_right s ps fs = eqb (side_total s ps) 0 || eqb (nat_abs (side_sum s ps fs -ℤ signed s billion)) 0

-- the first wrong member, else the side whose sum is off, positive first
unfoldable pub verdict : List ℤ → List ℤ → Verdict
verdict ps fs =
    cond (every (length ps) (right_at billion ps fs))
    (cond (side_right Positive ps fs) (cond (side_right Negative ps fs) Possible (WrongSide Negative)) (WrongSide Positive))
    (WrongMember (first_wrong (right_at billion ps fs) (length ps)))

-- 5 for a sheet longer than 513, then 12 if the sheet and performances differ in length, then 5 if a side's absolute total passes the limit of W
unfoldable pub sheet_reply : List ℤ → List ℤ → Reply Verdict
sheet_reply ps fs =
    unless (leb (length fs) most_members) WrongCount
    (unless (eqb (length ps) (length fs)) TooShort
    (unless (sides_fit ps) WrongCount
    (taken (verdict ps fs))))
