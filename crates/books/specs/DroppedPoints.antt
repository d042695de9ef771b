-- Request R-3 in figures: which points are dropped, at both sides of each edge and in the worked books. What they change in a whole listing is told in
-- `worked`.
use Rattle.std.specs.Prelude.{◌≡◌, refl, true, false, List, [], ◌∷◌, ℕ, ◌-◌, pos, negsuc, get_or}
use Rattle.integers.specs.Totals.{those}
use Rattle.rules.specs.declared.Direction.TheVariants.{Raise, Lower}
use Rattle.rules.specs.Bytes.{listed}
use Rattle.rules.specs.Book.{Book, regionOf}
use Rattle.rules.specs.Dropped.{dropped, dropped_at}
use Rattle.rules.specs.Reliability.{reliable_in}
use Rattle.rules.specs.Rcr.{rcr}
use Rattle.books.specs.PaperBook.{requirement}
use Rattle.books.specs.Computing.{computing}
use Rattle.books.specs.WorkedBooks.{dropped_edges, dropped_reliability, table_15}

-- at the two ends of the band a point is kept, a µHz outside it is dropped where FM has the sign of frequency - 50,000,000; FM of 0, FM of the other sign
-- and a bad point keep it
pub record Edges : Type 0 where
  pub at_the_highest : dropped true (pos 1) 50_015_000 ≡ false
  pub above_the_highest : dropped true (pos 1) 50_015_001 ≡ true
  pub at_the_lowest : dropped true (negsuc 0) 49_985_000 ≡ false
  pub below_the_lowest : dropped true (negsuc 0) 49_984_999 ≡ true
  pub needed_above : dropped true (negsuc 0) 50_015_001 ≡ false
  pub needed_below : dropped true (pos 1) 49_984_999 ≡ false
  pub no_need_above : dropped true (pos 0) 50_015_001 ≡ false
  pub no_need_below : dropped true (pos 0) 49_984_999 ≡ false
  pub bad : dropped false (negsuc 0) 0 ≡ false
  pub far_above : dropped true (pos 5_000_000) 55_000_000 ≡ true
  pub far_below : dropped true (negsuc 4_999_999) 45_000_000 ≡ true

pub edges : Edges
unfolding computing
edges =
    record {
      at_the_highest = refl;
      above_the_highest = refl;
      at_the_lowest = refl;
      below_the_lowest = refl;
      needed_above = refl;
      needed_below = refl;
      no_need_above = refl;
      no_need_below = refl;
      bad = refl;
      far_above = refl;
      far_below = refl;
    }

-- the points that are dropped in a region, by the paper's t
abbrev dropped_of : Book → ℕ → List ℕ
dropped_of b r = those (λ t. dropped_at b.settings (regionOf b r) (t - 1)) (listed 1 75 (λ t. t))

pub in_one_region : (dropped_of dropped_edges 0 ≡ 2 ∷ 5 ∷ 9 ∷ 14 ∷ 17 ∷ 21 ∷ []) × (dropped_of dropped_edges 1 ≡ [])
unfolding computing
in_one_region = (refl, refl)

pub at_the_first : dropped_of dropped_reliability 0 ≡ 1 ∷ 12 ∷ []
unfolding computing
at_the_first = refl

-- 12:04:20, 12:06:52 and 12:07:32 of the guide's table 15
pub of_table_15 : dropped_of table_15 3 ≡ 20 ∷ 58 ∷ 68 ∷ []
unfolding computing
of_table_15 = refl

-- they count for reliability: region 0 has one point of FM below -10,000, its first, and seven of FM above 0 with its twelfth
pub still_reliable : (reliable_in dropped_reliability Lower 0 ≡ true) × (reliable_in dropped_reliability Raise 0 ≡ true)
unfolding computing
still_reliable = (refl, refl)

-- and for RCR and the requirement's sign: the response is largest at the twelfth, where region 1 alone would ask for lower
pub still_in_the_response : rcr dropped_reliability (get_or dropped_reliability.requirements 0 requirement) ≡ 5_775
unfolding computing
still_in_the_response = refl
