-- The guide's table 15 as a region, three of whose points are dropped (02, R-3): what four units and the residual perform over the kept points, and what it
-- would be over all 75. The figures are the second program's (tests/worked/table_15.txt).
use Rattle.std.specs.Prelude.{◌≡◌, refl, List, [], ◌∷◌, ◌++◌, map, ℤ, pos, neg_ℤ}
use Rattle.rules.specs.declared.Direction.{Direction}
use Rattle.rules.specs.declared.Direction.TheVariants.{Raise, Lower}
use Rattle.rules.specs.Measure.{measure_in}
use Rattle.rules.specs.Plants.{plants, residual_deviation}
use Rattle.rules.specs.Performance.{performance, plant_performance, residual_performance}
use Rattle.books.specs.Computing.{computing}
use Rattle.books.specs.WorkedBooks.{table_15}

-- units 1 to 4, then the residual
abbrev over_kept : Direction → List ℤ
over_kept d = map (plant_performance table_15 d) (plants table_15.roster) ++ (residual_performance table_15 d 3 ∷ [])

-- the same with what every point would weigh if none were dropped: its FM
abbrev over_all : Direction → List ℤ
over_all d =
    map (λ p. performance d (measure_in table_15 3) p.deviation) (plants table_15.roster)
    ++ (performance d (measure_in table_15 3) (residual_deviation (plants table_15.roster)) ∷ [])

pub raise_kept : over_kept Raise ≡ pos 656_460_066 ∷ neg_ℤ (pos 126_355_152) ∷ neg_ℤ (pos 990_950_400) ∷ pos 549_074_262 ∷ neg_ℤ (pos 88_228_776) ∷ []
unfolding computing
raise_kept = refl

pub raise_over_all : over_all Raise ≡ pos 657_953_922 ∷ neg_ℤ (pos 126_530_184) ∷ neg_ℤ (pos 993_618_000) ∷ pos 550_077_654 ∷ neg_ℤ (pos 87_883_392) ∷ []
unfolding computing
raise_over_all = refl

pub lower_kept : over_kept Lower ≡ pos 184_307_991 ∷ pos 478_055_248 ∷ neg_ℤ (pos 2_161_405_200) ∷ neg_ℤ (pos 969_145_363) ∷ pos 2_468_187_324 ∷ []
unfolding computing
lower_kept = refl

pub lower_over_all : over_all Lower ≡ pos 167_549_781 ∷ pos 482_897_118 ∷ neg_ℤ (pos 2_142_035_100) ∷ neg_ℤ (pos 986_697_633) ∷ pos 2_478_285_834 ∷ []
unfolding computing
lower_over_all = refl
