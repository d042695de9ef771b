-- What the calls have kept of a book, read as what the rules ask for: regions by their figures, plants by their homes and rows. The members, RCR and
-- the answer are then those of `rules`, over what is kept; that they are the answer over the book itself is the theorem `answer_is`.
use Rattle.std.specs.Prelude.{Bool, cond, not, ◌&&◌, ◌||◌, List, [], ◌∷◌, ◌++◌, map, ℕ, ◌+◌, ◌*◌, ◌/◌, ◌%◌, max, eqb, leb, ℤ, pos, neg_ℤ, ◌*ℤ◌, get_or}
use Rattle.std.specs.Int.Signed.{lt_z}
use Rattle.integers.specs.Pairs.{gain, loss}
use Rattle.integers.specs.Sums.{sum, count, largest, when}
use Rattle.integers.specs.Totals.{those}
use Rattle.rules.specs.declared.Direction.{Direction}
use Rattle.rules.specs.declared.Direction.TheVariants.{Raise, Lower}
use Rattle.rules.specs.declared.Reason.TheVariants.{BadUnit, NoGoodUnit}
use Rattle.rules.specs.declared.Standing.{Standing}
use Rattle.rules.specs.Quantities.{points}
use Rattle.rules.specs.Bytes.{listed}
use Rattle.rules.specs.Book.{toward, Requirement, covers}
use Rattle.rules.specs.Standings.{standing, live_or}
use Rattle.rules.specs.Members.{unit, residual, Member, over_regions, each_region}
use Rattle.rules.specs.Answer.{Answer, answered}
use Rattle.interval.specs.declared.Tally.{Tally}
use Rattle.interval.specs.Lent.{Lent, series_start, measure_held, sum_place, figures_each, in_row}

module _ (l : Lent) where
  -- ---- a region's figures, by its number
  abbrev pub figure : ℕ → ℕ → ℤ
  figure r i = get_or l.figures (figures_each * r + i) (pos 0)

  abbrev pub generation_of : ℕ → ℤ
  generation_of r = figure r 1

  abbrev pub reliable_of : Direction → ℕ → Bool
  reliable_of Raise r = lt_z (pos 0) (figure r 2)
  reliable_of Lower r = lt_z (pos 0) (figure r 3)

  -- payment, used and unused of raise, then of lower: field 0 to 2
  abbrev pub residual_default : Direction → ℕ → ℕ → ℤ
  residual_default Raise field r = figure r (4 + field)
  residual_default Lower field r = figure r (7 + field)

  -- ---- a unit's home and row, by its place in the roster: its plant's up to it. A row that is passed over is of region 5, which no requirement covers
  abbrev pub region_of : ℕ → ℕ
  region_of i = get_or l.homes i 0 / 2

  abbrev pub good_of : ℕ → Bool
  good_of i = eqb (get_or l.homes i 0 % 2) 1

  abbrev pub performance_of : Direction → ℕ → ℤ
  performance_of Raise i = in_row l.rows i 0
  performance_of Lower i = in_row l.rows i 1

  abbrev pub unit_default : Direction → ℕ → ℕ → ℤ
  unit_default Raise field i = in_row l.rows i (2 + field)
  unit_default Lower field i = in_row l.rows i (5 + field)

  -- ---- members
  -- a unit's, and the value that a share goes by: live, or the default of a field
  abbrev pub row_standing : Direction → ℕ → Standing
  row_standing d i = standing (reliable_of d (region_of i)) (good_of i) BadUnit

  abbrev pub row_value : Direction → ℕ → ℕ → ℤ
  row_value d field i = live_or (row_standing d i) (performance_of d i) (unit_default d field i)

  abbrev pub row_member : Direction → ℕ → Member
  row_member d i = record {
    name = unit (get_or l.numbers i 0);
    standing = row_standing d i;
    payment = row_value d 0 i;
    used = row_value d 1 i;
    unused = unit_default d 2 i;
  }

  -- ---- RCR: the larger of the sums of positive and of negative deviations over its regions, at points of the right sign
  abbrev pub kept_weighed : Requirement → ℕ → ℤ
  kept_weighed q p = over_regions q (λ r. generation_of r *ℤ measure_held (get_or l.measures (series_start r + p) (pos 0)))

  abbrev pub kept_sum : Direction → Requirement → ℕ → ℤ
  kept_sum d q p = over_regions q (λ r. get_or l.sums (sum_place d r p) (pos 0))

  abbrev pub kept_response : Requirement → ℕ → ℕ
  kept_response q p = max (gain (kept_sum Raise q p)) (loss (kept_sum Lower q p))

  abbrev pub kept_reliable : Requirement → Bool
  kept_reliable q = each_region q (reliable_of q.direction)

-- over a tally, too, which has the number of units and the bad-unit percent
module _ (t : Tally) (l : Lent) where
  -- a region's units, its good ones, and its residual: minus the performances of the good ones
  abbrev pub units_in_region : ℕ → ℕ
  units_in_region r = count t.units (λ i. eqb r (region_of l i))

  abbrev pub good_in_region : ℕ → ℕ
  good_in_region r = count t.units (λ i. eqb r (region_of l i) && good_of l i)

  abbrev pub some_good_or_none_of : ℕ → Bool
  some_good_or_none_of r = leb 1 (good_in_region r) || eqb (units_in_region r) 0

  abbrev pub residual_of : Direction → ℕ → ℤ
  residual_of d r = neg_ℤ (sum t.units (λ i. when (eqb r (region_of l i)) (when (good_of l i) (performance_of l d i))))

  abbrev pub residual_value : Direction → ℕ → ℕ → ℤ
  residual_value d field r = live_or (standing (reliable_of l d r) (some_good_or_none_of r) NoGoodUnit) (residual_of d r) (residual_default l d field r)

  abbrev pub residual_row : Requirement → Member
  residual_row q =
      let d = q.direction in
      record {
        name = residual;
        standing = standing (each_region q (reliable_of l d)) (each_region q some_good_or_none_of) NoGoodUnit;
        payment = over_regions q (residual_value d 0);
        used = over_regions q (residual_value d 1);
        unused = over_regions q (residual_default l d 2);
      }

  -- the rows of a requirement's regions in roster order, then the residual
  abbrev pub rows_of : Requirement → List ℕ
  rows_of q = those (λ i. covers q (region_of l i)) (listed 0 t.units (λ i. i))

  unfoldable pub kept_members : Requirement → List Member
  kept_members q = map (row_member l q.direction) (rows_of q) ++ (residual_row q ∷ [])

  -- ---- RCR
  abbrev pub kept_few_bad : Requirement → Bool
  kept_few_bad q =
      leb (100 * count t.units (λ i. covers q (region_of l i) && not (good_of l i))) (t.percent * count t.units (λ i. covers q (region_of l i)))

  unfoldable pub kept_rcr : Requirement → ℕ
  kept_rcr q =
      cond (kept_reliable l q && kept_few_bad q)
      (largest points (λ p. cond (lt_z (pos 0) (toward q.direction (kept_weighed l q p))) (kept_response l q p) 0)) 0

  -- ---- the answer
  unfoldable pub kept_answer : Requirement → Answer
  kept_answer q = answered q (kept_rcr q) (kept_reliable l q) (kept_members q)
