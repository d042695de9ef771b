-- What the calls keep of a book in lent lists, as one record: of the five regions measures, sums of deviations and figures; of the units numbers, homes, rows
-- and groups; of the group that was taken last its deviations. Each region's numbers, and each unit's, stand together in their list, one region or unit after
-- the other.
use Rattle.std.specs.Prelude.{Bool, true, false, not, ◌&&◌, ◌||◌, cond, List, [], ◌∷◌, ◌++◌, ℕ, zero, suc, ◌+◌, ◌*◌, ◌-◌, ◌/◌, ◌%◌, eqb, leb, ltb, ℤ, pos, negsuc, ◌+ℤ◌, ◌-ℤ◌, length, get_or, set, take, drop}
use Rattle.std.specs.Int.Signed.{lt_z}
use Rattle.integers.specs.Sums.{every, one, when}
use Rattle.integers.specs.Fills.{filled}
use Rattle.rules.specs.declared.Direction.{Direction}
use Rattle.rules.specs.declared.Direction.TheVariants.{Raise, Lower}
use Rattle.rules.specs.Quantities.{points, regions, measure_limit, deviation_limit, performance_limit, unit_default_limit}
use Rattle.rules.specs.Bytes.{number_at}
use Rattle.rules.specs.Fields.{default_fine, sized}
use Rattle.rules.specs.Book.{ByDirection, Defaults, Settings, Region, Unit}
use Rattle.rules.specs.Groups.{same_group, no_defaults}
use Rattle.rules.specs.Measure.{measure}
use Rattle.rules.specs.Dropped.{dropped_at}
use Rattle.rules.specs.Reliability.{reliable}
use Rattle.rules.specs.Deviation.{deviation, good}
use Rattle.rules.specs.Plants.{Plant}
use Rattle.rules.specs.Performance.{wanted, performance}

pub record Lent : Type 0 where
  pub measures : List ℤ
  pub sums : List ℤ
  pub figures : List ℤ
  pub numbers : List ℕ
  pub homes : List ℕ
  pub rows : List ℤ
  pub groups : List ℕ
  pub deviations : List ℤ

-- ---- what each call is lent of it; of the rest it neither reads nor writes anything
abbrev pub lent_frequency : Lent → List ℤ → List ℤ → List ℤ → Lent
lent_frequency rest ms ss gs =
    record {
      measures = ms;
      sums = ss;
      figures = gs;
      numbers = rest.numbers;
      homes = rest.homes;
      rows = rest.rows;
      groups = rest.groups;
      deviations = rest.deviations;
    }

abbrev pub lent_unit : List ℤ → List ℤ → List ℤ → List ℕ → List ℕ → List ℤ → List ℕ → List ℤ → Lent
lent_unit ms ss gs us hs rs ks ds =
    record { measures = ms; sums = ss; figures = gs; numbers = us; homes = hs; rows = rs; groups = ks; deviations = ds }

abbrev pub lent_answer : Lent → List ℤ → List ℤ → List ℤ → List ℕ → List ℤ → Lent
lent_answer rest ms ss gs hs rs =
    record {
      measures = ms;
      sums = ss;
      figures = gs;
      numbers = rest.numbers;
      homes = hs;
      rows = rs;
      groups = rest.groups;
      deviations = rest.deviations;
    }

abbrev pub lent_member : Lent → List ℤ → List ℕ → List ℕ → Lent
lent_member rest gs us hs =
    record {
      measures = rest.measures;
      sums = rest.sums;
      figures = gs;
      numbers = us;
      homes = hs;
      rows = rest.rows;
      groups = rest.groups;
      deviations = rest.deviations;
    }

-- n numbers of g from a place on; all others stay
abbrev pub put_from : {A : Type 0} → ℕ → ℕ → (ℕ → A) → List A → List A
put_from place n g xs = take place xs ++ filled n g (drop place xs)

-- ---- measures: 75 a region
abbrev pub series_start : ℕ → ℕ
series_start r = points * r

abbrev pub series_length : ℕ
series_length = points * regions

-- one number keeps FM and whether its point is dropped: at a dropped point FM stands so much higher, past the FM of every kept one
abbrev pub mark : ℕ
mark = 10_000_001

abbrev pub marked : Bool → ℤ → ℤ
marked dropped fm = cond dropped (fm +ℤ pos mark) fm

unfoldable pub kept_measure : Settings → Region → ℕ → ℤ
kept_measure s r t = marked (dropped_at s r t) (measure s r t)

-- what such a number says: whether its point is dropped, its FM, and what its point weighs
abbrev pub is_marked : ℤ → Bool
is_marked m = lt_z (pos measure_limit) m

unfoldable pub measure_held : ℤ → ℤ
measure_held m = cond (is_marked m) (m -ℤ pos mark) m

unfoldable pub weight_held : ℤ → ℤ
weight_held m = cond (is_marked m) (pos 0) m

-- ---- sums of deviations: 150 a region, those of deviations above zero at its 75 points, then those of deviations below
abbrev pub sums_each : ℕ
sums_each = 2 * points

abbrev pub sums_start : ℕ → ℕ
sums_start r = sums_each * r

abbrev pub sums_length : ℕ
sums_length = sums_each * regions

-- where the sum on a direction's side of zero stands, of a region at a point
abbrev pub sum_place : Direction → ℕ → ℕ → ℕ
sum_place Raise r t = sums_start r + t
sum_place Lower r t = sums_start r + (points + t)

-- the part of a plant's deviations that stands in the j-th sum of its region, where it is good; a bad one has none there
abbrev pub side_of : ℕ → Direction
side_of j = cond (ltb j points) Raise Lower

abbrev pub part_of : Bool → (ℕ → ℤ) → ℕ → ℤ
part_of good dev j = when good (wanted (side_of j) (dev (j % points)))

-- a region's sums, moved from a plant's part before to its part after
abbrev pub moved : ℕ → (ℕ → ℤ) → (ℕ → ℤ) → List ℤ → List ℤ
moved r before after old = put_from (sums_start r) sums_each (λ j. get_or old (sums_start r + j) (pos 0) +ℤ (after j -ℤ before j)) old

-- ---- figures: ten a region, the interval number of its book, generation, whether raise and lower are reliable (1 or 0), six defaults in the book's order
abbrev pub figures_each : ℕ
figures_each = 10

abbrev pub figures_length : ℕ
figures_length = figures_each * regions

abbrev pub six : ByDirection Defaults → ℕ → ℤ
six f i =
    get_or (f.raise.payment ∷ f.raise.used ∷ f.raise.unused ∷ f.lower.payment ∷ f.lower.used ∷ f.lower.unused ∷ []) i (pos 0)

abbrev pub figures_of : Settings → Region → ℕ → ℤ
figures_of s r zero = pos s.interval
figures_of s r (suc zero) = pos r.generation
figures_of s r (suc (suc zero)) = pos (one (reliable s r Raise))
figures_of s r (suc (suc (suc zero))) = pos (one (reliable s r Lower))
figures_of s r (suc (suc (suc (suc i)))) = six r.defaults i

-- ---- a plant's home: its region twice, and 1 more where it is good. A row is passed over where the next unit joins its group: the group stands in that
-- unit's row then
abbrev pub home : ℕ → Bool → ℕ
home region good = 2 * region + one good

abbrev pub passed_over : ℕ
passed_over = 2 * regions

-- ---- a plant's row of eight: its performances for raise and for lower, by what the points of its region weigh, and its six defaults
abbrev pub row_each : ℕ
row_each = 8

abbrev pub in_row : List ℤ → ℕ → ℕ → ℤ
in_row rows row i = get_or rows (row_each * row + i) (pos 0)

abbrev pub row_of : (ℕ → ℤ) → Plant → ℕ → ℤ
row_of weighed p zero = performance Raise weighed p.deviation
row_of weighed p (suc zero) = performance Lower weighed p.deviation
row_of weighed p (suc (suc i)) = six p.defaults i

-- ---- the plant of the unit that comes next, when so many are taken, from what is kept of the unit before
-- a unit joins the group of the unit before
abbrev pub joins : ℕ → ℕ → Lent → Bool
joins group taken l = leb 1 taken && same_group (get_or l.groups (taken - 1) 0) group

module _ (taken : ℕ) (u : Unit) (l : Lent) where
  abbrev pub joined : Bool
  joined = joins u.group taken l

  -- before it: a plant of its own was nothing, and good
  abbrev pub row_before : ℕ → ℤ
  row_before i = in_row l.rows (taken - 1) i

  abbrev pub good_before : Bool
  good_before = cond joined (eqb (get_or l.homes (taken - 1) 0 % 2) 1) true

  abbrev pub deviation_before : ℕ → ℤ
  deviation_before t = when joined (get_or l.deviations t (pos 0))

  -- and with it: the primary's number and defaults, and what its units add up to
  abbrev pub number_with : ℕ
  number_with = cond joined (get_or l.numbers (taken - 1) 0) u.number

  abbrev pub good_with : Bool
  good_with = good_before && good u

  abbrev pub deviation_with : ℕ → ℤ
  deviation_with t = deviation_before t +ℤ deviation u t

  abbrev pub row_with : (ℕ → ℤ) → ℕ → ℤ
  row_with weighed zero = when joined (row_before 0) +ℤ performance Raise weighed (deviation u)
  row_with weighed (suc zero) = when joined (row_before 1) +ℤ performance Lower weighed (deviation u)
  row_with weighed (suc (suc i)) = cond joined (row_before (2 + i)) (six u.defaults i)

  -- the row before is passed over where the unit joins
  abbrev pub homes_with : List ℕ
  homes_with = set (cond joined (set l.homes (taken - 1) passed_over) l.homes) taken (home u.region good_with)

  -- a unit without a group leaves the deviations of the group before it
  abbrev pub deviations_with : List ℤ
  deviations_with = cond (eqb u.group 0) l.deviations (filled points deviation_with l.deviations)

  -- ---- whether it may stand in its group (02, R-5; 16): a group that it joins is in its region and it has no defaults of its own; else no unit before is of
  -- its group
  unfoldable pub group_fits : Bool
  group_fits =
      cond joined (eqb (get_or l.homes (taken - 1) 0 / 2) u.region && no_defaults u.defaults)
      (eqb u.group 0 || every taken (λ i. not (eqb (get_or l.groups i 0) u.group)))

-- ---- long enough: for five regions, and for the homes and rows of n units
abbrev pub regions_long : Lent → Bool
regions_long l = leb series_length (length l.measures) && (leb sums_length (length l.sums) && leb figures_length (length l.figures))

abbrev pub rows_long : ℕ → Lent → Bool
rows_long n l = leb n (length l.homes) && leb (row_each * n) (length l.rows)

-- ---- lent numbers in range
-- every region's figures are those of a book of this interval number, which is the tally's
abbrev pub is_number : ℕ → ℤ → Bool
is_number n (pos a) = eqb a n
is_number n (negsuc a) = false

unfoldable pub of_interval : ℕ → List ℤ → Bool
of_interval n figures = every regions (λ r. is_number n (get_or figures (figures_each * r) (pos 0)))

-- numbers from a place on at most so much either way
unfoldable pub each_sized : ℕ → ℕ → ℕ → List ℤ → Bool
each_sized limit start n xs = every n (λ t. sized limit (get_or xs (start + t) (pos 0)))

-- the measures of a region hold an FM within its limit
unfoldable pub each_measured : ℕ → List ℤ → Bool
each_measured start ms = every points (λ t. sized measure_limit (measure_held (get_or ms (start + t) (pos 0))))

-- the region that byte 2 of a unit's part names; a part that ends before it names none
abbrev pub named_region : List ℕ → ℕ
named_region part = cond (ltb 2 (length part)) (number_at 1 2 part) regions

-- the group that bytes 70 and 71 of a unit's part name; a part that ends before them names none
abbrev pub named_group : List ℕ → ℕ
named_group part = cond (ltb 71 (length part)) (number_at 2 70 part) 0

-- a row's numbers, for a plant of at most so many units: both performances, six defaults
unfoldable pub row_fine : ℕ → ℕ → List ℤ → Bool
row_fine units row rows =
    sized (performance_limit * units) (in_row rows row 0)
    && (sized (performance_limit * units) (in_row rows row 1) && every 6 (λ f. default_fine unit_default_limit (in_row rows row (2 + f))))

-- what a unit call reads of the group that its unit joins: the home and the row of the unit before, for so many units as are taken, and its deviations. A
-- unit that joins none reads none.
unfoldable pub plant_in_range : ℕ → ℕ → Lent → Bool
plant_in_range group taken l =
    cond (joins group taken l)
    (ltb (get_or l.homes (taken - 1) 0) passed_over
    && (row_fine taken (taken - 1) l.rows && each_sized (deviation_limit * taken) 0 points l.deviations))
    true

-- what a unit call reads of the region that its record names: measures within their limit, sums within 15,000,000 for each unit taken. A record that names no
-- region reads none.
unfoldable pub series_in_range : ℕ → ℕ → Lent → Bool
series_in_range r taken l =
    cond (ltb r regions)
    (each_measured (series_start r) l.measures && each_sized (deviation_limit * taken) (sums_start r) sums_each l.sums)
    true
