-- Further worked books, for what the paper's listing does not use: lower, several regions, each default reason, bad points, a region without units, an
-- unreliable region, generation weights that turn the sign, used over enabled, unplaced amounts, ties, one with a value of its own in each field, and points
-- that are dropped from performance. In most
-- of them few points of a region are good, so that they are computed in little time: between those FM keeps its value. Their figures (`worked`) are the second
-- program's, which shares nothing with these definitions; tests/worked/ has each book described, as bytes and with its listing.
use Rattle.std.specs.Prelude.{Bool, true, false, not, cond, ◌&&◌, ◌||◌, List, [], ◌∷◌, ℕ, ◌+◌, ◌*◌, ◌-◌, eqb, leb, ℤ, pos, neg_ℤ, ◌+ℤ◌, ◌-ℤ◌, ◌*ℤ◌, get_or}
use Rattle.rules.specs.declared.Direction.{Direction}
use Rattle.rules.specs.declared.Direction.TheVariants.{Raise, Lower}
use Rattle.rules.specs.declared.Kind.{Kind}
use Rattle.rules.specs.declared.Kind.TheVariants.{Generation, Load}
use Rattle.rules.specs.Bytes.{listed}
use Rattle.rules.specs.Book.{ByDirection, Settings, Defaults, Region, Unit, Requirement, Book}
use Rattle.books.specs.Writing.{flat}
use Rattle.books.specs.PaperBook.{zeros}

-- ---- what the books are made of: `t` is the paper's, 1 to 75
abbrev pub series : {A : Type 0} → (ℕ → A) → List A
series f = listed 1 75 f

abbrev between : ℕ → ℕ → ℕ → Bool
between low high t = leb low t && leb t high

-- six defaults, each given by its size
abbrev pub minus : ℕ → ℕ → ℕ → ℕ → ℕ → ℕ → ByDirection Defaults
minus p u n p' u' n' =
    record {
      raise = record { payment = neg_ℤ (pos p); used = neg_ℤ (pos u); unused = neg_ℤ (pos n) };
      lower = record { payment = neg_ℤ (pos p'); used = neg_ℤ (pos u'); unused = neg_ℤ (pos n') };
    }

-- each larger in size by one than the one before
abbrev minus_from : ℕ → ByDirection Defaults
minus_from n = minus (n + 1) (n + 2) (n + 3) (n + 4) (n + 5) (n + 6)

abbrev pub settings : ℕ → ℕ → ℕ → ℕ → Settings
settings smoothing limit percent interval = record { smoothing = smoothing; limit = limit; percent = percent; interval = interval }

-- the points at which `good` holds are good
abbrev region_where : (ℕ → Bool) → (ℕ → ℕ) → ℤ → ℕ → ByDirection Defaults → Region
region_where good frequency before generation defaults =
    record {
      separation = false;
      quality = series good;
      before = before;
      generation = generation;
      defaults = defaults;
      frequency = series (λ t. cond (good t) (frequency t) 0);
    }

-- all points good; the first alone; the first and one or two others: FM before 0
abbrev region : ℕ → ByDirection Defaults → (ℕ → ℕ) → Region
region generation defaults frequency = region_where (λ t. true) frequency (pos 0) generation defaults

abbrev pub first_good : ℕ → ByDirection Defaults → ℕ → Region
first_good generation defaults frequency = region_where (eqb 1) (λ t. frequency) (pos 0) generation defaults

abbrev pub two_good : ℕ → ByDirection Defaults → ℕ → ℕ → ℕ → Region
two_good generation defaults frequency other frequency' =
    region_where (λ t. eqb t 1 || eqb t other) (λ t. cond (eqb t 1) frequency frequency') (pos 0) generation defaults

abbrev three_good : ℕ → ByDirection Defaults → ℕ → ℕ → ℕ → ℕ → ℕ → Region
three_good generation defaults frequency middle frequency' last frequency'' =
    region_where (λ t. eqb t 1 || eqb t middle || eqb t last) (λ t. cond (eqb t 1) frequency (cond (eqb t middle) frequency' frequency'')) (pos 0) generation
    defaults

-- frequencies from t = 1 on, and 50,000,000 past the last of them; a point that holds 0 is bad
abbrev listed_region : ℤ → ℕ → ByDirection Defaults → List ℕ → Region
listed_region before generation defaults frequencies =
    region_where (λ t. not (eqb (get_or frequencies (t - 1) 50_000_000) 0)) (λ t. get_or frequencies (t - 1) 50_000_000) before generation defaults

abbrev separated : Region → Region
separated r =
    record { separation = true; quality = r.quality; before = r.before; generation = r.generation; defaults = r.defaults; frequency = r.frequency }

abbrev pub quiet : Region
quiet = region 0 zeros (λ t. 50_000_000)

abbrev pub unit : ℕ → ℕ → Kind → ℤ → ℤ → ByDirection Defaults → List Bool → List ℤ → Unit
unit number r kind start end defaults quality reading =
    record { number = number; region = r; kind = kind; start = start; end = end; defaults = defaults; quality = quality; group = 0; reading = reading }

-- a unit on a flat trajectory, all points good
abbrev pub steady : ℕ → ℕ → Kind → ℕ → ByDirection Defaults → List ℤ → Unit
steady number r kind power defaults reading = unit number r kind (pos power) (pos power) defaults (flat true) reading

-- the same, where the reading at a point is bad
abbrev pub bad_at : ℕ → ℕ → ℕ → Kind → ℤ → ℤ → ByDirection Defaults → (ℕ → ℤ) → Unit
bad_at point number r kind start end defaults reading =
    unit number r kind start end defaults (series (λ t. not (eqb t point))) (series (λ t. cond (eqb t point) (pos 0) (reading t)))

abbrev pub requirement : ℕ → ℕ → Direction → ℕ → ℕ → ℕ → ℕ → Requirement
requirement number set direction price cost enabled used =
    record { number = number; set = set; direction = direction; price = price; cost = cost; enabled = enabled; used = used }

abbrev pub book : Settings → List Region → List Unit → List Requirement → Book
book s rs us qs = record { settings = s; regions = rs; roster = us; requirements = qs }

-- ---- lower over two regions in one set, generation and load; one region alone; raise where no FM is above 0
abbrev pub lower_two_regions : Book
lower_two_regions =
    book (settings 10_000 74 20 101)
    (quiet ∷ first_good 300_000 (minus 500 50 5 400 40 4) 50_020_000 ∷ first_good 100_000 (minus 300 30 3 200 20 2) 50_030_000 ∷ quiet ∷ quiet ∷ [])
    (steady 1 1 Generation 10_000 (minus 100 200 300 400 500 600) (flat (pos 9_900))
    ∷ steady 2 2 Load 5_000 (minus 10 20 30 40 50 60) (flat (pos 5_040))
    ∷ steady 3 2 Generation 2_000 (minus 1 2 3 4 5 6) (flat (pos 2_010))
    ∷ steady 4 1 Load 8_000 (minus 0 0 0 7 8 9) (flat (pos 7_970))
    ∷ [])
    (requirement 3 6 Lower 3_000 5_000 2_000 1_250 ∷ requirement 4 2 Lower 1_199 777 1_000 500 ∷ requirement 9 6 Raise 3_000 1_000 2_000 2_000 ∷ [])

-- ---- each default reason: a bad unit, regions unreliable by separation and by FM 10,000, a region with no good unit; one with no unit stays live. Two bad of
-- three are just over 66 percent
abbrev pub default_reasons : Book
default_reasons =
    book (settings 10_000 74 66 102)
    (first_good 100_000 (minus 1_000 2_000 3_000 0 0 0) 49_980_000
    ∷ separated (first_good 100_000 (minus 2_000 4_000 6_000 0 0 0) 49_980_000)
    ∷ first_good 100_000 (minus 3_000 6_000 9_000 0 0 0) 49_980_000
    ∷ first_good 100_000 (minus 4_000 8_000 12_000 0 0 0) 49_980_000
    ∷ first_good 100_000 (minus 5_000 10_000 15_000 0 0 0) 49_990_000
    ∷ [])
    (steady 10 0 Generation 1_000 (minus 11 12 13 0 0 0) (flat (pos 1_010))
    ∷ bad_at 75 20 0 Generation (pos 1_000) (pos 1_000) (minus 75_000_000 375_000_000 23 0 0 0) (λ t. pos 3_000)
    ∷ steady 30 1 Load 1_000 (minus 31 32 33 0 0 0) (flat (pos 900))
    ∷ unit 40 2 Load (pos 1_000) (pos 1_000) (minus 41 42 43 0 0 0) (flat false) (flat (pos 0))
    ∷ [])
    (requirement 1 9 Raise 9_000 1_000 400 100 ∷ requirement 2 5 Raise 9_000 1_000 400 100 ∷ requirement 3 31 Raise 9_000 1_000 400 100 ∷ [])

-- ---- a 5,000 from FM -20,000 towards 40,000; ten bad points, the limit, where FM stays; eleven make the region unreliable
abbrev gap : ℕ → Region
gap last = region_where (λ t. not (between 3 last t)) (λ t. 49_960_000) (neg_ℤ (pos 20_000)) 100_000 (minus 7 8 9 0 0 0)

abbrev pub bad_frequency_points : Book
bad_frequency_points =
    book (settings 5_000 10 20 103)
    (gap 12 ∷ quiet ∷ quiet ∷ gap 13 ∷ quiet ∷ [])
    (steady 1 0 Generation 0 (minus 1 1 1 0 0 0) (flat (pos 1))
    ∷ steady 2 3 Generation 0 (minus 2 2 2 0 0 0) (flat (pos 1))
    ∷ steady 3 0 Load 0 (minus 3 3 3 0 0 0) (flat (pos 2))
    ∷ [])
    (requirement 1 1 Raise 10_000_000 100 3 1 ∷ requirement 2 8 Raise 10_000_000 100 3 1 ∷ [])

-- ---- generation weights turn the sign, and cancel it at t = 75, where the response is largest; a region without
-- generation has no sign; used over enabled
abbrev pub sign_turned : Book
sign_turned =
    book (settings 10_000 74 20 104)
    (two_good 100_000 zeros 49_980_000 61 50_020_000
    ∷ three_good 200_000 zeros 49_985_000 11 50_030_000 75 49_990_000
    ∷ first_good 0 zeros 49_980_000
    ∷ quiet
    ∷ quiet
    ∷ [])
    (steady 1 0 Generation 0 zeros (series (λ t. pos (10 * t)))
    ∷ steady 2 1 Generation 500 zeros (flat (pos 400))
    ∷ steady 3 1 Load 0 zeros (flat (pos 5))
    ∷ steady 4 2 Generation 0 zeros (flat (pos 10))
    ∷ [])
    (requirement 1 3 Raise 1_800 999 600 900
    ∷ requirement 2 1 Raise 1_800 999 600 600
    ∷ requirement 3 3 Lower 1_800 999 600 0
    ∷ requirement 4 4 Raise 1_800 0 600 0
    ∷ [])

-- ---- generation weights alone decide the sign: from t = 11 on region 0's FM is 20,000 and region 1's -30,000, weighing 300,000 and 100,000
abbrev pub weights_decide : Book
weights_decide =
    book (settings 10_000 74 20 108)
    (first_good 300_000 zeros 49_980_000 ∷ two_good 100_000 zeros 49_980_000 11 50_030_000 ∷ quiet ∷ quiet ∷ quiet ∷ [])
    (steady 1 0 Generation 0 zeros (series (λ t. pos t)) ∷ [])
    (requirement 1 3 Raise 1_200 0 0 0 ∷ [])

-- ---- no weight anywhere; enabled 0; a region whose only unit is bad, a negative side alone
abbrev pub unplaced : Book
unplaced =
    book (settings 10_000 74 100 105)
    (first_good 1 zeros 49_980_000 ∷ quiet ∷ first_good 1 zeros 49_980_000 ∷ quiet ∷ quiet ∷ [])
    (unit 1 0 Generation (pos 0) (pos 75) zeros (flat true) (series (λ t. pos t))
    ∷ unit 2 0 Load (pos 75) (pos 0) zeros (flat true) (series (λ t. pos (75 - t)))
    ∷ bad_at 1 3 2 Generation (pos 0) (pos 0) (minus 5 0 7 0 0 0) (λ t. pos 0)
    ∷ [])
    (requirement 1 1 Raise 5_000 1_001 2 1 ∷ requirement 2 1 Raise 5_000 1_001 0 1 ∷ requirement 3 4 Raise 5_000 1_001 2 1 ∷ [])

-- ---- trajectories that fall between whole cMW and are not rounded; a load that ramps down; FM of both signs; the highest unit number
abbrev pub ramp : Book
ramp =
    book (settings 10_000 10 20 106)
    (quiet ∷ quiet ∷ quiet ∷ quiet ∷ region 5_000 zeros (λ t. 49_970_000 + 800 * t) ∷ [])
    (unit 1 4 Generation (pos 0) (pos 100) zeros (flat true) (flat (pos 0))
    ∷ unit 2 4 Load (pos 1_000) (pos 900) zeros (flat true) (flat (pos 950))
    ∷ unit 65_535 4 Generation (neg_ℤ (pos 100)) (pos 100) zeros (flat true) (series (λ t. pos (2 * t) -ℤ pos 50))
    ∷ [])
    (requirement 1 16 Raise 900 10 3 2 ∷ requirement 2 16 Lower 900 10 3 2 ∷ [])

-- ---- equal weights and left-overs; a member without weight
abbrev pub ties : Book
ties =
    book (settings 10_000 74 20 107)
    (first_good 1 (minus 0 0 1 0 0 0) 49_980_000 ∷ quiet ∷ quiet ∷ quiet ∷ quiet ∷ [])
    (steady 1 0 Generation 0 (minus 0 0 1 0 0 0) (flat (neg_ℤ (pos 1)))
    ∷ steady 2 0 Generation 0 (minus 0 0 1 0 0 0) (flat (neg_ℤ (pos 1)))
    ∷ steady 3 0 Generation 0 zeros (flat (pos 0))
    ∷ steady 4 0 Load 0 (minus 0 0 1 0 0 0) (flat (pos 1))
    ∷ steady 5 0 Load 0 (minus 0 0 1 0 0 0) (flat (neg_ℤ (pos 3)))
    ∷ [])
    (requirement 6 1 Raise 4_000 14 14 2 ∷ [])

-- ---- equal remainders of unequal weights in every share, for raise and for lower: Ties has the weights. FM is 20,000 at 40 points and -20,000 at 35, so 1 cMW
-- off the trajectory comes to 60,000,000 for raise and to 52,500,000 for lower; the defaults of the two bad units are multiples of it
abbrev pub larger_first : Book
larger_first =
    book (settings 10_000 73 50 111)
    (two_good 1 (minus 0 0 3 0 0 8) 49_980_000 41 50_020_000 ∷ quiet ∷ quiet ∷ quiet ∷ quiet ∷ [])
    (steady 1 0 Generation 0 (minus 0 0 1 0 0 2) (flat (pos 4))
    ∷ steady 2 0 Generation 0 (minus 0 0 3 0 0 5) (flat (pos 1))
    ∷ steady 3 0 Generation 0 (minus 0 0 1 0 0 0) (flat (pos 295))
    ∷ steady 4 0 Generation 0 (minus 0 0 3 0 0 8) (flat (neg_ℤ (pos 2)))
    ∷ steady 5 0 Load 0 (minus 0 0 5 0 0 5) (flat (pos 5))
    ∷ bad_at 75 6 0 Generation (pos 0) (pos 0) (minus 11_940_000_000 2_820_000_000 3 5_407_500_000 2_100_000_000 2) (λ t. pos 0)
    ∷ bad_at 75 7 0 Generation (pos 0) (pos 0) (minus 6_060_000_000 3_180_000_000 5 10_342_500_000 1_050_000_000 0) (λ t. pos 0)
    ∷ [])
    (requirement 1 1 Raise 800 500 500 200 ∷ requirement 2 1 Lower 1_600 200 200 120 ∷ [])

-- ---- roster 0: live residuals at 0; used unplaced; a region at 50 Hz is unreliable
abbrev pub no_units : Book
no_units =
    book (settings 10_000 74 20 0)
    (first_good 0 zeros 50_000_000 ∷ first_good 10 (minus 0 0 0 9 9 2) 50_011_000 ∷ first_good 10 (minus 0 0 0 9 9 2) 50_011_000 ∷ quiet ∷ quiet ∷ [])
    []
    (requirement 0 6 Lower 100 50 10 4 ∷ requirement 1 7 Lower 100 50 10 4 ∷ [])

-- ---- RCR above 0, yet no pool: unit 1 moves where its region needs lower but the set, by the other region's weight, raise; regions 3 and 4 mirror
-- it; enabled 1
abbrev pub one_side : Book
one_side =
    book (settings 10_000 74 100 108)
    (two_good 1 zeros 49_980_000 8 50_020_000
    ∷ first_good 10 (minus 20 30 0 0 0 0) 49_980_000
    ∷ first_good 10 (minus 20 30 0 0 0 0) 49_980_000
    ∷ two_good 1 zeros 50_020_000 8 49_980_000
    ∷ first_good 10 (minus 0 0 0 20 30 0) 50_020_000
    ∷ [])
    (steady 1 0 Generation 0 zeros (series (λ t. cond (leb t 7) (pos 0) (pos 100)))
    ∷ bad_at 8 2 1 Generation (pos 0) (pos 0) (minus 5 10 1 0 0 0) (λ t. pos 50)
    ∷ steady 3 3 Generation 0 zeros (series (λ t. cond (leb t 7) (pos 0) (neg_ℤ (pos 100))))
    ∷ bad_at 8 4 4 Generation (pos 0) (pos 0) (minus 0 0 0 5 10 1) (λ t. pos 50)
    ∷ [])
    (requirement 1 3 Raise 1_200 100 4 1
    ∷ requirement 2 5 Raise 1_200 100 4 1
    ∷ requirement 3 1 Raise 1_200 100 1 1
    ∷ requirement 4 1 Lower 1_200 100 4 1
    ∷ requirement 5 24 Lower 1_200 100 4 1
    ∷ requirement 6 8 Lower 1_200 100 1 1
    ∷ [])

-- ---- lower where defaults stand in: a region with as many bad points as the limit, one separated with a good unit, one with a bad point more, one that keeps
-- the FM before the interval to t = 74 and has no good unit, and FM -10,000 throughout
abbrev pub lower_defaults : Book
lower_defaults =
    book (settings 10_000 74 50 109)
    (first_good 100 (minus_from 100) 50_020_000
    ∷ separated (first_good 100 (minus_from 200) 50_020_000)
    ∷ region_where (λ t. false) (λ t. 0) (neg_ℤ (pos 20_000)) 100 (minus_from 300)
    ∷ region_where (eqb 75) (λ t. 50_030_000) (neg_ℤ (pos 30_000)) 100 (minus 401 402 403 3_400_000_000 5_600_000_000 406)
    ∷ first_good 100 (minus_from 500) 50_010_000
    ∷ [])
    (steady 1 0 Generation 1_000 (minus_from 10) (flat (pos 900))
    ∷ bad_at 40 2 0 Load (pos 2_000) (pos 2_000) (minus 21 22 23 4_000_000_000 7_000_000_000 26) (λ t. pos 2_500)
    ∷ unit 3 3 Generation (pos 0) (pos 0) (minus 31 32 33 1_000_000_000 3_000_000_000 36) (flat false) (flat (pos 0))
    ∷ steady 4 1 Generation 1_000 (minus_from 40) (flat (pos 900))
    ∷ [])
    (lower 1 1 ∷ lower 2 9 ∷ lower 3 2 ∷ lower 4 4 ∷ lower 5 16 ∷ [])
  where
    lower : ℕ → ℕ → Requirement
    lower number set = requirement number set Lower 3_000 5_000 2_000 1_000

-- ---- seven or six points of FM beyond 0 of which one is beyond 10,000, in a row or not; 74 points of FM 10,000; what is beyond in the other direction makes
-- up for nothing. Units 1 and 2 are furthest from their lines where FM is 0 and the set has no sign; RCR is at FM -1 and at FM 1, weighed by 1
abbrev pub edges_of_reliability : Book
edges_of_reliability =
    book (settings 10_000 72 20 110)
    (three_good 1 (minus_from 10) 50_010_001 2 50_000_000 70 50_000_001
    ∷ three_good 0 (minus_from 20) 50_010_001 2 50_000_000 71 50_000_001
    ∷ three_good 0 (minus_from 30) 50_010_000 2 50_010_000 75 49_989_999
    ∷ three_good 1 (minus_from 40) 50_000_000 69 49_999_999 75 49_989_999
    ∷ three_good 0 (minus_from 50) 50_000_001 70 49_999_999 75 49_989_999
    ∷ [])
    (steady 1 0 Generation 0 zeros (series (λ t. neg_ℤ (pos (cond (leb t 69) t 7)))) ∷ steady 2 3 Generation 0 zeros (series (λ t. pos (76 - t))) ∷ [])
    (of 0 1 Lower ∷ of 1 2 Lower ∷ of 2 4 Lower ∷ of 3 8 Raise ∷ of 4 16 Raise ∷ [])
  where
    of : ℕ → ℕ → Direction → Requirement
    of number set direction = requirement number set direction 0 50 10 4

-- ---- each field holds a value of its own; no unit is of a group
abbrev pub every_field : Book
every_field =
    book (settings 4_321 72 33 67_305_985)
    (below 1 ∷ above 2 ∷ below 3 ∷ above 4 ∷ separated (below 5) ∷ [])
    (bad_at 9 258 3 Load (pos 70_000) (neg_ℤ (pos 60_000)) (minus_from 2_020_304_050_607) (λ t. pos 1_000 -ℤ pos (13 * t))
    ∷ unit 772 2 Generation (neg_ℤ (pos 1_234)) (pos 5_678) (minus_from 3_030_405_060_708) (flat true) (series (λ t. pos (100 * t) -ℤ pos 3_000))
    ∷ [])
    (requirement 513 5 Raise 66_051 4_328_719_365 658_188 526_086 ∷ requirement 1_027 10 Lower 9_876_543 987_654_321_012 1_234_567 1_999_999 ∷ [])
  where
    -- the step is the region's number and one
    away : ℕ → ℕ → ℕ
    away step t = 20_000 + 1_001 * step + 13 * t

    three : ℕ → (ℕ → ℕ) → ℤ → Region
    three step frequency before =
        region_where (λ t. eqb t step || eqb t (step + 9) || eqb t (76 - step)) frequency before (111_112 * step - 1) (minus_from (1_010_203_040_506 * step))

    below : ℕ → Region
    below step = three step (λ t. 50_000_000 - away step t) (pos (11_111 * step))

    above : ℕ → Region
    above step = three step (λ t. 50_000_000 + away step t) (neg_ℤ (pos (11_111 * step)))

-- ---- points where measure and frequency disagree (02, R-3). Region 0, FM above 0: dropped at t = 2, 5 and 9, kept at an end of the band, on the other side
-- of it, at bad points and where FM comes to 0; likewise below 0: dropped at t = 14, 17 and 21. In region 1 nothing is dropped
abbrev pub dropped_edges : Book
dropped_edges =
    book (settings 1_000 10 20 112)
    (listed_region (pos 20_000) 30_000 (minus 0 0 5 0 0 9)
    (50_015_000 ∷ 50_015_001 ∷ 0 ∷ 0 ∷ 50_015_001 ∷ 49_984_999 ∷ 50_015_000 ∷ 49_985_000 ∷ 50_081_269 ∷ 49_800_000 ∷ 50_180_009 ∷ 50_200_000 ∷
    49_985_000 ∷ 49_984_999 ∷ 0 ∷ 0 ∷ 49_984_999 ∷ 50_015_001 ∷ 49_985_000 ∷ 50_015_000 ∷ 49_918_731 ∷ 50_200_000 ∷ 49_819_991 ∷ [])
    ∷ listed_region (pos 0) 10_000 zeros
    (49_800_000 ∷ 49_980_000 ∷ 49_980_000 ∷ 49_980_000 ∷ 49_980_000 ∷ 49_980_000 ∷ 49_980_000 ∷ 49_980_000 ∷ 50_380_000 ∷ 50_020_000 ∷ 50_020_000 ∷
    50_020_000 ∷ 50_020_000 ∷ 50_020_000 ∷ 50_020_000 ∷ 50_020_000 ∷ 49_820_000 ∷ [])
    ∷ quiet ∷ quiet ∷ quiet ∷ [])
    (unit 1 0 Generation (pos 1_001) (pos 1_013) (minus 0 0 3 0 0 1) (flat true) (series (λ t. pos 1_041 -ℤ pos 6 *ℤ pos t))
    ∷ unit 2 0 Load (pos 503) (pos 491) (minus 0 0 1 0 0 4) (flat true) (series (λ t. pos 497 +ℤ pos 2 *ℤ pos t))
    ∷ unit 3 1 Generation (neg_ℤ (pos 7)) (pos 5) (minus 0 0 2 0 0 2) (flat true) (series (λ t. pos 2 *ℤ pos t -ℤ pos 21))
    ∷ [])
    (requirement 1 3 Raise 9_000 1_001 7 3 ∷ requirement 2 3 Lower 9_000 1_001 7 5 ∷ [])

-- ---- dropped points count for reliability, for RCR and for the requirement's sign: region 0 is reliable by t = 1 for lower and by t = 12 for raise, and at
-- these two the response is largest
abbrev pub dropped_reliability : Book
dropped_reliability =
    book (settings 5_000 10 20 113)
    (listed_region (neg_ℤ (pos 40_001)) 30_000 (minus 50_000_000 60_000_000 1 70_000_000 80_000_000 1)
    (49_984_999 ∷ 50_007_500 ∷ 50_010_000 ∷ 50_010_000 ∷ 50_010_000 ∷ 50_010_000 ∷ 50_010_000 ∷ 50_010_000 ∷ 50_010_000 ∷ 50_010_000 ∷ 49_900_000 ∷
    50_015_001 ∷ 49_995_000 ∷ 49_990_000 ∷ 49_990_000 ∷ 49_990_000 ∷ 49_990_000 ∷ 50_010_000 ∷ [])
    ∷ listed_region (pos 0) 10_000 zeros
    (49_960_000 ∷ 49_980_000 ∷ 49_980_000 ∷ 49_980_000 ∷ 49_980_000 ∷ 49_980_000 ∷ 49_980_000 ∷ 49_980_000 ∷ 49_980_000 ∷ 49_980_000 ∷ 50_060_000 ∷
    50_020_000 ∷ 50_020_000 ∷ 50_020_000 ∷ 50_020_000 ∷ 50_020_000 ∷ 50_020_000 ∷ 50_020_000 ∷ 49_980_000 ∷ [])
    ∷ quiet ∷ quiet ∷ quiet ∷ [])
    (steady 1 0 Generation 0 (minus 10_000_000 20_000_000 1 30_000_000 40_000_000 1)
    (series (λ t. cond (eqb t 1) (neg_ℤ (pos 91)) (cond (leb t 11) (neg_ℤ (pos 13)) (cond (eqb t 12) (pos 77) (pos 9)))))
    ∷ steady 2 1 Load 0 zeros (flat (pos 3))
    ∷ [])
    (requirement 1 3 Raise 9_000 1_001 7 3 ∷ requirement 2 3 Lower 9_000 1_001 7 5 ∷ [])

-- ---- the guide's table 15 as region 3: its region frequency deviation on top of 50,000,000 (its first point has no FM yet, and is bad). t = 20, 58 and 68
-- are dropped
abbrev pub table_15 : Book
table_15 =
    book (settings 2_222 10 20 114)
    (quiet ∷ quiet ∷ quiet
    ∷ listed_region (pos 0) 123_457 (minus 0 0 7 0 0 11)
    (0 ∷ 50_005_000 ∷ 50_041_500 ∷ 50_038_000 ∷ 50_020_750 ∷ 50_015_250 ∷ 50_019_250 ∷ 50_022_250 ∷ 50_030_250 ∷ 50_033_750 ∷ 50_033_750 ∷
    50_034_250 ∷ 50_023_750 ∷ 50_008_000 ∷ 50_004_000 ∷ 49_996_000 ∷ 50_010_750 ∷ 50_014_750 ∷ 49_997_250 ∷ 49_981_250 ∷ 49_979_250 ∷ 49_992_500 ∷
    50_000_250 ∷ 49_993_000 ∷ 49_995_000 ∷ 49_995_750 ∷ 50_007_750 ∷ 50_009_000 ∷ 50_003_500 ∷ 49_993_250 ∷ 49_985_250 ∷ 49_988_750 ∷ 49_999_250 ∷
    50_008_250 ∷ 50_016_250 ∷ 50_012_250 ∷ 49_987_000 ∷ 49_990_750 ∷ 50_019_400 ∷ 50_017_000 ∷ 49_993_500 ∷ 49_988_250 ∷ 49_987_000 ∷ 49_988_250 ∷
    49_979_000 ∷ 49_969_250 ∷ 49_981_000 ∷ 49_991_750 ∷ 49_979_400 ∷ 49_981_000 ∷ 50_001_000 ∷ 49_997_750 ∷ 49_987_000 ∷ 49_984_750 ∷ 49_988_750 ∷
    49_997_750 ∷ 50_010_500 ∷ 50_015_500 ∷ 50_014_750 ∷ 50_007_000 ∷ 50_002_000 ∷ 49_999_500 ∷ 50_012_750 ∷ 50_023_750 ∷ 50_029_250 ∷ 50_017_750 ∷
    50_001_000 ∷ 49_980_000 ∷ 49_980_500 ∷ 49_985_000 ∷ 49_989_000 ∷ 49_973_000 ∷ 49_973_750 ∷ 49_990_000 ∷ 50_003_000 ∷ [])
    ∷ quiet ∷ [])
    (unit 1 3 Generation (pos 10_007) (pos 10_133) (minus 0 0 13 0 0 17) (flat true) (series (λ t. pos 9_973 +ℤ pos 3 *ℤ pos t))
    ∷ unit 2 3 Load (pos 4_999) (pos 4_871) (minus 0 0 19 0 0 23) (flat true) (series (λ t. pos 5_021 -ℤ pos 2 *ℤ pos t))
    ∷ unit 3 3 Generation (pos 2_503) (pos 2_503) (minus 0 0 29 0 0 31) (flat true) (series (λ t. pos 2_659 -ℤ pos 4 *ℤ pos t))
    ∷ unit 4 3 Load (neg_ℤ (pos 307)) (pos 211) (minus 0 0 37 0 0 41) (flat true) (series (λ t. pos 7 *ℤ pos t -ℤ pos 341))
    ∷ [])
    (requirement 1 8 Raise 1_237 10_007 1_009 337 ∷ requirement 2 8 Lower 2_341 10_009 1_013 719 ∷ [])
