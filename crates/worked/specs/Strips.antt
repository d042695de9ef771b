-- Worked trend strips (02, R-2), from the bytes of a unit's record, by computing: points by their bits, what a call answers and leaves in the lent points,
-- every refusal, and a strip as text. The bits and refusals are the second program's, which shares nothing with these definitions.
use Rattle.std.specs.Prelude.{◌≡◌, refl, true, cond, List, [], ◌∷◌, ◌++◌, map, ℕ, ◌+◌, ◌*◌, ◌%◌, eqb, Float, ℤ, pos, neg_ℤ, ◌+ℤ◌, set, take}
use Rattle.std.specs.Float.{binary32}
use Rattle.std.specs.Float.Ieee.{of_int, div, mul, lt, of_bits, to_bits}
use Rattle.integers.specs.Fills.{filled}
use Rattle.rules.specs.declared.Kind.TheVariants.{Generation, Load}
use Rattle.rules.specs.declared.Refusal.{Refusal}
use Rattle.rules.specs.declared.Refusal.TheVariants.{EndsEarly, TooShort, UnitNotRising, WrongGroup, UnitHeader, UnitDefault, UnitQuality, UnitReading}
use Rattle.rules.specs.declared.Strip.{Strip}
use Rattle.rules.specs.declared.Trend.{Trend}
use Rattle.rules.specs.declared.Trend.TheVariants.{Drawn, Bad, Refused}
use Rattle.rules.specs.Refusals.{refused, ◌>>=◌}
use Rattle.rules.specs.Bytes.{listed}
use Rattle.rules.specs.Book.{Unit}
use Rattle.rules.specs.UnitRecord.{unit_record}
use Rattle.rules.specs.Groups.{in_its_group}
use Rattle.rules.specs.Written.{unit_laid}
use Rattle.rules.specs.Said.{handed}
use Rattle.rules.specs.Strip.{megawatts, folded, strip_reply, trend_of, points_after}
use Rattle.rules.specs.StripText.{ten_thousandths, level}
use Rattle.books.specs.Writing.{flat}
use Rattle.books.specs.PaperBook.{zeros}
use Rattle.books.specs.WorkedBooks.{series, settings, unit, steady, bad_at, book}
use Rattle.books.specs.GroupBooks.{grouped}
use Rattle.books.specs.Computing.{computing}

-- opens every definition that a theorem by computing goes through: those of a record, and those of its strip. No strip multiplies; wrong definitions do
-- (crates/rules/definitions), and are to be refused by their figures
unfoldable drawing : true ≡ true
unfolding computing megawatts folded strip_reply filled div mul lt of_int of_bits to_bits
drawing = refl

-- n below zero
abbrev minus : ℕ → ℤ
minus n = neg_ℤ (pos n)

-- ---- points: 3 is the first that the rounded 1/7,500 misses, 5 the first that 75 and then 100 do
pub worked_points :
    map (λ d. to_bits binary32 (megawatts d))
    (pos 0 ∷ pos 1 ∷ pos 3 ∷ pos 5 ∷ pos 100 ∷ pos 7_499 ∷ pos 7_501 ∷ minus 7_500 ∷ pos 14_999_999 ∷ pos 15_000_000 ∷ [])
    ≡ (0x00000000 ∷ 0x390BCF65 ∷ 0x39D1B717 ∷ 0x3A2EC33E ∷ 0x3C5A740E ∷ 0x3F7FF743 ∷ 0x3F80045E ∷ 0xBF800000 ∷ 0x44F9FFFF ∷ 0x44FA0000 ∷ [])
unfolding drawing
worked_points = refl

-- ---- what strips are made of
-- a unit's record alone, as the book writer lays it out
abbrev record_of : Unit → List ℕ
record_of u = unit_laid (handed (book (settings 0 0 0 0) [] (u ∷ []) [])) 0

-- floats by their bits
abbrev floats : List ℕ → List Float
floats = map (of_bits binary32)

abbrev strip : ℕ → ℕ → ℕ → Strip
strip lowest highest last = record { lowest = of_bits binary32 lowest; highest = of_bits binary32 highest; last = of_bits binary32 last }

-- so many lent points, which hold 1, 2, 3 and so on
abbrev lent : ℕ → List Float
lent room = listed 1 room (λ i. of_int binary32 (pos i))

-- a call with a record and so many lent points: its answer, and what they then hold
abbrev call : ℕ → List ℕ → Trend × List Float
call room part = let reply = strip_reply room part in (trend_of reply, points_after reply (lent room))

-- with 75 points, and with 77, of which the last two stay
pub record DrawnAs (u : Unit) (s : Strip) (points : List ℕ) : Type 0 where
  pub exactly : call 75 (record_of u) ≡ (Drawn s, floats points)
  pub and_more : call 77 (record_of u) ≡ (Drawn s, floats points ++ (of_int binary32 (pos 76) ∷ of_int binary32 (pos 77) ∷ []))

-- a bad unit's points stay, and so do those of a refused one
abbrev bad : ℕ → Trend × List Float
bad room = (Bad (strip 0 0 0), lent room)

abbrev refuses : ℕ → Refusal → Trend × List Float
refuses room r = (Refused r, lent room)

-- ---- strips
pub load_on_its_set_point : DrawnAs (steady 7 2 Load 5_000 zeros (flat (pos 5_000))) (strip 0 0 0) (flat 0)
unfolding drawing
load_on_its_set_point = record { exactly = refl; and_more = refl }

-- a load that takes too much throughout: even its highest point, -0.01 MW, is below zero
abbrev greedy : Unit
greedy = steady 7 2 Load 5_000 zeros (series (λ t. cond (eqb t 1) (pos 5_999) (cond (eqb t 40) (pos 5_001) (pos 5_925))))

pub all_negative :
    DrawnAs greedy (strip 0xC11FD70A 0xBC23D70A 0xC1140000) (series (λ t. cond (eqb t 1) 0xC11FD70A (cond (eqb t 40) 0xBC23D70A 0xC1140000)))
unfolding drawing
all_negative = record { exactly = refl; and_more = refl }

-- 12.34 MW at t = 33, and on the line at all others
pub spike :
    DrawnAs (steady 7 2 Generation 10_000 zeros (series (λ t. cond (eqb t 33) (pos 11_234) (pos 10_000)))) (strip 0 0x414570A4 0)
    (series (λ t. cond (eqb t 33) 0x414570A4 0))
unfolding drawing
spike = record { exactly = refl; and_more = refl }

-- a generator on a ramp, to both sides of it: highest at t = 5, lowest at t = 71
abbrev ramping : ℕ → ℤ
ramping t = pos (10_040 + 17 * t % 43)

pub generator_on_a_ramp :
    DrawnAs (unit 7 2 Generation (pos 10_007) (pos 10_133) zeros (flat true) (series ramping)) (strip 0xBF553261 0x3F2A7EFA 0xBF266666)
    (0x3EF765FE ∷ 0x3F22EB1C ∷ 0x3EB81D7E ∷ 0x3F0346DC ∷ 0x3F2A7EFA ∷ 0x3EC74539 ∷ 0x3F0ADABA ∷ 0x3E87FCB9 ∷ 0x3ED66CF4 ∷ 0x3F126E98 ∷ 0x3E972474 ∷
    0x3EE594AF ∷ 0x3E2FB7E9 ∷ 0x3EA64C30 ∷ 0x3EF4BC6A ∷ 0x3E4E075F ∷ 0x3EB573EB ∷ 0x3D9EECC0 ∷ 0x3E6C56D6 ∷ 0x3EC49BA6 ∷ 0x3DDB8BAC ∷ 0x3E855326 ∷
    0xBC86594B ∷ 0x3E0C154D ∷ 0x3E947AE1 ∷ 0x3C5844D0 ∷ 0x3E2A64C3 ∷ 0xBDE21965 ∷ 0x3D2F4F0E ∷ 0x3E48B439 ∷ 0xBDA57A78 ∷ 0x3D944674 ∷ 0xBE514E3C ∷
    0xBD51B717 ∷ 0x3DD0E560 ∷ 0xBE32FEC5 ∷ 0xBCB0F27C ∷ 0xBE98C7E3 ∷ 0xBE14AF4F ∷ 0x3C03126F ∷ 0xBE89A027 ∷ 0xBDECBFB1 ∷ 0xBEC8E8A7 ∷ 0xBE74F0D8 ∷
    0xBDB020C5 ∷ 0xBEB9C0EC ∷ 0xBE56A162 ∷ 0xBD6703B0 ∷ 0xBEAA9931 ∷ 0xBE3851EC ∷ 0xBEE9E1B1 ∷ 0xBE9B7176 ∷ 0xBE1A0275 ∷ 0xBEDAB9F5 ∷ 0xBE8C49BA ∷
    0xBF0D013B ∷ 0xBECB923A ∷ 0xBE7A43FE ∷ 0xBF056D5D ∷ 0xBEBC6A7F ∷ 0xBF25119D ∷ 0xBEFBB2FF ∷ 0xBEAD42C4 ∷ 0xBF1D7DBF ∷ 0xBEEC8B44 ∷ 0xBF3D21FF ∷
    0xBF15E9E2 ∷ 0xBEDD6388 ∷ 0xBF358E22 ∷ 0xBF0E5604 ∷ 0xBF553261 ∷ 0xBF2DFA44 ∷ 0xBF06C227 ∷ 0xBF4D9E84 ∷ 0xBF266666 ∷ [])
unfolding drawing
generator_on_a_ramp = record { exactly = refl; and_more = refl }

-- the same generator, of which one reading is bad
abbrev bad_from : ℕ → List ℕ
bad_from t = record_of (bad_at t 7 2 Generation (pos 10_007) (pos 10_133) zeros ramping)

pub record BadUnits : Type 0 where
  pub last : call 75 (bad_from 75) ≡ bad 75
  pub last_and_more : call 77 (bad_from 75) ≡ bad 77
  pub first : call 75 (bad_from 1) ≡ bad 75
  pub between : call 75 (bad_from 40) ≡ bad 75

pub bad_reading : BadUnits
unfolding drawing
bad_reading = record { last = refl; last_and_more = refl; first = refl; between = refl }

-- ---- refusals, which leave the points as they were
-- a unit on its line, of whose record bytes are changed
abbrev sound : List ℕ
sound = record_of (steady 7 2 Generation 10_000 zeros (flat (pos 10_000)))

-- the highest byte of the reading at t = 1 to 75, so that it is over its limit
abbrev wide_at : ℕ → List ℕ → List ℕ
wide_at t part = set part (71 + 4 * t) 1

-- 12 goes before the record's own, and before 'bad'
pub record TooFewPoints : Type 0 where
  pub one_too_few : call 74 sound ≡ refuses 74 TooShort
  pub none_lent : call 0 sound ≡ refuses 0 TooShort
  pub record_ends : call 74 (take 371 sound) ≡ refuses 74 TooShort
  pub no_record : call 74 [] ≡ refuses 74 TooShort
  pub wrong_reading : call 74 (wide_at 1 sound) ≡ refuses 74 TooShort
  pub bad_unit : call 74 (bad_from 75) ≡ refuses 74 TooShort

pub too_few_points : TooFewPoints
unfolding drawing
too_few_points = record { one_too_few = refl; none_lent = refl; record_ends = refl; no_record = refl; wrong_reading = refl; bad_unit = refl }

-- 1; 81 for region, kind, start and end; 82 for the first and the last default; 83; 84 with its t
pub record WrongRecords : Type 0 where
  pub record_ends : call 75 (take 371 sound) ≡ refuses 75 EndsEarly
  pub no_record : call 75 [] ≡ refuses 75 EndsEarly
  pub region : call 75 (set sound 2 5) ≡ refuses 75 UnitHeader
  pub kind : call 75 (set sound 3 2) ≡ refuses 75 UnitHeader
  pub start : call 75 (set sound 7 1) ≡ refuses 75 UnitHeader
  pub end : call 75 (set sound 11 1) ≡ refuses 75 UnitHeader
  pub first_default : call 75 (set sound 12 1) ≡ refuses 75 UnitDefault
  pub last_default : call 75 (set sound 52 1) ≡ refuses 75 UnitDefault
  pub spare_bit : call 75 (set sound 69 15) ≡ refuses 75 UnitQuality
  pub first_reading : call 75 (wide_at 1 sound) ≡ refuses 75 (UnitReading 1)
  pub last_reading : call 77 (wide_at 75 sound) ≡ refuses 77 (UnitReading 75)

pub wrong_record : WrongRecords
unfolding drawing
wrong_record =
    record {
      record_ends = refl;
      no_record = refl;
      region = refl;
      kind = refl;
      start = refl;
      end = refl;
      first_default = refl;
      last_default = refl;
      spare_bit = refl;
      first_reading = refl;
      last_reading = refl;
    }

-- a wrong field goes before 'bad': a wrong reading behind a bad one and before one, a bad one that holds a value, and a wrong default
pub record WrongAndBad : Type 0 where
  pub bad_first : call 75 (wide_at 75 (bad_from 1)) ≡ refuses 75 (UnitReading 75)
  pub wrong_first : call 75 (wide_at 1 (bad_from 75)) ≡ refuses 75 (UnitReading 1)
  pub in_one : call 75 (wide_at 40 (bad_from 40)) ≡ refuses 75 (UnitReading 40)
  pub default : call 75 (set (bad_from 1) 12 1) ≡ refuses 75 UnitDefault

pub wrong_before_bad : WrongAndBad
unfolding drawing
wrong_before_bad = record { bad_first = refl; wrong_first = refl; in_one = refl; default = refl }

-- a record alone has no neighbours: number 0 is refused behind any unit of a book, and this group behind its unit in another region
abbrev of_group : ℕ → Unit
of_group region = grouped 65_535 (steady 0 region Generation 10_000 zeros (flat (pos 10_100)))

pub record Alone : Type 0 where
  pub number_refused : unit_record 1 (record_of (of_group 2)) ≡ refused UnitNotRising
  pub group_refused : (unit_record 0 (record_of (of_group 2)) >>= in_its_group (of_group 1 ∷ [])) ≡ refused WrongGroup
  pub drawn : DrawnAs (of_group 2) (strip 0x3F800000 0x3F800000 0x3F800000) (flat 0x3F800000)

pub no_neighbours : Alone
unfolding drawing
no_neighbours = record { number_refused = refl; group_refused = refl; drawn = record { exactly = refl; and_more = refl } }

-- ---- as text
-- ten-thousandths of a MW: 7,500 is 1 MW
pub worked_ten_thousandths :
    map ten_thousandths
    (pos 0 ∷ pos 1 ∷ minus 1 ∷ pos 2 ∷ minus 2 ∷ pos 3 ∷ pos 5_625 ∷ pos 7_500 ∷ minus 15_000_000 ∷ pos 15_000_000 ∷ [])
    ≡ (pos 0 ∷ pos 1 ∷ minus 1 ∷ pos 3 ∷ minus 3 ∷ pos 4 ∷ pos 7_500 ∷ pos 10_000 ∷ minus 20_000_000 ∷ pos 20_000_000 ∷ [])
worked_ten_thousandths = refl

-- the levels of so many deviations from the lowest on: of a flat strip, over a span of 1, of 7 and of 8, and at the ends of the widest strip
abbrev levels : ℤ → ℤ → ℕ → List ℕ
levels lowest highest many = listed 0 many (λ i. level lowest highest (lowest +ℤ pos i))

pub record Levels : Type 0 where
  pub flat_strip : levels (minus 3) (minus 3) 1 ≡ (0 ∷ [])
  pub of_one : levels (minus 1) (pos 0) 2 ≡ (0 ∷ 4 ∷ [])
  pub of_seven : levels (minus 4) (pos 3) 8 ≡ (0 ∷ 1 ∷ 2 ∷ 3 ∷ 4 ∷ 5 ∷ 6 ∷ 7 ∷ [])
  pub of_eight : levels (pos 100) (pos 108) 9 ≡ (0 ∷ 0 ∷ 1 ∷ 2 ∷ 3 ∷ 4 ∷ 5 ∷ 6 ∷ 7 ∷ [])
  pub widest : map (level (minus 15_000_000) (pos 15_000_000)) (minus 15_000_000 ∷ pos 0 ∷ pos 15_000_000 ∷ []) ≡ (0 ∷ 3 ∷ 7 ∷ [])

pub worked_levels : Levels
unfolding listed
worked_levels = record { flat_strip = refl; of_one = refl; of_seven = refl; of_eight = refl; widest = refl }
