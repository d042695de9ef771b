-- Rows of the performance report (02, R-11), by computing: dates, performances and rows as text, what a call answers and leaves in the lent text, rows read
-- back, and wrong rows with their first wrong column. Texts, dates and columns were worked out apart from these definitions.
use Rattle.std.specs.Prelude.{◌≡◌, refl, true, List, [], ◌∷◌, ◌++◌, map, ℕ, ◌-◌, ℤ, pos, neg_ℤ, length, set, take}
use Prim.Native.String.{String}
use Rattle.integers.specs.Sums.{sumℕ}
use Rattle.rules.specs.declared.Refusal.TheVariants.{TooShort, YearPast, WrongRow}
use Rattle.rules.specs.declared.RegionName.TheVariants.{Qld1, Nsw1, Vic1, Sa1, Tas1}
use Rattle.rules.specs.declared.Reported.{Reported}
use Rattle.rules.specs.declared.Reported.TheVariants.{Unit, Residual}
use Rattle.rules.specs.declared.FigureType.TheVariants.{Calculated, Default}
use Rattle.rules.specs.declared.Figure.{Figure}
use Rattle.rules.specs.declared.ReportRow.{ReportRow}
use Rattle.rules.specs.Refusals.{Reply, taken, refused}
use Rattle.rules.specs.Bytes.{listed}
use Rattle.rules.specs.Text.{text, digits}
use Rattle.rules.specs.Calendar.{falls, date_after, days_to}
use Rattle.rules.specs.ReportRow.{padded, interval_text, billionths, performance_text, row_text, report_row, row_written, text_after}
use Rattle.rules.specs.ReportRead.{before_comma, behind_comma, behind_commas, said_from, same, row_read}

-- columns with a comma between each two
unfoldable pub with_commas : List String → List ℕ
with_commas [] = []
with_commas (c ∷ []) = text c
with_commas (c ∷ (d ∷ cs)) = text c ++ (text "," ++ with_commas (d ∷ cs))

-- opens every definition that a theorem by computing goes through
unfoldable in_rows : true ≡ true
unfolding sumℕ listed text digits falls date_after days_to padded row_text row_written before_comma behind_comma behind_commas said_from same row_read
    with_commas
in_rows = refl

-- n below zero
abbrev minus : ℕ → ℤ
minus n = neg_ℤ (pos n)

-- ---- when intervals end: midnight carries the new day; 2000 and 2400 are leap years and 2100 is none; the last before a year past 9999
pub worked_moments :
    map interval_text
    (0 ∷ 287 ∷ 288 ∷ 16_992 ∷ 105_407 ∷ 105_408 ∷ 2_266_910 ∷ 10_536_191 ∷ 10_536_192 ∷ 42_092_928 ∷ 42_093_215 ∷ 42_093_216 ∷ 841_518_719 ∷ [])
    ≡ map text
    ("01/01/2000 00:00:00" ∷ "01/01/2000 23:55:00" ∷ "02/01/2000 00:00:00" ∷ "29/02/2000 00:00:00" ∷ "31/12/2000 23:55:00" ∷ "01/01/2001 00:00:00"
    ∷ "20/07/2021 05:10:00" ∷ "28/02/2100 23:55:00" ∷ "01/03/2100 00:00:00" ∷ "29/02/2400 00:00:00" ∷ "29/02/2400 23:55:00" ∷ "01/03/2400 00:00:00"
    ∷ "31/12/9999 23:55:00" ∷ [])
unfolding in_rows
worked_moments = refl

-- ---- performances in MWHz: the nearest of 2/15, no minus at zero, the sign kept where the whole part is 0, and both ends of 64 bits
abbrev in_megawatt_hertz : List ℤ → List (List ℕ)
in_megawatt_hertz ps = map (λ p. performance_text (billionths p)) ps

pub around_zero :
    in_megawatt_hertz (pos 0 ∷ pos 1 ∷ minus 1 ∷ pos 3 ∷ minus 3 ∷ pos 4 ∷ minus 4 ∷ pos 11 ∷ minus 11 ∷ pos 12 ∷ minus 12 ∷ [])
    ≡ map text
    ("0.000000000" ∷ "0.000000000" ∷ "0.000000000" ∷ "0.000000000" ∷ "0.000000000" ∷ "0.000000001" ∷ "-0.000000001" ∷ "0.000000001" ∷ "-0.000000001"
    ∷ "0.000000002" ∷ "-0.000000002" ∷ [])
unfolding in_rows
around_zero = refl

pub around_one :
    in_megawatt_hertz (minus 3_375_000_000 ∷ pos 7_499_999_996 ∷ pos 7_499_999_997 ∷ pos 7_500_000_000 ∷ minus 75_000_000_000 ∷ [])
    ≡ map text ("-0.450000000" ∷ "0.999999999" ∷ "1.000000000" ∷ "1.000000000" ∷ "-10.000000000" ∷ [])
unfolding in_rows
around_one = refl

pub at_the_ends :
    in_megawatt_hertz (pos 9_223_372_036_854_775_807 ∷ minus 9_223_372_036_854_775_808 ∷ [])
    ≡ map text ("1229782938.247303441" ∷ "-1229782938.247303441" ∷ [])
unfolding in_rows
at_the_ends = refl

-- ---- rows
abbrev row : ℕ → Reported → Figure → Figure → ℕ → ReportRow
row interval whose raise lower version = record { interval = interval; whose = whose; raise = raise; lower = lower; version = version }

abbrev calculated : ℤ → Figure
calculated performance = record { performance = performance; typed = Calculated }

abbrev default : ℤ → Figure
default performance = record { performance = performance; typed = Default }

-- report 3's sample, its units by numbers, each residual as region 0's, and all decimals written
pub worked_sample :
    map report_row
    (row 2_266_910 (Unit 1) (calculated (pos 7_405_905_368)) (calculated (minus 11_646_248_025)) 1
    ∷ row 2_266_910 (Unit 2) (calculated (pos 6_984_547_995)) (calculated (minus 8_849_403_758)) 1
    ∷ row 2_266_910 (Unit 3) (calculated (pos 277_457_782)) (calculated (pos 1_487_447_092)) 1
    ∷ row 2_266_910 (Unit 4) (calculated (minus 104_109_923)) (calculated (pos 4_718_180_130)) 1
    ∷ row 2_266_911 (Residual Qld1) (calculated (pos 69_343_702)) (calculated (minus 3_547_016_790)) 1
    ∷ row 2_266_911 (Unit 1) (calculated (pos 488_991_585)) (default (minus 150_000_000)) 2
    ∷ [])
    ≡ map text
    ("20/07/2021 05:10:00,1,0.987454049,Calculated,-1.552833070,Calculated,1\n"
    ∷ "20/07/2021 05:10:00,2,0.931273066,Calculated,-1.179920501,Calculated,1\n"
    ∷ "20/07/2021 05:10:00,3,0.036994371,Calculated,0.198326279,Calculated,1\n"
    ∷ "20/07/2021 05:10:00,4,-0.013881323,Calculated,0.629090684,Calculated,1\n"
    ∷ "20/07/2021 05:15:00,Residual QLD1,0.009245827,Calculated,-0.472935572,Calculated,1\n"
    ∷ "20/07/2021 05:15:00,1,0.065198878,Calculated,-0.020000000,Default,2\n"
    ∷ [])
unfolding in_rows
worked_sample = refl

-- ---- what the call answers
abbrev shortest : ReportRow
shortest = row 0 (Unit 0) (default (pos 0)) (default (minus 3)) 0

abbrev shortest_text : List ℕ
shortest_text = text "01/01/2000 00:00:00,0,0.000000000,Default,0.000000000,Default,0\n"

-- the row of both ends of 64 bits, at any interval
abbrev longest : ℕ → ReportRow
longest n = row n (Residual Tas1) (calculated (minus 9_223_372_036_854_775_808)) (calculated (minus 9_223_372_036_854_775_808)) 65_535

abbrev longest_text : List ℕ
longest_text = text "31/12/9999 23:55:00,Residual TAS1,-1229782938.247303441,Calculated,-1229782938.247303441,Calculated,65535\n"

-- 64 bytes are enough for the shortest row, and 106 for any
pub record Lengths : Type 0 where
  pub shortest_row : length shortest_text ≡ 64
  pub longest_row : length longest_text ≡ 106
  pub exactly : row_written shortest 64 ≡ taken shortest_text
  pub and_more : row_written shortest 106 ≡ taken shortest_text
  pub a_byte_short : row_written shortest 63 ≡ refused TooShort
  pub no_byte : row_written shortest 0 ≡ refused TooShort
  pub longest_exactly : row_written (longest 841_518_719) 106 ≡ taken longest_text
  pub longest_a_byte_short : row_written (longest 841_518_719) 105 ≡ refused TooShort

pub worked_lengths : Lengths
unfolding in_rows
worked_lengths =
    record {
      shortest_row = refl;
      longest_row = refl;
      exactly = refl;
      and_more = refl;
      a_byte_short = refl;
      no_byte = refl;
      longest_exactly = refl;
      longest_a_byte_short = refl;
    }

-- 15 goes before 12
pub record PastTheYear : Type 0 where
  pub first : row_written (longest 841_518_720) 106 ≡ refused YearPast
  pub too_short : row_written (longest 841_518_720) 105 ≡ refused YearPast
  pub no_byte : row_written (longest 841_518_720) 0 ≡ refused YearPast
  pub greatest : row_written (longest 4_294_967_295) 106 ≡ refused YearPast

pub past_the_year : PastTheYear
unfolding in_rows
past_the_year = record { first = refl; too_short = refl; no_byte = refl; greatest = refl }

-- a lent text of so many bytes, 1, 2, 3 and so on, after a call with it: the bytes behind the row stay, and where it is refused all do
abbrev lent : ℕ → List ℕ
lent room = listed 1 room (λ i. i)

abbrev lent_after : ReportRow → ℕ → List ℕ
lent_after r room = text_after (row_written r room) (lent room)

pub record Lent : Type 0 where
  pub exactly : lent_after shortest 64 ≡ shortest_text
  pub and_more : lent_after shortest 67 ≡ shortest_text ++ (65 ∷ 66 ∷ 67 ∷ [])
  pub a_byte_short : lent_after shortest 63 ≡ lent 63
  pub past_the_year : lent_after (longest 841_518_720) 106 ≡ lent 106

pub what_is_lent : Lent
unfolding in_rows
what_is_lent = record { exactly = refl; and_more = refl; a_byte_short = refl; past_the_year = refl }

-- ---- rows read back, in billionths: each is written as this text, and read from it
pub record Back (rows : List ReportRow) (texts : List String) : Type 0 where
  pub written : map row_text rows ≡ map text texts
  pub read : map (λ t. row_read (text t)) texts ≡ map taken rows

-- the least and the greatest of each column
pub back_at_the_ends :
    Back
    (row 0 (Unit 0) (default (pos 0)) (default (pos 0)) 0
    ∷ row 841_518_719 (Unit 65_535) (calculated (pos 1_229_782_938_247_303_441)) (default (minus 1_229_782_938_247_303_441)) 65_535
    ∷ row 10_536_191 (Unit 10) (default (minus 1_229_782_938_247_303_441)) (calculated (pos 1_229_782_938_247_303_441)) 10
    ∷ row 10_536_192 (Unit 9) (calculated (minus 1)) (calculated (pos 1)) 9
    ∷ row 42_092_928 (Unit 100) (calculated (minus 450_000_000)) (calculated (pos 1_000_000_000)) 2
    ∷ [])
    ("01/01/2000 00:00:00,0,0.000000000,Default,0.000000000,Default,0\n"
    ∷ "31/12/9999 23:55:00,65535,1229782938.247303441,Calculated,-1229782938.247303441,Default,65535\n"
    ∷ "28/02/2100 23:55:00,10,-1229782938.247303441,Default,1229782938.247303441,Calculated,10\n"
    ∷ "01/03/2100 00:00:00,9,-0.000000001,Calculated,0.000000001,Calculated,9\n"
    ∷ "29/02/2400 00:00:00,100,-0.450000000,Calculated,1.000000000,Calculated,2\n"
    ∷ [])
unfolding in_rows
back_at_the_ends = record { written = refl; read = refl }

pub back_of_residuals :
    Back
    (row 287 (Residual Qld1) (calculated (pos 1)) (default (pos 2)) 1
    ∷ row 288 (Residual Nsw1) (default (pos 3)) (calculated (pos 4)) 2
    ∷ row 16_992 (Residual Vic1) (calculated (pos 5)) (calculated (pos 6)) 3
    ∷ row 105_407 (Residual Sa1) (default (minus 7)) (default (minus 8)) 4
    ∷ row 105_408 (Residual Tas1) (calculated (minus 9)) (calculated (minus 10)) 5
    ∷ [])
    ("01/01/2000 23:55:00,Residual QLD1,0.000000001,Calculated,0.000000002,Default,1\n"
    ∷ "02/01/2000 00:00:00,Residual NSW1,0.000000003,Default,0.000000004,Calculated,2\n"
    ∷ "29/02/2000 00:00:00,Residual VIC1,0.000000005,Calculated,0.000000006,Calculated,3\n"
    ∷ "31/12/2000 23:55:00,Residual SA1,-0.000000007,Default,-0.000000008,Default,4\n"
    ∷ "01/01/2001 00:00:00,Residual TAS1,-0.000000009,Calculated,-0.000000010,Calculated,5\n"
    ∷ [])
unfolding in_rows
back_of_residuals = record { written = refl; read = refl }

-- ---- wrong rows: a right one, of which columns are exchanged; they are counted from 1
abbrev right_columns : List String
right_columns = "20/07/2021 05:10:00" ∷ "123" ∷ "0.987454049" ∷ "Calculated" ∷ "-1.552833070" ∷ "Default" ∷ "45\n" ∷ []

abbrev right_row : List ℕ
right_row = with_commas right_columns

abbrev with_column : ℕ → String → List String → List String
with_column k c cs = set cs (k - 1) c

abbrev wrong : ℕ → Reply ReportRow
wrong k = refused (WrongRow k)

-- each of these as column k is wrong, and told as k
abbrev Wrong : ℕ → List String → Type 0
Wrong k cs = map (λ c. row_read (with_commas (with_column k c right_columns))) cs ≡ map (λ c. wrong k) cs

pub right_one : row_read right_row ≡ taken (row 2_266_910 (Unit 123) (calculated (pos 987_454_049)) (default (minus 1_552_833_070)) 45)
unfolding in_rows
right_one = refl

-- days and months that no such year has
pub wrong_days :
    Wrong 1
    ("29/02/2100 00:00:00" ∷ "29/02/2101 00:00:00" ∷ "30/02/2000 00:00:00" ∷ "31/04/2021 05:10:00" ∷ "32/01/2021 05:10:00" ∷ "00/07/2021 05:10:00"
    ∷ "20/00/2021 05:10:00" ∷ "20/13/2021 05:10:00" ∷ "07/20/2021 05:10:00" ∷ "31/12/1999 23:55:00" ∷ "20/07/0000 05:10:00" ∷ [])
unfolding in_rows
wrong_days = refl

-- between two intervals, past the day's end, and other writing
pub wrong_moments :
    Wrong 1
    ("20/07/2021 00:01:00" ∷ "20/07/2021 05:10:01" ∷ "20/07/2021 24:00:00" ∷ "20/07/2021 05:60:00" ∷ "20/07/2021 5:10:00" ∷ "20/7/2021 05:10:00"
    ∷ "20/07/21 05:10:00" ∷ "20/07/2021 05:10" ∷ "20-07-2021 05:10:00" ∷ "20/07/2021T05:10:00" ∷ "2021/07/20 05:10:00" ∷ "01/01/10000 00:00:00"
    ∷ " 20/07/2021 05:10:00" ∷ "20/07/2021 05:10:00 " ∷ "20/07/2021  05:10:00" ∷ "\n20/07/2021 05:10:00" ∷ "20/07/2021 05:10:00\n" ∷ "" ∷ [])
unfolding in_rows
wrong_moments = refl

pub wrong_units :
    Wrong 2
    ("01" ∷ "00" ∷ "+1" ∷ "-1" ∷ "65536" ∷ "18446744073709551617" ∷ "1.0" ∷ " 1" ∷ "1 " ∷ "1\n" ∷ "1\r" ∷ "DUID1" ∷ "" ∷ [])
unfolding in_rows
wrong_units = refl

pub wrong_residuals :
    Wrong 2
    ("Residual" ∷ "Residual " ∷ "Residual QLD2" ∷ "Residual QLD" ∷ "Residual qld1" ∷ "residual QLD1" ∷ "Residual  QLD1" ∷ "Residual QLD1 " ∷ "ResidualQLD1"
    ∷ "QLD1 Residual" ∷ "QLD1" ∷ "Residual 0" ∷ "Residual SA" ∷ "Residual TAS" ∷ [])
unfolding in_rows
wrong_residuals = refl

-- as raise and as lower: minus zero, a leading zero or none, eight and ten decimals, no point, signs, spaces, and one more than the greatest either way
abbrev PerformancesIn : ℕ → Type 0
PerformancesIn k =
    Wrong k
    ("-0.000000000" ∷ "00.987454049" ∷ "01.987454049" ∷ "-01.987454049" ∷ ".987454049" ∷ "0.98745404" ∷ "0.9874540490" ∷ "0987454049" ∷ "987454049" ∷ "1"
    ∷ "0." ∷ "+0.987454049" ∷ "--0.987454049" ∷ "0.-87454049" ∷ "0.987454049-" ∷ " 0.987454049" ∷ "- 0.987454049" ∷ "0.987454049 " ∷ "0.987454049\n"
    ∷ "1229782938.247303442" ∷ "-1229782938.247303442" ∷ "9223372036.854775808" ∷ "18446744073.709551616" ∷ "-" ∷ "" ∷ [])

pub wrong_raise : PerformancesIn 3
unfolding in_rows
wrong_raise = refl

pub wrong_lower : PerformancesIn 5
unfolding in_rows
wrong_lower = refl

abbrev TypesIn : ℕ → Type 0
TypesIn k =
    Wrong k
    ("calculated" ∷ "CALCULATED" ∷ "Calculate" ∷ "Calculated " ∷ "Calculateds" ∷ "C" ∷ "default" ∷ "Defaul" ∷ " Default" ∷ "Default\n" ∷ "D" ∷ "Live" ∷ ""
    ∷ [])

pub wrong_raise_type : TypesIn 4
unfolding in_rows
wrong_raise_type = refl

pub wrong_lower_type : TypesIn 6
unfolding in_rows
wrong_lower_type = refl

-- no line feed, two, a carriage return before it, bytes after it, and an eighth column
pub wrong_versions :
    Wrong 7
    ("45" ∷ "45\n\n" ∷ "45\r\n" ∷ "45\r" ∷ "45\n\r" ∷ "45\n4" ∷ "45\n " ∷ "45,\n" ∷ "45,1\n" ∷ "45\n," ∷ "045\n" ∷ "00\n" ∷ "65536\n"
    ∷ "18446744073709551661\n" ∷ "+45\n" ∷ "-45\n" ∷ " 45\n" ∷ "45 \n" ∷ "45.0\n" ∷ "\n" ∷ "\r\n" ∷ "" ∷ [])
unfolding in_rows
wrong_versions = refl

-- the first of several is told
abbrev both_wrong : ℕ → String → ℕ → String → Reply ReportRow
both_wrong j c k d = row_read (with_commas (with_column k d (with_column j c right_columns)))

pub record Several : Type 0 where
  pub first_and_last : both_wrong 1 "20/07/2021 05:10:01" 7 "45" ≡ wrong 1
  pub unit_and_lower : both_wrong 2 "01" 5 "-0.000000000" ≡ wrong 2
  pub raise_and_lower : both_wrong 3 "+1.000000000" 5 "+1.000000000" ≡ wrong 3
  pub types : both_wrong 4 "Live" 6 "Live" ≡ wrong 4
  pub lower_and_type : both_wrong 5 "1" 6 "default" ≡ wrong 5
  pub last_two : both_wrong 6 "default" 7 "65536\n" ≡ wrong 6
  pub all : row_read (text "a,b,c,d,e,f,g\n") ≡ wrong 1

pub several_wrong : Several
unfolding in_rows
several_wrong =
    record {
      first_and_last = refl;
      unit_and_lower = refl;
      raise_and_lower = refl;
      types = refl;
      lower_and_type = refl;
      last_two = refl;
      all = refl;
    }

-- ---- columns that are not there, or too many
pub record Columns : Type 0 where
  pub none : row_read [] ≡ wrong 1
  pub line_feed : row_read (text "\n") ≡ wrong 1
  pub commas : row_read (text ",,,,,,") ≡ wrong 1
  pub commas_and_line_feed : row_read (text ",,,,,,\n") ≡ wrong 1
  pub after_the_fourth : row_read (text "20/07/2021 05:10:00,123,0.987454049,Calculated") ≡ wrong 5
  pub after_its_comma : row_read (text "20/07/2021 05:10:00,123,0.987454049,Calculated,") ≡ wrong 5
  pub after_a_line_feed : row_read (text "20/07/2021 05:10:00,123,0.987454049,Calculated\n") ≡ wrong 4
  pub no_unit : row_read (text "20/07/2021 05:10:00,0.987454049,Calculated,-1.552833070,Default,45\n") ≡ wrong 2
  pub no_type : row_read (text "20/07/2021 05:10:00,123,0.987454049,-1.552833070,Default,45\n") ≡ wrong 4
  pub one_more : row_read (text "20/07/2021 05:10:00,123,0.987454049,Calculated,Calculated,-1.552833070,Default,45\n") ≡ wrong 5
  pub decimal_comma : row_read (text "20/07/2021 05:10:00,123,0,987454049,Calculated,-1.552833070,Default,45\n") ≡ wrong 3
  pub two_rows : row_read (right_row ++ right_row) ≡ wrong 7

pub wrong_columns : Columns
unfolding in_rows
wrong_columns =
    record {
      none = refl;
      line_feed = refl;
      commas = refl;
      commas_and_line_feed = refl;
      after_the_fourth = refl;
      after_its_comma = refl;
      after_a_line_feed = refl;
      no_unit = refl;
      no_type = refl;
      one_more = refl;
      decimal_comma = refl;
      two_rows = refl;
    }

-- cut at every byte. A column whose end is cut off is wrong, but 123 is then another unit's; where only its comma is cut off, the next one is not there
abbrev so_many : ℕ → ℕ → List (Reply ReportRow)
so_many n k = listed 0 n (λ i. wrong k)

pub record Cut : Type 0 where
  pub long : length right_row ≡ 71
  pub at_each_byte :
      listed 0 71 (λ n. row_read (take n right_row))
      ≡ so_many 19 1 ++ (so_many 2 2 ++ (so_many 14 3 ++ (so_many 11 4 ++ (so_many 13 5 ++ (so_many 8 6 ++ so_many 4 7)))))

pub cut_at_every_byte : Cut
unfolding in_rows
cut_at_every_byte = record { long = refl; at_each_byte = refl }
