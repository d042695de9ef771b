-- The calls for the performance report (02, R-11): a row from its numbers, a row of a taken book, and a row read back into eight numbers.
use Rattle.rules.specs.declared.Refusal.{Refusal}
use Rattle.std.specs.Prelude.{◌≡◌, Bool, true, ◌&&◌, List, [], ◌∷◌, ◌++◌, ℕ, zero, suc, ◌*◌, leb, ltb, ℤ, pos, length, drop, Result, Ok, Err}
use Rattle.rules.specs.declared.Refusal.TheVariants.{WrongState, TooShort}
use Rattle.rules.specs.declared.RegionName.{RegionName}
use Rattle.rules.specs.declared.RegionName.TheVariants.{Qld1, Nsw1, Vic1, Sa1, Tas1}
use Rattle.rules.specs.declared.Reported.{Reported}
use Rattle.rules.specs.declared.Reported.TheVariants.{Unit, Residual}
use Rattle.rules.specs.declared.FigureType.{FigureType}
use Rattle.rules.specs.declared.FigureType.TheVariants.{Calculated, Default}
use Rattle.rules.specs.declared.ReportRow.{ReportRow}
use Rattle.rules.specs.Quantities.{regions}
use Rattle.rules.specs.Refusals.{Reply, taken, refused, unless, located, ◌>>=◌}
use Rattle.rules.specs.Report.{region_name}
use Rattle.rules.specs.ReportRow.{row_written, text_after}
use Rattle.rules.specs.ReportRead.{row_read}
use Rattle.interval.specs.Lent.{Lent}
use Rattle.kept.specs.KeptReport.{report_reply}
use Rattle.dullavane.specs.Words.{said}
use Rattle.dullavane.specs.Asked.{asked_tally}

-- ---- a row's numbers as they are handed in: 0 for a unit's row and 1 for a residual's, the unit's number or the region's; a type is 0 or 1
abbrev pub number_narrow : ℕ → ℕ → Bool
number_narrow zero number = ltb number 65_536
number_narrow (suc n) number = ltb number regions

unfoldable pub row_narrow : ℕ → ℕ → ℕ → ℕ → ℕ → Bool
row_narrow residual number raise_type lower_type version =
    ltb residual 2 && (ltb raise_type 2 && (ltb lower_type 2 && (ltb version 65_536 && number_narrow residual number)))

abbrev pub type_in : ℕ → FigureType
type_in zero = Calculated
type_in (suc n) = Default

abbrev pub whose_in : ℕ → ℕ → Reported
whose_in zero number = Unit number
whose_in (suc n) number = Residual (region_name number)

abbrev pub row_in : ℕ → ℕ → ℕ → ℤ → ℕ → ℤ → ℕ → ℕ → ReportRow
row_in interval residual number raise raise_type lower lower_type version =
    record {
      interval = interval;
      whose = whose_in residual number;
      raise = record { performance = raise; typed = type_in raise_type };
      lower = record { performance = lower; typed = type_in lower_type };
      version = version;
    }

-- ---- a row that is written: its length in bits 32 to 63, above 0; or the refusal, which has no place
abbrev pub written_told : Reply (List ℕ) → ℕ
written_told (taken row) = length row * 0x1_0000_0000
written_told (refused x) = said (located 0 x)

-- from its numbers: 11 for one over its field first
unfoldable pub row_reply : Bool → ReportRow → ℕ → Reply (List ℕ)
row_reply narrow row room = unless narrow WrongState (row_written row room)

pub record RowCalled (narrow : Bool) (row : ReportRow) (old : List ℕ) (r : ℕ) (new : List ℕ) : Type 0 where
  pub reply : r ≡ written_told (row_reply narrow row (length old))
  pub text : new ≡ text_after (row_reply narrow row (length old)) old

-- of a taken book: the tests of words, tally and lists, then those of the row
unfoldable pub book_row : List ℕ → ℕ → ℕ → Lent → Reply ReportRow
book_row ts row version l = asked_tally ts (ltb version 65_536) true >>= λ t. report_reply t row version l

unfoldable pub report_answer : List ℕ → ℕ → ℕ → Lent → ℕ → Reply (List ℕ)
report_answer ts row version l room = book_row ts row version l >>= λ x. row_written x room

pub record ReportCalled (ts : List ℕ) (row version : ℕ) (l : Lent) (old : List ℕ) (r : ℕ) (new : List ℕ) : Type 0 where
  pub reply : r ≡ written_told (report_answer ts row version l (length old))
  pub text : new ≡ text_after (report_answer ts row version l (length old)) old

-- ---- a row that is read: eight numbers, those past them as they were; 12 for fewer, before 18
abbrev pub row_numbers : ℕ
row_numbers = 8

abbrev pub type_number : FigureType → ℤ
type_number Calculated = pos 0
type_number Default = pos 1

abbrev pub region_number : RegionName → ℤ
region_number Qld1 = pos 0
region_number Nsw1 = pos 1
region_number Vic1 = pos 2
region_number Sa1 = pos 3
region_number Tas1 = pos 4

abbrev pub residual_number : Reported → ℤ
residual_number (Unit number) = pos 0
residual_number (Residual name) = pos 1

abbrev pub number_told : Reported → ℤ
number_told (Unit number) = pos number
number_told (Residual name) = region_number name

abbrev pub numbers_of : ReportRow → List ℤ
numbers_of r =
    pos r.interval ∷ residual_number r.whose ∷ number_told r.whose ∷ r.raise.performance ∷ type_number r.raise.typed ∷ r.lower.performance ∷
    type_number r.lower.typed ∷ pos r.version ∷ []

abbrev pub with_numbers : ReportRow → List ℤ → List ℤ
with_numbers r xs = numbers_of r ++ drop row_numbers xs

unfoldable pub read_reply : List ℕ → ℕ → Reply ReportRow
read_reply bytes room = unless (leb row_numbers room) TooShort (row_read bytes)

abbrev pub reply_told : Reply ReportRow → ℕ
reply_told (taken row) = 0
reply_told (refused x) = said (located 0 x)

abbrev pub numbers_left : Reply ReportRow → List ℤ → List ℤ
numbers_left (taken row) xs = with_numbers row xs
numbers_left (refused x) xs = xs

pub record ReadCalled (bytes : List ℕ) (old : List ℤ) (r : ℕ) (new : List ℤ) : Type 0 where
  pub reply : r ≡ reply_told (read_reply bytes (length old))
  pub numbers : new ≡ numbers_left (read_reply bytes (length old)) old

-- ---- what is told of the answers of `report_row`
abbrev pub row_told : Result ℕ Refusal → ℕ
row_told (Ok n) = n * 0x1_0000_0000
row_told (Err x) = said (located 0 x)

abbrev pub read_told : Result ReportRow Refusal → ℕ
read_told (Ok row) = 0
read_told (Err x) = said (located 0 x)

abbrev pub numbers_after : Result ReportRow Refusal → List ℤ → List ℤ
numbers_after (Ok row) xs = with_numbers row xs
numbers_after (Err x) xs = xs
