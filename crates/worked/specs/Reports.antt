-- Performance reports of whole books (02, R-11), from their bytes to their text, by computing: the paper's book, groups, bad units, unreliable regions, a
-- roster of none, and refusals. The texts were worked out from the bytes of the books by the text of documents 01 and 02 alone.
use Rattle.std.specs.Prelude.{◌≡◌, refl, true, List, [], ◌∷◌, ℕ, take}
use Rattle.std.proofs.Common.{ap}
use Prim.Native.String.{String}
use Rattle.rules.specs.Refusals.{taken}
use Rattle.rules.specs.Book.{Book}
use Rattle.rules.specs.WholeBook.{book}
use Rattle.rules.specs.Text.{text}
use Rattle.rules.specs.Listing.{joined}
use Rattle.rules.specs.Calendar.{falls, date_after}
use Rattle.rules.specs.ReportRow.{padded, row_text}
use Rattle.rules.specs.Report.{member_row, residual_row, report_rows, report_text, reported, report}
use Rattle.books.specs.Writing.{book_bytes}
use Rattle.books.specs.PaperBook.{paper_book}
use Rattle.books.specs.WorkedBooks.{lower_defaults, no_units, every_field}
use Rattle.books.specs.GroupBooks.{groups, bad_groups}
use Rattle.books.specs.Computing.{computing}
use Rattle.worked.specs.LowerDefaults.{read as lower_defaults_read}
use Rattle.worked.specs.EveryField.{read as every_field_read}
use Rattle.worked.specs.GroupListing.{read as groups_read}
use Rattle.worked.specs.BadGroups.{read as bad_groups_read}

-- opens every definition that a theorem by computing goes through: those of a book, and those of its report
unfoldable reporting : true ≡ true
unfolding computing falls date_after padded row_text member_row residual_row report_rows report_text report
reporting = refl

-- a book that is read from its bytes as what it says has its rows printed
rows_of : (version : ℕ) (b : Book) → book (book_bytes b) ≡ taken b → report version (book_bytes b) ≡ report_text version b
unfolding report
rows_of version b read = ap (reported version) read

-- rows one behind the other
abbrev rows : List String → List ℕ
rows rs = joined text rs

-- ---- the paper's book; version 1
pub paper_report : report 1 (book_bytes (paper_book 7))
    ≡ rows
    ("01/01/2000 00:35:00,1,1.500000000,Calculated,0.000000000,Default,1\n"
    ∷ "01/01/2000 00:35:00,2,-0.450000000,Calculated,0.000000000,Default,1\n"
    ∷ "01/01/2000 00:35:00,Residual QLD1,-1.050000000,Calculated,0.000000000,Default,1\n"
    ∷ "01/01/2000 00:35:00,Residual NSW1,0.000000000,Default,0.000000000,Default,1\n"
    ∷ "01/01/2000 00:35:00,Residual VIC1,0.000000000,Default,0.000000000,Default,1\n"
    ∷ "01/01/2000 00:35:00,Residual SA1,0.000000000,Default,0.000000000,Default,1\n"
    ∷ "01/01/2000 00:35:00,Residual TAS1,0.000000000,Default,0.000000000,Default,1\n"
    ∷ [])
unfolding reporting
paper_report = rows_of 1 (paper_book 7) refl

-- ---- refusals alone: 15 past the year 9999, and the book's own, which goes before it
pub record RefusedReports : Type 0 where
  pub past_the_year : report 1 (book_bytes (paper_book 841_518_720)) ≡ text "refused 15 0 0\n"
  pub cut : report 1 (take 2_671 (book_bytes (paper_book 841_518_720))) ≡ text "refused 1 1 0\n"
  pub no_book : report 1 [] ≡ text "refused 1 0 0\n"

pub refused_reports : RefusedReports
unfolding reporting
refused_reports = record { past_the_year = refl; cut = refl; no_book = refl }

-- ---- a roster of none: five residuals, two of them live for lower
pub no_units_report : report 0 (book_bytes no_units)
    ≡ rows
    ("01/01/2000 00:00:00,Residual QLD1,0.000000000,Default,0.000000000,Default,0\n"
    ∷ "01/01/2000 00:00:00,Residual NSW1,0.000000000,Default,0.000000000,Calculated,0\n"
    ∷ "01/01/2000 00:00:00,Residual VIC1,0.000000000,Default,0.000000000,Calculated,0\n"
    ∷ "01/01/2000 00:00:00,Residual SA1,0.000000000,Default,0.000000000,Default,0\n"
    ∷ "01/01/2000 00:00:00,Residual TAS1,0.000000000,Default,0.000000000,Default,0\n"
    ∷ [])
unfolding reporting
no_units_report = rows_of 0 no_units refl

-- ---- a bad unit, unreliable regions and one with no good unit: the payment default of that direction, and no other, stands in; each has its own type
pub lower_defaults_report : report 12 (book_bytes lower_defaults)
    ≡ rows
    ("01/01/2000 09:05:00,1,-0.000000001,Default,1.500000000,Calculated,12\n"
    ∷ "01/01/2000 09:05:00,2,-0.000000003,Default,-0.533333333,Default,12\n"
    ∷ "01/01/2000 09:05:00,3,-0.000000004,Default,-0.133333333,Default,12\n"
    ∷ "01/01/2000 09:05:00,4,-0.000000005,Default,-0.000000006,Default,12\n"
    ∷ "01/01/2000 09:05:00,Residual QLD1,-0.000000013,Default,-1.500000000,Calculated,12\n"
    ∷ "01/01/2000 09:05:00,Residual NSW1,-0.000000027,Default,-0.000000027,Default,12\n"
    ∷ "01/01/2000 09:05:00,Residual VIC1,-0.000000040,Default,-0.000000041,Default,12\n"
    ∷ "01/01/2000 09:05:00,Residual SA1,-0.000000053,Default,-0.453333333,Default,12\n"
    ∷ "01/01/2000 09:05:00,Residual TAS1,-0.000000067,Default,-0.000000067,Default,12\n"
    ∷ [])
unfolding reporting
lower_defaults_report = rows_of 12 lower_defaults lower_defaults_read

-- ---- groups: one row each, by the primary's number. Units 2 and 3, 4 and 5, and 7 to 9
pub groups_report : report 1 (book_bytes groups)
    ≡ rows
    ("01/01/2000 09:35:00,1,0.080000000,Calculated,0.091000000,Calculated,1\n"
    ∷ "01/01/2000 09:35:00,2,0.000000000,Calculated,0.000000000,Calculated,1\n"
    ∷ "01/01/2000 09:35:00,4,-0.160000000,Calculated,0.140000000,Calculated,1\n"
    ∷ "01/01/2000 09:35:00,6,-0.040000000,Calculated,0.035000000,Calculated,1\n"
    ∷ "01/01/2000 09:35:00,7,-0.063000000,Calculated,0.094500000,Calculated,1\n"
    ∷ "01/01/2000 09:35:00,Residual QLD1,0.120000000,Calculated,-0.266000000,Calculated,1\n"
    ∷ "01/01/2000 09:35:00,Residual NSW1,0.063000000,Calculated,-0.094500000,Calculated,1\n"
    ∷ "01/01/2000 09:35:00,Residual VIC1,0.000000000,Default,0.000000000,Default,1\n"
    ∷ "01/01/2000 09:35:00,Residual SA1,0.000000000,Default,0.000000000,Default,1\n"
    ∷ "01/01/2000 09:35:00,Residual TAS1,0.000000000,Default,0.000000000,Default,1\n"
    ∷ [])
unfolding reporting
groups_report = rows_of 1 groups groups_read

-- one bad unit and the primary's default stands in for the group; units 35 and 36 are good
pub bad_groups_report : report 1 (book_bytes bad_groups)
    ≡ rows
    ("01/01/2000 09:40:00,11,-0.050000000,Default,0.000000000,Default,1\n"
    ∷ "01/01/2000 09:40:00,13,0.600000000,Calculated,0.000000000,Default,1\n"
    ∷ "01/01/2000 09:40:00,21,-0.030000000,Default,0.000000000,Default,1\n"
    ∷ "01/01/2000 09:40:00,31,-0.020000000,Default,-0.024000000,Default,1\n"
    ∷ "01/01/2000 09:40:00,33,-0.016000000,Default,-0.032000000,Default,1\n"
    ∷ "01/01/2000 09:40:00,35,0.096000000,Calculated,-0.084000000,Calculated,1\n"
    ∷ "01/01/2000 09:40:00,Residual QLD1,0.000000000,Default,0.000000000,Default,1\n"
    ∷ "01/01/2000 09:40:00,Residual NSW1,-0.600000000,Calculated,0.000000000,Default,1\n"
    ∷ "01/01/2000 09:40:00,Residual VIC1,-0.080000000,Default,0.000000000,Default,1\n"
    ∷ "01/01/2000 09:40:00,Residual SA1,-0.096000000,Calculated,0.084000000,Calculated,1\n"
    ∷ "01/01/2000 09:40:00,Residual TAS1,0.000000000,Default,0.000000000,Default,1\n"
    ∷ [])
unfolding reporting
bad_groups_report = rows_of 1 bad_groups bad_groups_read

-- ---- a value of its own in each field, and the greatest version
pub every_field_report : report 65_535 (book_bytes every_field)
    ≡ rows
    ("08/11/2639 08:05:00,258,-269.373873414,Default,-269.373873415,Default,65535\n"
    ∷ "08/11/2639 08:05:00,772,-29.666288188,Calculated,-404.054008095,Default,65535\n"
    ∷ "08/11/2639 08:05:00,Residual QLD1,0.000000000,Calculated,-134.693738735,Default,65535\n"
    ∷ "08/11/2639 08:05:00,Residual NSW1,-269.387477468,Default,0.000000000,Calculated,65535\n"
    ∷ "08/11/2639 08:05:00,Residual VIC1,29.666288188,Calculated,-404.081216203,Default,65535\n"
    ∷ "08/11/2639 08:05:00,Residual SA1,-538.774954937,Default,-538.774954937,Default,65535\n"
    ∷ "08/11/2639 08:05:00,Residual TAS1,-673.468693671,Default,-673.468693671,Default,65535\n"
    ∷ [])
unfolding reporting
every_field_report = rows_of 65_535 every_field every_field_read
