-- Where a row ends, and what is told of it: a line of words in a lent place.
use Rattle.std.specs.Prelude.{Bool, ◌||◌, ℕ, eqb, leb}
use Rattle.rules.specs.declared.Refusal.{Refusal}
use Rattle.rules.specs.declared.Reported.{Reported}
use Rattle.rules.specs.declared.Reported.TheVariants.{Unit, Residual}
use Rattle.rules.specs.declared.Figure.{Figure}
use Rattle.rules.specs.declared.ReportRow.{ReportRow}
use Rattle.rules.specs.Refusals.{number, point}
use Rattle.rules.specs.ReportRow.{region_text, type_text}
use Rattle.rules.specs.Text.{text, integer}
use Rattle.printing.specs.Lines.{Line, with_word, with_number}

-- with its line feed, or where 107 bytes are held
abbrev pub row_ends : ℕ → ℕ → Bool
row_ends byte held = eqb byte 10 || leb 107 held

-- a member by its unit number, a residual by its region's name
unfoldable pub with_whose : Reported → Line → Line
with_whose (Unit n) l = with_number n (with_word (text "unit") l)
with_whose (Residual r) l = with_word (region_text r) (with_word (text "residual") l)

-- billionths with a minus where they are below zero, and their type
unfoldable pub with_figure : Figure → Line → Line
with_figure f l = with_word (type_text f.typed) (with_word (integer f.performance) l)

unfoldable pub with_row : ReportRow → Line → Line
with_row r l = with_number r.version (with_figure r.lower (with_figure r.raise (with_whose r.whose (with_number r.interval l))))

-- the refusal's number, the row's, from 1, and the first wrong column
unfoldable pub with_refusal : ℕ → Refusal → Line → Line
with_refusal row x l = with_number (point x) (with_number row (with_number (number x) (with_word (text "refused") l)))
