-- Worked pages of the panel (02, R-13), by computing: whole books from their bytes to their pages, figures at the edge of their 16 places, phrases, and steps.
-- The pages and phrases were written down from the text of documents 01 and 02 alone.
use Rattle.std.specs.Prelude.{◌≡◌, refl, true, List, [], ◌∷◌, ◌++◌, map, ℕ, ℤ, pos, neg_ℤ, replicate, take}
use Rattle.std.proofs.Common.{ap}
use Prim.Native.String.{String}
use Rattle.rules.specs.declared.Direction.TheVariants.{Lower}
use Rattle.rules.specs.declared.Standing.TheVariants.{Default}
use Rattle.rules.specs.declared.Reason.TheVariants.{BadUnit}
use Rattle.rules.specs.declared.Page.{Page}
use Rattle.rules.specs.declared.Key.TheVariants.{Show, Next, Previous, Home}
use Rattle.rules.specs.Bytes.{listed}
use Rattle.rules.specs.Refusals.{LocatedReply, taken, refused, number}
use Rattle.rules.specs.Book.{Book}
use Rattle.rules.specs.WholeBook.{book}
use Rattle.rules.specs.Members.{unit}
use Rattle.rules.specs.Answer.{answer}
use Rattle.rules.specs.Text.{text}
use Rattle.rules.specs.Phrases.{phrase}
use Rattle.rules.specs.Panel.{repeated, placed, figure, first_page, member_page, pages, refusal_page}
use Rattle.rules.specs.Keys.{step}
use Rattle.books.specs.Writing.{book_bytes}
use Rattle.books.specs.PaperBook.{paper_book}
use Rattle.books.specs.WorkedBooks.{no_units}
use Rattle.books.specs.Computing.{computing}

-- opens every definition that a theorem by computing goes through: those of a book, and those of its pages
unfoldable showing : true ≡ true
unfolding computing phrase repeated placed first_page member_page pages refusal_page step
showing = refl

-- four lines of 20
abbrev lines : String → String → String → String → List ℕ
lines one two three four = text one ++ (text two ++ (text three ++ text four))

-- ---- whole books, from their bytes: the pages of each requirement, or of the refusal
abbrev shown : LocatedReply Book → List (List (List ℕ))
shown (taken b) = map (λ q. pages q (answer b q)) b.requirements
shown (refused r) = (refusal_page (number r.refusal) ∷ []) ∷ []

shown_of : (b : Book) → book (book_bytes b) ≡ taken b → shown (book (book_bytes b)) ≡ shown (taken b)
shown_of b read = ap shown read

pub record BooksShown : Type 0 where
  -- the paper's four pages
  pub paper :
      shown (book (book_bytes (paper_book 7))) ≡
      ((lines "req 1 raise         " "RCR             7500" "POOL             100" "COST            1000"
      ∷ lines "unit 1          live" "PAY              100" "USED               0" "IDLE            -223"
      ∷ lines "unit 2          live" "PAY              -30" "USED            -100" "IDLE            -222"
      ∷ lines "residual        live" "PAY              -70" "USED            -233" "IDLE            -222"
      ∷ [])
      ∷ [])
  -- a roster of none: two pages to a requirement
  pub roster_of_none :
      shown (book (book_bytes no_units)) ≡
      ((lines "req 0 lower         " "RCR                0" "POOL               0" "COST              50"
      ∷ lines "residual        live" "PAY                0" "USED               0" "IDLE             -30"
      ∷ [])
      ∷ (lines "req 1 lower         " "RCR                0" "POOL               0" "COST              50"
      ∷ lines "residual     default" "PAY                0" "USED               0" "IDLE             -50"
      ∷ [])
      ∷ [])
  -- a book that ends early, and one with a byte more
  pub cut :
      shown (book (take 2_671 (book_bytes (paper_book 7)))) ≡
      ((lines "ends too early      " "                    " "                    " "                    " ∷ []) ∷ [])
  pub longer :
      shown (book (book_bytes (paper_book 7) ++ (0 ∷ []))) ≡
      ((lines "bytes after the end " "                    " "                    " "                    " ∷ []) ∷ [])

pub books_shown : BooksShown
unfolding showing
books_shown = record { paper = shown_of (paper_book 7) refl; roster_of_none = shown_of no_units refl; cut = refl; longer = refl }

-- ---- figures: 16 characters, sign included, are the most
abbrev minus : ℕ → ℤ
minus n = neg_ℤ (pos n)

pub record WorkedFigures : Type 0 where
  pub zero : figure (pos 0) ≡ text "               0"
  pub minus_one : figure (minus 1) ≡ text "              -1"
  pub longest : figure (pos 9_999_999_999_999_999) ≡ text "9999999999999999"
  pub too_long : figure (pos 10_000_000_000_000_000) ≡ text "################"
  pub longest_below_zero : figure (minus 999_999_999_999_999) ≡ text "-999999999999999"
  pub too_long_below_zero : figure (minus 1_000_000_000_000_000) ≡ text "################"
  pub as_long_above_zero : figure (pos 1_000_000_000_000_000) ≡ text "1000000000000000"
  pub greatest : figure (pos 9_223_372_036_854_775_807) ≡ text "################"
  pub least : figure (minus 9_223_372_036_854_775_808) ≡ text "################"

pub worked_figures : WorkedFigures
unfolding showing
worked_figures =
    record {
      zero = refl;
      minus_one = refl;
      longest = refl;
      too_long = refl;
      longest_below_zero = refl;
      too_long_below_zero = refl;
      as_long_above_zero = refl;
      greatest = refl;
      least = refl;
    }

-- ---- the longest lines: unit 65535, which a default stands in for, and a requirement of that number; a different figure in each line
pub record LongestPages : Type 0 where
  pub member :
      member_page
      (record {
        name = unit 65_535;
        standing = Default BadUnit;
        performance = pos 1;
        factor = pos 2;
        payment = pos 1_234_567_890_123_456;
        used = minus 123_456_789_012_345;
        unused = minus 1_234_567_890_123_456;
      })
      ≡ lines "unit 65535   default" "PAY 1234567890123456" "USED-123456789012345" "IDLE################"
  pub requirement :
      first_page 65_535 Lower (pos 75_000) (pos 9_999_999_999_999_999) (pos 10_000_000_000_000_000)
      ≡ lines "req 65535 lower     " "RCR            75000" "POOL9999999999999999" "COST################"

pub longest_pages : LongestPages
unfolding showing
longest_pages = record { member = refl; requirement = refl }

-- ---- phrases: of every number to 100, and of the greatest
pub record WorkedPhrases : Type 0 where
  pub to_a_hundred :
      map phrase (listed 0 101 (λ n. n)) ≡
      map text
      ("unknown"
      ∷ "ends too early"
      ∷ "not an interval book"
      ∷ "wrong contents table"
      ∷ "bytes after the end"
      ∷ "count out of limits"
      ∷ "wrong settings"
      ∷ "unknown"
      ∷ "unknown"
      ∷ "unit out of order"
      ∷ "wrong requirement"
      ∷ "call out of turn"
      ∷ "buffer too short"
      ∷ "unknown"
      ∷ "default too low"
      ∷ "year past 9999"
      ∷ "wrong group"
      ∷ "week out of limits"
      ∷ "wrong report row"
      ∷ replicate 52 "unknown"
      ++ (replicate 4 "wrong frequency data" ++ (replicate 6 "unknown" ++ (replicate 4 "wrong unit data" ++ replicate 16 "unknown"))))
  pub greatest : phrase 4_294_967_295 ≡ text "unknown"
  -- its page: the longest phrase, and a number that no refusal has
  pub page : refusal_page 2 ≡ lines "not an interval book" "                    " "                    " "                    "
  pub unknown_page : refusal_page 13 ≡ lines "unknown             " "                    " "                    " "                    "

pub worked_phrases : WorkedPhrases
unfolding showing
worked_phrases = record { to_a_hundred = refl; greatest = refl; page = refl; unknown_page = refl }

-- ---- steps: what a page becomes by no key, next, previous and home
abbrev at : ℕ → ℕ → ℕ → Page
at book requirement page = record { book = book; requirement = requirement; page = page }

abbrev by_each_key : Page → ℕ → ℕ → ℕ → List Page
by_each_key p book requirement members = map (λ key. step p key book requirement members) (Show ∷ Next ∷ Previous ∷ Home ∷ [])

pub record WorkedSteps : Type 0 where
  -- of three members: on the first page, between, on the last
  pub first : by_each_key (at 5 7 0) 5 7 3 ≡ (at 5 7 0 ∷ at 5 7 1 ∷ at 5 7 0 ∷ at 5 7 0 ∷ [])
  pub between : by_each_key (at 5 7 2) 5 7 3 ≡ (at 5 7 2 ∷ at 5 7 3 ∷ at 5 7 1 ∷ at 5 7 0 ∷ [])
  pub last : by_each_key (at 5 7 3) 5 7 3 ≡ (at 5 7 3 ∷ at 5 7 3 ∷ at 5 7 2 ∷ at 5 7 0 ∷ [])
  -- past the last: it acts as the last, before the key
  pub past : by_each_key (at 5 7 9) 5 7 3 ≡ (at 5 7 3 ∷ at 5 7 3 ∷ at 5 7 2 ∷ at 5 7 0 ∷ [])
  pub far_past : by_each_key (at 5 7 4_294_967_295) 5 7 3 ≡ (at 5 7 3 ∷ at 5 7 3 ∷ at 5 7 2 ∷ at 5 7 0 ∷ [])
  -- another book, another requirement, and both
  pub other_book : by_each_key (at 5 7 2) 6 7 3 ≡ (at 6 7 0 ∷ at 6 7 1 ∷ at 6 7 0 ∷ at 6 7 0 ∷ [])
  pub other_requirement : by_each_key (at 5 7 2) 5 8 3 ≡ (at 5 8 0 ∷ at 5 8 1 ∷ at 5 8 0 ∷ at 5 8 0 ∷ [])
  pub both_others : by_each_key (at 5 7 4_294_967_295) 6 8 3 ≡ (at 6 8 0 ∷ at 6 8 1 ∷ at 6 8 0 ∷ at 6 8 0 ∷ [])
  -- no members: the first page alone
  pub none : by_each_key (at 5 7 0) 5 7 0 ≡ (at 5 7 0 ∷ at 5 7 0 ∷ at 5 7 0 ∷ at 5 7 0 ∷ [])
  pub past_none : by_each_key (at 5 7 4_294_967_295) 5 7 0 ≡ (at 5 7 0 ∷ at 5 7 0 ∷ at 5 7 0 ∷ at 5 7 0 ∷ [])
  pub none_of_another : by_each_key (at 5 7 2) 6 7 0 ≡ (at 6 7 0 ∷ at 6 7 0 ∷ at 6 7 0 ∷ at 6 7 0 ∷ [])

pub worked_steps : WorkedSteps
unfolding showing
worked_steps =
    record {
      first = refl;
      between = refl;
      last = refl;
      past = refl;
      far_past = refl;
      other_book = refl;
      other_requirement = refl;
      both_others = refl;
      none = refl;
      past_none = refl;
      none_of_another = refl;
    }

-- ---- all of them
pub record WorkedPages : Type 0 where
  pub books : BooksShown
  pub figures : WorkedFigures
  pub longest : LongestPages
  pub phrases : WorkedPhrases
  pub steps : WorkedSteps

pub worked_pages : WorkedPages
worked_pages = record { books = books_shown; figures = worked_figures; longest = longest_pages; phrases = worked_phrases; steps = worked_steps }
