-- A book from the bytes to the listing: both sides of both edges of the band, FM of 0, bad points in a run that would be dropped, and a region without a
-- dropped point (02, R-3). What each requirement gives is a theorem of its own, and the listing follows from them. The figures are the second program's
-- (tests/worked/).
use Rattle.std.specs.Prelude.{◌≡◌, refl, List, ◌++◌, ℕ, get_or}
use Rattle.std.proofs.Common.{◌∙◌}
use Rattle.rules.specs.Refusals.{taken}
use Rattle.rules.specs.WholeBook.{book}
use Rattle.rules.specs.Answer.{answer}
use Rattle.rules.specs.Text.{text, digits, words}
use Rattle.rules.specs.Listing.{answer_lines, joined, listing, settle}
use Rattle.books.specs.Writing.{book_bytes, settled}
use Rattle.books.specs.PaperBook.{requirement}
use Rattle.books.specs.Computing.{computing}
use Rattle.books.specs.WorkedBooks.{dropped_edges}

-- the lines of a requirement, by its place in the book
abbrev lines : ℕ → List ℕ
lines i = answer_lines (answer dropped_edges (get_or dropped_edges.requirements i requirement))

pub read : book (book_bytes dropped_edges) ≡ taken dropped_edges
unfolding computing
read = refl

pub raise_shares : lines 0
    ≡ text "requirement 1 raise 2826 283 429 572 0 0\n"
    ++ (text "unit 1 live 40657584 371301405 105 0 -156\n"
    ++ (text "unit 2 live -40860216 -373151921 -106 -160 -52\n"
    ++ (text "unit 3 live -68640000 -626848079 -177 -269 -104\n"
    ++ text "residual live 68842632 628698595 178 0 -260\n")))
unfolding computing
raise_shares = refl

pub lower_shares : lines 1
    ≡ text "requirement 2 lower 10278 1028 715 286 0 0\n"
    ++ (text "unit 1 live 517853232 675524885 694 0 -18\n"
    ++ (text "unit 2 live 248740632 324475115 334 0 -71\n"
    ++ (text "unit 3 live -108000000 -140882943 -145 -101 -36\n"
    ++ text "residual live -658593864 -859117057 -883 -614 -161\n")))
unfolding computing
lower_shares = refl

pub dropped_edges_listing : settle (book_bytes dropped_edges)
    ≡ text "interval 112\n"
    ++ (text "requirement 1 raise 2826 283 429 572 0 0\n"
    ++ (text "unit 1 live 40657584 371301405 105 0 -156\n"
    ++ (text "unit 2 live -40860216 -373151921 -106 -160 -52\n"
    ++ (text "unit 3 live -68640000 -626848079 -177 -269 -104\n"
    ++ (text "residual live 68842632 628698595 178 0 -260\n"
    ++ (text "requirement 2 lower 10278 1028 715 286 0 0\n"
    ++ (text "unit 1 live 517853232 675524885 694 0 -18\n"
    ++ (text "unit 2 live 248740632 324475115 334 0 -71\n"
    ++ (text "unit 3 live -108000000 -140882943 -145 -101 -36\n"
    ++ text "residual live -658593864 -859117057 -883 -614 -161\n")))))))))
unfolding listing joined text digits words
dropped_edges_listing = settled dropped_edges read ∙ rw (raise_shares, lower_shares)
