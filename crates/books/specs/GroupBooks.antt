-- Worked books with plants that are dispatched as a group (02, R-5). In most of their regions few points are good, so that they are computed in little time.
-- Their figures (`worked`) were worked out from the text of documents 01 and 02 alone.
use Rattle.std.specs.Prelude.{true, cond, [], ◌∷◌, map, ℕ, ◌+◌, ◌*◌, leb, pos, neg_ℤ}
use Rattle.rules.specs.declared.Direction.TheVariants.{Raise, Lower}
use Rattle.rules.specs.declared.Kind.TheVariants.{Generation, Load}
use Rattle.rules.specs.Book.{Unit, Book}
use Rattle.books.specs.Writing.{flat}
use Rattle.books.specs.PaperBook.{zeros, first, second, paper_book}
use Rattle.books.specs.WorkedBooks.{series, minus, settings, first_good, two_good, quiet, unit, steady, bad_at, requirement, book}

-- a unit with a group number, 0 meaning none
abbrev pub grouped : ℕ → Unit → Unit
grouped g u =
    record {
      number = u.number;
      region = u.region;
      kind = u.kind;
      start = u.start;
      end = u.end;
      defaults = u.defaults;
      quality = u.quality;
      group = g;
      reading = u.reading;
    }

-- the same book with no groups
abbrev pub ungrouped : Book → Book
ungrouped b = book b.settings b.regions (map (grouped 0) b.roster) b.requirements

-- ---- groups 3 and 1 side by side between two units without one, and the largest group number at the end of the roster, in a region of its own. The generation
-- and the load of group 3 cancel at each point; the primary of group 1 is a load
abbrev pub groups : Book
groups =
    book (settings 10_000 73 50 115)
    (two_good 3 (minus 0 0 4 0 0 6) 49_980_000 41 50_020_000
    ∷ two_good 1 (minus 0 0 9 0 0 2) 49_970_000 31 50_030_000
    ∷ quiet ∷ quiet ∷ quiet ∷ [])
    (steady 1 0 Generation 0 (minus 0 0 5 0 0 7) (series (λ t. cond (leb t 40) (pos 10) (neg_ℤ (pos 13))))
    ∷ grouped 3 (unit 2 0 Generation (pos 1_000) (pos 1_075) (minus 0 0 11 0 0 3) (flat true) (series (λ t. pos (1_000 + t + away t))))
    ∷ grouped 3 (steady 3 0 Load 500 zeros (series (λ t. pos (500 + away t))))
    ∷ grouped 1 (steady 4 0 Load 0 (minus 0 0 8 0 0 10) (flat (neg_ℤ (pos 30))))
    ∷ grouped 1 (steady 5 0 Generation 0 zeros (flat (neg_ℤ (pos 50))))
    ∷ steady 6 0 Load 0 (minus 0 0 1 0 0 1) (flat (pos 5))
    ∷ grouped 65_535 (steady 7 1 Generation 0 (minus 0 0 6 0 0 12) (flat (neg_ℤ (pos 8))))
    ∷ grouped 65_535 (steady 8 1 Load 0 zeros (flat (neg_ℤ (pos 3))))
    ∷ grouped 65_535 (steady 9 1 Generation 0 zeros (flat (neg_ℤ (pos 2))))
    ∷ [])
    (requirement 1 1 Raise 9_000 1_000 400 100 ∷ requirement 2 1 Lower 9_000 1_000 400 100 ∷ requirement 3 3 Raise 6_000 777 10 7 ∷ [])
  where
    away : ℕ → ℕ
    away t = cond (leb t 20) 100 160

-- ---- percent 50. Region 1: a group of two bad units and a good unit, of its members one of two is bad. Region 2: a group with a bad unit in its middle and no
-- other member. Region 3: the first unit of a group is bad, the last of the next one, and the group at the end of the roster is good
abbrev pub bad_groups : Book
bad_groups =
    book (settings 10_000 74 50 116)
    (quiet
    ∷ first_good 10 (minus 100 200 4 0 0 0) 49_980_000
    ∷ first_good 20 (minus 600_000_000 900_000_000 5 0 0 0) 49_970_000
    ∷ two_good 5 (minus 0 0 6 300_000_000 400_000_000 7) 49_980_000 41 50_020_000
    ∷ quiet
    ∷ [])
    (grouped 2 (bad_at 1 11 1 Generation (pos 0) (pos 0) (minus 375_000_000 750_000_000 3 0 0 0) (λ t. pos 90))
    ∷ grouped 2 (bad_at 75 12 1 Load (pos 0) (pos 0) zeros (λ t. pos 80))
    ∷ steady 13 1 Generation 0 (minus 1 2 8 0 0 0) (flat (pos 40))
    ∷ grouped 500 (steady 21 2 Generation 0 (minus 225_000_000 450_000_000 13 0 0 0) (flat (pos 70)))
    ∷ grouped 500 (steady 22 2 Load 0 zeros (flat (pos 60)))
    ∷ grouped 500 (bad_at 40 23 2 Generation (pos 0) (pos 0) zeros (λ t. pos 50))
    ∷ grouped 500 (steady 24 2 Load 0 zeros (flat (pos 20)))
    ∷ grouped 65_535 (bad_at 1 31 3 Generation (pos 0) (pos 0) (minus 150_000_000 50_000_000 21 180_000_000 60_000_000 9) (λ t. pos 25))
    ∷ grouped 65_535 (steady 32 3 Generation 0 zeros (flat (pos 35)))
    ∷ grouped 1 (steady 33 3 Load 0 (minus 120_000_000 30_000_000 17 240_000_000 90_000_000 19) (flat (pos 45)))
    ∷ grouped 1 (bad_at 75 34 3 Generation (pos 0) (pos 0) zeros (λ t. pos 55))
    ∷ grouped 256 (steady 35 3 Load 100 (minus 7 8 1 9 10 2) (flat (pos 102)))
    ∷ grouped 256 (steady 36 3 Generation 0 zeros (flat (pos 14)))
    ∷ [])
    (requirement 1 2 Raise 9_000 1_000 400 100
    ∷ requirement 2 6 Raise 9_000 1_000 400 100
    ∷ requirement 3 4 Raise 9_000 1_000 400 100
    ∷ requirement 4 8 Raise 9_000 1_000 400 300
    ∷ requirement 5 8 Lower 9_000 1_000 400 300
    ∷ [])

-- ---- a group of thirteen at the end of the roster, every third of them a load, and a bad unit before it
abbrev pub group_of_13 : Book
group_of_13 =
    book (settings 10_000 74 50 117)
    (quiet ∷ quiet ∷ quiet ∷ quiet ∷ first_good 1 (minus 0 0 0 3 4 7) 50_020_000 ∷ [])
    (bad_at 38 5 4 Generation (pos 0) (pos 0) (minus 0 0 0 50_000_000 70_000_000 3) (λ t. pos 9)
    ∷ grouped 13 (steady 101 4 Generation 0 (minus 0 0 0 1 2 5) (flat (neg_ℤ (pos 1))))
    ∷ generation 2 ∷ load 3 ∷ generation 4 ∷ generation 5 ∷ load 6 ∷ generation 7 ∷ generation 8 ∷ load 9 ∷ generation 10 ∷ generation 11 ∷ load 12
    ∷ generation 13
    ∷ [])
    (requirement 1 16 Lower 12_000 1_001 10 3 ∷ [])
  where
    generation : ℕ → Unit
    generation i = grouped 13 (steady (100 + i) 4 Generation 0 zeros (flat (neg_ℤ (pos (i * i)))))

    load : ℕ → Unit
    load i = grouped 13 (steady (100 + i) 4 Load 0 zeros (flat (neg_ℤ (pos (i * i)))))

-- ---- the paper's book, its two units each a group of one
abbrev pub groups_of_one : Book
groups_of_one =
    book (paper_book 7).settings (paper_book 7).regions (grouped 1 first ∷ grouped 65_535 second ∷ []) (paper_book 7).requirements
