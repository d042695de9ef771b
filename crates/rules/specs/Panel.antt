-- The pages of the four-line display (02, R-13): four lines of 20, 80 bytes in all, filled with spaces. For one requirement a first page, then one per member,
-- the residual last; and the page of a refusal.
use Rattle.std.specs.Prelude.{cond, List, [], ◌∷◌, ◌++◌, map, ℕ, zero, suc, ◌+◌, ◌-◌, leb, ℤ, pos, length}
use Rattle.rules.specs.declared.Direction.{Direction}
use Rattle.rules.specs.Book.{Requirement}
use Rattle.rules.specs.Members.{Name, unit, residual}
use Rattle.rules.specs.Answer.{Line, Answer}
use Rattle.rules.specs.Text.{text, natural, integer}
use Rattle.rules.specs.Listing.{direction_word, standing_word}
use Rattle.rules.specs.Phrases.{phrase}

-- a line's places, those of a figure behind its label, and those of all four lines
abbrev pub line_places : ℕ
line_places = 20

abbrev pub figure_places : ℕ
figure_places = 16

abbrev pub page_places : ℕ
page_places = 80

-- the same byte so many times
unfoldable pub repeated : ℕ → ℕ → List ℕ
repeated byte zero = []
repeated byte (suc n) = byte ∷ repeated byte n

abbrev pub spaces : ℕ → List ℕ
spaces n = repeated 32 n

abbrev pub hashes : ℕ → List ℕ
hashes n = repeated 35 n

-- a text at the left of so many places, and one at the right end of them
abbrev pub at_left : ℕ → List ℕ → List ℕ
at_left places left = left ++ spaces (places - length left)

abbrev pub at_right : ℕ → List ℕ → List ℕ
at_right places right = spaces (places - length right) ++ right

-- one at the left and one at the right end of a line
abbrev pub at_ends : List ℕ → List ℕ → List ℕ
at_ends left right = left ++ (spaces (line_places - (length left + length right)) ++ right)

-- a number at the right end of 16 places; over 16 characters, sign included, it is 16 hashes
unfoldable pub placed : List ℕ → List ℕ
placed number = cond (leb (length number) figure_places) (at_right figure_places number) (hashes figure_places)

abbrev pub figure : ℤ → List ℕ
figure x = placed (integer x)

-- a label of four and its figure
abbrev pub labelled : List ℕ → ℤ → List ℕ
labelled label x = label ++ figure x

-- the first page: `req`, number and direction with single spaces; RCR, pool and cost
unfoldable pub first_page : ℕ → Direction → ℤ → ℤ → ℤ → List ℕ
first_page number direction rcr pool cost =
    at_left line_places (text "req " ++ (natural number ++ (text " " ++ direction_word direction)))
    ++ (labelled (text "RCR ") rcr ++ (labelled (text "POOL") pool ++ labelled (text "COST") cost))

-- a member's page: its name at the left and its standing at the right end of line one; payment, used and unused
abbrev pub name_text : Name → List ℕ
name_text (unit n) = text "unit " ++ natural n
name_text residual = text "residual"

unfoldable pub member_page : Line → List ℕ
member_page l =
    at_ends (name_text l.name) (standing_word l.standing)
    ++ (labelled (text "PAY ") l.payment ++ (labelled (text "USED") l.used ++ labelled (text "IDLE") l.unused))

-- the pages of a requirement's answer, in their order; RCR and pool are the listing's numbers, cost is the book's
unfoldable pub pages : Requirement → Answer → List (List ℕ)
pages q a = first_page a.number a.direction (pos a.rcr) (pos a.pool) (pos q.cost) ∷ map member_page a.lines

-- a refusal's page: its phrase on line one, spaces after it
unfoldable pub refusal_page : ℕ → List ℕ
refusal_page number = at_left page_places (phrase number)
