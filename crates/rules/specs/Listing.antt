-- The listing, as text (01, One listing in full): from the bytes of a book to what `settle` prints.
use Rattle.std.specs.Prelude.{List, [], ◌∷◌, ◌++◌, ℕ}
use Rattle.rules.specs.declared.Direction.{Direction}
use Rattle.rules.specs.declared.Direction.TheVariants.{Raise, Lower}
use Rattle.rules.specs.declared.Located.{Located}
use Rattle.rules.specs.declared.Standing.{Standing}
use Rattle.rules.specs.declared.Standing.TheVariants.{Live, Default}
use Rattle.rules.specs.Refusals.{number, point, LocatedReply, taken, refused}
use Rattle.rules.specs.Book.{Book}
use Rattle.rules.specs.WholeBook.{book}
use Rattle.rules.specs.Members.{Name, unit, residual}
use Rattle.rules.specs.Answer.{Line, Answer, answer}
use Rattle.rules.specs.Text.{text, natural, integer, words}

abbrev pub direction_word : Direction → List ℕ
direction_word Raise = text "raise"
direction_word Lower = text "lower"

abbrev pub standing_word : Standing → List ℕ
standing_word Live = text "live"
standing_word (Default why) = text "default"

-- a unit's name is two words
abbrev pub name_words : Name → List (List ℕ)
name_words (unit n) = text "unit" ∷ natural n ∷ []
name_words residual = text "residual" ∷ []

abbrev pub member_line : Line → List ℕ
member_line l =
    words (name_words l.name ++ (standing_word l.standing ∷ integer l.performance ∷ integer l.factor ∷ integer l.payment ∷ integer l.used ∷
    integer l.unused ∷ []))

abbrev pub requirement_line : Answer → List ℕ
requirement_line a =
    words (text "requirement" ∷ natural a.number ∷ direction_word a.direction ∷ natural a.rcr ∷ natural a.pool ∷ natural a.used_pool ∷ natural
    a.unused_pool ∷ natural a.unplaced_used ∷ natural a.unplaced_unused ∷ [])

abbrev pub interval_line : ℕ → List ℕ
interval_line n = words (text "interval" ∷ natural n ∷ [])

-- number, place and t, with 0 for one that is not there (02, R-1)
abbrev pub refused_line : Located → List ℕ
refused_line r = words (text "refused" ∷ natural (number r.refusal) ∷ natural r.place ∷ natural (point r.refusal) ∷ [])

unfoldable pub joined : {A : Type 0} → (A → List ℕ) → List A → List ℕ
joined f [] = []
joined f (x ∷ xs) = f x ++ joined f xs

-- a requirement and its members
unfoldable pub answer_lines : Answer → List ℕ
answer_lines a = requirement_line a ++ joined member_line a.lines

unfoldable pub listing : Book → List ℕ
listing b = interval_line b.settings.interval ++ joined (λ q. answer_lines (answer b q)) b.requirements

-- what `settle` prints of the bytes of a book
abbrev pub printed : LocatedReply Book → List ℕ
printed (taken b) = listing b
printed (refused r) = refused_line r

unfoldable pub settle : List ℕ → List ℕ
settle bs = printed (book bs)
