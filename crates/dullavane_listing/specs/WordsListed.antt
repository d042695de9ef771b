-- What proofs/WordsListed.antt speaks of: the pieces of a taken book's listing, call after call, over the words and lists of C.
use Rattle.std.specs.Prelude.{◌≡◌, List, [], ◌∷◌, ◌++◌, ℕ, ◌≤◌, ◌<◌, length, get_or, take, drop}
use Rattle.rules.specs.declared.Refusal.TheVariants.{TooShort}
use Rattle.rules.specs.Refusals.{number}
use Rattle.rules.specs.Book.{Book}
use Rattle.rules.specs.Listing.{listing}
use Rattle.interval.specs.Lent.{Lent}
use Rattle.answer.specs.Promises.{Columns}
use Rattle.lister.specs.Promises.{longest_line}
use Rattle.dullavane_listing.specs.Called.{ListingCalled}

-- sixteen zeros
abbrev pub first_words : List ℕ
first_words = 0 ∷ 0 ∷ 0 ∷ 0 ∷ 0 ∷ 0 ∷ 0 ∷ 0 ∷ 0 ∷ 0 ∷ 0 ∷ 0 ∷ 0 ∷ 0 ∷ 0 ∷ 0 ∷ []

-- how many bytes a call has written
abbrev pub written_in : List ℕ → ℕ
written_in ws = get_or ws 0 0

-- ---- calls one after another, from sixteen zeros on: each is handed the cursor's words and the columns as the call before left them, and a text of any
-- length; a call that is refused is made again. What they have written, joined
module _ (ts bytes : List ℕ) (l : Lent) (c₀ : Columns) where
  pub data Came : List ℕ → Columns → List ℕ → Type 0 where
    first : (more : List ℕ) → Came (first_words ++ more) c₀ []
    piece :
        {ws ws' : List ℕ} {c c' : Columns} {said old new : List ℕ} → Came ws c said → ListingCalled ts ws bytes l c old 0 ws' c' new →
        Came ws' c' (said ++ take (written_in ws') new)
    again :
        {ws ws' : List ℕ} {c c' : Columns} {said old new : List ℕ} {r : ℕ} → Came ws c said → (r ≡ 0 → ⊥) → ListingCalled ts ws bytes l c old r ws' c' new →
        Came ws' c' said

-- what a call gives of the rest: some of it, in a text that had room for it; or no byte, where nothing is left; or 12, in a text shorter than the longest line,
-- and then nothing is written
pub data GaveOf (rest ws : List ℕ) (c : Columns) (old : List ℕ) (r : ℕ) (ws' : List ℕ) (c' : Columns) (new : List ℕ) : Type 0 where
  some :
      r ≡ 0 → 0 < written_in ws' → written_in ws' ≤ length old → take (written_in ws') new ≡ take (written_in ws') rest → written_in ws' ≤ length rest →
      drop (written_in ws') new ≡ drop (written_in ws') old → GaveOf rest ws c old r ws' c' new
  none : r ≡ 0 → written_in ws' ≡ 0 → rest ≡ [] → drop 1 ws' ≡ drop 1 ws → c' ≡ c → new ≡ old → GaveOf rest ws c old r ws' c' new
  no_room : r ≡ number TooShort → length old < longest_line → ws' ≡ ws → c' ≡ c → new ≡ old → GaveOf rest ws c old r ws' c' new

-- ---- wherever such calls have come, what they have written is the front of the rules' listing, and the next call gives of the rest
pub record WordsOnTheirWay (b : Book) (ts bytes : List ℕ) (l : Lent) (ws : List ℕ) (c : Columns) (said : List ℕ) : Type 0 where
  pub rest : List ℕ
  pub whole : listing b ≡ said ++ rest
  pub gives :
      {old new : List ℕ} {r : ℕ} {ws' : List ℕ} {c' : Columns} → ListingCalled ts ws bytes l c old r ws' c' new → GaveOf rest ws c old r ws' c' new
