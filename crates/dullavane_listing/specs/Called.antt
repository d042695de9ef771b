-- What the listing's call for C promises: the reply, the cursor's words, each number of the columns and each byte of the text, on refusals too.
use Rattle.std.specs.Prelude.{◌≡◌, true, List, ◌∷◌, ℕ, drop}
use Rattle.rules.specs.Refusals.{Reply, taken, refused, number, ◌>>=◌}
use Rattle.interval.specs.declared.Tally.{Tally}
use Rattle.interval.specs.Lent.{Lent}
use Rattle.answer.specs.Promises.{Columns}
use Rattle.lister.specs.declared.Cursor.{Cursor}
use Rattle.lister.specs.declared.Listed.{Listed}
use Rattle.lister.specs.declared.Listed.TheVariants.{Written, Nothing, Refused}
use Rattle.lister.specs.Promises.{ListPromise}
use Rattle.dullavane.specs.Asked.{asked_tally}
use Rattle.dullavane.specs.Called.{Called}
use Rattle.dullavane_listing.specs.Cursor.{cursor_words_of, cursor_of, cursor_held, CursorFits}

-- 0, or the refusal's number
abbrev pub listed_number : Listed → ℕ
listed_number (Written n next) = 0
listed_number Nothing = 0
listed_number (Refused r) = number r

-- the words of the next cursor behind how many bytes were written; where nothing is left that is 0, and the others stay
abbrev pub listed_after : Listed → List ℕ → List ℕ
listed_after (Written n next) ws = cursor_words_of n next ws
listed_after Nothing ws = 0 ∷ drop 1 ws
listed_after (Refused r) ws = ws

-- the numbers of the next cursor are within their widths, so that its words hold it
abbrev pub NextFits : Listed → Type 0
NextFits (Written n next) = CursorFits next
NextFits Nothing = Unit {0}
NextFits (Refused r) = Unit {0}

-- ---- the tally that the listing is asked of: 12 and 11 for its words, 11 before the last unit, then 12 and 11 for the cursor's words
abbrev pub beside : Reply Cursor → Tally → Reply Tally
beside (taken at) t = taken t
beside (refused r) t = refused r

unfoldable pub listing_tally : List ℕ → List ℕ → Reply Tally
listing_tally ts ws = asked_tally ts true true >>= beside (cursor_held ws)

-- ---- the promise
pub record ListingCalled (ts ws bytes : List ℕ) (l : Lent) (c : Columns) (old : List ℕ) (r : ℕ) (ws' : List ℕ) (c' : Columns) (new : List ℕ) : Type 0 where
  pub answer :
      Called listed_number listed_after (λ t s. ListPromise (cursor_of ws) t bytes l c old s c' new × NextFits s) ((c' ≡ c) × (new ≡ old))
      (listing_tally ts ws) ws r ws'
