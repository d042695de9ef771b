-- What is asked once every unit is in: who stands in a row of the roster.
use Rattle.std.specs.Prelude.{Bool, ◌&&◌, List, ◌∷◌, ℕ, zero, suc, leb, ltb, length, drop}
use Rattle.rules.specs.declared.Direction.{Direction}
use Rattle.rules.specs.declared.Direction.TheVariants.{Raise, Lower}
use Rattle.rules.specs.declared.Reason.TheVariants.{UnreliableRegion, BadUnit, NoGoodUnit}
use Rattle.rules.specs.declared.Standing.{Standing}
use Rattle.rules.specs.declared.Standing.TheVariants.{Live, Default}
use Rattle.rules.specs.declared.Refusal.TheVariants.{WrongState, TooShort}
use Rattle.rules.specs.Refusals.{Reply, taken, refused, unless, number, ◌>>=◌}
use Rattle.interval.specs.declared.Tally.{Tally}
use Rattle.interval.specs.Tally.{in_range, answer_turn}
use Rattle.interval.specs.Lent.{Lent}
use Rattle.answer.specs.declared.Row.{Row}
use Rattle.answer.specs.declared.Row.TheVariants as w
use Rattle.answer.specs.Roster.{MemberPromise}
use Rattle.dullavane.specs.Words.{held}
use Rattle.dullavane.specs.Called.{Called}

-- the tally at its turn, what it is asked by within its width, and words that are long enough for the answer
unfoldable pub in_turn : Bool → Bool → Tally → Reply Tally
in_turn narrow long t =
    unless (in_range t && answer_turn t) WrongState (unless narrow WrongState (unless long TooShort (taken t)))

unfoldable pub asked_tally : List ℕ → Bool → Bool → Reply Tally
asked_tally ws narrow long = held ws >>= in_turn narrow long

-- the tally itself; all zeros where words hold none
abbrev pub no_tally : Tally
no_tally = record { units = 0; requirements = 0; records = 0; least = 0; smoothing = 0; limit = 0; percent = 0; interval = 0 }

abbrev pub held_or_none : Reply Tally → Tally
held_or_none (taken t) = t
held_or_none (refused r) = no_tally

-- a number that is asked by is within its width: a row 16 bits, a region set 8; a direction is 0 or 1
abbrev pub asked_narrow : ℕ → ℕ → ℕ → Bool
asked_narrow row direction set = ltb row 65_536 && (ltb direction 2 && ltb set 256)

abbrev pub direction_of : ℕ → Direction
direction_of zero = Raise
direction_of (suc n) = Lower

-- 0 is live; else the reason why a default stands in
abbrev pub standing_number : Standing → ℕ
standing_number Live = 0
standing_number (Default UnreliableRegion) = 1
standing_number (Default BadUnit) = 2
standing_number (Default NoGoodUnit) = 3

-- three words: 1 for a member of the requirement or 0 for a unit of another region, the unit's number, its standing
abbrev pub member_words : ℕ
member_words = 3

abbrev pub with_row : ℕ → ℕ → ℕ → List ℕ → List ℕ
with_row one number standing ws = one ∷ number ∷ standing ∷ drop member_words ws

abbrev pub row_number : Row → ℕ
row_number (w.Unit n s) = 0
row_number w.Other = 0
row_number (w.Refused r) = number r

abbrev pub row_after : Row → List ℕ → List ℕ
row_after (w.Unit n s) ws = with_row 1 n (standing_number s) ws
row_after w.Other ws = with_row 0 0 0 ws
row_after (w.Refused r) ws = ws

pub record MemberCalled (ts : List ℕ) (row direction set : ℕ) (l : Lent) (ws : List ℕ) (r : ℕ) (ws' : List ℕ) : Type 0 where
  pub answer :
      Called row_number row_after (λ t s. MemberPromise t row (direction_of direction) set l s) (Unit {0})
      (asked_tally ts (asked_narrow row direction set) (leb member_words (length ws))) ws r ws'
