-- A line is put together from its end: a piece goes before what stands.
use Rattle.std.specs.Prelude.{◌≡◌, Bool, true, false, ◌&&◌, List, ◌++◌, ℕ, ◌+◌, ◌-◌, ◌/◌, ◌%◌, ◌≤◌, leb, length, take, drop, set}
use Rattle.rules.specs.declared.Direction.{Direction}
use Rattle.rules.specs.Listing.{direction_word}
use Rattle.rules.specs.Text.{text}

-- k bytes go before what stands from `at` on
pub record Room (k at : ℕ) (line : List ℕ) : Type 0 where
  pub free : k ≤ at
  pub inside : at ≤ length line

-- the bytes from `at` on have the piece before them, and start at r; the others are as they came
pub record Put (piece : List ℕ) (at : ℕ) (old : List ℕ) (r : ℕ) (new : List ℕ) : Type 0 where
  pub place : r + length piece ≡ at
  pub bytes : drop r new ≡ piece ++ drop at old
  pub before : take r new ≡ take r old
  pub size : length new ≡ length old

-- the two digits of a number below 100, as the bytes before `to`
abbrev pub two_put : ℕ → ℕ → List ℕ → List ℕ
two_put two to line = set (set line (to - 1) (48 + two % 10)) (to - 2) (48 + two / 10)

-- it is put where k bytes have room; else nothing is
abbrev pub has_room : ℕ → ℕ → List ℕ → Bool
has_room k at line = leb k at && leb at (length line)

pub record PutWhereRoom (k : ℕ) (piece : List ℕ) (at : ℕ) (old : List ℕ) (r : ℕ) (new : List ℕ) : Type 0 where
  pub put : has_room k at old ≡ true → Put piece at old r new
  pub place_kept : has_room k at old ≡ false → r ≡ at
  pub line_kept : has_room k at old ≡ false → new ≡ old

-- every word of a line but its first
abbrev pub after_space : List ℕ → List ℕ
after_space word = text " " ++ word

-- a direction's word, and the longest numbers, after their space
unfoldable pub direction_piece : Direction → List ℕ
direction_piece direction = after_space (direction_word direction)
