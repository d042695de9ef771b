-- A line of text in a lent place, put together from its start: what stands in the place, and where the line ends.
use Rattle.std.specs.Prelude.{cond, List, [], ◌∷◌, ◌++◌, ℕ, ◌+◌, ltb, set}
use Rattle.rules.specs.Text.{text, natural}

-- the place has so many bytes
abbrev pub places : ℕ
places = 1024

pub record Line : Type 0 where
  pub end : ℕ
  pub bytes : List ℕ

abbrev pub line : ℕ → List ℕ → Line
line end bytes = record { end = end; bytes = bytes }

-- a byte stands where the line ended, and the line ends behind it; past the place's end nothing is put, and the line ends with the place
abbrev pub with_byte : ℕ → Line → Line
with_byte byte l = cond (ltb l.end places) (line (l.end + 1) (set l.bytes l.end byte)) (line places l.bytes)

-- bytes, one after the other
unfoldable pub with_bytes : List ℕ → Line → Line
with_bytes [] l = l
with_bytes (byte ∷ bytes) l = with_bytes bytes (with_byte byte l)

-- a word, with a blank before each but a line's first
abbrev pub with_word : List ℕ → Line → Line
with_word word l = with_bytes (cond (ltb 0 l.end) (text " " ++ word) word) l

-- a number by its decimal digits, and one after a minus
abbrev pub with_number : ℕ → Line → Line
with_number n = with_word (natural n)

abbrev pub with_below : ℕ → Line → Line
with_below n = with_word (text "-" ++ natural n)
