-- The version that an argument says: decimal digits and nothing else, a number of at most 16 bits.
use Rattle.std.specs.Prelude.{cond, List, [], ◌∷◌, ℕ, ltb, Option, Some, None}
use Rattle.numerals.specs.declared.Word.{Word}
use Rattle.numerals.specs.Numerals.{byte_added}

-- a word with bytes more, one after the other
unfoldable pub bytes_added : Word → List ℕ → Word
bytes_added w [] = w
bytes_added w (b ∷ bs) = bytes_added (byte_added w b) bs

-- a minus is no digit, not even before 0
abbrev pub version_of : Word → Option ℕ
version_of w =
    cond w.fine (cond w.digits (cond w.minus None (cond (ltb 65_535 w.size) None (Some w.size))) None) None
