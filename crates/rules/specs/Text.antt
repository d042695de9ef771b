-- Text as bytes: quoted words, decimal numbers without `-0` and without leading zeros, words to a line (01, One listing in full).
use Rattle.std.specs.Prelude.{true, false, List, [], ◌∷◌, ◌++◌, ℕ, zero, suc, ◌+◌, ◌/◌, ◌%◌, ltb, ℤ, pos, negsuc}
use Prim.Native.Char.{code}
use Prim.Native.String.{String, [] as empty, ◌∷◌ as then}

-- the bytes of a text
unfoldable pub text : String → List ℕ
text empty = []
text (then c rest) = code c ∷ text rest

-- the decimal digits of a number that has at most so many, the highest first
unfoldable pub digits : ℕ → ℕ → List ℕ
digits zero n = []
digits (suc most) n = elim (ltb n 10) [ true ↦ (48 + n) ∷ [] | false ↦ digits most (n / 10) ++ ((48 + n % 10) ∷ []) ]

-- a number of 64 bits has at most 20 digits
abbrev pub natural : ℕ → List ℕ
natural n = digits 20 n

abbrev pub integer : ℤ → List ℕ
integer (pos n) = natural n
integer (negsuc n) = text "-" ++ natural (suc n)

-- words with a space between each two, and a line feed
unfoldable pub words : List (List ℕ) → List ℕ
words [] = text "\n"
words (w ∷ []) = w ++ text "\n"
words (w ∷ (v ∷ ws)) = w ++ (text " " ++ words (v ∷ ws))
