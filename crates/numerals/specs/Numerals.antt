-- A word as a whole number within i64, a byte at a time: a word so far, the same with a byte more, and the number that it is.
use Rattle.std.specs.Prelude.{true, false, cond, ℕ, ◌+◌, ◌*◌, ◌-◌, ◌^◌, eqb, ltb, leb, pos, neg_ℤ, Option, Some, None, ℤ}
use Rattle.numerals.specs.declared.Word.{Word}

-- the size of i64's least number, one more than its largest
abbrev pub most : ℕ
most = 2 ^ 63

abbrev pub blank : Word
blank = record { begun = false; minus = false; digits = false; size = 0; fine = true }

-- a minus alone
abbrev pub minus_word : Word
minus_word = record { begun = true; minus = true; digits = false; size = 0; fine = true }

-- a word that is no number, whatever comes
abbrev pub wrong_word : Word → Word
wrong_word w = record { begun = true; minus = w.minus; digits = w.digits; size = 0; fine = false }

-- one digit more, as long as i64 can hold the number either way
abbrev pub digit_added : Word → ℕ → Word
digit_added w digit =
    cond (leb (10 * w.size + digit) most)
    (record { begun = true; minus = w.minus; digits = true; size = 10 * w.size + digit; fine = w.fine })
    (wrong_word w)

-- one byte more: a minus, 45, only where the word begins; else a digit, 48 to 57
abbrev pub byte_added : Word → ℕ → Word
byte_added w byte =
    cond (eqb byte 45) (cond w.begun (wrong_word w) minus_word)
    (cond (ltb byte 48) (wrong_word w) (cond (ltb 57 byte) (wrong_word w) (digit_added w (byte - 48))))

-- a number of this size with a minus before it
abbrev pub below_zero : ℕ → Option ℤ
below_zero size = cond (leb size most) (Some (neg_ℤ (pos size))) None

-- and with none
abbrev pub from_zero : ℕ → Option ℤ
from_zero size = cond (ltb size most) (Some (pos size)) None

-- the number that a word is
abbrev pub number_of : Word → Option ℤ
number_of w = cond w.fine (cond w.digits (cond w.minus (below_zero w.size) (from_zero w.size)) None) None
