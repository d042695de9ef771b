-- Laws of the definitions in specs/Numerals.antt.
use Rattle.std.specs.Prelude.{Option, ℤ}
use mathlib.Core.Path.{◌≡◌, sym, ◌∙◌, ap}
use Prim.Native.Nat.{ℕ, zero, suc, ◌-◌, ◌≤◌, ◌<◌, ◌^◌}
use native.Mathlib.Omega.{arith}
use lib.IntN.{pos, negsuc, neg_ℤ}
use borrow.Author.Tests.{le-ltb}
use Rattle.rules.specs.Bytes.{signed}
use Rattle.numerals.specs.declared.Word.{Word}
use Rattle.numerals.specs.Numerals.{most, blank, byte_added, number_of}

-- any two replies that a promise allows are equal
pub no_word_only : {r s : Word} → r ≡ blank → s ≡ blank → r ≡ s
no_word_only a b = a ∙ sym b

pub longer_only : (word : Word) (byte : ℕ) {r s : Word} → r ≡ byte_added word byte → s ≡ byte_added word byte → r ≡ s
longer_only word byte a b = a ∙ sym b

pub number_in_only : (word : Word) {r s : Option ℤ} → r ≡ number_of word → s ≡ number_of word → r ≡ s
number_in_only word a b = a ∙ sym b

-- ---- the bits of a number below zero
pub bits_below : (n : ℕ) → 0 < n → n ≤ most → signed 8 (18446744073709551615 - (n - 1)) ≡ neg_ℤ (pos n)
bits_below zero h few = absurd (omega arith)
bits_below (suc k) h few =
    let x = 18446744073709551615 - (suc k - 1) in
    let back : 2 ^ 64 - suc x ≡ k = omega arith in
    rw (le-ltb x (2 ^ 63) (omega arith)) (ap negsuc back)
