-- Laws of the definitions in specs/Lines.antt: a line goes on byte by byte, a number's digits are those that `io` makes, and no two lines are allowed.
use mathlib.Core.Path.{◌≡◌, refl, sym, ◌∙◌, ap, ap₂}
use mathlib.Core.Bool.{Bool, true, false, cond}
use mathlib.Core.List.{List, [], ◌∷◌, ◌++◌}
use Prim.Native.Nat.{ℕ, zero, suc, ◌+◌, ◌-◌, ◌/◌, ◌%◌, ◌^◌, ◌≤◌, ◌<◌}
use native.Mathlib.Nat.{pow-suc, pow-le-pow_right, mod-eq_of_lt}
use native.Mathlib.Numerals.{add-one}
use native.Mathlib.Omega.{arith}
use borrow.Author.Tests.{lt-ltb, le-ltb, leb-true, leb-false}
use lib.Dec.{ltb, leb}
use lib.ListN.{length, drop, set, get_or}
use lib.Seq.{drop-cons, drop-length}
use mir.Syntax.{w64}
use mir.Val.{Fits}
use Rattle.io.specs.Digits as io
use Rattle.rules.specs.Text.{text, digits, natural}
use Rattle.listing.proofs.PiecesLaws.{digits_last, digits_more}
use Rattle.printing.specs.Lines.{Line, line, places, with_byte, with_bytes, with_word, with_number, with_below}

-- ---- a byte
pub byte_put : (byte : ℕ) (l : Line) → l.end < places → with_byte byte l ≡ line (l.end + 1) (set l.bytes l.end byte)
byte_put byte l h = rw (lt-ltb l.end places h)

pub byte_past : (byte : ℕ) (l : Line) → places ≤ l.end → with_byte byte l ≡ line places l.bytes
byte_past byte l h = rw (le-ltb l.end places h)

-- ---- bytes
bytes_none : (l : Line) → with_bytes [] l ≡ l
unfolding with_bytes
bytes_none l = refl

-- from the i-th on, one more
pub bytes_next : (bytes : List ℕ) (i : ℕ) (l : Line) → i < length bytes →
    with_bytes (drop i bytes) l ≡ with_bytes (drop (i + 1) bytes) (with_byte (get_or bytes i 0) l)
unfolding with_bytes
bytes_next bytes i l h =
    ap (λ (x : List ℕ). with_bytes x l) (drop-cons bytes i 0 h) ∙ ap (λ (j : ℕ). with_bytes (drop j bytes) (with_byte (get_or bytes i 0) l)) (sym (add-one i))

pub bytes_all : (bytes : List ℕ) (l : Line) → with_bytes (drop (length bytes) bytes) l ≡ l
bytes_all bytes l = ap (λ (x : List ℕ). with_bytes x l) (drop-length bytes) ∙ bytes_none l

-- bytes after others
bytes_after : (first second : List ℕ) (l : Line) → with_bytes second (with_bytes first l) ≡ with_bytes (first ++ second) l
unfolding with_bytes
bytes_after [] second l = refl
bytes_after (x ∷ first) second l = bytes_after first second (with_byte x l)

-- ---- words
pub word_first : (word : List ℕ) (l : Line) → l.end ≤ 0 → with_word word l ≡ with_bytes word l
word_first word l h = rw (le-ltb 0 l.end h)

pub word_after : (word : List ℕ) (l : Line) → 0 < l.end → with_word word l ≡ with_bytes word (with_byte 32 l)
unfolding with_bytes text
word_after word l h = rw (lt-ltb 0 l.end h)

-- a word that goes on
pub word_on : (first second : List ℕ) (l : Line) → with_bytes second (with_word first l) ≡ with_word (first ++ second) l
unfolding with_bytes text
word_on first second l = go (ltb 0 l.end)
  where
    go :
        (t : Bool) → with_bytes second (with_bytes (cond t (text " " ++ first) first) l) ≡
        with_bytes (cond t (text " " ++ (first ++ second)) (first ++ second)) l
    go true = bytes_after (text " " ++ first) second l
    go false = bytes_after first second l

-- ---- the digits that `io` makes are a number's
digit : (n : ℕ) → n < 10 → io.hex_digit_ascii n ≡ 48 + n
digit n h = rw (lt-ltb n 10 h)

spelt : (most k n : ℕ) → suc k ≤ most → n < 10 ^ suc k → (1 < suc k → 10 ^ k ≤ n) → io.last_digits 10 (suc k) n ≡ digits most n
spelt zero k n h small least = absurd (omega arith)
spelt (suc most) zero n h small least =
    ap (λ (x : ℕ). x ∷ []) (ap io.hex_digit_ascii (mod-eq_of_lt {n = n} {m = 10} (omega arith)) ∙ digit n (omega arith)) ∙ sym (digits_last most n (omega arith))
spelt (suc most) (suc k) n h small least =
    let large = rw (pow-suc 10 k) at (least (omega arith)) in
    ap₂ (λ (x : List ℕ) (y : ℕ). x ++ (y ∷ []))
    (spelt most k (n / 10) (omega arith) (omega (arith, rw (pow-suc 10 (suc k)) at small)) (λ j. omega (arith, large)))
    (digit (n % 10) (omega arith))
    ∙ sym (digits_more most n (omega (arith, large, pow-le-pow_right {n = 10} (omega arith) {i = 0} {j = k} (omega arith))))

pub natural_is : (k n : ℕ) → Fits w64 n → io.IsDigitCount 10 1 n k → io.last_digits 10 k n ≡ natural n
natural_is zero n h f = absurd (omega (arith, f.0))
natural_is (suc k) n h f = spelt 20 k n (most (leb 20 k) refl) f.1 least
  where
    behind : suc k - 1 ≡ k
    behind = omega arith

    least : 1 < suc k → 10 ^ k ≤ n
    least g = rw behind at (f.2 g)

    most : (t : Bool) → leb 20 k ≡ t → suc k ≤ 20
    most false e = omega (arith, leb-false 20 k e)
    most true e =
        let g = leb-true 20 k e in
        absurd (omega (arith, h, least (omega (arith, g)), pow-le-pow_right {n = 10} (omega arith) {i = 20} {j = k} g))

-- ---- no two answers are allowed
module _ {l : Line} {r r' : ℕ} {new new' : List ℕ} where
  line_only : line r new ≡ l → line r' new' ≡ l → (r ≡ r') × (new ≡ new')
  line_only a b = let e = a ∙ sym b in (ap (λ (x : Line). x.end) e, ap (λ (x : Line). x.bytes) e)

module _ (at : ℕ) (old : List ℕ) {r r' : ℕ} {new new' : List ℕ} where
  pub put_byte_only : (byte : ℕ) → line r new ≡ with_byte byte (line at old) → line r' new' ≡ with_byte byte (line at old) → (r ≡ r') × (new ≡ new')
  put_byte_only byte = line_only

  pub put_bytes_only : (bytes : List ℕ) → line r new ≡ with_bytes bytes (line at old) → line r' new' ≡ with_bytes bytes (line at old) →
      (r ≡ r') × (new ≡ new')
  put_bytes_only bytes = line_only

  pub put_word_only : (word : List ℕ) → line r new ≡ with_word word (line at old) → line r' new' ≡ with_word word (line at old) → (r ≡ r') × (new ≡ new')
  put_word_only word = line_only

  pub put_number_only : (number : ℕ) → line r new ≡ with_number number (line at old) → line r' new' ≡ with_number number (line at old) →
      (r ≡ r') × (new ≡ new')
  put_number_only number = line_only

  pub put_below_only : (size : ℕ) → line r new ≡ with_below size (line at old) → line r' new' ≡ with_below size (line at old) → (r ≡ r') × (new ≡ new')
  put_below_only size = line_only
