-- Laws of pieces of text: what digits say, what bytes they are and how many, and what stands before and behind a comma.
use mathlib.Core.Path.{◌≡◌, refl, ◌∙◌, ap}
use mathlib.Core.Bool.{Bool, true, false, not, ◌&&◌, cond}
use mathlib.Core.List.{List, [], ◌∷◌, ◌++◌}
use Prim.Native.Nat.{ℕ, zero, suc, ◌+◌, ◌*◌, ◌/◌, ◌%◌, ◌≤◌, ◌<◌, ◌^◌}
use native.Mathlib.Omega.{arith}
use native.Mathlib.Nat.{pow-suc, div-lt_iff_lt-mul, div-add-mod', mod-lt}
use borrow.Author.Tests.{ltb-true, ltb-false, le-leb, leb-true, eq-eqb, ne_eqb, eqb-true, not-true}
use lib.Dec.{leb, ltb, eqb}
use lib.Pow.{pow-add}
use lib.ListN.{length, get_or, length-append}
use Rattle.rules.specs.Text.{text, digits, natural}
use Rattle.rules.specs.ReportRow.{padded, ◌then◌}
use Rattle.rules.specs.ReportRead.{before_comma, behind_comma, is_digit, with_digit, said_from, said, same, number_most}
use Rattle.listing.proofs.PiecesLaws.{digits_last, digits_more}

-- ---- two tests in one
-- both hold
pub both : {s t : Bool} → s ≡ true → t ≡ true → (s && t) ≡ true
both {s} {t} p q = rw (p, q)

-- the first of two that hold together
pub both_first : (s t : Bool) → (s && t) ≡ true → s ≡ true
both_first true t p = refl
both_first false t p = p

-- and the second
pub both_second : (s t : Bool) → (s && t) ≡ true → t ≡ true
both_second true t p = p
both_second false true p = refl
both_second false false p = p

-- ---- bytes that are not in a piece
-- no byte is this one
unfoldable pub lacks : ℕ → List ℕ → Bool
lacks c [] = true
lacks c (b ∷ bs) = not (eqb b c) && lacks c bs

-- two pieces that both lack a byte lack it together
pub lacks_joined : (c : ℕ) (xs ys : List ℕ) → lacks c xs ≡ true → lacks c ys ≡ true → lacks c (xs ++ ys) ≡ true
unfolding lacks
lacks_joined c [] ys p q = q
lacks_joined c (x ∷ xs) ys p q =
    both (both_first (not (eqb x c)) (lacks c xs) p) (lacks_joined c xs ys (both_second (not (eqb x c)) (lacks c xs) p) q)

-- every byte is a digit
unfoldable pub all_digits : List ℕ → Bool
all_digits [] = true
all_digits (b ∷ bs) = is_digit b && all_digits bs

-- a digit's byte is one of the ten
pub digit_byte : (d : ℕ) → d < 10 → is_digit (48 + d) ≡ true
digit_byte d h = both (le-leb 48 (48 + d) (omega arith)) (le-leb (48 + d) 57 (omega arith))

-- two pieces of digits are digits together
pub all_digits_joined : (xs ys : List ℕ) → all_digits xs ≡ true → all_digits ys ≡ true → all_digits (xs ++ ys) ≡ true
unfolding all_digits
all_digits_joined [] ys p q = q
all_digits_joined (x ∷ xs) ys p q =
    both (both_first (is_digit x) (all_digits xs) p) (all_digits_joined xs ys (both_second (is_digit x) (all_digits xs) p) q)

-- a comma, a minus, a full stop and a line feed are below the digits
pub digits_lack : (c : ℕ) (bs : List ℕ) → c < 48 → all_digits bs ≡ true → lacks c bs ≡ true
unfolding lacks all_digits
digits_lack c [] h p = refl
digits_lack c (b ∷ bs) h p =
    let d : 48 ≤ b = leb-true 48 b (both_first (leb 48 b) (leb b 57) (both_first (is_digit b) (all_digits bs) p)) in
    both (ap not (ne_eqb b c (λ e. omega arith))) (digits_lack c bs h (both_second (is_digit b) (all_digits bs) p))

-- ---- what pieces say
-- one after the other
pub said_joined : (n : ℕ) (xs ys : List ℕ) → said_from n (xs ++ ys) ≡ said_from (said_from n xs) ys
unfolding said_from
said_joined n [] ys = refl
said_joined n (x ∷ xs) ys = said_joined (with_digit n x) xs ys

-- a digit's byte says ten times what was said, and the digit
pub digit_said : (n d : ℕ) → d < 10 → with_digit n (48 + d) ≡ 10 * n + d
digit_said n d h = rw (digit_byte d h) (omega arith)

-- one digit more at the end
pub said_more : (n d : ℕ) (xs : List ℕ) → d < 10 → said_from n (xs ++ ((48 + d) ∷ [])) ≡ 10 * said_from n xs + d
unfolding said_from
said_more n d xs h = said_joined n xs ((48 + d) ∷ []) ∙ digit_said (said_from n xs) d h

-- ---- a number by so many digits
-- it has so many
pub padded_long : (k n : ℕ) → length (padded k n) ≡ k
unfolding padded
padded_long zero n = refl
padded_long (suc k) n = length-append (padded k (n / 10)) ((48 + n % 10) ∷ []) ∙ omega (arith, padded_long k (n / 10))

-- they are digits
pub padded_digits : (k n : ℕ) → all_digits (padded k n) ≡ true
unfolding padded all_digits
padded_digits zero n = refl
padded_digits (suc k) n =
    all_digits_joined (padded k (n / 10)) ((48 + n % 10) ∷ []) (padded_digits k (n / 10)) (both (digit_byte (n % 10) (mod-lt n (omega arith))) refl)

-- so no comma, no minus and no line feed
pub padded_lacks : (c k n : ℕ) → c < 48 → lacks c (padded k n) ≡ true
padded_lacks c k n h = digits_lack c (padded k n) h (padded_digits k n)

-- read after m they say m, moved up by as many places, and the number
pub padded_said : (k m n : ℕ) → n < 10 ^ k → said_from m (padded k n) ≡ m * 10 ^ k + n
unfolding padded said_from
padded_said zero m n h = omega arith
padded_said (suc k) m n h =
    let e = padded_said k m (n / 10) ((div-lt_iff_lt-mul {k = 10} {x = n} {y = 10 ^ k} (omega arith)).1 (rw (pow-suc 10 k) at h)) in
    said_more m (n % 10) (padded k (n / 10)) (mod-lt n (omega arith)) ∙ omega (arith, e, ap (λ (z : ℕ). m * z) (pow-suc 10 k), div-add-mod' n 10)

-- ---- a number by as many digits as it has
-- below ten, or not
pub data Ten (n : ℕ) : Type 0 where
  below_ten : n < 10 → Ten n
  from_ten : 10 ≤ n → Ten n

-- every number is one of the two
pub ten : (n : ℕ) → Ten n
ten n = go (ltb n 10) refl
  where
    go : (t : Bool) → ltb n 10 ≡ t → Ten n
    go true e = below_ten (ltb-true n 10 e)
    go false e = from_ten (ltb-false n 10 e)

-- they are digits
pub digits_are_digits : (most n : ℕ) → all_digits (digits most n) ≡ true
unfolding digits all_digits
digits_are_digits zero n = refl
digits_are_digits (suc most) n = go (ten n) (digits_are_digits most (n / 10))
  where
    go : Ten n → all_digits (digits most (n / 10)) ≡ true → all_digits (digits (suc most) n) ≡ true
    go (below_ten h) p = rw (digits_last most n h) (both (digit_byte n h) refl)
    go (from_ten h) p =
        rw (digits_more most n h)
        (all_digits_joined (digits most (n / 10)) ((48 + n % 10) ∷ []) p (both (digit_byte (n % 10) (mod-lt n (omega arith))) refl))

-- read after m they say m, moved up by as many places, and the number
pub digits_said : (most m n : ℕ) → n < 10 ^ most → said_from m (digits most n) ≡ m * 10 ^ length (digits most n) + n
unfolding digits said_from
digits_said zero m n h = omega arith
digits_said (suc most) m n h =
    go (ten n) (digits_said most m (n / 10) ((div-lt_iff_lt-mul {k = 10} {x = n} {y = 10 ^ most} (omega arith)).1 (rw (pow-suc 10 most) at h)))
  where
    go : Ten n → said_from m (digits most (n / 10)) ≡ m * 10 ^ length (digits most (n / 10)) + n / 10 →
        said_from m (digits (suc most) n) ≡ m * 10 ^ length (digits (suc most) n) + n
    go (below_ten l) e = rw (digits_last most n l) (digit_said m n l ∙ omega arith)
    go (from_ten l) e =
        let long = length-append (digits most (n / 10)) ((48 + n % 10) ∷ []) in
        rw (digits_more most n l, long)
        (said_more m (n % 10) (digits most (n / 10)) (mod-lt n (omega arith)) ∙ omega
        (arith, e, ap (λ (z : ℕ). m * z) (pow-add 10 (length (digits most (n / 10))) 1), div-add-mod' n 10))

-- at least one, and no more than the number asks for
pub digits_some : (most n : ℕ) → 1 ≤ length (digits (suc most) n)
unfolding digits
digits_some most n = go (ten n)
  where
    go : Ten n → 1 ≤ length (digits (suc most) n)
    go (below_ten h) = rw (digits_last most n h) (omega arith)
    go (from_ten h) = rw (digits_more most n h) (omega (arith, length-append (digits most (n / 10)) ((48 + n % 10) ∷ [])))

-- a number below a power of ten has no more digits than the power
pub digits_few : (places most n : ℕ) → n < 10 ^ suc places → length (digits most n) ≤ suc places
unfolding digits
digits_few places zero n h = omega arith
digits_few zero (suc most) n h = rw (digits_last most n h) (omega arith)
digits_few (suc places) (suc most) n h =
    go (ten n)
    (digits_few places most (n / 10) ((div-lt_iff_lt-mul {k = 10} {x = n} {y = 10 ^ suc places} (omega arith)).1 (rw (pow-suc 10 (suc places)) at h)))
  where
    go : Ten n → length (digits most (n / 10)) ≤ suc places → length (digits (suc most) n) ≤ suc (suc places)
    go (below_ten l) few = rw (digits_last most n l) (omega arith)
    go (from_ten l) few = rw (digits_more most n l) (omega (arith, length-append (digits most (n / 10)) ((48 + n % 10) ∷ [])))

-- the first byte of digits is none below zero
pub first_digit : (bs : List ℕ) → all_digits bs ≡ true → 1 ≤ length bs → 48 ≤ get_or bs 0 0
unfolding all_digits
first_digit [] p h = absurd (omega arith)
first_digit (b ∷ bs) p h = leb-true 48 b (both_first (leb 48 b) (leb b 57) (both_first (is_digit b) (all_digits bs) p))

-- and none past nine
pub first_digit_most : (bs : List ℕ) → all_digits bs ≡ true → get_or bs 0 0 ≤ 57
unfolding all_digits
first_digit_most [] p = omega arith
first_digit_most (b ∷ bs) p = leb-true b 57 (both_second (leb 48 b) (leb b 57) (both_first (is_digit b) (all_digits bs) p))

-- ---- a number of 64 bits
-- it is digits
pub natural_digits : (n : ℕ) → all_digits (natural n) ≡ true
natural_digits n = digits_are_digits 20 n

-- so a number has no comma, no minus and no line feed
pub natural_lacks : (c n : ℕ) → c < 48 → lacks c (natural n) ≡ true
natural_lacks c n h = digits_lack c (natural n) h (natural_digits n)

-- it says itself
pub natural_said : (n : ℕ) → n < 10 ^ 20 → said (natural n) ≡ n
natural_said n h = digits_said 20 0 n h ∙ omega arith

-- it is never empty
pub natural_some : (n : ℕ) → 1 ≤ length (natural n)
natural_some n = digits_some 19 n

-- a unit's number and a version have 5 digits at most
pub number_long : (n : ℕ) → n ≤ number_most → length (natural n) ≤ 5
number_long n h = digits_few 4 20 n (omega arith)

-- the whole part of a performance has 10 at most
pub whole_long : (n : ℕ) → n ≤ 1_229_782_938 → length (natural n) ≤ 10
whole_long n h = digits_few 9 20 n (omega arith)

-- ---- one list and another
-- a list is the same as itself
pub same_all : (xs : List ℕ) → same xs xs ≡ true
unfolding same
same_all [] = refl
same_all (x ∷ xs) = both (eq-eqb x x refl) (same_all xs)

-- and lists that are the same are equal
pub same_equal : (xs ys : List ℕ) → same xs ys ≡ true → xs ≡ ys
unfolding same
same_equal [] [] p = refl
same_equal [] (y ∷ ys) p = cc
same_equal (x ∷ xs) [] p = cc
same_equal (x ∷ xs) (y ∷ ys) p =
    let e : x ≡ y = eqb-true x y (both_first (eqb x y) (same xs ys) p) in
    let f : xs ≡ ys = same_equal xs ys (both_second (eqb x y) (same xs ys) p) in
    cc

-- ---- before and behind a comma
-- before the first comma stands a column that has none
pub before_first : (xs ys : List ℕ) → lacks 44 xs ≡ true → before_comma (xs then ys) ≡ xs
unfolding before_comma lacks text
before_first [] ys p = refl
before_first (x ∷ xs) ys p =
    let e : eqb x 44 ≡ false = not-true (eqb x 44) (both_first (not (eqb x 44)) (lacks 44 xs) p) in
    rw (before_comma, e) (ap (λ (l : List ℕ). x ∷ l) (before_first xs ys (both_second (not (eqb x 44)) (lacks 44 xs) p)))

-- and behind it, what follows the comma
pub behind_first : (xs ys : List ℕ) → lacks 44 xs ≡ true → behind_comma (xs then ys) ≡ ys
unfolding behind_comma lacks text
behind_first [] ys p = refl
behind_first (x ∷ xs) ys p =
    let e : eqb x 44 ≡ false = not-true (eqb x 44) (both_first (not (eqb x 44)) (lacks 44 xs) p) in
    rw (behind_comma, e) (behind_first xs ys (both_second (not (eqb x 44)) (lacks 44 xs) p))

-- bytes with something behind a comma are what stands before it, the comma, and what stands behind it
pub parted : (bs : List ℕ) → 1 ≤ length (behind_comma bs) → before_comma bs then behind_comma bs ≡ bs
unfolding before_comma behind_comma text
parted [] h = absurd (omega arith)
parted (b ∷ bs) h = go (eqb b 44) refl h (parted bs)
  where
    go : (t : Bool) → eqb b 44 ≡ t → 1 ≤ length (cond t bs (behind_comma bs)) →
        (1 ≤ length (behind_comma bs) → before_comma bs ++ (44 ∷ behind_comma bs) ≡ bs) →
        cond t [] (b ∷ before_comma bs) ++ (44 ∷ cond t bs (behind_comma bs)) ≡ b ∷ bs
    go true e l rest = let f : b ≡ 44 = eqb-true b 44 e in cc
    go false e l rest = ap (λ (k : List ℕ). b ∷ k) (rest l)
