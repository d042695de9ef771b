-- Laws of what the reader's loops walk over: the number that bytes say never falls, and a column ends before its comma.
use mathlib.Core.Path.{◌≡◌, refl, sym, ◌∙◌, ap}
use mathlib.Core.Bool.{Bool, true, false, ◌&&◌, cond}
use mathlib.Core.List.{List, [], ◌∷◌}
use Prim.Native.Nat.{ℕ, zero, suc, ◌+◌, ◌*◌, ◌-◌, ◌^◌, ◌≤◌, ◌<◌}
use native.Mathlib.Omega.{arith}
use native.Mathlib.Nat.{pow-suc, pow-le-pow_right}
use native.Mathlib.Numerals.{add-one}
use borrow.Author.Tests.{le-leb, lt-leb, leb-true, eq-eqb, ne_eqb}
use lib.Dec.{leb, eqb}
use lib.ListN.{length, get_or, take, drop, drop_of_length-le}
use lib.Seq.{drop-cons}
use Rattle.rules.specs.ReportRead.{before_comma, behind_comma, is_digit, with_digit, said_from, said, billionths_most}
use Rattle.report_row.specs.Reading.{limited, SaidFirst, ColumnAt}

-- what stands from a place on: the byte there, and what stands behind it
pub drop_next : (bs : List ℕ) (i : ℕ) → i < length bs → drop i bs ≡ get_or bs i 0 ∷ drop (i + 1) bs
drop_next bs i h = rw (add-one, drop-cons bs i 0)

-- a byte behind the end
pub get_d_past : (bs : List ℕ) (i : ℕ) → length bs ≤ i → get_or bs i 0 ≡ 0
get_d_past [] i h = refl
get_d_past (b ∷ bs) zero h = absurd (omega arith)
get_d_past (b ∷ bs) (suc i) h = get_d_past bs i (omega arith)

-- ---- the number that is said
-- a byte that is no digit says nothing
pub below_digits : (n b : ℕ) → b < 48 → with_digit n b ≡ n
below_digits n b h = rw (lt-leb 48 b h)

-- nor does one past nine
pub above_digits : (n b : ℕ) → 57 < b → with_digit n b ≡ n
above_digits n b h = rw (le-leb 48 b (omega arith), lt-leb b 57 h)

-- a digit does
pub a_digit : (n b : ℕ) → 48 ≤ b → b ≤ 57 → with_digit n b ≡ 10 * n + (b - 48)
a_digit n b h l = rw (le-leb 48 b h, le-leb b 57 l)

-- what is said is no less than before
digit_grows : (n b : ℕ) → n ≤ with_digit n b
digit_grows n b = go (is_digit b)
  where
    go : (t : Bool) → n ≤ cond t (10 * n + (b - 48)) n
    go true = omega arith
    go false = omega arith

-- IT NEVER FALLS
pub said_grows : (n : ℕ) (bs : List ℕ) → n ≤ said_from n bs
unfolding said_from
said_grows n [] = omega arith
said_grows n (b ∷ bs) = omega (arith, digit_grows n b, said_grows (with_digit n b) bs)

-- one byte more
pub said_next : (n : ℕ) (bs : List ℕ) (i : ℕ) → i < length bs → said_from n (drop i bs) ≡ said_from (with_digit n (get_or bs i 0)) (drop (i + 1) bs)
unfolding said_from
said_next n bs i h = ap (said_from n) (drop_next bs i h)

-- and none
pub said_end : (n : ℕ) (bs : List ℕ) (i : ℕ) → length bs ≤ i → said_from n (drop i bs) ≡ n
unfolding said_from
said_end n bs i h = ap (said_from n) (drop_of_length-le bs h)

-- ---- up to the most that is asked for
-- no more than the most
pub limited_at : (most n : ℕ) → n ≤ most → limited most n ≡ n
limited_at most n h = rw (le-leb n most h)

-- more than the most
pub limited_over : (most n : ℕ) → most < n → limited most n ≡ most + 1
limited_over most n h = rw (lt-leb n most h)

-- where it is no more than the most, it is the number
pub limited_is : (most n r : ℕ) → r ≡ limited most n → r ≤ most → n ≡ r
limited_is most n r e h = go (leb n most) e
  where
    go : (t : Bool) → r ≡ cond t n (most + 1) → n ≡ r
    go true f = sym f
    go false f = absurd (omega arith)

-- where it is more, so is the number
pub limited_more : (most n r : ℕ) → r ≡ limited most n → most < r → leb n most ≡ false
limited_more most n r e h = go (leb n most) refl
  where
    go : (t : Bool) → leb n most ≡ t → leb n most ≡ false
    go true p = absurd (omega (arith, e ∙ ap (λ (t : Bool). cond t n (most + 1)) p, leb-true n most p))
    go false p = p

-- the bytes before a place said the number so far, and that is no more than the most
pub record SaidTo (most : ℕ) (bytes : List ℕ) (number i : ℕ) : Type 0 where
  pub inside : i ≤ length bytes
  pub within : number ≤ most
  pub is : said_from number (drop i bytes) ≡ said bytes

-- before any byte
pub said_none : (most : ℕ) (bytes : List ℕ) → SaidTo most bytes 0 0
said_none most bytes = record { inside = omega arith; within = omega arith; is = refl }

module _ {most : ℕ} {bytes : List ℕ} {number i : ℕ} (s : SaidTo most bytes number i) where
  -- a byte more
  pub said_one : (r : ℕ) → i < length bytes → r ≡ with_digit number (get_or bytes i 0) → r ≤ most → SaidTo most bytes r (i + 1)
  said_one r h e l = record { inside = omega arith; within = l; is = rw e (sym (said_next number bytes i h) ∙ s.is) }

  -- it never falls, so it stays above the most
  pub said_over : (r : ℕ) → i < length bytes → r ≡ with_digit number (get_or bytes i 0) → most < r → limited most (said bytes) ≡ most + 1
  said_over r h e l =
      let all : said_from r (drop (i + 1) bytes) ≡ said bytes = rw e (sym (said_next number bytes i h) ∙ s.is) in
      limited_over most (said bytes) (omega (arith, said_grows r (drop (i + 1) bytes)))

  -- after the last byte
  pub said_all : length bytes ≤ i → limited most (said bytes) ≡ number
  said_all h =
      let e : said bytes ≡ number = sym s.is ∙ said_end number bytes i h in
      limited_at most (said bytes) (omega (arith, s.within)) ∙ e

-- ---- the first few bytes
-- a byte makes no more than one digit more
digit_small : (n b : ℕ) → with_digit n b ≤ 10 * n + 9
digit_small n b = go (leb 48 b) (leb b 57) refl
  where
    go : (s t : Bool) → leb b 57 ≡ t → cond (s && t) (10 * n + (b - 48)) n ≤ 10 * n + 9
    go true true e = omega (arith, leb-true b 57 e)
    go true false e = omega arith
    go false t e = omega arith

-- the bytes before a place said the number so far, which has no more digits than they are
pub record FewTo (bytes : List ℕ) (number i : ℕ) : Type 0 where
  pub below : number < 10 ^ i
  pub is : said_from number (drop i bytes) ≡ said bytes

pub few_none : (bytes : List ℕ) → FewTo bytes 0 0
few_none bytes = record { below = omega arith; is = refl }

module _ {bytes : List ℕ} {number i : ℕ} (s : FewTo bytes number i) where
  pub few_one : (r : ℕ) → i < length bytes → r ≡ with_digit number (get_or bytes i 0) → FewTo bytes r (i + 1)
  few_one r h e =
      let ten : 10 ^ (i + 1) ≡ 10 ^ i * 10 = rw (add-one i) (pow-suc 10 i) in
      record {
        below = omega (arith, e, digit_small number (get_or bytes i 0), s.below, ten);
        is = rw e (sym (said_next number bytes i h) ∙ s.is);
      }

  -- of eighteen digits it can have one more
  pub few_small : i ≤ 18 → number ≤ billionths_most
  few_small h =
      let most : 10 ^ i ≤ 10 ^ 18 = pow-le-pow_right {n = 10} (omega arith) h in
      omega (arith, s.below, most)

-- what is said is more, if its first few bytes say more
pub few_over : {most : ℕ} {bytes : List ℕ} {number i : ℕ} → SaidFirst bytes i number → most < number → limited most (said bytes) ≡ most + 1
few_over {most} {bytes} {number} {i} s h =
    limited_over most (said bytes) (omega (arith, h, s.is, said_grows number (drop i bytes)))

-- ---- a column
-- as many bytes as stand before the comma are those
before_taken : (bs : List ℕ) → take (length (before_comma bs)) bs ≡ before_comma bs
unfolding before_comma
before_taken [] = refl
before_taken (b ∷ bs) = go (eqb b 44) (before_taken bs)
  where
    go : (t : Bool) → take (length (before_comma bs)) bs ≡ before_comma bs →
        take (length {A = ℕ} (cond t [] (b ∷ before_comma bs))) (b ∷ bs) ≡ cond t [] (b ∷ before_comma bs)
    go true e = refl
    go false e = ap (λ (l : List ℕ). b ∷ l) e

-- the column is passed so far
pub record Passed (row : List ℕ) (from end : ℕ) : Type 0 where
  pub ahead : from ≤ end
  pub inside : end ≤ length row
  pub place : end + length (before_comma (drop end row)) ≡ from + length (before_comma (drop from row))
  pub behind : behind_comma (drop end row) ≡ behind_comma (drop from row)

-- before any byte
pub none_passed : (row : List ℕ) (from : ℕ) → from ≤ length row → Passed row from from
none_passed row from h = record { ahead = omega arith; inside = h; place = refl; behind = refl }

module _ (row : List ℕ) (from end : ℕ) (p : Passed row from end) where
  -- where nothing of it is left, it ends there
  ends_here : (next : ℕ) → before_comma (drop end row) ≡ [] → next ≤ length row → drop next row ≡ behind_comma (drop end row) → ColumnAt row from end next
  ends_here next e h f =
      let long : end - from ≡ length (before_comma (drop from row)) = omega (arith, p.place, ap length e, p.ahead) in
      record {
        ahead = p.ahead;
        inside = p.inside;
        is = rw long (before_taken (drop from row));
        behind = record { inside = h; is = f ∙ p.behind };
      }

  -- a byte that is no comma
  pub one_passed : end < length row → (get_or row end 0 ≡ 44 → ⊥) → Passed row from (end + 1)
  unfolding before_comma behind_comma
  one_passed h l =
      let d = drop_next row end h in
      let e : eqb (get_or row end 0) 44 ≡ false = ne_eqb (get_or row end 0) 44 l in
      let b : before_comma (drop end row) ≡ get_or row end 0 ∷ before_comma (drop (end + 1) row) = rw (d, before_comma, e) in
      let f : behind_comma (drop end row) ≡ behind_comma (drop (end + 1) row) = rw (d, behind_comma, e) in
      record {
        ahead = omega (arith, p.ahead);
        inside = omega arith;
        place = omega (arith, p.place, ap length b);
        behind = sym f ∙ p.behind;
      }

  -- a comma
  pub at_comma : end < length row → get_or row end 0 ≡ 44 → ColumnAt row from end (end + 1)
  unfolding before_comma behind_comma
  at_comma h l =
      let d = drop_next row end h in
      let e : eqb (get_or row end 0) 44 ≡ true = eq-eqb (get_or row end 0) 44 l in
      ends_here (end + 1) (rw (d, before_comma, e)) (omega arith) (rw (d, behind_comma, e))

  -- the row's end
  pub at_end : length row ≤ end → ColumnAt row from end end
  unfolding before_comma behind_comma
  at_end h =
      let d : drop end row ≡ [] = drop_of_length-le row h in
      ends_here end (rw d) p.inside (rw d)
