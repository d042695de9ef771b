-- Laws of phrases: which numbers have which, that each is at most a line long, and that just the numbers that no refusal has are unknown.
use mathlib.Core.Path.{◌≡◌, refl}
use mathlib.Core.Bool.{Bool, true, false, cond, ◌&&◌}
use mathlib.Core.List.{List}
use Prim.Native.Nat.{ℕ, ◌≤◌, ◌<◌}
use native.Mathlib.Omega.{arith}
use borrow.Author.Tests.{ne_eqb, le-leb, lt-leb}
use lib.Dec.{eqb, leb, lit≤}
use lib.ListN.{length}
use Rattle.rules.specs.Text.{text}
use Rattle.rules.specs.Phrases.{phrase, unknown, between}

-- a phrase by what holds of the number, one after the other
abbrev chosen : Bool → Bool → Bool → Bool → Bool → Bool → Bool → Bool → Bool → Bool → Bool → Bool → Bool → Bool → Bool → Bool → Bool → List ℕ
chosen a b c d e f g h i j k l m n o p q =
    cond a (text "ends too early")
    (cond b (text "not an interval book")
    (cond c (text "wrong contents table")
    (cond d (text "bytes after the end")
    (cond e (text "count out of limits")
    (cond f (text "wrong settings")
    (cond g (text "unit out of order")
    (cond h (text "wrong requirement")
    (cond i (text "call out of turn")
    (cond j (text "buffer too short")
    (cond k (text "default too low")
    (cond l (text "year past 9999")
    (cond m (text "wrong group")
    (cond n (text "week out of limits")
    (cond o (text "wrong report row")
    (cond p (text "wrong frequency data")
    (cond q (text "wrong unit data")
    unknown))))))))))))))))

chosen_short : (a b c d e f g h i j k l m n o p q : Bool) → length (chosen a b c d e f g h i j k l m n o p q) ≤ 20
unfolding text
chosen_short true b c d e f g h i j k l m n o p q = lit≤ tt
chosen_short false true c d e f g h i j k l m n o p q = lit≤ tt
chosen_short false false true d e f g h i j k l m n o p q = lit≤ tt
chosen_short false false false true e f g h i j k l m n o p q = lit≤ tt
chosen_short false false false false true f g h i j k l m n o p q = lit≤ tt
chosen_short false false false false false true g h i j k l m n o p q = lit≤ tt
chosen_short false false false false false false true h i j k l m n o p q = lit≤ tt
chosen_short false false false false false false false true i j k l m n o p q = lit≤ tt
chosen_short false false false false false false false false true j k l m n o p q = lit≤ tt
chosen_short false false false false false false false false false true k l m n o p q = lit≤ tt
chosen_short false false false false false false false false false false true l m n o p q = lit≤ tt
chosen_short false false false false false false false false false false false true m n o p q = lit≤ tt
chosen_short false false false false false false false false false false false false true n o p q = lit≤ tt
chosen_short false false false false false false false false false false false false false true o p q = lit≤ tt
chosen_short false false false false false false false false false false false false false false true p q = lit≤ tt
chosen_short false false false false false false false false false false false false false false false true q = lit≤ tt
chosen_short false false false false false false false false false false false false false false false false true = lit≤ tt
chosen_short false false false false false false false false false false false false false false false false false = lit≤ tt

pub phrase_short : (n : ℕ) → length (phrase n) ≤ 20
unfolding phrase
phrase_short n =
    chosen_short (eqb n 1) (eqb n 2) (eqb n 3) (eqb n 4) (eqb n 5) (eqb n 6) (eqb n 9) (eqb n 10) (eqb n 11) (eqb n 12) (eqb n 14) (eqb n 15)
    (eqb n 16) (eqb n 17) (eqb n 18) (between 71 74 n) (between 81 84 n)

-- ---- which number has which
other : (n k : ℕ) → (n ≡ k → ⊥) → eqb n k ≡ false
other n k h = ne_eqb n k h

inside : (first last n : ℕ) → first ≤ n → n ≤ last → between first last n ≡ true
inside first last n h k = rw (le-leb first n h, le-leb n last k)

pub below_range : (first last n : ℕ) → n < first → between first last n ≡ false
below_range first last n h = rw (lt-leb first n h)

pub above_range : (first last n : ℕ) → last < n → between first last n ≡ false
above_range first last n h = go (leb first n)
  where
    go : (t : Bool) → t && leb n last ≡ false
    go true = lt-leb n last h
    go false = refl

pub phrase_frequency : (n : ℕ) → 71 ≤ n → n ≤ 74 → phrase n ≡ text "wrong frequency data"
unfolding phrase
phrase_frequency n h k =
    rw (
      other n 1 (λ e. omega arith),
      other n 2 (λ e. omega arith),
      other n 3 (λ e. omega arith),
      other n 4 (λ e. omega arith),
      other n 5 (λ e. omega arith),
      other n 6 (λ e. omega arith),
      other n 9 (λ e. omega arith),
      other n 10 (λ e. omega arith),
      other n 11 (λ e. omega arith),
      other n 12 (λ e. omega arith),
      other n 14 (λ e. omega arith),
      other n 15 (λ e. omega arith),
      other n 16 (λ e. omega arith),
      other n 17 (λ e. omega arith),
      other n 18 (λ e. omega arith),
      inside 71 74 n h k,
    )

pub phrase_unit : (n : ℕ) → 81 ≤ n → n ≤ 84 → phrase n ≡ text "wrong unit data"
unfolding phrase
phrase_unit n h k =
    rw (
      other n 1 (λ e. omega arith),
      other n 2 (λ e. omega arith),
      other n 3 (λ e. omega arith),
      other n 4 (λ e. omega arith),
      other n 5 (λ e. omega arith),
      other n 6 (λ e. omega arith),
      other n 9 (λ e. omega arith),
      other n 10 (λ e. omega arith),
      other n 11 (λ e. omega arith),
      other n 12 (λ e. omega arith),
      other n 14 (λ e. omega arith),
      other n 15 (λ e. omega arith),
      other n 16 (λ e. omega arith),
      other n 17 (λ e. omega arith),
      other n 18 (λ e. omega arith),
      above_range 71 74 n (omega arith),
      inside 81 84 n h k,
    )

-- none of the single numbers
pub record NoSingle (n : ℕ) : Type 0 where
  pub not_one : n ≡ 1 → ⊥
  pub not_two : n ≡ 2 → ⊥
  pub not_three : n ≡ 3 → ⊥
  pub not_four : n ≡ 4 → ⊥
  pub not_five : n ≡ 5 → ⊥
  pub not_six : n ≡ 6 → ⊥
  pub not_nine : n ≡ 9 → ⊥
  pub not_ten : n ≡ 10 → ⊥
  pub not_eleven : n ≡ 11 → ⊥
  pub not_twelve : n ≡ 12 → ⊥
  pub not_fourteen : n ≡ 14 → ⊥
  pub not_fifteen : n ≡ 15 → ⊥
  pub not_sixteen : n ≡ 16 → ⊥
  pub not_seventeen : n ≡ 17 → ⊥
  pub not_eighteen : n ≡ 18 → ⊥

pub phrase_unknown : (n : ℕ) → NoSingle n → between 71 74 n ≡ false → between 81 84 n ≡ false → phrase n ≡ unknown
unfolding phrase
phrase_unknown n s f u =
    rw (
      other n 1 s.not_one,
      other n 2 s.not_two,
      other n 3 s.not_three,
      other n 4 s.not_four,
      other n 5 s.not_five,
      other n 6 s.not_six,
      other n 9 s.not_nine,
      other n 10 s.not_ten,
      other n 11 s.not_eleven,
      other n 12 s.not_twelve,
      other n 14 s.not_fourteen,
      other n 15 s.not_fifteen,
      other n 16 s.not_sixteen,
      other n 17 s.not_seventeen,
      other n 18 s.not_eighteen,
      f,
      u,
    )
