-- A larger deviation gives a larger point. In units of 2^-149, the smallest f32, a rounded quotient is within half of 2^136 of the exact one, because it lies
-- below 2^11 MW and keeps 24 digits; two deviations are 2^149 / 7,500 apart at least, which is more than 2^136.
use mathlib.Core.Path.{◌≡◌, refl, sym, ap, ◌∙◌}
use mathlib.Core.Bool.{Bool, true, false, not, ◌||◌, false≢true}
use mathlib.Core.Logic.{inl, inr}
use Prim.Native.Nat.{ℕ, suc, ◌+◌, ◌*◌, ◌/◌, ◌%◌, ◌^◌, ◌≤◌, ◌<◌, zero-le, compare, Ordering}
use native.Mathlib.Nat.{mul-pos, mul-le-mul_right, mul-lt-mul_of_pos_right, lt_of_mul-lt-mul_right, div-add-mod', mod-lt, div-lt_iff_lt-mul}
use native.Mathlib.Nat.{zero-lt-suc, lt_irrefl, lt_trans, lt_of_lt_of_le, lt_of_not-le, eq-or-lt_of_le}
use native.Mathlib.Omega.{arith}
use lib.Dec.{T, is_le, compare_is_eq, ltb, eqb, eqb_refl, leb-suc-suc, leb→le, nleb→lt, eqb→eq, lit<, lit≤}
use borrow.Author.Tests.{lt-ltb}
use lib.Pow.{pow_pos, pow_mono}
use lib.IntN.{ℤ, pos, negsuc, nat_abs}
use lib.Signed.{non_neg, lt_z, ◌≤ℤ◌, ≤ℤ_refl}
use lib.Ieee.{Float, nan, inf, fin, binary32, up, down, nearest, below, level, lt, le, is_nan}
use lib.Ieee.Fits.{round_is, down_pos, and_i}
use lib.Ieee.Digits.{size-le}
use lib.Ieee.Exact.{HasValue, units_val}
use lib.Ieee.Nearest.{closest}
use lib.Ieee.Order.{drop, kept}
use lib.Ieee.Scale.{grid, overflow, finite}
use lib.Ieee.Positive.{positive, positive_of_value}
use Rattle.integers.specs.Bounds.{Within}
use Rattle.integers.proofs.Bounds.{within_natural}
use Rattle.integers.proofs.Order.{≤ℤ-antisym}
use Rattle.integers.proofs.Tests.{ltZ_false, le_ltZ}
use Rattle.integers.proofs.Ranks.{ltb_iff}
use Rattle.rules.specs.Quantities.{deviation_limit}
use Rattle.rules.specs.Strip.{megawatts}
use Rattle.laws.proofs.StripValues.{quotient, zero_is}

-- ---- how far the rounded quotient is from the exact one
abbrev Near : ℕ → ℕ → ℕ → Type 0
Near m a b = (2 * m ≤ 2 * a + b) × (2 * a ≤ 2 * m + b)

-- the nearest multiple of b is within half of b
closest_near : (a b : ℕ) → 0 < b → Near (closest a b * b) a b
closest_near a b B =
    go (a / b) (a % b) (compare (a % b * 2) b) (div-add-mod' a b) (mod-lt a B) (leb→le (a % b * 2) b) (nleb→lt (a % b * 2) b) (eqb→eq (a % b * 2) b)
  where
    go : (q r : ℕ) (o : Ordering) → q * b + r ≡ a → r < b → (T (is_le o) → r * 2 ≤ b) → (T (not (is_le o)) → b < r * 2) → (T (compare_is_eq o) → r * 2 ≡ b) →
        Near (nearest q o * b) a b
    go q r Ordering.lt w l f g e = let h = f tt in (omega arith, omega arith)
    go q r Ordering.eq w l f g e =
        let h = e tt in
        let t : q % 2 * b ≤ 1 * b = mul-le-mul_right b (omega arith) in
        (omega arith, omega arith)
    go q r Ordering.gt w l f g e = let h = g tt in (omega arith, omega arith)

-- a quotient within the limit has 160 digits at most in units, and keeps 24
pub dropped : (n : ℕ) → n ≤ deviation_limit → drop 24 (n * 2 ^ 149) 7_500 ≤ 136
dropped n h = omega (arith, size-le (n * 2 ^ 149 / 7_500) 160 ((div-lt_iff_lt-mul (lit< tt)).1 (small (2 ^ 149) (pow_pos 149))))
  where
    small : (p : ℕ) → 0 < p → n * p < 2_048 * p * 7_500
    small p P = omega (arith, mul-le-mul_right p h)

-- the rounded quotient in units
abbrev drawn : ℕ → ℕ
drawn n = grid binary32 n 7_500

drawn_near : (n : ℕ) → n ≤ deviation_limit → Near (7_500 * drawn n) (n * 2 ^ 149) (7_500 * 2 ^ 136)
drawn_near n h =
    let k = drop 24 (n * 2 ^ 149) 7_500 in
    wider (n * 2 ^ 149) (2 ^ k) (2 ^ 136) (kept 24 (n * 2 ^ 149) 7_500) (pow_mono (dropped n h))
    (closest_near (n * 2 ^ 149) (7_500 * 2 ^ k) (mul-pos (lit< tt) (pow_pos k)))
  where
    wider : (a d p q : ℕ) → d ≤ p → Near (q * (7_500 * d)) a (7_500 * d) → Near (7_500 * (q * d)) a (7_500 * p)
    wider a d p q l c = (omega (arith, c.0), omega (arith, c.1))

-- two quotients are 2^149 / 7,500 apart at least, and two roundings take no more than 2^136 of that
drawn_rises : (a b : ℕ) → a < b → b ≤ deviation_limit → drawn a < drawn b
drawn_rises a b l h = apart (2 ^ 136) (drawn a) (drawn b) (pow_pos 136) (drawn_near a (omega arith)).0 (drawn_near b h).1
  where
    apart : (p A B : ℕ) → 0 < p → 2 * (7_500 * A) ≤ 2 * (a * (8_192 * p)) + 7_500 * p → 2 * (b * (8_192 * p)) ≤ 2 * (7_500 * B) + 7_500 * p → A < B
    apart p A B P x y = omega (arith, mul-le-mul_right p l)

-- a quotient within the limit is below 2,001 MW, and an f32 overflows at 2^128
drawn_small : (n : ℕ) → n ≤ deviation_limit → drawn n < overflow binary32
drawn_small n h = lt_of_lt_of_le (bound (2 ^ 136) (drawn n) (pow_pos 136) (drawn_near n h).0) (lit≤ {m = 2 ^ 149 * 2_001} tt)
  where
    bound : (p A : ℕ) → 0 < p → 2 * (7_500 * A) ≤ 2 * (n * (8_192 * p)) + 7_500 * p → A < 8_192 * p * 2_001
    bound p A P x = omega (arith, mul-le-mul_right p h)

-- ---- the point's value
point_value : {d : ℤ} → Within deviation_limit d → HasValue (megawatts d) (not (non_neg d)) (drawn (nat_abs d)) (2 ^ 149)
point_value {d} h =
    rw (quotient h, round_is binary32 (not (non_neg d)) (nat_abs d) 7_500)
    (units_val binary32 (not (non_neg d)) (kept 24 (nat_abs d * 2 ^ 149) 7_500) (drop 24 (nat_abs d * 2 ^ 149) 7_500) (drawn_small (nat_abs d) h.size))

-- ---- the order of two values with one denominator is that of their numerators, by sign
-- for x · c that is a · k, and y · c that is b · k
scaled_lt : (x y a b c k : ℕ) → 0 < c → x * c ≡ a * k → y * c ≡ b * k → x < y → a < b
scaled_lt x y a b c k C e f l = lt_of_mul-lt-mul_right k (omega (arith, mul-lt-mul_of_pos_right l C))

scaled_below : (s t : Bool) (x y a b c k : ℕ) → 0 < c → 0 < k → x * c ≡ a * k → y * c ≡ b * k → below s x t y ≡ below s a t b
scaled_below s t x y a b c k C K e f = go s t
  where
    same : (x y a b : ℕ) → x * c ≡ a * k → y * c ≡ b * k → ltb x y ≡ ltb a b
    same x y a b e f = ltb_iff x y a b (scaled_lt x y a b c k C e f) (scaled_lt a b x y k c K (sym e) (sym f))

    go : (s t : Bool) → below s x t y ≡ below s a t b
    go false false = same x y a b e f
    go false true = refl
    go true false = same 0 (x + y) 0 (a + b) (omega arith) (omega arith)
    go true true = same y x b a f e

lt_is : (x y : Float) (s t : Bool) (a b c : ℕ) → 0 < c → HasValue x s a c → HasValue y t b c → lt x y ≡ below s a t b
unfolding lt
lt_is nan y s t a b c C v w = elim v [ ]
lt_is (inf _) y s t a b c C v w = elim v [ ]
lt_is (fin s' m e) nan s t a b c C v w = elim w [ ]
lt_is (fin s' m e) (inf _) s t a b c C v w = elim w [ ]
lt_is (fin s' m e) (fin t' n d) s t a b c C v w =
    rw (v.0, w.0)
    (scaled_below s t (m * up e * down d) (n * up d * down e) a b c (down e * down d) C (mul-pos (down_pos e) (down_pos d))
    (omega (arith, ap (λ (z : ℕ). z * down d) v.1)) (omega (arith, ap (λ (z : ℕ). z * down e) w.1)))

-- ---- the order of the points
drawn_order : (a b : ℕ) → a ≤ deviation_limit → b ≤ deviation_limit → ltb (drawn a) (drawn b) ≡ ltb a b
drawn_order a b h k = ltb_iff (drawn a) (drawn b) a b back (λ l. drawn_rises a b l k)
  where
    back : drawn a < drawn b → a < b
    back l =
        lt_of_not-le (λ (g : b ≤ a).
        elim (eq-or-lt_of_le g) [ inl e ↦ lt_irrefl (drawn a) (rw e at l) | inr m ↦ lt_irrefl (drawn a) (lt_trans l (drawn_rises b a m h)) ])

below_order : (a b : ℤ) → Within deviation_limit a → Within deviation_limit b →
    below (not (non_neg a)) (drawn (nat_abs a)) (not (non_neg b)) (drawn (nat_abs b)) ≡ lt_z a b
below_order (pos a) (pos b) h k = drawn_order a b h.size k.size
below_order (pos a) (negsuc b) h k = refl
below_order (negsuc a) (pos b) h k = lt-ltb 0 (drawn (suc a) + drawn b) (omega (arith, drawn_rises 0 (suc a) (zero-lt-suc a) h.size))
below_order (negsuc a) (negsuc b) h k = drawn_order (suc b) (suc a) k.size h.size ∙ leb-suc-suc (suc b) a

-- of two deviations the larger has the larger point, and no other
pub points_in_order : {a b : ℤ} → Within deviation_limit a → Within deviation_limit b → lt (megawatts a) (megawatts b) ≡ lt_z a b
points_in_order {a} {b} h k =
    lt_is (megawatts a) (megawatts b) (not (non_neg a)) (not (non_neg b)) (drawn (nat_abs a)) (drawn (nat_abs b)) (2 ^ 149) (pow_pos 149)
    (point_value h) (point_value k)
    ∙ below_order a b h k

-- ---- what a point never is: infinite, not a number, or minus zero
pub record Plain (x : Float) : Type 0 where
  pub is_finite : T (finite x)
  pub no_nan : is_nan x ≡ false
  pub no_minus_zero : (e : ℤ) → x ≡ fin true 0 e → ⊥

plain_value : (x : Float) (s : Bool) (a c : ℕ) → HasValue x s a c → (s ≡ true → 0 < a) → Plain x
unfolding is_nan
plain_value nan s a c v h = elim v [ ]
plain_value (inf _) s a c v h = elim v [ ]
plain_value (fin t m e) s a c v h = record { is_finite = tt; no_nan = refl; no_minus_zero = never }
  where
    never : (e' : ℤ) → fin t m e ≡ fin true 0 e' → ⊥
    never e' q =
        let z : m ≡ 0 = cc in
        let n : s ≡ true = cc v.0 in
        let w : 0 * up e * c ≡ a * down e = rw z at v.1 in
        omega (arith, mul-pos (h n) (down_pos e))

-- it is a rounded quotient within the limit, and one below zero is not rounded to zero
pub plain_point : {d : ℤ} → Within deviation_limit d → Plain (megawatts d)
plain_point {d} h = plain_value (megawatts d) (not (non_neg d)) (drawn (nat_abs d)) (2 ^ 149) (point_value h) (below_zero d h)
  where
    below_zero : (d : ℤ) → Within deviation_limit d → not (non_neg d) ≡ true → 0 < drawn (nat_abs d)
    below_zero (pos n) h e = absurd (false≢true e)
    below_zero (negsuc n) h e = omega (arith, drawn_rises 0 (suc n) (zero-lt-suc n) h.size)

-- a deviation above zero is not rounded to zero
pub point_positive : {n : ℕ} → 0 < n → n ≤ deviation_limit → T (positive (megawatts (pos n)))
point_positive {n} l h = positive_of_value (megawatts (pos n)) (drawn n) (2 ^ 149) (point_value (within_natural h)) (omega (arith, drawn_rises 0 n l h))

-- a point is above zero where the deviation is
pub point_above : {d : ℤ} → Within deviation_limit d → lt (fin false 0 (pos 0)) (megawatts d) ≡ lt_z (pos 0) d
point_above {d} h = rw zero_is at (points_in_order {a = pos 0} (within_natural zero-le) h)

-- and below zero where the deviation is
pub point_below : {d : ℤ} → Within deviation_limit d → lt (megawatts d) (fin false 0 (pos 0)) ≡ lt_z d (pos 0)
point_below {d} h = rw zero_is at (points_in_order {b = pos 0} h (within_natural zero-le))

-- a finite value is no larger than itself
le_self : (x : Float) → T (finite x) → T (le x x)
unfolding le
le_self nan t = elim t [ ]
le_self (inf _) t = elim t [ ]
le_self (fin s m e) t = go s (m * up e * down e)
  where
    or_right : (a b : Bool) → T b → T (a || b)
    or_right true b h = tt
    or_right false b h = h

    go : (s : Bool) (x : ℕ) → T (below s x s x || level s x s x)
    go s x = or_right (below s x s x) (level s x s x) (both s)
      where
        both : (s : Bool) → T (level s x s x)
        both true = and_i (eqb x x) true (eqb_refl x) tt
        both false = and_i (eqb x x) true (eqb_refl x) tt

-- a deviation that is no larger has a point that is no larger
pub points_keep_order : {a b : ℤ} → Within deviation_limit a → Within deviation_limit b → a ≤ℤ b → T (le (megawatts a) (megawatts b))
points_keep_order {a} {b} h k l = go (lt_z a b) refl
  where
    go : (t : Bool) → lt_z a b ≡ t → T (le (megawatts a) (megawatts b))
    go true e = unfold le in rw (points_in_order h k, e) tt
    go false e = rw (← ≤ℤ-antisym l (ltZ_false e)) (le_self (megawatts a) (plain_point h).is_finite)

-- different deviations have different points: the strip can be read back
pub megawatts_injective : {a b : ℤ} → Within deviation_limit a → Within deviation_limit b → megawatts a ≡ megawatts b → a ≡ b
megawatts_injective {a} {b} h k e =
    let level : lt_z a a ≡ false = le_ltZ (≤ℤ_refl a) in
    ≤ℤ-antisym (ltZ_false (cc (points_in_order h h, points_in_order k h))) (ltZ_false (cc (points_in_order h h, points_in_order h k)))
