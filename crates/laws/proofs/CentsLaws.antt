-- Laws of the cents: the pools are within T's limit; credits and debits are the pool; charges, with what is unplaced, are the cost.
use mathlib.Core.Path.{◌≡◌, refl, sym, ◌∙◌, ap}
use mathlib.Core.Bool.{Bool, true, false, not, cond, ◌&&◌}
use mathlib.Core.List.{List, [], ◌∷◌, map}
use mathlib.Core.Logic.{◌⊎◌, inl, inr}
use Prim.Native.Nat.{ℕ, zero, suc, ◌+◌, ◌*◌, ◌-◌, ◌≤◌, ◌<◌, min}
use native.Mathlib.Nat.{div-lt_iff_lt-mul, mul-le-mul, mul-le-mul_left}
use native.Mathlib.Omega.{arith}
use lib.Dec.{eqb}
use lib.IntN.{ℤ, pos, negsuc, neg_ℤ, ◌-ℤ◌, +ℤ_idl}
use lib.ListN.{length, length-map}
use borrow.Author.Tests.{leb-true}
use Rattle.integers.specs.Pairs.{gain, loss}
use Rattle.integers.proofs.Pairs.{gain_negation, loss_negation}
use Rattle.integers.specs.Sums.{sumℕ}
use Rattle.integers.specs.Nearest.{nearestℕ}
use Rattle.integers.proofs.Nearest.{nearestℕ_≤}
use Rattle.integers.specs.Totals.{totalℕ, numbered}
use Rattle.integers.proofs.Totals.{total_indexes, numbered_sum}
use Rattle.rules.specs.Quantities.{total_limit, price_limit}
use Rattle.rules.specs.Book.{Requirement, Book}
use Rattle.rules.specs.Members.{Member, members}
use Rattle.rules.specs.Share.{weight_at, share_of, unplaced_of}
use Rattle.laws.proofs.ShareLaws.{shared_in_all, shared_or_unplaced, no_weight_no_share, not_zero}
use Rattle.rules.specs.Factors.{helpful, unhelpful}
use Rattle.rules.specs.Rcr.{rcr, all_reliable}
use Rattle.laws.proofs.RcrLaws.{rcr_within}
use Rattle.rules.specs.Cents.{priced, any_weight, pool_of, used_pool_of, charge}
use Rattle.rules.specs.Answer.{Line, lines_of, answered, answer}
use Rattle.laws.proofs.Limits.{RequirementFits, BookFits}

-- ---- the pools are within the limit of T
pub priced_within : (price rcr : ℕ) → price ≤ price_limit → rcr ≤ 7_680_000_000 → priced price rcr ≤ 853_333_333_333
priced_within price rcr hp hr = nearestℕ_near (price * rcr) (omega (arith, mul-le-mul hp hr))
  where
    nearestℕ_near : (a : ℕ) → a ≤ 76_800_000_000_000_000 → nearestℕ a 90_000 ≤ 853_333_333_333
    nearestℕ_near a h =
        let l : nearestℕ a 90_000 < 853_333_333_334 = (div-lt_iff_lt-mul {k = 180_000} {x = 2 * a + 90_000} {y = 853_333_333_334} (omega arith)).1
        (omega arith) in
        omega arith

pub pool_within : (b : Book) (q : Requirement) → BookFits b → RequirementFits q → pool_of q (rcr b q) (members b q) ≤ total_limit
pool_within b q h f = go (any_weight (helpful (members b q)) && any_weight (unhelpful (members b q)))
  where
    go : (t : Bool) → cond t (priced q.price (rcr b q)) 0 ≤ total_limit
    go true = omega (arith, priced_within q.price (rcr b q) f.price (rcr_within b q h))
    go false = omega arith

-- used capped at enabled is at most the whole cost
pub used_pool_≤ : (q : Requirement) (reliable : Bool) → used_pool_of q reliable ≤ q.cost
used_pool_≤ q false = omega arith
used_pool_≤ q true = go (eqb q.enabled 0) refl
  where
    go : (t : Bool) → eqb q.enabled 0 ≡ t → cond (not t) (nearestℕ (q.cost * min q.used q.enabled) q.enabled) 0 ≤ q.cost
    go true e = omega arith
    go false e =
        let capped : min q.used q.enabled ≤ q.enabled = omega arith in
        nearestℕ_≤ (q.cost * min q.used q.enabled) q.enabled (not_zero q.enabled e) q.cost (omega (arith, mul-le-mul_left q.cost capped))

pub used_pool_within : (q : Requirement) (reliable : Bool) → RequirementFits q → used_pool_of q reliable ≤ total_limit
used_pool_within q reliable f = omega (arith, used_pool_≤ q reliable, f.cost)

-- ---- a share of a pool
-- a pool that is 0 where nothing weighs is shared in full
shared_in_full : (T : ℕ) (ws : List ℕ) → (T ≡ 0) ⊎ (any_weight ws ≡ true) → sumℕ (length ws) (share_of T ws) ≡ T
shared_in_full T ws (inl z) = omega (arith, shared_or_unplaced T ws)
shared_in_full T ws (inr s) = shared_in_all T ws (rw (total_indexes ws) (leb-true 1 _ s))

-- a member has one sign
one_sign : (ms : List Member) (i : ℕ) → (weight_at (helpful ms) i ≡ 0) ⊎ (weight_at (unhelpful ms) i ≡ 0)
one_sign [] i = inl refl
one_sign (m ∷ ms) zero = go m.payment
  where
    go : (z : ℤ) → (gain z ≡ 0) ⊎ (loss z ≡ 0)
    go (pos n) = inr refl
    go (negsuc n) = inl refl
one_sign (m ∷ ms) (suc i) = one_sign ms i

-- a difference of which one side is 0
pub credit_is : (x y : ℕ) → (x ≡ 0) ⊎ (y ≡ 0) → gain (pos x -ℤ pos y) ≡ x
credit_is x y (inl e) = rw (e, +ℤ_idl (neg_ℤ (pos y))) (gain_negation (pos y))
credit_is x y (inr e) = rw e (omega arith)

pub debit_is : (x y : ℕ) → (x ≡ 0) ⊎ (y ≡ 0) → loss (pos x -ℤ pos y) ≡ y
debit_is x y (inl e) = rw (e, +ℤ_idl (neg_ℤ (pos y))) (loss_negation (pos y))
debit_is x y (inr e) = rw e

pub one_share : (T : ℕ) (ms : List Member) (i : ℕ) → (share_of T (helpful ms) i ≡ 0) ⊎ (share_of T (unhelpful ms) i ≡ 0)
one_share T ms i = go (one_sign ms i)
  where
    go : (weight_at (helpful ms) i ≡ 0) ⊎ (weight_at (unhelpful ms) i ≡ 0) → (share_of T (helpful ms) i ≡ 0) ⊎ (share_of T (unhelpful ms) i ≡ 0)
    go (inl z) = inl (no_weight_no_share T (helpful ms) i z)
    go (inr z) = inr (no_weight_no_share T (unhelpful ms) i z)

-- the pool is 0 unless both signs have a member
pool_case : (s t : Bool) (p : ℕ) → (cond (s && t) p 0 ≡ 0) ⊎ ((s ≡ true) × (t ≡ true))
pool_case true true p = inr (refl, refl)
pool_case true false p = inl refl
pool_case false t p = inl refl

-- a sum over the weights of members is a sum over the members
over_members : (T : ℕ) (f : Member → ℕ) (ms : List Member) → sumℕ (length ms) (share_of T (map f ms)) ≡ sumℕ (length (map f ms)) (share_of T (map f ms))
over_members T f ms = ap (λ (n : ℕ). sumℕ n (share_of T (map f ms))) (sym (length-map ms f))

-- a field of the lines that charges a pool charges all of it but what is unplaced
charged : (T : ℕ) (f : Member → ℕ) (field : Line → ℤ) (line : ℕ → Member → Line) → (ms : List Member) →
    ((i : ℕ) (m : Member) → field (line i m) ≡ charge T (map f ms) i) → totalℕ (λ l. loss (field l)) (numbered line ms) + unplaced_of T (map f ms) ≡ T
charged T f field line ms e =
    ap (λ (z : ℕ). z + unplaced_of T (map f ms)) (numbered_sum (λ l. loss (field l)) line (share_of T (map f ms))
    (λ i m. ap loss (e i m) ∙ loss_negation (pos (share_of T (map f ms) i))) ms ∙ over_members T f ms)
    ∙ shared_or_unplaced T (map f ms)

-- ---- the cents meet
module _ (b : Book) (q : Requirement) where
  abbrev ms : List Member
  ms = members b q

  abbrev pool : ℕ
  pool = pool_of q (rcr b q) ms

  sides : (pool ≡ 0) ⊎ ((any_weight (helpful ms) ≡ true) × (any_weight (unhelpful ms) ≡ true))
  sides = pool_case (any_weight (helpful ms)) (any_weight (unhelpful ms)) (priced q.price (rcr b q))

  credits_full : sumℕ (length (helpful ms)) (share_of pool (helpful ms)) ≡ pool
  credits_full = go sides
    where
      go : (pool ≡ 0) ⊎ ((any_weight (helpful ms) ≡ true) × (any_weight (unhelpful ms) ≡ true)) → sumℕ (length (helpful ms)) (share_of pool (helpful ms)) ≡ pool
      go (inl z) = shared_in_full pool (helpful ms) (inl z)
      go (inr s) = shared_in_full pool (helpful ms) (inr s.0)

  debits_full : sumℕ (length (unhelpful ms)) (share_of pool (unhelpful ms)) ≡ pool
  debits_full = go sides
    where
      go : (pool ≡ 0) ⊎ ((any_weight (helpful ms) ≡ true) × (any_weight (unhelpful ms) ≡ true)) →
          sumℕ (length (unhelpful ms)) (share_of pool (unhelpful ms)) ≡ pool
      go (inl z) = shared_in_full pool (unhelpful ms) (inl z)
      go (inr s) = shared_in_full pool (unhelpful ms) (inr s.1)

  -- what is credited, and what is debited, is the pool
  pub credits_are_the_pool : totalℕ (λ l. gain l.payment) (answer b q).lines ≡ (answer b q).pool
  unfolding answer answered lines_of
  credits_are_the_pool =
      numbered_sum (λ l. gain l.payment) _ (share_of pool (helpful ms)) (λ i m. credit_is _ _ (one_share pool ms i)) ms
      ∙ over_members pool (λ m. gain m.payment) ms
      ∙ credits_full

  pub debits_are_the_pool : totalℕ (λ l. loss l.payment) (answer b q).lines ≡ (answer b q).pool
  unfolding answer answered lines_of
  debits_are_the_pool =
      numbered_sum (λ l. loss l.payment) _ (share_of pool (unhelpful ms)) (λ i m. debit_is _ _ (one_share pool ms i)) ms
      ∙ over_members pool (λ m. loss m.payment) ms
      ∙ debits_full

  -- the charges with what is unplaced are their pools
  pub used_charges : totalℕ (λ l. loss l.used) (answer b q).lines + (answer b q).unplaced_used ≡ (answer b q).used_pool
  unfolding answer answered lines_of
  used_charges = charged (used_pool_of q (all_reliable b q)) (λ m. loss m.used) (λ l. l.used) _ ms (λ i m. refl)

  pub unused_charges : totalℕ (λ l. loss l.unused) (answer b q).lines + (answer b q).unplaced_unused ≡ (answer b q).unused_pool
  unfolding answer answered lines_of
  unused_charges = charged (q.cost - used_pool_of q (all_reliable b q)) (λ m. loss m.unused) (λ l. l.unused) _ ms (λ i m. refl)

  -- and the two pools are the cost
  pub pools_are_the_cost : (answer b q).used_pool + (answer b q).unused_pool ≡ q.cost
  unfolding answer answered
  pools_are_the_cost = omega (arith, used_pool_≤ q (all_reliable b q))
