-- Laws of the definitions in specs/Signs.antt.
use Rattle.std.proofs.Common.{◌≡◌, ℕ, ◌<◌, ◌≤◌, Bool, true, false, cond, ltb, List, map, length, get_or, ℤ, pos, negsuc, ◌-ℤ◌, neg_ℤ, sym, refl, ap, ◌∙◌, ap₂, arith, ltb-false, ltb-true, Option, Result, Err}
use lib.IntN.{+ℤ_idl, +ℤ_idr}
use lib.ListN.{length-map, get_or-map}
use Rattle.integers.specs.Pairs.{gain, loss}
use Rattle.integers.proofs.Pairs.{le_out}
use Rattle.integers.specs.Fills.{filled}
use Rattle.integers.proofs.Fills.{filled_at, filled_again, filled_ext, filled_same}
use Rattle.integers.proofs.Sums.{sumℕ_term}
use Rattle.rules.specs.declared.Refusal.{Refusal}
use Rattle.rules.specs.Refusals.{Reply, taken, refused}
use Rattle.laws.proofs.ShareLaws.{no_weight_no_share}
use Rattle.rules.specs.Share.{weight_at, share_of, share_reply}
use Rattle.share.specs.declared.weights.Source.{Source}
use Rattle.share.specs.declared.weights.Source.TheVariants.{Helpful, Unhelpful}
use Rattle.share.specs.Weighing.{signed, sum_of}
use Rattle.share.specs.Column.{shared_at, Clear}
use Rattle.share.proofs.Column.{clear_column, all_placed}
use Rattle.share.specs.Promises.{where_taken, tested}
use Rattle.share.proofs.Promises.{found, tests_tell}
use Rattle.share.specs.Signs.{SidePlaced, SignsOut, answered_signs, signs_at, unplaced_or}

pub share_signs_only : (T : ℕ) (ps old : List ℤ) {r r' : Result (ℕ × ℕ) Refusal} {new new' : List ℤ} → SignsOut T ps old r new → SignsOut T ps old r' new' →
    (r ≡ r') × (new ≡ new')
share_signs_only T ps old a b = (a.reply ∙ sym b.reply, a.amounts ∙ sym b.amounts)

-- without weight everything stays
pub all_stay : (source : Source) (T : ℕ) (xs : List ℕ) (old : List ℤ) → sum_of xs ≡ 0 → old ≡ filled (length xs) (shared_at source T xs old) old
all_stay source T xs old e =
    sym (filled_same (length xs) (pos 0) old) ∙ filled_ext (length xs) _ _ old (λ i l. go i l (ltb 0 (weight_at xs i)) refl)
  where
    none : (i : ℕ) → i < length xs → weight_at xs i ≡ 0
    none i l = omega (arith, sumℕ_term (length xs) (weight_at xs) i l)

    go : (i : ℕ) → i < length xs → (t : Bool) → ltb 0 (weight_at xs i) ≡ t → get_or old i (pos 0) ≡ cond t (signed source (share_of T xs i)) (get_or old i (pos 0))
    go i l true f = absurd (omega (arith, none i l, ltb-true 0 (weight_at xs i) f))
    go i l false f = refl

-- how a side's promise is met: by what the tests found
pub side_met : (source : Source) (T : ℕ) (xs : List ℕ) (old : List ℤ) {r : ℕ} {new : List ℤ} (t : Result (Option ℕ) Refusal) → t ≡ tested T xs (length old) →
    r ≡ unplaced_or (found T t) T → new ≡ where_taken (found T t) (filled (length xs) (shared_at source T xs old) old) old → SidePlaced source T xs old r new
side_met source T xs old t e f g =
    let same : found T t ≡ share_reply T xs (length old) = ap (found T) e ∙ sym (tests_tell T xs (length old)) in
    record {
      unplaced = f ∙ ap (λ (y : Reply ℕ). unplaced_or y T) same;
      amounts = g ∙ ap (λ (y : Reply ℕ). where_taken y (filled (length xs) (shared_at source T xs old) old) old) same;
    }

-- what a side that is taken has left
pub side_taken : {source : Source} {T : ℕ} {xs : List ℕ} {old new : List ℤ} {r u : ℕ} → SidePlaced source T xs old r new →
    share_reply T xs (length old) ≡ taken u → (r ≡ u) × (new ≡ filled (length xs) (shared_at source T xs old) old)
side_taken {source} {T} {xs} {old} s e = (
  s.unplaced ∙ ap (λ (y : Reply ℕ). unplaced_or y T) e,
  s.amounts ∙ ap
      (λ (y : Reply ℕ). where_taken y (filled (length xs) (shared_at source T xs old) old) old) e,
)

-- ---- how the promise for both signs is met
module _ (T : ℕ) (ps old : List ℤ) where
  abbrev credit_reply : Reply ℕ
  credit_reply = share_reply T (map gain ps) (length old)

  abbrev debit_reply : Reply ℕ
  debit_reply = share_reply T (map loss ps) (length old)

  pub first_refused : {f : Refusal} → credit_reply ≡ refused f → SignsOut T ps old (Err f) old
  first_refused e =
      record {
        reply = sym (ap (λ (y : Reply ℕ). answered_signs y debit_reply) e);
        amounts = sym (ap (λ (y : Reply ℕ). where_taken y (where_taken debit_reply (filled (length ps) (signs_at T ps) old) old) old) e);
      }

  pub both_answered : {u : ℕ} (y : Reply ℕ) {r : Result (ℕ × ℕ) Refusal} {new : List ℤ} → credit_reply ≡ taken u → debit_reply ≡ y → r ≡ answered_signs (taken u) y →
      new ≡ where_taken y (filled (length ps) (signs_at T ps) old) old → SignsOut T ps old r new
  both_answered y e f g h =
      record {
        reply = g ∙ sym (ap₂ answered_signs e f);
        amounts = h ∙ sym (ap₂ (λ (a b : Reply ℕ). where_taken a (where_taken b (filled (length ps) (signs_at T ps) old) old) old) e f);
      }

one_sign : (z : ℤ) → 0 < loss z → gain z ≡ 0
one_sign (pos n) h = absurd (omega arith)
one_sign (negsuc n) h = refl

-- ---- the two sides, one after the other
module _ (T : ℕ) (ps old : List ℤ) (long : length ps ≤ length old) where
  abbrev pub credits : ℕ → ℤ
  credits i = pos (share_of T (map gain ps) i)

  -- the column that the positive side is placed in, and the one that it leaves
  pub first_clear : (column : List ℤ) → column ≡ filled (length ps) (λ i. pos 0) old → Clear column (length (map gain ps))
  first_clear column e =
      rw (e, ← length-map ps gain) (clear_column Helpful T (map gain ps) old (omega (arith, length-map ps gain)))

  pub first_placed : (column : List ℤ) → column ≡ filled (length ps) (λ i. pos 0) old →
      filled (length (map gain ps)) (shared_at Helpful T (map gain ps) column) column ≡ filled (length ps) credits old
  first_placed column e =
      ap (λ (z : List ℤ). filled (length (map gain ps)) (shared_at Helpful T (map gain ps) z) z)
      (e ∙ ap (λ (m : ℕ). filled m (λ i. pos 0) old) (sym (length-map ps gain)))
      ∙ all_placed Helpful T (map gain ps) old (omega (arith, length-map ps gain)) ∙ ap (λ (m : ℕ). filled m credits old) (length-map ps gain)

  credit_at : (i : ℕ) → i < length ps → get_or (filled (length ps) credits old) i (pos 0) ≡ credits i
  credit_at i l = filled_at (length ps) credits old i (pos 0) l (omega arith)

  pub second_clear : (column : List ℤ) → column ≡ filled (length ps) credits old → Clear column (length (map loss ps))
  second_clear column e =
      rw e (record { at = λ i l. rw (credit_at i (omega (arith, length-map ps loss))) (le_out (omega arith)) })

  -- a member has weight on one side at most
  one_side : (i : ℕ) (t : Bool) → ltb 0 (weight_at (map loss ps) i) ≡ t → cond t (neg_ℤ (pos (share_of T (map loss ps) i))) (credits i) ≡ signs_at T ps i
  one_side i true e =
      let g : gain (get_or ps i (pos 0)) ≡ 0 = one_sign (get_or ps i (pos 0))
      (omega (arith, ltb-true 0 (weight_at (map loss ps) i) e, get_or-map loss ps i (pos 0))) in
      let z : share_of T (map gain ps) i ≡ 0 = no_weight_no_share T (map gain ps) i (get_or-map gain ps i (pos 0) ∙ g) in
      sym (ap (λ (a : ℕ). pos a -ℤ pos (share_of T (map loss ps) i)) z ∙ +ℤ_idl (neg_ℤ (pos (share_of T (map loss ps) i))))
  one_side i false e =
      let z : share_of T (map loss ps) i ≡ 0 = no_weight_no_share T (map loss ps) i
      (omega (arith, ltb-false 0 (weight_at (map loss ps) i) e)) in
      sym (ap (λ (b : ℕ). credits i -ℤ pos b) z ∙ +ℤ_idr (credits i))

  pub second_placed : (column : List ℤ) → column ≡ filled (length ps) credits old →
      filled (length (map loss ps)) (shared_at Unhelpful T (map loss ps) column) column ≡ filled (length ps) (signs_at T ps) old
  second_placed column e =
      ap (λ (z : List ℤ). filled (length (map loss ps)) (shared_at Unhelpful T (map loss ps) z) z) e
      ∙ ap (λ (m : ℕ). filled m (shared_at Unhelpful T (map loss ps) (filled (length ps) credits old)) (filled (length ps) credits old)) (length-map ps loss)
      ∙ filled_again (length ps) (shared_at Unhelpful T (map loss ps) (filled (length ps) credits old)) credits old
      ∙ filled_ext (length ps) _ _ old (λ i l. ap (λ (z : ℤ). cond (ltb 0 (weight_at (map loss ps) i)) (neg_ℤ (pos (share_of T (map loss ps) i))) z)
      (credit_at i l) ∙ one_side i (ltb 0 (weight_at (map loss ps) i)) refl)
