-- R-14, NO FAIRER SPLIT: 'Owners sharing a connection point ask if another split sits closer to the exact shares. Show, for W above 0, that none does: for
-- every list of whole numbers with the same length and total, the sum over members of the distance between amount times W and T times weight is no smaller
-- than ours. It holds for the tie rule as it then stands, and for a requirement's debits.' It holds under every rule that puts members with equal remainders
-- in a strict order, and of each split of a requirement. It speaks of that sum alone: another split can be as close, and closer for one member.
use Rattle.std.specs.Prelude.{Result}
use Rattle.answer.specs.declared.Answer.{Answer}
use Rattle.rules.specs.declared.Refusal.{Refusal}
use mathlib.Core.Path.{◌≡◌, refl, sym, ◌∙◌, ap, subst}
use mathlib.Core.Bool.{Bool, true}
use mathlib.Core.List.{List, [], ◌∷◌, map, map-map}
use Prim.Native.Nat.{ℕ, ◌*◌, ◌≤◌, ◌<◌}
use native.Mathlib.Omega.{arith}
use native.Mathlib.Nat.{mul-zero}
use lib.IntN.{ℤ, pos, nat_abs, ◌-ℤ◌, ◌*ℤ◌, *ℤ-zero}
use lib.ListN.{length, get_or, length-map}
use Rattle.integers.specs.Pairs.{gain, loss}
use Rattle.integers.proofs.Pairs.{loss_negation}
use Rattle.integers.specs.Sums.{sum, sumℕ}
use Rattle.integers.proofs.Sums.{sum_ext, sum_naturals, sumℕ_ext, sumℕ_zero, sumℕ_term}
use Rattle.integers.specs.Totals.{total, numbered}
use Rattle.integers.proofs.Totals.{numbered_alike, numbered_at, numbered_length, total_indexesℤ}
use Rattle.integers.proofs.Distances.{apart}
use Rattle.integers.proofs.Ranks.{Total}
use Rattle.rules.specs.Quantities.{billion}
use Rattle.rules.specs.Book.{Requirement, Book}
use Rattle.rules.specs.Members.{Member, members}
use Rattle.rules.specs.Share.{left_over, gets_one, amount, weight_at, share_by, share_of, earlier_first, larger_first}
use Rattle.rules.specs.Cents.{used_weights, unused_weights}
use Rattle.rules.specs.Answer.{Line, lines_of, answered, answer}
use Rattle.laws.proofs.ShareLaws.{larger_order, share_adds_up}
use Rattle.laws.proofs.FairnessLaws.{no_closer}
use Rattle.laws.proofs.CentsLaws.{credit_is, debit_is, one_share}
use Rattle.interval.specs.declared.Tally.{Tally}
use Rattle.interval.specs.Lent.{Lent}
use Rattle.answer.specs.Promises.{Columns, AnswerPromise, columns_long, shown}
use Rattle.answer.specs.BookAnswered.{RulesAnswer}
use Rattle.demands.specs.NoFairerSplit.{NoFairerSplit, SplitsFair, RequirementFair, ColumnsFair, W, distance, distances, sizes, split_by}
use Rattle.demands.proofs.ColumnsFront.{lines_at_front}

-- ---- under any rule that breaks ties
module _ (rule : (ℕ → ℕ) → ℕ → ℕ → Bool) (T : ℕ) (ws : List ℕ) (o : Total (rule (weight_at ws))) (h : 0 < W ws) where
  abbrev ours : List ℤ
  ours = split_by rule T ws

  ours_long : length ours ≡ length ws
  ours_long = numbered_length _ ws

  ours_at : (i : ℕ) → i < length ws → get_or ours i (pos 0) ≡ pos (share_by rule T ws i)
  ours_at i l = numbered_at (λ i w. pos (share_by rule T ws i)) ws i 0 (pos 0) l

  ours_in_all : total (λ a. a) ours ≡ pos T
  ours_in_all =
      sym (total_indexesℤ ours)
      ∙ ap (λ (n : ℕ). sum n (λ i. get_or ours i (pos 0))) ours_long
      ∙ sum_ext (length ws) _ _ ours_at
      ∙ sum_naturals (length ws) (share_by rule T ws)
      ∙ ap pos (share_adds_up T (length ws) (weight_at ws) (rule (weight_at ws)) h o)

  closer : (others : List ℤ) → length others ≡ length ours → total (λ a. a) others ≡ total (λ a. a) ours → distances T ws ours ≤ distances T ws others
  closer others long same =
      rw (sumℕ_ext (length ws) _ _ (λ i l. ap (apart (W ws) (T * weight_at ws i)) (ours_at i l)))
      (no_closer T (length ws) (weight_at ws) (rule (weight_at ws)) o h (λ i. get_or others i (pos 0))
      (ap (λ (n : ℕ). sum n (λ i. get_or others i (pos 0))) (sym (long ∙ ours_long)) ∙ total_indexesℤ others ∙ same ∙ ours_in_all))

  pub no_fairer_split : NoFairerSplit T ws ours
  no_fairer_split = record { one_each = ours_long; in_all = ours_in_all; none_closer = closer }

-- and so under the one that stands
pub none_fairer : (T : ℕ) (ws : List ℕ) → 0 < W ws → NoFairerSplit T ws (split_by larger_first T ws)
none_fairer T ws h = no_fairer_split larger_first T ws (larger_order (weight_at ws)) h

-- where W is 0 there is nothing to say: every list of amounts is as far as ours, which is not at all
pub no_weight_no_distance : (T : ℕ) (ws : List ℕ) → W ws ≡ 0 → (amounts : List ℤ) → distances T ws amounts ≡ 0
no_weight_no_distance T ws z amounts =
    sumℕ_ext (length ws) _ _ (λ i l. none (get_or amounts i (pos 0)) (W ws) (weight_at ws i) z (omega (arith, sumℕ_term (length ws) (weight_at ws) i l)))
    ∙ sumℕ_zero (length ws)
  where
    none : (a : ℤ) (k w : ℕ) → k ≡ 0 → w ≡ 0 → nat_abs (a *ℤ pos k -ℤ pos (T * w)) ≡ 0
    none a k w e f = rw (e, f, *ℤ-zero a, mul-zero T)

-- ---- what it does not say
-- Ours need not be the only one: of 2 over the weights 1 and 3 it is 0 and 2, and 1 and 1, the paper's split before R-9, is exactly as close.
pub as_close : (split_by larger_first 2 (1 ∷ 3 ∷ []) ≡ pos 0 ∷ pos 2 ∷ []) × (split_by earlier_first 2 (1 ∷ 3 ∷ []) ≡ pos 1 ∷ pos 1 ∷ []) ×
    (distances 2 (1 ∷ 3 ∷ []) (pos 0 ∷ pos 2 ∷ []) ≡ 4) × (distances 2 (1 ∷ 3 ∷ []) (pos 1 ∷ pos 1 ∷ []) ≡ 4)
unfolding amount gets_one left_over numbered sumℕ
as_close = (refl, refl, refl, refl)

-- One member may be closer in another split, at the cost of the others: of 1 over three weights of 1 the first gets 1, and would be closer with 0.
pub closer_for_one : (split_by larger_first 1 (1 ∷ 1 ∷ 1 ∷ []) ≡ pos 1 ∷ pos 0 ∷ pos 0 ∷ []) ×
    (distance 1 (1 ∷ 1 ∷ 1 ∷ []) (pos 1 ∷ pos 0 ∷ pos 0 ∷ []) 0 ≡ 2) × (distance 1 (1 ∷ 1 ∷ 1 ∷ []) (pos 0 ∷ pos 1 ∷ pos 0 ∷ []) 0 ≡ 1)
unfolding amount gets_one left_over numbered sumℕ
closer_for_one = (refl, refl, refl)

-- What is left over given to the smallest remainder is farther: 1 over the weights 1 and 3 as 1 and 0.
pub not_to_the_smallest : NoFairerSplit 1 (1 ∷ 3 ∷ []) (pos 1 ∷ pos 0 ∷ []) → ⊥
unfolding sumℕ total
not_to_the_smallest f = too_far (f.none_closer (pos 0 ∷ pos 1 ∷ []) refl refl)
  where
    too_far : 6 ≤ 2 → ⊥
    too_far l = omega arith

-- ---- a requirement
-- the sizes in a column of lines that are a share of T over weights of the members
of_members : (T : ℕ) (weight : Member → ℕ) (size : ℤ → ℕ) (field : Line → ℤ) (line : ℕ → Member → Line) (ms : List Member) →
    ((i : ℕ) (m : Member) → size (field (line i m)) ≡ share_of T (map weight ms) i) → 0 < W (map weight ms) →
    NoFairerSplit T (map weight ms) (sizes size (map field (numbered line ms)))
of_members T weight size field line ms e h =
    subst (NoFairerSplit T (map weight ms)) (sym (map-map (λ x. pos (size x)) field (numbered line ms)
    ∙ numbered_alike (λ l. pos (size (field l))) line (λ i. pos (share_of T (map weight ms) i)) (λ i m. ap pos (e i m)) ms (map weight ms)
    (sym (length-map ms weight)))) (none_fairer T (map weight ms) h)

-- of any book at all, also of one past the limits, and of any requirement
pub requirement_fair : (b : Book) (q : Requirement) → RequirementFair b q
unfolding answer answered lines_of
requirement_fair b q =
    let ms = members b q in
    let a = answer b q in
    record {
      credits = of_members a.pool (λ m. gain m.payment) gain (λ l. l.payment) _ ms (λ i m. credit_is _ _ (one_share a.pool ms i));
      debits = of_members a.pool (λ m. loss m.payment) loss (λ l. l.payment) _ ms (λ i m. debit_is _ _ (one_share a.pool ms i));
      used = of_members a.used_pool (λ m. loss m.used) loss (λ l. l.used) _ ms (λ i m. loss_negation (pos (share_of a.used_pool (used_weights ms) i)));
      unused =
          of_members a.unused_pool (λ m. loss m.unused) loss (λ l. l.unused) _ ms
          (λ i m. loss_negation (pos (share_of a.unused_pool (unused_weights ms) i)));
      helpful_factors = of_members billion (λ m. gain m.payment) gain (λ l. l.factor) _ ms (λ i m. credit_is _ _ (one_share billion ms i));
      unhelpful_factors = of_members billion (λ m. loss m.payment) loss (λ l. l.factor) _ ms (λ i m. debit_is _ _ (one_share billion ms i));
    }

-- and of the columns that an answer leaves, about any book that a chain of calls took (demand 2 gives its `RulesAnswer`)
pub columns_fair :
    {b : Book} {t : Tally} {l : Lent} {part : List ℕ} {q : Requirement} → RulesAnswer b t l part q → {old new : Columns} {r : Result Answer Refusal} →
    columns_long t.units old ≡ true → AnswerPromise t part l old r new → ColumnsFair b q r new
columns_fair {b} {q} a long c =
    record {
      figures = shown q (answer b q);
      given = (a.answered long c).reply;
      fair =
          subst (SplitsFair (members b q) (answer b q).pool (answer b q).used_pool (answer b q).unused_pool) (sym (lines_at_front a long c))
          (requirement_fair b q);
    }
