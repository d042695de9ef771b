-- What a share promises, whole: the reply, and the column of amounts, on refusals too. Beside it, that any two outcomes which it allows are equal.
use Rattle.std.specs.Prelude.{◌≡◌, ℕ, cond, ◌&&◌, List, length, ℤ, pos, neg_ℤ, ◌==◌, nat_le, Option, None, Some, Result, Ok, Err}
use Rattle.integers.specs.Fills.{filled}
use Rattle.rules.specs.declared.Refusal.{Refusal}
use Rattle.rules.specs.declared.Refusal.TheVariants.{TooShort, WrongCount}
use Rattle.rules.specs.Quantities.{total_limit, weight_limit}
use Rattle.rules.specs.Refusals.{Reply, taken, refused}
use Rattle.rules.specs.Share.{share_of, unplaced, share_reply}
use Rattle.share.specs.Weighing.{sum_of}

-- what the code answers for the definition's reply
abbrev pub answered : Reply ℕ → Result ℕ Refusal
answered (taken unplaced) = Ok unplaced
answered (refused refusal) = Err refusal

-- the column is written where the share is taken, and else as it came
abbrev pub where_taken : Reply ℕ → List ℤ → List ℤ → List ℤ
where_taken (taken unplaced) new old = new
where_taken (refused refusal) new old = old

-- the sign of an amount
abbrev pub credit : ℕ → ℤ
credit a = pos a

abbrev pub debit : ℕ → ℤ
debit a = neg_ℤ (pos a)

-- T shared over xs into the column old: the reply, and the column after the call. Amounts past the weights stay
pub record SharedOut (sign : ℕ → ℤ) (T : ℕ) (xs : List ℕ) (old : List ℤ) (r : Result ℕ Refusal) (new : List ℤ) : Type 0 where
  pub reply : r ≡ answered (share_reply T xs (length old))
  pub amounts : new ≡ where_taken (share_reply T xs (length old)) (filled (length xs) (λ i. sign (share_of T xs i)) old) old

-- ---- the tests of a share, in the order of the paper's numbers. Refusal 13 needs none: what is left over is always fewer than the members with weight.
-- Where they pass: W, or None where no member has weight
unfoldable pub tested : ℕ → List ℕ → ℕ → Result (Option ℕ) Refusal
tested T xs room =
    cond (nat_le (length xs) room)
    (cond (nat_le T total_limit && nat_le (sum_of xs) weight_limit)
    (cond (sum_of xs == 0) (Ok None) (Ok (Some (sum_of xs))))
    (Err WrongCount))
    (Err TooShort)
