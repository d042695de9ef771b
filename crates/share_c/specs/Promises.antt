-- What the boundary promises: the share's reply as a number, and the two lent things after the call.
use Rattle.std.specs.Prelude.{◌≡◌, List, ℕ, ℤ, length}
use Rattle.integers.specs.Fills.{filled}
use Rattle.rules.specs.Refusals.{Reply, taken, refused, number}
use Rattle.rules.specs.Share.{share_of, share_reply}
use Rattle.share.specs.Promises.{credit, where_taken}

-- 0, or the refusal's number
abbrev pub told : Reply ℕ → ℕ
told (taken unplaced) = 0
told (refused refusal) = number refusal

-- what is unplaced, or as it came
abbrev pub left : Reply ℕ → ℕ → ℕ
left (taken unplaced) old = unplaced
left (refused refusal) old = old

pub record Told (T : ℕ) (ws : List ℕ) (old : List ℤ) (before r : ℕ) (new : List ℤ) (after : ℕ) : Type 0 where
  pub reply : r ≡ told (share_reply T ws (length old))
  pub amounts : new ≡ where_taken (share_reply T ws (length old)) (filled (length ws) (λ i. credit (share_of T ws i)) old) old
  pub unplaced : after ≡ left (share_reply T ws (length old)) before
