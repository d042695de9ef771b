-- Both signs in one column: what the call promises, and how a side is placed beside the other.
use Rattle.std.specs.Prelude.{◌≡◌, ℕ, List, map, length, ℤ, pos, ◌-ℤ◌, Result, Ok, Err}
use Rattle.integers.specs.Pairs.{gain, loss}
use Rattle.integers.specs.Fills.{filled}
use Rattle.rules.specs.declared.Refusal.{Refusal}
use Rattle.rules.specs.Refusals.{Reply, taken, refused}
use Rattle.rules.specs.Share.{share_of, share_reply}
use Rattle.share.specs.declared.weights.Source.{Source}
use Rattle.share.specs.Column.{shared_at}
use Rattle.share.specs.Promises.{where_taken}

-- the positive side's reply, then the negative side's: the first refusal is the answer
abbrev pub answered_signs : Reply ℕ → Reply ℕ → Result (ℕ × ℕ) Refusal
answered_signs (taken u) (taken v) = Ok (u, v)
answered_signs (taken u) (refused f) = Err f
answered_signs (refused f) y = Err f

-- a total shared over the positive performances, and with a minus sign over the negative ones
abbrev pub signs_at : ℕ → List ℤ → ℕ → ℤ
signs_at T ps i = pos (share_of T (map gain ps) i) -ℤ pos (share_of T (map loss ps) i)

pub record SignsOut (T : ℕ) (ps : List ℤ) (old : List ℤ) (r : Result (ℕ × ℕ) Refusal) (new : List ℤ) : Type 0 where
  pub reply : r ≡ answered_signs (share_reply T (map gain ps) (length old)) (share_reply T (map loss ps) (length old))
  pub amounts : new ≡ where_taken (share_reply T (map gain ps) (length old))
      (where_taken (share_reply T (map loss ps) (length old)) (filled (length ps) (signs_at T ps) old) old) old

-- ---- one side
abbrev pub unplaced_or : Reply ℕ → ℕ → ℕ
unplaced_or (taken u) T = u
unplaced_or (refused f) T = T

pub record SidePlaced (source : Source) (T : ℕ) (xs : List ℕ) (old : List ℤ) (r : ℕ) (new : List ℤ) : Type 0 where
  pub unplaced : r ≡ unplaced_or (share_reply T xs (length old)) T
  pub amounts : new ≡ where_taken (share_reply T xs (length old)) (filled (length xs) (shared_at source T xs old) old) old
