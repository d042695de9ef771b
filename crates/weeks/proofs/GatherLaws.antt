-- Laws of the definitions in specs/Gather.antt.
use Rattle.std.specs.Prelude.{Ok, Err}
use mathlib.Core.Path.{◌≡◌, refl, sym, ◌∙◌, ap}
use mathlib.Core.Bool.{Bool, true, false}
use Prim.Native.Nat.{ℕ, ◌+◌, ◌*◌, ◌/◌, ◌^◌, ◌≤◌, ◌<◌}
use native.Mathlib.Omega.{arith}
use lib.Bits.{bit_and, and_mask}
use lib.Dec.{eqb}
use lib.ListN.{length}
use lib.IntN.{ℤ}
use mathlib.Core.List.{List}
use borrow.Author.Tests.{le-leb, lt-leb}
use Rattle.integers.specs.Sums.{one, every}
use Rattle.integers.proofs.Sums.{every_at, every_fails, sumℕ_step, sumℕ_none, sumℕ_≤, sumℕ_times, count_≤}
use Rattle.rules.specs.declared.RunningWeek.{RunningWeek}
use Rattle.rules.specs.declared.Whose.{Whose}
use Rattle.rules.specs.declared.Refusal.{Refusal}
use Rattle.rules.specs.declared.Refusal.TheVariants.{TooShort, WrongCount, WrongWeek}
use Rattle.rules.specs.Bytes.{bit}
use Rattle.rules.specs.Refusals.{Reply, taken, unless}
use Rattle.rules.specs.Week.{
  Interval,
  is_live,
  shortfall,
  within,
  in_reach,
  reach,
  whose_fine,
  most_intervals,
  live_count,
  live_total,
  default_reply,
  week_reply,
  interval_at,
  bytes_for,
  list_reply,
}
use Rattle.rules.specs.RunningWeek.{base, total_in, fresh, with_interval}
use Rattle.weeks.specs.Promises.{told_of, added_of}
use Rattle.weeks.specs.Runs.{Run, more_reply}
use Rattle.weeks.proofs.Runs.{running_run, total_kept, shortfall_≤, reach_≤}
use Rattle.weeks.specs.Gather.{gathered, run_of}

-- bit k is what stays of the number shifted by k and masked by 1
pub bit_masked : (k x : ℕ) → eqb (bit_and (x / 2 ^ k) 1) 1 ≡ bit k x
bit_masked k x = ap (λ (y : ℕ). eqb y 1) (and_mask (x / 2 ^ k) 1)

-- the byte of each bit is there
pub byte_there : (i n m : ℕ) → i < n → bytes_for n ≤ m → i / 8 < m
byte_there i n m h l = omega arith

-- ---- one interval more
pub run_none : (w : ℕ → Interval) → fresh ≡ run_of 0 w
run_none w = rw (sumℕ_none (λ i. one (is_live (w i))), sumℕ_none (λ i. shortfall (w i)))

pub run_more : (n : ℕ) (w : ℕ → Interval) → with_interval (run_of n w) (w n) ≡ run_of (n + 1) w
run_more n w =
    rw (total_kept n (live_count n w) (live_total n w), sumℕ_step n (λ i. one (is_live (w i))), sumℕ_step n (λ i. shortfall (w i)))

-- a total that so many live ones can reach
pub total_≤ : (limit n : ℕ) (w : ℕ → Interval) → limit ≤ base → every n (λ i. within limit (w i)) ≡ true → live_total n w ≤ live_count n w * base
total_≤ limit n w h e =
    rw (← sumℕ_times n base (λ i. one (is_live (w i)))) (sumℕ_≤ n _ _ (λ i l. shortfall_≤ limit (w i) h (every_at n (λ i. within limit (w i)) e i l)))

pub run_of_run : (limit n : ℕ) (w : ℕ → Interval) → limit ≤ base → n ≤ most_intervals → every n (λ i. within limit (w i)) ≡ true → Run (run_of n w)
run_of_run limit n w h l e =
    running_run n (live_count n w) (live_total n w) (count_≤ n (λ i. is_live (w i))) l (total_≤ limit n w h e)

-- ---- a turn of the pass: it goes on with the running week of one interval more, or what it is refused with is what the pass answers
module _ (limit : ℕ) (i : ℕ) (w : ℕ → Interval) where
  abbrev turn : Bool → Reply RunningWeek
  turn t = unless t WrongWeek (taken (with_interval (run_of i w) (w i)))

  pub more_means : {r : RunningWeek} → Ok r ≡ added_of (more_reply limit (run_of i w) (w i)) → (within limit (w i) ≡ true) × (r ≡ run_of (i + 1) w)
  more_means {r} g = go (within limit (w i)) refl g
    where
      go : (t : Bool) → within limit (w i) ≡ t → Ok r ≡ added_of (turn t) → (t ≡ true) × (r ≡ run_of (i + 1) w)
      go true e g = let same : r ≡ with_interval (run_of i w) (w i) = cc in (refl, same ∙ run_more i w)
      go false e g = let z : ◌≡◌ {A = ℕ} 0 1 = cc in absurd (omega arith)

  pub more_fails :
      (n : ℕ) → i < n → {why : Refusal} → Err why ≡ added_of (more_reply limit (run_of i w) (w i)) →
      Err why ≡ added_of (gathered limit n w)
  unfolding gathered
  more_fails n h {why} g = go (within limit (w i)) refl g
    where
      go :
          (t : Bool) → within limit (w i) ≡ t → Err why ≡ added_of (turn t) →
          Err why ≡ added_of (unless (every n (λ j. within limit (w j))) WrongWeek (taken (run_of n w)))
      go true e g = let z : ◌≡◌ {A = ℕ} 0 1 = cc in absurd (omega arith)
      go false e g = rw (every_fails n (λ j. within limit (w j)) i h e) g

-- ---- the answer of the list form, test by test
module _ (m : Whose) (ps : List ℤ) (bits : List ℕ) where
  abbrev n : ℕ
  n = length ps

  abbrev w : ℕ → Interval
  w = interval_at ps bits

  pub too_short : length bits < bytes_for n → Err TooShort ≡ told_of (list_reply m ps bits)
  unfolding list_reply
  too_short h = rw (lt-leb (bytes_for n) (length bits) h)

  module _ (long : bytes_for n ≤ length bits) where
    pub wrong_count : whose_fine m ≡ false → Err WrongCount ≡ told_of (list_reply m ps bits)
    unfolding list_reply week_reply
    wrong_count e = rw (le-leb (bytes_for n) (length bits) long, e)

    pub too_long : whose_fine m ≡ true → most_intervals < n → Err WrongWeek ≡ told_of (list_reply m ps bits)
    unfolding list_reply week_reply
    too_long e h = rw (le-leb (bytes_for n) (length bits) long, e, lt-leb n most_intervals h)

    module _ (fine : whose_fine m ≡ true) (few : n ≤ most_intervals) where
      -- by what the pass finds
      pub tested :
          (t : Bool) → every n (λ i. in_reach m (w i)) ≡ t →
          told_of (list_reply m ps bits) ≡ told_of (unless t WrongWeek (default_reply m (live_total n w) (live_count n w)))
      unfolding list_reply week_reply
      tested t e = rw (le-leb (bytes_for n) (length bits) long, fine, le-leb n most_intervals few, e)

      pub outside : {why : Refusal} → Err why ≡ added_of (gathered (reach m) n w) → Err why ≡ told_of (list_reply m ps bits)
      unfolding gathered
      outside {why} g = go (every n (λ i. in_reach m (w i))) refl g
        where
          go :
              (t : Bool) → every n (λ i. in_reach m (w i)) ≡ t → Err why ≡ added_of (unless t WrongWeek (taken (run_of n w))) →
              Err why ≡ told_of (list_reply m ps bits)
          go true e g = let z : ◌≡◌ {A = ℕ} 0 1 = cc in absurd (omega arith)
          go false e g = let same : why ≡ WrongWeek = cc in ap Err same ∙ sym (tested false e)

      pub record Read (r : RunningWeek) : Type 0 where
        pub run : Run r
        pub reads : told_of (default_reply m (total_in r) r.live) ≡ told_of (list_reply m ps bits)

      pub inside : {r : RunningWeek} → Ok r ≡ added_of (gathered (reach m) n w) → Read r
      unfolding gathered
      inside {r} g = go (every n (λ i. in_reach m (w i))) refl g
        where
          go : (t : Bool) → every n (λ i. in_reach m (w i)) ≡ t → Ok r ≡ added_of (unless t WrongWeek (taken (run_of n w))) → Read r
          go true e g =
              let same : r ≡ run_of n w = cc in
              let total : total_in (run_of n w) ≡ live_total n w = total_kept n (live_count n w) (live_total n w) in
              rw same (record { run = run_of_run (reach m) n w (reach_≤ m fine) few e; reads = rw total (sym (tested true e)) })
          go false e g = let z : ◌≡◌ {A = ℕ} 0 1 = cc in absurd (omega arith)
