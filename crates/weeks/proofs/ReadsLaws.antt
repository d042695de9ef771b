-- After any list of intervals a running week reads exactly what the list form gives; and a record that a run of calls leaves is never refused as one
-- that none leaves, whatever members the intervals were of.
use mathlib.Core.Path.{◌≡◌, refl, ◌∙◌, ap}
use mathlib.Core.Bool.{Bool, true, false, ◌&&◌}
use Prim.Native.Nat.{ℕ, zero, suc, ◌<◌}
use native.Mathlib.Numerals.{add-one}
use native.Mathlib.Omega.{arith}
use lib.Dec.{leb, ltb}
use borrow.Author.Tests.{leb-true, leb-false, ltb-true, lt-leb}
use Rattle.integers.specs.Sums.{every, both}
use Rattle.integers.proofs.Sums.{every_none}
use Rattle.rules.specs.declared.Refusal.TheVariants.{WrongState, WrongCount, WrongWeek}
use Rattle.rules.specs.declared.RunningWeek.{RunningWeek}
use Rattle.rules.specs.declared.Whose.{Whose}
use Rattle.rules.specs.Refusals.{Reply, taken, refused, unless, ◌>>=◌}
use Rattle.rules.specs.Week.{Interval, in_reach, reach, whose_fine, most_intervals, live_count, live_total, week_fine, default_reply, week_reply}
use Rattle.rules.specs.RunningWeek.{fresh, with_interval, left_by_a_run, add_reply, read_reply, run}
use Rattle.weeks.specs.Runs.{Run}
use Rattle.weeks.proofs.Runs.{means_run, fresh_run, more_run, within_wider, reach_≤, total_kept}
use Rattle.weeks.specs.Gather.{run_of}
use Rattle.weeks.proofs.GatherLaws.{run_none, run_more, run_of_run}

-- ---- what an interval that is taken leaves
-- a taken reply passed its tests
pub record Passed (m : Whose) (x : Interval) (r next : RunningWeek) : Type 0 where
  pub who : whose_fine m ≡ true
  pub few : r.seen < most_intervals
  pub can : in_reach m x ≡ true
  pub is : next ≡ with_interval r x

pub passed : (m : Whose) (x : Interval) (r : RunningWeek) {next : RunningWeek} → add_reply m x r ≡ taken next → Passed m x r next
unfolding add_reply
passed m x r {next} e = go (left_by_a_run r) (whose_fine m) refl (ltb r.seen most_intervals) refl (in_reach m x) refl e
  where
    apart : {A : Type 0} → (◌≡◌ {A = ℕ} 0 1) → A
    apart z = absurd (omega arith)

    go :
        (a b : Bool) → whose_fine m ≡ b → (c : Bool) → ltb r.seen most_intervals ≡ c → (d : Bool) → in_reach m x ≡ d →
        unless a WrongState (unless b WrongCount (unless (c && d) WrongWeek (taken (with_interval r x)))) ≡ taken next → Passed m x r next
    go true true f true g true h e = record { who = f; few = ltb-true r.seen most_intervals g; can = h; is = cc }
    go true true f true g false h e = apart (cc)
    go true true f false g d h e = apart (cc)
    go true false f c g d h e = apart (cc)
    go false b f c g d h e = apart (cc)

-- whatever members the intervals are of, what a run of calls leaves is the week's count and total, and never 11
pub run_leaves : (m : ℕ → Whose) (n : ℕ) (w : ℕ → Interval) {r : RunningWeek} → run m n w ≡ taken r → (r ≡ run_of n w) × Run r
unfolding run
run_leaves m zero w {r} e = let q : r ≡ fresh = cc in rw q (run_none w, fresh_run)
run_leaves m (suc n) w {r} e = go (λ before f. run_leaves m n w f) (run m n w) refl e
  where
    go :
        ((before : RunningWeek) → run m n w ≡ taken before → (before ≡ run_of n w) × Run before) → (y : Reply RunningWeek) → run m n w ≡ y →
        (y >>= add_reply (m n) (w n)) ≡ taken r → (r ≡ run_of (suc n) w) × Run r
    go so (taken before) f e =
        let ih = so before f in
        let p = passed (m n) (w n) before e in
        let kept = more_run before (w n) ih.1 p.few (within_wider (w n) (reach_≤ (m n) p.who) p.can) in
        (p.is ∙ ap (λ (b : RunningWeek). with_interval b (w n)) ih.0 ∙ run_more n w ∙ ap (λ (k : ℕ). run_of k w) (add-one n), rw p.is kept)
    go so (refused why) f e = let z : ◌≡◌ {A = ℕ} 0 1 = cc in absurd (omega arith)

pub run_never_11 : (m : ℕ → Whose) (n : ℕ) (w : ℕ → Interval) {r : RunningWeek} → run m n w ≡ taken r → left_by_a_run r ≡ true
run_never_11 m n w {r} e = means_run r (run_leaves m n w e).1

-- ---- one member's
module _ (m : Whose) (w : ℕ → Interval) where
  abbrev pub runs : ℕ → Reply RunningWeek
  runs n = run (λ _. m) n w

  -- a group of 0 or over 512 units is refused at its first interval
  unfit : whose_fine m ≡ false → (n : ℕ) → runs (suc n) ≡ refused WrongCount
  unfolding run add_reply
  unfit e zero = rw (means_run fresh fresh_run, e)
  unfit e (suc n) = rw (unfit e n)

  -- the tests of a week with one interval more
  more_fine : (n : ℕ) → week_fine m n w ≡ true → week_fine m (suc n) w ≡ ltb n most_intervals && in_reach m (w n)
  unfolding every
  more_fine n e = let b = both (leb n most_intervals) (every n (λ i. in_reach m (w i))) e in rw b.1

  never_again : (n : ℕ) → week_fine m n w ≡ false → week_fine m (suc n) w ≡ false
  unfolding every
  never_again n e = go (leb n most_intervals) refl (every n (λ i. in_reach m (w i))) e
    where
      and_false : (t : Bool) → t && false ≡ false
      and_false true = refl
      and_false false = refl

      go : (a : Bool) → leb n most_intervals ≡ a → (b : Bool) → a && b ≡ false → leb (suc n) most_intervals && (b && in_reach m (w n)) ≡ false
      go true f true e = let z : ◌≡◌ {A = ℕ} 0 1 = cc in absurd (omega arith)
      go true f false e = and_false (leb (suc n) most_intervals)
      go false f b e = rw (lt-leb (suc n) most_intervals (omega (arith, leb-false n most_intervals f)))

  -- one interval more of a run whose tests have held so far
  step :
      whose_fine m ≡ true → (n : ℕ) (a b : Bool) → ltb n most_intervals ≡ a → in_reach m (w n) ≡ b → Run (run_of n w) →
      add_reply m (w n) (run_of n w) ≡ unless (a && b) WrongWeek (taken (run_of (suc n) w))
  unfolding add_reply
  step e n a b f g h =
      rw (means_run (run_of n w) h, e, f, g) (ap (λ (r : RunningWeek). unless (a && b) WrongWeek (taken r))
      (run_more n w ∙ ap (λ (k : ℕ). run_of k w) (add-one n)))

  fine_run : whose_fine m ≡ true → (n : ℕ) → week_fine m n w ≡ true → Run (run_of n w)
  fine_run e n f =
      let b = both (leb n most_intervals) (every n (λ i. in_reach m (w i))) f in
      run_of_run (reach m) n w (reach_≤ m e) (leb-true n most_intervals b.0) b.1

  -- a run answers the week's tests, and leaves its count and total
  pub fit : whose_fine m ≡ true → (n : ℕ) → runs n ≡ unless (week_fine m n w) WrongWeek (taken (run_of n w))
  unfolding run
  fit e zero = rw (every_none (λ i. in_reach m (w i))) (ap taken (run_none w))
  fit e (suc n) = ap (λ (y : Reply RunningWeek). y >>= add_reply m (w n)) (fit e n) ∙ go (week_fine m n w) refl
    where
      go :
          (t : Bool) → week_fine m n w ≡ t →
          (unless t WrongWeek (taken (run_of n w)) >>= add_reply m (w n)) ≡ unless (week_fine m (suc n) w) WrongWeek (taken (run_of (suc n) w))
      go true f = rw (more_fine n f) (step e n _ _ refl refl (fine_run e n f))
      go false f = rw (never_again n f)

  -- ---- what is read off it
  first : whose_fine m ≡ false → (runs 0 >>= read_reply m) ≡ refused WrongCount
  unfolding run read_reply
  first e = rw (means_run fresh fresh_run, e)

  none : whose_fine m ≡ false → (n : ℕ) → (runs n >>= read_reply m) ≡ refused WrongCount
  none e zero = first e
  none e (suc n) = rw (unfit e n)

  read_off : whose_fine m ≡ true → (n : ℕ) → Run (run_of n w) → read_reply m (run_of n w) ≡ default_reply m (live_total n w) (live_count n w)
  unfolding read_reply
  read_off e n h = rw (means_run (run_of n w) h, e, total_kept n (live_count n w) (live_total n w))

  some :
      whose_fine m ≡ true → (n : ℕ) (t : Bool) → week_fine m n w ≡ t →
      (unless t WrongWeek (taken (run_of n w)) >>= read_reply m) ≡ unless t WrongWeek (default_reply m (live_total n w) (live_count n w))
  some e n true f = read_off e n (fine_run e n f)
  some e n false f = refl

  -- after any list of intervals the record reads exactly what the list form gives, on refusals too
  pub running_reads_the_list : (n : ℕ) → (runs n >>= read_reply m) ≡ week_reply m n w
  unfolding week_reply
  running_reads_the_list n = by (whose_fine m) refl
    where
      by :
          (t : Bool) → whose_fine m ≡ t →
          (runs n >>= read_reply m) ≡ unless t WrongCount (unless (week_fine m n w) WrongWeek (default_reply m (live_total n w) (live_count n w)))
      by true e = ap (λ (y : Reply RunningWeek). y >>= read_reply m) (fit e n) ∙ some e n (week_fine m n w) refl
      by false e = none e n
