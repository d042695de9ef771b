-- Defaults from seven days of record (02, R-7), which demand 2 covers too, as a caller meets them. A running week that stands in a box's words, from two
-- words of 0 on through any calls that add an interval, reads exactly what the list form gives for the intervals added, on refusals too.
use mathlib.Core.Path.{◌≡◌, refl, sym, ◌∙◌, ap}
use mathlib.Core.List.{List}
use Prim.Native.Nat.{ℕ, zero, suc, ◌≤◌}
use native.Mathlib.Omega.{arith}
use lib.Dec.{leb}
use lib.IntN.{ℤ}
use lib.ListN.{length}
use Rattle.rules.specs.declared.Refusal.TheVariants.{TooShort}
use Rattle.rules.specs.declared.RunningWeek.{RunningWeek}
use Rattle.rules.specs.Refusals.{Reply, taken, refused, unless, ◌>>=◌}
use Rattle.rules.specs.Week.{week_reply}
use Rattle.rules.specs.RunningWeek.{fresh, add_reply, read_reply, run}
use Rattle.rules.specs.WeekRoster.{whose_of}
use Rattle.interval.specs.Calls.{left}
use Rattle.weeks.proofs.ReadsLaws.{run_leaves, running_reads_the_list}
use Rattle.dullavane.specs.Words.{reply_number}
use Rattle.dullavane.specs.Weekly.{week_held, with_week, with_default, default_numbers, WeekAddCalled, WeekReadCalled}
use Rattle.dullavane.proofs.WeeklyLaws.{week_there, week_kept}
use Rattle.laws.proofs.RefusalLaws.{refusal_numbered}
use Rattle.demands.specs.WeekDefaults.{Added, Stands, added, runs}

-- 0 is told of a taken interval alone
only_taken : (y : Reply RunningWeek) → 0 ≡ reply_number y → (r : RunningWeek) × (y ≡ taken r)
only_taken (taken r) e = (r, refl)
only_taken (refused why) e = absurd (omega (arith, refusal_numbered why))

module _ (m : ℕ) (live : ℕ → ℕ) (p : ℕ → ℤ) (ws : ℕ → List ℕ) where
  step : (n : ℕ) → (Stands m live p ws) n → WeekAddCalled m (live n) (p n) (ws n) 0 (ws (suc n)) → (Stands m live p ws) (suc n)
  unfolding run
  step n s c =
      let reply = add_reply (whose_of m) (added live p n) in
      let here : (week_held (ws n) >>= reply) ≡ reply s.week = rw s.held in
      let t = only_taken (reply s.week) (c.reply ∙ ap reply_number here) in
      let next : (runs m live p ws) (suc n) ≡ taken t.0 = rw s.ran t.1 in
      let k = (run_leaves (λ _. whose_of m) (suc n) (added live p) next).1 in
      let words : ws (suc n) ≡ with_week t.0 (ws n) = c.words ∙ ap (λ (y : Reply RunningWeek). left with_week y (ws n)) (here ∙ t.1) in
      record {
        week = t.0;
        ran = next;
        held = ap week_held words ∙ week_kept t.0 (ws n) (omega (arith, k.short)) (omega (arith, k.counted, k.short))
            (omega (arith, k.reached, k.counted, k.short, k.small));
      }

  stands : (n : ℕ) → Added m n live p ws → (k : ℕ) → k ≤ n → (Stands m live p ws) k
  unfolding run
  stands n a zero h =
      let here = (week_there (ws 0) a.long (omega (arith, a.second))).week in
      record { week = fresh; ran = refl; held = here ∙ rw (a.first, a.second) }
  stands n a (suc k) h = step k (stands n a k (omega arith)) (a.taken_in k (omega arith))

  -- so what is read off the words is what the list of the intervals gives
  pub words_read_the_list :
      (n : ℕ) → Added m n live p ws → (xs : List ℤ) {r : ℕ} {xs' : List ℤ} → WeekReadCalled m (ws n) xs r xs' →
      let y = unless (leb default_numbers (length xs)) TooShort (week_reply (whose_of m) n (added live p)) in
      (r ≡ reply_number y) × (xs' ≡ left with_default y xs)
  words_read_the_list n a xs {r} {xs'} c =
      let s = stands n a n (omega arith) in
      let same : (week_held (ws n) >>= read_reply (whose_of m)) ≡ week_reply (whose_of m) n (added live p) =
      ap (λ (y : Reply RunningWeek). y >>= read_reply (whose_of m)) (s.held ∙ sym s.ran) ∙ running_reads_the_list (whose_of m) (added live p) n in
      (c.reply ∙ rw same, c.numbers ∙ rw same)
