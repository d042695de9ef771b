-- A run of units is single calls, one after the other: so a run on a chain is a chain, and all that holds of chains holds where units come by runs, singly, or
-- mixed.
use mathlib.Core.Path.{◌≡◌, refl, sym, ◌∙◌, ap, ap₂, subst, subst₂}
use mathlib.Core.Bool.{Bool, true, false}
use mathlib.Core.List.{List}
use Prim.Native.Nat.{ℕ, zero, suc, ◌+◌, ◌*◌, ◌<◌}
use native.Mathlib.Omega.{arith}
use lib.ListN.{drop}
use lib.Seq.{drop-drop}
use Rattle.rules.specs.declared.Refusal.{Refusal}
use Rattle.rules.specs.Refusals.{Reply, taken, refused}
use Rattle.rules.specs.Book.{Unit}
use Rattle.rules.specs.Contents.{unit_size}
use Rattle.interval.specs.declared.Tally.{Tally}
use Rattle.interval.specs.declared.Step.{Step}
use Rattle.interval.specs.Lent.{Lent}
use Rattle.interval.specs.Calls.{refused_step, taken_step, unit_counted, unit_reply}
use Rattle.interval.specs.Promises.{UnitPromise, unit_kept}
use Rattle.interval.specs.Run.{Ran, RunPromise, ran, records_in, run_taken, whole}
use Rattle.interval.proofs.RunLaws.{goes_behind, ragged_run, stops_at, was_added, whole_run}
use Rattle.chain.specs.Chain.{Chain, took_unit}
use Rattle.chain.specs.Runs.{HandsRun, RunOutcome, Singly, added, is_ragged, none, one_more, stops_behind, takes_all}
use Rattle.chain.proofs.Alike.{unit_alike}

module _ (t : Tally) (run : List ℕ) (l : Lent) where
  abbrev Comes : Ran → Type 0
  Comes x = RunOutcome t run l x.step x.lent

  module _ (w : whole run ≡ true) where
    -- a single call on what the first k records have left: the record behind them is taken, and the run goes on, or it is refused
    module _ (n k : ℕ) (t' : Tally) (l' : Lent) (so_far : Singly run t l k t' l') (inside : k < records_in run) where
      abbrev part : List ℕ
      part = drop (unit_size * k) run

      abbrev here : Ran
      here = ran (suc n) (k + 1) t' part l'

      next_part : drop unit_size part ≡ drop (unit_size * suc k) run
      next_part = drop-drop unit_size (unit_size * k) run ∙ ap (λ (i : ℕ). drop i run) (next unit_size k)
        where
          next : (size k : ℕ) → size * k + size ≡ size * suc k
          next size k = omega arith

      took : (u : Unit) → unit_reply t' part l' ≡ taken u → Singly run t l (suc k) (unit_counted t' u) (unit_kept t' u l') ×
          (here ≡ ran n (suc k + 1) (unit_counted t' u) (drop (unit_size * suc k) run) (unit_kept t' u l'))
      took u e =
          let call : UnitPromise t' part l' (taken_step (unit_counted t' u)) (unit_kept t' u l') = record { reply = rw e; lent = rw e } in
          let further : k + 1 + 1 ≡ suc k + 1 = omega arith in (
            one_more so_far call refl,
            goes_behind call n (k + 1) refl
                ∙ ap₂ (λ (place : ℕ) (bs : List ℕ). ran n place (unit_counted t' u) bs (unit_kept t' u l')) further next_part,
          )

      stopped : (x : Refusal) → unit_reply t' part l' ≡ refused x → Comes here
      stopped x e =
          let call : UnitPromise t' part l' (refused_step t' x) l' = record { reply = rw e; lent = rw e } in
          subst Comes (sym (stops_at call n (k + 1) refl)) (stops_behind k x w inside so_far call refl)

    walk : (n k : ℕ) (t' : Tally) (l' : Lent) → Singly run t l k t' l' → k + n ≡ records_in run → Comes (ran n (k + 1) t' (drop (unit_size * k) run) l')
    unfolding ran
    walk zero k t' l' so_far e = takes_all w (subst (λ (k : ℕ). Singly run t l k t' l') (omega arith) so_far) refl
    walk (suc n) k t' l' so_far e = go (λ t'' l'' more. walk n (suc k) t'' l'' more (omega arith)) (unit_reply t' (drop (unit_size * k) run) l') refl
      where
        go : ((t'' : Tally) (l'' : Lent) → Singly run t l (suc k) t'' l'' → Comes (ran n (suc k + 1) t'' (drop (unit_size * suc k) run) l'')) →
            (y : Reply Unit) → unit_reply t' (drop (unit_size * k) run) l' ≡ y → Comes (ran (suc n) (k + 1) t' (drop (unit_size * k) run) l')
        go behind (taken u) f =
            let on = took n k t' l' so_far (omega arith) u f in
            subst Comes (sym on.1) (behind (unit_counted t' u) (unit_kept t' u l') on.0)
        go behind (refused x) f = stopped n k t' l' so_far (omega arith) x f

  -- ---- THE RUN: as many single calls as took their record, and at most one that refuses the next
  pub run_outcome : {r : Step} {l' : Lent} → RunPromise t run l r l' → RunOutcome t run l r l'
  run_outcome {r} {l'} p = subst₂ (λ (r : Step) (m : Lent). RunOutcome t run l r m) (sym p.reply) (sym p.lent) (go (whole run) refl)
    where
      go : (b : Bool) → whole run ≡ b → Comes (run_taken t run l)
      go true e = subst Comes (sym (whole_run t run l e)) (walk e (records_in run) 0 t l none (omega arith))
      go false e = subst Comes (sym (ragged_run t run l e)) (is_ragged e refl refl)

-- each of them is counted once
pub singly_counts : {run : List ℕ} {t : Tally} {l : Lent} {k : ℕ} {t' : Tally} {l' : Lent} → Singly run t l k t' l' → t'.records ≡ t.records + k
singly_counts none = omega arith
singly_counts (one_more so_far call h) =
    let one : _ ≡ _ = ap (λ (t : Tally). t.records) (was_added call h).tally in
    omega (arith, one, singly_counts so_far)

-- and where none was, all is as it came
pub singly_none : {run : List ℕ} {t : Tally} {l : Lent} {k : ℕ} {t' : Tally} {l' : Lent} → Singly run t l k t' l' → k ≡ 0 → (t' ≡ t) × (l' ≡ l)
singly_none none e = (refl, refl)
singly_none (one_more so_far call h) e = absurd (omega arith)

pub run_singly : {t : Tally} {run : List ℕ} {l : Lent} {r : Step} {l' : Lent} → RunPromise t run l r l' → Singly run t l (added t r.tally) r.tally l'
run_singly {t} {run} {l} {r} {l'} p = go (run_outcome t run l p)
  where
    counted : {k : ℕ} → Singly run t l k r.tally l' → Singly run t l (added t r.tally) r.tally l'
    counted {k} s = subst (λ (k : ℕ). Singly run t l k r.tally l') (omega (arith, singly_counts s)) s

    go : RunOutcome t run l r l' → Singly run t l (added t r.tally) r.tally l'
    go (takes_all w s h) = counted s
    go (stops_behind k why w h s call e) = counted s
    go (is_ragged w e f) =
        let same : r.tally ≡ t = ap (λ (r : Step). r.tally) e in
        counted (subst₂ (λ (t' : Tally) (m : Lent). Singly run t l 0 t' m) (sym same) (sym f) none)

-- ---- ON A CHAIN
module _ {head : List ℕ} {part : ℕ → List ℕ} {l₀ : Lent} {n : ℕ} {t : Tally} {run : List ℕ} {l : Lent} where
  pub singly_chain : Chain head part l₀ n t l → {k : ℕ} {t' : Tally} {l' : Lent} → Singly run t l k t' l' → HandsRun part n k run →
      Chain head part l₀ (n + k) t' l'
  singly_chain d none hands = subst (λ (n : ℕ). Chain head part l₀ n t l) (omega arith) d
  singly_chain d (one_more {k} {t'} {l'} {l₂} {s} so_far call took) hands =
      let before = singly_chain d so_far (record { each = λ i h. hands.each i (omega arith) }) in
      let more : suc (n + k) ≡ n + suc k = omega arith in
      subst (λ (n : ℕ). Chain head part l₀ n s.tally l₂) more (took_unit before (unit_alike (hands.each k (omega arith)) t' (omega arith) call) took)

  pub run_chain : Chain head part l₀ n t l → {r : Step} {l' : Lent} → RunPromise t run l r l' → HandsRun part n (added t r.tally) run →
      Chain head part l₀ (n + added t r.tally) r.tally l'
  run_chain d p hands = singly_chain d (run_singly p) hands
