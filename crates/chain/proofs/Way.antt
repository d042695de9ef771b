-- A chain without its refused calls: the table of contents, then the call for each record in turn. Every chain is one, with the same tally and lists; and it
-- depends on nothing but the records that its parts start with.
use Rattle.std.specs.Prelude.{Result, ⊤}
use mathlib.Core.Path.{◌≡◌, refl, sym, ◌∙◌, ap, ap₂, subst}
use mathlib.Core.Bool.{cond}
use mathlib.Core.List.{List}
use Prim.Native.Nat.{ℕ, suc, ◌+◌, ◌≤◌, ◌<◌}
use native.Mathlib.Decide.{dec_lt}
use native.Mathlib.Omega.{arith}
use lib.Dec.{eqb, ltb}
use borrow.Author.Tests.{lt-ltb, le-ltb}
use Rattle.rules.specs.declared.Refusal.{Refusal}
use Rattle.rules.specs.declared.Located.{Located}
use Rattle.rules.specs.Refusals.{Reply, located}
use Rattle.rules.specs.Contents.{Counts, contents_size, requirement_size}
use Rattle.interval.specs.declared.Tally.{Tally}
use Rattle.interval.specs.declared.Step.{Step}
use Rattle.interval.specs.Tally.{next_place, before_units, book_end}
use Rattle.interval.specs.Lent.{Lent}
use Rattle.interval.specs.Calls.{stopped_step, stepped, left, settled, counted, unit_counted, settings_reply, frequency_reply, unit_reply, requirement_reply}
use Rattle.interval.specs.Promises.{FrequencyPromise, UnitPromise, region_kept, unit_kept}
use Rattle.chain.specs.Taken.{counts_in}
use Rattle.interval.proofs.Calls.{step_taken, step_refused, named_at}
use Rattle.chain.proofs.Taken.{settings_passed, frequency_passed, unit_passed, requirement_passed}
use Rattle.chain.specs.Chain.{
  Taken,
  Refused,
  Chain,
  begun,
  took_settings,
  took_frequency,
  took_unit,
  took_requirement,
  refused_settings,
  refused_frequency,
  refused_unit,
  refused_requirement,
}
use Rattle.chain.proofs.ChainTheorem.{frequency_stays, unit_stays, chain}
use Rattle.chain.proofs.BookRecords.{settings_sized, frequency_sized, unit_sized, requirement_sized}
use Rattle.chain.specs.Alike.{Alike}
use Rattle.chain.proofs.Alike.{counts_same, contents_alike, settings_alike, frequency_alike, unit_alike, requirement_alike}
use Rattle.chain.specs.Way.{Call, Way, for_frequency, for_requirement, for_settings, for_unit, opens, reads, records_of, takes}

-- ---- THE WAY: the calls have taken the first n records, and refused none
module _ (head : List ℕ) (part : ℕ → List ℕ) (l₀ : Lent) where
  pub chain_takes :
      {n : ℕ} {t : Tally} {l l' : Lent} {r : Step} → Chain head part l₀ n t l → Call (counts_in head) (part n) n t l r l' → Taken r →
      Chain head part l₀ (suc n) r.tally l'
  chain_takes d (for_settings _ p e) h = rw e (took_settings d p h)
  chain_takes d (for_frequency _ _ c) h = took_frequency d c h
  chain_takes d (for_unit _ _ c) h = took_unit d c h
  chain_takes d (for_requirement _ _ p e) h = rw e (took_requirement d p h)

  pub way_chain : {n : ℕ} {t : Tally} {l : Lent} → (Way head part l₀) n t l → Chain head part l₀ n t l
  way_chain (opens p) = begun p
  way_chain (takes w c h) = chain_takes (way_chain w) c h

  -- each call that was taken is the one whose turn it was, and refused ones leave no trace
  pub chain_way : {n : ℕ} {t : Tally} {l : Lent} → Chain head part l₀ n t l → (Way head part l₀) n t l
  chain_way (begun p) = opens p
  chain_way (took_settings {n} {t} d p h) =
      let w = chain d in
      let a = step_taken (settled t) t (settings_reply t (part n)) p.reply h in
      takes (chain_way d) (for_settings (omega (arith, w.records, (settings_passed t (part n) a.0 a.1).0)) p refl) h
  chain_way (took_frequency {n} {t} {l} d c h) =
      let w = chain d in
      let a = step_taken (λ _. counted 0 t) t (frequency_reply t (part n) l) c.reply h in
      let f = frequency_passed t (part n) l a.0 a.1 in
      takes (chain_way d) (for_frequency (omega (arith, w.records, f.first)) (omega (arith, w.records, f.last)) c) h
  chain_way (took_unit {n} {t} {l} d c h) =
      let w = chain d in
      let a = step_taken (unit_counted t) t (unit_reply t (part n) l) c.reply h in
      let f = unit_passed t (part n) l a.0 a.1 in
      takes (chain_way d) (for_unit (omega (arith, w.records, f.first)) (omega (arith, w.records, w.units, f.last)) c) h
  chain_way (took_requirement {n} {t} d p h) =
      let w = chain d in
      let a = step_taken (λ q. counted (q.number + 1) t) t (requirement_reply t (part n)) p.reply h in
      let f = requirement_passed t (part n) a.0 a.1 in
      takes (chain_way d)
      (for_requirement (omega (arith, w.records, w.units, f.0)) (omega (arith, w.records, w.units, w.requirements, f.1)) p refl) h
  chain_way (refused_settings {t} {p} d w h) = rw (step_refused (settled t) t (settings_reply t p) w.reply h).1 (chain_way d)
  chain_way (refused_frequency d w h) = let e = frequency_stays w h in rw (e.0, e.1) (chain_way d)
  chain_way (refused_unit d w h) = let e = unit_stays w h in rw (e.0, e.1) (chain_way d)
  chain_way (refused_requirement {t} {p} d w h) =
      rw (step_refused (λ q. counted (q.number + 1) t) t (requirement_reply t p) w.reply h).1 (chain_way d)

-- ---- parts that start with the same records lead the same way
module _ {head : List ℕ} {part : ℕ → List ℕ} {l₀ : Lent} where
  pub call_alike :
      {n : ℕ} {t : Tally} {l l' : Lent} {r : Step} {p q : List ℕ} → Chain head part l₀ n t l → Alike (reads (counts_in head) n) p q →
      Call (counts_in head) p n t l r l' → Call (counts_in head) q n t l r l'
  call_alike {n} {t} d a (for_settings z w e) = for_settings z (settings_alike a t (omega (arith, settings_sized (counts_in head).units n z)) w) e
  call_alike {n} {t} d a (for_frequency first last w) =
      for_frequency first last (frequency_alike a t (omega (arith, frequency_sized (counts_in head).units n first last)) w)
  call_alike {n} {t} d a (for_unit first last w) =
      for_unit first last (unit_alike a t (omega (arith, unit_sized (counts_in head).units n first last)) w)
  call_alike {n} {t} d a (for_requirement first last w e) =
      let m = chain d in
      let looks : requirement_size + cond (eqb (t.records + 1) (book_end t)) 1 0 ≤ reads (counts_in head) n =
      rw (m.records, m.units, m.requirements, requirement_sized (counts_in head).units n first) (omega arith) in
      for_requirement first last (requirement_alike a t looks w) e

  pub way_alike :
      {head' : List ℕ} {part' : ℕ → List ℕ} {n : ℕ} {t : Tally} {l : Lent} → Alike contents_size head head' →
      ((m : ℕ) → m < n → Alike (reads (counts_in head) m) (part m) (part' m)) → Way head part l₀ n t l → Way head' part' l₀ n t l
  way_alike a each (opens p) = opens (contents_alike a (omega arith) p)
  way_alike {head'} {part'} a each (takes {n} {t} {l} {l'} {r} w c h) =
      let same = call_alike (way_chain head part l₀ w) (each n (omega arith)) c in
      takes (way_alike a (λ m b. each m (omega arith)) w)
      (subst (λ (c : Counts). Call c (part' n) n t l r l') (counts_same a (omega arith)) same) h

-- ---- a call has one answer: what it says, and the lists that it leaves
after : Counts → List ℕ → ℕ → Tally → Lent → Step × Lent
after c p n t l =
    cond (ltb n 1) (stepped (settled t) (settings_reply t p) t, l)
    (cond (ltb n before_units) (stepped (λ _. counted 0 t) (frequency_reply t p l) t, left (region_kept t) (frequency_reply t p l) l)
    (cond (ltb n (before_units + c.units)) (stepped (unit_counted t) (unit_reply t p l) t, left (unit_kept t) (unit_reply t p l) l)
    (stepped (λ q. counted (q.number + 1) t) (requirement_reply t p) t, l)))

both_same : {r s : Step} {l₁ l₂ : Lent} → r ≡ s → l₁ ≡ l₂ → ◌≡◌ {A = Step × Lent} (r, l₁) (s, l₂)
both_same e f = ap₂ (λ (r : Step) (l : Lent). (r, l)) e f

module _ {c : Counts} {p : List ℕ} {n : ℕ} {t : Tally} {l : Lent} where
  call_is : {r : Step} {l' : Lent} → Call c p n t l r l' → (r, l') ≡ after c p n t l
  unfolding after
  call_is (for_settings z w e) = rw z (both_same w.reply e)
  call_is (for_frequency first last w) = rw (le-ltb n 1 first, lt-ltb n before_units last) (both_same w.reply w.lent)
  call_is (for_unit first last w) =
      rw (le-ltb n 1 (omega arith), le-ltb n before_units first, lt-ltb n (before_units + c.units) last) (both_same w.reply w.lent)
  call_is (for_requirement first last w e) =
      rw (le-ltb n 1 (omega arith), le-ltb n before_units (omega arith), le-ltb n (before_units + c.units) first) (both_same w.reply e)

  pub call_only : {r s : Step} {l₁ l₂ : Lent} → Call c p n t l r l₁ → Call c p n t l s l₂ → (r ≡ s) × (l₁ ≡ l₂)
  call_only a b =
      let e = call_is a ∙ sym (call_is b) in
      (ap (λ (x : Step × Lent). x.0) e, ap (λ (x : Step × Lent). x.1) e)

-- and each record has its call, on any tally and lists
pub any_frequency : (t : Tally) (p : List ℕ) (l : Lent) → (r : Step) × (l' : Lent) × FrequencyPromise t p l r l'
any_frequency t p l = (_, _, record { reply = refl; lent = refl })

pub any_unit : (t : Tally) (p : List ℕ) (l : Lent) → (r : Step) × (l' : Lent) × UnitPromise t p l r l'
any_unit t p l = (_, _, record { reply = refl; lent = refl })

pub any_call : (c : Counts) (p : List ℕ) (n : ℕ) (t : Tally) (l : Lent) → n < records_of c → (r : Step) × (l' : Lent) × Call c p n t l r l'
any_call c p n t l h = go (dec_lt n 1) (dec_lt n before_units) (dec_lt n (before_units + c.units))
  where
    go : Dec (n < 1) → Dec (n < before_units) → Dec (n < before_units + c.units) → (r : Step) × (l' : Lent) × Call c p n t l r l'
    go (yes a) _ _ = (stepped (settled t) (settings_reply t p) t, l, for_settings (omega arith) (record { reply = refl }) refl)
    go (no a) (yes b) _ = (_, _, for_frequency (omega arith) b (any_frequency t p l).2)
    go (no a) (no b) (yes c) = (_, _, for_unit (omega arith) c (any_unit t p l).2)
    go (no a) (no b) (no c) =
        (stepped (λ q. counted (q.number + 1) t) (requirement_reply t p) t, l, for_requirement (omega arith) h (record { reply = refl }) refl)

-- a call that refuses leaves all as it came
refused_is :
    {A : Type 0} (next : A → Tally) (t : Tally) (reply : Reply A) {r : Step} {why : Located} → r ≡ stepped next reply t → Refused r why → r ≡ stopped_step t why
refused_is next t reply e h = ap₂ (λ (t : Tally) (k : Result ⊤ Located). record { tally = t; taking = k }) (step_refused next t reply e h).1 h

pub refused_leaves :
    {c : Counts} {p : List ℕ} {n : ℕ} {t : Tally} {l l' : Lent} {r : Step} {why : Located} → Call c p n t l r l' → Refused r why →
    (r ≡ stopped_step t why) × (l' ≡ l)
refused_leaves {c} {p} {n} {t} (for_settings _ w e) h = (refused_is (settled t) t (settings_reply t p) w.reply h, e)
refused_leaves {c} {p} {n} {t} {l} (for_frequency _ _ w) h =
    (refused_is (λ _. counted 0 t) t (frequency_reply t p l) w.reply h, (frequency_stays w h).1)
refused_leaves {c} {p} {n} {t} {l} (for_unit _ _ w) h = (refused_is (unit_counted t) t (unit_reply t p l) w.reply h, (unit_stays w h).1)
refused_leaves {c} {p} {n} {t} (for_requirement _ _ w e) h = (refused_is (λ q. counted (q.number + 1) t) t (requirement_reply t p) w.reply h, e)

-- and its refusal names the place of the record that was to be taken
pub refused_names :
    {c : Counts} {p : List ℕ} {n : ℕ} {t : Tally} {l l' : Lent} {r : Step} {why : Located} → Call c p n t l r l' → Refused r why →
    (x : Refusal) × (located (next_place t) x ≡ why)
refused_names {c} {p} {n} {t} (for_settings _ w e) h =
    named_at (next_place t) (settings_reply t p) (step_refused (settled t) t (settings_reply t p) w.reply h).0
refused_names {c} {p} {n} {t} {l} (for_frequency _ _ w) h =
    named_at (next_place t) (frequency_reply t p l) (step_refused (λ _. counted 0 t) t (frequency_reply t p l) w.reply h).0
refused_names {c} {p} {n} {t} {l} (for_unit _ _ w) h =
    named_at (next_place t) (unit_reply t p l) (step_refused (unit_counted t) t (unit_reply t p l) w.reply h).0
refused_names {c} {p} {n} {t} (for_requirement _ _ w e) h =
    named_at (next_place t) (requirement_reply t p) (step_refused (λ q. counted (q.number + 1) t) t (requirement_reply t p) w.reply h).0
