-- A caller's way through a book, whatever is refused on it: how far the calls go, and the refusal that they meet.
use Rattle.std.specs.Prelude.{Result, Ok, Err, ⊤}
use mathlib.Core.Path.{◌≡◌, refl, sym, ◌∙◌, ap, subst, subst₂}
use mathlib.Core.List.{List}
use Prim.Native.Nat.{ℕ, zero, suc, ◌+◌, ◌≤◌, ◌<◌}
use native.Mathlib.Decide.{dec_lt}
use native.Mathlib.Omega.{arith}
use lib.ListN.{get_or, take}
use Rattle.integers.proofs.Sums.{none_below}
use Rattle.rules.specs.declared.Located.{Located}
use Rattle.rules.specs.Refusals.{Reply, taken, refused}
use Rattle.rules.specs.Contents.{Counts, contents, contents_size}
use Rattle.interval.specs.declared.Tally.{Tally}
use Rattle.interval.specs.declared.Step.{Step}
use Rattle.interval.specs.Lent.{Lent}
use Rattle.interval.specs.Calls.{opened, stopped_step, stepped, settled, counted, unit_counted}
use Rattle.chain.specs.Taken.{counts_in}
use Rattle.chain.specs.Chain.{Taken, Refused, Chain, RecordTaken}
use Rattle.chain.proofs.ChainTheorem.{chain}
use Rattle.chain.proofs.ChainValues.{chain_only}
use Rattle.chain.specs.Long.{Long}
use Rattle.chain.proofs.Judged.{settings_judged, frequency_judged, unit_judged, requirement_judged}
use Rattle.chain.specs.BookRecords.{part_of}
use Rattle.chain.specs.Alike.{Alike}
use Rattle.chain.proofs.Alike.{whole, cut_behind, counts_same}
use Rattle.chain.specs.Way.{reads, Call, for_settings, for_frequency, for_unit, for_requirement, Way, opens, takes}
use Rattle.chain.proofs.Way.{way_chain, chain_way, call_alike, way_alike, call_only, any_call, refused_leaves}
use Rattle.chain.specs.BookWay.{Hands, Takes, Walked, arrived, at_contents, at_record, records_in, stopped}

-- ---- on any chain the call for the next record is taken where the format takes it, whatever was tried in its place before and refused (01: a refusal in
-- mid-book lets the same step be tried again with other bytes); `part n` is what it is handed now
module _
    (head : List ℕ) (part : ℕ → List ℕ) (l₀ : Lent) {n : ℕ} {t : Tally} {l : Lent} (d : Chain head part l₀ n t l)
    (long : Long l₀ (counts_in head).units) (bytes : (m i : ℕ) → m < n → get_or (part m) i 0 < 256) (w : RecordTaken part (counts_in head) n) where
  taken_is : {A : Type 0} (next : A → Tally) (reply : Reply A) {r : Step} {a : A} → r ≡ stepped next reply t → reply ≡ taken a → Taken r
  taken_is next reply e f = ap (λ (r : Step). r.taking) (e ∙ ap (λ (x : Reply _). stepped next x t) f)

  pub next_taken : {r : Step} {l' : Lent} → Call (counts_in head) (part n) n t l r l' → Taken r
  next_taken (for_settings z p _) = taken_is (settled t) _ p.reply (settings_judged d bytes z (part n) ∙ w.as_settings z)
  next_taken (for_frequency first last c) =
      taken_is (λ _. counted 0 t) _ c.reply (frequency_judged d bytes first last long (part n) ∙ w.as_frequency first last)
  next_taken (for_unit first last c) =
      taken_is (unit_counted t) _ c.reply (unit_judged d bytes first last long (part n) ∙ w.as_unit first last)
  next_taken (for_requirement first last p _) =
      taken_is (λ q. counted (q.number + 1) t) _ p.reply (requirement_judged d bytes first last (part n) ∙ w.as_requirement first)

-- a caller who cuts nothing off, and one who cuts off all that no call looks at
pub hands_whole : (bs : List ℕ) → Hands bs bs (part_of bs)
hands_whole bs = record { contents = whole contents_size bs; records = λ n _. whole (reads (counts_in bs) n) (part_of bs n) }

pub hands_cut : (bs : List ℕ) → Hands bs (take contents_size bs) (λ n. take (reads (counts_in bs) n) (part_of bs n))
hands_cut bs =
    let head = cut_behind contents_size contents_size bs (omega arith) in
    let same = counts_same head (omega arith) in
    record {
      contents = head;
      records =
          λ n _.
          subst (λ (c : Counts). Alike (reads c n) (take (reads (counts_in bs) n) (part_of bs n)) (part_of bs n)) (sym same)
          (cut_behind (reads (counts_in bs) n) (reads (counts_in bs) n) (part_of bs n) (omega arith));
    }

module _ {bs head : List ℕ} {part : ℕ → List ℕ} (hands : Hands bs head part) where
  pub hands_counts : counts_in head ≡ counts_in bs
  hands_counts = counts_same hands.contents (omega arith)

  -- a chain over what is handed on is one over the book's parts
  pub hands_chain : {l₀ : Lent} {n : ℕ} {t : Tally} {l : Lent} → Chain head part l₀ n t l → Chain bs (part_of bs) l₀ n t l
  hands_chain {l₀} d =
      let most = (chain d).most in
      way_chain bs (part_of bs) l₀ (way_alike hands.contents (λ m h. hands.records m (omega arith)) (chain_way head part l₀ d))

  pub hands_call :
      {l₀ : Lent} {n : ℕ} {t : Tally} {l l' : Lent} {r : Step} → Chain head part l₀ n t l → n < records_in head →
      Call (counts_in head) (part n) n t l r l' → Call (counts_in bs) (part_of bs n) n t l r l'
  hands_call {l₀} {n} {t} {l} {l'} {r} d h c =
      subst (λ (c : Counts). Call c (part_of bs n) n t l r l') hands_counts (call_alike d (hands.records n h) c)

pub taken_or_refused : {A : Type 0} (r : Step) {why : Located} → Taken r → Refused r why → A
taken_or_refused r e f = let z : ◌≡◌ {A = ℕ} 0 1 = cc in absurd (omega arith)

module _ (head : List ℕ) (part : ℕ → List ℕ) (l₀ : Lent) where
  -- chains that have come as far get the same answer from the next call
  same_answer :
      {n : ℕ} {t t' : Tally} {l l' m m' : Lent} {r r' : Step} → Chain head part l₀ n t l → Chain head part l₀ n t' l' →
      Call (counts_in head) (part n) n t l r m → Call (counts_in head) (part n) n t' l' r' m' → r ≡ r'
  same_answer {n} {t} {t'} {l} {l'} {m} {m'} {r} d d' c c' =
      let e = chain_only d d' in
      (call_only (subst₂ (λ (t : Tally) (l : Lent). Call (counts_in head) (part n) n t l r m) e.0 e.1 c) c').0

  taken_before :
      {m : ℕ} {t' : Tally} {m' : Lent} → Way head part l₀ m t' m' → {n : ℕ} {t : Tally} {l l' : Lent} {r : Step} → n < m → Chain head part l₀ n t l →
      Call (counts_in head) (part n) n t l r l' → Taken r
  taken_before (opens p) h d c = none_below _ h
  taken_before (takes {n = m} w c h) {n} {t} {l} {l'} {r} b d c' = go (dec_lt n m) (λ b. taken_before w b d c')
    where
      go : Dec (n < m) → (n < m → Taken r) → Taken r
      go (yes b) earlier = earlier b
      go (no f) earlier =
          let e : n ≡ m = omega arith in
          let here = subst (λ (n : ℕ). Chain head part l₀ n t l) e d in
          let same = same_answer here (way_chain head part l₀ w) (subst (λ (n : ℕ). Call (counts_in head) (part n) n t l r l') e c') c in
          ap (λ (r : Step). r.taking) same ∙ h

  pub way_takes : {m : ℕ} {t : Tally} {l : Lent} → Way head part l₀ m t l → (Takes head part l₀) m
  way_takes {m} {t} {l} w = record { each = taken_before w; there = (t, l, way_chain head part l₀ w) }

  start : (reply : Reply Counts) → contents head ≡ reply → (Walked head part l₀) 0
  start (taken c) e = arrived (opens (record { reply = sym (ap opened e) }))
  start (refused x) e = stopped (at_contents (record { reply = sym (ap opened e) }) refl)

  next :
      {n : ℕ} {t : Tally} {l l' : Lent} {r : Step} → n < records_in head → Way head part l₀ n t l → Call (counts_in head) (part n) n t l r l' →
      (Walked head part l₀) (suc n)
  next {n} {t} {l} {l'} {r} b w c = go r.taking refl
    where
      again :
          {why : Located} → Refused r why → {t : Tally} {l l' : Lent} {s : Step} → Chain head part l₀ n t l →
          Call (counts_in head) (part n) n t l s l' → (s ≡ stopped_step t why) × (l' ≡ l)
      again e d c' = refused_leaves c' (ap (λ (r : Step). r.taking) (same_answer d (way_chain head part l₀ w) c' c) ∙ e)

      furthest : {why : Located} → Refused r why → {k : ℕ} {t : Tally} {l : Lent} → Chain head part l₀ k t l → k ≤ n
      furthest e {k} d = at (dec_lt n k)
        where
          at : Dec (n < k) → k ≤ n
          at (yes further) = taken_or_refused r (taken_before (chain_way head part l₀ d) further (way_chain head part l₀ w) c) e
          at (no f) = omega arith

      go : (answer : Result ⊤ Located) → r.taking ≡ answer → (Walked head part l₀) (suc n)
      go (Ok tt) e = arrived (takes w c e)
      go (Err why) e =
          stopped (at_record (record { inside = b; before = way_takes w; refuses = again e; furthest = furthest e }))

  pub walk : (n : ℕ) → n ≤ records_in head → (Walked head part l₀) n
  walk zero h = start (contents head) refl
  walk (suc n) h = go (walk n (omega arith))
    where
      go : (Walked head part l₀) n → (Walked head part l₀) (suc n)
      go (arrived {t} {l} w) = next (omega arith) w (any_call (counts_in head) (part n) n t l (omega arith)).2
      go (stopped m) = stopped m
