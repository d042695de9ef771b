-- Laws of the definitions in specs/Reading.antt: what the code computes is theirs, and any two answers that a promise allows are equal.
use Rattle.std.specs.Prelude.{Result, Ok, ⊤}
use Rattle.rules.specs.declared.Located.{Located}
use mathlib.Core.Path.{◌≡◌, refl, sym, ◌∙◌, ap, ap₂, subst}
use mathlib.Core.Bool.{Bool, true, false, not, cond}
use mathlib.Core.List.{List}
use Prim.Native.Nat.{ℕ, ◌+◌, ◌-◌, ◌≤◌, ◌<◌, min}
use native.Mathlib.Decide.{dec_lt}
use native.Mathlib.Omega.{arith}
use lib.ListN.{length, take, drop}
use Rattle.rules.specs.Contents.{contents}
use Rattle.interval.specs.declared.Tally.{Tally}
use Rattle.interval.specs.declared.Step.{Step}
use Rattle.interval.specs.Tally.{before_units, units_end}
use Rattle.interval.specs.Lent.{Lent}
use Rattle.interval.specs.Calls.{opened}
use Rattle.interval.proofs.Promises.{contents_only}
use Rattle.chain.proofs.Way.{any_frequency, any_unit}
use Rattle.chain.specs.BookRecords.{record_size}
use Rattle.reader.specs.declared.Reading.{Reading}
use Rattle.reader.specs.declared.Reading.TheVariants.{Contents, Record}
use Rattle.reader.specs.declared.Wanted.{Wanted}
use Rattle.reader.specs.declared.Came as n
use Rattle.reader.specs.declared.Came.{Came}
use Rattle.reader.specs.declared.Span.{Span}
use Rattle.reader.specs.Reading.{
  CamePromise,
  ContentsCame,
  HandedOn,
  RecordCame,
  WantedPromise,
  after_contents,
  after_record,
  all,
  asked,
  is_end,
  some,
  span_of,
  there_of,
  too_many,
  wanted_in,
  wanted_part,
}
use Rattle.reader.specs.Turns.{TurnPromise}
use Rattle.reader.proofs.Turns.{turn_only}

-- ---- the bytes that are asked for
pub more_none : (n : ℕ) → n ≡ n + 0
more_none n = omega arith

module _ (t : Tally) where
  pub asked_of_many : (alone : Bool) → not alone ≡ true → record_size t.units t.records ≡ asked t alone
  unfolding asked
  asked_of_many true h = let z : ◌≡◌ {A = Bool} false true = h in cc
  asked_of_many false h = omega arith

  pub asked_alone :
      (alone end : Bool) → not alone ≡ false → end ≡ is_end (t.records + 1) t →
      record_size t.units t.records + cond end 1 0 ≡ asked t alone
  unfolding asked
  asked_alone true end h e = ap (λ (x : Bool). record_size t.units t.records + cond x 1 0) e
  asked_alone false end h e = let z : ◌≡◌ {A = Bool} true false = h in cc

-- ---- where they go, by what the code computes
module _ (s : Span) (room : ℕ) {to start : ℕ} (ends : to ≡ min s.end room) (begins : start ≡ min s.start to) where
  pub from_end : to - start < s.got → to ≡ (wanted_in s room).from
  from_end h = omega arith

  pub from_start : s.got ≤ to - start → start + s.got ≡ (wanted_in s room).from
  from_start h = omega arith

pub wanted_says :
    (reading : Reading) (alone : Bool) (room : ℕ) {s : Span} {from to : ℕ} → s ≡ span_of reading alone → to ≡ (wanted_in s room).to →
    from ≡ (wanted_in s room).from → WantedPromise reading alone room (record { from = from; to = to })
wanted_says reading alone room same ends begins =
    record {
      reply = ap₂ (λ (from to : ℕ). record { from = from; to = to }) begins ends ∙ ap (λ (s : Span). wanted_in s room) same;
      ordered = omega arith;
      inside = omega arith;
    }

pub wanted_only :
    {reading : Reading} {alone : Bool} {room : ℕ} {r r' : Wanted} → WantedPromise reading alone room r → WantedPromise reading alone room r' → r ≡ r'
wanted_only a b = a.reply ∙ sym b.reply

-- ---- a place may be cut at the end of what is there
pub there_within : (start until : ℕ) (bytes : List ℕ) → take (until - min start until) (drop (min start until) bytes) ≡ take (until - start) (drop start bytes)
there_within start until bytes = go (dec_lt until start)
  where
    go : Dec (until < start) → take (until - min start until) (drop (min start until) bytes) ≡ take (until - start) (drop start bytes)
    go (yes h) =
        let none : until - min start until ≡ 0 = omega arith in
        let past : until - start ≡ 0 = omega arith in
        rw (none, past)
    go (no h) = let same : min start until ≡ start = omega arith in rw same

-- ---- what has come of it, by what the code computes of its span and of what was wanted
module _
    {sp s : Span} {w : Wanted} (room count : ℕ) (same : sp ≡ s) (asks : w ≡ wanted_in s room) {start : ℕ}
    (begins : start ≡ min sp.start (w.from + count)) where
  pub some_got : w.from + count < w.to → w.from + count - start ≡ s.got + count
  some_got h =
      omega (arith, begins, ap (λ (s : Span). s.start) same, ap (λ (w : Wanted). w.from) asks, ap (λ (w : Wanted). w.to) asks)

  pub there_is : (bytes : List ℕ) → take (w.from + count - start) (drop start bytes) ≡ there_of s (wanted_in s room) count bytes
  there_is bytes = rw (begins, asks, same) (there_within s.start ((wanted_in s room).from + count) bytes)

-- ---- what follows
pub handed_contents :
    {reading : Reading} {got : ℕ} {p q : List ℕ} {r : Came} (l : Lent) → reading ≡ Contents got → p ≡ q → ContentsCame p r → HandedOn reading q l r l
handed_contents {q = q} {r} l e f w =
    subst (λ (x : Reading). HandedOn x q l r l) (sym e) (subst (λ (p : List ℕ). ContentsCame p r) f w, refl)

pub handed_record :
    {reading : Reading} {t : Tally} {got : ℕ} {p q : List ℕ} {l l' : Lent} {r : Came} → reading ≡ Record t got → p ≡ q → RecordCame t p l r l' →
    HandedOn reading q l r l'
handed_record {t = t} {q = q} {l = l} {l'} {r} e f w =
    subst (λ (x : Reading). HandedOn x q l r l') (sym e) (subst (λ (p : List ℕ). RecordCame t p l r l') f w)

pub after_taken :
    {answer : Result ⊤ Located} (t : Tally) (end : Bool) → answer ≡ Ok tt → end ≡ is_end t.records t →
    cond end (n.TheVariants.Taken t) (n.TheVariants.Wants (Record t 0)) ≡ after_record answer t
after_taken t end e f =
    ap (λ (b : Bool). cond b (n.TheVariants.Taken t) (n.TheVariants.Wants (Record t 0))) f ∙ ap (λ (a : Result ⊤ Located). after_record a t) (sym e)

module _ {p : List ℕ} {r r₂ : Came} where
  contents_came_only : ContentsCame p r → ContentsCame p r₂ → r ≡ r₂
  contents_came_only a b = a.reply ∙ ap after_contents (contents_only a.promise b.promise) ∙ sym b.reply

module _ {t : Tally} {p : List ℕ} {l : Lent} {r r₂ : Came} {l' l₂ : Lent} where
  record_came_only : RecordCame t p l r l' → RecordCame t p l r₂ l₂ → (r ≡ r₂) × (l' ≡ l₂)
  record_came_only a b =
      let same = turn_only a.turn b.turn in
      (a.reply ∙ ap (λ (s : Step). after_record s.taking s.tally) same.0 ∙ sym b.reply, same.1)

handed_only :
    (reading : Reading) (p : List ℕ) (l : Lent) (r r₂ : Came) (l' l₂ : Lent) → HandedOn reading p l r l' → HandedOn reading p l r₂ l₂ →
    (r ≡ r₂) × (l' ≡ l₂)
handed_only (Contents got) p l r r₂ l' l₂ a b = (contents_came_only a.0 b.0, a.1 ∙ sym b.1)
handed_only (Record t got) p l r r₂ l' l₂ a b = record_came_only a b

module _ {reading : Reading} {alone : Bool} {count : ℕ} {bytes : List ℕ} {l : Lent} {r r₂ : Came} {l' l₂ : Lent} where
  pub came_only : CamePromise reading alone count bytes l r l' → CamePromise reading alone count bytes l r₂ l₂ → (r ≡ r₂) × (l' ≡ l₂)
  came_only (too_many _ a k) (too_many _ b m) = (a ∙ sym b, k ∙ sym m)
  came_only (too_many h _ _) (some f _ _) = absurd (omega (arith, h, f.1))
  came_only (too_many h _ _) (all f _) = absurd (omega (arith, h, f.0))
  came_only (some h _ _) (too_many f _ _) = absurd (omega (arith, f, h.1))
  came_only (some _ a k) (some _ b m) = (a ∙ sym b, k ∙ sym m)
  came_only (some h _ _) (all f _) = absurd (omega (arith, h.1, f.1 h.0))
  came_only (all h _) (too_many f _ _) = absurd (omega (arith, f, h.0))
  came_only (all h _) (some f _ _) = absurd (omega (arith, f.1, h.1 f.0))
  came_only (all _ a) (all _ b) = handed_only reading _ l r r₂ l' l₂ a b

-- ---- and each count has its answer, on any reading, bytes and lists
any_turn : (t : Tally) (p : List ℕ) (l : Lent) → (r : Step) × (l' : Lent) × TurnPromise t p l r l'
any_turn t p l = go (dec_lt t.records 1) (dec_lt t.records before_units) (dec_lt t.records (units_end t))
  where
    go : Dec (t.records < 1) → Dec (t.records < before_units) → Dec (t.records < units_end t) → (r : Step) × (l' : Lent) × TurnPromise t p l r l'
    go (yes a) _ _ = (_, l, TurnPromise.as_settings a (record { reply = refl }) refl)
    go (no a) (yes b) _ = (_, _, TurnPromise.as_frequency (omega arith) b (any_frequency t p l).2)
    go (no a) (no b) (yes c) = (_, _, TurnPromise.as_unit (omega arith) c (any_unit t p l).2)
    go (no a) (no b) (no c) = (_, l, TurnPromise.as_requirement (omega arith) (record { reply = refl }) refl)

any_handed : (reading : Reading) (p : List ℕ) (l : Lent) → (r : Came) × (l' : Lent) × HandedOn reading p l r l'
any_handed (Contents got) p l = (_, l, (record { opened = opened (contents p); promise = record { reply = refl }; reply = refl }, refl))
any_handed (Record t got) p l = let turn = any_turn t p l in (_, turn.1, record { step = turn.0; turn = turn.2; reply = refl })

pub any_came :
    (reading : Reading) (alone : Bool) (count : ℕ) (bytes : List ℕ) (l : Lent) → (r : Came) × (l' : Lent) × CamePromise reading alone count bytes l r l'
any_came reading alone count bytes l = go (dec_lt (w.to - w.from) count) (dec_lt 0 count) (dec_lt (w.from + count) w.to)
  where
    w : Wanted
    w = wanted_part reading alone (length bytes)

    go :
        Dec (w.to - w.from < count) → Dec (0 < count) → Dec (w.from + count < w.to) →
        (r : Came) × (l' : Lent) × CamePromise reading alone count bytes l r l'
    go (yes a) _ _ = (_, l, too_many a refl refl)
    go (no a) (yes b) (yes c) = (_, l, some (omega arith, c) refl refl)
    go (no a) (yes b) (no c) = let h = any_handed reading _ l in (h.0, h.1, all (omega arith, λ f. omega arith) h.2)
    go (no a) (no b) _ = let h = any_handed reading _ l in (h.0, h.1, all (omega arith, λ f. absurd (omega arith)) h.2)
