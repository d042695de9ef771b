-- One arrival: from where a walk stands it leads to such a place again, to the book's end, or to the format's refusal.
use Rattle.std.specs.Prelude.{Result, Ok, Err, ⊤}
use Rattle.rules.specs.declared.Refusal.{Refusal}
use mathlib.Core.Path.{◌≡◌, refl, sym, ◌∙◌, ap, ap₂, subst}
use mathlib.Core.Bool.{Bool, true, false, cond}
use mathlib.Core.Logic.{◌⊎◌, inl, inr}
use mathlib.Core.List.{List}
use Prim.Native.Nat.{ℕ, suc, ◌+◌, ◌*◌, ◌-◌, ◌≤◌, ◌<◌}
use native.Mathlib.Decide.{dec_lt}
use native.Mathlib.Omega.{arith}
use lib.ListN.{length, get_or, take, drop, length-drop}
use lib.Seq.{take_all}
use borrow.Author.Tests.{eq-eqb, ne_eqb, eqb-true, eqb-false}
use Rattle.rules.specs.declared.Located.{Located}
use Rattle.rules.specs.Refusals.{taken, refused}
use Rattle.rules.specs.Contents.{contents, contents_size, requirement_size}
use Rattle.rules.specs.WholeBook.{book}
use Rattle.interval.specs.declared.Tally.{Tally}
use Rattle.interval.specs.declared.Step.{Step}
use Rattle.interval.specs.Tally.{before_units, units_end, book_end}
use Rattle.interval.specs.Lent.{Lent}
use Rattle.interval.specs.Promises.{ContentsPromise}
use Rattle.chain.specs.Taken.{counts_in}
use Rattle.chain.proofs.Taken.{contents_is}
use Rattle.chain.specs.Chain.{Chain, Means, begun}
use Rattle.chain.proofs.ChainTheorem.{chain}
use Rattle.chain.specs.Long.{Long}
use Rattle.chain.specs.BookRecords.{part_of, record_size, record_start}
use Rattle.chain.proofs.BookRecords.{requirement_sized}
use Rattle.chain.specs.Alike.{Alike}
use Rattle.chain.proofs.Alike.{whole, cut_behind, contents_alike}
use Rattle.chain.specs.Way.{reads, Call}
use Rattle.chain.proofs.Way.{call_alike, chain_takes}
use Rattle.chain.specs.BookWay.{records_in, at_contents}
use Rattle.chain.proofs.BookWay.{hands_whole}
use Rattle.chain.proofs.BookRefused.{refused_here, refused_book}
use Rattle.chain.proofs.Spelled.{record_long}
use Rattle.reader.specs.declared.Reading.{Reading}
use Rattle.reader.specs.declared.Reading.TheVariants.{Contents, Record}
use Rattle.reader.specs.declared.Wanted.{Wanted}
use Rattle.reader.specs.declared.Came.{Came}
use Rattle.reader.specs.declared.Came.TheVariants.{Wants, Taken, Refused}
use Rattle.reader.specs.Turns.{TurnPromise}
use Rattle.reader.specs.Reading.{
  All,
  CamePromise,
  ContentsCame,
  RecordCame,
  Some,
  TooMany,
  after_contents,
  after_record,
  all,
  asked,
  is_end,
  some,
  span_of,
  there_of,
  too_many,
  wanted_part,
}
use Rattle.reader.specs.Arrives.{Arrives, Seen, book_size}
use Rattle.reader.proofs.OneMore.{OneMore, chain_calls, one_more}
use Rattle.reader.proofs.Arrives.{
  AtContents,
  AtRecord,
  Keeps,
  Stands,
  asked_before_last,
  asked_last,
  asked_least,
  contents_long,
  more_come,
  part_alike,
  record_some,
  span_fits,
}

-- what the theorem asks for: bytes behind the book are seen, the lists are long enough for the units told, and the input is of bytes
pub record Fair (alone : Bool) (bs : List ℕ) (l₀ : Lent) : Type 0 where
  pub seen : Seen alone bs
  pub long : contents bs ≡ taken (counts_in bs) → Long l₀ (counts_in bs).units
  pub bytes : (i : ℕ) → get_or bs i 0 < 256

-- the calls have taken every record of the book
pub record AtEnd (bs : List ℕ) (l₀ : Lent) (t : Tally) (place : List ℕ) (l : Lent) : Type 0 where
  pub chain : Chain bs (part_of bs) l₀ (records_in bs) t l
  pub kept :
      (i : ℕ) → units_end t + i < records_in bs → Keeps bs t place i

abbrev pub After : (alone : Bool) (bs : List ℕ) (l₀ : Lent) (count p : ℕ) → Came → List ℕ → Lent → Type 0
After alone bs l₀ count p (Wants reading) place l = (1 ≤ count) × Stands alone bs l₀ p reading place l
After alone bs l₀ count p (Taken t) place l = Fair alone bs l₀ → AtEnd bs l₀ t place l
After alone bs l₀ count p (Refused why) place l = Fair alone bs l₀ → book bs ≡ refused why

not_last : {n end : ℕ} → n < end → (n + 1 ≡ end → ⊥) → n + 1 < end
not_last {n} {end} inside other = go (dec_lt (n + 1) end)
  where
    go : Dec (n + 1 < end) → n + 1 < end
    go (yes b) = b
    go (no b) = absurd (other (omega arith))

-- ---- of the record whose turn it is
module _
    {alone : Bool} {bs : List ℕ} {l₀ : Lent} {p : ℕ} {t : Tally} {got : ℕ} {old : List ℕ} {l : Lent} (s : AtRecord alone bs l₀ p t got old l)
  where
    abbrev n : ℕ
    n = t.records

    abbrev units : ℕ
    units = (counts_in bs).units

    abbrev start : ℕ
    start = requirement_size * (t.records - units_end t)

    pub means : Means bs (part_of bs) l₀ t.records t l
    means = chain s.chain

    pub same_end : book_end t ≡ records_in bs
    same_end = ap₂ (λ (u q : ℕ). before_units + u + q) means.units means.requirements

    fits : start + asked t alone ≤ 769
    fits =
        let few = (contents_is bs (counts_in bs) means.table).1.requirements in
        span_fits t alone s.inside (omega (arith, few, means.requirements))

    pub wanted_from : (room : ℕ) → 769 ≤ room → (wanted_part (Record t got) alone room).from ≡ start + got
    wanted_from room h = omega (arith, fits, s.few)

    pub wanted_to : (room : ℕ) → 769 ≤ room → (wanted_part (Record t got) alone room).to ≡ start + asked t alone
    wanted_to room h = omega (arith, fits)

    -- what is left of the book there
    left_long : length (part_of bs n) ≡ length bs - record_start units n
    unfolding part_of
    left_long = length-drop (record_start units n) bs

    module _ {count : ℕ} {new : List ℕ} (room : 769 ≤ length old) (a : Arrives bs p (wanted_part (Record t got) alone (length old)) count old new) where
      abbrev come_now : ℕ
      come_now = got + count

      before_them : take (start + got) new ≡ take (start + got) old
      before_them = subst (λ (k : ℕ). take k new ≡ take k old) (wanted_from (length old) room) a.before

      have : take come_now (drop start new) ≡ take come_now (part_of bs n)
      unfolding part_of
      have =
          more_come old new bs start (record_start units n) got count before_them
          (ap (λ (k : ℕ). take count (drop k new)) (sym (wanted_from (length old) room)) ∙ a.bytes ∙ ap (λ (k : ℕ). take count (drop k bs)) s.come)
          s.here

      kept_them :
          (i : ℕ) → units_end t + i < t.records → Keeps bs t new i
      kept_them i h = part_alike new old (start + got) (requirement_size * i) requirement_size before_them (omega arith) ∙ s.kept i h

      new_room : 769 ≤ length new
      new_room = omega (arith, a.size)

      -- more of it
      some_more : Some (wanted_part (Record t got) alone (length new)) count → AtRecord alone bs l₀ (p + count) t come_now new l
      some_more h =
          record {
            chain = s.chain;
            inside = s.inside;
            come = omega (arith, s.come);
            within = a.there;
            few = omega (arith, h.1, wanted_from (length new) new_room, wanted_to (length new) new_room);
            here = have;
            kept = kept_them;
          }

      -- what is handed on is what has come of it
      handed_is :
          there_of (span_of (Record t got) alone) (wanted_part (Record t got) alone (length new)) count new ≡ take come_now (part_of bs n)
      handed_is =
          let many : (wanted_part (Record t got) alone (length new)).from + count - start ≡ come_now = omega (arith, wanted_from (length new) new_room) in
          ap (λ (k : ℕ). take k (drop start new)) many ∙ have

      module _ (whole_come : All (wanted_part (Record t got) alone (length new)) count) where
        all_come : 1 ≤ count → come_now ≡ asked t alone
        all_come some_came = omega (arith, whole_come.1 some_came, wanted_from (length new) new_room, wanted_to (length new) new_room)

        -- an end: nothing is left behind it
        none_left : count ≡ 0 → length (part_of bs n) ≡ come_now
        none_left z =
            let ended = a.ended z (omega (arith, wanted_from (length old) room, wanted_to (length old) room, s.few)) in
            omega (arith, left_long, ended, s.come)

        -- what the call looks at
        abbrev Looks : Type 0
        Looks = (reads (counts_in bs) n ≤ asked t alone) ⊎ (length (part_of bs n) ≤ asked t alone)

        same_part : length (part_of bs n) ≤ come_now → Alike (reads (counts_in bs) n) (take come_now (part_of bs n)) (part_of bs n)
        same_part few =
            subst (λ (q : List ℕ). Alike (reads (counts_in bs) n) q (part_of bs n)) (sym (take_all come_now (part_of bs n) few)) (whole _ (part_of bs n))

        handed_alike : Looks → Alike (reads (counts_in bs) n) (take come_now (part_of bs n)) (part_of bs n)
        handed_alike looks = go (dec_lt 0 count) looks
          where
            go : Dec (0 < count) → Looks → Alike (reads (counts_in bs) n) (take come_now (part_of bs n)) (part_of bs n)
            go (yes c) (inl few) = cut_behind _ come_now (part_of bs n) (omega (arith, all_come (omega arith)))
            go (yes c) (inr few) = same_part (omega (arith, all_come (omega arith)))
            go (no c) looks = same_part (omega (arith, none_left (omega arith)))

        looks_before_last : n + 1 < book_end t → Looks
        looks_before_last b =
            let none = ne_eqb (n + 1) (records_in bs) (λ e. omega (arith, same_end)) in
            inl (rw (none, ← means.units) (omega (arith, asked_least t alone)))

        last_start : n + 1 ≡ records_in bs → book_size bs ≡ record_start units n + record_size units n
        unfolding record_start
        last_start e = let next : records_in bs ≡ suc n = omega arith in ap (record_start units) next

        looks_seen : Seen alone bs → Looks
        looks_seen seen = go alone seen refl (dec_lt (n + 1) (book_end t))
          where
            go : (x : Bool) → Seen x bs → alone ≡ x → Dec (n + 1 < book_end t) → Looks
            go x seen e (yes b) = looks_before_last b
            go true seen e (no b) =
                let last : n + 1 ≡ book_end t = omega (arith, s.inside) in
                let here = eq-eqb (n + 1) (records_in bs) (last ∙ same_end) in
                inl (rw (here, ← means.units) (omega (arith, asked_last t alone e last)))
            go false seen e (no b) =
                let last : n + 1 ≡ records_in bs = omega (arith, same_end, s.inside) in
                inr (omega (arith, asked_least t alone, last_start last, left_long, ap (λ (u : ℕ). record_size u n) means.units))

        module _ {step : Step} {l' : Lent}
            (turn : TurnPromise t (there_of (span_of (Record t got) alone) (wanted_part (Record t got) alone (length new)) count new) l step l') where
          call : Looks → Call (counts_in bs) (part_of bs n) n t l step l'
          call looks =
              call_alike s.chain (handed_alike looks)
              (subst (λ (q : List ℕ). Call (counts_in bs) q n t l step l') handed_is (chain_calls s.chain s.inside turn))

          call_refused : {why : Located} → step.taking ≡ Err why → Fair alone bs l₀ → book bs ≡ refused why
          call_refused e fair =
              refused_here l₀ (hands_whole bs) fair.long fair.bytes s.chain (omega (arith, same_end, s.inside)) (call (looks_seen fair.seen)) e

          module _ (h : step.taking ≡ Ok tt) where
            more : OneMore t step.tally
            more = one_more s.chain s.inside turn h

            module _ (looks : Looks) where
              longer : Chain bs (part_of bs) l₀ (suc n) step.tally l'
              longer = chain_takes bs (part_of bs) l₀ s.chain (call looks) h

              record_there : record_size t.units n ≤ length (part_of bs n)
              record_there =
                  rw means.units (record_long (part_of bs) (counts_in bs) n ((chain longer).taken_each n (omega arith)))

              -- so it has come, all of it
              record_come : record_size t.units n ≤ come_now
              record_come = go (dec_lt 0 count)
                where
                  go : Dec (0 < count) → record_size t.units n ≤ come_now
                  go (yes c) = omega (arith, all_come (omega arith), asked_least t alone)
                  go (no c) = omega (arith, none_left (omega arith), record_there)

              kept_all :
                  (i : ℕ) → units_end t + i < n + 1 →
                  Keeps bs t new i
              kept_all i b = go (dec_lt (units_end t + i) n)
                where
                  go : Dec (units_end t + i < n) →
                      Keeps bs t new i
                  go (yes c) = kept_them i c
                  go (no c) =
                      let here : n ≡ units_end t + i = omega arith in
                      let stands : start ≡ requirement_size * i = omega arith in
                      let size = requirement_sized t.units n (omega arith) in
                      ap (λ (k : ℕ). take requirement_size (drop k new)) (sym stands)
                      ∙ part_alike (drop start new) (part_of bs n) come_now 0 requirement_size have (omega (arith, record_come, size))
                      ∙ ap (λ (m : ℕ). take requirement_size (part_of bs m)) here

            -- the book goes on
            going_on : n + 1 < book_end t → (1 ≤ count) × AtRecord alone bs l₀ (p + count) step.tally 0 new l'
            unfolding record_start
            going_on b =
                let looks = looks_before_last b in
                let size = asked_before_last t alone b in
                let come = record_come looks in
                let from = wanted_from (length new) new_room in
                let many : come_now ≡ record_size t.units n = omega (arith, size, whole_come.0, come, from, wanted_to (length new) new_room) in
                let o = more in
                let next : suc n ≡ step.tally.records = omega (arith, (o).records) in (
                  omega (arith, many, size, s.few),
                  record {
                    chain = subst (λ (m : ℕ). Chain bs (part_of bs) l₀ m step.tally l') next (longer looks);
                    inside = omega (arith, (o).records, (o).units, (o).requirements);
                    come =
                        let size_is = ap (λ (u : ℕ). record_size u n) means.units in
                        let starts = ap (record_start units) (sym next) in
                        omega (arith, s.come, many, size_is, starts);
                    within = a.there;
                    few = omega (arith, record_some step.tally.units step.tally.records, asked_least step.tally alone);
                    here = refl;
                    kept =
                        λ i f.
                        kept_all looks i (omega (arith, (o).records, (o).units))
                        ∙ ap (λ (u : ℕ). take requirement_size (part_of bs (before_units + u + i))) (sym (o).units);
                  },
                )

            -- or is at its end
            at_end : n + 1 ≡ book_end t → Fair alone bs l₀ → AtEnd bs l₀ step.tally new l'
            at_end b fair =
                let looks = looks_seen fair.seen in
                let o = more in
                let all_in : suc n ≡ records_in bs = omega (arith, same_end) in
                record {
                  chain = subst (λ (m : ℕ). Chain bs (part_of bs) l₀ m step.tally l') all_in (longer looks);
                  kept =
                      λ i f.
                      kept_all looks i (omega (arith, (o).units, all_in))
                      ∙ ap (λ (u : ℕ). take requirement_size (part_of bs (before_units + u + i))) (sym (o).units);
                }

        record_next :
            {r : Came} {l' : Lent} →
            RecordCame t (there_of (span_of (Record t got) alone) (wanted_part (Record t got) alone (length new)) count new) l r l' →
            After alone bs l₀ count (p + count) r new l'
        record_next {r} {l'} w =
            subst (λ (x : Came). After alone bs l₀ count (p + count) x new l') (sym w.reply) (go w.step.taking refl (is_end tally.records tally) refl)
          where
            tally : Tally
            tally = w.step.tally

            go :
                (x : Result ⊤ Located) → w.step.taking ≡ x → (e : Bool) → is_end tally.records tally ≡ e →
                After alone bs l₀ count (p + count) (after_record x tally) new l'
            go (Err why) e _ _ = call_refused w.turn e
            go (Ok tt) e x f =
                subst (λ (b : Bool). After alone bs l₀ count (p + count) (cond b (Taken tally) (Wants (Record tally 0))) new l') (sym f) (ends x f)
              where
                o : OneMore t tally
                o = more w.turn e

                ends :
                    (x : Bool) → is_end tally.records tally ≡ x →
                    After alone bs l₀ count (p + count) (cond x (Taken tally) (Wants (Record tally 0))) new l'
                ends true f = at_end w.turn e (omega (arith, eqb-true tally.records (book_end tally) f, (o).records, (o).units, (o).requirements))
                ends false f =
                    let on = eqb-false tally.records (book_end tally) f in
                    going_on w.turn e
                    (not_last {n = t.records} {end = book_end t} s.inside (λ z. on (omega (arith, z, (o).records, (o).units, (o).requirements))))

-- ---- of the table of contents
module _
    {alone : Bool} {bs : List ℕ} {l₀ : Lent} {p got : ℕ} {old : List ℕ} {l : Lent} (s : AtContents alone bs l₀ p got old l) {count : ℕ} {new : List ℕ}
    (room : 769 ≤ length old) (a : Arrives bs p (wanted_part (Contents got) alone (length old)) count old new) where
  table_from : (room : ℕ) → 769 ≤ room → (wanted_part (Contents got) alone room).from ≡ 0 + got
  table_from room h = omega (arith, s.few)

  table_to : (room : ℕ) → 769 ≤ room → (wanted_part (Contents got) alone room).to ≡ contents_size
  table_to room h = omega arith

  table_room : 769 ≤ length new
  table_room = omega (arith, a.size)

  table_have : take (got + count) new ≡ take (got + count) bs
  table_have =
      let place : p ≡ 0 + got = omega (arith, s.come) in
      more_come old new bs 0 0 got count (subst (λ (k : ℕ). take k new ≡ take k old) (table_from (length old) room) a.before)
      (ap (λ (k : ℕ). take count (drop k new)) (sym (table_from (length old) room)) ∙ a.bytes ∙ ap (λ (k : ℕ). take count (drop k bs)) place) s.here

  some_table : Some (wanted_part (Contents got) alone (length new)) count → l ≡ l₀ → AtContents alone bs l₀ (p + count) (got + count) new l
  some_table h e =
      record {
        come = omega (arith, s.come);
        within = a.there;
        few = omega (arith, h.1, table_from (length new) table_room);
        here = table_have;
        lent = e;
      }

  table_handed : there_of (span_of (Contents got) alone) (wanted_part (Contents got) alone (length new)) count new ≡ take (got + count) bs
  table_handed =
      let many : (wanted_part (Contents got) alone (length new)).from + count - 0 ≡ got + count = omega (arith, table_from (length new) table_room) in
      ap (λ (k : ℕ). take k new) many ∙ table_have

  module _ (whole_come : All (wanted_part (Contents got) alone (length new)) count) where
    table_come : 1 ≤ count → got + count ≡ contents_size
    table_come c = omega (arith, whole_come.1 c, table_from (length new) table_room, table_to (length new) table_room)

    table_ended : count ≡ 0 → length bs ≡ got
    table_ended z = omega (arith, a.ended z (omega (arith, table_from (length old) room, table_to (length old) room, s.few)), s.come)

    table_alike : Alike contents_size (take (got + count) bs) bs
    table_alike = go (dec_lt 0 count)
      where
        go : Dec (0 < count) → Alike contents_size (take (got + count) bs) bs
        go (yes c) = cut_behind contents_size (got + count) bs (omega (arith, table_come (omega arith)))
        go (no c) =
            let same = take_all (got + count) bs (omega (arith, table_ended (omega arith))) in
            subst (λ (q : List ℕ). Alike contents_size q bs) (sym same) (whole contents_size bs)

    table_promise :
        {x : Result Tally Refusal} → ContentsPromise (there_of (span_of (Contents got) alone) (wanted_part (Contents got) alone (length new)) count new) x →
        ContentsPromise bs x
    table_promise {x} w = contents_alike table_alike (omega arith) (subst (λ (q : List ℕ). ContentsPromise q x) table_handed w)

    -- the book is opened
    table_taken : {t : Tally} → ContentsPromise bs (Ok t) → (1 ≤ count) × AtRecord alone bs l₀ (p + count) t 0 new l₀
    unfolding record_start
    table_taken {t} w =
        let d : Chain bs (part_of bs) l₀ 0 t l₀ = begun w in
        let m = chain d in
        let long = contents_long bs (counts_in bs) m.table in
        let came = some_came long in
        let starts = ap (record_start (counts_in bs).units) m.records in (
          came,
          record {
            chain = subst (λ (k : ℕ). Chain bs (part_of bs) l₀ k t l₀) (sym m.records) d;
            inside = omega (arith, m.records);
            come = omega (arith, s.come, starts, table_come came);
            within = a.there;
            few = omega (arith, record_some t.units t.records, asked_least t alone);
            here = refl;
            kept = λ i f. absurd (omega (arith, m.records, f));
          },
        )
      where
        some_came : contents_size ≤ length bs → 1 ≤ count
        some_came long = go (dec_lt 0 count)
          where
            go : Dec (0 < count) → 1 ≤ count
            go (yes c) = omega arith
            go (no c) = absurd (omega (arith, table_ended (omega arith), s.few))

    table_next :
        {r : Came} {l' : Lent} →
        ContentsCame (there_of (span_of (Contents got) alone) (wanted_part (Contents got) alone (length new)) count new) r → l' ≡ l →
        After alone bs l₀ count (p + count) r new l'
    table_next {r} {l'} w e =
        subst (λ (x : Came). After alone bs l₀ count (p + count) x new l') (sym w.reply) (go w.opened (table_promise w.promise))
      where
        go : (x : Result Tally Refusal) → ContentsPromise bs x → After alone bs l₀ count (p + count) (after_contents x) new l'
        go (Ok t) q =
            subst (λ (l : Lent). (1 ≤ count) × AtRecord alone bs l₀ (p + count) t 0 new l) (sym (e ∙ s.lent)) (table_taken q)
        go (Err x) q = λ fair. refused_book l₀ (hands_whole bs) fair.long fair.bytes (at_contents q refl)

-- ---- ONE ARRIVAL
-- no more comes than was wanted
never_many : (w : Wanted) (count : ℕ) → count ≤ w.to - w.from → w.to - w.from < count → ⊥
never_many w count h f = omega arith

pub within_wanted :
    (alone : Bool) {bs : List ℕ} {p count : ℕ} {old new : List ℕ} (reading : Reading) → Arrives bs p (wanted_part reading alone (length old)) count old new →
    TooMany (wanted_part reading alone (length new)) count → ⊥
within_wanted alone {count = count} reading a h =
    never_many (wanted_part reading alone _) count
    (subst (λ (k : ℕ). count ≤ (wanted_part reading alone k).to - (wanted_part reading alone k).from) (sym a.size) a.inside) h

pub stands_next :
    {alone : Bool} {bs : List ℕ} (l₀ : Lent) {p count : ℕ} {old new : List ℕ} {l l' : Lent} {r : Came} (reading : Reading) →
    Stands alone bs l₀ p reading old l → 769 ≤ length old → Arrives bs p (wanted_part reading alone (length old)) count old new →
    CamePromise reading alone count new l r l' → After alone bs l₀ count (p + count) r new l'
stands_next {alone} l₀ (Contents got) s room a (too_many h e f) = absurd (within_wanted alone (Contents got) a h)
stands_next {alone} l₀ (Record t got) s room a (too_many h e f) = absurd (within_wanted alone (Record t got) a h)
stands_next l₀ (Contents got) s room a (some h e f) =
    rw (e, f) (h.0, some_table s room a h s.lent)
stands_next l₀ (Record t got) s room a (some h e f) = rw (e, f) (h.0, some_more s room a h)
stands_next l₀ (Contents got) s room a (all h w) = table_next s room a h w.0 w.1
stands_next l₀ (Record t got) s room a (all h w) = record_next s room a h w
