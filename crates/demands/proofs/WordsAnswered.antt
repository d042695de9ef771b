-- THE ANSWER OVER WORDS: where the calls below give the rules' answer (crates/answer, RulesAnswer) and the words hold their tally, the C calls give it too.
use Rattle.std.specs.Prelude.{Result}
use Rattle.answer.specs.declared.Answer.{Answer}
use Rattle.rules.specs.declared.Refusal.{Refusal}
use mathlib.Core.Path.{◌≡◌, refl, sym, ◌∙◌, ap, ap₂, subst₂}
use mathlib.Core.Bool.{Bool, true, false, cond, ◌&&◌}
use mathlib.Core.List.{List, [], ◌∷◌, ◌++◌, map, map-append, map-map}
use Prim.Native.Nat.{ℕ, zero, suc, ◌≤◌, ◌<◌}
use native.Mathlib.Omega.{arith}
use native.Mathlib.Numerals.{add-one}
use lib.Dec.{leb, ltb}
use lib.ListN.{length, get_or}
use borrow.Author.Tests.{le-leb, leb-true, lt-ltb}
use Rattle.integers.specs.Sums.{both}
use Rattle.rules.specs.declared.Direction.{Direction}
use Rattle.rules.specs.declared.Standing.{Standing}
use Rattle.rules.specs.declared.Standing.TheVariants.{Live}
use Rattle.rules.specs.declared.Refusal.TheVariants.{EndsEarly, RequirementField}
use Rattle.rules.specs.Bytes.{number_at}
use Rattle.laws.proofs.BytesLaws.{byte_is}
use Rattle.rules.specs.Refusals.{taken}
use Rattle.rules.specs.Book.{Requirement, covers, Book}
use Rattle.rules.specs.Contents.{requirement_size}
use Rattle.rules.specs.RequirementRecord as r
use Rattle.rules.specs.RequirementRecord.{requirement_in, requirement_fine, requirement_record}
use Rattle.laws.proofs.LimitsLaws.{passed}
use Rattle.rules.specs.Members.{unit, residual}
use Rattle.rules.specs.Answer.{Line, answer}
use Rattle.interval.specs.declared.Tally.{Tally}
use Rattle.interval.specs.Tally.{units_end, in_range, answer_turn}
use Rattle.interval.proofs.TallyLaws.{ranged}
use Rattle.interval.specs.Lent.{Lent}
use Rattle.kept.specs.Kept.{region_of, row_standing, rows_of}
use Rattle.chain.proofs.Taken.{requirement_is}
use Rattle.chain.specs.Answerable.{Answerable}
use Rattle.answer.specs.declared.Row.{Row}
use Rattle.answer.specs.declared.Row.TheVariants as row
use Rattle.answer.specs.Lists.{gathered}
use Rattle.answer.proofs.Lists.{gathered_none, gathered_more}
use Rattle.answer.specs.Roster.{Named, row_says, MemberPromise}
use Rattle.answer.specs.Promises.{Columns, columns_long, last_standing}
use Rattle.answer.proofs.CallLaws.{record_fine}
use Rattle.answer.specs.BookAnswered.{line_named, RulesAnswer}
use Rattle.answer.proofs.BookAnswered.{rules_answer}
use Rattle.dullavane.specs.Words.{held}
use Rattle.dullavane.specs.Asked.{asked_tally, in_turn, asked_narrow, direction_of, standing_number, member_words, row_number, row_after}
use Rattle.dullavane.specs.Answers.{reply_words, answered_number, answered_after, AnswerCalled}
use Rattle.demands.proofs.WordsLaws.{is_stepped}
use Rattle.demands.specs.WordsAnswer.{
  figures_told,
  Tells,
  MemberWords,
  Walk,
  Told,
  is_member,
  member_told,
  found,
  line_told,
  WordsAnswer,
  WordsAnswers,
}

-- ---- laws
-- the words hold a tally that can be asked
pub asked_held :
    (ws : List ℕ) {t : Tally} (narrow long : Bool) → held ws ≡ taken t → (in_range t && answer_turn t) ≡ true → narrow ≡ true → long ≡ true →
    asked_tally ws narrow long ≡ taken t
unfolding asked_tally in_turn
asked_held ws narrow long h turn n l = rw (h, turn, n, l)

-- what a record that is taken has in bytes 2 and 3
record AskedBytes (part : List ℕ) (q : Requirement) : Type 0 where
  direction : direction_of (get_or part 3 0) ≡ q.direction
  set : get_or part 2 0 ≡ q.set
  narrow : (ltb (get_or part 3 0) 2 && ltb (get_or part 2 0) 256) ≡ true

same_direction : (x : ℕ) → x ≤ 1 → direction_of x ≡ r.direction_of x
same_direction zero h = refl
same_direction (suc zero) h = refl
same_direction (suc (suc x)) h = absurd (omega arith)

asked_bytes : (part : List ℕ) (q : Requirement) → requirement_record 0 false part ≡ taken q → AskedBytes part q
unfolding requirement_record requirement_in
asked_bytes part q e =
    let n = (requirement_in part).number in
    let one = leb (number_at 1 3 part) 1 in
    let fine = requirement_fine (requirement_in part) in
    let fields = passed (leb 0 n && one && fine) RequirementField _ q (passed (leb requirement_size (length part)) EndsEarly _ q e).1 in
    let direction : number_at 1 3 part ≤ 1 = leb-true _ _ (both (leb 0 n) one (both (leb 0 n && one) fine fields.0).0).1 in
    let set : q.set ≤ 31 = leb-true _ _ (both (leb 1 q.set) (leb q.set 31) (record_fine part q e).set).1 in
    let is = requirement_is 0 false part q e in
    let at_2 : get_or part 2 0 ≡ q.set = sym (byte_is 2 part) ∙ ap (λ (q : Requirement). q.set) is in
    record {
      direction = ap direction_of (sym (byte_is 3 part)) ∙ same_direction (number_at 1 3 part) direction ∙ ap (λ (q : Requirement). q.direction) is;
      set = at_2;
      narrow = rw (lt-ltb (get_or part 3 0) 2 (omega (arith, byte_is 3 part)), lt-ltb (get_or part 2 0) 256 (omega arith));
    }

-- a gathering goes by what it takes of each row
gathered_same :
    {A : Type 0} (p p' : ℕ → Bool) (g g' : ℕ → A) (n : ℕ) → ((j : ℕ) → j < n → cond (p j) (g j ∷ []) [] ≡ cond (p' j) (g' j ∷ []) []) →
    gathered p g n ≡ gathered p' g' n
gathered_same p p' g g' zero h = gathered_none p g ∙ sym (gathered_none p' g')
gathered_same p p' g g' (suc n) h =
    more p g ∙ ap₂ (λ (xs ys : List _). xs ++ ys) (gathered_same p p' g g' n (λ j l. h j (omega arith))) (h n (omega arith)) ∙ sym (more p' g')
  where
    more : {A : Type 0} (p : ℕ → Bool) (g : ℕ → A) → gathered p g (suc n) ≡ gathered p g n ++ cond (p n) (g n ∷ []) []
    more p g = ap (λ (m : ℕ). gathered p g m) (sym (add-one n)) ∙ gathered_more p g n

-- the last standing is the residual's
standing_last : List Named → Standing
standing_last [] = Live
standing_last (x ∷ []) = x.standing
standing_last (x ∷ y ∷ xs) = standing_last (y ∷ xs)

named_last : (ls : List Line) → last_standing ls ≡ standing_last (map line_named ls)
unfolding standing_last
named_last [] = refl
named_last (l ∷ []) = refl
named_last (l ∷ m ∷ ls) = named_last (m ∷ ls)

last_one : (xs : List Named) (x : Named) → standing_last (xs ++ (x ∷ [])) ≡ x.standing
unfolding standing_last
last_one [] x = refl
last_one (y ∷ []) x = refl
last_one (y ∷ z ∷ xs) x = last_one (z ∷ xs) x

abbrev named_told : Named → Told
named_told n = record { name = n.name; standing = standing_number n.standing }

-- a row's words say whether it is a member, and which
row_taken : (is : Bool) (n : ℕ) (s : Standing) → row_number (cond is (row.Unit n s) row.Other) ≡ 0
row_taken true n s = refl
row_taken false n s = refl

words_say :
    (is : Bool) (n : ℕ) (s : Standing) (us : List ℕ) → let us' = row_after (cond is (row.Unit n s) row.Other) us in
    cond is (named_told (record { name = unit n; standing = s }) ∷ []) [] ≡ cond (is_member us') (member_told us' ∷ []) []
words_say true n s us = refl
words_say false n s us = refl

-- ---- THE THEOREM
module _
    {b : Book} {t : Tally} (ws : List ℕ) {l : Lent} {part : List ℕ} {q : Requirement} (h : held ws ≡ taken t) (turn : (in_range t && answer_turn t) ≡ true)
    (asked : requirement_record 0 false part ≡ taken q) (a : RulesAnswer b t l part q) where
  abbrev covered : ℕ → Bool
  covered j = covers q (region_of l j)

  abbrev name_of : ℕ → Named
  name_of j = record { name = unit (get_or l.numbers j 0); standing = row_standing l q.direction j }

  answer_told :
      {old new : Columns} {reply reply' : List ℕ} {r : ℕ} →
      columns_long t.units old ≡ true → reply_words ≤ length reply → AnswerCalled ws part l old reply r new reply' →
      Tells (answer b q) old reply r new reply'
  answer_told {reply = reply} long words_long c =
      let s = is_stepped _ _ _ _ (asked_held ws true (leb reply_words (length reply)) h turn refl (le-leb _ _ words_long)) c.answer in
      let x = a.answered long s.call in
      record {
        number = s.reply ∙ ap answered_number x.reply;
        words = s.words ∙ ap (λ (y : Result Answer Refusal). answered_after y reply) x.reply;
        columns = x.written;
      }

  row_told :
      (j : ℕ) → j < t.units → {us us' : List ℕ} {r : ℕ} → member_words ≤ length us → MemberWords ws part l j us r us' →
      (r ≡ 0) × (us' ≡ row_after (row_says l q.direction q.set j) us)
  row_told j below {us} long c =
      let bytes = asked_bytes part q asked in
      let few = (ranged t (both (in_range t) (answer_turn t) turn).0).units in
      let narrow : asked_narrow j (get_or part 3 0) (get_or part 2 0) ≡ true = rw (lt-ltb j 65_536 (omega arith)) bytes.narrow in
      let s = is_stepped _ _ _ _ (asked_held ws _ (leb member_words (length us)) h turn narrow (le-leb _ _ long)) c.answer in
      let promise = subst₂ (λ (d : Direction) (set : ℕ). MemberPromise t j d set l s.step) bytes.direction bytes.set s.call in
      let e : s.step ≡ row_says l q.direction q.set j = a.rows j below promise in
      (s.reply ∙ ap row_number e ∙ row_taken (covered j) _ _, s.words ∙ ap (λ (y : Row). row_after y us) e)

  walk_told : {row : ℕ → List ℕ} → Walk ws part l t.units row → map line_told (answer b q).lines ≡ found row t.units (figures_told (answer b q))
  walk_told {row} w =
      let ls = (answer b q).lines in
      let residual_last = named_last ls ∙ ap standing_last a.lines ∙ last_one (gathered covered name_of t.units) _ in
      sym (map-map named_told line_named ls)
      ∙ ap (map named_told) a.lines
      ∙ map-append named_told (gathered covered name_of t.units) _
      ∙ ap₂ (λ (xs : List Told) (n : ℕ). xs ++ (record { name = residual; standing = n } ∷ [])) members (ap standing_number (sym residual_last))
    where
      each : (j : ℕ) → j < t.units → cond (covered j) (named_told (name_of j) ∷ []) [] ≡ cond (is_member (row j)) (member_told (row j) ∷ []) []
      each j h =
          let e = (row_told j h (w.long j h) (w.called j h)).1 in
          rw e (words_say (covered j) (get_or l.numbers j 0) (row_standing l q.direction j) (w.lent j))

      members : map named_told (gathered covered name_of t.units) ≡ gathered (λ j. is_member (row j)) (λ j. member_told (row j)) t.units
      members =
          map-map named_told name_of (rows_of t l q)
          ∙ gathered_same covered (λ j. is_member (row j)) (λ j. named_told (name_of j)) (λ j. member_told (row j)) t.units each

  pub words_answered : WordsAnswer b t ws l part q
  words_answered = record { answered = answer_told; rows = row_told; lines = walk_told }

-- so it is where a chain of the calls below has left tally and lists that can be asked about a book
pub answerable_answered : {b : Book} {t : Tally} (ws : List ℕ) {l : Lent} → Answerable b t l → held ws ≡ taken t → WordsAnswers b t ws l
answerable_answered {t = t} ws h e part q asked =
    words_answered ws e (rw (h.tally, le-leb (units_end t) t.records h.turn)) asked (rules_answer h part q asked)
