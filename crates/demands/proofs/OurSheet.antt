-- R-12, OUR OWN SHEET IS POSSIBLE: 'Our own calculator's factors are accepted under either tie rule.' Of every requirement, from its book, and of the columns
-- that an answer leaves: a box can hand them to `dullavane_sheet` as they stand, so many numbers from the front as the answer tells members.
use Rattle.std.specs.Prelude.{Result}
use Rattle.answer.specs.declared.Answer.{Answer}
use Rattle.rules.specs.declared.Refusal.{Refusal}
use mathlib.Core.Path.{◌≡◌, sym, ap₂, subst}
use mathlib.Core.Bool.{true}
use mathlib.Core.List.{List, [], ◌∷◌, map, map-map}
use Prim.Native.Nat.{ℕ, ◌≤◌}
use native.Mathlib.Omega.{arith}
use lib.IntN.{ℤ, pos, ◌-ℤ◌}
use lib.ListN.{length, length-append, length-map}
use Rattle.integers.specs.Pairs.{gain, loss}
use Rattle.integers.proofs.Totals.{numbered_alike, those_length, total_indexes}
use Rattle.rules.specs.declared.Side.{Side}
use Rattle.rules.specs.declared.Side.TheVariants.{Positive, Negative}
use Rattle.rules.specs.declared.Verdict.TheVariants.{Possible}
use Rattle.rules.specs.Quantities.{billion, most_members, weight_limit}
use Rattle.rules.specs.Refusals.{taken}
use Rattle.rules.specs.Book.{Requirement, covers, Book}
use Rattle.rules.specs.Plants.{plants}
use Rattle.laws.proofs.PlantsLaws.{plants_few}
use Rattle.rules.specs.Members.{Member, plant_member, plants_among, residual_member, members}
use Rattle.rules.specs.Share.{share_of, larger_first}
use Rattle.rules.specs.Factors.{factor, helpful, unhelpful}
use Rattle.rules.specs.Answer.{lines_of, answered, answer}
use Rattle.rules.specs.Sheet.{side_total, sheet_reply}
use Rattle.laws.proofs.Limits.{BookFits}
use Rattle.laws.proofs.MembersLaws.{helpful_fits, unhelpful_fits}
use Rattle.sheets.specs.Ours.{factor_by, sheet_by}
use Rattle.sheets.proofs.Ours.{either_possible}
use Rattle.interval.specs.declared.Tally.{Tally}
use Rattle.interval.specs.Lent.{Lent}
use Rattle.answer.specs.Promises.{Columns, AnswerPromise, columns_long, shown}
use Rattle.answer.specs.BookAnswered.{RulesAnswer}
use Rattle.demands.proofs.ColumnsFront.{lines_at_front}
use Rattle.demands.proofs.Demand3.{lines_performances}
use Rattle.demands.specs.OurSheet.{RequirementPossible, ColumnsPossible}

abbrev payments : List Member → List ℤ
payments ms = map (λ m. m.payment) ms

-- the members' weights are the sizes of their performances on a side
helpful_is : (ms : List Member) → map gain (payments ms) ≡ helpful ms
helpful_is ms = map-map gain (λ m. m.payment) ms

unhelpful_is : (ms : List Member) → map loss (payments ms) ≡ unhelpful ms
unhelpful_is ms = map-map loss (λ m. m.payment) ms

factor_is : (ms : List Member) (i : ℕ) → factor ms i ≡ factor_by larger_first (payments ms) i
factor_is ms i =
    ap₂ (λ (x y : List ℕ). pos (share_of billion x i) -ℤ pos (share_of billion y i)) (sym (helpful_is ms)) (sym (unhelpful_is ms))

module _ (b : Book) (q : Requirement) where
  abbrev ms : List Member
  ms = members b q

  factors_are : map (λ l. l.factor) (answer b q).lines ≡ sheet_by larger_first (payments ms)
  unfolding answer answered lines_of
  factors_are =
      numbered_alike (λ l. l.factor) _ (factor_by larger_first (payments ms)) (λ i m. factor_is ms i) ms (payments ms) (sym (length-map ms (λ m. m.payment)))

  module _ (h : BookFits b) where
    few : length (payments ms) ≤ most_members
    unfolding members
    few =
        omega (
          arith,
          length-map ms (λ m. m.payment),
          length-append (map (plant_member b q.direction) (plants_among b q)) (residual_member b q ∷ []),
          length-map (plants_among b q) (plant_member b q.direction),
          those_length (λ p. covers q p.region) (plants b.roster),
          plants_few b.roster,
          h.few,
        )

    fits : (s : Side) → side_total s (payments ms) ≤ weight_limit
    fits Positive = rw (helpful_is ms, total_indexes (helpful ms)) (helpful_fits b q h)
    fits Negative = rw (unhelpful_is ms, total_indexes (unhelpful ms)) (unhelpful_fits b q h)

    -- of a book within the limits, as every book is that the format takes
    pub requirement_possible : RequirementPossible b q
    requirement_possible =
        let e = either_possible (payments ms) few fits in
        record { ours = rw (lines_performances b q, factors_are) e.0; before = rw (lines_performances b q) e.1 }

-- and of the columns that an answer leaves, about any book that a chain of calls took (demand 2 gives its `RulesAnswer`)
pub columns_possible :
    {b : Book} {t : Tally} {l : Lent} {part : List ℕ} {q : Requirement} → BookFits b → RulesAnswer b t l part q → {old new : Columns} {r : Result Answer Refusal} →
    columns_long t.units old ≡ true → AnswerPromise t part l old r new → ColumnsPossible r new
columns_possible {b} {q} h a long c =
    record {
      figures = shown q (answer b q);
      given = (a.answered long c).reply;
      ours =
          subst (λ (c : Columns). sheet_reply c.performances c.factors ≡ taken Possible) (sym (lines_at_front a long c))
          (requirement_possible b q h).ours;
    }
