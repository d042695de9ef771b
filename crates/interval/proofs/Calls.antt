-- Laws of the definitions in specs/Calls.antt.
use Rattle.std.specs.Prelude.{Result, Ok, Err}
use Rattle.book.specs.declared.Counts.{Counts}
use Rattle.book.specs.declared.RequirementFields.{RequirementFields}
use Rattle.book.specs.declared.SettingsFields.{SettingsFields}
use mathlib.Core.Path.{◌≡◌, refl, ap}
use Prim.Native.Nat.{ℕ, ◌+◌, ◌<◌}
use native.Mathlib.Omega.{arith}
use borrow.Author.Tests.{lt-ltb}
use Rattle.rules.specs.declared.Refusal.{Refusal}
use Rattle.rules.specs.declared.Located.{Located}
use Rattle.rules.specs.Refusals.{Reply, taken, refused, located, at}
use Rattle.rules.specs.Book.{Settings, Requirement}
use Rattle.rules.specs.Contents.{Counts as Announced}
use Rattle.book.specs.Contents.{contents_answer}
use Rattle.book.specs.Settings.{settings_answer}
use Rattle.book.specs.Requirement.{requirement_answer}
use Rattle.interval.specs.declared.Tally.{Tally}
use Rattle.interval.specs.declared.Step.{Step}
use Rattle.interval.specs.Tally.{most_records, next_place}
use Rattle.interval.specs.Calls.{count_step, counted, fresh, left, opened, refused_step, settled, stepped, taken_step}

pub count_taken : (least : ℕ) (t : Tally) → t.records < most_records → count_step least t ≡ taken_step (counted least t)
unfolding count_step
count_taken least t h = rw (lt-ltb t.records most_records h)

-- ---- from what a reader of `book` answers
abbrev pub opened_from : Result Counts Refusal → Result Tally Refusal
opened_from (Ok c) = Ok (fresh (record { units = c.units; requirements = c.requirements }))
opened_from (Err r) = Err r

pub opened_is : (reply : Reply Announced) → opened_from (contents_answer reply) ≡ opened reply
opened_is (taken c) = refl
opened_is (refused r) = refl

abbrev pub settled_from : Tally → Result SettingsFields Refusal → Step
settled_from t (Ok f) =
    taken_step (settled t (record { smoothing = f.smoothing; limit = f.limit; percent = f.percent; interval = f.interval }))
settled_from t (Err r) = refused_step t r

pub settled_is : (t : Tally) (reply : Reply Settings) → settled_from t (settings_answer reply) ≡ stepped (settled t) reply t
settled_is t (taken s) = refl
settled_is t (refused r) = refl

abbrev pub required_from : Tally → Result RequirementFields Refusal → Step
required_from t (Ok f) = taken_step (counted (f.number + 1) t)
required_from t (Err r) = refused_step t r

pub required_is : (t : Tally) (reply : Reply Requirement) → required_from t (requirement_answer reply) ≡ stepped (λ q. counted (q.number + 1) t) reply t
required_is t (taken q) = refl
required_is t (refused r) = refl

-- ---- a step that took its record, and one that did not
module _ {A : Type 0} (next : A → Tally) (t : Tally) where
  pub step_taken : (reply : Reply A) {r : Step} → r ≡ stepped next reply t → r.taking ≡ Ok tt →
      (a : A) × (reply ≡ taken a) × (r.tally ≡ next a)
  step_taken (taken a) e h = (a, refl, ap (λ (r : Step). r.tally) e)
  step_taken (refused why) {r} e h =
      let f : r.taking ≡ Err (located (next_place t) why) = ap (λ (r : Step). r.taking) e in
      let z : ◌≡◌ {A = ℕ} 0 1 = cc in
      absurd (omega arith)

  pub step_refused : (reply : Reply A) {r : Step} {why : Located} → r ≡ stepped next reply t → r.taking ≡ Err why →
      (at (next_place t) reply ≡ refused why) × (r.tally ≡ t)
  step_refused (taken a) {r} e h =
      let f : r.taking ≡ Ok tt = ap (λ (r : Step). r.taking) e in
      let z : ◌≡◌ {A = ℕ} 0 1 = cc in
      absurd (omega arith)
  step_refused (refused x) {r} {why} e h =
      let f : r.taking ≡ Err (located (next_place t) x) = ap (λ (r : Step). r.taking) e in
      let g : located (next_place t) x ≡ why = cc in
      (ap refused g, ap (λ (r : Step). r.tally) e)

-- what is refused at a place is a refusal that names it
pub named_at : {A : Type 0} (place : ℕ) (reply : Reply A) {why : Located} → at place reply ≡ refused why → (x : Refusal) × (located place x ≡ why)
named_at place (taken a) e = let z : ◌≡◌ {A = ℕ} 0 1 = cc in absurd (omega arith)
named_at place (refused x) e = (x, cc)

-- what is refused at any place leaves what is lent as it was
pub left_refused : {A L : Type 0} (write : A → L → L) (place : ℕ) (reply : Reply A) (old : L) {why : Located} → at place reply ≡ refused why →
    left write reply old ≡ old
left_refused write place (taken a) old e = let z : ◌≡◌ {A = ℕ} 0 1 = cc in absurd (omega arith)
left_refused write place (refused r) old e = refl
