-- Laws of the members' rows: what one row says, and a row behind others.
use mathlib.Core.Path.{◌≡◌, refl, sym, ◌∙◌, subst}
use mathlib.Core.Bool.{true}
use mathlib.Core.List.{List, [], ◌∷◌}
use Prim.Native.Nat.{ℕ, suc, ◌+◌, ◌≤◌, ◌<◌}
use native.Mathlib.Omega.{arith}
use lib.ListN.{length}
use types.Run.{OneOf, hit, miss}
use denote.Enum.Declared.{tag_of}
use Rattle.rules.specs.declared.Refusal.{Refusal}
use Rattle.rules.specs.declared.Standing.{Standing}
use Rattle.rules.specs.Listing.{member_line}
use Rattle.interval.specs.declared.Tally.{Tally}
use Rattle.interval.specs.Lent.{Lent}
use Rattle.answer.specs.declared.Answer.{Answer}
use Rattle.answer.specs.declared.Row.{Row}
use Rattle.answer.specs.declared.Row.TheVariants as who
use Rattle.answer.specs.Promises.{Columns, columns_long}
use Rattle.answer.specs.Roster.{MemberPromise}
use Rattle.listing.specs.Lines.{unit_of}
use Rattle.lister.specs.declared.Cursor.{Cursor}
use Rattle.lister.specs.declared.Cursor.TheVariants as at
use Rattle.lister.specs.declared.Halt.{Halt}
use Rattle.lister.specs.declared.Halt.TheVariants as halt
use Rattle.lister.specs.declared.Step.{Step}
use Rattle.lister.specs.declared.Walked.{Walked}
use Rattle.lister.specs.Move.{moves, move, among, amounts_at, row_move}
use Rattle.lister.specs.Said.{Said}
use Rattle.lister.specs.Steps.{WhereOn, Runs, RowListed, UnitsListed}
use Rattle.lister.specs.contracts.Halt.{the_type}
use Rattle.lister.proofs.MoveLaws.{Among, among_means, move_row}
use Rattle.lister.proofs.StepsLaws.{run_said, run_silent, run_halts, run_full, said_some}

-- the next number
pub next_is : (n : ℕ) → suc n ≡ n + 1
next_is n = omega arith

module _ (t : Tally) (bytes : List ℕ) (l : Lent) (k : ℕ) (a : Answer) (c : Columns) (row place done : ℕ) (old : List ℕ)
    (here : among t k row place ≡ true) (inside : row < t.units) (long : columns_long t.units c ≡ true) (fits : done ≤ length old) where
  module _ {r : Row} (told : MemberPromise t row a.direction a.set l r) where
    as_row : {r' : Row} → r ≡ r' → move t bytes l (at.Members k a row place) c ≡ row_move t bytes l k a row place c r'
    as_row e = move_row t bytes l c k a row place here long inside (sym e ∙ told.reply)

    module _ (number : ℕ) (standing : Standing) (e : r ≡ who.Unit number standing) {said : ℕ} {new : List ℕ}
        (w : Said (member_line (unit_of number standing (amounts_at c place))) done old said new) where
      as_unit :
          move t bytes l (at.Members k a row place) c
          ≡ moves (member_line (unit_of number standing (amounts_at c place))) (at.Members k a (row + 1) (place + 1)) c
      as_unit = as_row e ∙ rw (next_is row, next_is place)

      pub row_full : said ≡ 0 → {x : Walked} → x ≡ record { row = row; place = place; done = done; halt = halt.Full } →
          RowListed t bytes l k a c row place done old x new
      row_full z same =
          subst (λ (x : Walked). RowListed t bytes l k a c row place done old x new) (sym same)
          (record { runs = run_full as_unit w z fits; next = tt; few = (among_means t k row place here).few; inside = omega (arith, inside) })

      pub row_said : (said ≡ 0 → ⊥) → {x : Walked} → x ≡ record { row = row + 1; place = place + 1; done = done + said; halt = halt.On } →
          RowListed t bytes l k a c row place done old x new
      row_said some same =
          subst (λ (x : Walked). RowListed t bytes l k a c row place done old x new) (sym same)
          (record {
            runs = run_said as_unit w (said_some w some);
            next = refl;
            few = omega (arith, (among_means t k row place here).few);
            inside = omega (
              arith,
              inside,
            );
          })

    pub row_other : r ≡ who.Other → {x : Walked} → x ≡ record { row = row + 1; place = place; done = done; halt = halt.On } →
        RowListed t bytes l k a c row place done old x old
    row_other e same =
        subst (λ (x : Walked). RowListed t bytes l k a c row place done old x old) (sym same)
        (record {
          runs = run_silent (as_row e ∙ rw (next_is row)) fits;
          next = refl;
          few = omega (arith, (among_means t k row place here).few);
          inside = omega
              (arith, inside);
        })

    pub row_refused : (why : Refusal) → r ≡ who.Refused why → {x : Walked} → x ≡ record { row = row; place = place; done = done; halt = halt.Refused why } →
        RowListed t bytes l k a c row place done old x old
    row_refused why e same =
        subst (λ (x : Walked). RowListed t bytes l k a c row place done old x old) (sym same)
        (record { runs = run_halts (halt.Refused why) fits (as_row e); next = tt; few = (among_means t k row place here).few; inside = omega (arith, inside) })

-- ---- all rows
-- where a listing goes on it has not halted
abbrev halts : List ℕ
halts = 1 ∷ 2 ∷ 3 ∷ []

pub other_halt : (h : Halt) → (h ≡ halt.On → ⊥) → OneOf halts (tag_of the_type h)
other_halt halt.On n = absurd (n refl)
other_halt halt.Full n = hit halts 1 tt
other_halt halt.Ended n = hit halts 2 tt
other_halt (halt.Refused r) n = hit halts 3 tt

pub not_on : (h : Halt) (A : Type 0) → OneOf halts (tag_of the_type h) → WhereOn h A
not_on halt.On A k = absurd (miss halts 0 tt k)
not_on halt.Full A k = tt
not_on halt.Ended A k = tt
not_on (halt.Refused r) A k = tt

module _ {t : Tally} {bytes : List ℕ} {l : Lent} where
  pub run_on :
      {at : Cursor} {c c' : Columns} {done : ℕ} {old new : List ℕ} {s : Step} → Runs t bytes l at c done old s c' new →
      Runs t bytes l at c done old (record { at = s.at; done = s.done; halt = halt.On }) c' new
  run_on r = record { lines = r.lines; goes = r.goes; count = r.count; fits = r.fits; text = r.text; halts = tt }

  pub rows_through :
      {k : ℕ} {a : Answer} {c : Columns} {first members start row place done : ℕ} {old text : List ℕ} {x : Walked} → Among t k row place → t.units ≤ row →
      Runs t bytes l (at.Members k a first members) c start old (record { at = at.Members k a row place; done = done; halt = halt.On }) c text →
      x ≡ record { row = row; place = place; done = done; halt = halt.On } → UnitsListed t bytes l k a c first members start old x text
  rows_through {k} {a} {c} {first} {members} {start} {old = old} {text = text} here all runs same =
      subst (λ (x : Walked). UnitsListed t bytes l k a c first members start old x text) (sym same)
      (record { runs = runs; behind = omega (arith, all, here.row_there); few = here.few; inside = here.row_there })
