-- The call, test by test: what is written where each fails and where all hold, and what the tests say of counts and lists.
use Rattle.std.specs.Prelude.{Result, Ok, Err}
use mathlib.Core.Path.{◌≡◌, sym, ◌∙◌, ap}
use mathlib.Core.Bool.{true, false, ◌&&◌}
use mathlib.Core.List.{List}
use Prim.Native.Nat.{ℕ, ◌*◌, ◌≤◌}
use lib.Dec.{leb}
use lib.ListN.{length}
use borrow.Author.Tests.{leb-true}
use Rattle.integers.specs.Sums.{both}
use Rattle.rules.specs.declared.Located.{Located}
use Rattle.rules.specs.declared.Refusal.TheVariants.{TooShort, WrongCount}
use Rattle.rules.specs.Refusals.{LocatedReply, taken, refused, located}
use Rattle.rules.specs.Book.{Book}
use Rattle.rules.specs.Given.{Given}
use Rattle.rules.specs.Written.{book_laid, book_given, book_size, regions_long, units_long, long_enough, counts_fine, written}
use Rattle.laws.proofs.LaidLaws.{book_length}
use Rattle.writer.specs.Values.{BookLists}
use Rattle.writer.specs.Promise.{write_reply, write_kept, at_front, WritePromise}

module _ (g : Given) (room : ℕ) where
  pub written_short : long_enough g room ≡ false → written g room ≡ refused (located 0 TooShort)
  unfolding written
  written_short e = rw e

  pub written_many : long_enough g room ≡ true → counts_fine g ≡ false → written g room ≡ refused (located 0 WrongCount)
  unfolding written
  written_many e f = rw (e, f)

  pub written_wrong : (w : Located) → long_enough g room ≡ true → counts_fine g ≡ true → book_given g ≡ refused w → written g room ≡ refused w
  unfolding written
  written_wrong w e f h = rw (e, f, h)

  pub written_fine : (b : Book) → long_enough g room ≡ true → counts_fine g ≡ true → book_given g ≡ taken b → written g room ≡ taken (book_laid g)
  unfolding written
  written_fine b e f h = rw (e, f, h)

-- ---- the promise
pub promise_refused : (g : Given) (old : List ℕ) (w : Located) {r : Result ℕ Located} → written g (length old) ≡ refused w → r ≡ Err w → WritePromise g old r old
promise_refused g old w e f =
    record { reply = f ∙ sym (ap write_reply e); book = sym (ap (λ (x : LocatedReply (List ℕ)). write_kept x old) e) }

pub promise_written : (g : Given) (old new : List ℕ) (n : ℕ) → written g (length old) ≡ taken (book_laid g) → n ≡ book_size g.units g.requirements →
    new ≡ at_front (book_laid g) old → WritePromise g old (Ok n) new
promise_written g old new n e size f =
    record {
      reply = ap Ok (size ∙ sym (book_length g)) ∙ sym (ap write_reply e);
      book = f ∙ sym (ap (λ (x : LocatedReply (List ℕ)). write_kept x old) e);
    }

-- ---- what the tests say
pub record Few (g : Given) : Type 0 where
  pub units : g.units ≤ 512
  pub requirements : g.requirements ≤ 32

pub counts_few : (g : Given) → counts_fine g ≡ true → Few g
counts_few g e =
    let most = both (leb g.units 512 && leb 1 g.requirements) (leb g.requirements 32) e in
    let some = both (leb g.units 512) (leb 1 g.requirements) most.0 in
    record { units = leb-true _ _ some.0; requirements = leb-true _ _ most.1 }

pub room_enough : (g : Given) (room : ℕ) → long_enough g room ≡ true → book_size g.units g.requirements ≤ room
room_enough g room e =
    leb-true _ _ (both (leb (book_size g.units g.requirements) room) (regions_long g && (units_long g && leb (7 * g.requirements) (length
    g.requirement_rows))) e).0

pub lists_enough : (g : Given) (room : ℕ) → long_enough g room ≡ true → Few g →
    BookLists g.units g.requirements g.region_rows g.region_qualities g.frequencies g.unit_rows g.unit_qualities g.readings
    g.requirement_rows
lists_enough g room e few =
    let requirements = leb (7 * g.requirements) (length g.requirement_rows) in
    let all = (both (leb (book_size g.units g.requirements) room) (regions_long g && (units_long g && requirements)) e).1 in
    let regions = both (regions_long g) (units_long g && requirements) all in
    let units = both (units_long g) requirements regions.1 in
    let r_first = leb 45 (length g.region_rows) in
    let r_second = leb 50 (length g.region_qualities) in
    let r = both (r_first && r_second) (leb 375 (length g.frequencies)) regions.0 in
    let r_two = both r_first r_second r.0 in
    let u_first = leb (12 * g.units) (length g.unit_rows) in
    let u_second = leb (10 * g.units) (length g.unit_qualities) in
    let u = both (u_first && u_second) (leb (75 * g.units) (length g.readings)) units.0 in
    let u_two = both u_first u_second u.0 in
    record {
      region_row = leb-true _ _ r_two.0;
      region_quality = leb-true _ _ r_two.1;
      frequency = leb-true _ _ r.1;
      few = few.units;
      unit_row = leb-true _ _ u_two.0;
      unit_quality = leb-true _ _ u_two.1;
      reading = leb-true _ _ u.1;
      fewer = few.requirements;
      requirement_row = leb-true _ _ units.1;
    }

-- any two replies that the promise allows are equal, and so is what they leave
pub write_only : {g : Given} {old : List ℕ} {r s : Result ℕ Located} {new other : List ℕ} → WritePromise g old r new → WritePromise g old s other →
    (r ≡ s) × (new ≡ other)
write_only a b = (a.reply ∙ sym b.reply, a.book ∙ sym b.book)
