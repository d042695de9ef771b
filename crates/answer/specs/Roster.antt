-- What `member` promises, and that a walk over the rows meets every member of a requirement, in their order, with its number and standing.
use Rattle.std.specs.Prelude.{◌≡◌, Bool, cond, ◌&&◌, ◌||◌, List, [], ℕ, ◌/◌, ◌%◌, eqb, leb, ltb, ℤ, length, get_or}
use Rattle.rules.specs.declared.Direction.{Direction}
use Rattle.rules.specs.declared.Reason.TheVariants.{BadUnit}
use Rattle.rules.specs.declared.Refusal.TheVariants.{WrongState, TooShort}
use Rattle.rules.specs.declared.Standing.{Standing}
use Rattle.rules.specs.Refusals.{Reply, taken, refused, unless}
use Rattle.rules.specs.Bytes.{bit}
use Rattle.rules.specs.RequirementRecord.{set_fine}
use Rattle.rules.specs.Standings.{standing}
use Rattle.rules.specs.Members.{Name}
use Rattle.interval.specs.declared.Tally.{Tally}
use Rattle.interval.specs.Tally.{in_range, answer_turn}
use Rattle.interval.specs.Lent.{Lent, figures_length, passed_over, of_interval}
use Rattle.kept.specs.Kept.{figure, reliable_of, region_of, row_standing}
use Rattle.kept.specs.Range.{from_0}
use Rattle.answer.specs.Asked.{lent_members}
use Rattle.answer.specs.declared.Row.{Row}
use Rattle.answer.specs.declared.Row.TheVariants.{Unit, Other, Refused}
use Rattle.answer.specs.Made.{reliable_at}

-- long enough for the figures of five regions, the numbers and homes of n units
abbrev pub member_long : ℕ → Lent → Bool
member_long n l = leb figures_length (length l.figures) && (leb n (length l.numbers) && leb n (length l.homes))

-- a home is that of a row that is passed over, or names a region, whose reliability is 0 or 1
abbrev pub home_fine : Direction → ℕ → List ℤ → Bool
home_fine d home figures =
    let l = lent_members figures [] [] in
    leb home passed_over && (eqb home passed_over || from_0 1 (figure l (home / 2) (reliable_at d)))

-- who stands in row i: a member of the set's regions, or none: of another region, or passed over
abbrev pub row_says : Lent → Direction → ℕ → ℕ → Row
row_says l d set i = cond (bit (region_of l i) set) (Unit (get_or l.numbers i 0) (row_standing l d i)) Other

-- 11 for a tally that is out of range or whose units are not all in, for a set out of range or a row that no unit has; 12 for a short list; 11 for a lent
-- number out of range
unfoldable pub member_reply : Tally → ℕ → Direction → ℕ → Lent → Reply Row
member_reply t i d set l =
    unless (in_range t && answer_turn t) WrongState
    (unless (set_fine set && ltb i t.units) WrongState
    (unless (member_long t.units l) TooShort
    (unless (of_interval t.interval l.figures && home_fine d (get_or l.homes i 0) l.figures) WrongState
    (taken (row_says l d set i)))))

-- by the row's number and home
abbrev pub row_told : Direction → ℕ → ℕ → ℕ → List ℤ → Reply Row
row_told d set number home figures =
    unless (home_fine d home figures) WrongState
    (taken (cond (bit (home / 2) set) (Unit number (standing (reliable_of (lent_members figures [] []) d (home / 2)) (eqb (home % 2) 1) BadUnit)) Other))

abbrev pub row_answer : Reply Row → Row
row_answer (taken r) = r
row_answer (refused r) = Refused r

pub record MemberPromise (t : Tally) (i : ℕ) (d : Direction) (set : ℕ) (l : Lent) (r : Row) : Type 0 where
  pub reply : r ≡ row_answer (member_reply t i d set l)

-- a member's name and standing
pub record Named : Type 0 where
  pub name : Name
  pub standing : Standing
