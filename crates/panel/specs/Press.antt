-- What a key press promises, completely: its reply, with the page record, and every byte of the text, on refusals too (02, R-13). The page is the step's; what
-- it shows is read off what the calls have kept of the book, by the rows of the requirement's regions in roster order, and off the answer's reply and columns.
use Rattle.rules.specs.declared.Refusal.{Refusal}
use Rattle.std.specs.Prelude.{◌≡◌, Bool, false, cond, ◌&&◌, List, ◌++◌, ℕ, zero, suc, ◌+◌, ◌*◌, ◌/◌, eqb, leb, ltb, ℤ, pos, length, get_or, drop, Result, Ok, Err}
use Rattle.integers.specs.Sums.{every}
use Rattle.integers.specs.Totals.{those}
use Rattle.rules.specs.declared.Page.{Page}
use Rattle.rules.specs.declared.Key.{Key}
use Rattle.rules.specs.declared.Standing.{Standing}
use Rattle.rules.specs.declared.Refusal.TheVariants.{WrongState, TooShort}
use Rattle.rules.specs.Quantities.{regions}
use Rattle.rules.specs.Bytes.{bit, listed}
use Rattle.rules.specs.Refusals.{Reply, taken, refused, unless, ◌>>=◌}
use Rattle.rules.specs.Book.{Requirement}
use Rattle.rules.specs.RequirementRecord.{requirement_record}
use Rattle.rules.specs.Members.{Name, unit, residual}
use Rattle.rules.specs.Answer.{Line}
use Rattle.rules.specs.Panel.{page_places, first_page, member_page}
use Rattle.rules.specs.Keys.{step}
use Rattle.interval.specs.declared.Tally.{Tally}
use Rattle.interval.specs.Tally.{in_range, answer_turn}
use Rattle.interval.specs.Lent.{Lent, figures_length, figures_each, passed_over, of_interval}
use Rattle.interval.specs.Calls.{left}
use Rattle.kept.specs.Kept.{row_standing}
use Rattle.kept.specs.Range.{from_0}
use Rattle.panel.specs.declared.Shown.{Shown}

-- three columns of an answer: payment, used and unused of each member
pub record Cents : Type 0 where
  pub payments : List ℤ
  pub used : List ℤ
  pub unused : List ℤ

abbrev pub cents : List ℤ → List ℤ → List ℤ → Cents
cents payments used unused = record { payments = payments; used = used; unused = unused }

-- ---- long enough: figures of five regions, a number and a home for each unit, one number more in each column, 80 bytes of text
abbrev pub press_long_by : ℕ → ℕ → ℕ → ℕ → ℕ → ℕ → ℕ → ℕ → Bool
press_long_by units figures numbers homes payments used unused text =
    leb figures_length figures
    && (leb units numbers && (leb units homes && (ltb units payments && (ltb units used && (ltb units unused && leb page_places text)))))

abbrev pub press_long : ℕ → Lent → Cents → ℕ → Bool
press_long units l c text =
    press_long_by units (length l.figures) (length l.numbers) (length l.homes) (length c.payments) (length c.used) (length c.unused) text

-- ---- in range: the figures are of the tally's interval, whether raise and lower are reliable is 1 or 0, and a home names a region or is passed over
abbrev pub reliability_fine : List ℤ → ℕ → Bool
reliability_fine figures r = from_0 1 (get_or figures (figures_each * r + 2) (pos 0)) && from_0 1 (get_or figures (figures_each * r + 3) (pos 0))

abbrev pub reliabilities_fine : List ℤ → Bool
reliabilities_fine figures = every regions (reliability_fine figures)

abbrev pub homes_fine : ℕ → List ℕ → Bool
homes_fine units homes = every units (λ i. leb (get_or homes i 0) passed_over)

abbrev pub press_fine : ℕ → ℕ → List ℤ → List ℕ → Bool
press_fine interval units figures homes = of_interval interval figures && (reliabilities_fine figures && homes_fine units homes)

-- ---- the members: the rows of the set's regions in roster order, then the residual
unfoldable pub set_rows : ℕ → ℕ → List ℕ → List ℕ
set_rows set units homes = those (λ i. bit (get_or homes i 0 / 2) set) (listed 0 units (λ i. i))

module _ (units : ℕ) (l : Lent) (q : Requirement) (s : Shown) where
  -- the row of member k, from 0; past the last the number of units, which is no row
  abbrev pub row_at : ℕ → ℕ
  row_at k = get_or (set_rows q.set units l.homes) k units

  abbrev pub name_at : ℕ → Name
  name_at k = cond (ltb (row_at k) units) (unit (get_or l.numbers (row_at k) 0)) residual

  abbrev pub standing_at : ℕ → Standing
  standing_at k = cond (ltb (row_at k) units) (row_standing l q.direction (row_at k)) s.residual

  unfoldable pub shown_line : Cents → ℕ → Line
  shown_line c k =
      record {
        name = name_at k;
        standing = standing_at k;
        performance = pos 0;
        factor = pos 0;
        payment = get_or c.payments k (pos 0);
        used = get_or c.used k (pos 0);
        unused = get_or c.unused k (pos 0);
      }

  -- what the page shows: the requirement, or a member
  unfoldable pub shown_page : Cents → ℕ → List ℕ
  shown_page c zero = first_page q.number q.direction (pos s.rcr) (pos s.pool) (pos q.cost)
  shown_page c (suc k) = member_page (shown_line c k)

-- how many members a requirement has: the rows of its regions, and the residual
abbrev pub members_of : ℕ → List ℕ → Requirement → ℕ
members_of units homes q = length (set_rows q.set units homes) + 1

-- the requirement, where the answer's reply tells as many
abbrev pub members_told : ℕ → List ℕ → Shown → Requirement → Reply Requirement
members_told units homes s q = unless (eqb s.members (members_of units homes q)) WrongState (taken q)

-- ---- 11 out of turn, 12 for a short list or text, 11 for a lent number out of range, 1 and 10 of the requirement's record, and 11 for a reply that tells
-- another number of members than the requirement has
unfoldable pub press_reply : Tally → List ℕ → Shown → Lent → Cents → ℕ → Reply Requirement
press_reply t part s l c text =
    unless (in_range t && answer_turn t) WrongState
    (unless (press_long t.units l c text) TooShort
    (unless (press_fine t.interval t.units l.figures l.homes) WrongState
    (requirement_record 0 false part >>= members_told t.units l.homes s)))

-- the page after the key: there is a page for each member behind the first
abbrev pub page_then : Page → Key → ℕ → Shown → Requirement → Page
page_then p key book s q = step p key book q.number s.members

-- and the text: that page at its front, every other byte as it was
abbrev pub text_then : ℕ → Lent → Shown → Cents → (Requirement → Page) → Requirement → List ℕ → List ℕ
text_then units l s c then q text = shown_page units l q s c (then q).page ++ drop page_places text

abbrev pub pressed_as : (Requirement → Page) → Reply Requirement → Result Page Refusal
pressed_as then (taken q) = Ok (then q)
pressed_as then (refused r) = Err r

pub record PressPromise
    (p : Page)
    (key : Key)
    (book : ℕ)
    (t : Tally)
    (part : List ℕ)
    (s : Shown)
    (l : Lent)
    (c : Cents)
    (old : List ℕ)
    (r : Result Page Refusal)
    (new : List ℕ)
    : Type 0 where
  pub reply : r ≡ pressed_as (page_then p key book s) (press_reply t part s l c (length old))
  pub written : new ≡ left (text_then t.units l s c (page_then p key book s)) (press_reply t part s l c (length old)) old
