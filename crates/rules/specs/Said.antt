-- What is handed in to be written as a book, as the book that it says, and a book as it is handed in (02, R-4): what the laws of the book writer speak of.
use Rattle.std.specs.Prelude.{◌≡◌, Bool, true, cond, ◌&&◌, ◌||◌, List, [], ◌∷◌, ◌++◌, ℕ, ◌+◌, ◌*◌, ◌/◌, ◌%◌, ◌^◌, ◌≤◌, ◌<◌, eqb, leb, ℤ, pos, nat_abs, length, get_or}
use Rattle.integers.specs.Sums.{sumℕ}
use Rattle.rules.specs.declared.Direction.{Direction}
use Rattle.rules.specs.declared.Direction.TheVariants.{Raise, Lower}
use Rattle.rules.specs.declared.Kind.{Kind}
use Rattle.rules.specs.declared.Kind.TheVariants.{Generation, Load}
use Rattle.rules.specs.Quantities.{points, regions}
use Rattle.rules.specs.Bytes.{bit, listed}
use Rattle.rules.specs.Refusals.{taken}
use Rattle.rules.specs.Book.{ByDirection, Settings, Defaults, Region, Unit, Requirement, Book}
use Rattle.rules.specs.Layout.{settings_smoothing, settings_limit, settings_percent, settings_interval}
use Rattle.rules.specs.Fields.{good_at}
use Rattle.rules.specs.UnitRecord.{kind_of}
use Rattle.rules.specs.RequirementRecord.{direction_of}
use Rattle.rules.specs.WholeBook.{book}
use Rattle.rules.specs.Laid.{fits, halved}
use Rattle.rules.specs.Given.{Given, quality_bytes, region_cell, unit_cell, requirement_cell, region_mark, unit_mark, frequency_given, reading_given}
use Rattle.rules.specs.Written.{book_laid, region_widths, unit_widths, requirement_widths, book_given, book_size, long_enough, counts_fine}

-- every number that is handed in fits its field
pub record Fit (g : Given) : Type 0 where
  pub settings :
      fits settings_smoothing g.smoothing && fits settings_limit g.limit && fits settings_percent g.percent && fits settings_interval g.interval
      ≡ true
  pub region : (r : ℕ) → r < regions → region_widths g r ≡ record { separation = true; amounts = true }
  pub unit : (j : ℕ) → j < g.units → unit_widths g j ≡ record { header = true; group = true; number = true }
  pub requirement : (q : ℕ) → q < g.requirements → requirement_widths g q ≡ true

-- what a written book is: the bytes laid out, as many as the counts ask, in the room that was lent; every number fits, and the reader takes the bytes
pub record Accepted (g : Given) (lent : ℕ) (bs : List ℕ) : Type 0 where
  pub bytes : bs ≡ book_laid g
  pub size : length bs ≡ book_size g.units g.requirements
  pub room : length bs ≤ lent
  pub long : long_enough g lent ≡ true
  pub counts : counts_fine g ≡ true
  pub fit : Fit g
  pub alike : book_given g ≡ book bs
  pub read : (b : Book) × (book bs ≡ taken b)

-- the numbers that the writer can say no with: 5, 6, 9, 10, 12, 16, 71 to 74 and 81 to 84
abbrev pub can_come : ℕ → Bool
can_come n = eqb n 5 || eqb n 6 || eqb n 9 || eqb n 10 || eqb n 12 || eqb n 16 || leb 71 n && leb n 74 || leb 81 n && leb n 84

-- ---- what the values that are handed in say: numbers by their size, signed ones as they are
unfoldable pub settings_said : Given → Settings
settings_said g = record {
  smoothing = nat_abs g.smoothing;
  limit = nat_abs g.limit;
  percent = nat_abs g.percent;
  interval = nat_abs g.interval;
}

-- payment, used and unused for raise, then for lower, from a column of a row on
abbrev pub three_said : (ℕ → ℤ) → ℕ → Defaults
three_said cell column = record { payment = cell column; used = cell (column + 1); unused = cell (column + 2) }

abbrev pub defaults_said : (ℕ → ℤ) → ℕ → ByDirection Defaults
defaults_said cell column = record { raise = three_said cell column; lower = three_said cell (column + 3) }

-- the bit of each point
abbrev pub quality_said : (ℕ → ℕ) → List Bool
quality_said mark = listed 0 points (λ t. bit (t % 8) (mark (t / 8)))

unfoldable pub region_said : Given → ℕ → Region
region_said g r = record {
  separation = eqb (nat_abs (region_cell g r 0)) 1;
  quality = quality_said (region_mark g r);
  before = region_cell g r 1;
  generation = nat_abs (region_cell g r 2);
  defaults = defaults_said (region_cell g r) 3;
  frequency = listed 0 points (frequency_given g r);
}

unfoldable pub unit_said : Given → ℕ → Unit
unit_said g j = record {
  number = nat_abs (unit_cell g j 0);
  region = nat_abs (unit_cell g j 1);
  kind = kind_of (nat_abs (unit_cell g j 2));
  start = unit_cell g j 3;
  end = unit_cell g j 4;
  defaults = defaults_said (unit_cell g j) 6;
  quality = quality_said (unit_mark g j);
  group = nat_abs (unit_cell g j 5);
  reading = listed 0 points (reading_given g j);
}

unfoldable pub requirement_said : Given → ℕ → Requirement
requirement_said g q = record {
  number = nat_abs (requirement_cell g q 0);
  set = nat_abs (requirement_cell g q 1);
  direction = direction_of (nat_abs (requirement_cell g q 2));
  price = nat_abs (requirement_cell g q 3);
  cost = nat_abs (requirement_cell g q 4);
  enabled = nat_abs (requirement_cell g q 5);
  used = nat_abs (requirement_cell g q 6);
}

abbrev pub said : Given → Book
said g = record {
  settings = settings_said g;
  regions = listed 0 regions (region_said g);
  roster = listed 0 g.units (unit_said g);
  requirements = listed 0 g.requirements (requirement_said g);
}

-- the lists hold numbers of their types: i64 rows, u8 quality bytes, u32 frequencies, i32 readings
pub record Typed (g : Given) : Type 0 where
  pub region_rows : (i : ℕ) → halved (2 ^ 63) (get_or g.region_rows i (pos 0)) ≡ true
  pub region_qualities : (i : ℕ) → get_or g.region_qualities i 0 < 2 ^ 8
  pub frequencies : (i : ℕ) → get_or g.frequencies i 0 < 2 ^ 32
  pub unit_rows : (i : ℕ) → halved (2 ^ 63) (get_or g.unit_rows i (pos 0)) ≡ true
  pub unit_qualities : (i : ℕ) → get_or g.unit_qualities i 0 < 2 ^ 8
  pub readings : (i : ℕ) → halved (2 ^ 31) (get_or g.readings i (pos 0)) ≡ true
  pub requirement_rows : (i : ℕ) → halved (2 ^ 63) (get_or g.requirement_rows i (pos 0)) ≡ true

-- ---- a book's values as they are handed in
-- what each of some gives, one behind the other
unfoldable pub chained : {A B : Type 0} → (A → List B) → List A → List B
chained f [] = []
chained f (x ∷ xs) = f x ++ chained f xs

-- 1 for a test that holds, for load and for lower
abbrev pub flag : Bool → ℤ
flag b = pos (cond b 1 0)

abbrev pub kind_handed : Kind → ℤ
kind_handed Generation = pos 0
kind_handed Load = pos 1

abbrev pub direction_handed : Direction → ℤ
direction_handed Raise = pos 0
direction_handed Lower = pos 1

-- ten quality bytes; bits past the last point are 0
abbrev pub mark_handed : List Bool → ℕ → ℕ
mark_handed quality i = sumℕ 8 (λ k. cond (good_at quality (8 * i + k)) (2 ^ k) 0)

abbrev pub marks_handed : List Bool → List ℕ
marks_handed quality = listed 0 quality_bytes (mark_handed quality)

abbrev pub defaults_handed : ByDirection Defaults → List ℤ
defaults_handed f =
    f.raise.payment ∷ f.raise.used ∷ f.raise.unused ∷ f.lower.payment ∷ f.lower.used ∷ f.lower.unused ∷ []

-- the rows
abbrev pub region_handed : Region → List ℤ
region_handed r = flag r.separation ∷ r.before ∷ pos r.generation ∷ defaults_handed r.defaults

abbrev pub unit_handed : Unit → List ℤ
unit_handed u =
    pos u.number ∷ pos u.region ∷ kind_handed u.kind ∷ u.start ∷ u.end ∷ pos u.group ∷ defaults_handed u.defaults

abbrev pub requirement_handed : Requirement → List ℤ
requirement_handed q =
    pos q.number ∷ pos q.set ∷ direction_handed q.direction ∷ pos q.price ∷ pos q.cost ∷ pos q.enabled ∷ pos q.used ∷ []

abbrev pub handed : Book → Given
handed b = record {
  smoothing = pos b.settings.smoothing;
  limit = pos b.settings.limit;
  percent = pos b.settings.percent;
  interval = pos b.settings.interval;
  region_rows = chained region_handed b.regions;
  region_qualities = chained (λ r. marks_handed r.quality) b.regions;
  frequencies = chained (λ r. r.frequency) b.regions;
  units = length b.roster;
  unit_rows = chained unit_handed b.roster;
  unit_qualities = chained (λ u. marks_handed u.quality) b.roster;
  readings = chained (λ u. u.reading) b.roster;
  requirements = length b.requirements;
  requirement_rows = chained requirement_handed b.requirements;
}
