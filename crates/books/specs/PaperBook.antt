-- The book of 'One listing in full' (01), as what it says.
use Rattle.std.specs.Prelude.{true, false, [], ◌∷◌, ℕ, pos, neg_ℤ}
use Rattle.rules.specs.declared.Direction.TheVariants.{Raise}
use Rattle.rules.specs.declared.Kind.TheVariants.{Generation, Load}
use Rattle.rules.specs.Book.{ByDirection, Defaults, Region, Unit, Requirement, Book}
use Rattle.books.specs.Writing.{flat}

abbrev pub none : Defaults
none = record { payment = pos 0; used = pos 0; unused = pos 0 }

-- raise unused defaults -1,000 for both units and for region 0's residual; all others 0
abbrev pub zeros : ByDirection Defaults
zeros = record { raise = none; lower = none }

abbrev pub thousand : ByDirection Defaults
thousand = record { raise = record { payment = pos 0; used = pos 0; unused = neg_ℤ (pos 1_000) }; lower = none }

-- all points good, FM before 0
abbrev pub region : ℕ → ByDirection Defaults → ℕ → Region
region generation defaults frequency = record {
  separation = false;
  quality = flat true;
  before = pos 0;
  generation = generation;
  defaults = defaults;
  frequency = flat frequency;
}

-- unit 1: region 0, generation, 10,000 to 10,000, readings 10,100
abbrev pub first : Unit
first = record {
  number = 1;
  region = 0;
  kind = Generation;
  start = pos 10_000;
  end = pos 10_000;
  defaults = thousand;
  quality = flat true;
  group = 0;
  reading = flat (pos 10_100);
}

-- unit 2: region 0, load, 5,000 to 5,000, readings 5,030
abbrev pub second : Unit
second = record {
  number = 2;
  region = 0;
  kind = Load;
  start = pos 5_000;
  end = pos 5_000;
  defaults = thousand;
  quality = flat true;
  group = 0;
  reading = flat (pos 5_030);
}

-- requirement 1: set 1, raise, price 1,200, cost 1,000, enabled 1,000, used 333
abbrev pub requirement : Requirement
requirement = record { number = 1; set = 1; direction = Raise; price = 1_200; cost = 1_000; enabled = 1_000; used = 333 }

-- a 10,000, limit 10, percent 20; region 0 at 49,980,000 throughout, generation 100,000; the others 50,000,000 and 0
abbrev pub paper_book : ℕ → Book
paper_book interval =
    record {
      settings = record { smoothing = 10_000; limit = 10; percent = 20; interval = interval };
      regions = region 100_000 thousand 49_980_000 ∷ other ∷ other ∷ other ∷ other ∷ [];
      roster = first ∷ second ∷ [];
      requirements = requirement ∷ [];
    }
  where
    other : Region
    other = region 0 zeros 50_000_000
