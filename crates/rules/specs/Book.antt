-- What a book says (01, The book).
use Rattle.std.specs.Prelude.{Bool, List, [], ℕ, ℤ, pos, neg_ℤ, get_or}
use Rattle.rules.specs.declared.Direction.{Direction}
use Rattle.rules.specs.declared.Direction.TheVariants.{Raise, Lower}
use Rattle.rules.specs.declared.Kind.{Kind}
use Rattle.rules.specs.Bytes.{bit}

-- one of two things, by the direction
pub record ByDirection (A : Type 0) : Type 0 where
  pub raise : A
  pub lower : A

abbrev pub by : {A : Type 0} → Direction → ByDirection A → A
by Raise both = both.raise
by Lower both = both.lower

-- a number seen in a direction: lower mirrors raise
abbrev pub toward : Direction → ℤ → ℤ
toward Raise x = x
toward Lower x = neg_ℤ x

pub record Settings : Type 0 where
  pub smoothing : ℕ
  pub limit : ℕ
  pub percent : ℕ
  pub interval : ℕ

pub record Defaults : Type 0 where
  pub payment : ℤ
  pub used : ℤ
  pub unused : ℤ

-- a frequency record
pub record Region : Type 0 where
  pub separation : Bool
  pub quality : List Bool
  pub before : ℤ
  pub generation : ℕ
  pub defaults : ByDirection Defaults
  pub frequency : List ℕ

pub record Unit : Type 0 where
  pub number : ℕ
  pub region : ℕ
  pub kind : Kind
  pub start : ℤ
  pub end : ℤ
  pub defaults : ByDirection Defaults
  pub quality : List Bool
  pub group : ℕ
  pub reading : List ℤ

pub record Requirement : Type 0 where
  pub number : ℕ
  pub set : ℕ
  pub direction : Direction
  pub price : ℕ
  pub cost : ℕ
  pub enabled : ℕ
  pub used : ℕ

-- a requirement's regions: bits 0 to 4
abbrev pub covers : Requirement → ℕ → Bool
covers q r = bit r q.set

pub record Book : Type 0 where
  pub settings : Settings
  pub regions : List Region
  pub roster : List Unit
  pub requirements : List Requirement

-- the region of a number, of which a book has five
no_defaults : Defaults
no_defaults = record { payment = pos 0; used = pos 0; unused = pos 0 }

pub no_region : Region
no_region = record {
  separation = Bool.true;
  quality = [];
  before = pos 0;
  generation = 0;
  defaults = record { raise = no_defaults; lower = no_defaults };
  frequency = [];
}

abbrev pub regionOf : Book → ℕ → Region
regionOf b r = get_or b.regions r no_region
