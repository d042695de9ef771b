-- Values handed in to be written as a book, with some of them changed (02, R-4), and the number, place and t that the writer refuses them with: what the tables
-- of the writer's refusals state.
use Rattle.std.specs.Prelude.{◌≡◌, Bool, cond, ◌&&◌, List, [], ◌∷◌, ◌++◌, map, ℕ, ◌+◌, ◌*◌, ◌-◌, eqb, ℤ, pos, neg_ℤ, nat_abs, replicate, set}
use Rattle.rules.specs.Given.{Given}
use Rattle.rules.specs.Written.{written}
use Rattle.books.specs.PaperValues.{all_good, paper_values}
use Rattle.books.specs.Told.{told}

-- the paper's settings and regions, with three units and two requirements in these lists; the book has 3,068 bytes
abbrev pub of_lists : List ℤ → List ℕ → List ℤ → List ℤ → Given
of_lists unit_rows unit_qualities readings requirement_rows = record {
  smoothing = paper_values.smoothing;
  limit = paper_values.limit;
  percent = paper_values.percent;
  interval = paper_values.interval;
  region_rows = paper_values.region_rows;
  region_qualities = paper_values.region_qualities;
  frequencies = paper_values.frequencies;
  units = 3;
  unit_rows = unit_rows;
  unit_qualities = unit_qualities;
  readings = readings;
  requirements = 2;
  requirement_rows = requirement_rows;
}

-- the values that are changed: the paper's, with a third unit, in region 1, and a second requirement
abbrev pub base : Given
base =
    of_lists (paper_values.unit_rows ++ (pos 3 ∷ pos 1 ∷ replicate 10 (pos 0))) (all_good 3) (paper_values.readings ++ replicate 75 (pos 0)) (
    paper_values.requirement_rows ++ (pos 2 ∷ pos 2 ∷ pos 1 ∷ replicate 4 (pos 0)))

-- a value put at an index of a list: of the settings and the regions' lists, or of those behind them
pub data Put : Type 0 where
  early : ℕ → ℕ → ℤ → Put
  late : ℕ → ℕ → ℤ → Put

-- a value below zero, by its size
abbrev pub below : ℕ → ℤ
below size = neg_ℤ (pos size)

-- the settings, in the order of the book; a column of a region's row, a quality byte, both from 0, a frequency by its t; the same of units and requirements.
-- Records are named by their place, from 1
abbrev pub setting : ℕ → ℤ → Put
setting i x = early 0 i x

abbrev pub region : ℕ → ℕ → ℤ → Put
region place column x = early 1 (9 * (place - 1) + column) x

abbrev pub region_byte : ℕ → ℕ → ℤ → Put
region_byte place i x = early 2 (10 * (place - 1) + i) x

abbrev pub frequency : ℕ → ℕ → ℤ → Put
frequency place t x = early 3 (75 * (place - 1) + (t - 1)) x

abbrev pub unit : ℕ → ℕ → ℤ → Put
unit place column x = late 0 (12 * (place - 1) + column) x

abbrev pub unit_byte : ℕ → ℕ → ℤ → Put
unit_byte place i x = late 1 (10 * (place - 1) + i) x

abbrev pub reading : ℕ → ℕ → ℤ → Put
reading place t x = late 2 (75 * (place - 1) + (t - 1)) x

abbrev pub requirement : ℕ → ℕ → ℤ → Put
requirement place column x = late 3 (7 * (place - 1) + column) x

-- a list with the value, if it is that list
abbrev pub in_list : {A : Type 0} → Bool → ℕ → A → List A → List A
in_list that i x xs = cond that (set xs i x) xs

abbrev with : Put → Given → Given
with (early list i x) g = record {
  smoothing = cond (eqb list 0 && eqb i 0) x g.smoothing;
  limit = cond (eqb list 0 && eqb i 1) x g.limit;
  percent = cond (eqb list 0 && eqb i 2) x g.percent;
  interval = cond (eqb list 0 && eqb i 3) x g.interval;
  region_rows = in_list (eqb list 1) i x g.region_rows;
  region_qualities = in_list (eqb list 2) i (nat_abs x) g.region_qualities;
  frequencies = in_list (eqb list 3) i (nat_abs x) g.frequencies;
  units = g.units;
  unit_rows = g.unit_rows;
  unit_qualities = g.unit_qualities;
  readings = g.readings;
  requirements = g.requirements;
  requirement_rows = g.requirement_rows;
}
with (late list i x) g = record {
  smoothing = g.smoothing;
  limit = g.limit;
  percent = g.percent;
  interval = g.interval;
  region_rows = g.region_rows;
  region_qualities = g.region_qualities;
  frequencies = g.frequencies;
  units = g.units;
  unit_rows = in_list (eqb list 0) i x g.unit_rows;
  unit_qualities = in_list (eqb list 1) i (nat_abs x) g.unit_qualities;
  readings = in_list (eqb list 2) i x g.readings;
  requirements = g.requirements;
  requirement_rows = in_list (eqb list 3) i x g.requirement_rows;
}

unfoldable pub with_all : List Put → Given → Given
with_all [] g = g
with_all (p ∷ ps) g = with_all ps (with p g)

abbrev pub refusal : Given → List ℕ
refusal g = told (written g 3_068)

-- those of each list, put together, give a refusal; each put alone gives one of its own, or all the same
pub record PutTogether (pss : List (List Put)) (ns : List (List ℕ)) : Type 0 where
  pub refusals : map (λ ps. refusal (with_all ps base)) pss ≡ ns

abbrev pub PutEach : List Put → List (List ℕ) → Type 0
PutEach ps ns = PutTogether (map (λ p. p ∷ []) ps) ns

abbrev pub PutAlone : List ℕ → List Put → Type 0
PutAlone n ps = PutEach ps (map (λ p. n) ps)
