-- Both sides of each edge (01): the cases marked (P), together in one table, proved by one theorem.
use Rattle.std.specs.Prelude.{◌≡◌, refl, true, false, cond, not, List, [], ◌∷◌, ℕ, ◌-◌, eqb, leb, pos, neg_ℤ, length}
use Rattle.rules.specs.declared.Direction.TheVariants.{Raise}
use Rattle.rules.specs.declared.Kind.{Kind}
use Rattle.rules.specs.declared.Kind.TheVariants.{Generation, Load}
use Rattle.rules.specs.Bytes.{listed}
use Rattle.rules.specs.Book.{Settings, Region, Unit, Book}
use Rattle.rules.specs.Measure.{smoothed}
use Rattle.rules.specs.Reliability.{reliable}
use Rattle.rules.specs.Deviation.{deviation}
use Rattle.rules.specs.Share.{share_of, unplaced_of}
use Rattle.rules.specs.Rcr.{rcr}
use Rattle.rules.specs.Cents.{priced}
use Rattle.books.specs.Writing.{flat}
use Rattle.books.specs.PaperBook.{zeros, requirement, paper_book}
use Rattle.books.specs.Computing.{computing}

-- the smoothing is 10,000, so that FM is the number given at each point
abbrev settings : Settings
settings = (paper_book 7).settings

abbrev with_measures : (ℕ → ℕ) → Region
with_measures fm = record {
  separation = false;
  quality = flat true;
  before = pos 0;
  generation = 0;
  defaults = zeros;
  frequency = listed 0 75 (λ t. 50_000_000 - fm t);
}

-- FM 10,001 at the first point, 1 at the k after it, 0 at the rest
abbrev one_and : ℕ → ℕ → ℕ
one_and k t = cond (eqb t 0) 10_001 (cond (leb t k) 1 0)

-- start 0, end 100, reading 0
abbrev still : Kind → Unit
still kind =
    record {
      number = 1;
      region = 0;
      kind = kind;
      start = pos 0;
      end = pos 100;
      defaults = zeros;
      quality = flat true;
      group = 0;
      reading = flat (pos 0);
    }

-- five units that read 100 above a flat line, of which the first k are bad
abbrev five : ℕ → Book
five k = record { settings = settings; regions = (paper_book 7).regions; roster = listed 1 5 plant; requirements = requirement ∷ [] }
  where
    plant : ℕ → Unit
    plant n =
        record {
          number = n;
          region = 0;
          kind = Generation;
          start = pos 10_000;
          end = pos 10_000;
          defaults = zeros;
          quality = flat (not (leb n k));
          group = 0;
          reading = flat (cond (leb n k) (pos 0) (pos 10_100));
        }

-- the amounts of a share
abbrev shared : ℕ → List ℕ → List ℕ
shared T ws = listed 0 (length ws) (share_of T ws)

pub record Edges : Type 0 where
  -- a 5,000, 50,000,000: FM 1 stays 1, FM -1 stays -1
  pub one_stays : smoothed 5_000 (pos 1) 50_000_000 ≡ pos 1
  pub minus_one_stays : smoothed 5_000 (neg_ℤ (pos 1)) 50_000_000 ≡ neg_ℤ (pos 1)
  -- FM 10,000 at all points: raise unreliable. One of 10,001, six of 1, rest 0: reliable; five of 1: not
  pub all_at_limit : reliable settings (with_measures (λ t. 10_000)) Raise ≡ false
  pub seven_points : reliable settings (with_measures (one_and 6)) Raise ≡ true
  pub six_points : reliable settings (with_measures (one_and 5)) Raise ≡ false
  -- start 0, end 100, reading 0 at t = 1: -100; as a load 100
  pub first_point : deviation (still Generation) 0 ≡ neg_ℤ (pos 100)
  pub as_a_load : deviation (still Load) 0 ≡ pos 100
  -- 10 over 1,1,1: 4,3,3. 2 over 1,1,1: 1,1,0. 1 over 1,2: 0,1. 2 over 1,3: 1,1, which R-9 (02) makes 0,2. 5 over 0,0: 5 unplaced
  pub ten_over_three : shared 10 (1 ∷ 1 ∷ 1 ∷ []) ≡ (4 ∷ 3 ∷ 3 ∷ [])
  pub two_over_three : shared 2 (1 ∷ 1 ∷ 1 ∷ []) ≡ (1 ∷ 1 ∷ 0 ∷ [])
  pub one_over_two : shared 1 (1 ∷ 2 ∷ []) ≡ (0 ∷ 1 ∷ [])
  pub equal_remainders : shared 2 (1 ∷ 3 ∷ []) ≡ (0 ∷ 2 ∷ [])
  pub no_weight : shared 5 (0 ∷ 0 ∷ []) ≡ (0 ∷ 0 ∷ [])
  pub five_unplaced : unplaced_of 5 (0 ∷ 0 ∷ []) ≡ 5
  -- RCR 7,500: price 6 gives pool 1, price 5 gives 0
  pub half_a_cent : priced 6 7_500 ≡ 1
  pub under_half : priced 5 7_500 ≡ 0
  -- percent 20, five units: one bad keeps RCR, two make it 0
  pub one_bad : rcr (five 1) requirement ≡ 30_000
  pub two_bad : rcr (five 2) requirement ≡ 0

pub table : Edges
unfolding computing
table =
    record {
      one_stays = refl;
      minus_one_stays = refl;
      all_at_limit = refl;
      seven_points = refl;
      six_points = refl;
      first_point = refl;
      as_a_load = refl;
      ten_over_three = refl;
      two_over_three = refl;
      one_over_two = refl;
      equal_remainders = refl;
      no_weight = refl;
      five_unplaced = refl;
      half_a_cent = refl;
      under_half = refl;
      one_bad = refl;
      two_bad = refl;
    }
