-- The answer to one requirement: what the listing prints of it (01, One listing in full).
use Rattle.std.specs.Prelude.{Bool, List, ℕ, ◌-◌, ℤ}
use Rattle.integers.specs.Totals.{numbered}
use Rattle.rules.specs.declared.Direction.{Direction}
use Rattle.rules.specs.declared.Standing.{Standing}
use Rattle.rules.specs.Book.{Requirement, Book}
use Rattle.rules.specs.Members.{Name, Member, members}
use Rattle.rules.specs.Share.{unplaced_of}
use Rattle.rules.specs.Factors.{both_signs, factor}
use Rattle.rules.specs.Rcr.{rcr, all_reliable}
use Rattle.rules.specs.Cents.{pool_of, used_pool_of, used_weights, unused_weights, charge}

-- Member: name, standing, payment performance, factor, payment, used, unused
pub record Line : Type 0 where
  pub name : Name
  pub standing : Standing
  pub performance : ℤ
  pub factor : ℤ
  pub payment : ℤ
  pub used : ℤ
  pub unused : ℤ

-- Requirement: number, direction, RCR, pool, used pool, unused pool, unplaced of used and of unused
pub record Answer : Type 0 where
  pub number : ℕ
  pub direction : Direction
  pub rcr : ℕ
  pub pool : ℕ
  pub used_pool : ℕ
  pub unused_pool : ℕ
  pub unplaced_used : ℕ
  pub unplaced_unused : ℕ
  pub lines : List Line

-- the lines of members among whom three pools are shared
unfoldable pub lines_of : ℕ → ℕ → ℕ → List Member → List Line
lines_of pool used_pool unused_pool ms =
    numbered (λ i m.
    record {
      name = m.name;
      standing = m.standing;
      performance = m.payment;
      factor = factor ms i;
      payment = both_signs pool ms i;
      used = charge used_pool (used_weights ms) i;
      unused = charge unused_pool (unused_weights ms) i;
    }) ms

-- from RCR, whether all its regions are reliable, and its members. Unused pool: cost less used pool
unfoldable pub answered : Requirement → ℕ → Bool → List Member → Answer
answered q r reliable ms =
    let pool = pool_of q r ms in
    let used_pool = used_pool_of q reliable in
    let unused_pool = q.cost - used_pool in
    record {
      number = q.number;
      direction = q.direction;
      rcr = r;
      pool = pool;
      used_pool = used_pool;
      unused_pool = unused_pool;
      unplaced_used = unplaced_of used_pool (used_weights ms);
      unplaced_unused = unplaced_of unused_pool (unused_weights ms);
      lines = lines_of pool used_pool unused_pool ms;
    }

unfoldable pub answer : Book → Requirement → Answer
answer b q = answered q (rcr b q) (all_reliable b q) (members b q)
