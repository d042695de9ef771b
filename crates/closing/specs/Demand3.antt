-- What proofs/Demand3.antt speaks of.
use Rattle.std.specs.Prelude.{◌≡◌, true, false, ℕ, ◌<◌, pos, ◌+ℤ◌}
use Rattle.integers.specs.Pairs.{gain, loss}
use Rattle.integers.specs.Totals.{total, totalℕ}
use Rattle.rules.specs.declared.Direction.{Direction}
use Rattle.rules.specs.Quantities.{points}
use Rattle.rules.specs.Book.{Unit, Requirement, covers, Book}
use Rattle.rules.specs.Plants.{Plant, alone, plants, good_plants, residual_deviation}
use Rattle.rules.specs.Performance.{plants_of, plant_performance, residual_performance}
use Rattle.rules.specs.Standings.{plant_standing, residual_standing, is_live}
use Rattle.rules.specs.Members.{plant_member, residual_or, members}
use Rattle.rules.specs.Cents.{priced}
use Rattle.rules.specs.Answer.{answer}
use Rattle.closing.specs.Parties.{some_helpful, some_unhelpful, no_default}
use Rattle.closing.specs.TwoForOne.{TwoForOne}
use Rattle.closing.specs.Drawn.{Drawn, RosterDrawn, MembersAddUp, MembersRedrawn}

-- 'In each region whose residual is live for a direction, the good units and the residual add up to zero, at every point in deviation and over the interval
-- in performance.' And so do the numbers that count for them among the members: no default stands in for one. 'Unit' reads plant: a unit
-- without a group, or a group (02, R-5).
pub record RegionCloses (b : Book) (d : Direction) (r : ℕ) : Type 0 where
  pub point : (t : ℕ) → total (λ p. p.deviation t) (good_plants (plants_of b r)) +ℤ residual_deviation (plants_of b r) t ≡ pos 0
  pub interval : total (plant_performance b d) (good_plants (plants_of b r)) +ℤ residual_performance b d r ≡ pos 0
  pub payment : total (λ p. (plant_member b d p).payment) (good_plants (plants_of b r)) +ℤ residual_or b d (λ f. f.payment) r ≡ pos 0
  pub used : total (λ p. (plant_member b d p).used) (good_plants (plants_of b r)) +ℤ residual_or b d (λ f. f.used) r ≡ pos 0

-- 'the payments' credits, the payments' debits and the pool are equal to the cent.' The pool is then the priced one; the payments sum to zero.
pub record CentsMeet (b : Book) (q : Requirement) : Type 0 where
  pub credits : totalℕ (λ l. gain l.payment) (answer b q).lines ≡ (answer b q).pool
  pub debits : totalℕ (λ l. loss l.payment) (answer b q).lines ≡ (answer b q).pool
  pub pool : (answer b q).pool ≡ priced q.price (answer b q).rcr
  pub payments : total (λ l. l.payment) (answer b q).lines ≡ pos 0

-- Of a book b whose unit u is drawn as x and y in the book c: 'their performances add up exactly to the old one, and all other performances stay.'
pub record Redrawn (b c : Book) (u x y : Unit) : Type 0 where
  pub sum : (d : Direction) → plant_performance c d (alone x) +ℤ plant_performance c d (alone y) ≡ plant_performance b d (alone u)
  pub others : (d : Direction) (w : Plant) → plant_performance c d w ≡ plant_performance b d w
  -- and all other plants are there as they were
  pub places : TwoForOne (alone u) (alone x) (alone y) (plants b.roster) (plants c.roster)
  -- the residuals' stay too, at every point as over the interval
  pub residual_points : (r t : ℕ) → t < points → residual_deviation (plants_of c r) t ≡ residual_deviation (plants_of b r) t
  pub residuals : (d : Direction) (r : ℕ) → residual_performance c d r ≡ residual_performance b d r
  -- and so does how each stands
  pub standings : (d : Direction) (w : Plant) → plant_standing c d w ≡ plant_standing b d w
  pub residual_standings : (d : Direction) (r : ℕ) → residual_standing c d r ≡ residual_standing b d r
  -- a requirement that covers the region has the two members for the one, and every number that their shares go by adds up; in any other nothing changes
  pub values : (d : Direction) → MembersAddUp (plant_member b d (alone u)) (plant_member c d (alone x)) (plant_member c d (alone y))
  pub covering : (q : Requirement) → covers q u.region ≡ true → MembersRedrawn b c q u x y
  pub elsewhere : (q : Requirement) → covers q u.region ≡ false → members c q ≡ members b q
  pub answers_elsewhere : (q : Requirement) → covers q u.region ≡ false → answer c q ≡ answer b q
  -- the pools for use stay; RCR need not, and with it the pool (PaperCloses, response-grows)
  pub used_pool : (q : Requirement) → (answer c q).used_pool ≡ (answer b q).used_pool
  pub unused_pool : (q : Requirement) → (answer c q).unused_pool ≡ (answer b q).unused_pool

-- All of it, of a book b. `parties`: 'A requirement in which no default stands has a helpful party exactly when it has an unhelpful one'; `cents`: 'where both
-- are there'; `drawn`: 'Replace one good unit by two good ones of its region and kind, all within the limits, whose start, end, defaults and every reading add
-- up to its own'. That is `Drawn`: the two stand anywhere among the new plants, under any numbers; no limit is asked for. `rosters`: so it is wherever the
-- two stand in a roster that splits no group, as none does that the format takes.
pub record BooksClose (b : Book) : Type 0 where
  pub region : (d : Direction) (r : ℕ) → is_live (residual_standing b d r) ≡ true → RegionCloses b d r
  pub parties : (q : Requirement) → no_default b q ≡ true → some_helpful b q ≡ some_unhelpful b q
  pub cents : (q : Requirement) → some_helpful b q ≡ true → some_unhelpful b q ≡ true → CentsMeet b q
  pub drawn : (c : Book) (u x y : Unit) → Drawn b c u x y → Redrawn b c u x y
  pub rosters : (c : Book) (u x y : Unit) → RosterDrawn b c u x y → Redrawn b c u x y
