-- DEMAND 3: 'The books close, however a plant is drawn.' First what it asks for, under its own words, up to `BooksClose`, in which all of it stands; then the
-- theorems, by the laws of the files beside this one. A calculator that keeps to the rules' definitions, as demand 2 asks, keeps all of this with them.
use mathlib.Core.Path.{◌≡◌, sym, ◌∙◌, subst}
use mathlib.Core.Bool.{true}
use mathlib.Core.List.{List, [], ◌∷◌, ◌++◌}
use Prim.Native.Nat.{ℕ}
use native.Mathlib.Omega.{arith}
use Rattle.integers.proofs.Pairs.{eq_out}
use Rattle.integers.specs.Totals.{All}
use Rattle.integers.proofs.Totals.{total_parts}
use Rattle.rules.specs.declared.Direction.{Direction}
use Rattle.rules.specs.Refusals.{taken}
use Rattle.rules.specs.Book.{Unit, Requirement, Book}
use Rattle.rules.specs.WholeBook.{book}
use Rattle.laws.proofs.PlantsLaws.{deviation_closes}
use Rattle.rules.specs.Performance.{plants_of}
use Rattle.rules.specs.Standings.{residual_standing, is_live}
use Rattle.rules.specs.Members.{plant_member}
use Rattle.laws.proofs.CentsLaws.{credits_are_the_pool, debits_are_the_pool}
use Rattle.rules.specs.Answer.{answered, answer}
use Rattle.closing.specs.Parties.{some_helpful, some_unhelpful, no_default, Placed}
use Rattle.closing.proofs.PartiesLaws.{helpful_weighs, unhelpful_weighs}
use Rattle.closing.proofs.Balance.{taken_placed, interval_closes, live_closes, both_or_neither}
use Rattle.closing.specs.Parts.{Parts}
use Rattle.closing.specs.TwoForOne.{TwoForOne}
use Rattle.closing.specs.Drawn.{with_roster, SameElse, Drawn}
use Rattle.closing.proofs.Replacing.{
  plant_performance_stays,
  plant_standing_stays,
  used_pool_stays,
  unused_pool_stays,
  performances_add_up,
  members_add_up,
  residual_deviation_stays,
  residual_performance_stays,
  residual_standing_stays,
  members_redrawn,
  members_stay,
  answer_stays,
}
use Rattle.closing.proofs.Rosters.{drawn_in_place, rosters_drawn, ungrouped_unsplit, taken_unsplit}
use Rattle.closing.specs.Demand3.{BooksClose, CentsMeet, Redrawn, RegionCloses}

-- ---- the theorems; each holds of any book at all, also of one past the limits, but for what it names
pub region_closes : (b : Book) (d : Direction) (r : ℕ) → is_live (residual_standing b d r) ≡ true → RegionCloses b d r
unfolding plant_member
region_closes b d r l =
    record {
      point = deviation_closes (plants_of b r);
      interval = interval_closes b r d;
      payment = live_closes b r d (λ f. f.payment) l;
      used = live_closes b r d (λ f. f.used) l;
    }

-- each plant is of one of the five regions
pub parties_meet : (b : Book) → Placed b → (q : Requirement) → no_default b q ≡ true → some_helpful b q ≡ some_unhelpful b q
parties_meet b h q l = both_or_neither b q h l

pub cents_meet : (b : Book) (q : Requirement) → some_helpful b q ≡ true → some_unhelpful b q ≡ true → CentsMeet b q
unfolding answer answered
cents_meet b q helps harms =
    let credits = credits_are_the_pool b q in
    let debits = debits_are_the_pool b q in
    record {
      credits = credits;
      debits = debits;
      pool = rw (helpful_weighs b q ∙ helps, unhelpful_weighs b q ∙ harms);
      payments = eq_out (omega (arith, credits, debits, total_parts (λ l. l.payment) (answer b q).lines));
    }

pub however_drawn : (b c : Book) (u x y : Unit) → Drawn b c u x y → Redrawn b c u x y
however_drawn b c u x y k =
    let h = k.parts in
    let us = c.roster in
    subst (λ (c : Book). Redrawn b c u x y) (sym k.all_else)
    (record {
      sum = performances_add_up h b us;
      others = plant_performance_stays b us;
      places = k.places;
      residual_points = residual_deviation_stays h b us k.places;
      residuals = residual_performance_stays h b us k.places;
      standings = plant_standing_stays b us;
      residual_standings = residual_standing_stays h b us k.places;
      values = members_add_up h b us;
      covering = members_redrawn h b us k.places;
      elsewhere = members_stay h b us k.places;
      answers_elsewhere = answer_stays h b us k.places;
      used_pool = used_pool_stays b us;
      unused_pool = unused_pool_stays b us;
    })

-- the two side by side where the one stood, in any roster at all
pub redrawn_in_place : (b : Book) (u x y : Unit) → Parts u x y → (before after : List Unit) → b.roster ≡ before ++ (u ∷ after) →
    Redrawn b (with_roster b (before ++ (x ∷ y ∷ after))) u x y
redrawn_in_place b u x y h before after e = however_drawn b _ u x y (drawn_in_place b u x y h before after e)

-- anywhere, in rosters without groups
pub ungrouped_redrawn : (b c : Book) (u x y : Unit) → All (λ w. w.group ≡ 0) b.roster → All (λ w. w.group ≡ 0) c.roster →
    Parts u x y → TwoForOne u x y b.roster c.roster → SameElse b c → Redrawn b c u x y
ungrouped_redrawn b c u x y old new h two e =
    however_drawn b c u x y
    (rosters_drawn b c u x y (ungrouped_unsplit [] b.roster old)
    (record { parts = h; places = two; unsplit = ungrouped_unsplit [] c.roster new; all_else = e }))

-- anywhere, in books that the format takes
pub taken_redrawn : (bs cs : List ℕ) (b c : Book) → book bs ≡ taken b → book cs ≡ taken c → (u x y : Unit) →
    Parts u x y → TwoForOne u x y b.roster c.roster → SameElse b c → Redrawn b c u x y
taken_redrawn bs cs b c old new u x y h two e =
    however_drawn b c u x y
    (rosters_drawn b c u x y (taken_unsplit bs b old) (record { parts = h; places = two; unsplit = taken_unsplit cs c new; all_else = e }))

-- of every book that the format takes
pub books_close : (bs : List ℕ) (b : Book) → book bs ≡ taken b → BooksClose b
books_close bs b e =
    record {
      region = region_closes b;
      parties = parties_meet b (taken_placed bs b e);
      cents = cents_meet b;
      drawn = however_drawn b;
      rosters = λ c u x y k. however_drawn b c u x y (rosters_drawn b c u x y (taken_unsplit bs b e) k);
    }
