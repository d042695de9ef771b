-- Kind 4, 1 to 32 records of 24 (01, The book).
use Rattle.std.specs.Prelude.{Bool, true, cond, not, ◌&&◌, ◌||◌, List, ℕ, eqb, leb, length}
use Rattle.rules.specs.declared.Direction.{Direction}
use Rattle.rules.specs.declared.Direction.TheVariants.{Raise, Lower}
use Rattle.rules.specs.declared.Refusal.TheVariants.{EndsEarly, BytesFollow, RequirementField}
use Rattle.rules.specs.Quantities.{price_limit, cost_limit, amount_limit}
use Rattle.rules.specs.Layout.{
  number_of,
  requirement_number,
  requirement_set,
  requirement_direction,
  requirement_price,
  requirement_cost,
  requirement_enabled,
  requirement_used,
}
use Rattle.rules.specs.Refusals.{Reply, taken, unless}
use Rattle.rules.specs.Book.{Requirement}
use Rattle.rules.specs.Contents.{requirement_size}

-- 0 raise, 1 lower
abbrev pub direction_of : ℕ → Direction
direction_of byte = cond (eqb byte 1) Lower Raise

-- u16 number, u8 region set, u8 direction, u32 price in cents per MW per hour, u64 cost in cents, u32 enabled and u32 used in cMW
unfoldable pub requirement_in : List ℕ → Requirement
requirement_in bs =
    record {
      number = number_of requirement_number bs;
      set = number_of requirement_set bs;
      direction = direction_of (number_of requirement_direction bs);
      price = number_of requirement_price bs;
      cost = number_of requirement_cost bs;
      enabled = number_of requirement_enabled bs;
      used = number_of requirement_used bs;
    }

-- the set is bits 0 to 4, not empty
abbrev pub set_fine : ℕ → Bool
set_fine set = leb 1 set && leb set 31

abbrev pub requirement_fine : Requirement → Bool
requirement_fine q =
    set_fine q.set && leb q.price price_limit && leb q.cost cost_limit && leb q.enabled amount_limit && leb q.used amount_limit

-- `fit` as in the settings, `least` as for units; after the last requirement's fields, bytes that follow are refused
abbrev pub requirement_judged : Bool → ℕ → Bool → List ℕ → Reply Requirement
requirement_judged fit least last bs =
    let q = requirement_in bs in
    unless (fit && (leb least q.number && leb (number_of requirement_direction bs) 1 && requirement_fine q)) RequirementField
    (unless (not last || eqb (length bs) requirement_size) BytesFollow
    (taken q))

unfoldable pub requirement_record : ℕ → Bool → List ℕ → Reply Requirement
requirement_record least last bs = unless (leb requirement_size (length bs)) EndsEarly (requirement_judged true least last bs)
