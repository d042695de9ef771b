-- What proofs/Balance.antt speaks of.
use Rattle.std.specs.Prelude.{ℤ}
use Rattle.rules.specs.declared.Direction.{Direction}
use Rattle.rules.specs.Book.{by, Defaults, Book}
use Rattle.rules.specs.Plants.{Plant}
use Rattle.rules.specs.Performance.{plant_performance}
use Rattle.rules.specs.Standings.{plant_standing, live_or}

-- a plant's performance, or its default where that stands in, as `residual_or` has a residual's; `field` is payment or used
abbrev pub plant_or : Book → Direction → (Defaults → ℤ) → Plant → ℤ
plant_or b d field p = live_or (plant_standing b d p) (plant_performance b d p) (field (by d p.defaults))
