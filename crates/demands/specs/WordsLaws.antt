-- What proofs/WordsLaws.antt speaks of.
use Rattle.std.specs.Prelude.{ℕ, zero, suc}
use Rattle.rules.specs.declared.Reason.TheVariants.{UnreliableRegion, BadUnit, NoGoodUnit}
use Rattle.rules.specs.declared.Standing.{Standing}
use Rattle.rules.specs.declared.Standing.TheVariants.{Live, Default}

-- ---- a standing's number tells the standing
abbrev pub standing_of : ℕ → Standing
standing_of zero = Live
standing_of (suc zero) = Default UnreliableRegion
standing_of (suc (suc zero)) = Default BadUnit
standing_of (suc (suc (suc n))) = Default NoGoodUnit
