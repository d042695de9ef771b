-- What the calls ensure.
use mathlib.Core.Path.{◌∙◌, ap₂}
use mathlib.Core.Bool.{Bool}
use Rattle.rules.specs.declared.Reason.TheVariants.{BadUnit}
use Rattle.rules.specs.Standings.{standing}
use Rattle.answer.proofs.made.row_standing.Goals as goal

pub returns : goal.returns
returns c = c.standing_of.ensures ∙ ap₂ (λ (s t : Bool). standing s t BadUnit) c.reliable-sound.ensures c.is_good.ensures
