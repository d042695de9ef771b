-- The number that the word is.
use mathlib.Core.Path.{◌∙◌, ap}
use Rattle.report.specs.Version.{version_of}
use Rattle.report.proofs.version.version_in.Goals as goal

pub returns : goal.returns
returns c = c.version_of.ensures ∙ ap version_of c.word_of.ensures
