-- The page is drawn, or refused.
use mathlib.Core.Path.{refl}
use Rattle.dullavane_panel.proofs.CalledLaws.{page_drawn}
use Rattle.dullavane_panel.proofs.dullavane_panel_phrase.Goals as goal

pub returns : goal.returns
returns c = page_drawn refl c.refusal_page.ensures c.tell_drawn.ensures
