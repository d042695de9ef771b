-- The next cursor in its words where something was written, 0 in the first where nothing is left, else the refusal's number.
use mathlib.Core.Path.{refl}
use Rattle.dullavane_listing.proofs.CursorLaws.{first_store}
use Rattle.dullavane_listing.proofs.words.tell_listed.Goals as goal

pub returns-in-Written : goal.returns-in-Written
returns-in-Written c =
    rw c.in-Written.is (refl, c.put_cursor.ensures.0, c.put_cursor.ensures.1)

pub returns-in-Nothing : goal.returns-in-Nothing
returns-in-Nothing c =
    rw c.in-Nothing.is (refl, first_store c.args.words.now 0 c.requires, tt)

pub returns-in-Refused : goal.returns-in-Refused
returns-in-Refused c = rw c.in-Refused.is (c.refusal_number.ensures, refl, tt)
