-- What a byte of standard input asks for, and where it goes from the requirement on show (02, R-13). Requirements are counted from 0 to the last.
use Rattle.std.specs.Prelude.{Bool, cond, ℕ, ◌+◌, ◌-◌, ◌≤◌, eqb, ltb}
use Rattle.rules.specs.declared.Key as k
use Rattle.watch.specs.declared.commands.Command.{Command}
use Rattle.watch.specs.declared.commands.Command.TheVariants.{Page, NextRequirement, PreviousRequirement, NextBook, Nothing}
use Rattle.watch.specs.declared.commands.Command as c
use Rattle.watch.specs.declared.commands.Turn.{Turn}
use Rattle.watch.specs.declared.commands.Turn.TheVariants.{Press, Requirement, Book}
use Rattle.watch.specs.declared.commands.Turn as t

-- n, p, h, r, R, b and q; any other byte is nothing
abbrev pub command : ℕ → Command
command byte =
    cond (eqb byte 110) (Page k.TheVariants.Next)
    (cond (eqb byte 112) (Page k.TheVariants.Previous)
    (cond (eqb byte 104) (Page k.TheVariants.Home)
    (cond (eqb byte 114) NextRequirement
    (cond (eqb byte 82) PreviousRequirement
    (cond (eqb byte 98) NextBook
    (cond (eqb byte 113) c.TheVariants.End Nothing))))))

-- at its end each stays put: the page is drawn again
abbrev pub turn : Command → ℕ → ℕ → Bool → Turn
turn (Page key) requirement last more = Press key
turn NextRequirement requirement last more = cond (ltb requirement last) (Requirement (requirement + 1)) (Press k.TheVariants.Show)
turn PreviousRequirement requirement last more = cond (ltb 0 requirement) (Requirement (requirement - 1)) (Press k.TheVariants.Show)
turn NextBook requirement last more = cond more Book (Press k.TheVariants.Show)
turn c.TheVariants.End requirement last more = t.TheVariants.End
turn Nothing requirement last more = Press k.TheVariants.Show

-- a requirement that is gone to is one of the book's
abbrev pub Within : ℕ → Turn → Type 0
Within last (Press key) = Unit {0}
Within last (Requirement next) = next ≤ last
Within last Book = Unit {0}
Within last t.TheVariants.End = Unit {0}
