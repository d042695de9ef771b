-- The page record and the keys of the panel (02, R-13). A requirement has its first page, number 0, and one page a member, so that its last page's number is
-- how many members it has; with no members the first page stands alone.
use Rattle.std.specs.Prelude.{cond, ◌&&◌, ℕ, suc, ◌-◌, eqb, ltb}
use Rattle.rules.specs.declared.Page.{Page}
use Rattle.rules.specs.declared.Key.{Key}
use Rattle.rules.specs.declared.Key.TheVariants.{Show, Next, Previous, Home}

-- between two books or requirements the page goes home; a page past the last acts as the last
abbrev pub stands_at : Page → ℕ → ℕ → ℕ → ℕ
stands_at p book requirement last =
    cond (eqb p.book book && eqb p.requirement requirement) (cond (ltb last p.page) last p.page) 0

-- next on the last page and previous on the first stay put
abbrev pub moved : Key → ℕ → ℕ → ℕ
moved Show last page = page
moved Next last page = cond (ltb page last) (suc page) page
moved Previous last page = page - 1
moved Home last page = 0

-- a key press: first where the page stands, then the key
unfoldable pub step : Page → Key → ℕ → ℕ → ℕ → Page
step p key book requirement members =
    record { book = book; requirement = requirement; page = moved key members (stands_at p book requirement members) }
