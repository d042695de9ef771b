-- Each entry answers by itself; the first that is wrong is the table's refusal, and one that is fine lets the next speak.
use Rattle.std.proofs.Common.{ℕ, sym, ◌∙◌, ap, ◌+◌, ◌*◌}
use Rattle.std.proofs.lemmas.Result.{err_from_is_err_and}
use Rattle.book.proofs.ContentsLaws.{entries_passed}
use Rattle.book.specs.Contents.{entry_answer}
use Rattle.book.proofs.contents.read_entries.Goals as goal

pub returns-in_err-entry : goal.returns-in_err-entry
returns-in_err-entry c =
    let p = err_from_is_err_and c.from_residual.result c.from_residual.ensures.1 in
    let e = sym c.entry.ensures ∙ c.in_err-entry.was in
    rw (p.1, p.2, entries_passed c.args.part.now, e)

pub returns-in_err-entry-2 : goal.returns-in_err-entry-2
returns-in_err-entry-2 c =
    let p = err_from_is_err_and c.from_residual-in_err-entry-2.result c.from_residual-in_err-entry-2.ensures.1 in
    let e = sym c.entry.ensures ∙ c.in_ok-entry.was in
    let e2 = sym c.entry-2.ensures ∙ c.in_err-entry-2.was in
    rw (p.1, p.2, entries_passed c.args.part.now, e, e2)

pub returns-in_err-entry-3 : goal.returns-in_err-entry-3
returns-in_err-entry-3 c =
    let p = err_from_is_err_and c.from_residual-in_err-entry-3.result c.from_residual-in_err-entry-3.ensures.1 in
    let e = sym c.entry.ensures ∙ c.in_ok-entry.was in
    let e2 = sym c.entry-2.ensures ∙ c.in_ok-entry-2.was in
    let e3 = sym c.entry-3.ensures ∙ c.in_err-entry-3.was in
    rw (p.1, p.2, entries_passed c.args.part.now, e, e2, e3)

pub returns-in_err-entry-4 : goal.returns-in_err-entry-4
returns-in_err-entry-4 c =
    let bs = c.args.part.now in
    let p = err_from_is_err_and c.from_residual-in_err-entry-4.result c.from_residual-in_err-entry-4.ensures.1 in
    let e = sym c.entry.ensures ∙ c.in_ok-entry.was in
    let e2 = sym c.entry-2.ensures ∙ c.in_ok-entry-2.was in
    let e3 = sym c.entry-3.ensures ∙ c.in_ok-entry-3.was in
    let e4 = sym (c.entry-4.ensures ∙ ap (λ (n : ℕ). entry_answer 44 4 1 32 (1904 + n * 372) 24 bs) c.u16_at-n.ensures.reply) ∙ c.in_err-entry-4.was in
    rw (p.1, p.2, entries_passed bs, e, e2, e3, e4)

pub returns : goal.returns
returns c =
    let bs = c.args.part.now in
    let e = sym c.entry.ensures ∙ c.in_ok-entry.was in
    let e2 = sym c.entry-2.ensures ∙ c.in_ok-entry-2.was in
    let e3 = sym c.entry-3.ensures ∙ c.in_ok-entry-3.was in
    let e4 = sym (c.entry-4.ensures ∙ ap (λ (n : ℕ). entry_answer 44 4 1 32 (1904 + n * 372) 24 bs) c.u16_at-n.ensures.reply) ∙ c.in_ok-entry-4.was in
    rw (entries_passed bs, e, e2, e3, e4, c.u16_at-n.ensures.reply, c.u16_at.ensures.reply)
