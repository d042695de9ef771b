-- The series, the figures, the rows.
use mathlib.Core.Path.{sym, ◌∙◌}
use Rattle.kept.specs.Range.{series_fine, figures_fine, rows_fine}
use Rattle.answer.proofs.lent.lent_in_range.Goals as goal

pub series_in_range-requires : goal.series_in_range-requires
series_in_range-requires c = let h = c.requires in (h.measures, h.sums)

pub returns-then-not-series_in_range : goal.returns-then-not-series_in_range
unfolding series_fine
returns-then-not-series_in_range c = rw (sym c.series_in_range.ensures ∙ c.if-not-series_in_range.true)

pub figures_in_range-requires : goal.figures_in_range-requires
figures_in_range-requires c = c.requires.figures

pub returns-then-not-figures_in_range : goal.returns-then-not-figures_in_range
unfolding series_fine figures_fine
returns-then-not-figures_in_range c =
    rw (sym c.series_in_range.ensures ∙ c.if-not-series_in_range.false, sym c.figures_in_range.ensures ∙ c.if-not-figures_in_range.true)

pub rows_in_range-requires : goal.rows_in_range-requires
rows_in_range-requires c = let h = c.requires in (h.few, h.homes, h.rows)

pub returns : goal.returns
unfolding series_fine figures_fine rows_fine
returns c =
    rw (sym c.series_in_range.ensures ∙ c.if-not-series_in_range.false, sym c.figures_in_range.ensures ∙ c.if-not-figures_in_range.false)
    c.rows_in_range.ensures
