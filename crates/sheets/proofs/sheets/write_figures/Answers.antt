use Rattle.std.proofs.Common.{is_some}
use Rattle.std.proofs.lemmas.Result.{on_ok_weaker}
use Rattle.daily_values.specs.Figures.{published_discharge}
use Rattle.sheets.specs.Sheets.{counts_lines, extremes_lines, means_lines, published_line}
use Rattle.sheets.proofs.JoinLemmas.{sections-few, sections_joined}
use Rattle.sheets.proofs.sheets.write_figures.Goals as goal

pub returns-clause-ok : goal.returns-clause-ok
returns-clause-ok c =
    let figures = c.args.figures.now in
    on_ok_weaker c.write_published_line.result
    (λ told. sections_joined c.args.out.now (counts_lines figures.length figures.least figures.counts) (means_lines figures) (extremes_lines figures.extremes)
    (published_line (published_discharge figures) (is_some figures.estimate)) c.write_counts.new.out c.write_means.new.out c.write_extremes.new.out
    c.write_published_line.new.out (rw (c.length.ensures, c.least.ensures.least, c.counts.ensures.counts) at c.in_ok-write_counts.ensures.ok)
    c.in_ok-write_means.ensures.ok (rw c.extremes.ensures at c.in_ok-write_extremes.ensures.ok)
    (rw (c.is_some.ensures, c.estimate.ensures.estimate, c.discharge_text.ensures) at told))
    c.write_published_line.ensures.ok

pub returns-clause-size : goal.returns-clause-size
returns-clause-size c =
    let figures = c.args.figures.now in
    on_ok_weaker c.write_published_line.result
    (λ told. sections-few (counts_lines figures.length figures.least figures.counts) (means_lines figures) (extremes_lines figures.extremes)
    (published_line (published_discharge figures) (is_some figures.estimate))
    (rw (c.length.ensures, c.least.ensures.least, c.counts.ensures.counts) at c.in_ok-write_counts.ensures.size) c.in_ok-write_means.ensures.size
    (rw c.extremes.ensures at c.in_ok-write_extremes.ensures.size)
    (rw (c.is_some.ensures, c.estimate.ensures.estimate, c.discharge_text.ensures) at told))
    c.write_published_line.ensures.size
