-- The first line ends where the search found LF, or with the text.
use Rattle.std.proofs.Common.{◌≡◌, ◌∙◌, ap, sym, arith, ◌+◌, ◌-◌, List, ℕ, ◌∷◌, length, take, drop}
use Rattle.rating_tables.specs.Lines.{lines_of}
use Rattle.rating_tables.proofs.LineTextLemmas.{found_feed, found_no_feed, rest_whole}
use Rattle.logger_files.proofs.lines.cut_line.Goals as goal

pub returns-in-Some-clause-lines : goal.returns-in-Some-clause-lines
returns-in-Some-clause-lines c =
    (found_feed c.args.text.now c.in-Some.end c.in-Some.ensures).0
    ∙ ap (λ (l : List ℕ). l ∷ lines_of (drop (c.in-Some.end + 1) c.args.text.now)) (sym c.without_return.ensures)
    ∙ ap (λ (t : List ℕ). c.without_return.result.now ∷ lines_of t) (sym (rest_whole (c.in-Some.end + 1) c.args.text.now))

pub returns-in-None-clause-lines : goal.returns-in-None-clause-lines
returns-in-None-clause-lines c =
    let nothing : length c.args.text.now - length c.args.text.now ≡ 0 = omega arith in
    (found_no_feed c.args.text.now c.requires c.in-None.ensures).0
    ∙ ap (λ n. c.args.text.now ∷ lines_of (take n (drop (length c.args.text.now) c.args.text.now))) (sym nothing)
