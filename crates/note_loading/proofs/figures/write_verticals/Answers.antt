-- A turn adds the line at its place.
use Rattle.std.proofs.Common.{◌≡◌, ◌∙◌, ℕ, suc, ◌+◌, List, ◌++◌, length, take, ap, sym, append_assoc, append-nil, arith}
use Rattle.std.specs.List.{concat}
use Rattle.std.specs.Prelude.{None}
use Rattle.std.proofs.Math.Seq.{take-length}
use Rattle.midsection.specs.Midsection.{discharges, total}
use Rattle.midsection.proofs.DischargeLemmas.{discharges_length}
use Rattle.note_loading.specs.Figures.{line_at, lines_from}
use Rattle.note_loading.proofs.FigureLemmas.{line_more}
use Rattle.note_loading.proofs.figures.write_verticals.Goals as goal

pub loop-place-init : goal.loop-place-init
unfolding lines_from
loop-place-init c = record { within = omega arith; lines = sym (append-nil c.args.text.now) }

pub loop-place-preserved : goal.loop-place-preserved
loop-place-preserved c =
    let vs = c.args.notes.now in
    let i = c.loop-place.place in
    let inv = c.loop-place.invariant in
    let e : i + 1 ≡ suc i = omega arith in
    let so_far = concat (lines_from 1 (total vs) (take i (discharges vs))) in
    record {
      within = omega arith;
      lines =
          rw e (c.in_ok-write_vertical.ensures ∙ ap (λ (l : List ℕ). l ++ line_at vs i) inv.lines ∙ append_assoc c.args.text.now so_far (line_at vs i)
          ∙ ap (λ (l : List ℕ). c.args.text.now ++ l) (sym (line_more vs i (omega arith))));
    }

pub returns : goal.returns
returns c =
    let vs = c.args.notes.now in
    let all = discharges vs in
    let inv = c.loop-place.invariant in
    let full : c.loop-place.place ≡ length all = omega (arith, discharges_length None vs, inv.within) in
    inv.lines ∙ ap (λ (k : ℕ). c.args.text.now ++ concat (lines_from 1 (total vs) (take k all))) full
    ∙ ap (λ l. c.args.text.now ++ concat (lines_from 1 (total vs) l)) (take-length all)
