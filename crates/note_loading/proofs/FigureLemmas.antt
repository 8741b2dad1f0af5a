-- The lines of verticals, one behind another.
use Rattle.std.proofs.Common.{◌≡◌, ◌∙◌, ℕ, zero, suc, ◌+◌, ◌<◌, List, [], ◌∷◌, ◌++◌, length, take, get_or, Option, Some, ℤ, pos, refl, ap, sym, append_assoc, append-nil, length-append, arith}
use Rattle.std.specs.List.{concat}
use Rattle.std.specs.Prelude.{slice_get, None}
use Rattle.std.proofs.lemmas.Option.{slice_get-get_or}
use Rattle.midsection.specs.Midsection.{discharges, share_of, total}
use Rattle.midsection.specs.declared.verticals.Vertical.{Vertical}
use Rattle.midsection.proofs.DischargeLemmas.{discharges_length}
use Rattle.note_loading.specs.Figures.{figures_text, line_at, line_of, lines_from, total_line, vertical_line, verticals_text}

more : (number : ℕ) (sum : ℤ) (qs : List ℤ) (i : ℕ) (q : ℤ) → slice_get qs i ≡ Some q
    → concat (lines_from number sum (take (suc i) qs)) ≡ concat (lines_from number sum (take i qs)) ++ vertical_line (number + i) q (share_of sum q)
unfolding lines_from
more number sum [] i q e = absurd (cc)
more number sum (x ∷ qs) zero q e =
    let same : x ≡ q = cc in
    let here : number + 0 ≡ number = omega arith in
    append-nil (vertical_line number x (share_of sum x)) ∙ ap (λ (y : ℤ). vertical_line number y (share_of sum y)) same
    ∙ ap (λ (n : ℕ). vertical_line n q (share_of sum q)) (sym here)
more number sum (x ∷ qs) (suc i) q e =
    let there : suc number + i ≡ number + suc i = omega arith in
    let line = vertical_line number x (share_of sum x) in
    ap (λ (l : List ℕ). line ++ l) (more (suc number) sum qs i q e)
    ∙ sym (append_assoc line (concat (lines_from (suc number) sum (take i qs))) (vertical_line (suc number + i) q (share_of sum q)))
    ∙ ap (λ (n : ℕ). (line ++ concat (lines_from (suc number) sum (take i qs))) ++ vertical_line n q (share_of sum q)) there

-- one more line
pub line_more : (verticals : List Vertical) (i : ℕ) → i < length verticals
    → concat (lines_from 1 (total verticals) (take (suc i) (discharges verticals))) ≡ concat (lines_from 1 (total verticals) (take i (discharges verticals))) ++ line_at verticals i
line_more verticals i l =
    let qs = discharges verticals in
    let q = get_or qs i (pos 0) in
    let long = discharges_length None verticals in
    let e = slice_get-get_or qs i (pos 0) (omega (arith, l, long)) in
    let number : 1 + i ≡ i + 1 = omega arith in
    more 1 (total verticals) qs i q e
    ∙ ap (λ (n : ℕ). concat (lines_from 1 (total verticals) (take i qs)) ++ vertical_line n q (share_of (total verticals) q)) number
    ∙ ap (λ (o : Option ℤ). concat (lines_from 1 (total verticals) (take i qs)) ++ line_of (i + 1) (total verticals) o) (sym e)

-- there is a line of the total at least
pub some_figures : (verticals : List Vertical) → 0 < length (figures_text verticals)
some_figures verticals =
    let long = length-append (verticals_text verticals) (total_line (total verticals)) in
    omega (arith, long)
