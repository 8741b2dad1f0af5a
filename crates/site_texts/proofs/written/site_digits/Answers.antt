-- The zeros fit and so does the value behind them, since a site has fifteen digits at most.
use Rattle.std.proofs.Common.{◌≡◌, ◌∙◌, ap, ℕ, ◌+◌, ◌-◌, ◌≤◌, List, ◌++◌, length, replicate, decimal, arith, length-append}
use Rattle.fixed_units.specs.Quantities.{IsSite}
use Rattle.site_texts.proofs.WrittenLemmas.{site-few, taken}
use Rattle.site_texts.specs.SiteText.{site_text}
use Rattle.site_texts.proofs.written.site_digits.Goals as goal

pub returns-clause-digits : goal.returns-clause-digits
returns-clause-digits c =
    let site = c.args.site in
    let value : c.as_bytes-value.result.now ≡ decimal site.value = c.as_bytes-value.ensures.value ∙ c.format.ensures.text ∙ ap decimal c.value.ensures.value in
    let zeros : c.zeros.result.now ≡ replicate (site.digits - length (decimal site.value)) 48 =
    c.zeros.ensures ∙ ap (λ (n : ℕ). replicate (c.digits.result - n) 48) (ap length value) ∙ ap (λ (n : ℕ). replicate (n - length (decimal site.value)) 48) c.digits.ensures.value in
    let all = length-append c.zeros.result.now c.as_bytes-value.result.now in
    let few : length (site_text site) ≤ 15 = site-few site c.value.ensures.range in
    let both : c.zeros.result.now ++ c.as_bytes-value.result.now ≡ site_text site = ap (λ (z : List ℕ). z ++ c.as_bytes-value.result.now) zeros ∙ ap (λ (v : List ℕ). replicate (site.digits - length (decimal site.value)) 48 ++ v) value in
    let whole = ap length both in
    let none : length c.new-digits.result.items ≡ 0 = ap length c.new-digits.ensures in
    let first = taken c.try_extend_from_slice-fits.result (c.try_extend_from_slice-fits.ensures.variant.1 (omega (arith, all, whole, few, none))) c.try_extend_from_slice-fits.ensures.ok in
    let count = ap length first ∙ length-append c.new-digits.result.items c.zeros.result.now in
    let second = taken c.try_extend_from_slice-fits-2.result (c.try_extend_from_slice-fits-2.ensures.variant.1 (omega (arith, all, whole, few, none, count))) c.try_extend_from_slice-fits-2.ensures.ok in
    second ∙ ap (λ (b : List ℕ). b ++ c.as_bytes-value.result.now) (first ∙ ap (λ (b : List ℕ). b ++ c.zeros.result.now) c.new-digits.ensures) ∙ both

pub returns-clause-few : goal.returns-clause-few
returns-clause-few c = site-few c.args.site c.value.ensures.range
