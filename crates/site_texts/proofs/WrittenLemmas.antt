-- How long the text of a site is.
use Rattle.std.proofs.Common.{◌≡◌, ℕ, ◌-◌, ◌^◌, ◌≤◌, Result, Ok, Err, IsOk, OnOk, length, replicate, decimal, arith, length-append}
use Rattle.std.proofs.Math.Nat.{pow-le-pow_right}
use Rattle.std.proofs.lemmas.Fmt.{length-decimal-le_wide}
use Rattle.std.proofs.lemmas.List.{length-replicate}
use Rattle.fixed_units.specs.Quantities.{SiteNumber, IsSite}
use Rattle.site_texts.specs.SiteText.{site_text}

-- a site number
pub site-few : (site : SiteNumber) → IsSite site → length (site_text site) ≤ 15
site-few site h =
    let wide : 10 ^ site.digits ≤ 10 ^ 15 = pow-le-pow_right (omega arith) h.longest in
    let digits = length-decimal-le_wide site.digits site.value (omega (arith, h.shortest)) h.written (omega (arith, h.written)) in
    let zeros : length {A = ℕ} (replicate (site.digits - length (decimal site.value)) 48) ≡ site.digits - length (decimal site.value) =
    length-replicate (site.digits - length (decimal site.value)) 48 in
    omega (arith, zeros, digits, h.longest, length-append (replicate (site.digits - length (decimal site.value)) 48) (decimal site.value))

-- what fits is taken
pub taken : {T E P : Type 0} (r : Result T E) → IsOk r → OnOk r P → P
taken (Ok value) fits p = p
taken (Err error) fits p = absurd (cc fits)
