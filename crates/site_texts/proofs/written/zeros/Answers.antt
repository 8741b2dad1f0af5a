-- Of fifteen zeros the first few are zeros.
use Rattle.std.proofs.Common.{◌≡◌, ◌∙◌, ap, ◌-◌, ◌≤◌, replicate, arith}
use Rattle.std.proofs.lemmas.List.{take-replicate}
use Rattle.site_texts.proofs.written.zeros.Goals as goal

pub returns : goal.returns
returns c =
    let so_many : c.saturating_sub.result ≡ c.args.digits - c.args.written = omega arith in
    let few : c.saturating_sub.result ≤ 15 = omega arith in
    take-replicate c.saturating_sub.result 15 48 few ∙ ap (λ n. replicate n 48) so_many
