use Rattle.std.proofs.Common.{length, ap, ◌∙◌, arith}
use Rattle.turnstile.specs.Passes.{tally, entered}
use Rattle.turnstile.proofs.ListLemmas.{prefix_length, tally_within}
use Rattle.turnstile.proofs.lock.Turnstile.leave.Goals as goal

pub returns-clause-pass : goal.returns-clause-pass
returns-clause-pass g c =
    let h = c.requires.held.0 in let b = c.requires.held.1 in let p = c.put.ensures.pass in
    let log = g.T.Kept.history c.args.held.value in
    let within = tally_within (tally c.args.held.pass) (length (entered c.args.held)) (length log) (prefix_length (entered c.args.held) log c.requires.begins) b.within in (
      (p.0 ∙ h.0, ap (λ m. m.1) p.1, ap (λ m. m.0.holds) p.1, rw p.1 h.3, ap (λ m. m.0.told) p.1 ∙ h.4),
      record {
        fixed_part = ap (λ m. m.0.fixed) p.1 ∙ b.fixed_part;
        start = ap (λ m. m.0.start) p.1 ∙ b.start;
        begun = (let a = b.begun in let l = prefix_length (entered c.args.held) log c.requires.begins in let e = ap (λ m. length m.0.seen) p.1 in omega (arith, a, l, e));
        within = rw p.1 within;
      },
    )
