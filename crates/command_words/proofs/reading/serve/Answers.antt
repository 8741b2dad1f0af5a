use Rattle.std.proofs.Common.{◌≡◌, ℕ, codes, Contains, refl, sym, ◌∙◌, subst, rules, arith}
use Rattle.std.proofs.lemmas.List.Elements.{All-from_recursion}
use Rattle.command_words.specs.Words.{Asked, Serve, AreOptionsOf, options_of}
use Rattle.command_words.specs.Reading.{given_in}
use Rattle.command_words.proofs.WordLemmas.{all_its, apart, port_too_great, serve_lacks, serve_not_so_many}
use Rattle.command_words.proofs.reading.serve.Goals as goal

pub returns-in_err-journal : goal.returns-in_err-journal
returns-in_err-journal c =
    rw c.from_residual.ensures (serve_lacks (given_in c.args.options.now) (codes "--journal") c.in_err-journal.ensures (λ name port workers connections. (refl, refl)))

pub returns-in_err-port : goal.returns-in_err-port
returns-in_err-port c =
    rw c.from_residual-in_err-port.ensures (serve_lacks (given_in c.args.options.now) (codes "--port") c.in_err-port.ensures (λ name port workers connections. (refl, refl)))

pub returns-in_err-workers : goal.returns-in_err-workers
returns-in_err-workers c =
    rw c.from_residual-in_err-workers.ensures (serve_lacks (given_in c.args.options.now) (codes "--workers") c.in_err-workers.ensures (λ name port workers connections. (refl, refl)))

pub returns-in_err-connections : goal.returns-in_err-connections
returns-in_err-connections c =
    rw c.from_residual-in_err-connections.ensures (serve_lacks (given_in c.args.options.now) (codes "--connections") c.in_err-connections.ensures (λ name port workers connections. (refl, refl)))

pub returns-then-count-ne4 : goal.returns-then-count-ne4
returns-then-count-ne4 c = serve_not_so_many (given_in c.args.options.now) (λ many. c.if-count-ne4.true (c.count.ensures ∙ many))

pub returns-in_default : goal.returns-in_default
returns-in_default c =
    port_too_great (given_in c.args.options.now) c.in_ok-port.port c.in_ok-port.ensures (omega (arith, c.in_default.ensures))

pub returns : goal.returns
returns c =
    let asked : Asked = Serve c.in_ok-journal.journal.now c.in_ok-port.port c.in_ok-workers.workers c.in_ok-connections.connections in
    let port : c.in-Ok.port ≡ c.in_ok-port.port = search (rules, c.in-Ok.ensures) in (
      refl,
      tt,
      subst (λ (p : ℕ). AreOptionsOf (Serve c.in_ok-journal.journal.now p c.in_ok-workers.workers c.in_ok-connections.connections) (given_in c.args.options.now)) (sym port)
          (all_its asked (given_in c.args.options.now) (apart asked)
          (All-from_recursion (Contains (given_in c.args.options.now)) (options_of asked)
          (c.in_ok-journal.ensures, (c.in_ok-port.ensures, (c.in_ok-workers.ensures, (c.in_ok-connections.ensures, tt)))))
          (sym c.count.ensures ∙ c.if-count-ne4.false)),
    )
