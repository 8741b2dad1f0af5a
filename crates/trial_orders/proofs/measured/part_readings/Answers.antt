use Rattle.std.proofs.Common.{◌≡◌, ℕ, ◌-◌, ◌*◌, arith, refl, ap, ◌∙◌, ◌++◌, ◌∷◌, [], true, rules}
use Rattle.std.specs.Result.{is_ok}
use Rattle.trial_orders.specs.Questions.{draws_before, reading_of}
use Rattle.trial_orders.specs.Draws.{Drawn}
use Rattle.fixed_units.specs.declared.readings.Reading.{Reading}
use Rattle.trial_orders.proofs.PartLemmas.{one_drawn, one_more, whole_part}
use Rattle.trial_orders.proofs.measured.part_readings.Goals as goal

pub loop-place-preserved : goal.loop-place-preserved
loop-place-preserved c =
    let least = c.loop-place.invariant.0 in
    let good : is_ok c.push.result ≡ true = search rules in
    let items = rw good at c.push.ensures.items in
    let read = c.reading.ensures.reading c.args.station (ap (λ (d : Drawn). d.made) c.loop-place.invariant.1 ∙ omega arith) in
    let number : c.loop-place.ahead.number ≡ c.args.draws.now.number = ap (λ (d : Drawn). d.number) c.loop-place.invariant.1 in (
      omega arith,
      one_drawn c.args.draws.now.number (draws_before c.args.station c.args.part) (2400 * c.args.part) c.loop-place.place c.loop-place.ahead c.reading.new.draws
          least c.loop-place.invariant.1 c.reading.ensures.draws,
      one_more (reading_of c.args.draws.now.number c.args.station) (2400 * c.args.part) c.loop-place.place _ c.loop-place.readings.items c.push.new.self.items least refl
          c.loop-place.invariant.2
          (items ∙ ap (λ (r : Reading). c.loop-place.readings.items ++ r ∷ []) (read ∙ ap (λ (n : ℕ). reading_of n c.args.station c.loop-place.place) number)),
    )

pub returns-clause-readings : goal.returns-clause-readings
returns-clause-readings c =
    whole_part c.args.draws.now.number c.args.station c.args.part (c.loop-place.place - 2400 * c.args.part) c.loop-place.readings.items (omega arith) c.loop-place.invariant.2
