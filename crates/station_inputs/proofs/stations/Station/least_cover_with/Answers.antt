-- The edition that is put is in force where it governs.
use Rattle.std.proofs.Common.{ap, sym, ◌∙◌}
use Rattle.std.specs.Prelude.{cond, Bool}
use Rattle.station_inputs.specs.Stations.{least_cover}
use Rattle.station_inputs.proofs.EditionDays.{least_put}
use Rattle.station_inputs.proofs.stations.Station.least_cover_with.Goals as goal

pub returns-then-governs : goal.returns-then-governs
returns-then-governs c =
    let s = c.args.self.now.station in
    let e = c.args.edition.now in
    sym (least_put s e c.args.day c.site-site.ensures.kept ∙ ap (λ (b : Bool). cond b e.least (least_cover s c.args.day)) (sym c.governs.ensures ∙ c.if-governs.true))

pub returns-else-governs : goal.returns-else-governs
returns-else-governs c =
    let s = c.args.self.now.station in
    let e = c.args.edition.now in
    c.least_cover.ensures
    ∙ sym (least_put s e c.args.day c.site-site.ensures.kept ∙ ap (λ (b : Bool). cond b e.least (least_cover s c.args.day)) (sym c.governs.ensures ∙ c.if-governs.false))
