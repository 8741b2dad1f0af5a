-- What an edit touches lies between stamps: its own instant is one, and so is that of each entry that its station keeps.
use Rattle.std.proofs.Common.{sym, subst, ◌∙◌}
use Rattle.fixed_units.specs.Quantities.{SiteNumber}
use Rattle.office_inputs.specs.Kept.{in_force}
use Rattle.office_inputs.specs.Stations.{station_of}
use Rattle.office_inputs.specs.Touched.{in_reach}
use Rattle.station_inputs.specs.declared.touched.Touched.{Touched}
use Rattle.station_inputs.specs.declared.touched.Touched.TheVariants.{Between}
use Rattle.depend.specs.Compared.{AreCompared}
use Rattle.depend.proofs.IntervalLemmas.{station_is}
use Rattle.depend.proofs.CoverLemmas.{stamps}
use Rattle.depend.proofs.spans.days_touched.Goals as goal

pub days_about-requires-clause-first : goal.days_about-requires-clause-first
days_about-requires-clause-first c =
    (stamps (station_of (in_force c.args.inputs.now) c.args.edit.now.site) c.args.edit.now.what c.in-Between.first c.in-Between.last c.in-Between.cells_only
    (λ s e. station_is c.args.inputs.now.kept c.args.edit.now.site s c.stations_keep_to_their_ranges.ensures.each e) c.args.edit.now.lawful c.requires.other
    (sym c.touched_at.ensures ∙ c.in-Between.is)).0

pub days_about-requires-clause-last : goal.days_about-requires-clause-last
days_about-requires-clause-last c =
    (stamps (station_of (in_force c.args.inputs.now) c.args.edit.now.site) c.args.edit.now.what c.in-Between.first c.in-Between.last c.in-Between.cells_only
    (λ s e. station_is c.args.inputs.now.kept c.args.edit.now.site s c.stations_keep_to_their_ranges.ensures.each e) c.args.edit.now.lawful c.requires.other
    (sym c.touched_at.ensures ∙ c.in-Between.is)).1

pub returns-in-Between : goal.returns-in-Between
returns-in-Between c =
    subst (λ (t : Touched). AreCompared (in_reach (in_force c.args.inputs.now) c.args.edit.now.site t) c.days_about.result) (sym c.in-Between.is ∙ c.touched_at.ensures)
    (subst (λ (site : SiteNumber). AreCompared (in_reach (in_force c.args.inputs.now) site (Between c.in-Between.first c.in-Between.last c.in-Between.cells_only)) c.days_about.result)
    c.requires.place.0 c.days_about.ensures)
