-- The site is kept already, or begins with its days worked.
use Rattle.std.specs.Prelude.{List}
use Rattle.std.proofs.Common.{ap, sym, ◌∙◌}
use Rattle.rising.specs.Lists.{put}
use Rattle.approval.specs.Kept.{KeptSite, kept_of, kept_place, standing_in}
use Rattle.approval.proofs.SiteLemmas.{begun, is_begun, is_kept}
use Rattle.approval.proofs.statuses.Statuses.keep_site.Goals as goal

pub returns-in-Some-clause-kept : goal.returns-in-Some-clause-kept
returns-in-Some-clause-kept c =
    is_kept c.args.self.now c.as_slice.result.now c.args.site c.in-Some.field-0 (c.as_slice.ensures.value ∙ c.self.view_is) c.in-Some.ensures.found c.in-Some.ensures.within

pub returns-in_ok-reserve-in-None-clause-standings : goal.returns-in_ok-reserve-in-None-clause-standings
returns-in_ok-reserve-in-None-clause-standings c =
    λ other day.
    begun c.self.inside.sites.items c.put_in.new.list.items c.args.site other c.new.result day
    (c.put_in.ensures.items ∙ ap (λ (l : List KeptSite). put kept_place c.new.result l) c.in_ok-reserve-in-None.ensures.items)
    (ap (λ (l : List KeptSite). kept_of l c.args.site) (sym c.as_slice.ensures.value) ∙ c.in-None.ensures.none) c.new.ensures.site c.new.ensures.days
    ∙ ap (λ (l : List KeptSite). standing_in l other day) c.self.view_is

pub returns-in_ok-reserve-in-None-clause-kept : goal.returns-in_ok-reserve-in-None-clause-kept
returns-in_ok-reserve-in-None-clause-kept c = is_begun _ c.put_in.new.list.items c.args.site c.new.result c.put_in.ensures.items c.new.ensures.site
