-- What is kept of the site is written over with the same days and more room.
use Rattle.std.specs.Prelude.{List, Option, OnOk}
use Rattle.std.proofs.Common.{ap, subst, sym, ◌∙◌}
use Rattle.approval.specs.Kept.{HasSpanRoom, KeptSite, standing_in}
use Rattle.approval.proofs.SiteLemmas.{found_written, kept_at, written_same}
use Rattle.approval.proofs.statuses.Statuses.make_room.Goals as goal

pub returns-clause-standings : goal.returns-clause-standings
returns-clause-standings c =
    let sites = c.self.inside.sites.items in
    let h = kept_at sites c.as_slice.result.now c.args.site c.in-Some.place c.index_mut.result.now c.as_slice.ensures.value c.in-Some.ensures.found
    c.in-Some.ensures.within c.in-Some.ensures.written c.index_mut.ensures.value in
    λ other day.
    written_same sites c.args.site other c.in-Some.place c.index_mut.result.now c.make_room.new.self day h c.make_room.ensures.site c.make_room.ensures.days
    ∙ ap (λ (l : List KeptSite). standing_in l other day) c.self.view_is
    ∙ c.in_ok-keep_site.ensures.standings other day

pub returns-clause-room : goal.returns-clause-room
returns-clause-room c =
    let sites = c.self.inside.sites.items in
    let h = kept_at sites c.as_slice.result.now c.args.site c.in-Some.place c.index_mut.result.now c.as_slice.ensures.value c.in-Some.ensures.found
    c.in-Some.ensures.within c.in-Some.ensures.written c.index_mut.ensures.value in
    subst (λ (o : Option KeptSite). OnOk c.make_room.result (HasSpanRoom o c.args.from c.args.to))
    (sym (found_written sites c.args.site c.in-Some.place c.index_mut.result.now c.make_room.new.self h c.make_room.ensures.site)) c.make_room.ensures.room
