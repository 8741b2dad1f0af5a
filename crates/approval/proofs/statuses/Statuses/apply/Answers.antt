-- What is kept of the edit's site is written over, or none is kept of it and its days stay worked.
use Rattle.std.specs.Prelude.{List, ℤ}
use Rattle.std.proofs.Common.{ap, sym, ◌∙◌}
use Rattle.std.specs.List.{list_any}
use Rattle.std.specs.Ordering.{int_eq}
use Rattle.approval.specs.Kept.{KeptSite, kept_of, standing_in}
use Rattle.approval.specs.Statuses.{Standing, after_what, standing_after}
use Rattle.approval.proofs.SiteLemmas.{kept_at, unkept, written_over}
use Rattle.approval.proofs.statuses.Statuses.apply.Goals as goal

pub returns-in-Some : goal.returns-in-Some
returns-in-Some c =
    let edit = c.args.edit.now in
    let sites = c.self.inside.sites.items in
    let h = kept_at sites c.as_slice.result.now edit.site c.in-Some.place c.index_mut.result.now c.as_slice.ensures.value c.in-Some.ensures.found
    c.in-Some.ensures.within c.in-Some.ensures.written c.index_mut.ensures.value in
    λ site day.
    written_over (λ (d : ℤ) (s : Standing). after_what c.args.number edit.by edit.what (list_any (λ e. int_eq e d) c.args.changed.now) d s) sites edit.site site
    c.in-Some.place c.index_mut.result.now c.apply.new.self day h c.apply.ensures.site c.apply.ensures.standings
    ∙ ap (λ (l : List KeptSite). standing_after c.args.number edit (list_any (λ d. int_eq d day) c.args.changed.now) site day (standing_in l site day)) c.self.view_is

pub returns-in_default : goal.returns-in_default
returns-in_default c =
    let edit = c.args.edit.now in
    let none = ap (λ (l : List KeptSite). kept_of l edit.site) (sym (c.as_slice.ensures.value ∙ c.self.view_is)) ∙ c.in_default.ensures.none in
    λ site day. unkept c.args.self.now c.args.number edit (list_any (λ d. int_eq d day) c.args.changed.now) site day none c.requires.room
