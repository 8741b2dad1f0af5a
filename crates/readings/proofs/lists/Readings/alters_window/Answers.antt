-- The used readings of the day tell, and where it keeps one those as far as its neighbours do.
use Rattle.std.specs.Prelude.{◌≡◌, ℤ, ◌≤ℤ◌, ◌*◌, Bool, true, false, not, is_some, pos, List, int_lt, int_le}
use Rattle.std.proofs.Common.{ap, sym, ◌∙◌, subst}
use Rattle.fixed_units.specs.declared.readings.Reading.{Reading}
use Rattle.rising.proofs.Placing.{filter_rises}
use Rattle.readings.specs.Changes.{changed, put_list}
use Rattle.readings.specs.Equality.{same_readings}
use Rattle.readings.specs.Halves.{joined}
use Rattle.readings.specs.Readings.{IsRising, instant_of, before_instant, from_instant}
use Rattle.readings.specs.Window.{window}
use Rattle.readings.specs.declared.changes.Change.{Change}
use Rattle.readings.proofs.Altering.{changed_rises, list_rises, told_of_day, unused_day, used_day, day_order}
use Rattle.readings.proofs.Comparing.{day_altered, day_unused, lead_altered, neighbours_told}
use Rattle.readings.proofs.NearLemmas.{from_from}
use Rattle.readings.proofs.lists.Readings.alters_window.Goals as goal

-- what is told of the halves is told of the list that they make
same_list : (a b gap : ℤ) (change : Change) (halves list : List Reading) (t : Bool) → halves ≡ list
    → t ≡ not (same_readings (window a b gap halves) (window a b gap (changed change halves)))
    → t ≡ not (same_readings (window a b gap list) (window a b gap (changed change list)))
same_list a b gap change halves list t e told =
    subst (λ (l : List Reading). t ≡ not (same_readings (window a b gap l) (window a b gap (changed change l)))) e told

pub split_at_key-requires-2 : goal.split_at_key-requires-2
split_at_key-requires-2 c =
    subst IsRising (sym (c.split_at_key.ensures.from ∙ ap (from_instant c.args.a) c.put_list.ensures))
    (filter_rises instant_of (λ r. int_le c.args.a r.at) (put_list c.args.change.now) (list_rises c.args.change.now c.requires.rising))

pub alters_used-requires-clause-put : goal.alters_used-requires-clause-put
alters_used-requires-clause-put c =
    subst IsRising (sym (c.split_at_key-2.ensures.before ∙ ap (before_instant c.args.b) (c.split_at_key.ensures.from ∙ ap (from_instant c.args.a) c.put_list.ensures)))
    (filter_rises instant_of (λ r. int_lt r.at c.args.b) (from_instant c.args.a (put_list c.args.change.now))
    (filter_rises instant_of (λ r. int_le c.args.a r.at) (put_list c.args.change.now) (list_rises c.args.change.now c.requires.rising)))

pub alters_lead-requires-clause-put : goal.alters_lead-requires-clause-put
alters_lead-requires-clause-put c =
    subst IsRising (sym (c.split_at_key.ensures.before ∙ ap (before_instant c.args.a) c.put_list.ensures))
    (filter_rises instant_of (λ r. int_lt r.at c.args.a) (put_list c.args.change.now) (list_rises c.args.change.now c.requires.rising))

pub alters_follow-requires-clause-put : goal.alters_follow-requires-clause-put
alters_follow-requires-clause-put c =
    subst IsRising (sym (c.split_at_key-2.ensures.from ∙ ap (from_instant c.args.b) (c.split_at_key.ensures.from ∙ ap (from_instant c.args.a) c.put_list.ensures)))
    (filter_rises instant_of (λ r. int_le c.args.b r.at) (from_instant c.args.a (put_list c.args.change.now))
    (filter_rises instant_of (λ r. int_le c.args.a r.at) (put_list c.args.change.now) (list_rises c.args.change.now c.requires.rising)))

pub returns-then-alters_used : goal.returns-then-alters_used
returns-then-alters_used c =
    let rs = joined c.halves.result in
    let change = c.args.change.now in
    let told = told_of_day c.args.a c.args.b change rs _ _ _ _ true c.halves.ensures.rising c.parts-parts.ensures.day c.put_list.ensures
    c.split_at_key.ensures.from c.split_at_key-2.ensures.before (sym c.if-alters_used.true ∙ c.alters_used.ensures) in
    same_list c.args.a c.args.b (pos (60 * c.args.gap)) change rs c.args.self.now.list true c.halves.ensures.list
    (day_altered c.args.a c.args.b (pos (60 * c.args.gap)) rs (changed change rs) c.halves.ensures.rising
    (changed_rises change rs c.requires.rising c.halves.ensures.rising) told)

pub returns-then-is_none : goal.returns-then-is_none
returns-then-is_none c =
    let rs = joined c.halves.result in
    let change = c.args.change.now in
    let unused = unused_day c.args.a c.args.b rs (joined c.parts-parts.result.day) c.first_used.result (c.is_none.ensures ∙ ap not c.if-is_none.true)
    c.first_used.ensures c.parts-parts.ensures.day in
    same_list c.args.a c.args.b (pos (60 * c.args.gap)) change rs c.args.self.now.list false c.halves.ensures.list
    (day_unused c.args.a c.args.b (pos (60 * c.args.gap)) rs (changed change rs)
    (told_of_day c.args.a c.args.b change rs _ _ _ _ false c.halves.ensures.rising c.parts-parts.ensures.day c.put_list.ensures c.split_at_key.ensures.from
    c.split_at_key-2.ensures.before (sym c.if-alters_used.false ∙ c.alters_used.ensures))
    unused)

pub returns-then-alters_lead : goal.returns-then-alters_lead
returns-then-alters_lead c =
    let change = c.args.change.now in
    let rs = joined c.halves.result in
    let early = c.split_at_key.ensures.before ∙ ap (before_instant c.args.a) c.put_list.ensures in
    same_list c.args.a c.args.b (pos (60 * c.args.gap)) change rs c.args.self.now.list c.alters_lead.result c.halves.ensures.list
    (c.if-alters_lead.true
    ∙ lead_altered c.args.a c.args.b (pos (60 * c.args.gap)) rs (changed change rs) c.halves.ensures.rising
    (changed_rises change rs c.requires.rising c.halves.ensures.rising)
    (told_of_day c.args.a c.args.b change rs _ _ _ _ false c.halves.ensures.rising c.parts-parts.ensures.day c.put_list.ensures c.split_at_key.ensures.from
    c.split_at_key-2.ensures.before (sym c.if-alters_used.false ∙ c.alters_used.ensures))
    (used_day c.args.a c.args.b rs (joined c.parts-parts.result.day) c.first_used.result (c.is_none.ensures ∙ ap not c.if-is_none.false) c.first_used.ensures c.parts-parts.ensures.day)
    (sym c.if-alters_lead.true ∙ c.alters_lead.ensures rs (put_list change) c.halves.ensures.rising c.parts-parts.ensures.before early))

pub returns-else-alters_lead : goal.returns-else-alters_lead
returns-else-alters_lead c =
    let a = c.args.a in
    let b = c.args.b in
    let rs = joined c.halves.result in
    let rising = c.halves.ensures.rising in
    let change = c.args.change.now in
    let list = put_list change in
    let kept : is_some c.first_used.result ≡ true = c.is_none.ensures ∙ ap not c.if-is_none.false in
    let order : a ≤ℤ b = day_order a b rs (joined c.parts-parts.result.day) c.first_used.result kept c.first_used.ensures c.parts-parts.ensures.day in
    let early : c.split_at_key.result.0.now ≡ before_instant a list = c.split_at_key.ensures.before ∙ ap (before_instant a) c.put_list.ensures in
    let late : c.split_at_key-2.result.1.now ≡ from_instant b list =
    c.split_at_key-2.ensures.from ∙ ap (from_instant b) (c.split_at_key.ensures.from ∙ ap (from_instant a) c.put_list.ensures) ∙ from_from a b list order in
    same_list a b (pos (60 * c.args.gap)) change rs c.args.self.now.list c.alters_follow.result c.halves.ensures.list
    (neighbours_told a b (pos (60 * c.args.gap)) rs (changed change rs) _ rising (changed_rises change rs c.requires.rising rising)
    (told_of_day a b change rs _ _ _ _ false rising c.parts-parts.ensures.day c.put_list.ensures c.split_at_key.ensures.from c.split_at_key-2.ensures.before
    (sym c.if-alters_used.false ∙ c.alters_used.ensures))
    (used_day a b rs (joined c.parts-parts.result.day) c.first_used.result kept c.first_used.ensures c.parts-parts.ensures.day)
    (sym c.if-alters_lead.false ∙ c.alters_lead.ensures rs list rising c.parts-parts.ensures.before early)
    (c.alters_follow.ensures rs list rising (c.parts-parts.ensures.behind order) late))
