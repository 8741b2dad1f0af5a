use Rattle.std.proofs.Common.{◌≡◌, Err, None, ◌&&◌, List, ℕ, Bool, subst, rules}
use Rattle.edit_bodies.proofs.ChainLemmas.{same_answer}
use Rattle.edit_bodies.proofs.MemberLemmas.{string_found_so, string_read, string_not_read}
use Rattle.edit_bodies.proofs.TextLemmas.{name-told, station_zone-told, kept_if-is, found-both, found-holds}
use Rattle.edit_bodies.proofs.grammars.take_zone.Goals as goal
use Rattle.edit_bodies.specs.Grammars.{kept_if, zone_of}
use Rattle.edit_bodies.specs.Members.{required}
use Rattle.edit_bodies.specs.Trees.{left}
use Rattle.edit_bodies.specs.Texts.{is_name}
use Rattle.edit_bodies.specs.Zones.{is_zone}
use Rattle.edit_bodies.specs.declared.members.Member.TheVariants.{Zone}
use Rattle.edits.specs.Lawful.{IsStationZone}

abbrev test : List ℕ → Bool
test text = is_name text && is_zone text

pub returns-in_err-text-clause-read : goal.returns-in_err-text-clause-read
returns-in_err-text-clause-read c =
    let same : c.from_residual.result ≡ Err c.in_err-text.field-0.0 = search rules in
    same_answer (required Zone zone_of) (left c.args.fields.now) (left c.take_text.new.fields) c.in_err-text.field-0.0 c.from_residual.result same (string_not_read Zone (kept_if test) (left c.args.fields.now) (left c.take_text.new.fields) c.in_err-text.field-0.0 c.in_err-text.ensures)

pub returns-in-Ok-true-clause-read : goal.returns-in-Ok-true-clause-read
returns-in-Ok-true-clause-read c =
    let zone : IsStationZone c.in_ok-text.text.now = subst IsStationZone c.as_bytes.ensures.value (c.in-Ok-true.ensures.told.0 c.in-Ok-true.field-0-test) in
    let text = c.in_ok-text.text.now in
    string_found_so Zone (kept_if test) (left c.args.fields.now) (left c.take_text.new.fields) text c.own_name.result c.in_ok-text.ensures
    (found-both Zone is_name test text c.own_name.result ((name-told text).1 zone.printed) ((station_zone-told text).1 zone) c.own_name.ensures.read)

pub returns-in-Ok-true-clause-zone : goal.returns-in-Ok-true-clause-zone
returns-in-Ok-true-clause-zone c =
    let zone : IsStationZone c.in_ok-text.text.now = subst IsStationZone c.as_bytes.ensures.value (c.in-Ok-true.ensures.told.0 c.in-Ok-true.field-0-test) in
    let text = c.in_ok-text.text.now in
    found-holds Zone is_name IsStationZone text c.own_name.result ((name-told text).1 zone.printed) zone c.own_name.ensures.read

pub returns-in-Ok-false-clause-read : goal.returns-in-Ok-false-clause-read
returns-in-Ok-false-clause-read c =
    let none : IsStationZone c.as_bytes.result.now → ⊥ = λ z. let e = c.in-Ok-false.ensures.told.1 z in let f = c.in-Ok-false.field-0-test in absurd cc in
    let bad : IsStationZone c.in_ok-text.text.now → ⊥ = subst (λ (t : List ℕ). IsStationZone t → ⊥) c.as_bytes.ensures.value none in
    string_read Zone (kept_if test) (left c.args.fields.now) (left c.take_text.new.fields) c.in_ok-text.text.now None c.in_ok-text.ensures (kept_if-is test (IsStationZone c.in_ok-text.text.now) c.in_ok-text.text.now None (station_zone-told _) (λ e. absurd cc, λ z. absurd (bad z)) tt)
