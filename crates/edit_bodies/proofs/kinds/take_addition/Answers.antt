use Rattle.std.proofs.Common.{◌≡◌, ℕ, List, Ok, Err, refl, rules}
use Rattle.edit_bodies.proofs.ChainLemmas.{read_on, stopped, same_answer}
use Rattle.edit_bodies.proofs.kinds.take_addition.Goals as goal
use Rattle.edit_bodies.specs.Grammars.{name_of, zone_of, gap_of, array_of}
use Rattle.edit_bodies.specs.Kinds.{row}
use Rattle.edit_bodies.specs.Members.{Reader, ◌>>=◌, done, required}
use Rattle.edits.specs.declared.kinds.Kind.TheVariants as kinds
use Rattle.edit_bodies.specs.declared.members.Member.TheVariants.{Name, Zone, Gap, StageArray, DischargeArray}
use Rattle.edits.specs.declared.content.What.{What}
use Rattle.edits.specs.declared.content.What.TheVariants.{AddStation}
use Rattle.edit_bodies.specs.Trees.{left}

-- what is read after each member
abbrev after_discharge_array : List ℕ → List ℕ → ℕ → List ℕ → List ℕ → Reader What
after_discharge_array name zone gap stage_array discharge_array = done (AddStation name zone gap stage_array discharge_array)

abbrev after_stage_array : List ℕ → List ℕ → ℕ → List ℕ → Reader What
after_stage_array name zone gap stage_array = required DischargeArray array_of >>= after_discharge_array name zone gap stage_array

abbrev after_gap : List ℕ → List ℕ → ℕ → Reader What
after_gap name zone gap = required StageArray array_of >>= after_stage_array name zone gap

abbrev after_zone : List ℕ → List ℕ → Reader What
after_zone name zone = required Gap gap_of >>= after_gap name zone

abbrev after_name : List ℕ → Reader What
after_name name = required Zone zone_of >>= after_zone name

pub returns-in_err-name-clause-read : goal.returns-in_err-name-clause-read
returns-in_err-name-clause-read c =
    let same : c.from_residual.result ≡ Err c.in_err-name.field-0.0 = search rules in
    same_answer (row kinds.AddStation) (left c.args.fields.now) (left c.take_name.new.fields) c.in_err-name.field-0.0 c.from_residual.result same
    (stopped (required Name name_of) after_name (left c.args.fields.now) (left c.take_name.new.fields) (left c.take_name.new.fields) c.in_err-name.field-0.0 c.in_err-name.ensures.read)

pub returns-in_err-zone-clause-read : goal.returns-in_err-zone-clause-read
returns-in_err-zone-clause-read c =
    let same : c.from_residual-in_err-zone.result ≡ Err c.in_err-zone.field-0.0 = search rules in
    same_answer (row kinds.AddStation) (left c.args.fields.now) (left c.take_zone.new.fields) c.in_err-zone.field-0.0 c.from_residual-in_err-zone.result same
    (read_on (required Name name_of) after_name (left c.args.fields.now) (left c.take_name.new.fields) (left c.take_zone.new.fields) c.in_ok-name.name (Err c.in_err-zone.field-0.0) c.in_ok-name.ensures.read
    (stopped (required Zone zone_of) (after_zone c.in_ok-name.name) (left c.take_name.new.fields) (left c.take_zone.new.fields) (left c.take_zone.new.fields) c.in_err-zone.field-0.0 c.in_err-zone.ensures.read))

pub returns-in_err-gap-clause-read : goal.returns-in_err-gap-clause-read
returns-in_err-gap-clause-read c =
    let same : c.from_residual-in_err-gap.result ≡ Err c.in_err-gap.field-0.0 = search rules in
    same_answer (row kinds.AddStation) (left c.args.fields.now) (left c.take_gap.new.fields) c.in_err-gap.field-0.0 c.from_residual-in_err-gap.result same
    (read_on (required Name name_of) after_name (left c.args.fields.now) (left c.take_name.new.fields) (left c.take_gap.new.fields) c.in_ok-name.name (Err c.in_err-gap.field-0.0) c.in_ok-name.ensures.read
    (read_on (required Zone zone_of) (after_zone c.in_ok-name.name) (left c.take_name.new.fields) (left c.take_zone.new.fields) (left c.take_gap.new.fields) c.in_ok-zone.zone (Err c.in_err-gap.field-0.0) c.in_ok-zone.ensures.read
    (stopped (required Gap gap_of) (after_gap c.in_ok-name.name c.in_ok-zone.zone) (left c.take_zone.new.fields) (left c.take_gap.new.fields) (left c.take_gap.new.fields) c.in_err-gap.field-0.0 c.in_err-gap.ensures.read)))

pub returns-in_err-stage_array-clause-read : goal.returns-in_err-stage_array-clause-read
returns-in_err-stage_array-clause-read c =
    let same : c.from_residual-in_err-stage_array.result ≡ Err c.in_err-stage_array.field-0.0 = search rules in
    same_answer (row kinds.AddStation) (left c.args.fields.now) (left c.take_array.new.fields) c.in_err-stage_array.field-0.0 c.from_residual-in_err-stage_array.result same
    (read_on (required Name name_of) after_name (left c.args.fields.now) (left c.take_name.new.fields) (left c.take_array.new.fields) c.in_ok-name.name (Err c.in_err-stage_array.field-0.0) c.in_ok-name.ensures.read
    (read_on (required Zone zone_of) (after_zone c.in_ok-name.name) (left c.take_name.new.fields) (left c.take_zone.new.fields) (left c.take_array.new.fields) c.in_ok-zone.zone (Err c.in_err-stage_array.field-0.0) c.in_ok-zone.ensures.read
    (read_on (required Gap gap_of) (after_gap c.in_ok-name.name c.in_ok-zone.zone) (left c.take_zone.new.fields) (left c.take_gap.new.fields) (left c.take_array.new.fields) c.in_ok-gap.gap (Err c.in_err-stage_array.field-0.0) c.in_ok-gap.ensures.read
    (stopped (required StageArray array_of) (after_stage_array c.in_ok-name.name c.in_ok-zone.zone c.in_ok-gap.gap) (left c.take_gap.new.fields) (left c.take_array.new.fields) (left c.take_array.new.fields) c.in_err-stage_array.field-0.0 c.in_err-stage_array.ensures.read))))

pub returns-in_err-discharge_array-clause-read : goal.returns-in_err-discharge_array-clause-read
returns-in_err-discharge_array-clause-read c =
    let same : c.from_residual-in_err-discharge_array.result ≡ Err c.in_err-discharge_array.field-0.0 = search rules in
    same_answer (row kinds.AddStation) (left c.args.fields.now) (left c.take_array-2.new.fields) c.in_err-discharge_array.field-0.0 c.from_residual-in_err-discharge_array.result same
    (read_on (required Name name_of) after_name (left c.args.fields.now) (left c.take_name.new.fields) (left c.take_array-2.new.fields) c.in_ok-name.name (Err c.in_err-discharge_array.field-0.0) c.in_ok-name.ensures.read
    (read_on (required Zone zone_of) (after_zone c.in_ok-name.name) (left c.take_name.new.fields) (left c.take_zone.new.fields) (left c.take_array-2.new.fields) c.in_ok-zone.zone (Err c.in_err-discharge_array.field-0.0) c.in_ok-zone.ensures.read
    (read_on (required Gap gap_of) (after_gap c.in_ok-name.name c.in_ok-zone.zone) (left c.take_zone.new.fields) (left c.take_gap.new.fields) (left c.take_array-2.new.fields) c.in_ok-gap.gap (Err c.in_err-discharge_array.field-0.0) c.in_ok-gap.ensures.read
    (read_on (required StageArray array_of) (after_stage_array c.in_ok-name.name c.in_ok-zone.zone c.in_ok-gap.gap) (left c.take_gap.new.fields) (left c.take_array.new.fields) (left c.take_array-2.new.fields) c.in_ok-stage_array.stage_array (Err c.in_err-discharge_array.field-0.0) c.in_ok-stage_array.ensures.read
    (stopped (required DischargeArray array_of) (after_discharge_array c.in_ok-name.name c.in_ok-zone.zone c.in_ok-gap.gap c.in_ok-stage_array.stage_array) (left c.take_array.new.fields) (left c.take_array-2.new.fields) (left c.take_array-2.new.fields) c.in_err-discharge_array.field-0.0 c.in_err-discharge_array.ensures.read)))))

pub returns-clause-read : goal.returns-clause-read
returns-clause-read c =
    (read_on (required Name name_of) after_name (left c.args.fields.now) (left c.take_name.new.fields) (left c.take_array-2.new.fields) c.in_ok-name.name (Ok (AddStation c.in_ok-name.name c.in_ok-zone.zone c.in_ok-gap.gap c.in_ok-stage_array.stage_array c.in_ok-discharge_array.discharge_array)) c.in_ok-name.ensures.read
    (read_on (required Zone zone_of) (after_zone c.in_ok-name.name) (left c.take_name.new.fields) (left c.take_zone.new.fields) (left c.take_array-2.new.fields) c.in_ok-zone.zone (Ok (AddStation c.in_ok-name.name c.in_ok-zone.zone c.in_ok-gap.gap c.in_ok-stage_array.stage_array c.in_ok-discharge_array.discharge_array)) c.in_ok-zone.ensures.read
    (read_on (required Gap gap_of) (after_gap c.in_ok-name.name c.in_ok-zone.zone) (left c.take_zone.new.fields) (left c.take_gap.new.fields) (left c.take_array-2.new.fields) c.in_ok-gap.gap (Ok (AddStation c.in_ok-name.name c.in_ok-zone.zone c.in_ok-gap.gap c.in_ok-stage_array.stage_array c.in_ok-discharge_array.discharge_array)) c.in_ok-gap.ensures.read
    (read_on (required StageArray array_of) (after_stage_array c.in_ok-name.name c.in_ok-zone.zone c.in_ok-gap.gap) (left c.take_gap.new.fields) (left c.take_array.new.fields) (left c.take_array-2.new.fields) c.in_ok-stage_array.stage_array (Ok (AddStation c.in_ok-name.name c.in_ok-zone.zone c.in_ok-gap.gap c.in_ok-stage_array.stage_array c.in_ok-discharge_array.discharge_array)) c.in_ok-stage_array.ensures.read
    (read_on (required DischargeArray array_of) (after_discharge_array c.in_ok-name.name c.in_ok-zone.zone c.in_ok-gap.gap c.in_ok-stage_array.stage_array) (left c.take_array.new.fields) (left c.take_array-2.new.fields) (left c.take_array-2.new.fields) c.in_ok-discharge_array.discharge_array (Ok (AddStation c.in_ok-name.name c.in_ok-zone.zone c.in_ok-gap.gap c.in_ok-stage_array.stage_array c.in_ok-discharge_array.discharge_array)) c.in_ok-discharge_array.ensures.read
    refl)))))
