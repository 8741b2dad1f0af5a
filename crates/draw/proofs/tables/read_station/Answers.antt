-- Five fields, and no other number.
use Rattle.std.proofs.Common.{◌≡◌, ℕ, List, length, sym, subst, inl, inr, arith}
use Rattle.std.specs.Prelude.{◌⊎◌, IfOk, IfErr}
use Rattle.draw.specs.Tables.{IsNoStation, IsStation}
use Rattle.draw.specs.declared.rows.Why.{Why}
use Rattle.draw.specs.declared.rows.Why.TheVariants.{NoMemory}
use Rattle.draw.proofs.FieldLemmas.{no_text, station_others, texts_five}
use Rattle.draw.proofs.tables.read_station.Goals as goal
use Rattle.draw.proofs.tables.read_station.Goals.{in_default-via-then-fields-lt5, in_default-via-else-fields-lt5+else-fields-lt6}

pub returns-in_default-clause-refused : goal.returns-in_default-clause-refused
returns-in_default-clause-refused c =
    let other : length c.args.fields.now ≡ 5 → ⊥ =
    elim c.in_default.branch [ in_default-via-then-fields-lt5 w ↦ λ e. grind arith | in_default-via-else-fields-lt5+else-fields-lt6 w ↦ λ e. grind arith ] in
    inr (station_others c.args.fields.now other)

pub returns-clause-read : goal.returns-clause-read
returns-clause-read c =
    subst (λ (fields : List (List ℕ)). IfOk c.station_of.result (IsStation fields)) (sym (texts_five c.args.fields.now no_text (omega arith)))
    c.station_of.ensures.read

pub returns-clause-refused : goal.returns-clause-refused
returns-clause-refused c =
    subst (λ (fields : List (List ℕ)). IfErr c.station_of.result (λ (why : Why). (why ≡ NoMemory) ⊎ IsNoStation fields why)) (sym (texts_five c.args.fields.now no_text (omega arith)))
    c.station_of.ensures.refused
