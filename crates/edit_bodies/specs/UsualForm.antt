-- A put of readings of the usual form: its members each once and in order, and its rows as strings.
use Rattle.std.specs.Prelude.{◌≡◌, ℕ, List, [], ◌∷◌, ◌++◌, codes, map, option_to_list, Option, Ok, Some}
use Rattle.edit_bodies.specs.Bodies.{edit_of_value, parts}
use Rattle.edit_bodies.specs.Grammars.{readings_of}
use Rattle.edit_bodies.specs.Trees.{data_of}
use Rattle.edit_bodies.specs.declared.reading_rows.Row.{Row}
use Rattle.edit_bodies.specs.declared.usual_form.Sender.{Sender}
use Rattle.edits.specs.declared.content.Edit.{Edit}
use Rattle.fixed_units.specs.declared.readings.Reading.{Reading}
use Rattle.json.specs.Json.{Json, array, string, object, Items, no_items, item, no_members, member}
use Rattle.json.specs.Token.{Token}
use Rattle.json.specs.Tree.{items_tokens, json_tokens}

-- the strings of a row
abbrev pub row_texts : Row → List (List ℕ)
row_texts row = row.at.now ∷ row.raw.now ∷ map (λ text. text.now) (option_to_list row.flag)

-- a row of strings, and rows of them
abbrev pub texts_json : List (List ℕ) → Items
texts_json [] = no_items
texts_json (text ∷ texts) = item (string text) (texts_json texts)

abbrev pub row_json : List (List ℕ) → Json
row_json texts = array (texts_json texts)

abbrev pub rows_json : List (List (List ℕ)) → Items
rows_json [] = no_items
rows_json (row ∷ rows) = item (row_json row) (rows_json rows)

-- a put with these rows
abbrev pub put_json : Sender → List (List (List ℕ)) → Json
put_json sender rows =
    object (member (codes "kind") (string (codes "PutReadings"))
    (member (codes "by") (string sender.by.now)
    (member (codes "ref") (string sender.reference.now)
    (member (codes "site") (string sender.site.now)
    (member (codes "readings") (array (rows_json rows)) no_members)))))

-- the readings that the rows state, if they may be put
abbrev pub readings_stated : List (List (List ℕ)) → Option (List Reading)
readings_stated rows = readings_of (data_of (array (rows_json rows)))

-- rows stand at the front of the tokens, with the closing bracket, and state these readings
abbrev pub StatesReadings : List Token → List Token → List Reading → Type 0
StatesReadings tokens rest readings =
    (rows : List (List (List ℕ))) × (tokens ≡ items_tokens (rows_json rows) ++ rest) × (readings_stated rows ≡ Some readings)

-- the tokens are those of a put of the usual form, of which the rows state the readings
abbrev pub TakesPut : List Token → Sender → List Reading → Type 0
TakesPut tokens sender readings =
    (rows : List (List (List ℕ))) × (tokens ≡ json_tokens (put_json sender rows)) × (readings_stated rows ≡ Some readings)

-- whatever rows state the readings, the put is this edit
abbrev pub StatesPut : Sender → List Reading → Edit → Type 0
StatesPut sender readings edit =
    (rows : List (List (List ℕ))) → readings_stated rows ≡ Some readings
    → edit_of_value (Some (data_of (put_json sender rows))) ≡ Ok (parts edit)
