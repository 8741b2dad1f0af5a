-- The compact form of edits: texts that are the printed tokens of their values, with no escape.
use Rattle.std.specs.Prelude.{◌≡◌, ℕ, List, [], ◌∷◌, ◌++◌, codes, false, Ok, Some}
use Rattle.edit_bodies.specs.Bodies.{edit_of_value, parts}
use Rattle.edit_bodies.specs.Grammars.{reading_of}
use Rattle.edit_bodies.specs.Trees.{data_of}
use Rattle.edit_bodies.specs.UsualForm.{readings_stated, row_json, rows_json}
use Rattle.edit_bodies.specs.declared.usual_form.Sender.{Sender}
use Rattle.edits.specs.declared.content.Edit.{Edit}
use Rattle.fixed_units.specs.declared.readings.Reading.{Reading}
use Rattle.json.specs.Json.{Json, object, string, no_members, member}
use Rattle.json.specs.Print.{print, print_from, quoted}
use Rattle.json.specs.Tree.{items_tokens, json_tokens}

-- a review of the days from one to another
abbrev pub review_json : Sender → List ℕ → List ℕ → Json
review_json sender from to =
    object (member (codes "kind") (string (codes "Review"))
    (member (codes "by") (string sender.by.now)
    (member (codes "ref") (string sender.reference.now)
    (member (codes "site") (string sender.site.now)
    (member (codes "from") (string from)
    (member (codes "to") (string to) no_members))))))

-- the texts of these days make this edit
abbrev pub StatesReview : Sender → List ℕ → List ℕ → Edit → Type 0
StatesReview sender from to edit = edit_of_value (Some (data_of (review_json sender from to))) ≡ Ok (parts edit)

-- a row of strings as it is printed
abbrev pub row_spelled : List (List ℕ) → List ℕ
row_spelled texts = print (json_tokens (row_json texts))

-- the sender's strings, with the names of the second and the third of them, and what is behind them
abbrev pub sender_spelled : Sender → List ℕ → List ℕ
sender_spelled sender rest =
    quoted sender.by.now ++ (codes ",\"ref\":" ++ (quoted sender.reference.now ++ (codes ",\"site\":" ++ (quoted sender.site.now ++ rest))))

-- rows stand at the front of a text, with the closing bracket, and state these readings
abbrev pub SpellsReadings : List ℕ → List ℕ → List Reading → Type 0
SpellsReadings text rest readings =
    (rows : List (List (List ℕ))) × (text ≡ print_from false (items_tokens (rows_json rows)) ++ rest) × (readings_stated rows ≡ Some readings)

-- a row stands at the front of a text and states the reading that comes behind others
abbrev pub AddsRow : List ℕ → List ℕ → List Reading → List Reading → Type 0
AddsRow text rest before after =
    (row : List (List ℕ)) × (reading : Reading) × (text ≡ row_spelled row ++ rest)
    × (Some reading ≡ reading_of (data_of (row_json row))) × (after ≡ before ++ reading ∷ [])
