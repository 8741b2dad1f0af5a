-- From the tokens of a put of the usual form to the edit that its value is.
use Rattle.std.proofs.Common.{◌≡◌, ℕ, ◌≤◌, Bool, true, ◌&&◌, List, [], ◌∷◌, ◌++◌, Option, Some, None, Ok, option_map, option_and_then, refl, sym, ap, ◌∙◌, arith, append_assoc, append-nil}
use Rattle.json.specs.Json as json
use Rattle.json.specs.Lex.{tokens}
use Rattle.json.specs.Token.{Token, end_array}
use Rattle.json.specs.Tree.{json_tokens, items_tokens, depth, items_depth}
use Rattle.json.proofs.Printed.Trees.{value-json_tokens}
use Rattle.edit_bodies.specs.Bodies.{edit_of_value}
use Rattle.edit_bodies.proofs.TreeLemmas.{of_json-held}
use Rattle.edit_bodies.specs.Grammars.{by_of, each_of, reading_of, reference_of, site_of}
use Rattle.edit_bodies.specs.Trees.{are_items_held, data_of, is_held, items_of}
use Rattle.edit_bodies.specs.UsualForm.{TakesPut, put_json, readings_stated, row_json, rows_json, texts_json}
use Rattle.edit_bodies.specs.declared.usual_form.Sender.{Sender}
use Rattle.edits.specs.declared.content.What.TheVariants.{PutReadings}
use Rattle.fixed_units.specs.Quantities.{SiteNumber}
use Rattle.fixed_units.specs.declared.readings.Reading.{Reading}
use Rattle.serde_json.specs.Data.{string}
use Rattle.serde_json.specs.Read.{of_json, read}

-- ---- from the tokens to the value

-- a text with the tokens of a value of JSON is what that value is
pub read-tokens : (text : List ℕ) (j : json.Json) → depth j ≤ 127 → tokens text ≡ json_tokens j → read text ≡ of_json j
read-tokens text j shallow e =
    ap (λ o. option_and_then of_json (option_and_then (λ p. json.if_last p.0 p.1) o))
    (ap (json.value 127) (e ∙ sym (append-nil (json_tokens j))) ∙ value-json_tokens j 127 [] shallow)

depth-texts : (texts : List (List ℕ)) → items_depth (texts_json texts) ≤ 0
depth-texts [] = omega arith
depth-texts (text ∷ texts) = omega (arith, depth-texts texts)

depth-rows : (rows : List (List (List ℕ))) → items_depth (rows_json rows) ≤ 1
depth-rows [] = omega arith
depth-rows (row ∷ rows) = omega (arith, depth-texts row, depth-rows rows)

depth-put : (sender : Sender) (rows : List (List (List ℕ))) → depth (put_json sender rows) ≤ 127
depth-put sender rows = omega (arith, depth-rows rows)

-- it has no numbers, so it is a value
held-texts : (texts : List (List ℕ)) → are_items_held (texts_json texts) ≡ true
held-texts [] = refl
held-texts (text ∷ texts) = held-texts texts

held-rows : (rows : List (List (List ℕ))) → are_items_held (rows_json rows) ≡ true
held-rows [] = refl
held-rows (row ∷ rows) = ap (λ (b : Bool). b && are_items_held (rows_json rows)) (held-texts row) ∙ held-rows rows

held-put : (sender : Sender) (rows : List (List (List ℕ))) → is_held (put_json sender rows) ≡ true
held-put sender rows = ap (λ (b : Bool). b && true) (held-rows rows)

pub put_read : (text : List ℕ) (sender : Sender) (readings : List Reading) (takes : TakesPut (tokens text) sender readings) → read text ≡ Some (data_of (put_json sender takes.0))
put_read text sender readings takes =
    read-tokens text (put_json sender takes.0) (depth-put sender takes.0) takes.1 ∙ of_json-held (put_json sender takes.0) (held-put sender takes.0)

-- ---- rows that are read one after another

-- the tokens of rows, without the closing bracket
abbrev pub rows_tokens : List (List (List ℕ)) → List Token
rows_tokens [] = []
rows_tokens (row ∷ rows) = json_tokens (row_json row) ++ rows_tokens rows

rows_tokens-push : (rows : List (List (List ℕ))) (row : List (List ℕ)) (rest : List Token)
    → rows_tokens (rows ++ row ∷ []) ++ rest ≡ rows_tokens rows ++ (json_tokens (row_json row) ++ rest)
rows_tokens-push [] row rest = ap (λ l. l ++ rest) (append-nil (json_tokens (row_json row)))
rows_tokens-push (first ∷ rows) row rest =
    append_assoc (json_tokens (row_json first)) (rows_tokens (rows ++ row ∷ [])) rest
    ∙ ap (λ l. json_tokens (row_json first) ++ l) (rows_tokens-push rows row rest)
    ∙ sym (append_assoc (json_tokens (row_json first)) (rows_tokens rows) _)

pub rows_tokens-closed : (rows : List (List (List ℕ))) (rest : List Token) → rows_tokens rows ++ end_array ∷ rest ≡ items_tokens (rows_json rows) ++ rest
rows_tokens-closed [] rest = refl
rows_tokens-closed (row ∷ rows) rest =
    append_assoc (json_tokens (row_json row)) (rows_tokens rows) (end_array ∷ rest)
    ∙ ap (λ l. json_tokens (row_json row) ++ l) (rows_tokens-closed rows rest)
    ∙ sym (append_assoc (json_tokens (row_json row)) (items_tokens (rows_json rows)) rest)

-- one row more states one reading more
module _ (row : List (List ℕ)) where
  abbrev last : Option Reading
  last = reading_of (data_of (row_json row))

  turned : (a : Option Reading) (b : Option (List Reading)) (c : Option Reading)
      → option_and_then (λ y. option_map (λ ys. y ∷ ys) (option_and_then (λ ys. option_map (λ z. ys ++ z ∷ []) c) b)) a
      ≡ option_and_then (λ ys. option_map (λ z. ys ++ z ∷ []) c) (option_and_then (λ y. option_map (λ ys. y ∷ ys) b) a)
  turned None b c = refl
  turned (Some y) None c = refl
  turned (Some y) (Some ys) None = refl
  turned (Some y) (Some ys) (Some z) = refl

  alone : (o : Option Reading) → option_and_then (λ y. option_map (λ ys. y ∷ ys) (Some [])) o ≡ option_and_then (λ ys. option_map (λ y. ys ++ y ∷ []) o) (Some [])
  alone None = refl
  alone (Some y) = refl

  pub pushed : (rows : List (List (List ℕ))) → each_of reading_of (items_of (rows_json (rows ++ row ∷ []))) ≡ option_and_then (λ ys. option_map (λ y. ys ++ y ∷ []) last) (each_of reading_of (items_of (rows_json rows)))
  pushed [] = alone last
  pushed (first ∷ rows) =
      ap (λ o. option_and_then (λ y. option_map (λ ys. y ∷ ys) o) (reading_of (data_of (row_json first)))) (pushed rows)
      ∙ turned (reading_of (data_of (row_json first))) (each_of reading_of (items_of (rows_json rows))) last

  -- what the loop keeps
  pub one_row_more : (rows : List (List (List ℕ))) (xs ys : List Reading) (x : Reading) (first old rest : List Token)
      → first ≡ rows_tokens rows ++ old → each_of reading_of (items_of (rows_json rows)) ≡ Some xs
      → old ≡ json_tokens (row_json row) ++ rest → Some x ≡ reading_of (data_of (row_json row)) → ys ≡ xs ++ x ∷ []
      → (more : List (List (List ℕ))) × (first ≡ rows_tokens more ++ rest) × (each_of reading_of (items_of (rows_json more)) ≡ Some ys)
  one_row_more rows xs ys x first old rest so_far are taken is more = (
    rows ++ row ∷ [],
    so_far ∙ ap (λ l. rows_tokens rows ++ l) taken ∙ sym (rows_tokens-push rows row rest),
    pushed rows ∙ ap (λ o. option_and_then (λ ys. option_map (λ y. ys ++ y ∷ []) last) o) are ∙ ap (λ o. option_map (λ y. xs ++ y ∷ []) o) (sym is) ∙ ap Some (sym more),
  )

-- ---- from the value to the edit

pub put_made : (sender : Sender) (rows : List (List (List ℕ))) (by reference : List ℕ) (site : SiteNumber) (readings : List Reading)
    → by_of (string sender.by.now) ≡ Some by → reference_of (string sender.reference.now) ≡ Some reference → site_of (string sender.site.now) ≡ Some site → readings_stated rows ≡ Some readings
    → edit_of_value (Some (data_of (put_json sender rows))) ≡ Ok (record { by = by; reference = reference; site = site; comment = []; what = PutReadings readings })
put_made sender rows by reference site readings b r s are = rw (b, r, s, are) refl
