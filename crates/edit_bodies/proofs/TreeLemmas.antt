-- Trees whose numbers floats hold, and what serde_json states of them.
use Rattle.std.proofs.Common.{◌≡◌, ℕ, List, Bool, true, false, ◌&&◌, Option, Some, None, is_some, option_map, option_and_then, refl, ap, ◌∙◌}
use Rattle.std.proofs.lemmas.Bool.{and_parts}
use Rattle.edit_bodies.specs.Trees.{number_or_float, data_of, items_of, members_of, is_held, are_items_held, are_members_held}
use Rattle.json.specs.Json as json
use Rattle.serde_json.specs.Data.{Num, number, array, object, item, Members, no_members, put}
use Rattle.serde_json.specs.Read.{number_of, of_json, of_items, of_members}

there : (o : Option Num) → is_some o ≡ true → option_map number o ≡ Some (number_or_float o)
there None h = absurd cc
there (Some n) h = refl

not_there : (o : Option Num) → is_some o ≡ false → option_map number o ≡ None
not_there None h = refl
not_there (Some n) h = absurd cc

-- where they hold all, each tree is stated
mutual
  pub of_json-held : (j : json.Json) → is_held j ≡ true → of_json j ≡ Some (data_of j)
  of_json-held json.null h = refl
  of_json-held (json.boolean b) h = refl
  of_json-held (json.number s) h = there (number_of s) h
  of_json-held (json.string s) h = refl
  of_json-held (json.array js) h = ap (option_map array) (of_items-held js h)
  of_json-held (json.object ms) h = ap (option_map object) (of_members-held ms no_members h)

  of_items-held : (js : json.Items) → are_items_held js ≡ true → of_items js ≡ Some (items_of js)
  of_items-held json.no_items h = refl
  of_items-held (json.item j js) h =
      let parts = and_parts _ _ h in
      rw (of_json-held j parts.0, of_items-held js parts.1) refl

  of_members-held : (ms : json.Members) (found : Members) → are_members_held ms ≡ true → of_members ms found ≡ Some (members_of ms found)
  of_members-held json.no_members found h = refl
  of_members-held (json.member k j ms) found h =
      let parts = and_parts _ _ h in
      ap (option_and_then (λ d. of_members ms (put k d found))) (of_json-held j parts.0) ∙ of_members-held ms (put k (data_of j) found) parts.1

-- and where they do not, it is not
item_at : (j : json.Json) (js : json.Items) (b : Bool) → (b ≡ true → of_json j ≡ Some (data_of j)) → (b ≡ false → of_json j ≡ None) → (are_items_held js ≡ false → of_items js ≡ None)
    → (b && are_items_held js) ≡ false → option_and_then (λ d. option_map (item d) (of_items js)) (of_json j) ≡ None
item_at j js true held not_held further h = ap (option_and_then (λ d. option_map (item d) (of_items js))) (held refl) ∙ ap (option_map (item (data_of j))) (further h)
item_at j js false held not_held further h = ap (option_and_then (λ d. option_map (item d) (of_items js))) (not_held refl)

member_at : (k : List ℕ) (j : json.Json) (ms : json.Members) (found : Members) (b : Bool) → (b ≡ true → of_json j ≡ Some (data_of j)) → (b ≡ false → of_json j ≡ None)
    → (are_members_held ms ≡ false → of_members ms (put k (data_of j) found) ≡ None)
    → (b && are_members_held ms) ≡ false → option_and_then (λ d. of_members ms (put k d found)) (of_json j) ≡ None
member_at k j ms found true held not_held further h = ap (option_and_then (λ d. of_members ms (put k d found))) (held refl) ∙ further h
member_at k j ms found false held not_held further h = ap (option_and_then (λ d. of_members ms (put k d found))) (not_held refl)

mutual
  pub of_json-not_held : (j : json.Json) → is_held j ≡ false → of_json j ≡ None
  of_json-not_held json.null h = absurd cc
  of_json-not_held (json.boolean b) h = absurd cc
  of_json-not_held (json.number s) h = not_there (number_of s) h
  of_json-not_held (json.string s) h = absurd cc
  of_json-not_held (json.array js) h = ap (option_map array) (of_items-not_held js h)
  of_json-not_held (json.object ms) h = ap (option_map object) (of_members-not_held ms no_members h)

  of_items-not_held : (js : json.Items) → are_items_held js ≡ false → of_items js ≡ None
  of_items-not_held json.no_items h = absurd cc
  of_items-not_held (json.item j js) h = item_at j js (is_held j) (of_json-held j) (of_json-not_held j) (of_items-not_held js) h

  of_members-not_held : (ms : json.Members) (found : Members) → are_members_held ms ≡ false → of_members ms found ≡ None
  of_members-not_held json.no_members found h = absurd cc
  of_members-not_held (json.member k j ms) found h =
      member_at k j ms found (is_held j) (of_json-held j) (of_json-not_held j) (of_members-not_held ms (put k (data_of j) found)) h
