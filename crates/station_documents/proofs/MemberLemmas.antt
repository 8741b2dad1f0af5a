-- The keys of a table, as the map of it has them.
use Rattle.std.proofs.Common.{◌≡◌, ℕ, List, [], ◌∷◌, Bool, ◌&&◌, String, Global, string_bytes, refl, ap}
use Rattle.std.specs.List.{list_all}
use Rattle.std.specs.Map.{keys_of}
use Rattle.station_documents.specs.Members.{all_keys}
use Rattle.toml.specs.View.{members_view}
use Rattle.toml.specs.declared.value.Value.{Value}

-- each name passes where each key does
pub keys-all : (test : List ℕ → Bool) (es : List (String Global × Value)) → list_all (λ name. test (string_bytes name)) (keys_of es) ≡ all_keys test (members_view es)
keys-all test [] = refl
keys-all test (e ∷ es) = ap (λ b. test (string_bytes e.0) && b) (keys-all test es)
