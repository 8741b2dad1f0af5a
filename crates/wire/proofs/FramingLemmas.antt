-- The fields of a head, one more at a time.
use Rattle.std.proofs.Common.{◌≡◌, ℕ, ◌+◌, ◌<◌, Bool, true, false, ◌||◌, List, [], ◌∷◌, ◌++◌, length, get_or, take, map, ap, ◌∙◌, refl, append-nil, cond}
use Rattle.std.specs.List.{filter, list_any}
use Rattle.std.proofs.lemmas.List.{map_more, map-append}
use Rattle.std.proofs.lemmas.List.Elements.{filter-append}
use Rattle.httparse.specs.declared.spans.HeaderSpan.{HeaderSpan}
use Rattle.httparse.specs.Spans.{header_bytes}
use Rattle.wire.specs.Framing.{is_named, values_of}

-- a test of the fields is a test of the headers that cover them
pub any_header : (test : List ℕ × List ℕ → Bool) (window : List ℕ) (headers : List HeaderSpan)
    → list_any test (map (header_bytes window) headers) ≡ list_any (λ (header : HeaderSpan). test (header_bytes window header)) headers
any_header test window [] = refl
any_header test window (header ∷ headers) =
    ap (λ (rest : Bool). test (header_bytes window header) || rest) (any_header test window headers)

values_of_append : (name : List ℕ) (fields more : List (List ℕ × List ℕ))
    → values_of name (fields ++ more) ≡ values_of name fields ++ values_of name more
values_of_append name fields more =
    let value : List ℕ × List ℕ → List ℕ = λ field. field.1 in
    ap (map value) (filter-append (is_named name) fields more)
    ∙ map-append value (filter (is_named name) fields) (filter (is_named name) more)

values_of_one : (name : List ℕ) (field : List ℕ × List ℕ)
    → values_of name (field ∷ []) ≡ cond (is_named name field) (field.1 ∷ []) []
values_of_one name field = one (is_named name field)
  where
    one : (b : Bool) → map (λ (f : List ℕ × List ℕ). f.1) (cond b (field ∷ []) []) ≡ cond b (field.1 ∷ []) []
    one true = refl
    one false = refl

-- a field adds its value where it has the name
values_of_next : (name window : List ℕ) (headers : List HeaderSpan) (i : ℕ) (d : HeaderSpan) (b : Bool) → i < length headers
    → is_named name (header_bytes window (get_or headers i d)) ≡ b
    → values_of name (map (header_bytes window) (take (i + 1) headers))
    ≡ values_of name (map (header_bytes window) (take i headers)) ++ cond b ((header_bytes window (get_or headers i d)).1 ∷ []) []
values_of_next name window headers i d b inside named =
    let before = map (header_bytes window) (take i headers) in
    let field = header_bytes window (get_or headers i d) in
    ap (values_of name) (map_more (header_bytes window) headers i d inside)
    ∙ values_of_append name before (field ∷ [])
    ∙ ap (λ (values : List (List ℕ)). values_of name before ++ values)
    (values_of_one name field ∙ ap (λ (b : Bool). cond b (field.1 ∷ []) []) named)

pub values_of_more : (name window : List ℕ) (headers : List HeaderSpan) (i : ℕ) (d : HeaderSpan) → i < length headers
    → is_named name (header_bytes window (get_or headers i d)) ≡ true
    → values_of name (map (header_bytes window) (take (i + 1) headers))
    ≡ values_of name (map (header_bytes window) (take i headers)) ++ (header_bytes window (get_or headers i d)).1 ∷ []
values_of_more name window headers i d inside named = values_of_next name window headers i d true inside named

-- and none where it has another one
pub values_of_same : (name window : List ℕ) (headers : List HeaderSpan) (i : ℕ) (d : HeaderSpan) → i < length headers
    → is_named name (header_bytes window (get_or headers i d)) ≡ false
    → values_of name (map (header_bytes window) (take (i + 1) headers))
    ≡ values_of name (map (header_bytes window) (take i headers))
values_of_same name window headers i d inside named =
    values_of_next name window headers i d false inside named ∙ append-nil (values_of name (map (header_bytes window) (take i headers)))
