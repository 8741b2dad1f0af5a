-- Names as they stand in a picture's text: what has a meaning there is escaped (XML 1.0, section 2.4).
use Rattle.std.specs.Prelude.{ℕ, Bool, not, ◌&&◌, ◌==◌, if◌then◌else◌, List, [], ◌∷◌, codes, flat_map}

-- a byte of a name
abbrev pub escape : ℕ → List ℕ
escape b =
    if b == 38 then codes "&amp;"
    else (if b == 60 then codes "&lt;"
    else (if b == 62 then codes "&gt;"
    else (if b == 34 then codes "&quot;"
    else (if b == 39 then codes "&#39;" else b ∷ []))))

-- a name
abbrev pub escaped : List ℕ → List ℕ
escaped name = flat_map escape name

-- a byte that neither begins nor ends an element or an attribute
abbrev pub is_plain : ℕ → Bool
is_plain b = not (b == 60) && not (b == 62) && not (b == 34) && not (b == 39)
