-- The parts of a line, found byte by byte.
use Rattle.std.specs.Prelude.{◌≡◌, ◌<◌, ◌≤◌, Bool, true, false, cond, nat_lt, List, [], ◌∷◌, ◌++◌, ℕ, suc, ◌+◌, take, drop, length, map}
use Rattle.std.proofs.Common.{arith, refl, ap, sym, ◌∙◌, get_or, drop-cons}
use Rattle.std.proofs.lemmas.Bool.Decides.{nat_tests}
use Rattle.std.proofs.lemmas.List.{append-nil, append_assoc, take_more, drop_all}
use Rattle.rating_tables.specs.Lines.{in_front}
use Rattle.logger_files.specs.Fields.{field_of, fields, is_end, parts, parts_behind, parts_from, quoted_behind}

-- bytes in front of the first part
abbrev pub all_in_front : List ℕ → List (List ℕ) → List (List ℕ)
all_in_front front [] = front ∷ []
all_in_front front (part ∷ parts) = (front ++ part) ∷ parts

some_before : (d : Bool) (first ps : List (List ℕ)) (b : ℕ) → 0 < length first → 0 < length (cond d first (in_front b ps))
some_before true first ps b h = h
some_before false first [] b h = omega arith
some_before false first (p ∷ ps) b h = omega arith

some_parts : (s : ℕ) (q : Bool) (text : List ℕ) → 0 < length (parts_from s q text)
unfolding parts_from
some_parts s q [] = omega arith
some_parts s q (b ∷ text) = some_before (is_end s q b) ([] ∷ parts_from s false text) (parts_from s (quoted_behind q b) text) b (omega arith)

none_added : (ps : List (List ℕ)) → 0 < length ps → ps ≡ all_in_front [] ps
none_added [] h = absurd (omega arith)
none_added (p ∷ ps) h = refl

pub parts_start : (s : ℕ) (text : List ℕ) → parts_from s false text ≡ all_in_front (take 0 text) (parts_from s false (drop 0 text))
parts_start s text = none_added (parts_from s false text) (some_parts s false text)

one_more : (front : List ℕ) (b : ℕ) (ps : List (List ℕ)) → all_in_front front (in_front b ps) ≡ all_in_front (front ++ b ∷ []) ps
one_more front b [] = refl
one_more front b (p ∷ ps) = ap (λ (l : List ℕ). l ∷ ps) (sym (append_assoc front (b ∷ []) p))

passed : (s : ℕ) (q : Bool) (b : ℕ) (rest : List ℕ) → is_end s q b ≡ false → parts_from s q (b ∷ rest) ≡ in_front b (parts_from s (quoted_behind q b) rest)
unfolding parts_from
passed s q b rest e = rw e refl

ended : (s : ℕ) (q : Bool) (b : ℕ) (rest : List ℕ) → is_end s q b ≡ true → parts_from s q (b ∷ rest) ≡ [] ∷ parts_from s false rest
unfolding parts_from
ended s q b rest e = rw e refl

nothing_left : (s : ℕ) (q : Bool) → parts_from s q [] ≡ [] ∷ []
unfolding parts_from
nothing_left s q = refl

abbrev pub AreParted : ℕ → List ℕ → ℕ → Bool → Type 0
AreParted s text end quoted = parts_from s false text ≡ all_in_front (take end text) (parts_from s quoted (drop end text))

pub parts_more : (s : ℕ) (text : List ℕ) (end : ℕ) (q : Bool) → end < length text → is_end s q (get_or text end 0) ≡ false → AreParted s text end q
    → AreParted s text (end + 1) (quoted_behind q (get_or text end 0))
parts_more s text end q lt e h =
    let b = get_or text end 0 in
    let next : suc end ≡ end + 1 = omega arith in
    h
    ∙ ap (λ (r : List ℕ). all_in_front (take end text) (parts_from s q r)) (drop-cons text end 0 lt)
    ∙ ap (λ (ps : List (List ℕ)). all_in_front (take end text) ps) (passed s q b (drop (suc end) text) e)
    ∙ one_more (take end text) b (parts_from s (quoted_behind q b) (drop (suc end) text))
    ∙ ap (λ (l : List ℕ). all_in_front l (parts_from s (quoted_behind q b) (drop (suc end) text))) (sym (take_more text end 0 lt))
    ∙ ap (λ (n : ℕ). all_in_front (take (end + 1) text) (parts_from s (quoted_behind q b) (drop n text))) next

pub parts_here : (s : ℕ) (text : List ℕ) (end : ℕ) (q : Bool) → end < length text → is_end s q (get_or text end 0) ≡ true → AreParted s text end q
    → parts_from s false text ≡ take end text ∷ parts_behind s end text
parts_here s text end q lt e h =
    let b = get_or text end 0 in
    let next : suc end ≡ end + 1 = omega arith in
    let test : nat_lt end (length text) ≡ true = grind (arith, nat_tests) in
    h
    ∙ ap (λ (r : List ℕ). all_in_front (take end text) (parts_from s q r)) (drop-cons text end 0 lt)
    ∙ ap (λ (ps : List (List ℕ)). all_in_front (take end text) ps) (ended s q b (drop (suc end) text) e)
    ∙ ap (λ (l : List ℕ). l ∷ parts_from s false (drop (suc end) text)) (append-nil (take end text))
    ∙ ap (λ (n : ℕ). take end text ∷ parts_from s false (drop n text)) next
    ∙ ap (λ (d : Bool). take end text ∷ cond d (parts s (drop (end + 1) text)) []) (sym test)

pub parts_at_end : (s : ℕ) (text : List ℕ) (end : ℕ) (q : Bool) → length text ≤ end → AreParted s text end q
    → parts_from s false text ≡ take end text ∷ parts_behind s end text
parts_at_end s text end q le h =
    let test : nat_lt end (length text) ≡ false = grind (arith, nat_tests) in
    h
    ∙ ap (λ (r : List ℕ). all_in_front (take end text) (parts_from s q r)) (drop_all end text le)
    ∙ ap (λ (ps : List (List ℕ)). all_in_front (take end text) ps) (nothing_left s q)
    ∙ ap (λ (l : List ℕ). l ∷ []) (append-nil (take end text))
    ∙ ap (λ (d : Bool). take end text ∷ cond d (parts s (drop (end + 1) text)) []) (sym test)

-- the fields of what is left behind the first part
pub fields_there : (s : ℕ) (text : List ℕ) (end : ℕ) (field : List ℕ) → end < length text → parts_from s false text ≡ take end text ∷ parts_behind s end text
    → field ≡ field_of (take end text) → fields s text ≡ field ∷ fields s (drop (end + 1) text)
fields_there s text end field lt h e =
    let test : nat_lt end (length text) ≡ true = grind (arith, nat_tests) in
    ap (map field_of) h
    ∙ ap (λ (d : Bool). field_of (take end text) ∷ map field_of (cond d (parts s (drop (end + 1) text)) [])) test
    ∙ ap (λ (l : List ℕ). l ∷ fields s (drop (end + 1) text)) (sym e)

pub fields_end : (s : ℕ) (text : List ℕ) (end : ℕ) (field : List ℕ) → length text ≤ end → parts_from s false text ≡ take end text ∷ parts_behind s end text
    → field ≡ field_of (take end text) → fields s text ≡ field ∷ []
fields_end s text end field le h e =
    let test : nat_lt end (length text) ≡ false = grind (arith, nat_tests) in
    ap (map field_of) h
    ∙ ap (λ (d : Bool). field_of (take end text) ∷ map field_of (cond d (parts s (drop (end + 1) text)) [])) test
    ∙ ap (λ (l : List ℕ). l ∷ []) (sym e)
