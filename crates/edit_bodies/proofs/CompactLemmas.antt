-- Texts of the compact form are the printed tokens of their values.
use Rattle.std.proofs.Common.{◌≡◌, ℕ, ◌+◌, ◌-◌, ◌<◌, ◌≤◌, Bool, true, false, List, [], ◌∷◌, ◌++◌, length, take, drop, take-append-drop, take-add, take_all, length-drop, get_or, fold, codes, Some, Ok, option_and_then, option_map, ℤ, refl, sym, ap, subst, ◌∙◌, arith, append_assoc, append-nil}
use Rattle.std.proofs.lemmas.Grind.{flat_map-append}
use Rattle.std.proofs.lemmas.List.{take_more}
use Rattle.json.specs.Json.{Items, no_items, item}
use Rattle.json.specs.Lex.{tokens}
use Rattle.json.specs.Print.{ends, escape, escape_byte, print, print_from, quoted}
use Rattle.json.specs.Token.{end_array, end_object}
use Rattle.json.specs.Tree.{ItemsHaveNumbers, depth, items_tokens, json_tokens}
use Rattle.json.proofs.Printed.Tokens.{print_from-append, tokens-print}
use Rattle.json.proofs.Printed.Trees.{ArePrintable-json_tokens}
use Rattle.edit_bodies.proofs.TreeLemmas.{of_json-held}
use Rattle.edit_bodies.proofs.UsualLemmas.{pushed, put_read, read-tokens}
use Rattle.edit_bodies.specs.Bodies.{edit_of_value}
use Rattle.edit_bodies.specs.CompactForm.{review_json, row_spelled, sender_spelled}
use Rattle.edit_bodies.specs.Grammars.{by_of, day_of, each_of, last_day_of, reading_of, reference_of, site_of}
use Rattle.edit_bodies.specs.Trees.{data_of, items_of}
use Rattle.edit_bodies.specs.UsualForm.{put_json, readings_stated, row_json, rows_json, texts_json}
use Rattle.edit_bodies.specs.declared.usual_form.Sender.{Sender}
use Rattle.edits.specs.declared.content.What.TheVariants.{Review}
use Rattle.fixed_units.specs.Quantities.{SiteNumber}
use Rattle.fixed_units.specs.declared.readings.Reading.{Reading}
use Rattle.serde_json.specs.Data.{string}
use Rattle.serde_json.specs.Read.{read}

-- ---- strings

pub escape_more : (bytes : List ℕ) (i : ℕ) → i < length bytes → escape (take i bytes) ≡ take i bytes
    → escape_byte (get_or bytes i 0) ≡ get_or bytes i 0 ∷ [] → escape (take (i + 1) bytes) ≡ take (i + 1) bytes
escape_more bytes i below so_far this =
    let more = take_more bytes i 0 below in
    ap escape more ∙ flat_map-append escape_byte (take i bytes) (get_or bytes i 0 ∷ [])
    ∙ ap (λ l. l ++ escape (get_or bytes i 0 ∷ [])) so_far
    ∙ ap (λ l. take i bytes ++ l) (append-nil (escape_byte (get_or bytes i 0)) ∙ this) ∙ sym more

-- a block of plain bytes behind plain bytes
pub block_more : (bytes block : List ℕ) (known more : ℕ) → known ≤ length bytes → more ≤ length (take (length bytes - known) (drop known bytes))
    → block ≡ take more (take (length bytes - known) (drop known bytes)) → escape (take known bytes) ≡ take known bytes → escape block ≡ block
    → (known + more ≤ length bytes) × (escape (take (known + more) bytes) ≡ take (known + more) bytes)
block_more bytes block known more within enough same so_far own =
    let behind = drop known bytes in
    let all : take (length bytes - known) behind ≡ behind = take_all _ behind (omega (arith, length-drop known bytes)) in
    let plain : escape (take more behind) ≡ take more behind = subst (λ l. escape l ≡ l) (same ∙ ap (λ l. take more l) all) own in
    let parts = take-add known more bytes in (
      omega (arith, length-drop known bytes, ap length all, within, enough),
      ap escape parts ∙ flat_map-append escape_byte (take known bytes) (take more behind) ∙ ap (λ l. l ++ escape (take more behind)) so_far
          ∙ ap (λ l. take known bytes ++ l) plain ∙ sym parts,
    )

-- what stands behind the front of a text
pub front_behind : (n : ℕ) (text first rest front : List ℕ) → first ≡ take n text → rest ≡ drop n text → first ≡ front → text ≡ front ++ rest
front_behind n text first rest front a b same =
    sym (take-append-drop n text) ∙ ap (λ l. l ++ drop n text) (sym a ∙ same) ∙ ap (λ l. front ++ l) (sym b)

-- ---- rows

pub row_two : (at raw text a b rest : List ℕ) → text ≡ 91 ∷ (quoted at ++ a) → a ≡ 44 ∷ (quoted raw ++ b) → b ≡ 93 ∷ rest
    → text ≡ row_spelled (at ∷ raw ∷ []) ++ rest
unfolding print_from
row_two at raw text a b rest e f g =
    e ∙ ap (λ (l : List ℕ). 91 ∷ l)
    (ap (λ l. quoted at ++ l) (f ∙ ap (λ (l : List ℕ). 44 ∷ l) (ap (λ l. quoted raw ++ l) g ∙ sym (append_assoc (quoted raw) (93 ∷ []) rest)))
    ∙ sym (append_assoc (quoted at) (44 ∷ (quoted raw ++ 93 ∷ [])) rest))

pub row_three : (at raw flag text a b c rest : List ℕ) → text ≡ 91 ∷ (quoted at ++ a) → a ≡ 44 ∷ (quoted raw ++ b) → b ≡ 44 ∷ (quoted flag ++ c) → c ≡ 93 ∷ rest
    → text ≡ row_spelled (at ∷ raw ∷ flag ∷ []) ++ rest
unfolding print_from
row_three at raw flag text a b c rest e f g h =
    e ∙ ap (λ (l : List ℕ). 91 ∷ l)
    (ap (λ l. quoted at ++ l) (f ∙ ap (λ (l : List ℕ). 44 ∷ l)
    (ap (λ l. quoted raw ++ l) (g ∙ ap (λ (l : List ℕ). 44 ∷ l) (ap (λ l. quoted flag ++ l) h ∙ sym (append_assoc (quoted flag) (93 ∷ []) rest)))
    ∙ sym (append_assoc (quoted raw) (44 ∷ (quoted flag ++ 93 ∷ [])) rest)))
    ∙ sym (append_assoc (quoted at) (44 ∷ (quoted raw ++ 44 ∷ (quoted flag ++ 93 ∷ []))) rest))

-- rows with a comma behind each
abbrev pub commas : List (List (List ℕ)) → List ℕ
commas [] = []
commas (row ∷ rows) = row_spelled row ++ (44 ∷ commas rows)

pub commas-push : (rows : List (List (List ℕ))) (row : List (List ℕ)) (rest : List ℕ) → commas (rows ++ row ∷ []) ++ rest ≡ commas rows ++ (row_spelled row ++ (44 ∷ rest))
commas-push [] row rest = append_assoc (row_spelled row) (44 ∷ []) rest
commas-push (first ∷ rows) row rest =
    append_assoc (row_spelled first) (44 ∷ commas (rows ++ row ∷ [])) rest
    ∙ ap (λ (l : List ℕ). row_spelled first ++ (44 ∷ l)) (commas-push rows row rest)
    ∙ sym (append_assoc (row_spelled first) (44 ∷ commas rows) _)

ends-texts : (c : Bool) (texts : List (List ℕ)) → fold (λ _ t. ends t) c (items_tokens (texts_json texts)) ≡ true
ends-texts c [] = refl
ends-texts c (text ∷ texts) = ends-texts true texts

-- a row, and what is printed behind it
printed-item : (row : List (List ℕ)) (rows : Items) → print_from false (items_tokens (item (row_json row) rows)) ≡ row_spelled row ++ print_from true (items_tokens rows)
printed-item row rows =
    print_from-append false (json_tokens (row_json row)) (items_tokens rows)
    ∙ ap (λ (b : Bool). row_spelled row ++ print_from b (items_tokens rows)) (ends-texts false row)

-- a comma stands before a further row
comma-before : (rows : List (List (List ℕ))) (row : List (List ℕ)) → print_from true (items_tokens (rows_json (rows ++ row ∷ []))) ≡ 44 ∷ print_from false (items_tokens (rows_json (rows ++ row ∷ [])))
unfolding print_from
comma-before [] row = refl
comma-before (first ∷ rows) row = refl

bracket : print_from true (end_array ∷ []) ≡ 93 ∷ []
unfolding print_from
bracket = refl

pub rows-closed : (rows : List (List (List ℕ))) (row : List (List ℕ)) (rest : List ℕ)
    → commas rows ++ (row_spelled row ++ (93 ∷ rest)) ≡ print_from false (items_tokens (rows_json (rows ++ row ∷ []))) ++ rest
rows-closed [] row rest =
    sym (ap (λ l. l ++ rest) (printed-item row no_items ∙ ap (λ l. row_spelled row ++ l) bracket) ∙ append_assoc (row_spelled row) (93 ∷ []) rest)
rows-closed (first ∷ rows) row rest =
    append_assoc (row_spelled first) (44 ∷ commas rows) _
    ∙ ap (λ (l : List ℕ). row_spelled first ++ (44 ∷ l)) (rows-closed rows row rest)
    ∙ sym (append_assoc (row_spelled first) (44 ∷ print_from false (items_tokens (rows_json (rows ++ row ∷ [])))) rest)
    ∙ ap (λ l. (row_spelled first ++ l) ++ rest) (sym (comma-before rows row))
    ∙ ap (λ l. l ++ rest) (sym (printed-item first (rows_json (rows ++ row ∷ []))))

-- one row more states one reading more
pub states_more : (row : List (List ℕ)) (rows : List (List (List ℕ))) (xs ys : List Reading) (x : Reading)
    → each_of reading_of (items_of (rows_json rows)) ≡ Some xs → Some x ≡ reading_of (data_of (row_json row)) → ys ≡ xs ++ x ∷ []
    → each_of reading_of (items_of (rows_json (rows ++ row ∷ []))) ≡ Some ys
states_more row rows xs ys x are is more =
    pushed row rows
    ∙ ap (λ o. option_and_then (λ zs. option_map (λ z. zs ++ z ∷ []) (reading_of (data_of (row_json row)))) o) are
    ∙ ap (λ o. option_map (λ z. xs ++ z ∷ []) o) (sym is) ∙ ap Some (sym more)

-- ---- whole texts

brace : (b : Bool) → print_from b (end_object ∷ []) ≡ 125 ∷ []
unfolding print_from
brace true = refl
brace false = refl

put-printed : (sender : Sender) (rows : List (List (List ℕ)))
    → codes "{\"kind\":\"PutReadings\",\"by\":" ++ sender_spelled sender (codes ",\"readings\":[" ++ print_from false (items_tokens (rows_json rows) ++ end_object ∷ []))
    ≡ print (json_tokens (put_json sender rows))
unfolding print_from escape_byte
put-printed sender rows = refl

numbers-texts : (texts : List (List ℕ)) → ItemsHaveNumbers (texts_json texts)
numbers-texts [] = tt
numbers-texts (text ∷ texts) = (tt, numbers-texts texts)

numbers-rows : (rows : List (List (List ℕ))) → ItemsHaveNumbers (rows_json rows)
numbers-rows [] = tt
numbers-rows (row ∷ rows) = (numbers-texts row, numbers-rows rows)

-- the text of a put states its value
pub put_compact : (text rest end : List ℕ) (sender : Sender) (rows : List (List (List ℕ))) (readings : List Reading)
    → text ≡ sender_spelled sender (codes ",\"readings\":[" ++ rest) → rest ≡ print_from false (items_tokens (rows_json rows)) ++ end → end ≡ 125 ∷ []
    → readings_stated rows ≡ Some readings
    → read (codes "{\"kind\":\"PutReadings\",\"by\":" ++ text) ≡ Some (data_of (put_json sender rows))
put_compact text rest end sender rows readings a b c stated =
    let printed = print_from-append false (items_tokens (rows_json rows)) (end_object ∷ []) in
    let closed : rest ≡ print_from false (items_tokens (rows_json rows) ++ end_object ∷ []) =
    b ∙ ap (λ l. print_from false (items_tokens (rows_json rows)) ++ l) (c ∙ sym (brace _)) ∙ sym printed in
    let whole : codes "{\"kind\":\"PutReadings\",\"by\":" ++ text ≡ print (json_tokens (put_json sender rows)) =
    ap (λ l. codes "{\"kind\":\"PutReadings\",\"by\":" ++ l) (a ∙ ap (λ l. sender_spelled sender (codes ",\"readings\":[" ++ l)) closed) ∙ put-printed sender rows in
    let printable = ArePrintable-json_tokens (put_json sender rows) (tt, (tt, (tt, (tt, (numbers-rows rows, tt))))) in
    put_read (codes "{\"kind\":\"PutReadings\",\"by\":" ++ text) sender readings (rows, ap tokens whole ∙ tokens-print (json_tokens (put_json sender rows)) printable, stated)

review-printed : (sender : Sender) (from to : List ℕ)
    → codes "{\"kind\":\"Review\",\"by\":" ++ sender_spelled sender (codes ",\"from\":" ++ (quoted from ++ (codes ",\"to\":" ++ (quoted to ++ (125 ∷ [])))))
    ≡ print (json_tokens (review_json sender from to))
unfolding print_from escape_byte
review-printed sender from to = refl

shallow-review : (sender : Sender) (from to : List ℕ) → depth (review_json sender from to) ≤ 127
shallow-review sender from to = omega arith

-- the text of a review states its value
pub review_compact : (text a from b to end : List ℕ) (sender : Sender)
    → text ≡ sender_spelled sender a → a ≡ codes ",\"from\":" ++ (quoted from ++ b) → b ≡ codes ",\"to\":" ++ (quoted to ++ end) → end ≡ 125 ∷ []
    → read (codes "{\"kind\":\"Review\",\"by\":" ++ text) ≡ Some (data_of (review_json sender from to))
review_compact text a from b to end sender e f g h =
    let whole : codes "{\"kind\":\"Review\",\"by\":" ++ text ≡ print (json_tokens (review_json sender from to)) =
    ap (λ l. codes "{\"kind\":\"Review\",\"by\":" ++ l)
    (e ∙ ap (sender_spelled sender) (f ∙ ap (λ l. codes ",\"from\":" ++ (quoted from ++ l)) (g ∙ ap (λ l. codes ",\"to\":" ++ (quoted to ++ l)) h)))
    ∙ review-printed sender from to in
    let printable = ArePrintable-json_tokens (review_json sender from to) (tt, (tt, (tt, (tt, (tt, (tt, tt)))))) in
    read-tokens _ (review_json sender from to) (shallow-review sender from to) (ap tokens whole ∙ tokens-print (json_tokens (review_json sender from to)) printable)
    ∙ of_json-held (review_json sender from to) refl

-- ---- from the value to the edit

pub review_made : (sender : Sender) (from to by reference : List ℕ) (site : SiteNumber) (first last : ℤ)
    → by_of (string sender.by.now) ≡ Some by → reference_of (string sender.reference.now) ≡ Some reference → site_of (string sender.site.now) ≡ Some site
    → day_of (string from) ≡ Some first → last_day_of first (string to) ≡ Some last
    → edit_of_value (Some (data_of (review_json sender from to))) ≡ Ok (record { by = by; reference = reference; site = site; comment = []; what = Review first last })
review_made sender from to by reference site first last b r s d e = rw (b, r, s, d, e) refl
