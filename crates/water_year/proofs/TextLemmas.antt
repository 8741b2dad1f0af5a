-- A text to which parts are added one after another, and what stands of it where memory runs out.
use Rattle.std.proofs.Common.{◌≡◌, refl, sym, ap, ◌∙◌, ℕ, ◌+◌, ◌<◌, ◌≤◌, List, [], ◌∷◌, ◌++◌, length, length-take, take, codes, Result, Ok, Err, OnErr, append_assoc, length-append, arith}
use Rattle.std.specs.Prelude.{flat_map, slice_index_or, zip}
use Rattle.std.proofs.lemmas.Grind.{flat_map-append}
use Rattle.std.proofs.lemmas.List.{append-nil, take_at, take_more}
use Rattle.water_year.specs.DailyText.{fields_line}
use Rattle.water_year.specs.YearText.{month_line, month_names}
use Rattle.water_year.specs.declared.tables.Month.{Month}

-- what holds at an error holds where there is one
pub on_err : {X E P : Type 0} (r : Result X E) → P → OnErr r P
on_err (Ok x) p = tt
on_err (Err e) p = p

-- what was added to is a front of it
pub unchanged : (old mid new part : List ℕ) → mid ≡ old ++ part → new ≡ mid → take (length old) new ≡ old
unchanged old mid new part is same = ap (take (length old)) (same ∙ is) ∙ take_at old part (length old) refl

-- two parts, and three
pub two_joined : (out a b w z : List ℕ) → w ≡ out ++ a → z ≡ w ++ b → z ≡ out ++ (a ++ b)
two_joined out a b w z hw hz = rw (hz, hw) (simp append_assoc)

pub three_joined : (out a b c w x z : List ℕ) → w ≡ out ++ a → x ≡ w ++ b → z ≡ x ++ c → z ≡ out ++ (a ++ b ++ c)
three_joined out a b c w x z hw hx hz = rw (hz, hx, hw) (simp append_assoc)

-- four parts, and five
pub four_joined : (out a b c d w x y z : List ℕ) → w ≡ out ++ a → x ≡ w ++ b → y ≡ x ++ c → z ≡ y ++ d → z ≡ out ++ (a ++ b ++ c ++ d)
four_joined out a b c d w x y z hw hx hy hz = rw (hz, hy, hx, hw) (simp append_assoc)

pub five_joined : (out a b c d e v w x y z : List ℕ) → v ≡ out ++ a → w ≡ v ++ b → x ≡ w ++ c → y ≡ x ++ d → z ≡ y ++ e
    → z ≡ out ++ (a ++ b ++ c ++ d ++ e)
five_joined out a b c d e v w x y z hv hw hx hy hz = rw (hz, hy, hx, hw, hv) (simp append_assoc)

-- two parts, each behind its name
pub named_joined : (out k a l b w z : List ℕ) → w ≡ out ++ (k ++ a) → z ≡ w ++ (l ++ b) → z ≡ out ++ (k ++ a ++ l ++ b)
named_joined out k a l b w z hw hz = rw (hz, hw) (simp append_assoc)

-- the text of one more element of a list
pub lines_more : {X : Type 0} (text : X → List ℕ) (xs : List X) (i : ℕ) (x : X) (start head out new : List ℕ) → i < length xs
    → out ≡ start ++ (head ++ flat_map text (take i xs)) → new ≡ out ++ text (slice_index_or xs i x)
    → new ≡ start ++ (head ++ flat_map text (take (i + 1) xs))
lines_more text xs i x start head out new within so_far more =
    rw (take_more xs i x within, flat_map-append text (take i xs) (slice_index_or xs i x ∷ []), append-nil (text (slice_index_or xs i x)), more, so_far)
    (simp append_assoc)

-- the fields of a row
pub row_joined : (out site day discharge code w z : List ℕ) → w ≡ out ++ (codes "LOCAL\t" ++ site ++ codes "\t" ++ day ++ codes "\t")
    → z ≡ w ++ (discharge ++ codes "\t" ++ code ++ codes "\n")
    → z ≡ out ++ fields_line (codes "LOCAL" ∷ site ∷ day ∷ discharge ∷ code ∷ [])
row_joined out site day discharge code w z hw hz = rw (hz, hw) (simp append_assoc)

-- one element more in two lists of one length
pub zip_push : {X Y : Type 0} (xs : List X) (ys : List Y) (x : X) (y : Y) → length xs ≡ length ys
    → zip (xs ++ x ∷ []) (ys ++ y ∷ []) ≡ zip xs ys ++ (x, y) ∷ []
zip_push [] [] x y e = refl
zip_push [] (b ∷ ys) x y e = absurd (omega (arith, e))
zip_push (a ∷ xs) [] x y e = absurd (omega (arith, e))
zip_push (a ∷ xs) (b ∷ ys) x y e = ap (λ l. (a, b) ∷ l) (zip_push xs ys x y (omega (arith, e)))

-- the line of one month more
pub months_more : (array : List ℕ) (months : List Month) (k : ℕ) (start out new name : List ℕ) (d : Month) → k < 12 → length months ≡ 12
    → name ≡ slice_index_or month_names k []
    → out ≡ start ++ flat_map (month_line array) (zip (take k month_names) (take k months)) → new ≡ out ++ month_line array (name, slice_index_or months k d)
    → new ≡ start ++ flat_map (month_line array) (zip (take (k + 1) month_names) (take (k + 1) months))
months_more array months k start out new name d within long is so_far more =
    let line = month_line array in
    let pairs = zip (take k month_names) (take k months) in
    let one : List ℕ × Month = (slice_index_or month_names k [], slice_index_or months k d) in
    let same : length (take k month_names) ≡ length (take k months) = omega (arith, length-take k month_names, length-take k months, long, within) in
    let zipped : zip (take (k + 1) month_names) (take (k + 1) months) ≡ pairs ++ one ∷ [] =
    rw (take_more month_names k [] within, take_more months k d (omega (arith, long, within))) (zip_push (take k month_names) (take k months) one.0 one.1 same) in
    let told : new ≡ out ++ line one = more ∙ ap (λ (n : List ℕ). out ++ line (n, slice_index_or months k d)) is in
    told ∙ ap (λ (o : List ℕ). o ++ line one) so_far ∙ append_assoc start (flat_map line pairs) (line one)
    ∙ ap (λ (l : List ℕ). start ++ l)
    (ap (λ (l : List ℕ). flat_map line pairs ++ l) (sym (append-nil (line one))) ∙ sym (flat_map-append line pairs (one ∷ [])) ∙ ap (flat_map line) (sym zipped))
