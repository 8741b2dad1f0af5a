-- Bytes that are added one after another, and lists that are made one element after another.
use Rattle.std.proofs.Common.{◌≡◌, ℕ, ◌+◌, ◌<◌, List, [], ◌∷◌, ◌++◌, length, get_or, take, map, sym, ap, ◌∙◌, append_assoc}
use Rattle.std.specs.Prelude.{flat_map, OnOk, Result, Ok, Err}
use Rattle.std.proofs.lemmas.List.{flat_map_more, map_more, take_more}

-- what is added behind what was added is added behind the start
pub put_then : (start middle end front back : List ℕ) → end ≡ middle ++ back → middle ≡ start ++ front → end ≡ start ++ (front ++ back)
put_then start middle end front back last first =
    last ∙ ap (λ (bytes : List ℕ). bytes ++ back) first ∙ append_assoc start front back

-- likewise where the last may want memory
pub put_last : {A E : Type 0} (result : Result A E) (start middle end front back : List ℕ) → OnOk result (end ≡ middle ++ back) → middle ≡ start ++ front → OnOk result (end ≡ start ++ (front ++ back))
put_last (Ok done) start middle end front back last first = put_then start middle end front back last first
put_last (Err fault) start middle end front back last first = tt

-- the bytes of one value more were added
pub put_more : {A : Type 0} (write : A → List ℕ) (start before after : List ℕ) (xs : List A) (i : ℕ) (d : A) → i < length xs
    → after ≡ before ++ write (get_or xs i d) → before ≡ start ++ flat_map write (take i xs) → after ≡ start ++ flat_map write (take (i + 1) xs)
put_more {A} write start before after xs i d below added known =
    added ∙ ap (λ (bytes : List ℕ). bytes ++ write (get_or xs i d)) known ∙ flat_map_more write start (take i xs) (get_or xs i d)
    ∙ ap (λ (ys : List A). start ++ flat_map write ys) (sym (take_more xs i d below))

-- one value more was read
pub read_more : {A B : Type 0} (read : A → B) (before after : List B) (x : B) (xs : List A) (i : ℕ) (d : A) → i < length xs
    → after ≡ before ++ x ∷ [] → x ≡ read (get_or xs i d) → before ≡ map read (take i xs) → after ≡ map read (take (i + 1) xs)
read_more {A} {B} read before after x xs i d below added is known =
    added ∙ ap (λ (ys : List B). ys ++ x ∷ []) known ∙ ap (λ (y : B). map read (take i xs) ++ y ∷ []) is ∙ sym (map_more read xs i d below)
