-- The chunks of readings, and the requests of the first of them.
use Rattle.std.specs.Prelude.{◌≡◌, ◌<◌, ◌≤◌, ◌⊎◌, min, ℕ, suc, ◌+◌, ◌-◌, ◌*◌, List, [], ◌∷◌, ◌++◌, length, take, drop}
use Rattle.std.proofs.Common.{arith, refl, ap, sym, ◌∙◌, inl, inr, get_or}
use Rattle.std.proofs.lemmas.Bool.{cases_lt}
use Rattle.std.proofs.lemmas.Grind.{div_ceil_times}
use Rattle.std.proofs.lemmas.List.{append_assoc, append-nil, flat_map_more, take_all, take_more}
use Rattle.std.specs.Fork.{slice_chunk}
use Rattle.std.specs.Int.{div_ceil}
use Rattle.std.specs.List.{flat_map}
use Rattle.fixed_units.specs.Quantities.{SiteNumber}
use Rattle.fixed_units.specs.declared.readings.Reading.{Reading}
use Rattle.logger_files.specs.Digests.{digest_byte, digest_from}
use Rattle.logger_files.specs.Requests.{further_text, most_readings, reading_text, request_text, requests_upto, rows_text}

-- as many as there are of so many
pub take_least : (n : ℕ) (l : List Reading) (k : ℕ) → k ≡ min (length l) n → take k l ≡ take n l
take_least n l k is = by (cases_lt n (length l))
  where
    by : (n < length l) ⊎ (length l ≤ n) → take k l ≡ take n l
    by (inl less) = let same : k ≡ n = omega (arith, is, less) in ap (λ (m : ℕ). take m l) same
    by (inr more) = take_all k l (omega (arith, is, more)) ∙ sym (take_all n l more)

below : (q place n : ℕ) → place < q → q * 40_000 < n + 40_000 → place * 40_000 < n
below q place n h k = omega arith

-- each chunk begins within the readings
pub chunk_begins : (n place : ℕ) → place < div_ceil n most_readings → place * most_readings < n
chunk_begins n place h = below (div_ceil n most_readings) place n h (div_ceil_times n most_readings (omega arith)).1

pub no_requests : (by : List ℕ) (site : SiteNumber) (readings : List Reading) → requests_upto by site readings 0 ≡ []
unfolding requests_upto
no_requests by site readings = refl

next_requests : (by : List ℕ) (site : SiteNumber) (readings : List Reading) (place : ℕ)
    → requests_upto by site readings place ++ request_text by site (slice_chunk readings most_readings place) ≡ requests_upto by site readings (suc place)
unfolding requests_upto
next_requests by site readings place = refl

pub one_request_more : (by : List ℕ) (site : SiteNumber) (readings : List Reading) (place : ℕ)
    → requests_upto by site readings place ++ request_text by site (slice_chunk readings most_readings place) ≡ requests_upto by site readings (place + 1)
one_request_more by site readings place =
    let next : suc place ≡ place + 1 = omega arith in
    next_requests by site readings place ∙ ap (requests_upto by site readings) next

-- the rows of readings, with the first one apart
pub no_rows : (out : List ℕ) (readings : List Reading) → length readings ≡ 0 → out ≡ out ++ rows_text readings
no_rows out [] h = sym (append-nil out)
no_rows out (r ∷ readings) h = absurd (omega arith)

pub rows_joined : (out one all : List ℕ) (readings : List Reading) (first : Reading) → 1 ≤ length readings → first ≡ get_or readings 0 first → one ≡ out ++ reading_text first
    → all ≡ one ++ flat_map further_text (take (length readings - 1) (drop 1 readings)) → all ≡ out ++ rows_text readings
rows_joined out one all [] first h is e f = absurd (omega arith)
rows_joined out one all (r ∷ readings) first h is e f =
    let rest : take (length (r ∷ readings) - 1) (drop 1 (r ∷ readings)) ≡ readings = take_all (length (r ∷ readings) - 1) readings (omega arith) in
    f
    ∙ ap (λ (rs : List Reading). one ++ flat_map further_text rs) rest
    ∙ ap (λ (l : List ℕ). l ++ flat_map further_text readings) (e ∙ ap (λ (x : Reading). out ++ reading_text x) is)
    ∙ append_assoc out (reading_text r) (flat_map further_text readings)

-- one reading more was added
pub put_more : (before start after : List ℕ) (readings : List Reading) (i : ℕ) (d : Reading) → i < length readings → after ≡ before ++ further_text (get_or readings i d)
    → before ≡ start ++ flat_map further_text (take i readings) → after ≡ start ++ flat_map further_text (take (i + 1) readings)
put_more before start after readings i d below added known =
    added ∙ ap (λ (l : List ℕ). l ++ further_text (get_or readings i d)) known ∙ flat_map_more further_text start (take i readings) (get_or readings i d)
    ∙ ap (λ (rs : List Reading). start ++ flat_map further_text rs) (sym (take_more readings i d below))

-- the number of a text, byte by byte
pub digest_end : (d : ℕ) (text : List ℕ) → length text ≡ 0 → digest_from d text ≡ d
unfolding digest_from
digest_end d [] h = refl
digest_end d (b ∷ text) h = absurd (omega arith)

pub digest_more : (d b : ℕ) (text : List ℕ) → digest_from d (b ∷ text) ≡ digest_from (digest_byte d b) text
unfolding digest_from
digest_more d b text = refl

-- texts that were added one behind another
pub joined : (out a b s x : List ℕ) → a ≡ out ++ s → b ≡ a ++ x → b ≡ out ++ (s ++ x)
joined out a b s x e f = f ∙ ap (λ (l : List ℕ). l ++ x) e ∙ append_assoc out s x

pub four_joined : (out a b c d w x y z : List ℕ) → a ≡ out ++ w → b ≡ a ++ x → c ≡ b ++ y → d ≡ c ++ z → d ≡ out ++ (w ++ x ++ y ++ z)
four_joined out a b c d w x y z e f g h =
    joined out c d (w ++ x ++ y) z (joined out b c (w ++ x) y (joined out a b w x e f) g) h

pub five_joined : (out a b c d e v w x y z : List ℕ) → a ≡ out ++ v → b ≡ a ++ w → c ≡ b ++ x → d ≡ c ++ y → e ≡ d ++ z → e ≡ out ++ (v ++ w ++ x ++ y ++ z)
five_joined out a b c d e v w x y z h i j k l = joined out d e (v ++ w ++ x ++ y) z (four_joined out a b c d v w x y h i j k) l

six_joined : (out a b c d e f u v w x y z : List ℕ) → a ≡ out ++ u → b ≡ a ++ v → c ≡ b ++ w → d ≡ c ++ x → e ≡ d ++ y → f ≡ e ++ z
    → f ≡ out ++ (u ++ v ++ w ++ x ++ y ++ z)
six_joined out a b c d e f u v w x y z h i j k l m =
    joined out e f (u ++ v ++ w ++ x ++ y) z (joined out d e (u ++ v ++ w ++ x) y (four_joined out a b c d u v w x h i j k) l) m

pub nine_joined : (out a b c d e f g h i q r s t u v w x y : List ℕ) → a ≡ out ++ q → b ≡ a ++ r → c ≡ b ++ s → d ≡ c ++ t → e ≡ d ++ u → f ≡ e ++ v → g ≡ f ++ w → h ≡ g ++ x → i ≡ h ++ y
    → i ≡ out ++ (q ++ r ++ s ++ t ++ u ++ v ++ w ++ x ++ y)
nine_joined out a b c d e f g h i q r s t u v w x y e1 e2 e3 e4 e5 e6 e7 e8 e9 =
    joined out h i (q ++ r ++ s ++ t ++ u ++ v ++ w ++ x) y (joined out g h (q ++ r ++ s ++ t ++ u ++ v ++ w) x
    (joined out f g (q ++ r ++ s ++ t ++ u ++ v) w (six_joined out a b c d e f q r s t u v e1 e2 e3 e4 e5 e6) e7) e8) e9
