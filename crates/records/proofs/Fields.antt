-- A field that is read is the field that was written, and what was written is read again.
use Rattle.std.proofs.Common.{◌≡◌, ℕ, suc, ◌+◌, ◌^◌, ◌<◌, ◌≤◌, Bool, true, false, cond, ltb, List, [], ◌∷◌, ◌++◌, length, get_or, take, drop, Option, Some, None, refl, sym, ap, subst, ◌∙◌, append_assoc, arith, inl, inr, FitsSigned}
use Rattle.std.specs.Prelude.{ℤ}
use Rattle.std.specs.Int.{Width, w32, w64, byte_len, from_le_bytes, to_le_bytes, cast_signed, cast_unsigned}
use Rattle.std.proofs.lemmas.Bool.{cases_lt, ltb-false, le-ltb}
use Rattle.std.proofs.lemmas.Int.{to_z-of_z, of_z-to_z, ints}
use Rattle.std.proofs.lemmas.List.{take_at, drop_at, take-append-drop, length-append, length-take, get_or-drop, get_or-take, get_or_past}
use Rattle.std.proofs.lemmas.Nat.{le_bytes_4, le_bytes_8, from_le_bytes-to_le_bytes_4, from_le_bytes-to_le_bytes_8}
use Rattle.fixed_units.specs.Quantities.{SiteNumber}
use Rattle.records.specs.declared.formats.Format.{Format}
use Rattle.records.specs.declared.formats.Format.TheVariants.{First, Second}
use Rattle.records.specs.Payloads.{short_text, comment_bytes, Holds, signed_number, day_number, site_number}
use Rattle.records.specs.Parsing.{◌>>=◌, both_at, made_at, byte_at, number_at, front_at, short_text_at, comment_at, signed_number_at, day_at, site_number_at}

abbrev pub IsBytes : List ℕ → Type 0
IsBytes bytes = (i : ℕ) → get_or bytes i 0 < 256

IsBytes-drop : (n : ℕ) (bytes : List ℕ) → IsBytes bytes → IsBytes (drop n bytes)
IsBytes-drop n bytes h i = rw get_or-drop (h (n + i))

IsBytes-take : (n : ℕ) (bytes : List ℕ) → IsBytes bytes → IsBytes (take n bytes)
IsBytes-take n bytes h i =
    elim (cases_lt i n) [
      | inl lt ↦ rw (get_or-take n bytes i 0 lt) (h i)
      | inr le ↦ rw (get_or_past (take n bytes) i 0 (omega (arith, length-take n bytes))) (omega arith)
    ]

-- the value of a step that gave one
pub bind_some : {A B : Type 0} (r : Option A) (f : A → Option B) (y : B) → (r >>= f) ≡ Some y → (x : A) × (r ≡ Some x) × (f x ≡ Some y)
bind_some (Some x) f y e = (x, refl, e)
bind_some None f y e = absurd cc

-- a test that let the value through
pub guard_false : {A : Type 0} (b : Bool) (x y : A) → cond b None (Some x) ≡ Some y → (b ≡ false) × (x ≡ y)
guard_false true x y e = absurd cc
guard_false false x y e = (refl, cc)

pub some_is : {A : Type 0} (x y : A) → Some x ≡ Some y → x ≡ y
some_is x y e = cc

-- what a reader took from the front
pub record Takes (bytes text rest : List ℕ) : Type 0 where
  pub parts : bytes ≡ text ++ rest
  pub rest_fits : IsBytes rest

pub Takes-then : (a x b y c : List ℕ) → Takes a x b → Takes b y c → Takes a (x ++ y) c
Takes-then a x b y c p q = record { parts = p.parts ∙ ap (λ (t : List ℕ). x ++ t) q.parts ∙ sym (append_assoc x y c); rest_fits = q.rest_fits }

-- ---- a byte

pub byte_takes : (bytes : List ℕ) (b : ℕ) (rest : List ℕ) → IsBytes bytes → byte_at bytes ≡ Some (b, rest) → Takes bytes (b ∷ []) rest
unfolding byte_at
byte_takes [] b rest fits e = absurd cc
byte_takes (c ∷ bytes) b rest fits e =
    let same = some_is (c, bytes) (b, rest) e in
    let first : c ≡ b = ap (λ (p : ℕ × List ℕ). p.0) same in
    let others : bytes ≡ rest = ap (λ (p : ℕ × List ℕ). p.1) same in
    record { parts = cc; rest_fits = subst IsBytes others (λ i. fits (suc i)) }

pub byte_again : (b : ℕ) (rest : List ℕ) → byte_at (b ∷ rest) ≡ Some (b, rest)
unfolding byte_at
byte_again b rest = refl

-- ---- numbers

pub record IsWide (w : Width) (limit : ℕ) : Type 0 where
  pub len : (n : ℕ) → length (to_le_bytes w n) ≡ byte_len w
  pub back : (bytes : List ℕ) → length bytes ≡ byte_len w → IsBytes bytes → to_le_bytes w (from_le_bytes w bytes) ≡ bytes
  pub again : (n : ℕ) → n < limit → from_le_bytes w (to_le_bytes w n) ≡ n
  pub below : (bytes : List ℕ) → IsBytes bytes → from_le_bytes w bytes < limit

pub wide32 : IsWide w32 (2 ^ 32)
wide32 = record {
  len = λ n. refl;
  back = λ bytes len fits. le_bytes_4 bytes _ len fits refl;
  again = λ n lt. from_le_bytes-to_le_bytes_4 n lt;
  below = λ bytes fits. omega (arith, fits 0, fits 1, fits 2, fits 3);
}

pub wide64 : IsWide w64 (2 ^ 64)
wide64 = record {
  len = λ n. refl;
  back = λ bytes len fits. le_bytes_8 bytes _ len fits refl;
  again = λ n lt. from_le_bytes-to_le_bytes_8 n lt;
  below = λ bytes fits. omega (arith, fits 0, fits 1, fits 2, fits 3, fits 4, fits 5, fits 6, fits 7);
}

pub number_takes : (w : Width) (limit : ℕ) (wide : IsWide w limit) (bytes : List ℕ) (n : ℕ) (rest : List ℕ) → IsBytes bytes → number_at w bytes ≡ Some (n, rest) → Takes bytes (to_le_bytes w n) rest × (n < limit)
number_takes w limit wide bytes n rest fits e =
    let g = guard_false (ltb (length bytes) (byte_len w)) (from_le_bytes w (take (byte_len w) bytes), drop (byte_len w) bytes) (n, rest) e in
    let long : byte_len w ≤ length bytes = ltb-false _ _ g.0 in
    let n-is : from_le_bytes w (take (byte_len w) bytes) ≡ n = ap (λ (p : ℕ × List ℕ). p.0) g.1 in
    let rest-is : drop (byte_len w) bytes ≡ rest = ap (λ (p : ℕ × List ℕ). p.1) g.1 in
    let front : to_le_bytes w n ≡ take (byte_len w) bytes = rw (← n-is) (wide.back (take (byte_len w) bytes) (omega (arith, length-take (byte_len w) bytes)) (IsBytes-take (byte_len w) bytes fits)) in
    (record { parts = rw (front, ← rest-is) (sym (take-append-drop (byte_len w) bytes)); rest_fits = rw (← rest-is) (IsBytes-drop (byte_len w) bytes fits) }, rw (← n-is) (wide.below (take (byte_len w) bytes) (IsBytes-take (byte_len w) bytes fits)))

pub number_again : (w : Width) (limit : ℕ) (wide : IsWide w limit) (n : ℕ) (rest : List ℕ) → n < limit → number_at w (to_le_bytes w n ++ rest) ≡ Some (n, rest)
number_again w limit wide n rest lt =
    let len = wide.len n in
    let long : ltb (length (to_le_bytes w n ++ rest)) (byte_len w) ≡ false = le-ltb _ _ (omega (arith, length-append (to_le_bytes w n) rest)) in
    rw (long, take_at (to_le_bytes w n) rest (byte_len w) len, drop_at (to_le_bytes w n) rest (byte_len w) len, wide.again n lt) refl

pub signed_number_takes : (bytes : List ℕ) (z : ℤ) (rest : List ℕ) → IsBytes bytes → signed_number_at bytes ≡ Some (z, rest) → Takes bytes (signed_number z) rest
unfolding signed_number_at
signed_number_takes bytes z rest fits e =
    let b = bind_some (number_at w64 bytes) (λ n. Some (cast_signed w64 n.0, n.1)) (z, rest) e in
    let t = number_takes w64 (2 ^ 64) wide64 bytes b.0.0 b.0.1 fits b.1 in
    let bits : cast_unsigned w64 (cast_signed w64 b.0.0) ≡ b.0.0 = of_z-to_z w64 b.0.0 t.1 in
    subst (λ (x : ℤ × List ℕ). Takes bytes (signed_number x.0) x.1) (some_is (cast_signed w64 b.0.0, b.0.1) (z, rest) b.2)
    (subst (λ (k : ℕ). Takes bytes (to_le_bytes w64 k) b.0.1) (sym bits) t.0)

cast_fits : (z : ℤ) → FitsSigned w64 z → cast_unsigned w64 z < 2 ^ 64
cast_fits z fits = omega (arith, ints)

pub signed_number_again : (z : ℤ) (rest : List ℕ) → FitsSigned w64 z → signed_number_at (signed_number z ++ rest) ≡ Some (z, rest)
unfolding signed_number_at
signed_number_again z rest fits =
    rw (number_again w64 (2 ^ 64) wide64 (cast_unsigned w64 z) rest (cast_fits z fits), to_z-of_z w64 z fits) refl

day_takes : (bytes : List ℕ) (day : ℤ) (rest : List ℕ) → IsBytes bytes → day_at bytes ≡ Some (day, rest) → Takes bytes (day_number day) rest
unfolding day_at
day_takes bytes day rest fits e =
    let b = bind_some (number_at w32 bytes) (λ n. Some (cast_signed w32 n.0, n.1)) (day, rest) e in
    let t = number_takes w32 (2 ^ 32) wide32 bytes b.0.0 b.0.1 fits b.1 in
    let bits : cast_unsigned w32 (cast_signed w32 b.0.0) ≡ b.0.0 = of_z-to_z w32 b.0.0 t.1 in
    subst (λ (x : ℤ × List ℕ). Takes bytes (day_number x.0) x.1) (some_is (cast_signed w32 b.0.0, b.0.1) (day, rest) b.2)
    (subst (λ (k : ℕ). Takes bytes (to_le_bytes w32 k) b.0.1) (sym bits) t.0)

day_cast_fits : (z : ℤ) → FitsSigned w32 z → cast_unsigned w32 z < 2 ^ 32
day_cast_fits z fits = omega (arith, ints)

day_again : (day : ℤ) (rest : List ℕ) → FitsSigned w32 day → day_at (day_number day ++ rest) ≡ Some (day, rest)
unfolding day_at
day_again day rest fits =
    rw (number_again w32 (2 ^ 32) wide32 (cast_unsigned w32 day) rest (day_cast_fits day fits), to_z-of_z w32 day fits) refl

-- ---- a reader and a writer of one thing

pub record Reads (A : Type 0) (read : List ℕ → Option (A × List ℕ)) (write : A → List ℕ) (Fits : A → Type 0) : Type 0 where
  pub takes : (bytes : List ℕ) (x : A) (rest : List ℕ) → IsBytes bytes → read bytes ≡ Some (x, rest) → Takes bytes (write x) rest
  pub again : (x : A) (rest : List ℕ) → Fits x → read (write x ++ rest) ≡ Some (x, rest)

abbrev pub IsAny : {A : Type 0} → A → Type 0
IsAny x = Unit {0}

pub both_reads : (A B : Type 0) (r : List ℕ → Option (A × List ℕ)) (w : A → List ℕ) (F : A → Type 0) (s : List ℕ → Option (B × List ℕ)) (v : B → List ℕ) (G : B → Type 0) → Reads A r w F → Reads B s v G → Reads (A × B) (both_at r s) (λ p. w p.0 ++ v p.1) (λ p. F p.0 × G p.1)
both_reads A B r w F s v G first second =
    record {
      takes = λ bytes x rest fits e.
          let a = bind_some (r bytes) (λ a. s a.1 >>= λ b. Some ((a.0, b.0), b.1)) (x, rest) e in
          let b = bind_some (s a.0.1) (λ b. Some ((a.0.0, b.0), b.1)) (x, rest) a.2 in
          let t0 = first.takes bytes a.0.0 a.0.1 fits a.1 in
          let t1 = second.takes a.0.1 b.0.0 b.0.1 t0.rest_fits b.1 in
          let made : (A × B) × List ℕ = ((a.0.0, b.0.0), b.0.1) in
          subst (λ (p : (A × B) × List ℕ). Takes bytes (w p.0.0 ++ v p.0.1) p.1) (some_is made (x, rest) b.2)
          (Takes-then bytes (w a.0.0) a.0.1 (v b.0.0) b.0.1 t0 t1);
      again = λ x rest fits. rw (append_assoc (w x.0) (v x.1) rest, first.again x.0 (v x.1 ++ rest) fits.0, second.again x.1 rest fits.1) refl;
    }

-- what is made of a value that was read
pub made_takes : (A B : Type 0) (f : A → B) (r : List ℕ → Option (A × List ℕ)) (w : A → List ℕ) (F : A → Type 0) → Reads A r w F → (bytes : List ℕ) (y : B) (rest : List ℕ) → IsBytes bytes → made_at f r bytes ≡ Some (y, rest) → (x : A) × (f x ≡ y) × Takes bytes (w x) rest
made_takes A B f r w F reads bytes y rest fits e =
    let a = bind_some (r bytes) (λ a. Some (f a.0, a.1)) (y, rest) e in
    let made : B × List ℕ = (f a.0.0, a.0.1) in
    let same = some_is made (y, rest) a.2 in
    (a.0.0, ap (λ (p : B × List ℕ). p.0) same, subst (λ (t : List ℕ). Takes bytes (w a.0.0) t) (ap (λ (p : B × List ℕ). p.1) same) (reads.takes bytes a.0.0 a.0.1 fits a.1))

pub made_again : (A B : Type 0) (f : A → B) (r : List ℕ → Option (A × List ℕ)) (w : A → List ℕ) (F : A → Type 0) → Reads A r w F → (x : A) (rest : List ℕ) → F x → made_at f r (w x ++ rest) ≡ Some (f x, rest)
made_again A B f r w F reads x rest fits = rw (reads.again x rest fits) refl

pub byte_reads : Reads ℕ byte_at (λ b. b ∷ []) IsAny
byte_reads = record { takes = byte_takes; again = λ b rest fits. byte_again b rest }

pub number_reads : (w : Width) (limit : ℕ) → IsWide w limit → Reads ℕ (number_at w) (to_le_bytes w) (λ n. n < limit)
number_reads w limit wide =
    record { takes = λ bytes n rest fits e. (number_takes w limit wide bytes n rest fits e).0; again = λ n rest lt. number_again w limit wide n rest lt }

pub signed_reads : Reads ℤ signed_number_at signed_number (FitsSigned w64)
signed_reads = record { takes = signed_number_takes; again = signed_number_again }

pub day_reads : Reads ℤ day_at day_number (FitsSigned w32)
day_reads = record { takes = day_takes; again = day_again }

-- ---- texts and site numbers

pub front_takes : (count : ℕ) (bytes text rest : List ℕ) → IsBytes bytes → front_at count bytes ≡ Some (text, rest) → Takes bytes text rest × (length text ≡ count)
front_takes count bytes text rest fits e =
    let g = guard_false (ltb (length bytes) count) (take count bytes, drop count bytes) (text, rest) e in
    let long : count ≤ length bytes = ltb-false _ _ g.0 in
    let text-is : take count bytes ≡ text = ap (λ (p : List ℕ × List ℕ). p.0) g.1 in
    let rest-is : drop count bytes ≡ rest = ap (λ (p : List ℕ × List ℕ). p.1) g.1 in
    let len : length (take count bytes) ≡ count = omega (arith, length-take count bytes) in
    (record { parts = rw (← text-is, ← rest-is) (sym (take-append-drop count bytes)); rest_fits = rw (← rest-is) (IsBytes-drop count bytes fits) }, rw (← text-is) len)

pub front_again : (count : ℕ) (text rest : List ℕ) → length text ≡ count → front_at count (text ++ rest) ≡ Some (text, rest)
front_again count text rest len =
    let long : ltb (length (text ++ rest)) count ≡ false = le-ltb _ _ (omega (arith, length-append text rest)) in
    rw (long, take_at text rest count len, drop_at text rest count len) refl

pub front_reads : (count : ℕ) → Reads (List ℕ) (front_at count) (λ text. text) (λ text. length text ≡ count)
front_reads count =
    record { takes = λ bytes text rest fits e. (front_takes count bytes text rest fits e).0; again = λ text rest len. front_again count text rest len }

short_text_takes : (bytes text rest : List ℕ) → IsBytes bytes → short_text_at bytes ≡ Some (text, rest) → Takes bytes (short_text text) rest
unfolding short_text_at
short_text_takes bytes text rest fits e =
    let b = bind_some (byte_at bytes) (λ n. front_at n.0 n.1) (text, rest) e in
    let t = byte_takes bytes b.0.0 b.0.1 fits b.1 in
    let u = front_takes b.0.0 b.0.1 text rest t.rest_fits b.2 in
    let both : Takes bytes (b.0.0 ∷ text) rest = Takes-then bytes (b.0.0 ∷ []) b.0.1 text rest t u.0 in
    subst (λ (k : ℕ). Takes bytes (k ∷ text) rest) (sym u.1) both

short_text_again : (text rest : List ℕ) → short_text_at (short_text text ++ rest) ≡ Some (text, rest)
unfolding short_text_at
short_text_again text rest = rw (byte_again (length text) (text ++ rest)) (front_again (length text) text rest refl)

pub short_reads : Reads (List ℕ) short_text_at short_text IsAny
short_reads = record { takes = short_text_takes; again = λ text rest fits. short_text_again text rest }

-- a comment in a format, which holds it
no_comment : (bytes text rest : List ℕ) → comment_at First bytes ≡ Some (text, rest) → ([] ≡ text) × (bytes ≡ rest)
no_comment bytes text rest e =
    let same = some_is {A = List ℕ × List ℕ} ([], bytes) (text, rest) e in
    (ap (λ (p : List ℕ × List ℕ). p.0) same, ap (λ (p : List ℕ × List ℕ). p.1) same)

comment_takes : (format : Format) (bytes text rest : List ℕ) → IsBytes bytes → comment_at format bytes ≡ Some (text, rest) → Takes bytes (comment_bytes format text) rest
comment_takes First bytes text rest fits e =
    let same = (no_comment bytes text rest e).1 in
    record { parts = same; rest_fits = subst IsBytes same fits }
comment_takes Second bytes text rest fits e = short_text_takes bytes text rest fits e

comment_again : (format : Format) (text rest : List ℕ) → Holds format text → comment_at format (comment_bytes format text ++ rest) ≡ Some (text, rest)
comment_again First text rest empty = ap (λ (t : List ℕ). Some (t, rest)) (sym empty)
comment_again Second text rest holds = short_text_again text rest

pub comment_reads : (format : Format) → Reads (List ℕ) (comment_at format) (comment_bytes format) (Holds format)
comment_reads format = record { takes = comment_takes format; again = comment_again format }

pub comment_held : (format : Format) (bytes text rest : List ℕ) → comment_at format bytes ≡ Some (text, rest) → Holds format text
comment_held First bytes text rest e = sym (no_comment bytes text rest e).0
comment_held Second bytes text rest e = tt

abbrev site_of : ℕ × ℕ → SiteNumber
site_of s = record { digits = s.0; value = s.1 }

abbrev site_parts : List ℕ → Option ((ℕ × ℕ) × List ℕ)
site_parts bytes = both_at byte_at (number_at w64) bytes

site_parts_read : Reads (ℕ × ℕ) site_parts (λ p. (p.0 ∷ []) ++ to_le_bytes w64 p.1) (λ p. IsAny p.0 × (p.1 < 2 ^ 64))
site_parts_read = both_reads ℕ ℕ byte_at (λ b. b ∷ []) IsAny (number_at w64) (to_le_bytes w64) (λ n. n < 2 ^ 64) byte_reads (number_reads w64 (2 ^ 64) wide64)

site_number_takes : (bytes : List ℕ) (site : SiteNumber) (rest : List ℕ) → IsBytes bytes → site_number_at bytes ≡ Some (site, rest) → Takes bytes (site_number site) rest
unfolding site_number_at
site_number_takes bytes site rest fits e =
    let m = made_takes (ℕ × ℕ) SiteNumber site_of site_parts (λ p. (p.0 ∷ []) ++ to_le_bytes w64 p.1) (λ p. IsAny p.0 × (p.1 < 2 ^ 64)) site_parts_read bytes site rest fits e in
    subst (λ (s : SiteNumber). Takes bytes (site_number s) rest) m.1 m.2

site_number_again : (site : SiteNumber) (rest : List ℕ) → site.value < 2 ^ 64 → site_number_at (site_number site ++ rest) ≡ Some (site, rest)
unfolding site_number_at
site_number_again site rest lt =
    made_again (ℕ × ℕ) SiteNumber site_of site_parts (λ p. (p.0 ∷ []) ++ to_le_bytes w64 p.1) (λ p. IsAny p.0 × (p.1 < 2 ^ 64)) site_parts_read (site.digits, site.value) rest (tt, lt)

pub site_reads : Reads SiteNumber site_number_at site_number (λ s. s.value < 2 ^ 64)
site_reads = record { takes = site_number_takes; again = site_number_again }
