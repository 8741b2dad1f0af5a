-- Which texts jiff reads, and which are offsets.
use Rattle.std.proofs.Common.{◌≡◌, ◌∙◌, ap, sym, refl, subst, ℕ, ◌+◌, ◌*◌, ◌≤◌, ◌==◌, ◌&&◌, ℤ, pos, neg_ℤ, Bool, true, false, cond, not, nat_le, List, [], ◌∷◌, length, slice_index, Option, Some, None, IsSome, eqb-true, le-leb, leb-true, inl, inr, ◌⊎◌}
use Rattle.jiff_tz.specs.PosixReader.{read_whole, read_tz, read_abbreviation, read_unquoted}
use Rattle.jiff_tz.specs.PosixText.{TzText}
use Rattle.civil_days.specs.Starts.{two_digits, signed_clock, offset_seconds, rule_else, zone_rule, IsZone}

-- no rule begins with a plus or a minus
plus_unread : (rest : List ℕ) → read_whole (43 ∷ rest) ≡ None
unfolding read_whole read_tz read_abbreviation read_unquoted
plus_unread rest = refl

minus_unread : (rest : List ℕ) → read_whole (45 ∷ rest) ≡ None
unfolding read_whole read_tz read_abbreviation read_unquoted
minus_unread rest = refl

-- an offset begins with one of them
signed_by_either : (plus minus : Bool) (n : ℤ) (s : ℤ) → cond plus (Some n) (cond minus (Some (neg_ℤ n)) None) ≡ Some s → (plus ≡ true) ⊎ (minus ≡ true)
signed_by_either true minus n s e = inl refl
signed_by_either false true n s e = inr refl
signed_by_either false false n s e = absurd cc

sign_in : (bad plus minus : Bool) (n : ℤ) (s : ℤ) → cond bad None (cond plus (Some n) (cond minus (Some (neg_ℤ n)) None)) ≡ Some s → (plus ≡ true) ⊎ (minus ≡ true)
sign_in true plus minus n s e = absurd cc
sign_in false plus minus n s e = signed_by_either plus minus n s e

sign_of : (sign : ℕ) (h m : Option ℕ) (s : ℤ) → signed_clock sign h m ≡ Some s → ((sign == 43) ≡ true) ⊎ ((sign == 45) ≡ true)
sign_of sign None m s e = absurd cc
sign_of sign (Some h) None s e = absurd cc
sign_of sign (Some h) (Some m) s e =
    sign_in (not (nat_le h 14 && nat_le m 59)) (sign == 43) (sign == 45) (pos (h * 3600 + m * 60)) s e

tested : (t : Bool) (o : Option ℤ) (s : ℤ) → cond t o None ≡ Some s → o ≡ Some s
tested true o s e = e
tested false o s e = absurd cc

clock_in : (text : List ℕ) (s : ℤ) → offset_seconds text ≡ Some s → signed_clock (slice_index text 0) (two_digits text 1) (two_digits text 4) ≡ Some s
clock_in text s e =
    tested ((length text == 6) && (slice_index text 3 == 58)) (signed_clock (slice_index text 0) (two_digits text 1) (two_digits text 4)) s e

unread_by : (b : ℕ) (rest : List ℕ) → ((b == 43) ≡ true) ⊎ ((b == 45) ≡ true) → read_whole (b ∷ rest) ≡ None
unread_by b rest (inl e) = ap (λ c. read_whole (c ∷ rest)) (eqb-true b 43 e) ∙ plus_unread rest
unread_by b rest (inr e) = ap (λ c. read_whole (c ∷ rest)) (eqb-true b 45 e) ∙ minus_unread rest

unread : (text : List ℕ) (s : ℤ) → offset_seconds text ≡ Some s → read_whole text ≡ None
unread [] s e = absurd cc
unread (b ∷ rest) s e = unread_by b rest (sign_of b (two_digits (b ∷ rest) 1) (two_digits (b ∷ rest) 4) s (clock_in (b ∷ rest) s e))

none_by : (o : Option ℤ) → ((s : ℤ) → o ≡ Some s → ⊥) → o ≡ None
none_by None h = refl
none_by (Some s) h = absurd (h s refl)

no_rule : (o : Option TzText) → o ≡ None → IsSome o → ⊥
no_rule o e h = absurd cc

-- no text is both
pub read_is_no_offset : (text : List ℕ) → IsSome (read_whole text) → offset_seconds text ≡ None
read_is_no_offset text h = none_by (offset_seconds text) (λ s e. no_rule (read_whole text) (unread text s e) h)

-- the rule of a text that jiff reads
pub rule_read : (text : List ℕ) (rule : TzText) → length text ≤ 60 → read_whole text ≡ Some rule → zone_rule text ≡ Some rule
unfolding zone_rule
rule_read text rule h e =
    let some : IsSome (read_whole text) = subst IsSome (sym e) refl in
    ap (λ o. rule_else o text) (read_is_no_offset text some) ∙ ap (λ t. cond t (read_whole text) None) (le-leb (length text) 60 h) ∙ e

short_by : (t : Bool) (o : Option TzText) (rule : TzText) → cond t o None ≡ Some rule → (t ≡ true) × (o ≡ Some rule)
short_by true o rule e = (refl, e)
short_by false o rule e = absurd cc

-- the zone of a text that is no offset is one that jiff reads
pub zone_read : (text : List ℕ) → IsZone text → offset_seconds text ≡ None → (length text ≤ 60) × IsSome (read_whole text)
unfolding zone_rule
zone_read text zone none =
    let rule = sym (ap (λ o. rule_else o text) none) ∙ zone.read in
    let both = short_by (nat_le (length text) 60) (read_whole text) zone.rule rule in
    (leb-true (length text) 60 both.0, subst IsSome (sym both.1) refl)
