-- The tests of equality decide it.
use Rattle.std.specs.Prelude.{◌≡◌, ◌≢◌, Bool, true, false, ◌&&◌, List, [], ◌∷◌, ◌++◌, ◌==◌, ◌+◌, ◌<◌, ℕ, length, filter, take, drop, get_or, cond}
use Rattle.std.specs.Bool.{Decides}
use Rattle.std.specs.Ordering.{int_eq}
use Rattle.std.specs.Cmp.Lexicographic.{pointwise}
use Rattle.std.proofs.Common.{refl, ap, sym, subst, ◌∙◌, rules, arith, append_assoc}
use Rattle.std.proofs.lemmas.Bool.Decides.{Decides-int_eq, Decides-and, Decides-like, same_from_decides}
use Rattle.std.proofs.lemmas.Slice.Eq.{slice_eq-Decides}
use Rattle.std.proofs.lemmas.List.{append_cancel_left, append-nil, take-append-drop}
use Rattle.std.proofs.lemmas.List.Elements.{filter_more, filter-append}
use Rattle.std.proofs.lemmas.Grind.{common_steps}
use denote.Enum.Bare.{sameb, same_true, true_same}
use Rattle.fixed_units.specs.contracts.readings.Flag.{the_type}
use Rattle.fixed_units.specs.declared.readings.Reading.{Reading}
use Rattle.fixed_units.specs.declared.readings.Flag.{Flag}
use Rattle.fixed_units.specs.declared.readings.Flag.TheVariants.{Usable, Erroneous, Affected}
use Rattle.readings.specs.Readings.{is_used}
use Rattle.readings.specs.Equality.{same_flag, same_reading, same_readings}

pub flags_decide : (f g : Flag) → Decides (same_flag f g) (f ≡ g)
flags_decide Usable Usable = (λ h. refl, λ e. refl)
flags_decide Usable Erroneous = (λ h. absurd (cc), λ e. absurd (cc))
flags_decide Usable Affected = (λ h. absurd (cc), λ e. absurd (cc))
flags_decide Erroneous Usable = (λ h. absurd (cc), λ e. absurd (cc))
flags_decide Erroneous Erroneous = (λ h. refl, λ e. refl)
flags_decide Erroneous Affected = (λ h. absurd (cc), λ e. absurd (cc))
flags_decide Affected Usable = (λ h. absurd (cc), λ e. absurd (cc))
flags_decide Affected Erroneous = (λ h. absurd (cc), λ e. absurd (cc))
flags_decide Affected Affected = (λ h. refl, λ e. refl)

same_parts : (r s : Reading) → r.at ≡ s.at → r.raw ≡ s.raw → r.flag ≡ s.flag → r ≡ s
same_parts r s a b c =
    let e : ◌≡◌ {A = Reading} (record { at = r.at; raw = r.raw; flag = r.flag }) (record { at = s.at; raw = s.raw; flag = s.flag }) = rw (a, b, c) refl in
    e

-- two readings are one where each of their parts is, by any test of flags that decides
parts_decide : (r s : Reading) (b : Bool) → Decides b (r.flag ≡ s.flag)
    → Decides (int_eq r.at s.at && (int_eq r.raw s.raw && b)) (r ≡ s)
parts_decide r s b h =
    Decides-like (int_eq r.at s.at && (int_eq r.raw s.raw && b))
    (λ p. same_parts r s p.0 p.1.0 p.1.1)
    (λ e. (ap (λ (x : Reading). x.at) e, (ap (λ (x : Reading). x.raw) e, ap (λ (x : Reading). x.flag) e)))
    (Decides-and (int_eq r.at s.at) (int_eq r.raw s.raw && b) (Decides-int_eq r.at s.at)
    (Decides-and (int_eq r.raw s.raw) b (Decides-int_eq r.raw s.raw) h))

pub readings_decide : (r s : Reading) → Decides (same_reading r s) (r ≡ s)
readings_decide r s = parts_decide r s (same_flag r.flag s.flag) (flags_decide r.flag s.flag)

pub lists_decide : (rs ss : List Reading) → Decides (same_readings rs ss) (rs ≡ ss)
lists_decide rs ss = slice_eq-Decides readings_decide rs ss (same_readings rs ss) refl

-- what `==` answers of readings
abbrev pub is_same : Reading → Reading → Bool
is_same r s = int_eq r.at s.at && (int_eq r.raw s.raw && sameb the_type r.flag s.flag)

is_same_decides : (r s : Reading) → Decides (is_same r s) (r ≡ s)
is_same_decides r s =
    parts_decide r s (sameb the_type r.flag s.flag)
    (same_true the_type (search rules) r.flag s.flag, true_same the_type r.flag s.flag)

pub lists_told : (rs ss : List Reading) (b : Bool) → b ≡ pointwise is_same rs ss → b ≡ same_readings rs ss
lists_told rs ss b e =
    same_from_decides b (same_readings rs ss) (slice_eq-Decides is_same_decides rs ss b e) (lists_decide rs ss)

-- a test that has told whether two lists are one
pub told_same : (rs ss : List Reading) → rs ≡ ss → true ≡ same_readings rs ss
told_same rs ss e = sym ((lists_decide rs ss).1 e)

told_by : (rs ss : List Reading) (b : Bool) → b ≡ same_readings rs ss → rs ≢ ss → false ≡ b
told_by rs ss false e h = refl
told_by rs ss true e h = absurd (h ((lists_decide rs ss).0 (sym e)))

pub told_other : (rs ss : List Reading) → rs ≢ ss → false ≡ same_readings rs ss
told_other rs ss h = told_by rs ss (same_readings rs ss) refl h

decided : {P : Type 0} (b c : Bool) → b ≡ c → Decides c P → Decides b P
decided {P} b c e h = subst (λ (x : Bool). Decides x P) (sym e) h

-- a list that does not begin with these readings is no line of them, whatever follows
pub front_missing : (xs ys list : List Reading) → ((rest : List Reading) → list ≢ xs ++ rest) → false ≡ same_readings (xs ++ ys) list
front_missing xs ys list h = told_other (xs ++ ys) list (λ e. h ys (sym e))

-- and where it does, the rest tells
pub front_behind : (xs ys list rest : List Reading) (b : Bool) → list ≡ xs ++ rest → b ≡ same_readings ys rest → b ≡ same_readings (xs ++ ys) list
front_behind xs ys list rest b e h =
    same_from_decides b (same_readings (xs ++ ys) list)
    (Decides-like b (λ k. ap (λ (l : List Reading). xs ++ l) k ∙ sym e) (λ k. append_cancel_left xs ys rest (k ∙ e))
    (decided b (same_readings ys rest) h (lists_decide ys rest)))
    (lists_decide (xs ++ ys) list)

pub last_behind : (xs list rest : List Reading) (b : Bool) → list ≡ xs ++ rest → b ≡ same_readings [] rest → b ≡ same_readings xs list
last_behind xs list rest b e h =
    front_behind xs [] list rest b e h ∙ ap (λ (l : List Reading). same_readings l list) (append-nil xs)

pub last_missing : (xs list : List Reading) → ((rest : List Reading) → list ≢ xs ++ rest) → false ≡ same_readings xs list
last_missing xs list h = told_other xs list (λ e. h [] (sym e ∙ sym (append-nil xs)))

pub none_left : (rest : List Reading) → (length rest == 0) ≡ same_readings [] rest
none_left [] = refl
none_left (r ∷ rs) = grind (arith, common_steps)

-- readings that are used, as far as a place, at it and behind it
used_parts : (readings : List Reading) (i : ℕ) (r : Reading) → i < length readings → r ≡ get_or readings i r → is_used r ≡ true
    → filter is_used readings ≡ filter is_used (take i readings) ++ r ∷ filter is_used (drop (i + 1) readings)
used_parts readings i r l e u =
    let more : filter is_used (take (i + 1) readings) ≡ filter is_used (take i readings) ++ r ∷ [] =
    filter_more is_used readings i r l
    ∙ ap (λ (x : Reading). filter is_used (take i readings) ++ cond (is_used x) (x ∷ []) []) (sym e)
    ∙ ap (λ (b : Bool). filter is_used (take i readings) ++ cond b (r ∷ []) []) u in
    ap (filter is_used) (sym (take-append-drop (i + 1) readings))
    ∙ filter-append is_used (take (i + 1) readings) (drop (i + 1) readings)
    ∙ ap (λ (xs : List Reading). xs ++ filter is_used (drop (i + 1) readings)) more
    ∙ append_assoc (filter is_used (take i readings)) (r ∷ []) (filter is_used (drop (i + 1) readings))

-- a list that goes on otherwise than by the next used reading does not begin with the used ones
pub other_next : (readings list rest : List Reading) (i : ℕ) (r : Reading) → i < length readings → r ≡ get_or readings i r
    → is_used r ≡ true → list ≡ filter is_used (take i readings) ++ rest
    → ((xs : List Reading) → rest ≢ r ∷ xs) → (ys : List Reading) → list ≢ filter is_used readings ++ ys
other_next readings list rest i r l e u k h ys q =
    let whole : filter is_used readings ++ ys ≡ filter is_used (take i readings) ++ r ∷ (filter is_used (drop (i + 1) readings) ++ ys) =
    ap (λ (xs : List Reading). xs ++ ys) (used_parts readings i r l e u)
    ∙ append_assoc (filter is_used (take i readings)) (r ∷ filter is_used (drop (i + 1) readings)) ys in
    h (filter is_used (drop (i + 1) readings) ++ ys)
    (append_cancel_left (filter is_used (take i readings)) rest (r ∷ (filter is_used (drop (i + 1) readings) ++ ys)) (sym k ∙ q ∙ whole))
