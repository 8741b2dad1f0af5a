-- No target fits two routes.
use Rattle.std.proofs.Common.{◌≡◌, ◌≢◌, ◌<◌, refl, sym, ◌∙◌, ℕ, ◌⊎◌, inl, inr, Bool, true, false, ◌&&◌, ◌==◌, List, [], ◌∷◌, ◌++◌, length, cond, subst, arith}
use Rattle.std.proofs.lemmas.Bool.{and_parts}
use Rattle.std.proofs.lemmas.Bool.Decides.{nat_tests}
use Rattle.matchit.proofs.ConflictLemmas.{head-of, tail-of}
use Rattle.matchit.specs.Rows.{param_token}
use Rattle.matchit.specs.Route.{scan}
use Rattle.matchit.specs.Seek.{slash, has_slash}
use Rattle.http_api.specs.Routes.{Begins, IsSpelled, tokens_of, RoutesAreApart}
use Rattle.http_api.specs.declared.routes.Route.{Route}
use Rattle.http_api.specs.declared.routes.Route.TheVariants.{Edits, Rating, Turns, Settle, Status, Station, DayOf, SheetOf, Daily, Measurement, EditOf}

-- what is behind a parameter is nothing, or begins with a slash
abbrev pub ends_part : List ℕ → Bool
ends_part [] = true
ends_part (token ∷ tokens) = token == slash

abbrev apart_by : Bool → Bool → Bool → Bool → Bool → Bool
apart_by true true same ends later = ends && later
apart_by true false same ends later = false
apart_by false true same ends later = false
apart_by false false true ends later = later
apart_by false false false ends later = true

-- the tokens show that no target is spelled by both
abbrev are_apart_by : List ℕ → List ℕ → Bool
are_apart_by [] [] = false
are_apart_by [] (y ∷ q) = true
are_apart_by (x ∷ p) [] = true
are_apart_by (x ∷ p) (y ∷ q) =
    apart_by (x == param_token) (y == param_token) (x == y) (ends_part p && ends_part q) (are_apart_by p q)

-- a rest behind a parameter is empty, or begins with a slash
abbrev pub IsEnded : List ℕ → Type 0
IsEnded [] = Unit {0}
IsEnded (b ∷ rest) = b ≡ slash

pub ended : (p rest : List ℕ) → ends_part p ≡ true → IsSpelled p rest → IsEnded rest
ended [] rest e h = rw h tt
ended (x ∷ p) rest e h =
    let is : x ≡ slash = grind (arith, nat_tests) in
    let byte : (x == param_token) ≡ false = rw is refl in
    let spelled : Begins false x (IsSpelled p) rest = rw byte at h in
    rw spelled.1 is

-- a part without a slash begins with another byte
not_slash : (test : Bool) (b : ℕ) (part : List ℕ) → (b == slash) ≡ test → cond test true (has_slash part) ≡ false → b ≢ slash
not_slash true b part e none = absurd (cc)
not_slash false b part e none = λ is. grind (arith, nat_tests)

no_slash_behind : (test : Bool) (part : List ℕ) → cond test true (has_slash part) ≡ false → has_slash part ≡ false
no_slash_behind true part none = absurd (cc)
no_slash_behind false part none = none

-- what is behind a part doesn't go on as a part
not_ended : (rest : List ℕ) (b : ℕ) (part : List ℕ) → IsEnded rest → has_slash (b ∷ part) ≡ false → (behind : List ℕ) → rest ≡ b ∷ behind → ⊥
not_ended [] b part h none behind e = absurd (cc)
not_ended (c ∷ rest) b part h none behind e =
    not_slash (b == slash) b part refl none (sym (head-of c b rest behind e) ∙ h)

-- two parts that end at the same are followed by the same
same_rest : (part other rest behind : List ℕ) → part ++ rest ≡ other ++ behind → has_slash part ≡ false → has_slash other ≡ false
    → IsEnded rest → IsEnded behind → rest ≡ behind
same_rest [] [] rest behind e h k here there = e
same_rest [] (b ∷ other) rest behind e h k here there = absurd (not_ended rest b other here k (other ++ behind) e)
same_rest (b ∷ part) [] rest behind e h k here there = absurd (not_ended behind b part there h (part ++ rest) (sym e))
same_rest (b ∷ part) (c ∷ other) rest behind e h k here there =
    same_rest part other rest behind (tail-of b c (part ++ rest) (other ++ behind) e)
    (no_slash_behind (b == slash) part h) (no_slash_behind (c == slash) other k) here there

-- tokens spell no empty target
pub not_empty : (test : Bool) (token : ℕ) (GoesOn : List ℕ → Type 0) (target : List ℕ) → target ≡ [] → Begins test token GoesOn target → ⊥
not_empty true token GoesOn target e h = by h.0 h.3.some (sym h.2 ∙ e)
  where
    by : (part : List ℕ) → 0 < length part → part ++ h.1 ≡ [] → ⊥
    by [] some is = omega (arith, some)
    by (b ∷ part) some is = cc
not_empty false token GoesOn target e h = let is : token ∷ h.0 ≡ [] = sym h.1 ∙ e in cc

at_heads : (one_param other_param same : Bool) (x y : ℕ) (p q target : List ℕ) → (x == y) ≡ same
    → (are_apart_by p q ≡ true → (rest : List ℕ) → IsSpelled p rest → IsSpelled q rest → ⊥)
    → apart_by one_param other_param same (ends_part p && ends_part q) (are_apart_by p q) ≡ true
    → Begins one_param x (IsSpelled p) target → Begins other_param y (IsSpelled q) target → ⊥
at_heads true true same x y p q target s later e h k =
    let both = and_parts _ _ e in
    let ends = and_parts _ _ both.0 in
    let rests : h.1 ≡ k.1 = same_rest h.0 k.0 h.1 k.1 (sym h.2 ∙ k.2) h.3.one k.3.one (ended p h.1 ends.0 h.4) (ended q k.1 ends.1 k.4) in
    later both.1 k.1 (subst (IsSpelled p) rests h.4) k.4
at_heads true false same x y p q target s later e h k = absurd (cc)
at_heads false true same x y p q target s later e h k = absurd (cc)
at_heads false false true x y p q target s later e h k =
    let rests : h.0 ≡ k.0 = tail-of x y h.0 k.0 (sym h.1 ∙ k.1) in
    later e k.0 (subst (IsSpelled p) rests h.2) k.2
at_heads false false false x y p q target s later e h k =
    let same : x ≡ y = head-of x y h.0 k.0 (sym h.1 ∙ k.1) in
    grind (arith, nat_tests)

none_is_both : (p q : List ℕ) → are_apart_by p q ≡ true → (target : List ℕ) → IsSpelled p target → IsSpelled q target → ⊥
none_is_both [] [] e target h k = absurd (cc)
none_is_both [] (y ∷ q) e target h k = not_empty (y == param_token) y (IsSpelled q) target h k
none_is_both (x ∷ p) [] e target h k = not_empty (x == param_token) x (IsSpelled p) target k h
none_is_both (x ∷ p) (y ∷ q) e target h k =
    at_heads (x == param_token) (y == param_token) (x == y) x y p q target refl (none_is_both p q) e h k

-- two routes are one, or their tokens tell them apart
abbrev AreToldApart : Route → Route → Type 0
AreToldApart one other = (one ≡ other) ⊎ (are_apart_by (tokens_of one) (tokens_of other) ≡ true)

told_apart : (one other : Route) → AreToldApart one other
unfolding tokens_of scan
told_apart Edits Edits = inl refl
told_apart Rating Rating = inl refl
told_apart Turns Turns = inl refl
told_apart Settle Settle = inl refl
told_apart Status Status = inl refl
told_apart Station Station = inl refl
told_apart DayOf DayOf = inl refl
told_apart SheetOf SheetOf = inl refl
told_apart Daily Daily = inl refl
told_apart Measurement Measurement = inl refl
told_apart EditOf EditOf = inl refl
told_apart Edits Rating = inr refl
told_apart Edits Turns = inr refl
told_apart Edits Settle = inr refl
told_apart Edits Status = inr refl
told_apart Edits Station = inr refl
told_apart Edits DayOf = inr refl
told_apart Edits SheetOf = inr refl
told_apart Edits Daily = inr refl
told_apart Edits Measurement = inr refl
told_apart Edits EditOf = inr refl
told_apart Rating Edits = inr refl
told_apart Rating Turns = inr refl
told_apart Rating Settle = inr refl
told_apart Rating Status = inr refl
told_apart Rating Station = inr refl
told_apart Rating DayOf = inr refl
told_apart Rating SheetOf = inr refl
told_apart Rating Daily = inr refl
told_apart Rating Measurement = inr refl
told_apart Rating EditOf = inr refl
told_apart Turns Edits = inr refl
told_apart Turns Rating = inr refl
told_apart Turns Settle = inr refl
told_apart Turns Status = inr refl
told_apart Turns Station = inr refl
told_apart Turns DayOf = inr refl
told_apart Turns SheetOf = inr refl
told_apart Turns Daily = inr refl
told_apart Turns Measurement = inr refl
told_apart Turns EditOf = inr refl
told_apart Settle Edits = inr refl
told_apart Settle Rating = inr refl
told_apart Settle Turns = inr refl
told_apart Settle Status = inr refl
told_apart Settle Station = inr refl
told_apart Settle DayOf = inr refl
told_apart Settle SheetOf = inr refl
told_apart Settle Daily = inr refl
told_apart Settle Measurement = inr refl
told_apart Settle EditOf = inr refl
told_apart Status Edits = inr refl
told_apart Status Rating = inr refl
told_apart Status Turns = inr refl
told_apart Status Settle = inr refl
told_apart Status Station = inr refl
told_apart Status DayOf = inr refl
told_apart Status SheetOf = inr refl
told_apart Status Daily = inr refl
told_apart Status Measurement = inr refl
told_apart Status EditOf = inr refl
told_apart Station Edits = inr refl
told_apart Station Rating = inr refl
told_apart Station Turns = inr refl
told_apart Station Settle = inr refl
told_apart Station Status = inr refl
told_apart Station DayOf = inr refl
told_apart Station SheetOf = inr refl
told_apart Station Daily = inr refl
told_apart Station Measurement = inr refl
told_apart Station EditOf = inr refl
told_apart DayOf Edits = inr refl
told_apart DayOf Rating = inr refl
told_apart DayOf Turns = inr refl
told_apart DayOf Settle = inr refl
told_apart DayOf Status = inr refl
told_apart DayOf Station = inr refl
told_apart DayOf SheetOf = inr refl
told_apart DayOf Daily = inr refl
told_apart DayOf Measurement = inr refl
told_apart DayOf EditOf = inr refl
told_apart SheetOf Edits = inr refl
told_apart SheetOf Rating = inr refl
told_apart SheetOf Turns = inr refl
told_apart SheetOf Settle = inr refl
told_apart SheetOf Status = inr refl
told_apart SheetOf Station = inr refl
told_apart SheetOf DayOf = inr refl
told_apart SheetOf Daily = inr refl
told_apart SheetOf Measurement = inr refl
told_apart SheetOf EditOf = inr refl
told_apart Daily Edits = inr refl
told_apart Daily Rating = inr refl
told_apart Daily Turns = inr refl
told_apart Daily Settle = inr refl
told_apart Daily Status = inr refl
told_apart Daily Station = inr refl
told_apart Daily DayOf = inr refl
told_apart Daily SheetOf = inr refl
told_apart Daily Measurement = inr refl
told_apart Daily EditOf = inr refl
told_apart Measurement Edits = inr refl
told_apart Measurement Rating = inr refl
told_apart Measurement Turns = inr refl
told_apart Measurement Settle = inr refl
told_apart Measurement Status = inr refl
told_apart Measurement Station = inr refl
told_apart Measurement DayOf = inr refl
told_apart Measurement SheetOf = inr refl
told_apart Measurement Daily = inr refl
told_apart Measurement EditOf = inr refl
told_apart EditOf Edits = inr refl
told_apart EditOf Rating = inr refl
told_apart EditOf Turns = inr refl
told_apart EditOf Settle = inr refl
told_apart EditOf Status = inr refl
told_apart EditOf Station = inr refl
told_apart EditOf DayOf = inr refl
told_apart EditOf SheetOf = inr refl
told_apart EditOf Daily = inr refl
told_apart EditOf Measurement = inr refl

pub are_apart : RoutesAreApart
are_apart one other target h k =
    elim (told_apart one other) [
      | inl same ↦ same
      | inr apart ↦ absurd (none_is_both (tokens_of one) (tokens_of other) apart target h k)
    ]
