-- The tests of texts, and what they test.
use Rattle.std.proofs.Common.{◌≡◌, ◌↔◌, ℕ, ◌≤◌, Bool, true, false, ◌&&◌, List, length, Option, Some, None, IsSome, IfSome, if◌then◌else◌, IfOk, Result, Ok, Err, refl, sym, ap, ◌∙◌, subst, arith}
use Rattle.std.proofs.lemmas.Bool.{and_parts, and_from, leb-true, le-leb}
use Rattle.std.proofs.lemmas.List.Sums.{AllPass-from_list_all, list_all-from_AllPass}
use Rattle.std.specs.List.{list_all}
use Rattle.std.specs.Option.{ok_or}
use Rattle.edit_bodies.specs.Answers.{IsFound}
use Rattle.edit_bodies.specs.Grammars.{kept_if}
use Rattle.edit_bodies.proofs.ZoneLemmas.{zone-told}
use Rattle.edit_bodies.specs.Texts.{is_text_of, are_initials, is_array, is_reference, is_name, is_comment}
use Rattle.edit_bodies.specs.Zones.{is_zone}
use Rattle.edit_bodies.specs.declared.faults.BodyFault.{BodyFault}
use Rattle.edit_bodies.specs.declared.faults.BodyFault.TheVariants.{Body}
use Rattle.edit_bodies.specs.declared.members.Member.{Member}
use Rattle.edits.specs.Lawful.{IsStationZone}
use Rattle.edits.specs.Texts.{AreInitials, IsComment, IsReference, IsName}
use Rattle.fixed_units.specs.RoundingArray.{IsRoundingArray}

module _ (fewest most : ℕ) (kind : ℕ → Bool) (text : List ℕ) where
  pub text-true : is_text_of fewest most kind text ≡ true → (fewest ≤ length text) × ((length text ≤ most) × (list_all kind text ≡ true))
  text-true e =
      let parts = and_parts _ _ e in
      let ends = and_parts _ _ parts.0 in
      (leb-true _ _ ends.0, (leb-true _ _ ends.1, parts.1))

  pub text-from : fewest ≤ length text → length text ≤ most → list_all kind text ≡ true → is_text_of fewest most kind text ≡ true
  text-from low high each = and_from _ _ (and_from _ _ (le-leb _ _ low) (le-leb _ _ high)) each

pub initials-told : (text : List ℕ) → are_initials text ≡ true ↔ AreInitials text
initials-told text = (
  λ e. let p = text-true _ _ _ text e in record { shortest = p.0; longest = p.1.0; letters = AllPass-from_list_all _ text p.1.1 },
  λ a. text-from _ _ _ text a.shortest a.longest (list_all-from_AllPass _ text a.letters),
)

pub reference-told : (text : List ℕ) → is_reference text ≡ true ↔ IsReference text
reference-told text = (
  λ e. let p = text-true _ _ _ text e in record { shortest = p.0; longest = p.1.0; codes = AllPass-from_list_all _ text p.1.1 },
  λ a. text-from _ _ _ text a.shortest a.longest (list_all-from_AllPass _ text a.codes),
)

pub name-told : (text : List ℕ) → is_name text ≡ true ↔ IsName text
name-told text = (
  λ e. let p = text-true _ _ _ text e in record { shortest = p.0; longest = p.1.0; codes = AllPass-from_list_all _ text p.1.1 },
  λ a. text-from _ _ _ text a.shortest a.longest (list_all-from_AllPass _ text a.codes),
)

pub comment-told : (text : List ℕ) → is_comment text ≡ true ↔ IsComment text
comment-told text = (
  λ e. let p = text-true _ _ _ text e in record { longest = p.1.0; codes = AllPass-from_list_all _ text p.1.1 },
  λ a. text-from _ _ _ text (omega arith) a.longest (list_all-from_AllPass _ text a.codes),
)

pub array-told : (text : List ℕ) → is_array text ≡ true ↔ IsRoundingArray text
array-told text = (
  λ e. let p = and_parts _ _ e in let t = text-true _ _ _ text p.0 in let few = t.0 in let many = t.1.0 in record { ten = omega arith; digits = t.1.1; decimals = leb-true _ _ p.1 },
  λ a. let ten = a.ten in and_from _ _ (text-from _ _ _ text (omega arith) (omega arith) a.digits) (le-leb _ _ a.decimals),
)

-- a value that is there exactly where it passes
pub kept_if-is : {A : Type 0} (test : A → Bool) (P : Type 0) (x : A) (found : Option A) → test x ≡ true ↔ P → IsSome found ↔ P → IfSome found (λ y. y ≡ x) → found ≡ kept_if test x
kept_if-is test P x (Some y) told range value = rw (told.1 (range.0 refl)) (ap Some value)
kept_if-is test P x None told range value = by (test x) told.0
  where
    by : (b : Bool) → (b ≡ true → P) → None ≡ (if b then Some x else None)
    by true told = absurd (let e = range.1 (told refl) in cc)
    by false told = refl

-- and it is found so
pub kept_if-found : {A : Type 0} (which : Member) (test : A → Bool) (P : Type 0) (x : A) (found : Option A) → test x ≡ true ↔ P → IsSome found ↔ P → IfSome found (λ y. y ≡ x)
    → IsFound which (kept_if test x) (ok_or found (Body which))
kept_if-found which test P x found told range value = by found (kept_if-is test P x found told range value)
  where
    by : (found : Option _) → found ≡ kept_if test x → IsFound which (kept_if test x) (ok_or found (Body which))
    by (Some y) is = sym is
    by None is = (sym is, refl)

kept : {A : Type 0} (test : A → Bool) (x : A) → test x ≡ true → kept_if test x ≡ Some x
kept test x e = ap (λ (b : Bool). if b then Some x else None) e

-- what two tests pass is found by both
pub found-both : {A : Type 0} (which : Member) (test other : A → Bool) (x : A) (result : Result A BodyFault) → test x ≡ true → other x ≡ true → IsFound which (kept_if test x) result → IsFound which (kept_if other x) result
found-both which test other x result e f is = subst (λ o. IsFound which o result) (kept test x e ∙ sym (kept other x f)) is

-- and what holds of it holds of what is answered
pub found-holds : {A : Type 0} (which : Member) (test : A → Bool) (P : A → Type 0) (x : A) (result : Result A BodyFault) → test x ≡ true → P x → IsFound which (kept_if test x) result → IfOk result P
found-holds which test P x (Ok y) e p is = let same : x ≡ y = let there = sym (kept test x e) ∙ is in cc in subst P same p
found-holds which test P x (Err fault) e p is = tt

-- what holds of it exactly where it is there holds of what is answered
pub ok_or-holds : {A E : Type 0} (P : A → Type 0) (x : A) (found : Option A) (fault : E) → IsSome found ↔ P x → IfSome found (λ y. y ≡ x) → IfOk (ok_or found fault) P
ok_or-holds P x (Some y) fault range value = subst P (sym value) (range.0 refl)
ok_or-holds P x None fault range value = tt

pub ok_or-each : {A E : Type 0} (P : A → Type 0) (found : Option A) (fault : E) → IfSome found P → IfOk (ok_or found fault) P
ok_or-each P (Some y) fault each = each
ok_or-each P None fault each = tt

pub station_zone-told : (text : List ℕ) → (is_name text && is_zone text) ≡ true ↔ IsStationZone text
station_zone-told text = (
  λ e. let p = and_parts _ _ e in record { printed = (name-told text).0 p.0; is = (zone-told text).0 p.1 },
  λ zone. and_from _ _ ((name-told text).1 zone.printed) ((zone-told text).1 zone.is),
)
