-- The standings of the days of all sites, where what is kept of one site is written over or begun.
use Rattle.std.specs.Prelude.{◌≡◌, ℕ, ◌<◌, Bool, true, false, ◌&&◌, List, [], ◌∷◌, length, slice_get, Option, Some, None, IsSome, ℤ, if◌then◌else◌}
use Rattle.std.specs.Ordering.{int_eq}
use Rattle.std.proofs.Common.{arith, refl, ap, sym, ◌∙◌, get_or, set, subst}
use Rattle.std.proofs.lemmas.Bool.Decides.{Decides-int_eq}
use Rattle.std.proofs.lemmas.Option.{slice_get-get_or}
use Rattle.edits.specs.declared.content.Edit.{Edit}
use Rattle.edits.specs.declared.content.What.{What}
use Rattle.edits.specs.declared.content.What.TheVariants.{Review, Decide}
use Rattle.edits.specs.declared.decisions.Decision.TheVariants.{Approve, Rescind}
use Rattle.fixed_units.specs.Quantities.{SiteNumber, same_site, site_place}
use Rattle.rising.specs.Lists.{at, put}
use Rattle.rising.proofs.Placing.{at_put, at_put_other}
use Rattle.rising.proofs.Selecting.{slice_get_at}
use Rattle.approval.proofs.ChangedLemmas.{at_found}
use Rattle.approval.specs.Kept.{HasRoomFor, KeptSite, days_of, kept_of, kept_place, standing_at, standing_in}
use Rattle.approval.specs.Statuses.{Standing, after_what, spans, standing_after, worked}

-- what is kept of a site stands at a place of the list
pub record IsKeptAt (sites : List KeptSite) (site : SiteNumber) (i : ℕ) (kept : KeptSite) : Type 0 where
  pub found : kept_of sites site ≡ Some kept
  pub place : kept_place kept ≡ site_place site
  pub written : (z : KeptSite) → kept_place z ≡ site_place site → set sites i z ≡ put kept_place z sites

pub kept_at : (sites slice : List KeptSite) (site : SiteNumber) (i : ℕ) (k : KeptSite) → slice ≡ sites → kept_of slice site ≡ slice_get slice i → i < length slice
    → ((z : KeptSite) → kept_place z ≡ site_place site → set slice i z ≡ put kept_place z slice) → k ≡ get_or sites i k → IsKeptAt sites site i k
kept_at sites slice site i k e f l w g =
    let within : i < length sites = omega (arith, ap length e) in
    let found : kept_of sites site ≡ Some k =
    subst (λ (s : List KeptSite). kept_of s site ≡ slice_get s i) e f ∙ slice_get_at sites i k within (sym g) in
    record {
      found = found;
      place = at_found kept_place (site_place site) sites k found;
      written = subst (λ (s : List KeptSite). (z : KeptSite) → kept_place z ≡ site_place site → set s i z ≡ put kept_place z s) e w;
    }

-- what a search finds is kept
pub is_kept : (sites slice : List KeptSite) (site : SiteNumber) (i : ℕ) → slice ≡ sites → kept_of slice site ≡ slice_get slice i → i < length slice
    → IsSome (kept_of sites site)
is_kept sites slice site i e f l = subst (λ (s : List KeptSite). IsSome (kept_of s site)) e (some_there slice i (kept_of slice site) f l)
  where
    some_there : (slice : List KeptSite) (i : ℕ) (o : Option KeptSite) → o ≡ slice_get slice i → i < length slice → IsSome o
    some_there [] i o f l = absurd (omega arith)
    some_there (k ∷ slice) i o f l = subst (λ (o : Option KeptSite). IsSome o) (sym (f ∙ slice_get-get_or (k ∷ slice) i k l)) refl

other_place : (n m : ℤ) → int_eq n m ≡ false → n ≡ m → ⊥
other_place n m e f = let g = (Decides-int_eq n m).1 f in absurd (cc)

-- what is found of each site where one is put
found_put : (sites : List KeptSite) (site other : SiteNumber) (z : KeptSite) → kept_place z ≡ site_place site → same_site site other ≡ true
    → kept_of (put kept_place z sites) other ≡ Some z
found_put sites site other z e s =
    ap (λ (n : ℤ). at kept_place n (put kept_place z sites)) (sym (e ∙ (Decides-int_eq (site_place site) (site_place other)).0 s)) ∙ at_put kept_place z sites

found_put_other : (sites : List KeptSite) (site other : SiteNumber) (z : KeptSite) → kept_place z ≡ site_place site → same_site site other ≡ false
    → kept_of (put kept_place z sites) other ≡ kept_of sites other
found_put_other sites site other z e s =
    at_put_other kept_place z (site_place other) sites (λ f. other_place (site_place site) (site_place other) s (sym e ∙ f))

-- the standings where what is kept of a site is written over
abbrev changed_by : (ℤ → Standing → Standing) → Bool → ℤ → Standing → Standing
changed_by f same day s = if same then f day s else s

written_step : (f : ℤ → Standing → Standing) (sites : List KeptSite) (site other : SiteNumber) (k z : KeptSite) (day : ℤ) (b : Bool) → same_site site other ≡ b
    → kept_of sites site ≡ Some k → kept_place z ≡ site_place site → standing_at z.days day ≡ f day (standing_at k.days day)
    → standing_in (put kept_place z sites) other day ≡ changed_by f b day (standing_in sites other day)
written_step f sites site other k z day true s e p h =
    let here : kept_of sites other ≡ Some k = ap (λ (n : ℤ). at kept_place n sites) (sym ((Decides-int_eq (site_place site) (site_place other)).0 s)) ∙ e in
    ap (λ (o : Option KeptSite). standing_at (days_of o) day) (found_put sites site other z p s) ∙ h
    ∙ ap (λ (o : Option KeptSite). f day (standing_at (days_of o) day)) (sym here)
written_step f sites site other k z day false s e p h =
    ap (λ (o : Option KeptSite). standing_at (days_of o) day) (found_put_other sites site other z p s)

pub written_over : (f : ℤ → Standing → Standing) (sites : List KeptSite) (site other : SiteNumber) (i : ℕ) (k z : KeptSite) (day : ℤ) → IsKeptAt sites site i k
    → z.site ≡ k.site → ((d : ℤ) → standing_at z.days d ≡ f d (standing_at k.days d))
    → standing_in (set sites i z) other day ≡ changed_by f (same_site site other) day (standing_in sites other day)
written_over f sites site other i k z day h e g =
    let p : kept_place z ≡ site_place site = ap site_place e ∙ h.place in
    ap (λ (l : List KeptSite). standing_in l other day) (h.written z p) ∙ written_step f sites site other k z day (same_site site other) refl h.found p (g day)

same_either : (b : Bool) (s : Standing) → (if b then s else s) ≡ s
same_either true s = refl
same_either false s = refl

pub written_same : (sites : List KeptSite) (site other : SiteNumber) (i : ℕ) (k z : KeptSite) (day : ℤ) → IsKeptAt sites site i k
    → z.site ≡ k.site → z.days ≡ k.days → standing_in (set sites i z) other day ≡ standing_in sites other day
written_same sites site other i k z day h e f =
    written_over (λ d s. s) sites site other i k z day h e (λ d. ap (λ l. standing_at l d) f) ∙ same_either (same_site site other) (standing_in sites other day)

-- and it is found where it is written
pub found_written : (sites : List KeptSite) (site : SiteNumber) (i : ℕ) (k z : KeptSite) → IsKeptAt sites site i k → z.site ≡ k.site → kept_of (set sites i z) site ≡ Some z
found_written sites site i k z h e =
    let p : kept_place z ≡ site_place site = ap site_place e ∙ h.place in
    ap (λ (l : List KeptSite). kept_of l site) (h.written z p) ∙ found_put sites site site z p ((Decides-int_eq (site_place site) (site_place site)).1 refl)

-- a site that was not kept begins with its days worked
begun_step : (sites : List KeptSite) (site other : SiteNumber) (z : KeptSite) (day : ℤ) (b : Bool) → same_site site other ≡ b → kept_of sites site ≡ None
    → kept_place z ≡ site_place site → z.days ≡ [] → standing_in (put kept_place z sites) other day ≡ standing_in sites other day
begun_step sites site other z day true s e p f =
    let here : kept_of sites other ≡ None = ap (λ (n : ℤ). at kept_place n sites) (sym ((Decides-int_eq (site_place site) (site_place other)).0 s)) ∙ e in
    ap (λ (o : Option KeptSite). standing_at (days_of o) day) (found_put sites site other z p s) ∙ ap (λ l. standing_at l day) f
    ∙ ap (λ (o : Option KeptSite). standing_at (days_of o) day) (sym here)
begun_step sites site other z day false s e p f = ap (λ (o : Option KeptSite). standing_at (days_of o) day) (found_put_other sites site other z p s)

pub begun : (sites news : List KeptSite) (site other : SiteNumber) (z : KeptSite) (day : ℤ) → news ≡ put kept_place z sites → kept_of sites site ≡ None
    → z.site ≡ site → z.days ≡ [] → standing_in news other day ≡ standing_in sites other day
begun sites news site other z day n e p f =
    ap (λ (l : List KeptSite). standing_in l other day) n ∙ begun_step sites site other z day (same_site site other) refl e (ap site_place p) f

pub is_begun : (sites news : List KeptSite) (site : SiteNumber) (z : KeptSite) → news ≡ put kept_place z sites → z.site ≡ site → IsSome (kept_of news site)
is_begun sites news site z n p =
    let found = found_put sites site site z (ap site_place p) ((Decides-int_eq (site_place site) (site_place site)).1 refl) in
    subst (λ (o : Option KeptSite). IsSome o) (sym (ap (λ (l : List KeptSite). kept_of l site) n ∙ found)) refl

-- an edit for which room is made leaves the days worked of a site of which none is kept
not_given : (b : Bool) → worked ≡ (if b then worked else worked)
not_given true = refl
not_given false = refl

not_changed : (b : Bool) → worked ≡ (if b && false then worked else worked)
not_changed true = refl
not_changed false = refl

unkept_after : (number : ℕ) (by : List ℕ) (what : What) (changed : Bool) (day : ℤ) → HasRoomFor None what → worked ≡ after_what number by what changed day worked
unkept_after number by (Review from to) changed day h = absurd h
unkept_after number by (Decide from to Approve) changed day h = absurd h
unkept_after number by (Decide from to Rescind) changed day h = not_given (spans from to day)
unkept_after number by _ changed day h = not_changed changed

pub unkept : (sites : List KeptSite) (number : ℕ) (edit : Edit) (changed : Bool) (site : SiteNumber) (day : ℤ) → kept_of sites edit.site ≡ None
    → HasRoomFor (kept_of sites edit.site) edit.what → standing_in sites site day ≡ standing_after number edit changed site day (standing_in sites site day)
unkept sites number edit changed site day e h = by_site (same_site edit.site site) refl
  where
    by_site : (b : Bool) → same_site edit.site site ≡ b
        → standing_in sites site day ≡ (if b then after_what number edit.by edit.what changed day (standing_in sites site day) else standing_in sites site day)
    by_site true s =
        let here : kept_of sites site ≡ None = ap (λ (n : ℤ). at kept_place n sites) (sym ((Decides-int_eq (site_place edit.site) (site_place site)).0 s)) ∙ e in
        let none : HasRoomFor None edit.what = subst (λ (o : Option KeptSite). HasRoomFor o edit.what) e h in
        subst (λ (o : Option KeptSite). standing_at (days_of o) day ≡ after_what number edit.by edit.what changed day (standing_at (days_of o) day)) (sym here)
        (unkept_after number edit.by edit.what changed day none)
    by_site false s = refl
