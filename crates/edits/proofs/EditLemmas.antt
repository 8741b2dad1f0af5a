-- Edits of the same parts are the same.
use Rattle.std.proofs.Common.{◌≡◌, ℕ, List, ap, subst}
use Rattle.fixed_units.specs.Quantities.{SiteNumber}
use Rattle.edits.specs.Lawful.{IsLawful}
use Rattle.edits.specs.Single.{IsLawful-prop}
use Rattle.edits.specs.declared.content.Edit.{Edit}
use Rattle.edits.specs.declared.content.What.{What}

abbrev edit_with : (by reference : List ℕ) (site : SiteNumber) (comment : List ℕ) (what : What) → IsLawful what → Edit
edit_with by reference site comment what law =
    record { by = by; reference = reference; site = site; comment = comment; what = what; lawful = law }

same_lawful : (by reference : List ℕ) (site : SiteNumber) (comment : List ℕ) (v w : What) (l : IsLawful v) (m : IsLawful w) → v ≡ w → edit_with by reference site comment v l ≡ edit_with by reference site comment w m
same_lawful by reference site comment v w l m e =
    subst (λ (u : What). (n : IsLawful u) → edit_with by reference site comment v l ≡ edit_with by reference site comment u n) e
    (λ n. ap (λ (k : IsLawful v). edit_with by reference site comment v k) (IsLawful-prop v l n)) m

same_edit_with : (b c : List ℕ) (r s : List ℕ) (m n : SiteNumber) (x y : List ℕ) (v w : What) (l : IsLawful v) (k : IsLawful w) → b ≡ c → r ≡ s → m ≡ n → x ≡ y → v ≡ w → edit_with b r m x v l ≡ edit_with c s n y w k
same_edit_with b c r s m n x y v w l k h i j o e = rw (h, i, j, o) (same_lawful c s n y v w l k e)

pub same_edit : (e f : Edit) → e.by ≡ f.by → e.reference ≡ f.reference → e.site ≡ f.site → e.comment ≡ f.comment → e.what ≡ f.what → e ≡ f
same_edit e f by reference site comment what =
    same_edit_with e.by f.by e.reference f.reference e.site f.site e.comment f.comment e.what f.what e.lawful f.lawful by reference site comment what
