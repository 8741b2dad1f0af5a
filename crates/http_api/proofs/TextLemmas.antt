-- A text to which parts are added one after another.
use Rattle.std.proofs.Common.{◌≡◌, List, ℕ, ◌++◌, append_assoc}
use Rattle.json.specs.Print.{quoted}

-- two values, each behind the name of its member, and the end
pub numbers_joined : (out first one second other end w x z : List ℕ) → w ≡ out ++ (first ++ one) → x ≡ w ++ (second ++ other) → z ≡ x ++ end
    → z ≡ out ++ (first ++ one ++ second ++ other ++ end)
numbers_joined out first one second other end w x z hw hx hz = rw (hz, hx, hw) (simp append_assoc)

-- an array and a string, each behind the name of its member, and the end
pub texts_joined : (out first array given second text zone end w x y z : List ℕ) → array ≡ given → text ≡ zone
    → w ≡ out ++ (first ++ array) → x ≡ w ++ second → y ≡ x ++ quoted text → z ≡ y ++ end
    → z ≡ out ++ (first ++ given ++ second ++ quoted zone ++ end)
texts_joined out first array given second text zone end w x y z ha ht hw hx hy hz = rw (hz, hy, hx, hw, ha, ht) (simp append_assoc)

-- three parts
pub three_joined : (out first second third w x z : List ℕ) → w ≡ out ++ first → x ≡ w ++ second → z ≡ x ++ third
    → z ≡ out ++ (first ++ second ++ third)
three_joined out first second third w x z hw hx hz = rw (hz, hx, hw) (simp append_assoc)

-- four parts
pub four_joined : (out first second third fourth w x y z : List ℕ) → w ≡ out ++ first → x ≡ w ++ second → y ≡ x ++ third → z ≡ y ++ fourth
    → z ≡ out ++ (first ++ second ++ third ++ fourth)
four_joined out first second third fourth w x y z hw hx hy hz = rw (hz, hy, hx, hw) (simp append_assoc)
