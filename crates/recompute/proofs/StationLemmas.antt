-- Stations in the order of their sites: the first pending day of some, and one of them replaced.
use Rattle.std.specs.Prelude.{◌≡◌, ℕ, zero, suc, ◌<◌, ◌≤◌, Bool, true, false, cond, List, [], ◌∷◌, ◌++◌, length, take, drop, find, Some, None}
use Rattle.std.proofs.Common.{arith, refl, ap, sym, ◌∙◌, get_or}
use Rattle.std.proofs.lemmas.Bool.{false≢true}
use Rattle.std.proofs.lemmas.Bool.Decides.{Decides-int_eq}
use Rattle.std.proofs.lemmas.List.{get_or_default}
use Rattle.fixed_units.specs.Quantities.{SiteNumber, site_place, same_site}
use Rattle.rising.specs.Lists.{IsRising, before, from}
use Rattle.rising.proofs.Placing.{place_here, place_elsewhere}
use Rattle.day_cells.specs.declared.waiting.Waiting.{Waiting}
use Rattle.day_cells.specs.KeptDays.{KeptDays, waiting_of}
use Rattle.day_cells.specs.Sites.{station_rank}
use Rattle.recompute.specs.Cells.{waiting, IsPlace, IsGap}

-- the first that passes a test, of two lists
find_behind : {X : Type 0} (q : X → Bool) (xs ys : List X) → find q xs ≡ None → find q (xs ++ ys) ≡ find q ys
find_behind q [] ys h = refl
find_behind q (x ∷ xs) ys h =
    elim (q x) as (λ b. cond b (Some x) (find q xs) ≡ None → cond b (Some x) (find q (xs ++ ys)) ≡ find q ys) [
      | true ↦ λ k. absurd (cc)
      | false ↦ λ k. find_behind q xs ys k
    ] h

find_front : {X : Type 0} (q : X → Bool) (xs ys : List X) (w : X) → find q xs ≡ Some w → find q (xs ++ ys) ≡ Some w
find_front q [] ys w h = absurd (cc)
find_front q (x ∷ xs) ys w h =
    elim (q x) as (λ b. cond b (Some x) (find q xs) ≡ Some w → cond b (Some x) (find q (xs ++ ys)) ≡ Some w) [
      | true ↦ λ k. k
      | false ↦ λ k. find_front q xs ys w k
    ] h

module _ (q : Waiting → Bool) where
  -- the first pending day that passes a test is that of a station where none before it has one
  pub found_in : (stations : List KeptDays) (i : ℕ) (d : KeptDays) (w : Waiting) → i < length stations
      → ((k : ℕ) (z : KeptDays) → k < i → find q (waiting_of (get_or stations k z)) ≡ None)
      → find q (waiting_of (get_or stations i d)) ≡ Some w → find q (waiting stations) ≡ Some w
  found_in [] i d w l none h = absurd (omega arith)
  found_in (s ∷ stations) zero d w l none h = find_front q (waiting_of s) (waiting stations) w h
  found_in (s ∷ stations) (suc i) d w l none h =
      find_behind q (waiting_of s) (waiting stations) (none 0 s (omega arith))
      ∙ found_in stations i d w (omega arith) (λ k z m. none (suc k) z (omega arith)) h

  pub none_in : (stations : List KeptDays) → ((k : ℕ) (z : KeptDays) → k < length stations → find q (waiting_of (get_or stations k z)) ≡ None)
      → find q (waiting stations) ≡ None
  none_in [] none = refl
  none_in (s ∷ stations) none =
      find_behind q (waiting_of s) (waiting stations) (none 0 s (omega arith))
      ∙ none_in stations (λ k z m. none (suc k) z (omega arith))

  pub found_behind : (stations : List KeptDays) (n : ℕ) → ((k : ℕ) (z : KeptDays) → k < n → k < length stations → find q (waiting_of (get_or stations k z)) ≡ None)
      → find q (waiting stations) ≡ find q (waiting (drop n stations))
  found_behind stations zero none = refl
  found_behind [] (suc n) none = refl
  found_behind (s ∷ stations) (suc n) none =
      find_behind q (waiting_of s) (waiting stations) (none 0 s (omega arith) (omega arith))
      ∙ found_behind stations n (λ k z l m. none (suc k) z (omega arith) (omega arith))

-- two sites are one, or not
pub site_yes : (a b : SiteNumber) → same_site a b ≡ true → site_place a ≡ site_place b
site_yes a b h = (Decides-int_eq (site_place a) (site_place b)).0 h

pub site_no : (a b : SiteNumber) → same_site a b ≡ false → site_place a ≡ site_place b → ⊥
site_no a b h e = false≢true (sym h ∙ (Decides-int_eq (site_place a) (site_place b)).1 e)

-- where a key belongs in the stations
pub at_place : (stations : List KeptDays) (site : SiteNumber) (place : ℕ) (z : KeptDays) → IsRising station_rank stations
    → take place stations ≡ before station_rank (site_place site) stations → drop place stations ≡ from station_rank (site_place site) stations
    → place < length stations → station_rank (get_or stations place z) ≡ site_place site → IsPlace stations site place
at_place stations site place z h front back l e =
    let n = site_place site in
    let same = λ (d : KeptDays). get_or_default stations place d z l in
    let here = place_here station_rank n stations place z h front back l e in
    record {
      within = l;
      here = λ d. ap station_rank (same d) ∙ e;
      found = λ d. here.0 ∙ ap (λ s. Some s) (sym (same d));
      front = front;
      back = here.1;
    }

pub at_gap : (stations : List KeptDays) (site : SiteNumber) (place : ℕ) → IsRising station_rank stations → place ≤ length stations
    → take place stations ≡ before station_rank (site_place site) stations → drop place stations ≡ from station_rank (site_place site) stations
    → (place < length stations → (d : KeptDays) → station_rank (get_or stations place d) ≡ site_place site → ⊥) → IsGap stations site place
at_gap stations site place h l front back other =
    let away = place_elsewhere station_rank (site_place site) stations place h front back other in
    record { within = l; none = away.0; front = front; back = away.1 }
