-- The points of samples, one after another.
use Rattle.std.proofs.Common.{◌≡◌, refl, sym, subst, ap, ◌∙◌, ℕ, ◌+◌, ◌<◌, ◌≤◌, Bool, ℤ, List, [], ◌∷◌, ◌++◌, length, drop, get_or, append_assoc, Option, None, Some}
use Rattle.std.specs.Prelude.{All, Contains, IfSome}
use Rattle.std.proofs.lemmas.List.{append-nil, at_drop_all, at_drop_more}
use Rattle.std.proofs.lemmas.List.Elements.{All-append, All-nil, All-push, Contains-get_or}
use Rattle.drawings.specs.Curves.{HasPlaces, IsPointOf, drawn_at, is_joined, points_behind, spot, with_point}
use Rattle.drawings.specs.declared.axes.Axis.{Axis}
use Rattle.drawings.specs.declared.columns.Point.{Point}
use Rattle.drawings.specs.declared.curves.Sample.{Sample}

-- what is known of a sample that is added: its place, whether it is joined, and what the next one may be joined to
pub record IsAdded (times values : Axis) (gap : ℤ) (before after : Option ℤ) (sample : Sample) (points new : List Point) : Type 0 where
  pub joined : Bool
  pub place : Option (ℕ × ℕ)
  pub joined_is : joined ≡ is_joined gap before sample.at
  pub place_is : place ≡ spot times values sample
  pub after_is : after ≡ drawn_at sample.at place
  pub more : new ≡ points ++ with_point joined place []

-- a point in front of points
in_front_of : (joined : Bool) (s : Option (ℕ × ℕ)) (points : List Point) → with_point joined s points ≡ with_point joined s [] ++ points
in_front_of joined None points = refl
in_front_of joined (Some p) points = refl

-- the points of a sample and those behind it
points_of_next : (times values : Axis) (gap : ℤ) (before : Option ℤ) (sample : Sample) (rest : List Sample)
    → points_behind times values gap before (sample ∷ rest)
    ≡ with_point (is_joined gap before sample.at) (spot times values sample) (points_behind times values gap (drawn_at sample.at (spot times values sample)) rest)
unfolding points_behind
points_of_next times values gap before sample rest = refl

points_of_none : (times values : Axis) (gap : ℤ) (before : Option ℤ) → points_behind times values gap before [] ≡ []
unfolding points_behind
points_of_none times values gap before = refl

-- the points so far, one sample more, and those behind it
pub points_more : (times values : Axis) (gap : ℤ) (before after : Option ℤ) (samples : List Sample) (i : ℕ) (none sample : Sample) (points new whole : List Point)
    → i < length samples → sample ≡ get_or samples i none → IsAdded times values gap before after sample points new
    → points ++ points_behind times values gap before (drop i samples) ≡ whole
    → new ++ points_behind times values gap after (drop (i + 1) samples) ≡ whole
points_more times values gap before after samples i none sample points new whole within is added so_far =
    let rest = drop (i + 1) samples in
    let joined = is_joined gap before sample.at in
    let place = spot times values sample in
    let behind = points_behind times values gap (drawn_at sample.at place) rest in
    let next : points_behind times values gap before (drop i samples) ≡ with_point joined place behind =
    at_drop_more (points_behind times values gap before) samples i none within
    ∙ ap (λ (s : Sample). points_behind times values gap before (s ∷ rest)) (sym is)
    ∙ points_of_next times values gap before sample rest in
    let more : new ≡ points ++ with_point joined place [] =
    added.more ∙ ap (λ (b : Bool). points ++ with_point b added.place []) added.joined_is
    ∙ ap (λ (s : Option (ℕ × ℕ)). points ++ with_point joined s []) added.place_is in
    let after_is : after ≡ drawn_at sample.at place = added.after_is ∙ ap (drawn_at sample.at) added.place_is in
    ap (λ (o : Option ℤ). new ++ points_behind times values gap o rest) after_is
    ∙ ap (λ (ps : List Point). ps ++ behind) more
    ∙ append_assoc points (with_point joined place []) behind
    ∙ ap (λ (ps : List Point). points ++ ps) (sym (in_front_of joined place behind))
    ∙ ap (λ (ps : List Point). points ++ ps) (sym next) ∙ so_far

-- all samples were looked at
pub points_done : (times values : Axis) (gap : ℤ) (before : Option ℤ) (samples : List Sample) (i : ℕ) (points whole : List Point)
    → length samples ≤ i → points ++ points_behind times values gap before (drop i samples) ≡ whole → points ≡ whole
points_done times values gap before samples i points whole all so_far =
    sym (append-nil points)
    ∙ ap (λ (ps : List Point). points ++ ps)
    (sym (at_drop_all (points_behind times values gap before) samples i all ∙ points_of_none times values gap before))
    ∙ so_far

-- the points so far and one at the places of a sample, if there is one
places_with : (times values : Axis) (samples : List Sample) (sample : Sample) (points : List Point) (joined : Bool) (s : Option (ℕ × ℕ))
    → Contains samples sample → All (IsPointOf times values samples) points → IfSome s (HasPlaces times values sample)
    → All (IsPointOf times values samples) (points ++ with_point joined s [])
places_with times values samples sample points joined None one all places =
    All-append (IsPointOf times values samples) points [] all (All-nil (IsPointOf times values samples))
places_with times values samples sample points joined (Some p) one all places =
    All-push (IsPointOf times values samples) points (record { x = p.0; y = p.1; joined = joined }) all
    (record { sample = sample; one = one; places = places })

-- each point so far stands at the places of a sample, and so does one more
pub places_more : (times values : Axis) (samples : List Sample) (i : ℕ) (none sample : Sample) (points new : List Point) (joined : Bool) (s : Option (ℕ × ℕ))
    → i < length samples → sample ≡ get_or samples i none → IfSome s (HasPlaces times values sample) → new ≡ points ++ with_point joined s []
    → All (IsPointOf times values samples) points → All (IsPointOf times values samples) new
places_more times values samples i none sample points new joined s within is places more all =
    let one : Contains samples sample = subst (Contains samples) (sym is) (Contains-get_or samples i none within) in
    subst (All (IsPointOf times values samples)) (sym more) (places_with times values samples sample points joined s one all places)
