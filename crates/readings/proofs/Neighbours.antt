-- The neighbours of a day are the same in two lists exactly where these have the same used readings from the one before on, and up to the one after.
use Rattle.std.specs.Prelude.{◌≡◌, Bool, true, false, ◌&&◌, List, [], ◌∷◌, ℤ, pos, ◌<ℤ◌, ◌≤ℤ◌, ◌+ℤ◌, ◌-ℤ◌, int_lt, int_le, reverse, Option, Some, None, All}
use Rattle.std.specs.Option.{option_or}
use Rattle.std.proofs.Common.{arith, refl, ap, sym, ◌∙◌, subst}
use Rattle.std.proofs.lemmas.Int.{ints}
use Rattle.std.proofs.lemmas.Option.{MatchOption-at_some}
use Rattle.std.proofs.lemmas.List.Elements.{All-head, All-tail, All-weaker, filter_passes}
use Rattle.fixed_units.specs.declared.readings.Reading.{Reading}
use Rattle.rising.proofs.Selecting.{All-reverse}
use Rattle.rising.proofs.Parting.{IsAfter, yes_lt, yes_le}
use Rattle.rising.proofs.Placing.{IsBefore, IsFrom, filter_rises}
use Rattle.rising.proofs.Splitting.{rest_is_later}
use Rattle.readings.specs.Readings.{IsRising, instant_of, is_used}
use Rattle.readings.specs.Window.{is_of_day, inner, neighbour_before, neighbour_after}
use Rattle.readings.specs.Reach.{lead_from, follow_until}
use Rattle.readings.proofs.Selecting.{find_kept}
use Rattle.readings.proofs.WindowParts.{is_inner, both_true}
use Rattle.readings.proofs.NearLemmas.{inner_split, final, initial, final_append, initial_append, lead_inner, follow_inner}

-- where the used readings of a part stand
and_first : (x y : Bool) → (x && y) ≡ true → x ≡ true
and_first true y h = refl
and_first false y h = absurd (cc)

pub inner_from : (a b : ℤ) (rs : List Reading) → All (IsFrom instant_of a) (inner a b rs)
inner_from a b rs =
    All-weaker (λ r. is_inner a b r ≡ true) (IsFrom instant_of a)
    (λ r k. yes_le a r.at (and_first (int_le a r.at) (int_lt r.at b) (both_true (is_used r) (is_of_day a b r) k))) (inner a b rs) (filter_passes (is_inner a b) rs)

pub inner_before : (a b : ℤ) (rs : List Reading) → All (IsBefore instant_of b) (inner a b rs)
inner_before a b rs =
    All-weaker (λ r. is_inner a b r ≡ true) (IsBefore instant_of b)
    (λ r k. yes_lt r.at b (both_true (int_le a r.at) (int_lt r.at b) (both_true (is_used r) (is_of_day a b r) k))) (inner a b rs) (filter_passes (is_inner a b) rs)

pub inner_rises : (a b : ℤ) (rs : List Reading) → IsRising rs → IsRising (inner a b rs)
inner_rises a b rs h = filter_rises instant_of (is_inner a b) rs h

-- what holds of each holds of the ends
pub final_kept : (P : Reading → Type 0) (rs : List Reading) (r : Reading) → All P rs → final rs ≡ Some r → P r
final_kept P rs r h e = MatchOption-at_some (Unit {0}) P r e (find_kept P (λ _. true) (reverse rs) (All-reverse P rs h))

pub initial_kept : (P : Reading → Type 0) (rs : List Reading) (r : Reading) → All P rs → initial rs ≡ Some r → P r
initial_kept P rs r h e = MatchOption-at_some (Unit {0}) P r e (find_kept P (λ _. true) rs h)

pub nil_by_initial : (rs : List Reading) → initial rs ≡ None → rs ≡ []
nil_by_initial [] e = refl
nil_by_initial (r ∷ rs) e = absurd (cc)

pub final_more : (r : Reading) (rs : List Reading) → final (r ∷ rs) ≡ option_or (final rs) (Some r)
final_more r rs = final_append (r ∷ []) rs

more_none : (r : Reading) (o : Option Reading) → option_or o (Some r) ≡ None → ⊥
more_none r None e = cc
more_none r (Some s) e = cc

pub nil_by_final : (rs : List Reading) → final rs ≡ None → rs ≡ []
nil_by_final [] e = refl
nil_by_final (r ∷ rs) e = absurd (more_none r (final rs) (sym (final_more r rs) ∙ e))

-- from its last reading on a part has that one alone
behind_end : (r : Reading) (o p : Option Reading) → option_or o p ≡ Some r → (p ≡ Some r → ⊥) → o ≡ Some r
behind_end r None p e k = absurd (k e)
behind_end r (Some s) p e k = e

alone_by : (r s : Reading) (rs : List Reading) (o : Option Reading) → final rs ≡ o → option_or o (Some s) ≡ Some r
    → (final rs ≡ Some r → ⊥) → s ∷ rs ≡ r ∷ []
alone_by r s rs None e f k = let none = nil_by_final rs e in let same : s ≡ r = cc in rw (none, same) refl
alone_by r s rs (Some t) e f k = absurd (k (e ∙ f))

alone_end : (r : Reading) (rs : List Reading) → IsRising rs → All (IsFrom instant_of r.at) rs → final rs ≡ Some r → rs ≡ r ∷ []
alone_end r [] h k e = absurd (cc)
alone_end r (s ∷ rs) h k e =
    let from = All-head (IsFrom instant_of r.at) s rs k in
    alone_by r s rs (final rs) refl (sym (final_more s rs) ∙ e)
    (λ f. let later = final_kept (IsAfter instant_of s.at) rs r (rest_is_later instant_of s rs h) f in omega (arith, ints, from, later))

pub last_alone : (x a : ℤ) (r : Reading) (rs : List Reading) → IsRising rs → final (inner x a rs) ≡ Some r → inner r.at a rs ≡ r ∷ []
last_alone x a r rs h e =
    let from = final_kept (IsFrom instant_of x) (inner x a rs) r (inner_from x a rs) e in
    let before = final_kept (IsBefore instant_of a) (inner x a rs) r (inner_before x a rs) e in
    let apart : option_or (final (inner r.at a rs)) (final (inner x r.at rs)) ≡ Some r =
    sym (final_append (inner x r.at rs) (inner r.at a rs)) ∙ ap final (sym (inner_split x r.at a rs h from (omega (arith, ints, before)))) ∙ e in
    alone_end r (inner r.at a rs) (inner_rises r.at a rs h) (inner_from r.at a rs)
    (behind_end r (final (inner r.at a rs)) (final (inner x r.at rs)) apart
    (λ f. let early = final_kept (IsBefore instant_of r.at) (inner x r.at rs) r (inner_before x r.at rs) f in omega (arith, ints, early)))

-- and a part that ends with it has it last
ends_with : (x a : ℤ) (r : Reading) (rs : List Reading) → IsRising rs → x ≤ℤ r.at → r.at <ℤ a → inner r.at a rs ≡ r ∷ [] → final (inner x a rs) ≡ Some r
ends_with x a r rs h l m e =
    ap final (inner_split x r.at a rs h l (omega (arith, ints))) ∙ final_append (inner x r.at rs) (inner r.at a rs)
    ∙ ap (λ (t : List Reading). option_or (final t) (final (inner x r.at rs))) e

-- the same at the first reading of a part
front_end : (r : Reading) (o p : Option Reading) → option_or o p ≡ Some r → (p ≡ Some r → ⊥) → o ≡ Some r
front_end r o p e k = behind_end r o p e k

none_between : (r : Reading) (rs : List Reading) → All (IsAfter instant_of r.at) rs → All (IsBefore instant_of (r.at +ℤ pos 1)) rs → rs ≡ []
none_between r [] h k = refl
none_between r (s ∷ rs) h k =
    let after = All-head (IsAfter instant_of r.at) s rs h in
    let before = All-head (IsBefore instant_of (r.at +ℤ pos 1)) s rs k in
    absurd (omega (arith, ints, after, before))

alone_start : (r : Reading) (rs : List Reading) → IsRising rs → All (IsBefore instant_of (r.at +ℤ pos 1)) rs → initial rs ≡ Some r → rs ≡ r ∷ []
alone_start r [] h k e = absurd (cc)
alone_start r (s ∷ rs) h k e =
    let same : s ≡ r = cc in
    let later : All (IsAfter instant_of r.at) rs = subst (λ (t : Reading). All (IsAfter instant_of t.at) rs) same (rest_is_later instant_of s rs h) in
    let none = none_between r rs later (All-tail (IsBefore instant_of (r.at +ℤ pos 1)) s rs k) in
    rw (none, same) refl

pub first_alone : (b y : ℤ) (r : Reading) (rs : List Reading) → IsRising rs → initial (inner b y rs) ≡ Some r → inner b (r.at +ℤ pos 1) rs ≡ r ∷ []
first_alone b y r rs h e =
    let n = r.at +ℤ pos 1 in
    let from = initial_kept (IsFrom instant_of b) (inner b y rs) r (inner_from b y rs) e in
    let before = initial_kept (IsBefore instant_of y) (inner b y rs) r (inner_before b y rs) e in
    let apart : option_or (initial (inner b n rs)) (initial (inner n y rs)) ≡ Some r =
    sym (initial_append (inner b n rs) (inner n y rs)) ∙ ap initial (sym (inner_split b n y rs h (omega (arith, ints, from)) (omega (arith, ints, before)))) ∙ e in
    alone_start r (inner b n rs) (inner_rises b n rs h) (inner_before b n rs)
    (front_end r (initial (inner b n rs)) (initial (inner n y rs)) apart
    (λ f. let late = initial_kept (IsFrom instant_of n) (inner n y rs) r (inner_from n y rs) f in omega (arith, ints, late)))

starts_with : (b y : ℤ) (r : Reading) (rs : List Reading) → IsRising rs → b ≤ℤ r.at → r.at <ℤ y → inner b (r.at +ℤ pos 1) rs ≡ r ∷ [] → initial (inner b y rs) ≡ Some r
starts_with b y r rs h l m e =
    let n = r.at +ℤ pos 1 in
    ap initial (inner_split b n y rs h (omega (arith, ints)) (omega (arith, ints))) ∙ initial_append (inner b n rs) (inner n y rs)
    ∙ ap (λ (t : List Reading). option_or (initial t) (initial (inner n y rs))) e

-- the neighbour before is the same exactly where the used readings from it on are
lead_stays_by : (x a gap : ℤ) (rs ss : List Reading) (o : Option Reading) → IsRising rs → IsRising ss → x ≡ a -ℤ gap → final (inner x a rs) ≡ o
    → inner (lead_from a gap o) a rs ≡ inner (lead_from a gap o) a ss → final (inner x a ss) ≡ o
lead_stays_by x a gap rs ss None h k w e same =
    ap (λ n. final (inner n a ss)) w ∙ ap final (sym same) ∙ ap (λ n. final (inner n a rs)) (sym w) ∙ e
lead_stays_by x a gap rs ss (Some r) h k w e same =
    ends_with x a r ss k
    (final_kept (IsFrom instant_of x) (inner x a rs) r (inner_from x a rs) e)
    (final_kept (IsBefore instant_of a) (inner x a rs) r (inner_before x a rs) e)
    (sym same ∙ last_alone x a r rs h e)

pub lead_stays : (a gap : ℤ) (rs ss : List Reading) → IsRising rs → IsRising ss
    → inner (lead_from a gap (neighbour_before a gap rs)) a rs ≡ inner (lead_from a gap (neighbour_before a gap rs)) a ss
    → neighbour_before a gap rs ≡ neighbour_before a gap ss
lead_stays a gap rs ss h k same =
    sym (lead_inner a gap ss k ∙ lead_stays_by (a -ℤ gap) a gap rs ss (neighbour_before a gap rs) h k refl (sym (lead_inner a gap rs h)) same)

lead_stayed_by : (x a gap : ℤ) (rs ss : List Reading) (o : Option Reading) → IsRising rs → IsRising ss → x ≡ a -ℤ gap → final (inner x a rs) ≡ o → final (inner x a ss) ≡ o
    → inner (lead_from a gap o) a rs ≡ inner (lead_from a gap o) a ss
lead_stayed_by x a gap rs ss None h k w e f =
    ap (λ n. inner n a rs) (sym w) ∙ nil_by_final (inner x a rs) e ∙ sym (nil_by_final (inner x a ss) f) ∙ ap (λ n. inner n a ss) w
lead_stayed_by x a gap rs ss (Some r) h k w e f = last_alone x a r rs h e ∙ sym (last_alone x a r ss k f)

pub lead_stayed : (a gap : ℤ) (rs ss : List Reading) → IsRising rs → IsRising ss → neighbour_before a gap rs ≡ neighbour_before a gap ss
    → inner (lead_from a gap (neighbour_before a gap rs)) a rs ≡ inner (lead_from a gap (neighbour_before a gap rs)) a ss
lead_stayed a gap rs ss h k same =
    lead_stayed_by (a -ℤ gap) a gap rs ss (neighbour_before a gap rs) h k refl (sym (lead_inner a gap rs h)) (sym (lead_inner a gap ss k) ∙ sym same)

-- and the neighbour after where those up to it are
follow_stays_by : (y b gap : ℤ) (rs ss : List Reading) (o : Option Reading) → IsRising rs → IsRising ss → y ≡ (b +ℤ gap) +ℤ pos 1 → initial (inner b y rs) ≡ o
    → inner b (follow_until b gap o) rs ≡ inner b (follow_until b gap o) ss → initial (inner b y ss) ≡ o
follow_stays_by y b gap rs ss None h k w e same =
    ap (λ n. initial (inner b n ss)) w ∙ ap initial (sym same) ∙ ap (λ n. initial (inner b n rs)) (sym w) ∙ e
follow_stays_by y b gap rs ss (Some r) h k w e same =
    starts_with b y r ss k
    (initial_kept (IsFrom instant_of b) (inner b y rs) r (inner_from b y rs) e)
    (initial_kept (IsBefore instant_of y) (inner b y rs) r (inner_before b y rs) e)
    (sym same ∙ first_alone b y r rs h e)

pub follow_stays : (b gap : ℤ) (rs ss : List Reading) → IsRising rs → IsRising ss
    → inner b (follow_until b gap (neighbour_after b gap rs)) rs ≡ inner b (follow_until b gap (neighbour_after b gap rs)) ss
    → neighbour_after b gap rs ≡ neighbour_after b gap ss
follow_stays b gap rs ss h k same =
    sym (follow_inner b gap ss k ∙ follow_stays_by ((b +ℤ gap) +ℤ pos 1) b gap rs ss (neighbour_after b gap rs) h k refl (sym (follow_inner b gap rs h)) same)

follow_stayed_by : (y b gap : ℤ) (rs ss : List Reading) (o : Option Reading) → IsRising rs → IsRising ss → y ≡ (b +ℤ gap) +ℤ pos 1 → initial (inner b y rs) ≡ o → initial (inner b y ss) ≡ o
    → inner b (follow_until b gap o) rs ≡ inner b (follow_until b gap o) ss
follow_stayed_by y b gap rs ss None h k w e f =
    ap (λ n. inner b n rs) (sym w) ∙ nil_by_initial (inner b y rs) e ∙ sym (nil_by_initial (inner b y ss) f) ∙ ap (λ n. inner b n ss) w
follow_stayed_by y b gap rs ss (Some r) h k w e f = first_alone b y r rs h e ∙ sym (first_alone b y r ss k f)

pub follow_stayed : (b gap : ℤ) (rs ss : List Reading) → IsRising rs → IsRising ss → neighbour_after b gap rs ≡ neighbour_after b gap ss
    → inner b (follow_until b gap (neighbour_after b gap rs)) rs ≡ inner b (follow_until b gap (neighbour_after b gap rs)) ss
follow_stayed b gap rs ss h k same =
    follow_stayed_by ((b +ℤ gap) +ℤ pos 1) b gap rs ss (neighbour_after b gap rs) h k refl (sym (follow_inner b gap rs h)) (sym (follow_inner b gap ss k) ∙ sym same)
