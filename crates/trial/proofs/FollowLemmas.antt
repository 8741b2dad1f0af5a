-- One trial follows from the orders of a number, and has one text.
use Rattle.std.proofs.Common.{◌≡◌, Result, Ok, Err, OnOk, ℕ, ◌+◌, List, [], ◌∷◌, ◌++◌, map, refl, ap, sym, subst, ◌∙◌, append-nil, arith}
use Rattle.std.proofs.lemmas.Grind.{flat_map-append}
use Rattle.std.proofs.lemmas.List.FromFn.{map-range_with_len_more}
use Rattle.std.specs.List.{flat_map, range_with_len}
use Rattle.edits.proofs.EditLemmas.{same_edit}
use Rattle.edits.specs.declared.content.Edit.{Edit}
use Rattle.edits.specs.declared.content.What.{What}
use Rattle.fixed_units.specs.Quantities.{SiteNumber}
use Rattle.trial.specs.Figures.{IsTrialText, text_of}
use Rattle.trial.specs.Trials.{Trial, Follows, FollowsAll, after_asking, beginning}
use Rattle.trial_orders.specs.Orders.{Order, Ask, Settle, approving, correcting, flagging_readings, for_each_station, orders, putting_part, putting_readings, setting_up, trial_asks}
use Rattle.trial_orders.specs.References.{IsAsked}

same_asked : (number : ℕ) (by : List ℕ) (site : SiteNumber) (what : What) (e f : Edit) → IsAsked number by site what e → IsAsked number by site what f → e ≡ f
same_asked number by site what e f a b =
    same_edit e f (a.by_is ∙ sym b.by_is) (a.reference_is ∙ sym b.reference_is) (a.site_is ∙ sym b.site_is) (a.comment_is ∙ sym b.comment_is) (a.what_is ∙ sym b.what_is)

same_next : (t a b : Trial) (order : Order) → Follows t order a → Follows t order b → a ≡ b
same_next t a b (Ask by site what) f g = f.2 ∙ ap (after_asking t) (same_asked (t.asked + 1) by site what f.0 g.0 f.1 g.1) ∙ sym g.2
same_next t a b Settle f g = f ∙ sym g

pub same_end : (t a b : Trial) (orders : List Order) → FollowsAll t orders a → FollowsAll t orders b → a ≡ b
same_end t a b [] f g = f ∙ sym g
same_end t a b (order ∷ orders) f g =
    same_end f.0 a b orders f.2 (subst (λ (n : Trial). FollowsAll n orders b) (same_next t g.0 f.0 order g.1 f.1) g.2)

-- ---- orders are followed one list behind another

pub on_ok : {X E : Type 0} (r : Result X E) (A B : Type 0) → (A → B) → OnOk r A → OnOk r B
on_ok (Ok x) A B f a = f a
on_ok (Err e) A B f a = tt

pub follows_both : (t next after : Trial) (first second : List Order) → FollowsAll t first next → FollowsAll next second after → FollowsAll t (first ++ second) after
follows_both t next after [] second f g = subst (λ (n : Trial). FollowsAll n second after) f g
follows_both t next after (order ∷ first) second f g = (f.0, f.1, follows_both f.0 next after first second f.2 g)

pub follows_one : (t next : Trial) (order : Order) → Follows t order next → FollowsAll t (order ∷ []) next
follows_one t next order f = (next, f, refl)

-- the same is asked
pub asks_same : (t next : Trial) (station : ℕ) (what other : What) → what ≡ other → Follows t (trial_asks station what) next
    → Follows t (trial_asks station other) next
asks_same t next station what other e f = subst (λ (w : What). Follows t (trial_asks station w) next) e f

pub ask_same : (t next : Trial) (by other_by : List ℕ) (site other_site : SiteNumber) (what other : What) → by ≡ other_by → site ≡ other_site → what ≡ other
    → Follows t (Ask by site what) next → Follows t (Ask other_by other_site other) next
ask_same t next by other_by site other_site what other e f g h =
    subst (λ (w : What). Follows t (Ask other_by other_site w) next) g
    (subst (λ (s : SiteNumber). Follows t (Ask other_by s what) next) f (subst (λ (b : List ℕ). Follows t (Ask b site what) next) e h))

same_numbers : (l : List ℕ) → map (λ n. n) l ≡ l
same_numbers [] = refl
same_numbers (n ∷ l) = ap (λ (m : List ℕ). n ∷ m) (same_numbers l)

counted_more : (count station : ℕ) → 1 + count ≡ station → range_with_len 1 (count + 1) ≡ range_with_len 1 count ++ station ∷ []
counted_more count station e =
    sym (same_numbers (range_with_len 1 (count + 1))) ∙ map-range_with_len_more (λ n. n) 1 count station e
    ∙ ap (λ (l : List ℕ). l ++ station ∷ []) (same_numbers (range_with_len 1 count))

-- the orders of one station more
pub station_more : (of_station : ℕ → List Order) (t now next : Trial) (station count more : ℕ) → 1 + count ≡ station → more ≡ count + 1
    → FollowsAll t (flat_map of_station (range_with_len 1 count)) now → FollowsAll now (of_station station) next
    → FollowsAll t (flat_map of_station (range_with_len 1 more)) next
station_more of_station t now next station count more e one_more done one =
    let orders : flat_map of_station (range_with_len 1 (count + 1)) ≡ flat_map of_station (range_with_len 1 count) ++ of_station station =
    ap (flat_map of_station) (counted_more count station e) ∙ flat_map-append of_station (range_with_len 1 count) (station ∷ [])
    ∙ ap (λ (l : List Order). flat_map of_station (range_with_len 1 count) ++ l) (append-nil (of_station station)) in
    subst (λ (l : List Order). FollowsAll t l next) (sym (ap (λ (n : ℕ). flat_map of_station (range_with_len 1 n)) one_more ∙ orders))
    (follows_both t now next _ (of_station station) done one)

pub all_stations : (of_station : ℕ → List Order) (t after : Trial) (count : ℕ) → count ≡ 4
    → FollowsAll t (flat_map of_station (range_with_len 1 count)) after → FollowsAll t (for_each_station of_station) after
unfolding for_each_station
all_stations of_station t after count e f = subst (λ (n : ℕ). FollowsAll t (flat_map of_station (range_with_len 1 n)) after) e f

-- the parts of one station's readings
pub part_more : (number station : ℕ) (t now next : Trial) (part : ℕ) → FollowsAll t (map (putting_part number station) (range_with_len 0 part)) now
    → Follows now (putting_part number station part) next → FollowsAll t (map (putting_part number station) (range_with_len 0 (part + 1))) next
part_more number station t now next part done one =
    subst (λ (l : List Order). FollowsAll t l next) (sym (map-range_with_len_more (putting_part number station) 0 part part (omega arith)))
    (follows_both t now next _ (putting_part number station part ∷ []) done (follows_one now next (putting_part number station part) one))

pub all_parts : (number station : ℕ) (t after : Trial) (count : ℕ) → count ≡ 8
    → FollowsAll t (map (putting_part number station) (range_with_len 0 count)) after → FollowsAll t (putting_readings number station) after
unfolding putting_readings
all_parts number station t after count e f = subst (λ (n : ℕ). FollowsAll t (map (putting_part number station) (range_with_len 0 n)) after) e f

-- the orders of a trial, phase by phase
pub in_phases : (number : ℕ) (t set_up put corrected settled approved flagged after : Trial)
    → FollowsAll t (for_each_station setting_up) set_up → FollowsAll set_up (for_each_station (putting_readings number)) put
    → FollowsAll put (for_each_station correcting) corrected → Follows corrected Settle settled
    → FollowsAll settled (for_each_station approving) approved → FollowsAll approved (for_each_station flagging_readings) flagged → Follows flagged Settle after
    → FollowsAll t (orders number) after
unfolding orders
in_phases number t set_up put corrected settled approved flagged after a b c d e f g =
    follows_both t set_up after _ _ a
    (follows_both set_up put after _ _ b
    (follows_both put corrected after _ _ c
    (settled, d, follows_both settled approved after _ _ e (follows_both approved flagged after _ _ f (follows_one flagged after Settle g)))))

pub same_text : (number : ℕ) (a b : List ℕ) → IsTrialText number a → IsTrialText number b → a ≡ b
same_text number a b f g = f.figures ∙ ap text_of (same_end beginning f.after g.after (orders number) f.follows g.follows) ∙ sym g.figures
