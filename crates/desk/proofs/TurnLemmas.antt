-- How turns follow one another.
use Rattle.std.proofs.Common.{◌≡◌, ℕ, zero, suc, ◌+◌, ◌-◌, ◌≤◌, true, false, not, List, [], ◌∷◌, length, map, take, find, slice_get, Option, Some, None, is_some, is_none, option_map, ℤ, Result, Ok, Err, OnOk, OnErr, refl, sym, ◌∙◌, ap, subst, length-append, arith}
use Rattle.std.proofs.lemmas.List.{length-map}
use Rattle.desk.specs.Replies.{IsLeftBy, turned_reply}
use Rattle.fixed_units.specs.Quantities.{SiteNumber}
use Rattle.shared_office.proofs.PassageLemmas.{Publishes, publishes_none, publishes_more}
use Rattle.history.specs.After.{after_publication, after_settlement, after_turn, after_turns, next_day, publication}
use Rattle.history.specs.Awaited.{SiteDay, pending_days}
use Rattle.history.specs.Events.{History}
use Rattle.http_api.specs.Replies.{bytes_of}
use Rattle.http_api.specs.declared.asks.Ask.TheVariants as asks
use Rattle.http_api.specs.declared.replies.Reply.TheVariants as replies
use Rattle.register.specs.Asked.{as_pair}
use Rattle.register.specs.Registered.{Registered, NoneOut, first_unclaimed, is_out}

-- where no claim is out, the first day whose claim is not out is the first
first_of_all : (r : Registered) (days : List SiteDay) → NoneOut r
    → find (λ (d : SiteDay). not (is_out r d.site d.day)) days ≡ slice_get days 0
first_of_all r [] none = refl
first_of_all r (d ∷ days) none = rw (none d.site d.day) refl

pub first_is_next : (r : Registered) → NoneOut r → first_unclaimed r ≡ next_day r.history
first_is_next r none = first_of_all r (pending_days r.history.events) none

-- one turn behind turns
pub turns_more : (n : ℕ) (h : History) → after_turn (after_turns n h) ≡ after_turns (suc n) h
unfolding after_turns
turns_more zero h = refl
turns_more (suc n) h = turns_more n (after_turn h)

-- turns where no day is pending
pub turns_end : (n : ℕ) (h : History) → next_day h ≡ None → after_turns n h ≡ h
unfolding after_turns
turns_end zero h none = refl
turns_end (suc n) h none = ap (after_turns n) (ap (after_publication h) none) ∙ turns_end n h none

-- turns behind turns
pub turns_turns : (m n : ℕ) (h : History) → after_turns n (after_turns m h) ≡ after_turns (m + n) h
unfolding after_turns
turns_turns zero n h = ap (λ (k : ℕ). after_turns k h) (let e : n ≡ 0 + n = omega arith in e)
turns_turns (suc m) n h = turns_turns m n (after_turn h) ∙ ap (λ (k : ℕ). after_turns k h) (let e : suc (m + n) ≡ suc m + n = omega arith in e)

-- turns that ended early
pub turns_all : (m n : ℕ) (h : History) → m ≤ n → next_day (after_turns m h) ≡ None → after_turns n h ≡ after_turns m h
turns_all m n h le none =
    let e : n ≡ m + (n - m) = omega arith in
    ap (λ (k : ℕ). after_turns k h) e ∙ sym (turns_turns m (n - m) h) ∙ turns_end (n - m) (after_turns m h) none

-- a day as a pair is a day
no_day : (o : Option SiteDay) → option_map as_pair o ≡ None → o ≡ None
no_day None is = refl
no_day (Some d) is = absurd (cc)

-- a turn that told no day
pub no_turn : (r : Registered) → NoneOut r → option_map as_pair (first_unclaimed r) ≡ None → next_day r.history ≡ None
no_turn r none is = sym (first_is_next r none) ∙ no_day (first_unclaimed r) is

-- a turn
pub turn_is : (r : Registered) → NoneOut r → after_publication r.history (first_unclaimed r) ≡ after_turn r.history
turn_is r none = ap (after_publication r.history) (first_is_next r none)

-- a turn that told a day is one event more
pub turn_adds : (h after : History) (next : Option SiteDay) (o : Option (SiteNumber × ℤ)) → o ≡ option_map as_pair next → is_some o ≡ true
    → after ≡ after_publication h next → length after.events ≡ length h.events + 1
turn_adds h after None None day some is = absurd (cc)
turn_adds h after None (Some d) day some is = absurd (cc)
turn_adds h after (Some next) o day some is =
    ap (λ (x : History). length x.events) is ∙ length-append h.events (publication next ∷ [])

-- and one that told none is no event
pub turn_stays : (h after : History) (next : Option SiteDay) (o : Option (SiteNumber × ℤ)) → o ≡ option_map as_pair next → is_some o ≡ false
    → after ≡ after_publication h next → length after.events ≡ length h.events
turn_stays h after None o day none is = ap (λ (x : History). length x.events) is
turn_stays h after (Some next) None day none is = absurd (cc)
turn_stays h after (Some next) (Some d) day none is = absurd (cc)

-- a turn that counts
pub turn_counts : (r : Registered) (h after : History) (n : ℕ) → NoneOut r → r.history ≡ after_turns n h
    → after ≡ after_publication r.history (first_unclaimed r) → after ≡ after_turns (n + 1) h
turn_counts r h after n none made is =
    is ∙ turn_is r none ∙ ap after_turn made ∙ turns_more n h ∙ ap (λ (k : ℕ). after_turns k h) (let e : suc n ≡ n + 1 = omega arith in e)

-- the turn that ends all
pub turn_ends : (r : Registered) (h after : History) (n count : ℕ) (o : Option (SiteNumber × ℤ)) → NoneOut r → r.history ≡ after_turns n h
    → n ≤ count → o ≡ option_map as_pair (first_unclaimed r) → is_none o ≡ true
    → after ≡ after_publication r.history (first_unclaimed r) → after ≡ after_turns count h
turn_ends r h after n count (Some d) none made le day ended is = absurd (cc)
turn_ends r h after n count None none made le day ended is =
    let last : next_day r.history ≡ None = no_turn r none (sym day) in
    is ∙ ap (after_publication r.history) (no_day (first_unclaimed r) (sym day)) ∙ made
    ∙ sym (turns_all n count h le (ap next_day (sym made) ∙ last))

-- a settlement is as many events more as days were pending
settlement_adds : (h : History) → length (pending_days h.events) ≡ length (after_settlement h).events - length h.events
settlement_adds h =
    let days = pending_days h.events in
    let e : length (after_settlement h).events ≡ length h.events + length days =
    length-append h.events (map publication days) ∙ ap (λ (n : ℕ). length h.events + n) (length-map days publication) in
    omega arith

-- the reply to a settlement
pub settled_reply : (h after : History) (pending published : ℕ) → after ≡ after_settlement h → pending ≡ length (pending_days after.events)
    → published ≡ length (pending_days h.events) → bytes_of (replies.Turned pending published) ≡ turned_reply h (after_settlement h)
settled_reply h after pending published is left told =
    ap (λ (n : ℕ). bytes_of (replies.Turned n published)) (left ∙ ap (λ (x : History). length (pending_days x.events)) is)
    ∙ ap (λ (n : ℕ). bytes_of (replies.Turned (length (pending_days (after_settlement h).events)) n)) (told ∙ settlement_adds h)

-- turns publish days
publishes_one : (h : History) (o : Option SiteDay) → Publishes h (after_publication h o)
publishes_one h None = publishes_none h
publishes_one h (Some d) = record { days = d ∷ []; after_is = refl }

pub publishes_turns : (n : ℕ) (h : History) → Publishes h (after_turns n h)
unfolding after_turns
publishes_turns zero h = publishes_none h
publishes_turns (suc n) h =
    publishes_more h (after_turn h) (after_turns n (after_turn h)) (publishes_one h (next_day h)) (publishes_turns n (after_turn h))

-- what was published, whether memory ran out or not
pub published_by_turns : {X E : Type 0} (r : Result X E) (h next : History) (count : ℕ) → OnOk r (next ≡ after_turns count h)
    → OnErr r (IsLeftBy h (asks.Turns count) next) → Publishes h next
published_by_turns (Ok x) h next count is left = subst (Publishes h) (sym is) (publishes_turns count h)
published_by_turns (Err e) h next count is left = subst (Publishes h) (sym left.2) (publishes_turns left.0 h)

pub published_by_settlement : {X E : Type 0} (r : Result X E) (h next : History) → OnOk r (next ≡ after_settlement h)
    → OnErr r (IsLeftBy h asks.Settle next) → Publishes h next
published_by_settlement (Ok x) h next is left = record { days = pending_days h.events; after_is = is }
published_by_settlement (Err e) h next is left = record { days = take left.0 (pending_days h.events); after_is = left.2 }
