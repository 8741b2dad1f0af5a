-- Connections that are taken in.
use Rattle.std.proofs.Common.{◌≡◌, ℕ, zero, suc, ◌+◌, ◌<◌, ◌≤◌, List, [], ◌∷◌, ◌++◌, length, take, Option, Some, None, sym, ap, ◌∙◌, refl, subst, append_assoc, append-nil, length-append, arith}
use Rattle.std.specs.Prelude.{IsSomeAnd}
use Rattle.std.specs.List.{concat}
use mathlib.Core.List.{IsPrefix}
use Rattle.desk.specs.Serving.{Served}
use Rattle.devices.specs.Doors.{Connections, Ends, IsBack}
use Rattle.devices.specs.declared.disks.Disk.{Ghosts}
use Rattle.serving.specs.Connections.{IsConnection, IsSplitOff}
use Rattle.serving.specs.Taking.{AreServed, AreTasked, IsTaken}
use Rattle.serving.proofs.CrewLemmas.{follow_in, follow_out}
use Rattle.shared_office.specs.Holdings.{Follow, places_of}
use Rattle.shared_office.specs.Passing.{Lock, PassTo, fixed_in}
use Rattle.shared_office.specs.declared.entries.Entry.{Entry}
use Rattle.shared_office.specs.declared.entries.Fixed.{Fixed}
use Rattle.turnstile.proofs.ListLemmas.{prefix_here, prefix_length, prefix_on}
use Rattle.turnstile.specs.Passes.{seen, share, tally}

take_front : {E : Type 0} (n : ℕ) (xs more : List E) → n ≤ length xs → take n xs ≡ take n (xs ++ more)
take_front zero xs more few = refl
take_front (suc n) [] more few = absurd (omega (arith, few))
take_front (suc n) (x ∷ xs) more few = ap (λ l. x ∷ l) (take_front n xs more (omega (arith, few)))

take_whole : {E : Type 0} (xs more : List E) → take (length xs) (xs ++ more) ≡ xs
take_whole [] more = refl
take_whole (x ∷ xs) more = ap (λ l. x ∷ l) (take_whole xs more)

-- as far as a beginning is long, a list is that beginning
take_prefix : {E : Type 0} (xs ys : List E) → IsPrefix xs ys → take (length xs) ys ≡ xs
take_prefix xs ys pre = ap (λ l. take (length xs) l) (sym pre.1) ∙ take_whole xs pre.0

-- what is served for a list is served for each that begins with it
pub served_later : (fixed : Fixed) (came went : Ends) (start : ℕ) (list later : List Entry) (places : List ℕ) → IsPrefix list later
    → Served fixed came went start list places → Served fixed came went start later places
served_later fixed came went start list later places pre s = record {
  end = s.end;
  holdings = s.holdings;
  seen = (let a = ap length pre.1 in let b = length-append list pre.0 in let c = s.seen in omega (arith, a, b, c));
  follow = subst (λ (l : List Entry). Follow IsPrefix l s.holdings later) (take_front start list pre.0 s.seen ∙ ap (λ l. take start l) pre.1)
      (follow_out (take start list) s.holdings list later s.follow pre);
  added_is = s.added_is;
  ends_in = s.ends_in;
}

went_later : (fixed : Fixed) (came : Ends) (start : ℕ) (list later : List Entry) (places : List ℕ) (went : Option Ends) → IsPrefix list later
    → IsSomeAnd went (λ w. Served fixed came w start list places) → IsSomeAnd went (λ w. Served fixed came w start later places)
went_later fixed came start list later places None pre s = absurd s
went_later fixed came start list later places (Some w) pre s = served_later fixed came w start list later places pre s

pub all_later : (fixed : Fixed) (start : ℕ) (list later : List Entry) (back : ℕ → Option Ends) (number : ℕ) (given : List Ends) (connections : List (List ℕ)) → IsPrefix list later
    → AreServed fixed start list back number given connections → AreServed fixed start later back number given connections
all_later fixed start list later back number [] [] pre s = tt
all_later fixed start list later back number [] (c ∷ cs) pre s = absurd s
all_later fixed start list later back number (came ∷ given) [] pre s = absurd s
all_later fixed start list later back number (came ∷ given) (c ∷ cs) pre s =
    (went_later fixed came start list later c (back number) pre s.0, all_later fixed start list later back (number + 1) given cs pre s.1)

module _ {D : Type 0} {g : Ghosts D} where
  pub taken : (lock : Lock D g) (start : List Entry) (came : Ends) (number : ℕ) (old given other new : PassTo D g) (before after : Connections) (went : Ends)
      → IsSplitOff start given → IsConnection lock given came other went → share new ≡ share old + share other → IsPrefix (seen old) (seen new)
      → IsPrefix (seen other) (seen new) → tally new ≡ tally old ++ tally other → IsBack number went before after
      → IsTaken (fixed_in lock) start came number old new before after
  taken lock start came number old given other new before after went split c shares first second tallies back =
      let s = c.session in
      let begins = prefix_on start (seen given) (seen new) split.begins (prefix_on (seen given) (seen other) (seen new) s.goes.begins second) in record {
        went = went;
        places = places_of length s.holdings;
        share_is = shares ∙ ap (λ n. share old + n) (s.goes.share_is ∙ split.share_is);
        begins = first;
        tally_is = tallies ∙ ap (λ t. tally old ++ t) (s.goes.tally_is ∙ ap (λ t. t ++ places_of length s.holdings) split.tally_is);
        back = back;
        served = record {
          end = c.end;
          holdings = s.holdings;
          seen = prefix_length start (seen new) begins;
          follow = subst (λ (l : List Entry). Follow IsPrefix l s.holdings (seen new)) (sym (take_prefix start (seen new) begins))
              (follow_out start s.holdings (seen other) (seen new) (follow_in start (seen given) s.holdings (seen other) split.begins s.goes.follow) second);
          added_is = refl;
          ends_in = s.ends_in;
        };
      }

  -- some connections are left, and those before were taken in: whatever is taken in next completes them
  abbrev pub InBetween : {T : Type 0} → (Ends → T → Type 0) → Fixed → ℕ → List Ends → PassTo D g → ℕ → List Ends → List T → PassTo D g → Connections → Type 0
  InBetween P fixed start given first number rest ts pass doors =
      AreTasked P rest ts
      × ((done : List (List ℕ)) × (tally pass ≡ tally first ++ concat done)
      × ((list : List Entry) (back : ℕ → Option Ends) (more : List (List ℕ)) → IsPrefix (seen pass) list
      → ((n : ℕ) → n < number → back n ≡ doors.back n)
      → AreServed fixed start list back number rest more → AreServed fixed start list back 1 given (done ++ more)))

concat_on : (xs : List (List ℕ)) (x : List ℕ) → concat (xs ++ x ∷ []) ≡ concat xs ++ x
concat_on [] x = append-nil x
concat_on (y ∷ ys) x = ap (λ l. y ++ l) (concat_on ys x) ∙ sym (append_assoc y (concat ys) x)

some_and : (P : Ends → Type 0) (found : Option Ends) (e : Ends) → found ≡ Some e → P e → IsSomeAnd found P
some_and P found e same p = subst (λ (o : Option Ends). IsSomeAnd o P) (sym same) p

module _ {D : Type 0} {g : Ghosts D} {T : Type 0} (P : Ends → T → Type 0) (fixed : Fixed) (start : List Entry) (given : List Ends) (first : PassTo D g) where
  one_more : (number : ℕ) (came : Ends) (rest : List Ends) (t : T) (ts : List T)
      (old new : PassTo D g) (before after : Connections) → (P came t → IsTaken fixed start came number old new before after)
      → InBetween P fixed (length start) given first number (came ∷ rest) (t ∷ ts) old before
      → InBetween P fixed (length start) given first (number + 1) rest ts new after
  one_more number came rest t ts old new before after take f =
      let k = take f.0.0 in (
        f.0.1,
        (
          f.1.0 ++ k.places ∷ [],
          k.tally_is ∙ (ap (λ l. l ++ k.places) f.1.1 ∙ (append_assoc (tally first) (concat f.1.0) k.places ∙ ap (λ l. tally first ++ l) (sym (concat_on f.1.0 k.places)))),
          (λ list back more pre agree later.
              subst (λ l. AreServed fixed (length start) list back 1 given l) (sym (append_assoc f.1.0 (k.places ∷ []) more))
              (f.1.2 list back (k.places ∷ more) (prefix_on (seen old) (seen new) list k.begins pre)
              (λ n lt. agree n (omega (arith, lt)) ∙ k.back.others n (λ e. absurd (omega (arith, lt, e)))) (
                some_and (λ w. Served fixed came w (length start) list k.places) (back number) k.went (agree number (omega arith) ∙ k.back.here)
                    (served_later fixed came k.went (length start) (seen new) list k.places pre k.served),
                later,
              ))),
        ),
      )

  pub all_left : (items ts : List T) (doors : Connections) → items ≡ ts → AreTasked P given ts → InBetween P fixed (length start) given first 1 given items first doors
  all_left items ts doors e f =
      subst (λ (l : List T). InBetween P fixed (length start) given first 1 given l first doors) (sym e)
      (f, ([], sym (append-nil (tally first)), λ list back more pre agree later. later))

  pub go_more : (number : ℕ) (came : Ends) (before_rest rest : List Ends) (t : T) (items ts : List T)
      (old new : PassTo D g) (before after : Connections) → before_rest ≡ came ∷ rest → items ≡ t ∷ ts → (P came t → IsTaken fixed start came number old new before after)
      → InBetween P fixed (length start) given first number before_rest items old before → InBetween P fixed (length start) given first (number + 1) rest ts new after
  go_more number came before_rest rest t items ts old new before after e d take f =
      one_more number came rest t ts old new before after take
      (subst (λ (r : List Ends). InBetween P fixed (length start) given first number r (t ∷ ts) old before) e
      (subst (λ (l : List T). InBetween P fixed (length start) given first number before_rest l old before) d f))

  none_left : (number : ℕ) (rest : List Ends) (pass : PassTo D g) (doors : Connections)
      → InBetween P fixed (length start) given first number rest [] pass doors
      → (connections : List (List ℕ)) × (tally pass ≡ tally first ++ concat connections) × AreServed fixed (length start) (seen pass) doors.back 1 given connections
  none_left number [] pass doors f = (
    f.1.0,
    f.1.1,
    subst (λ l. AreServed fixed (length start) (seen pass) doors.back 1 given l) (append-nil f.1.0)
        (f.1.2 (seen pass) doors.back [] (prefix_here (seen pass)) (λ n lt. refl) tt),
  )
  none_left number (came ∷ rest) pass doors f = absurd f.0

  pub end_all : (number : ℕ) (rest : List Ends) (items : List T) (pass : PassTo D g) (doors : Connections)
      → length items ≡ 0 → InBetween P fixed (length start) given first number rest items pass doors
      → (connections : List (List ℕ)) × (tally pass ≡ tally first ++ concat connections) × AreServed fixed (length start) (seen pass) doors.back 1 given connections
  end_all number rest [] pass doors e f = none_left number rest pass doors f
  end_all number rest (t ∷ ts) pass doors e f = absurd (omega (arith, e))

-- the first of some tasks, and none
pub head_of : {T : Type 0} (P : Ends → T → Type 0) (given : List Ends) (items : List T) (t : T) (ts : List T) → items ≡ t ∷ ts → AreTasked P given items
    → (came : Ends) × (rest : List Ends) × (given ≡ came ∷ rest) × P came t × AreTasked P rest ts
head_of {T} P [] items t ts e f = absurd (subst (λ (l : List T). AreTasked P [] l) e f)
head_of {T} P (came ∷ rest) items t ts e f = let k = subst (λ (l : List T). AreTasked P (came ∷ rest) l) e f in (came, rest, refl, k.0, k.1)

pub none_of : {T : Type 0} (P : Ends → T → Type 0) (given : List Ends) (items : List T) → length items ≡ 0 → AreTasked P given items → given ≡ []
none_of P [] items e f = refl
none_of P (came ∷ rest) [] e f = absurd f
none_of P (came ∷ rest) (t ∷ ts) e f = absurd (omega (arith, e))

pub tasks_of : {T : Type 0} (P : Ends → T → Type 0) (given : List Ends) (items ts : List T) → items ≡ ts → AreTasked P given ts → AreTasked P given items
tasks_of {T} P given items ts e f = subst (λ (l : List T). AreTasked P given l) (sym e) f

-- one task more
pub tasked_more : {T : Type 0} (P : Ends → T → Type 0) (given : List Ends) (ts : List T) (came : Ends) (t : T) → AreTasked P given ts → P came t
    → AreTasked P (given ++ came ∷ []) (ts ++ t ∷ [])
tasked_more P [] [] came t f h = (h, tt)
tasked_more P [] (u ∷ ts) came t f h = absurd f
tasked_more P (c ∷ given) [] came t f h = absurd f
tasked_more P (c ∷ given) (u ∷ ts) came t f h = (f.0, tasked_more P given ts came t f.1 h)

pub same_given : {T : Type 0} (P : Ends → T → Type 0) (given later : List Ends) (ts : List T) → later ≡ given → AreTasked P given ts → AreTasked P later ts
same_given {T} P given later ts e f = subst (λ (k : List Ends). AreTasked P k ts) (sym e) f

pub tasked_step : {T L : Type 0} (P : L → Ends → T → Type 0) (own lock : L) (given later : List Ends) (ts us : List T) (came : Ends) (t : T) → own ≡ lock
    → later ≡ given ++ came ∷ [] → us ≡ ts ++ t ∷ [] → AreTasked (P lock) given ts → P own came t → AreTasked (P lock) later us
tasked_step {T} {L} P own lock given later ts us came t same e d f h =
    subst (λ (k : List Ends). AreTasked (P lock) k us) (sym e)
    (subst (λ (k : List T). AreTasked (P lock) (given ++ came ∷ []) k) (sym d)
    (tasked_more (P lock) given ts came t f (subst (λ (l : L). P l came t) same h)))

pub as_many : {T : Type 0} (P : Ends → T → Type 0) (given : List Ends) (ts : List T) → AreTasked P given ts → length ts ≡ length given
as_many P [] [] f = refl
as_many P [] (t ∷ ts) f = absurd f
as_many P (came ∷ given) [] f = absurd f
as_many P (came ∷ given) (t ∷ ts) f = ap suc (as_many P given ts f.1)

pub at_lock : {T L : Type 0} (P : L → Ends → T → Type 0) (one other : L) (given : List Ends) (ts : List T) → other ≡ one → AreTasked (P one) given ts → AreTasked (P other) given ts
at_lock {T} {L} P one other given ts e f = subst (λ (l : L). AreTasked (P l) given ts) (sym e) f
