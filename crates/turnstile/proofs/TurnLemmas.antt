-- Each step keeps the lock's rule.
use Rattle.std.proofs.Common.{◌≡◌, ◌≢◌, ℕ, zero, suc, ◌+◌, ◌-◌, ◌≤◌, ◌<◌, ◌^◌, ◌==◌, ⊎_elim, Bool, true, false, List, [], ◌∷◌, ◌++◌, length, slice_index, slice_set, Option, Some, None, sym, refl, ap, subst, ◌∙◌, arith}
use mathlib.Core.Option as opt
use mathlib.Core.List.{IsPrefix}
use lib.ListN.{get_elem?}
use native.Mathlib.Decide.{dec_lt}
use prog.Atomic.{either}
use Rattle.atomic_table.specs.Table.{State, step, Act, keeps, takes, gives, Valid, stepped, carried_after, Allows, Splits, Joins, opening}
use Rattle.atomic_table.proofs.Lists.{at_set, at_snoc, at_longer, set_else, set_again}
use Rattle.turnstile.specs.Places.{places, times, longer}
use Rattle.turnstile.specs.Parties.{holding, wrote, at_rest, has_seen, newcomer, left_part, right_part, joined, spent, learned}
use Rattle.turnstile.specs.Plays.{AtTable, Takes, Writes, Gives, Glances, Learns, Closes}
use Rattle.turnstile.specs.Turns.{turn_of, Fits, Lies, Shares, Turns}
use Rattle.turnstile.specs.declared.parties.Party.{Party}
use Rattle.turnstile.proofs.ListLemmas.{total_set, total_snoc, total_alone, alone_else, times-append, times-places, times-places-at, times-out, times-in, prefix_here, prefix_on, prefix_length, prefix_whole, longer_begins}

abbrev holder_of : Option ℕ → ℕ
holder_of None = 0
holder_of (Some id) = id

none_is_some : (id : ℕ) → None ≡ Some id → ⊥
none_is_some id e = let t : ◌≡◌ {A = ℕ} 0 1 = ap turn_of e in omega arith

there : {A : Type 0} (l : List A) (i : ℕ) (a b : A) → get_elem? l i ≡ opt.some a → get_elem? (slice_set l i b) i ≡ opt.some b
there [] i a b at = absurd (opt.some-ne-none a (sym at))
there (x ∷ l) zero a b at = refl
there (x ∷ l) (suc i) a b at = there l i a b at

abbrev number_of : Bool → ℕ
number_of false = 0
number_of true = 1

false_is_true : false ≡ true → ⊥
false_is_true e = let t : ◌≡◌ {A = ℕ} 0 1 = ap number_of e in omega arith

abbrev or_else : {F : Type 0} → F → Option F → F
or_else d None = d
or_else d (Some y) = y

module _ {T E F : Type 0} (history : T → List E) (fixed : T → F) (first : T) where
  abbrev b : ℕ
  b = length (history first)

  abbrev Known : Type 0
  Known = Party E F

  abbrev Views : Type 0
  Views = List Known

  abbrev Homes : Type 0
  Homes = List (opt.Option (Option T))

  abbrev Fit : List E → Option ℕ → ℕ → Known → Type 0
  Fit = Fits history fixed first

  abbrev Share : List E → Option ℕ → Views → Type 0
  Share = Shares history fixed first

  abbrev Lie : List E → Views → Option ℕ → Homes → Type 0
  Lie = Lies history fixed first

  abbrev Rule : State (Option T) Known → Type 0
  Rule = Turns history fixed first

  -- the party `id` knows w instead of v, and the others still fit
  pub changed : (log log' : List E) (holder holder' : Option ℕ) (views : Views) (id : ℕ) (v w : Known) → get_elem? views id ≡ opt.some v
      → Share log holder views
      → b ≤ length log' → Fit log' holder' id w
      → ((j : ℕ) (u : Known) → j ≢ id → get_elem? views j ≡ opt.some u → Fit log holder j u → Fit log' holder' j u)
      → w.share ≡ v.share
      → ((x : ℕ) → times x w.tally + times x (places b (length log - b)) ≡ times x v.tally + times x (places b (length log' - b)))
      → Share log' holder' (slice_set views id w)
  changed log log' holder holder' views id v w at s grown fits others share tally =
      record {
        grown = grown;
        each = λ j u e. ⊎_elim
            (λ t. subst (λ k. Fit log' holder' k u) (sym t.0) (subst (λ y. Fit log' holder' id y) t.1 fits))
            (λ t. others j u t.0 t.1 (s.each j u t.1))
            (at_set views id j w u e);
        whole = let e = total_set (λ u. u.share) views id v w at in omega (arith, s.whole);
        once = λ x. let e = total_set (λ u. times x u.tally) views id v w at in let t = tally x in omega (arith, s.once x);
      }

  -- what a step on a word owes, of a table with these parts
  abbrev Goes : ℕ → ℕ → AtTable T E F → (ℕ → ℕ) → (ℕ → AtTable T E F → Type 0) → List ℕ → Homes → Views → Type 0
  Goes i id m f then words homes views =
      let s : State (Option T) Known = record { words = words; homes = homes; views = views } in
      (w : Known) × (a : Act (Option T)) × Valid homes m.1 a × Rule (stepped s i (f (slice_index words i)) id m.1 w a)
      × then (slice_index words i) (w, carried_after m.1 a)

  -- it is enough to look at a table in its parts
  pub goes : (slots i id : ℕ) (m : AtTable T E F) (f : ℕ → ℕ) (then : ℕ → AtTable T E F → Type 0)
      → ((log : List E) (holder : Option ℕ) (homes : Homes) (views : Views)
      → Lie log views holder homes → Share log holder views → get_elem? views id ≡ opt.some m.0
      → Goes i id m f then (turn_of holder ∷ length log ∷ []) homes views)
      → Allows Rule slots id m i f then
  goes slots i id m f then parts s t l at fits =
      subst (λ ws. Goes i id m f then ws s.homes s.views) (sym t.words) (parts t.log t.holder s.homes s.views t.lies t.shares at)

  -- of each step
  abbrev Taking : ℕ → ℕ → Known → List ℕ → Homes → Views → Type 0
  Taking slots id v = Goes 0 id (v, []) (λ n. either (n == 0) 1 n) (Takes history fixed (step slots 0 0 1 opt.none) (v, []))

  abbrev Closing : ℕ → ℕ → Known → List ℕ → Homes → Views → Type 0
  Closing slots id v = Goes 0 id (v, []) (λ n. either (n == 0) 1 n) (Closes history fixed (step slots 0 0 1 opt.none) (v, []))

  abbrev Writing : ℕ → ℕ → ℕ → Known → T → List ℕ → Homes → Views → Type 0
  Writing slots id n v x = Goes 1 id (v, (0, Some x) ∷ []) (λ _. n) (λ k. Writes history (step slots 1 n 0 opt.none) (v, (0, Some x) ∷ []) n)

  abbrev Giving : ℕ → ℕ → Known → T → List ℕ → Homes → Views → Type 0
  Giving slots id v x = Goes 0 id (v, (0, Some x) ∷ []) (λ _. 0) (λ k. Gives (step slots 0 0 0 opt.none) (v, (0, Some x) ∷ []) 0)

  abbrev Looking : ℕ → ℕ → Known → List ℕ → Homes → Views → Type 0
  Looking slots id v = Goes 1 id (v, []) (λ n. n) (Glances (step slots 1 0 0 opt.none) (v, []))

  abbrev Learning : ℕ → ℕ → Known → List ℕ → Homes → Views → Type 0
  Learning slots id v = Goes 1 id (v, []) (λ n. n) (Learns (step slots 1 0 0 opt.none) (v, []))

  -- the table, where the value x was taken
  abbrev Taken : ℕ → Known → T → Views → State (Option T) Known
  Taken id v x views = record { words = 1 ∷ length (history x) ∷ []; homes = opt.none ∷ []; views = slice_set views id (holding v (history x)) }

  taken_still : (id : ℕ) (v : Known) (x : T) (views : Views) → 0 < v.share
      → Share (history x) None views → get_elem? views id ≡ opt.some v → Rule (Taken id v x views)
  taken_still id v x views some s at =
      let w = holding v (history x) in
      let fits = s.each id v at in
      let fits' : Fit (history x) (Some id) id w = record {
        prefix = prefix_here (history x);
        told = fits.told;
        held = λ h. (refl, refl, some);
        knows = λ k. let kn = fits.knows k in (kn.0, kn.1, s.grown);
        spent = λ none. absurd (omega (arith, none, some));
        inside = λ y le. fits.inside y (omega (arith, prefix_length v.seen (history x) fits.prefix));
      } in
      let shares = changed (history x) (history x) None (Some id) views id v w at s s.grown fits'
      (λ j u ne e f. record { prefix = f.prefix; told = f.told; held = λ h. absurd (none_is_some j (f.held h).0); knows = f.knows; spent = f.spent; inside = f.inside }) refl (λ x. refl) in
      record { log = history x; holder = Some id; words = refl; lies = (refl, (w, there views id v w at, refl)); shares = shares }

  -- the turn is free, and the value x is at home
  take_free : (slots id : ℕ) (v : Known) (x : T) (views : Views) → v.holds ≡ false → 0 < v.share → fixed x ≡ fixed first
      → Share (history x) None views → get_elem? views id ≡ opt.some v
      → Taking slots id v (0 ∷ length (history x) ∷ []) (opt.some (Some x) ∷ []) views
  take_free slots id v x views rests some same s at =
      let fits = s.each id v at in (
        holding v (history x),
        takes 0 (Some x),
        refl,
        taken_still id v x views some s at,
        ((λ e. (x, refl, refl, fits.prefix, (fits.knows some).0 ∙ ap (λ f. Some f) (sym same))), λ ne. absurd (ne refl)),
      )

  -- another has the turn
  take_taken : (slots id k : ℕ) (v : Known) (log : List E) (views : Views) → (u : Known) × (get_elem? views k ≡ opt.some u) × (u.holds ≡ true)
      → Share log (Some k) views → get_elem? views id ≡ opt.some v
      → Taking slots id v (1 ∷ length log ∷ []) (opt.none ∷ []) views
  take_taken slots id k v log views out s at =
      let same = set_again views id v at in (
        v,
        keeps,
        tt,
        rw same (record { log = log; holder = Some k; words = refl; lies = (refl, out); shares = s }),
        ((λ e. absurd (omega (arith, e))), λ ne. refl),
      )

  take_parts : (slots id : ℕ) (v : Known) → v.holds ≡ false → 0 < v.share → (log : List E) (holder : Option ℕ) (homes : Homes) (views : Views)
      → Lie log views holder homes → Share log holder views → get_elem? views id ≡ opt.some v
      → Taking slots id v (turn_of holder ∷ length log ∷ []) homes views
  take_parts slots id v rests some log None homes views lies s at =
      subst (λ hs. Taking slots id v (0 ∷ length log ∷ []) hs views) (sym lies.1)
      (subst (λ l. Taking slots id v (0 ∷ length l ∷ []) (opt.some (Some lies.0) ∷ []) views) lies.2
      (take_free slots id v lies.0 views rests some lies.3 (subst (λ l. Share l None views) (sym lies.2) s) at))
  take_parts slots id v rests some log (Some k) homes views lies s at =
      subst (λ hs. Taking slots id v (1 ∷ length log ∷ []) hs views) (sym lies.0) (take_taken slots id k v log views lies.1 s at)

  pub takes_turn : (slots id : ℕ) (v : Known) → v.holds ≡ false → 0 < v.share
      → Allows Rule slots id (v, []) 0 (λ n. either (n == 0) 1 n) (Takes history fixed (step slots 0 0 1 opt.none) (v, []))
  takes_turn slots id v rests some = goes slots 0 id (v, []) (λ n. either (n == 0) 1 n) (Takes history fixed (step slots 0 0 1 opt.none) (v, [])) (take_parts slots id v rests some)

  -- whoever holds the value has the turn
  turn_mine : (log : List E) (holder : Option ℕ) (id : ℕ) (v : Known) → v.holds ≡ true → Fit log holder id v → holder ≡ Some id
  turn_mine log holder id v holds fits = (fits.held holds).0

  -- the length of the history of x is written
  write_mine : (slots id n : ℕ) (v : Known) (x : T) → v.holds ≡ true → IsPrefix v.seen (history x) → n ≡ length (history x)
      → (log : List E) (homes : Homes) (views : Views) → Lie log views (Some id) homes → Share log (Some id) views
      → get_elem? views id ≡ opt.some v
      → Writing slots id n v x (1 ∷ length log ∷ []) homes views
  write_mine slots id n v x holds grows is log homes views lies s at =
      let fits = s.each id v at in
      let held = fits.held holds in
      let new = history x in
      let w = wrote v new in
      let seen : length v.seen ≡ length log = ap length held.1 in
      let more = prefix_length v.seen new grows in
      let grows' : IsPrefix log new = subst (λ l. IsPrefix l new) held.1 grows in
      let grown : b ≤ length new = omega (arith, s.grown) in
      let tally : (y : ℕ) → times y w.tally + times y (places b (length log - b)) ≡ times y v.tally + times y (places b (length new - b)) = λ y.
      let a = times-append y v.tally (places (length v.seen) (length new - length v.seen)) in
      let c = times-places y b (length log - b) (length new - length log) in
      let d = times-places-at y (length v.seen) (b + (length log - b)) (length new - length v.seen) (length new - length log) (omega (arith, s.grown)) (omega arith) in
      let e = times-places-at y b b ((length log - b) + (length new - length log)) (length new - b) refl (omega (arith, s.grown)) in
      omega (arith, a, c, d, e) in
      let fits' : Fit new (Some id) id w = record {
        prefix = prefix_here new;
        told = prefix_on v.told log new fits.told grows';
        held = λ h. (refl, refl, held.2);
        knows = λ k. let kn = fits.knows k in (kn.0, kn.1, grown);
        spent = λ none. absurd (omega (arith, held.2));
        inside = λ y le le'. let i = fits.inside y (omega (arith, more)) le' in
            let a = times-append y v.tally (places (length v.seen) (length new - length v.seen)) in
            let o = times-out y (length v.seen) (length new - length v.seen) (omega (arith, more)) in
            omega (arith, i, a, o);
      } in
      let shares = changed log new (Some id) (Some id) views id v w at s grown fits'
      (λ j u ne e f. record {
        prefix = prefix_on u.seen log new f.prefix grows';
        told = prefix_on u.told log new f.told grows';
        held = λ h. absurd (ne (sym (ap holder_of (f.held h).0)));
        knows = f.knows;
        spent = f.spent;
        inside = f.inside;
      }) refl tally in (
        w,
        keeps,
        tt,
        record { log = new; holder = Some id; words = ap (λ k. 1 ∷ k ∷ []) is; lies = (lies.0, (w, there views id v w at, holds)); shares = shares },
        refl,
      )

  write_parts : (slots id n : ℕ) (v : Known) (x : T) → v.holds ≡ true → IsPrefix v.seen (history x) → n ≡ length (history x)
      → (log : List E) (holder : Option ℕ) (homes : Homes) (views : Views) → Lie log views holder homes → Share log holder views
      → get_elem? views id ≡ opt.some v
      → Writing slots id n v x (turn_of holder ∷ length log ∷ []) homes views
  write_parts slots id n v x holds grows is log holder homes views lies s at =
      let mine : holder ≡ Some id = turn_mine log holder id v holds (s.each id v at) in
      let ls : Lie log views (Some id) homes = subst (λ h. Lie log views h homes) mine lies in
      let ss : Share log (Some id) views = subst (λ h. Share log h views) mine s in
      subst (λ h. Writing slots id n v x (turn_of h ∷ length log ∷ []) homes views) (sym mine)
      (write_mine slots id n v x holds grows is log homes views ls ss at)

  pub writes_length : (slots id n : ℕ) (v : Known) (x : T) → v.holds ≡ true → IsPrefix v.seen (history x) → n ≡ length (history x)
      → Allows Rule slots id (v, (0, Some x) ∷ []) 1 (λ _. n) (λ k. Writes history (step slots 1 n 0 opt.none) (v, (0, Some x) ∷ []) n)
  writes_length slots id n v x holds grows is =
      goes slots 1 id (v, (0, Some x) ∷ []) (λ _. n) (λ k. Writes history (step slots 1 n 0 opt.none) (v, (0, Some x) ∷ []) n) (write_parts slots id n v x holds grows is)

  -- the value x is put back
  give_mine : (slots id : ℕ) (v : Known) (x : T) → v.holds ≡ true → v.seen ≡ history x → fixed x ≡ fixed first
      → (log : List E) (homes : Homes) (views : Views) → homes ≡ opt.none ∷ [] → Share log (Some id) views
      → get_elem? views id ≡ opt.some v
      → Giving slots id v x (1 ∷ length log ∷ []) homes views
  give_mine slots id v x holds seen same log homes views away s at =
      let fits = s.each id v at in
      let w = at_rest v in
      let fits' : Fit log None id w = record { prefix = fits.prefix; told = fits.told; held = λ h. absurd (false_is_true h); knows = fits.knows; spent = fits.spent; inside = fits.inside } in
      let shares = changed log log (Some id) None views id v w at s s.grown fits'
      (λ j u ne e f. record { prefix = f.prefix; told = f.told; held = λ h. absurd (ne (sym (ap holder_of (f.held h).0))); knows = f.knows; spent = f.spent; inside = f.inside }) refl (λ y. refl) in (
        w,
        gives,
        tt,
        record { log = log; holder = None; words = refl; lies = (x, ap (λ hs. slice_set hs 0 (opt.some (Some x))) away, sym seen ∙ (fits.held holds).1, same); shares = shares },
        refl,
      )

  give_parts : (slots id : ℕ) (v : Known) (x : T) → v.holds ≡ true → v.seen ≡ history x → v.fixed ≡ Some (fixed x)
      → (log : List E) (holder : Option ℕ) (homes : Homes) (views : Views) → Lie log views holder homes → Share log holder views
      → get_elem? views id ≡ opt.some v
      → Giving slots id v x (turn_of holder ∷ length log ∷ []) homes views
  give_parts slots id v x holds seen fixed_is log holder homes views lies s at =
      let fits = s.each id v at in
      let mine : holder ≡ Some id = turn_mine log holder id v holds fits in
      let ls : Lie log views (Some id) homes = subst (λ h. Lie log views h homes) mine lies in
      let ss : Share log (Some id) views = subst (λ h. Share log h views) mine s in
      let same : fixed x ≡ fixed first = ap (or_else (fixed x)) (sym fixed_is ∙ (fits.knows (fits.held holds).2).0) in
      subst (λ h. Giving slots id v x (turn_of h ∷ length log ∷ []) homes views) (sym mine)
      (give_mine slots id v x holds seen same log homes views ls.0 ss at)

  pub gives_back : (slots id : ℕ) (v : Known) (x : T) → v.holds ≡ true → v.seen ≡ history x → v.fixed ≡ Some (fixed x)
      → Allows Rule slots id (v, (0, Some x) ∷ []) 0 (λ _. 0) (λ k. Gives (step slots 0 0 0 opt.none) (v, (0, Some x) ∷ []) 0)
  gives_back slots id v x holds seen fixed_is =
      goes slots 0 id (v, (0, Some x) ∷ []) (λ _. 0) (λ k. Gives (step slots 0 0 0 opt.none) (v, (0, Some x) ∷ []) 0) (give_parts slots id v x holds seen fixed_is)

  -- the value lies where it lay, where one that is at rest knows something else
  lies_still : (log : List E) (holder : Option ℕ) (homes : Homes) (views : Views) (id : ℕ) (v w : Known) → get_elem? views id ≡ opt.some v → v.holds ≡ false
      → Lie log views holder homes → Lie log (slice_set views id w) holder homes
  lies_still log None homes views id v w at rests lies = lies
  lies_still log (Some k) homes views id v w at rests lies =
      let out = lies.1 in
      let else : k ≢ id = λ e. false_is_true (sym rests ∙ ap (λ y. y.holds) (opt.some-injective v out.0 (sym at ∙ subst (λ i. get_elem? views i ≡ opt.some out.0) e out.1)) ∙ out.2) in
      (lies.0, (out.0, set_else views id k w else ∙ out.1, out.2))

  -- where one has the whole share, its tally has each place once
  pub tells_whole : (log : List E) (holder : Option ℕ) (views : Views) (id : ℕ) (v : Known) → get_elem? views id ≡ opt.some v → Share log holder views
      → v.share ≡ 2 ^ 32 → (x : ℕ) → times x v.tally ≡ times x (places v.start (length log - v.start))
  tells_whole log holder views id v at s whole x =
      let start : v.start ≡ b = ((s.each id v at).knows (omega (arith, whole))).1 in
      let all = total_alone (λ u. times x u.tally) views id v at (s.whole ∙ sym whole) (λ j u e none. ap (times x) ((s.each j u e).spent none)) in
      sym all ∙ s.once x ∙ times-places-at x b v.start (length log - b) (length log - v.start) (sym start) (omega (arith, start))

  glance_parts : (slots id : ℕ) (v : Known) → v.holds ≡ false → v.told ≡ [] → (log : List E) (holder : Option ℕ) (homes : Homes) (views : Views)
      → Lie log views holder homes → Share log holder views → get_elem? views id ≡ opt.some v
      → Looking slots id v (turn_of holder ∷ length log ∷ []) homes views
  glance_parts slots id v rests none log holder homes views lies s at =
      let w = has_seen v log in
      let fits = s.each id v at in
      let fits' : Fit log holder id w = record {
        prefix = prefix_here log;
        told = fits.told;
        held = λ h. absurd (false_is_true (sym rests ∙ h));
        knows = λ k. let kn = fits.knows k in (kn.0, kn.1, s.grown);
        spent = fits.spent;
        inside = λ y le. fits.inside y (omega (arith, prefix_length v.seen log fits.prefix));
      } in
      let shares = changed log log holder holder views id v w at s s.grown fits' (λ j u ne e f. f) refl (λ y. refl) in (
        w,
        keeps,
        tt,
        record { log = log; holder = holder; words = refl; lies = lies_still log holder homes views id v w at rests lies; shares = shares },
        (log, refl, fits.prefix, refl, tells_whole log holder views id v at s),
      )

  pub glances_at : (slots id : ℕ) (v : Known) → v.holds ≡ false → v.told ≡ []
      → Allows Rule slots id (v, []) 1 (λ n. n) (Glances (step slots 1 0 0 opt.none) (v, []))
  glances_at slots id v rests none = goes slots 1 id (v, []) (λ n. n) (Glances (step slots 1 0 0 opt.none) (v, [])) (glance_parts slots id v rests none)

  learn_parts : (slots id : ℕ) (v : Known) → v.holds ≡ false → (log : List E) (holder : Option ℕ) (homes : Homes) (views : Views)
      → Lie log views holder homes → Share log holder views → get_elem? views id ≡ opt.some v
      → Learning slots id v (turn_of holder ∷ length log ∷ []) homes views
  learn_parts slots id v rests log holder homes views lies s at =
      let w = learned v in
      let fits = s.each id v at in
      let most = longer_begins log v.seen v.told fits.prefix fits.told in
      let fits' : Fit log holder id w = record {
        prefix = most.2;
        told = (log, refl);
        held = λ h. absurd (false_is_true (sym rests ∙ h));
        knows = λ k. let kn = fits.knows k in (kn.0, kn.1, omega (arith, kn.2, prefix_length v.seen (longer v.seen v.told) most.0));
        spent = fits.spent;
        inside = λ y le le'. fits.inside y (omega (arith, prefix_length v.seen (longer v.seen v.told) most.0)) (omega (arith, prefix_length v.told (longer v.seen v.told) most.1));
      } in
      let shares = changed log log holder holder views id v w at s s.grown fits' (λ j u ne e f. f) refl (λ y. refl) in (
        w,
        keeps,
        tt,
        record { log = log; holder = holder; words = refl; lies = lies_still log holder homes views id v w at rests lies; shares = shares },
        (refl, most.0, most.1),
      )

  pub learns_of : (slots id : ℕ) (v : Known) → v.holds ≡ false → Allows Rule slots id (v, []) 1 (λ n. n) (Learns (step slots 1 0 0 opt.none) (v, []))
  learns_of slots id v rests = goes slots 1 id (v, []) (λ n. n) (Learns (step slots 1 0 0 opt.none) (v, [])) (learn_parts slots id v rests)

  -- another seat begins
  lies_beside : (log : List E) (holder : Option ℕ) (homes : Homes) (views : Views) (w : Known)
      → Lie log views holder homes → Lie log (views ++ w ∷ []) holder homes
  lies_beside log None homes views w lies = lies
  lies_beside log (Some k) homes views w lies = let out = lies.1 in (lies.0, (out.0, at_longer views (w ∷ []) k out.0 out.1, out.2))

  pub splits_off : (id : ℕ) (v : Known) → v.holds ≡ false → 2 ≤ v.share → Splits Rule id v (left_part v) (right_part v)
  splits_off id v rests two s t at =
      let l = left_part v in let r = right_part v in
      let h = t.shares in
      let fits = h.each id v at in
      let left : Fit t.log t.holder id l = record { prefix = fits.prefix; told = fits.told; held = λ e. absurd (false_is_true (sym rests ∙ e)); knows = λ k. fits.knows (omega (arith, two)); spent = λ none. absurd (omega (arith, none, two)); inside = fits.inside } in
      let right : (j : ℕ) → Fit t.log t.holder j r = λ j. record { prefix = fits.prefix; told = fits.told; held = λ e. absurd (false_is_true (sym rests ∙ e)); knows = λ k. fits.knows (omega (arith, two)); spent = λ none. refl; inside = λ x le le'. refl } in
      record {
        log = t.log;
        holder = t.holder;
        words = t.words;
        lies = lies_beside t.log t.holder s.homes (slice_set s.views id l) r (lies_still t.log t.holder s.homes s.views id v l at rests t.lies);
        shares = record {
          grown = h.grown;
          each = λ j u e. ⊎_elim
              (λ e'. ⊎_elim
              (λ q. subst (λ k. Fit t.log t.holder k u) (sym q.0) (subst (λ y. Fit t.log t.holder id y) q.1 left))
              (λ q. h.each j u q.1)
              (at_set s.views id j l u e'))
              (λ q. subst (λ y. Fit t.log t.holder j y) q (right j))
              (at_snoc (slice_set s.views id l) r u j e);
          whole = let a = total_set (λ u. u.share) s.views id v l at in let c = total_snoc (λ u. u.share) (slice_set s.views id l) r in omega (arith, h.whole, two);
          once = λ x. let a = total_set (λ u. times x u.tally) s.views id v l at in let c = total_snoc (λ u. times x u.tally) (slice_set s.views id l) r in omega (arith, h.once x);
        };
      }

  pub joins_in : (id : ℕ) (v : Known) (other : ℕ) (w : Known) → v.holds ≡ false → w.holds ≡ false → v.told ≡ [] → w.told ≡ [] → 0 < v.share
      → Joins Rule id v other w (joined v w) spent
  joins_in id v other w rests rests' none none' some s t at apart at' =
      let h = t.shares in
      let both = joined v w in
      let views' = slice_set s.views id both in
      let fits = h.each id v at in
      let there' : get_elem? s.views other ≡ opt.some w = sym (set_else s.views id other both apart) ∙ at' in
      let fits' = h.each other w there' in
      let mine : Fit t.log t.holder id both = record {
        prefix = fits.prefix;
        told = fits'.prefix;
        held = λ e. absurd (false_is_true (sym rests ∙ e));
        knows = λ k. fits.knows some;
        spent = λ e. absurd (omega (arith, e, some));
        inside = λ x le le'.
            let z : length v.told ≡ 0 = ap length none in let z' : length w.told ≡ 0 = ap length none' in
            let a = fits.inside x le (omega arith) in let c = fits'.inside x le' (omega arith) in
            omega (arith, a, c, times-append x v.tally w.tally);
      } in
      let gone : Fit t.log t.holder other spent = record { prefix = (t.log, refl); told = (t.log, refl); held = λ e. absurd (false_is_true e); knows = λ k. absurd (omega (arith, k)); spent = λ e. refl; inside = λ x le le'. refl } in
      record {
        log = t.log;
        holder = t.holder;
        words = t.words;
        lies = lies_still t.log t.holder s.homes views' other w spent at' rests' (lies_still t.log t.holder s.homes s.views id v both at rests t.lies);
        shares = record {
          grown = h.grown;
          each = λ j u e. ⊎_elim
              (λ q. subst (λ k. Fit t.log t.holder k u) (sym q.0) (subst (λ y. Fit t.log t.holder other y) q.1 gone))
              (λ q. ⊎_elim
              (λ p. subst (λ k. Fit t.log t.holder k u) (sym p.0) (subst (λ y. Fit t.log t.holder id y) p.1 mine))
              (λ p. h.each j u p.1)
              (at_set s.views id j both u q.1))
              (at_set views' other j spent u e);
          whole = let a = total_set (λ u. u.share) s.views id v both at in let c = total_set (λ u. u.share) views' other w spent at' in omega (arith, h.whole);
          once = λ x. let a = total_set (λ u. times x u.tally) s.views id v both at in let c = total_set (λ u. times x u.tally) views' other w spent at' in omega (arith, h.once x, times-append x v.tally w.tally);
        };
      }

  -- what has the whole share and each place has seen the whole history
  seen_whole : (log : List E) (holder : Option ℕ) (views : Views) (id : ℕ) (v : Known) → get_elem? views id ≡ opt.some v → Share log holder views
      → v.share ≡ 2 ^ 32 → v.told ≡ [] → Dec (length v.seen < length log) → v.seen ≡ log
  seen_whole log holder views id v at s whole none (no most) = prefix_whole v.seen log (s.each id v at).prefix (omega (arith, most))
  seen_whole log holder views id v at s whole none (yes less) =
      let fits = s.each id v at in
      let kn = fits.knows (omega (arith, whole)) in
      let x = length v.seen in
      let z : length v.told ≡ 0 = ap length none in
      let missing = fits.inside x (omega arith) (omega arith) in
      let all = tells_whole log holder views id v at s whole x in
      let present = times-in x v.start (length log - v.start) (omega (arith, kn.1, kn.2)) (omega (arith, kn.1, kn.2, less)) in
      absurd (omega (arith, missing, all, present))

  close_free : (slots id : ℕ) (v : Known) (x : T) (views : Views) → v.holds ≡ false → v.share ≡ 2 ^ 32 → v.told ≡ [] → fixed x ≡ fixed first
      → Share (history x) None views → get_elem? views id ≡ opt.some v
      → Closing slots id v (0 ∷ length (history x) ∷ []) (opt.some (Some x) ∷ []) views
  close_free slots id v x views rests whole none same s at =
      let some : 0 < v.share = omega (arith, whole) in (
        holding v (history x),
        takes 0 (Some x),
        refl,
        taken_still id v x views some s at,
        (x, refl, sym (seen_whole (history x) None views id v at s whole none (dec_lt (length v.seen) (length (history x)))), ((s.each id v at).knows some).0 ∙ ap (λ f. Some f) (sym same), tells_whole (history x) None views id v at s whole),
      )

  close_parts : (slots id : ℕ) (v : Known) → v.holds ≡ false → v.share ≡ 2 ^ 32 → v.told ≡ [] → (log : List E) (holder : Option ℕ) (homes : Homes) (views : Views)
      → Lie log views holder homes → Share log holder views → get_elem? views id ≡ opt.some v
      → Closing slots id v (turn_of holder ∷ length log ∷ []) homes views
  close_parts slots id v rests whole none log None homes views lies s at =
      subst (λ hs. Closing slots id v (0 ∷ length log ∷ []) hs views) (sym lies.1)
      (subst (λ l. Closing slots id v (0 ∷ length l ∷ []) (opt.some (Some lies.0) ∷ []) views) lies.2
      (close_free slots id v lies.0 views rests whole none lies.3 (subst (λ l. Share l None views) (sym lies.2) s) at))
  close_parts slots id v rests whole none log (Some k) homes views lies s at =
      let out = lies.1 in
      let u = out.0 in
      let else : k ≢ id = λ e. false_is_true (sym rests ∙ ap (λ y. y.holds) (opt.some-injective v u (sym at ∙ subst (λ i. get_elem? views i ≡ opt.some u) e out.1)) ∙ out.2) in
      let zero_share = alone_else views id v at (s.whole ∙ sym whole) k u else out.1 in
      absurd (omega (arith, zero_share, ((s.each k u out.1).held out.2).2))

  pub closes_for : (slots id : ℕ) (v : Known) → v.holds ≡ false → v.share ≡ 2 ^ 32 → v.told ≡ []
      → Allows Rule slots id (v, []) 0 (λ n. either (n == 0) 1 n) (Closes history fixed (step slots 0 0 1 opt.none) (v, []))
  closes_for slots id v rests whole none = goes slots 0 id (v, []) (λ n. either (n == 0) 1 n) (Closes history fixed (step slots 0 0 1 opt.none) (v, [])) (close_parts slots id v rests whole none)

  -- the lock at its start
  pub begins : (n : ℕ) → n ≡ length (history first) → Rule (opening (0 ∷ n ∷ []) (Some first ∷ []) (newcomer (history first) (fixed first)))
  begins n is =
      let v = newcomer (history first) (fixed first) in
      let z : length (history first) - length (history first) ≡ 0 = omega arith in
      record {
        log = history first;
        holder = None;
        words = ap (λ k. 0 ∷ k ∷ []) is;
        lies = (first, refl, refl, refl);
        shares = record {
          grown = omega arith;
          each = λ j u e. first_fits j u e;
          whole = refl;
          once = λ x. sym (times-places-at x b b (b - b) 0 refl z);
        };
      }
    where
      first_fits : (j : ℕ) (u : Known) → get_elem? (newcomer (history first) (fixed first) ∷ []) j ≡ opt.some u → Fit (history first) None j u
      first_fits zero u e = subst (λ y. Fit (history first) None 0 y) (opt.some-injective (newcomer (history first) (fixed first)) u e)
          (record { prefix = prefix_here (history first); told = (history first, refl); held = λ h. absurd (false_is_true h); knows = λ k. (refl, refl, omega arith); spent = λ none. refl; inside = λ x le le'. refl })
      first_fits (suc j) u e = absurd (opt.some-ne-none u (sym e))
