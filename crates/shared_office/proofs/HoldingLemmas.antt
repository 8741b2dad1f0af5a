-- What a holding tells, and holdings one behind another.
use Rattle.std.proofs.Common.{◌≡◌, ℕ, ◌-◌, List, [], ◌∷◌, ◌++◌, length, map, sym, ap, ◌∙◌, refl, subst, append-nil, append_assoc}
use mathlib.Core.List.{IsPrefix}
use Rattle.devices.specs.declared.disks.Disk.{Ghosts}
use Rattle.history.specs.Events.{Event}
use Rattle.turnstile.specs.Passes.{entered, pass_of, seen, share, tally, value_of}
use Rattle.turnstile.specs.Places.{places}
use Rattle.turnstile.specs.declared.held.Held.{Held}
use Rattle.turnstile.proofs.ListLemmas.{prefix_here, prefix_on}
use Rattle.shared_office.specs.Entries.{with_events}
use Rattle.shared_office.specs.Holdings.{Holding, Follow, places_of}
use Rattle.shared_office.specs.Passing.{Goes, GoesOnce, PassTo, Unchanging, adding, listed}
use Rattle.shared_office.specs.declared.entries.Entry.{Entry}
use Rattle.shared_office.specs.declared.entries.Entry.TheVariants.{Happened}
use Rattle.shared_office.specs.declared.shared.Shared.{Shared}

-- holdings behind holdings
follow_in : {E : Type 0} (h m : List E) (ys : List (Holding (List E))) (after : List E) → IsPrefix h m → Follow IsPrefix m ys after → Follow IsPrefix h ys after
follow_in h m [] after pre f = prefix_on h m after pre f
follow_in h m (y ∷ ys) after pre f = (prefix_on h m y.from pre f.0, f.1)

follow_on : {E : Type 0} (h : List E) (xs : List (Holding (List E))) (m : List E) (ys : List (Holding (List E))) (after : List E)
    → Follow IsPrefix h xs m → Follow IsPrefix m ys after → Follow IsPrefix h (xs ++ ys) after
follow_on h [] m ys after f k = follow_in h m ys after f k
follow_on h (x ∷ xs) m ys after f k = (f.0, follow_on x.to xs m ys after f.1 k)

pub places_on : {H : Type 0} (size : H → ℕ) (xs ys : List (Holding H)) → places_of size (xs ++ ys) ≡ places_of size xs ++ places_of size ys
places_on size [] ys = refl
places_on size (x ∷ xs) ys =
    ap (λ zs. places (size x.from) (size x.to - size x.from) ++ zs) (places_on size xs ys)
    ∙ sym (append_assoc (places (size x.from) (size x.to - size x.from)) (places_of size xs) (places_of size ys))

module _ {D : Type 0} {g : Ghosts D} where
  -- what `enter` and `leave` tell is one holding: of the office `w` that was lent, and the list that was left
  pub once : (given back : PassTo D g) (held : Held (Shared D g) Entry (Unchanging D)) (w : Shared D g) (to : List Entry) → w ≡ value_of held
      → IsPrefix (listed w) to → IsPrefix (seen given) (listed (value_of held)) → entered held ≡ listed (value_of held)
      → share (pass_of held) ≡ share given → tally (pass_of held) ≡ tally given → seen back ≡ to → share back ≡ share (pass_of held)
      → tally back ≡ tally (pass_of held) ++ places (length (entered held)) (length to - length (entered held))
      → GoesOnce given back (record { from = listed w; to = to })
  once given back held w to same grows begins entering share_in tally_in seen_out share_out tally_out = record {
    begins = subst (λ (v : Shared D g). IsPrefix (seen given) (listed v)) (sym same) begins;
    grows = grows;
    seen_is = seen_out;
    share_is = share_out ∙ share_in;
    tally_is = tally_out ∙ (ap (λ t. t ++ places (length (entered held)) (length to - length (entered held))) tally_in
        ∙ ap (λ (l : List Entry). tally given ++ places (length l) (length to - length l)) (entering ∙ sym (ap listed same)));
  }

  -- what is left begins with what was found: where the list goes on, and where nothing is changed
  pub left_on : (held : Held (Shared D g) Entry (Unchanging D)) (w u : Shared D g) → w ≡ value_of held → entered held ≡ listed (value_of held)
      → IsPrefix (listed w) (listed u) → IsPrefix (entered held) (listed u)
  left_on held w u same entering grows = subst (λ (l : List Entry). IsPrefix l (listed u)) (sym (entering ∙ sym (ap listed same))) grows

  pub left_as_found : (held : Held (Shared D g) Entry (Unchanging D)) → entered held ≡ listed (value_of held) → IsPrefix (entered held) (listed (value_of held))
  left_as_found held entering = left_on held (value_of held) (value_of held) refl entering (prefix_here (listed (value_of held)))

  -- the list goes on by these events
  pub once_adding : (given back : PassTo D g) (held : Held (Shared D g) Entry (Unchanging D)) (w u : Shared D g) (added : List Event) → w ≡ value_of held
      → listed u ≡ with_events (listed w) added → IsPrefix (seen given) (listed (value_of held)) → entered held ≡ listed (value_of held)
      → share (pass_of held) ≡ share given → tally (pass_of held) ≡ tally given → seen back ≡ listed u → share back ≡ share (pass_of held)
      → tally back ≡ tally (pass_of held) ++ places (length (entered held)) (length (listed u) - length (entered held))
      → GoesOnce given back (adding (listed w) added)
  once_adding given back held w u added same on begins entering share_in tally_in seen_out share_out tally_out =
      once given back held w (with_events (listed w) added) same (map Happened added, refl) begins entering share_in tally_in (seen_out ∙ on) share_out
      (tally_out ∙ ap (λ (l : List Entry). tally (pass_of held) ++ places (length (entered held)) (length l - length (entered held))) on)

  -- nothing is changed
  pub once_reading : (given back : PassTo D g) (held : Held (Shared D g) Entry (Unchanging D)) (w : Shared D g) → w ≡ value_of held
      → IsPrefix (seen given) (listed (value_of held)) → entered held ≡ listed (value_of held)
      → share (pass_of held) ≡ share given → tally (pass_of held) ≡ tally given → seen back ≡ listed (value_of held) → share back ≡ share (pass_of held)
      → tally back ≡ tally (pass_of held) ++ places (length (entered held)) (length (listed (value_of held)) - length (entered held))
      → GoesOnce given back (adding (listed w) [])
  once_reading given back held w same begins entering share_in tally_in seen_out share_out tally_out =
      once_adding given back held w (value_of held) [] same (sym (append-nil (listed w) ∙ ap listed same)) begins entering share_in tally_in seen_out share_out
      tally_out

  -- no holding, one, and some behind others
  pub goes_none : (p : PassTo D g) → Goes p p []
  goes_none p = record { begins = prefix_here (seen p); follow = prefix_here (seen p); share_is = refl; tally_is = sym (append-nil (tally p)) }

  pub goes_one : (p q : PassTo D g) (x : Holding (List Entry)) → GoesOnce p q x → Goes p q (x ∷ [])
  goes_one p q x h = record {
    begins = prefix_on (seen p) x.from (seen q) h.begins (subst (λ l. IsPrefix x.from l) (sym h.seen_is) h.grows);
    follow = (h.begins, subst (λ l. IsPrefix x.to l) (sym h.seen_is) (prefix_here x.to));
    share_is = h.share_is;
    tally_is = h.tally_is ∙ ap (λ zs. tally p ++ zs) (sym (append-nil (places (length x.from) (length x.to - length x.from))));
  }

  pub goes_on_by : (p q r : PassTo D g) (xs ys : List (Holding (List Entry))) → Goes p q xs → Goes q r ys → Goes p r (xs ++ ys)
  goes_on_by p q r xs ys h k = record {
    begins = prefix_on (seen p) (seen q) (seen r) h.begins k.begins;
    follow = follow_on (seen p) xs (seen q) ys (seen r) h.follow k.follow;
    share_is = k.share_is ∙ h.share_is;
    tally_is = k.tally_is ∙ (ap (λ zs. zs ++ places_of length ys) h.tally_is
        ∙ (append_assoc (tally p) (places_of length xs) (places_of length ys) ∙ ap (λ zs. tally p ++ zs) (sym (places_on length xs ys))));
  }
