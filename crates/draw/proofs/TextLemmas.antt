-- Texts that are added one after another.
use Rattle.std.proofs.Common.{◌≡◌, refl, sym, ℕ, suc, ◌+◌, List, ◌++◌, append_assoc, add-one}
use Rattle.std.proofs.lemmas.List.{append-nil}
use Rattle.draw.specs.Frames.{first_texts}

-- none was added yet
pub no_texts : (text : ℕ → List ℕ) (old : List ℕ) → old ≡ old ++ first_texts text 0
unfolding first_texts
no_texts text old = sym (append-nil old)

first_next : (text : ℕ → List ℕ) (k : ℕ) → first_texts text (suc k) ≡ first_texts text k ++ text k
unfolding first_texts
first_next text k = refl

first_more : (text : ℕ → List ℕ) (k : ℕ) → first_texts text (k + 1) ≡ first_texts text k ++ text k
first_more text k = rw add-one (first_next text k)

-- one more was added
pub one_text_more : (text : ℕ → List ℕ) (k : ℕ) (old so_far now : List ℕ) → so_far ≡ old ++ first_texts text k → now ≡ so_far ++ text k
    → now ≡ old ++ first_texts text (k + 1)
one_text_more text k old so_far now before added = rw (added, before, first_more text k) (append_assoc old (first_texts text k) (text k))
