-- What stands at a place of a row that is put together with another, or cut.
use Rattle.std.proofs.Common.{◌≡◌, ℕ, zero, suc, ◌<◌, ◌≤◌, ◌≢◌, ◌⊎◌, List, [], ◌∷◌, length, refl, inl, inr, arith}
use Rattle.std.proofs.lemmas.Bool.{cases_lt}
use Rattle.parts.specs.declared.entries.Entry.{Entry}
use Rattle.parts.specs.declared.entries.Entry.TheVariants.{Unknown, Group, Retired}
use Rattle.parts.specs.Charts.{join_entry, extend_entry, together, cut_list, length_list}
use Rattle.parts.specs.ChartLaws.{entry_in, joined, extended}
use Rattle.parts.proofs.Walks.{cut-unknown}

module _ (f : Entry → Entry → Entry) (own : (e : Entry) → e ≡ f e Unknown) where
  -- past the end of the first row nothing is known
  together-cases : (a b : List Entry) (k : ℕ) →
      (entry_in (together f a b) k ≡ f (entry_in a k) (entry_in b k)) ⊎ ((entry_in a k ≡ Unknown) × (entry_in (together f a b) k ≡ Unknown))
  unfolding together
  together-cases [] b k = inr (refl, refl)
  together-cases (x ∷ a) [] zero = inl (own x)
  together-cases (x ∷ a) [] (suc k) = inl (own (entry_in a k))
  together-cases (x ∷ a) (y ∷ b) zero = inl refl
  together-cases (x ∷ a) (y ∷ b) (suc k) = together-cases a b k

  together_at : (a b : List Entry) (k : ℕ) → length a ≡ length b → entry_in (together f a b) k ≡ f (entry_in a k) (entry_in b k)
  unfolding together
  together_at [] [] k h = own Unknown
  together_at [] (y ∷ b) k h = absurd (omega arith)
  together_at (x ∷ a) [] k h = absurd (omega arith)
  together_at (x ∷ a) (y ∷ b) zero h = refl
  together_at (x ∷ a) (y ∷ b) (suc k) h = together_at a b k (omega arith)

own-joined : (e : Entry) → e ≡ join_entry e Unknown
own-joined Unknown = refl
own-joined (Group c) = refl
own-joined Retired = refl

own-extended : (e : Entry) → e ≡ extend_entry e Unknown
own-extended Unknown = refl
own-extended (Group c) = refl
own-extended Retired = refl

pub join-cases : (a b : List Entry) (k : ℕ) →
    (entry_in (joined a b) k ≡ join_entry (entry_in a k) (entry_in b k)) ⊎ ((entry_in a k ≡ Unknown) × (entry_in (joined a b) k ≡ Unknown))
join-cases = together-cases join_entry own-joined

pub join-at : (a b : List Entry) (k : ℕ) → length a ≡ length b → entry_in (joined a b) k ≡ join_entry (entry_in a k) (entry_in b k)
join-at = together_at join_entry own-joined

pub extend-cases : (a b : List Entry) (k : ℕ) →
    (entry_in (extended a b) k ≡ extend_entry (entry_in a k) (entry_in b k)) ⊎ ((entry_in a k ≡ Unknown) × (entry_in (extended a b) k ≡ Unknown))
extend-cases = together-cases extend_entry own-extended

pub extend-at : (a b : List Entry) (k : ℕ) → length a ≡ length b → entry_in (extended a b) k ≡ extend_entry (entry_in a k) (entry_in b k)
extend-at = together_at extend_entry own-extended

-- the length of the cut is the first unknown place

pub known-before : (a : List Entry) (k : ℕ) → k < length_list a → entry_in a k ≢ Unknown
unfolding length_list
known-before [] k h e = omega arith
known-before (Unknown ∷ a) k h e = omega arith
known-before (Group c ∷ a) zero h e = grind arith
known-before (Group c ∷ a) (suc k) h e = known-before a k (omega arith) e
known-before (Retired ∷ a) zero h e = grind arith
known-before (Retired ∷ a) (suc k) h e = known-before a k (omega arith) e

unknown-there : (a : List Entry) → entry_in a (length_list a) ≡ Unknown
unfolding length_list
unknown-there [] = refl
unknown-there (Unknown ∷ a) = refl
unknown-there (Group c ∷ a) = unknown-there a
unknown-there (Retired ∷ a) = unknown-there a

-- known places bound it from below, and an unknown place from above
pub length_from : (a : List Entry) (n : ℕ) → ((k : ℕ) → k < n → entry_in a k ≢ Unknown) → n ≤ length_list a
length_from a n h = let g = h (length_list a) in let e = unknown-there a in grind arith

pub length-upto : (a : List Entry) (k : ℕ) → entry_in a k ≡ Unknown → length_list a ≤ k
length-upto a k e = let g = known-before a k in grind arith

-- before its first unknown place the cut row is the row
pub cut-known : (a : List Entry) (k : ℕ) → k < length_list a → entry_in (cut_list a) k ≡ entry_in a k
unfolding cut_list length_list
cut-known [] k h = refl
cut-known (Unknown ∷ a) k h = absurd (omega arith)
cut-known (Group c ∷ a) zero h = refl
cut-known (Group c ∷ a) (suc k) h = cut-known a k (omega arith)
cut-known (Retired ∷ a) zero h = refl
cut-known (Retired ∷ a) (suc k) h = cut-known a k (omega arith)

pub cut-cases : (a : List Entry) (k : ℕ) →
    ((k < length_list a) × (entry_in (cut_list a) k ≡ entry_in a k)) ⊎ ((length_list a ≤ k) × (entry_in (cut_list a) k ≡ Unknown))
cut-cases a k = elim (cases_lt k (length_list a)) [ inl h ↦ inl (h, cut-known a k h) | inr h ↦ inr (h, cut-unknown a k h) ]
