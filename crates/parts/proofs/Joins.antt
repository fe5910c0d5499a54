-- What joining keeps.
use Rattle.std.proofs.Common.{◌≡◌, ℕ, ◌≤◌, ◌≢◌, List, [], ◌∷◌, length, refl, inl, inr, arith}
use Rattle.std.proofs.lemmas.Bool.{cases_lt}
use Rattle.parts.specs.declared.counts.Group.{Group as GroupNumber}
use Rattle.parts.specs.declared.entries.Entry.{Entry}
use Rattle.parts.specs.declared.entries.Entry.TheVariants.{Unknown, Group, Retired}
use Rattle.parts.specs.Charts.{join_entry, together, length_list}
use Rattle.parts.specs.ChartLaws.{entry_in, joined, UsableAt, Usable, Agrees}
use Rattle.parts.proofs.Places.{join-cases, join-at, known-before, length_from}

-- rows of any two lengths

pub retired-left : (a b : List Entry) (k : ℕ) → entry_in a k ≡ Retired → entry_in (joined a b) k ≡ Retired
retired-left a b k h = grind (arith, join-cases a b k)

pub known-left : (a b : List Entry) (k : ℕ) → entry_in a k ≢ Unknown → entry_in (joined a b) k ≢ Unknown
known-left a b k h e = grind (arith, join-cases a b k)

pub longer-left : (a b : List Entry) → length_list a ≤ length_list (joined a b)
longer-left a b = length_from (joined a b) (length_list a) (λ k l. known-left a b k (known-before a k l))

pub agrees_joined : (f : ℕ → GroupNumber) (a b : List Entry) → Agrees f a → Agrees f b → Agrees f (joined a b)
agrees_joined f a b ha hb k c e = let ga = ha k c in let gb = hb k c in grind (arith, join-cases a b k)

-- rows of equal length

-- which of two groups stays
own : Entry → GroupNumber → GroupNumber
own Unknown d = d
own (Group c) d = c
own Retired d = d

module _ (a b : List Entry) (same : length a ≡ length b) where
  at_both : (k : ℕ) → entry_in (joined a b) k ≡ join_entry (entry_in a k) (entry_in b k)
  at_both k = join-at a b k same

  pub retired-right : (k : ℕ) → entry_in b k ≡ Retired → entry_in (joined a b) k ≡ Retired
  retired-right k h = grind (arith, at_both)

  pub known-right : (k : ℕ) → entry_in b k ≢ Unknown → entry_in (joined a b) k ≢ Unknown
  known-right k h e = grind (arith, at_both)

  pub longer-right : length_list b ≤ length_list (joined a b)
  longer-right = length_from (joined a b) (length_list b) (λ k l. known-right k (known-before b k l))

  usable-above : (m n : ℕ) (c d : GroupNumber) → m ≤ n → UsableAt a m c → UsableAt b n d → UsableAt (joined a b) n (own (entry_in a n) d)
  unfolding own
  usable-above m n c d l ua ub = record {
    below = λ k h. let g = ub.below k h in grind (arith, at_both);
    here = let g = ua.above n l in let g' = ub.here in grind (arith, at_both);
    above = λ k h e. let g = ua.above k (omega arith) in let g' = ub.above k h in grind (arith, at_both);
  }

  usable-below : (m n : ℕ) (c d : GroupNumber) → n ≤ m → UsableAt a m c → UsableAt b n d → UsableAt (joined a b) m c
  usable-below m n c d l ua ub = record {
    below = λ k h. let g = ua.below k h in grind (arith, at_both);
    here = let g = ub.above m l in let g' = ua.here in grind (arith, at_both);
    above = λ k h e. let g = ub.above k (omega arith) in let g' = ua.above k h in grind (arith, at_both);
  }

  pub usable-joined : Usable a → Usable b → Usable (joined a b)
  usable-joined (m, c, ua) (n, d, ub) = elim (cases_lt m n) [ inl l ↦ (n, _, usable-above m n c d (omega arith) ua ub) | inr l ↦ (m, _, usable-below m n c d l ua ub) ]

-- joining once more

self-entry : (e : Entry) → join_entry e e ≡ e
self-entry Unknown = refl
self-entry (Group c) = refl
self-entry Retired = refl

again-entry : (e e' : Entry) → join_entry (join_entry e e') e' ≡ join_entry e e'
again-entry e e' = grind (arith, self-entry)

pub joined-self : (a : List Entry) → joined a a ≡ a
unfolding together
joined-self [] = refl
joined-self (x ∷ a) = let p = self-entry x in let q = joined-self a in cc

pub joined-again : (a b : List Entry) → joined (joined a b) b ≡ joined a b
unfolding together
joined-again [] b = refl
joined-again (x ∷ a) [] = refl
joined-again (x ∷ a) (y ∷ b) = let p = again-entry x y in let q = joined-again a b in cc
