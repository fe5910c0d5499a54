-- Rows of entries (configuration maps): what the proof adds to the laws of charts.
use Rattle.std.proofs.Common.{◌≡◌, ℕ, suc, ◌<◌, ◌≤◌, max, false, ◌≢◌, ◌⊎◌, List, [], ◌∷◌, length, sym, refl, ap, ◌∙◌, inl, inr, arith}
use Rattle.parts.specs.declared.counts.Group.{Group as GroupNumber}
use Rattle.parts.specs.declared.entries.Entry.{Entry}
use Rattle.parts.specs.declared.entries.Entry.TheVariants.{Group, Retired, Unknown}
use Rattle.parts.specs.ChartLaws.{Usable, entry_in, extended, joined}
use Rattle.parts.specs.Charts.{cut_list, extend_entry, gap_list, join_entry, length_list, together}
use Rattle.parts.specs.Limits.{places}
use Rattle.parts.proofs.Cuts.{length-extended, usable-cut, usable-extended}
use Rattle.parts.proofs.Gaps.{cut-whole}
use Rattle.parts.proofs.Joins.{known-left, retired-left, usable-joined}
use Rattle.parts.proofs.Places.{cut-cases, extend-cases, join-cases, known-before, length_from}
use Rattle.parts.proofs.Walks.{length_cut}
use Rattle.invariants.proofs.Views.{group_at}

-- what a knows, b knows, and what is retired in a is retired in b
pub record Below (a b : List Entry) : Type 0 where
  pub known : (k : ℕ) → entry_in a k ≢ Unknown → entry_in b k ≢ Unknown
  pub gone : (k : ℕ) → entry_in a k ≡ Retired → entry_in b k ≡ Retired

pub below-same : (a : List Entry) → Below a a
below-same a = record { known = λ k h. h; gone = λ k h. h }

pub below-joined : (a b : List Entry) → Below a (joined a b)
below-joined a b = record { known = known-left a b; gone = retired-left a b }

pub length-below : {a b : List Entry} → Below a b → length_list a ≤ length_list b
length-below {a} {b} g = length_from b (length_list a) (λ k h. g.known k (known-before a k h))

length-together : (f : Entry → Entry → Entry) (a b : List Entry) → length (together f a b) ≡ length a
unfolding together
length-together f [] b = refl
length-together f (x ∷ a) [] = refl
length-together f (x ∷ a) (y ∷ b) = ap suc (length-together f a b)

-- the group of an entry
abbrev pub group-in : Entry → GroupNumber
group-in Unknown = record { 0 = 0 }
group-in (Group c) = c
group-in Retired = record { 0 = 0 }

-- every group of the row is the one listed at its place, some place is the first in use, and the row is as long as a chart
pub record RowOk (ls : List GroupNumber) (a : List Entry) : Type 0 where
  pub agree : (k : ℕ) (c : GroupNumber) → entry_in a k ≡ Group c → (k < length ls) × (c ≡ group_at ls k)
  pub usable : Usable a
  pub wide : length a ≡ places

pub cut-gone : (a : List Entry) (k : ℕ) → entry_in (cut_list a) k ≡ Retired → entry_in a k ≡ Retired
cut-gone a k e = grind (arith, cut-cases a k)

pub cut_ok : (ls : List GroupNumber) (a : List Entry) → RowOk ls a → RowOk ls (cut_list a)
cut_ok ls a ok = record {
  agree = λ k c e. ok.agree k c (grind (arith, cut-cases a k));
  usable = usable-cut a ok.usable;
  wide = length_cut a ∙ ok.wide;
}

pub join-gone : (a b : List Entry) (k : ℕ) → entry_in (joined a b) k ≡ Retired → (entry_in a k ≡ Retired) ⊎ (entry_in b k ≡ Retired)
join-gone a b k e = grind (arith, join-cases a b k)

module _ (ls : List GroupNumber) (a b : List Entry) (p : RowOk ls a) (q : RowOk ls b) where
  pub same_width : length a ≡ length b
  same_width = p.wide ∙ sym q.wide

  join-group : (k : ℕ) (c : GroupNumber) → entry_in (joined a b) k ≡ Group c → (entry_in a k ≡ Group c) ⊎ (entry_in b k ≡ Group c)
  join-group k c e = grind (arith, join-cases a b k)

  pub join-ok : RowOk ls (joined a b)
  join-ok = record {
    agree = λ k c e. elim (join-group k c e) [ inl h ↦ p.agree k c h | inr h ↦ q.agree k c h ];
    usable = usable-joined a b same_width p.usable q.usable;
    wide = length-together join_entry a b ∙ p.wide;
  }

  -- extended by the cut of the other
  extend-group : (k : ℕ) (c : GroupNumber) → entry_in (extended a (cut_list b)) k ≡ Group c → (entry_in a k ≡ Group c) ⊎ (entry_in b k ≡ Group c)
  extend-group k c e = grind (arith, extend-cases a (cut_list b) k, cut-cases b k)

  pub extend-gone : (k : ℕ) → entry_in (extended a (cut_list b)) k ≡ Retired → entry_in a k ≡ Retired
  extend-gone k e = grind (arith, extend-cases a (cut_list b) k)

  pub extend-ok : RowOk ls (extended a (cut_list b))
  extend-ok = record {
    agree = λ k c e. elim (extend-group k c e) [ inl h ↦ p.agree k c h | inr h ↦ q.agree k c h ];
    usable = usable-extended a (cut_list b) p.usable;
    wide = length-together extend_entry a (cut_list b) ∙ p.wide;
  }

  pub extend-whole : gap_list (extended a (cut_list b)) ≡ false → cut_list (extended a (cut_list b)) ≡ extended a (cut_list b)
  extend-whole g = cut-whole _ extend-ok.usable g

  pub extend-length : cut_list a ≡ a → gap_list (extended a (cut_list b)) ≡ false →
      length_list (extended a (cut_list b)) ≡ max (length_list a) (length_list b)
  extend-length w g = length-extended a b same_width w q.usable (extend-whole g)
