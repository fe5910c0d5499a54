-- A phase that may end has a set of each group of its chart among the terminals heard.
use Rattle.std.proofs.Common.{◌≡◌, ℕ, zero, suc, ◌<◌, ◌≤◌, true, List, [], ◌∷◌, length, refl, arith}
use Rattle.std.proofs.lemmas.Bool.{and_parts}
use Rattle.parts.specs.declared.counts.Group.{Group as GroupNumber}
use Rattle.parts.specs.declared.entries.Entry.{Entry}
use Rattle.parts.specs.declared.entries.Entry.TheVariants.{Group, Retired, Unknown}
use Rattle.parts.specs.declared.sets.TerminalSet.{TerminalSet}
use Rattle.parts.specs.ChartLaws.{UsableAt, entry_in}
use Rattle.parts.specs.Charts.{length_list}
use Rattle.parts.proofs.Places.{known-before}
use Rattle.replica.specs.Covering.{Answer, covered_list}
use Rattle.invariants.proofs.Rows.{RowOk, group-in}
use Rattle.invariants.proofs.Views.{group_at}

covered-at : (f : Answer) (a : List Entry) (h : TerminalSet) → covered_list f a h ≡ true → (k : ℕ) (c : GroupNumber) → entry_in a k ≡ Group c →
    f c h ≡ true
unfolding covered_list
covered-at f [] h e k c g = grind arith
covered-at f (Unknown ∷ a) h e zero c g = grind arith
covered-at f (Unknown ∷ a) h e (suc k) c g = covered-at f a h e k c g
covered-at f (Group d ∷ a) h e zero c g = let p = and_parts (f d h) (covered_list f a h) e in let q : d ≡ c = cc in rw (← q) p.0
covered-at f (Group d ∷ a) h e (suc k) c g = covered-at f a h (and_parts (f d h) (covered_list f a h) e).1 k c g
covered-at f (Retired ∷ a) h e zero c g = grind arith
covered-at f (Retired ∷ a) h e (suc k) c g = covered-at f a h e k c g

-- from the first place in use to the first unknown one a row holds groups
group-there : (a : List Entry) (m : ℕ) (c : GroupNumber) (k : ℕ) → UsableAt a m c → m ≤ k → k < length_list a →
    entry_in a k ≡ Group (group-in (entry_in a k))
group-there a m c k u l h = let p = known-before a k h in let q = u.above k l in is (entry_in a k) p q
  where
    is : (e : Entry) → (e ≡ Unknown → ⊥) → (e ≡ Retired → ⊥) → e ≡ Group (group-in e)
    is Unknown p q = absurd (p refl)
    is (Group c) p q = refl
    is Retired p q = absurd (q refl)

-- so there is a set of the group listed at each of these places among the heard
module _ (ls : List GroupNumber) (f : Answer) (a : List Entry) (h : TerminalSet) (ok : RowOk ls a) (cov : covered_list f a h ≡ true) (m : ℕ)
    (c : GroupNumber) (u : UsableAt a m c) (k : ℕ) (l : m ≤ k) (r : k < length_list a) where
  pub covers : f (group_at ls k) h ≡ true
  covers = let g = group-there a m c k u l r in rw (← (ok.agree k _ g).1) (covered-at f a h cov k _ g)

  pub covers-known : k < length ls
  covers-known = (ok.agree k _ (group-there a m c k u l r)).0
