-- The groups of a book: each keeps the rule, and what holds of every group that does holds of them. A group that is lacking has no sets.
use Rattle.std.specs.Prelude.{◌≡◌, ℕ, zero, suc, ◌<◌, ◌≤◌, Bool, true, List, [], ◌∷◌, length, take, is_some, Some, None, Option, slice_index_or}
use Rattle.std.proofs.Common.{sym, subst, ap, arith}
use Rattle.std.specs.List.{AllByRecursion, slice_get}
use Rattle.std.proofs.ByRecursion.{All-from_get_or}
use Rattle.std.proofs.lemmas.List.{length-take-le, get_or-take}
use Rattle.std.proofs.lemmas.Option.{slice_get-get_or}
use Rattle.std.proofs.lemmas.Bool.{false≢true}
use Rattle.parts.specs.declared.counts.Group.{Group}
use Rattle.parts.specs.declared.sets.TerminalSet.{TerminalSet}
use Rattle.parts.specs.Sets.{Within, Meet}
use Rattle.books.specs.declared.table.Table.{Table}
use Rattle.books.specs.Tables.{booked, group_at, members_in, in_group}

module _ {G : Type 0} where
  -- what holds of the first n entries holds of the list of them
  pub each-group : (P : G → Type 0) (d : G) (n : ℕ) (entries : List G) → n ≤ length entries → ((k : ℕ) → k < n → P (slice_index_or entries k d)) → AllByRecursion P (take n entries)
  each-group P d n entries l below =
      All-from_get_or P (take n entries) d
      (λ i h.
      let m : i < n = omega (arith, length-take-le n entries l) in
      subst P (sym (get_or-take n entries i d m)) (below i m))

  -- a group with an index below their number is there
  pub here : (groups : List G) (d : G) (i : ℕ) → i < length groups → is_some (slice_get groups i) ≡ true
  here groups d i h = ap is_some (slice_get-get_or groups i d h)

module _ {G : Type 0} (rule : G → Bool) where
  -- a group that is there keeps the rule
  abbrev pub Kept : Option G → Type 0
  Kept None = Unit {0}
  Kept (Some g) = rule g ≡ true

  each_kept : (groups : List G) → AllByRecursion (λ g. rule g ≡ true) groups → (i : ℕ) → Kept (slice_get groups i)
  each_kept [] all i = tt
  each_kept (g ∷ groups) all zero = all.0
  each_kept (g ∷ groups) all (suc i) = each_kept groups all.1 i

  -- where the first n entries keep the rule, each of them that is there does
  pub kept_at : (d : G) (n : ℕ) (entries : List G) → n ≤ length entries → ((k : ℕ) → k < n → rule (slice_index_or entries k d) ≡ true) → (i : ℕ) → Kept (slice_get (take n entries) i)
  kept_at d n entries l keep i = each_kept (take n entries) (each-group (λ g. rule g ≡ true) d n entries l keep) i

-- so of a book's table
pub each_booked : {G : Type 0} {kind : _} (P : G → Type 0) (b : Table G kind) →
    ((k : ℕ) → k < b.count → P (slice_index_or b.entries k kind.blank)) → AllByRecursion P (booked b)
each_booked {kind = kind} P b first = each-group P kind.blank b.count b.entries (omega arith) first

pub kept : {G : Type 0} {kind : _} (b : Table G kind) (c : Group) → Kept kind.sound (group_at b c)
kept {kind = kind} b c = kept_at kind.sound kind.blank b.count b.entries (omega arith) b.kept c.0

pub there : {G : Type 0} {kind : _} (b : Table G kind) (c : Group) → c.0 < length (booked b) → is_some (group_at b c) ≡ true
there {kind = kind} b c h = here (booked b) kind.blank c.0 h

module _ {G : Type 0} (family answer : G → TerminalSet → Bool) where
  -- where the answer is yes, there is one of the family within the set
  pub found_in : ((g : G) (s : TerminalSet) → answer g s ≡ true → (q : TerminalSet) × (family g q ≡ true) × Within q s) →
      (o : Option G) (s : TerminalSet) → in_group answer o s ≡ true → (q : TerminalSet) × (in_group family o q ≡ true) × Within q s
  found_in f None s h = absurd (false≢true h)
  found_in f (Some g) s h = f g s h

  -- and where there is, the answer is yes
  pub given_in : ((g : G) (q s : TerminalSet) → family g q ≡ true → Within q s → answer g s ≡ true) →
      (o : Option G) (q s : TerminalSet) → in_group family o q ≡ true → Within q s → in_group answer o s ≡ true
  given_in f None q s h w = absurd (false≢true h)
  given_in f (Some g) q s h w = f g q s h w

module _ {G : Type 0} (rule : G → Bool) (reads writes : G → TerminalSet → Bool) where
  -- every read set and every write set share a terminal
  pub meet_in : ((g : G) → rule g ≡ true → (p q : TerminalSet) → reads g p ≡ true → writes g q ≡ true → Meet p q) →
      (o : Option G) → Kept rule o → (p q : TerminalSet) → in_group reads o p ≡ true → in_group writes o q ≡ true → Meet p q
  meet_in f None k p q h l = absurd (false≢true h)
  meet_in f (Some g) k p q h l = f g k p q h l

  -- neither family is empty
  pub some_in : ((g : G) → rule g ≡ true → ((q : TerminalSet) × (reads g q ≡ true)) × ((q : TerminalSet) × (writes g q ≡ true))) →
      (o : Option G) → Kept rule o → is_some o ≡ true → ((q : TerminalSet) × (in_group reads o q ≡ true)) × ((q : TerminalSet) × (in_group writes o q ≡ true))
  some_in f None k h = absurd (false≢true h)
  some_in f (Some g) k h = f g k

-- each of the family lies within the members
pub inside_in : {G : Type 0} (rule : G → Bool) (members : G → TerminalSet) (family : G → TerminalSet → Bool) →
    ((g : G) → rule g ≡ true → (q : TerminalSet) → family g q ≡ true → Within q (members g)) →
    (o : Option G) → Kept rule o → (q : TerminalSet) → in_group family o q ≡ true → Within q (members_in members o)
inside_in rule members family f None k q h = absurd (false≢true h)
inside_in rule members family f (Some g) k q h = f g k q h
