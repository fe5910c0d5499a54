-- What each call that puts one row makes of its terminal, as a move.
use Rattle.std.proofs.Common.{◌≡◌, ℕ, suc, ◌+◌, ◌-◌, ◌<◌, ◌≤◌, Bool, true, false, ◌&&◌, ◌||◌, eqb, List, length, sym, refl, ap, ◌∙◌, subst, inl, inr, arith}
use Rattle.std.proofs.lemmas.Bool.{and_parts, eqb-true, false≢true, or_cases, true≢false}
use Rattle.parts.specs.declared.counts.Group.{Group as GroupNumber}
use Rattle.parts.specs.declared.counts.PhaseNumber.{PhaseNumber}
use Rattle.parts.specs.declared.counts.Place.{Place}
use Rattle.parts.specs.declared.entries.Entry.{Entry}
use Rattle.parts.specs.declared.entries.Entry.TheVariants.{Group, Retired, Unknown}
use Rattle.parts.specs.declared.sets.TerminalSet.{TerminalSet}
use Rattle.parts.specs.declared.stamps.Stamp.{Stamp}
use Rattle.parts.specs.ChartLaws.{entry_in}
use Rattle.parts.specs.Charts.{entry_at, is_group, is_retired, join_at, place_after, place_before, retire_at}
use Rattle.parts.proofs.Places.{known-before}
use Rattle.replica.specs.declared.operations.Kind.{Kind}
use Rattle.replica.specs.declared.operations.Operation.{Operation}
use Rattle.replica.specs.declared.replicas.Status.{Status}
use Rattle.replica.specs.declared.retirements.Retirement.TheVariants.{Free as NoRetirement, Prop as Telling, Query as Asking}
use Rattle.replica.specs.Covering.{Answer}
use Rattle.replica.specs.Operating.{operated, proposed, queried}
use Rattle.replica.specs.Replicas.{charted, standing}
use Rattle.replica.specs.Retiring.{asking, entry_has, has_asked, has_told, is_over, may_retire, retired, telling}
use Rattle.invariants.proofs.Books.{Book}
use Rattle.invariants.proofs.Entries.{EntryStamps}
use Rattle.invariants.proofs.Invariant.{HandedOver, Inv, Past}
use Rattle.invariants.proofs.Moves.{Move, h-same, o-idle, o-prop, o-query, o-same, r-gone, r-new, r-same, r-turn}
use Rattle.invariants.proofs.Operations.{number_of, runs}
use Rattle.invariants.proofs.Puts.{Puts, move-kept, move-put}
use Rattle.invariants.proofs.Retired.{Behind, reach, retired-below, retired-gone, retired-ok}
use Rattle.invariants.proofs.Retirements.{asking-runs, is_asking, is_telling, r-heard, r-place, telling-runs}
use Rattle.invariants.proofs.Rows.{group-in}
use Rattle.invariants.proofs.Sets.{holds}
use Rattle.invariants.proofs.Stamps.{Le, le_same}
use Rattle.invariants.proofs.Told.{told_below, told-gone, told-ok}
use Rattle.invariants.proofs.Views.{Each, View, chart, group_at, lens, ret, row}

is-group : (e : Entry) → is_group e ≡ true → e ≡ Group (group-in e)
is-group Unknown h = absurd (false≢true h)
is-group (Group c) h = refl
is-group Retired h = absurd (false≢true h)

is-retired : (e : Entry) → is_retired e ≡ true → e ≡ Retired
is-retired Unknown h = absurd (false≢true h)
is-retired (Group c) h = absurd (false≢true h)
is-retired Retired h = refl

-- an entry of which the terminals heard have a set is a group, and the set is one of that group
has-group : (sets : Answer) (e : Entry) (h : TerminalSet) → entry_has sets e h ≡ true → (e ≡ Group (group-in e)) × (sets (group-in e) h ≡ true)
has-group sets Unknown h p = absurd (false≢true p)
has-group sets (Group c) h p = (refl, p)
has-group sets Retired h p = absurd (false≢true p)

-- an entry that is neither unknown nor retired is a group
left-group : (e : Entry) → (e ≡ Unknown → ⊥) → is_retired e ≡ false → e ≡ Group (group-in e)
left-group Unknown n r = absurd (n refl)
left-group (Group c) n r = refl
left-group Retired n r = absurd (true≢false r)

-- place 0, or one whose place before is retired, stands behind retired places alone
is-behind : (a : List Entry) (k : ℕ) → (eqb k 0 || is_retired (entry_in a (k - 1))) ≡ true → Behind a k
is-behind a k h l e = elim (or_cases _ _ h) [
  | inl z ↦ (let p = eqb-true k 0 z in absurd (omega arith))
  | inr z ↦ (let p : k - 1 ≡ l = omega arith in is-retired (entry_in a l) (subst (λ x. is_retired (entry_in a x) ≡ true) p z))
]

module _ {C : Type 0} {B : Book} {E : EntryStamps} {s s' : View C} {i : ℕ} (v : Inv B s E) where
  -- enter, crash, a knock that arrives: another status, mark or known set
  pub move-standing : (a : Status) (x : Bool) (k : TerminalSet) → Puts s s' i (standing a x k (row s i)) → Move B s E s' i
  move-standing a x k p = move-kept v p refl refl (le_same _) (omega arith) (o-same refl) (r-same refl)

  -- read, write
  pub move-queried : (k : Kind C) → Puts s s' i (queried k (row s i)) → Move B s E s' i
  move-queried k p = move-kept v p refl refl (le_same _) (omega arith) (o-query k refl (omega arith)) (r-same refl)

  -- settle
  pub move-proposed : (c : C) (st : Stamp) → Le (row s i).stamp st → Puts s s' i (proposed c st (row s i)) → Move B s E s' i
  move-proposed c st l p = move-kept v p refl refl l (omega arith) (o-prop c st refl (omega arith) (le_same _)) (r-same refl)

  -- confirm, collect
  pub move-ended : (o : Operation C) → runs o ≡ false → number_of o ≡ 0 →
      Puts s s' i (operated (row s i).card (row s i).stamp (row s i).number o (row s i)) → Move B s E s' i
  move-ended o e z p = move-kept v p refl refl (le_same _) (omega arith) (o-idle e z) (r-same refl)

  -- tell
  pub move-told : (k : Place) (c : GroupNumber) → k.0 < length s.listed → c ≡ group_at s.listed k.0 →
      Puts s s' i (charted (join_at k (Group c) (row s i).chart) (row s i)) → Move B s E s' i
  move-told k c l e p = let ok = v.charts.terms i in move-put p
      (record { stamp = le_same _; places = told_below s.listed _ k.0 c l e ok; number = omega arith })
      (told-ok s.listed _ k.0 c l e ok)
      (λ x g. v.gone.terms i x (told-gone s.listed (chart s i) k.0 c l e ok x g))
      (λ x. h-same refl) (o-same refl) (r-same refl)

  -- retire
  pub move-asking : (k : Place) → may_retire (row s i).chart k ≡ true → Puts s s' i (asking k (row s i)) → Move B s E s' i
  move-asking k m p =
      let a = (row s i).chart in
      let q = and_parts (is_group (entry_at a k)) (is_group (entry_at a (place_after k)) && (eqb k.0 0 || is_retired (entry_at a (place_before k)))) m in
      let r = and_parts (is_group (entry_at a (place_after k))) (eqb k.0 0 || is_retired (entry_at a (place_before k))) q.1 in
      let f : Behind a.places k.0 = is-behind (chart s i) k.0 r.1 in
      let one : k.0 + 1 ≡ suc k.0 = omega arith in
      let next = subst (λ x. is_group (entry_in (chart s i) x) ≡ true) one r.0 in
      move-kept v p refl refl (le_same _) (omega arith) (o-same refl)
      (r-new k.0 refl (omega arith) (reach _ k.0 _ _ (v.charts.terms i).usable (is-group _ q.0) (is-group _ next) f) f)

  -- retire-settle
  pub move-telling : (k : Place) (n : PhaseNumber) (h : TerminalSet) → ret s i ≡ Asking k n h →
      has_asked B.reads B.writes (row s i).chart k h ≡ true →
      Puts s s' i (telling k (row s i)) → Move B s E s' i
  move-telling k n h e a p =
      let q : is_asking (ret s i) ≡ true = ap is_asking e in
      let here = and_parts _ _ a in
      let reads = has-group B.reads _ h here.0 in
      let writes = has-group B.writes _ h here.1 in
      let g = (v.charts.terms i).agree k.0 _ reads.0 in
      let place : r-place (ret s i) ≡ k.0 = ap r-place e in
      let heard : r-heard (ret s i) ≡ h = ap r-heard e in
      let past : Each h (λ j. Past s E j k.0 (row s i).stamp) = λ j m.
      subst (λ x. Past s E j x (row s i).stamp) place (v.retires.heard i q j (subst (λ f. holds f j ≡ true) (sym heard) m)) in
      move-kept v p refl refl (le_same _) (omega arith) (o-same refl)
      (r-turn (rw place refl) (asking-runs _ q) (rw place (record {
        who = h;
        known = g.0;
        reads = rw (← g.1) reads.1;
        writes = rw (← g.1) writes.1;
        far = λ j m. (past j m).far;
        early = λ j m. (past j m).early;
      })))

  -- retire-confirm
  pub move-retired : (k : Place) (n : PhaseNumber) (h : TerminalSet) → ret s i ≡ Telling k n h → is_over (row s i).chart k ≡ false →
      has_told B.writes (row s i).chart k h ≡ true →
      Puts s s' i (charted (retire_at k (row s i).chart) (row s i)) → Move B s E s' i
  move-retired k n h e over told p =
      let q : is_telling (ret s i) ≡ true = ap is_telling e in
      let runs = telling-runs _ q in
      let place : r-place (ret s i) ≡ k.0 = ap r-place e in
      let own : suc (suc k.0) ≤ lens s i = subst (λ x. suc (suc x) ≤ lens s i) place (v.retires.own i runs) in
      let f : Behind (chart s i) k.0 = λ l g. v.retires.front i runs l (g ∙ sym place) in
      let here = left-group (entry_in (chart s i) k.0) (known-before (chart s i) k.0 (omega arith)) over in
      let one : k.0 + 1 ≡ suc k.0 = omega arith in
      let next = subst (λ x. entry_in (chart s i) x ≡ Group (group-in (entry_in (chart s i) x))) one (has-group B.writes _ h told).0 in
      move-put p
      (record { stamp = le_same _; places = retired-below (chart s i) k.0; number = omega arith })
      (retired-ok (chart s i) k.0 s.listed (v.charts.terms i) _ _ here next f)
      (λ x g. elim (retired-gone (chart s i) k.0 x g) [
        | inl y ↦ rw y (subst (λ z. HandedOver B s E z (row s i).stamp) place (v.retires.turned i q))
        | inr y ↦ v.gone.terms i x y
      ])
      (λ x. h-same refl) (o-same refl) (r-same refl)

  -- retire-close
  pub move-closed : Puts s s' i (retired (row s i).number NoRetirement (row s i)) → Move B s E s' i
  move-closed p = move-kept v p refl refl (le_same _) (omega arith) (o-same refl) (r-gone refl)
