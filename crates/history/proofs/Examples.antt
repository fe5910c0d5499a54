-- What the law says of the small histories.
use Rattle.std.proofs.Common.{◌≡◌, ℕ, zero, suc, ◌<◌, ◌≤◌, true, false, ◌≢◌, ◌⊎◌, List, [], ◌∷◌, take, drop, Some, None, Option, sym, refl, ap, ◌∙◌, inl, inr, arith}
use Rattle.std.specs.List.{slice_get}
use Rattle.std.proofs.lemmas.Bool.Decides.{nat_tests}
use Rattle.parts.specs.declared.counts.Terminal.{Terminal}
use Rattle.replica.specs.declared.operations.Kind.TheVariants.{Read}
use Rattle.parts.specs.Charts.{together, blank, cut_list, any_group, gap_list}
use Rattle.replica.specs.Covering.{covered_list}
use Rattle.house.specs.Calls.{step}
use Rattle.history.specs.Offers.{offer_outcomes, offer_history}
use Rattle.history.specs.Events.{settled, collected}
use Rattle.history.specs.Operations.{Collection, Operation, any_at, at_last, after, operations_from, operations_of, Last}
use Rattle.history.specs.Lines.{is_write, card_of, ahead, insert, sorted, line, line_of, cell_after}
use Rattle.history.specs.Law.{Precedes, Atomic}
use Rattle.history.specs.Examples.{terminal, stamp, fair, first_read, the_write, next_read, wrong_card, wrong_order, wrong_stamp, wrong_collect, stray, twice, early, renamed, late, group_count, group_members, group_sets, one_house, offers, one_write, Verdicts}
use Rattle.history.proofs.Facts.{Orderly}
use Rattle.history.proofs.Keeps.{orderly-none, orderly-more}

single : {X : Type 0} (x y : X) (k : ℕ) → slice_get (x ∷ []) k ≡ Some y → x ≡ y
single x y zero e = cc
single x y (suc k) e = absurd (grind arith)

no-card : Atomic 7 wrong_card → ⊥
unfolding line sorted insert ahead operations_of operations_from after at_last any_at cell_after
no-card a = let e : ◌≡◌ {A = Option ℕ} (Some 7) (Some 8) = a.cell 1 _ refl refl in grind arith

no-order : Atomic 7 wrong_order → ⊥
unfolding line sorted insert ahead operations_of operations_from after at_last any_at
no-order a = let l : 1 < 0 = a.order 1 0 _ _ refl refl (_, refl, omega arith) in omega arith

no-stamp : Atomic 7 wrong_stamp → ⊥
unfolding line sorted insert ahead operations_of operations_from after at_last any_at
no-stamp a = let e = a.unique 0 1 _ _ refl refl refl refl refl in omega arith

no-collect : Atomic 7 wrong_collect → ⊥
unfolding operations_of operations_from after at_last any_at
no-collect a =
    let r = a.collects 2 (terminal 0) 7 (stamp 1 0) refl in let u = single _ _ r.place r.last.here in
    let e = r.card 8 (sym (ap (λ (o : Operation ℕ). o.kind) u)) in omega arith

no_stray : Atomic 7 stray → ⊥
unfolding operations_of operations_from after at_last any_at
no_stray a = let r = a.collects 0 (terminal 0) 7 (stamp 0 0) refl in let e = r.last.here in grind arith

no-twice : Atomic 7 twice → ⊥
unfolding operations_of operations_from after at_last any_at
no-twice a =
    let r = a.collects 3 (terminal 0) 7 (stamp 0 0) refl in let u = single _ _ r.place r.last.here in
    let e = ap (λ (o : Operation ℕ). o.collected) u ∙ r.uncollected in grind arith

no-early : Atomic 7 early → ⊥
unfolding operations_of operations_from after at_last any_at
no-early a =
    let r = a.collects 1 (terminal 0) 7 (stamp 0 0) refl in let u = single _ _ r.place r.last.here in
    let e = ap (λ (o : Operation ℕ). o.stamp) u ∙ r.stamp in grind arith

no-renamed : Atomic 7 renamed → ⊥
unfolding operations_of operations_from after at_last any_at
no-renamed a =
    let r = a.settles 2 (terminal 0) (stamp 2 0) refl in let u = single _ _ r.place r.last.here in
    let e = ap (λ (o : Operation ℕ). o.stamp) u ∙ r.unsettled in grind arith

no-late : Atomic 7 late → ⊥
unfolding operations_of operations_from after at_last any_at
no-late a =
    let r = a.settles 3 (terminal 0) (stamp 0 0) refl in let u = single _ _ r.place r.last.here in
    let e = ap (λ (o : Operation ℕ). o.stamp) u ∙ r.unsettled in grind arith

abbrev row : List (Operation ℕ)
row = first_read ∷ the_write ∷ next_read ∷ []

fair-line : line_of fair ≡ row
unfolding line sorted insert ahead operations_of operations_from after at_last any_at
fair-line = refl

write-place : (j : ℕ) (p : Operation ℕ) → slice_get row j ≡ Some p → is_write p.kind ≡ true → j ≡ 1
write-place zero p e w = absurd (let u : first_read ≡ p = cc in let v : is_write p.kind ≡ false = rw (← u) refl in grind arith)
write-place (suc zero) p e w = refl
write-place (suc (suc zero)) p e w = absurd (let u : next_read ≡ p = cc in let v : is_write p.kind ≡ false = rw (← u) refl in grind arith)
write-place (suc (suc (suc j))) p e w = absurd (grind arith)

cells : (k : ℕ) (p : Operation ℕ) → slice_get row k ≡ Some p → p.kind ≡ Read → card_of p ≡ Some (cell_after 7 (take k row))
unfolding cell_after
cells zero p e r = let u : first_read ≡ p = cc in rw (← u) refl
cells (suc zero) p e r = absurd (let u : the_write ≡ p = cc in let v : the_write.kind ≡ Read = ap (λ (o : Operation ℕ). o.kind) u ∙ r in grind arith)
cells (suc (suc zero)) p e r = let u : next_read ≡ p = cc in rw (← u) refl
cells (suc (suc (suc k))) p e r = absurd (grind arith)

-- what stands first was collected at 5, and what stands last at 8
ends : (j : ℕ) (p : Operation ℕ) (a : Collection ℕ) → slice_get row j ≡ Some p → p.collected ≡ Some a → ((j ≡ 0) × (a.at ≡ 5)) ⊎ (a.at ≡ 8)
ends zero p a e f = inl (
  refl,
  (let u : first_read ≡ p = cc in let v : first_read.collected ≡ Some a = ap (λ (o : Operation ℕ). o.collected) u ∙ f in
      let w : record { at = 5; card = 7; stamp = stamp 0 0 } ≡ a = cc in sym (ap (λ (a : Collection ℕ). a.at) w)),
)
ends (suc zero) p a e f = absurd (let u : the_write ≡ p = cc in let v : the_write.collected ≡ Some a = ap (λ (o : Operation ℕ). o.collected) u ∙ f in grind arith)
ends (suc (suc zero)) p a e f = inr (let u : next_read ≡ p = cc in let v : next_read.collected ≡ Some a = ap (λ (o : Operation ℕ). o.collected) u ∙ f in
    let w : record { at = 8; card = 8; stamp = stamp 1 0 } ≡ a = cc in sym (ap (λ (a : Collection ℕ). a.at) w))
ends (suc (suc (suc j))) p a e f = absurd (grind arith)

-- only what stands last was begun after 1
starts : (k : ℕ) (q : Operation ℕ) → slice_get row k ≡ Some q → ((q.begun ≤ 1) ⊎ ((k ≡ 2) × (q.begun ≡ 6)))
starts zero q e = inl (let u : first_read ≡ q = cc in rw (← u) (omega arith))
starts (suc zero) q e = inl (let u : the_write ≡ q = cc in rw (← u) (omega arith))
starts (suc (suc zero)) q e = inr (refl, (let u : next_read ≡ q = cc in rw (← u) refl))
starts (suc (suc (suc k))) q e = absurd (grind arith)

orders : (j k : ℕ) (p q : Operation ℕ) → slice_get row j ≡ Some p → slice_get row k ≡ Some q → Precedes p q → j < k
orders j k p q e f (a, c, l) = let x = ends j p a e c in let y = starts k q f in omega arith

-- the last one at a terminal, by looking at those behind it
none-behind : {C : Type 0} (i : Terminal) (os : List (Operation C)) → any_at i os ≡ false → (j : ℕ) (q : Operation C) → slice_get os j ≡ Some q → q.terminal ≢ i
unfolding any_at
none-behind i [] h j q e = absurd (grind arith)
none-behind i (p ∷ os) h zero q e =
    let u : p ≡ q = cc in λ t. let z : p.terminal.0 ≡ i.0 = ap (λ (t : Terminal). t.0) (ap (λ (o : Operation _). o.terminal) u ∙ t) in
    grind (arith, nat_tests)
none-behind i (p ∷ os) h (suc j) q e = none-behind i os (grind (arith, nat_tests)) j q e

last-by : {C : Type 0} (os : List (Operation C)) (i : Terminal) (k : ℕ) (o : Operation C) → slice_get os k ≡ Some o → o.terminal ≡ i →
    any_at i (drop (suc k) os) ≡ false → Last os i k o
last-by {C} os i k o e t h = record { here = e; own = t; last = λ j q l f. behind os k h j q l f }
  where
    behind : (os : List (Operation C)) (k : ℕ) → any_at i (drop (suc k) os) ≡ false → (j : ℕ) (q : Operation C) → k < j → slice_get os j ≡ Some q → q.terminal ≢ i
    behind [] k h j q l f = absurd (grind arith)
    behind (p ∷ os) k h zero q l f = absurd (omega arith)
    behind (p ∷ os) zero h (suc j) q l f = none-behind i os h j q f
    behind (p ∷ os) (suc k) h (suc j) q l f = behind os k h j q (omega arith) f

-- an operation that has been begun, and one that has been settled
abbrev begun-only : Operation ℕ → Operation ℕ
begun-only o = record { terminal = o.terminal; kind = o.kind; begun = o.begun; stamp = None; collected = None }

abbrev settled_only : Operation ℕ → Operation ℕ
settled_only o = record { terminal = o.terminal; kind = o.kind; begun = o.begun; stamp = o.stamp; collected = None }

fair-orderly : Orderly fair
unfolding operations_of operations_from after at_last any_at
fair-orderly =
    orderly-more (take 8 fair) _
    (orderly-more (take 7 fair) _
    (orderly-more (take 6 fair) _
    (orderly-more (take 5 fair) _
    (orderly-more (take 4 fair) _
    (orderly-more (take 3 fair) _
    (orderly-more (take 2 fair) _
    (orderly-more (take 1 fair) _ (orderly-more [] _ orderly-none tt) tt)
    (record { place = 0; operation = begun-only first_read; last = last-by _ _ _ _ refl refl refl; unsettled = refl; uncollected = refl }))
    (record { place = 1; operation = begun-only the_write; last = last-by _ _ _ _ refl refl refl; unsettled = refl; uncollected = refl }))
    tt)
    (record { place = 0; operation = settled_only first_read; last = last-by _ _ _ _ refl refl refl; stamp = refl; uncollected = refl; card = λ d g. absurd (grind arith) }))
    tt)
    (record { place = 2; operation = begun-only next_read; last = last-by _ _ _ _ refl refl refl; unsettled = refl; uncollected = refl }))
    (record { place = 2; operation = settled_only next_read; last = last-by _ _ _ _ refl refl refl; stamp = refl; uncollected = refl; card = λ d g. absurd (grind arith) })

takes : Atomic 7 fair
takes = record {
  unique = rw fair-line (λ j k p q e f v w _. write-place j p e v ∙ sym (write-place k q f w));
  cell = rw fair-line cells;
  order = rw fair-line orders;
  collects = λ n i c s. fair-orderly n (collected i c s);
  settles = λ n i s. fair-orderly n (settled i s);
}

played : offer_history group_count group_members group_sets group_sets offers one_house ≡ one_write
unfolding offer_outcomes step together blank cut_list any_group gap_list covered_list
played = refl

pub verdicts : Verdicts
verdicts = record {
  history = refl;
  line = fair-line;
  played = played;
  takes = takes;
  no-card = no-card;
  no-order = no-order;
  no-stamp = no-stamp;
  no-collect = no-collect;
  no_stray = no_stray;
  no-twice = no-twice;
  no-early = no-early;
  no-renamed = no-renamed;
  no-late = no-late;
}
