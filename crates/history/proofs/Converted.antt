-- The facts on stamps and cards that the invariants give, of the operations of the history.
use Rattle.std.proofs.Common.{◌≡◌, ℕ, ◌<◌, ◌≤◌, true, false, List, map, length, Some, sym, refl, ap, ◌∙◌, subst, inl, inr, arith}
use Rattle.std.specs.List.{slice_get}
use Rattle.std.proofs.lemmas.List.{get_or_past}
use Rattle.std.proofs.lemmas.Bool.{cases_lt, false≢true}
use Rattle.parts.specs.declared.counts.Terminal.{Terminal}
use Rattle.parts.specs.declared.stamps.Stamp.{Stamp}
use Rattle.parts.specs.Stamps.{below}
use Rattle.replica.specs.declared.operations.Kind.TheVariants.{Write}
use Rattle.invariants.proofs.Joint.{OpsOk}
use Rattle.invariants.proofs.Ops.{Op, new_op, op_at, is_writing, ValueOf, from_first, from-write}
use Rattle.history.specs.Operations.{Collection, Operation}
use Rattle.history.specs.Lines.{is_write}
use Rattle.history.proofs.Converts.{collection_of, convert, op-nth, op-is, stamp-some, collection-some, same_kind}
use Rattle.history.proofs.Facts.{Held, Stamps}

module _ {C : Type 0} (first : C) (founder : Terminal) (ops : List (Op C)) (v : OpsOk first founder.0 (op_at first ops)) where
  stamped : (k : ℕ) (p : Operation C) (s : Stamp) → slice_get (map convert ops) k ≡ Some p → p.stamp ≡ Some s →
      ((op_at first ops k).settled ≡ true) × ((op_at first ops k).stamp ≡ s)
  unfolding convert
  stamped k p s h e = stamp-some _ _ s (sym (ap (λ (o : Operation C). o.stamp) (op-is first ops k p h)) ∙ e)

  taken : (k : ℕ) (p : Operation C) (a : Collection C) → slice_get (map convert ops) k ≡ Some p → p.collected ≡ Some a →
      ((op_at first ops k).collected ≡ true) × (collection_of (op_at first ops k) ≡ a)
  unfolding convert
  taken k p a h e = collection-some _ _ a (sym (ap (λ (o : Operation C). o.collected) (op-is first ops k p h)) ∙ e)

  begun-at : (k : ℕ) (p : Operation C) → slice_get (map convert ops) k ≡ Some p → p.begun ≡ (op_at first ops k).begun
  unfolding convert
  begun-at k p h = ap (λ (o : Operation C). o.begun) (op-is first ops k p h)

  writing-at : (k : ℕ) (p : Operation C) → slice_get (map convert ops) k ≡ Some p → is_write p.kind ≡ true → is_writing (op_at first ops k).kind ≡ true
  unfolding convert
  writing-at k p h e = sym (same_kind (op_at first ops k).kind) ∙ sym (ap (λ (o : Operation C). is_write o.kind) (op-is first ops k p h)) ∙ e

  writes_at : (k : ℕ) (p : Operation C) (c : C) → slice_get (map convert ops) k ≡ Some p → p.kind ≡ Write c → is_writing (op_at first ops k).kind ≡ true
  writes_at k p c h e = writing-at k p h (rw e refl)

  -- past the end nothing is settled
  past : (x : ℕ) → length ops ≤ x → false ≡ (op_at first ops x).settled
  unfolding op_at new_op
  past x l = sym (ap (λ (o : Op C). o.settled) (get_or_past ops x _ l))

  settled-in : (x : ℕ) → (op_at first ops x).settled ≡ true → x < length ops
  settled-in x h = elim (cases_lt x (length ops)) [ inl l ↦ l | inr l ↦ absurd (false≢true (past x l ∙ h)) ]

  held : (c : C) (s : Stamp) → ValueOf first founder.0 (op_at first ops) c s → Held first founder (map convert ops) c s
  unfolding convert
  held c s (from_first a b) = inl (a, b)
  held c s (from-write x a b d) = inr (x, convert (op_at first ops x), op-nth first ops x (settled-in x a), (b, rw (a, d) refl))

  pub stamps : Stamps first founder (map convert ops)
  stamps = record {
    names = λ j k p q c d s hp hq np nq. let a = stamped j p s hp np.1 in let b = stamped k q s hq nq.1 in
        v.unique j k a.0 (writes_at j p c hp np.0) b.0 (writes_at k q d hq nq.0) (a.1 ∙ sym b.1);
    counts = λ k p c s h np. let a = stamped k p s h np.1 in rw (← a.1) (v.counted k a.0 (writes_at k p c h np.0));
    reads = λ k p a h _ e. let t = taken k p a h e in
        subst (λ (z : Collection C). Held first founder (map convert ops) z.card z.stamp) t.1 (held _ _ (v.value k t.0));
    rises = λ j k p q s t hp hq pr es et.
        let (a, ea, l) = pr in
        let x = taken j p a hp ea in
        let y = stamped j p s hp es in
        let z = stamped k q t hq et in
        let m : (op_at first ops j).end < (op_at first ops k).begun = ends (op_at first ops j).end (op_at first ops k).begun q.begun a (ap (λ (u : Collection C). u.at) x.1) (begun-at k q hq) l in (
          subst (λ u. below t u ≡ false) y.1 (subst (λ u. below u (op_at first ops j).stamp ≡ false) z.1 (v.order j k x.0 m z.0)),
          λ w. subst (λ u. below u t ≡ true) y.1 (subst (λ u. below (op_at first ops j).stamp u ≡ true) z.1 (v.strict j k x.0 m z.0 (writing-at k q hq w))),
        );
  }
    where
      ends : (e b b' : ℕ) (a : Collection C) → e ≡ a.at → b' ≡ b → a.at < b' → e < b
      ends e b b' a p q l = omega arith
