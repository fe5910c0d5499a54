-- The operations begun, as a list that grows at its end and changes in one place.
use Rattle.std.proofs.Common.{◌≡◌, ℕ, ◌<◌, ◌≤◌, List, [], ◌∷◌, ◌++◌, length, set, sym, refl, ◌∙◌, inl, inr, arith}
use Rattle.std.proofs.lemmas.List.{get_or_append_left, get_or_past, get_or_push, get_or-set_other, get_or-set_same, length_push}
use Rattle.std.proofs.lemmas.Bool.{cases_lt}
use Rattle.replica.specs.declared.operations.Kind.TheVariants.{Read}
use Rattle.invariants.proofs.Ops.{Op, new_op, op_at}

module _ {C : Type 0} (first : C) (ops : List (Op C)) where
  pub op-past : (x : ℕ) → length ops ≤ x → op_at first ops x ≡ new_op first 0 Read 0
  unfolding op_at
  op-past x h = get_or_past ops x _ h

  pub op-push : (o : Op C) → op_at first (ops ++ o ∷ []) (length ops) ≡ o
  unfolding op_at
  op-push o = get_or_push ops o _ (length ops) refl

  pub op-push-other : (o : Op C) (x : ℕ) → (x ≡ length ops → ⊥) → op_at first (ops ++ o ∷ []) x ≡ op_at first ops x
  unfolding op_at
  op-push-other o x n = let l = length_push ops o in elim (cases_lt x (length ops)) [
    | inl h ↦ get_or_append_left ops (o ∷ []) _ x h
    | inr h ↦ get_or_past (ops ++ o ∷ []) x _ (omega arith) ∙ sym (get_or_past ops x _ h)
  ]

  pub op_set : (y : ℕ) (o : Op C) → y < length ops → op_at first (set ops y o) y ≡ o
  unfolding op_at
  op_set y o h = get_or-set_same ops y o _ h

  pub op-set-other : (y : ℕ) (o : Op C) (x : ℕ) → (x ≡ y → ⊥) → op_at first (set ops y o) x ≡ op_at first ops x
  unfolding op_at
  op-set-other y o x n = get_or-set_other ops y x o _ n
