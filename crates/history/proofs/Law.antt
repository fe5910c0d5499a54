-- The law of the line from plain facts about the operations.
use Rattle.std.proofs.Common.{◌≡◌, ℕ, ◌<◌, true, false, List, take, Some, sym, refl, ap, ◌∙◌, inl, inr, arith}
use Rattle.std.specs.List.{slice_get}
use Rattle.std.proofs.lemmas.Bool.{cases_order}
use Rattle.parts.specs.declared.counts.Terminal.{Terminal}
use Rattle.parts.specs.declared.stamps.Stamp.{Stamp}
use Rattle.replica.specs.declared.operations.Kind.TheVariants.{Read, Write}
use Rattle.history.specs.Operations.{Collection, Operation}
use Rattle.history.specs.Lines.{is_write, in_line, settled_stamp, card_of, line, cell_after}
use Rattle.history.specs.Law.{Precedes}
use Rattle.history.proofs.Cell.{cell-reads, cell-write}
use Rattle.history.proofs.Facts.{Named, Stamps, Tidy}
use Rattle.history.proofs.Order.{below-tells, ahead-tells, irrefl}
use Rattle.history.proofs.Sort.{Sorted, sorted-line, apart-nth, sorted-nth, stands}
use Rattle.history.proofs.Stands.{line-from, line-has, kind-cases, read-collected, line-stamped}

stamp-same : (s t : Stamp) → s.count ≡ t.count → s.terminal.0 ≡ t.terminal.0 → s ≡ t
stamp-same s t p q = λ i. record { count = p i; terminal = record { 0 = q i } }

named-in-line : {C : Type 0} (p : Operation C) (c : C) (s : Stamp) → Named p c s → in_line p ≡ true
named-in-line p c s (k, t) = rw (k, t) refl

stamp-is : {C : Type 0} (p : Operation C) (s : Stamp) → p.stamp ≡ Some s → settled_stamp p ≡ s
stamp-is p s e = rw e refl

read-no-write : {C : Type 0} (p : Operation C) → p.kind ≡ Read → is_write p.kind ≡ false
read-no-write p z = rw z refl

read-card : {C : Type 0} (p : Operation C) (a : Collection C) → p.kind ≡ Read → p.collected ≡ Some a → card_of p ≡ Some a.card
read-card p a z e = rw (z, e) refl

module _ {C : Type 0} (first : C) (founder : Terminal) (os : List (Operation C)) (stamps : Stamps first founder os) (tidy : Tidy os) where
  in_order : Sorted (line os)
  in_order = sorted-line os (apart-nth os tidy.rising)

  one_place : (j k : ℕ) (p : Operation C) → slice_get (line os) j ≡ Some p → slice_get (line os) k ≡ Some p → j ≡ k
  one_place j k p e f = let i = irrefl p in elim (cases_order j k) [
    | inl h ↦ h
    | inr h ↦ elim h [ inl l ↦ absurd (let z = sorted-nth (line os) j k p p in_order l e f in grind arith) | inr l ↦ absurd (let z = sorted-nth (line os) k j p p in_order l f e in grind arith) ]
  ]

  pub unique : (j k : ℕ) (p q : Operation C) → slice_get (line os) j ≡ Some p → slice_get (line os) k ≡ Some q → is_write p.kind ≡ true → is_write q.kind ≡ true →
      p.stamp ≡ q.stamp → j ≡ k
  unique j k p q e f wp wq same = elim (kind-cases p.kind) [
    | inl z ↦ absurd (let i = read-no-write p z in grind arith)
    | inr c ↦ elim (kind-cases q.kind) [
      | inl z ↦ absurd (let i = read-no-write q z in grind arith)
      | inr d ↦ (let a = line-from os j p e in let b = line-from os k q f in let s = line-stamped os tidy j p e in
          let here = stamps.names a.0 b.0 p q c.0 d.0 s.0 a.1 b.1 (c.1, s.1) (d.1, sym same ∙ s.1) in
          let x = a.1 in let y = b.1 in let w = ap (slice_get os) here in let u : p ≡ q = cc in one_place j k p e (rw u f))
    ]
  ]

  -- in front of an operation with the first stamp there are only reads
  reads_before : (k : ℕ) (p : Operation C) → slice_get (line os) k ≡ Some p → (settled_stamp p).count ≡ 0 → (j : ℕ) (r : Operation C) → j < k →
      slice_get (line os) j ≡ Some r → r.kind ≡ Read
  reads_before k p e z j r l f = elim (kind-cases r.kind) [
    | inl h ↦ h
    | inr d ↦ absurd (let s = line-stamped os tidy j r f in let a = line-from os j r f in let o = stamps.counts a.0 r d.0 s.0 a.1 (d.1, s.1) in
        let v = ap (λ (x : Stamp). x.count) (stamp-is r s.0 s.1) in let w = sorted-nth (line os) j k r p in_order l f e in let t = ahead-tells r p in grind arith)
  ]

  -- between a write and an operation with its stamp there are only reads
  reads-between : (m k : ℕ) (q p : Operation C) (c : C) → slice_get (line os) m ≡ Some q → slice_get (line os) k ≡ Some p → q.kind ≡ Write c → settled_stamp q ≡ settled_stamp p →
      (j : ℕ) (r : Operation C) → m < j → j < k → slice_get (line os) j ≡ Some r → r.kind ≡ Read
  reads-between m k q p c em ek w same j r l l' f = elim (kind-cases r.kind) [
    | inl h ↦ h
    | inr d ↦ absurd (let g = sorted-nth (line os) m j q r in_order l em f in let g' = sorted-nth (line os) j k r p in_order l' f ek in
        let t = ahead-tells q r in let t' = ahead-tells r p in
        let x = ap (λ (x : Stamp). x.count) same in let y = ap (λ (x : Stamp). x.terminal.0) same in
        let u : settled_stamp q ≡ settled_stamp r = stamp-same (settled_stamp q) (settled_stamp r) (grind arith) (grind arith) in
        let s = line-stamped os tidy m q em in let s' = line-stamped os tidy j r f in
        let v : q.stamp ≡ r.stamp = s.1 ∙ ap Some (sym (stamp-is q s.0 s.1) ∙ u ∙ stamp-is r s'.0 s'.1) ∙ sym s'.1 in
        let n = unique m j q r em f (rw w refl) (rw d.1 refl) v in omega arith)
  ]

  pub cell : (k : ℕ) (p : Operation C) → slice_get (line os) k ≡ Some p → p.kind ≡ Read → card_of p ≡ Some (cell_after first (take k (line os)))
  cell k p e z =
      let r = line-from os k p e in let a = read-collected p z r.2 in
      let st = tidy.stamped r.0 p a.0 r.1 a.1 in let sp = stamp-is p a.0.stamp st in
      let ans = read-card p a.0 z a.1 in
      elim (stamps.reads r.0 p a.0 r.1 z a.1) [
        | inl h ↦ ans ∙ ap Some (h.0 ∙ sym (cell-reads first (line os) k (reads_before k p e (ap (λ (x : Stamp). x.count) (sp ∙ h.1)))))
        | inr h ↦ (let q = h.1 in let m = line-has os h.0 q h.2 (named-in-line q a.0.card a.0.stamp h.3) in
            let w = h.3.0 in
            let same : settled_stamp q ≡ settled_stamp p = stamp-is q a.0.stamp h.3.1 ∙ sym sp in
            let x = ap (λ (x : Stamp). x.count) same in let y = ap (λ (x : Stamp). x.terminal.0) same in
            let t = ahead-tells q p in
            let l = stands (line os) m.0 k q p in_order m.1 e (grind arith) in
            ans ∙ ap Some (sym (cell-write first (line os) m.0 k q a.0.card l m.1 w (reads-between m.0 k q p a.0.card m.1 e w same))))
      ]

  pub order : (j k : ℕ) (p q : Operation C) → slice_get (line os) j ≡ Some p → slice_get (line os) k ≡ Some q → Precedes p q → j < k
  order j k p q e f (a, c, l) =
      let s = line-stamped os tidy j p e in let t = line-stamped os tidy k q f in let x = line-from os j p e in let y = line-from os k q f in
      let h = stamps.rises x.0 y.0 p q s.0 t.0 x.1 y.1 (a, c, l) s.1 t.1 in
      let b = tidy.later x.0 p a x.1 c in
      let u = stamp-is p s.0 s.1 in let v = stamp-is q t.0 t.1 in
      let w = below-tells s.0 t.0 in let w' = below-tells t.0 s.0 in
      let r = ahead-tells p q in
      stands (line os) j k p q in_order e f (grind arith)
