-- The operation of a terminal is the last one begun there.
use Rattle.std.proofs.Common.{◌≡◌, ℕ, ◌<◌, ◌≤◌, Bool, true, false, ◌⊎◌, List, sym, refl, ap, ◌∙◌, inl, inr, le_trans}
use Rattle.std.proofs.lemmas.Bool.{false≢true}
use Rattle.parts.specs.declared.entries.Entry.{Entry}
use Rattle.parts.specs.declared.sets.TerminalSet.{TerminalSet}
use Rattle.replica.specs.declared.replicas.Replica.{Replica}
use Rattle.invariants.proofs.Bases.{Base, Rec}
use Rattle.invariants.proofs.Books.{Book}
use Rattle.invariants.proofs.Operations.{card-of, free-done, free-kept, free-query, is_done, is_free, is_kept, is_query, kind-of, put-card, put-done, put-free, put-kept, put-kind, put-op, put-query, put-stamp, stamp-of}
use Rattle.invariants.proofs.Ops.{Op}
use Rattle.invariants.proofs.Steps.{Step}
use Rattle.invariants.proofs.Views.{op, row}
use Rattle.invariants.proofs.World.{Current, Inside, Now, Sound, World}

-- with no operation there is nothing to say
pub current-free : {C : Type 0} {first : C} {t : Replica C} {i : ℕ} {o : Op C} {In : Type 0} {b : Base} {r : Rec} → is_free t.operation ≡ true →
    Current first t i o In b r
current-free {t = t} e = record {
  inside = λ h. absurd (false≢true (sym h ∙ e));
  mine = λ h. absurd (false≢true (sym h ∙ e));
  open-still = λ h. absurd (false≢true (sym h ∙ e));
  begun = λ h. absurd (free-query _ e h);
  kind = λ h. absurd (free-query _ e h);
  unsettled = λ h. absurd (free-query _ e h);
  settled = λ h. absurd (free-kept _ e h);
  stamp = λ h. absurd (free-kept _ e h);
  card = λ h. absurd (free-kept _ e h);
  confirmed = λ h. absurd (free-done _ e h);
  rec-stamp = λ h. absurd (free-done _ e h);
}

-- the same operation with another chart and other terminals heard
pub current-put : {C : Type 0} {first : C} {t t' : Replica C} {i : ℕ} {o : Op C} {In : Type 0} {b : Base} {r : Rec}
    (a : List Entry) (h : TerminalSet) → t'.operation ≡ put-op t.operation a h → Current first t i o In b r → Current first t' i o In b r
current-put {t = t} {t' = t'} a h e c =
    let en : is_free t'.operation ≡ is_free t.operation = ap is_free e ∙ put-free a h t.operation in
    let eq : is_query t'.operation ≡ is_query t.operation = ap is_query e ∙ put-query a h t.operation in
    let ek : is_kept t'.operation ≡ is_kept t.operation = ap is_kept e ∙ put-kept a h t.operation in
    let ed : is_done t'.operation ≡ is_done t.operation = ap is_done e ∙ put-done a h t.operation in
    let es : stamp-of t'.operation ≡ stamp-of t.operation = ap stamp-of e ∙ put-stamp a h t.operation in
    record {
      inside = λ g. c.inside (sym en ∙ g);
      mine = λ g. c.mine (sym en ∙ g);
      open-still = λ g. c.open-still (sym en ∙ g);
      begun = λ g. c.begun (sym eq ∙ g);
      kind = λ g. c.kind (sym eq ∙ g) ∙ sym (ap kind-of e ∙ put-kind a h t.operation);
      unsettled = λ g. c.unsettled (sym eq ∙ g);
      settled = λ g. c.settled (sym ek ∙ g);
      stamp = λ g. c.stamp (sym ek ∙ g) ∙ sym es;
      card = λ g c₀ k. ap (card-of _) e ∙ put-card a h _ t.operation ∙ c.card (sym ek ∙ g) c₀ k;
      confirmed = λ g. c.confirmed (sym ed ∙ g);
      rec-stamp = λ g. c.rec-stamp (sym ed ∙ g) ∙ sym es;
    }

-- the others, where one operation y and its record may have changed
module _ {C : Type 0} {B : Book} {first : C} {founder : ℕ} (w w' : World C) {i : ℕ} (v : Sound B first founder w) (st : Step w.s w'.s i) where
  pub others-now : (y : ℕ) → ((x : ℕ) → (x ≡ y → ⊥) → w'.O x ≡ w.O x) → ((x : ℕ) → (x ≡ y → ⊥) → w'.recs x ≡ w.recs x) → w.n ≤ w'.n →
      ((x : ℕ) → x < w'.n → ((x < w.n) × ((w'.O x).terminal ≡ (w.O x).terminal)) ⊎ ((w'.O x).terminal ≡ i)) →
      ((x : ℕ) → (x ≡ i → ⊥) → w'.cur x ≡ w.cur x) → ((x : ℕ) → (x ≡ i → ⊥) → w'.base x ≡ w.base x) →
      ((x : ℕ) → (x ≡ i → ⊥) → is_free (op w.s x) ≡ false → w.cur x ≡ y → ⊥) →
      (x : ℕ) → (x ≡ i → ⊥) → Now first w' x
  others-now y eo er le et ec eb nc x ne = rw (st.others x ne, ec x ne, eb x ne) (go (is_free (op w.s x)) refl)
    where
      go : (z : Bool) → is_free (op w.s x) ≡ z →
          Current first (row w.s x) x (w'.O (w.cur x)) (Inside w'.O w'.n (w.cur x) x) (w.base x) (w'.recs (w.cur x))
      go true e = current-free e
      go false e = let c = v.now x in let z = nc x ne e in rw (eo (w.cur x) z, er (w.cur x) z) (record {
        inside = λ g. record {
          here = le_trans (c.inside g).here le;
          last = λ z l h q. elim (et z h) [
            | inl p ↦ (c.inside g).last z l p.0 (sym p.1 ∙ q)
            | inr p ↦ ne (sym q ∙ p)
          ];
        };
        mine = c.mine;
        open-still = c.open-still;
        begun = c.begun;
        kind = c.kind;
        unsettled = c.unsettled;
        settled = c.settled;
        stamp = c.stamp;
        card = c.card;
        confirmed = c.confirmed;
        rec-stamp = c.rec-stamp;
      })

-- two terminals that are busy are busy with two operations
module _ {C : Type 0} {B : Book} {first : C} {founder : ℕ} (w : World C) (i : ℕ) (v : Sound B first founder w) where
  pub not-mine : is_free (op w.s i) ≡ false → (x : ℕ) → (x ≡ i → ⊥) → is_free (op w.s x) ≡ false → w.cur x ≡ w.cur i → ⊥
  not-mine b x ne e q = ne (sym ((v.now x).mine e) ∙ ap (λ z. (w.O z).terminal) q ∙ (v.now i).mine b)
