-- Every move keeps what holds of messages and of retired places.
use Rattle.std.proofs.Common.{◌≡◌, ℕ, suc, sym, inl, inr, le_trans, arith}
use Rattle.parts.specs.declared.entries.Entry.TheVariants.{Retired}
use Rattle.parts.specs.declared.stamps.Stamp.{Stamp}
use Rattle.parts.specs.ChartLaws.{entry_in}
use Rattle.parts.specs.Charts.{length_list}
use Rattle.invariants.proofs.Books.{Book}
use Rattle.invariants.proofs.Entries.{Entries, EntryStamps, entered_at, entry-grows, frozen, open-end}
use Rattle.invariants.proofs.Invariant.{Gone, HandedOver, Past}
use Rattle.invariants.proofs.Moves.{Move}
use Rattle.invariants.proofs.Stamps.{Le, le-eq, le_same, le_then}
use Rattle.invariants.proofs.Steps.{Step, each, lens-grow}
use Rattle.invariants.proofs.Views.{View, chart, row}

module _ {C : Type 0} {B : Book} {s s' : View C} {i : ℕ} (E : EntryStamps) (st : Step s s' i) where
  pub handed-grows : (k : ℕ) (τ τ' : Stamp) → Le τ τ' → HandedOver B s E k τ → HandedOver B s' (entered_at s' E) k τ'
  handed-grows k τ τ' l h = record {
    who = h.who;
    known = (st.listed k h.known).0;
    reads = rw (st.listed k h.known).1 h.reads;
    writes = rw (st.listed k h.known).1 h.writes;
    far = λ j m. le_trans (h.far j m) (lens-grow st j);
    early = λ j m. rw (frozen s' E j (suc k) (le_trans (h.far j m) (lens-grow st j))) (le_then (h.early j m) l);
  }

module _ {C : Type 0} {s s' : View C} {i : ℕ} (E : EntryStamps) (st : Step s s' i) where
  pub past-grows : (j k : ℕ) (τ τ' : Stamp) → Le τ τ' → Past s E j k τ → Past s' (entered_at s' E) j k τ'
  past-grows j k τ τ' l h = record {
    far = le_trans h.far (lens-grow st j);
    early = rw (frozen s' E j (suc k) (le_trans h.far (lens-grow st j))) (le_then h.early l);
  }

module _ {C : Type 0} {B : Book} {s s' : View C} {E : EntryStamps} {i : ℕ} (en : Entries s E) (old : Gone B s E) (mv : Move B s E s' i) where
  new-terms : (j k : ℕ) → entry_in (chart s' j) k ≡ Retired → HandedOver B s' (entered_at s' E) k (row s' j).stamp
  new-terms j k = each mv.step (λ j t. entry_in t.chart.places k ≡ Retired → HandedOver B s' (entered_at s' E) k t.stamp)
      (λ e. handed-grows E mv.step k _ _ (le_same _) (mv.gone k e))
      (λ j e. handed-grows E mv.step k _ _ (le_same _) (old.terms j k e)) j

  pub keep-gone : Gone B s' (entered_at s' E)
  keep-gone = record {
    sent = λ f t b h. elim (mv.step.pool f t b h) [
      | inl o ↦ le_then (old.sent f t b o) (entry-grows E mv.step en f (length_list b.chart.places))
      | inr n ↦ rw (n.0, n.1) (le-eq (sym (open-end s' E i (length_list (chart s' i)) (omega arith))))
    ];
    terms = new-terms;
    msgs = λ f t b h. elim (mv.step.pool f t b h) [
      | inl o ↦ (λ k e. handed-grows E mv.step k _ _ (le_same _) (old.msgs f t b o k e))
      | inr n ↦ rw n.1 (new-terms i)
    ];
  }
