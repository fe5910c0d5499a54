-- The law of the line holds of every house, whatever calls are offered to it.
use Rattle.std.proofs.Common.{◌≡◌, ℕ, List, [], ◌∷◌, ◌++◌, Some, None, Ok, Option, sym, refl, ap, ◌∙◌, subst, arith}
use Rattle.std.proofs.lemmas.List.{append-nil, append_assoc}
use Rattle.parts.specs.declared.counts.Group.{Group}
use Rattle.parts.specs.declared.counts.Terminal.{Terminal}
use Rattle.parts.specs.declared.sets.TerminalSet.{TerminalSet}
use Rattle.replica.specs.declared.messages.Message.{Message}
use Rattle.replica.specs.declared.refusals.Refusal.{Refusal}
use Rattle.replica.specs.declared.replicas.Replica.{Replica}
use Rattle.house.specs.Calls.{Outcome, step}
use Rattle.house.specs.Opening.{new_state, opening, open_step}
use Rattle.house.specs.States.{State}
use Rattle.house.specs.Steps.{Rule}
use Rattle.invariants.proofs.Days.{Day, day_on, day_by}
use Rattle.invariants.proofs.Joint.{Lawful as Meeting, first_day, fine-open, ops-ok}
use Rattle.history.specs.Events.{Event, other, event_of}
use Rattle.history.specs.Operations.{operations_from, operations_of}
use Rattle.history.specs.Law.{Atomic}
use Rattle.history.specs.Offers.{Offer, own, strange, offer_outcomes, offer_history, Lawful}
use Rattle.history.proofs.Converted.{stamps}
use Rattle.history.proofs.Keeps.{orderly-none}
use Rattle.history.proofs.Main.{law, lined}
use Rattle.history.proofs.Offers.{strange-declined, size_step}
use Rattle.history.proofs.Beside.{Good, good-call, good-ticks}

-- what an accepted opening leaves
opened-is : {B C : Type 0} (r : Option Refusal) (book : B) (n : ℕ) (founder : Terminal) (first : C) (rs : List (Replica C)) (ms : List (Message C)) (s : State B C) →
    (opening r book n founder first rs ms).0 ≡ Ok s → new_state book n founder first ms ≡ s
opened-is (Some e) book n founder first rs ms s h = absurd (grind arith)
opened-is None book n founder first rs ms s h = cc

module _ {B C : Type 0} (count : B → ℕ) (members : B → Group → TerminalSet) (reads writes : Rule B) (meet : Meeting reads writes) (first : C) (founder : Terminal) (n : ℕ) where
  -- an offered call: its event, and the day after it
  abbrev event_by : Offer C n → Day B C → Event C
  event_by (own call) d = event_of call (step count members reads writes call d.now).0
  event_by (strange call rs ms f) d = other

  abbrev day_after : Offer C n → Day B C → Day B C
  day_after (own call) d = day_by first call (step count members reads writes call d.now) d
  day_after (strange call rs ms f) d = day_on d.now d

  good-offer : (o : Offer C n) (h : List (Event C)) (d : Day B C) → Good reads writes first founder n h d →
      Good reads writes first founder n (h ++ event_by o d ∷ []) (day_after o d)
  good-offer (own call) h d g = good-call count members reads writes meet h d g call
  good-offer (strange call rs ms f) h d g = good-ticks count members reads writes meet h d g

  -- the history, told on from h; and the day at its end
  told : List (Offer C n) → List (Event C) → Day B C → List (Event C)
  told [] h d = h
  told (o ∷ os) h d = told os (h ++ event_by o d ∷ []) (day_after o d)

  day_at_end : List (Offer C n) → Day B C → Day B C
  day_at_end [] d = d
  day_at_end (o ∷ os) d = day_at_end os (day_after o d)

  good-told : (os : List (Offer C n)) (h : List (Event C)) (d : Day B C) → Good reads writes first founder n h d →
      Good reads writes first founder n (told os h d) (day_at_end os d)
  unfolding told day_at_end
  good-told [] h d g = g
  good-told (o ∷ os) h d g = good-told os _ _ (good-offer o h d g)

  size-after : (o : Offer C n) (d : Day B C) → d.now.size ≡ n → (day_after o d).now.size ≡ n
  size-after (own call) d e = size_step count members reads writes call d.now ∙ e
  size-after (strange call rs ms f) d e = e

  -- it is the history of the offers
  told_more : (o : Offer C n) (os : List (Offer C n)) (h : List (Event C)) (d : Day B C) → d.now.size ≡ n →
      (h ++ event_by o d ∷ []) ++ offer_history count members reads writes os (day_after o d).now ≡ h ++ offer_history count members reads writes (o ∷ os) d.now
  unfolding offer_outcomes
  told_more (own call) os h d e = append_assoc h _ _
  told_more (strange call rs ms f) os h d e =
      append_assoc h _ _
      ∙ ap (λ (z : Outcome C × State B C). h ++ event_of call z.0 ∷ offer_history count members reads writes os z.1) (sym (strange-declined count members reads writes n call rs ms f d.now e))

  told_is : (os : List (Offer C n)) (h : List (Event C)) (d : Day B C) → d.now.size ≡ n → told os h d ≡ h ++ offer_history count members reads writes os d.now
  unfolding told offer_outcomes
  told_is [] h d e = sym (append-nil h)
  told_is (o ∷ os) h d e = told_is os _ _ (size-after o d e) ∙ told_more o os h d e

  good-open : (book : B) (rs : List (Replica C)) (ms : List (Message C)) (s : State B C) → (open_step members book n founder first rs ms).0 ≡ Ok s →
      Good reads writes first founder n [] (first_day s)
  unfolding operations_of operations_from
  good-open book rs ms s opened = record {
    orderly = orderly-none;
    same = refl;
    long = refl;
    size = ap (λ (z : State B C). z.size) (sym (opened-is _ book n founder first rs ms s opened));
    fine = fine-open reads writes members book n founder first rs ms s opened;
  }

  atomic : (h : List (Event C)) (d : Day B C) → Good reads writes first founder n h d → Atomic first h
  atomic h d g = law first founder h g.orderly (rw g.same (stamps first founder d.ops (ops-ok d g.fine)))

  -- whatever is offered to a house that was opened
  pub lawful : (book : B) (rs : List (Replica C)) (ms : List (Message C)) → Lawful count members reads writes book n founder first rs ms
  lawful book rs ms s opened offers =
      let g = good-open book rs ms s opened in (
        subst (λ h. Atomic first h) (told_is offers [] (first_day s) g.size) (atomic _ _ (good-told offers [] (first_day s) g)),
        lined (offer_history count members reads writes offers s),
      )
