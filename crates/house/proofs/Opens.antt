-- An accepted opening.
use Rattle.std.proofs.Common.{◌≡◌, ℕ, List, length, replicate, None, Ok, ap, ◌∙◌, arith}
use Rattle.std.proofs.lemmas.Bool.Decides.{nat_tests}
use Rattle.parts.specs.declared.counts.Group.{Group}
use Rattle.parts.specs.declared.counts.Terminal.{Terminal}
use Rattle.parts.specs.declared.sets.TerminalSet.{TerminalSet}
use Rattle.replica.specs.declared.messages.Message.{Message}
use Rattle.replica.specs.declared.replicas.Replica.{Replica}
use Rattle.replica.specs.Replicas.{fresh}
use Rattle.house.specs.Opening.{first_group, why_not_open, new_state, opening, open_step, Opened}

-- the tables of an accepted opening have a row for each terminal
opened_rows : (m : TerminalSet) (n : ℕ) (f : Terminal) (rows ms : ℕ) → None ≡ why_not_open m n f rows ms → rows ≡ n
opened_rows m n f rows ms e = grind (arith, nat_tests)

module _ {B C : Type 0} (members : B → Group → TerminalSet) (book : B) (n : ℕ) (f : Terminal) (first : C) (rs rs' : List (Replica C)) (ms : List (Message C)) where
  abbrev made : List (Replica C) → Opened B C
  made ts = (Ok (record { book = book; size = n; founder = f; listed = (new_state book n f first ms).listed; waiting = 0; replicas = ts; messages = ms }), ts)

  pub open_done :
      (m : TerminalSet) → m ≡ members book first_group → None ≡ why_not_open m n f (length rs) (length ms) →
      rs' ≡ replicate (length rs) (fresh first f) → made rs' ≡ open_step members book n f first rs ms
  open_done m is none filled =
      let rows : length rs ≡ n = opened_rows m n f (length rs) (length ms) none in
      ap made (filled ∙ ap (λ k. replicate k (fresh first f)) rows)
      ∙ ap (λ why. opening why book n f first rs ms) none
      ∙ ap (λ s. opening (why_not_open s n f (length rs) (length ms)) book n f first rs ms) is
