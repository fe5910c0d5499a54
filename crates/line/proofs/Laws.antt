-- The law of the line of a house, from the laws of its book.
use Rattle.std.proofs.Common.{◌≡◌, ℕ, true, List}
use Rattle.parts.specs.declared.counts.Group.{Group}
use Rattle.parts.specs.declared.counts.Terminal.{Terminal}
use Rattle.parts.specs.declared.sets.TerminalSet.{TerminalSet}
use Rattle.parts.specs.Sets.{Meet}
use Rattle.books.proofs.Meeting.{Found}
use Rattle.replica.specs.declared.messages.Message.{Message}
use Rattle.replica.specs.declared.replicas.Replica.{Replica}
use Rattle.house.specs.Steps.{Rule}
use Rattle.invariants.proofs.Joint.{lawful as meeting}
use Rattle.history.specs.Offers.{Lawful}
use Rattle.history.proofs.Lawful.{lawful}

module _ {B C : Type 0} (size : B → ℕ) (members : B → Group → TerminalSet) (read_set write_set reads writes : Rule B) where
  pub law-holds :
      Found read_set reads → Found write_set writes → ((b : B) (c : Group) (p q : TerminalSet) → read_set b c p ≡ true → write_set b c q ≡ true → Meet p q) →
      (book : B) (n : ℕ) (founder : Terminal) (first : C) (rs : List (Replica C)) (ms : List (Message C)) → Lawful size members reads writes book n founder first rs ms
  law-holds reads_found writes_found meet book n founder first rs ms =
      lawful size members reads writes (meeting read_set write_set reads writes reads_found writes_found meet) first founder n book rs ms
