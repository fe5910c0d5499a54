-- In any book, a set that holds a read set and one that holds a write set share a terminal.
use Rattle.std.proofs.Common.{◌≡◌, Bool, true}
use Rattle.parts.specs.declared.counts.Group.{Group}
use Rattle.parts.specs.declared.sets.TerminalSet.{TerminalSet}
use Rattle.parts.specs.Sets.{Within, Meet}

-- where the answer is yes, there is one of the family within the set
abbrev pub Found : {B : Type 0} → (B → Group → TerminalSet → Bool) → (B → Group → TerminalSet → Bool) → Type 0
Found {B = B} family answer = (b : B) (c : Group) (s : TerminalSet) → answer b c s ≡ true → (q : TerminalSet) × (family b c q ≡ true) × Within q s

pub answers-meet : {B : Type 0} (read_set write_set reads writes : B → Group → TerminalSet → Bool) →
    Found read_set reads → Found write_set writes →
    ((b : B) (c : Group) (p q : TerminalSet) → read_set b c p ≡ true → write_set b c q ≡ true → Meet p q) →
    (b : B) (c : Group) (s s' : TerminalSet) → reads b c s ≡ true → writes b c s' ≡ true → Meet s s'
answers-meet read_set write_set reads writes reads_found writes_found first b c s s' h l =
    let p = reads_found b c s h in
    let q = writes_found b c s' l in
    let m = first b c p.0 q.0 p.1 q.1 in
    (m.0, p.2 m.0 m.1, q.2 m.0 m.2)
