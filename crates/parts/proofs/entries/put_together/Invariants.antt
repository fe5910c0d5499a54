use Rattle.std.proofs.Common.{◌≡◌}
use Rattle.parts.specs.declared.entries.Entry.{Entry}
use Rattle.parts.proofs.Partway.{partway}
use Rattle.parts.proofs.entries.put_together.Given as goal

abbrev pub invariant-loop-k : goal.invariant-loop-k
invariant-loop-k g l =
    (f : Entry → Entry → Entry) → ((a b e : Entry) → goal.F-post g l.rule a b e → e ≡ f a b) → l.own ≡ partway f l.k l.initial.own l.other
