use Rattle.std.proofs.Common.{◌≡◌, ◌*◌, ◌++◌, take, drop}
use Rattle.cards.specs.Words.{words_bytes}
use Rattle.cards.proofs.words.put_words.Given as goal

abbrev pub invariant-loop-i : goal.invariant-loop-i
invariant-loop-i l = l.out ≡ words_bytes (take l.i l.words) ++ drop (2 * l.i) l.initial.out
