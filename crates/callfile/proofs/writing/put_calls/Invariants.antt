use Rattle.callfile.specs.Format.{call_bytes}
use Rattle.callfile.proofs.Pieces.{Put}
use Rattle.callfile.proofs.writing.put_calls.Given as goal

abbrev pub invariant-loop-call : goal.invariant-loop-call
invariant-loop-call g l = Put (call_bytes g.C.CardKind.shape) l.calls l.initial.out l.byte l.call-index l.out
