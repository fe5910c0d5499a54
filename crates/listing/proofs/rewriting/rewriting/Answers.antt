use Rattle.std.specs.Prelude.{string_bytes}
use Rattle.std.proofs.lemmas.Result.{IfOk-weaker}
use Rattle.callfile.specs.Kinds.{kinds_of}
use Rattle.listing.proofs.Rewrites.{kinds_said}
use Rattle.listing.proofs.rewriting.rewriting.Goals as goal

pub returns : goal.returns
returns c =
    let file = c.args.file.now in
    IfOk-weaker c.report_of.result _ _ (λ t e. kinds_said file (string_bytes t) (kinds_of file) e) c.report_of.ensures
