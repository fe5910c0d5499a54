use Rattle.std.proofs.Common.{◌≡◌, ℕ, List, ap, ◌∙◌}
use Rattle.std.proofs.lemmas.List.{take_at}
use Rattle.std.proofs.lemmas.Result.{IfOk-weaker}
use Rattle.callfile.specs.Writing.{written}
use Rattle.listing.specs.Reports.{day_from}
use Rattle.listing.specs.Rewriting.{copy_line}
use Rattle.listing.proofs.Rewrites.{again}
use Rattle.listing.proofs.rewriting.RewriteReport.text.Goals as goal

pub returns : goal.returns
returns g c =
    let k = g.C.CardKind in
    let q = g.G.GroupKind in
    let d = day_from c.args.day (g.B.GroupTable.groups c.args.book) c.args.calls.now in
    let out = c.write-written.new.out in
    let copy : c.deref.result.now ≡ out = c.deref.ensures.value ∙ take_at out _ _ (c.write-written.auto.out ∙ c.deref_mut.ensures.len) in
    IfOk-weaker c.to_string.result _ _
    (λ t e. e ∙ ap copy_line (c.same_bytes-same.ensures.same.1
    (ap (λ (ys : List ℕ). (c.write-written.result, ys)) copy
    ∙ (c.write-written.ensures.answer
    ∙ (ap (written k.KIND q.BOOK_KIND k.WIDTH k.shape q.entry_bytes d) (c.deref_mut.ensures.value ∙ c.in_ok-copy.ensures)
    ∙ again k.KIND q.BOOK_KIND k.WIDTH k.shape q.entry_bytes q.keeps d c.args.file.now (c.requires.same d c.requires.day))))))
    c.to_string.ensures.ok
