use Rattle.std.proofs.Common.{◌<◌, Bool, length, get_or, sym, ap, ◌∙◌, rules}
use Rattle.std.proofs.lemmas.List.{drop_more}
use Rattle.std.proofs.lemmas.Bool.{cond-true, cond-false}
use Rattle.parts.specs.Sets.{has}
use Rattle.books.specs.Votes.{weight_from}
use Rattle.books.proofs.votes.VotesGroup.weight.Goals as goal
use Rattle.books.proofs.votes.VotesGroup.weight.Goals.{then-contains, else-contains}

pub loop-t-preserved : goal.loop-t-preserved
loop-t-preserved c =
    let votes = c.args.self.now.votes in
    let t = c.loop-t.t in
    let lt : t < length votes = search rules in
    let inside : Bool = has c.args.set (record { 0 = t }) in
    let more = ap (λ votes. weight_from t votes c.args.set) (drop_more votes t 0 lt) in
    elim c.if-contains.branch [
      | then-contains w ↦ let v = cond-true inside (get_or votes t 0) 0 (sym c.contains.ensures ∙ w.if-contains.true) in search rules
      | else-contains w ↦ let v = cond-false inside (get_or votes t 0) 0 (sym c.contains.ensures ∙ w.if-contains.false) in search rules
    ]
