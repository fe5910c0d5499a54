use Rattle.std.proofs.Common.{◌≡◌, ◌∙◌, ◌<◌, ◌≤◌, length, get_or, ap, rules, arith}
use Rattle.std.proofs.lemmas.List.{set-get_or}
use Rattle.parts.specs.declared.entries.Entry.TheVariants.{Unknown}
use Rattle.parts.proofs.Partway.{partway-more, partway-past, partway-all}
use Rattle.parts.proofs.entries.put_together.Goals as goal
use Rattle.parts.proofs.entries.put_together.Goals.{in-Some, in_default}

pub loop-k-preserved : goal.loop-k-preserved
loop-k-preserved g c f rule =
    let xs = c.args.own.now in
    let ys = c.args.other.now in
    let k = c.loop-k.k in
    let so-far = c.loop-k.invariant f rule in
    elim c.match-get.branch [
      | in-Some w ↦
          let has : k < length ys = search rules in
          let theirs : w.in-Some.theirs.now ≡ get_or ys k Unknown = search rules in
          w.own-is ∙ partway-more f xs ys c.loop-k.own k Unknown _ (search rules) has so-far (rule _ _ _ w.rule.ensures ∙ ap (f _) theirs)
      | in_default w ↦
          let past : length ys ≤ k = search rules in
          w.own-is ∙ set-get_or c.loop-k.own k Unknown ∙ so-far ∙ partway-past f xs ys k past
    ]

pub returns : goal.returns
returns g c f rule = c.loop-k.invariant f rule ∙ partway-all f c.args.own.now c.args.other.now c.loop-k.k (omega arith)
