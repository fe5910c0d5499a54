use Rattle.std.proofs.Common.{ℕ, drop, ap, ◌∙◌}
use Rattle.std.proofs.lemmas.List.{take_rest}
use Rattle.std.specs.List.{list_any}
use Rattle.parts.specs.Charts.{is_group}
use Rattle.parts.proofs.Walks.{gap-any}
use Rattle.parts.proofs.entries.gap_in_entries.Goals as goal

pub returns : goal.returns
returns c =
    let xs = c.args.entries.now in
    c.has_group.ensures
    ∙ (ap (list_any is_group) (take_rest xs c.known_entries.result)
    ∙ (ap (λ (n : ℕ). list_any is_group (drop n xs)) c.known_entries.ensures.value ∙ gap-any xs))
