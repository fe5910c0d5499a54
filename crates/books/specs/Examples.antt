-- Worked examples of groups of votes.
use Rattle.std.specs.Prelude.{◌≡◌, ℕ, true, false, [], ◌∷◌, Some, Err}
use Rattle.parts.specs.declared.sets.TerminalSet.{TerminalSet}
use Rattle.parts.specs.Sets.{nobody, with_one}
use Rattle.books.specs.declared.causes.Cause.TheVariants.{BadEntry}
use Rattle.books.specs.declared.votes.VotesGroup.{VotesGroup}
use Rattle.books.specs.Causes.{cause_number}
use Rattle.books.specs.Votes.{sound, holds_one}
use Rattle.books.specs.Tables.{in_group, add_step}

-- terminals i and j
abbrev pub pair : ℕ → ℕ → TerminalSet
pair i j = with_one (with_one nobody (record { 0 = i })) (record { 0 = j })

-- three terminals with these votes, the others with none, and the thresholds r and w
abbrev pub three : ℕ → ℕ → ℕ → ℕ → ℕ → VotesGroup
three u v x r w = record { votes = u ∷ v ∷ x ∷ 0 ∷ 0 ∷ 0 ∷ 0 ∷ 0 ∷ 0 ∷ 0 ∷ 0 ∷ 0 ∷ 0 ∷ 0 ∷ 0 ∷ 0 ∷ []; r = r; w = w }

-- Votes 2, 1 and 1 with thresholds 2 and 3 keep the rule: terminals 1 and 2 read and do not write, terminals 0 and 1 write.
-- Votes 1, 1 and 1 with thresholds 1 and 2 break it, and are declined by 25.
abbrev pub VotesExamples : Type 0
VotesExamples =
    (sound (three 2 1 1 2 3) ≡ true)
    × (in_group (holds_one (λ g. g.r)) (Some (three 2 1 1 2 3)) (pair 1 2) ≡ true)
    × (in_group (holds_one (λ g. g.w)) (Some (three 2 1 1 2 3)) (pair 1 2) ≡ false)
    × (in_group (holds_one (λ g. g.w)) (Some (three 2 1 1 2 3)) (pair 0 1) ≡ true)
    × (sound (three 1 1 1 1 2) ≡ false)
    × (add_step sound (three 1 1 1 1 2) [] ≡ (Err BadEntry, []))
    × (cause_number BadEntry ≡ 25)
