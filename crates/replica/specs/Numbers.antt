-- Phase numbers, and the largest one heard from each terminal.
use Rattle.std.specs.Prelude.{ℕ, max, List, slice_index_or, slice_set}
use Rattle.parts.specs.declared.counts.PhaseNumber.{PhaseNumber}

-- the phase number n
abbrev pub phase_number : ℕ → PhaseNumber
phase_number n = record { 0 = n }

-- the number heard from terminal j rises to n if that is larger
abbrev pub raised : ℕ → PhaseNumber → List PhaseNumber → List PhaseNumber
raised j n ns = slice_set ns j (phase_number (max (slice_index_or ns j (phase_number 0)).0 n.0))
