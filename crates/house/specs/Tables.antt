-- The pool's table when a message leaves.
use Rattle.std.specs.Prelude.{ℕ, ◌+◌, ◌-◌, List, ◌++◌, length, take, drop}

-- each row behind the first moves up by one; the last place keeps what it had
abbrev pub moved_up : {X : Type 0} → List X → List X
moved_up xs = drop 1 xs ++ drop (length xs - 1) xs

-- of the first n rows the one at p leaves, and those behind it move up by one; the place that falls free keeps what it had
abbrev pub closed_up : {X : Type 0} → ℕ → ℕ → List X → List X
closed_up p n xs = take p xs ++ (drop (p + 1) (take n xs) ++ drop (n - 1) xs)
