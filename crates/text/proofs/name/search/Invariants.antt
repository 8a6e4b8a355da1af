-- `text::name::search` meets its contract. Before a turn, the words from the k-th on are those of the text from `at` on, and none before it is the word.
use Prim.Native.Nat.{ℕ, ◌≤◌, ◌<◌, ◌-◌}
use mathlib.Core.Path.{◌≡◌}
use mathlib.Core.List.{[]}
use lib.ListN.{length, get_or, drop}
use Rattle.text.specs.Names.{words_of}
use Rattle.text.proofs.name.search.Given as goal

abbrev pub invariant-loop-at : goal.invariant-loop-at
invariant-loop-at l =
    (drop l.k (words_of l.names) ≡ words_of (drop l.at l.names)) × (l.k ≤ l.at) × (l.k ≤ length (words_of l.names)) × ((j : ℕ) → j < l.k → get_or (words_of l.names) j [] ≡ l.word → ⊥)

abbrev pub decreases-loop-at : goal.decreases-loop-at
decreases-loop-at l = length l.names - l.at
