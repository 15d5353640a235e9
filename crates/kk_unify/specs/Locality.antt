-- Obeying is local: whether an assignment obeys a graph rests on the types that it gives to the graph's nodes alone.
use Rattle.std.specs.Prelude.{◌≡◌, ◌<◌, ℕ, List, length}
use Rattle.kk_unify.specs.Graphs.{NodeTree, Assignment, Obeys, IsFormed}

abbrev pub ObeyingIsLocal : Type 0
ObeyingIsLocal = (variables : ℕ) (graph : List NodeTree) (r q : Assignment) → IsFormed variables graph → ((i : ℕ) → i < length graph → r i ≡ q i) → Obeys graph r → Obeys graph q
