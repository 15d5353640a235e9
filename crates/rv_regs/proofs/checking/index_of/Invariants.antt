use Rattle.std.proofs.Common.{◌≡◌, ◌==◌, ℕ, drop}
use Rattle.std.specs.List.{position_from}
use Rattle.rv_regs.proofs.checking.index_of.Given as goal

abbrev pub invariant-loop-index : goal.invariant-loop-index
invariant-loop-index l =
    position_from (λ (param : ℕ). param == l.value) l.index (drop l.index l.params) ≡ position_from (λ (param : ℕ). param == l.value) 0 l.params
