-- At the start no cell is counted, and all are free.
use Rattle.std.proofs.Common.{◌≡◌, ◌≤◌, ℕ, ◌%◌, Bool, true, false, [], nat_eq, nat_lt, nat_le, refl, arith}
use Rattle.std.specs.Prelude.{◌&&◌, if◌then◌else◌}
use Rattle.std.proofs.lemmas.Bool.Decides.{nat_tests}
use Rattle.cell_heap.specs.Pool.{Pool, end_of}
use Rattle.cell_heap.specs.Blocks.{Block, no_block, unused, unused_cells}
use Rattle.rv_cells.specs.Layout.{Layout}
use Rattle.rv_cells.specs.CountedCells.{nobody, IsFree, Follows}
use Rattle.rv_isa.specs.Numbers.{cell_size}

abbrev unused_at : Bool → Bool → Bool → Block
unused_at behind before aligned = if behind && before && aligned then unused else no_block

is_free : (pool : Pool) (at : ℕ) (behind before aligned : Bool) → nat_le pool.first at ≡ behind → nat_lt at (end_of pool) ≡ before
    → nat_eq (at % cell_size) 0 ≡ aligned → IsFree pool at (unused_at behind before aligned)
is_free pool at true true true a b c = record {
  free = λ cell. refl;
  none = λ not. absurd (not
      (record { behind = grind (arith, nat_tests); before = grind (arith, nat_tests); aligned = grind (arith, nat_tests) }));
}
is_free pool at true true false a b c = record {
  free = λ cell. let is = cell.aligned in absurd (grind (arith, nat_tests));
  none =
      λ not. refl;
}
is_free pool at true false aligned a b c = record {
  free = λ cell. let is = cell.before in absurd (grind (arith, nat_tests));
  none =
      λ not. refl;
}
is_free pool at false before aligned a b c =
    record { free = λ cell. let is = cell.behind in absurd (grind (arith, nat_tests)); none = λ not. refl }

free_then : (pool : Pool) (at : ℕ) → IsFree pool at ((unused_cells pool).blocks at)
free_then pool at = is_free pool at (nat_le pool.first at) (nat_lt at (end_of pool)) (nat_eq (at % cell_size) 0) refl refl refl

unused_cell : (pool : Pool) (at : ℕ) (behind before aligned : Bool) → nat_le pool.first at ≡ behind
    → unused_at behind before aligned ≡ unused → pool.first ≤ at
unused_cell pool at true before aligned a is = grind (arith, nat_tests)
unused_cell pool at false before aligned a is = cc

pub starts : (pool : Pool) (layout : Layout) (address : ℕ → ℕ) → pool.first % cell_size ≡ 0
    → Follows pool layout address (λ at. nobody) []
    (unused_cells pool)
starts pool layout address aligned = record {
  named = λ name some. absurd (omega (arith, some));
  blocks = λ at. free_then pool at;
  chain = record {
    aligned = aligned;
    behind = omega arith;
    within = omega arith;
    fresh = λ at cell high. (free_then pool at).free cell;
    chained = λ at is low.
        let behind = unused_cell pool at (nat_le pool.first at) (nat_lt at (end_of pool)) (nat_eq (at % cell_size) 0) refl is in
        absurd (omega arith);
    members = λ at some. absurd (some refl);
  };
}
