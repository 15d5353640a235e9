-- How long the chain of free cells is, member by member, and how many free cells there are with the border's.
use Rattle.std.proofs.Common.{◌≡◌, ◌≢◌, ◌<◌, ◌≤◌, ℕ, zero, suc, ◌+◌, ◌-◌, min, List, ◌++◌, map, length, take, length-append, length-take, true, false, Some, None, if◌then◌else◌, nat_eq, refl, sym, ap, ◌∙◌, arith}
use Rattle.std.proofs.lemmas.Bool.Decides.{nat_tests}
use Rattle.kk_base.specs.Memory.{Part}
use Rattle.rv_isa.specs.Bytes.{number_at}
use Rattle.rv_isa.specs.Processor.{Processor, bare, value, lies_in_part}
use Rattle.rv_isa.specs.Numbers.{cell_size}
use Rattle.rv_isa.specs.FreeCells.{chain, free_chain, cells_from, border_size, border, free_cells}
use Rattle.rv_sim.proofs.InstructionSteps.{lies_in_part-bare, some_if, some_if_is, none_if}

module _ (parts : List Part) (memory : ℕ → ℕ) where
  chain-suc : (n at : ℕ) → at ≢ 0 → lies_in_part parts at 4 ≡ true → length (chain (map bare parts) memory (suc n) at) ≡ suc (length (chain (map bare parts) memory n (number_at memory at 4)))
  chain-suc n at some lies =
      let test : nat_eq at 0 ≡ false = grind (arith, nat_tests) in
      let here = lies_in_part-bare parts at 4 ∙ lies in
      rw (test, here) refl

  -- one more member
  pub chain-more : (cells count at next : ℕ) → count < cells → at ≢ 0 → Some next ≡ (if lies_in_part parts at 4 then Some (number_at memory at 4) else None)
      → length (chain (map bare parts) memory (cells - count) at) ≡ suc (length (chain (map bare parts) memory (cells - (count + 1)) next))
  chain-more cells count at next room some found =
      let one : cells - count ≡ suc (cells - (count + 1)) = omega arith in
      let lies = some_if (lies_in_part parts at 4) _ _ found in
      let same = some_if_is (lies_in_part parts at 4) _ _ found in
      ap (λ n. length (chain (map bare parts) memory n at)) one ∙ chain-suc (cells - (count + 1)) at some lies
      ∙ ap (λ a. suc (length (chain (map bare parts) memory (cells - (count + 1)) a))) (sym same)

  -- no more members, at a word that does not lie in one part
  pub chain-end : (n at : ℕ) → at ≢ 0 → None ≡ (if lies_in_part parts at 4 then Some (number_at memory at 4) else None) → length (chain (map bare parts) memory n at) ≡ 0
  chain-end zero at some found = refl
  chain-end (suc n) at some found =
      let test : nat_eq at 0 ≡ false = grind (arith, nat_tests) in
      let here = lies_in_part-bare parts at 4 ∙ none_if (lies_in_part parts at 4) _ found in
      rw (test, here) refl

length-cells_from : (at count : ℕ) → length (cells_from at count) ≡ count
length-cells_from at zero = refl
length-cells_from at (suc count) = ap suc (length-cells_from (at + cell_size) count)

-- how many are listed in all: those of the chain, and of the border as many as there is room for
pub free_cells-by : (cells : ℕ) (s : Processor) → length (free_chain cells s) ≤ cells
    → free_cells cells s ≡ length (free_chain cells s) + min (border_size (value s.registers 18) (value s.registers 19)) (cells - length (free_chain cells s))
free_cells-by cells s within =
    let size = length-cells_from (value s.registers 18) (border_size (value s.registers 18) (value s.registers 19)) in
    length-take cells (free_chain cells s ++ border s)
    ∙ ap (λ n. min cells n) (length-append (free_chain cells s) (border s) ∙ ap (λ n. length (free_chain cells s) + n) size)
    ∙ omega arith
