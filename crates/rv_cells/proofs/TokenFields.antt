-- The words of the fields of tokens' cells: they stay where counts change, where a cell is made, and where cells are held.
use Rattle.std.proofs.Common.{◌≡◌, ◌<◌, ◌≤◌, ℕ, suc, List, [], ◌∷◌, length, Option, Some, None, sym, ◌∙◌, ap, subst, arith, ne_eqb, nat_lt, cond, false}
use Rattle.std.proofs.lemmas.Bool.Decides.{nat_tests}
use Rattle.kk_source.specs.State.{Value}
use Rattle.kk_source.specs.Sound.{AllWithin}
use Rattle.kk_counted.specs.Heaps.{Held, Heap, dup_value, drop_value, fields_held}
use Rattle.kk_counted.specs.References.{cells_of}
use Rattle.kk_counted.specs.CountedMachine.{Named, cell_named}
use Rattle.kk_counted.proofs.SoundSteps.{NamedCell, OnNamed, named_cell}
use Rattle.kk_counted.proofs.HeapChanges.{EasedTo, eased_dup, eased_drop}
use Rattle.kk_counted.proofs.Reachability.{same_fields}
use Rattle.kk_counted.proofs.CountChanges.{fields_below}
use Rattle.cell_heap.specs.Blocks.{past_links}
use Rattle.rv_cells.specs.Layout.{Layout, words_in}
use Rattle.rv_cells.specs.CountedCells.{AreFrom, assign}
use Rattle.rv_cells.proofs.NameContents.{some-is}
use Rattle.rv_cells.proofs.Owners.{chosen_other}
use Rattle.rv_cells.proofs.Words.{words_older, all_within_more}
use Rattle.rv_cells.proofs.TokenRelation.{token_words}

-- words from a field on stay known where links are not
pub past_from : (words : ℕ → Option ℕ) (i : ℕ) (ws : List ℕ) → 2 ≤ i → AreFrom words i ws → AreFrom (past_links words) i ws
past_from words i [] far are = tt
past_from words i (w ∷ ws) far are =
    let behind : nat_lt i 2 ≡ false = grind (arith, nat_tests) in
    (ap (λ b. cond b None (words i)) behind ∙ are.0, past_from words (suc i) ws (omega (arith, far)) are.1)

-- counts make no difference
pub recounted_words : (layout : Layout) (address : ℕ → ℕ) (heap next : Heap) (p : ℕ) → cells_of next ≡ cells_of heap
    → token_words layout address next p ≡ token_words layout address heap p
recounted_words layout address heap next p same = ap (words_in layout address) (same_fields next heap p same)

pub eased_cells : (o : Option Heap) (heap next : Heap) → o ≡ Some next → EasedTo heap o → cells_of next ≡ cells_of heap
eased_cells None heap next is eased = cc
eased_cells (Some one) heap next is eased = ap cells_of (sym (some-is is)) ∙ eased.cells

pub dup_cells : (v : Value) (heap next : Heap) → dup_value v heap ≡ Some next → cells_of next ≡ cells_of heap
dup_cells v heap next is = eased_cells (dup_value v heap) heap next is (eased_dup v heap)

pub drop_cells : (v : Value) (heap next : Heap) → drop_value v heap ≡ Some next → cells_of next ≡ cells_of heap
drop_cells v heap next is = eased_cells (drop_value v heap) heap next is (eased_drop v heap)

-- a cell more makes none to those that are there
pub grown_words : (layout : Layout) (address : ℕ → ℕ) (heap : Heap) (made : Held) (at p : ℕ)
    → ((name : ℕ) → AllWithin name (fields_held heap name)) → p < length heap
    → token_words layout (assign (length heap) at address) (made ∷ heap) p ≡ token_words layout address heap p
grown_words layout address heap made at p older low =
    ap (words_in layout (assign (length heap) at address))
    (fields_below made heap p (ne_eqb (length heap) p (λ e. omega (arith, e, low))))
    ∙ words_older layout (length heap) at address (fields_held heap p)
    (all_within_more p (length heap) (fields_held heap p) (omega (arith, low)) (older p))

-- and the addresses of those stay
pub grown_stays : (size at p : ℕ) (address : ℕ → ℕ) → p < size → assign size at address p ≡ address p
grown_stays size at p address less = chosen_other p size at address (λ e. omega (arith, e, less))

-- the cell that a value names, and its fields, which are held at its name
pub cell_is : (c count : ℕ) (heap : Heap) (v : Value) (named : Named) → cell_named c count heap v ≡ Some named
    → NamedCell heap v count named
cell_is c count heap v named is = subst (OnNamed (NamedCell heap v count)) is (named_cell c count heap v)

pub named_fields : (c count : ℕ) (heap : Heap) (v : Value) (named : Named) → cell_named c count heap v ≡ Some named
    → fields_held heap named.at ≡ named.fields
named_fields c count heap v named is = (cell_is c count heap v named is).fields
