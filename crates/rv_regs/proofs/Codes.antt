-- Lists that are compared element by element.
use Rattle.std.proofs.Common.{◌≡◌, ◌≤◌, ◌==◌, ◌↔◌, ℕ, suc, List, [], ◌∷◌, length, drop, map, refl, ap, arith, eq-eqb, length-drop}
use Rattle.std.proofs.lemmas.Bool.{eqb-true}
use Rattle.std.proofs.lemmas.List.{drop_all}
use Rattle.std.specs.Bool.{IsTrue}
use Rattle.rv_isa.specs.declared.placed.Item.{Item}
use Rattle.rv_isa.specs.declared.asm.Statement.{Statement}
use Rattle.rv_isa.specs.AsmCode.{Lines, line_of}
use Rattle.rv_isa.specs.PlacedCode.{PlacedLines, placed_line_of}
use Rattle.rv_regs.specs.Conditions.{ArePlacings, without_moves}

map_empty : {A B : Type 0} (f : A → B) (xs : List A) → [] ≡ map f xs → length xs ≡ 0
map_empty f [] e = refl
map_empty f (x ∷ xs) e = cc

map_of_empty : {A B : Type 0} (f : A → B) (xs : List A) → length xs ≡ 0 → [] ≡ map f xs
map_of_empty f [] e = refl
map_of_empty f (x ∷ xs) e = absurd (omega (arith, e))

-- where no line is left, the code is these statements exactly where none of them is left
pub none_left : (code : List Item) (statements : List Statement) (index at : ℕ) → length code ≤ index → at ≤ length statements
    → ((without_moves (map placed_line_of (drop index code)) ≡ map line_of (drop at statements)) ↔ (without_moves (map placed_line_of code) ≡ map line_of statements))
    → IsTrue (at == length statements) ↔ (without_moves (map placed_line_of code) ≡ map line_of statements)
none_left code statements index at end le same =
    let none : drop index code ≡ [] = drop_all index code end in
    let same' = rw none at same in (
      λ t. same'.0 (map_of_empty line_of (drop at statements) (omega (arith, length-drop {A = Statement} at statements, eqb-true at (length statements) t))),
      λ e. eq-eqb at (length statements) (omega (arith, length-drop {A = Statement} at statements, map_empty line_of (drop at statements) (same'.1 e))),
    )

-- as many functions are placed as there are
pub as_many : (functions : List Lines) (placed : List PlacedLines) → ArePlacings functions placed → length functions ≡ length placed
as_many [] [] all = refl
as_many [] (p ∷ ps) all = absurd all
as_many (f ∷ fs) [] all = absurd all
as_many (f ∷ fs) (p ∷ ps) all = ap suc (as_many fs ps all.1)
