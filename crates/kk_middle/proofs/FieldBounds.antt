-- The ground constructors of an accepted program have few fields, and its instances are few.
use Rattle.std.proofs.Common.{◌≡◌, ◌≤◌, ℕ, zero, suc, Bool, List, [], ◌∷◌, length, map, arith, refl, sym, ap, ◌∙◌}
use Rattle.std.specs.Prelude.{All, slice_index_or}
use Rattle.std.proofs.lemmas.List.{length-map}
use Rattle.kk_syntax.specs.declared.ground.Ground.{Ground}
use Rattle.kk_syntax.specs.declared.ground.GroundConstructor.{GroundConstructor}
use Rattle.kk_syntax.specs.GroundPrograms.{ground_types, ground_constructor_tree, ground_program}
use Rattle.kk_syntax.specs.GroundTyping.{Table}
use Rattle.kk_syntax.specs.PositionsOf.{PositionTable}
use Rattle.kk_syntax.specs.Programs.{ConstructorTree}
use Rattle.kk_syntax.specs.Types.{TypeTree, type_at}
use Rattle.kk_core.specs.CellTypes.{has_cells}
use Rattle.kk_core.specs.Codes.{FunctionCode, ProgramCode}
use Rattle.kk_core.specs.Sizes.{most_instances}
use Rattle.kk_counted.specs.CountedCodes.{CountedFunction}
use Rattle.kk_counted.specs.Marks.{field_marks}
use Rattle.kk_insert.specs.Insertion.{inserted, inserted_functions}
use Rattle.kk_insert.specs.Limits.{most_fields, HaveFewFields}
use Rattle.kk_insert.specs.MarkTables.{marks_of_types}
use Rattle.kk_dropspec.specs.Specialised.{special_function}
use Rattle.kk_fuse.specs.Fused.{fused_function}

module _ (types : List TypeTree) where
  few_made : (items : List GroundConstructor) → All (λ (made : GroundConstructor). length made.fields.items ≤ most_fields) items
      → HaveFewFields (map (ground_constructor_tree types) items)
  few_made [] few c one there = absurd (cc)
  few_made (made ∷ items) few zero one there =
      let tree = ground_constructor_tree types made in
      let same : tree ≡ one = cc in
      let many = ap (λ (k : ConstructorTree). length k.fields) (sym same) ∙ length-map made.fields.items (type_at types) in
      let here = few zero made (omega arith) in
      omega (arith, many, here)
  few_made (made ∷ items) few (suc c) one there = few_made items (λ k d lt. few (suc k) d (omega (arith, lt))) c one there

pub ground_has_few : (given : Ground) → HaveFewFields (ground_program given).constructors
ground_has_few given = few_made (ground_types given.types.items) given.constructors.items given.within.fields

-- ---- marks

module _ (holds : TypeTree → Bool) where
  few_in : (constructors : List ConstructorTree) → HaveFewFields constructors → (c : ℕ)
      → length (slice_index_or (map (λ (one : ConstructorTree). map holds one.fields) constructors) c []) ≤ most_fields
  few_in [] few c = omega arith
  few_in (one ∷ constructors) few zero =
      let many = length-map one.fields holds in let here = few zero one refl in omega (arith, many, here)
  few_in (one ∷ constructors) few (suc c) = few_in constructors (λ k other there. few (suc k) other there) c

pub few_marked : (table : Table) → HaveFewFields table.constructors → (c : ℕ)
    → length (field_marks (marks_of_types table) c) ≤ most_fields
few_marked table few c = few_in (has_cells table.constructors) table.constructors few c

-- ---- functions

as_many : (positions : PositionTable) (next : ℕ) (functions : List FunctionCode)
    → length (inserted_functions positions next functions) ≡ length functions
as_many positions next [] = refl
as_many positions next (function ∷ functions) = ap suc (as_many positions (suc next) functions)

pub functions_few : (positions : PositionTable) (code : ProgramCode) (made : List CountedFunction)
    → made ≡ map fused_function (map special_function (inserted positions code).functions) → length code.functions ≤ most_instances
    → length made ≤ most_instances
functions_few positions code made is few =
    let many = ap length is ∙ length-map (map special_function (inserted positions code).functions) fused_function
    ∙ length-map (inserted positions code).functions special_function ∙ as_many positions 0 code.functions in
    omega (arith, many, few)
