-- Inserted programs are marked by the types of their core programs.
use Rattle.std.proofs.Common.{◌≡◌, ℕ, zero, suc, ◌+◌, ◌<◌, Bool, true, false, List, [], ◌∷◌, length, map, Option, Some, None, arith, refl, sym, ap, ◌∙◌, subst}
use Rattle.std.specs.Prelude.{slice_get, slice_index_or}
use Rattle.kk_core.specs.CellTypes.{has_cells, TellsCells}
use Rattle.kk_core.specs.Codes.{FunctionCode, ProgramCode}
use Rattle.kk_core.specs.CoreTyping.{typing_parameters, IsCodeTyped, IsCoreTyped}
use Rattle.kk_core.specs.Sizes.{below}
use Rattle.kk_core.specs.declared.form.Core.{Core}
use Rattle.kk_counted.specs.Marks.{parameter_marks, result_mark, HaveMarks, IsMarked, AreMarked}
use Rattle.kk_counted.specs.Spending.{at_positions, numbers_from, is_owned}
use Rattle.kk_insert.proofs.VariableBindings.{IsFine, ordered_fine}
use Rattle.kk_insert.proofs.CodeMarks.{CoreMark, dropping_marked, insert_marked, bound_more}
use Rattle.kk_insert.proofs.OwnedVariables.{part_at}
use Rattle.kk_insert.proofs.Programs.{at_numbers, numbers_at, below_less, inserted_there, from_there}
use Rattle.kk_insert.proofs.Sets.{Part}
use Rattle.kk_insert.proofs.TypeMarks.{of_some, mapped_at, cells, parameter_marks_are, result_mark_is}
use Rattle.kk_insert.proofs.TypedPrograms.{signature_there, function_there}
use Rattle.kk_insert.proofs.TypedMarks.{split, split_low, split_high, parameters_fit, parameters_have, Choice, choose}
use Rattle.kk_insert.specs.Insertion.{lent_of, own, insert, inserted_function, inserted}
use Rattle.kk_insert.specs.MarkTables.{marks_of_types, marks_of_core, AreGround}
use Rattle.kk_syntax.specs.GroundTyping.{Table, table_of, HasTruths}
use Rattle.kk_syntax.specs.GroundTyping.{Signature, signature_of}
use Rattle.kk_syntax.specs.PositionsOf.{PositionTable, is_lent}
use Rattle.kk_syntax.specs.GroundPrograms.{ground_types, ground_program, ground_constructor_tree, arguments_of_type}
use Rattle.kk_syntax.specs.Programs.{ConstructorTree, ProgramTree}
use Rattle.kk_syntax.specs.declared.ground.Ground.{Ground}
use Rattle.kk_syntax.specs.declared.ground.GroundConstructor.{GroundConstructor}
use Rattle.kk_syntax.specs.Shapes.{is_among}
use Rattle.kk_syntax.specs.Types.{TypeTree, type_at}

less_there : {A : Type 0} (xs : List A) (i : ℕ) (x : A) → slice_get xs i ≡ Some x → i < length xs
less_there [] i x there = absurd (cc)
less_there (y ∷ ys) zero x there = omega arith
less_there (y ∷ ys) (suc i) x there = omega (arith, less_there ys i x there)

none_in : (P : Type 0) (y : ℕ) → is_among [] y ≡ true → P
none_in P y is = absurd (cc)

module _ (positions : PositionTable) (table : Table) (ground : AreGround table.constructors)
    (truths : HasTruths table.constructors) where
  module _ (f : ℕ) (function : FunctionCode) (signature : Signature) (there : slice_get table.functions f ≡ Some signature)
      (typed : IsCodeTyped table function signature) where
    fine : IsFine (lent_of positions f function) (below function.parameters) function.body
    fine =
        ordered_fine (lent_of positions f function) (at_positions (is_lent positions f) 0 (numbers_from 0 function.parameters))
        (below function.parameters) function.parameters function.body function.variables typed.ordered
        (λ y is. below_less function.parameters y is)
        (λ y is. omega (arith, (at_numbers (is_lent positions f) 0 function.parameters y is).1.0))
        (λ y less. refl)

    result_is : result_mark (marks_of_types table) f ≡ cells table signature.result
    result_is = result_mark_is table f signature.parameters signature.result there

    own_marks : Choice table ground truths (result_mark (marks_of_types table) f) function.parameters function.variables
        (typing_parameters 0 signature.parameters []) (cells table signature.result) function.body
    own_marks =
        choose table ground truths (result_mark (marks_of_types table) f)
        (below function.parameters) function.parameters function.variables true
        (typing_parameters 0 signature.parameters []) signature.result function.body typed.body typed.ordered (λ tail. result_is)

    abbrev marked_variables : ℕ → Bool
    marked_variables =
        split function.parameters (λ y. slice_index_or (map (cells table) signature.parameters) y false) own_marks.0

    parameter_is : (i : ℕ) (t : TypeTree) → slice_get signature.parameters i ≡ Some t → marked_variables (0 + i) ≡ cells table t
    parameter_is i t is =
        ap marked_variables (let e : 0 + i ≡ i = omega arith in e)
        ∙ (split_low function.parameters (λ y. slice_index_or (map (cells table) signature.parameters) y false) own_marks.0 i
        (omega (arith, less_there signature.parameters i t is, typed.parameters))
        ∙ mapped_at (cells table) signature.parameters i t false is)

    core_marked : CoreMark (marks_of_types table) marked_variables (result_mark (marks_of_types table) f)
        (cells table signature.result) function.body
    core_marked =
        own_marks.1 marked_variables
        (parameters_fit table marked_variables 0 signature.parameters [] (λ x fact is. absurd (cc)) parameter_is)
        (λ y least most.
        split_high function.parameters (λ y. slice_index_or (map (cells table) signature.parameters) y false) own_marks.0 y least)

    all_numbers : Part (below function.parameters) (numbers_from 0 function.parameters)
    all_numbers y is =
        part_at (λ z. true) 0 (numbers_from 0 function.parameters) y
        (numbers_at (λ z. true) 0 function.parameters y (omega arith) (omega (arith, below_less function.parameters y is)) refl)

    function_marked : IsMarked (marks_of_types table) marked_variables f (inserted_function positions f function)
    function_marked =
        record {
          parameters_marked = subst (λ n. HaveMarks marked_variables (numbers_from 0 n) (parameter_marks (marks_of_types table) f))
              typed.parameters
              (subst (HaveMarks marked_variables (numbers_from 0 (length signature.parameters)))
              (sym (parameter_marks_are table f signature.parameters signature.result there))
              (parameters_have table marked_variables 0 signature.parameters parameter_is));
          body_marked =
              dropping_marked (marks_of_types table) marked_variables (result_mark (marks_of_types table) f)
              (at_positions (is_owned positions [] f) 0 (numbers_from 0 function.parameters))
              (own positions (lent_of positions f function) [] function.body) (numbers_from 0 function.parameters)
              (result_mark (marks_of_types table) f) (insert positions (lent_of positions f function) [] function.body)
              (part_at (is_owned positions [] f) 0 (numbers_from 0 function.parameters))
              (bound_more (marks_of_types table) marked_variables (result_mark (marks_of_types table) f) (below function.parameters)
              (numbers_from 0 function.parameters) (result_mark (marks_of_types table) f)
              (insert positions (lent_of positions f function) [] function.body) all_numbers
              (insert_marked (marks_of_types table) marked_variables (result_mark (marks_of_types table) f) positions
              (lent_of positions f function) [] (below function.parameters)
              (result_mark (marks_of_types table) f) function.body fine
              (λ y is. none_in _ y is)
              (subst (λ m. CoreMark (marks_of_types table) marked_variables (result_mark (marks_of_types table) f) m function.body)
              (sym result_is) core_marked)));
        }

  -- ---- programs

  module _ (code : ProgramCode) (typed : IsCoreTyped table code) where
    Marked : ℕ → FunctionCode → Type 0
    Marked f function = (holds : ℕ → Bool) × IsMarked (marks_of_types table) holds f (inserted_function positions f function)

    one_marked : (f : ℕ) (function : FunctionCode) → slice_get code.functions f ≡ Some function → Marked f function
    unfolding Marked
    one_marked f function there =
        let signed = signature_there table code.functions table.functions f function typed.functions there in
        (marked_variables f function signed.0 signed.1.0 signed.1.1, function_marked f function signed.0 signed.1.0 signed.1.1)

    marked_at : (f : ℕ) (found : Option FunctionCode) → slice_get code.functions f ≡ found → ℕ → Bool
    unfolding Marked
    marked_at f None is = λ y. false
    marked_at f (Some function) is = (one_marked f function is).0

    each_marked : (f : ℕ) (function : FunctionCode) (found : Option FunctionCode) (is : slice_get code.functions f ≡ found)
        → found ≡ Some function → IsMarked (marks_of_types table) (marked_at f found is) f (inserted_function positions f function)
    unfolding Marked marked_at
    each_marked f function None is same = absurd (cc)
    each_marked f function (Some other) is same =
        subst (λ (g : FunctionCode). IsMarked (marks_of_types table) (one_marked f other is).0 f (inserted_function positions f g))
        (ap (of_some (λ (g : FunctionCode). g) other) same) (one_marked f other is).1

    pub typed_is_marked : (holds : ℕ → ℕ → Bool) × AreMarked (marks_of_types table) holds (inserted positions code)
    typed_is_marked = (
      λ f. marked_at f (slice_get code.functions f) refl,
      record {
        each = λ f result there.
            let from = from_there positions code.functions f result there in
            subst (IsMarked (marks_of_types table) (marked_at f (slice_get code.functions f) refl) f) (sym from.1.1)
            (each_marked f from.0 (slice_get code.functions f) refl from.1.0);
        main_there =
            let main = function_there table code.functions table.functions code.main
            (record { parameters = []; result = _ }) typed.functions typed.main in (
              inserted_function positions code.main main.0,
              (inserted_there positions code.functions code.main main.0 main.1.0, main.1.1),
            );
      },
    )

-- ---- the tables

map_twice : {A B C : Type 0} (f : A → B) (g : B → C) (xs : List A) → map g (map f xs) ≡ map (λ x. g (f x)) xs
map_twice f g [] = refl
map_twice f g (x ∷ xs) = ap (λ ys. g (f x) ∷ ys) (map_twice f g xs)

pub tables_tell : (program : ProgramTree) (core : Core) → TellsCells program core → marks_of_core core ≡ marks_of_types
    (table_of program)
tables_tell program core tells =
    ap (λ (m : List (List Bool)). record (marks_of_core core) { parameters = m })
    (tells.parameters ∙ sym (map_twice signature_of
    (λ (s : Signature). map (has_cells program.constructors) s.parameters) program.functions))
    ∙ (ap (λ (m : List Bool). record (marks_of_core core)
    { parameters = (marks_of_types (table_of program)).parameters; results = m })
    (tells.results ∙ sym (map_twice signature_of (λ (s : Signature). has_cells program.constructors s.result) program.functions))
    ∙ (ap (λ (m : List Bool). record (marks_of_types (table_of program)) { types = m; fields = (marks_of_core core).fields })
    tells.types
    ∙ ap (λ (m : List (List Bool)). record (marks_of_types (table_of program)) { fields = m }) tells.fields))

pub grounds_are : (given : Ground) → AreGround (ground_program given).constructors
grounds_are given = each given.constructors.items
  where
    each : (some : List GroundConstructor) → AreGround (map (ground_constructor_tree (ground_types given.types.items)) some)
    each [] c made there = absurd (cc)
    each (one ∷ some) zero made there = (
      arguments_of_type (type_at (ground_types given.types.items) one.of_type),
      ap (of_some (λ (k : ConstructorTree). k.arguments) None) (sym there),
    )
    each (one ∷ some) (suc c) made there = each some c made there
