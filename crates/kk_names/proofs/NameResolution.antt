-- A tree comes to one thing, and the code finds it.
use Rattle.std.proofs.Common.{◌≡◌, ℕ, List, [], ◌∷◌, length, Bool, true, false, Option, Some, None, bytes_eq, codes, refl, ap, sym, ◌∙◌}
use Rattle.std.specs.Prelude.{Result, Ok, Err, if◌then◌else◌, slice_get}
use Rattle.std.proofs.lemmas.List.Quantifiers.{position-Some}
use Rattle.std.proofs.lemmas.Option.{slice_get-get_or}
use Rattle.kk_base.specs.Exactly.{IsOnly, ExactlyOne}
use Rattle.kk_base.specs.declared.error.NameError.{NameError}
use Rattle.kk_base.specs.declared.error.NameError.TheVariants.{NoMain, MainShape, NoMemory}
use Rattle.kk_syntax.specs.Programs.{FunctionTree, ProgramTree, no_function}
use Rattle.kk_syntax.specs.Surface.{WrittenTree}
use Rattle.kk_syntax.specs.Types.{TypeTree, int32, unit_type, type_variable, named}
use Rattle.kk_names.specs.declared.fault.Fault.{Fault}
use Rattle.kk_names.specs.Faults.{error_of, faults_of}
use Rattle.kk_names.specs.Methods.{first_with}
use Rattle.kk_names.specs.Names.{functions_meant, Parts, parts_meant, main_of, program_of, IsMainShaped, HasOtherMain, MeansProgram, first_fault, no_main, main_shape, ResolvesAs, EachTreeIsResolved}
use Rattle.kk_names.proofs.FirstFaults.{kept_is_first, first_is_kept, none_is_kept}

-- ---- the one outcome

is_shaped : List TypeTree → TypeTree → Bool
is_shaped [] unit_type = true
is_shaped _ _ = false

shaped_is : (function : FunctionTree) → IsMainShaped function → is_shaped function.parameters function.result ≡ true
unfolding is_shaped
shaped_is function shape = ap (λ ps. is_shaped ps function.result) shape.parameters ∙ ap (is_shaped []) shape.result

is_so_shaped : (ps : List TypeTree) (r : TypeTree) → is_shaped ps r ≡ true → (ps ≡ []) × (r ≡ unit_type)
unfolding is_shaped
is_so_shaped [] unit_type e = (refl, refl)
is_so_shaped [] int32 e = absurd (cc e)
is_so_shaped [] (type_variable x) e = absurd (cc e)
is_so_shaped [] (named by arguments) e = absurd (cc e)
is_so_shaped (p ∷ ps) r e = absurd (cc e)

other_is : (function : FunctionTree) → (IsMainShaped function → ⊥) → is_shaped function.parameters function.result ≡ false
other_is function other = by (is_shaped function.parameters function.result) refl
  where
    by : (b : Bool) → is_shaped function.parameters function.result ≡ b → is_shaped function.parameters function.result ≡ false
    by true e = let so = is_so_shaped function.parameters function.result e in absurd (other (record { parameters = so.0; result = so.1 }))
    by false e = e

abbrev at_function : Parts → ℕ → Option FunctionTree → Result ProgramTree NameError
at_function parts main None = Err NoMemory
at_function parts main (Some function) = if is_shaped function.parameters function.result then Ok (program_of parts main) else Err (MainShape function.name function.at)

abbrev at_main : Parts → ℕ → Option ℕ → Result ProgramTree NameError
at_main parts length None = Err (NoMain (codes "main") length)
at_main parts length (Some main) = at_function parts main (slice_get parts.functions main)

abbrev at_fault : Parts → ℕ → Option Fault → Result ProgramTree NameError
at_fault parts length None = at_main parts length (main_of parts.functions)
at_fault parts length (Some fault) = Err (error_of fault)

abbrev outcome_of : WrittenTree → Result ProgramTree NameError
outcome_of tree = at_fault (parts_meant tree.declarations) tree.length (first_with None (faults_of tree.declarations))

without_faults : (tree : WrittenTree) → faults_of tree.declarations ≡ [] → outcome_of tree ≡ at_main (parts_meant tree.declarations) tree.length (main_of (functions_meant tree.declarations))
without_faults tree none = ap (λ fs. at_fault (parts_meant tree.declarations) tree.length (first_with None fs)) none

with_function : (parts : Parts) (length main : ℕ) (function : FunctionTree) → main_of parts.functions ≡ Some main → slice_get parts.functions main ≡ Some function
    → at_main parts length (main_of parts.functions) ≡ (if is_shaped function.parameters function.result then Ok (program_of parts main) else Err (MainShape function.name function.at))
with_function parts length main function found there = ap (at_main parts length) found ∙ ap (at_function parts main) there

its_outcome : (tree : WrittenTree) (outcome : Result ProgramTree NameError) → ResolvesAs tree outcome → outcome_of tree ≡ outcome
its_outcome tree (Ok program) h =
    let parts = parts_meant tree.declarations in
    let m = h.makes in
    without_faults tree h.faults
    ∙ (with_function parts tree.length m.main m.function m.main_is m.there
    ∙ (ap (λ b. if b then Ok (program_of parts m.main) else Err (MainShape m.function.name m.function.at)) (shaped_is m.function m.shape) ∙ ap Ok (sym m.is)))
its_outcome tree (Err error) (first_fault fault first is) =
    ap (at_fault (parts_meant tree.declarations) tree.length) (kept_is_first (faults_of tree.declarations) fault first) ∙ ap Err (sym is)
its_outcome tree (Err error) (no_main none lacks) =
    without_faults tree none ∙ (ap (at_main (parts_meant tree.declarations) tree.length) lacks.lacking ∙ ap Err (sym lacks.error_is))
its_outcome tree (Err error) (main_shape none has) =
    let parts = parts_meant tree.declarations in
    without_faults tree none
    ∙ (with_function parts tree.length has.main has.function has.main_is has.there
    ∙ (ap (λ b. if b then Ok (program_of parts has.main) else Err (MainShape has.function.name has.function.at)) (other_is has.function has.other) ∙ ap Err (sym has.error_is)))

pub only_outcome : (tree : WrittenTree) (outcome : Result ProgramTree NameError) → ResolvesAs tree outcome → IsOnly (ResolvesAs tree) outcome
only_outcome tree outcome h = record { holds = h; only = λ other k. sym (its_outcome tree other k) ∙ its_outcome tree outcome h }

-- ---- there is one

main_there : (functions : List FunctionTree) (main : ℕ) → main_of functions ≡ Some main → (function : FunctionTree) × (slice_get functions main ≡ Some function)
main_there functions main e = (_, slice_get-get_or functions main no_function (position-Some (λ function. bytes_eq function.name (codes "main")) functions main no_function e).0)

pub each_tree_is_resolved : EachTreeIsResolved
each_tree_is_resolved tree = by_fault (first_with None (faults_of tree.declarations)) refl
  where
    by_shape : (main : ℕ) (function : FunctionTree) (b : Bool) → is_shaped function.parameters function.result ≡ b → faults_of tree.declarations ≡ [] → main_of (functions_meant tree.declarations) ≡ Some main → slice_get (functions_meant tree.declarations) main ≡ Some function → ExactlyOne (ResolvesAs tree)
    by_shape main function true e none found there =
        let so = is_so_shaped function.parameters function.result e in
        let means : MeansProgram tree.declarations (program_of (parts_meant tree.declarations) main) = record {
          faults = none;
          makes = record { main = main; function = function; main_is = found; there = there; shape = record { parameters = so.0; result = so.1 }; is = refl };
        } in
        (Ok (program_of (parts_meant tree.declarations) main), only_outcome tree (Ok _) means)
    by_shape main function false e none found there =
        let never : IsMainShaped function → ⊥ = λ shape. (let yes = shaped_is function shape in cc) in
        let has : HasOtherMain (functions_meant tree.declarations) (MainShape function.name function.at) = record { main = main; function = function; main_is = found; there = there; other = never; error_is = refl } in
        (Err (MainShape function.name function.at), only_outcome tree (Err _) (main_shape none has))

    by_main : (main : Option ℕ) → main_of (functions_meant tree.declarations) ≡ main → faults_of tree.declarations ≡ [] → ExactlyOne (ResolvesAs tree)
    by_main None e none = (Err (NoMain (codes "main") tree.length), only_outcome tree (Err _) (no_main none (record { lacking = e; error_is = refl })))
    by_main (Some main) e none =
        let there = main_there (functions_meant tree.declarations) main e in
        by_shape main there.0 (is_shaped there.0.parameters there.0.result) refl none e there.1

    by_fault : (fault : Option Fault) → first_with None (faults_of tree.declarations) ≡ fault → ExactlyOne (ResolvesAs tree)
    by_fault None e = by_main (main_of (functions_meant tree.declarations)) refl (none_is_kept (faults_of tree.declarations) e)
    by_fault (Some fault) e = (Err (error_of fault), only_outcome tree (Err _) (first_fault fault (first_is_kept (faults_of tree.declarations) fault e) refl))
