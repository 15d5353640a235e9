-- What the calls around `main` answer, and what the answer to a tree follows from.
use Rattle.std.proofs.Common.{◌≡◌, ◌+◌, ◌<◌, ℕ, List, [], ◌∷◌, ◌++◌, map, length, get_or, nat_lt, not, cond, Bool, Some, None, bytes_eq, codes, refl, ap, sym, subst, ◌∙◌, inl, inr}
use Rattle.std.specs.Prelude.{Result, Ok, Err, IfOk, slice_get, option_map, ◌⊎◌}
use Rattle.std.specs.List.{position, prefix_len}
use Rattle.std.proofs.lemmas.List.{length-map}
use Rattle.std.proofs.lemmas.Option.{slice_get-map, slice_get_read}
use Rattle.kk_base.specs.Exactly.{IsOnly}
use Rattle.kk_base.specs.declared.error.NameError.{NameError}
use Rattle.kk_base.specs.declared.error.NameError.TheVariants.{Twice, Unknown, Arity, NoMain, MainShape, NoMemory}
use Rattle.kk_syntax.specs.declared.program.Fun.{Fun}
use Rattle.kk_syntax.specs.declared.program.Program.{Program}
use Rattle.kk_syntax.specs.declared.program.TypeDecl.{TypeDecl}
use Rattle.kk_syntax.specs.declared.tree.Tree.{Tree}
use Rattle.kk_syntax.specs.Programs.{ConstructorTree, FunctionTree, ProgramTree, function_tree, program_tree}
use Rattle.kk_syntax.specs.Surface.{WrittenDeclaration, written_tree}
use Rattle.kk_names.specs.declared.fault.Fault.{Fault}
use Rattle.kk_names.specs.declared.program.ProgramParts.{ProgramParts}
use Rattle.kk_names.specs.Faults.{error_of, faults_of}
use Rattle.kk_names.specs.Methods.{parts_of, first_with, main_among, AnswersMain, IsNoMain, IsOtherMain}
use Rattle.kk_names.specs.Names.{program_types, bool_constructors, constructors_of, program_constructors, functions_of, functions_meant, with_all_texts, Parts, parts_meant, main_of, program_of, IsMainShaped, MakesProgram, LacksMain, HasOtherMain, first_fault, no_main, main_shape, ResolvesAs, AnswersNames, KeepsNodes}
use Rattle.kk_names.specs.Tables.{Known, known_in}
use Rattle.kk_names.proofs.FirstFaults.{first_is_kept}
use Rattle.kk_names.proofs.Nodes.{keeps_nodes}
use Rattle.kk_names.proofs.NameResolution.{only_outcome}

-- ---- the parts of a program

-- parts are those that declarations mean, where those names are known that the declarations have
pub parts_are : (ds : List WrittenDeclaration) (declared typed : Known) (texts all_texts : List (List ℕ)) (types : List TypeDecl)
    (constructors : List ConstructorTree) (functions : List FunctionTree)
    → declared ≡ known_in ds → typed ≡ declared → texts ≡ [] → types ≡ program_types ds
    → constructors ≡ bool_constructors ++ constructors_of declared 1 ds → functions ≡ functions_of typed texts ds
    → all_texts ≡ with_all_texts texts ds
    → (let this : Parts = record { types = types; constructors = constructors; functions = functions; texts = all_texts } in this) ≡ parts_meant ds
parts_are ds declared typed texts all_texts types constructors functions known same none types_are constructors_are functions_are texts_are =
    let cs = constructors_are ∙ ap (λ k. bool_constructors ++ constructors_of k 1 ds) known in
    let fs = functions_are ∙ (ap (λ k. functions_of k texts ds) (same ∙ known) ∙ ap (λ ts. functions_of (known_in ds) ts ds) none) in
    let ts = texts_are ∙ ap (λ ts. with_all_texts ts ds) none in
    ap (λ x. let this : Parts = record { types = x; constructors = constructors; functions = functions; texts = all_texts } in this) types_are
    ∙ (ap (λ x. let this : Parts = record { types = program_types ds; constructors = x; functions = functions; texts = all_texts } in this) cs
    ∙ (ap (λ x. let this : Parts = record { types = program_types ds; constructors = program_constructors ds; functions = x; texts = all_texts } in this) fs
    ∙ ap (λ x. let this : Parts = record { types = program_types ds; constructors = program_constructors ds; functions = functions_meant ds; texts = x } in this) ts))

-- ---- `main` among functions

prefix-map : {X Y : Type 0} (f : X → Y) (p : Y → Bool) (xs : List X) → prefix_len p (map f xs) ≡ prefix_len (λ x. p (f x)) xs
prefix-map f p [] = refl
prefix-map f p (x ∷ xs) = ap (λ n. cond (p (f x)) (1 + n) 0) (prefix-map f p xs)

-- the first place at which a test passes, of values and of what they are mapped to
position-map : {X Y : Type 0} (f : X → Y) (p : Y → Bool) (xs : List X) → position p (map f xs) ≡ position (λ x. p (f x)) xs
position-map f p xs =
    ap (λ n. cond (nat_lt (prefix_len (λ y. not (p y)) (map f xs)) n) (Some (prefix_len (λ y. not (p y)) (map f xs))) None) (length-map xs f)
    ∙ ap (λ n. cond (nat_lt n (length xs)) (Some n) None) (prefix-map f (λ y. not (p y)) xs)

-- `main` among functions of the program, and among those that they are seen as
pub main_seen : (functions slice : List Fun) → slice ≡ functions → main_of (map function_tree functions) ≡ main_among slice
main_seen functions slice same = position-map function_tree (λ f. bytes_eq f.name (codes "main")) functions ∙ ap main_among (sym same)

function_there : (functions : List Fun) (n main : ℕ) (function : Fun) → n ≡ length functions → main < n → function ≡ get_or functions main function → slice_get (map function_tree functions) main ≡ Some (function_tree function)
function_there functions n main function count within is =
    slice_get-map function_tree functions main ∙ ap (option_map function_tree) (slice_get_read functions n main function count within is)

pub lacking_main : (parts : Parts) (length : ℕ) (error : NameError) → main_of parts.functions ≡ None → IsNoMain length error → AnswersMain parts length (Err error)
lacking_main parts length NoMemory none is = tt
lacking_main parts length (Twice name at) none is = inl (record { lacking = none; error_is = is })
lacking_main parts length (Unknown name at) none is = inl (record { lacking = none; error_is = is })
lacking_main parts length (Arity name at) none is = inl (record { lacking = none; error_is = is })
lacking_main parts length (NoMain name at) none is = inl (record { lacking = none; error_is = is })
lacking_main parts length (MainShape name at) none is = inl (record { lacking = none; error_is = is })

other_shaped : (functions : List FunctionTree) (main : ℕ) (function : FunctionTree) (error : NameError) → main_of functions ≡ Some main → slice_get functions main ≡ Some function → (IsMainShaped function → ⊥)
    → error ≡ MainShape function.name function.at → HasOtherMain functions error
other_shaped functions main function error found there other is = record { main = main; function = function; main_is = found; there = there; other = other; error_is = is }

pub other_main : (parts : ProgramParts) (end n main : ℕ) (function : Fun) (error : NameError) → main_of (map function_tree parts.functions.items) ≡ Some main → n ≡ length parts.functions.items → main < n → function ≡ get_or parts.functions.items main function
    → (IsMainShaped (function_tree function) → ⊥) → IsOtherMain function error → AnswersMain (parts_of parts) end (Err error)
other_main parts end n main function NoMemory found count within there other is = tt
other_main parts end n main function (Twice name at) found count within there other is =
    inr (other_shaped (map function_tree parts.functions.items) main (function_tree function) (Twice name at) found (function_there parts.functions.items n main function count within there) other is)
other_main parts end n main function (Unknown name at) found count within there other is =
    inr (other_shaped (map function_tree parts.functions.items) main (function_tree function) (Unknown name at) found (function_there parts.functions.items n main function count within there) other is)
other_main parts end n main function (Arity name at) found count within there other is =
    inr (other_shaped (map function_tree parts.functions.items) main (function_tree function) (Arity name at) found (function_there parts.functions.items n main function count within there) other is)
other_main parts end n main function (NoMain name at) found count within there other is =
    inr (other_shaped (map function_tree parts.functions.items) main (function_tree function) (NoMain name at) found (function_there parts.functions.items n main function count within there) other is)
other_main parts end n main function (MainShape name at) found count within there other is =
    inr (other_shaped (map function_tree parts.functions.items) main (function_tree function) (MainShape name at) found (function_there parts.functions.items n main function count within there) other is)

pub makes_program : (parts : ProgramParts) (n main : ℕ) (function : Fun) (program : ProgramTree) → main_of (map function_tree parts.functions.items) ≡ Some main → n ≡ length parts.functions.items → main < n → function ≡ get_or parts.functions.items main function
    → IsMainShaped (function_tree function) → program ≡ program_of (parts_of parts) main → MakesProgram (parts_of parts) program
makes_program parts n main function program found count within there shape is =
    record { main = main; function = function_tree function; main_is = found; there = function_there parts.functions.items n main function count within there; shape = shape; is = is }

-- ---- the answer to a tree

pub fault_answers : (tree : Tree) (fault : Fault) (error : NameError) → error ≡ error_of fault → first_with None (faults_of (written_tree tree).declarations) ≡ Some fault → AnswersNames tree (Err error)
fault_answers tree fault NoMemory is kept = tt
fault_answers tree fault (Twice name at) is kept =
    only_outcome (written_tree tree) (Err (Twice name at)) (first_fault fault (first_is_kept (faults_of (written_tree tree).declarations) fault kept) is)
fault_answers tree fault (Unknown name at) is kept =
    only_outcome (written_tree tree) (Err (Unknown name at)) (first_fault fault (first_is_kept (faults_of (written_tree tree).declarations) fault kept) is)
fault_answers tree fault (Arity name at) is kept =
    only_outcome (written_tree tree) (Err (Arity name at)) (first_fault fault (first_is_kept (faults_of (written_tree tree).declarations) fault kept) is)
fault_answers tree fault (NoMain name at) is kept =
    only_outcome (written_tree tree) (Err (NoMain name at)) (first_fault fault (first_is_kept (faults_of (written_tree tree).declarations) fault kept) is)
fault_answers tree fault (MainShape name at) is kept =
    only_outcome (written_tree tree) (Err (MainShape name at)) (first_fault fault (first_is_kept (faults_of (written_tree tree).declarations) fault kept) is)

module _ (tree : Tree) (parts : Parts) (are : parts ≡ parts_meant (written_tree tree).declarations) (none : faults_of (written_tree tree).declarations ≡ []) where
  error_answers : (error : NameError) → LacksMain parts.functions tree.length error ⊎ HasOtherMain parts.functions error → IsOnly (ResolvesAs (written_tree tree)) (Err error)
  error_answers error (inl lacks) = only_outcome (written_tree tree) (Err error) (no_main none (subst (λ (ps : Parts). LacksMain ps.functions tree.length error) are lacks))
  error_answers error (inr has) = only_outcome (written_tree tree) (Err error) (main_shape none (subst (λ (ps : Parts). HasOtherMain ps.functions error) are has))

  pub main_answers : (result : Result Program NameError) → AnswersMain parts tree.length result → AnswersNames tree result
  main_answers (Ok program) h =
      only_outcome (written_tree tree) (Ok (program_tree program))
      (record { faults = none; makes = subst (λ (ps : Parts). MakesProgram ps (program_tree program)) are h })
  main_answers (Err NoMemory) h = tt
  main_answers (Err (Twice name at)) h = error_answers (Twice name at) h
  main_answers (Err (Unknown name at)) h = error_answers (Unknown name at) h
  main_answers (Err (Arity name at)) h = error_answers (Arity name at) h
  main_answers (Err (NoMain name at)) h = error_answers (NoMain name at) h
  main_answers (Err (MainShape name at)) h = error_answers (MainShape name at) h

  pub main_keeps : (result : Result Program NameError) → AnswersMain parts tree.length result → IfOk result (λ program. KeepsNodes (written_tree tree).declarations (program_tree program).functions)
  main_keeps (Ok program) h =
      subst (KeepsNodes (written_tree tree).declarations) (sym (ap (λ p. p.functions) h.is ∙ ap (λ ps. ps.functions) are)) (keeps_nodes (known_in (written_tree tree).declarations) [] (written_tree tree).declarations)
  main_keeps (Err error) h = tt
