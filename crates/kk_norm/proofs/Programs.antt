-- The functions of a program and of its core form, one by one and together.
use Rattle.std.proofs.Common.{◌≡◌, ℕ, ◌<◌, ◌≤◌, true, zero, suc, List, [], ◌∷◌, ◌++◌, ◌+◌, length, take, Some, map, get_or, option_map, refl, sym, ap, subst, ◌∙◌, arith}
use Rattle.std.specs.Prelude.{slice_get}
use Rattle.std.proofs.lemmas.List.{length-map, map-append, take_all, take_more}
use Rattle.std.proofs.lemmas.Option.{slice_get-map, slice_get-get_or, slice_get_within}
use Rattle.kk_syntax.specs.declared.ground.Ground.{Ground}
use Rattle.kk_syntax.specs.declared.ground.Instance.{Instance}
use Rattle.kk_syntax.specs.GroundPrograms.{ground_types, instance_tree, ground_program}
use Rattle.kk_syntax.specs.GroundTyping.{IsGroundTyped}
use Rattle.kk_syntax.specs.GroundTyping.{signature_of}
use Rattle.kk_syntax.specs.Programs.{ConstructorTree, FunctionTree}
use Rattle.kk_core.specs.Codes.{FunctionCode, function_code}
use Rattle.kk_core.specs.declared.form.CoreFunction.{CoreFunction}
use Rattle.kk_norm.specs.declared.naming.Named.{Named}
use Rattle.kk_norm.specs.declared.writer.Writer.{Writer}
use Rattle.kk_norm.specs.Normalized.{final, IsCode, IsCoreOf, AreCoresOf}
use Rattle.kk_norm.specs.Written.{names_of, WritesBlock}
use Rattle.kk_norm.specs.Normal.{IsFunctionWithin, AreWithin}

pub within_at : (functions : List FunctionTree) (i : ℕ) (f : FunctionTree) → AreWithin functions → slice_get functions i ≡ Some f
    → IsFunctionWithin f
within_at [] i f limits is = absurd (cc)
within_at (first ∷ functions) zero f limits is = let same : first ≡ f = cc in subst
    (λ (g : FunctionTree). IsFunctionWithin g) same limits.0
within_at (first ∷ functions) (suc i) f limits is = within_at functions i f limits.1 is

-- the function that an instance in memory is
pub function_at : (given : Ground) (instances : List Instance) (i : ℕ) (instance : Instance) → instances ≡ given.instances.items
    → instance ≡ get_or instances i instance → i < length instances
    → slice_get (ground_program given).functions i ≡ Some (instance_tree (ground_types given.types.items) instance)
function_at given instances i instance same is less =
    let made : Instance → FunctionTree = instance_tree (ground_types given.types.items) in
    ap (λ (xs : List Instance). slice_get (map made xs) i) (sym same)
    ∙ (slice_get-map made instances i ∙ ap (option_map made)
    (slice_get-get_or instances i instance less ∙ ap (λ x. Some x) (sym is)))

-- one more function has its core form
cores_one_more : (constructors : List ConstructorTree) (functions : List FunctionTree) (cores : List FunctionCode)
    (function : FunctionTree)
    (core : FunctionCode) → AreCoresOf constructors functions cores → IsCoreOf constructors function core
    → AreCoresOf constructors (functions ++ function ∷ []) (cores ++ core ∷ [])
cores_one_more constructors [] cores function core are is =
    subst (λ (all : List FunctionCode). AreCoresOf constructors (function ∷ []) (all ++ core ∷ [])) (sym are) (is, refl)
cores_one_more constructors (first ∷ functions) [] function core are is = absurd are
cores_one_more constructors (first ∷ functions) (other ∷ cores) function core are is =
    (are.0, cores_one_more constructors functions cores function core are.1 is)

-- the same of instances that are written one after the other
pub cores_more : (constructors : List ConstructorTree) (made : Instance → FunctionTree) (before after : List CoreFunction)
    (one : CoreFunction)
    (xs : List Instance) (i : ℕ) (x : Instance) → after ≡ before ++ one ∷ []
    → AreCoresOf constructors (map made (take i xs)) (map function_code before) → IsCoreOf constructors (made x) (function_code one)
    → x ≡ get_or xs i x → i < length xs → AreCoresOf constructors (map made (take (i + 1) xs)) (map function_code after)
cores_more constructors made before after one xs i x grown earlier own is less =
    let functions : map made (take (i + 1) xs) ≡ map made (take i xs) ++ made x ∷ []
    = ap (map made) (take_more xs i x less) ∙ (map-append made (take i xs) (get_or xs i x ∷ [])
    ∙ ap (λ y. map made (take i xs) ++ made y ∷ []) (sym is)) in
    let cores : map function_code after ≡ map function_code before ++ function_code one ∷ []
    = ap (map function_code) grown ∙ map-append function_code before (one ∷ []) in
    subst (λ (all : List FunctionTree). AreCoresOf constructors all (map function_code after)) (sym functions)
    (subst (λ (all : List FunctionCode). AreCoresOf constructors (map made (take i xs) ++ made x ∷ []) all) (sym cores)
    (cores_one_more constructors (map made (take i xs)) (map function_code before) (made x) (function_code one) earlier own))

-- all of them are written
pub cores_all : (constructors : List ConstructorTree) (made : Instance → FunctionTree) (cores : List FunctionCode)
    (xs ys : List Instance) (i : ℕ)
    → AreCoresOf constructors (map made (take i xs)) cores → length xs ≤ i → xs ≡ ys → AreCoresOf constructors (map made ys) cores
cores_all constructors made cores xs ys i are all same =
    subst (λ (zs : List Instance). AreCoresOf constructors (map made zs) cores) (take_all i xs all ∙ same) are

-- a body that is written as a block behind its parameters
pub core_done : (constructors : List ConstructorTree) (function : FunctionTree) (core : FunctionCode) (old new : Writer)
    → core.parameters ≡ length function.parameters → old.next ≡ length function.parameters → old.names.items ≡ []
    → core.variables ≡ new.next
    → WritesBlock constructors true function.body old new core.body → IsCoreOf constructors function core
core_done constructors function core old new parameters number names variables writes =
    record {
      parameters = parameters;
      variables = omega (arith, variables, writes.number, number);
      body = subst (λ (n : ℕ). IsCode constructors (final true) [] n function.body core.body) number
          (subst (λ (some : List Named). IsCode constructors (final true) (names_of some) old.next function.body core.body) names
          writes.block_is);
    }

-- a typed program has a first function
pub main_in_range : (given : Ground) → IsGroundTyped (ground_program given) → 0 < length (ground_program given).functions
main_in_range given typed =
    omega (
      arith,
      slice_get_within (map signature_of (ground_program given).functions) 0 _ typed.main,
      length-map
          (ground_program given).functions signature_of,
    )
