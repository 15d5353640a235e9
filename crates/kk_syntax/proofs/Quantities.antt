-- A program comes to exactly one thing by its declarations; and where it passes no limit, each of them keeps its own.
use Rattle.std.proofs.Common.{◌≡◌, ℕ, zero, suc, ◌+◌, ◌<◌, ◌≤◌, Bool, true, false, cond, nat_lt, List, [], ◌∷◌, ◌++◌, length, map, get_or, drop, Option, Some, None, refl, ap, sym, ◌∙◌, arith}
use Rattle.std.specs.Prelude.{All, ◌==◌, count_by, flat_map, slice_get, if◌then◌else◌, Result, Ok, Err}
use Rattle.std.proofs.lemmas.Bool.{ltb-true, ltb-false}
use Rattle.std.proofs.lemmas.List.{drop_more, length-map}
use Rattle.std.proofs.lemmas.List.Sums.{sum_by-cons}
use Rattle.kk_base.specs.Exactly.{IsOnly, ExactlyOne}
use Rattle.kk_base.specs.Limits.{greatest_of}
use Rattle.kk_base.specs.declared.limit.Limit.{Limit}
use Rattle.kk_base.specs.declared.limit.LimitKind.TheVariants.{Fields, Constructors, Parameters}
use Rattle.kk_syntax.specs.declared.program.Constructor.{Constructor}
use Rattle.kk_syntax.specs.declared.program.Fun.{Fun}
use Rattle.kk_syntax.specs.declared.program.Program.{Program}
use Rattle.kk_syntax.specs.Programs.{ConstructorTree, FunctionTree, ProgramTree, constructor_tree, function_tree, program_tree}
use Rattle.kk_syntax.specs.Types.{type_tree}
use Rattle.kk_syntax.specs.declared.declarations.Quantity.{Quantity}
use Rattle.kk_syntax.specs.Declarations.{place_of_type, quantities_of_constructor, quantity_of_function, declared_quantities, is_over, if_over, sooner, first_over, DeclarationsAs}
use Rattle.kk_syntax.specs.Constructors.{members_from, members}

-- ---- the first one in the text

-- a test that is known
tested : {X : Type 0} (b : Bool) (x y : X) → b ≡ true → (if b then x else y) ≡ x
tested true x y is = refl
tested false x y is = cc

untested : {X : Type 0} (b : Bool) (x y : X) → b ≡ false → (if b then x else y) ≡ y
untested true x y is = cc
untested false x y is = refl

not_below : (n m : ℕ) → nat_lt n m ≡ false → m ≤ n
not_below n m is = ltb-false n m is

below_is : (n m : ℕ) → n < m → nat_lt n m ≡ true
below_is n m lt = by (nat_lt n m) refl
  where
    by : (b : Bool) → nat_lt n m ≡ b → nat_lt n m ≡ true
    by true is = is
    by false is = absurd (let le = not_below n m is in omega (arith, le, lt))

above_is : (n m : ℕ) → m ≤ n → nat_lt n m ≡ false
above_is n m le = by (nat_lt n m) refl
  where
    by : (b : Bool) → nat_lt n m ≡ b → nat_lt n m ≡ false
    by true is = absurd (let lt = ltb-true n m is in omega (arith, le, lt))
    by false is = is

sooner_none : (one : Option Quantity) → sooner one None ≡ one
sooner_none None = refl
sooner_none (Some q) = refl

-- which of three is first does not depend on which two are compared first
pub sooner_assoc : (one two three : Option Quantity) → sooner (sooner one two) three ≡ sooner one (sooner two three)
sooner_assoc None two three = refl
sooner_assoc (Some a) None three = refl
sooner_assoc (Some a) (Some b) None = sooner_none (sooner (Some a) (Some b))
sooner_assoc (Some a) (Some b) (Some c) = by (nat_lt b.at a.at) (nat_lt c.at b.at) refl refl
  where
    by : (p q : Bool) → nat_lt b.at a.at ≡ p → nat_lt c.at b.at ≡ q
        → sooner (if p then Some b else Some a) (Some c) ≡ sooner (Some a) (if q then Some c else Some b)
    by true true first_is second_is =
        let one = ltb-true b.at a.at first_is in
        let two = ltb-true c.at b.at second_is in
        let three = below_is c.at a.at (omega (arith, one, two)) in
        tested (nat_lt c.at b.at) (Some c) (Some b) second_is ∙ sym (tested (nat_lt c.at a.at) (Some c) (Some a) three)
    by true false first_is second_is =
        untested (nat_lt c.at b.at) (Some c) (Some b) second_is ∙ sym (tested (nat_lt b.at a.at) (Some b) (Some a) first_is)
    by false true first_is second_is = refl
    by false false first_is second_is =
        let one = ltb-false b.at a.at first_is in
        let two = ltb-false c.at b.at second_is in
        let three = above_is c.at a.at (omega (arith, one, two)) in
        untested (nat_lt c.at a.at) (Some c) (Some a) three ∙ sym (untested (nat_lt b.at a.at) (Some b) (Some a) first_is)

pub first_append : (xs ys : List Quantity) → first_over (xs ++ ys) ≡ sooner (first_over xs) (first_over ys)
first_append [] ys = refl
first_append (x ∷ xs) ys = ap (sooner (if_over x)) (first_append xs ys) ∙ sym (sooner_assoc (if_over x) (first_over xs) (first_over ys))

-- ---- one constructor more

-- the constructors of a type are as many as are counted
pub members_count : (by first : ℕ) (cs : List Constructor)
    → length (members_from first (map constructor_tree cs) by) ≡ count_by (λ (c : Constructor). c.of_type == by) cs
members_count by first [] = refl
members_count by first (c ∷ cs) =
    by_test (c.of_type == by)
    ∙ (ap (λ n. cond (c.of_type == by) 1 0 + n) (members_count by (first + 1) cs)
    ∙ sym (sum_by-cons (λ (k : Constructor). cond (k.of_type == by) 1 0) c cs))
  where
    by_test : (b : Bool) → length (if b then first ∷ members_from (first + 1) (map constructor_tree cs) by else members_from
        (first + 1) (map constructor_tree cs) by)
        ≡ cond b 1 0 + length (members_from (first + 1) (map constructor_tree cs) by)
    by_test true = omega arith
    by_test false = omega arith

-- what is counted of a constructor
pub quantities_are : (program : Program) (c : Constructor) (at count fields : ℕ) → at ≡ place_of_type (slice_get program.types.items c.of_type)
    → count ≡ count_by (λ (k : Constructor). k.of_type == c.of_type) program.constructors.items → fields ≡ length c.fields.items
    → sooner (if_over (record { at = at; kind = Constructors; count = count })) (if_over (record { at = c.at; kind = Fields; count = fields }))
    ≡ first_over (quantities_of_constructor (program_tree program) (constructor_tree c))
quantities_are program c at count fields at_is count_is fields_is =
    let counted = count_is ∙ sym (members_count c.of_type 0 program.constructors.items) in
    let long = fields_is ∙ sym (length-map c.fields.items type_tree) in
    ap (sooner (if_over (record { at = at; kind = Constructors; count = count }))) (sym (sooner_none (if_over (record { at = c.at; kind = Fields; count = fields }))))
    ∙ (λ i. first_over (record { at = at_is i; kind = Constructors; count = counted i } ∷ record { at = c.at; kind = Fields; count = long i } ∷ []))

pub constructor_more : (program : ProgramTree) (constructors slice : List Constructor) (i : ℕ) (constructor : Constructor) (so_far own next : Option Quantity)
    → slice ≡ constructors → i < length slice → constructor ≡ get_or slice i constructor
    → own ≡ first_over (quantities_of_constructor program (constructor_tree constructor)) → next ≡ sooner so_far own
    → sooner so_far (first_over (flat_map (quantities_of_constructor program) (map constructor_tree (drop i constructors))))
    ≡ sooner next (first_over (flat_map (quantities_of_constructor program) (map constructor_tree (drop (i + 1) constructors))))
constructor_more program constructors slice i constructor so_far own next same lt is own_is next_is =
    let left = flat_map (quantities_of_constructor program) (map constructor_tree (drop (i + 1) constructors)) in
    let within : i < length constructors = (let long = ap length same in omega (arith, long, lt)) in
    let found : constructor ≡ get_or constructors i constructor = is ∙ ap (λ cs. get_or cs i constructor) same in
    let here = ap (λ cs. first_over (flat_map (quantities_of_constructor program) (map constructor_tree cs))) (drop_more constructors i constructor within)
    ∙ (ap (λ (c : Constructor). first_over (flat_map (quantities_of_constructor program) (map constructor_tree (c ∷ drop (i + 1) constructors)))) (sym found)
    ∙ (first_append (quantities_of_constructor program (constructor_tree constructor)) left ∙ ap (λ q. sooner q (first_over left)) (sym own_is))) in
    ap (sooner so_far) here ∙ (sym (sooner_assoc so_far own (first_over left)) ∙ ap (λ q. sooner q (first_over left)) (sym next_is))

-- the first one of a whole program
pub whole_first : (program : Program) (slice : List Fun) (of_constructors of_functions first : Option Quantity) → slice ≡ program.functions.items
    → of_constructors ≡ first_over (flat_map (quantities_of_constructor (program_tree program)) (program_tree program).constructors)
    → of_functions ≡ first_over (map quantity_of_function (map function_tree slice)) → first ≡ sooner of_constructors of_functions
    → first_over (declared_quantities (program_tree program)) ≡ first
whole_first program slice of_constructors of_functions first same one two first_is =
    let xs = flat_map (quantities_of_constructor (program_tree program)) (program_tree program).constructors in
    first_append xs (map quantity_of_function (program_tree program).functions)
    ∙ sym (first_is
    ∙ (ap (λ q. sooner q of_functions) one
    ∙ ap (sooner (first_over xs)) (two ∙ ap (λ fs. first_over (map quantity_of_function (map function_tree fs))) same)))

-- ---- a program comes to one thing

pub only_declared : (program : ProgramTree) (outcome : Result (Unit {0}) Limit) → DeclarationsAs program outcome → IsOnly (DeclarationsAs program) outcome
only_declared program outcome h = record { holds = h; only = λ other k. same outcome other h k }
  where
    same : (a b : Result (Unit {0}) Limit) → DeclarationsAs program a → DeclarationsAs program b → b ≡ a
    same (Ok _) (Ok _) one two = refl
    same (Ok _) (Err l) one (q, some, is) = let wrong = sym one ∙ some in cc
    same (Err l) (Ok _) (q, some, is) two = let wrong = sym two ∙ some in cc
    same (Err l) (Err k) (q, some, is) (r, also, too) =
        let both : q ≡ r = (let e = sym some ∙ also in cc) in
        ap Err (too ∙ (ap (λ (x : Quantity). record { kind = x.kind; count = x.count }) (sym both) ∙ sym is))

pub exactly_declared : (program : ProgramTree) → ExactlyOne (DeclarationsAs program)
exactly_declared program = by (first_over (declared_quantities program)) refl
  where
    by : (first : Option Quantity) → first_over (declared_quantities program) ≡ first → ExactlyOne (DeclarationsAs program)
    by None e = (Ok tt, only_declared program (Ok tt) e)
    by (Some q) e = (Err (record { kind = q.kind; count = q.count }), only_declared program _ (q, e, refl))

-- ---- where no limit is passed

none_first : (one two : Option Quantity) → sooner one two ≡ None → one ≡ None
none_first None two none = refl
none_first (Some a) None none = cc
none_first (Some a) (Some b) none = by (nat_lt b.at a.at) none
  where
    by : (t : Bool) → (if t then Some b else Some a) ≡ None → Some a ≡ None
    by true none = cc
    by false none = none

none_second : (one two : Option Quantity) → sooner one two ≡ None → two ≡ None
none_second None two none = none
none_second (Some a) None none = refl
none_second (Some a) (Some b) none = by (nat_lt b.at a.at) none
  where
    by : (t : Bool) → (if t then Some b else Some a) ≡ None → Some b ≡ None
    by true none = none
    by false none = cc

keeps : (q : Quantity) → if_over q ≡ None → q.count ≤ greatest_of q.kind
keeps q none = by (is_over q) refl none
  where
    by : (t : Bool) → is_over q ≡ t → (if t then Some q else None) ≡ None → q.count ≤ greatest_of q.kind
    by true is none = cc
    by false is none = ltb-false (greatest_of q.kind) q.count is

-- two of them
both_keep : (one two : Quantity) → first_over (one ∷ two ∷ []) ≡ None → (one.count ≤ greatest_of one.kind) × (two.count ≤ greatest_of two.kind)
both_keep one two none = (
  keeps one (none_first (if_over one) (first_over (two ∷ [])) none),
  keeps two (none_first (if_over two) None (none_second (if_over one) (first_over (two ∷ [])) none)),
)

-- a constructor keeps its limits, among all of a program
pub record KeepsLimits (all : List ConstructorTree) (constructor : ConstructorTree) : Type 0 where
  pub of_type : length (members all constructor.of_type) ≤ greatest_of Constructors
  pub fields : length constructor.fields ≤ greatest_of Fields

module _ (program : ProgramTree) where
  constructor_keeps : (c : ConstructorTree) → first_over (quantities_of_constructor program c) ≡ None → KeepsLimits program.constructors c
  constructor_keeps c none =
      let both = both_keep
      (record { at = place_of_type (slice_get program.types c.of_type); kind = Constructors; count = length (members program.constructors c.of_type) })
      (record { at = c.at; kind = Fields; count = length c.fields }) none in
      record { of_type = both.0; fields = both.1 }

  constructors_keep : (constructors : List ConstructorTree) → first_over (flat_map (quantities_of_constructor program) constructors) ≡ None
      → All (KeepsLimits program.constructors) constructors
  constructors_keep [] none i d lt = absurd (omega (arith, lt))
  constructors_keep (c ∷ cs) none zero d lt =
      constructor_keeps c (none_first (first_over (quantities_of_constructor program c)) (first_over (flat_map (quantities_of_constructor program) cs))
      (sym (first_append (quantities_of_constructor program c) (flat_map (quantities_of_constructor program) cs)) ∙ none))
  constructors_keep (c ∷ cs) none (suc i) d lt =
      constructors_keep cs
      (none_second (first_over (quantities_of_constructor program c)) (first_over (flat_map (quantities_of_constructor program) cs))
      (sym (first_append (quantities_of_constructor program c) (flat_map (quantities_of_constructor program) cs)) ∙ none)) i d (omega (arith, lt))

functions_keep : (functions : List FunctionTree) → first_over (map quantity_of_function functions) ≡ None → All (λ (f : FunctionTree). length f.parameters ≤ greatest_of Parameters) functions
functions_keep [] none i d lt = absurd (omega (arith, lt))
functions_keep (f ∷ fs) none zero d lt = keeps (quantity_of_function f) (none_first (if_over (quantity_of_function f)) (first_over (map quantity_of_function fs)) none)
functions_keep (f ∷ fs) none (suc i) d lt =
    functions_keep fs (none_second (if_over (quantity_of_function f)) (first_over (map quantity_of_function fs)) none) i d (omega (arith, lt))

module _ (program : ProgramTree) (none : first_over (declared_quantities program) ≡ None) where
  both_none : sooner (first_over (flat_map (quantities_of_constructor program) program.constructors)) (first_over (map quantity_of_function program.functions)) ≡ None
  both_none = sym (first_append (flat_map (quantities_of_constructor program) program.constructors) (map quantity_of_function program.functions)) ∙ none

  pub each_constructor_keeps : All (KeepsLimits program.constructors) program.constructors
  each_constructor_keeps =
      constructors_keep program program.constructors
      (none_first (first_over (flat_map (quantities_of_constructor program) program.constructors)) (first_over (map quantity_of_function program.functions)) both_none)

  pub few_parameters : All (λ (f : FunctionTree). length f.parameters ≤ greatest_of Parameters) program.functions
  few_parameters =
      functions_keep program.functions
      (none_second (first_over (flat_map (quantities_of_constructor program) program.constructors)) (first_over (map quantity_of_function program.functions)) both_none)
