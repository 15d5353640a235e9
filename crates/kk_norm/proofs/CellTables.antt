-- The table of the types that have cells, as it grows constructor by constructor.
use Rattle.std.proofs.lemmas.List.{map-append, take_all, get_or_past, get_or-set_same, get_or-set_other, length-map, length-set, take_more}
use Rattle.std.proofs.lemmas.List.Folds.{list_any-append}
use Rattle.std.proofs.Common.{◌≡◌, ℕ, suc, ◌+◌, ◌<◌, ◌≤◌, Bool, true, false, List, [], ◌∷◌, ◌++◌, length, map, take, get_or, refl, sym, ap, ◌∙◌, subst, inl, inr, arith}
use Rattle.std.specs.Prelude.{slice_set, All, ◌==◌, ◌&&◌, ◌||◌, not, if◌then◌else◌, AllPairs, Option, Some, None}
use Rattle.std.proofs.Math.Dec.{eqb-suc-zero}
use Rattle.std.proofs.lemmas.Bool.{eqb-true, eq-eqb, cases_lt, both_ways}
use Rattle.kk_norm.proofs.TypeNumbers.{one_number, declared_is, own_type}
use Rattle.kk_syntax.specs.declared.ground.Ground.{Ground}
use Rattle.kk_syntax.specs.declared.ground.GroundConstructor.{GroundConstructor}
use Rattle.kk_syntax.specs.declared.ground.Instance.{Instance}
use Rattle.kk_syntax.specs.GroundPrograms.{ground_types, ground_constructor_tree, instance_tree, ground_program, number_of_type, arguments_of_type}
use Rattle.kk_syntax.specs.GroundTypes.{is_declared}
use Rattle.kk_syntax.specs.OfType.{same_type, fields_of, fields_with}
use Rattle.kk_syntax.specs.Programs.{ConstructorTree, FunctionTree}
use Rattle.kk_syntax.specs.Types.{TypeTree, int32, unit_type, type_variable, named, type_at}
use Rattle.kk_syntax.proofs.GroundTypes.{types_length}
use Rattle.kk_syntax.proofs.TypeEquality.{all_same_itself}
use Rattle.kk_core.specs.CellTypes.{has_any, makes_cells, has_cells, made_type, TellsCells}
use Rattle.kk_core.specs.declared.form.Core.{Core}
use Rattle.kk_core.specs.declared.form.CoreFunction.{CoreFunction}
use Rattle.kk_core.specs.declared.shape.ConstructorShape.{ConstructorShape}
use Rattle.kk_norm.specs.CellTables.{at_type, IsCellTable, AreShapesOf, TellCells}

-- the table tells of some of the constructors
pub record TableSoFar (given : Ground) (constructors : List GroundConstructor) (table : List Bool) : Type 0 where
  pub as_many : length table ≡ length given.types.items
  pub tells : (n : ℕ) → at_type table n
      ≡ has_cells (map (ground_constructor_tree (ground_types given.types.items)) constructors)
      (type_at (ground_types given.types.items) n)

-- ---- lists that grow together

module _ {A B C : Type 0} (f : A → C) (g : B → C) where
  pub more_mapped : (before after : List A) (one : A) (xs : List B) (i : ℕ) (x : B) → after ≡ before ++ one ∷ []
      → map f before ≡ map g (take i xs) → f one ≡ g x → x ≡ get_or xs i x → i < length xs → map f after ≡ map g (take (i + 1) xs)
  more_mapped before after one xs i x grown earlier own is less =
      ap (map f) grown ∙ (map-append f before (one ∷ []) ∙ (ap (λ ys. ys ++ f one ∷ []) earlier
      ∙ (ap (λ y. map g (take i xs) ++ y ∷ []) (own ∙ ap g is) ∙ (sym (map-append g (take i xs) (get_or xs i x ∷ []))
      ∙ ap (map g) (sym (take_more xs i x less))))))

  pub all_mapped : (zs : List A) (xs ys : List B) (i : ℕ) → map f zs ≡ map g (take i xs) → length xs ≤ i → xs ≡ ys
      → map f zs ≡ map g ys
  all_mapped zs xs ys i so_far all same = so_far ∙ ap (map g) (take_all i xs all ∙ same)

module _ (table : List Bool) where
  pub tell_more : (before after : List CoreFunction) (one : CoreFunction) (xs : List Instance) (i : ℕ) (x : Instance)
      → after ≡ before ++ one ∷ [] → TellCells table (take i xs) before
      → one.parameters_have_cells.items ≡ map (at_type table) x.parameters.items → one.result_has_cells ≡ at_type table x.result
      → x ≡ get_or xs i x → i < length xs → TellCells table (take (i + 1) xs) after
  tell_more before after one xs i x grown earlier parameters result is less = record {
    parameters = more_mapped (λ (f : CoreFunction). f.parameters_have_cells.items)
        (λ (i : Instance). map
        (at_type table) i.parameters.items) before after one xs i x grown earlier.parameters parameters is less;
    results = more_mapped (λ (f : CoreFunction). f.result_has_cells)
        (λ (i : Instance). at_type table i.result) before after one xs i
        x grown earlier.results result is less;
  }

  pub tell_all : (cores : List CoreFunction) (xs ys : List Instance) (i : ℕ) → TellCells table (take i xs) cores → length xs ≤ i
      → xs ≡ ys → TellCells table ys cores
  tell_all cores xs ys i so_far all same =
      subst (λ zs. TellCells table zs cores) (take_all i xs all ∙ same) so_far

  pub shapes_more : (before after : List ConstructorShape) (one : ConstructorShape) (xs : List GroundConstructor) (i : ℕ)
      (x : GroundConstructor) → after ≡ before ++ one ∷ [] → AreShapesOf table (take i xs) before
      → one.of_type ≡ x.of_type → one.tag ≡ x.tag → one.has_cells ≡ at_type table x.of_type
      → one.fields.items ≡ map (at_type table) x.fields.items → x ≡ get_or xs i x → i < length xs
      → AreShapesOf table (take (i + 1) xs) after
  shapes_more before after one xs i x grown earlier of_type tag cells fields is less = record {
    of_types = more_mapped (λ (c : ConstructorShape). c.of_type)
        (λ (c : GroundConstructor). c.of_type) before after one xs i x grown
        earlier.of_types of_type is less;
    tags = more_mapped (λ (c : ConstructorShape). c.tag) (λ (c : GroundConstructor). c.tag) before after one xs i x grown
        earlier.tags tag is less;
    types = more_mapped (λ (c : ConstructorShape). c.has_cells)
        (λ (c : GroundConstructor). at_type table c.of_type) before after one
        xs i x grown earlier.types cells is less;
    fields = more_mapped (λ (c : ConstructorShape). c.fields.items) (λ (c : GroundConstructor). map (at_type table) c.fields.items)
        before after one xs i x grown earlier.fields fields is less;
  }

  pub shapes_all : (shapes : List ConstructorShape) (xs ys : List GroundConstructor) (i : ℕ) → AreShapesOf table (take i xs) shapes
      → length xs ≤ i → xs ≡ ys → AreShapesOf table ys shapes
  shapes_all shapes xs ys i so_far all same =
      subst (λ zs. AreShapesOf table zs shapes) (take_all i xs all ∙ same) so_far

-- ---- one constructor more

module _ (ts : List TypeTree) (made : GroundConstructor) (declared : is_declared (type_at ts made.of_type) ≡ true) where
  abbrev own : TypeTree
  own = type_at ts made.of_type

  abbrev tree : ConstructorTree
  tree = ground_constructor_tree ts made

  fields_own : fields_of (Some (ground_constructor_tree ts made)) (number_of_type own) (arguments_of_type own)
      ≡ Some (map (type_at ts) made.fields.items)
  fields_own =
      ap (λ (b : Bool). if b then fields_with (Some (arguments_of_type own)) (map (type_at ts) made.fields.items)
      (arguments_of_type own) else None)
      (eq-eqb (number_of_type own) (number_of_type own) refl)
      ∙ ap (λ (b : Bool). if b then Some (map (type_at ts) made.fields.items) else None) (all_same_itself (arguments_of_type own))

  has_some : (us : List TypeTree) → has_any (Some us) ≡ not (length us == 0)
  has_some [] = refl
  has_some (u ∷ us) = sym (ap not (eqb-suc-zero (length us)))

  makes_own : makes_cells tree own ≡ not (length made.fields.items == 0)
  makes_own =
      ap (makes_cells tree) (declared_is own declared)
      ∙ (ap has_any fields_own ∙ (has_some (map (type_at ts) made.fields.items)
      ∙ ap (λ n. not (n == 0)) (length-map made.fields.items (type_at ts))))

  makes_only : (t : TypeTree) → makes_cells tree t ≡ true → own ≡ t
  makes_only int32 is = absurd (cc)
  makes_only unit_type is = absurd (cc)
  makes_only (type_variable of) is = absurd (cc)
  makes_only (named by arguments) is = by_fields (fields_of (Some tree) by arguments) refl is
    where
      by_fields : (found : Option (List TypeTree)) → fields_of (Some tree) by arguments ≡ found → has_any found ≡ true
          → own ≡ named by arguments
      by_fields None at some = absurd (cc)
      by_fields (Some us) at some = own_type ts made by arguments us declared at

  -- it makes cells of its own type alone, if it has fields
  makes_at : AllPairs (λ one other. same_type one other ≡ false) ts → made.of_type < length ts → (n : ℕ)
      → makes_cells tree (type_at ts n) ≡ ((made.of_type == n) && not (length made.fields.items == 0))
  makes_at once within n = by_test (made.of_type == n) refl
    where
      elsewhere : (made.of_type == n) ≡ false → (b : Bool) → makes_cells tree (type_at ts n) ≡ b → b ≡ false
      elsewhere other false is = refl
      elsewhere other true is = elim (cases_lt n (length ts)) [
        | inl less ↦ absurd (both_ways (made.of_type == n) other
            (eq-eqb made.of_type n (one_number ts once made.of_type n within less (makes_only (type_at ts n) is))))
        | inr behind ↦ absurd (not_unit (subst (λ t. makes_cells tree t ≡ true) (get_or_past ts n unit_type behind) is))
      ]
        where
          not_unit : makes_cells tree unit_type ≡ true → ⊥
          not_unit is = absurd (cc)

      by_test : (same : Bool) → (made.of_type == n) ≡ same
          → makes_cells tree (type_at ts n) ≡ ((made.of_type == n) && not (length made.fields.items == 0))
      by_test true same =
          subst (λ m. makes_cells tree (type_at ts m) ≡ not (length made.fields.items == 0))
          (eqb-true made.of_type n same) makes_own
          ∙ ap (λ b. b && not (length made.fields.items == 0)) (sym same)
      by_test false other =
          elsewhere other (makes_cells tree (type_at ts n)) refl ∙ ap (λ b. b && not (length made.fields.items == 0)) (sym other)

-- the table behind one constructor more
abbrev pub marked : GroundConstructor → List Bool → List Bool
marked made table = if length made.fields.items == 0 then table else slice_set table made.of_type true

module _ (ts : List TypeTree) (made : GroundConstructor) (declared : is_declared (type_at ts made.of_type) ≡ true)
    (once : AllPairs (λ one other. same_type one other ≡ false) ts) (within : made.of_type < length ts) where
  tells_more : (constructors : List ConstructorTree) (table : List Bool) → length table ≡ length ts
      → ((n : ℕ) → at_type table n ≡ has_cells constructors (type_at ts n)) → (n : ℕ)
      → at_type (marked made table) n ≡ has_cells (constructors ++ ground_constructor_tree ts made ∷ []) (type_at ts n)
  tells_more constructors table as_many tells n =
      by_fields (length made.fields.items == 0) refl ∙ sym (list_any-append (λ c. makes_cells c (type_at ts n)) constructors
      (ground_constructor_tree ts made ∷ []))
    where
      or_not : (b c : Bool) → c ≡ false → b ≡ (b || (c || false))
      or_not true false is = refl
      or_not false false is = refl
      or_not b true is = absurd (cc)

      or_so : (b c : Bool) → c ≡ true → true ≡ (b || (c || false))
      or_so true true is = refl
      or_so false true is = refl
      or_so b false is = absurd (cc)

      here : Bool
      here = makes_cells (ground_constructor_tree ts made) (type_at ts n)

      by_test : (same : Bool) → (made.of_type == n) ≡ same → (length made.fields.items == 0) ≡ false
          → at_type (slice_set table made.of_type true) n ≡ (has_cells constructors (type_at ts n) || (here || false))
      by_test true same some =
          let is : made.of_type ≡ n = eqb-true made.of_type n same in
          subst (λ m. at_type (slice_set table made.of_type true) m ≡ true) is
          (get_or-set_same table made.of_type true false (omega (arith, within, as_many)))
          ∙ or_so (has_cells constructors (type_at ts n)) here
          (makes_at ts made declared once within n ∙ (ap (λ b. b && not (length made.fields.items == 0)) same ∙ ap not some))
      by_test false other some =
          get_or-set_other table made.of_type n true false (λ is. both_ways (made.of_type == n) other
          (eq-eqb made.of_type n (sym is)))
          ∙ (tells n ∙ or_not (has_cells constructors (type_at ts n)) here
          (makes_at ts made declared once within n ∙ ap (λ b. b && not (length made.fields.items == 0)) other))

      never : (b : Bool) → (b && false) ≡ false
      never true = refl
      never false = refl

      by_fields : (empty : Bool) → (length made.fields.items == 0) ≡ empty
          → at_type (if empty then table else slice_set table made.of_type true) n
          ≡ (has_cells constructors (type_at ts n) || (here || false))
      by_fields true is =
          tells n ∙ or_not (has_cells constructors (type_at ts n)) here
          (makes_at ts made declared once within n ∙ (ap (λ b. (made.of_type == n) && not b) is ∙ never (made.of_type == n)))
      by_fields false is = by_test (made.of_type == n) refl is

-- ---- a program's constructors, one behind the other

-- what the numbers of a program say of a constructor that stands in its list
pub record IsThere (given : Ground) (made : GroundConstructor) : Type 0 where
  pub within : made.of_type < length (ground_types given.types.items)
  pub declared : is_declared (type_at (ground_types given.types.items) made.of_type) ≡ true

pub is_there : (given : Ground) (xs : List GroundConstructor) (i : ℕ) (x : GroundConstructor) → xs ≡ given.constructors.items
    → x ≡ get_or xs i x → i < length xs → IsThere given x
is_there given xs i x same is less =
    let there : x ≡ get_or given.constructors.items i x = is ∙ ap (λ ys. get_or ys i x) same in
    let inside : i < length given.constructors.items = subst (λ (ys : List GroundConstructor). i < length ys) same less in
    record {
      within = subst (λ (k : GroundConstructor). k.of_type < length (ground_types given.types.items)) (sym there)
          (given.numbered.there i x inside);
      declared = subst (λ (k : GroundConstructor). is_declared (type_at (ground_types given.types.items) k.of_type) ≡ true)
          (sym there) (given.numbered.declared i x inside);
    }

-- a type that is marked is one of the table
pub marks_within : (given : Ground) (xs : List GroundConstructor) (i : ℕ) (x : GroundConstructor) (count : ℕ)
    → xs ≡ given.constructors.items → x ≡ get_or xs i x → i < length xs → count ≡ length given.types.items → x.of_type < count
marks_within given xs i x count same is less as_many =
    let within = (is_there given xs i x same is less).within in
    let long = types_length given.types.items in
    omega (arith, within, long, as_many)

marked_length : (made : GroundConstructor) (table : List Bool) → length (marked made table) ≡ length table
marked_length made table = by_fields (length made.fields.items == 0)
  where
    by_fields : (empty : Bool) → length (if empty then table else slice_set table made.of_type true) ≡ length table
    by_fields true = refl
    by_fields false = length-set table made.of_type true

pub table_more : (given : Ground) (xs : List GroundConstructor) (i : ℕ) (x : GroundConstructor) (table after : List Bool)
    → xs ≡ given.constructors.items → x ≡ get_or xs i x → i < length xs → after ≡ marked x table
    → TableSoFar given (take i xs) table → TableSoFar given (take (i + 1) xs) after
table_more given xs i x table after same is less grown so_far =
    let there = is_there given xs i x same is less in
    let ts : List TypeTree = ground_types given.types.items in
    let long = types_length given.types.items in
    let marked_is = marked_length x table in
    let as_many = so_far.as_many in
    let trees : map (ground_constructor_tree ts) (take (i + 1) xs) ≡ map (ground_constructor_tree ts)
    (take i xs) ++ ground_constructor_tree ts x ∷ []
    = ap (map (ground_constructor_tree ts)) (take_more xs i x less)
    ∙ (map-append (ground_constructor_tree ts) (take i xs) (get_or xs i x ∷ [])
    ∙ ap (λ y. map (ground_constructor_tree ts) (take i xs) ++ ground_constructor_tree ts y ∷ []) (sym is)) in
    record {
      as_many = ap (λ (flags : List Bool). length flags) grown ∙ (marked_is ∙ as_many);
      tells = λ n.
          ap (λ flags. at_type flags n) grown
          ∙ (tells_more ts x there.declared given.numbered.once there.within (map (ground_constructor_tree ts) (take i xs)) table
          (omega (arith, long, as_many)) so_far.tells n ∙ ap (λ cs. has_cells cs (type_at ts n)) (sym trees));
    }

-- ---- what a core form tells

module _ (given : Ground) (table : List Bool) (is : IsCellTable given table) where
  abbrev ts : List TypeTree
  ts = ground_types given.types.items

  abbrev constructors : List ConstructorTree
  constructors = (ground_program given).constructors

  flags_are : (numbers : List ℕ) → map (at_type table) numbers ≡ map (has_cells constructors) (map (type_at ts) numbers)
  flags_are [] = refl
  flags_are (n ∷ numbers) = ap (λ (b : Bool). b ∷ map (at_type table) numbers) (is n)
      ∙ ap (λ bs. has_cells constructors (type_at ts n) ∷ bs) (flags_are numbers)

  made_is : (made : GroundConstructor) → is_declared (type_at ts made.of_type) ≡ true
      → type_at ts made.of_type ≡ made_type (ground_constructor_tree ts made)
  made_is made declared = declared_is (type_at ts made.of_type) declared

  -- of each constructor
  own_types : (some : List GroundConstructor) → All (λ (made : GroundConstructor). is_declared (type_at ts made.of_type)
      ≡ true) some
      → map (λ (c : GroundConstructor). at_type table c.of_type) some
      ≡ map (λ c. has_cells constructors (made_type c)) (map (ground_constructor_tree ts) some)
  own_types [] declared = refl
  own_types (made ∷ some) declared =
      ap (λ (b : Bool). b ∷ map (λ (c : GroundConstructor). at_type table c.of_type) some)
      (is made.of_type ∙ ap (has_cells constructors) (made_is made (declared 0 made (omega arith))))
      ∙ ap (λ bs. has_cells constructors (made_type (ground_constructor_tree ts made)) ∷ bs)
      (own_types some (λ i d less. declared (suc i) d (omega (arith, less))))

  own_fields : (some : List GroundConstructor) → map (λ (c : GroundConstructor). map (at_type table) c.fields.items) some
      ≡ map (λ (c : ConstructorTree). map (has_cells constructors) c.fields) (map (ground_constructor_tree ts) some)
  own_fields [] = refl
  own_fields (made ∷ some) =
      ap (λ (bs : List Bool). bs ∷ map (λ (c : GroundConstructor). map (at_type table) c.fields.items) some)
      (flags_are made.fields.items)
      ∙ ap (λ bss. map (has_cells constructors) (map (type_at ts) made.fields.items) ∷ bss) (own_fields some)

  own_tags : (some : List GroundConstructor) → map (λ (c : GroundConstructor). c.tag) some
      ≡ map (λ (c : ConstructorTree). c.tag) (map (ground_constructor_tree ts) some)
  own_tags [] = refl
  own_tags (made ∷ some) = ap (λ (ns : List ℕ). made.tag ∷ ns) (own_tags some)

  parameters_are : (some : List Instance) → map (λ (i : Instance). map (at_type table) i.parameters.items) some
      ≡ map (λ (f : FunctionTree). map (has_cells constructors) f.parameters) (map (instance_tree ts) some)
  parameters_are [] = refl
  parameters_are (i ∷ some) =
      ap (λ (bs : List Bool). bs ∷ map (λ (i : Instance). map (at_type table) i.parameters.items) some)
      (flags_are i.parameters.items)
      ∙ ap (λ bss. map (has_cells constructors) (map (type_at ts) i.parameters.items) ∷ bss) (parameters_are some)

  results_are : (some : List Instance) → map (λ (i : Instance). at_type table i.result) some
      ≡ map (λ (f : FunctionTree). has_cells constructors f.result) (map (instance_tree ts) some)
  results_are [] = refl
  results_are (i ∷ some) = ap (λ (b : Bool). b ∷ map (λ (i : Instance). at_type table i.result) some) (is i.result)
      ∙ ap (λ bs. has_cells constructors (type_at ts i.result) ∷ bs) (results_are some)

  pub tells_cells : (core : Core) → AreShapesOf table given.constructors.items core.constructors.items
      → TellCells table given.instances.items core.functions.items → TellsCells (ground_program given) core
  tells_cells core shapes functions = record {
    tags = shapes.tags ∙ own_tags given.constructors.items;
    types = shapes.types ∙ own_types given.constructors.items given.numbered.declared;
    fields = shapes.fields ∙ own_fields given.constructors.items;
    parameters = functions.parameters ∙ parameters_are given.instances.items;
    results = functions.results ∙ results_are given.instances.items;
  }
