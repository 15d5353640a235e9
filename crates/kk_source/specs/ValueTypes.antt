-- When a value is of a type: what it holds, followed through cells to its end, is of that type. A store has no types of its
-- own.
use Rattle.std.specs.Prelude.{◌≡◌, ℕ, ℤ, List, [], ◌∷◌, Some, slice_get}
use Rattle.kk_syntax.specs.OfType.{field_types}
use Rattle.kk_syntax.specs.Programs.{ConstructorTree}
use Rattle.kk_syntax.specs.Types.{TypeTree, int32, unit_type}
use Rattle.kk_source.specs.State.{Value, integer, unit, constant, place, Store}

-- The content of a value: a number; `()`; or a constructor, and the contents of its fields.
mutual
  pub data Content : Type 0 where
    amount : (value : ℤ) → Content
    nothing : Content
    built : (by : ℕ) → (parts : Contents) → Content

  pub data Contents : Type 0 where
    no_content : Contents
    content : (first : Content) → (rest : Contents) → Contents

-- a value is made by a constructor with fields: without any it is the constructor itself, and else the place of a cell
abbrev pub IsMadeBy : Store → Value → ℕ → List Value → Type 0
IsMadeBy store v c [] = v ≡ constant c
IsMadeBy store v c (w ∷ ws) = (at : ℕ) × (v ≡ place at) × (slice_get store at ≡ Some (record { made_by = c; fields = w ∷ ws }))

-- a value has that content, and values have those
abbrev mutual
  pub HasContent : Store → Value → Content → Type 0
  HasContent store v (amount n) = v ≡ integer n
  HasContent store v nothing = v ≡ unit
  HasContent store v (built c parts) = (vs : List Value) × IsMadeBy store v c vs × HaveContents store vs parts

  pub HaveContents : Store → List Value → Contents → Type 0
  HaveContents store [] no_content = Unit {0}
  HaveContents store [] (content first rest) = ⊥
  HaveContents store (v ∷ vs) no_content = ⊥
  HaveContents store (v ∷ vs) (content first rest) = HasContent store v first × HaveContents store vs rest

-- a content is of a type, and contents are of types, by the constructors that a program declares
abbrev mutual
  pub IsContentOf : List ConstructorTree → TypeTree → Content → Type 0
  IsContentOf constructors t (amount n) = t ≡ int32
  IsContentOf constructors t nothing = t ≡ unit_type
  IsContentOf constructors t (built c parts) =
      (us : List TypeTree) × (field_types constructors t c ≡ Some us) × AreContentsOf constructors us parts

  pub AreContentsOf : List ConstructorTree → List TypeTree → Contents → Type 0
  AreContentsOf constructors [] no_content = Unit {0}
  AreContentsOf constructors [] (content first rest) = ⊥
  AreContentsOf constructors (t ∷ ts) no_content = ⊥
  AreContentsOf constructors (t ∷ ts) (content first rest) = IsContentOf constructors t first × AreContentsOf constructors ts rest

-- a value is of a type, and values are of types
pub record IsOf (constructors : List ConstructorTree) (store : Store) (t : TypeTree) (v : Value) : Type 0 where
  pub what : Content
  pub has : HasContent store v what
  pub typed : IsContentOf constructors t what

abbrev pub AreOf : List ConstructorTree → Store → List TypeTree → List Value → Type 0
AreOf constructors store [] [] = Unit {0}
AreOf constructors store [] (v ∷ vs) = ⊥
AreOf constructors store (t ∷ ts) [] = ⊥
AreOf constructors store (t ∷ ts) (v ∷ vs) = IsOf constructors store t v × AreOf constructors store ts vs
