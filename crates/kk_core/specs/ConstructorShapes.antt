-- What is known of constructors, all of a program together.
use Rattle.std.specs.Prelude.{◌≡◌, ℕ, ◌==◌, ◌&&◌, Bool, not, List, map, length, take, count_by, Some, slice_get}
use Rattle.std.specs.List.{list_any}
use Rattle.kk_core.specs.declared.shape.ConstructorShape.{ConstructorShape}

abbrev pub has_fields : ConstructorShape → Bool
has_fields constructor = not (length constructor.fields.items == 0)

-- The constructors of a type have the tags 0, 1, 2 and so on in their order: a tag is the number of those before. And a type
-- has cells exactly where one of its constructors has a field.
pub record AreConsistent (constructors : List ConstructorShape) : Type 0 where
  pub tags : (i : ℕ) (one : ConstructorShape) → slice_get constructors i ≡ Some one
      → one.tag ≡ count_by (λ other. other.of_type == one.of_type) (take i constructors)
  pub cells : (i : ℕ) (one : ConstructorShape) → slice_get constructors i ≡ Some one
      → one.has_cells ≡ list_any (λ other. (other.of_type == one.of_type) && has_fields other) constructors

-- by a constructor's number, how many fields it has
abbrev pub fields_in : List ConstructorShape → List ℕ
fields_in constructors = map (λ constructor. length constructor.fields.items) constructors
