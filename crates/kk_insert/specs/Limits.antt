-- How much inserted code takes at most, where the constructors of its program have few fields.
use Rattle.std.specs.Prelude.{◌≡◌, ◌≤◌, ◌+◌, ◌*◌, ℕ, List, length, Some, slice_get}
use Rattle.kk_base.specs.declared.limit.LimitKind.TheVariants.{Fields}
use Rattle.kk_base.specs.Limits.{greatest_of}
use Rattle.kk_syntax.specs.Programs.{ConstructorTree}
use Rattle.kk_core.specs.Sizes.{most_forms, most_parameters}

-- the fields of a constructor, which fit into a cell
abbrev pub most_fields : ℕ
most_fields = greatest_of Fields

abbrev pub HaveFewFields : List ConstructorTree → Type 0
HaveFewFields constructors =
    (c : ℕ) (one : ConstructorTree) → slice_get constructors c ≡ Some one → length one.fields ≤ most_fields

-- the references that a form spends at most: it takes as many as a function has parameters, each with a dup, and its value
abbrev pub form_spent : ℕ
form_spent = 2 * most_parameters + 1

-- those that a function spends at most on a path
abbrev pub most_spent : ℕ
most_spent = form_spent * most_forms + most_parameters
