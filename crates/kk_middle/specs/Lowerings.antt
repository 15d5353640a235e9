-- What is known of the counted form of an accepted program, so that it can be lowered.
use Rattle.std.specs.Prelude.{◌≡◌, ◌≤◌, ◌<◌, ◌+◌, ℕ, length, map}
use Rattle.kk_syntax.specs.declared.ground.Ground.{Ground}
use Rattle.kk_syntax.specs.GroundPrograms.{ground_program}
use Rattle.kk_syntax.specs.Shapes.{greatest_nodes}
use Rattle.kk_core.specs.Sizes.{most_instances, most_parameters}
use Rattle.kk_counted.specs.CountBounds.{AllSpendAtMost}
use Rattle.kk_counted.specs.declared.counted.Counted.{Counted}
use Rattle.kk_counted.specs.FunctionSizes.{AllHaveVariablesBelow}
use Rattle.kk_counted.specs.Lowerable.{AreLowerable}
use Rattle.kk_counted.specs.Marks.{CellMarks, field_marks, marks_of}
use Rattle.kk_counted.specs.Programs.{function_of, program_of}
use Rattle.kk_insert.specs.Limits.{most_fields, most_spent}
use Rattle.kk_middle.specs.ShapeKinds.{tag_of}

-- the marks that the shape of a program tells
abbrev pub marks_in : Counted → CellMarks
marks_in made = marks_of made.shape.instances.items made.shape.constructors.items

-- Its functions are few, can be lowered, and spend few references on each path. A function has a variable at most for each node of the
-- greatest body of the instances, and for each parameter. A constructor has few fields and a small tag; the first two are `False` and
-- `True`.
pub record CanBeLowered (made : Counted) (given : Ground) : Type 0 where
  pub lowerable : AreLowerable (marks_in made) (map function_of made.functions.items)
  pub variables : AllHaveVariablesBelow (greatest_nodes (ground_program given) + most_parameters)
      (map function_of made.functions.items)
  pub little : AllSpendAtMost (program_of made.functions.items given.texts.items) most_spent
  pub few : length (map function_of made.functions.items) ≤ most_instances
  pub few_fields : (c : ℕ) → length (field_marks (marks_in made) c) ≤ most_fields
  pub tags : (c : ℕ) → tag_of made.shape.constructors.items c < 256
  pub falsity : tag_of made.shape.constructors.items 0 ≡ 0
  pub truth_is : tag_of made.shape.constructors.items 1 ≡ 1
