-- Values and bindings as they are kept, seen as those of the machine's definition.
use Rattle.std.specs.Prelude.{ℕ, zero, suc, ◌-◌, List, [], ◌∷◌, Option, Some, None, slice_get, map}
use Rattle.kk_syntax.specs.Trees.{expr_tree}
use Rattle.kk_source.specs.State as source
use Rattle.kk_source.specs.Matching.{Chosen as OfChosen}
use Rattle.kk_meaning.specs.declared.value.Value.{Value}
use Rattle.kk_meaning.specs.declared.value.Value.TheVariants as OfValue
use Rattle.kk_meaning.specs.declared.binding.Bound.{Bound}
use Rattle.kk_meaning.specs.declared.binding.Link.{Link}
use Rattle.kk_meaning.specs.declared.cell.Cell.{Cell}
use Rattle.kk_meaning.specs.declared.matching.Chosen.{Chosen}

abbrev pub value_view : Value → source.Value
value_view (OfValue.Integer number) = source.integer number
value_view OfValue.Unit = source.unit
value_view (OfValue.Constant of) = source.constant of
value_view (OfValue.Place at) = source.place at

abbrev pub bound_view : Bound → source.Binding
bound_view bound = record { variable = bound.variable; value = value_view bound.value }

-- a link and the environment before it, by its index
abbrev pub linked : ℕ → Option Link → (ℕ → source.Environment) → source.Environment
linked at None before = []
linked at (Some link) before = bound_view link.bound ∷ before (at - link.skips)

-- The environment of so many links, the newest one first: a link skips those before it that are not of its environment.
-- No environment has more bindings than its number.
abbrev pub environment_within : List Link → ℕ → ℕ → source.Environment
environment_within links zero environment = []
environment_within links (suc most) zero = []
environment_within links (suc most) (suc at) = linked at (slice_get links at) (λ before. environment_within links most before)

abbrev pub environment_of : List Link → ℕ → source.Environment
environment_of links environment = environment_within links environment environment

-- an environment with more bindings, the last of them newest
abbrev pub pushed : List source.Binding → source.Environment → source.Environment
pushed [] environment = environment
pushed (b ∷ bs) environment = pushed bs (b ∷ environment)

abbrev pub cell_view : Cell → source.Cell
cell_view cell = record { made_by = cell.made_by; fields = map value_view cell.fields.items }

-- a chosen row, its variables bound in an environment
abbrev pub chosen_view : Option Chosen → source.Environment → Option OfChosen
chosen_view None environment = None
chosen_view (Some chosen) environment =
    Some (record { body = expr_tree chosen.body.now; environment = pushed (map bound_view chosen.bound.items) environment })
