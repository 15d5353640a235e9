-- How values look in cells: the word of a value, and the header of a cell.
use Rattle.std.specs.Prelude.{ℕ, ◌+◌, ◌*◌, ◌<◌, ◌≤◌, Bool, true, false, List, [], ◌∷◌, map, length, slice_index_or}
use Rattle.kk_base.specs.Limits.{greatest_of}
use Rattle.kk_base.specs.declared.limit.LimitKind.TheVariants.{Fields}
use Rattle.rv_isa.specs.Arithmetic.{word_of, bit_of}
use Rattle.kk_source.specs.State.{Value, integer, unit, constant, place}
use Rattle.kk_core.specs.declared.shape.ConstructorShape.{ConstructorShape}

-- of each constructor, its tag, and of each of its fields whether it can hold cells
pub record Layout : Type 0 where
  pub tag : ℕ → ℕ
  pub fields : ℕ → List Bool

abbrev pub layout_of : List ConstructorShape → Layout
layout_of constructors = record {
  tag = λ c. slice_index_or (map (λ one. one.tag) constructors) c 0;
  fields = λ c. slice_index_or (map (λ one. one.fields.items) constructors) c [];
}

-- the word of a cell at which its fields begin, behind its count and its header
abbrev pub first_field : ℕ
first_field = 2

-- how many tags a byte of the header tells apart
abbrev pub tag_values : ℕ
tag_values = 256

-- a tag has a byte of the header, and six fields a cell
pub record IsNarrow (layout : Layout) : Type 0 where
  pub tags : (c : ℕ) → layout.tag c < tag_values
  pub few : (c : ℕ) → length (layout.fields c) ≤ greatest_of Fields

-- the fields that can hold cells, as bits: bit 0 for the first one
abbrev pub mask_of : List Bool → ℕ
mask_of [] = 0
mask_of (holds ∷ more) = bit_of holds + 2 * mask_of more

abbrev pub header_of : Layout → ℕ → ℕ
header_of layout c = layout.tag c + tag_values * mask_of (layout.fields c)

-- The word of a value, by the addresses of cells. A constructor without fields is odd, and so is `()`: so neither is an address.
abbrev pub word_in : Layout → (ℕ → ℕ) → Value → ℕ
word_in layout address (integer number) = word_of number
word_in layout address unit = 1
word_in layout address (constant c) = 2 * layout.tag c + 1
word_in layout address (place name) = address name

abbrev pub words_in : Layout → (ℕ → ℕ) → List Value → List ℕ
words_in layout address values = map (word_in layout address) values

-- a field that can hold cells holds no integer, and another one holds no cell
abbrev pub FitsField : Bool → Value → Type 0
FitsField true (integer number) = ⊥
FitsField true _ = Unit {0}
FitsField false (place name) = ⊥
FitsField false _ = Unit {0}

abbrev pub FitFields : List Bool → List Value → Type 0
FitFields [] [] = Unit {0}
FitFields (holds ∷ more) (v ∷ vs) = FitsField holds v × FitFields more vs
FitFields _ _ = ⊥
