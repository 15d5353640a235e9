-- Marks on the cells of a store.
use Rattle.std.specs.Prelude.{◌≡◌, ◌⊎◌, ℕ, ◌<◌, Bool, true, false, List, length, slice_index_or}
use Rattle.kk_source.specs.State.{Value}
use Rattle.kk_source.specs.Live.{Among}

abbrev pub is_marked : List Bool → ℕ → Bool
is_marked marks at = slice_index_or marks at false

-- the cells that values name are marked besides those that were, and no others
pub record Marked (before after : List Bool) (values : List Value) : Type 0 where
  pub kept : (at : ℕ) → is_marked before at ≡ true → is_marked after at ≡ true
  pub named : (at : ℕ) → at < length before → Among values at → is_marked after at ≡ true
  pub only : (at : ℕ) → is_marked after at ≡ true → (is_marked before at ≡ true) ⊎ Among values at
