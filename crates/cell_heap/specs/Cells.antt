-- The cells of a program's data, as a reader sees them. A cell goes by its address, so a word of a field is a reference as it stands.
use Rattle.std.specs.Prelude.{ℕ, ◌+◌, ◌/◌, ◌%◌, List, [], ◌∷◌, if◌then◌else◌, nat_eq}

-- what a construction has put in a cell: the tag of its constructor, the mask of the fields that can hold references (bit 0 for the first
-- field), and the words of its fields
pub record Body : Type 0 where
  pub tag : ℕ
  pub mask : ℕ
  pub fields : List ℕ

-- what is at an address: no cell; a free cell; one that was opened and is kept for the next construction, with the words of the fields that it
-- had; one that was freed and whose references are still to be given up, which comes within a drop alone; or one with a count of its references
pub data Cell : Type 0 where
  no_cell : Cell
  free : Cell
  token : (fields : List ℕ) → Cell
  waiting : (body : Body) → Cell
  counted : (count : ℕ) (body : Body) → Cell

abbrev pub Heap : Type 0
Heap = ℕ → Cell

-- the heap with another cell at an address
abbrev pub changed : ℕ → Cell → Heap → Heap
changed at cell heap x = if nat_eq x at then cell else heap x

-- the words whose bit is set, bit 0 for the first
abbrev pub chosen : ℕ → List ℕ → List ℕ
chosen mask [] = []
chosen mask (x ∷ xs) = if nat_eq (mask % 2) 1 then x ∷ chosen (mask / 2) xs else chosen (mask / 2) xs

-- the references of a constructor's fields; one that is odd stands for a constructor without fields, and names no cell
abbrev pub references : Body → List ℕ
references body = chosen body.mask body.fields

-- the references that a cell owns. The words of a token are none
abbrev pub owned : Cell → List ℕ
owned (waiting body) = references body
owned (counted count body) = references body
owned _ = []

-- how often a number is in a list
abbrev pub occurs : ℕ → List ℕ → ℕ
occurs x [] = 0
occurs x (y ∷ ys) = (if nat_eq x y then 1 else 0) + occurs x ys
