-- A store: files as a function from names, and what a call does to it.
use Rattle.std.specs.Prelude.{◌≡◌, ℕ, List, take, Option, Some, None, Bool, true, false}
use Rattle.std.specs.Str.{bytes_eq}
use Rattle.kk_base.specs.declared.outside.Read.{Read}
use Rattle.kk_base.specs.declared.outside.Read.TheVariants as OfRead
use Rattle.kk_base.specs.declared.outside.StoreCall.{StoreCall}
use Rattle.kk_base.specs.declared.outside.Wrote.{Wrote}
use Rattle.kk_base.specs.declared.outside.Wrote.TheVariants as OfWrote

-- the content of each name; none where there is no such file
abbrev pub Files : Type 0
Files = List ℕ → Option (List ℕ)

-- what a store tells: its files, where it tells its content; its last call that failed, none before the first; and its
-- count of faults
pub record StoreState : Type 0 where
  pub files : Option Files
  pub last_failed : Option StoreCall
  pub faults : ℕ

abbrev pub read_failed : Read → Bool
read_failed OfRead.Failed = true
read_failed _ = false

abbrev pub wrote_failed : Wrote → Bool
wrote_failed OfWrote.Failed = true
wrote_failed _ = false

-- the bytes that were read are the first of the file of that name
abbrev pub ReadsFile : Read → ℕ → List ℕ → Option Files → Type 0
ReadsFile (OfRead.Bytes bytes) at_most name told = (files : Files) → told ≡ Some files → (content : List ℕ) × (files name ≡ Some content) × (bytes ≡ take at_most content)
ReadsFile _ at_most name told = Unit {0}

-- every file is as it was, where both are told; told stays told
abbrev pub SameFiles : Option Files → Option Files → Type 0
SameFiles None None = Unit {0}
SameFiles (Some old) (Some new) = (name : List ℕ) → new name ≡ old name
SameFiles _ _ = ⊥

-- the file of this name may be another, and all others are as they were
abbrev pub SameOthers : List ℕ → Option Files → Option Files → Type 0
SameOthers name None None = Unit {0}
SameOthers name (Some old) (Some new) = (other : List ℕ) → bytes_eq name other ≡ false → new other ≡ old other
SameOthers name _ _ = ⊥

-- the file of this name is these bytes
abbrev pub HasFile : List ℕ → List ℕ → Option Files → Type 0
HasFile name bytes None = Unit {0}
HasFile name bytes (Some files) = files name ≡ Some bytes

-- what a write changed
abbrev pub WritesFile : Wrote → List ℕ → List ℕ → Option Files → Option Files → Type 0
WritesFile OfWrote.Done name bytes old new = SameOthers name old new × HasFile name bytes new
WritesFile OfWrote.Failed name bytes old new = SameOthers name old new
WritesFile OfWrote.NoMemory name bytes old new = SameFiles old new

-- the last call that failed: this one where it failed, else the one before
pub record Remembers (failed : Bool) (call : StoreCall) (old new : Option StoreCall) : Type 0 where
  pub told : failed ≡ true → new ≡ Some call
  pub stays : failed ≡ false → new ≡ old
