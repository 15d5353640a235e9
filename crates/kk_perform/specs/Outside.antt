-- What a command does to the outside.
use Rattle.std.specs.Prelude.{◌≡◌, List, ℕ, true, false, Some}
use Rattle.kk_base.specs.Faults.{Rises}
use Rattle.kk_base.specs.Sink.{SinkState}
use Rattle.kk_base.specs.Source.{SourceState}
use Rattle.kk_base.specs.Store.{StoreState, SameFiles, SameOthers, HasFile}
use Rattle.kk_base.specs.declared.outside.StoreCall.{StoreCall}
use Rattle.kk_base.specs.declared.outside.StoreCall.TheVariants.{Reading, Writing}

-- what the devices of a command tell, and the bytes of the image; the sink of its line stands beside it
pub record Outside : Type 0 where
  pub files : StoreState
  pub input : SourceState
  pub out : SinkState
  pub image : List ℕ

-- the outside that these are
abbrev pub outside : StoreState → SourceState → SinkState → List ℕ → Outside
outside files input out image = record { files = files; input = input; out = out; image = image }

-- each file is as it was, and no call of the store failed
pub record KeepsFiles (before after : StoreState) : Type 0 where
  pub files : SameFiles before.files after.files
  pub last_failed : after.last_failed ≡ before.last_failed
  pub faults : Rises false before.faults after.faults

-- the input and the output are as they were
pub record KeepsStreams (before after : Outside) : Type 0 where
  pub input : after.input ≡ before.input
  pub out : after.out ≡ before.out

-- nothing has changed
pub record KeepsAll (before after : Outside) : Type 0 where
  pub files : KeepsFiles before.files after.files
  pub streams : KeepsStreams before after
  pub image : after.image ≡ before.image

-- this call of the store failed, and none after it
pub record FailsAt (call : StoreCall) (before after : StoreState) : Type 0 where
  pub last_failed : after.last_failed ≡ Some call
  pub faults : Rises true before.faults after.faults

-- a file could not be read, and each file is as it was
pub record FailsToRead (name : List ℕ) (before after : StoreState) : Type 0 where
  pub fails : FailsAt (Reading name) before after
  pub files : SameFiles before.files after.files

-- a file could not be written, and all others are as they were
pub record FailsToWrite (name : List ℕ) (before after : StoreState) : Type 0 where
  pub fails : FailsAt (Writing name) before after
  pub others : SameOthers name before.files after.files

-- a file is these bytes, all others are as they were, and no call of the store failed
pub record WritesAlone (name bytes : List ℕ) (before after : StoreState) : Type 0 where
  pub written : HasFile name bytes after.files
  pub others : SameOthers name before.files after.files
  pub last_failed : after.last_failed ≡ before.last_failed
  pub faults : Rises false before.faults after.faults
