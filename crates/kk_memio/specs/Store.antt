-- A store in memory: what a call on it does.
use Rattle.std.specs.Prelude.{◌≡◌, ℕ, List, Some, None, Bool, true, false}
use Rattle.std.specs.BTreeMap.{get_by_text}
use Rattle.kk_base.specs.Store.{Files, StoreState, SameFiles}
use Rattle.kk_base.specs.declared.outside.Read.{Read}
use Rattle.kk_base.specs.declared.outside.Read.TheVariants as OfRead
use Rattle.kk_base.specs.declared.outside.Wrote.{Wrote}
use Rattle.kk_base.specs.declared.outside.Wrote.TheVariants as OfWrote
use Rattle.kk_memio.specs.Plan.{Plan}
use Rattle.kk_memio.specs.FaultPlan.{plan_of}
use Rattle.kk_memio.specs.declared.store.MemStore.{MemStore}

-- the content of each name
abbrev pub files_of : MemStore → Files
files_of store name = get_by_text store.files name

-- which calls fail, and how many were made and failed
abbrev pub plan_of_store : MemStore → Plan
plan_of_store store = plan_of store.plan

-- what a store in memory tells
abbrev pub store_state : MemStore → StoreState
store_state store = record { files = Some (files_of store); last_failed = store.last_failed; faults = (plan_of_store store).faults }

-- a read fails where it is planned, and where there is no such file; nowhere else
abbrev pub ReadsAsPlanned : Bool → Read → List ℕ → Files → Type 0
ReadsAsPlanned planned (OfRead.Bytes bytes) name files = planned ≡ false
ReadsAsPlanned true OfRead.Failed name files = Unit {0}
ReadsAsPlanned false OfRead.Failed name files = files name ≡ None
ReadsAsPlanned planned OfRead.NoMemory name files = Unit {0}

-- a write fails where it is planned, nowhere else; and then no file changes
abbrev pub WritesAsPlanned : Bool → Wrote → Files → Files → Type 0
WritesAsPlanned planned OfWrote.Done old new = planned ≡ false
WritesAsPlanned planned OfWrote.Failed old new = (planned ≡ true) × SameFiles (Some old) (Some new)
WritesAsPlanned planned OfWrote.NoMemory old new = Unit {0}
