-- What a run passes: instructions that touch no free cell, and the runtime's own code.
use Rattle.std.proofs.Common.{◌≡◌, ◌≤◌, ◌<◌, inl, inr, ℕ, ◌+◌, ◌*◌, List, Option, Some, None, IsSome, refl, arith}
use Rattle.std.proofs.lemmas.Bool.{false≢true}
use Rattle.kk_base.specs.Memory.{Part}
use Rattle.rv_isa.specs.declared.instr.Instr.{Instr}
use Rattle.rv_isa.specs.declared.placed.Symbol.{Symbol}
use Rattle.rv_isa.specs.PlacedCode.{PlacedLines}
use Rattle.rv_isa.specs.Processor.{Processor, Progress}
use Rattle.rv_isa.specs.Standing.{Code, Stands, Inside}
use Rattle.rv_isa.specs.Execution.{run, Leads, Along}
use Rattle.rv_isa.proofs.Runs.{Leads-then, Leads-each}
use Rattle.cell_heap.specs.Pool.{Pool}
use Rattle.cell_runtime.specs.Sizes.{runtime_words}
use Rattle.cell_runtime.specs.Calls.{Returns, Exits}
use Rattle.cell_runtime.specs.Starts.{AfterStart}
use Rattle.rv_place.specs.Lines.{Map}
use Rattle.rv_place.specs.Grounds.{Ground}
use Rattle.rv_place.specs.ProcessorStates.{Passing}
use Rattle.rv_place.proofs.InstructionExecution.{Done}

-- ---- what is passed

-- So many instructions lead to a state, past what a run may pass.
pub record Walks (map : Map) (pool : Pool) (n : ℕ) (s u : Processor) : Type 0 where
  pub leads : Leads n s u
  pub passes : (k : ℕ) → k < n → Passing map pool (run k s)

pub walks_done : {map : Map} {pool : Pool} {code : Code} {n : ℕ} {changed : List ℕ} {memory : ℕ → ℕ} {next : ℕ} {s u : Processor}
    → Done pool.cells code n changed memory next s u → Walks map pool n s u
walks_done done = record { leads = done.leads; passes = λ k less going outside. done.avoids k less }

pub walks_then : {map : Map} {pool : Pool} {n k : ℕ} {s t u : Processor} → Walks map pool n s t → Walks map pool k t u
    → Walks map pool (n + k) s u
walks_then {map} {pool} first second = record {
  leads = Leads-then first.leads second.leads;
  passes = Leads-each (Passing map pool) first.leads first.passes second.passes;
}

-- ---- the runtime's own code

-- every instruction of one code is one of another, at the same address
abbrev pub IsPart : Code → Code → Type 0
IsPart own code = (at : ℕ) (i : Instr) → own at ≡ Some i → code at ≡ Some i

pub stands_part : {own code : Code} {s : Processor} → IsPart own code → Stands code s → Stands own s
stands_part part stands = record {
  aligned = λ at i here. stands.aligned at i (part at i here);
  below = λ at i here. stands.below at i (part at i here);
  fetched = λ at i here. stands.fetched at i (part at i here);
  holds = λ at i here. stands.holds at i (part at i here);
  kept = λ at i here. stands.kept at i (part at i here);
}

-- what stands within the runtime's words is passed
pub inside_passes : (map : Map) (pool : Pool) (progress : Progress) → map.runtime ≤ progress.processor.pc
    → progress.processor.pc < map.runtime + 4 * runtime_words → Passing map pool progress
inside_passes map pool progress low high going (inl before) = absurd (omega arith)
inside_passes map pool progress low high going (inr behind) = absurd (omega arith)

module _ (map : Map) (pool : Pool) (own : Code)
    (own_inside : (at : ℕ) (i : Instr) → own at ≡ Some i → (map.runtime ≤ at) × (at < map.runtime + 4 * runtime_words)) where
  stays_passes : (at : ℕ) (o : Option Instr) → own at ≡ o → IsSome o → (progress : Progress) → progress.processor.pc ≡ at
      → Passing map pool progress
  stays_passes at None here some progress pc_is = absurd (false≢true some)
  stays_passes at (Some i) here some progress pc_is =
      let inside = own_inside at i here in inside_passes map pool progress (rw pc_is inside.0) (rw pc_is inside.1)

  inside_pass : {n : ℕ} (s : Processor) → Along (Inside own) n s → (k : ℕ) → k < n → Passing map pool (run k s)
  inside_pass s inside k less =
      stays_passes (run k s).processor.pc (own (run k s).processor.pc) refl (inside k less) (run k s) refl

  -- the start
  pub start_walks : {cells : Pool} {end main at : ℕ} {s t : Processor} → AfterStart own cells end main at s t → Walks map pool 11 s t
  start_walks {s = s} started = record { leads = started.leads; passes = inside_pass s started.inside }

module _ {map : Map} {pool : Pool} {functions : List PlacedLines} {depth buffer stop : ℕ} {code : Code} {parts : List Part}
    (ground : Ground map pool functions depth buffer stop code parts) where
  -- a routine that returns, and a run that ends at a stop
  pub returns_walk : {symbol : Symbol} {count : ℕ} {s t : Processor} → Returns ground.own symbol count s t
      → Walks map pool count s t
  returns_walk {s = s} returns =
      record { leads = returns.leads; passes = inside_pass map pool ground.own ground.own_inside s returns.inside }

  exits_pass : {number count : ℕ} {s : Processor} → Exits ground.own number count s → (k : ℕ) → k < count
      → Passing map pool (run k s)
  exits_pass {s = s} exits = inside_pass map pool ground.own ground.own_inside s exits.inside

  -- and the instructions that lead there
  pub passes_to_exit : {n number count : ℕ} {changed : List ℕ} {memory : ℕ → ℕ} {next : ℕ} {s u : Processor}
      → Done pool.cells code n changed memory next s u → Exits ground.own number count u → (k : ℕ) → k < n + count → Passing map pool (run k s)
  passes_to_exit done exits =
      Leads-each (Passing map pool) done.leads (walks_done {map = map} {pool = pool} done).passes (exits_pass exits)
