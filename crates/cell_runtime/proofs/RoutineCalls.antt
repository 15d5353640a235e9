-- The ways in and out of a routine.
use Rattle.std.proofs.Common.{◌≡◌, ◌≢◌, ℕ, suc, ◌+◌, ◌%◌, ◌^◌, ◌<◌, Some, add_assoc, refl, ap, ◌∙◌, arith}
use Rattle.rv_isa.specs.declared.instr.Instr.TheVariants.{Jalr, Ecall}
use Rattle.rv_isa.specs.Arithmetic.{sum_word}
use Rattle.rv_isa.specs.Processor.{Processor, going, exited, value}
use Rattle.rv_isa.specs.Environment.{stepped}
use Rattle.rv_isa.specs.Execution.{run}
use Rattle.rv_isa.proofs.Runs.{Leads-ended}
use Rattle.rv_isa.specs.Standing.{Code, Stands, LeadsIn}
use Rattle.rv_isa.proofs.Standing.{LeadsIn-stands, LeadsIn-then, LeadsIn-inside}
use Rattle.rv_isa.proofs.Instructions.{leads-jalr, step-exit}
use Rattle.cell_runtime.specs.Calls.{Returns, Exits}
use Rattle.rv_isa.specs.declared.placed.Symbol.{Symbol}
use Rattle.cell_runtime.specs.Registers.{KeptBy}
use Rattle.rv_isa.proofs.Registers.{x0, x1}
use Rattle.cell_runtime.proofs.Operands.{imm_0}

-- a jump to the way back
pub leads-back : {code : Code} {s : Processor} {n w : ℕ} (t : Processor) → Stands code s → LeadsIn code n s t
    → code t.pc ≡ Some (Jalr x0 x1 imm_0) → value t.registers 1 ≡ w → w % 4 ≡ 0 → w < 2 ^ 32
    → LeadsIn code (n + 1) s (stepped w t)
leads-back {w = w} t stands leads here way aligned below =
    let to : sum_word (value t.registers 1) 0 ≡ w = omega arith in
    LeadsIn-then leads (leads-jalr (LeadsIn-stands leads stands) here to aligned refl)

exited-ended : (n : ℕ) → exited n ≢ going
exited-ended n e = cc

-- a routine that is back
pub returns_by : {code : Code} {symbol : Symbol} {count : ℕ} {s t : Processor} → LeadsIn code count s t → t.pc ≡ value s.registers 1
    → ((x : ℕ) → KeptBy symbol x → value t.registers x ≡ value s.registers x) → t.parts ≡ s.parts → Returns code symbol count s t
returns_by leads back registers parts = record {
  leads = leads.leads;
  inside = leads.inside;
  back = back;
  registers = registers;
  parts = parts;
}

-- an exit
pub ends-exit : {code : Code} {s : Processor} {n number : ℕ} (t : Processor) → Stands code s → LeadsIn code n s t
    → code t.pc ≡ Some Ecall → value t.registers 17 ≡ 93 → value t.registers 10 % 256 ≡ number
    → (more : ℕ) → run (n + 1 + more) s ≡ record { processor = stepped (sum_word t.pc 4) t; ending = exited number }
ends-exit {s = s} {n} {number} t stands leads here call number_is more =
    let sum : n + 1 + more ≡ n + suc more = omega arith in
    ap (λ k. run k s) sum ∙ Leads-ended leads.leads (step-exit (LeadsIn-stands leads stands) here call number_is refl) (exited-ended number) more

-- one instruction more
pub then_one : {code : Code} {s t u : Processor} {n : ℕ} → Stands code s → LeadsIn code n s t
    → (Stands code t → LeadsIn code 1 t u) → LeadsIn code (n + 1) s u
then_one stands leads more = LeadsIn-then leads (more (LeadsIn-stands leads stands))

-- an exit that comes after some instructions that change nothing but the address and the count
pub exits-after : {code : Code} {number n k : ℕ} {s t : Processor} → LeadsIn code n s t
    → t.registers ≡ s.registers → t.memory ≡ s.memory → t.parts ≡ s.parts → t.trace ≡ s.trace → t.executed ≡ s.executed + n → Exits code number k t → Exits code number (n + k) s
exits-after {n = n} {k = k} {s = s} leads registers memory parts trace executed exits = record {
  last = exits.last;
  ends = λ more. ap (λ count. run count s) (add_assoc n k more) ∙ leads.leads.by (k + more) ∙ exits.ends more;
  inside = LeadsIn-inside leads exits.inside;
  executed = (let e = exits.executed in omega arith);
  trace = exits.trace ∙ trace;
  memory = exits.memory ∙ memory;
  parts = exits.parts ∙ parts;
  registers = λ x out. exits.registers x out ∙ ap (λ r. value r x) registers;
}
