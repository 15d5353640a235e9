-- The code's way through an instruction comes to what the definition's act comes to.
use Rattle.std.proofs.Common.{◌≡◌, ◌<◌, ℕ, ◌+◌, ◌&&◌, ◌%◌, List, map, Bool, true, false, Some, None, if◌then◌else◌, refl, sym, ap, ◌∙◌, arith}
use Rattle.std.proofs.lemmas.Bool.Decides.{nat_tests}
use Rattle.kk_base.specs.Memory.{Part, covers, byte_loaded}
use Rattle.kk_base.specs.Trace.{Event}
use Rattle.rv_isa.specs.Numbers.{fetch_fault, access_fault}
use Rattle.rv_isa.specs.declared.act.Act.TheVariants.{Load, Store}
use Rattle.rv_isa.specs.Bytes.{number_at, with_number}
use Rattle.rv_isa.specs.Processor.{Processor, going, Progress, goes, traps, bare, put, can_fetch, can_load, can_store, lies_in_part}
use Rattle.rv_isa.specs.Environment.{stepped}
use Rattle.rv_isa.specs.Arithmetic.{widened}
use Rattle.rv_isa.specs.Execution.{acts, decodes, step}
use Rattle.rv_isa.specs.Read.{read}
use Rattle.rv_isa.proofs.Steps.{step-unfetched, step-fetched}
use Rattle.rv_isa.proofs.Acts.{acts-load, acts-load_denied, acts-store, acts-store_denied}
use Rattle.rv_sim.specs.Turns.{TurnDoes}
use Rattle.rv_sim.specs.Registers.{registers_of}
use Rattle.rv_sim.specs.declared.halt.Turn.{Turn}
use Rattle.rv_sim.specs.declared.halt.Turn.TheVariants.{Over, Call}
use Rattle.rv_sim.specs.Simulation.{Simulation, processor_of, progress_of}
use Rattle.rv_sim.proofs.AreaSearch.{list_any-map, list_any-weaker}

pub can_fetch-bare : (ps : List Part) (at count : ℕ) → can_fetch (map bare ps) at count ≡ can_fetch ps at count
can_fetch-bare ps at count = list_any-map _ bare ps

pub can_load-bare : (ps : List Part) (at count : ℕ) → can_load (map bare ps) at count ≡ can_load ps at count
can_load-bare ps at count = list_any-map _ bare ps

pub can_store-bare : (ps : List Part) (at count : ℕ) → can_store (map bare ps) at count ≡ can_store ps at count
can_store-bare ps at count = list_any-map _ bare ps

pub lies_in_part-bare : (ps : List Part) (at count : ℕ) → lies_in_part (map bare ps) at count ≡ lies_in_part ps at count
lies_in_part-bare ps at count = list_any-map _ bare ps

pub some_if : (b : Bool) (x y : ℕ) → Some x ≡ (if b then Some y else None) → b ≡ true
some_if true x y is = refl
some_if false x y is = cc

pub some_if_is : (b : Bool) (x y : ℕ) → Some x ≡ (if b then Some y else None) → x ≡ y
some_if_is true x y is = cc
some_if_is false x y is = cc

pub none_if : (b : Bool) (y : ℕ) → None ≡ (if b then Some y else None) → b ≡ false
none_if true y is = cc
none_if false y is = refl

module _ (old : Simulation) (left : List ℕ) (trace : List Event) (rd next word : ℕ) where
  pub stores : (new : Simulation) (parts : List Part) (at width v : ℕ) → old.ending ≡ going → new ≡ record old { pc = next; parts = parts; executed = old.executed + 1 }
      → byte_loaded parts ≡ with_number at width v (byte_loaded old.parts) → map bare parts ≡ map bare old.parts → at % width ≡ 0 → can_store old.parts at width ≡ true
      → progress_of new left trace ≡ acts (Store at width v) rd next word (processor_of old left trace)
  stores new parts at width v ongoing is stored same aligned allowed =
      rw (is, stored, same, ongoing) (sym (acts-store rd next word (processor_of old left trace) at width v aligned (can_store-bare old.parts at width ∙ allowed)))

  pub stores_nothing : (new : Simulation) (parts : List Part) (at width v : ℕ) → progress_of new left trace ≡ traps access_fault word (processor_of (record old { parts = parts }) left trace)
      → parts ≡ old.parts → at % width ≡ 0 → can_store old.parts at width ≡ false → progress_of new left trace ≡ acts (Store at width v) rd next word (processor_of old left trace)
  stores_nothing new parts at width v is same aligned denied =
      is ∙ ap (λ p. traps access_fault word (processor_of (record old { parts = p }) left trace)) same
      ∙ sym (acts-store_denied rd next word (processor_of old left trace) at width v aligned (can_store-bare old.parts at width ∙ denied))

  pub loads : (new : Simulation) (at width number : ℕ) (signed : Bool) → progress_of new left trace ≡ goes (record (stepped next (processor_of old left trace)) { registers = put rd (widened width signed number) (registers_of old.registers) })
      → Some number ≡ (if can_load old.parts at width then Some (number_at (byte_loaded old.parts) at width) else None) → at % width ≡ 0
      → progress_of new left trace ≡ acts (Load at width signed) rd next word (processor_of old left trace)
  loads new at width number signed is loaded aligned =
      let allowed = some_if (can_load old.parts at width) _ _ loaded in
      let same = some_if_is (can_load old.parts at width) _ _ loaded in
      is ∙ rw same (sym (acts-load rd next word (processor_of old left trace) at width signed aligned (can_load-bare old.parts at width ∙ allowed)))

  pub loads_nothing : (new : Simulation) (at width : ℕ) (signed : Bool) → progress_of new left trace ≡ traps access_fault word (processor_of old left trace)
      → None ≡ (if can_load old.parts at width then Some (number_at (byte_loaded old.parts) at width) else None) → at % width ≡ 0
      → progress_of new left trace ≡ acts (Load at width signed) rd next word (processor_of old left trace)
  loads_nothing new at width signed is denied aligned =
      is ∙ sym (acts-load_denied rd next word (processor_of old left trace) at width signed aligned (can_load-bare old.parts at width ∙ none_if (can_load old.parts at width) _ denied))

  pub finishes : (new : Simulation) → old.ending ≡ going → new ≡ record old { pc = next; executed = old.executed + 1 } → progress_of new left trace ≡ goes (stepped next (processor_of old left trace))
  finishes new ongoing is = rw (is, ongoing) refl

pub does-same : (what other : Processor → Progress) (turn : Turn) (old new : Simulation) → ((left : List ℕ) (trace : List Event) → what (processor_of old left trace) ≡ other (processor_of old left trace))
    → TurnDoes what turn old new → TurnDoes other turn old new
does-same what other Over old new same does = (λ left trace. does.0 left trace ∙ same left trace, does.1)
does-same what other (Call next word) old new same does = (does.0, λ left trace. sym (same left trace) ∙ does.1 left trace)

module _ (old : Simulation) (left : List ℕ) (trace : List Event) where
  pub fetches : (word : ℕ) → Some word ≡ (if can_fetch old.parts old.pc 4 then Some (number_at (byte_loaded old.parts) old.pc 4) else None)
      → step (processor_of old left trace) ≡ decodes (processor_of old left trace) word (read word)
  fetches word fetched =
      step-fetched (processor_of old left trace) word (can_fetch-bare old.parts old.pc 4 ∙ some_if (can_fetch old.parts old.pc 4) _ _ fetched)
      (sym (some_if_is (can_fetch old.parts old.pc 4) _ _ fetched))

  pub fetches_nothing : None ≡ (if can_fetch old.parts old.pc 4 then Some (number_at (byte_loaded old.parts) old.pc 4) else None)
      → step (processor_of old left trace) ≡ traps fetch_fault 0 (processor_of old left trace)
  fetches_nothing denied =
      step-unfetched (processor_of old left trace) (can_fetch-bare old.parts old.pc 4 ∙ none_if (can_fetch old.parts old.pc 4) _ denied)

one_of : (writable : Bool) (part : Part) (at count : ℕ) → 0 < count → (writable && covers part at count) ≡ true → (writable && covers part at 1) ≡ true
one_of true part at count some covered = grind (arith, nat_tests)
one_of false part at count some covered = cc

-- where some bytes may be stored, the first one may
pub can_store-one : (parts : List Part) (at count : ℕ) → 0 < count → can_store parts at count ≡ true → can_store parts at 1 ≡ true
can_store-one parts at count some allowed =
    list_any-weaker (λ part. part.writable && covers part at count) (λ part. part.writable && covers part at 1) (λ part e. one_of part.writable part at count some e) parts allowed
