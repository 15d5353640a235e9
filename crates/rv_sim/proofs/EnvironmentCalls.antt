-- Each call of the environment is a run of one step.
use Rattle.std.proofs.Common.{◌≡◌, ◌≢◌, ◌≤◌, ◌<◌, ℕ, ◌+◌, ◌%◌, List, [], ◌∷◌, ◌++◌, All, map, take, length, true, false, Some, option_map, refl, sym, ap, subst, ◌∙◌, arith, append-nil}
use Rattle.kk_base.specs.Memory.{Part, byte_loaded}
use Rattle.kk_base.specs.Source.{SourceState}
use Rattle.kk_base.specs.Sink.{SinkState}
use Rattle.kk_base.specs.Trace.{Event, output, input, input_end, TakesFrom}
use Rattle.rv_isa.specs.Numbers.{read_call, write_call, exit_call, standard_input, standard_output, unknown_call}
use Rattle.rv_isa.specs.Bytes.{bytes_at, with_bytes}
use Rattle.rv_isa.specs.Processor.{Processor, going, exited, counted, Progress, goes, traps, bare, value, put, can_load, can_store}
use Rattle.rv_isa.specs.Environment.{stepped, asks, reads, writes, calls}
use Rattle.rv_isa.specs.Execution.{step}
use Rattle.rv_isa.proofs.Bytes.{length-bytes_at}
use Rattle.rv_isa.proofs.Calls.{reads-none, reads-some, writes-none, writes-some, calls-read, calls-write, calls-exit, calls-none}
use Rattle.rv_sim.specs.Turns.{TurnDoes, NextDoes}
use Rattle.rv_sim.specs.Registers.{registers_of}
use Rattle.rv_sim.specs.Simulation.{Simulation, processor_of, progress_of}
use Rattle.rv_sim.specs.declared.halt.Turn.TheVariants.{Over}
use Rattle.rv_sim.specs.declared.halt.Halt.TheVariants.{InputFault, OutputFault}
use Rattle.rv_sim.specs.Devices.{halt_of, GivesEvents, asked, HasRun}
use Rattle.rv_sim.proofs.Events.{GivesEvents-none, held-none, gives_byte, gives_none, gives_end, gives_put}
use Rattle.rv_sim.proofs.InstructionSteps.{can_load-bare, can_store-bare, does-same}
use Rattle.rv_sim.proofs.Turns.{HasRun-one, HasRun-quiet, HasRun-failed}

asks-trace : (next : ℕ) (s : Processor) (left : List ℕ) → (asks left next s).trace ≡ s.trace ++ asked left ∷ []
asks-trace next s [] = refl
asks-trace next s (byte ∷ rest) = refl

-- a call that was executed is counted
counts : (old mid new : Simulation) (next word : ℕ) → mid.executed ≡ old.executed
    → TurnDoes (λ s. goes (record (stepped next s) { registers = put 10 word s.registers })) Over mid new → new.executed ≡ old.executed + counted new.ending
counts old mid new next word same does =
    let after = does.0 [] [] in
    ap (λ (a : Progress). a.processor.executed) after ∙ ap (λ n. n + 1) same ∙ ap (λ (a : Progress). old.executed + counted a.ending) (sym after)

-- ---- a read

module _ (old new : Simulation) (next : ℕ) (ongoing : old.ending ≡ going) (sound : old.faulted ≡ false) (reading : NextDoes (λ s. goes (reads next s)) old) where
  pub read-none : (l : SourceState) (h : SinkState) → value (registers_of old.registers) 12 ≡ 0
      → TurnDoes (λ s. goes (record (stepped next s) { registers = put 10 0 s.registers })) Over old new → HasRun (halt_of new.ending) 1 old new l l h h
  read-none l h none does =
      HasRun-quiet old new ongoing (λ s. goes (reads next s)) l h sound reading
      (does-same (λ s. goes (record (stepped next s) { registers = put 10 0 s.registers })) (λ s. goes (reads next s)) Over old new
      (λ left trace. ap goes (sym (reads-none next (processor_of old left trace) none))) does)

  module _ (some : value (registers_of old.registers) 12 ≢ 0) where
    asking : (left : List ℕ) (trace : List Event) → step (processor_of old left trace) ≡ goes (asks left next (processor_of old left trace))
    asking left trace = reading left trace ∙ ap goes (reads-some next (processor_of old left trace) some)

    module _ (byte : ℕ) (parts : List Part) (stored : byte_loaded parts ≡ with_bytes (value (registers_of old.registers) 11) (byte ∷ []) (byte_loaded old.parts))
        (same : map bare parts ≡ map bare old.parts)
        (does : TurnDoes (λ s. goes (record (stepped next s) { registers = put 10 1 s.registers })) Over (record old { parts = parts }) new) where
      reads_it : (left rest : List ℕ) (trace : List Event) → TakesFrom (input byte ∷ []) left rest → step (processor_of old left trace) ≡ progress_of new rest (trace ++ input byte ∷ [])
      reads_it [] rest trace takes = absurd takes
      reads_it (x ∷ xs) rest trace takes =
          asking (x ∷ xs) trace ∙ rw (does.0 rest (trace ++ input byte ∷ []), stored, same, takes.0, takes.1) refl

      pub read-byte : (l l' : SourceState) (h : SinkState) → l.left ≡ option_map (λ rest. (byte ∷ []) ++ rest) l'.left → l.ended ≡ false → All (λ b. b < 256) (byte ∷ []) → HasRun (halt_of new.ending) 1 old new l l' h h
      read-byte l l' h content open_still small =
          HasRun-one old new ongoing (input byte ∷ []) l l' h h (does.1 ∙ sound) (counts old (record old { parts = parts }) new next 1 refl does)
          (gives_byte byte l' l content open_still small) (held-none h.held) reads_it

    module _ (does : TurnDoes (λ s. goes (record (stepped next s) { registers = put 10 0 s.registers })) Over old new) where
      ends_it : (left rest : List ℕ) (trace : List Event) → TakesFrom (input_end ∷ []) left rest → step (processor_of old left trace) ≡ progress_of new rest (trace ++ input_end ∷ [])
      ends_it [] rest trace takes = asking [] trace ∙ rw (does.0 rest (trace ++ input_end ∷ []), ← takes) refl
      ends_it (x ∷ xs) rest trace takes = absurd takes

      pub read-end : (l l' : SourceState) (h : SinkState) → l.left ≡ option_map (λ rest. [] ++ rest) l'.left → ((rest : List ℕ) → l.left ≡ Some rest → rest ≡ []) → l'.ended ≡ true → HasRun (halt_of new.ending) 1 old new l l' h h
      read-end l l' h content end met =
          HasRun-one old new ongoing (input_end ∷ []) l l' h h (does.1 ∙ sound) (counts old old new next 0 refl does)
          (gives_end l' l content end met) (held-none h.held) ends_it

    pub read-failed : (l l' : SourceState) (h : SinkState) → l.left ≡ option_map (λ rest. [] ++ rest) l'.left → l'.ended ≡ l.ended → HasRun InputFault 1 old (record old { faulted = true }) l l' h h
    read-failed l l' h content same =
        HasRun-failed InputFault [] old l l' h h refl ongoing (gives_none l' l content same) (held-none h.held)
        (refl, λ left trace. ap (λ (a : Progress). a.processor.trace) (asking left trace) ∙ asks-trace next (processor_of old left trace) left)

-- ---- a write

module _ (old new : Simulation) (next count : ℕ) (is_count : count ≡ value (registers_of old.registers) 12) (ongoing : old.ending ≡ going) (sound : old.faulted ≡ false)
    (writing : NextDoes (λ s. goes (writes next s)) old) where
  module _ (does : TurnDoes (λ s. goes (record (stepped next s) { registers = put 10 count s.registers })) Over old new) where
    pub write-none : (l : SourceState) (h : SinkState) → count ≡ 0 → HasRun (halt_of new.ending) 1 old new l l h h
    write-none l h none =
        HasRun-quiet old new ongoing (λ s. goes (writes next s)) l h sound writing
        (does-same (λ s. goes (record (stepped next s) { registers = put 10 count s.registers })) (λ s. goes (writes next s)) Over old new
        (λ left trace. rw is_count (ap goes (sym (writes-none next (processor_of old left trace) (sym is_count ∙ none))))) does)

    pub write-all : (piece : List ℕ) (l : SourceState) (h h' : SinkState) → count ≢ 0 → piece ≡ bytes_at (byte_loaded old.parts) (value (registers_of old.registers) 11) count
        → h'.held ≡ option_map (λ before. before ++ piece) h.held → HasRun (halt_of new.ending) 1 old new l l h h'
    write-all piece l h h' some spells content =
        let same : piece ≡ (piece ++ []) ++ [] = sym (append-nil (piece ++ []) ∙ append-nil piece) in
        HasRun-one old new ongoing (output piece ∷ []) l l h h' (does.1 ∙ sound) (counts old old new next count refl does)
        (gives_put piece l) (subst (λ (p : List ℕ). h'.held ≡ option_map (λ before. before ++ p) h.held) same content)
        (λ left rest trace takes.
        writing left trace ∙ ap goes (writes-some next (processor_of old left trace) (λ none. some (is_count ∙ none)))
        ∙ rw (does.0 rest (trace ++ output piece ∷ []), spells, is_count, takes) refl)

  pub write-failed : (piece : List ℕ) (n : ℕ) (l : SourceState) (h h' : SinkState) → count ≢ 0 → piece ≡ bytes_at (byte_loaded old.parts) (value (registers_of old.registers) 11) count
      → n ≤ length piece → h'.held ≡ option_map (λ before. before ++ take n piece) h.held → HasRun OutputFault 1 old (record old { faulted = true }) l l h h'
  write-failed piece n l h h' some spells within content =
      HasRun-failed OutputFault (take n piece) old l l h h' refl ongoing (GivesEvents-none l) content record {
        piece = piece;
        some = rw (spells, length-bytes_at) (omega arith);
        count = n;
        within = within;
        first = refl;
        next = λ left trace.
            ap (λ (a : Progress). a.processor.trace) (writing left trace ∙ ap goes (writes-some next (processor_of old left trace) (λ none. some (is_count ∙ none)))) ∙ rw (spells, is_count) refl;
      }

-- ---- the calls

module _ (old : Simulation) (next word : ℕ) (calling : NextDoes (calls next word) old) where
  pub next-reads : value (registers_of old.registers) 17 ≡ read_call → value (registers_of old.registers) 10 ≡ standard_input
      → can_store old.parts (value (registers_of old.registers) 11) (value (registers_of old.registers) 12) ≡ true → NextDoes (λ s. goes (reads next s)) old
  next-reads number file allowed = λ left trace.
      calling left trace ∙ calls-read next word (processor_of old left trace) number file (can_store-bare old.parts (registers_of old.registers 11) (registers_of old.registers 12) ∙ allowed)

  pub next-writes : value (registers_of old.registers) 17 ≡ write_call → value (registers_of old.registers) 10 ≡ standard_output
      → can_load old.parts (value (registers_of old.registers) 11) (value (registers_of old.registers) 12) ≡ true → NextDoes (λ s. goes (writes next s)) old
  next-writes number file allowed = λ left trace.
      calling left trace ∙ calls-write next word (processor_of old left trace) number file (can_load-bare old.parts (registers_of old.registers 11) (registers_of old.registers 12) ∙ allowed)

  pub next-exits : value (registers_of old.registers) 17 ≡ exit_call → NextDoes (λ s. record { processor = stepped next s; ending = exited (value s.registers 10 % 256) }) old
  next-exits number = λ left trace. calling left trace ∙ calls-exit next word (processor_of old left trace) number

  pub next-traps : (value (registers_of old.registers) 17 ≡ read_call → value (registers_of old.registers) 10 ≡ standard_input
      → can_store old.parts (value (registers_of old.registers) 11) (value (registers_of old.registers) 12) ≡ true → ⊥)
      → (value (registers_of old.registers) 17 ≡ write_call → value (registers_of old.registers) 10 ≡ standard_output
      → can_load old.parts (value (registers_of old.registers) 11) (value (registers_of old.registers) 12) ≡ true → ⊥)
      → value (registers_of old.registers) 17 ≢ exit_call → NextDoes (traps unknown_call word) old
  next-traps reading writing exits = λ left trace.
      calling left trace
      ∙ calls-none next word (processor_of old left trace)
      (λ number file allowed. reading number file (sym (can_store-bare old.parts (registers_of old.registers 11) (registers_of old.registers 12)) ∙ allowed))
      (λ number file allowed. writing number file (sym (can_load-bare old.parts (registers_of old.registers 11) (registers_of old.registers 12)) ∙ allowed)) exits
