-- The definitions, tried on small cases.
use Rattle.std.proofs.Common.{◌≡◌, ◌<◌, ℕ, List, [], ◌∷◌, ◌++◌, replicate, true, false, Some, None, refl, sym, ap, ◌∙◌, arith, append-nil}
use Rattle.std.proofs.lemmas.List.Elements.{All-nil}
use Rattle.kk_base.specs.Trace.{Event, input, input_end, EndsOnce}
use Rattle.rv_isa.specs.Processor.{going, exited}
use Rattle.rv_isa.specs.InstructionSet.{go_on, acts_over, decodes_over, executes_over, run_over, step_over}
use Rattle.rv_isa.specs.Execution.{run}
use Rattle.rv_isa.specs.Environment.{calls}
use Rattle.rv_isa.specs.Bytes.{number_at, bytes_at}
use Rattle.rv_isa.specs.Read.{read}
use Rattle.rv_sim.specs.Simulation.{Simulation, progress_of}
use Rattle.rv_sim.specs.declared.halt.Halt.TheVariants.{Exit}
use Rattle.rv_sim.specs.Devices.{GivesContent, NextAsks, NextPuts, HasRun}

-- ---- sources

one_of_two : GivesContent (input 7 ∷ []) (Some (7 ∷ 8 ∷ [])) (Some (8 ∷ []))
one_of_two = (refl, refl)

no_end_before_a_byte : GivesContent (input_end ∷ []) (Some (7 ∷ [])) (Some (7 ∷ [])) → ⊥
no_end_before_a_byte given = given

untold : GivesContent (input 7 ∷ input_end ∷ []) None None
untold = tt

not_told_halfway : GivesContent [] (Some []) None → ⊥
not_told_halfway given = given

end_behind_a_byte : EndsOnce (input 7 ∷ input_end ∷ []) false true
end_behind_a_byte = (refl, λ e. e)

no_byte_behind_an_end : EndsOnce (input_end ∷ input 7 ∷ []) false true → ⊥
no_byte_behind_an_end once = cc

-- ---- an ECALL at 0x10000, with words in x10 and x17; x11 is 0x10000, and x12 is 1

abbrev calling : ℕ → ℕ → Simulation
calling x10 x17 = record {
  registers = replicate 10 0 ++ (x10 ∷ 0x10000 ∷ 1 ∷ (replicate 4 0 ++ (x17 ∷ [])));
  pc = 0x10000;
  parts = record { start = 0x10000; size = 4; readable = true; writable = true; executable = true; bytes = 0x73 ∷ 0 ∷ 0 ∷ 0 ∷ [] } ∷ [];
  executed = 2;
  ending = going;
  faulted = false;
}

abbrev exiting : Simulation
exiting = calling 5 93

abbrev at_exit : Simulation
at_exit = record exiting { pc = 0x10004; executed = 3; ending = exited 5 }

comes_to_exit : (left : List ℕ) (trace : List Event) → go_on (progress_of exiting left trace) (run 4) ≡ progress_of at_exit left trace
unfolding run_over step_over decodes_over executes_over acts_over calls number_at bytes_at read
comes_to_exit left trace = refl

-- one instruction of a budget of four, over devices that tell their content
exits : HasRun (Exit 5) 4 exiting at_exit (record { left = Some (7 ∷ []); ended = false; faults = 0 }) (record { left = Some (7 ∷ []); ended = false; faults = 0 }) (record { held = Some (1 ∷ []); faults = 0 }) (record { held = Some (1 ∷ []); faults = 0 })
exits = record {
  events = [];
  cut = [];
  given = record { content = refl; once = λ e. e; bytes = All-nil (λ byte. byte < 256) };
  held = refl;
  comes = λ left rest trace same.
      comes_to_exit left trace ∙ ap (λ (xs : List ℕ). progress_of at_exit xs trace) same ∙ ap (λ (es : List Event). progress_of at_exit rest es) (sym (append-nil trace));
  stays = λ ended. refl;
  ending = refl;
  faulted = refl;
  later = omega arith;
  executed = omega arith;
  fails = refl;
}

-- a read asks for a byte
asks : NextAsks (calling 0 63)
unfolding step_over decodes_over executes_over acts_over calls number_at bytes_at read
asks [] trace = refl
asks (byte ∷ rest) trace = refl

-- a write puts the byte at x11, of which nothing was taken
puts : NextPuts [] (calling 1 64)
unfolding step_over decodes_over executes_over acts_over calls number_at bytes_at read
puts = record {
  piece = 0x73 ∷ [];
  some = omega arith;
  count = 0;
  within = omega arith;
  first = refl;
  next = λ left trace. refl;
}
