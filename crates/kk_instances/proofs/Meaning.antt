-- The instances of a checked program are typed, and do what it does, step by step, at the positions of the functions that they are.
use Rattle.std.proofs.Common.{◌≡◌, ℕ, List, [], ◌∷◌, Some, refl, sym, ap, ◌∙◌}
use Rattle.std.specs.Prelude.{option_map, slice_get, slice_index_or}
use Rattle.std.proofs.lemmas.Option.{slice_get-map, get_or_from_slice_get}
use Rattle.kk_base.specs.Machines.{trace, state, ending_after}
use Rattle.kk_syntax.specs.Checked.{IsChecked}
use Rattle.kk_syntax.specs.GroundTyping.{IsGroundTyped}
use Rattle.kk_syntax.specs.PositionsOf.{PositionTable}
use Rattle.kk_syntax.specs.Trees.{Tree}
use Rattle.kk_syntax.specs.Programs.{FunctionTree, ProgramTree, no_function, body_of}
use Rattle.kk_syntax.specs.Typing.{Choice}
use Rattle.kk_source.specs.State.{Setting, call, expression}
use Rattle.kk_source.specs.SourceAfter.{ending_of, store_machine, first_state, State}
use Rattle.kk_source.proofs.SafeRuns.{start_typed}
use Rattle.kk_mono.specs.Instances.{InstanceTree, main_instance, Renaming, renamed, origin_in, IsInstanceProgram}
use Rattle.kk_instances.specs.Meaning.{positions_in, setting_of, MeansTheSame}
use Rattle.kk_instances.proofs.InstanceFacts.{found_at, origin_is, function_at, instance_at, is_main, main_first}
use Rattle.kk_instances.proofs.Grounds.{false_first, true_second, apart}
use Rattle.kk_instances.proofs.Runs.{state_image, same_ending, IsAlike, SameRun, same_run}
use Rattle.kk_instances.proofs.InstanceTyping.{instances_typed}

module _ (program made : ProgramTree) (typings : List (List Choice)) (instances : List InstanceTree)
    (is : IsInstanceProgram program typings instances made) where
  abbrev new : Renaming
  new = origin_in instances is.grounds

  there : (n : ℕ) (found : FunctionTree) → slice_get made.functions n ≡ Some found → IsAlike program new n found
  there n found found_is =
      let instance = instance_at program made typings instances is n found found_is in
      let known = found_at program made typings instances is n instance.0 found instance.1 found_is in
      record {
        other = known.function;
        there = ap (slice_get program.functions) (origin_is program made typings instances is n instance.0 instance.1)
            ∙ known.there;
        body = sym known.at_types.body;
      }

  same_body : body_of program program.main ≡ renamed new (body_of made made.main)
  same_body =
      let found = function_at program made typings instances is made.main (is_main program made typings instances is) in
      let alike = there made.main found.0 found.1 in
      ap (λ (function : FunctionTree). function.body)
      (get_or_from_slice_get program.functions program.main alike.other no_function
      (ap (slice_get program.functions) (sym (main_first program made typings instances is)) ∙ alike.there))
      ∙ (alike.body
      ∙ sym (ap (λ (function : FunctionTree). renamed new function.body)
      (get_or_from_slice_get made.functions made.main found.0 no_function found.1)))

  lent : (table : PositionTable) (n : ℕ) (found : FunctionTree) → slice_get made.functions n ≡ Some found
      → slice_index_or table (new.functions n) [] ≡ slice_index_or (positions_in instances table) n []
  lent table n found found_is =
      let instance = instance_at program made typings instances is n found found_is in
      let at : slice_get (positions_in instances table) n ≡ Some (slice_index_or table instance.0.function []) =
      slice_get-map (λ (i : InstanceTree). slice_index_or table i.function []) instances n
      ∙ ap (option_map (λ (i : InstanceTree). slice_index_or table i.function [])) instance.1 in
      ap (λ (i : InstanceTree). slice_index_or table i.function [])
      (get_or_from_slice_get instances n instance.0 (main_instance 0) instance.1)
      ∙ sym (get_or_from_slice_get (positions_in instances table) n (slice_index_or table instance.0.function []) [] at)

  module _ (checked : IsChecked program typings) where
    pub typed : IsGroundTyped made
    typed = instances_typed program made typings instances checked is

    module _ (table : PositionTable) (cells depth : ℕ) (input : List ℕ) where
      abbrev pub made_setting : Setting
      made_setting = setting_of made (positions_in instances table) cells depth

      abbrev pub setting : Setting
      setting = setting_of program table cells depth

      abbrev pub begins : State
      begins = first_state setting input

      abbrev pub instances_begin : State
      instances_begin = first_state made_setting input

      same_start : begins ≡ state_image new instances_begin
      same_start =
          ap (λ (body : Tree).
          record { machine = record { control = expression body []; frames = call [] ∷ []; store = [] }; input = input })
          same_body

      both : (n : ℕ) → SameRun program made (sym is.texts) typed (positions_in instances table) table cells depth new
          (false_first program made typings instances checked.truths is)
          (true_second program made typings instances checked.truths is)
          (apart program made typings instances checked.truths is) there (lent table) n instances_begin
      both n =
          same_run program made (sym is.texts) typed (positions_in instances table) table cells depth new
          (false_first program made typings instances checked.truths is)
          (true_second program made typings instances checked.truths is)
          (apart program made typings instances checked.truths is) there (lent table) n instances_begin
          (start_typed made_setting typed)

      pub same_trace : (n : ℕ) → trace (store_machine made_setting) n instances_begin ≡ trace (store_machine setting) n begins
      same_trace n = sym (ap (trace (store_machine setting) n) same_start ∙ (both n).trace_is)

      pub same_end : (n : ℕ) → ending_after (store_machine made_setting) n instances_begin
          ≡ ending_after (store_machine setting) n begins
      same_end n =
          sym (ap (ending_after (store_machine setting) n) same_start
          ∙ (ap ending_of (both n).state_is ∙ same_ending new (state (store_machine made_setting) n instances_begin)))

    pub means_the_same : MeansTheSame program made
    means_the_same = record {
      typed = typed;
      typings = typings;
      instances = instances;
      are = is;
      positions = positions_in instances;
      positions_are = λ table. refl;
      traces = same_trace;
      endings = same_end;
    }
