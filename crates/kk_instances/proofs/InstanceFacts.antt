-- What is known of an instance by its number.
use Rattle.std.proofs.Common.{◌≡◌, ℕ, List, [], sym, ap, ◌∙◌}
use Rattle.std.specs.Prelude.{Some, slice_get, slice_index_or}
use Rattle.std.proofs.lemmas.Option.{get_or_from_slice_get}
use Rattle.kk_syntax.specs.Covered.{Each}
use Rattle.kk_syntax.specs.Programs.{FunctionTree, ProgramTree}
use Rattle.kk_syntax.specs.Typing.{Choice}
use Rattle.kk_mono.specs.Instances.{InstanceTree, main_instance, called_at, calls, function_of, IsAtTypes, IsInstanceProgram}
use Rattle.kk_instances.proofs.InstanceCalls.{IsThere, there_too, each_found}

module _ (program made : ProgramTree) (typings : List (List Choice)) (instances : List InstanceTree)
    (is : IsInstanceProgram program typings instances made) where
  -- the function of an instance, by the instance's number
  abbrev origin : ℕ → ℕ
  origin = function_of instances

  -- what is known of an instance by its number
  pub record IsFound (n : ℕ) (instance : InstanceTree) (found : FunctionTree) : Type 0 where
    pub function : FunctionTree
    pub there : slice_get program.functions instance.function ≡ Some function
    pub at_types : IsAtTypes instances is.grounds instance.at (slice_index_or typings instance.function []) function found

  pub found_at : (n : ℕ) (instance : InstanceTree) (found : FunctionTree) → slice_get instances n ≡ Some instance
      → slice_get made.functions n ≡ Some found → IsFound n instance found
  found_at n instance found instance_is found_is =
      let each = is.each n instance found instance_is found_is in
      record { function = each.0; there = each.1; at_types = each.2 }

  pub origin_is : (n : ℕ) (instance : InstanceTree) → slice_get instances n ≡ Some instance → origin n ≡ instance.function
  origin_is n instance at = ap (λ (i : InstanceTree). i.function) (get_or_from_slice_get instances n instance (main_instance 0) at)

  -- a number of an instance is one of a function, and the other way round
  pub function_at : (n : ℕ) → IsThere instances n → IsThere made.functions n
  function_at n instance = there_too instances made.functions n instance.0 (sym is.as_many) instance.1

  pub instance_at : (n : ℕ) (found : FunctionTree) → slice_get made.functions n ≡ Some found → IsThere instances n
  instance_at n found at = there_too made.functions instances n found is.as_many at

  pub bodies : (n : ℕ) (found : FunctionTree) → IsThere instances n → slice_get made.functions n ≡ Some found
      → Each (IsThere instances) (calls found.body)
  bodies n found instance at =
      let known = found_at n instance.0 found instance.1 at in
      each_found instances (calls found.body)
      (called_at instance.0.at (slice_index_or typings instance.0.function [])) known.at_types.called

  -- ---- `main`

  pub main_is : slice_get instances made.main ≡ Some (main_instance program.main)
  main_is = ap (slice_get instances) is.main ∙ ap (λ (l : List InstanceTree). slice_get l 0) is.are.begins

  pub is_main : IsThere instances made.main
  is_main = (main_instance program.main, main_is)

  pub main_first : origin made.main ≡ program.main
  main_first = origin_is made.main (main_instance program.main) main_is
