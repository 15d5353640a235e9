-- Each function of a typed program has its typing, each call is of one of the functions, and each constructor is one of the
-- program's: so the function of an instance is one of them.
use Rattle.std.proofs.Common.{ℕ, ◌<◌, List, [], ◌∷◌, length, map, Contains, sym, ap, subst, inl, inr, arith}
use Rattle.std.specs.Prelude.{slice_index_or}
use Rattle.std.proofs.lemmas.Bool.{cases_lt}
use Rattle.std.proofs.lemmas.List.{length-map, get_or_past}
use Rattle.std.proofs.lemmas.List.Elements.{Contains-append_cases}
use Rattle.std.proofs.lemmas.Option.{slice_get_within}
use Rattle.kk_syntax.specs.declared.typed.Typed.{Typed}
use Rattle.kk_syntax.specs.Covered.{Each}
use Rattle.kk_syntax.specs.Programs.{ProgramTree, constructor_tree, function_tree, program_tree}
use Rattle.kk_syntax.specs.TypedPrograms.{typing_of, typings_of}
use Rattle.kk_syntax.specs.Types.{TypeTree, put, type_at}
use Rattle.kk_syntax.specs.Typing.{Choice, constructing, calling, holding, ArePrincipal}
use Rattle.kk_mono.specs.Instances.{InstanceTree, called_at, calls, IsInstance, main_is, called_is}
use Rattle.kk_mono.specs.InstanceSearch.{AreCallsBelow, AreConstructionsBelow, IsComplete}
use Rattle.kk_mono.proofs.Callees.{CallsAre, IsChosen, typing_chosen, typing_calls}
use Rattle.kk_mono.proofs.Renamings.{typing_at}
use Rattle.kk_mono.proofs.FirstSights.{only_one}

called_below : (count : ℕ) (ts : List TypeTree) (choices : List Choice) → AreCallsBelow count choices → (x : InstanceTree) → Contains (called_at ts choices) x → x.function < count
called_below count ts [] below x there = absurd (let lt = there.1 in omega (arith, lt))
called_below count ts (constructing by at ∷ choices) below x there = called_below count ts choices below x there
called_below count ts (calling f at ∷ choices) (here, rest) x there = elim (Contains-append_cases (record { function = f; at = map (put (type_at ts)) at } ∷ []) (called_at ts choices) x there) [
  | inl first ↦ subst (λ n. n < count) (ap (λ (y : InstanceTree). y.function) (only_one _ x first)) here
  | inr behind ↦ called_below count ts choices rest x behind
]
called_below count ts (holding of ∷ choices) below x there = called_below count ts choices below x there

-- the choices of a principal typing are complete
calls_below : (program : ProgramTree) (choices : List Choice) (fs : List ℕ) → CallsAre program choices fs → AreCallsBelow (length program.functions) choices
calls_below program [] fs are = tt
calls_below program (constructing by at ∷ choices) fs are = calls_below program choices fs are
calls_below program (calling f at ∷ choices) fs (rest, is, call, are) = (slice_get_within program.functions f call.function call.is, calls_below program choices rest are)
calls_below program (holding of ∷ choices) fs are = calls_below program choices fs are

constructions_below : (program : ProgramTree) (choices : List Choice) → Each (IsChosen program) choices → AreConstructionsBelow (length program.constructors) choices
constructions_below program [] each = tt
constructions_below program (constructing by at ∷ choices) each = (each.0, constructions_below program choices each.1)
constructions_below program (calling f at ∷ choices) each = constructions_below program choices each.1
constructions_below program (holding of ∷ choices) each = constructions_below program choices each.1

pub complete_of : (typed : Typed) → ArePrincipal (program_tree typed.program) (typings_of typed) → IsComplete typed
complete_of typed principal = record {
  as_many = let long = principal.length in let one = length-map typed.bodies.items typing_of in let two = length-map typed.program.functions.items function_tree in omega (arith, long, one, two);
  calls = λ f. elim (cases_lt f (length (program_tree typed.program).functions)) [
    | inl below ↦
        let at = typing_at (program_tree typed.program) (typings_of typed) principal f below in
        subst (λ n. AreCallsBelow n (slice_index_or (typings_of typed) f [])) (length-map typed.program.functions.items function_tree)
        (calls_below (program_tree typed.program) (slice_index_or (typings_of typed) f []) (calls (at.0).body) (typing_calls (program_tree typed.program) at.0 (slice_index_or (typings_of typed) f []) at.2.typing))
    | inr past ↦ subst (λ cs. AreCallsBelow (length typed.program.functions.items) cs) (sym (get_or_past (typings_of typed) f [] (let long = principal.length in omega (arith, long, past)))) tt
  ];
  constructions = λ f. elim (cases_lt f (length (program_tree typed.program).functions)) [
    | inl below ↦
        let at = typing_at (program_tree typed.program) (typings_of typed) principal f below in
        let choices = slice_index_or (typings_of typed) f [] in
        subst (λ n. AreConstructionsBelow n choices) (length-map typed.program.constructors.items constructor_tree)
        (constructions_below (program_tree typed.program) choices (typing_chosen (program_tree typed.program) at.0 choices at.2.typing))
    | inr past ↦ subst (λ cs. AreConstructionsBelow (length typed.program.constructors.items) cs) (sym (get_or_past (typings_of typed) f [] (let long = principal.length in omega (arith, long, past)))) tt
  ];
}

module _ (typed : Typed) (complete : IsComplete typed) where
  -- the function of an instance is one of the program's
  pub instance_below : (x : InstanceTree) → IsInstance typed.program.main (typings_of typed) x → x.function < length (program_tree typed.program).functions
  instance_below x main_is =
      let is_in = typed.program.main_in in
      let count = typed.program.functions.ok.0 in
      let seen = length-map typed.program.functions.items function_tree in
      omega (arith, is_in, count, seen)
  instance_below x (called_is {caller = caller} instance called) =
      let seen = length-map typed.program.functions.items function_tree in
      let below = called_below (length typed.program.functions.items) caller.at (slice_index_or (typings_of typed) caller.function []) (complete.calls caller.function) x called in
      omega (arith, below, seen)
