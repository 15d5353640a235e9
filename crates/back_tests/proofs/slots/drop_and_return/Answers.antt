use Rattle.std.proofs.Common.{rules, arith, ◌≡◌, List, [], ◌∷◌, None, sym, subst}
use Rattle.std.proofs.lemmas.Bool.{false≢true}
use Rattle.rv_isa.specs.declared.asm.Action.TheVariants.{Routine, Return}
use Rattle.rv_isa.specs.declared.routine.Routine.TheVariants.{Drop}
use Rattle.rv_isa.specs.AsmCode.{Line, Lines, asm_functions}
use Rattle.rv_isa.specs.WellFormed.{IsLineFormed, IsWellFormed, AreWellFormed}
use Rattle.rv_isa.proofs.HeldTokens.{none_held}
use Rattle.back_tests.proofs.slots.drop_and_return.Goals as goal

abbrev drop_line : Line
drop_line = record { action = Routine Drop; args = 0 ∷ []; into = None }

abbrev return_line : Line
return_line = record { action = Return; args = 0 ∷ []; into = None }

abbrev dropped : Lines
dropped = record { params = 0 ∷ []; code = drop_line ∷ return_line ∷ [] }

drop_formed : IsLineFormed drop_line (return_line ∷ [])
drop_formed = record {
  labels = tt;
  few = omega arith;
  gives = λ none. absurd (false≢true none);
  distinct = λ over. absurd (false≢true over);
  spent = λ over. absurd (false≢true over);
  args_small = search rules;
  into_small = search rules;
}

return_formed : IsLineFormed return_line []
return_formed = search rules

dropped_formed : IsWellFormed dropped
dropped_formed = record {
  lines = (drop_formed, (return_formed, tt));
  tokens = none_held dropped.code (tt, (tt, tt));
  params = search rules;
  few_params = search rules;
  params_small = search rules;
  start = search rules;
}

pub returns : goal.returns
returns c =
    let same : asm_functions (record { functions = c.push-3.new.self; constants = c.new.result }) ≡ dropped ∷ [] = search rules in
    subst (λ (functions : List Lines). AreWellFormed functions) (sym same) (dropped_formed, tt)
