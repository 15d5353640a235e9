use Rattle.std.proofs.Common.{rules, ◌≡◌, List, [], ◌∷◌, Some, None, sym, subst}
use Rattle.rv_isa.specs.declared.asm.Action.TheVariants.{Compute, Return}
use Rattle.rv_isa.specs.declared.asm.Operation.TheVariants.{Register}
use Rattle.rv_isa.specs.declared.asm.RegisterOperation.TheVariants.{Add}
use Rattle.rv_isa.specs.AsmCode.{Lines, asm_functions}
use Rattle.rv_isa.specs.WellFormed.{IsWellFormed, AreWellFormed}
use Rattle.rv_isa.proofs.HeldTokens.{none_held}
use Rattle.back_tests.proofs.slots.sum_of_two.Goals as goal

abbrev sum : Lines
sum = record {
  params = 0 ∷ 1 ∷ [];
  code = record { action = Compute (Register Add); args = 0 ∷ 1 ∷ []; into = Some 2 } ∷ record { action = Compute (Register Add); args = 2 ∷ 0 ∷ []; into = Some 3 }
      ∷ record { action = Return; args = 3 ∷ []; into = None } ∷ [];
}

sum_formed : IsWellFormed sum
sum_formed = record {
  lines = search rules;
  tokens = none_held sum.code (tt, (tt, (tt, tt)));
  params = search rules;
  few_params = search rules;
  params_small = search rules;
  start = search rules;
}

pub returns : goal.returns
returns c =
    let same : asm_functions (record { functions = c.push-4.new.self; constants = c.new.result }) ≡ sum ∷ [] = search rules in
    subst (λ (functions : List Lines). AreWellFormed functions) (sym same) (sum_formed, tt)
