use Rattle.std.proofs.Common.{List, map, refl, ◌∙◌, subst}
use Rattle.rv_isa.specs.declared.asm.AsmFunction.{AsmFunction}
use Rattle.rv_isa.specs.declared.placed.Placed.TheVariants.{Program}
use Rattle.rv_isa.specs.AsmCode.{lines_of, asm_functions}
use Rattle.rv_isa.specs.PlacedCode.{placed_lines_of}
use Rattle.rv_regs.specs.Shape.{AreRight}
use Rattle.rv_regs.proofs.ProgramPlacings.{right_placings, right_shape}
use Rattle.rv_regs.proofs.assigning.assign.Goals as goal

pub returns-clause-valid : goal.returns-clause-valid
returns-clause-valid c =
    record {
      functions = right_placings (asm_functions c.args.asm.now) (map placed_lines_of c.in_ok-functions.functions.items)
          (subst (λ (fs : List AsmFunction). AreRight (map lines_of fs) (map placed_lines_of c.in_ok-functions.functions.items)) c.deref.ensures.value c.in_ok-functions.ensures);
      constants = c.in_ok-constants.ensures ∙ c.deref-2.ensures.value;
      no_natives = refl;
    }

pub returns-clause-shape : goal.returns-clause-shape
returns-clause-shape c =
    right_shape (asm_functions c.args.asm.now) (Program c.in_ok-functions.functions c.in_ok-constants.constants)
    (subst (λ (fs : List AsmFunction). AreRight (map lines_of fs) (map placed_lines_of c.in_ok-functions.functions.items)) c.deref.ensures.value c.in_ok-functions.ensures) refl
