-- When a placed form is one of an assembler form.
use Rattle.std.specs.Prelude.{◌≡◌, []}
use Rattle.rv_isa.specs.declared.asm.Asm.{Asm}
use Rattle.rv_isa.specs.declared.placed.Placed.{Placed}
use Rattle.rv_isa.specs.AsmCode.{asm_functions, asm_constants}
use Rattle.rv_isa.specs.PlacedCode.{placed_functions, placed_constants, placed_natives}
use Rattle.rv_regs.specs.Conditions.{ArePlacings}

pub record IsValid (asm : Asm) (placed : Placed) : Type 0 where
  pub functions : ArePlacings (asm_functions asm) (placed_functions placed)
  pub constants : placed_constants placed ≡ asm_constants asm
  pub no_natives : placed_natives placed ≡ []
