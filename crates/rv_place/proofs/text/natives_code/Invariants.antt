use Rattle.std.proofs.Common.{◌≡◌, ◌+◌, List, ◌++◌, length, drop}
use Rattle.rv_isa.specs.declared.instr.Instr.{Instr}
use Rattle.cell_runtime.specs.Lines.{Spells, words_of}
use Rattle.cell_runtime.specs.Lines.{AreWithin}
use Rattle.cell_runtime.specs.Texts.{greatest_reach}
use Rattle.rv_place.proofs.text.natives_code.Given as goal

abbrev pub invariant-loop-line : goal.invariant-loop-line
invariant-loop-line l = record {
  spells : (rest : List Instr) → Spells l.memory (drop l.line-index l.natives) rest → Spells l.memory l.natives (l.code.items ++ rest);
  size : length l.code.items + words_of (drop l.line-index l.natives) ≡ words_of l.natives;
  lines : AreWithin greatest_reach (drop l.line-index l.natives);
}
