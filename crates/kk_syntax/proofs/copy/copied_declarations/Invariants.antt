use Rattle.std.proofs.Common.{◌≡◌, take}
use Rattle.kk_syntax.proofs.copy.copied_declarations.Given as goal

abbrev pub invariant-loop-declaration : goal.invariant-loop-declaration
invariant-loop-declaration l = l.copies.items ≡ take l.declaration-index l.declarations
