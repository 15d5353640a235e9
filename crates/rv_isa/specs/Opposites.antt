-- The opposite of a condition.
use Rattle.rv_isa.specs.declared.asm.Condition.{Condition}
use Rattle.rv_isa.specs.declared.asm.Condition.TheVariants.{Equal, NotEqual, Less, GreaterEqual, LessUnsigned, GreaterEqualUnsigned}

-- the condition that holds exactly where another does not
abbrev pub opposite : Condition → Condition
opposite Equal = NotEqual
opposite NotEqual = Equal
opposite Less = GreaterEqual
opposite GreaterEqual = Less
opposite LessUnsigned = GreaterEqualUnsigned
opposite GreaterEqualUnsigned = LessUnsigned
