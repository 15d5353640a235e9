-- The counted quantities: their words and their greatest numbers.
use Rattle.std.specs.Prelude.{ℕ, List, codes}
use Rattle.kk_base.specs.declared.limit.LimitKind.{LimitKind}
use Rattle.kk_base.specs.declared.limit.LimitKind.TheVariants.{Source, Parameters, Fields, Constructors, FunctionNodes, Instances, ProgramNodes}

-- the word that a line on a passed limit tells
abbrev pub limit_word_of : LimitKind → List ℕ
limit_word_of Source = codes "source"
limit_word_of Parameters = codes "parameters"
limit_word_of Fields = codes "fields"
limit_word_of Constructors = codes "constructors"
limit_word_of FunctionNodes = codes "function-nodes"
limit_word_of Instances = codes "instances"
limit_word_of ProgramNodes = codes "program-nodes"

-- the greatest number of bytes that a string in a text stands for
abbrev pub greatest_string : ℕ
greatest_string = 255

-- the greatest number of a quantity
abbrev pub greatest_of : LimitKind → ℕ
greatest_of Source = 65536
greatest_of Parameters = 8
greatest_of Fields = 6
greatest_of Constructors = 255
greatest_of FunctionNodes = 480
greatest_of Instances = 1024
greatest_of ProgramNodes = 8192
