-- The assembler lines of forms. Value x of a function's assembler code is variable x of its counted form; the values behind
-- all variables, from `base` on, are temporaries. An `int32` is its word, `()` is the word 1, `False` is 1 and `True` is 3.
use Rattle.std.specs.Prelude.{◌≡◌, ℕ, ◌+◌, ◌*◌, ◌^◌, ◌<◌, List, [], ◌∷◌, ◌++◌, length, Some, None, slice_get}
use Rattle.kk_syntax.specs.declared.operator.UnaryOperator.TheVariants.{Negate, Not}
use Rattle.kk_syntax.specs.declared.operator.BinaryOperator.{BinaryOperator}
use Rattle.kk_syntax.specs.declared.operator.BinaryOperator.TheVariants.{Add, Subtract, Multiply, Divide, Remainder, Equal, NotEqual, Less, LessEqual, Greater, GreaterEqual}
use Rattle.kk_syntax.specs.declared.operator.PrintForm.{PrintForm}
use Rattle.kk_syntax.specs.declared.operator.PrintForm.TheVariants as OfPrint
use Rattle.kk_syntax.specs.declared.program.Form.{Form}
use Rattle.kk_syntax.specs.declared.program.Form.TheVariants.{Number, Unit as Nothing, ReadByte, PrintText, Unary, Binary, Print, Construct, Call}
use Rattle.kk_syntax.specs.Programs.{text_at}
use Rattle.kk_source.specs.FormEffects.{piece_of}
use Rattle.rv_isa.specs.declared.asm.Action.{Action}
use Rattle.rv_isa.specs.declared.asm.Operation.{Operation as AsmOperation}
use Rattle.rv_isa.specs.declared.asm.Operation.TheVariants as Op
use Rattle.rv_isa.specs.declared.asm.RegisterOperation.TheVariants as Register
use Rattle.rv_isa.specs.declared.asm.ImmediateOperation.{ImmediateOperation}
use Rattle.rv_isa.specs.declared.asm.ImmediateOperation.TheVariants as Immediate
use Rattle.rv_isa.specs.declared.asm.ShiftOperation.TheVariants as Shift
use Rattle.rv_isa.specs.declared.immediate.Immediate.{Immediate as ImmediateWord}
use Rattle.rv_isa.specs.declared.immediate.ShiftAmount.{ShiftAmount}
use Rattle.rv_isa.specs.declared.routine.Routine.{Routine}
use Rattle.rv_isa.specs.Arithmetic.{signed}
use Rattle.rv_isa.specs.AsmCode.{Line}

-- an operation on values, whose word a value takes
abbrev pub computes : AsmOperation → List ℕ → ℕ → Line
computes operation args into = record { action = Action.Compute operation; args = args; into = Some into }

-- a constant word
abbrev pub sets : ℕ → ℕ → Line
sets word into = computes (Op.Li word) [] into

-- a copy
abbrev pub copies_to : ℕ → ℕ → Line
copies_to from into = computes Op.Mv (from ∷ []) into

-- an action without a value
abbrev pub acts : Action → List ℕ → Line
acts action args = record { action = action; args = args; into = None }

-- arguments that are handed over are copied to temporaries first, from one on
abbrev pub copies : ℕ → List ℕ → List Line
copies base [] = []
copies base (x ∷ xs) = copies_to x base ∷ copies (base + 1) xs

abbrev pub temporaries : ℕ → List ℕ → List ℕ
temporaries base [] = []
temporaries base (x ∷ xs) = base ∷ temporaries (base + 1) xs

-- the word of `()`, and of `False` and `True` by their numbers
abbrev pub unit_word : ℕ
unit_word = 1

abbrev pub constant_word : ℕ → ℕ
constant_word c = 2 * c + 1

-- 0 and 1 become the words of `False` and `True`
abbrev pub MakesTruth : ℕ → List Line → Type 0
MakesTruth x lines =
    (one : ImmediateWord) × (place : ShiftAmount) × (one.word ≡ 1) × (place.places ≡ 1)
    × (lines ≡ computes (Op.Shift Shift.Slli place) (x ∷ []) x ∷ computes (Op.Immediate Immediate.Addi one) (x ∷ []) x ∷ [])

-- a comparison that gives 0 or 1 by `first`, and then a truth
abbrev pub Compares : ℕ → List Line → List Line → Type 0
Compares x first lines = (truth : List Line) × MakesTruth x truth × (lines ≡ first ++ truth)

-- the same where one line more, of what `first` gave and 1, gives the 0 or 1
abbrev pub ComparesWithOne : ImmediateOperation → ℕ → Line → List Line → Type 0
ComparesWithOne further x first lines =
    (one : ImmediateWord) × (one.word ≡ 1) × Compares x (first ∷ computes (Op.Immediate further one) (x ∷ []) x ∷ []) lines

-- the same of the opposite comparison
abbrev pub ComparesNot : ℕ → Line → List Line → Type 0
ComparesNot x first lines = ComparesWithOne Immediate.Xori x first lines

abbrev pub registers : ℕ → ℕ → ℕ → AsmOperation → Line
registers x a b operation = computes operation (a ∷ b ∷ []) x

-- x = a operator b. DIV by 0 gives -1 where the language wants 0: the quotient is multiplied by 1, or by 0 where b is 0.
abbrev pub BinaryLines : ℕ → ℕ → BinaryOperator → ℕ → ℕ → List Line → Type 0
BinaryLines base x Add a b lines = lines ≡ registers x a b (Op.Register Register.Add) ∷ []
BinaryLines base x Subtract a b lines = lines ≡ registers x a b (Op.Register Register.Sub) ∷ []
BinaryLines base x Multiply a b lines = lines ≡ registers x a b (Op.Register Register.Mul) ∷ []
BinaryLines base x Remainder a b lines = lines ≡ registers x a b (Op.Register Register.Rem) ∷ []
BinaryLines base x Divide a b lines =
    lines ≡ registers x a b (Op.Register Register.Div) ∷ sets 0 base ∷ registers base base b (Op.Register Register.Sltu) ∷ registers x x base (Op.Register Register.Mul) ∷ []
BinaryLines base x Equal a b lines = ComparesWithOne Immediate.Sltiu x (registers x a b (Op.Register Register.Sub)) lines
BinaryLines base x NotEqual a b lines =
    Compares x (registers x a b (Op.Register Register.Sub) ∷ sets 0 base ∷ registers x base x (Op.Register Register.Sltu) ∷ []) lines
BinaryLines base x Less a b lines = Compares x (registers x a b (Op.Register Register.Slt) ∷ []) lines
BinaryLines base x Greater a b lines = Compares x (registers x b a (Op.Register Register.Slt) ∷ []) lines
BinaryLines base x LessEqual a b lines = ComparesNot x (registers x b a (Op.Register Register.Slt)) lines
BinaryLines base x GreaterEqual a b lines = ComparesNot x (registers x a b (Op.Register Register.Slt)) lines

-- a line feed behind a print, or none
abbrev pub choice_of : PrintForm → ℕ
choice_of OfPrint.Print = 0
choice_of OfPrint.PrintLine = 1

-- A print of constant bytes, which stand among the texts. One of no bytes frees the null token, which changes nothing: so it has an own
-- line too, as each print.
abbrev pub PrintLines : ℕ → List (List ℕ) → List ℕ → List Line → Type 0
PrintLines base texts [] lines = lines ≡ sets 0 base ∷ acts (Action.Compute Op.Free) (base ∷ []) ∷ []
PrintLines base texts (byte ∷ more) lines =
    (index : ℕ) × (slice_get texts index ≡ Some (byte ∷ more))
    × (lines ≡ computes (Op.La index) [] base ∷ sets (length (byte ∷ more)) (base + 1)
    ∷ acts (Action.Routine Routine.PrintText) (base ∷ (base + 1) ∷ []) ∷ [])

-- A form with arguments, on variables. One with another number of arguments is none, and so is a construction with fields.
abbrev pub AppliedLines : ℕ → ℕ → Form → List ℕ → List Line → Type 0
AppliedLines base x (Unary Negate) (a ∷ []) lines = lines ≡ sets 0 base ∷ registers x base a (Op.Register Register.Sub) ∷ []
AppliedLines base x (Unary Not) (a ∷ []) lines =
    (two : ImmediateWord) × (two.word ≡ 2) × (lines ≡ computes (Op.Immediate Immediate.Xori two) (a ∷ []) x ∷ [])
AppliedLines base x (Binary operator) (a ∷ b ∷ []) lines = BinaryLines base x operator a b lines
AppliedLines base x (Print form) (a ∷ []) lines =
    lines ≡ copies_to a base ∷ sets (choice_of form) (base + 1) ∷ acts (Action.Routine Routine.PrintInt) (base ∷ (base + 1) ∷ []) ∷ sets unit_word x ∷ []
AppliedLines base x (Construct c) [] lines = lines ≡ sets (constant_word c) x ∷ []
AppliedLines base x (Call f) arguments lines =
    lines ≡ copies base arguments ++ record { action = Action.Call f; args = temporaries base arguments; into = Some x } ∷ []
AppliedLines base x form arguments lines = Unit {0}

-- the string literals of the program, and the constant bytes of the assembler code, each by its number
pub record Texts : Type 0 where
  pub literals : List (List ℕ)
  pub constants : List (List ℕ)

-- a form on variables, whose value variable x takes
abbrev pub FormLines : ℕ → Texts → ℕ → Form → List ℕ → List Line → Type 0
FormLines base texts x (Number value) arguments lines =
    (word : ℕ) × (signed word ≡ value) × (word < 2 ^ 32) × (lines ≡ sets word x ∷ [])
FormLines base texts x Nothing arguments lines = lines ≡ sets unit_word x ∷ []
FormLines base texts x ReadByte arguments lines =
    lines ≡ record { action = Action.Routine Routine.ReadByte; args = []; into = Some x } ∷ []
FormLines base texts x (PrintText form text) arguments lines =
    (print : List Line) × PrintLines base texts.constants (piece_of form (text_at texts.literals text)) print
    × (lines ≡ print ++ sets unit_word x ∷ [])
FormLines base texts x form arguments lines = AppliedLines base x form arguments lines
