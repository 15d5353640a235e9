-- What a form does on the values of its arguments, apart from any machine.
use Rattle.std.specs.Prelude.{ℕ, ℤ, pos, negsuc, ◌==◌, int_lt, int_le, Bool, true, false, not, List, [], ◌∷◌, ◌++◌, Option, Some, None, slice_index_or}
use Rattle.std.specs.Ordering.{int_eq}
use Rattle.std.specs.Fmt.{signed_decimal}
use Rattle.kk_syntax.specs.declared.operator.UnaryOperator.{UnaryOperator}
use Rattle.kk_syntax.specs.declared.operator.UnaryOperator.TheVariants.{Negate, Not}
use Rattle.kk_syntax.specs.declared.operator.BinaryOperator.{BinaryOperator}
use Rattle.kk_syntax.specs.declared.operator.BinaryOperator.TheVariants.{Add, Subtract, Multiply, Divide, Remainder, Equal, NotEqual, Less, LessEqual, Greater, GreaterEqual}
use Rattle.kk_syntax.specs.declared.operator.PrintForm.{PrintForm}
use Rattle.kk_syntax.specs.declared.operator.PrintForm.TheVariants as OfPrint
use Rattle.kk_syntax.specs.declared.program.Form.{Form}
use Rattle.kk_syntax.specs.declared.program.Form.TheVariants.{Number, Unit as Nothing, ReadByte, PrintText, Unary, Binary, Print, Construct, Call}
use Rattle.kk_syntax.specs.Programs.{text_at}
use Rattle.kk_source.specs.Arithmetic.{sum_of, difference_of, product_of, negation_of, quotient_of, remainder_of}
use Rattle.kk_source.specs.State.{Value, integer, unit, constant}
use Rattle.kk_source.specs.Actions.{Action, goes, takes, print_step}

-- `False` and `True`
abbrev pub truth : Bool → Value
truth false = constant 0
truth true = constant 1

abbrev pub is_true : Value → Bool
is_true (constant c) = c == 1
is_true _ = false

-- A value as the integer that an operator and a print take. One that is no integer counts as 0; in a well typed program
-- there is none.
abbrev pub integer_of : Value → ℤ
integer_of (integer n) = n
integer_of _ = pos 0

-- the results of the operators; comparisons are of integers with their signs
abbrev pub unary_result : UnaryOperator → Value → Value
unary_result Negate x = integer (negation_of (integer_of x))
unary_result Not x = truth (not (is_true x))

abbrev pub number_result : BinaryOperator → ℤ → ℤ → Value
number_result Add x y = integer (sum_of x y)
number_result Subtract x y = integer (difference_of x y)
number_result Multiply x y = integer (product_of x y)
number_result Divide x y = integer (quotient_of x y)
number_result Remainder x y = integer (remainder_of x y)
number_result Equal x y = truth (int_eq x y)
number_result NotEqual x y = truth (not (int_eq x y))
number_result Less x y = truth (int_lt x y)
number_result LessEqual x y = truth (int_le x y)
number_result Greater x y = truth (int_lt y x)
number_result GreaterEqual x y = truth (int_le y x)

abbrev pub binary_result : BinaryOperator → Value → Value → Value
binary_result operator x y = number_result operator (integer_of x) (integer_of y)

-- an argument, from 0; `()` where it is not there, as none of a resolved program is
abbrev pub argument : ℕ → List Value → Value
argument index values = slice_index_or values index unit

-- what a print puts for a text: `println` puts byte 10 behind it
abbrev pub piece_of : PrintForm → List ℕ → List ℕ
piece_of OfPrint.Print text = text
piece_of OfPrint.PrintLine text = text ++ 10 ∷ []

-- what a read has got: a byte as a number, and -1 at the end of the input
abbrev pub byte_value : Option ℕ → Value
byte_value (Some byte) = integer (pos byte)
byte_value None = integer (negsuc 0)

-- What a form does.
-- gives: it has a value, and does nothing else.
-- prints: it puts a piece on the output, or nothing where the piece is empty; its value is `()`.
-- reads: it takes the next byte of the input, or meets its end; its value is that byte, or -1.
-- makes: it makes a cell of a constructor with fields.
-- enters: it calls a function.
pub data FormEffect : Type 0 where
  gives : (value : Value) → FormEffect
  prints : (piece : List ℕ) → FormEffect
  reads : FormEffect
  makes : (constructor : ℕ) → (fields : List Value) → FormEffect
  enters : (function : ℕ) → (arguments : List Value) → FormEffect

-- what a form does on values, by the string literals of the program; a constructor without fields is its own value
abbrev pub form_effect : List (List ℕ) → Form → List Value → FormEffect
form_effect texts (Number number) values = gives (integer number)
form_effect texts Nothing values = gives unit
form_effect texts ReadByte values = reads
form_effect texts (PrintText form text) values = prints (piece_of form (text_at texts text))
form_effect texts (Unary operator) values = gives (unary_result operator (argument 0 values))
form_effect texts (Binary operator) values = gives (binary_result operator (argument 0 values) (argument 1 values))
form_effect texts (Print form) values = prints (piece_of form (signed_decimal (integer_of (argument 0 values))))
form_effect texts (Construct c) [] = gives (constant c)
form_effect texts (Construct c) (v ∷ vs) = makes c (v ∷ vs)
form_effect texts (Call f) values = enters f values

-- The step of a form in a machine: `at` is the machine with a value in the form's place, `make` is what it does at a
-- construction with fields, and `enter` at a call.
abbrev pub effect_step : {C : Type 0} → (Value → C) → (ℕ → List Value → Action C) → (ℕ → List Value → Action C) → FormEffect → Action C
effect_step at make enter (gives v) = goes (at v)
effect_step at make enter (prints piece) = print_step piece (at unit)
effect_step at make enter reads = takes (λ byte. at (byte_value byte))
effect_step at make enter (makes c fields) = make c fields
effect_step at make enter (enters f values) = enter f values
