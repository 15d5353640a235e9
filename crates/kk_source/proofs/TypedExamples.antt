-- A program with a nested match is typed and covered; and a machine where no row matches is stuck.
use Rattle.std.proofs.Common.{◌≡◌, ◌⊎◌, inl, inr, ℕ, zero, suc, pos, false, [], ◌∷◌, Some, None, refl, sym, subst}
use Rattle.std.specs.Prelude.{slice_get, codes}
use Rattle.std.specs.Fmt.{digits}
use Rattle.std.proofs.lemmas.Bool.{both_ways}
use Rattle.kk_base.specs.Trace.{output}
use Rattle.kk_syntax.specs.Covered.{IsCovered, asked_by}
use Rattle.kk_syntax.specs.GroundTyping.{Table, table_of, HasType, AreRowsTyped, IsFunctionTyped, IsGroundTyped}
use Rattle.kk_syntax.specs.OfType.{IsPatternOf, ArePatternsOf, values_of}
use Rattle.kk_syntax.specs.Outlines.{Outline, any, exactly, made as made_by, Outlines, no_outline, outline, Clash}
use Rattle.kk_syntax.specs.Patterns.{anything, variable as names}
use Rattle.kk_syntax.specs.Programs.{FunctionTree, ProgramTree}
use Rattle.kk_syntax.specs.PositionsOf.{all_owned}
use Rattle.kk_syntax.specs.Trees.{variable, match, Rows, no_row, row, row_parts}
use Rattle.kk_syntax.specs.Types.{int32, unit_type}
use Rattle.kk_syntax.specs.Typing.{with_parameters}
use Rattle.kk_source.specs.NeverStuck.{StateFits}
use Rattle.kk_source.specs.SourceAfter.{source_after}
use Rattle.kk_source.specs.State.{Setting, constant, rows, value, ended, Configuration}
use Rattle.kk_source.proofs.Builder.{number, called, made, printed, of_made}
use Rattle.kk_source.proofs.ListType.{list, constructors, makers, has_truths, clash_any, clash_none}

-- fun second(xs : list) : int32 { match xs { Nil -> 0; Cons(x, Nil) -> x; Cons(_, Cons(y, _)) -> y } }
abbrev second_rows : Rows
second_rows =
    row (row_parts (of_made 2 []) (number (pos 0)))
    (row (row_parts (of_made 3 (names 1 ∷ of_made 2 [] ∷ [])) (variable 1))
    (row (row_parts (of_made 3 (anything ∷ of_made 3 (names 2 ∷ anything ∷ []) ∷ [])) (variable 2))
    no_row))

abbrev second : FunctionTree
second = record { name = []; at = 0; variables = 0; parameters = list ∷ []; result = int32; body = match (variable 0) second_rows }

-- fun main() { println(second(Cons(1, Cons(2, Nil)))) }
abbrev main : FunctionTree
main = record {
  name = [];
  at = 0;
  variables = 0;
  parameters = [];
  result = unit_type;
  body = printed (called 0 (made 3 (number (pos 1) ∷ made 3 (number (pos 2) ∷ made 2 [] ∷ []) ∷ []) ∷ []));
}

abbrev program : ProgramTree
program = record { types = []; constructors = constructors; functions = second ∷ main ∷ []; texts = []; main = 1 }

abbrev setting : Setting
setting = record { program = program; positions = all_owned; cells = 2; depth = 2 }

second_is_printed : source_after setting [] 100 ≡ record { trace = output (codes "2\n") ∷ []; ending = Some ended }
unfolding digits
second_is_printed = refl

-- ---- the match is covered

abbrev cons_of : Outline → Outline → Outline
cons_of p q = made_by 3 (outline p (outline q no_outline))

-- what is of the type and is no `Nil` is a `Cons`
record IsCons (e : Outline) : Type 0 where
  head : Outline
  tail : Outline
  is : e ≡ cons_of head tail
  typed : IsPatternOf (values_of constructors) list tail

two_parts : (ps : Outlines) → ArePatternsOf (values_of constructors) (int32 ∷ list ∷ []) ps → IsCons (made_by 3 ps)
two_parts no_outline typed = absurd typed
two_parts (outline p no_outline) typed = absurd typed.1
two_parts (outline p (outline q no_outline)) typed = record { head = p; tail = q; is = refl; typed = typed.1.0 }
two_parts (outline p (outline q (outline r ps))) typed = absurd typed.1.1

no_nil : (e : Outline) → IsPatternOf (values_of constructors) list e → Clash e (made_by 2 no_outline) → IsCons e
no_nil any typed clash = absurd clash
no_nil (exactly n) typed clash = absurd (both_ways false refl typed)
no_nil (made_by c ps) typed clash =
    elim (makers c typed.0 typed.1) [
      | inl nil ↦ absurd (elim clash [ inl other ↦ other nil.0 | inr inside ↦ clash_none ps inside ])
      | inr cons ↦
          subst (λ d. IsCons (made_by d ps)) (sym cons.0)
          (two_parts ps (subst (λ us. ArePatternsOf (values_of constructors) us ps) cons.1 typed.2))
    ]

-- a `Cons` that clashes with another one clashes in its head or in its tail
inside_cons : (p q r s : Outline) → Clash (cons_of p q) (cons_of r s) → Clash p r ⊎ Clash q s
inside_cons p q r s (inl other) = absurd (other refl)
inside_cons p q r s (inr (inl head)) = inl head
inside_cons p q r s (inr (inr (inl tail))) = inr tail
inside_cons p q r s (inr (inr (inr none))) = absurd none

in_tail : (p q s : Outline) → Clash (cons_of p q) (cons_of any s) → Clash q s
in_tail p q s clash = elim (inside_cons p q any s clash) [ inl head ↦ absurd (clash_any p head) | inr tail ↦ tail ]

abbrev nil_outline : Outline
nil_outline = made_by 2 no_outline

second_covered : IsCovered (values_of constructors) list (asked_by second_rows)
second_covered e missed =
    let one = no_nil e missed.typed missed.clashes.0 in
    let first = in_tail one.head one.tail nil_outline (subst (λ x. Clash x (cons_of any nil_outline)) one.is missed.clashes.1.0) in
    let two = no_nil one.tail one.typed first in
    let whole = subst (λ x. Clash x (cons_of any (cons_of any any))) one.is missed.clashes.1.1.0 in
    let other = in_tail one.head one.tail (cons_of any any) whole in
    clash_any two.tail (in_tail two.head two.tail any (subst (λ x. Clash x (cons_of any any)) two.is other))

-- ---- the program is typed

abbrev table : Table
table = table_of program

second_rows_typed : AreRowsTyped table (with_parameters 0 (list ∷ []) []) second_rows list int32
second_rows_typed =
    let nil : IsPatternOf (values_of constructors) list nil_outline = ([], refl, tt) in
    let cons : IsPatternOf (values_of constructors) list (cons_of any any) = (int32 ∷ list ∷ [], refl, (tt, (tt, tt))) in
    let second : IsPatternOf (values_of constructors) list (cons_of any nil_outline) = (int32 ∷ list ∷ [], refl, (tt, (nil, tt))) in
    let third : IsPatternOf (values_of constructors) list (cons_of any (cons_of any any)) =
    (int32 ∷ list ∷ [], refl, (tt, (cons, tt))) in
    (nil, ([], tt, (refl, refl)), (second, refl, (third, refl, tt)))

second_typed : IsFunctionTyped table second
second_typed = (list, refl, second_rows_typed, second_covered)

main_typed : IsFunctionTyped table main
main_typed =
    let nil : HasType table [] (made 2 []) list = ([], tt, refl) in
    let two : HasType table [] (made 3 (number (pos 2) ∷ made 2 [] ∷ [])) list =
    (int32 ∷ list ∷ [], (([], tt, (refl, refl)), (nil, tt)), refl) in
    let one : HasType table [] (made 3 (number (pos 1) ∷ made 3 (number (pos 2) ∷ made 2 [] ∷ []) ∷ [])) list =
    (int32 ∷ list ∷ [], (([], tt, (refl, refl)), (two, tt)), refl) in
    (int32 ∷ [], ((list ∷ [], (one, tt), refl), tt), (refl, refl))

functions_typed : (f : ℕ) (function : FunctionTree) → slice_get program.functions f ≡ Some function → IsFunctionTyped table function
functions_typed zero function is = let same : second ≡ function = cc in subst (IsFunctionTyped table) same second_typed
functions_typed (suc zero) function is = let same : main ≡ function = cc in subst (IsFunctionTyped table) same main_typed
functions_typed (suc (suc f)) function is = absurd (cc)

program_typed : IsGroundTyped program
program_typed =
    record { functions = functions_typed; main = refl; truths = has_truths }

-- ---- a machine that is stuck: no row is there for the value

abbrev at_no_row : Configuration
at_no_row = record { control = value (constant 2); frames = rows no_row [] ∷ []; store = [] }

no_row_is_stuck : StateFits program at_no_row → ⊥
no_row_is_stuck fits = let none : None ≡ Some fits.0 = fits.1 in absurd (cc)
