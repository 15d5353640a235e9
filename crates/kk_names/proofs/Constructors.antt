-- The constructors of a resolved program: those of `bool`, and declared ones of other types.
use Rattle.std.proofs.Common.{◌≡◌, ◌≤◌, ◌<◌, ◌+◌, ℕ, zero, suc, List, [], ◌∷◌, ◌++◌, false, ◌==◌, codes, Some, None, refl, ap, sym, ◌∙◌, arith}
use Rattle.std.specs.Prelude.{if◌then◌else◌}
use Rattle.std.proofs.lemmas.Bool.Decides.{nat_tests}
use Rattle.std.proofs.lemmas.Option.{same_Some}
use Rattle.kk_syntax.specs.OfType.{field_types, fields_with}
use Rattle.kk_syntax.specs.Programs.{ConstructorTree, AreDeclared}
use Rattle.kk_syntax.specs.Surface.{WrittenConstructor, WrittenDeclaration, type_declaration, function_declaration}
use Rattle.kk_syntax.specs.Types.{TypeTree, no_type}
use Rattle.kk_syntax.specs.Typing.{bool}
use Rattle.kk_names.specs.Names.{bool_constructor, bool_constructors, constructor_of, cases_of, constructors_of, program_constructors}
use Rattle.kk_names.specs.Tables.{Known, known_in, names_of}

-- ---- the constructors of `bool`

-- no constructor is one of `bool`
abbrev AreOthers : List ConstructorTree → Type 0
AreOthers constructors = (c : ℕ) (ts : List TypeTree) → field_types constructors bool c ≡ Some ts → ⊥

others_both : (xs ys : List ConstructorTree) → AreOthers xs → AreOthers ys → AreOthers (xs ++ ys)
others_both [] ys one more c ts is = more c ts is
others_both (x ∷ xs) ys one more zero ts is = one zero ts is
others_both (x ∷ xs) ys one more (suc c) ts is = others_both xs ys (λ c ts is. one (suc c) ts is) more c ts is

none_other : AreOthers []
none_other c ts is = absurd (cc)

no_bool : (number : ℕ) → 0 < number → (number == 0) ≡ false
no_bool number positive = grind (arith, nat_tests)

case_other : (known : Known) (variables : List (List ℕ)) (number place : ℕ) (case : WrittenConstructor) (more : List ConstructorTree) → 0 < number
    → AreOthers more → AreOthers (constructor_of known variables number place case ∷ more)
case_other known variables number place case more positive rest zero ts is =
    let made = constructor_of known variables number place case in
    let none : field_types (made ∷ more) bool zero ≡ None =
    ap (λ b. if b then fields_with None made.fields no_type else None) (no_bool number positive) in
    absurd (let clash : None ≡ Some ts = sym none ∙ is in cc clash)
case_other known variables number place case more positive rest (suc c) ts is = rest c ts is

cases_other : (known : Known) (variables : List (List ℕ)) (number place : ℕ) (cases : List WrittenConstructor) → 0 < number
    → AreOthers (cases_of known variables number place cases)
cases_other known variables number place [] positive = none_other
cases_other known variables number place (case ∷ cases) positive =
    case_other known variables number place case (cases_of known variables number (place + 1) cases) positive
    (cases_other known variables number (place + 1) cases positive)

pub constructors_other : (known : Known) (number : ℕ) (ds : List WrittenDeclaration) → 0 < number → AreOthers (constructors_of known number ds)
constructors_other known number [] positive = none_other
constructors_other known number (type_declaration name parameters cases ∷ ds) positive =
    others_both (cases_of known (names_of parameters) number 0 cases) (constructors_of known (number + 1) ds)
    (cases_other known (names_of parameters) number 0 cases positive) (constructors_other known (number + 1) ds (omega arith))
constructors_other known number (function_declaration name parameters effects result body ∷ ds) positive = constructors_other known number ds positive

pub truth : (others : List ConstructorTree) (c : ℕ) → c ≤ 1 → field_types (bool_constructors ++ others) bool c ≡ Some []
truth others zero small = refl
truth others (suc zero) small = refl
truth others (suc (suc c)) small = absurd (omega arith)

pub no_other : (others : List ConstructorTree) → AreOthers others → (c : ℕ) (ts : List TypeTree) → field_types (bool_constructors ++ others) bool c ≡ Some ts → c ≤ 1
no_other others are zero ts is = omega arith
no_other others are (suc zero) ts is = omega arith
no_other others are (suc (suc c)) ts is = absurd (are c ts is)

-- ---- declared constructors

declared_more : (constructor : ConstructorTree) (more : List ConstructorTree) → constructor.arguments ≡ None → AreDeclared more → AreDeclared (constructor ∷ more)
declared_more constructor more none rest zero found there = ap (λ c. c.arguments) (sym (same_Some constructor found there)) ∙ none
declared_more constructor more none rest (suc c) found there = rest c found there

none_declared : AreDeclared []
none_declared c found there = absurd (cc)

cases_declared : (known : Known) (variables : List (List ℕ)) (number place : ℕ) (cases : List WrittenConstructor) (more : List ConstructorTree)
    → AreDeclared more → AreDeclared (cases_of known variables number place cases ++ more)
cases_declared known variables number place [] more rest = rest
cases_declared known variables number place (case ∷ cases) more rest =
    declared_more (constructor_of known variables number place case) (cases_of known variables number (place + 1) cases ++ more) refl
    (cases_declared known variables number (place + 1) cases more rest)

all_declared : (known : Known) (number : ℕ) (ds : List WrittenDeclaration) → AreDeclared (constructors_of known number ds)
all_declared known number [] = none_declared
all_declared known number (type_declaration name parameters cases ∷ ds) =
    cases_declared known (names_of parameters) number 0 cases (constructors_of known (number + 1) ds) (all_declared known (number + 1) ds)
all_declared known number (function_declaration name parameters effects result body ∷ ds) = all_declared known number ds

-- each constructor of a program is a declared one
pub program_declared : (ds : List WrittenDeclaration) → AreDeclared (program_constructors ds)
program_declared ds =
    let others = constructors_of (known_in ds) 1 ds in
    let truth = bool_constructor (codes "True") 1 in
    declared_more (bool_constructor (codes "False") 0) (truth ∷ others) refl (declared_more truth others refl (all_declared (known_in ds) 1 ds))
