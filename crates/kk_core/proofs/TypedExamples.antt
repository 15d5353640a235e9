-- A program with a match and an opening is typed; and a machine that no step serves.
use Rattle.std.proofs.Common.{◌≡◌, inl, inr, ℕ, zero, suc, pos, false, List, [], ◌∷◌, Option, Some, None, refl, map, ne_eqb, ◌==◌, arith}
use Rattle.std.specs.Prelude.{slice_get}
use Rattle.std.proofs.lemmas.Bool.{both_ways}
use Rattle.kk_syntax.specs.declared.operator.PrintForm.TheVariants.{PrintLine}
use Rattle.kk_syntax.specs.declared.program.Form.TheVariants.{Number, Print, Call}
use Rattle.kk_syntax.specs.Covered.{IsCovered}
use Rattle.kk_syntax.specs.GroundTyping.{Table}
use Rattle.kk_syntax.specs.OfType.{values_of}
use Rattle.kk_syntax.specs.Outlines.{any, exactly, made, Outlines, no_outline, outline, outline_of, ClashIn}
use Rattle.kk_syntax.specs.Patterns.{Pattern, anything, no_part, part}
use Rattle.kk_syntax.specs.Types.{int32, unit_type}
use Rattle.kk_source.specs.State.{Value, integer, unit, constant, place, Cell, Store}
use Rattle.kk_core.specs.declared.decisions.Answer.TheVariants.{Constructor}
use Rattle.kk_core.specs.RowChoice.{first_row, Decides}
use Rattle.kk_core.specs.Codes.{give, case, compute, unpack, no_arm, arm, FunctionCode, ProgramCode}
use Rattle.kk_core.specs.CoreStates.{running, CoreConfiguration}
use Rattle.kk_core.specs.CoreTyping.{IsCodeTyped, IsCoreTyped}
use Rattle.kk_core.specs.Decisions.{NodeTree, chooses, tests, chosen}
use Rattle.kk_core.specs.NeverStuck.{StateFits}
use Rattle.kk_source.proofs.ListType.{list, constructors, makers, has_truths, clash_any, clash_none}
use Rattle.kk_core.proofs.ListExamples.{nil, cons, with_one, with_one_ordered}

-- fun first(xs : list) : int32 { match xs { Nil -> 0; Cons(x, _) -> x } }
abbrev rows : List Pattern
rows = nil ∷ cons anything anything ∷ []

abbrev nil_or_cons : List NodeTree
nil_or_cons =
    tests [] (record { found = Constructor 2; next = 1 } ∷ record { found = Constructor 3; next = 2 } ∷ []) None
    ∷ chooses 0 ∷ chooses 1 ∷ []

abbrev first : FunctionCode
first = record {
  parameters = 1;
  variables = 4;
  body = case 0 nil_or_cons
      (arm nil (compute 1 (Number (pos 0)) [] (give 1))
      (arm (cons anything anything) (unpack 0 3 (2 ∷ 3 ∷ []) (give 2))
      no_arm));
}

-- fun main() { println(first(Cons(1, Nil))) }
abbrev main : FunctionCode
main = record {
  parameters = 0;
  variables = 5;
  body = with_one 1 (compute 3 (Call 0) (2 ∷ []) (compute 4 (Print PrintLine) (3 ∷ []) (give 4)));
}

abbrev program : ProgramCode
program = record { functions = first ∷ main ∷ []; texts = []; main = 1 }

abbrev table : Table
table = record {
  constructors = constructors;
  functions = record { parameters = list ∷ []; result = int32 } ∷ record { parameters = []; result = unit_type } ∷ [];
  texts = 0;
}

-- ---- the rows are covered

inside_cons : (ps : Outlines) → ClashIn ps (outline any (outline any no_outline)) → ⊥
inside_cons no_outline h = h
inside_cons (outline p no_outline) h = elim h [ inl head ↦ clash_any p head | inr tail ↦ tail ]
inside_cons (outline p (outline q ps)) h =
    elim h [
      | inl head ↦ clash_any p head
      | inr tail ↦ elim tail [ inl second ↦ clash_any q second | inr none ↦ clash_none ps none ]
    ]

covered : IsCovered (values_of constructors) list (map outline_of rows)
covered any missed = missed.clashes.0
covered (exactly n) missed = both_ways false refl missed.typed
covered (made c ps) missed =
    elim (makers c missed.typed.0 missed.typed.1) [
      | inl nil ↦ elim missed.clashes.0 [ inl other ↦ other nil.0 | inr inside ↦ clash_none ps inside ]
      | inr cons ↦ elim missed.clashes.1.0 [ inl other ↦ other cons.0 | inr inside ↦ inside_cons ps inside ]
    ]

-- ---- the decisions choose the first row

by_fields : (store : Store) (made_by : ℕ) (fields : List Value) (at row : ℕ)
    → slice_get store at ≡ Some (record { made_by = made_by; fields = fields }) → first_row store 0 rows (place at) ≡ Some row
    → chosen (slice_get store) (place at) nil_or_cons ≡ Some row
by_fields store zero fields at row there is = absurd (cc (rw there at is))
by_fields store (suc zero) fields at row there is = absurd (cc (rw there at is))
by_fields store (suc (suc zero)) [] at row there is = rw there (rw there at is)
by_fields store (suc (suc zero)) (v ∷ vs) at row there is = absurd (cc (rw there at is))
by_fields store (suc (suc (suc zero))) [] at row there is = absurd (cc (rw there at is))
by_fields store (suc (suc (suc zero))) (v ∷ []) at row there is = absurd (cc (rw there at is))
by_fields store (suc (suc (suc zero))) (v ∷ w ∷ []) at row there is = rw there (rw there at is)
by_fields store (suc (suc (suc zero))) (v ∷ w ∷ x ∷ vs) at row there is = absurd (cc (rw there at is))
by_fields store (suc (suc (suc (suc c)))) fields at row there is =
    let two : (suc (suc (suc (suc c))) == 2) ≡ false = ne_eqb (suc (suc (suc (suc c)))) 2 (λ e. omega (arith, e)) in
    let three : (suc (suc (suc (suc c))) == 3) ≡ false = ne_eqb (suc (suc (suc (suc c)))) 3 (λ e. omega (arith, e)) in
    let none : None ≡ Some row = rw three at (rw two at (rw there at is)) in absurd (cc)

by_constant : (store : Store) (d row : ℕ) → first_row store 0 rows (constant d) ≡ Some row
    → chosen (slice_get store) (constant d) nil_or_cons ≡ Some row
by_constant store zero row is = absurd (cc)
by_constant store (suc zero) row is = absurd (cc)
by_constant store (suc (suc zero)) row is = is
by_constant store (suc (suc (suc zero))) row is = absurd (cc)
by_constant store (suc (suc (suc (suc d)))) row is =
    let two : (suc (suc (suc (suc d))) == 2) ≡ false = ne_eqb (suc (suc (suc (suc d)))) 2 (λ e. omega (arith, e)) in
    let three : (suc (suc (suc (suc d))) == 3) ≡ false = ne_eqb (suc (suc (suc (suc d)))) 3 (λ e. omega (arith, e)) in
    let none : None ≡ Some row = rw three at (rw two at is) in absurd (cc)

by_cell : (store : Store) (at row : ℕ) (found : Option Cell) → slice_get store at ≡ found
    → first_row store 0 rows (place at) ≡ Some row → chosen (slice_get store) (place at) nil_or_cons ≡ Some row
by_cell store at row None there is = absurd (cc (rw there at is))
by_cell store at row (Some cell) there is = by_fields store cell.made_by cell.fields at row there is

by_value : (store : Store) (v : Value) (row : ℕ) → first_row store 0 rows v ≡ Some row
    → chosen (slice_get store) v nil_or_cons ≡ Some row
by_value store (integer n) row is = absurd (cc)
by_value store unit row is = absurd (cc)
by_value store (constant d) row is = by_constant store d row is
by_value store (place at) row is = by_cell store at row (slice_get store at) refl is

decided : Decides constructors rows nil_or_cons
decided t store v row patterns of is = by_value store v row is

-- ---- the program is typed

first_typed : IsCodeTyped table first (record { parameters = list ∷ []; result = int32 })
first_typed =
    record {
      parameters = refl;
      body = (
        list,
        (anything, refl),
        (
          ([], refl, tt),
          (int32, [], tt, (refl, refl), (anything, refl)),
          (
            (int32 ∷ list ∷ [], refl, (tt, (tt, tt))),
            (list, int32 ∷ list ∷ [], anything, part anything no_part, refl, refl, refl, (anything, refl)),
            tt,
          ),
        ),
        covered,
        decided,
      );
      ordered = (
        refl,
        (
          2,
          (tt, omega arith, (refl, omega arith)),
          (4, (4, refl, (omega arith, (omega arith, omega arith)), (refl, omega arith)), omega arith),
        ),
      );
    }

main_typed : IsCodeTyped table main (record { parameters = []; result = unit_type })
main_typed =
    record {
      parameters = refl;
      body = (
        list,
        [],
        tt,
        refl,
        (
          int32,
          [],
          tt,
          (refl, refl),
          (
            list,
            int32 ∷ list ∷ [],
            ((anything, refl), ((anything, refl), tt)),
            refl,
            (
              int32,
              list ∷ [],
              ((anything, refl), tt),
              refl,
              (unit_type, int32 ∷ [], ((anything, refl), tt), (refl, refl), (anything, refl)),
            ),
          ),
        ),
      );
      ordered = with_one_ordered 1 (compute 3 (Call 0) (2 ∷ []) (compute 4 (Print PrintLine) (3 ∷ []) (give 4))) 5
          ((refl, tt), omega arith, ((refl, tt), omega arith, (refl, omega arith)));
    }

program_typed : IsCoreTyped table program
program_typed =
    record {
      functions = (first_typed, (main_typed, tt));
      texts = refl;
      main = refl;
      truths = has_truths;
    }

-- ---- a machine that no step serves: it would open `Nil` as a `Cons`

abbrev at_nil : CoreConfiguration
at_nil = record {
  control = running (unpack 0 3 (1 ∷ 2 ∷ []) (give 1)) (record { variable = 0; value = constant 2 } ∷ []) [];
  frames = [];
  store = [];
}

nil_is_no_cons : StateFits constructors program at_nil → ⊥
nil_is_no_cons fits = let none : constant 2 ≡ place fits.1.0 = fits.1.2 in absurd (cc)
