-- The program that is written by hand can be run by an image: its code is judged, and its runs are computed.
use Rattle.std.proofs.Common.{Some, None, ◌≡◌, ℕ, zero, suc, ◌==◌, ◌<◌, ◌≤◌, Bool, false, not, List, [], ◌∷◌, All, length, map, slice_get}
use Rattle.std.specs.Prelude.{slice_index_or}
use Rattle.std.proofs.Common.{refl, sym, ap, subst, ◌∙◌, lit<, lit≤, arith}
use Rattle.kk_base.specs.Limits.{greatest_of}
use Rattle.kk_base.specs.Machines.{state}
use Rattle.kk_base.specs.declared.limit.LimitKind.TheVariants.{Fields}
use Rattle.kk_syntax.specs.PositionsOf.{PositionTable}
use Rattle.kk_syntax.specs.declared.program.Form.TheVariants.{Construct, Unit as Nothing}
use Rattle.kk_source.specs.State.{constant, place}
use Rattle.kk_counted.specs.BareForms.{bare, bare_function, bare_program}
use Rattle.kk_counted.specs.CountBounds.{SpendsAtMost}
use Rattle.kk_counted.specs.CountedCodes.{Counted, compute, inside, open_cell, dup, drop, give, CountedFunction, CountedProgram}
use Rattle.kk_counted.specs.CountedMachine.{counted_machine}
use Rattle.kk_counted.specs.CountedStates.{CountedSetting, CountedControl, running, stopped, stuck, CountedFrame, CountedConfiguration, CountedState, counted_first_state}
use Rattle.kk_counted.specs.Heaps.{Heap, forwards}
use Rattle.kk_counted.specs.Int32.{HasInt32}
use Rattle.kk_core.specs.declared.shape.ConstructorShape.{ConstructorShape}
use Rattle.kk_counted.specs.Keeping.{FitsAt, HasShape, IsCell, counted_after}
use Rattle.kk_counted.specs.Kinds.{HasKinds}
use Rattle.kk_counted.specs.Lowerable.{AreLowerable, AreNumbered, IsLowerable}
use Rattle.kk_counted.specs.Marks.{CellMarks, HasMark, IsMarked}
use Rattle.kk_counted.specs.Spending.{Spends, SpendsParameters, IsSpent}
use Rattle.kk_counted.specs.TokenLowerable.{IsTokenLowerable}
use Rattle.kk_counted.specs.TokenSpending.{SpendsTokens}
use Rattle.kk_counted.specs.TokenedCodes.{TokenedFunction, TokenedProgram}
use Rattle.kk_counted.specs.declared.shape.Shape.{Shape}
use Rattle.kk_back.specs.Images.{IsRunnable, counted_setting}
use Rattle.rv_cells.specs.Fitting.{AreTagged, count_of_fields, IsFit}
use Rattle.rv_cells.specs.Layout.{Layout, IsNarrow}
use Rattle.rv_cells.specs.Tables.{table_of, layout_in}
use Rattle.kk_build.proofs.ImageConditions.{AreFit}
use Rattle.tool_tests.specs.HandCode.{hand_code, hand_fields, hand_function, hand_layout, hand_marks, hand_program, hand_tags, filled_again, opened_twice, third_made}

-- ---- the one function

only : {A : Type 0} (P : ℕ → A → Type 0) (a : A) → P 0 a → (f : ℕ) (one : A) → slice_get (a ∷ []) f ≡ Some one → P f one
only P a holds zero one there = subst (P 0) (same a one there) holds
  where
    same : {A : Type 0} (a b : A) → Some a ≡ Some b → a ≡ b
    same a b is = cc
only P a holds (suc f) one there = absurd (cc)

abbrev code : Counted
code = bare hand_code

abbrev again : Counted
again = bare filled_again

abbrev function : CountedFunction
function = bare_function hand_function

abbrev program : CountedProgram
program = bare_program hand_program

-- its last variable has no cell
abbrev holds : ℕ → Bool
holds x = not (x == 9)

body_marked : HasMark hand_marks holds false [] false code
body_marked = assumption (refl, tt)

marked : IsMarked hand_marks holds 0 function
marked = record { parameters_marked = tt; body_marked = body_marked }

numbered : AreNumbered 10 [] code
numbered = grind (arith)

lowerable : IsLowerable hand_marks 0 function
lowerable = record {
  holds = holds;
  base = 10;
  few = lit≤ tt;
  few_parameters = lit≤ tt;
  marked = marked;
  numbered = numbered;
  parameters_below = lit≤ tt;
  arms = (tt, tt);
  some_arm = (tt, tt);
  gives = (3, (refl, (tt, tt)));
  arities = assumption (refl, tt);
}

-- ---- what it spends

abbrev positions : PositionTable
positions = [] ∷ []

abbrev Owes : List ℕ → Counted → Type 0
Owes owned rest = Spends positions (function ∷ []) [] [] None owned rest

last_spends : Owes (8 ∷ []) (drop 8 (compute 9 Nothing [] (give 9)))
last_spends = ([], (λ w. refl, ([], (λ w. refl, (tt, (tt, (refl, (refl, λ w. refl))))))))

again_spends : Owes (6 ∷ []) again
again_spends = ([], (λ w. refl, ([], (λ w. refl, (tt, (tt, (refl, (refl, ([], (λ w. refl, (tt, (tt, (refl, (refl, last_spends))))))))))))))

opened_spends : Spends positions (function ∷ []) [] [] (Some []) (2 ∷ 2 ∷ []) (bare opened_twice)
opened_spends = (2 ∷ [], (λ w. refl, ((refl, tt), ((refl, tt), ((refl, tt), last_opened)))))
  where
    last_opened : Spends positions (function ∷ []) [] [] (Some []) (3 ∷ 2 ∷ []) (open_cell 2 3 (4 ∷ []) [] (give 3))
    last_opened = (3 ∷ [], (λ w. omega arith, ((refl, tt), ((refl, tt), ((refl, tt), λ w. refl)))))

inside_spends : Owes (2 ∷ 2 ∷ []) (inside 5 (bare opened_twice) (bare third_made))
inside_spends =
    (2 ∷ 2 ∷ [], ([], (λ w. refl, (refl, (refl, (opened_spends, ([], (λ w. refl, (tt, (tt, (refl, (refl, again_spends))))))))))))

newer_spends : Owes (1 ∷ []) (compute 2 (Construct 3) (1 ∷ []) (dup 2 (inside 5 (bare opened_twice) (bare third_made))))
newer_spends = ([], (λ w. refl, (tt, (tt, (refl, (refl, (2 ∷ [], (λ w. refl, (refl, inside_spends)))))))))

code_spends : Owes [] code
code_spends = ([], (λ w. refl, (tt, (tt, (refl, (refl, ([], (λ w. refl, (tt, (tt, (refl, (refl, newer_spends))))))))))))

spends : SpendsParameters positions (function ∷ []) 0 function
spends = ([], (λ i less. absurd (omega (arith, less)), code_spends))

spent : IsSpent positions program
spent = record { each = only (SpendsParameters positions (function ∷ [])) function spends; main = (function, (refl, refl)) }

again_at_most : SpendsAtMost again 4
again_at_most = (3, (lit≤ tt, (3, (lit≤ tt, (2, (lit≤ tt, (1, (lit≤ tt, (1, (lit≤ tt, lit≤ tt))))))))))

opened_at_most : SpendsAtMost (bare opened_twice) 3
opened_at_most = (2, (lit≤ tt, (1, (lit≤ tt, lit≤ tt))))

at_most : SpendsAtMost code 10
at_most = (10, (lit≤ tt, (9, (lit≤ tt, (8, (lit≤ tt, (3, (5, (lit≤ tt, (opened_at_most, (4, (lit≤ tt, again_at_most))))))))))))

numbers : HasInt32 code
numbers = assumption (tt)

-- ---- its tokens

again_tokens : SpendsTokens [] (1 ∷ []) [] filled_again
again_tokens = (refl, (refl, (refl, (tt, (λ y. refl, (refl, (refl, λ y. refl)))))))

opened_tokens : SpendsTokens (1 ∷ []) [] [] opened_twice
opened_tokens = (refl, (refl, (refl, (refl, (refl, (refl, (refl, λ y. refl)))))))

third_tokens : SpendsTokens [] (1 ∷ []) [] third_made
third_tokens = ((refl, ((refl, tt), λ y. refl)), (refl, (refl, (again_tokens, again_tokens))))

tokens : SpendsTokens [] [] [] hand_code
tokens = (refl, ((refl, (tt, λ y. refl)), ((refl, (tt, λ y. refl)), (refl, (1 ∷ [], (refl, (opened_tokens, third_tokens)))))))

token_lowerable : IsTokenLowerable hand_function
token_lowerable = record {
  slots = lit≤ tt;
  straight = assumption (refl, tt);
  leaves = assumption (refl, tt);
}

-- ---- its runs

abbrev Fits : CountedConfiguration → Type 0
Fits c = FitsAt c.control × (HasShape (function ∷ []) (forwards c.heap) c.control
    × HasKinds (AreTagged hand_layout) (count_of_fields hand_layout) c.heap c.control)

abbrev IsOver : CountedControl → Type 0
IsOver (stopped by) = Unit {0}
IsOver _ = ⊥

module _ (weight : CountedState → ℕ) (setting : CountedSetting) where
  -- each state fits, up to one that is over
  abbrev AllFit : ℕ → CountedState → Type 0
  AllFit zero s = IsOver s.machine.control
  AllFit (suc n) s = Fits s.machine × AllFit n ((counted_machine weight setting).step s).1

  over : (control : CountedControl) (frames : List CountedFrame) (heap : Heap) (input : List ℕ) → IsOver control → (m : ℕ)
      → Fits (state (counted_machine weight setting) m
      (record { machine = record { control = control; frames = frames; heap = heap }; input = input })).machine
  over (stopped by) frames heap input ended zero = (tt, (tt, tt))
  over (stopped by) frames heap input ended (suc m) = over (stopped by) frames heap input ended m
  over (running one environment joins) frames heap input never m = absurd never
  over stuck frames heap input never m = absurd never

  each_fits : (n : ℕ) (s : CountedState) → AllFit n s → (m : ℕ) → Fits (state (counted_machine weight setting) m s).machine
  each_fits zero s last m = over s.machine.control s.machine.frames s.machine.heap s.input last m
  each_fits (suc n) s fit zero = fit.0
  each_fits (suc n) s fit (suc m) = each_fits n ((counted_machine weight setting).step s).1 fit.1 m

abbrev setting : ℕ → CountedSetting
setting cells = counted_setting program cells 1

module _ (weight : CountedState → ℕ) (input : List ℕ) where
  abbrev AllOf : ℕ → Type 0
  AllOf cells = AllFit weight (setting cells) 15 (counted_first_state (setting cells) input)

  -- with fewer than two cells the heap is full before a cell is opened
  no_cell : AllOf 0
  no_cell = assumption (tt)

  one_cell : AllOf 1
  one_cell = assumption (tt)

  -- else the newer of two cells is opened twice
  newer : IsCell (record { made_by = 3; fields = constant 2 ∷ [] } ∷ record { made_by = 3; fields = place 0 ∷ [] } ∷ []) 3 1 (place 1)
  newer = (1, (record { made_by = 3; fields = place 0 ∷ [] }, (refl, (refl, (refl, refl)))))

  two_cells : AllOf 2
  two_cells = assumption (newer, tt)

  three_cells : AllOf 3
  three_cells = assumption (newer, tt)

  all_of : (cells : ℕ) → cells < 4 → AllOf cells
  all_of zero few = no_cell
  all_of (suc zero) few = one_cell
  all_of (suc (suc zero)) few = two_cells
  all_of (suc (suc (suc zero))) few = three_cells
  all_of (suc (suc (suc (suc cells)))) few = absurd (omega (arith, few))

-- ---- what an image asks for

tags_narrow : (c : ℕ) → hand_layout.tag c < 256
tags_narrow zero = lit< tt
tags_narrow (suc zero) = lit< tt
tags_narrow (suc (suc zero)) = lit< tt
tags_narrow (suc (suc (suc zero))) = lit< tt
tags_narrow (suc (suc (suc (suc c)))) = lit< tt

few_fields : (c : ℕ) → length (hand_layout.fields c) ≤ greatest_of Fields
few_fields zero = lit≤ tt
few_fields (suc zero) = lit≤ tt
few_fields (suc (suc zero)) = lit≤ tt
few_fields (suc (suc (suc zero))) = lit≤ tt
few_fields (suc (suc (suc (suc c)))) = lit≤ tt

-- ---- the image

hand_fit : AreFit → (cells : ℕ) → cells < 4 → (weight : CountedState → ℕ) (input : List ℕ) → All (λ byte. byte < 256) input
    → (n : ℕ) → IsFit hand_layout (counted_after weight (setting cells) input n)
hand_fit are_fit cells few weight input bytes n =
    are_fit positions hand_marks (λ f. holds) (setting cells) hand_layout weight input 10 spent (λ m. (fits m).0) (λ m. (fits m).1.0)
    record { each = only (λ f one. IsMarked hand_marks holds f one) function marked; main_there = (function, (refl, refl)) }
    (only (λ f (one : CountedFunction). SpendsAtMost one.body 10) function at_most) (lit≤ tt) few_fields (lit≤ tt) (lit≤ tt)
    (omega (arith, few)) (λ m. (fits m).1.1) (only (λ f (one : CountedFunction). HasInt32 one.body) function numbers) bytes n
  where
    fits : (m : ℕ) → Fits (counted_after weight (setting cells) input m)
    fits m = each_fits weight (setting cells) 15 (counted_first_state (setting cells) input) (all_of weight input cells few) m

pub layout_is : (shape : Shape) → map (λ (one : ConstructorShape). one.tag) shape.constructors.items ≡ hand_tags
    → map (λ (one : ConstructorShape). one.fields.items) shape.constructors.items ≡ hand_fields → layout_in shape ≡ hand_layout
layout_is shape tags fields =
    let by : List ℕ → List (List Bool) → Layout
    = λ ts fs. record { tag = λ c. slice_index_or ts c 0; fields = λ c. slice_index_or fs c [] } in
    ap (λ ts. by ts (map (λ (one : ConstructorShape). one.fields.items) shape.constructors.items)) tags
    ∙ ap (λ fs. by hand_tags fs) fields

pub runnable : AreFit → (shape : Shape) (of : TokenedProgram) (cells : ℕ) → cells < 4 → layout_in shape ≡ hand_layout
    → table_of shape ≡ hand_marks → of ≡ hand_program → IsRunnable shape of cells 1
runnable are_fit shape of cells few layout marks is =
    let made : IsRunnable shape hand_program cells 1 = record {
      lowerable = subst (λ (table : CellMarks). AreLowerable table (function ∷ [])) (sym marks)
          (only (λ f one. IsLowerable hand_marks f one) function lowerable);
      tokens = only (λ f (one : TokenedFunction). IsTokenLowerable one) hand_function token_lowerable;
      spends = only (λ f (one : TokenedFunction). SpendsTokens [] [] [] one.body) hand_function tokens;
      few = lit≤ tt;
      short = record { length = lit≤ tt; computes = lit≤ tt };
      narrow = subst IsNarrow (sym layout) record { tags = tags_narrow; few = few_fields };
      falsity = ap (λ (one : Layout). one.tag 0) layout;
      truth_is = ap (λ (one : Layout). one.tag 1) layout;
      main_first = refl;
      main = hand_function;
      main_is = refl;
      main_alone = refl;
      fit = λ weights input bytes n.
          subst (λ (one : Layout). IsFit one (counted_after weights (setting cells) input n)) (sym layout)
          (hand_fit are_fit cells few weights input bytes n);
    } in
    subst (λ (one : TokenedProgram). IsRunnable shape one cells 1) (sym is) made
