-- The functions of a program with tokens that can be lowered, and is so, are well formed: and the program is one that the
-- simulation takes.
use Rattle.std.proofs.Common.{◌≡◌, ℕ, suc, ◌+◌, ◌<◌, ◌≤◌, true, false, List, []}
use Rattle.std.proofs.Common.{◌∷◌, length, option_map, Some, All, refl, sym, ap, subst, ◌∙◌, arith}
use Rattle.std.proofs.Common.{append-nil}
use Rattle.std.specs.Prelude.{map, slice_get}
use Rattle.std.proofs.lemmas.Bool.{false≢true}
use Rattle.std.proofs.lemmas.Option.{slice_get-map}
use Rattle.kk_base.specs.Limits.{greatest_of}
use Rattle.kk_base.specs.declared.limit.LimitKind.TheVariants.{Parameters}
use Rattle.kk_syntax.specs.Shapes.{is_among as is_bound}
use Rattle.kk_counted.specs.BareForms.{bare, bare_function, bare_program}
use Rattle.kk_counted.specs.Lowerable.{IsLowerable, AreLowerable}
use Rattle.kk_counted.specs.Marks.{CellMarks, result_mark}
use Rattle.kk_counted.specs.Spending.{numbers_from}
use Rattle.kk_counted.specs.TokenLowerable.{IsTokenLowerable, AreTokensLowerable}
use Rattle.kk_counted.specs.TokenSpending.{SpendsTokens, AreTokensSpent}
use Rattle.kk_counted.specs.TokenedCodes.{TokenedFunction, TokenedProgram}
use Rattle.kk_counted.specs.declared.shape.Shape.{Shape}
use Rattle.rv_isa.specs.AsmCode.{Lines}
use Rattle.rv_isa.specs.Frames.{is_among}
use Rattle.rv_isa.specs.WellFormed.{most_values, AreDistinct, IsWellFormed, AreWellFormed}
use Rattle.rv_lower.specs.Lines.{Texts}
use Rattle.rv_lower.specs.Lowered.{returns, from_to}
use Rattle.rv_lower.proofs.WellFormedness.{Readable, Good, HasRoom, all_each, most_temporaries}
use Rattle.rv_lower.proofs.Codes.{Fits}
use Rattle.rv_lower.proofs.Functions.{among_from_to, from_to_distinct, from_to_length, from_to_each}
use Rattle.rv_lower.proofs.Operations.{only_bound}
use Rattle.rv_cells.specs.Layout.{Layout, IsNarrow}
use Rattle.rv_cells.specs.Tables.{table_of, layout_in}
use Rattle.rv_cells.specs.TokenedLines.{IsFunctionOf}
use Rattle.rv_cells.specs.TokenedLowered.{IsTokenedForm}
use Rattle.rv_cells.specs.TokenedMeaning.{IsTokenedLowered}
use Rattle.rv_cells.proofs.UnnamedVariables.{uses_marked}
use Rattle.rv_cells.proofs.CallLines.{among_numbers}
use Rattle.rv_cells.proofs.TokenFormedCodes.{code_fits}
use Rattle.rv_cells.proofs.TokenFormedHeld.{fits_held}
use Rattle.rv_cells.proofs.TokenFormedSlots.{read_below, read_within, room_read}

-- a function that can be lowered, and is so
module _ (layout : Layout) (texts : Texts) (table : CellMarks) (f : ℕ) (function : TokenedFunction) (lines : Lines)
    (may : IsLowerable table f (bare_function function)) (tokens : IsTokenLowerable function)
    (spends : SpendsTokens [] [] [] function.body) (is : IsFunctionOf layout texts table f function lines) where
  abbrev variables : ℕ
  variables = is.lowered.variables

  abbrev base : ℕ
  base = is.lowered.variables + is.lowered.slots

  abbrev parameters : List ℕ
  parameters = numbers_from 0 function.parameters

  -- no slot is unspent at the start
  abbrev reads : List ℕ
  reads = read_below is.lowered.variables is.lowered.slots [] parameters

  among_parameters : (v : ℕ) → is_bound parameters v ≡ true → v < function.parameters
  among_parameters v among = let at = among_numbers 0 function.parameters v among in omega (arith, at.1, at.2)

  room : base + most_temporaries ≤ most_values
  room = let low = is.low in omega (arith, low)

  has : HasRoom variables parameters
  has = record {
    room = let low = is.low in omega (arith, low);
    low = λ v among. let less = among_parameters v among in let few = is.few in omega (arith, less, few);
  }

  fits : Fits base reads reads returns 0 is.lowered.labels lines.code
  fits = fits_held base reads reads returns 0 is.lowered.labels lines.code
      (code_fits layout is.lowered.holds texts is.lowered.standing table (result_mark table f) variables is.lowered.slots room
      function.body parameters parameters [] [] [] (result_mark table f) returns 0 is.lowered.labels lines.code has (λ v there. there)
      (uses_marked table is.lowered.holds (result_mark table f) (bare function.body) parameters (result_mark table f)
      is.marked.body_marked) is.numbered may.arms may.some_arm may.arities is.has tokens.straight spends tt tt is.lowered.code)

  good : Good (Readable base base reads) lines.code
  good = subst (Good (Readable base base reads)) (append-nil lines.code)
      (fits.good [] (record { formed = record { lines = tt; tokens = refl }; fresh = λ l le less. tt; goal_ahead = tt }))

  small : All (λ v. v < most_values) (from_to 0 function.parameters)
  small = all_each (λ v. v < most_values) (λ v. v < most_values) (from_to 0 function.parameters) (λ v is. is)
      (from_to_each (λ v. v < most_values) 0 function.parameters (λ v less. let few = may.few_parameters in
      omega (arith, less, few)))

  starts : (v : ℕ) → Readable base base reads v → is_among v (from_to 0 function.parameters) ≡ true
  starts v readable =
      let there = only_bound base reads (room_read variables is.lowered.slots [] parameters room has.low) v readable in
      let less = among_parameters v (read_within variables is.lowered.slots [] parameters parameters (λ u among. among)
      (λ y below none. absurd (nothing none)) v there) in
      among_from_to 0 function.parameters v (omega arith) (omega (arith, less))
    where
      nothing : false ≡ true → ⊥
      nothing none = false≢true none

  pub function_formed : IsWellFormed lines
  function_formed = record {
    lines = good.formed.lines;
    tokens = good.formed.tokens;
    params = subst AreDistinct (sym is.lowered.params) (from_to_distinct 0 function.parameters);
    few_params = subst (λ (params : List ℕ). length params ≤ greatest_of Parameters) (sym is.lowered.params)
        (let size = from_to_length 0 function.parameters in let few = may.few_parameters in omega (arith, size, few));
    params_small = subst (All (λ v. v < most_values)) (sym is.lowered.params) small;
    start = λ v alive. subst (λ (params : List ℕ). is_among v params ≡ true) (sym is.lowered.params)
        (starts v (good.alive v alive));
  }

-- as many functions, of which each by its number is well formed
pub all_formed : {F : Type 0} → (functions : List F) (each : List Lines) → length each ≡ length functions
    → ((f : ℕ) (function : F) → slice_get functions f ≡ Some function
    → (lines : Lines) × ((slice_get each f ≡ Some lines) × IsWellFormed lines)) → AreWellFormed each
all_formed [] [] same are = tt
all_formed [] (lines ∷ each) same are = absurd (omega (arith, same))
all_formed (function ∷ functions) [] same are = absurd (omega (arith, same))
all_formed (function ∷ functions) (lines ∷ each) same are =
    let own = are 0 function refl in (
      subst IsWellFormed (found own.0 own.1.0) own.1.1,
      all_formed functions each (omega (arith, same)) (λ f other is. are (suc f) other is),
    )
  where
    found : (other : Lines) → Some lines ≡ Some other → other ≡ lines
    found other is = grind (arith, is)

-- the bare form of a function is that of its number
pub bare_at : (functions : List TokenedFunction) (f : ℕ) (function : TokenedFunction) → slice_get functions f ≡ Some function
    → slice_get (map bare_function functions) f ≡ Some (bare_function function)
bare_at functions f function is = slice_get-map bare_function functions f ∙ ap (option_map bare_function) is

pub tokened_program_formed : (shape : Shape) (code : TokenedProgram) (texts : List (List ℕ)) (each : List Lines)
    → AreLowerable (table_of shape) (bare_program code).functions → AreTokensLowerable code.functions → AreTokensSpent code
    → IsTokenedForm shape code.texts code.functions each texts → IsNarrow (layout_in shape) → (layout_in shape).tag 0 ≡ 0
    → (layout_in shape).tag 1 ≡ 1 → (main : TokenedFunction) → slice_get code.functions code.main ≡ Some main → main.parameters ≡ 0
    → IsTokenedLowered (layout_in shape) (table_of shape) code texts each
tokened_program_formed shape code texts each lowerable tokens spends form narrow falsity truth_is main main_is alone =
    let own = form.lowered code.main main main_is in
    record {
      narrow = narrow;
      fields_are = λ c. refl;
      falsity = falsity;
      truth_is = truth_is;
      each = form.lowered;
      spends = spends;
      leaves = λ f function is. (tokens f function is).leaves;
      formed = all_formed code.functions each form.as_many (λ f function is.
          let one = form.lowered f function is in (
            one.0,
            (
              one.1,
              function_formed (layout_in shape) (record { literals = code.texts; constants = texts }) (table_of shape) f function
                  one.0 (lowerable f (bare_function function) (bare_at code.functions f function is)) (tokens f function is)
                  (spends f function is) one.2,
            ),
          ));
      main = main;
      main_is = main_is;
      main_alone = alone;
      main_lines = own.0;
      lines_are = own.1;
    }
