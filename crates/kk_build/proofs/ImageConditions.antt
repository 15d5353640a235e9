-- The counted form of an accepted program with its tokens can be run by an image.
use Rattle.std.proofs.Common.{◌≡◌, ◌<◌, ◌≤◌, ℕ, zero, suc, Bool, List, [], ◌∷◌, All, Some, length, map, slice_get, refl, sym, ap, subst, ◌∙◌, arith}
use Rattle.std.proofs.lemmas.List.{length-map}
use Rattle.kk_base.specs.Sizes.{AreSizes, greatest_cells, greatest_depth}
use Rattle.kk_base.specs.Limits.{greatest_of}
use Rattle.kk_base.specs.declared.limit.LimitKind.TheVariants.{Fields}
use Rattle.kk_syntax.specs.declared.ground.Ground.{Ground}
use Rattle.kk_syntax.specs.PositionsOf.{PositionTable}
use Rattle.kk_counted.specs.BareForms.{bare_function}
use Rattle.kk_counted.specs.CountBounds.{AllSpendAtMost}
use Rattle.kk_counted.specs.CountedCodes.{CountedFunction, CountedProgram}
use Rattle.kk_counted.specs.CountedStates.{CountedSetting, CountedState}
use Rattle.kk_counted.specs.Int32.{AllHaveInt32}
use Rattle.kk_counted.specs.Keeping.{FitsAlways, HasShapeAlways, counted_after}
use Rattle.kk_counted.specs.Kinds.{HasKindsAlways}
use Rattle.kk_counted.specs.Lowerable.{AreLowerable}
use Rattle.kk_counted.specs.Marks.{CellMarks, field_marks, AreMarked}
use Rattle.kk_counted.specs.Programs.{function_of}
use Rattle.kk_counted.specs.Spending.{IsSpent}
use Rattle.kk_counted.specs.TokenedCodes.{TokenedFunction, TokenedProgram}
use Rattle.kk_counted.specs.declared.counted.Counted.{Counted}
use Rattle.kk_counted.specs.declared.shape.Shape.{Shape}
use Rattle.kk_counted.specs.declared.tokened.Tokened.{Tokened}
use Rattle.kk_counted.specs.CountLimits.{greatest_spent}
use Rattle.kk_insert.specs.Limits.{most_spent}
use Rattle.kk_middle.specs.Lowerings.{CanBeLowered}
use Rattle.kk_middle.specs.MarkedPrograms.{IsMarkedByShape}
use Rattle.kk_middle.specs.Meaning.{counted_setting, KeepsMeaning}
use Rattle.kk_middle.specs.ShapeKinds.{HasKindsByShape}
use Rattle.kk_middle.specs.TokenLowerings.{tokened_of, TokensCanBeLowered}
use Rattle.kk_source.specs.State.{Setting}
use Rattle.kk_back.specs.Images.{IsRunnable, counted_setting as setting_of_code}
use Rattle.rv_cells.specs.Fitting.{AreTagged, count_of_fields, IsFit}
use Rattle.rv_cells.specs.Layout.{Layout}
use Rattle.rv_cells.specs.Tables.{table_of, layout_in}

-- the law that such programs are fit
abbrev pub AreFit : Type 0
AreFit =
    (positions : PositionTable) (marks : CellMarks) (holds : ℕ → ℕ → Bool) (setting : CountedSetting) (layout : Layout)
    (weight : CountedState → ℕ) (input : List ℕ) (most : ℕ)
    → IsSpent positions setting.program → FitsAlways weight setting input → HasShapeAlways weight setting input
    → AreMarked marks holds setting.program → AllSpendAtMost setting.program most
    → most ≤ greatest_spent → ((c : ℕ) → length (field_marks marks c) ≤ greatest_of Fields) → 1 ≤ setting.depth
    → setting.depth ≤ greatest_depth → setting.cells ≤ greatest_cells
    → HasKindsAlways (AreTagged layout) (count_of_fields layout) weight setting input → AllHaveInt32 setting.program.functions
    → All (λ byte. byte < 256) input → (n : ℕ) → IsFit layout (counted_after weight setting input n)

-- a function of a bare form is that of one with tokens
of_bare : (functions : List TokenedFunction) (f : ℕ) (one : CountedFunction) → slice_get (map bare_function functions) f ≡ Some one
    → (function : TokenedFunction) × (slice_get functions f ≡ Some function) × (bare_function function ≡ one)
of_bare [] f one there = absurd (cc)
of_bare (first ∷ rest) zero one there = (first, refl, cc)
of_bare (first ∷ rest) (suc f) one there = of_bare rest f one there

pub runnable : AreFit → (counted : Counted) (made : Tokened) (given : Ground) (cells depth : ℕ) (setting : Setting)
    (positions : PositionTable) (greatest : ℕ) (up : ℕ → ℕ)
    → AreSizes cells depth → made.shape ≡ counted.shape → TokensCanBeLowered counted made given → CanBeLowered counted given
    → IsMarkedByShape counted given → AllHaveInt32 (map function_of counted.functions.items)
    → ((input : List ℕ) → KeepsMeaning setting positions (counted_setting counted given cells depth) greatest up input)
    → ((input : List ℕ) → HasKindsByShape counted.shape.constructors.items (counted_setting counted given cells depth) input)
    → IsRunnable made.shape (tokened_of made given) cells depth
runnable are_fit counted made given cells depth setting positions greatest up sizes shape tokens can marked numbers keeps kinds =
    let code : TokenedProgram = tokened_of made given in
    let spent = (keeps []).spent in
    let some = sizes.some_depth in
    let functions : map bare_function code.functions ≡ map function_of counted.functions.items
    = ap (λ (program : CountedProgram). program.functions) tokens.form in
    let as_many = length-map code.functions bare_function in
    let same = ap length functions in
    let few = can.few in
    let main = of_bare code.functions 0 spent.main.0
    (subst (λ (each : List CountedFunction). slice_get each 0 ≡ Some spent.main.0) (sym functions) spent.main.1.0) in
    let is : IsRunnable counted.shape code cells depth = record {
      lowerable = subst (AreLowerable (table_of counted.shape)) (sym functions) can.lowerable;
      tokens = tokens.lowerable;
      spends = tokens.spends;
      few = omega (arith, as_many, same, few);
      short = tokens.short;
      narrow = record { tags = can.tags; few = can.few_fields };
      falsity = can.falsity;
      truth_is = can.truth_is;
      main_first = refl;
      main = main.0;
      main_is = main.1;
      main_alone = ap (λ (function : CountedFunction). function.parameters) main.2 ∙ spent.main.1.1;
      fit = λ weights input bytes n.
          subst (λ (program : CountedProgram). IsFit (layout_in counted.shape)
          (counted_after weights (setting_of_code program cells depth) input n)) (sym tokens.form)
          (are_fit positions (table_of counted.shape) marked.0 (counted_setting counted given cells depth) (layout_in counted.shape)
          weights input most_spent (keeps input).spent ((keeps input).fits weights) ((kinds input).shape weights) marked.1 can.little
          (omega arith) can.few_fields (omega (arith, some)) sizes.small_depth sizes.few_cells ((kinds input).kinds weights) numbers
          bytes n);
    } in
    subst (λ (of : Shape). IsRunnable of code cells depth) (sym shape) is
