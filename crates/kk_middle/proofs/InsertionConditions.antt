-- What the insertion asks of a core form: its cases have an arm for each row, and its functions have as many parameters as the
-- table of positions tells of each.
use Rattle.std.proofs.Common.{◌≡◌, ℕ, suc, List, [], ◌∷◌, length, map, refl, sym, ap, ◌∙◌}
use Rattle.kk_syntax.specs.OwnedPositions.{Told}
use Rattle.kk_syntax.specs.PositionsOf.{PositionTable}
use Rattle.kk_syntax.specs.Programs.{ConstructorTree, FunctionTree, ProgramTree}
use Rattle.kk_core.specs.Cases.{EachCase, EachCaseOfArms, IsWhole, CasesAreWhole}
use Rattle.kk_core.specs.CellTypes.{has_cells, TellsCells}
use Rattle.kk_core.specs.Codes.{Code, give, tail_call, case, compute, use_of, unpack, inside, Arms, no_arm, arm, FunctionCode, ProgramCode}
use Rattle.kk_core.specs.declared.form.Core.{Core}
use Rattle.kk_core.specs.declared.form.CoreFunction.{CoreFunction}
use Rattle.kk_norm.specs.Normalized.{AreCoresOf, IsCoreForm}
use Rattle.kk_insert.specs.Promise.{HasRows, HaveRows, AllHaveRows, TellsParameters}
use Rattle.kk_insert.specs.Shapes.{TellsAsMany}

-- a core form has the parameters of its program
cores_parameters : (constructors : List ConstructorTree) (functions : List FunctionTree) (cores : List FunctionCode)
    → AreCoresOf constructors functions cores
    → map (λ (f : FunctionTree). length f.parameters) functions ≡ map (λ (f : FunctionCode). f.parameters) cores
cores_parameters constructors [] cores are = ap (map (λ (f : FunctionCode). f.parameters)) (sym are)
cores_parameters constructors (function ∷ functions) [] are = absurd are
cores_parameters constructors (function ∷ functions) (core ∷ cores) are =
    ap (λ (n : ℕ). n ∷ map (λ (f : FunctionTree). length f.parameters) functions) (sym are.0.parameters)
    ∙ ap (λ (ns : List ℕ). core.parameters ∷ ns) (cores_parameters constructors functions cores are.1)

pub tells_parameters : (program : ProgramTree) (code : ProgramCode) (table : PositionTable) → IsCoreForm program code
    → Told program table → TellsParameters table code
tells_parameters program code table form told =
    told ∙ cores_parameters program.constructors program.functions code.functions form.functions

lengths : {X Y : Type 0} (f : X → List Y) (xs : List X) → map length (map f xs) ≡ map (λ x. length (f x)) xs
lengths f [] = refl
lengths f (x ∷ xs) = ap (λ (ns : List ℕ). length (f x) ∷ ns) (lengths f xs)

map_length : {X Y : Type 0} (f : X → Y) (xs : List X) → length (map f xs) ≡ length xs
map_length f [] = refl
map_length f (x ∷ xs) = ap suc (map_length f xs)

cells_counted : (constructors : List ConstructorTree) (functions : List FunctionTree)
    → map (λ (f : FunctionTree). length (map (has_cells constructors) f.parameters)) functions
    ≡ map (λ (f : FunctionTree). length f.parameters) functions
cells_counted constructors [] = refl
cells_counted constructors (function ∷ functions) =
    ap (λ (n : ℕ). n ∷ map (λ (f : FunctionTree). length (map (has_cells constructors) f.parameters)) functions)
    (map_length (has_cells constructors) function.parameters)
    ∙ ap (λ (ns : List ℕ). length function.parameters ∷ ns) (cells_counted constructors functions)

pub tells_as_many : (program : ProgramTree) (core : Core) (table : PositionTable) → TellsCells program core → Told program table
    → TellsAsMany table core.functions.items
tells_as_many program core table tells told =
    told ∙ sym (cells_counted program.constructors program.functions)
    ∙ sym (lengths (λ (f : FunctionTree). map (has_cells program.constructors) f.parameters) program.functions)
    ∙ ap (map length) (sym tells.parameters)
    ∙ lengths (λ (f : CoreFunction). f.parameters_have_cells.items) core.functions.items

-- each case of a core form has an arm for each row
mutual
  code_has : (code : Code) → EachCase IsWhole code → HasRows code
  code_has (give x) each = tt
  code_has (tail_call f arguments) each = tt
  code_has (case x decisions arms) each = (each.0, arms_have arms each.1)
  code_has (compute x form arguments rest) each = code_has rest each
  code_has (use_of x rest) each = code_has rest each
  code_has (unpack x c fields rest) each = code_has rest each
  code_has (inside x block rest) each = (code_has block each.0, code_has rest each.1)

  arms_have : (arms : Arms) → EachCaseOfArms IsWhole arms → HaveRows arms
  arms_have no_arm each = tt
  arms_have (arm pattern body rest) each = (code_has body each.0, arms_have rest each.1)

pub all_have_rows : (code : ProgramCode) → CasesAreWhole code → AllHaveRows code
all_have_rows code whole = λ f function there. code_has function.body (whole f function there)
