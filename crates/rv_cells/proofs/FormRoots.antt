-- The lines of each function of a program, by their parts: those that its number alone tells.
use Rattle.std.proofs.Common.{◌≡◌, ℕ, ◌+◌, true, List, [], Option, Some, None, refl, sym, ◌∙◌, ap, subst, arith}
use Rattle.std.specs.Prelude.{option_map, slice_get}
use Rattle.std.proofs.lemmas.Option.{slice_get-map}
use Rattle.std.proofs.Math.Path.{path_j, subst_refl}
use Rattle.kk_counted.specs.BareForms.{bare_function, bare_program}
use Rattle.kk_counted.specs.CodePlaces.{code_at, IsActAt}
use Rattle.kk_counted.specs.CountedCodes.{Counted, CountedFunction}
use Rattle.kk_counted.specs.Lowerable.{AreLowerable}
use Rattle.kk_counted.specs.Marks.{CellMarks}
use Rattle.kk_counted.specs.TokenedCodes.{Tokened, TokenedFunction, TokenedProgram}
use Rattle.kk_syntax.specs.Shapes.{is_among}
use Rattle.rv_isa.specs.AsmCode.{Lines}
use Rattle.rv_isa.specs.LinePlaces.{AsmHasOwnLine}
use Rattle.rv_lower.specs.Lines.{Texts}
use Rattle.rv_lower.specs.Lowered.{returns}
use Rattle.rv_cells.specs.FormLines.{HaveOwnLines}
use Rattle.rv_cells.specs.Layout.{Layout}
use Rattle.rv_cells.specs.TokenedLines.{IsFunctionOf, AreFunctionsOf}
use Rattle.rv_cells.specs.TokenedMeaning.{IsTokenedLowered}
use Rattle.rv_cells.proofs.FormArities.{lead, fit_arities}
use Rattle.rv_cells.proofs.FormPlaces.{Tree, tree, no_part, own_of, lines_before, tree_in}
use Rattle.rv_cells.proofs.FormsApart.{IsOrderly, tree_orderly, own_line, leads_within, line_there, one_way}
use Rattle.rv_cells.proofs.NameContents.{some-is}
use Rattle.rv_cells.proofs.OwnLines.{lines_at, found_from, among_found, way_there}
use Rattle.rv_cells.proofs.TokenFormedFunctions.{bare_at}

-- what is not found is nothing
pub none_some : {A : Type 0} {a : A} → None ≡ Some a → ⊥
none_some is = cc is

module _ (layout : Layout) (marks : CellMarks) (texts : Texts) (functions : List TokenedFunction) (each : List Lines)
    (are : AreFunctionsOf layout texts marks functions each) where
  -- a function is lowered
  abbrev Lowered : ℕ → TokenedFunction → Type 0
  Lowered f function = (lines : Lines) × (slice_get each f ≡ Some lines) × IsFunctionOf layout texts marks f function lines

  abbrev root_by : (f : ℕ) (function : TokenedFunction) (lines : Lines) → IsFunctionOf layout texts marks f function lines → Tree
  root_by f function lines of =
      tree_in (record {
        layout = layout;
        holds = of.lowered.holds;
        base = of.lowered.variables + of.lowered.slots;
        texts = texts;
        standing = of.lowered.standing;
      }) of.lowered.variables returns 0 function.body lines.code of.lowered.labels of.lowered.code

  -- Of the function of a number, which is found, whatever proof tells that it is there.
  abbrev lowered_by : (f : ℕ) (found : Option TokenedFunction) → slice_get functions f ≡ found → (function : TokenedFunction)
      → found ≡ Some function → Lowered f function
  lowered_by f None is function same = absurd (none_some same)
  lowered_by f (Some one) is function same = subst (Lowered f) (some-is same) (are f one is)

  abbrev pub lowered_once : AreFunctionsOf layout texts marks functions each
  lowered_once f function is = lowered_by f (slice_get functions f) refl function is

  -- the parts of the function of a number; of none where there is no such function
  abbrev root_of : (f : ℕ) (found : Option TokenedFunction) → slice_get functions f ≡ found → Tree
  root_of f None is = tree (Tokened.give 0) [] no_part
  root_of f (Some one) is = root_by f one (are f one is).0 (are f one is).2

  abbrev pub root_at : ℕ → Tree
  root_at f = root_of f (slice_get functions f) refl

  root_moved : (f : ℕ) (one other : TokenedFunction) (same : one ≡ other) (low : Lowered f one)
      → root_by f other (subst (Lowered f) same low).0 (subst (Lowered f) same low).2 ≡ root_by f one low.0 low.2
  root_moved f one other same low =
      path_j (λ function is. root_by f function (subst (Lowered f) is low).0 (subst (Lowered f) is low).2
      ≡ root_by f one low.0 low.2)
      (ap (λ (made : Lowered f one). root_by f one made.0 made.2) (subst_refl (Lowered f) low)) same

  -- so they are the same
  root_found : (f : ℕ) (found : Option TokenedFunction) (is : slice_get functions f ≡ found) (function : TokenedFunction)
      (same : found ≡ Some function)
      → root_by f function (lowered_by f found is function same).0 (lowered_by f found is function same).2 ≡ root_of f found is
  root_found f None is function same = cc same
  root_found f (Some one) is function same = root_moved f one function (some-is same) (are f one is)

  pub root_same : (f : ℕ) (function : TokenedFunction) (is : slice_get functions f ≡ Some function)
      → root_by f function (lowered_once f function is).0 (lowered_once f function is).2 ≡ root_at f
  root_same f function is = root_found f (slice_get functions f) refl function is

-- ---- own lines

module _ (layout : Layout) (marks : CellMarks) (code : TokenedProgram) (constants : List (List ℕ)) (functions : List Lines)
    (lowered : IsTokenedLowered layout marks code constants functions)
    (lowerable : AreLowerable marks (bare_program code).functions) where
  abbrev program_texts : Texts
  program_texts = record { literals = code.texts; constants = constants }

  abbrev pub program_root : ℕ → Tree
  program_root f = root_at layout marks program_texts code.functions functions lowered.each f

  abbrev found_root : (f : ℕ) (found : Option TokenedFunction) → slice_get code.functions f ≡ found → Tree
  found_root f found is = root_of layout marks program_texts code.functions functions lowered.each f found is

  -- the parts of each function are in order
  root_orderly : (f : ℕ) (found : Option TokenedFunction) (is : slice_get code.functions f ≡ found)
      → IsOrderly (found_root f found is)
  root_orderly f None is = (λ act. absurd (cc act), tt)
  root_orderly f (Some function) is =
      let of = (lowered.each f function is).2 in
      tree_orderly (record {
        layout = layout;
        holds = of.lowered.holds;
        base = of.lowered.variables + of.lowered.slots;
        texts = program_texts;
        standing = of.lowered.standing;
      }) of.lowered.variables returns 0 function.body (lowered.each f function is).0.code of.lowered.labels of.lowered.code
      (fit_arities function.body [] [] [] (lowered.spends f function is)
      (lowerable f (bare_function function) (bare_at code.functions f function is)).arities)

  -- a line that is found is there
  line_is_there : (f : ℕ) (found : Option TokenedFunction) (is : slice_get code.functions f ≡ found) (way : List ℕ) (k : ℕ)
      → is_among (lines_at (found_root f found is) way) k ≡ true → AsmHasOwnLine functions f k
  line_is_there f None is way k among = absurd (cc among)
  line_is_there f (Some function) is way k among =
      let root = found_root f (Some function) is in
      let orderly = root_orderly f (Some function) is in
      let it = found_from way [] 0 k root among in
      let begins = (own_line it.inner (leads_within root it.steps it.inner orderly it.leads).1 it.acts).begins in
      let far = it.line_is in
      let number : k ≡ lines_before it.steps + lead (own_of it.inner) = omega (arith, far) in (
        (lowered.each f function is).0,
        (
          (lowered.each f function is).1,
          (
            begins.line,
            (
              ap (slice_get (own_of root)) number
                  ∙ line_there root it.steps it.inner (lead (own_of it.inner)) begins.line orderly it.leads begins.is,
              begins.some,
            ),
          ),
        ),
      )

  -- each form has a line
  act_has_line : (f : ℕ) (found : Option TokenedFunction) (is : slice_get code.functions f ≡ found) (way : List ℕ) (act : Counted)
      → (at : IsActAt (bare_program code) f way act) → option_map bare_function found ≡ Some at.function
      → (k : ℕ) × (is_among (lines_at (found_root f found is) way) k ≡ true)
  act_has_line f None is way act at same = absurd (none_some same)
  act_has_line f (Some function) is way act at same =
      let of = (lowered.each f function is).2 in
      let bare_is : bare_function function ≡ at.function = some-is same in
      let root = found_root f (Some function) is in
      let reaches = way_there (record {
        layout = layout;
        holds = of.lowered.holds;
        base = of.lowered.variables + of.lowered.slots;
        texts = program_texts;
        standing = of.lowered.standing;
      }) of.lowered.variables None returns 0 function.body (lowered.each f function is).0.code of.lowered.labels of.lowered.code way
      act
      (ap (λ (g : CountedFunction). code_at g.body way) bare_is ∙ at.code_is) at.acts in
      let line : ℕ = lines_before reaches.steps + lead (own_of reaches.inner) in
      let number : 0 + lines_before reaches.steps + lead (own_of reaches.inner) ≡ line = omega arith in (
        line,
        among_found way [] 0 line root reaches.steps reaches.inner reaches.leads reaches.acts
            reaches.way_is number,
      )

  -- forms of one line are reached by one way
  lines_apart : (f : ℕ) (way other : List ℕ) (k : ℕ) → is_among (lines_at (program_root f) way) k ≡ true
      → is_among (lines_at (program_root f) other) k ≡ true → way ≡ other
  lines_apart f way other k one two =
      let first = found_from way [] 0 k (program_root f) one in
      let second = found_from other [] 0 k (program_root f) two in
      let here = first.line_is in
      let there = second.line_is in
      sym first.way_is
      ∙ one_way (program_root f) first.steps second.steps first.inner second.inner
      (root_orderly f (slice_get code.functions f) refl) first.leads second.leads first.acts second.acts
      (omega (arith, here, there))
      ∙ second.way_is

  pub own_lines : HaveOwnLines (bare_program code) functions
  own_lines = record {
    lines = λ f. lines_at (program_root f);
    some = λ f way act at.
        act_has_line f (slice_get code.functions f) refl way act at
        (sym (slice_get-map bare_function code.functions f) ∙ at.function_is);
    there = λ f. line_is_there f (slice_get code.functions f) refl;
    apart = lines_apart;
  }

  -- a line of the function's parts is one of these
  pub among_own : (f : ℕ) (way : List ℕ) (k : ℕ) → is_among (lines_at (program_root f) way) k ≡ true
      → is_among (own_lines.lines f way) k ≡ true
  unfolding own_lines
  among_own f way k among = among
