-- Where the lines of the parts of a code stand among its own lines: each code has a tree of its parts.
use Rattle.std.proofs.Common.{◌≡◌, ℕ, suc, ◌+◌, ◌⊎◌, inl, inr, Bool, List, [], ◌∷◌, ◌++◌, length, Option, Some, None, refl, sym, ◌∙◌, ap, subst, arith, append_assoc}
use Rattle.std.proofs.lemmas.List.{append-nil, length-append}
use Rattle.kk_source.specs.Matching.{and_then}
use Rattle.kk_counted.specs.BareForms.{bare}
use Rattle.kk_counted.specs.CodePlaces.{part_of, code_at}
use Rattle.kk_counted.specs.CountedCodes.{Counted}
use Rattle.kk_counted.specs.TokenedCodes.{Tokened, TokenedArms}
use Rattle.rv_isa.specs.declared.asm.Action.TheVariants.{Compute, Label, Jump, Branch}
use Rattle.rv_isa.specs.declared.asm.Condition.TheVariants.{Equal, NotEqual}
use Rattle.rv_isa.specs.declared.asm.Operation.TheVariants as Op
use Rattle.rv_isa.specs.AsmCode.{Line}
use Rattle.rv_lower.specs.Lines.{sets, copies_to, acts}
use Rattle.rv_lower.specs.Lowered.{Goal, joins}
use Rattle.rv_cells.specs.CellLines.{dup_lines, drop_lines, alone_lines, hold_line, back_line, TokenUniqueLines}
use Rattle.rv_cells.specs.declared.compare.Branching.{Branching}
use Rattle.rv_cells.specs.ComparisonBranch.{branch_of}
use Rattle.rv_cells.specs.CountedLines.{Setting}
use Rattle.rv_cells.specs.TokenedLines.{IsFillOf, LinesBehind, CodeLines, ArmsLines}

-- ---- trees

-- A code with its own lines, and its parts: by which way of its bare form each is reached, and behind which of the lines it stands.
mutual
  pub data Tree : Type 0 where
    tree : (code : Tokened) → (own : List Line) → (parts : Parts) → Tree

  pub data Parts : Type 0 where
    no_part : Parts
    part : (way : List ℕ) → (before : List Line) → (inner : Tree) → (more : Parts) → Parts

abbrev pub code_of : Tree → Tokened
code_of (tree code own parts) = code

abbrev pub own_of : Tree → List Line
own_of (tree code own parts) = own

abbrev pub parts_of : Tree → Parts
parts_of (tree code own parts) = parts

-- from a code to one of its parts
pub record Step : Type 0 where
  pub way : List ℕ
  pub before : List Line
  pub inner : Tree

abbrev pub IsPart : Step → Parts → Type 0
IsPart step no_part = ⊥
IsPart step (part way before inner more) = (step ≡ record { way = way; before = before; inner = inner }) ⊎ IsPart step more

-- steps lead from a code to one inside of it
abbrev pub Leads : Tree → List Step → Tree → Type 0
Leads outer [] inner = outer ≡ inner
Leads outer (step ∷ steps) inner = IsPart step (parts_of outer) × Leads step.inner steps inner

-- the way of steps through the bare form, and the lines that they leave behind
abbrev pub way_of : List Step → List ℕ
way_of [] = []
way_of (step ∷ steps) = step.way ++ way_of steps

abbrev pub lines_before : List Step → ℕ
lines_before [] = 0
lines_before (step ∷ steps) = length step.before + lines_before steps

-- ---- the parts of a code by its lines

-- The lines by which an opening goes on behind the test of the construction that fills its token's cell, as the own lines of that
-- code.
abbrev pub entry_lines : ℕ → ℕ → ℕ → List Line
entry_lines token into filled = copies_to token into ∷ acts (Jump filled) [] ∷ []

-- The code behind an opening is there too, where the opening has such lines; they are behind these of its lines.
abbrev pub entry_part : Option ℕ → ℕ → ℕ → List Line → Tokened → Parts → Parts
entry_part None token filled before rest more = more
entry_part (Some into) token filled before rest more =
    part (0 ∷ []) before (tree rest (entry_lines token into filled) no_part) more

-- the lines of an opening in front of them
abbrev pub lines_before_entry : (base : ℕ) (holds : ℕ → Bool) (second behind filled x : ℕ) (fields used : List ℕ) (token : ℕ)
    (into : Option ℕ) (lines : List Line) → TokenUniqueLines base holds second behind filled x fields used token into lines → List
    Line
lines_before_entry base holds second behind filled x fields used token into lines is =
    is.0 ∷ sets 1 (base + 1) ∷ acts (Branch NotEqual second) (base ∷ (base + 1) ∷ []) ∷ alone_lines holds x fields used token is.1

module _ (setting : Setting) (variables : ℕ) where
  abbrev mutual
    pub parts_behind : (left : Option Branching) (goal : Goal) (low : ℕ) (code : Tokened) (own : List Line) (high : ℕ)
        → LinesBehind left setting variables goal low code own high → Parts
    parts_behind left goal low (Tokened.give x) own high lines = no_part
    parts_behind left goal low (Tokened.tail_call f arguments) own high lines = no_part
    parts_behind left goal low (Tokened.case x decisions arms) own high lines =
        arms_in goal low (lines.2 + length decisions) arms lines.1 high 0 lines.0 lines.5
    parts_behind left goal low (Tokened.compute x form arguments others rest) own high lines =
        part (0 ∷ []) lines.0
        (tree rest lines.1 (parts_behind (branch_of form arguments lines.3) goal lines.2 rest lines.1 high lines.5)) no_part
    parts_behind left goal low (Tokened.inside x block rest) own high lines =
        part (0 ∷ []) [] (tree block lines.0 (parts_behind None (joins x low) (low + 1) block lines.0 lines.2 lines.3))
        (part (1 ∷ []) (lines.0 ++ (acts (Label low) [] ∷ []))
        (tree rest lines.1 (parts_behind None goal lines.2 rest lines.1 high lines.4)) no_part)
    parts_behind left goal low (Tokened.read x c fields rest) own high lines =
        part (0 ∷ []) lines.0 (tree rest lines.1 (parts_behind None goal low rest lines.1 high lines.3)) no_part
    parts_behind left goal low (Tokened.open_cell x c fields used y rest) own high lines =
        entry_part lines.2.0 (variables + y) (low + 2)
        (lines_before_entry setting.base setting.holds low (low + 1) (low + 2) x fields used (variables + y) lines.2.0 lines.0
        lines.2.2) rest
        (part (0 ∷ []) lines.0 (tree rest lines.1 (parts_behind None goal (low + 2) rest lines.1 high lines.3)) no_part)
    parts_behind left goal low (Tokened.if_unique x c fields used y rest) own high lines =
        entry_part lines.2.0 (variables + y) (low + 2)
        (lines_before_entry setting.base setting.holds low (low + 1) (low + 2) x fields used (variables + y) lines.2.0 lines.0
        lines.2.2) rest
        (part (0 ∷ []) lines.0 (tree rest lines.1 (parts_behind None goal (low + 2) rest lines.1 high lines.3)) no_part)
    parts_behind left goal low (Tokened.dup x rest) own high lines =
        part (0 ∷ []) (dup_lines setting.holds x) (tree rest lines.0 (parts_behind None goal low rest lines.0 high lines.1)) no_part
    parts_behind left goal low (Tokened.drop x rest) own high lines =
        part (0 ∷ []) (drop_lines setting.holds x)
        (tree rest lines.0 (parts_behind left goal low rest lines.0 high lines.1)) no_part
    parts_behind left goal low (Tokened.fill x y c first arguments kept others rest) own high lines =
        part (0 ∷ []) lines.0 (tree rest lines.1 (parts_behind None goal (low + 1) rest lines.1 high lines.3)) no_part
    parts_behind left goal low (Tokened.free y rest) own high lines =
        part [] (acts (Compute Op.Free) ((variables + y) ∷ []) ∷ [])
        (tree rest lines.0 (parts_behind None goal low rest lines.0 high lines.1)) no_part
    parts_behind left goal low (Tokened.null y rest) own high lines =
        part [] (sets 0 (variables + y) ∷ []) (tree rest lines.0 (parts_behind None goal low rest lines.0 high lines.1)) no_part
    parts_behind left goal low (Tokened.move to of rest) own high lines =
        part [] (copies_to (variables + of) (variables + to) ∷ [])
        (tree rest lines.0 (parts_behind None goal low rest lines.0 high lines.1)) no_part
    parts_behind left goal low (Tokened.hold y rest) own high lines =
        part [] (hold_line (variables + y) ∷ []) (tree rest lines.0 (parts_behind None goal low rest lines.0 high lines.1)) no_part
    parts_behind left goal low (Tokened.unhold y rest) own high lines =
        part [] (back_line (variables + y) ∷ []) (tree rest lines.0 (parts_behind None goal low rest lines.0 high lines.1)) no_part
    parts_behind left goal low (Tokened.if_token y there absent) own high lines =
        part [] (acts (Branch Equal low) ((variables + y) ∷ []) ∷ [])
        (tree there lines.0 (parts_behind None goal (low + 1) there lines.0 lines.2 lines.3))
        (part [] (((acts (Branch Equal low) ((variables + y) ∷ []) ∷ []) ++ lines.0)
        ++ (acts (Label low) [] ∷ []))
        (tree absent lines.1 (parts_behind None goal lines.2 absent lines.1 high lines.4)) no_part)

    -- the arms, from a row on, which stand behind some lines
    pub arms_in : (goal : Goal) (label low : ℕ) (arms : TokenedArms) (own : List Line) (high row : ℕ) (before : List Line)
        → ArmsLines setting variables goal label low arms own high → Parts
    arms_in goal label low TokenedArms.no_arm own high row before lines = no_part
    arms_in goal label low (TokenedArms.arm body rest) own high row before lines =
        part (row ∷ []) (before ++ (acts (Label label) [] ∷ []))
        (tree body lines.0 (parts_behind None goal low body lines.0 lines.2 lines.3))
        (arms_in goal (label + 1) lines.2 rest lines.1 high (suc row) (before ++ (acts (Label label) [] ∷ lines.0)) lines.4)

  -- the tree of a code, where a comparison may be left to it
  abbrev pub tree_behind : (left : Option Branching) (goal : Goal) (low : ℕ) (code : Tokened) (own : List Line) (high : ℕ)
      → LinesBehind left setting variables goal low code own high → Tree
  tree_behind left goal low code own high lines = tree code own (parts_behind left goal low code own high lines)

  abbrev pub tree_in : (goal : Goal) (low : ℕ) (code : Tokened) (own : List Line) (high : ℕ)
      → CodeLines setting variables goal low code own high → Tree
  tree_in goal low code own high lines = tree_behind None goal low code own high lines

-- such lines are there
pub entry_there : (base : ℕ) (holds : ℕ → Bool) (second behind filled x : ℕ) (fields used : List ℕ) (token into : ℕ)
    (lines : List Line) (is : TokenUniqueLines base holds second behind filled x fields used token (Some into) lines)
    → (after : List Line) × (lines ≡ lines_before_entry base holds second behind filled x fields used token (Some into) lines is
    ++ (entry_lines token into filled ++ after))
entry_there base holds second behind filled x fields used token into lines is = (
  _,
  is.10 ∙ ap (λ ls. is.0 ∷ sets 1 (base + 1) ∷ acts (Branch NotEqual second) (base ∷ (base + 1) ∷ []) ∷ ls)
      (append_assoc (alone_lines holds x fields used token is.1) (entry_lines token into filled) _),
)

-- what is a part behind such lines is one with them
pub behind_entry : (into : Option ℕ) (token filled : ℕ) (before : List Line) (rest : Tokened) (more : Parts) (step : Step)
    → IsPart step more → IsPart step (entry_part into token filled before rest more)
behind_entry None token filled before rest more step is = is
behind_entry (Some one) token filled before rest more step is = inr is

-- and so are they
pub entry_is_part : (into : Option ℕ) (token filled : ℕ) (before : List Line) (rest : Tokened) (more : Parts) (one : ℕ)
    → into ≡ Some one
    → IsPart (record { way = 0 ∷ []; before = before; inner = tree rest (entry_lines token one filled) no_part })
    (entry_part into token filled before rest more)
entry_is_part None token filled before rest more one is = cc is
entry_is_part (Some other) token filled before rest more one is =
    let same : one ≡ other = cc is in
    inl (ap (λ (n : ℕ). record { way = 0 ∷ []; before = before; inner = tree rest (entry_lines token n filled) no_part }) same)

-- ---- a construction in the cell of a slot

-- the construction that a code begins with, where it fills a slot
pub record FillThere (x y : ℕ) (code : Tokened) : Type 0 where
  pub c : ℕ
  pub first : ℕ
  pub arguments : List ℕ
  pub kept : List ℕ
  pub others : List ℕ
  pub rest : Tokened
  pub is : Tokened.fill x y c first arguments kept others rest ≡ code

pub fill_there : (x y : ℕ) (code : Tokened) → IsFillOf x y code → FillThere x y code
fill_there x y (Tokened.fill z w c first arguments kept others rest) is = record {
  c = c;
  first = first;
  arguments = arguments;
  kept = kept;
  others = others;
  rest = rest;
  is = λ i. Tokened.fill (sym is.0 i) (sym is.1 i) c first arguments kept others rest;
}
fill_there x y (Tokened.give z) is = absurd is
fill_there x y (Tokened.tail_call f arguments) is = absurd is
fill_there x y (Tokened.case z decisions arms) is = absurd is
fill_there x y (Tokened.compute z form arguments others rest) is = absurd is
fill_there x y (Tokened.inside z block rest) is = absurd is
fill_there x y (Tokened.read z c fields rest) is = absurd is
fill_there x y (Tokened.open_cell z c fields used w rest) is = absurd is
fill_there x y (Tokened.if_unique z c fields used w rest) is = absurd is
fill_there x y (Tokened.dup z rest) is = absurd is
fill_there x y (Tokened.drop z rest) is = absurd is
fill_there x y (Tokened.free w rest) is = absurd is
fill_there x y (Tokened.null w rest) is = absurd is
fill_there x y (Tokened.move to of rest) is = absurd is
fill_there x y (Tokened.hold w rest) is = absurd is
fill_there x y (Tokened.unhold w rest) is = absurd is
fill_there x y (Tokened.if_token w there absent) is = absurd is

-- ---- where a code stands

-- a part of a code stands behind these of its lines
pub record Next (outer : Tree) (own : List Line) (inner : Tree) : Type 0 where
  pub way : List ℕ
  pub is_part : IsPart (record { way = way; before = own; inner = inner }) (parts_of outer)
  pub code_is : code_at (bare (code_of outer)) way ≡ Some (bare (code_of inner))

-- a code stands in another, behind so many lines of it as these are
pub record StandsAt (root : Tree) (before : List Line) (inner : Tree) : Type 0 where
  pub steps : List Step
  pub leads : Leads root steps inner
  pub behind : length before ≡ lines_before steps
  pub code_is : code_at (bare (code_of root)) (way_of steps) ≡ Some (bare (code_of inner))

pub stands_itself : (root : Tree) → StandsAt root [] root
stands_itself root = record { steps = []; leads = refl; behind = refl; code_is = refl }

leads_more : (outer middle : Tree) (steps : List Step) (step : Step) → Leads outer steps middle → IsPart step (parts_of middle)
    → Leads outer (steps ++ (step ∷ [])) step.inner
leads_more outer middle [] step leads is = (subst (λ t. IsPart step (parts_of t)) (sym leads) is, refl)
leads_more outer middle (first ∷ steps) step leads is = (leads.0, leads_more first.inner middle steps step leads.1 is)

lines_more : (steps : List Step) (step : Step) → lines_before (steps ++ (step ∷ [])) ≡ lines_before steps + length step.before
lines_more [] step = omega arith
lines_more (first ∷ steps) step = let later = lines_more steps step in omega (arith, later)

way_more : (steps : List Step) (step : Step) → way_of (steps ++ (step ∷ [])) ≡ way_of steps ++ step.way
way_more [] step = append-nil step.way
way_more (first ∷ steps) step =
    ap (λ way. first.way ++ way) (way_more steps step) ∙ sym (append_assoc first.way (way_of steps) step.way)

-- a way is gone on
pub code_further : (code middle inner : Counted) (way more : List ℕ) → code_at code way ≡ Some middle
    → code_at middle more ≡ Some inner → code_at code (way ++ more) ≡ Some inner
code_further code middle inner [] more first second = ap (λ o. and_then o (λ c. code_at c more)) first ∙ second
code_further code middle inner (number ∷ way) more first second =
    by (part_of code number) (λ one is. code_further one middle inner way more is second) first
  where
    by : (o : Option Counted)
        → ((one : Counted) → code_at one way ≡ Some middle → code_at one (way ++ more) ≡ Some inner)
        → and_then o (λ c. code_at c way) ≡ Some middle → and_then o (λ c. code_at c (way ++ more)) ≡ Some inner
    by None later is = cc is
    by (Some one) later is = later one is

-- so a part of a code that stands stands
pub stands_further : {root outer inner : Tree} {before own : List Line} → StandsAt root before outer → Next outer own inner
    → (later : List Line) → length later ≡ length before + length own → StandsAt root later inner
stands_further {root = root} {outer = outer} {inner = inner} {own = own} stands next later long =
    let step : Step = record { way = next.way; before = own; inner = inner } in
    record {
      steps = stands.steps ++ (step ∷ []);
      leads = leads_more root outer stands.steps step stands.leads next.is_part;
      behind = long ∙ ap (λ n. n + length own) stands.behind ∙ sym (lines_more stands.steps step);
      code_is =
          ap (λ way. code_at (bare (code_of root)) way) (way_more stands.steps step)
          ∙ code_further (bare (code_of root)) (bare (code_of outer)) (bare (code_of inner)) (way_of stands.steps) next.way
          stands.code_is next.code_is;
    }

-- behind lines, and behind two and three lists of them
pub stands_behind : {root outer inner : Tree} {before own : List Line} → StandsAt root before outer → Next outer own inner
    → StandsAt root (before ++ own) inner
stands_behind {before = before} {own = own} stands next = stands_further stands next (before ++ own) (length-append before own)

pub stands_behind_two : {root outer inner : Tree} {before : List Line} → StandsAt root before outer → (first second : List Line)
    → Next outer (first ++ second) inner → StandsAt root ((before ++ first) ++ second) inner
stands_behind_two {before = before} stands first second next =
    stands_further stands next ((before ++ first) ++ second)
    (ap length (append_assoc before first second) ∙ length-append before (first ++ second))

pub stands_behind_three : {root outer inner : Tree} {before : List Line} → StandsAt root before outer
    → (first second third : List Line) → Next outer ((first ++ second) ++ third) inner
    → StandsAt root (((before ++ first) ++ second) ++ third) inner
stands_behind_three {before = before} stands first second third next =
    stands_further stands next (((before ++ first) ++ second) ++ third)
    (ap (λ (ls : List Line). length (ls ++ third)) (append_assoc before first second)
    ∙ ap length (append_assoc before (first ++ second) third) ∙ length-append before ((first ++ second) ++ third))

-- behind no lines
pub stands_first : {root outer inner : Tree} {before : List Line} → StandsAt root before outer → Next outer [] inner
    → StandsAt root before inner
stands_first {before = before} stands next = stands_further stands next before (omega arith)
