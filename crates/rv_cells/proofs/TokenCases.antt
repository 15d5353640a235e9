-- The lines of a case do the step of the machine with tokens.
use Rattle.std.proofs.Common.{◌≡◌, ℕ, zero, suc, ◌+◌, ◌*◌, ◌≤◌, ◌<◌, ◌⊎◌, inl, inr, Bool, List, [], ◌∷◌, ◌++◌, length, Option, Some, None, refl, sym, ◌∙◌, ap, subst, arith, append_assoc, mul-le-mul_right}
use Rattle.std.specs.Prelude.{slice_get, drop}
use Rattle.std.specs.Prelude.{option_map}
use Rattle.std.proofs.lemmas.List.{append-nil}
use Rattle.std.proofs.Math.Path.{path_j, subst_refl}
use Rattle.kk_source.specs.State.{Value, Environment}
use Rattle.kk_source.specs.Live.{value_of}
use Rattle.kk_source.specs.Matching.{and_then}
use Rattle.kk_source.specs.Actions.{goes, performed}
use Rattle.kk_core.specs.declared.decisions.Answer.{Answer}
use Rattle.kk_core.specs.declared.decisions.Edge.{Edge}
use Rattle.kk_core.specs.Costs.{part_cost}
use Rattle.kk_core.specs.Looks.{looks_behind, looks_at, looks_from, looks_taken}
use Rattle.kk_core.specs.Decisions.{NodeTree, chooses, tests, value_at, answer_of, found_at, next_by, row_at, chosen_from, chosen}
use Rattle.kk_counted.specs.BareForms.{bare, bare_arms}
use Rattle.kk_counted.specs.CountedMachine.{arm_at, NotStuck}
use Rattle.kk_counted.specs.Heaps.{cell_at}
use Rattle.kk_counted.specs.Lowerable.{AreNumbered, AreArmsNumbered}
use Rattle.kk_counted.specs.Marks.{CellMarks, HasMark, HaveMark}
use Rattle.kk_counted.specs.TokenKeeping.{Lists, IsJudged, ListsAfter, AreKeptBy}
use Rattle.kk_counted.specs.TokenMachine.{tokened_arm_at, token_case_step, token_code_step}
use Rattle.kk_counted.specs.TokenRuns.{AllLead}
use Rattle.kk_counted.specs.TokenStates.{TokenJoin, TokenFrame, TokenConfiguration, bare_configuration}
use Rattle.kk_counted.specs.TokenedCodes.{Tokened, TokenedArms}
use Rattle.kk_counted.specs.Tokens.{Tokens}
use Rattle.rv_isa.specs.declared.asm.Action.TheVariants.{Label}
use Rattle.rv_isa.specs.AsmCode.{Line}
use Rattle.rv_isa.specs.Frames.{Frame}
use Rattle.rv_lower.specs.Lines.{acts}
use Rattle.rv_lower.specs.Lowered.{Goal}
use Rattle.rv_lower.proofs.Labels.{found_label}
use Rattle.rv_cells.specs.declared.standing.Standing.{Standing}
use Rattle.rv_cells.specs.Layout.{Layout, word_in}
use Rattle.rv_cells.specs.CountedLines.{Setting, Ways, label_of, first_label, ways_of, TestLines, NodeLines, NodesLines}
use Rattle.rv_cells.specs.CellLines.{jump_lines}
use Rattle.rv_cells.specs.Fitting.{AllAlike, ShowsIts, FitsNode, FitsFrom}
use Rattle.rv_cells.specs.TokenedLines.{HasSlots, HaveSlots, Keeps, AllKeep, CodeLines, ArmsLines}
use Rattle.rv_cells.proofs.NameContents.{some-is}
use Rattle.rv_cells.proofs.CellActions.{label_runs}
use Rattle.rv_cells.proofs.FormPlaces.{Tree, Step, IsPart, arms_in, tree_in, stands_behind_three}
use Rattle.rv_cells.proofs.LineCosts.{most_moves, row_cost, edges_cost, look_cost, test_within}
use Rattle.rv_cells.proofs.Rows.{then_some}
use Rattle.rv_cells.proofs.Runs.{turn_of, Runs, runs_then}
use Rattle.rv_cells.proofs.Spots.{Spot, Known, Here}
use Rattle.rv_cells.proofs.NodeLines.{Leads, Comes, leads_then, leads_more, jump_leads, test_leads}
use Rattle.rv_cells.proofs.TokenBlocks.{turns_to}
use Rattle.rv_cells.proofs.TokenLineCosts.{forms, arms_forms}
use Rattle.rv_cells.proofs.TokenContinuations.{token_at, machine_at, CodeSteps, seen_action, kept_after}
use Rattle.rv_cells.proofs.TokenRelation.{lines_setting}
use Rattle.rv_cells.proofs.TokenRelation.{Lowering, target, setting, known_of, At, IsFitFrom, finds, Follows_step}

-- ---- where nodes and arms stand

-- a test of a number stands behind its label, before the nodes that follow it
pub record NodeAt (layout : Layout) (base nodes : ℕ) (ways : Ways) (x k : ℕ) (at : List ℕ) (edges : List Edge)
    (otherwise : Option ℕ) (behind : List NodeTree) (lines : List Line) : Type 0 where
  pub before : List Line
  pub own : List Line
  pub rest : List Line
  pub is : lines ≡ before ++ (acts (Label (nodes + k)) [] ∷ (own ++ rest))
  pub test : TestLines layout base ways.to (ways.behind k) x at edges otherwise own
  pub later : NodesLines layout base nodes ways x (suc k) behind rest

-- the first of the nodes that are left, which tests
node_first : (layout : Layout) (base nodes : ℕ) (ways : Ways) (x k : ℕ) (one : NodeTree) (more : List NodeTree) (lines : List Line)
    (at : List ℕ) (edges : List Edge) (otherwise : Option ℕ) → NodesLines layout base nodes ways x k (one ∷ more) lines
    → one ≡ tests at edges otherwise
    → (stands : NodeAt layout base nodes ways x k at edges otherwise more lines) × (stands.before ≡ [])
node_first layout base nodes ways x k one more lines at edges otherwise are same =
    let node = subst (λ t. NodeLines layout base nodes ways x k t are.0) same are.2 in (
      record {
        before = [];
        own = node.0;
        rest = are.1;
        is = are.4 ∙ ap (λ ls. ls ++ are.1) node.2;
        test = node.1;
        later = are.3;
      },
      refl,
    )

pub node_at : (layout : Layout) (base nodes : ℕ) (ways : Ways) (x k j n : ℕ) (decisions : List NodeTree) (lines : List Line)
    (at : List ℕ) (edges : List Edge) (otherwise : Option ℕ) → n ≡ k + j → NodesLines layout base nodes ways x k decisions lines
    → slice_get decisions j ≡ Some (tests at edges otherwise)
    → NodeAt layout base nodes ways x n at edges otherwise (drop (suc j) decisions) lines
node_at layout base nodes ways x k j n [] lines at edges otherwise number are is = cc
node_at layout base nodes ways x k zero n (one ∷ more) lines at edges otherwise number are is =
    let here : k ≡ n = omega (arith, number) in
    subst (λ n. NodeAt layout base nodes ways x n at edges otherwise more lines) here
    (node_first layout base nodes ways x k one more lines at edges otherwise are (some-is is)).0
node_at layout base nodes ways x k (suc j) n (one ∷ more) lines at edges otherwise number are is =
    let later = node_at layout base nodes ways x (suc k) j n more are.1 at edges otherwise (omega (arith, number)) are.3 is in
    record {
      before = are.0 ++ later.before;
      own = later.own;
      rest = later.rest;
      is = are.4 ∙ ap (λ ls. are.0 ++ ls) later.is
          ∙ sym (append_assoc are.0 later.before (acts (Label (nodes + n)) [] ∷ (later.own ++ later.rest)));
      test = later.test;
      later = later.later;
    }

-- the lines of nodes but the first begin with the label of their first test, if there is one
nodes_begin : (layout : Layout) (base nodes arms : ℕ) (ways : Ways) (x k : ℕ) (each : List NodeTree) (lines : List Line)
    → NodesLines layout base nodes ways x (suc k) each lines
    → ((lines ≡ []) × (first_label nodes arms (suc k) each ≡ arms))
    ⊎ ((more : List Line) × (lines ≡ acts (Label (first_label nodes arms (suc k) each)) [] ∷ more))
nodes_begin layout base nodes arms ways x k [] lines are = inl (are, refl)
nodes_begin layout base nodes arms ways x k (chooses row ∷ each) lines are =
    by (nodes_begin layout base nodes arms ways x (suc k) each are.1 are.3)
  where
    is : lines ≡ are.1
    is = are.4 ∙ ap (λ ls. ls ++ are.1) are.2

    by : ((are.1 ≡ []) × (first_label nodes arms (suc (suc k)) each ≡ arms))
        ⊎ ((more : List Line) × (are.1 ≡ acts (Label (first_label nodes arms (suc (suc k)) each)) [] ∷ more))
        → ((lines ≡ []) × (first_label nodes arms (suc (suc k)) each ≡ arms))
        ⊎ ((more : List Line) × (lines ≡ acts (Label (first_label nodes arms (suc (suc k)) each)) [] ∷ more))
    by (inl none) = inl (is ∙ none.0, none.1)
    by (inr some) = inr (some.0, is ∙ some.1)
nodes_begin layout base nodes arms ways x k (tests at edges otherwise ∷ each) lines are =
    inr (are.2.0 ++ are.1, are.4 ∙ ap (λ ls. ls ++ are.1) are.2.2)

-- an arm of a row stands behind its label
pub record ArmAt (setting : Setting) (variables : ℕ) (goal : Goal) (l : ℕ) (body : Tokened) (lines : List Line) : Type 0 where
  pub before : List Line
  pub first : List Line
  pub rest : List Line
  pub low : ℕ
  pub high : ℕ
  pub is : lines ≡ before ++ (acts (Label l) [] ∷ (first ++ rest))
  pub code : CodeLines setting variables goal low body first high

pub arm_stands : (setting : Setting) (variables : ℕ) (goal : Goal) (label low high row : ℕ) (arms : TokenedArms) (lines : List Line)
    (body : Tokened) → ArmsLines setting variables goal label low arms lines high → tokened_arm_at arms row ≡ Some body
    → ArmAt setting variables goal (label + row) body lines
arm_stands setting variables goal label low high row TokenedArms.no_arm lines body are is = cc
arm_stands setting variables goal label low high zero (TokenedArms.arm one more) lines body are is =
    let same : one ≡ body = cc is in
    let here : label ≡ label + 0 = omega arith in
    record {
      before = [];
      first = are.0;
      rest = are.1;
      low = low;
      high = are.2;
      is = are.5 ∙ ap (λ l. acts (Label l) [] ∷ (are.0 ++ are.1)) here;
      code = subst (λ b. CodeLines setting variables goal low b are.0 are.2) same are.3;
    }
arm_stands setting variables goal label low high (suc row) (TokenedArms.arm one more) lines body are is =
    let later = arm_stands setting variables goal (label + 1) are.2 high row more are.1 body are.4 is in
    let there : label + 1 + row ≡ label + suc row = omega arith in
    let head = acts (Label label) [] ∷ are.0 in
    record {
      before = head ++ later.before;
      first = later.first;
      rest = later.rest;
      low = later.low;
      high = later.high;
      is = are.5 ∙ ap (λ ls. head ++ ls) (later.is ∙ ap (λ l. later.before ++ (acts (Label l) [] ∷ (later.first ++ later.rest)))
          there)
          ∙ sym (append_assoc head later.before (acts (Label (label + suc row)) [] ∷ (later.first ++ later.rest)));
      code = later.code;
    }

-- where there is an arm, the lines begin with the label of the first one
arms_begin : (setting : Setting) (variables : ℕ) (goal : Goal) (label low high row : ℕ) (arms : TokenedArms) (lines : List Line)
    (body : Tokened) → ArmsLines setting variables goal label low arms lines high → tokened_arm_at arms row ≡ Some body
    → (more : List Line) × (lines ≡ acts (Label label) [] ∷ more)
arms_begin setting variables goal label low high row TokenedArms.no_arm lines body are is = cc
arms_begin setting variables goal label low high row (TokenedArms.arm one more) lines body are is = (are.0 ++ are.1, are.5)

-- ---- the part of an arm

-- a step of equal parts
step_same : (w v : List ℕ) (b c : List Line) (t u : Tree) → w ≡ v → b ≡ c → t ≡ u
    → ◌≡◌ {A = Step} (record { way = w; before = b; inner = t }) (record { way = v; before = c; inner = u })
step_same w v b c t u ways lines trees = λ i. record { way = ways i; before = lines i; inner = trees i }

pub tree_moved : (setting : Setting) (variables : ℕ) (goal : Goal) (low high : ℕ) (own : List Line) (one body : Tokened)
    (same : one ≡ body) (lines : CodeLines setting variables goal low one own high)
    → tree_in setting variables goal low body own high
    (subst (λ b. CodeLines setting variables goal low b own high) same lines)
    ≡ tree_in setting variables goal low one own high lines
tree_moved setting variables goal low high own one body same lines =
    path_j (λ b is. tree_in setting variables goal low b own high
    (subst (λ c. CodeLines setting variables goal low c own high) is lines)
    ≡ tree_in setting variables goal low one own high lines)
    (ap (λ made. tree_in setting variables goal low one own high made)
    (subst_refl (λ c. CodeLines setting variables goal low c own high) lines)) same

-- the arm of a row is a part, behind its label
pub arm_part : (setting : Setting) (variables : ℕ) (goal : Goal) (label low high first row : ℕ) (arms : TokenedArms)
    (lines start : List Line) (body : Tokened) (are : ArmsLines setting variables goal label low arms lines high)
    (is : tokened_arm_at arms row ≡ Some body)
    → IsPart (record {
      way = (first + row) ∷ [];
      before = (start ++ (arm_stands setting variables goal label low high row arms lines body are is).before)
          ++ (acts (Label (label + row)) [] ∷ []);
      inner = tree_in setting variables goal (arm_stands setting variables goal label low high row arms lines body are is).low
          body (arm_stands setting variables goal label low high row arms lines body are is).first
          (arm_stands setting variables goal label low high row arms lines body are is).high
          (arm_stands setting variables goal label low high row arms lines body are is).code;
    }) (arms_in setting variables goal label low arms lines high first start are)
unfolding arm_stands
arm_part setting variables goal label low high first row TokenedArms.no_arm lines start body are is = cc is
arm_part setting variables goal label low high first zero (TokenedArms.arm one more) lines start body are is =
    let same : one ≡ body = cc is in
    let number : first + 0 ≡ first = omega arith in
    let here : label + 0 ≡ label = omega arith in
    inl (step_same ((first + 0) ∷ []) (first ∷ []) ((start ++ []) ++ (acts (Label (label + 0)) [] ∷ []))
    (start ++ (acts (Label label) [] ∷ []))
    (tree_in setting variables goal low body are.0 are.2
    (subst (λ b. CodeLines setting variables goal low b are.0 are.2) same are.3))
    (tree_in setting variables goal low one are.0 are.2 are.3) (ap (λ n. n ∷ []) number)
    (ap (λ ls. ls ++ (acts (Label (label + 0)) [] ∷ [])) (append-nil start) ∙ ap (λ l. start ++ (acts (Label l) [] ∷ [])) here)
    (tree_moved setting variables goal low are.2 are.0 one body same are.3))
arm_part setting variables goal label low high first (suc row) (TokenedArms.arm one more) lines start body are is =
    let later = arm_stands setting variables goal (label + 1) are.2 high row more are.1 body are.4 is in
    let head = acts (Label label) [] ∷ are.0 in
    let number : suc first + row ≡ first + suc row = omega arith in
    let there : label + 1 + row ≡ label + suc row = omega arith in
    let inner = tree_in setting variables goal later.low body later.first later.high later.code in
    inr (subst (λ (step : Step). IsPart step (arms_in setting variables goal (label + 1) are.2 more are.1 high (suc first)
    (start ++ (acts (Label label) [] ∷ are.0)) are.4))
    (step_same ((suc first + row) ∷ []) ((first + suc row) ∷ [])
    (((start ++ head) ++ later.before) ++ (acts (Label (label + 1 + row)) [] ∷ []))
    ((start ++ (head ++ later.before)) ++ (acts (Label (label + suc row)) [] ∷ [])) inner inner (ap (λ n. n ∷ []) number)
    (ap (λ ls. ls ++ (acts (Label (label + 1 + row)) [] ∷ [])) (append_assoc start head later.before)
    ∙ ap (λ l. (start ++ (head ++ later.before)) ++ (acts (Label l) [] ∷ [])) there) refl)
    (arm_part setting variables goal (label + 1) are.2 high (suc first) row more are.1 (start ++ head) body are.4 is))

-- no line is before the arm of the first row
pub arm_first : (setting : Setting) (variables : ℕ) (goal : Goal) (label low high : ℕ) (arms : TokenedArms) (lines : List Line)
    (body : Tokened) (are : ArmsLines setting variables goal label low arms lines high) (is : tokened_arm_at arms 0 ≡ Some body)
    → (arm_stands setting variables goal label low high 0 arms lines body are is).before ≡ []
unfolding arm_stands
arm_first setting variables goal label low high TokenedArms.no_arm lines body are is = cc is
arm_first setting variables goal label low high (TokenedArms.arm one more) lines body are is = refl

-- the bare form of an arm is that of its row
pub arm_bare : (arms : TokenedArms) (row : ℕ) (body : Tokened) → tokened_arm_at arms row ≡ Some body
    → arm_at (bare_arms arms) row ≡ Some (bare body)
arm_bare TokenedArms.no_arm row body is = cc is
arm_bare (TokenedArms.arm one more) zero body is = ap (λ o. option_map bare o) is
arm_bare (TokenedArms.arm one more) (suc row) body is = arm_bare more row body is

-- what is true of all arms is true of the one of a row
pub arm_short : (arms : TokenedArms) (row : ℕ) (body : Tokened) → tokened_arm_at arms row ≡ Some body → forms body ≤ arms_forms arms
arm_short TokenedArms.no_arm row body is = cc
arm_short (TokenedArms.arm one more) zero body is =
    let same : one ≡ body = cc is in
    let few = ap forms same in
    omega arith
arm_short (TokenedArms.arm one more) (suc row) body is = let later = arm_short more row body is in omega arith

pub arm_numbered : (base : ℕ) (bound : List ℕ) (arms : TokenedArms) (row : ℕ) (body : Tokened) → tokened_arm_at arms row ≡ Some body
    → AreArmsNumbered base bound (bare_arms arms) → AreNumbered base bound (bare body)
arm_numbered base bound TokenedArms.no_arm row body is are = cc
arm_numbered base bound (TokenedArms.arm one more) zero body is are =
    let same : one ≡ body = cc is in subst (λ b. AreNumbered base bound (bare b)) same are.0
arm_numbered base bound (TokenedArms.arm one more) (suc row) body is are = arm_numbered base bound more row body is are.1

pub arm_marked : (marks : CellMarks) (holds : ℕ → Bool) (result given : Bool) (bound : List ℕ) (arms : TokenedArms) (row : ℕ)
    (body : Tokened) → tokened_arm_at arms row ≡ Some body → HaveMark marks holds result bound given (bare_arms arms)
    → HasMark marks holds result bound given (bare body)
arm_marked marks holds result given bound TokenedArms.no_arm row body is are = cc
arm_marked marks holds result given bound (TokenedArms.arm one more) zero body is are =
    let same : one ≡ body = cc is in subst (λ b. HasMark marks holds result bound given (bare b)) same are.0
arm_marked marks holds result given bound (TokenedArms.arm one more) (suc row) body is are =
    arm_marked marks holds result given bound more row body is are.1

pub arm_slots : (slots : ℕ) (arms : TokenedArms) (row : ℕ) (body : Tokened) → tokened_arm_at arms row ≡ Some body → HaveSlots slots arms
    → HasSlots slots body
arm_slots slots TokenedArms.no_arm row body is have = cc
arm_slots slots (TokenedArms.arm one more) zero body is have =
    let same : one ≡ body = cc is in subst (HasSlots slots) same have.0
arm_slots slots (TokenedArms.arm one more) (suc row) body is have = arm_slots slots more row body is have.1

pub arm_keeps : (standing : Standing) (arms : TokenedArms) (row : ℕ) (body : Tokened) → tokened_arm_at arms row ≡ Some body
    → AllKeep standing arms → Keeps standing body
arm_keeps standing TokenedArms.no_arm row body is keep = cc
arm_keeps standing (TokenedArms.arm one more) zero body is keep =
    let same : one ≡ body = cc is in subst (Keeps standing) same keep.0
arm_keeps standing (TokenedArms.arm one more) (suc row) body is keep = arm_keeps standing more row body is keep.1

pub case_there : (o : Option Tokened) (environment : Environment) (inner : List TokenJoin) (from : TokenConfiguration)
    (input : List ℕ) → NotStuck (bare_configuration (performed (token_case_step o environment inner from) input).1.machine).control
    → (body : Tokened) × (o ≡ Some body)
case_there None environment inner from input going = absurd going
case_there (Some body) environment inner from input going = (body, refl)

module _ (program : Lowering) (x : ℕ) (decisions : List NodeTree) (arms : TokenedArms) (idle : ℕ) (inner : List TokenJoin)
    (frames : List TokenFrame) (tokens : Tokens) (input : List ℕ) (s : Spot) (fs : List (Frame Line)) (left : List Line)
    (idle_is : idle ≡ forms (Tokened.case x decisions arms))
    (at : At program (Tokened.case x decisions arms) inner frames tokens input s fs left)
    (fit : IsFitFrom program
    (token_at program (Tokened.case x decisions arms) s.environment inner frames s.heap tokens input)) where
  abbrev known : Known
  known = known_of program at.shape

  abbrev base : ℕ
  base = at.shape.variables + at.shape.slots

  abbrev here : Here (known_of program at.shape) s
  here = record { follows = at.follows; values = at.has.values }

  abbrev v : Value
  v = value_of s.environment x

  abbrev low : ℕ
  low = at.does.placed.low

  abbrev nodes : ℕ
  nodes = at.does.placed.lines.2

  abbrev choice : List Line
  choice = at.does.placed.lines.0

  abbrev tail : List Line
  tail = at.does.placed.lines.1 ++ at.does.placed.after

  abbrev Goes : ℕ → List Line → List Line → (ℕ → Option ℕ) → Type 0
  Goes = Leads (known_of program at.shape) s fs (record { follows = at.follows; values = at.has.values })
      (at.shape.variables + at.shape.slots)

  left_is : left ≡ choice ++ tail
  left_is = at.does.placed.left_is ∙ ap (λ own. own ++ at.does.placed.after) at.does.placed.lines.6
      ∙ append_assoc choice at.does.placed.lines.1 at.does.placed.after

  choice_at : s.frame.whole ≡ at.does.placed.before ++ (choice ++ tail)
  choice_at = at.does.placed.place ∙ ap (λ ls. at.does.placed.before ++ ls) left_is

  abbrev ways : Ways
  ways = ways_of decisions at.does.placed.lines.2 at.does.placed.low

  abbrev StandsAt : ℕ → List ℕ → List Edge → Option ℕ → Type 0
  StandsAt k way edges otherwise =
      NodeAt program.layout base nodes (ways_of decisions at.does.placed.lines.2 at.does.placed.low) x k way edges otherwise
      (drop (suc k) decisions) choice

  -- the lines from a test's label on
  abbrev node_from : (k : ℕ) (way : List ℕ) (edges : List Edge) (otherwise : Option ℕ)
      → NodeAt program.layout base at.does.placed.lines.2 (ways_of decisions at.does.placed.lines.2 at.does.placed.low) x k way edges
      otherwise (drop (suc k) decisions) at.does.placed.lines.0 → List Line
  node_from k way edges otherwise stands = acts (Label (nodes + k)) [] ∷ (stands.own ++ (stands.rest ++ tail))

  node_place : (k : ℕ) (way : List ℕ) (edges : List Edge) (otherwise : Option ℕ) (stands : StandsAt k way edges otherwise)
      → s.frame.whole ≡ (at.does.placed.before ++ stands.before) ++ node_from k way edges otherwise stands
  node_place k way edges otherwise stands =
      let inner_lines = acts (Label (nodes + k)) [] ∷ (stands.own ++ stands.rest) in
      choice_at ∙ ap (λ ls. at.does.placed.before ++ (ls ++ tail)) stands.is
      ∙ ap (λ ls. at.does.placed.before ++ ls) (append_assoc stands.before inner_lines tail
      ∙ ap (λ ls. stands.before ++ (acts (Label (nodes + k)) [] ∷ ls)) (append_assoc stands.own stands.rest tail))
      ∙ sym (append_assoc at.does.placed.before stands.before (node_from k way edges otherwise stands))

  node_found : (k : ℕ) (way : List ℕ) (edges : List Edge) (otherwise : Option ℕ) (stands : StandsAt k way edges otherwise)
      → found_label (nodes + k) s.frame.whole ≡ Some (node_from k way edges otherwise stands)
  node_found k way edges otherwise stands =
      finds (nodes + k) s.frame.whole (at.does.placed.before ++ stands.before)
      (stands.own ++ (stands.rest ++ tail)) at.has.formed (node_place k way edges otherwise stands)

  stands_of : (k : ℕ) (way : List ℕ) (edges : List Edge) (otherwise : Option ℕ)
      → slice_get decisions k ≡ Some (tests way edges otherwise) → StandsAt k way edges otherwise
  stands_of k way edges otherwise is =
      node_at program.layout base nodes ways x 0 k k decisions choice way edges otherwise (omega arith) at.does.placed.lines.4 is

  node_there : (steps k row : ℕ) → chosen_from (cell_at s.heap) v decisions steps k ≡ Some row
      → (node : NodeTree) × (slice_get decisions k ≡ Some node)
  node_there zero k row is = cc
  node_there (suc steps) k row is = by (slice_get decisions k) is
    where
      by : (o : Option NodeTree) → row_at (cell_at s.heap) v (chosen_from (cell_at s.heap) v decisions steps) o ≡ Some row
          → (node : NodeTree) × (o ≡ Some node)
      by None is = cc
      by (Some node) is = (node, refl)

  -- a node that chooses a row does so
  row_chosen_there : (steps k row mine : ℕ) → slice_get decisions k ≡ Some (chooses mine)
      → chosen_from (cell_at s.heap) v decisions steps k ≡ Some row → mine ≡ row
  row_chosen_there zero k row mine is row_is = cc
  row_chosen_there (suc steps) k row mine is row_is =
      some-is (sym (ap (row_at (cell_at s.heap) v (chosen_from (cell_at s.heap) v decisions steps)) is) ∙ row_is)

  -- what the nodes look at that the value goes through from a node on
  abbrev looks : ℕ → ℕ → ℕ
  looks = looks_from (cell_at s.heap) (value_of s.environment x) decisions

  -- what the lines of these nodes weigh: the last one jumps to its arm
  abbrev walk_cost : ℕ → ℕ → ℕ
  walk_cost steps k = look_cost * looks_from (cell_at s.heap) (value_of s.environment x) decisions steps k
      + (2 * most_moves + 2)

  -- a test looks at its own, and then come the looks of the node to which it leads
  test_looks : (steps k next : ℕ) (way : List ℕ) (edges : List Edge) (otherwise : Option ℕ) (found : Answer)
      → slice_get decisions k ≡ Some (tests way edges otherwise) → found_at (cell_at s.heap) way v ≡ Some found
      → next_by edges otherwise found ≡ Some next → looks (suc steps) k ≡ suc (length way + length edges) + looks steps next
  test_looks steps k next way edges otherwise found is finds leads =
      ap (looks_at (cell_at s.heap) v (looks steps)) is
      ∙ ap (λ o. suc (length way + length edges) + looks_behind (looks steps) (and_then o (next_by edges otherwise))) finds
      ∙ ap (λ o. suc (length way + length edges) + looks_behind (looks steps) o) leads

  module _ (row : ℕ) (body : Tokened) (there : List Line) (some : tokened_arm_at arms row ≡ Some body)
      (found_arm : found_label (at.does.placed.low + row) s.frame.whole ≡ Some there) where
    -- behind a node's lines come those of the label that is next
    comes_behind : (k : ℕ) (rest start : List Line)
        → NodesLines program.layout base nodes (ways_of decisions at.does.placed.lines.2 at.does.placed.low) x (suc k)
        (drop (suc k) decisions) rest
        → s.frame.whole ≡ start ++ (rest ++ (at.does.placed.lines.1 ++ at.does.placed.after))
        → Comes known s fs here
        (first_label at.does.placed.lines.2 at.does.placed.low (suc k) (drop (suc k) decisions))
        (rest ++ (at.does.placed.lines.1 ++ at.does.placed.after))
    comes_behind k rest start are place =
        by (nodes_begin program.layout base nodes low ways x k (drop (suc k) decisions) rest are)
      where
        label : ℕ
        label = first_label at.does.placed.lines.2 at.does.placed.low (suc k) (drop (suc k) decisions)

        behind : List Line
        behind = rest ++ (at.does.placed.lines.1 ++ at.does.placed.after)

        begun : (more : List Line) → behind ≡ acts (Label label) [] ∷ more → Comes known s fs here label behind
        begun more is found_lines at_label =
            some-is (sym at_label ∙ finds label s.frame.whole start more at.has.formed (place ∙ ap (λ ls. start ++ ls) is)) ∙ sym is

        by : ((rest ≡ []) × (label ≡ at.does.placed.low)) ⊎ ((more : List Line) × (rest ≡ acts (Label label) [] ∷ more))
            → Comes known s fs here label behind
        by (inl none) =
            let first = arms_begin (lines_setting program at.shape)
            at.shape.variables at.does.goal low (nodes + length decisions) at.does.placed.high row arms at.does.placed.lines.1 body
            at.does.placed.lines.5 some in
            begun (first.0 ++ at.does.placed.after)
            (ap (λ ls. ls ++ tail) none.0 ∙ ap (λ ls. ls ++ at.does.placed.after) first.1
            ∙ ap (λ l. acts (Label l) [] ∷ (first.0 ++ at.does.placed.after)) (sym none.1))
        by (inr more) = begun (more.0 ++ tail) (ap (λ ls. ls ++ tail) more.1)

    -- from a test to the arm that is chosen
    node_leads : (steps k : ℕ) (way : List ℕ) (edges : List Edge) (otherwise : Option ℕ) (stands : StandsAt k way edges otherwise)
        (values : ℕ → Option ℕ) → slice_get decisions k ≡ Some (tests way edges otherwise)
        → chosen_from (cell_at s.heap) v decisions steps k ≡ Some row
        → FitsFrom program.layout (cell_at s.heap) v decisions steps k
        → values x ≡ Some (word_in program.layout s.address v)
        → Goes (walk_cost steps k) (node_from k way edges otherwise stands) there values
    node_leads zero k way edges otherwise stands values is row_is fits has = cc
    node_leads (suc steps) k way edges otherwise stands values is row_is fits has =
        by later.0 later.1
        (λ its_way its_edges its_other its_stands its_values its_is fits_it it_has. node_leads steps next.0 its_way its_edges
        its_other its_stands its_values its_is next.2 fits_it it_has)
      where
        m : ℕ
        m = most_moves

        goes_on : ℕ → Option ℕ
        goes_on = chosen_from (cell_at s.heap) v decisions steps

        first : (found : Answer) × (found_at (cell_at s.heap) way v ≡ Some found)
            × (and_then (next_by edges otherwise found) goes_on ≡ Some row)
        first = then_some (found_at (cell_at s.heap) way v) (λ found. and_then (next_by edges otherwise found) goes_on) row
            (sym (ap (row_at (cell_at s.heap) v goes_on) is) ∙ row_is)

        value : (w : Value) × (value_at (cell_at s.heap) way v ≡ Some w) × (answer_of (cell_at s.heap) w ≡ Some first.0)
        value = then_some (value_at (cell_at s.heap) way v) (answer_of (cell_at s.heap)) first.0 first.1

        next : (n : ℕ) × (next_by edges otherwise first.0 ≡ Some n) × (goes_on n ≡ Some row)
        next = then_some (next_by edges otherwise first.0) goes_on row first.2

        fits_here : FitsNode program.layout (cell_at s.heap) v (FitsFrom program.layout (cell_at s.heap) v decisions steps)
            (Some (tests way edges otherwise))
        fits_here = subst (FitsNode program.layout (cell_at s.heap) v (FitsFrom program.layout (cell_at s.heap) v decisions steps)) is
            fits

        it : ShowsIts program.layout value.0 first.0 × (AllAlike program.layout first.0 edges
            × ((n : ℕ) → next_by edges otherwise first.0 ≡ Some n → FitsFrom program.layout (cell_at s.heap) v decisions steps n))
        it = fits_here value.0 value.1 first.0 value.2

        later : (node : NodeTree) × (slice_get decisions next.0 ≡ Some node)
        later = node_there steps next.0 row next.2

        rest : List Line
        rest = stands.rest ++ tail

        from : List Line
        from = acts (Label (nodes + k)) [] ∷ (stands.own ++ rest)

        cost : ℕ
        cost = 6 * m + 14 + row_cost way (m + 2) + edges_cost edges

        label : Leads known s fs here base (m + 0) from (stands.own ++ rest) values
        label = record {
          steps = 1;
          later = values;
          runs = label_runs (target program) (stands.own ++ rest) (record s.frame { cells = values }) fs s.world (nodes + k);
          kept = λ z less. refl;
        }

        below : x < base
        below = at.has.values.below x at.does.placed.marked.0

        start : List Line
        start = (at.does.placed.before ++ stands.before) ++ (acts (Label (nodes + k)) [] ∷ stands.own)

        start_is : s.frame.whole ≡ start ++ rest
        start_is = node_place k way edges otherwise stands
            ∙ sym (append_assoc (at.does.placed.before ++ stands.before) (acts (Label (nodes + k)) [] ∷ stands.own) rest)

        test : (to : List Line) → found_label (label_of nodes low next.0 (slice_get decisions next.0)) s.frame.whole ≡ Some to
            → Leads known s fs here base cost (stands.own ++ rest) to values
        test to to_is = test_leads known s fs here base x (first_label nodes low (suc k) (drop (suc k) decisions)) next.0 ways.to way
            edges otherwise first.0 v value.0 stands.own rest to values below stands.test has value.1 value.2 it.0 next.1 it.1.0 to_is
            (comes_behind k stands.rest start stands.later start_is)

        within : (m + 0) + (cost + (look_cost * looks steps next.0 + (2 * m + 2))) ≤ walk_cost (suc steps) k
        within = test_within (looks steps next.0) (looks (suc steps) k) way edges
            (test_looks steps k next.0 way edges otherwise first.0 is first.1 next.1)

        by : (node : NodeTree) → slice_get decisions next.0 ≡ Some node
            → ((its_way : List ℕ) (its_edges : List Edge) (its_other : Option ℕ) (its_stands : StandsAt next.0 its_way its_edges its_other)
            (its_values : ℕ → Option ℕ) → slice_get decisions next.0 ≡ Some (tests its_way its_edges its_other)
            → FitsFrom program.layout (cell_at s.heap) v decisions steps next.0
            → its_values x ≡ Some (word_in program.layout s.address v)
            → Goes (walk_cost steps next.0) (node_from next.0 its_way its_edges its_other its_stands) there its_values)
            → Goes (walk_cost (suc steps) k) (node_from k way edges otherwise stands) there values
        by (chooses mine) node_is again =
            let same : mine ≡ row = row_chosen_there steps next.0 row mine node_is next.2 in
            leads_more known s fs here base base ((m + 0) + cost) (walk_cost (suc steps) k) from there values (omega (arith, within))
            (omega arith)
            (leads_then known s fs here base (m + 0) cost from (stands.own ++ rest) there values label
            (test there (ap (λ o. found_label (label_of nodes low next.0 o) s.frame.whole) node_is
            ∙ ap (λ r. found_label (low + r) s.frame.whole) same ∙ found_arm)))
        by (tests its_way its_edges its_other) node_is again =
            let stands_later = stands_of next.0 its_way its_edges its_other node_is in
            let goal = node_from next.0 its_way its_edges its_other stands_later in
            let through = test goal (ap (λ o. found_label (label_of nodes low next.0 o) s.frame.whole) node_is
            ∙ node_found next.0 its_way its_edges its_other stands_later) in
            let onward = again its_way its_edges its_other stands_later through.later node_is (it.1.1 next.0 next.1)
            (through.kept x below ∙ has) in
            leads_more known s fs here base base ((m + 0) + (cost + walk_cost steps next.0)) (walk_cost (suc steps) k) from there values
            within (omega arith)
            (leads_then known s fs here base (m + 0) (cost + walk_cost steps next.0) from (stands.own ++ rest) there values label
            (leads_then known s fs here base cost (walk_cost steps next.0) (stands.own ++ rest) goal there values through onward))

    -- from the first line of a case
    first_leads : chosen (cell_at s.heap) v decisions ≡ Some row
        → Goes (walk_cost (length decisions) 0) (choice ++ tail) there s.frame.cells
    first_leads is = let first = node_there (length decisions) 0 row is in by first.0 first.1
      where
        own_word : s.frame.cells x ≡ Some (word_in program.layout s.address v)
        own_word = at.has.values.words x at.does.placed.marked.0

        -- a first node that chooses its row jumps there
        at_once : (some : List NodeTree) (mine : ℕ)
            → NodesLines program.layout base at.does.placed.lines.2
            (ways_of decisions at.does.placed.lines.2 at.does.placed.low) x 0 some at.does.placed.lines.0
            → slice_get some 0 ≡ Some (chooses mine)
            → (rest : List Line) × (NodesLines program.layout base at.does.placed.lines.2
            (ways_of decisions at.does.placed.lines.2 at.does.placed.low) x 1 (drop 1 some) rest
            × (at.does.placed.lines.0 ≡ jump_lines (first_label at.does.placed.lines.2 at.does.placed.low 1 (drop 1 decisions))
            (label_of at.does.placed.lines.2 at.does.placed.low 0 (slice_get decisions 0)) ++ rest))
        at_once [] mine are node_is = cc
        at_once (one ∷ more) mine are node_is =
            let same : one ≡ chooses mine = some-is node_is in
            let node = subst (λ t. NodeLines program.layout base at.does.placed.lines.2
            (ways_of decisions at.does.placed.lines.2 at.does.placed.low) x 0 t are.0) same are.2 in
            (are.1, (are.3, are.4 ∙ ap (λ ls. ls ++ are.1) node))

        first_at : (some : List NodeTree) (way : List ℕ) (edges : List Edge) (otherwise : Option ℕ)
            → NodesLines program.layout base at.does.placed.lines.2
            (ways_of decisions at.does.placed.lines.2 at.does.placed.low) x 0 some at.does.placed.lines.0
            → slice_get some 0 ≡ Some (tests way edges otherwise)
            → (stands : NodeAt program.layout base at.does.placed.lines.2
            (ways_of decisions at.does.placed.lines.2 at.does.placed.low) x 0 way edges otherwise (drop 1 some) at.does.placed.lines.0)
            × (stands.before ≡ [])
        first_at [] way edges otherwise are node_is = cc
        first_at (one ∷ more) way edges otherwise are node_is =
            node_first program.layout base at.does.placed.lines.2 (ways_of decisions at.does.placed.lines.2 at.does.placed.low) x 0
            one more at.does.placed.lines.0 way edges otherwise are (some-is node_is)

        by : (node : NodeTree) → slice_get decisions 0 ≡ Some node
            → Goes (walk_cost (length decisions) 0) (choice ++ tail) there s.frame.cells
        by (chooses mine) node_is =
            let m = most_moves in
            let jump = at_once decisions mine at.does.placed.lines.4 node_is in
            let same : mine ≡ row = row_chosen_there (length decisions) 0 row mine node_is is in
            let next = first_label nodes low 1 (drop 1 decisions) in
            let label = label_of nodes low 0 (slice_get decisions 0) in
            let jumps = jump_lines next label in
            let from_is : choice ++ tail ≡ jumps ++ (jump.0 ++ tail)
            = ap (λ ls. ls ++ tail) jump.1.1 ∙ append_assoc jumps jump.0 tail in
            let place : s.frame.whole ≡ (at.does.placed.before ++ jumps) ++ (jump.0 ++ tail)
            = choice_at ∙ ap (λ ls. at.does.placed.before ++ ls) from_is
            ∙ sym (append_assoc at.does.placed.before jumps (jump.0 ++ tail)) in
            subst (λ ls. Goes (walk_cost (length decisions) 0) ls there s.frame.cells) (sym from_is)
            (leads_more known s fs here base base (m + 2) (walk_cost (length decisions) 0) (jumps ++ (jump.0 ++ tail)) there s.frame.cells
            (omega arith) (omega arith)
            (jump_leads known s fs here base next label (jump.0 ++ tail) there s.frame.cells
            (ap (λ o. found_label (label_of nodes low 0 o) s.frame.whole) node_is
            ∙ ap (λ r. found_label (low + r) s.frame.whole) same ∙ found_arm)
            (comes_behind 0 jump.0 (at.does.placed.before ++ jumps) jump.1.0 place)))
        by (tests way edges otherwise) node_is =
            let begins = first_at decisions way edges otherwise at.does.placed.lines.4 node_is in
            let from_is : choice ++ tail ≡ node_from 0 way edges otherwise begins.0
            = ap (λ ls. ls ++ tail) (begins.0.is
            ∙ ap (λ ls. ls ++ (acts (Label (nodes + 0)) [] ∷ (begins.0.own ++ begins.0.rest))) begins.1)
            ∙ ap (λ ls. acts (Label (nodes + 0)) [] ∷ ls) (append_assoc begins.0.own begins.0.rest tail) in
            subst (λ ls. Goes (walk_cost (length decisions) 0) ls there s.frame.cells) (sym from_is)
            (node_leads (length decisions) 0 way edges otherwise begins.0 s.frame.cells node_is is (fit 0).bare.fits own_word)

  pub case_does : Follows_step program idle
      (token_at program (Tokened.case x decisions arms) s.environment inner frames s.heap tokens input)
      (turn_of left s.frame fs s.world)
  case_does =
      let p = at.does.placed in
      let m = most_moves in
      let code = Tokened.case x decisions arms in
      let from = machine_at program code s.environment inner frames s.heap tokens in
      let there = case_there (and_then (chosen (cell_at s.heap) v decisions) (tokened_arm_at arms)) s.environment inner from input
      (fit 1).bare.going in
      let body = there.0 in
      let choose = then_some (chosen (cell_at s.heap) v decisions) (tokened_arm_at arms) body there.1 in
      let row = choose.0 in
      let stands = arm_stands (lines_setting program at.shape)
      at.shape.variables at.does.goal low (nodes + length decisions) p.high row arms p.lines.1 body p.lines.5 choose.2 in
      let lines_of : Setting = lines_setting program at.shape in
      let inner_tree : Tree
      = tree_in lines_of at.shape.variables at.does.goal stands.low body stands.first stands.high stands.code in
      let number : 0 + row ≡ row = omega arith in
      let label = acts (Label (low + row)) [] in
      let rest = stands.rest ++ p.after in
      let behind = stands.first ++ rest in
      let tail_is : tail ≡ stands.before ++ (label ∷ behind)
      = ap (λ ls. ls ++ p.after) stands.is ∙ append_assoc stands.before (label ∷ (stands.first ++ stands.rest)) p.after
      ∙ ap (λ ls. stands.before ++ (label ∷ ls)) (append_assoc stands.first stands.rest p.after) in
      let place : s.frame.whole ≡ ((p.before ++ choice) ++ stands.before) ++ (label ∷ behind)
      = choice_at ∙ ap (λ ls. p.before ++ (choice ++ ls)) tail_is
      ∙ sym (append_assoc p.before choice (stands.before ++ (label ∷ behind)))
      ∙ sym (append_assoc (p.before ++ choice) stands.before (label ∷ behind)) in
      let leads = first_leads row body (label ∷ behind) choose.2
      (finds (low + row) s.frame.whole ((p.before ++ choice) ++ stands.before) behind at.has.formed place) choose.1 in
      let f = record s.frame { cells = leads.later } in
      let cost = walk_cost (length decisions) 0 in
      let t2 = turn_of behind f fs s.world in
      let runs : Runs (target program) (cost + (m + 0)) (leads.steps + 1) (turn_of left s.frame fs s.world) t2
      = subst (λ ls. Runs (target program) (cost + (m + 0)) (leads.steps + 1) (turn_of ls s.frame fs s.world) t2) (sym left_is)
      (runs_then (target program) cost (m + 0) leads.steps 1 (turn_of (choice ++ tail) s.frame fs s.world)
      (turn_of (label ∷ behind) f fs s.world) t2 leads.runs (label_runs (target program) behind f fs s.world (low + row))) in
      let short = arm_short arms row body choose.2 in
      let few = p.short in
      let step : token_code_step (setting program) code s.environment inner from
      ≡ goes (machine_at program body s.environment inner frames s.heap tokens)
      = ap (λ o. token_case_step o s.environment inner from) there.1 in
      let kept = subst (AllLead (AreKeptBy program.pool.cells (ListsAfter code inner at.lists))) step
      (kept_after program code inner frames tokens input s fs left at (fit 0).keeps refl) in
      let seen = mul-le-mul_right (looks_taken (cell_at s.heap) v decisions) look_within in
      turns_to program code inner frames tokens input s fs left at idle fit body behind leads.later (leads.steps + 1)
      (cost + (m + 0))
      leads.kept
      (record {
        before = ((p.before ++ choice) ++ stands.before) ++ (label ∷ []);
        own = stands.first;
        after = rest;
        low = stands.low;
        high = stands.high;
        lines = stands.code;
        left_is = refl;
        place = place ∙ sym (append_assoc ((p.before ++ choice) ++ stands.before) (label ∷ []) behind);
        stands = stands_behind_three p.stands choice stands.before (label ∷ []) (record {
          way = row ∷ [];
          is_part = subst (λ n. IsPart (record {
            way = n ∷ [];
            before = (choice ++ stands.before) ++ (label ∷ []);
            inner = inner_tree;
          }) (arms_in lines_of at.shape.variables at.does.goal low (nodes + length decisions) arms p.lines.1 p.high 0 choice
              p.lines.5)) number
              (arm_part lines_of at.shape.variables at.does.goal low (nodes + length decisions) p.high 0 row arms p.lines.1 choice
              body p.lines.5 choose.2);
          code_is = ap (λ o. and_then o (λ c. Some c)) (arm_bare arms row body choose.2);
        });
        marked = arm_marked program.marks at.shape.holds at.shape.result at.does.given s.bound arms row body choose.2 p.marked.1;
        numbered = arm_numbered at.shape.variables s.bound arms row body choose.2 p.numbered;
        has = arm_slots at.shape.slots arms row body choose.2 p.has;
        keeps = arm_keeps at.shape.standing arms row body choose.2 p.keeps;
        short = omega (arith, short, few);
      })
      (subst (λ (l : Lists). IsJudged program.pool.cells l.left l.unspent l.held l.older body inner frames s.heap tokens)
      kept.1.0 kept.1.1)
      runs (omega (arith, seen)) (omega (arith, short, idle_is)) (ap (λ action. seen_action program action input) step)
    where
      look_within : look_cost ≤ part_cost
      look_within = omega arith

pub at_case : (program : Lowering) (x : ℕ) (decisions : List NodeTree) (arms : TokenedArms)
    → CodeSteps program (Tokened.case x decisions arms)
at_case program x decisions arms idle inner frames tokens input s fs left idle_is at fit =
    case_does program x decisions arms idle inner frames tokens input s fs left idle_is at fit
