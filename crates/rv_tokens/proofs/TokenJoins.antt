-- A block that ends with a comparison and the case on it: its lines are those of its steps and a branch before the arms.
use Rattle.std.proofs.Common.{◌≡◌, ℕ, ◌+◌, ◌≤◌, Some, Bool, true, List, [], ◌∷◌, ◌++◌, length, map, refl, sym, ap}
use Rattle.std.proofs.Common.{subst, ◌∙◌, arith}
use Rattle.std.specs.Prelude.{if◌then◌else◌}
use Rattle.std.proofs.lemmas.List.{length-map, map-append}
use Rattle.kk_core.specs.Decisions.{NodeTree, node_tree}
use Rattle.kk_core.specs.declared.decisions.Decisions.{Decisions}
use Rattle.kk_counted.proofs.TokenedViews as Views
use Rattle.kk_counted.specs.CountedForms.{decisions_of}
use Rattle.kk_counted.specs.Marks.{AreUnmarked}
use Rattle.kk_counted.specs.TokenedWords.{tokened_prints}
use Rattle.kk_counted.specs.TokenedCodes.{Tokened}
use Rattle.kk_counted.specs.TokenedForms.{TokenedMove, put_tokened, plug_tokened, tokened_arms, tokened_code, tokened_last_code}
use Rattle.kk_counted.specs.TokenedForms.{tokened_move}
use Rattle.kk_counted.specs.declared.tokened.TokenedBlock.{TokenedBlock}
use Rattle.kk_counted.specs.declared.tokened.TokenedLast.TheVariants as OfLast
use Rattle.kk_counted.specs.declared.tokened.TokenedStep.{TokenedStep}
use Rattle.rv_isa.specs.declared.asm.Action.TheVariants.{Branch, Routine as Calls}
use Rattle.rv_isa.specs.declared.routine.Routine.TheVariants.{Drop}
use Rattle.rv_isa.specs.AsmCode.{Line}
use Rattle.rv_lower.specs.declared.lowering.Lowering.{Lowering}
use Rattle.rv_lower.specs.Lines.{acts}
use Rattle.rv_lower.specs.Lowered.{Goal}
use Rattle.rv_lower.specs.Written.{texts_written, Wrote, Grows}
use Rattle.rv_lower.proofs.CodeGrowth.{grows_of, grows_then, grows_more, later_texts}
use Rattle.rv_tokens.specs.declared.decide.Targets.{Targets}
use Rattle.rv_cells.specs.CountedLines.{Setting}
use Rattle.rv_cells.specs.ComparisonBranch.{IsTested, AreNoLines, IsBranchBetween}
use Rattle.rv_cells.specs.declared.compare.Branching.{Branching}
use Rattle.rv_cells.specs.TokenedLines.{OwnLines, LinesBehind, CodeLines, ArmsLines}
use Rattle.rv_tokens.specs.TokenedWritten.{WroteTokened, WroteBehind, WroteTokenedArms, WroteTokenedSteps}
use Rattle.rv_tokens.specs.Written.{Facts, setting_in, TookTargets}
use Rattle.rv_cells.proofs.Comparisons.{drops_before}
use Rattle.rv_tokens.proofs.TokenCodeGrowth.{code_same, arms_same, plug_more, count_of_arms, took_none}

-- the lines of the case are those of both
joins_move : (setting : Setting) (variables : ℕ) (goal : Goal) (low high : ℕ) (lines : List Line) (move : TokenedMove)
    (last : Tokened) (branch : Branching) → IsBranchBetween setting.holds move last branch
    → LinesBehind (Some branch) setting variables goal low last lines high
    → CodeLines setting variables goal low (put_tokened move last) lines high
joins_move setting variables goal low high lines (TokenedMove.computes x form arguments others) last branch is are = (
  [],
  lines,
  low,
  true,
  subst (λ left. OwnLines left setting variables low x form arguments others [] low) (sym is.0) (refl, refl),
  subst (λ left. LinesBehind left setting variables goal low last lines high) (sym is.0) are,
  is.1,
  refl,
)
joins_move setting variables goal low high lines (TokenedMove.runs x block) last branch is are = absurd is
joins_move setting variables goal low high lines (TokenedMove.reads x c fields) last branch is are = absurd is
joins_move setting variables goal low high lines (TokenedMove.opens x c fields used y) last branch is are = absurd is
joins_move setting variables goal low high lines (TokenedMove.opens_unique x c fields used y) last branch is are = absurd is
joins_move setting variables goal low high lines (TokenedMove.dups x) last branch is are = absurd is
joins_move setting variables goal low high lines (TokenedMove.drops x) last branch is are = absurd is
joins_move setting variables goal low high lines (TokenedMove.fills x y c first arguments kept others) last branch is are =
    absurd is
joins_move setting variables goal low high lines (TokenedMove.frees y) last branch is are = absurd is
joins_move setting variables goal low high lines (TokenedMove.nulls y) last branch is are = absurd is
joins_move setting variables goal low high lines (TokenedMove.moves to of) last branch is are = absurd is
joins_move setting variables goal low high lines (TokenedMove.holds y) last branch is are = absurd is
joins_move setting variables goal low high lines (TokenedMove.unholds y) last branch is are = absurd is

-- a comparison takes no string from what comes behind it
prints_more : (holds : ℕ → Bool) (move : TokenedMove) (last : Tokened) (branch : Branching)
    → IsBranchBetween holds move last branch → tokened_prints last ≤ tokened_prints (put_tokened move last)
prints_more holds (TokenedMove.computes x form arguments others) last branch is = omega arith
prints_more holds (TokenedMove.runs x block) last branch is = absurd is
prints_more holds (TokenedMove.reads x c fields) last branch is = absurd is
prints_more holds (TokenedMove.opens x c fields used y) last branch is = absurd is
prints_more holds (TokenedMove.opens_unique x c fields used y) last branch is = absurd is
prints_more holds (TokenedMove.dups x) last branch is = absurd is
prints_more holds (TokenedMove.drops x) last branch is = absurd is
prints_more holds (TokenedMove.fills x y c first arguments kept others) last branch is = absurd is
prints_more holds (TokenedMove.frees y) last branch is = absurd is
prints_more holds (TokenedMove.nulls y) last branch is = absurd is
prints_more holds (TokenedMove.moves to of) last branch is = absurd is
prints_more holds (TokenedMove.holds y) last branch is = absurd is
prints_more holds (TokenedMove.unholds y) last branch is = absurd is

-- steps that have no lines give variables up
no_lines : (holds : ℕ → Bool) (moves : List TokenedMove) (last : Tokened) → AreNoLines holds moves
    → (ys : List ℕ) × ((plug_tokened moves last ≡ drops_before ys last) × AreUnmarked holds ys)
no_lines holds [] last are = ([], (refl, tt))
no_lines holds (TokenedMove.drops y ∷ moves) last are =
    let later = no_lines holds moves last are.1 in (y ∷ later.0, (ap (Tokened.drop y) later.1.0, (are.0, later.1.1)))
no_lines holds (TokenedMove.computes x form arguments others ∷ moves) last are = absurd are
no_lines holds (TokenedMove.runs x block ∷ moves) last are = absurd are
no_lines holds (TokenedMove.reads x c fields ∷ moves) last are = absurd are
no_lines holds (TokenedMove.opens x c fields used y ∷ moves) last are = absurd are
no_lines holds (TokenedMove.opens_unique x c fields used y ∷ moves) last are = absurd are
no_lines holds (TokenedMove.dups x ∷ moves) last are = absurd are
no_lines holds (TokenedMove.fills x y c first arguments kept others ∷ moves) last are = absurd are
no_lines holds (TokenedMove.frees y ∷ moves) last are = absurd are
no_lines holds (TokenedMove.nulls y ∷ moves) last are = absurd are
no_lines holds (TokenedMove.moves to of ∷ moves) last are = absurd are
no_lines holds (TokenedMove.holds y ∷ moves) last are = absurd are
no_lines holds (TokenedMove.unholds y ∷ moves) last are = absurd are

tested_before : (holds : ℕ → Bool) (x : ℕ) (ys : List ℕ) (last : Tokened) → AreUnmarked holds ys → IsTested holds x last
    → IsTested holds x (drops_before ys last)
tested_before holds x [] last plain is = is
tested_before holds x (y ∷ ys) last plain is = (plain.0, tested_before holds x ys last plain.1 is)

prints_before : (ys : List ℕ) (last : Tokened) → tokened_prints last ≡ tokened_prints (drops_before ys last)
prints_before [] last = refl
prints_before (y ∷ ys) last = prints_before ys last

lines_before : (setting : Setting) (variables : ℕ) (goal : Goal) (low high : ℕ) (lines : List Line) (ys : List ℕ) (last : Tokened)
    (branch : Branching) → AreUnmarked setting.holds ys → LinesBehind (Some branch) setting variables goal low last lines high
    → LinesBehind (Some branch) setting variables goal low (drops_before ys last) lines high
lines_before setting variables goal low high lines [] last branch plain are = are
lines_before setting variables goal low high lines (y ∷ ys) last branch plain are = (
  lines,
  lines_before setting variables goal low high lines ys last branch plain.1 are,
  sym (ap (λ (b : Bool). (if b then acts (Calls Drop) (y ∷ []) ∷ [] else []) ++ lines)
      plain.0),
)

between_before : (holds : ℕ → Bool) (ys : List ℕ) (move : TokenedMove) (last : Tokened) (branch : Branching)
    → AreUnmarked holds ys → IsBranchBetween holds move last branch → IsBranchBetween holds move (drops_before ys last) branch
between_before holds ys (TokenedMove.computes x form arguments others) last branch plain is =
    (is.0, tested_before holds x ys last plain is.1)
between_before holds ys (TokenedMove.runs x block) last branch plain is = absurd is
between_before holds ys (TokenedMove.reads x c fields) last branch plain is = absurd is
between_before holds ys (TokenedMove.opens x c fields used y) last branch plain is = absurd is
between_before holds ys (TokenedMove.opens_unique x c fields used y) last branch plain is = absurd is
between_before holds ys (TokenedMove.dups x) last branch plain is = absurd is
between_before holds ys (TokenedMove.drops x) last branch plain is = absurd is
between_before holds ys (TokenedMove.fills x y c first arguments kept others) last branch plain is = absurd is
between_before holds ys (TokenedMove.frees y) last branch plain is = absurd is
between_before holds ys (TokenedMove.nulls y) last branch plain is = absurd is
between_before holds ys (TokenedMove.moves to of) last branch plain is = absurd is
between_before holds ys (TokenedMove.holds y) last branch plain is = absurd is
between_before holds ys (TokenedMove.unholds y) last branch plain is = absurd is

behind_before : {a b : Lowering} (facts : Facts) (variables : ℕ) (goal : Goal) (branch : Branching) (ys : List ℕ) (last : Tokened)
    → AreUnmarked facts.holds ys → WroteBehind facts variables goal branch last a b
    → WroteBehind facts variables goal branch (drops_before ys last) a b
behind_before {a} {b} facts variables goal branch ys last plain wrote = record {
  lines = wrote.lines;
  grows = subst (λ n. Grows n wrote.lines a b) (prints_before ys last) wrote.grows;
  are = λ later. lines_before (setting_in facts a.base (texts_written b ++ later)) variables goal a.next_label b.next_label
      wrote.lines ys last branch plain (wrote.are later);
}

pub steps_join : {a b c : Lowering} (facts : Facts) (variables : ℕ) (goal : Goal) (moves : List TokenedMove) (move : TokenedMove)
    (last : Tokened) (branch : Branching) → IsBranchBetween facts.holds move last branch
    → WroteTokenedSteps facts variables moves [] a b → WroteBehind facts variables goal branch last b c
    → WroteTokened facts variables goal (plug_tokened moves (put_tokened move last)) a c
steps_join {a} {b} {c} facts variables goal moves move last branch is wrote behind = record {
  lines = wrote.lines ++ behind.lines;
  grows = grows_more few (grows_then wrote.grows behind.grows);
  are = λ later. code_same facts variables goal (plug_tokened moves (put_tokened move last)) (wrote.lines ++ behind.lines)
      c.next_label refl (later_texts behind.grows later) refl
      (wrote.are (behind.grows.more ++ later) goal (put_tokened move last) behind.lines c.next_label
      (code_same facts variables goal (put_tokened move last) behind.lines c.next_label wrote.grows.base
      (sym (later_texts behind.grows later)) refl
      (joins_move (setting_in facts b.base (texts_written c ++ later)) variables goal b.next_label c.next_label behind.lines move
      last branch is (behind.are later))));
}
  where
    few : wrote.n + tokened_prints last ≤ tokened_prints (plug_tokened moves (put_tokened move last))
    few =
        let all = wrote.counted (put_tokened move last) in
        let more = prints_more facts.holds move last branch is in omega (arith, all, more)

-- a case that is a branch
pub branches_written : {a b c d : Lowering} (facts : Facts) (variables : ℕ) (goal : Goal) (branch : Branching) (x : ℕ)
    (decisions : List NodeTree) (arms : List Tokened) (targets : Targets) (negative : ℕ)
    → TookTargets (length arms) (length decisions) targets a b → negative ≡ targets.arms + 1
    → Wrote (acts (Branch branch.condition negative) (branch.first ∷ branch.second ∷ []) ∷ []) b c
    → WroteTokenedArms facts variables goal targets.arms arms c d
    → WroteBehind facts variables goal branch (Tokened.case x decisions (tokened_arms arms)) a d
branches_written {a} {b} {c} {d} facts variables goal branch x decisions arms targets negative took negative_is choice bodies =
    record {
      lines = (acts (Branch branch.condition negative) (branch.first ∷ branch.second ∷ []) ∷ []) ++ bodies.lines;
      grows = grows_more (omega arith) (grows_then (took_none took) (grows_then (grows_of choice) bodies.grows));
      are = λ later. (
        acts (Branch branch.condition negative) (branch.first ∷ branch.second ∷ []) ∷ [],
        bodies.lines,
        targets.nodes,
        took.second ∙ ap (λ (n : ℕ). a.next_label + n) (sym (count_of_arms arms)),
        ap (λ (n : ℕ). acts (Branch branch.condition n) (branch.first ∷ branch.second ∷ []) ∷ [])
            (negative_is ∙ ap (λ (n : ℕ). n + 1) took.first),
        arms_same facts variables goal a.next_label (tokened_arms arms) bodies.lines d.next_label (choice.base ∙ took.took.base)
            refl (omega (arith, choice.label, took.took.next, took.second))
            (subst (λ n. ArmsLines (setting_in facts c.base (texts_written d ++ later)) variables goal n c.next_label
            (tokened_arms arms) bodies.lines d.next_label) took.first (bodies.are later)),
        refl,
      );
    }

pub branches_given : {a b c d : Lowering} (facts : Facts) (variables : ℕ) (goal : Goal) (branch : Branching) (x : ℕ)
    (decisions : Decisions) (arms : List TokenedBlock) (targets : Targets) (negative count : ℕ) → count ≡ length arms
    → TookTargets count (length decisions.nodes.items) targets a b → negative ≡ targets.arms + 1
    → Wrote (acts (Branch branch.condition negative) (branch.first ∷ branch.second ∷ []) ∷ []) b c
    → WroteTokenedArms facts variables goal targets.arms (map tokened_code arms) c d
    → WroteBehind facts variables goal branch (Tokened.case x (decisions_of decisions) (tokened_arms (map tokened_code arms))) a d
branches_given {a} {b} {c} {d} facts variables goal branch x decisions arms targets negative count count_is took negative_is choice
    bodies =
    branches_written facts variables goal branch x (decisions_of decisions) (map tokened_code arms) targets negative
    (subst (λ n. TookTargets n (length (decisions_of decisions)) targets a b) (count_is ∙ sym (length-map arms tokened_code))
    (subst (λ n. TookTargets count n targets a b) (sym (length-map decisions.nodes.items node_tree)) took)) negative_is choice
    bodies

plug_two : (first second : List TokenedMove) (last : Tokened)
    → plug_tokened (first ++ second) last ≡ plug_tokened first (plug_tokened second last)
plug_two [] second last = refl
plug_two (move ∷ first) second last = ap (put_tokened move) (plug_two first second last)

-- a block that ends with a comparison and the case on it
pub block_joined : {a b c : Lowering} (facts : Facts) (variables : ℕ) (goal : Goal) (block : TokenedBlock)
    (front before dropped : List TokenedStep) (step : TokenedStep) (branch : Branching) → block.steps.items ≡ front ++ dropped
    → front ≡ before ++ step ∷ [] → AreNoLines facts.holds (map tokened_move dropped)
    → ((holds : ℕ → Bool) → IsBranchBetween holds (tokened_move step) (tokened_last_code block.last) branch)
    → WroteTokenedSteps facts variables (map tokened_move before) [] a b
    → WroteBehind facts variables goal branch (tokened_last_code block.last) b c
    → WroteTokened facts variables goal (tokened_code block) a c
block_joined {a} {b} {c} facts variables goal block front before dropped step branch steps_are front_is none is wrote behind =
    let last = tokened_last_code block.last in
    let drops = no_lines facts.holds (map tokened_move dropped) last none in
    let moves_are : map tokened_move block.steps.items
    ≡ (map tokened_move before ++ tokened_move step ∷ []) ++ map tokened_move dropped
    = ap (map tokened_move) (steps_are ∙ ap (λ (steps : List TokenedStep). steps ++ dropped) front_is)
    ∙ map-append tokened_move (before ++ step ∷ []) dropped
    ∙ ap (λ (moves : List TokenedMove). moves ++ map tokened_move dropped) (map-append tokened_move before (step ∷ [])) in
    let code_is : tokened_code block
    ≡ plug_tokened (map tokened_move before) (put_tokened (tokened_move step) (drops_before drops.0 last))
    = Views.tokened_block_is block ∙ ap (λ (moves : List TokenedMove). plug_tokened moves last) moves_are
    ∙ plug_two (map tokened_move before ++ tokened_move step ∷ []) (map tokened_move dropped) last
    ∙ ap (plug_tokened (map tokened_move before ++ tokened_move step ∷ [])) drops.1.0
    ∙ plug_more (map tokened_move before) (tokened_move step) (drops_before drops.0 last) in
    subst (λ (code : Tokened). WroteTokened facts variables goal code a c) (sym code_is)
    (steps_join facts variables goal (map tokened_move before) (tokened_move step) (drops_before drops.0 last) branch
    (between_before facts.holds drops.0 (tokened_move step) last branch drops.1.1 (is facts.holds)) wrote
    (behind_before facts variables goal branch drops.0 last drops.1.1 behind))

-- where the block ends with a case
pub block_branches : {a b c : Lowering} (facts : Facts) (variables : ℕ) (goal : Goal) (block : TokenedBlock)
    (steps front before dropped : List TokenedStep) (step : TokenedStep) (branch : Branching) (x : ℕ) (decisions : Decisions)
    (arms : _) (second : List TokenedBlock) → steps ≡ block.steps.items → steps ≡ front ++ dropped → front ≡ before ++ step ∷ []
    → AreNoLines facts.holds (map tokened_move dropped)
    → ((holds : ℕ → Bool) → IsBranchBetween holds (tokened_move step) (tokened_last_code block.last) branch)
    → block.last ≡ OfLast.Case x decisions arms → second ≡ arms.items
    → WroteTokenedSteps facts variables (map tokened_move before) [] a b
    → ((x : ℕ) → WroteBehind facts variables goal branch
    (Tokened.case x (decisions_of decisions) (tokened_arms (map tokened_code second))) b c)
    → WroteTokened facts variables goal (tokened_code block) a c
block_branches {a} {b} {c} facts variables goal block steps front before dropped step branch x decisions arms second steps_are parts
    front_is none is last_is second_is wrote behind =
    block_joined facts variables goal block front before dropped step branch (sym steps_are ∙ parts) front_is none is wrote
    (subst (λ (code : Tokened). WroteBehind facts variables goal branch code b c)
    (ap (λ (bs : List TokenedBlock). Tokened.case x (decisions_of decisions) (tokened_arms (map tokened_code bs))) second_is
    ∙ sym (Views.case_end x decisions arms) ∙ ap tokened_last_code (sym last_is)) (behind x))

-- any block, by its steps and its end
pub block_plain : {a b c : Lowering} (facts : Facts) (variables : ℕ) (goal : Goal) (block : TokenedBlock) (steps : List TokenedStep)
    → steps ≡ block.steps.items → WroteTokenedSteps facts variables (map tokened_move steps) [] a b
    → WroteTokened facts variables goal (tokened_last_code block.last) b c
    → WroteTokened facts variables goal (tokened_code block) a c
block_plain {a} {b} {c} facts variables goal block steps steps_are wrote last =
    subst (λ (code : Tokened). WroteTokened facts variables goal code a c)
    (ap (λ (s : List TokenedStep). plug_tokened (map tokened_move s) (tokened_last_code block.last)) steps_are
    ∙ sym (Views.tokened_block_is block))
    (record {
      lines = wrote.lines ++ last.lines;
      grows = grows_more (omega (arith, wrote.counted (tokened_last_code block.last))) (grows_then wrote.grows last.grows);
      are = λ later. code_same facts variables goal (plug_tokened (map tokened_move steps) (tokened_last_code block.last))
          (wrote.lines ++ last.lines) c.next_label refl (later_texts last.grows later) refl
          (wrote.are (last.grows.more ++ later) goal (tokened_last_code block.last) last.lines c.next_label
          (code_same facts variables goal (tokened_last_code block.last) last.lines c.next_label wrote.grows.base
          (sym (later_texts last.grows later)) refl (last.are later)));
    })
