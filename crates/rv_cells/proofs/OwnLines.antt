-- The lines of a function at which the calls, prints and constructions with fields begin that one way of its bare form leads to: one,
-- or one for each side of the tests of tokens on the way.
use Rattle.std.proofs.Common.{◌≡◌, inl, inr, ℕ, zero, suc, ◌+◌, ◌==◌, ◌&&◌, ◌||◌, Bool, true, false, List, [], ◌∷◌, ◌++◌, length, Option, Some, None, refl, sym, ◌∙◌, ap, subst, arith, append_assoc, eqb-true}
use Rattle.std.proofs.lemmas.List.{append-nil}
use Rattle.kk_source.specs.Matching.{and_then}
use Rattle.kk_syntax.specs.Shapes.{is_among}
use Rattle.kk_counted.specs.BareForms.{bare, bare_arms}
use Rattle.kk_counted.specs.CodePlaces.{code_at, is_act}
use Rattle.kk_counted.specs.CountedCodes.{Counted}
use Rattle.kk_counted.specs.CountedMachine.{arm_at}
use Rattle.kk_counted.specs.TokenedCodes.{Tokened, TokenedArms}
use Rattle.kk_counted.proofs.Variables.{among_cases}
use Rattle.kk_counted.proofs.Evenness.{among_front, among_behind}
use Rattle.rv_isa.specs.declared.asm.Action.TheVariants.{Label}
use Rattle.rv_isa.specs.AsmCode.{Line}
use Rattle.rv_lower.specs.Lines.{acts}
use Rattle.rv_lower.specs.Lowered.{Goal, joins}
use Rattle.rv_cells.specs.declared.compare.Branching.{Branching}
use Rattle.rv_cells.specs.ComparisonBranch.{branch_of}
use Rattle.rv_cells.specs.CountedLines.{Setting}
use Rattle.rv_cells.specs.TokenedLines.{LinesBehind, ArmsLines, CodeLines}
use Rattle.rv_cells.proofs.FormArities.{is_own_act, lead}
use Rattle.rv_cells.proofs.FormPlaces.{Tree, tree, Parts, no_part, part, code_of, own_of, parts_of, Step, IsPart, Leads, way_of, lines_before, lines_before_entry, behind_entry, arms_in, tree_behind}

-- ---- numbers and lists

abbrev pub are_same : List ℕ → List ℕ → Bool
are_same [] [] = true
are_same [] (y ∷ ys) = false
are_same (x ∷ xs) [] = false
are_same (x ∷ xs) (y ∷ ys) = (x == y) && are_same xs ys

both_parts : (a b : Bool) → (a && b) ≡ true → (a ≡ true) × (b ≡ true)
both_parts true b is = (refl, is)
both_parts false b is = cc is

same_lists : (xs ys : List ℕ) → are_same xs ys ≡ true → xs ≡ ys
same_lists [] [] is = refl
same_lists [] (y ∷ ys) is = cc is
same_lists (x ∷ xs) [] is = cc is
same_lists (x ∷ xs) (y ∷ ys) is =
    let parts = both_parts (x == y) (are_same xs ys) is in
    ap (λ z. z ∷ xs) (eqb-true x y parts.0) ∙ ap (λ zs. y ∷ zs) (same_lists xs ys parts.1)

same_itself : (xs : List ℕ) → are_same xs xs ≡ true
same_itself [] = refl
same_itself (x ∷ xs) = let here : (x == x) ≡ true = grind arith in rw here (same_itself xs)

-- ---- lines

-- a line, or none
abbrev pub one_line : Bool → ℕ → List ℕ
one_line true line = line ∷ []
one_line false line = []

-- the lines that a way leads to in a code, which stands behind so many lines, at the end of a way
abbrev mutual
  pub lines_from : List ℕ → List ℕ → ℕ → Tree → List ℕ
  lines_from sought way behind (tree code own parts) =
      one_line (is_own_act code && are_same way sought) (behind + lead own) ++ lines_among sought way behind parts

  pub lines_among : List ℕ → List ℕ → ℕ → Parts → List ℕ
  lines_among sought way behind no_part = []
  lines_among sought way behind (part more before inner parts) =
      lines_from sought (way ++ more) (behind + length before) inner ++ lines_among sought way behind parts

-- the lines that a way leads to in the code of a function
abbrev pub lines_at : Tree → List ℕ → List ℕ
lines_at root way = lines_from way [] 0 root

-- steps lead to such a form
pub record Found (sought way : List ℕ) (behind line : ℕ) (outer : Tree) : Type 0 where
  pub steps : List Step
  pub inner : Tree
  pub leads : Leads outer steps inner
  pub way_is : way ++ way_of steps ≡ sought
  pub line_is : behind + lines_before steps + lead (own_of inner) ≡ line
  pub acts : is_own_act (code_of inner) ≡ true

-- by a step more
found_behind : (sought way : List ℕ) (behind line : ℕ) (outer : Tree) (step : Step) → IsPart step (parts_of outer)
    → Found sought (way ++ step.way) (behind + length step.before) line step.inner → Found sought way behind line outer
found_behind sought way behind line outer step is found =
    let far = found.line_is in
    record {
      steps = step ∷ found.steps;
      inner = found.inner;
      leads = (is, found.leads);
      way_is = sym (append_assoc way step.way (way_of found.steps)) ∙ found.way_is;
      line_is = omega (arith, far);
      acts = found.acts;
    }

one_is : (b : Bool) (behind line : ℕ) → is_among (one_line b behind) line ≡ true → (b ≡ true) × (behind ≡ line)
one_is true behind line is = (refl, by (behind == line) refl is)
  where
    by : (t : Bool) → (behind == line) ≡ t → (t || false) ≡ true → behind ≡ line
    by true same is = eqb-true behind line same
    by false same is = cc is
one_is false behind line is = cc is

mutual
  pub found_from : (sought way : List ℕ) (behind line : ℕ) (outer : Tree)
      → is_among (lines_from sought way behind outer) line ≡ true → Found sought way behind line outer
  found_from sought way behind line (tree code own parts) is =
      elim (among_cases (one_line (is_own_act code && are_same way sought) (behind + lead own)) (lines_among sought way behind parts) line is) [
        | inl here ↦
            let one = one_is (is_own_act code && are_same way sought) (behind + lead own) line here in
            let both = both_parts (is_own_act code) (are_same way sought) one.0 in
            let far = one.1 in
            record {
              steps = [];
              inner = tree code own parts;
              leads = refl;
              way_is = append-nil way ∙ same_lists way sought both.1;
              line_is = omega (arith, far);
              acts = both.0;
            }
        | inr later ↦ (let inside = found_among sought way behind line parts later in
            found_behind sought way behind line (tree code own parts) inside.0 inside.1.0 inside.1.1)
      ]

  found_among : (sought way : List ℕ) (behind line : ℕ) (parts : Parts)
      → is_among (lines_among sought way behind parts) line ≡ true
      → (step : Step) × (IsPart step parts × Found sought (way ++ step.way) (behind + length step.before) line step.inner)
  found_among sought way behind line no_part is = cc is
  found_among sought way behind line (part more before inner parts) is =
      elim (among_cases (lines_from sought (way ++ more) (behind + length before) inner) (lines_among sought way behind parts) line
      is) [
        | inl here ↦ (
          record { way = more; before = before; inner = inner },
          (inl refl, found_from sought (way ++ more) (behind + length before) line inner here),
        )
        | inr later ↦ (let inside = found_among sought way behind line parts later in
            (inside.0, (inr inside.1.0, inside.1.1)))
      ]

-- a line that a part has the code has
among_part : (sought way : List ℕ) (behind line : ℕ) (parts : Parts) (step : Step) → IsPart step parts
    → is_among (lines_from sought (way ++ step.way) (behind + length step.before) step.inner) line ≡ true
    → is_among (lines_among sought way behind parts) line ≡ true
among_part sought way behind line no_part step is among = absurd is
among_part sought way behind line (part more before inner parts) step (inl e) among =
    among_front (lines_from sought (way ++ more) (behind + length before) inner) (lines_among sought way behind parts) line
    (subst (λ (s : Step). is_among (lines_from sought (way ++ s.way) (behind + length s.before) s.inner) line ≡ true) e among)
among_part sought way behind line (part more before inner parts) step (inr later) among =
    among_behind (lines_from sought (way ++ more) (behind + length before) inner) (lines_among sought way behind parts) line
    (among_part sought way behind line parts step later among)

-- the lines of all forms that steps lead to are found
pub among_found : (sought way : List ℕ) (behind line : ℕ) (outer : Tree) (steps : List Step) (inner : Tree)
    → Leads outer steps inner → is_own_act (code_of inner) ≡ true → way ++ way_of steps ≡ sought
    → behind + lines_before steps + lead (own_of inner) ≡ line → is_among (lines_from sought way behind outer) line ≡ true
among_found sought way behind line (tree code own parts) [] inner leads acts way_is line_is =
    let here : is_own_act code ≡ true = ap (λ t. is_own_act (code_of t)) leads ∙ acts in
    let same : are_same way sought ≡ true = ap (λ w. are_same w sought) (sym (append-nil way) ∙ way_is) ∙ same_itself sought in
    let both : (is_own_act code && are_same way sought) ≡ true = rw here same in
    let alike : lead own ≡ lead (own_of inner) = ap (λ t. lead (own_of t)) leads in
    let far : behind + lead own ≡ line = omega (arith, line_is, alike) in
    let itself : (line == line) ≡ true = grind arith in
    among_front (one_line (is_own_act code && are_same way sought) (behind + lead own)) (lines_among sought way behind parts) line
    (ap (λ b. is_among (one_line b (behind + lead own)) line) both ∙ (ap (λ n. is_among (n ∷ []) line) far ∙ ap (λ b. b || false) itself))
among_found sought way behind line (tree code own parts) (step ∷ steps) inner leads acts way_is line_is =
    among_behind (one_line (is_own_act code && are_same way sought) (behind + lead own)) (lines_among sought way behind parts) line
    (among_part sought way behind line parts step leads.0
    (among_found sought (way ++ step.way) (behind + length step.before) line step.inner steps inner leads.1 acts
    (append_assoc way step.way (way_of steps) ∙ way_is) (omega (arith, line_is))))

-- ---- ways

-- a way leads to such a form
pub record Reaches (outer : Tree) (way : List ℕ) : Type 0 where
  pub steps : List Step
  pub inner : Tree
  pub leads : Leads outer steps inner
  pub way_is : way_of steps ≡ way
  pub acts : is_own_act (code_of inner) ≡ true

-- the form itself
reaches_itself : (outer : Tree) → is_own_act (code_of outer) ≡ true → Reaches outer []
reaches_itself outer acts = record { steps = []; inner = outer; leads = refl; way_is = refl; acts = acts }

-- by a step more
reaches_behind : (outer : Tree) (step : Step) (way : List ℕ) → IsPart step (parts_of outer) → Reaches step.inner way
    → Reaches outer (step.way ++ way)
reaches_behind outer step way is reaches = record {
  steps = step ∷ reaches.steps;
  inner = reaches.inner;
  leads = (is, reaches.leads);
  way_is = ap (λ w. step.way ++ w) reaches.way_is;
  acts = reaches.acts;
}

-- a way that is at its end is at the code
act_here : (code act : Counted) → Some code ≡ Some act → is_act act ≡ true → is_act code ≡ true
act_here code act is does = let same : code ≡ act = cc is in ap is_act same ∙ does

false_not : false ≡ true → ⊥
false_not is = cc is

module _ (setting : Setting) (variables : ℕ) where
  -- the step from an opening to the code behind it
  abbrev step_behind : (goal : Goal) (low x c : ℕ) (fields used : List ℕ) (y : ℕ) (rest : Tokened) (own : List Line) (high : ℕ)
      → CodeLines setting variables goal low (Tokened.open_cell x c fields used y rest) own high → Step
  step_behind goal low x c fields used y rest own high lines = record {
    way = 0 ∷ [];
    before = lines.0;
    inner = tree_behind setting variables None goal (low + 2) rest lines.1 high
        lines.3;
  }

  opening_part : (goal : Goal) (low x c : ℕ) (fields used : List ℕ) (y : ℕ) (rest : Tokened) (own : List Line) (high : ℕ)
      → (lines : CodeLines setting variables goal low (Tokened.open_cell x c fields used y rest) own high)
      → IsPart (step_behind goal low x c fields used y rest own high lines)
      (parts_of (tree_behind setting variables None goal low (Tokened.open_cell x c fields used y rest) own high lines))
  opening_part goal low x c fields used y rest own high lines =
      behind_entry lines.2.0 (variables + y) (low + 2)
      (lines_before_entry setting.base setting.holds low (low + 1) (low + 2) x fields used (variables + y) lines.2.0 lines.0
      lines.2.2) rest
      (part (0 ∷ []) lines.0 (tree_behind setting variables None goal (low + 2) rest lines.1 high lines.3) no_part)
      (step_behind goal low x c fields used y rest own high lines) (inl refl)

  mutual
    pub way_there : (left : Option Branching) (goal : Goal) (low : ℕ) (code : Tokened) (own : List Line) (high : ℕ)
        (lines : LinesBehind left setting variables goal low code own high) (way : List ℕ) (act : Counted)
        → code_at (bare code) way ≡ Some act → is_act act ≡ true
        → Reaches (tree_behind setting variables left goal low code own high lines) way
    way_there left goal low (Tokened.give x) own high lines [] act is does =
        absurd (false_not (act_here (bare (Tokened.give x)) act is does))
    way_there left goal low (Tokened.give x) own high lines (n ∷ way) act is does = cc is
    way_there left goal low (Tokened.tail_call f arguments) own high lines [] act is does =
        reaches_itself (tree_behind setting variables left goal low (Tokened.tail_call f arguments) own high lines) refl
    way_there left goal low (Tokened.tail_call f arguments) own high lines (n ∷ way) act is does = cc is
    way_there left goal low (Tokened.case x decisions arms) own high lines [] act is does =
        absurd (false_not (act_here (bare (Tokened.case x decisions arms)) act is does))
    way_there left goal low (Tokened.case x decisions arms) own high lines (n ∷ way) act is does =
        let there = arm_there goal low (lines.2 + length decisions) arms lines.1 high 0 lines.0 lines.5 n way act is does in
        let number : 0 + n ≡ n = omega arith in
        subst (λ w. Reaches (tree_behind setting variables left goal low (Tokened.case x decisions arms) own high lines) w)
        (ap (λ w. w ++ way) (there.1.1.0 ∙ ap (λ k. k ∷ []) number))
        (reaches_behind (tree_behind setting variables left goal low (Tokened.case x decisions arms) own high lines) there.0 way there.1.0
        there.1.1.1)
    way_there left goal low (Tokened.compute x form arguments others rest) own high lines [] act is does =
        reaches_itself (tree_behind setting variables left goal low (Tokened.compute x form arguments others rest) own high lines)
        (act_here (bare (Tokened.compute x form arguments others rest)) act is does)
    way_there left goal low (Tokened.compute x form arguments others rest) own high lines (zero ∷ way) act is does =
        reaches_behind (tree_behind setting variables left goal low (Tokened.compute x form arguments others rest) own high lines) _ way
        (inl refl)
        (way_there (branch_of form arguments lines.3) goal lines.2 rest lines.1 high lines.5 way act is does)
    way_there left goal low (Tokened.compute x form arguments others rest) own high lines (suc n ∷ way) act is does = cc is
    way_there left goal low (Tokened.inside x block rest) own high lines [] act is does =
        absurd (false_not (act_here (bare (Tokened.inside x block rest)) act is does))
    way_there left goal low (Tokened.inside x block rest) own high lines (zero ∷ way) act is does =
        reaches_behind (tree_behind setting variables left goal low (Tokened.inside x block rest) own high lines) _ way (inl refl)
        (way_there None (joins x low) (low + 1) block lines.0 lines.2 lines.3 way act is does)
    way_there left goal low (Tokened.inside x block rest) own high lines (suc zero ∷ way) act is does =
        reaches_behind (tree_behind setting variables left goal low (Tokened.inside x block rest) own high lines) _ way (inr (inl refl))
        (way_there None goal lines.2 rest lines.1 high lines.4 way act is does)
    way_there left goal low (Tokened.inside x block rest) own high lines (suc (suc n) ∷ way) act is does = cc is
    way_there left goal low (Tokened.read x c fields rest) own high lines [] act is does =
        absurd (false_not (act_here (bare (Tokened.read x c fields rest)) act is does))
    way_there left goal low (Tokened.read x c fields rest) own high lines (zero ∷ way) act is does =
        reaches_behind (tree_behind setting variables left goal low (Tokened.read x c fields rest) own high lines) _ way (inl refl)
        (way_there None goal low rest lines.1 high lines.3 way act is does)
    way_there left goal low (Tokened.read x c fields rest) own high lines (suc n ∷ way) act is does = cc is
    way_there left goal low (Tokened.open_cell x c fields used y rest) own high lines [] act is does =
        absurd (false_not (act_here (bare (Tokened.open_cell x c fields used y rest)) act is does))
    way_there left goal low (Tokened.open_cell x c fields used y rest) own high lines (zero ∷ way) act is does =
        reaches_behind (tree_behind setting variables left goal low (Tokened.open_cell x c fields used y rest) own high lines)
        (step_behind goal low x c fields used y rest own high lines) way (opening_part goal low x c fields used y rest own high
        lines)
        (way_there None goal (low + 2) rest lines.1 high lines.3 way act is does)
    way_there left goal low (Tokened.open_cell x c fields used y rest) own high lines (suc n ∷ way) act is does = cc is
    way_there left goal low (Tokened.if_unique x c fields used y rest) own high lines [] act is does =
        absurd (false_not (act_here (bare (Tokened.if_unique x c fields used y rest)) act is does))
    way_there left goal low (Tokened.if_unique x c fields used y rest) own high lines (zero ∷ way) act is does =
        reaches_behind (tree_behind setting variables left goal low (Tokened.if_unique x c fields used y rest) own high lines)
        (step_behind goal low x c fields used y rest own high lines) way (opening_part goal low x c fields used y rest own high
        lines)
        (way_there None goal (low + 2) rest lines.1 high lines.3 way act is does)
    way_there left goal low (Tokened.if_unique x c fields used y rest) own high lines (suc n ∷ way) act is does = cc is
    way_there left goal low (Tokened.dup x rest) own high lines [] act is does =
        absurd (false_not (act_here (bare (Tokened.dup x rest)) act is does))
    way_there left goal low (Tokened.dup x rest) own high lines (zero ∷ way) act is does =
        reaches_behind (tree_behind setting variables left goal low (Tokened.dup x rest) own high lines) _ way (inl refl)
        (way_there None goal low rest lines.0 high lines.1 way act is does)
    way_there left goal low (Tokened.dup x rest) own high lines (suc n ∷ way) act is does = cc is
    way_there left goal low (Tokened.drop x rest) own high lines [] act is does =
        absurd (false_not (act_here (bare (Tokened.drop x rest)) act is does))
    way_there left goal low (Tokened.drop x rest) own high lines (zero ∷ way) act is does =
        reaches_behind (tree_behind setting variables left goal low (Tokened.drop x rest) own high lines) _ way (inl refl)
        (way_there left goal low rest lines.0 high lines.1 way act is does)
    way_there left goal low (Tokened.drop x rest) own high lines (suc n ∷ way) act is does = cc is
    way_there left goal low (Tokened.fill x y c first arguments kept others rest) own high lines [] act is does =
        reaches_itself (tree_behind setting variables left goal low (Tokened.fill x y c first arguments kept others rest) own high lines)
        (act_here (bare (Tokened.fill x y c first arguments kept others rest)) act is does)
    way_there left goal low (Tokened.fill x y c first arguments kept others rest) own high lines (zero ∷ way) act is does =
        reaches_behind (tree_behind setting variables left goal low (Tokened.fill x y c first arguments kept others rest) own high lines) _ way
        (inl refl)
        (way_there None goal (low + 1) rest lines.1 high lines.3 way act is does)
    way_there left goal low (Tokened.fill x y c first arguments kept others rest) own high lines (suc n ∷ way) act is does = cc is
    way_there left goal low (Tokened.free y rest) own high lines way act is does =
        reaches_behind (tree_behind setting variables left goal low (Tokened.free y rest) own high lines) _ way (inl refl)
        (way_there None goal low rest lines.0 high lines.1 way act is does)
    way_there left goal low (Tokened.null y rest) own high lines way act is does =
        reaches_behind (tree_behind setting variables left goal low (Tokened.null y rest) own high lines) _ way (inl refl)
        (way_there None goal low rest lines.0 high lines.1 way act is does)
    way_there left goal low (Tokened.move to of rest) own high lines way act is does =
        reaches_behind (tree_behind setting variables left goal low (Tokened.move to of rest) own high lines) _ way (inl refl)
        (way_there None goal low rest lines.0 high lines.1 way act is does)
    way_there left goal low (Tokened.hold y rest) own high lines way act is does =
        reaches_behind (tree_behind setting variables left goal low (Tokened.hold y rest) own high lines) _ way (inl refl)
        (way_there None goal low rest lines.0 high lines.1 way act is does)
    way_there left goal low (Tokened.unhold y rest) own high lines way act is does =
        reaches_behind (tree_behind setting variables left goal low (Tokened.unhold y rest) own high lines) _ way (inl refl)
        (way_there None goal low rest lines.0 high lines.1 way act is does)
    way_there left goal low (Tokened.if_token y there absent) own high lines way act is does =
        reaches_behind (tree_behind setting variables left goal low (Tokened.if_token y there absent) own high lines) _ way (inl refl)
        (way_there None goal (low + 1) there lines.0 lines.2 lines.3 way act is does)

    arm_there : (goal : Goal) (label low : ℕ) (arms : TokenedArms) (own : List Line) (high row : ℕ) (before : List Line)
        (lines : ArmsLines setting variables goal label low arms own high) (index : ℕ) (way : List ℕ) (act : Counted)
        → and_then (arm_at (bare_arms arms) index) (λ c. code_at c way) ≡ Some act → is_act act ≡ true
        → (step : Step) × (IsPart step (arms_in setting variables goal label low arms own high row before lines)
        × ((step.way ≡ (row + index) ∷ []) × Reaches step.inner way))
    arm_there goal label low TokenedArms.no_arm own high row before lines index way act is does = cc is
    arm_there goal label low (TokenedArms.arm body rest) own high row before lines zero way act is does =
        let number : row ≡ row + 0 = omega arith in (
          _,
          (inl refl, (ap (λ k. k ∷ []) number, way_there None goal low body lines.0 lines.2 lines.3 way act is does)),
        )
    arm_there goal label low (TokenedArms.arm body rest) own high row before lines (suc index) way act is does =
        let later = arm_there goal (label + 1) lines.2 rest lines.1 high (suc row)
        (before ++ (acts (Label label) [] ∷ lines.0)) lines.4 index way act is does in
        let number : suc row + index ≡ row + suc index = omega arith in
        (later.0, (inr later.1.0, (later.1.1.0 ∙ ap (λ k. k ∷ []) number, later.1.1.1)))
