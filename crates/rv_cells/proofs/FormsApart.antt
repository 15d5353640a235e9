-- The parts of a code stand one behind the other among its lines, so that a line is of one of them alone.
use Rattle.std.proofs.Common.{◌≡◌, ℕ, zero, suc, ◌+◌, ◌≤◌, ◌<◌, inl, inr, List, [], ◌∷◌, ◌++◌, length, Option, Some, None, true, refl, sym, ◌∙◌, ap, subst, arith, append_assoc}
use Rattle.std.specs.Prelude.{slice_get}
use Rattle.std.proofs.lemmas.List.{append-nil, length-append}
use Rattle.kk_counted.specs.TokenedCodes.{Tokened, TokenedArms}
use Rattle.rv_isa.specs.declared.asm.Action.TheVariants.{Compute, Label, Branch}
use Rattle.rv_isa.specs.declared.asm.Condition.TheVariants.{Equal}
use Rattle.rv_isa.specs.declared.asm.Operation.TheVariants as Op
use Rattle.rv_isa.specs.AsmCode.{Line}
use Rattle.rv_lower.specs.Lines.{sets, copies_to, acts}
use Rattle.rv_lower.specs.Lowered.{Goal, joins}
use Rattle.rv_cells.specs.CellLines.{dup_lines, drop_lines, hold_line, back_line, TokenUniqueLines}
use Rattle.rv_cells.specs.declared.compare.Branching.{Branching}
use Rattle.rv_cells.specs.ComparisonBranch.{branch_of}
use Rattle.rv_cells.specs.CountedLines.{Setting}
use Rattle.rv_cells.specs.TokenedLines.{OpeningLines, LinesBehind, CodeLines, ArmsLines}
use Rattle.rv_cells.proofs.FormArities.{FitArities, FitAllArities, is_own_act, lead, get_left, get_below, StartsBehind, IsOwn, entry_own, act_own}
use Rattle.rv_cells.proofs.FormPlaces.{Tree, tree, Parts, no_part, part, code_of, own_of, parts_of, Step, IsPart, Leads, way_of, lines_before, entry_lines, entry_part, entry_there, lines_before_entry, parts_behind, arms_in, tree_in}

-- ---- order

-- Each part has its lines among those of the code, and no part begins before the one in front of it ends. A call, a print and a
-- construction with fields has a first line of its own.
abbrev mutual
  pub IsOrderly : Tree → Type 0
  IsOrderly (tree code own parts) = (is_own_act code ≡ true → IsOwn own parts) × AreOrderly own 0 parts

  pub AreOrderly : List Line → ℕ → Parts → Type 0
  AreOrderly own first no_part = Unit {0}
  AreOrderly own first (part way before inner more) =
      (first ≤ length before) × (((after : List Line) × (own ≡ before ++ (own_of inner ++ after)))
      × (IsOrderly inner × AreOrderly own (length before + length (own_of inner)) more))

-- they may begin earlier
orderly_less : (own : List Line) (first less : ℕ) (parts : Parts) → less ≤ first → AreOrderly own first parts
    → AreOrderly own less parts
orderly_less own first less no_part low are = tt
orderly_less own first less (part way before inner more) low are = (omega (arith, low, are.0), are.1)

-- lines with others behind them
before_all : (own first more : List Line) → own ≡ first ++ more → own ≡ first ++ (more ++ [])
before_all own first more is = is ∙ ap (λ ls. first ++ ls) (sym (append-nil more))

-- behind lines, others and a line
behind_two : (own first second more : List Line) (line : Line) → own ≡ first ++ (second ++ (line ∷ more))
    → own ≡ ((first ++ second) ++ (line ∷ [])) ++ (more ++ [])
behind_two own first second more line is =
    before_all own ((first ++ second) ++ (line ∷ [])) more
    (is ∙ sym (append_assoc first second (line ∷ more)) ∙ sym (append_assoc (first ++ second) (line ∷ []) more))

-- lines with a line more are as long and one longer
one_longer : (first : List Line) (line : Line) → length first ≤ length (first ++ (line ∷ []))
one_longer first line = let sum = length-append first (line ∷ []) in omega arith

two_longer : (first second : List Line) (line : Line) → length first + length second ≤ length ((first ++ second) ++ (line ∷ []))
two_longer first second line =
    let sum = length-append first second in
    let more = one_longer (first ++ second) line in
    omega arith

module _ (setting : Setting) (variables : ℕ) where
  -- an opening, and the code behind it, which may be gone on with in the midst of its lines too
  opening_orderly : (goal : Goal) (low x : ℕ) (fields used : List ℕ) (y : ℕ) (rest : Tokened) (own first more : List Line) (high :
      ℕ)
      (opening : OpeningLines setting variables low x fields used y rest first)
      (lines : LinesBehind None setting variables goal (low + 2) rest more high) → own ≡ first ++ more
      → (is_own_act rest ≡ true → IsOwn more (parts_behind setting variables None goal (low + 2) rest more high lines))
      → AreOrderly more 0 (parts_behind setting variables None goal (low + 2) rest more high lines)
      → AreOrderly own 0 (entry_part opening.0 (variables + y) (low + 2)
      (lines_before_entry setting.base setting.holds low (low + 1) (low + 2) x fields used (variables + y) opening.0 first
      opening.2) rest
      (part (0 ∷ []) first (tree rest more (parts_behind setting variables None goal (low + 2) rest more high lines)) no_part))
  opening_orderly goal low x fields used y rest own first more high opening lines is act are = by opening.0 opening.2
    where
      by : (into : Option ℕ)
          (uniques : TokenUniqueLines setting.base setting.holds low (low + 1) (low + 2) x fields used (variables + y) into first)
          → AreOrderly own 0 (entry_part into (variables + y) (low + 2)
          (lines_before_entry setting.base setting.holds low (low + 1) (low + 2) x fields used (variables + y) into first uniques)
          rest
          (part (0 ∷ []) first (tree rest more (parts_behind setting variables None goal (low + 2) rest more high lines)) no_part))
      by None uniques = (omega arith, (([], before_all own first more is), ((act, are), tt)))
      by (Some into) uniques =
          let before = lines_before_entry setting.base setting.holds low (low + 1) (low + 2) x fields used (variables + y) (Some
          into) first
          uniques in
          let entry = entry_lines (variables + y) into (low + 2) in
          let there = entry_there setting.base setting.holds low (low + 1) (low + 2) x fields used (variables + y) into first
          uniques in
          let whole : own ≡ before ++ (entry ++ (there.0 ++ more))
          = is ∙ ap (λ ls. ls ++ more) there.1 ∙ append_assoc before (entry ++ there.0) more in
          let long = ap length there.1 in
          let sum = length-append before (entry ++ there.0) in (
            omega arith,
            (
              (there.0 ++ more, whole),
              (
                (λ does. entry_own (variables + y) into (low + 2), tt),
                (omega (arith, long, sum), (([], before_all own first more is), ((act, are), tt))),
              ),
            ),
          )

  mutual
    -- the parts of a code are in order
    pub orderly : (left : Option Branching) (goal : Goal) (low : ℕ) (code : Tokened) (own : List Line) (high : ℕ)
        (lines : LinesBehind left setting variables goal low code own high) → FitArities code
        → AreOrderly own 0 (parts_behind setting variables left goal low code own high lines)
    orderly left goal low (Tokened.give x) own high lines a = tt
    orderly left goal low (Tokened.tail_call f arguments) own high lines a = tt
    orderly left goal low (Tokened.case x decisions arms) own high lines a =
        orderly_less own (length lines.0) 0
        (arms_in setting variables goal low (lines.2 + length decisions) arms lines.1 high 0 lines.0 lines.5) (omega arith)
        (arms_orderly goal low (lines.2 + length decisions) arms lines.1 high 0 lines.0 lines.5 own lines.6 a)
    orderly left goal low (Tokened.compute x form arguments others rest) own high lines a = (
      omega arith,
      (
        ([], before_all own lines.0 lines.1 lines.7),
        (
          (
            act_own setting variables (branch_of form arguments lines.3) goal lines.2 rest lines.1 high lines.5 a.1,
            orderly (branch_of form arguments lines.3) goal lines.2 rest lines.1 high lines.5 a.1,
          ),
          tt,
        ),
      ),
    )
    orderly left goal low (Tokened.inside x block rest) own high lines a =
        let label = acts (Label low) [] in (
          omega arith,
          (
            (label ∷ lines.1, lines.5),
            (
              (
                act_own setting variables None (joins x low) (low + 1) block lines.0 lines.2 lines.3 a.0,
                orderly None (joins x low) (low + 1) block lines.0 lines.2 lines.3 a.0,
              ),
              (
                (let more = one_longer lines.0 label in omega (arith, more)),
                (
                  ([], behind_two own [] lines.0 lines.1 label lines.5),
                  (
                    (
                      act_own setting variables None goal lines.2 rest lines.1 high lines.4 a.1,
                      orderly None goal lines.2 rest lines.1 high lines.4 a.1,
                    ),
                    tt,
                  ),
                ),
              ),
            ),
          ),
        )
    orderly left goal low (Tokened.read x c fields rest) own high lines a = (
      omega arith,
      (
        ([], before_all own lines.0 lines.1 lines.4),
        (
          (
            act_own setting variables None goal low rest lines.1 high lines.3 a,
            orderly None goal low rest lines.1 high lines.3 a,
          ),
          tt,
        ),
      ),
    )
    orderly left goal low (Tokened.open_cell x c fields used y rest) own high lines a =
        opening_orderly goal low x fields used y rest own lines.0 lines.1 high lines.2 lines.3 lines.4
        (act_own setting variables None goal (low + 2) rest lines.1 high lines.3 a)
        (orderly None goal (low + 2) rest lines.1 high lines.3 a)
    orderly left goal low (Tokened.if_unique x c fields used y rest) own high lines a =
        opening_orderly goal low x fields used y rest own lines.0 lines.1 high lines.2 lines.3 lines.4
        (act_own setting variables None goal (low + 2) rest lines.1 high lines.3 a)
        (orderly None goal (low + 2) rest lines.1 high lines.3 a)
    orderly left goal low (Tokened.fill x y c first arguments kept others rest) own high lines a = (
      omega arith,
      (
        ([], before_all own lines.0 lines.1 lines.4),
        (
          (
            act_own setting variables None goal (low + 1) rest lines.1 high lines.3 a,
            orderly None goal (low + 1) rest lines.1 high lines.3 a,
          ),
          tt,
        ),
      ),
    )
    orderly left goal low (Tokened.dup x rest) own high lines a = (
      omega arith,
      (
        ([], before_all own (dup_lines setting.holds x) lines.0 lines.2),
        (
          (
            act_own setting variables None goal low rest lines.0 high lines.1 a,
            orderly None goal low rest lines.0 high lines.1 a,
          ),
          tt,
        ),
      ),
    )
    orderly left goal low (Tokened.drop x rest) own high lines a = (
      omega arith,
      (
        ([], before_all own (drop_lines setting.holds x) lines.0 lines.2),
        (
          (
            act_own setting variables left goal low rest lines.0 high lines.1 a,
            orderly left goal low rest lines.0 high lines.1 a,
          ),
          tt,
        ),
      ),
    )
    orderly left goal low (Tokened.free y rest) own high lines a = (
      omega arith,
      (
        ([], before_all own (acts (Compute Op.Free) ((variables + y) ∷ []) ∷ []) lines.0 lines.2),
        (
          (
            act_own setting variables None goal low rest lines.0 high lines.1 a,
            orderly None goal low rest lines.0 high lines.1 a,
          ),
          tt,
        ),
      ),
    )
    orderly left goal low (Tokened.null y rest) own high lines a = (
      omega arith,
      (
        ([], before_all own (sets 0 (variables + y) ∷ []) lines.0 lines.2),
        (
          (
            act_own setting variables None goal low rest lines.0 high lines.1 a,
            orderly None goal low rest lines.0 high lines.1 a,
          ),
          tt,
        ),
      ),
    )
    orderly left goal low (Tokened.move to of rest) own high lines a = (
      omega arith,
      (
        ([], before_all own (copies_to (variables + of) (variables + to) ∷ []) lines.0 lines.2),
        (
          (
            act_own setting variables None goal low rest lines.0 high lines.1 a,
            orderly None goal low rest lines.0 high lines.1 a,
          ),
          tt,
        ),
      ),
    )
    orderly left goal low (Tokened.hold y rest) own high lines a = (
      omega arith,
      (
        ([], before_all own (hold_line (variables + y) ∷ []) lines.0 lines.2),
        (
          (
            act_own setting variables None goal low rest lines.0 high lines.1 a,
            orderly None goal low rest lines.0 high lines.1 a,
          ),
          tt,
        ),
      ),
    )
    orderly left goal low (Tokened.unhold y rest) own high lines a = (
      omega arith,
      (
        ([], before_all own (back_line (variables + y) ∷ []) lines.0 lines.2),
        (
          (
            act_own setting variables None goal low rest lines.0 high lines.1 a,
            orderly None goal low rest lines.0 high lines.1 a,
          ),
          tt,
        ),
      ),
    )
    orderly left goal low (Tokened.if_token y there absent) own high lines a =
        let test : List Line = acts (Branch Equal low) ((variables + y) ∷ []) ∷ [] in
        let label = acts (Label low) [] in (
          omega arith,
          (
            (label ∷ lines.1, lines.5),
            (
              (
                act_own setting variables None goal (low + 1) there lines.0 lines.2 lines.3 a.0,
                orderly None goal (low + 1) there lines.0 lines.2 lines.3 a.0,
              ),
              (
                two_longer test lines.0 label,
                (
                  ([], behind_two own test lines.0 lines.1 label lines.5),
                  (
                    (
                      act_own setting variables None goal lines.2 absent lines.1 high lines.4 a.1,
                      orderly None goal lines.2 absent lines.1 high lines.4 a.1,
                    ),
                    tt,
                  ),
                ),
              ),
            ),
          ),
        )

    -- so are the arms of a case
    arms_orderly : (goal : Goal) (label low : ℕ) (arms : TokenedArms) (own : List Line) (high row : ℕ) (before : List Line)
        (lines : ArmsLines setting variables goal label low arms own high) (whole : List Line) → whole ≡ before ++ own
        → FitAllArities arms
        → AreOrderly whole (length before) (arms_in setting variables goal label low arms own high row before lines)
    arms_orderly goal label low TokenedArms.no_arm own high row before lines whole is a = tt
    arms_orderly goal label low (TokenedArms.arm body rest) own high row before lines whole is a =
        let line = acts (Label label) [] in
        let behind : whole ≡ (before ++ (line ∷ [])) ++ (lines.0 ++ lines.1)
        = is ∙ ap (λ ls. before ++ ls) lines.5 ∙ sym (append_assoc before (line ∷ []) (lines.0 ++ lines.1)) in
        let later : whole ≡ (before ++ (line ∷ lines.0)) ++ lines.1
        = is ∙ ap (λ ls. before ++ ls) lines.5 ∙ sym (append_assoc before (line ∷ lines.0) lines.1) in
        let long = length-append before (line ∷ lines.0) in
        let one = length-append before (line ∷ []) in (
          one_longer before line,
          (
            (lines.1, behind),
            (
              (
                act_own setting variables None goal low body lines.0 lines.2 lines.3 a.0,
                orderly None goal low body lines.0 lines.2 lines.3 a.0,
              ),
              orderly_less whole (length (before ++ (line ∷ lines.0))) (length (before ++ (line ∷ [])) + length lines.0)
                  (arms_in setting variables goal (label + 1) lines.2 rest lines.1 high (suc row) (before ++ (line ∷ lines.0))
                  lines.4)
                  (omega arith)
                  (arms_orderly goal (label + 1) lines.2 rest lines.1 high (suc row) (before ++ (line ∷ lines.0)) lines.4 whole
                  later a.1),
            ),
          ),
        )

  -- so the tree of a code is in order
  pub tree_orderly : (goal : Goal) (low : ℕ) (code : Tokened) (own : List Line) (high : ℕ)
      (lines : CodeLines setting variables goal low code own high) → FitArities code
      → IsOrderly (tree_in setting variables goal low code own high lines)
  tree_orderly goal low code own high lines a =
      (act_own setting variables None goal low code own high lines a, orderly None goal low code own high lines a)

-- ---- steps

-- where a part stands
part_there : (own : List Line) (first : ℕ) (parts : Parts) (step : Step) → AreOrderly own first parts → IsPart step parts
    → (first ≤ length step.before) × (((after : List Line) × (own ≡ step.before ++ (own_of step.inner ++ after)))
    × IsOrderly step.inner)
part_there own first no_part step are is = absurd is
part_there own first (part way before inner more) step are (inl e) =
    subst (λ (s : Step). (first ≤ length s.before) × (((after : List Line) × (own ≡ s.before ++ (own_of s.inner ++ after)))
    × IsOrderly s.inner)) (sym e) (are.0, (are.1.0, are.1.1.0))
part_there own first (part way before inner more) step are (inr later) =
    let there = part_there own (length before + length (own_of inner)) more step are.1.1.1 later in
    let low = are.0 in
    let high = there.0 in
    (omega arith, there.1)

-- a code inside has its lines among those of the code around it
pub leads_within : (outer : Tree) (steps : List Step) (inner : Tree) → IsOrderly outer → Leads outer steps inner
    → (lines_before steps + length (own_of inner) ≤ length (own_of outer)) × IsOrderly inner
leads_within outer [] inner are leads =
    subst (λ t. (0 + length (own_of t) ≤ length (own_of outer)) × IsOrderly t) leads (omega arith, are)
leads_within (tree code own parts) (step ∷ steps) inner are leads =
    let there = part_there own 0 parts step are.1 leads.0 in
    let later = leads_within step.inner steps inner there.1.1 leads.1 in
    let long = ap length there.1.0.1 in
    let one = length-append step.before (own_of step.inner ++ there.1.0.0) in
    let two = length-append (own_of step.inner) there.1.0.0 in
    let few = later.0 in
    (omega arith, later.1)

get_right : (xs ys : List Line) (k n : ℕ) → n ≡ length xs + k → slice_get (xs ++ ys) n ≡ slice_get ys k
get_right [] ys k n is = let same : n ≡ k = omega (arith, is) in ap (slice_get ys) same
get_right (x ∷ xs) ys k zero is = absurd (omega (arith, is))
get_right (x ∷ xs) ys k (suc n) is = get_right xs ys k n (omega (arith, is))

-- and there they stand
pub line_there : (outer : Tree) (steps : List Step) (inner : Tree) (k : ℕ) (line : Line) → IsOrderly outer
    → Leads outer steps inner → slice_get (own_of inner) k ≡ Some line
    → slice_get (own_of outer) (lines_before steps + k) ≡ Some line
line_there outer [] inner k line are leads is =
    let none : 0 + k ≡ k = omega arith in
    ap (slice_get (own_of outer)) none ∙ ap (λ t. slice_get (own_of t) k) leads ∙ is
line_there (tree code own parts) (step ∷ steps) inner k line are leads is =
    let there = part_there own 0 parts step are.1 leads.0 in
    let later = line_there step.inner steps inner k line there.1.1 leads.1 is in
    let after = there.1.0.0 in
    ap (λ ls. slice_get ls (length step.before + lines_before steps + k)) there.1.0.1
    ∙ get_right step.before (own_of step.inner ++ after) (lines_before steps + k) (length step.before + lines_before steps + k)
    (omega arith)
    ∙ get_left (own_of step.inner) after (lines_before steps + k) line later

-- ---- lines of one form alone

-- two parts that have one line are one
same_part : (own : List Line) (first : ℕ) (parts : Parts) (s r : Step) (a b : ℕ) → AreOrderly own first parts → IsPart s parts
    → IsPart r parts → a < length (own_of s.inner) → b < length (own_of r.inner) → length s.before + a ≡ length r.before + b
    → s ≡ r
same_part own first no_part s r a b are one two low high is = absurd one
same_part own first (part way before inner more) s r a b are (inl e) (inl f) low high is = e ∙ sym f
same_part own first (part way before inner more) s r a b are (inl e) (inr later) low high is =
    let there = part_there own (length before + length (own_of inner)) more r are.1.1.1 later in
    let far = there.0 in
    let here = ap (λ (step : Step). length step.before) e in
    let long = ap (λ (step : Step). length (own_of step.inner)) e in
    absurd (omega (arith, far, here, long, low, is))
same_part own first (part way before inner more) s r a b are (inr later) (inl f) low high is =
    let there = part_there own (length before + length (own_of inner)) more s are.1.1.1 later in
    let far = there.0 in
    let here = ap (λ (step : Step). length step.before) f in
    let long = ap (λ (step : Step). length (own_of step.inner)) f in
    absurd (omega (arith, far, here, long, high, is))
same_part own first (part way before inner more) s r a b are (inr one) (inr two) low high is =
    same_part own (length before + length (own_of inner)) more s r a b are.1.1.1 one two low high is

-- a form with a line of its own has it
pub own_line : (t : Tree) → IsOrderly t → is_own_act (code_of t) ≡ true → IsOwn (own_of t) (parts_of t)
own_line (tree code own parts) are act = are.0 act

-- behind its copies
lead_within : (t : Tree) → IsOwn (own_of t) (parts_of t) → lead (own_of t) < length (own_of t)
lead_within t own = get_below (own_of t) (lead (own_of t)) own.begins.line own.begins.is

-- where no part begins before a line, none does
starts_orderly : (own : List Line) (first : ℕ) (parts : Parts) → AreOrderly own 0 parts → StartsBehind first parts
    → AreOrderly own first parts
starts_orderly own first no_part are starts = tt
starts_orderly own first (part way before inner more) are starts = (starts, are.1)

-- no part begins before the line of a form with a line of its own, or there
begins_behind : (outer inner : Tree) (step : Step) (steps : List Step) (more : ℕ) → IsOrderly outer → outer ≡ inner
    → IsOwn (own_of inner) (parts_of inner) → IsPart step (parts_of outer)
    → lead (own_of inner) ≡ lines_before (step ∷ steps) + more → ⊥
begins_behind (tree code own parts) inner step steps more are same is_own is none =
    let here : IsOwn own parts = subst (λ t. IsOwn (own_of t) (parts_of t)) (sym same) is_own in
    let there = part_there own (suc (lead own)) parts step (starts_orderly own (suc (lead own)) parts are.1 here.apart) is in
    let far = there.0 in
    let alike : lead own ≡ lead (own_of inner) = ap (λ t. lead (own_of t)) same in
    omega (arith, far, none, alike)

-- forms that have one line behind the copies that they begin with are reached by one way
pub one_way : (outer : Tree) (steps others : List Step) (u v : Tree) → IsOrderly outer → Leads outer steps u → Leads outer others v
    → is_own_act (code_of u) ≡ true → is_own_act (code_of v) ≡ true
    → lines_before steps + lead (own_of u) ≡ lines_before others + lead (own_of v)
    → way_of steps ≡ way_of others
one_way outer [] [] u v are one two act other is = refl
one_way outer [] (r ∷ rs) u v are one two act other is =
    absurd (begins_behind outer u r rs (lead (own_of v)) are one (own_line u (leads_within outer [] u are one).1 act) two.0
    (omega (arith, is)))
one_way outer (s ∷ ss) [] u v are one two act other is =
    absurd (begins_behind outer v s ss (lead (own_of u)) are two (own_line v (leads_within outer [] v are two).1 other) one.0
    (omega (arith, is)))
one_way (tree code own_lines parts) (s ∷ ss) (r ∷ rs) u v are one two act other is =
    let there = part_there own_lines 0 parts s are.1 one.0 in
    let there_too = part_there own_lines 0 parts r are.1 two.0 in
    let few = leads_within s.inner ss u there.1.1 one.1 in
    let few_too = leads_within r.inner rs v there_too.1.1 two.1 in
    let low = few.0 in
    let low_too = few_too.0 in
    let some = lead_within u (own_line u few.1 act) in
    let some_too = lead_within v (own_line v few_too.1 other) in
    let same : s ≡ r = same_part own_lines 0 parts s r (lines_before ss + lead (own_of u)) (lines_before rs + lead (own_of v))
    are.1 one.0 two.0 (omega (arith, low, some)) (omega (arith, low_too, some_too)) (omega (arith, is)) in
    let behind = ap (λ (step : Step). length step.before) same in
    let later = one_way s.inner ss rs u v there.1.1 one.1 (subst (λ (step : Step). Leads step.inner rs v) (sym same) two.1) act other
    (omega (arith, behind, is)) in
    ap (λ (way : List ℕ). s.way ++ way) later ∙ ap (λ (step : Step). step.way ++ way_of rs) same
