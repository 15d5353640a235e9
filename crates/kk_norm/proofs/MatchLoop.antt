-- How far the loop over the rows of a match has come, and what an arm and a case add.
use Rattle.std.proofs.Common.{◌≡◌, ℕ, ◌+◌, ◌^◌, ◌<◌, ◌≤◌, Bool, false, List, [], ◌∷◌, ◌++◌, length, map, drop, refl, sym, ap, subst, ◌∙◌, arith, append_assoc}
use Rattle.std.proofs.lemmas.List.{append-nil, drop_all}
use Rattle.kk_syntax.specs.declared.program.Row.{Row}
use Rattle.kk_syntax.specs.Patterns.{Pattern, pattern_tree}
use Rattle.kk_syntax.specs.Programs.{ConstructorTree}
use Rattle.kk_syntax.specs.Trees.{Tree, match, Rows, no_row, row, row_parts, row_tree, rows_of}
use Rattle.kk_syntax.proofs.Views.{row_tree_is}
use Rattle.kk_core.specs.Codes.{Code, inside, case, Arms, arm, ArmCode, arms_of, runs, plug, step_piece}
use Rattle.kk_core.specs.Decisions.{NodeTree}
use Rattle.kk_norm.specs.declared.writer.Writer.{Writer}
use Rattle.kk_norm.specs.MatchDecisions.{AreDecisions}
use Rattle.kk_syntax.proofs.Elements.{each_parts}
use Rattle.kk_syntax.specs.Shapes.{gathered, gathered_rows}
use Rattle.kk_norm.specs.MatchRows.{gathers_rows, MatchesHaveRows, IsSomeRow, BodiesHaveRows}
use Rattle.kk_norm.proofs.MatchRows.{of_body}
use Rattle.kk_norm.proofs.WriterLoops.{case_as_value, case_as_end}
use Rattle.kk_norm.specs.Names.{Names}
use Rattle.kk_norm.specs.Normalized.{final, next, pattern_size, size, size_rows, opened, pattern_names, patterns_in, IsCode, AreArms}
use Rattle.kk_norm.specs.Written.{names_of, behind, WritesStep, WritesValue, WritesEnd, WritesOpenings, WritesArm, WritesArms, WritesCase}

-- ---- an arm

-- an arm is written where there were no steps: what its pattern opens, and then its body
pub arm_done : {constructors : List ConstructorTree} → (tail : Bool) (pattern : Pattern) (body : Tree) (a : ℕ)
    (old began now ended new : Writer) (last block : Code)
    → began.next ≡ old.next → began.names.items ≡ old.names.items → began.steps.items ≡ [] → WritesOpenings pattern a began now
    → WritesEnd constructors tail body now ended last → block ≡ behind ended last → new.next ≡ ended.next
    → new.names.items ≡ old.names.items
    → new.steps.items ≡ old.steps.items → WritesArm constructors tail pattern body a old new block
arm_done {constructors} tail pattern body a old began now ended new last block number names none opens writes block_is number_kept
    names_kept steps_kept =
    let one = writes.steps in
    let named : names_of now.names.items ≡ pattern_names a old.next pattern (names_of old.names.items)
    = opens.named ∙ (ap (λ n. pattern_names a n pattern (names_of began.names.items)) number
    ∙ ap (λ some. pattern_names a old.next pattern (names_of some)) names) in
    let at : now.next ≡ old.next + pattern_size pattern = opens.number ∙ ap (λ n. n + pattern_size pattern) number in
    record {
      number = omega (arith, number_kept, writes.number, at);
      names = names_kept;
      steps = steps_kept;
      code = one.0;
      block_is =
          block_is
          ∙ (one.2
          ∙ (opens.steps one.0
          ∙ (ap (λ items. plug (map step_piece items) (opened a began.next pattern one.0)) none
          ∙ ap (λ n. opened a n pattern one.0) number)));
      coded =
          subst (λ (n : ℕ). IsCode constructors (final tail)
          (pattern_names a old.next pattern (names_of old.names.items)) n body one.0) at
          (subst (λ (some : Names). IsCode constructors (final tail) some now.next body one.0) named one.1);
    }

-- ---- arms

-- of all rows some are left, and the others have their arms
pub record ArmsSoFar (constructors : List ConstructorTree) (tail : Bool) (a : ℕ) (old now : Writer) (left all : Rows)
    (arms : List ArmCode) : Type 0 where
  pub number : now.next + size_rows left ≡ old.next + size_rows all
  pub names : now.names.items ≡ old.names.items
  pub steps : now.steps.items ≡ old.steps.items
  pub arms_are : (more : List ArmCode) → AreArms constructors (final tail) (names_of old.names.items) a now.next left (arms_of more)
      → AreArms constructors (final tail) (names_of old.names.items) a old.next all (arms_of (arms ++ more))
  pub bodies : BodiesHaveRows left

pub arms_start : {constructors : List ConstructorTree} → (tail : Bool) (a : ℕ) (writer : Writer) (all : Rows) → BodiesHaveRows all
    → ArmsSoFar constructors tail a writer writer all all []
arms_start tail a writer all bodies =
    record { number = refl; names = refl; steps = refl; arms_are = λ more are. are; bodies = bodies }

pub arms_more : {constructors : List ConstructorTree} → (tail : Bool) (a : ℕ) (old now new : Writer) (pattern : Pattern)
    (body : Tree) (left all : Rows) (arms : List ArmCode) (block : Code)
    → ArmsSoFar constructors tail a old now (row (row_parts pattern body) left) all arms
    → WritesArm constructors tail pattern body a now new block
    → ArmsSoFar constructors tail a old new left all (arms ++ record { pattern = pattern; body = block } ∷ [])
arms_more {constructors} tail a old now new pattern body left all arms block so_far writes =
    let names : Names = names_of old.names.items in
    let here : names_of now.names.items ≡ names = ap names_of so_far.names in
    let one : ArmCode = record { pattern = pattern; body = block } in
    record {
      number = omega (arith, writes.number, so_far.number);
      names = writes.names ∙ so_far.names;
      steps = writes.steps ∙ so_far.steps;
      arms_are = λ more are.
          subst (λ (some : List ArmCode). AreArms constructors (final tail) names a old.next all (arms_of some))
          (sym (append_assoc arms (one ∷ []) more))
          (so_far.arms_are (one ∷ more) (
            writes.code,
            arms_of more,
            ap (λ code. arm pattern code (arms_of more)) writes.block_is,
            subst (λ (some : Names). IsCode constructors (final tail) (pattern_names a now.next pattern some)
                (now.next + pattern_size pattern) body writes.code) here writes.coded,
            subst (λ (n : ℕ). AreArms constructors (final tail) names a n left (arms_of more)) writes.number are,
          ));
      bodies = (of_body pattern body left so_far.bodies).1;
    }

pub arms_done : {constructors : List ConstructorTree} → (tail : Bool) (a : ℕ) (old now : Writer) (all : Rows) (arms : List ArmCode)
    → ArmsSoFar constructors tail a old now no_row all arms → WritesArms constructors tail all a old now (arms_of arms)
arms_done {constructors} tail a old now all arms so_far =
    record {
      number = omega (arith, so_far.number);
      names = so_far.names;
      steps = so_far.steps;
      arms_are = subst (λ (some : List ArmCode). AreArms constructors (final tail) (names_of old.names.items) a old.next all
          (arms_of some)) (append-nil arms)
          (so_far.arms_are [] refl);
    }

-- what is asked of the call in the loop
pub arm_asked : {constructors : List ConstructorTree} → (tail : Bool) (a : ℕ) (old now : Writer) (left all : Rows)
    (arms : List ArmCode) (pattern : Pattern) (body : Tree) (rest : Rows)
    → ArmsSoFar constructors tail a old now left all arms → left ≡ row (row_parts pattern body) rest → old.next + size_rows all < 2 ^ 32
    → MatchesHaveRows body × (now.next + pattern_size pattern + size body < 2 ^ 32)
arm_asked {constructors} tail a old now left all arms pattern body rest so_far is room =
    let here : ArmsSoFar constructors tail a old now (row (row_parts pattern body) rest) all arms = subst
    (λ (rows : Rows). ArmsSoFar constructors tail a old now rows all arms) is so_far in
    ((of_body pattern body rest here.bodies).0, omega (arith, here.number))

-- ---- cases

-- what is asked of the call for a case
pub case_asked : (e scrutinee : Tree) (rows : Rows) (n : ℕ) → e ≡ match scrutinee rows → MatchesHaveRows e → n + size e < 2 ^ 32
    → MatchesHaveRows scrutinee × (IsSomeRow rows × (BodiesHaveRows rows × (n + size scrutinee + size_rows rows < 2 ^ 32)))
case_asked e scrutinee rows n is plain room =
    let whole : MatchesHaveRows (match scrutinee rows) = subst (λ (one : Tree). MatchesHaveRows one) is plain in
    let parts = each_parts IsSomeRow (gathered gathers_rows scrutinee) (gathered_rows gathers_rows rows) whole.1 in
    (parts.0, (whole.0, (parts.1, omega (arith, ap size is, room))))

-- a scrutinee and the arms of its rows
pub case_done : {constructors : List ConstructorTree} → (tail : Bool) (e : Tree) (rows : Rows) (old first new : Writer) (x : ℕ)
    (decisions : List NodeTree) (arms : Arms) (last : Code)
    → WritesValue constructors e old first x → AreDecisions constructors (patterns_in rows) decisions
    → WritesArms constructors tail rows x first new arms
    → last ≡ case x decisions arms → WritesCase constructors tail e rows old new last
case_done {constructors} tail e rows old first new x decisions arms last writes decides one last_is =
    let names : Names = names_of old.names.items in
    record {
      number = omega (arith, one.number, writes.number);
      names = one.names ∙ writes.names;
      last_is = (
        decisions,
        arms,
        decides,
        subst (λ (a : ℕ). AreArms constructors (final tail) names a (old.next + size e) rows arms) writes.value
            (subst (λ (n : ℕ). AreArms constructors (final tail) names x n rows arms) writes.number
            (subst (λ (some : Names). AreArms constructors (final tail) some x first.next rows arms)
            (ap names_of writes.names) one.arms_are)),
        last_is ∙ ap (λ (y : ℕ). case y decisions arms) writes.value,
      );
      steps = λ rest.
          let whole = writes.steps rest in
          (whole.0, whole.1, ap (λ items. plug (map step_piece items) rest) one.steps ∙ whole.2);
    }

-- a match as a step, whose value the next variable takes
pub case_value : {constructors : List ConstructorTree} → (e scrutinee : Tree) (rows : Rows) (old now new : Writer) (last : Code)
    (x : ℕ)
    → e ≡ match scrutinee rows → WritesCase constructors false scrutinee rows old now last
    → WritesStep (runs now.next last) now new x
    → WritesValue constructors e old new x
case_value {constructors} e scrutinee rows old now new last x is first second =
    let m : ℕ = old.next + size scrutinee + size_rows rows in
    let parts = first.last_is in
    subst (λ (one : Tree). WritesValue constructors one old new x) (sym is)
    (case_as_value (match scrutinee rows) scrutinee old now new last x (omega (arith, first.number)) first.number first.names first.steps
    (λ rest code coded. (
      parts.0,
      parts.1,
      parts.2,
      parts.3,
      subst (λ (behind_it : Code). IsCode constructors (next behind_it) (names_of old.names.items)
          old.next scrutinee code)
          (ap (λ (n : ℕ). inside n last rest) first.number ∙ ap (λ (block : Code). inside m block rest) parts.4) coded,
    )) second)

-- a match as the end of a block
pub case_end : {constructors : List ConstructorTree} → (tail : Bool) (e scrutinee : Tree) (rows : Rows) (old now new : Writer)
    (last : Code)
    → e ≡ match scrutinee rows → WritesCase constructors tail scrutinee rows old now last
    → new.next ≡ now.next + 1 → new.names.items ≡ now.names.items → new.steps.items ≡ now.steps.items
    → WritesEnd constructors tail e old new last
case_end {constructors} tail e scrutinee rows old now new last is first number names_kept steps =
    let decisions = first.last_is.0 in
    let arms = first.last_is.1 in
    subst (λ (one : Tree). WritesEnd constructors tail one old new last) (sym is)
    (case_as_end tail (match scrutinee rows) scrutinee old now new last (omega (arith, first.number)) first.names first.steps
    (λ code coded. (
      decisions,
      arms,
      first.last_is.2,
      first.last_is.3,
      subst (λ (behind_it : Code). IsCode constructors (next behind_it) (names_of old.names.items)
          old.next scrutinee code) first.last_is.4 coded,
    )) number names_kept steps)

-- ---- the patterns of rows in memory

pub patterns_are : (rows : List Row) → map (λ r. pattern_tree r.pattern) rows ≡ patterns_in (rows_of (map row_tree rows))
patterns_are [] = refl
patterns_are (r ∷ rows) =
    ap (λ ps. pattern_tree r.pattern ∷ ps) (patterns_are rows)
    ∙ ap (λ one. patterns_in (row one (rows_of (map row_tree rows)))) (sym (row_tree_is r))

-- the patterns of all rows are listed
pub all_pushed : (pushed : List Pattern) (rows : List Row) (i : ℕ)
    → pushed ++ map (λ r. pattern_tree r.pattern) (drop i rows) ≡ map (λ r. pattern_tree r.pattern) rows
    → length rows ≤ i → pushed ≡ map (λ r. pattern_tree r.pattern) rows
all_pushed pushed rows i so_far all =
    sym (append-nil pushed) ∙ (ap (λ (left : List Row). pushed ++ map (λ r. pattern_tree r.pattern) left)
    (sym (drop_all i rows all)) ∙ so_far)

pub some_rows : (rows : List Row) → IsSomeRow (rows_of (map row_tree rows)) → 0 < length rows
some_rows [] some = absurd some
some_rows (r ∷ rows) some = omega arith
