-- The condition of a branch tells whether a comparison holds: what it decides, and what stands there of a case that does its work.
use Rattle.std.proofs.Common.{◌≡◌, ◌≢◌, ◌⊎◌, inl, inr, ℕ, ◌+◌, ◌^◌, ◌<◌, ◌≤◌, Bool, true, false, not, List, [], ◌∷◌, ◌++◌, Option}
use Rattle.std.proofs.Common.{Some, None, nat_eq, int_lt, int_le, int_eq, refl, sym, ◌∙◌, ap, subst, arith}
use Rattle.std.specs.Prelude.{if◌then◌else◌}
use Rattle.std.proofs.lemmas.List.{append-nil}
use Rattle.std.proofs.Math.Path.{path_j, subst_refl}
use Rattle.std.proofs.lemmas.Bool.Decides.{same_from_decides, Decides-int_eq}
use Rattle.std.proofs.Common.{eqb-true, eq-eqb}
use Rattle.kk_syntax.specs.declared.operator.BinaryOperator.{BinaryOperator}
use Rattle.kk_syntax.specs.declared.operator.BinaryOperator.TheVariants.{Add, Subtract, Multiply, Divide, Remainder, Equal}
use Rattle.kk_syntax.specs.declared.operator.BinaryOperator.TheVariants.{NotEqual, Less, LessEqual, Greater, GreaterEqual}
use Rattle.kk_syntax.specs.declared.program.Form.{Form}
use Rattle.kk_syntax.specs.declared.program.Form.TheVariants.{Number, Unit as Nothing, ReadByte, PrintText, Unary, Binary, Print}
use Rattle.kk_syntax.specs.declared.program.Form.TheVariants.{Construct, Call}
use Rattle.kk_syntax.specs.Shapes.{is_among}
use Rattle.kk_source.specs.FormEffects.{truth, number_result}
use Rattle.kk_source.specs.Live.{value_of}
use Rattle.kk_source.specs.Sound.{Within}
use Rattle.kk_source.specs.State.{Value, Environment}
use Rattle.kk_core.specs.Truths.{truth_decisions}
use Rattle.kk_counted.specs.BareForms.{bare}
use Rattle.kk_counted.specs.Lowerable.{AreBelow, AreNumbered}
use Rattle.kk_counted.specs.Marks.{CellMarks, AreUnmarked, HasMark}
use Rattle.kk_counted.specs.TokenedCodes.{Tokened, TokenedArms}
use Rattle.rv_isa.specs.Arithmetic.{signed}
use Rattle.rv_isa.specs.declared.asm.Action.TheVariants.{Branch, Routine as Calls}
use Rattle.rv_isa.specs.declared.asm.Condition.{Condition}
use Rattle.rv_isa.specs.declared.asm.Condition.TheVariants.{Equal as Same, NotEqual as NotSame, Less as Below}
use Rattle.rv_isa.specs.declared.asm.Condition.TheVariants.{GreaterEqual as AtLeast}
use Rattle.rv_isa.specs.declared.routine.Routine.TheVariants.{Drop}
use Rattle.rv_isa.specs.AsmCode.{Line}
use Rattle.cell_runtime.specs.Operations.{compares}
use Rattle.rv_lower.specs.Lines.{acts}
use Rattle.rv_lower.specs.Lowered.{Goal}
use Rattle.rv_lower.proofs.Words.{same_word, at_most_follows}
use Rattle.rv_cells.specs.Layout.{Layout, word_in, FitsField}
use Rattle.rv_cells.specs.declared.compare.Branching.{Branching}
use Rattle.rv_cells.specs.CellLines.{drop_lines}
use Rattle.rv_cells.specs.ComparisonBranch.{branch_unless, branch_of, arms_name_behind, IsTested}
use Rattle.rv_cells.specs.declared.standing.Standing.{Standing}
use Rattle.rv_cells.specs.CountedLines.{Setting}
use Rattle.rv_cells.specs.TokenedLines.{HasSlots, Keeps, AskLines, OwnLines, LinesBehind, CodeLines, ArmsLines}
use Rattle.rv_cells.proofs.BoundVariables.{below_among}
use Rattle.rv_cells.proofs.FormPlaces.{Tree, tree, StandsAt, arms_in, tree_behind, tree_in, stands_behind}
use Rattle.rv_cells.proofs.NameContents.{some-is}
use Rattle.rv_cells.proofs.TokenLineCosts.{forms}
use Rattle.rv_cells.proofs.Values.{HasValues, value_other}

-- ---- conditions

-- A comparison of two words has a truth, and where the values of a branch are there its condition is the opposite.
pub record IsDecided (operator : BinaryOperator) (first second : ℕ) (values : ℕ → Option ℕ) (branch : Branching) : Type 0 where
  pub test : Bool
  pub value : number_result operator (signed first) (signed second) ≡ truth test
  pub one : ℕ
  pub one_is : values branch.first ≡ Some one
  pub other : ℕ
  pub other_is : values branch.second ≡ Some other
  pub opposite : compares branch.condition one other ≡ not test

equal_words : (a b : ℕ) → a < 2 ^ 32 → b < 2 ^ 32 → nat_eq a b ≡ int_eq (signed a) (signed b)
equal_words a b few_a few_b =
    let same = Decides-int_eq (signed a) (signed b) in
    same_from_decides {P = a ≡ b} (nat_eq a b) (int_eq (signed a) (signed b)) ((λ e. eqb-true a b e), (λ e. eq-eqb a b e))
    ((λ e. same_word a b few_a few_b (same.0 e)), (λ e. same.1 (ap signed e)))

twice_not : (b : Bool) → b ≡ not (not b)
twice_not true = refl
twice_not false = refl

-- by a branch on two values, whose condition is the opposite
decides : (operator : BinaryOperator) (first second : ℕ) (values : ℕ → Option ℕ) (branch : Branching) (x y : ℕ)
    (condition : Condition) (one other : ℕ) (test : Bool) → values x ≡ Some one → values y ≡ Some other
    → number_result operator (signed first) (signed second) ≡ truth test → compares condition one other ≡ not test
    → Some (record { condition = condition; first = x; second = y }) ≡ Some branch
    → IsDecided operator first second values branch
decides operator first second values branch x y condition one other test is also value opposite from =
    subst (IsDecided operator first second values) (some-is from) (record {
      test = test;
      value = value;
      one = one;
      one_is = is;
      other = other;
      other_is = also;
      opposite = opposite;
    })

pub decided : (operator : BinaryOperator) (a b first second : ℕ) (values : ℕ → Option ℕ) (branch : Branching)
    → values a ≡ Some first → values b ≡ Some second → first < 2 ^ 32 → second < 2 ^ 32 → branch_unless operator a b ≡ Some branch
    → IsDecided operator first second values branch
decided Add a b first second values branch is also few few_too from = cc from
decided Subtract a b first second values branch is also few few_too from = cc from
decided Multiply a b first second values branch is also few few_too from = cc from
decided Divide a b first second values branch is also few few_too from = cc from
decided Remainder a b first second values branch is also few few_too from = cc from
decided Equal a b first second values branch is also few few_too from =
    decides Equal first second values branch a b NotSame first second (int_eq (signed first) (signed second)) is also refl
    (ap not (equal_words first second few few_too)) from
decided NotEqual a b first second values branch is also few few_too from =
    decides NotEqual first second values branch a b Same first second (not (int_eq (signed first) (signed second))) is also refl
    (equal_words first second few few_too ∙ twice_not (int_eq (signed first) (signed second))) from
decided Less a b first second values branch is also few few_too from =
    decides Less first second values branch a b AtLeast first second (int_lt (signed first) (signed second)) is also refl refl from
decided GreaterEqual a b first second values branch is also few few_too from =
    decides GreaterEqual first second values branch a b Below first second (int_le (signed second) (signed first)) is also refl
    (twice_not (int_lt (signed first) (signed second)) ∙ ap not (at_most_follows (signed second) (signed first))) from
decided Greater a b first second values branch is also few few_too from =
    decides Greater first second values branch b a AtLeast second first (int_lt (signed second) (signed first)) also is refl refl
    from
decided LessEqual a b first second values branch is also few few_too from =
    decides LessEqual first second values branch b a Below second first (int_le (signed first) (signed second)) also is refl
    (twice_not (int_lt (signed second) (signed first)) ∙ ap not (at_most_follows (signed first) (signed second))) from

-- whether there is a branch
pub either_left : (left : Option Branching) → (left ≡ None) ⊎ ((branch : Branching) × (left ≡ Some branch))
either_left None = inl refl
either_left (Some branch) = inr (branch, refl)

-- a branch is one of a comparison of two variables
pub record IsOfTwo (form : Form) (arguments : List ℕ) (joined : Bool) (branch : Branching) : Type 0 where
  pub operator : BinaryOperator
  pub first : ℕ
  pub second : ℕ
  pub form_is : form ≡ Binary operator
  pub arguments_are : arguments ≡ first ∷ second ∷ []
  pub joined_is : joined ≡ true
  pub decides : branch_unless operator first second ≡ Some branch

pub compared_by : (form : Form) (arguments : List ℕ) (joined : Bool) (branch : Branching)
    → branch_of form arguments joined ≡ Some branch → IsOfTwo form arguments joined branch
compared_by (Binary operator) [] joined branch is = cc is
compared_by (Binary operator) (a ∷ []) joined branch is = cc is
compared_by (Binary operator) (a ∷ b ∷ c ∷ more) joined branch is = cc is
compared_by (Binary operator) (a ∷ b ∷ []) false branch is = cc is
compared_by (Binary operator) (a ∷ b ∷ []) true branch is = record {
  operator = operator;
  first = a;
  second = b;
  form_is = refl;
  arguments_are = refl;
  joined_is = refl;
  decides = is;
}
compared_by (Number n) arguments joined branch is = cc is
compared_by Nothing arguments joined branch is = cc is
compared_by ReadByte arguments joined branch is = cc is
compared_by (PrintText how text) arguments joined branch is = cc is
compared_by (Unary operator) arguments joined branch is = cc is
compared_by (Print how) arguments joined branch is = cc is
compared_by (Construct c) arguments joined branch is = cc is
compared_by (Call f) arguments joined branch is = cc is

-- where the case is not to do the work of a form there is none
pub never_left : (form : Form) (arguments : List ℕ) → branch_of form arguments false ≡ None
never_left (Binary operator) [] = refl
never_left (Binary operator) (a ∷ []) = refl
never_left (Binary operator) (a ∷ b ∷ []) = refl
never_left (Binary operator) (a ∷ b ∷ c ∷ more) = refl
never_left (Number n) arguments = refl
never_left Nothing arguments = refl
never_left ReadByte arguments = refl
never_left (PrintText how text) arguments = refl
never_left (Unary operator) arguments = refl
never_left (Print how) arguments = refl
never_left (Construct c) arguments = refl
never_left (Call f) arguments = refl

-- it reads the two
abbrev AreRead : List ℕ → Branching → Type 0
AreRead bound branch = (is_among bound branch.first ≡ true) × (is_among bound branch.second ≡ true)

pub reads_both : (operator : BinaryOperator) (a b : ℕ) (branch : Branching) (bound : List ℕ) → is_among bound a ≡ true
    → is_among bound b ≡ true → branch_unless operator a b ≡ Some branch
    → (is_among bound branch.first ≡ true) × (is_among bound branch.second ≡ true)
reads_both Add a b branch bound one other is = cc is
reads_both Subtract a b branch bound one other is = cc is
reads_both Multiply a b branch bound one other is = cc is
reads_both Divide a b branch bound one other is = cc is
reads_both Remainder a b branch bound one other is = cc is
reads_both Equal a b branch bound one other is = subst (AreRead bound) (some-is is) (one, other)
reads_both NotEqual a b branch bound one other is = subst (AreRead bound) (some-is is) (one, other)
reads_both Less a b branch bound one other is = subst (AreRead bound) (some-is is) (one, other)
reads_both GreaterEqual a b branch bound one other is = subst (AreRead bound) (some-is is) (one, other)
reads_both Greater a b branch bound one other is = subst (AreRead bound) (some-is is) (other, one)
reads_both LessEqual a b branch bound one other is = subst (AreRead bound) (some-is is) (other, one)

-- only where the case is to do the work of a comparison is there a branch
pub joined_from : (operator : BinaryOperator) (a b : ℕ) (joined : Bool) (branch : Branching)
    → branch_of (Binary operator) (a ∷ b ∷ []) joined ≡ Some branch
    → (joined ≡ true) × (branch_unless operator a b ≡ Some branch)
joined_from operator a b true branch is = (refl, is)
joined_from operator a b false branch is = cc is

-- ---- values

-- A variable above all that are bound takes a value: theirs are the same.
pub values_stay : {layout : Layout} {address : ℕ → ℕ} {holds : ℕ → Bool} {base next : ℕ} {bound : List ℕ}
    {environment : Environment} {values : ℕ → Option ℕ} → HasValues layout address holds base next bound environment values
    → (x : ℕ) (v : Value) → AreBelow x bound
    → HasValues layout address holds base next bound (record { variable = x; value = v } ∷ environment) values
values_stay {layout} {address} {holds} {base} {next} {bound} {environment} has x v above = record {
  below = has.below;
  words = λ z is. has.words z is ∙ ap (λ u. Some (word_in layout address u)) (sym (other z is));
  fits = λ z is. subst (FitsField (holds z)) (sym (other z is)) (has.fits z is);
  older = λ z is. subst (Within next) (sym (other z is)) (has.older z is);
}
  where
    apart : (z : ℕ) → is_among bound z ≡ true → x ≢ z
    apart z is = let less = below_among x bound z above is in λ e. omega (arith, less, e)

    other : (z : ℕ) → is_among bound z ≡ true
        → value_of (record { variable = x; value = v } ∷ environment) z ≡ value_of environment z
    other z is = value_other x z v environment (apart z is)

-- ---- lines

-- variables are given up before a code
abbrev pub drops_before : List ℕ → Tokened → Tokened
drops_before [] code = code
drops_before (y ∷ ys) code = Tokened.drop y (drops_before ys code)

-- a code that is tested is a case on a truth, behind variables that are given up
pub record IsTruthCase (holds : ℕ → Bool) (x : ℕ) (rest : Tokened) : Type 0 where
  pub ys : List ℕ
  pub arms : TokenedArms
  pub is : rest ≡ drops_before ys (Tokened.case x truth_decisions arms)
  pub plain : AreUnmarked holds ys
  pub unnamed : arms_name_behind x arms ≡ false

pub tested_is : (holds : ℕ → Bool) (x : ℕ) (rest : Tokened) → IsTested holds x rest → IsTruthCase holds x rest
tested_is holds x (Tokened.case y decisions arms) is =
    record { ys = []; arms = arms; is = λ i. Tokened.case (is.0 i) (is.1 i) arms; plain = tt; unnamed = is.2 }
tested_is holds x (Tokened.drop y rest) is =
    let later = tested_is holds x rest is.1 in
    record {
      ys = y ∷ later.ys;
      arms = later.arms;
      is = ap (Tokened.drop y) later.is;
      plain = (is.0, later.plain);
      unnamed = later.unnamed;
    }
tested_is holds x (Tokened.give y) is = absurd is
tested_is holds x (Tokened.tail_call f arguments) is = absurd is
tested_is holds x (Tokened.compute y form arguments others rest) is = absurd is
tested_is holds x (Tokened.inside y block rest) is = absurd is
tested_is holds x (Tokened.read y c fields rest) is = absurd is
tested_is holds x (Tokened.open_cell y c fields used z rest) is = absurd is
tested_is holds x (Tokened.if_unique y c fields used z rest) is = absurd is
tested_is holds x (Tokened.dup y rest) is = absurd is
tested_is holds x (Tokened.fill y z c first arguments kept others rest) is = absurd is
tested_is holds x (Tokened.free y rest) is = absurd is
tested_is holds x (Tokened.null y rest) is = absurd is
tested_is holds x (Tokened.move to of rest) is = absurd is
tested_is holds x (Tokened.hold y rest) is = absurd is
tested_is holds x (Tokened.unhold y rest) is = absurd is
tested_is holds x (Tokened.if_token y there absent) is = absurd is

-- what is true of the code behind them
pub drops_marked : (marks : CellMarks) (holds : ℕ → Bool) (result : Bool) (bound : List ℕ) (given : Bool) (ys : List ℕ)
    (code : Tokened) → HasMark marks holds result bound given (bare (drops_before ys code))
    → HasMark marks holds result bound given (bare code)
drops_marked marks holds result bound given [] code marked = marked
drops_marked marks holds result bound given (y ∷ ys) code marked = drops_marked marks holds result bound given ys code marked.1

pub drops_numbered : (base : ℕ) (bound ys : List ℕ) (code : Tokened) → AreNumbered base bound (bare (drops_before ys code))
    → AreNumbered base bound (bare code)
drops_numbered base bound [] code are = are
drops_numbered base bound (y ∷ ys) code are = drops_numbered base bound ys code are

pub drops_slots : (slots : ℕ) (ys : List ℕ) (code : Tokened) → HasSlots slots (drops_before ys code) → HasSlots slots code
drops_slots slots [] code has = has
drops_slots slots (y ∷ ys) code has = drops_slots slots ys code has

pub drops_keep : (standing : Standing) (ys : List ℕ) (code : Tokened) → Keeps standing (drops_before ys code) → Keeps standing code
drops_keep standing [] code keeps = keeps
drops_keep standing (y ∷ ys) code keeps = drops_keep standing ys code keeps

pub drops_forms : (ys : List ℕ) (code : Tokened) → forms code ≤ forms (drops_before ys code)
drops_forms [] code = omega arith
drops_forms (y ∷ ys) code = let later = drops_forms ys code in omega arith

module _ (setting : Setting) (variables : ℕ) where
  -- where no comparison is left, the lines are those of the code, and its parts are the same
  pub plain_part : (left : Option Branching) → left ≡ None → (goal : Goal) (low : ℕ) (code : Tokened) (own : List Line) (high : ℕ)
      (lines : LinesBehind left setting variables goal low code own high)
      → (are : CodeLines setting variables goal low code own high)
      × (tree_in setting variables goal low code own high are ≡ tree_behind setting variables left goal low code own high lines)
  plain_part None is goal low code own high lines = (lines, refl)
  plain_part (Some branch) is goal low code own high lines = cc is

  pub plain_own : (left : Option Branching) → left ≡ None → (low x : ℕ) (form : Form) (arguments others : List ℕ)
      (lines : List Line) (high : ℕ) → OwnLines left setting variables low x form arguments others lines high
      → AskLines setting variables low x form arguments others lines high
  plain_own None is low x form arguments others lines high are = are
  plain_own (Some branch) is low x form arguments others lines high are = cc is

  -- a comparison without lines, and behind it a case that is a branch before its arms
  pub record IsJoined (goal : Goal) (low middle high x : ℕ) (arms : TokenedArms) (branch : Branching) (own more : List Line)
      (outer : Tree) : Type 0 where
    pub choice : List Line
    pub bodies : List Line
    pub from : ℕ
    pub own_is : own ≡ []
    pub choice_is : choice ≡ acts (Branch branch.condition (middle + 1)) (branch.first ∷ branch.second ∷ []) ∷ []
    pub more_is : more ≡ choice ++ bodies
    pub are : ArmsLines setting variables goal middle from arms bodies high
    pub all : List Line
    pub stands : (root : Tree) (before : List Line) → StandsAt root before outer
        → StandsAt root before
        (tree (Tokened.case x truth_decisions arms) all (arms_in setting variables goal middle from arms bodies high 0 choice are))

  -- the lines behind the variables that are given up
  record Behind (branch : Branching) (goal : Goal) (low high : ℕ) (code : Tokened) (lines : List Line) (outer : Tree) : Type 0 where
    own : List Line
    own_is : lines ≡ own
    are : LinesBehind (Some branch) setting variables goal low code own high
    stands : (root : Tree) (before : List Line) → StandsAt root before outer
        → StandsAt root before (tree_behind setting variables (Some branch) goal low code own high are)

  drops_lines : (branch : Branching) (goal : Goal) (low high : ℕ) (ys : List ℕ) (code : Tokened) (lines : List Line)
      → AreUnmarked setting.holds ys
      → (are : LinesBehind (Some branch) setting variables goal low (drops_before ys code) lines high)
      → Behind branch goal low high code lines
      (tree_behind setting variables (Some branch) goal low (drops_before ys code) lines high are)
  drops_lines branch goal low high [] code lines plain are =
      record { own = lines; own_is = refl; are = are; stands = λ root before stands. stands }
  drops_lines branch goal low high (y ∷ ys) code lines plain are =
      let later = drops_lines branch goal low high ys code are.0 plain.1 are.1 in
      let none : drop_lines setting.holds y ≡ []
      = ap (λ (b : Bool). if b then acts (Calls Drop) (y ∷ []) ∷ [] else []) plain.0 in
      record {
        own = later.own;
        own_is = are.2 ∙ ap (λ (own : List Line). own ++ are.0) none ∙ later.own_is;
        are = later.are;
        stands = λ root before stands. later.stands root before
            (subst (λ (bs : List Line). StandsAt root bs
            (tree_behind setting variables (Some branch) goal low (drops_before ys code) are.0 high are.1))
            (ap (λ (own : List Line). before ++ own) none ∙ append-nil before)
            (stands_behind stands (record { way = 0 ∷ []; is_part = inl refl; code_is = refl })));
      }

  pub joined_lines : (left : Option Branching) (branch : Branching) → left ≡ Some branch → (goal : Goal) (low middle high x : ℕ)
      (form : Form) (arguments others ys : List ℕ) (arms : TokenedArms) (own more : List Line) → AreUnmarked setting.holds ys
      → OwnLines left setting variables low x form arguments others own middle
      → (behind : LinesBehind left setting variables goal middle (drops_before ys (Tokened.case x truth_decisions arms)) more high)
      → IsJoined goal low middle high x arms branch own more
      (tree_behind setting variables left goal middle (drops_before ys (Tokened.case x truth_decisions arms)) more high behind)
  joined_lines None branch is goal low middle high x form arguments others ys arms own more plain owns behind = cc is
  joined_lines (Some one) branch is goal low middle high x form arguments others ys arms own more plain owns behind =
      let later = drops_lines one goal middle high ys (Tokened.case x truth_decisions arms) more plain behind in
      let case_lines = later.are in
      record {
        choice = case_lines.0;
        bodies = case_lines.1;
        from = case_lines.2 + 3;
        own_is = owns.0;
        choice_is = case_lines.4
            ∙ ap (λ (b : Branching). acts (Branch b.condition (middle + 1)) (b.first ∷ b.second ∷ []) ∷ []) (some-is is);
        more_is = later.own_is ∙ case_lines.6;
        are = case_lines.5;
        all = later.own;
        stands = later.stands;
      }

  -- the lines of equal lists
  tree_at : (goal : Goal) (low high : ℕ) (code : Tokened) (one other : List Line) (same : one ≡ other)
      (lines : CodeLines setting variables goal low code one high)
      → tree_in setting variables goal low code other high
      (subst (λ (ls : List Line). CodeLines setting variables goal low code ls high) same lines)
      ≡ tree_in setting variables goal low code one high lines
  tree_at goal low high code one other same lines =
      path_j (λ ls is. tree_in setting variables goal low code ls high
      (subst (λ (l : List Line). CodeLines setting variables goal low code l high) is lines)
      ≡ tree_in setting variables goal low code one high lines)
      (ap (λ made. tree_in setting variables goal low code one high made)
      (subst_refl (λ (l : List Line). CodeLines setting variables goal low code l high) lines)) same

  -- a code that gives up a variable without cells has the lines of what comes behind
  pub given_up : (goal : Goal) (low high x : ℕ) (rest : Tokened) (own : List Line) → setting.holds x ≡ false
      → (lines : CodeLines setting variables goal low (Tokened.drop x rest) own high)
      → (are : CodeLines setting variables goal low rest own high)
      × ((root : Tree) (before : List Line)
      → StandsAt root before (tree_in setting variables goal low (Tokened.drop x rest) own high lines)
      → StandsAt root before (tree_in setting variables goal low rest own high are))
  given_up goal low high x rest own plain lines =
      let none : drop_lines setting.holds x ≡ []
      = ap (λ (b : Bool). if b then acts (Calls Drop) (x ∷ []) ∷ [] else []) plain in
      let same : lines.0 ≡ own = sym (lines.2 ∙ ap (λ (ls : List Line). ls ++ lines.0) none) in (
        subst (λ (ls : List Line). CodeLines setting variables goal low rest ls high) same lines.1,
        λ root before stands. subst (λ t. StandsAt root before t) (sym (tree_at goal low high rest lines.0 own same lines.1))
            (subst (λ (bs : List Line). StandsAt root bs (tree_in setting variables goal low rest lines.0 high lines.1))
            (ap (λ (ls : List Line). before ++ ls) none ∙ append-nil before)
            (stands_behind stands (record { way = 0 ∷ []; is_part = inl refl; code_is = refl }))),
      )
