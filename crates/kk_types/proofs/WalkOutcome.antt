-- A walk over a body comes to its end, or is refused.
use Rattle.std.proofs.Common.{◌≡◌, ◌<◌, ◌≤◌, ◌⊎◌, inl, inr, ℕ, ◌==◌, Option, Some, None, List, [], ◌∷◌, ◌++◌, length, map, reverse, refl, ap, sym, ◌∙◌, subst, append_assoc, arith}
use Rattle.std.specs.List.{find}
use Rattle.std.proofs.lemmas.List.{append-nil}
use Rattle.std.proofs.lemmas.List.Elements.{All-append, All-nil, All-cons}
use Rattle.kk_syntax.specs.declared.program.Binder.{Binder}
use Rattle.kk_syntax.specs.declared.program.Form.{Form}
use Rattle.kk_syntax.specs.declared.program.Form.TheVariants.{Construct}
use Rattle.kk_syntax.specs.Patterns.{Pattern, anything, variable as pattern_variable, exactly, constructor, Patterns, no_part, part}
use Rattle.kk_syntax.specs.Programs.{ProgramTree}
use Rattle.kk_syntax.specs.Shapes.{bound}
use Rattle.kk_syntax.specs.Trees.{Tree, variable, apply, branch, match, sequence, Trees, no_tree, tree, Rows, no_row, row, row_parts}
use Rattle.kk_syntax.specs.Types.{TypeTree, int32}
use Rattle.kk_syntax.specs.Typing.{Choice, bool, Scheme, InTurn, with_binder, with_bound, form_scheme, constructor_scheme, chosen_at, ArePatternsTyped, IsTypedBy, AreTypedBy, AreRowsTypedBy}
use Rattle.kk_unify.specs.Graphs.{NodeTree, Assignment, IsFormed, EachJoinIsDecided}
use Rattle.kk_walk.specs.declared.walk.Bound.{Bound}
use Rattle.kk_walk.specs.Claims.{typed_as, bound_as, both, expression_at, expressions_at, rows_at, pattern_at, patterns_at, bounds_by}
use Rattle.kk_walk.specs.Walks.{Taking, holding_at, AreBelow, AreBoundBelow, scope_at, Claim, Leads, Done, Refused, IsOf}
use Rattle.kk_walk.proofs.ShortestWalks.{typed_as_of, unbound_refused}
use Rattle.kk_types.proofs.NodeExistence.{Built, type_built, int32_built, any_opened, opened, instanced}
use Rattle.kk_walk.proofs.Locals.{scoped_of, node_of, nodes_of_claim, both_of, expression_of, expressions_of, rows_of_claim}
use Rattle.kk_walk.proofs.PatternWalk.{parts_of}
use Rattle.kk_walk.proofs.ClaimComposition.{head_of, tail_of, bound_more, below_more, then_leads, refused_behind, reworded, first_leads, first_refused, builds_leads, holds_leads, joins_refines, clash_refused}
use Rattle.kk_walk.proofs.RowsOf.{one_row, row_begun}
use Rattle.kk_walk.proofs.Scopes.{newest_is, newest_inside, scope_more}
use Rattle.kk_walk.proofs.StatementWalk.{binder_scope, binder_inside}
use Rattle.kk_walk.proofs.SchemeWalk.{used, giving, taking_arguments, unused, instance_leads}

-- variables of a pattern, each at a node
abbrev bounds_of : List ℕ → List ℕ → List Bound
bounds_of [] at = []
bounds_of (x ∷ xs) [] = []
bounds_of (x ∷ xs) (i ∷ is) = record { variable = x; node = i } ∷ bounds_of xs is

bound_scope : (r : Assignment) (xs at : List ℕ) (bounds : List Bound) → length at ≡ length xs → scope_at r (bounds ++ bounds_of xs at) ≡ with_bound xs (map r at) (scope_at r bounds)
bound_scope r [] at bounds each = ap (scope_at r) (append-nil bounds)
bound_scope r (x ∷ xs) [] bounds each = absurd (omega arith)
bound_scope r (x ∷ xs) (i ∷ is) bounds each =
    let one : Bound = record { variable = x; node = i } in
    ap (scope_at r) (sym (append_assoc bounds (one ∷ []) (bounds_of xs is))) ∙ (bound_scope r xs is (bounds ++ (one ∷ [])) (omega arith) ∙ ap (with_bound xs (map r is)) (scope_more r bounds one))

bounds_inside : (size : ℕ) (xs at : List ℕ) → AreBelow size at → AreBoundBelow size (bounds_of xs at)
bounds_inside size [] at h = All-nil (λ b. b.node < size)
bounds_inside size (x ∷ xs) [] h = All-nil (λ b. b.node < size)
bounds_inside size (x ∷ xs) (i ∷ is) h = All-cons (λ b. b.node < size) (record { variable = x; node = i }) (bounds_of xs is) (head_of (λ j. j < size) i is h) (bounds_inside size xs is (tail_of (λ j. j < size) i is h))

-- a walk that comes to its end
pub record Ended (variables : ℕ) (graph : List NodeTree) (Whole : Claim) : Type 0 where
  pub new : List NodeTree
  pub taken : List Taking
  pub formed : IsFormed variables new
  pub leads : Leads graph new taken Whole Done

abbrev pub Decided : ℕ → List NodeTree → Claim → Type 0
Decided variables graph Whole = Ended variables graph Whole ⊎ Refused graph Whole

module _ (variables : ℕ) (joins : EachJoinIsDecided) where
  decided_behind : (g h : List NodeTree) (taken : List Taking) (Whole Left : Claim) → Leads g h taken Whole Left → Decided variables h Left → Decided variables g Whole
  decided_behind g h taken Whole Left leads (inl end) = inl (record { new = end.new; taken = taken ++ end.taken; formed = end.formed; leads = then_leads g h end.new taken end.taken Whole Left Done leads end.leads })
  decided_behind g h taken Whole Left leads (inr refused) = inr (refused_behind g h taken Whole Left leads refused)

  decided_both : (g : List NodeTree) (First Rest : Claim) → IsOf (length g) Rest → Decided variables g First → ((h : List NodeTree) → IsFormed variables h → length g ≤ length h → Decided variables h Rest) → Decided variables g (both First Rest)
  decided_both g First Rest of (inl end) rest = decided_behind g end.new end.taken (both First Rest) Rest (first_leads g end.new end.taken First Rest of end.leads) (rest end.new end.formed end.leads.longer)
  decided_both g First Rest of (inr refused) rest = inr (first_refused g First Rest refused)

  nothing_decided : (g : List NodeTree) → IsFormed variables g → Decided variables g Done
  nothing_decided g formed = inl (record { new = g; taken = []; formed = formed; leads = reworded g Done Done (λ r choices obeys whole. whole) (λ r choices obeys left. left) })

  never : (g : List NodeTree) → Decided variables g (λ r choices. ⊥)
  never g = inr (record { none = λ r choices obeys whole. whole })

  join_decided : (g : List NodeTree) → IsFormed variables g → (i j : ℕ) → i < length g → j < length g → Decided variables g (typed_as i (λ r. r j))
  join_decided g formed i j first second = elim (joins variables g i j formed first second) [
    | inl joined ↦ inl (record { new = joined.0; taken = []; formed = joined.1; leads = joins_refines g joined.0 i j joined.2 })
    | inr clash ↦ inr (clash_refused g g i j clash)
  ]

  type_decided : (g : List NodeTree) → IsFormed variables g → (i : ℕ) → i < length g → (type : TypeTree) → Built variables g (λ r. type) → Decided variables g (typed_as i (λ r. type))
  type_decided g formed i lt type built =
      decided_behind g built.new [] (typed_as i (λ r. type)) (typed_as i (λ r. r built.number))
      (builds_leads g built.new built.number (λ r. type) (λ r t choices. (r i ≡ t) × (choices ≡ [])) built.builds (typed_as_of (length g) i (λ r. type) lt (λ r q agree. refl)))
      (join_decided built.new built.formed i built.number (omega (arith, built.builds.longer)) built.builds.inside)

  variable_decided : (g : List NodeTree) → IsFormed variables g → (bounds : List Bound) → AreBoundBelow (length g) bounds → (x want : ℕ) → want < length g → Decided variables g (bound_as bounds x want)
  variable_decided g formed bounds inside x want lt = found (find (λ b. b.variable == x) (reverse bounds)) refl
    where
      found : (newest : Option Bound) → find (λ b. b.variable == x) (reverse bounds) ≡ newest → Decided variables g (bound_as bounds x want)
      found None is = inr (unbound_refused g bounds x want is)
      found (Some b) is =
          decided_behind g g [] (bound_as bounds x want) (typed_as b.node (λ r. r want))
          (reworded g (bound_as bounds x want) (typed_as b.node (λ r. r want))
          (λ r choices obeys whole. let newest = newest_is bounds x (Some b) is r in let there = whole.0 in (cc, whole.1))
          (λ r choices obeys left. (newest_is bounds x (Some b) is r ∙ ap Some left.0, left.1)))
          (join_decided g formed b.node want (newest_inside (length g) bounds x b inside is) lt)

  -- a use of a scheme, where its arguments are decided
  use_decided : (g : List NodeTree) → IsFormed variables g → (scheme : Option Scheme) (form : Form) (want : ℕ) → want < length g → (A : Assignment → List TypeTree → List Choice → Type 0) → ((size : ℕ) → length g ≤ size → (ts : List TypeTree) → IsOf size (λ r. A r ts)) → ((h : List NodeTree) → IsFormed variables h → length g ≤ length h → (wants : List ℕ) → AreBelow (length h) wants → Decided variables h (λ r. A r (map r wants))) → Decided variables g (used scheme (chosen_at form) want A)
  use_decided g formed None form want lt A of arguments = inr (unused None (chosen_at form) want A g refl)
  use_decided g formed (Some scheme) form want lt A of arguments =
      let made = instanced variables scheme form g formed in
      let longer = made.is.opens.longer in
      decided_behind g made.new made.taken (used (Some scheme) (chosen_at form) want A) (both (giving (Some scheme) (chosen_at form) want A made.gives) (taking_arguments (Some scheme) (chosen_at form) want A made.takes))
      (instance_leads (Some scheme) (chosen_at form) want A g made.new made.taken made.takes made.gives made.is lt (of (length g) (omega arith)))
      (decided_both made.new (giving (Some scheme) (chosen_at form) want A made.gives) (taking_arguments (Some scheme) (chosen_at form) want A made.takes) (nodes_of_claim (length made.new) made.takes A made.is.takes_inside (of (length made.new) longer))
      (join_decided made.new made.formed want made.gives (omega (arith, longer)) made.is.gives_inside)
      (λ h formed_h le. arguments h formed_h (omega (arith, longer, le)) made.takes (below_more (length made.new) (length h) made.takes le made.is.takes_inside)))

  module _ (program : ProgramTree) where
    mutual
      pub pattern_decided : (p : Pattern) (g : List NodeTree) → IsFormed variables g → (bounds : List Bound) → AreBoundBelow (length g) bounds → (want : ℕ) → want < length g → Decided variables g (pattern_at program bounds p want)
      pattern_decided anything g formed bounds inside want lt = nothing_decided g formed
      pattern_decided (pattern_variable x) g formed bounds inside want lt = variable_decided g formed bounds inside x want lt
      pattern_decided (exactly value) g formed bounds inside want lt = type_decided g formed want lt int32 (int32_built variables g formed)
      pattern_decided (constructor c parts) g formed bounds inside want lt =
          use_decided g formed (constructor_scheme program c) (Construct c) want lt (λ r ts choices. ArePatternsTyped program (scope_at r bounds) parts ts choices)
          (λ size le ts. scoped_of size bounds (λ scope choices. ArePatternsTyped program scope parts ts choices) (bound_more (length g) size bounds le inside))
          (λ h formed_h le wants below. patterns_decided parts wants h formed_h bounds (bound_more (length g) (length h) bounds le inside) below)

      patterns_decided : (ps : Patterns) (wants : List ℕ) (g : List NodeTree) → IsFormed variables g → (bounds : List Bound) → AreBoundBelow (length g) bounds → AreBelow (length g) wants → Decided variables g (patterns_at program bounds ps wants)
      patterns_decided no_part [] g formed bounds inside below = nothing_decided g formed
      patterns_decided no_part (w ∷ ws) g formed bounds inside below = never g
      patterns_decided (part p ps) [] g formed bounds inside below = never g
      patterns_decided (part p ps) (w ∷ ws) g formed bounds inside below =
          let rest = tail_of (λ i. i < length g) w ws below in
          decided_both g (pattern_at program bounds p w) (patterns_at program bounds ps ws) (parts_of (length g) program bounds inside ps ws rest) (pattern_decided p g formed bounds inside w (head_of (λ i. i < length g) w ws below))
          (λ h formed_h le. patterns_decided ps ws h formed_h bounds (bound_more (length g) (length h) bounds le inside) (below_more (length g) (length h) ws le rest))

    -- what is behind a statement, with its value at a node
    abbrev behind : List Bound → Binder → Tree → ℕ → ℕ → Claim
    behind bounds binder rest node want r choices = IsTypedBy program (with_binder binder (r node) (scope_at r bounds)) rest (r want) choices

    behind_of : (size : ℕ) (bounds : List Bound) (binder : Binder) (rest : Tree) (want : ℕ) → AreBoundBelow size bounds → want < size → (t : TypeTree) → IsOf size (λ r choices. IsTypedBy program (with_binder binder t (scope_at r bounds)) rest (r want) choices)
    behind_of size bounds binder rest want inside lt t =
        node_of size want (λ r u choices. IsTypedBy program (with_binder binder t (scope_at r bounds)) rest u choices) lt (λ u. scoped_of size bounds (λ scope choices. IsTypedBy program (with_binder binder t scope) rest u choices) inside)

    -- a row, where its body is decided
    row_decided : (p : Pattern) (body : Tree) (g : List NodeTree) → IsFormed variables g → (bounds : List Bound) → AreBoundBelow (length g) bounds → (scrutinee want : ℕ) → scrutinee < length g → want < length g → ((h : List NodeTree) → IsFormed variables h → (inner : List Bound) → AreBoundBelow (length h) inner → want < length h → Decided variables h (expression_at program inner body want)) → Decided variables g (one_row program p body scrutinee want bounds)
    row_decided p body g formed bounds inside scrutinee want first lt decide =
        let made = opened variables (length (bound p)) g formed in
        let inner = bounds ++ bounds_of (bound p) made.numbers in
        let longer = made.opens.longer in
        let P : Bound → Type 0 = λ b. b.node < length made.new in
        let inner_inside = All-append P bounds (bounds_of (bound p) made.numbers) (bound_more (length g) (length made.new) bounds longer inside) (bounds_inside (length made.new) (bound p) made.numbers made.opens.inside) in
        decided_behind g made.new (map holding_at made.numbers) (one_row program p body scrutinee want bounds) (both (pattern_at program inner p scrutinee) (expression_at program inner body want))
        (row_begun program p body scrutinee want g made.new made.numbers bounds inner made.opens (λ r. bound_scope r (bound p) made.numbers bounds made.opens.each) inside first lt)
        (decided_both made.new (pattern_at program inner p scrutinee) (expression_at program inner body want) (expression_of (length made.new) program inner inner_inside body want (omega (arith, longer)))
        (pattern_decided p made.new made.formed inner inner_inside scrutinee (omega (arith, longer)))
        (λ h formed_h le. decide h formed_h inner (bound_more (length made.new) (length h) inner le inner_inside) (omega (arith, longer, le))))

    mutual
      pub expression_decided : (e : Tree) (g : List NodeTree) → IsFormed variables g → (bounds : List Bound) → AreBoundBelow (length g) bounds → (want : ℕ) → want < length g → Decided variables g (expression_at program bounds e want)
      expression_decided (variable x) g formed bounds inside want lt = variable_decided g formed bounds inside x want lt
      expression_decided (apply form es) g formed bounds inside want lt =
          use_decided g formed (form_scheme program form) form want lt (λ r ts choices. AreTypedBy program (scope_at r bounds) es ts choices)
          (λ size le ts. scoped_of size bounds (λ scope choices. AreTypedBy program scope es ts choices) (bound_more (length g) size bounds le inside))
          (λ h formed_h le wants below. expressions_decided es wants h formed_h bounds (bound_more (length g) (length h) bounds le inside) below)
      expression_decided (branch condition positive negative) g formed bounds inside want lt =
          let made = type_built variables [] bool g formed (All-nil (λ i. i < length g)) in
          let longer = made.builds.longer in
          let branches : Claim = both (expression_at program bounds positive want) (expression_at program bounds negative want) in
          let of = λ (size : ℕ) (more : AreBoundBelow size bounds) (less : want < size). both_of size (expression_at program bounds positive want) (expression_at program bounds negative want) (expression_of size program bounds more positive want less) (expression_of size program bounds more negative want less) in
          let inner = bound_more (length g) (length made.new) bounds longer inside in
          decided_behind g made.new [] (expression_at program bounds (branch condition positive negative) want) (both (expression_at program bounds condition made.number) branches)
          (builds_leads g made.new made.number (λ r. bool) (λ r t choices. InTurn (IsTypedBy program (scope_at r bounds) condition t) (branches r) choices) made.builds
          (both_of (length g) (λ r. IsTypedBy program (scope_at r bounds) condition bool) branches (scoped_of (length g) bounds (λ scope choices. IsTypedBy program scope condition bool choices) inside) (of (length g) inside lt)))
          (decided_both made.new (expression_at program bounds condition made.number) branches (of (length made.new) inner (omega (arith, longer))) (expression_decided condition made.new made.formed bounds inner made.number made.builds.inside)
          (λ h formed_h le. decided_both h (expression_at program bounds positive want) (expression_at program bounds negative want) (expression_of (length h) program bounds (bound_more (length made.new) (length h) bounds le inner) negative want (omega (arith, longer, le)))
          (expression_decided positive h formed_h bounds (bound_more (length made.new) (length h) bounds le inner) want (omega (arith, longer, le)))
          (λ k formed_k more. expression_decided negative k formed_k bounds (bound_more (length made.new) (length k) bounds (omega (arith, le, more)) inner) want (omega (arith, longer, le, more)))))
      expression_decided (match scrutinee rows) g formed bounds inside want lt =
          let made = any_opened variables g formed in
          let longer = made.opens.longer in
          let at = made.opens.inside 0 made.node (omega arith) in
          let inner = bound_more (length g) (length made.new) bounds longer inside in
          decided_behind g made.new (holding_at made.node ∷ []) (expression_at program bounds (match scrutinee rows) want) (both (expression_at program bounds scrutinee made.node) (rows_at program bounds rows made.node want))
          (holds_leads g made.new made.node (λ r t choices. InTurn (IsTypedBy program (scope_at r bounds) scrutinee t) (AreRowsTypedBy program (scope_at r bounds) rows t (r want)) choices) made.opens
          (λ t. both_of (length g) (λ r. IsTypedBy program (scope_at r bounds) scrutinee t) (λ r. AreRowsTypedBy program (scope_at r bounds) rows t (r want)) (scoped_of (length g) bounds (λ scope choices. IsTypedBy program scope scrutinee t choices) inside)
          (node_of (length g) want (λ r u choices. AreRowsTypedBy program (scope_at r bounds) rows t u choices) lt (λ u. scoped_of (length g) bounds (λ scope choices. AreRowsTypedBy program scope rows t u choices) inside))))
          (decided_both made.new (expression_at program bounds scrutinee made.node) (rows_at program bounds rows made.node want) (rows_of_claim (length made.new) program bounds inner rows made.node want at (omega (arith, longer)))
          (expression_decided scrutinee made.new made.formed bounds inner made.node at)
          (λ h formed_h le. rows_decided rows h formed_h bounds (bound_more (length made.new) (length h) bounds le inner) made.node want (omega (arith, at, le)) (omega (arith, longer, le))))
      expression_decided (sequence binder first rest) g formed bounds inside want lt =
          let made = any_opened variables g formed in
          let longer = made.opens.longer in
          let at = made.opens.inside 0 made.node (omega arith) in
          let inner = bound_more (length g) (length made.new) bounds longer inside in
          let left = behind bounds binder rest made.node want in
          let more = bounds ++ bounds_by binder made.node in
          decided_behind g made.new (holding_at made.node ∷ []) (expression_at program bounds (sequence binder first rest) want) (both (expression_at program bounds first made.node) left)
          (holds_leads g made.new made.node (λ r t choices. InTurn (IsTypedBy program (scope_at r bounds) first t) (IsTypedBy program (with_binder binder t (scope_at r bounds)) rest (r want)) choices) made.opens
          (λ t. both_of (length g) (λ r. IsTypedBy program (scope_at r bounds) first t) (λ r. IsTypedBy program (with_binder binder t (scope_at r bounds)) rest (r want)) (scoped_of (length g) bounds (λ scope choices. IsTypedBy program scope first t choices) inside) (behind_of (length g) bounds binder rest want inside lt t)))
          (decided_both made.new (expression_at program bounds first made.node) left
          (node_of (length made.new) made.node (λ r t choices. IsTypedBy program (with_binder binder t (scope_at r bounds)) rest (r want) choices) at (behind_of (length made.new) bounds binder rest want inner (omega (arith, longer))))
          (expression_decided first made.new made.formed bounds inner made.node at)
          (λ h formed_h le.
          let P : Bound → Type 0 = λ b. b.node < length h in
          decided_behind h h [] left (expression_at program more rest want)
          (reworded h left (expression_at program more rest want) (λ r choices obeys whole. subst (λ scope. IsTypedBy program scope rest (r want) choices) (binder_scope binder r bounds made.node) whole) (λ r choices obeys whole. subst (λ scope. IsTypedBy program scope rest (r want) choices) (sym (binder_scope binder r bounds made.node)) whole))
          (expression_decided rest h formed_h more (All-append P bounds (bounds_by binder made.node) (bound_more (length made.new) (length h) bounds le inner) (binder_inside binder (length h) made.node (omega (arith, at, le)))) want (omega (arith, longer, le)))))

      pub expressions_decided : (es : Trees) (wants : List ℕ) (g : List NodeTree) → IsFormed variables g → (bounds : List Bound) → AreBoundBelow (length g) bounds → AreBelow (length g) wants → Decided variables g (expressions_at program bounds es wants)
      expressions_decided no_tree [] g formed bounds inside below = nothing_decided g formed
      expressions_decided no_tree (w ∷ ws) g formed bounds inside below = never g
      expressions_decided (tree e es) [] g formed bounds inside below = never g
      expressions_decided (tree e es) (w ∷ ws) g formed bounds inside below =
          let rest = tail_of (λ i. i < length g) w ws below in
          decided_both g (expression_at program bounds e w) (expressions_at program bounds es ws) (expressions_of (length g) program bounds inside es ws rest) (expression_decided e g formed bounds inside w (head_of (λ i. i < length g) w ws below))
          (λ h formed_h le. expressions_decided es ws h formed_h bounds (bound_more (length g) (length h) bounds le inside) (below_more (length g) (length h) ws le rest))

      pub rows_decided : (rows : Rows) (g : List NodeTree) → IsFormed variables g → (bounds : List Bound) → AreBoundBelow (length g) bounds → (scrutinee want : ℕ) → scrutinee < length g → want < length g → Decided variables g (rows_at program bounds rows scrutinee want)
      rows_decided no_row g formed bounds inside scrutinee want first lt = nothing_decided g formed
      rows_decided (row (row_parts p body) rest) g formed bounds inside scrutinee want first lt =
          decided_both g (one_row program p body scrutinee want bounds) (rows_at program bounds rest scrutinee want) (rows_of_claim (length g) program bounds inside rest scrutinee want first lt)
          (row_decided p body g formed bounds inside scrutinee want first lt (λ h formed_h inner inner_inside less. expression_decided body h formed_h inner inner_inside want less))
          (λ h formed_h le. rows_decided rest h formed_h bounds (bound_more (length g) (length h) bounds le inside) scrutinee want (omega (arith, le)) (omega (arith, le)))
