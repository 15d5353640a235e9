-- The body of an instance is typed, and its matches are covered, where the body of its function is typed by choices: at the
-- instance's types. Calls and ground constructors are taken from the choices one by one: what is left of them stands for what
-- is left of the body.
use Rattle.std.proofs.Common.{◌≡◌, ◌<◌, ℕ, List, [], ◌∷◌, ◌++◌, length, map, Option, Some, None, option_map, append_assoc, refl, sym, ap, ◌∙◌, subst}
use Rattle.std.specs.Prelude.{slice_get}
use Rattle.kk_syntax.specs.declared.operator.UnaryOperator.{UnaryOperator}
use Rattle.kk_syntax.specs.declared.operator.UnaryOperator.TheVariants.{Negate, Not}
use Rattle.kk_syntax.specs.declared.operator.BinaryOperator.{BinaryOperator}
use Rattle.kk_syntax.specs.declared.operator.BinaryOperator.TheVariants.{Add, Subtract, Multiply, Divide, Remainder, Equal, NotEqual, Less, LessEqual, Greater, GreaterEqual}
use Rattle.kk_syntax.specs.declared.program.Form.{Form}
use Rattle.kk_syntax.specs.declared.program.Form.TheVariants.{Number, Unit as Nothing, ReadByte, PrintText, Unary, Binary, Print, Construct, Call}
use Rattle.kk_syntax.specs.Checked.{printed_by, of_texts, printed}
use Rattle.kk_syntax.specs.Covered.{Each}
use Rattle.kk_syntax.specs.GroundTyping.{Table, table_of, IsFormTyped, with_pattern, HasType, HaveTypes, AreRowsTyped, HasTruths}
use Rattle.kk_syntax.specs.Matches.{of_matches, matches, IsMatchCovered}
use Rattle.kk_syntax.specs.Outlines.{Outline}
use Rattle.kk_syntax.specs.Patterns.{Pattern, anything, variable as pattern_variable, exactly, constructor, Patterns, no_part, part}
use Rattle.kk_syntax.specs.GroundTyping.{Signature, signature_of}
use Rattle.kk_syntax.specs.Programs.{FunctionTree, ProgramTree}
use Rattle.kk_syntax.specs.Shapes.{bound, gathered_all, gathered_rows}
use Rattle.kk_syntax.specs.Trees.{Tree, variable, apply, branch, match, sequence, Trees, no_tree, tree, Rows, no_row, row, row_parts}
use Rattle.kk_syntax.specs.Types.{TypeTree, put, type_at}
use Rattle.kk_syntax.specs.Typing.{bool, Scope, Scheme, Choice, holding, unary_type, binary_type, with_binder, with_bound, function_scheme, form_scheme, chosen_at, IsPatternTyped, ArePatternsTyped, IsTypedBy, AreTypedBy, AreRowsTypedBy}
use Rattle.kk_syntax.proofs.Elements.{each_parts}
use Rattle.kk_syntax.proofs.TypeSubstitution.{put_at_types, put_all_at_types}
use Rattle.kk_source.proofs.Bindings.{rows_of_type}
use Rattle.kk_mono.specs.Instances.{InstanceTree, called_at, called_by, calls, calls_of_all, calls_of_rows, built_by, tested, constructors_in, constructors_in_all, constructors_in_rows, constructed_at, Renaming, renamed, renamed_all, renamed_rows, renamed_form, renamed_pattern, origin_in, IsInstanceProgram}
use Rattle.kk_instances.proofs.Coverage.{rows_covered}
use Rattle.kk_instances.proofs.Scopes.{Stands, stands_binder, AreConstructed, fields_used, pattern_stands}

unary_put : (s r : ℕ → TypeTree) (operator : UnaryOperator) → put s (put r (unary_type operator)) ≡ unary_type operator
unary_put s r Negate = refl
unary_put s r Not = refl

binary_put : (s r : ℕ → TypeTree) (operator : BinaryOperator) → put s (put r (binary_type operator)) ≡ binary_type operator
binary_put s r Add = refl
binary_put s r Subtract = refl
binary_put s r Multiply = refl
binary_put s r Divide = refl
binary_put s r Remainder = refl
binary_put s r Equal = refl
binary_put s r NotEqual = refl
binary_put s r Less = refl
binary_put s r LessEqual = refl
binary_put s r Greater = refl
binary_put s r GreaterEqual = refl

-- the signature of a function at types
abbrev pub signature_at : FunctionTree → List TypeTree → Signature
signature_at function ts =
    record { parameters = map (put (type_at ts)) function.parameters; result = put (type_at ts) function.result }

-- the instances have these signatures
abbrev pub AreSigned : ProgramTree → List InstanceTree → List Signature → Type 0
AreSigned program instances signatures =
    (n f : ℕ) (ts : List TypeTree) (function : FunctionTree) → slice_get instances n ≡ Some (record { function = f; at = ts })
    → slice_get program.functions f ≡ Some function → slice_get signatures n ≡ Some (signature_at function ts)

-- matches of a program are covered, and literals are there
pub record IsSound (program : ProgramTree) (all : List (List Outline)) (texts : List ℕ) : Type 0 where
  pub covered : Each (IsMatchCovered program) all
  pub there : Each (λ text. text < length program.texts) texts

module _ (program made : ProgramTree) (typings : List (List Choice)) (instances : List InstanceTree)
    (truths : HasTruths program.constructors) (is : IsInstanceProgram program typings instances made)
    (signed : AreSigned program instances (map signature_of made.functions)) (at : List TypeTree) where
  abbrev new : Renaming
  new = origin_in instances is.grounds

  abbrev table : Table
  table = table_of made

  -- a type of the function, in the instance
  abbrev ground : TypeTree → TypeTree
  ground = put (type_at at)

  -- ---- what a body names

  -- these are the instances that the choices call
  abbrev pub AreCalled : List Choice → List ℕ → Type 0
  AreCalled choices ns = map (slice_get instances) ns ≡ map Some (called_at at choices)

  -- these are the instances that the choices call, and the ground constructors that they use
  abbrev pub AreNamed : List Choice → List ℕ → List ℕ → Type 0
  AreNamed choices ns gs = AreCalled choices ns × AreConstructed program made typings instances truths is at choices gs

  along : (choices others more : List Choice) (ns gs : List ℕ) → choices ≡ others → AreNamed (choices ++ more) ns gs
      → AreNamed (others ++ more) ns gs
  along choices others more ns gs same named = subst (λ cs. AreNamed (cs ++ more) ns gs) same named

  split : (choices one other more : List Choice) (ms ks ns hs ls gs : List ℕ) → choices ≡ one ++ other
      → AreNamed (choices ++ more) ((ms ++ ks) ++ ns) ((hs ++ ls) ++ gs)
      → AreNamed (one ++ (other ++ more)) (ms ++ (ks ++ ns)) (hs ++ (ls ++ gs))
  split choices one other more ms ks ns hs ls gs parts_are named =
      let same : choices ++ more ≡ one ++ (other ++ more) =
      ap (λ cs. cs ++ more) parts_are ∙ append_assoc one other more in (
        ap (map (slice_get instances)) (sym (append_assoc ms ks ns))
            ∙ (named.0 ∙ ap (λ (cs : List Choice). map Some (called_at at cs)) same),
        ap (map (slice_get is.grounds)) (sym (append_assoc hs ls gs))
            ∙ (named.1 ∙ ap (λ (cs : List Choice). map Some (constructed_at at cs)) same),
      )

  -- patterns call nothing
  held_calls : (ts : List TypeTree) (rest more : List Choice)
      → called_at at ((map holding ts ++ rest) ++ more) ≡ called_at at (rest ++ more)
  held_calls [] rest more = refl
  held_calls (t ∷ ts) rest more = held_calls ts rest more

  held_constructors : (ts : List TypeTree) (rest more : List Choice)
      → constructed_at at ((map holding ts ++ rest) ++ more) ≡ constructed_at at (rest ++ more)
  held_constructors [] rest more = refl
  held_constructors (t ∷ ts) rest more = held_constructors ts rest more

  mutual
    pattern_calls : (scope : Scope) (p : Pattern) (t : TypeTree) (choices more : List Choice)
        → IsPatternTyped program scope p t choices → called_at at (choices ++ more) ≡ called_at at more
    pattern_calls scope anything t choices more none = ap (λ (cs : List Choice). called_at at (cs ++ more)) none
    pattern_calls scope (pattern_variable x) t choices more typed = ap (λ (cs : List Choice). called_at at (cs ++ more)) typed.1
    pattern_calls scope (exactly value) t choices more typed = ap (λ (cs : List Choice). called_at at (cs ++ more)) typed.1
    pattern_calls scope (constructor c parts) t choices more uses =
        ap (λ (cs : List Choice). called_at at (cs ++ more)) uses.choices_are
        ∙ patterns_calls scope parts (map (put (type_at uses.at)) uses.of.parameters) uses.rest more uses.arguments

    patterns_calls : (scope : Scope) (ps : Patterns) (ts : List TypeTree) (choices more : List Choice)
        → ArePatternsTyped program scope ps ts choices → called_at at (choices ++ more) ≡ called_at at more
    patterns_calls scope no_part [] choices more none = ap (λ (cs : List Choice). called_at at (cs ++ more)) none
    patterns_calls scope no_part (t ∷ ts) choices more typed = absurd typed
    patterns_calls scope (part first rest) [] choices more typed = absurd typed
    patterns_calls scope (part first rest) (t ∷ ts) choices more (one, other, is, first_typed, rest_typed) =
        ap (λ (cs : List Choice). called_at at (cs ++ more)) is
        ∙ (ap (called_at at) (append_assoc one other more)
        ∙ (pattern_calls scope first t one (other ++ more) first_typed ∙ patterns_calls scope rest ts other more rest_typed))

  -- what is left behind the variables of a row
  row_named : (ts : List TypeTree) (choices rest one other more : List Choice) (ns gs : List ℕ) → choices ≡ map holding ts ++ rest
      → rest ≡ one ++ other → AreNamed (choices ++ more) ns gs → AreNamed (one ++ (other ++ more)) ns gs
  row_named ts choices rest one other more ns gs held_are parts_are named =
      let here = along choices (map holding ts ++ rest) more ns gs held_are named in
      let same : rest ++ more ≡ one ++ (other ++ more) = ap (λ cs. cs ++ more) parts_are ∙ append_assoc one other more in (
        here.0 ∙ ap (map Some) (held_calls ts rest more ∙ ap (called_at at) same),
        here.1 ∙ ap (map Some) (held_constructors ts rest more ∙ ap (constructed_at at) same),
      )

  -- what a form names stands before what its arguments name
  form_named : (form : Form) (ts : List TypeTree) (choices : List Choice) (ns gs : List ℕ)
      → AreNamed (chosen_at (renamed_form new form) ts ++ choices) (called_by form ++ ns) (built_by form ++ gs)
      → AreNamed choices ns gs
  form_named (Number value) ts choices ns gs named = named
  form_named Nothing ts choices ns gs named = named
  form_named ReadByte ts choices ns gs named = named
  form_named (PrintText form text) ts choices ns gs named = named
  form_named (Unary operator) ts choices ns gs named = named
  form_named (Binary operator) ts choices ns gs named = named
  form_named (Print form) ts choices ns gs named = named
  form_named (Construct g) ts choices ns gs named = (named.0, (let constructed = named.1 in cc))
  form_named (Call n) ts choices ns gs named = ((let called = named.0 in cc), named.1)

  -- ---- forms

  -- what a scheme at types takes and gives in the instance
  abbrev taken : Scheme → List TypeTree → List TypeTree
  taken scheme ts = map ground (map (put (type_at ts)) scheme.parameters)

  abbrev given : Scheme → List TypeTree → TypeTree
  given scheme ts = ground (put (type_at ts) scheme.result)

  form_is : (form : Form) (scheme made : Scheme) (ts : List TypeTree) → Some made ≡ Some scheme
      → IsFormTyped table form (taken made ts) (given made ts) → IsFormTyped table form (taken scheme ts) (given scheme ts)
  form_is form scheme made ts is typed =
      let same : made ≡ scheme = cc in subst (λ (s : Scheme). IsFormTyped table form (taken s ts) (given s ts)) same typed

  call_there : (n : ℕ) (function : FunctionTree) (ts : List TypeTree) → slice_get program.functions (new.functions n)
      ≡ Some function
      → slice_get instances n ≡ Some (record { function = new.functions n; at = map ground ts })
      → IsFormTyped table (Call n) (taken (function_scheme function) ts) (given (function_scheme function) ts)
  call_there n function ts there instance =
      signed n (new.functions n) (map ground ts) function instance there
      ∙ (ap (λ (us : List TypeTree). Some (record { parameters = us; result = put (type_at (map ground ts)) function.result }))
      (sym (put_all_at_types (type_at at) ts function.parameters))
      ∙ ap (λ (t : TypeTree). Some (record { parameters = taken (function_scheme function) ts; result = t }))
      (sym (put_at_types (type_at at) ts function.result)))

  call_typed : (n : ℕ) (scheme : Scheme) (ts : List TypeTree) → form_scheme program (Call (new.functions n)) ≡ Some scheme
      → slice_get instances n ≡ Some (record { function = new.functions n; at = map ground ts })
      → IsFormTyped table (Call n) (taken scheme ts) (given scheme ts)
  call_typed n scheme ts is instance = by_function (slice_get program.functions (new.functions n)) refl is
    where
      by_function : (o : Option FunctionTree) → slice_get program.functions (new.functions n) ≡ o
          → option_map function_scheme o ≡ Some scheme → IsFormTyped table (Call n) (taken scheme ts) (given scheme ts)
      by_function None there none = absurd (cc)
      by_function (Some function) there found =
          form_is (Call n) scheme (function_scheme function) ts found (call_there n function ts there instance)

  form_at : (form : Form) (scheme : Scheme) (ts : List TypeTree) (t : TypeTree) (choices : List Choice) (ns gs : List ℕ)
      → form_scheme program (renamed_form new form) ≡ Some scheme → length ts ≡ scheme.variables
      → t ≡ put (type_at ts) scheme.result → Each (λ text. text < length program.texts) (printed_by (renamed_form new form))
      → AreNamed (chosen_at (renamed_form new form) ts ++ choices) (called_by form ++ ns) (built_by form ++ gs)
      → IsFormTyped table form (taken scheme ts) (given scheme ts)
  form_at (Number value) scheme ts t choices ns gs is_scheme long gives texts named =
      form_is (Number value) scheme _ ts is_scheme (refl, refl)
  form_at Nothing scheme ts t choices ns gs is_scheme long gives texts named = form_is Nothing scheme _ ts is_scheme (refl, refl)
  form_at ReadByte scheme ts t choices ns gs is_scheme long gives texts named = form_is ReadByte scheme _ ts is_scheme (refl, refl)
  form_at (PrintText form text) scheme ts t choices ns gs is_scheme long gives texts named =
      form_is (PrintText form text) scheme _ ts is_scheme
      (refl, refl, subst (λ (all : List (List ℕ)). text < length all) (sym is.texts) texts.0)
  form_at (Unary operator) scheme ts t choices ns gs is_scheme long gives texts named =
      form_is (Unary operator) scheme _ ts is_scheme
      (ap (λ (u : TypeTree). u ∷ []) (unary_put (type_at at) (type_at ts) operator), unary_put (type_at at) (type_at ts) operator)
  form_at (Binary operator) scheme ts t choices ns gs is_scheme long gives texts named =
      form_is (Binary operator) scheme _ ts is_scheme (refl, binary_put (type_at at) (type_at ts) operator)
  form_at (Print form) scheme ts t choices ns gs is_scheme long gives texts named =
      form_is (Print form) scheme _ ts is_scheme (refl, refl)
  form_at (Construct g) scheme ts t choices ns gs is_scheme long gives texts named =
      let constructed = named.1 in
      fields_used program made typings instances truths is at g scheme ts is_scheme long (cc)
  form_at (Call n) scheme ts t choices ns gs is_scheme long gives texts named =
      let called = named.0 in
      let instance : slice_get instances n ≡ Some (record { function = new.functions n; at = map ground ts }) = cc in
      call_typed n scheme ts is_scheme instance

  form_typed : (form : Form) (scheme : Scheme) (ts : List TypeTree) (t : TypeTree) (choices : List Choice) (ns gs : List ℕ)
      → form_scheme program (renamed_form new form) ≡ Some scheme → length ts ≡ scheme.variables
      → t ≡ put (type_at ts) scheme.result → Each (λ text. text < length program.texts) (printed_by (renamed_form new form))
      → AreNamed (chosen_at (renamed_form new form) ts ++ choices) (called_by form ++ ns) (built_by form ++ gs)
      → IsFormTyped table form (taken scheme ts) (ground t)
  form_typed form scheme ts t choices ns gs is_scheme long gives texts named =
      subst (λ (u : TypeTree). IsFormTyped table form (taken scheme ts) (ground u)) (sym gives)
      (form_at form scheme ts t choices ns gs is_scheme long gives texts named)

  -- ---- expressions

  parts : (xs ys : List (List Outline)) (ms ns : List ℕ) → IsSound program (xs ++ ys) (ms ++ ns)
      → IsSound program xs ms × IsSound program ys ns
  parts xs ys ms ns sound =
      let covered = each_parts (IsMatchCovered program) xs ys sound.covered in
      let there = each_parts (λ text. text < length program.texts) ms ns sound.there in
      (record { covered = covered.0; there = there.0 }, record { covered = covered.1; there = there.1 })

  -- the matches and the literals of the function's expressions
  abbrev matches_in : Tree → List (List Outline)
  matches_in e = matches (renamed new e)

  abbrev matches_in_all : Trees → List (List Outline)
  matches_in_all es = gathered_all of_matches (renamed_all new es)

  abbrev matches_in_rows : Rows → List (List Outline)
  matches_in_rows rows = gathered_rows of_matches (renamed_rows new rows)

  abbrev printed_in : Tree → List ℕ
  printed_in e = printed (renamed new e)

  abbrev printed_in_all : Trees → List ℕ
  printed_in_all es = gathered_all of_texts (renamed_all new es)

  abbrev printed_in_rows : Rows → List ℕ
  printed_in_rows rows = gathered_rows of_texts (renamed_rows new rows)

  mutual
    pub tree_typed : (e : Tree) (scope inner : Scope) (t : TypeTree) (choices more : List Choice) (ns gs : List ℕ)
        → Stands (type_at at) scope inner → IsTypedBy program scope (renamed new e) t choices
        → IsSound program (matches_in e) (printed_in e) → AreNamed (choices ++ more) (calls e ++ ns) (constructors_in e ++ gs)
        → HasType table inner e (ground t) × AreNamed more ns gs
    tree_typed (variable x) scope inner t choices more ns gs stands typed sound named =
        (stands x t typed.0, along choices [] more ns gs typed.1 named)
    tree_typed (apply form es) scope inner t choices more ns gs stands uses sound named =
        let us = map (put (type_at uses.at)) uses.of.parameters in
        let here =
        split choices (chosen_at (renamed_form new form) uses.at) uses.rest more (called_by form) (calls_of_all es) ns
        (built_by form) (constructors_in_all es) gs uses.choices_are named in
        let both = parts [] (matches_in_all es) (printed_by (renamed_form new form)) (printed_in_all es) sound in
        let rest =
        trees_typed es scope inner us uses.rest more ns gs stands uses.arguments both.1
        (form_named form uses.at (uses.rest ++ more) (calls_of_all es ++ ns) (constructors_in_all es ++ gs) here) in
        let taken_is =
        form_typed form uses.of uses.at t (uses.rest ++ more) (calls_of_all es ++ ns) (constructors_in_all es ++ gs) uses.is
        uses.each uses.gives both.0.there here in
        ((map ground us, rest.0, taken_is), rest.1)
    tree_typed (branch e positive negative) scope inner t choices more ns gs stands (one, other, whole, e_typed, rest) sound named =
        let both =
        parts (matches_in e) (matches_in positive ++ matches_in negative) (printed_in e)
        (printed_in positive ++ printed_in negative) sound in
        let either = parts (matches_in positive) (matches_in negative) (printed_in positive) (printed_in negative) both.1 in
        let first =
        tree_typed e scope inner bool one (other ++ more) ((calls positive ++ calls negative) ++ ns)
        ((constructors_in positive ++ constructors_in negative) ++ gs) stands e_typed both.0
        (split choices one other more (calls e) (calls positive ++ calls negative) ns (constructors_in e)
        (constructors_in positive ++ constructors_in negative) gs whole named) in
        let second =
        tree_typed positive scope inner t rest.0 (rest.1 ++ more) (calls negative ++ ns) (constructors_in negative ++ gs) stands
        rest.3 either.0
        (split other rest.0 rest.1 more (calls positive) (calls negative) ns (constructors_in positive)
        (constructors_in negative) gs rest.2 first.1) in
        let third = tree_typed negative scope inner t rest.1 more ns gs stands rest.4 either.1 second.1 in
        ((first.0, second.0, third.0), third.1)
    tree_typed (match e rows) scope inner t choices more ns gs stands holds sound named =
        let typed = holds.inside in
        let both =
        parts (matches_in e) (matches_in_rows rows) (printed_in e) (printed_in_rows rows)
        (record { covered = sound.covered.1; there = sound.there }) in
        let held =
        along choices (holding holds.of ∷ holds.rest) more ((calls e ++ calls_of_rows rows) ++ ns)
        ((constructors_in e ++ constructors_in_rows rows) ++ gs) holds.choices_are named in
        let first =
        tree_typed e scope inner holds.of typed.0 (typed.1 ++ more) (calls_of_rows rows ++ ns) (constructors_in_rows rows ++ gs)
        stands typed.3 both.0
        (split holds.rest typed.0 typed.1 more (calls e) (calls_of_rows rows) ns (constructors_in e) (constructors_in_rows rows)
        gs typed.2 held) in
        let second = rows_typed rows scope inner holds.of t typed.1 more ns gs stands typed.4 both.1 first.1 in
        let covered =
        rows_covered program made typings instances truths is (type_at at) scope rows holds.of t typed.1 typed.4
        (rows_of_type table inner rows (ground holds.of) (ground t) second.0) sound.covered.0 in
        ((ground holds.of, first.0, second.0, covered), second.1)
    tree_typed (sequence binder e rest) scope inner t choices more ns gs stands holds sound named =
        let typed = holds.inside in
        let both = parts (matches_in e) (matches_in rest) (printed_in e) (printed_in rest) sound in
        let held =
        along choices (holding holds.of ∷ holds.rest) more ((calls e ++ calls rest) ++ ns)
        ((constructors_in e ++ constructors_in rest) ++ gs) holds.choices_are named in
        let first =
        tree_typed e scope inner holds.of typed.0 (typed.1 ++ more) (calls rest ++ ns) (constructors_in rest ++ gs) stands
        typed.3 both.0
        (split holds.rest typed.0 typed.1 more (calls e) (calls rest) ns (constructors_in e) (constructors_in rest) gs typed.2
        held) in
        let second =
        tree_typed rest (with_binder binder holds.of scope) (with_binder binder (ground holds.of) inner) t typed.1 more ns gs
        (stands_binder (type_at at) binder scope inner holds.of stands) typed.4 both.1 first.1 in
        ((ground holds.of, first.0, second.0), second.1)

    trees_typed : (es : Trees) (scope inner : Scope) (ts : List TypeTree) (choices more : List Choice) (ns gs : List ℕ)
        → Stands (type_at at) scope inner → AreTypedBy program scope (renamed_all new es) ts choices
        → IsSound program (matches_in_all es) (printed_in_all es)
        → AreNamed (choices ++ more) (calls_of_all es ++ ns) (constructors_in_all es ++ gs)
        → HaveTypes table inner es (map ground ts) × AreNamed more ns gs
    trees_typed no_tree scope inner [] choices more ns gs stands none sound named = (tt, along choices [] more ns gs none named)
    trees_typed no_tree scope inner (t ∷ ts) choices more ns gs stands typed sound named = absurd typed
    trees_typed (tree e rest) scope inner [] choices more ns gs stands typed sound named = absurd typed
    trees_typed (tree e rest) scope inner (t ∷ ts) choices more ns gs stands (one, other, whole, e_typed, rest_typed) sound named =
        let both = parts (matches_in e) (matches_in_all rest) (printed_in e) (printed_in_all rest) sound in
        let first =
        tree_typed e scope inner t one (other ++ more) (calls_of_all rest ++ ns) (constructors_in_all rest ++ gs) stands e_typed
        both.0
        (split choices one other more (calls e) (calls_of_all rest) ns (constructors_in e) (constructors_in_all rest) gs whole
        named) in
        let second = trees_typed rest scope inner ts other more ns gs stands rest_typed both.1 first.1 in
        ((first.0, second.0), second.1)

    rows_typed : (rows : Rows) (scope inner : Scope) (u t : TypeTree) (choices more : List Choice) (ns gs : List ℕ)
        → Stands (type_at at) scope inner → AreRowsTypedBy program scope (renamed_rows new rows) u t choices
        → IsSound program (matches_in_rows rows) (printed_in_rows rows)
        → AreNamed (choices ++ more) (calls_of_rows rows ++ ns) (constructors_in_rows rows ++ gs)
        → AreRowsTyped table inner rows (ground u) (ground t) × AreNamed more ns gs
    rows_typed no_row scope inner u t choices more ns gs stands none sound named = (tt, along choices [] more ns gs none named)
    rows_typed (row (row_parts p body) rest) scope inner u t choices more ns gs stands (one, other, whole, binds, rest_typed) sound named =
        let typed = binds.inside in
        let bound_scope = with_bound (bound (renamed_pattern new p)) binds.at scope in
        let both = parts (matches_in body) (matches_in_rows rest) (printed_in body) (printed_in_rows rest) sound in
        let split_here =
        split choices one other more (calls body) (calls_of_rows rest) ns (tested p ++ constructors_in body)
        (constructors_in_rows rest) gs whole named in
        let here =
        row_named binds.at one binds.rest typed.0 typed.1 (other ++ more) (calls body ++ (calls_of_rows rest ++ ns))
        ((tested p ++ constructors_in body) ++ (constructors_in_rows rest ++ gs)) binds.choices_are typed.2 split_here in
        let behind =
        pattern_stands program made typings instances truths is at p u scope inner binds.at typed.0 (typed.1 ++ (other ++ more))
        (constructors_in body ++ (constructors_in_rows rest ++ gs)) stands typed.3
        (ap (map (slice_get is.grounds))
        (sym (append_assoc (tested p) (constructors_in body) (constructors_in_rows rest ++ gs))) ∙ here.1) in
        let called =
        here.0 ∙ ap (map Some) (pattern_calls bound_scope (renamed_pattern new p) u typed.0 (typed.1 ++ (other ++ more)) typed.3) in
        let first =
        tree_typed body bound_scope (with_pattern made.constructors p (ground u) inner) t typed.1 (other ++ more)
        (calls_of_rows rest ++ ns) (constructors_in_rows rest ++ gs) behind.stands typed.4 both.0 (called, behind.constructed) in
        let second = rows_typed rest scope inner u t other more ns gs stands rest_typed both.1 first.1 in
        ((behind.of, first.0, second.0), second.1)
