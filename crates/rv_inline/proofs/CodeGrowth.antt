-- Code with calls in line, line by line: what it is, and how much longer.
use Rattle.std.proofs.Common.{◌≡◌, ◌<◌, ◌≤◌, ◌-◌, ◌⊎◌, inl, inr, ℕ, ◌+◌, ◌*◌, List, [], ◌∷◌, ◌++◌, Option, Some, map, length}
use Rattle.std.proofs.Common.{true, option_map, refl, sym, ap, ◌∙◌, subst, arith, append_assoc}
use Rattle.std.proofs.lemmas.List.{length-map}
use Rattle.rv_isa.specs.declared.asm.Action.{Action}
use Rattle.rv_isa.specs.declared.asm.Action.TheVariants.{Call}
use Rattle.rv_isa.specs.declared.asm.Operation.{Operation}
use Rattle.rv_isa.specs.declared.asm.Operation.TheVariants.{Register, Immediate, Shift, Li, Mv, La, Lw, Sw, Dup, Free}
use Rattle.rv_isa.specs.AsmCode.{Line, Lines}
use Rattle.rv_isa.specs.Costs.{operation_instructions, argument_moves, result_moves, move_instructions, action_length, line_length, code_length, functions_length}
use Rattle.rv_isa.specs.ValueBounds.{AreLinesBelow}
use Rattle.rv_isa.specs.WellFormed.{most_values}
use Rattle.rv_inline.specs.InLine.{is_pure, computes, IsComputing, AreComputing, gives_back, named, named_line, copy, room, in_line, most_fresh}
use Rattle.rv_inline.specs.InLine.{IsLeafCall, lines_for, AreInLine, IsInLine, HaveInLine}
use Rattle.rv_inline.specs.Growth.{AreShort, IsCallOf, Becomes}
use Rattle.rv_inline.proofs.LeafSteps.{computing_action, computing_into}

-- ---- lengths

pure_length : (operation : Operation) → is_pure operation ≡ true → operation_instructions operation ≤ 2
pure_length (Register operation) pure = omega arith
pure_length (Immediate operation immediate) pure = omega arith
pure_length (Shift operation amount) pure = omega arith
pure_length (Li word) pure = omega arith
pure_length Mv pure = omega arith
pure_length (La constant) pure = omega arith
pure_length (Lw offset) pure = omega arith
pure_length (Sw offset) pure = omega arith
pure_length Dup pure = cc pure
pure_length Free pure = cc pure

-- a line that computes has seven instructions at most, with its moves
named_length : (base count : ℕ) (args : List ℕ) (line : Line) → IsComputing count line → length line.args ≤ 2
    → line_length (named_line base args line) ≤ 7
named_length base count args line is short =
    let operation = computing_action line.action is.0 in
    let into = computing_into count line.into is.1 in
    let pure : operation_instructions operation.0 ≤ 2 = pure_length operation.0 (ap computes (sym operation.1) ∙ is.0) in
    let same : length (map (named base args) line.args) ≡ length line.args = length-map line.args (named base args) in
    subst (λ (action : Action).
    (argument_moves action (length (map (named base args) line.args)) + result_moves (option_map (named base args) line.into))
    * move_instructions + action_length action ≤ 7) (sym operation.1)
    (subst (λ (o : Option ℕ). (2 * length (map (named base args) line.args) + result_moves (option_map (named base args) o))
    * move_instructions + operation_instructions operation.0 ≤ 7) (sym into.1.0) (omega (arith, pure, same, short)))

leaf_length : (base count : ℕ) (args : List ℕ) (value into : ℕ) (body : List Line) → AreComputing count body → AreShort body
    → code_length (map (named_line base args) body ++ (copy (named base args value) into ∷ [])) ≤ 7 * length body + 4
leaf_length base count args value into [] computing short = omega arith
leaf_length base count args value into (line ∷ body) computing short =
    let first = named_length base count args line computing.0 short.0 in
    let rest = leaf_length base count args value into body computing.1 short.1 in
    omega (arith, first, rest)

call_length : (action : Action) (g into : ℕ) (args : List ℕ) (o : Option ℕ) → action ≡ Call g → o ≡ Some into
    → 8 ≤ (argument_moves action (length args) + result_moves o) * move_instructions + action_length action
call_length action g into args o is gives =
    subst (λ (a : Action). 8 ≤ (argument_moves a (length args) + result_moves o) * move_instructions + action_length a) (sym is)
    (subst (λ (p : Option ℕ). 8 ≤ (2 * length args + result_moves p) * move_instructions + 7) (sym gives) (omega arith))

-- ---- lines

-- a line that stays
pub stays : (q : List Lines) (base growth : ℕ) (line : Line) → Becomes q base line growth (line ∷ []) growth
stays q base growth line = record { is = inl refl; grows = omega arith }

module _ (q : List Lines) (base : ℕ) (line : Line) (body : List Line) (value into : ℕ) (call : IsCallOf q line body value into) where
  small_code : AreLinesBelow (length line.args + most_fresh) (body ++ (gives_back value ∷ []))
  small_code =
      subst (λ (n : ℕ). AreLinesBelow (n + most_fresh) (body ++ (gives_back value ∷ []))) (sym call.passes)
      (subst (AreLinesBelow (length call.leaf.params + most_fresh)) call.is_leaf.code call.is_leaf.few.1)

  split_below : (most : ℕ) (lines : List Line) → AreLinesBelow most (lines ++ (gives_back value ∷ []))
      → AreLinesBelow most lines × (value < most)
  split_below most [] below = (tt, below.0.0.0)
  split_below most (first ∷ lines) below = let rest = split_below most lines below.1 in ((below.0, rest.0), rest.1)

  -- the values of its leaf are few
  pub leaf_small : AreLinesBelow (length line.args + most_fresh) body × (value < length line.args + most_fresh)
  leaf_small = split_below (length line.args + most_fresh) body small_code

  -- a call in line
  pub becomes_lines : (growth cost left : ℕ) → base + most_fresh ≤ most_values → cost ≡ 7 * length body → cost ≤ growth
      → left ≡ growth - cost → Becomes q base line growth (in_line base line.args body value into []) left
  becomes_lines growth cost left fits cost_is low left_is =
      let is : IsLeafCall q base line = record {
        function = call.function;
        into = into;
        leaf = call.leaf;
        body = body;
        value = value;
        calls = call.calls;
        gives = call.gives;
        leaf_is = call.leaf_is;
        is_leaf = call.is_leaf;
        passes = call.passes;
        fits = fits;
      } in
      let lines = leaf_length base (length call.leaf.params) line.args value into body call.is_leaf.computing call.short in
      let long = call_length line.action call.function into line.args line.into call.calls call.gives in
      record { is = inr (is, refl); grows = omega (arith, lines, long, cost_is, low, left_is) }

-- ---- code

pub joined_length : (a b : List Line) → code_length (a ++ b) ≡ code_length a + code_length b
joined_length [] b = omega arith
joined_length (line ∷ a) b = omega (arith, joined_length a b)

-- a line more
pub line_more : (q : List Lines) (base before behind : ℕ) (line : Line) (lines rest more : List Line)
    → Becomes q base line before lines behind → AreInLine q base rest more → AreInLine q base (line ∷ rest) (lines ++ more)
line_more q base before behind line lines rest more becomes is = by becomes.is
  where
    by : (lines ≡ line ∷ []) ⊎ ((call : IsLeafCall q base line) × (lines ≡ lines_for line call []))
        → AreInLine q base (line ∷ rest) (lines ++ more)
    by (inl same) = inl (more, (ap (λ (l : List Line). l ++ more) same, is))
    by (inr (call, same)) =
        inr (
          call,
          (
            more,
            (
              ap (λ (l : List Line). l ++ more) same
                  ∙ ap (λ (l : List Line). room ∷ l) (append_assoc (map (named_line base line.args) call.body)
                  (copy (named base line.args call.value) call.into ∷ []) more),
              is,
            ),
          ),
        )

-- so it goes on, line by line
pub code_more : (q : List Lines) (base before behind : ℕ) (old rest made lines : List Line) (line : Line)
    → Becomes q base line before lines behind
    → ((more : List Line) → AreInLine q base (line ∷ rest) more → AreInLine q base old (made ++ more))
    → (more : List Line) → AreInLine q base rest more → AreInLine q base old ((made ++ lines) ++ more)
code_more q base before behind old rest made lines line becomes goes more is =
    subst (AreInLine q base old) (sym (append_assoc made lines more))
    (goes (lines ++ more) (line_more q base before behind line lines rest more becomes is))

pub short_more : (q : List Lines) (base before behind most : ℕ) (rest made lines : List Line) (line : Line)
    → Becomes q base line before lines behind → code_length made + before + code_length (line ∷ rest) ≤ most
    → code_length (made ++ lines) + behind + code_length rest ≤ most
short_more q base before behind most rest made lines line becomes short =
    omega (arith, joined_length made lines, becomes.grows, short)

-- ---- functions

joined_functions : (a b : List Lines) → functions_length (a ++ b) ≡ functions_length a + functions_length b
joined_functions [] b = omega arith
joined_functions (f ∷ a) b = omega (arith, joined_functions a b)

-- and function by function
pub functions_more : (q olds rest made : List Lines) (old new : Lines) → ((base : ℕ) × IsInLine q base old new)
    → ((more : List Lines) → HaveInLine q (old ∷ rest) more → HaveInLine q olds (made ++ more)) → (more : List Lines)
    → HaveInLine q rest more → HaveInLine q olds ((made ++ (new ∷ [])) ++ more)
functions_more q olds rest made old new is goes more others =
    subst (HaveInLine q olds) (sym (append_assoc made (new ∷ []) more)) (goes (new ∷ more) (is, others))

pub functions_short : (rest made : List Lines) (old new : Lines) (before behind most : ℕ)
    → functions_length (new ∷ []) + behind ≤ functions_length (old ∷ []) + before
    → functions_length made + before + functions_length (old ∷ rest) ≤ most
    → functions_length (made ++ (new ∷ [])) + behind + functions_length rest ≤ most
functions_short rest made old new before behind most grows short =
    omega (arith, joined_functions made (new ∷ []), grows, short)
