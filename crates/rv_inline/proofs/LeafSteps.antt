-- A leaf in line: the call asks for room there, each line computes the same, and the return is a copy.
use Rattle.std.proofs.Common.{◌≡◌, ◌<◌, ◌≤◌, inl, inr, ℕ, suc, ◌+◌, ◌*◌, List, [], ◌∷◌, ◌++◌, Option, Some, None, true}
use Rattle.std.proofs.Common.{cond, map, nat_le, length, refl, sym, ap, subst, arith, option_map}
use Rattle.std.proofs.lemmas.List.{length-map}
use Rattle.rv_isa.specs.declared.asm.Action.{Action}
use Rattle.rv_isa.specs.declared.asm.Action.TheVariants.{Compute, Label, Jump, Branch, Call, TailCall, Return, Routine, Hold}
use Rattle.rv_isa.specs.declared.asm.Action.TheVariants.{Unhold, Room}
use Rattle.rv_isa.specs.declared.asm.Operation.{Operation}
use Rattle.rv_isa.specs.declared.asm.Operation.TheVariants.{Mv}
use Rattle.rv_isa.specs.AsmCode.{Line, Lines}
use Rattle.rv_isa.specs.AsmMachine.{AsmTurn, bound, asm_entered, asm_goes, asm_returns, unless_held, asm_acts, asm_line, asm_line_weight}
use Rattle.rv_isa.specs.Costs.{instructions_of, move_instructions, argument_moves, spare_moves, result_moves, action_instructions}
use Rattle.rv_isa.specs.Frames.{Frame, put, put_into, all_of, received, top}
use Rattle.rv_isa.specs.Primitives.{Primitives, ended, or_stuck}
use Rattle.rv_isa.specs.ValueBounds.{AreValuesBelow, IsWrittenBelow, IsLineBelow}
use Rattle.rv_inline.specs.InLine.{computes, IsWrittenFrom, IsComputing, AreComputing, gives_back, named, named_line, copy}
use Rattle.rv_inline.specs.InLine.{IsLeafCall, lines_for}
use Rattle.rv_inline.specs.Relation.{Copies, IsLike, IsAtLine, AllWait, IsInCall, StandsFor}
use Rattle.rv_inline.proofs.FrameValues.{same_put, same_fresh, named_high, KnowsNamed, named_words, named_put, starts_known}
use Rattle.rv_inline.proofs.Frames.{like_on, wait_length}
use Rattle.rv_inline.proofs.LineActions.{same_go, both_go, cond_go}

-- what computes is an operation
pub computing_action : (action : Action) → computes action ≡ true → (operation : Operation) × (action ≡ Compute operation)
computing_action (Compute operation) is = (operation, refl)
computing_action (Label l) is = cc is
computing_action (Jump l) is = cc is
computing_action (Branch condition l) is = cc is
computing_action (Call g) is = cc is
computing_action (TailCall g) is = cc is
computing_action Return is = cc is
computing_action (Routine routine) is = cc is
computing_action Hold is = cc is
computing_action Unhold is = cc is
computing_action Room is = cc is

-- and its value is no parameter
pub computing_into : (count : ℕ) (into : Option ℕ) → IsWrittenFrom count into → (v : ℕ) × ((into ≡ Some v) × (count ≤ v))
computing_into count None written = absurd written
computing_into count (Some v) written = (v, (refl, written))

module _ {H E W : Type 0} (m : Primitives H E W) (copies : Copies m) (depth : ℕ) (q q' : List Lines) where
  -- ---- the call

  module _ (base : ℕ) (f g : Frame Line) (fs gs : List (Frame Line)) (shared : H) (line : Line) (rest rest' : List Line)
      (like : IsLike q q' base f g) (wait : AllWait q q' fs gs) (call : IsLeafCall q base line)
      (below : IsLineBelow base line) (at : IsAtLine q base f.whole g.whole rest rest') where
    abbrev after : List Line
    after = map (named_line base line.args) call.body ++ (copy (named base line.args call.value) call.into ∷ rest')

    abbrev waiting : Frame Line
    waiting = record f { code = rest; into = line.into }

    abbrev asking : Frame Line
    asking = record g { code = after }

    into_small : call.into < base
    into_small = subst (IsWrittenBelow base) call.gives below.1

    in_call : (words : List ℕ) (cells : ℕ → Option ℕ) → all_of (map f.cells line.args) ≡ Some words
        → bound call.leaf.params words ≡ Some cells
        → IsInCall q base (asm_entered call.function call.leaf cells) waiting asking
    in_call words cells words_are bound_is = record {
      args = line.args;
      body = call.body;
      value = call.value;
      into = call.into;
      rest = rest';
      args_below = below.0;
      into_below = into_small;
      computing = subst (λ (n : ℕ). AreComputing n call.body) (sym call.passes) call.is_leaf.computing;
      code = call.is_leaf.code;
      code' = refl;
      none_held = refl;
      known = starts_known base call.leaf.params line.args words f.cells g.cells cells call.is_leaf.params bound_is words_are
          like.cells below.0;
      waits = call.gives;
      at = at;
    }

    begun : (words : List ℕ) (cells : ℕ → Option ℕ) → all_of (map f.cells line.args) ≡ Some words
        → bound call.leaf.params words ≡ Some cells
        → StandsFor {H = H} {W = W} q q'
        (asm_goes (asm_entered call.function call.leaf cells) (waiting ∷ fs) shared) (asm_goes asking gs shared)
    begun words cells words_are bound_is =
        let like' : IsLike q q' base waiting asking
        = like_on rest after line.into g.into f.cells g.cells f.held g.held like like.cells like.held like.held_below in
        (inr ((base, (like', in_call words cells words_are bound_is)), wait), refl)

    asked : (words : List ℕ) (o : Option (ℕ → Option ℕ)) → bound call.leaf.params words ≡ o
        → all_of (map f.cells line.args) ≡ Some words
        → StandsFor {H = H} {W = W} q q'
        (or_stuck o (λ cells. cond (nat_le depth (length (f ∷ fs))) (ended m.stack_full shared)
        (asm_goes (asm_entered call.function call.leaf cells) (waiting ∷ fs) shared)))
        (cond (nat_le depth (length (f ∷ fs))) (ended m.stack_full shared) (asm_goes asking gs shared))
    asked words None is words_are = tt
    asked words (Some cells) is words_are =
        cond_go q q' (nat_le depth (length (f ∷ fs))) (ended m.stack_full shared)
        (asm_goes (asm_entered call.function call.leaf cells) (waiting ∷ fs) shared) (ended m.stack_full shared)
        (asm_goes asking gs shared) (refl, refl) (begun words cells words_are is)

    -- a call in line leads to where the leaf begins, and the question for room to where its lines begin
    pub call_goes : StandsFor {H = H} {W = W} q q' (asm_line m depth q f fs shared (line ∷ rest))
        (asm_line m depth q' g gs shared (lines_for line call rest'))
    call_goes =
        subst (λ (n : ℕ). StandsFor {H = H} {W = W} q q' (asm_line m depth q f fs shared (line ∷ rest))
        (cond (nat_le depth n) (ended m.stack_full shared) (asm_goes asking gs shared)))
        (sym (ap suc (wait_length q q' fs gs wait))) (by (all_of (map f.cells line.args)) refl)
      where
        by : (o : Option (List ℕ)) → all_of (map f.cells line.args) ≡ o
            → StandsFor {H = H} {W = W} q q'
            (or_stuck o (λ words. asm_acts m depth q (record f { code = rest }) fs shared line.action line.args line.into words))
            (cond (nat_le depth (length (f ∷ fs))) (ended m.stack_full shared) (asm_goes asking gs shared))
        by None is = tt
        by (Some words) is =
            subst (λ (action : Action). StandsFor {H = H} {W = W} q q'
            (asm_acts m depth q (record f { code = rest }) fs shared action line.args line.into words)
            (cond (nat_le depth (length (f ∷ fs))) (ended m.stack_full shared) (asm_goes asking gs shared))) (sym call.calls)
            (subst (λ (o : Option Lines). StandsFor {H = H} {W = W} q q'
            (or_stuck o (λ callee. or_stuck (bound callee.params words) (λ cells. cond (nat_le depth (length (f ∷ fs)))
            (ended m.stack_full shared) (asm_goes (asm_entered call.function callee cells) (waiting ∷ fs) shared))))
            (cond (nat_le depth (length (f ∷ fs))) (ended m.stack_full shared) (asm_goes asking gs shared))) (sym call.leaf_is)
            (asked words (bound call.leaf.params words) refl is))

    -- the question weighs no more
    pub call_weighs : asm_line_weight m (g ∷ gs) shared g (lines_for line call rest')
        ≤ asm_line_weight m (f ∷ fs) shared f (line ∷ rest)
    call_weighs =
        subst (λ (action : Action). asm_line_weight m (g ∷ gs) shared g (lines_for line call rest')
        ≤ (argument_moves action (length line.args) + result_moves line.into + spare_moves action) * move_instructions
        + instructions_of m action (all_of (map f.cells line.args)) (top (f ∷ fs)) shared) (sym call.calls) (omega arith)

  -- ---- a line of the leaf

  module _ (base : ℕ) (h f g : Frame Line) (fs gs : List (Frame Line)) (shared : H) (args : List ℕ) (line : Line)
      (body : List Line) (value into : ℕ) (rest : List Line) (like : IsLike q q' base f g) (wait : AllWait q q' fs gs)
      (args_below : AreValuesBelow base args) (into_below : into < base) (one : IsComputing (length args) line)
      (others : AreComputing (length args) body) (none_held : h.held ≡ []) (known : KnowsNamed base args h.cells g.cells)
      (waits : f.into ≡ Some into) (at : IsAtLine q base f.whole g.whole f.code rest) where
    abbrev left : List Line
    left = body ++ (gives_back value ∷ [])

    abbrev left' : List Line
    left' = map (named_line base args) body ++ (copy (named base args value) into ∷ rest)

    abbrev written : ℕ
    written = (computing_into (length args) line.into one.1).0

    into_is : line.into ≡ Some written
    into_is = (computing_into (length args) line.into one.1).1.0

    high : length args ≤ written
    high = (computing_into (length args) line.into one.1).1.1

    computed : (word : ℕ) (next : H)
        → StandsFor {H = H} {W = W} q q'
        (asm_goes (record h { code = left; cells = put_into line.into word h.cells }) (f ∷ fs) next)
        (asm_goes (record g { code = left'; cells = put_into (option_map (named base args) line.into) word g.cells }) gs next)
    computed word next =
        subst (λ (o : Option ℕ). StandsFor {H = H} {W = W} q q'
        (asm_goes (record h { code = left; cells = put_into o word h.cells }) (f ∷ fs) next)
        (asm_goes (record g { code = left'; cells = put_into (option_map (named base args) o) word g.cells }) gs next))
        (sym into_is) (inr ((base, (like', in_call)), wait), refl)
      where
        new : Frame Line
        new = record g { code = left'; cells = put (named base args written) (Some word) g.cells }

        like' : IsLike q q' base f new
        like' = like_on f.code left' f.into g.into f.cells (put (named base args written) (Some word) g.cells) f.held g.held like
            (same_fresh base (named base args written) (Some word) f.cells g.cells (named_high base args written high) like.cells)
            like.held like.held_below

        in_call : IsInCall q base (record h { code = left; cells = put written (Some word) h.cells }) f new
        in_call = record {
          args = args;
          body = body;
          value = value;
          into = into;
          rest = rest;
          args_below = args_below;
          into_below = into_below;
          computing = others;
          code = refl;
          code' = refl;
          none_held = none_held;
          known = named_put base args written word h.cells g.cells args_below high known;
          waits = waits;
          at = at;
        }

    abbrev computes_at : Action → List ℕ → AsmTurn H W
    computes_at action words = asm_acts m depth q (record h { code = left }) (f ∷ fs) shared action line.args line.into words

    abbrev computes_at' : Action → List ℕ → AsmTurn H W
    computes_at' action words =
        asm_acts m depth q' (record g { code = left' }) gs shared action (map (named base args) line.args)
        (option_map (named base args) line.into) words

    acts_same : (words : List ℕ) → StandsFor {H = H} {W = W} q q' (computes_at line.action words) (computes_at' line.action words)
    acts_same words =
        let operation = computing_action line.action one.0 in
        subst (λ (action : Action). StandsFor {H = H} {W = W} q q' (computes_at action words) (computes_at' action words))
        (sym operation.1)
        (same_go q q' (m.compute operation.0 words shared)
        (λ r. asm_goes (record h { code = left; cells = put_into line.into r.0 h.cells }) (f ∷ fs) r.1)
        (λ r. asm_goes (record g { code = left'; cells = put_into (option_map (named base args) line.into) r.0 g.cells }) gs r.1)
        (λ r is. computed r.0 r.1))

    -- it computes the same in line
    pub leaf_goes : StandsFor {H = H} {W = W} q q' (asm_line m depth q h (f ∷ fs) shared (line ∷ left))
        (asm_line m depth q' g gs shared (named_line base args line ∷ left'))
    leaf_goes =
        both_go q q' (all_of (map h.cells line.args)) (all_of (map g.cells (map (named base args) line.args)))
        (computes_at line.action) (computes_at' line.action)
        (λ words is. (words, (named_words base args line.args words h.cells g.cells known is, acts_same words)))

    -- and weighs as much
    pub leaf_weighs : asm_line_weight m (g ∷ gs) shared g (named_line base args line ∷ left')
        ≤ asm_line_weight m (h ∷ f ∷ fs) shared h (line ∷ left)
    leaf_weighs =
        let operation = computing_action line.action one.0 in
        let moves : length (map (named base args) line.args) ≡ length line.args = length-map line.args (named base args) in
        subst (λ (action : Action).
        (argument_moves action (length (map (named base args) line.args)) + result_moves (option_map (named base args) line.into)
        + spare_moves action) * move_instructions
        + instructions_of m action (all_of (map g.cells (map (named base args) line.args))) (top (g ∷ gs)) shared
        ≤ (argument_moves action (length line.args) + result_moves line.into + spare_moves action) * move_instructions
        + instructions_of m action (all_of (map h.cells line.args)) (top (h ∷ f ∷ fs)) shared) (sym operation.1)
        (subst (λ (o : Option ℕ).
        (2 * length (map (named base args) line.args) + result_moves (option_map (named base args) o) + 0) * move_instructions
        + (action_instructions (Compute operation.0) + 0)
        ≤ (2 * length line.args + result_moves o + 0) * move_instructions + (action_instructions (Compute operation.0) + 0))
        (sym into_is) (omega (arith, moves)))

  -- ---- the return

  module _ (base : ℕ) (h f g : Frame Line) (fs gs : List (Frame Line)) (shared : H) (args : List ℕ) (value into : ℕ)
      (rest : List Line) (like : IsLike q q' base f g) (wait : AllWait q q' fs gs) (none_held : h.held ≡ [])
      (known : KnowsNamed base args h.cells g.cells) (waits : f.into ≡ Some into) (at : IsAtLine q base f.whole g.whole f.code rest) where
    got : (word : ℕ) → StandsFor {H = H} {W = W} q q' (asm_returns m (f ∷ fs) shared (Some word))
        (asm_goes (record g { code = rest; cells = put into (Some word) g.cells }) gs shared)
    got word =
        let new : IsLike q q' base (record f { cells = put into (Some word) f.cells })
        (record g { code = rest; cells = put into (Some word) g.cells })
        = like_on f.code rest f.into g.into (put into (Some word) f.cells) (put into (Some word) g.cells) f.held g.held like
        (same_put base into (Some word) f.cells g.cells like.cells) like.held like.held_below in
        subst (λ (o : Option ℕ). StandsFor {H = H} {W = W} q q'
        (or_stuck (received o (Some word) f.cells) (λ cells. asm_goes (record f { cells = cells }) fs shared))
        (asm_goes (record g { code = rest; cells = put into (Some word) g.cells }) gs shared)) (sym waits)
        (inl ((base, (new, at)), wait), refl)

    copied : (word : ℕ) → asm_acts m depth q' (record g { code = rest }) gs shared (Compute Mv) (named base args value ∷ [])
        (Some into) (word ∷ []) ≡ asm_goes (record g { code = rest; cells = put into (Some word) g.cells }) gs shared
    copied word =
        ap (λ (o : Option (ℕ × H)). or_stuck o
        (λ r. asm_goes {W = W} (record g { code = rest; cells = put into (Some r.0) g.cells }) gs r.1)) (copies word shared)

    by_word : (o : Option ℕ) → h.cells value ≡ o
        → StandsFor {H = H} {W = W} q q'
        (or_stuck (all_of (o ∷ [])) (λ words. asm_acts m depth q (record h { code = [] }) (f ∷ fs) shared Return (value ∷ []) None words))
        (asm_line m depth q' g gs shared (copy (named base args value) into ∷ rest))
    by_word None is = tt
    by_word (Some word) is =
        subst (λ (o : Option ℕ). StandsFor {H = H} {W = W} q q'
        (unless_held h.held (asm_returns m (f ∷ fs) shared (Some word)))
        (or_stuck (all_of (o ∷ [])) (λ words. asm_acts m depth q' (record g { code = rest }) gs shared (Compute Mv)
        (named base args value ∷ []) (Some into) words))) (sym (known value word is))
        (subst (λ (held : List ℕ). StandsFor {H = H} {W = W} q q'
        (unless_held held (asm_returns m (f ∷ fs) shared (Some word)))
        (asm_acts m depth q' (record g { code = rest }) gs shared (Compute Mv) (named base args value ∷ []) (Some into) (word ∷ [])))
        (sym none_held)
        (subst (λ (t : AsmTurn H W). StandsFor {H = H} {W = W} q q' (asm_returns m (f ∷ fs) shared (Some word)) t)
        (sym (copied word)) (got word)))

    -- the value goes where the result went
    pub return_goes : StandsFor {H = H} {W = W} q q' (asm_line m depth q h (f ∷ fs) shared (gives_back value ∷ []))
        (asm_line m depth q' g gs shared (copy (named base args value) into ∷ rest))
    return_goes = by_word (h.cells value) refl

    pub return_weighs : asm_line_weight m (g ∷ gs) shared g (copy (named base args value) into ∷ rest)
        ≤ asm_line_weight m (h ∷ f ∷ fs) shared h (gives_back value ∷ [])
    return_weighs = omega arith
