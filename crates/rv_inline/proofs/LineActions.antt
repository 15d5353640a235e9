-- A line that stands in both codes: from states of which one stands for the other it leads to such states, and it weighs as much.
use Rattle.std.proofs.Common.{◌≡◌, inl, ℕ, suc, List, [], ◌∷◌, Option, Some, None, Bool, true, false, cond, map}
use Rattle.std.proofs.Common.{nat_le, length, slice_get, refl, sym, ap, ◌∙◌, subst, ◌+◌, ◌*◌}
use Rattle.rv_isa.specs.declared.asm.Action.{Action}
use Rattle.rv_isa.specs.declared.asm.Action.TheVariants.{Compute, Label, Jump, Branch, Call, TailCall, Return, Routine, Hold}
use Rattle.rv_isa.specs.declared.asm.Action.TheVariants.{Unhold, Room}
use Rattle.rv_isa.specs.declared.routine.Routine.{Routine as Called}
use Rattle.rv_isa.specs.AsmCode.{Line, Lines}
use Rattle.rv_isa.specs.AsmMachine.{AsmTurn, bound, asm_entered, asm_goes, asm_jumps, asm_returns, asm_gives, asm_served}
use Rattle.rv_isa.specs.AsmMachine.{unless_held, asm_acts, asm_line, asm_line_weight}
use Rattle.rv_isa.specs.Costs.{instructions_of, line_moves, spare_moves, move_instructions}
use Rattle.rv_isa.specs.Frames.{Frame, put_into, all_of, only_of, twice_of, result_of, received, found, top, taken_if, holding}
use Rattle.rv_isa.specs.Frames.{unholding}
use Rattle.rv_isa.specs.Primitives.{Reply, answers, ends, fails, Primitives, ended, or_stuck, by_token}
use Rattle.rv_isa.specs.ValueBounds.{AreValuesBelow, IsWrittenBelow, IsLineBelow, AreLinesBelow}
use Rattle.rv_inline.specs.InLine.{AreInLine, IsInLine, HasInLine}
use Rattle.rv_inline.specs.Relation.{SameBelow, IsLike, IsAtLine, AllWait, FramesStand, StandsFor}
use Rattle.rv_inline.proofs.FrameValues.{same_put_into, same_words}
use Rattle.rv_inline.proofs.Labels.{marks, callee_both}
use Rattle.rv_inline.proofs.LinePlaces.{first_line, found_place, wholes_in_line, whole_below}
use Rattle.rv_inline.proofs.Frames.{like_on, wait_length, top_same, holding_below, unholding_below, twice_below}
use Rattle.rv_inline.proofs.Frames.{taken_if_stand, received_both}

-- ---- turns

pub same_go : {A H W : Type 0} (q q' : List Lines) (o : Option A) (next next' : A → AsmTurn H W)
    → ((a : A) → o ≡ Some a → StandsFor q q' (next a) (next' a)) → StandsFor q q' (or_stuck o next) (or_stuck o next')
same_go q q' None next next' meets = tt
same_go q q' (Some a) next next' meets = meets a refl

pub both_go : {A B H W : Type 0} (q q' : List Lines) (o : Option A) (o' : Option B) (next : A → AsmTurn H W)
    (next' : B → AsmTurn H W) → ((a : A) → o ≡ Some a → (b : B) × ((o' ≡ Some b) × StandsFor q q' (next a) (next' b)))
    → StandsFor q q' (or_stuck o next) (or_stuck o' next')
both_go q q' None o' next next' meets = tt
both_go {B = B} q q' (Some a) o' next next' meets =
    let b = meets a refl in subst (λ (x : Option B). StandsFor q q' (next a) (or_stuck x next')) (sym b.1.0) b.1.1

pub cond_go : {H W : Type 0} (q q' : List Lines) (b : Bool) (s s' t t' : AsmTurn H W) → StandsFor q q' s t
    → StandsFor q q' s' t' → StandsFor q q' (cond b s s') (cond b t t')
cond_go q q' true s s' t t' first second = first
cond_go q q' false s s' t t' first second = second

held_go : {H W : Type 0} (q q' : List Lines) (held held' : List ℕ) (s t : AsmTurn H W) → held' ≡ held
    → (held ≡ [] → StandsFor q q' s t) → StandsFor q q' (unless_held held s) (unless_held held' t)
held_go q q' [] [] s t same stands = stands refl
held_go q q' [] (k ∷ ks) s t same stands = cc same
held_go q q' (k ∷ ks) held' s t same stands = tt

module _ {H E W : Type 0} (m : Primitives H E W) (depth : ℕ) (q q' : List Lines) (all : HasInLine q q') where
  gives_stand : (into : Option ℕ) (word : ℕ) (shared : H) (left left' : List (Frame Line)) → FramesStand q q' left left'
      → StandsFor {W = W} q q' (asm_gives into word left shared) (asm_gives into word left' shared)
  gives_stand into word shared [] left' stand = tt
  gives_stand into word shared (f ∷ fs) [] stand = absurd stand
  gives_stand into word shared (f ∷ fs) (g ∷ gs) stand =
      let base : ℕ = stand.0.0 in
      let like : IsLike q q' base f g = stand.0.1.0 in
      let written : IsLike q q' base (record f { cells = put_into into word f.cells })
      (record g { cells = put_into into word g.cells })
      = like_on f.code g.code f.into g.into (put_into into word f.cells) (put_into into word g.cells) f.held g.held like
      (same_put_into base into word f.cells g.cells like.cells) like.held like.held_below in
      (inl ((base, (written, stand.0.1.1)), stand.1), refl)

  pub returned : (shared : H) (fs gs : List (Frame Line)) (result : Option ℕ) → AllWait q q' fs gs
      → StandsFor q q' (asm_returns m fs shared result) (asm_returns m gs shared result)
  returned shared [] [] result wait = (refl, refl)
  returned shared [] (g ∷ gs) result wait = absurd wait
  returned shared (f ∷ fs) [] result wait = absurd wait
  returned shared (f ∷ fs) (g ∷ gs) result wait =
      let base : ℕ = wait.0.0 in
      let like : IsLike q q' base f g = wait.0.1.0 in
      let goes : (ℕ → Option ℕ) → AsmTurn H W = λ cells. asm_goes (record f { cells = cells }) fs shared in
      let goes' : (ℕ → Option ℕ) → AsmTurn H W = λ cells. asm_goes (record g { cells = cells }) gs shared in
      subst (λ (into : Option ℕ). StandsFor q q' (or_stuck (received f.into result f.cells) goes)
      (or_stuck (received into result g.cells) goes')) (sym wait.0.1.1.1.0)
      (both_go q q' (received f.into result f.cells) (received f.into result g.cells) goes goes'
      (λ cells is.
      let there = received_both base f.into result f.cells g.cells cells like.cells is in
      let new : IsLike q q' base (record f { cells = cells }) (record g { cells = there.0 })
      = like_on f.code g.code f.into g.into cells there.0 f.held g.held like there.1.1 like.held like.held_below in
      (there.0, (there.1.0, (inl ((base, (new, wait.0.1.1.0)), wait.1), refl)))))

  served : (into : Option ℕ) (fs gs : List (Frame Line)) (reply : Reply H W) → FramesStand q q' fs gs
      → StandsFor q q' (asm_served into fs reply) (asm_served into gs reply)
  served into fs gs (answers word shared took) stand =
      both_go q q' (taken_if took fs) (taken_if took gs) (λ left. asm_gives into word left shared)
      (λ left. asm_gives into word left shared)
      (λ left is.
      let there = taken_if_stand q q' took fs gs left stand is in
      (there.0, (there.1.0, gives_stand into word shared left there.0 there.1.1)))
  served into fs gs (ends how shared) stand = (refl, refl)
  served into fs gs fails stand = tt

  module _ (base : ℕ) (f g : Frame Line) (fs gs : List (Frame Line)) (shared : H) (rest rest' : List Line)
      (like : IsLike q q' base f g) (wait : AllWait q q' fs gs) (at : IsAtLine q base f.whole g.whole rest rest') where
    -- the frames behind the line
    abbrev on : Frame Line
    on = record f { code = rest }

    abbrev on' : Frame Line
    on' = record g { code = rest' }

    goes : (code code' : List Line) (cells cells' : ℕ → Option ℕ) (held held' : List ℕ) (next : H) → SameBelow base cells cells'
        → held' ≡ held → AreValuesBelow base held → IsAtLine q base f.whole g.whole code code'
        → StandsFor {W = W} q q' (asm_goes (record f { code = code; cells = cells; held = held }) fs next)
        (asm_goes (record g { code = code'; cells = cells'; held = held' }) gs next)
    goes code code' cells cells' held held' next same same_held below there =
        (inl ((base, (like_on code code' f.into g.into cells cells' held held' like same same_held below, there)), wait), refl)

    stays : (next : H) → StandsFor {W = W} q q' (asm_goes on fs next) (asm_goes on' gs next)
    stays next = goes rest rest' f.cells g.cells f.held g.held next like.cells like.held like.held_below at

    writes : (into : Option ℕ) (word : ℕ) (next : H)
        → StandsFor {W = W} q q' (asm_goes (record on { cells = put_into into word f.cells }) fs next)
        (asm_goes (record on' { cells = put_into into word g.cells }) gs next)
    writes into word next =
        goes rest rest' (put_into into word f.cells) (put_into into word g.cells) f.held g.held next
        (same_put_into base into word f.cells g.cells like.cells) like.held like.held_below at

    jumps : (l : ℕ) → StandsFor {W = W} q q' (asm_jumps l on fs shared) (asm_jumps l on' gs shared)
    jumps l =
        both_go q q' (found (marks l) f.whole) (found (marks l) g.whole) (λ code. asm_goes (record f { code = code }) fs shared)
        (λ code. asm_goes (record g { code = code }) gs shared)
        (λ code is.
        let both : AreInLine q base f.whole g.whole = wholes_in_line q q' base f g like in
        let small : AreLinesBelow base f.whole = whole_below q q' base f g like in
        let there = found_place q l base f.whole g.whole code both small is in (
          there.0,
          (there.1.0, goes code there.0 f.cells g.cells f.held g.held shared like.cells like.held like.held_below there.1.1),
        ))

    -- a function is entered
    enters : (callee callee' : Lines) (number base_in : ℕ) (cells : ℕ → Option ℕ) (olds news : List (Frame Line))
        → slice_get q number ≡ Some callee → slice_get q' number ≡ Some callee'
        → (is : IsInLine q base_in callee callee') → AllWait q q' olds news
        → StandsFor {W = W} q q' (asm_goes (asm_entered number callee cells) olds shared)
        (asm_goes (asm_entered number callee' cells) news shared)
    enters callee callee' number base_in cells olds news here there is waits =
        let entered : IsLike q q' base_in (asm_entered number callee cells) (asm_entered number callee' cells)
        = record {
          old = callee;
          new = callee';
          old_is = here;
          new_is = there;
          is = is;
          whole = refl;
          whole' = refl;
          function = refl;
          cells = λ x less. refl;
          held = refl;
          held_below = tt;
        } in
        (inl ((base_in, (entered, first_line q base_in callee callee' is)), waits), refl)

    calls_both : (number : ℕ) (args : List ℕ) (into : Option ℕ) (words : List ℕ) → IsWrittenBelow base into
        → StandsFor q q' (asm_acts m depth q on fs shared (Call number) args into words)
        (asm_acts m depth q' on' gs shared (Call number) args into words)
    calls_both number args into words small =
        let waits : Frame Line = record on { into = into } in
        let waits' : Frame Line = record on' { into = into } in
        let waiting : AllWait q q' (waits ∷ fs) (waits' ∷ gs)
        = (
          (
            base,
            (
              like_on rest rest' into into f.cells g.cells f.held g.held like like.cells like.held like.held_below,
              (at, (refl, small)),
            ),
          ),
          wait,
        ) in
        let long : length (on' ∷ gs) ≡ length (on ∷ fs) = ap suc (wait_length q q' fs gs wait) in
        let next : Lines → (ℕ → Option ℕ) → AsmTurn H W = λ c cells. cond (nat_le depth (length (on ∷ fs)))
        (ended m.stack_full shared) (asm_goes (asm_entered number c cells) (waits ∷ fs) shared) in
        let next' : Lines → (ℕ → Option ℕ) → AsmTurn H W = λ c cells. cond (nat_le depth (length (on' ∷ gs)))
        (ended m.stack_full shared) (asm_goes (asm_entered number c cells) (waits' ∷ gs) shared) in
        both_go q q' (slice_get q number) (slice_get q' number) (λ c. or_stuck (bound c.params words) (next c))
        (λ c. or_stuck (bound c.params words) (next' c))
        (λ c is.
        let there = callee_both q q' number c all is in
        let params : there.0.params ≡ c.params = there.1.1.1.params in (
          there.0,
          (
            there.1.0,
            subst (λ (ps : List ℕ). StandsFor q q' (or_stuck (bound c.params words) (next c))
                (or_stuck (bound ps words) (next' there.0))) (sym params)
                (same_go q q' (bound c.params words) (next c) (next' there.0)
                (λ cells bound_is.
                subst (λ (n : ℕ). StandsFor q q' (next c cells) (cond (nat_le depth n) (ended m.stack_full shared)
                (asm_goes (asm_entered number there.0 cells) (waits' ∷ gs) shared))) (sym long)
                (cond_go q q' (nat_le depth (length (on ∷ fs))) (ended m.stack_full shared)
                (asm_goes (asm_entered number c cells) (waits ∷ fs) shared) (ended m.stack_full shared)
                (asm_goes (asm_entered number there.0 cells) (waits' ∷ gs) shared) (refl, refl)
                (enters c there.0 number there.1.1.0 cells (waits ∷ fs) (waits' ∷ gs) is there.1.0 there.1.1.1 waiting)))),
          ),
        ))

    ends_in : (number : ℕ) (args : List ℕ) (into : Option ℕ) (words : List ℕ)
        → StandsFor q q' (asm_acts m depth q on fs shared (TailCall number) args into words)
        (asm_acts m depth q' on' gs shared (TailCall number) args into words)
    ends_in number args into words =
        let next : Lines → (ℕ → Option ℕ) → AsmTurn H W = λ c cells. asm_goes (asm_entered number c cells) fs shared in
        let next' : Lines → (ℕ → Option ℕ) → AsmTurn H W = λ c cells. asm_goes (asm_entered number c cells) gs shared in
        held_go q q' f.held g.held (or_stuck (slice_get q number) (λ c. or_stuck (bound c.params words) (next c)))
        (or_stuck (slice_get q' number) (λ c. or_stuck (bound c.params words) (next' c))) like.held
        (λ none. both_go q q' (slice_get q number) (slice_get q' number) (λ c. or_stuck (bound c.params words) (next c))
        (λ c. or_stuck (bound c.params words) (next' c))
        (λ c is.
        let there = callee_both q q' number c all is in
        let params : there.0.params ≡ c.params = there.1.1.1.params in (
          there.0,
          (
            there.1.0,
            subst (λ (ps : List ℕ). StandsFor q q' (or_stuck (bound c.params words) (next c))
                (or_stuck (bound ps words) (next' there.0))) (sym params)
                (same_go q q' (bound c.params words) (next c) (next' there.0)
                (λ cells bound_is. enters c there.0 number there.1.1.0 cells fs gs is there.1.0 there.1.1.1 wait)),
          ),
        )))

    gives_back_both : (args : List ℕ) (into : Option ℕ) (words : List ℕ)
        → StandsFor q q' (asm_acts m depth q on fs shared Return args into words)
        (asm_acts m depth q' on' gs shared Return args into words)
    gives_back_both args into words =
        held_go q q' f.held g.held (or_stuck (result_of words) (λ result. asm_returns m fs shared result))
        (or_stuck (result_of words) (λ result. asm_returns m gs shared result)) like.held
        (λ none. same_go q q' (result_of words) (λ result. asm_returns m fs shared result)
        (λ result. asm_returns m gs shared result) (λ result is. returned shared fs gs result wait))

    serves : (routine : Called) (args : List ℕ) (into : Option ℕ) (words : List ℕ)
        → StandsFor q q' (asm_acts m depth q on fs shared (Routine routine) args into words)
        (asm_acts m depth q' on' gs shared (Routine routine) args into words)
    serves routine args into words =
        let like_rest : IsLike q q' base on on'
        = like_on rest rest' f.into g.into f.cells g.cells f.held g.held like like.cells like.held like.held_below in
        subst (λ (o : Option ℕ). StandsFor q q' (asm_served into (on ∷ fs) (m.serve routine words (top (on ∷ fs)) shared))
        (asm_served into (on' ∷ gs) (m.serve routine words o shared))) (sym (top_same q q' base on on' fs gs like_rest wait))
        (served into (on ∷ fs) (on' ∷ gs) (m.serve routine words (top (on ∷ fs)) shared) ((base, (like_rest, at)), wait))

    holds_both : (args : List ℕ) (into : Option ℕ) (words : List ℕ) → AreValuesBelow base args
        → StandsFor q q' (asm_acts m depth q on fs shared Hold args into words)
        (asm_acts m depth q' on' gs shared Hold args into words)
    holds_both args into words below =
        same_go q q' (twice_of args) _ _
        (λ value value_is. same_go q q' (twice_of words) _ _
        (λ word word_is.
        let next : List ℕ → H → AsmTurn H W = λ held h. asm_goes (record on { held = held }) fs h in
        let next' : List ℕ → H → AsmTurn H W = λ held h. asm_goes (record on' { held = held }) gs h in
        subst (λ (held : List ℕ). StandsFor q q'
        (or_stuck (holding value word f.held) (λ left. or_stuck (by_token m.hold word shared) (next left)))
        (or_stuck (holding value word held) (λ left. or_stuck (by_token m.hold word shared) (next' left)))) (sym like.held)
        (same_go q q' (holding value word f.held) (λ left. or_stuck (by_token m.hold word shared) (next left))
        (λ left. or_stuck (by_token m.hold word shared) (next' left))
        (λ held held_is. same_go q q' (by_token m.hold word shared) (next held) (next' held)
        (λ h h_is. goes rest rest' f.cells g.cells held held h like.cells refl
        (holding_below base value word f.held held (twice_below base value args below value_is) like.held_below held_is) at)))))

    unholds_both : (args : List ℕ) (into : Option ℕ) (words : List ℕ)
        → StandsFor q q' (asm_acts m depth q on fs shared Unhold args into words)
        (asm_acts m depth q' on' gs shared Unhold args into words)
    unholds_both args into words =
        same_go q q' (only_of args) _ _
        (λ value value_is. same_go q q' (only_of words) _ _
        (λ word word_is.
        let next : List ℕ → H → AsmTurn H W = λ held h. asm_goes
        (record on { cells = put_into into word f.cells; held = held }) fs h in
        let next' : List ℕ → H → AsmTurn H W = λ held h. asm_goes
        (record on' { cells = put_into into word g.cells; held = held }) gs h in
        subst (λ (held : List ℕ). StandsFor q q'
        (or_stuck (unholding value word f.held) (λ left. or_stuck (by_token m.unhold word shared) (next left)))
        (or_stuck (unholding value word held) (λ left. or_stuck (by_token m.unhold word shared) (next' left)))) (sym like.held)
        (same_go q q' (unholding value word f.held) (λ left. or_stuck (by_token m.unhold word shared) (next left))
        (λ left. or_stuck (by_token m.unhold word shared) (next' left))
        (λ held held_is. same_go q q' (by_token m.unhold word shared) (next held) (next' held)
        (λ h h_is. goes rest rest' (put_into into word f.cells) (put_into into word g.cells) held held h
        (same_put_into base into word f.cells g.cells like.cells) refl
        (unholding_below base value word f.held held like.held_below held_is) at)))))

    asks : StandsFor {W = W} q q' (cond (nat_le depth (length (on ∷ fs))) (ended m.stack_full shared) (asm_goes on fs shared))
        (cond (nat_le depth (length (on' ∷ gs))) (ended m.stack_full shared) (asm_goes on' gs shared))
    asks =
        let long : length (on' ∷ gs) ≡ length (on ∷ fs) = ap suc (wait_length q q' fs gs wait) in
        subst (λ (n : ℕ). StandsFor {W = W} q q'
        (cond (nat_le depth (length (on ∷ fs))) (ended m.stack_full shared) (asm_goes on fs shared))
        (cond (nat_le depth n) (ended m.stack_full shared) (asm_goes on' gs shared))) (sym long)
        (cond_go q q' (nat_le depth (length (on ∷ fs))) (ended m.stack_full shared) (asm_goes on fs shared)
        (ended m.stack_full shared) (asm_goes on' gs shared) (refl, refl) (stays shared))

    acts : (action : Action) (args : List ℕ) (into : Option ℕ) (words : List ℕ) → AreValuesBelow base args
        → IsWrittenBelow base into
        → StandsFor q q' (asm_acts m depth q on fs shared action args into words)
        (asm_acts m depth q' on' gs shared action args into words)
    acts (Compute operation) args into words below small =
        same_go q q' (m.compute operation words shared)
        (λ r. asm_goes (record on { cells = put_into into r.0 f.cells }) fs r.1)
        (λ r. asm_goes (record on' { cells = put_into into r.0 g.cells }) gs r.1) (λ r is. writes into r.0 r.1)
    acts (Label l) args into words below small = stays shared
    acts (Jump l) args into words below small = jumps l
    acts (Branch condition l) args into words below small =
        same_go q q' (m.holds condition words) (λ taken. cond taken (asm_jumps l on fs shared) (asm_goes on fs shared))
        (λ taken. cond taken (asm_jumps l on' gs shared) (asm_goes on' gs shared))
        (λ taken is. cond_go q q' taken (asm_jumps l on fs shared) (asm_goes on fs shared) (asm_jumps l on' gs shared)
        (asm_goes on' gs shared) (jumps l) (stays shared))
    acts (Call number) args into words below small = calls_both number args into words small
    acts (TailCall number) args into words below small = ends_in number args into words
    acts Return args into words below small = gives_back_both args into words
    acts (Routine routine) args into words below small = serves routine args into words
    acts Hold args into words below small = holds_both args into words below
    acts Unhold args into words below small = unholds_both args into words
    acts Room args into words below small = asks

  -- any line leads to the same line of both again
  pub line_goes : (base : ℕ) (f g : Frame Line) (fs gs : List (Frame Line)) (shared : H) (rest rest' : List Line) (line : Line)
      → IsLike q q' base f g → AllWait q q' fs gs → IsAtLine q base f.whole g.whole rest rest' → IsLineBelow base line
      → StandsFor q q' (asm_line m depth q f fs shared (line ∷ rest)) (asm_line m depth q' g gs shared (line ∷ rest'))
  line_goes base f g fs gs shared rest rest' line like wait at below =
      let next : List ℕ → AsmTurn H W
      = λ words. asm_acts m depth q (record f { code = rest }) fs shared line.action line.args line.into words in
      let next' : List ℕ → AsmTurn H W
      = λ words. asm_acts m depth q' (record g { code = rest' }) gs shared line.action line.args line.into words in
      subst (λ (os : List (Option ℕ)). StandsFor q q' (or_stuck (all_of (map f.cells line.args)) next) (or_stuck (all_of os) next'))
      (sym (same_words base line.args f.cells g.cells below.0 like.cells))
      (same_go q q' (all_of (map f.cells line.args)) next next'
      (λ words is. acts base f g fs gs shared rest rest' like wait at line.action line.args line.into words below.0 below.1))

  -- and weighs as much
  pub line_weighs : (base : ℕ) (f g : Frame Line) (fs gs : List (Frame Line)) (shared : H) (rest rest' : List Line) (line : Line)
      → IsLike q q' base f g → AllWait q q' fs gs → IsLineBelow base line
      → asm_line_weight m (g ∷ gs) shared g (line ∷ rest') ≡ asm_line_weight m (f ∷ fs) shared f (line ∷ rest)
  line_weighs base f g fs gs shared rest rest' line like wait below =
      ap (λ (os : List (Option ℕ)). (line_moves line + spare_moves line.action) * move_instructions
      + instructions_of m line.action (all_of os) (top (g ∷ gs)) shared) (same_words base line.args f.cells g.cells below.0 like.cells)
      ∙ ap (λ (held : Option ℕ). (line_moves line + spare_moves line.action) * move_instructions
      + instructions_of m line.action (all_of (map f.cells line.args)) held shared) (top_same q q' base f g fs gs like wait)
