-- The placed form's machine keeps to code with few moves between its statements, and pays for the stores to come.
use Rattle.std.proofs.Common.{◌≡◌, ◌≤◌, ◌+◌, ◌-◌, ◌*◌, ℕ, zero, suc, List, [], ◌∷◌, Option, Some, None, Bool, true, false, cond, slice_get, length, nat_le, refl, sym, ◌∙◌, ap, subst, arith, map, option_map}
use Rattle.rv_isa.specs.declared.asm.Action.{Action}
use Rattle.rv_isa.specs.declared.asm.Action.TheVariants.{Compute, Label, Jump, Branch, Call, TailCall, Return, Routine, Hold, Unhold, Room}
use Rattle.rv_isa.specs.declared.routine.Routine.TheVariants.{Drop}
use Rattle.rv_isa.specs.declared.placed.Listed.{Listed}
use Rattle.rv_isa.specs.declared.placed.Operand.{Operand}
use Rattle.rv_isa.specs.PlacedCode.{PlacedLine, does, moves, PlacedLines}
use Rattle.rv_isa.specs.Primitives.{Reply, answers, ends, fails, Primitives, ended, stuck, or_stuck, by_token}
use Rattle.rv_isa.specs.Conventions.{conforms}
use Rattle.rv_isa.specs.Costs.{argument_moves, spare_moves, result_moves, move_instructions}
use Rattle.rv_isa.specs.Frames.{Frame, empty, put, all_of, found, top, top_taken, taken_in, taken_if, only_of, twice_of, result_of, received, holding, unholding}
use Rattle.rv_isa.specs.AsmMachine.{is_label, unless_held}
use Rattle.rv_isa.specs.PlacedMachine.{PlacedTurn, is_label_line, read_at, kept_by, passed, awaited, only_slot, first_slot, placed_entered, placed_goes, unless_lost, placed_gives, placed_jumps, placed_returns, placed_answered, placed_served, placed_acts, placed_line}
use Rattle.rv_regs.specs.Relation.{leading, argument_loads, first_args, stores_behind, MovesWithin, FunctionMovesWithin, AllMovesWithin, FramesMovesWithin, stores_before, HasMovesWithin}

-- the stores for the arguments of an action, behind it or in its callee
abbrev pub argument_stores : Action → ℕ → ℕ
argument_stores (Compute operation) count = count
argument_stores (Call f) count = count
argument_stores (TailCall f) count = count
argument_stores _ count = 0

-- each argument that is not in its slot is loaded, and may be stored; before a drop one move more may stand
pub moves_are : (action : Action) (count : ℕ) → argument_moves action count + spare_moves action ≡ argument_loads action count + argument_stores action count
moves_are (Compute operation) count = omega arith
moves_are (Call f) count = omega arith
moves_are (TailCall f) count = omega arith
moves_are (Routine Drop) count = omega arith
moves_are action count = omega arith

-- a function that is called has no more parameters than there are arguments
abbrev pub CallFits : List PlacedLines → Action → ℕ → Type 0
CallFits placed (Call n) count = (callee : PlacedLines) → slice_get placed n ≡ Some callee → length callee.params ≤ count
CallFits placed (TailCall n) count = (callee : PlacedLines) → slice_get placed n ≡ Some callee → length callee.params ≤ count
CallFits placed _ count = Unit {0}

found_step_front : (alive : List Listed) (action : Action) (args : List Operand) (into : Option Operand) (rest k : List PlacedLine) (o : Option (List PlacedLine)) (b : Bool) → (o ≡ Some k → leading k ≡ 0)
    → cond b (Some (does alive action args into ∷ rest)) o ≡ Some k → leading k ≡ 0
found_step_front alive action args into rest k o true later e = let same : does alive action args into ∷ rest ≡ k = cc in sym (ap leading same)
found_step_front alive action args into rest k o false later e = later e

-- no move stands before a label that is found
found_front : (l : ℕ) (code k : List PlacedLine) → found (is_label_line l) code ≡ Some k → leading k ≡ 0
found_front l [] k e = cc
found_front l (does alive action args into ∷ rest) k e = found_step_front alive action args into rest k (found (is_label_line l) rest) (is_label l action) (found_front l rest k) e
found_front l (moves alive value way ∷ rest) k e = found_front l rest k e

pub some_mapped : {A B : Type 0} (f : A → B) (o : Option A) (b : B) → option_map f o ≡ Some b → (a : A) × (o ≡ Some a) × (f a ≡ b)
some_mapped f None b e = cc
some_mapped f (Some a) b e = (a, refl, cc)

module _ (extra : ℕ) where
  -- frames with few moves, whose stores to come are within so much weight
  abbrev FramesHave : ℕ → List (Frame PlacedLine) → Type 0
  FramesHave credit frames = FramesMovesWithin extra frames × (stores_before extra frames * move_instructions ≤ credit)

  some_few : {A H W : Type 0} (credit : ℕ) (o : Option A) (next : A → PlacedTurn H W) → ((a : A) → o ≡ Some a → HasMovesWithin extra credit (next a)) → HasMovesWithin extra credit (or_stuck o next)
  some_few credit None next few = tt
  some_few credit (Some a) next few = few a refl

  cond_few : {H W : Type 0} (credit : ℕ) (b : Bool) (t t' : PlacedTurn H W) → HasMovesWithin extra credit t → HasMovesWithin extra credit t' → HasMovesWithin extra credit (cond b t t')
  cond_few credit true t t' few few' = few
  cond_few credit false t t' few few' = few'

  unless_few : {H W : Type 0} (credit : ℕ) (held : List ℕ) (t : PlacedTurn H W) → HasMovesWithin extra credit t → HasMovesWithin extra credit (unless_held held t)
  unless_few credit [] t few = few
  unless_few credit (k ∷ ks) t few = tt

  -- ---- labels

  few_rest : (line : PlacedLine) (rest : List PlacedLine) → MovesWithin extra (line ∷ rest) → MovesWithin extra rest
  few_rest (does alive action args into) rest few = few.1
  few_rest (moves alive value way) rest few = few

  found_step_few : (line : PlacedLine) (rest k : List PlacedLine) (o : Option (List PlacedLine)) (b : Bool) → MovesWithin extra (line ∷ rest) → (o ≡ Some k → MovesWithin extra k)
      → cond b (Some (line ∷ rest)) o ≡ Some k → MovesWithin extra k
  found_step_few line rest k o true few later e = let same : line ∷ rest ≡ k = cc in subst (MovesWithin extra) same few
  found_step_few line rest k o false few later e = later e

  found_few : (marks : PlacedLine → Bool) (code k : List PlacedLine) → MovesWithin extra code → found marks code ≡ Some k → MovesWithin extra k
  found_few marks [] k few e = cc
  found_few marks (line ∷ rest) k few e = found_step_few line rest k (found marks rest) (marks line) few (found_few marks rest k (few_rest line rest few)) e

  -- ---- functions

  pub function_few : (functions : List PlacedLines) (n : ℕ) (function : PlacedLines) → AllMovesWithin extra functions → slice_get functions n ≡ Some function → FunctionMovesWithin extra function
  function_few [] n function few e = cc
  function_few (p ∷ ps) zero function few e = let same : p ≡ function = cc in subst (FunctionMovesWithin extra) same few.0
  function_few (p ∷ ps) (suc n) function few e = function_few ps n function few.1 e

  -- ---- frames from which a token is taken

  taken_in_few : (ks : List ℕ) (g : Frame PlacedLine) (gs left : List (Frame PlacedLine)) → FramesMovesWithin extra (g ∷ gs)
      → ((below : List (Frame PlacedLine)) → top_taken gs ≡ Some below → FramesMovesWithin extra below) → taken_in ks g gs (top_taken gs) ≡ Some left → FramesMovesWithin extra left
  taken_in_few [] g gs left few later e =
      let b = some_mapped (λ below. g ∷ below) (top_taken gs) left e in subst (FramesMovesWithin extra) b.2 (few.0, later b.0 b.1)
  taken_in_few (k ∷ ks) g gs left few later e =
      let same : record g { cells = put k (Some 0) g.cells; held = ks } ∷ gs ≡ left = cc in subst (FramesMovesWithin extra) same few

  taken_few : (gs left : List (Frame PlacedLine)) → FramesMovesWithin extra gs → top_taken gs ≡ Some left → FramesMovesWithin extra left
  taken_few [] left few e = cc
  taken_few (g ∷ gs) left few e = taken_in_few g.held g gs left few (λ below e'. taken_few gs below few.1 e') e

  taken_in_stores : (ks : List ℕ) (g : Frame PlacedLine) (gs left : List (Frame PlacedLine))
      → ((below : List (Frame PlacedLine)) → top_taken gs ≡ Some below → stores_before extra below ≡ stores_before extra gs) → taken_in ks g gs (top_taken gs) ≡ Some left → stores_before extra left ≡ stores_before extra (g ∷ gs)
  taken_in_stores [] g gs left later e =
      let b = some_mapped (λ below. g ∷ below) (top_taken gs) left e in sym (ap (stores_before extra) b.2) ∙ ap (λ n. (leading g.code - (first_args g.code + extra)) + n) (later b.0 b.1)
  taken_in_stores (k ∷ ks) g gs left later e =
      let same : record g { cells = put k (Some 0) g.cells; held = ks } ∷ gs ≡ left = cc in sym (ap (stores_before extra) same)

  taken_stores : (gs left : List (Frame PlacedLine)) → top_taken gs ≡ Some left → stores_before extra left ≡ stores_before extra gs
  taken_stores [] left e = cc
  taken_stores (g ∷ gs) left e = taken_in_stores g.held g gs left (λ below e'. taken_stores gs below e') e

  taken_if_few : (credit : ℕ) (took : Bool) (gs left : List (Frame PlacedLine)) → FramesHave credit gs → taken_if took gs ≡ Some left → FramesHave credit left
  taken_if_few credit true gs left have e = (taken_few gs left have.0 e, subst (λ n. n * move_instructions ≤ credit) (sym (taken_stores gs left e)) have.1)
  taken_if_few credit false gs left have e = let same : gs ≡ left = cc in subst (FramesHave credit) same have

  -- ---- turns

  gives_few : {H : Type 0} (W : Type 0) (credit : ℕ) (into : Option Operand) (word : ℕ) (g : Frame PlacedLine) (gs : List (Frame PlacedLine)) (registers : ℕ → Option ℕ) (shared : H) → FramesHave credit (g ∷ gs)
      → HasMovesWithin {W = W} extra credit (placed_gives into word g gs registers shared)
  gives_few W credit None word g gs registers shared have = have
  gives_few W credit (Some o) word g gs registers shared have = have

  answered_few : {H : Type 0} (W : Type 0) (credit : ℕ) (into : Option Operand) (word : ℕ) (gs : List (Frame PlacedLine)) (registers : ℕ → Option ℕ) (shared : H) → FramesHave credit gs
      → HasMovesWithin {W = W} extra credit (placed_answered into word gs registers shared)
  answered_few W credit into word [] registers shared have = tt
  answered_few W credit into word (g ∷ gs) registers shared have = gives_few W credit into word g gs registers shared have

  served_few : {H W : Type 0} (credit : ℕ) (into : Option Operand) (gs : List (Frame PlacedLine)) (registers : ℕ → Option ℕ) (reply : Reply H W) → FramesHave credit gs → HasMovesWithin extra credit (placed_served into gs registers reply)
  served_few {W = W} credit into gs registers (answers word shared took) have =
      some_few credit (taken_if took gs) (λ left. placed_answered into word left registers shared) (λ left e. answered_few W credit into word left registers shared (taken_if_few credit took gs left have e))
  served_few credit into gs registers (ends how shared) have = tt
  served_few credit into gs registers fails have = tt

  returns_few : {H E W : Type 0} (m : Primitives H E W) (credit : ℕ) (gs : List (Frame PlacedLine)) (shared : H) (result : Option ℕ) → FramesHave credit gs → HasMovesWithin extra credit (placed_returns m gs shared result)
  returns_few m credit [] shared result have = tt
  returns_few m credit (g ∷ gs) shared result have = some_few credit (received g.into result empty) (λ registers. placed_goes g gs registers shared) (λ registers e. have)

  module _ {H E W : Type 0} (m : Primitives H E W) (depth credit : ℕ) (placed : List PlacedLines) (all : AllMovesWithin extra placed) where
    jumps_few : (l : ℕ) (g : Frame PlacedLine) (gs : List (Frame PlacedLine)) (registers : ℕ → Option ℕ) (shared : H) → FramesMovesWithin extra (g ∷ gs) → stores_before extra gs * move_instructions ≤ credit
        → HasMovesWithin {W = W} extra credit (placed_jumps l g gs registers shared)
    jumps_few l g gs registers shared few paid =
        some_few credit (found (is_label_line l) g.whole) (λ code. placed_goes (record g { code = code }) gs registers shared)
        (λ k e. (((found_few (is_label_line l) g.whole k few.0.1 e, few.0.1), few.1), omega (arith, paid, found_front l g.whole k e)))

    -- a callee with its frame on others
    enters_few : (n : ℕ) (callee : PlacedLines) (gs : List (Frame PlacedLine)) (registers : ℕ → Option ℕ) (shared : H) → slice_get placed n ≡ Some callee → FramesMovesWithin extra gs
        → (length callee.params + stores_before extra gs) * move_instructions ≤ credit → HasMovesWithin {W = W} extra credit (placed_goes (placed_entered n callee) gs registers shared)
    enters_few n callee gs registers shared e few paid =
        let function = function_few placed n callee all e in (((function.1, function.1), few), omega (arith, paid, function.0))

    abbrev Acts : Action → Type 0
    Acts action =
        (g : Frame PlacedLine) (gs : List (Frame PlacedLine)) (registers : ℕ → Option ℕ) (shared : H) (args : List Operand) (into : Option Operand) (words : List ℕ) → FramesMovesWithin extra (g ∷ gs)
        → leading g.code ≤ stores_behind action args into + (first_args g.code + extra) → CallFits placed action (length args) → (argument_stores action (length args) + result_moves into + stores_before extra gs) * move_instructions ≤ credit
        → HasMovesWithin extra credit (placed_acts m depth placed g gs registers shared action args into words)

    calls_few : (n : ℕ) → Acts (Call n)
    calls_few n g gs registers shared args into words few here fits paid =
        some_few credit (slice_get placed n) (λ callee. cond (nat_le depth (length (g ∷ gs))) (ended m.stack_full shared) (placed_goes (placed_entered n callee) (record g { into = awaited into } ∷ gs) (passed 0 words) shared))
        (λ callee e. cond_few credit (nat_le depth (length (g ∷ gs))) (ended m.stack_full shared) (placed_goes (placed_entered n callee) (record g { into = awaited into } ∷ gs) (passed 0 words) shared) tt
        (enters_few n callee (record g { into = awaited into } ∷ gs) (passed 0 words) shared e few (omega (arith, here, paid, fits callee e))))

    tail_calls_few : (n : ℕ) → Acts (TailCall n)
    tail_calls_few n g gs registers shared args into words few here fits paid =
        unless_few credit g.held (or_stuck (slice_get placed n) (λ callee. placed_goes (placed_entered n callee) gs (passed 0 words) shared))
        (some_few credit (slice_get placed n) (λ callee. placed_goes (placed_entered n callee) gs (passed 0 words) shared)
        (λ callee e. enters_few n callee gs (passed 0 words) shared e few.1 (omega (arith, paid, fits callee e))))

    holds_few : Acts Hold
    holds_few g gs registers shared args into words few here fits paid =
        let goes : List ℕ → H → PlacedTurn H W = λ held next. placed_goes (record g { held = held }) gs (kept_by Hold registers) next in
        let on : ℕ → List ℕ → PlacedTurn H W = λ word held. or_stuck (by_token m.hold word shared) (goes held) in
        some_few credit (first_slot args) (λ k. or_stuck (twice_of words) (λ word. or_stuck (holding k word g.held) (on word)))
        (λ k e. some_few credit (twice_of words) (λ word. or_stuck (holding k word g.held) (on word))
        (λ word e'. some_few credit (holding k word g.held) (on word) (λ held e''. some_few credit (by_token m.hold word shared) (goes held) (λ next e'''. (few, omega (arith, here, paid))))))

    takes_few : Acts Unhold
    takes_few g gs registers shared args into words few here fits paid =
        let goes : ℕ → List ℕ → H → PlacedTurn H W = λ word held next. placed_gives into word (record g { held = held }) gs (kept_by Unhold registers) next in
        let on : ℕ → List ℕ → PlacedTurn H W = λ word held. or_stuck (by_token m.unhold word shared) (goes word held) in
        some_few credit (only_slot args) (λ k. or_stuck (only_of words) (λ word. or_stuck (unholding k word g.held) (on word)))
        (λ k e. some_few credit (only_of words) (λ word. or_stuck (unholding k word g.held) (on word))
        (λ word e'. some_few credit (unholding k word g.held) (on word) (λ held e''. some_few credit (by_token m.unhold word shared) (goes word held)
        (λ next e'''. gives_few W credit into word (record g { held = held }) gs (kept_by Unhold registers) next (few, omega (arith, here, paid))))))

    acts_few : (action : Action) → Acts action
    acts_few (Compute operation) g gs registers shared args into words few here fits paid =
        some_few credit (m.compute operation words shared) (λ r. placed_gives (unless_lost (Compute operation) into) r.0 g gs registers r.1)
        (λ r e. gives_few W credit (unless_lost (Compute operation) into) r.0 g gs registers r.1 (few, omega (arith, here, paid)))
    acts_few (Label l) g gs registers shared args into words few here fits paid = (few, omega (arith, here, paid))
    acts_few (Jump l) g gs registers shared args into words few here fits paid = jumps_few l g gs registers shared few (omega (arith, paid))
    acts_few (Branch condition l) g gs registers shared args into words few here fits paid =
        some_few credit (m.holds condition words) (λ taken. cond taken (placed_jumps l g gs registers shared) (placed_goes g gs registers shared))
        (λ taken e. cond_few credit taken (placed_jumps l g gs registers shared) (placed_goes g gs registers shared) (jumps_few l g gs registers shared few (omega (arith, paid))) (few, omega (arith, here, paid)))
    acts_few (Call n) g gs registers shared args into words few here fits paid = calls_few n g gs registers shared args into words few here fits paid
    acts_few (TailCall n) g gs registers shared args into words few here fits paid = tail_calls_few n g gs registers shared args into words few here fits paid
    acts_few Return g gs registers shared args into words few here fits paid =
        unless_few credit g.held (or_stuck (result_of words) (λ result. placed_returns m gs shared result))
        (some_few credit (result_of words) (λ result. placed_returns m gs shared result) (λ result e. returns_few m credit gs shared result (few.1, omega (arith, paid))))
    acts_few (Routine routine) g gs registers shared args into words few here fits paid =
        served_few credit into (g ∷ gs) (kept_by (Routine routine) registers) (m.serve routine words (top (g ∷ gs)) shared) (few, omega (arith, here, paid))
    acts_few Hold g gs registers shared args into words few here fits paid = holds_few g gs registers shared args into words few here fits paid
    acts_few Unhold g gs registers shared args into words few here fits paid = takes_few g gs registers shared args into words few here fits paid
    acts_few Room g gs registers shared args into words few here fits paid =
        cond_few credit (nat_le depth (length (g ∷ gs))) (ended m.stack_full shared) (placed_goes g gs registers shared) tt (few, omega (arith, here, paid))

    -- a statement leads to such code, and pays for the stores behind it
    pub statement_few : (alive : List Listed) (action : Action) (args : List Operand) (into : Option Operand) (rest : List PlacedLine) (g : Frame PlacedLine) (gs : List (Frame PlacedLine)) (registers : ℕ → Option ℕ) (shared : H)
        → g.code ≡ does alive action args into ∷ rest → FramesMovesWithin extra (g ∷ gs) → CallFits placed action (length args) → (argument_stores action (length args) + result_moves into + stores_before extra gs) * move_instructions ≤ credit
        → HasMovesWithin extra credit (placed_line m depth placed g gs registers shared g.code)
    statement_few alive action args into rest g gs registers shared at few fits paid =
        let here : MovesWithin extra (does alive action args into ∷ rest) = subst (MovesWithin extra) at few.0.0 in
        let next : List ℕ → PlacedTurn H W = λ words. placed_acts m depth placed (record g { code = rest }) gs registers shared action args into words in
        subst (λ (c : List PlacedLine). HasMovesWithin extra credit (placed_line m depth placed g gs registers shared c)) (sym at)
        (cond_few credit (conforms action args into) (or_stuck (all_of (map (λ (arg : Operand). read_at registers g.cells arg.place) args)) next) stuck
        (some_few credit (all_of (map (λ (arg : Operand). read_at registers g.cells arg.place) args)) next
        (λ words e. acts_few action (record g { code = rest }) gs registers shared args into words ((here.1, few.0.1), few.1) here.0 fits paid))
        tt)
