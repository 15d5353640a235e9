-- Each line of its own has one in the code with calls in line, to which the machine comes.
use Rattle.std.proofs.Common.{◌≡◌, ◌<◌, ◌⊎◌, inl, inr, ℕ, zero, suc, List, [], ◌∷◌, ◌++◌, Option, Some, true, false}
use Rattle.std.proofs.Common.{length, drop, slice_get, refl, sym, ap, ◌∙◌, subst, arith}
use Rattle.std.proofs.lemmas.Bool.{false≢true, cases_lt}
use Rattle.std.proofs.lemmas.List.{length-drop}
use Rattle.kk_base.specs.Machines.{trace, state}
use Rattle.kk_base.proofs.Simulations.{simulates_many}
use Rattle.rv_isa.specs.declared.asm.Action.{Action}
use Rattle.rv_isa.specs.declared.asm.Action.TheVariants.{Compute, Label, Jump, Branch, Call, TailCall, Return, Routine, Hold}
use Rattle.rv_isa.specs.declared.asm.Action.TheVariants.{Unhold, Room}
use Rattle.rv_isa.specs.declared.asm.Operation.{Operation}
use Rattle.rv_isa.specs.declared.asm.Operation.TheVariants.{Register, Immediate, Shift, Li, Mv, La, Lw, Sw, Dup, Free}
use Rattle.rv_isa.specs.AsmCode.{Line, Lines}
use Rattle.rv_isa.specs.AsmMachine.{AsmTurn, asm_machine, asm_start}
use Rattle.rv_isa.specs.Frames.{Frame}
use Rattle.rv_isa.specs.LinePlaces.{has_effect, is_own, IsBehindLines, IsAtFrame, AsmIsAt, AsmHasOwnLine}
use Rattle.rv_isa.specs.Primitives.{Primitives, go, ended, stuck}
use Rattle.rv_inline.specs.InLine.{is_pure, computes, AreComputing, gives_back, room, AreInLine, HasInLine}
use Rattle.rv_inline.specs.InLineLines.{index_in, index_by, line_in_line}
use Rattle.rv_inline.specs.Relation.{Copies, IsLike, IsAtLine, IsInCall, FramesStand, FramesInCall, NeverStuck, Related, IsNotStuck}
use Rattle.rv_inline.proofs.FrameValues.{same_some}
use Rattle.rv_inline.proofs.Labels.{callee_both}
use Rattle.rv_inline.proofs.LineIndices.{at_index, index_less}
use Rattle.rv_inline.proofs.Simulation.{simulates}
use Rattle.rv_inline.proofs.Starts.{starts}

-- ---- lines

pure_no_effect : (operation : Operation) → is_pure operation ≡ true → has_effect operation ≡ false
pure_no_effect (Register operation) pure = refl
pure_no_effect (Immediate operation immediate) pure = refl
pure_no_effect (Shift operation amount) pure = refl
pure_no_effect (Li word) pure = refl
pure_no_effect Mv pure = refl
pure_no_effect (La constant) pure = refl
pure_no_effect (Lw offset) pure = cc pure
pure_no_effect (Sw offset) pure = cc pure
pure_no_effect Dup pure = cc pure
pure_no_effect Free pure = cc pure

computes_not_own : (action : Action) (count : ℕ) → computes action ≡ true → is_own action count ≡ false
computes_not_own (Compute operation) count is = pure_no_effect operation is
computes_not_own (Label l) count is = cc is
computes_not_own (Jump l) count is = cc is
computes_not_own (Branch condition l) count is = cc is
computes_not_own (Call g) count is = cc is
computes_not_own (TailCall g) count is = cc is
computes_not_own Return count is = cc is
computes_not_own (Routine routine) count is = cc is
computes_not_own Hold count is = cc is
computes_not_own Unhold count is = cc is
computes_not_own Room count is = cc is

-- a leaf has no line of its own
not_in_leaf : (count value : ℕ) (body : List Line) (line : Line) (rest : List Line) → AreComputing count body
    → line ∷ rest ≡ body ++ (gives_back value ∷ []) → is_own line.action (length line.args) ≡ true → ⊥
not_in_leaf count value [] line rest computing is own =
    let same : line ≡ gives_back value = cc is in
    false≢true (ap (λ (l : Line). is_own l.action (length l.args)) (sym same) ∙ own)
not_in_leaf count value (first ∷ body) line rest computing is own =
    let same : line ≡ first = cc is in
    false≢true (sym (computes_not_own first.action (length first.args) computing.0.0)
    ∙ ap (λ (l : Line). is_own l.action (length l.args)) (sym same) ∙ own)

-- what stands at an index
got_drop : {A : Type 0} (k : ℕ) (xs : List A) (x : A) → slice_get xs k ≡ Some x → drop k xs ≡ x ∷ drop (suc k) xs
got_drop k [] x is = cc is
got_drop zero (y ∷ xs) x is = cc is
got_drop (suc k) (y ∷ xs) x is = got_drop k xs x is

drop_got : {A : Type 0} (k : ℕ) (xs rest : List A) (x : A) → drop k xs ≡ x ∷ rest → slice_get xs k ≡ Some x
drop_got zero [] rest x is = cc is
drop_got (suc k) [] rest x is = cc is
drop_got zero (y ∷ xs) rest x is = cc is
drop_got (suc k) (y ∷ xs) rest x is = drop_got k xs rest x is

-- lines are left behind as many lines
drop_same : (j k : ℕ) (xs : List Line) (x : Line) (rest : List Line) → drop j xs ≡ x ∷ rest → drop k xs ≡ x ∷ rest → j ≡ k
drop_same j k xs x rest first second =
    let one : length (drop j xs) ≡ suc (length rest) = ap (λ (lines : List Line). length lines) first in
    let two : length (drop k xs) ≡ suc (length rest) = ap (λ (lines : List Line). length lines) second in
    omega (arith, one, two, length-drop j xs, length-drop k xs)

-- ---- the lines of all functions

module _ (q q' : List Lines) (all : HasInLine q q') where
  line_is : (f k : ℕ) (old new : Lines) → slice_get q f ≡ Some old → slice_get q' f ≡ Some new
      → line_in_line q q' f k ≡ index_in q k old.code new.code
  line_is f k old new old_is new_is =
      ap (λ (o : Option Lines). index_by q k o (slice_get q' f)) old_is ∙ ap (λ (o : Option Lines). index_by q k (Some old) o) new_is

  -- a line that is its own, or the question for room of a call in line
  own_first : (base : ℕ) (line : Line) (rest left : List Line) → AreInLine q base (line ∷ rest) left
      → is_own line.action (length line.args) ≡ true
      → (first : Line) × ((more : List Line) × ((left ≡ first ∷ more) × (is_own first.action (length first.args) ≡ true)))
  own_first base line rest left (inl (more, (left_is, is))) own = (line, (more, (left_is, own)))
  own_first base line rest left (inr (call, (more, (left_is, is)))) own =
      (room, (_, (left_is, refl)))

  -- a line of its own has one
  pub has_there : (f k : ℕ) → AsmHasOwnLine q f k → AsmHasOwnLine q' f (line_in_line q q' f k)
  has_there f k has =
      let there = callee_both q q' f has.0 all has.1.0 in
      let old : Lines = has.0 in
      let new : Lines = there.0 in
      let line : Line = has.1.1.0 in
      let rest : List Line = drop (suc k) old.code in
      let index : line_in_line q q' f k ≡ index_in q k old.code new.code = line_is f k old new has.1.0 there.1.0 in
      let left : AreInLine q there.1.1.0 (line ∷ rest) (drop (index_in q k old.code new.code) new.code)
      = at_index q there.1.1.0 k old.code new.code (line ∷ rest) there.1.1.1.code (got_drop k old.code line has.1.1.1.0) in
      let first = own_first there.1.1.0 line rest (drop (index_in q k old.code new.code) new.code) left has.1.1.1.1 in (
        new,
        (
          there.1.0,
          (
            first.0,
            (
              ap (slice_get new.code) index
                  ∙ drop_got (index_in q k old.code new.code) new.code first.1.0 first.0 first.1.1.0,
              first.1.1.1,
            ),
          ),
        ),
      )

  less_apart : (f j k : ℕ) → AsmHasOwnLine q f k → j < k → line_in_line q q' f j ≡ line_in_line q q' f k → ⊥
  less_apart f j k has less same =
      let there = callee_both q q' f has.0 all has.1.0 in
      let one = line_is f j has.0 there.0 has.1.0 there.1.0 in
      let two = line_is f k has.0 there.0 has.1.0 there.1.0 in
      let far = index_less q j k has.0.code there.0.code has.1.1.0 (drop (suc k) has.0.code)
      (got_drop k has.0.code has.1.1.0 has.1.1.1.0) less in
      omega (arith, one, two, same, far)

  -- and no two have one
  pub lines_apart : (f j k : ℕ) → AsmHasOwnLine q f j → AsmHasOwnLine q f k
      → line_in_line q q' f j ≡ line_in_line q q' f k → j ≡ k
  lines_apart f j k first second same = elim (cases_lt j k) as (λ _. j ≡ k) [
    | inl less ↦ absurd (less_apart f j k second less same)
    | inr far ↦
        elim (cases_lt k j) as (λ _. j ≡ k) [
          | inl less ↦ absurd (less_apart f k j first less (sym same))
          | inr near ↦ omega (arith, far, near)
        ]
  ]

-- ---- runs

module _ {H E W : Type 0} (m : Primitives H E W) (copies : Copies m) (depth : ℕ) (q q' : List Lines) (all : HasInLine q q') where
  module _ (f k : ℕ) (has : AsmHasOwnLine q f k) where
    abbrev lines : Lines
    lines = has.0

    abbrev line : Line
    line = has.1.1.0

    rest_is : drop k lines.code ≡ line ∷ drop (suc k) lines.code
    rest_is = got_drop k lines.code line has.1.1.1.0

    no_frame : (frame : Frame Line) (older : List (Frame Line)) → [] ≡ frame ∷ older → ⊥
    no_frame frame older same = cc same

    -- from frames at a line of its own
    frames_there : (fs gs : List (Frame Line)) (shared : H) → IsAtFrame f k lines.code fs → FramesStand q q' fs gs
        → AsmIsAt {W = W} q' f (line_in_line q q' f k) shared (go (record { frames = gs; shared = shared }))
    frames_there [] gs shared is stand = absurd (no_frame is.0 is.1.0 is.1.1.0)
    frames_there (a ∷ fs) [] shared is stand = absurd stand
    frames_there (a ∷ fs) (g ∷ gs) shared is stand =
        let first : is.0 ≡ a = cc (is.1.1.0) in
        let behind : IsBehindLines f k lines.code a = subst (IsBehindLines f k lines.code) first is.1.1.1 in
        let base : ℕ = stand.0.0 in
        let like : IsLike q q' base a g = stand.0.1.0 in
        let at : IsAtLine q base a.whole g.whole a.code g.code = stand.0.1.1 in
        let new : Lines = like.new in
        let new_is : slice_get q' f ≡ Some new = ap (slice_get q') (sym behind.function) ∙ like.new_is in
        let here : drop at.line lines.code ≡ line ∷ drop (suc k) lines.code
        = ap (drop at.line) (sym behind.whole) ∙ sym at.code_is ∙ behind.left ∙ rest_is in
        let number : at.line ≡ k = drop_same at.line k lines.code line (drop (suc k) lines.code) here rest_is in
        let j : ℕ = line_in_line q q' f k in
        let index : index_in q at.line a.whole g.whole ≡ j
        = ap (λ (n : ℕ). index_in q n a.whole g.whole) number
        ∙ ap (λ (code : List Line). index_in q k code g.whole) behind.whole
        ∙ ap (λ (code : List Line). index_in q k lines.code code) like.whole'
        ∙ sym (line_is q q' all f k lines new has.1.0 new_is) in
        let there : IsBehindLines f j new.code g = record {
          function = like.function ∙ behind.function;
          whole = like.whole';
          left = at.new_is ∙ ap (λ (n : ℕ). drop n g.whole) index ∙ ap (drop j) like.whole';
        } in
        (new, (new_is, ((g, (gs, (refl, there))), refl)))

    -- no leaf runs there
    not_in_call : (fs gs : List (Frame Line)) → IsAtFrame f k lines.code fs → FramesInCall q q' fs gs → ⊥
    not_in_call [] gs is stand = stand
    not_in_call (h ∷ []) gs is stand = stand
    not_in_call (h ∷ a ∷ fs) [] is stand = stand
    not_in_call (h ∷ a ∷ fs) (g ∷ gs) is stand =
        let first : is.0 ≡ h = cc (is.1.1.0) in
        let behind : IsBehindLines f k lines.code h = subst (IsBehindLines f k lines.code) first is.1.1.1 in
        let call : IsInCall q stand.0.0 h a g = stand.0.1.1 in
        not_in_leaf (length call.args) call.value call.body line (drop (suc k) lines.code) call.computing
        (sym (behind.left ∙ rest_is) ∙ call.code) has.1.1.1.1

    from_frames : (fs gs : List (Frame Line)) (shared : H) → IsAtFrame f k lines.code fs
        → FramesStand q q' fs gs ⊎ FramesInCall q q' fs gs
        → AsmIsAt {W = W} q' f (line_in_line q q' f k) shared (go (record { frames = gs; shared = shared }))
    from_frames fs gs shared is (inl stand) = frames_there fs gs shared is stand
    from_frames fs gs shared is (inr call) = absurd (not_in_call fs gs is call)

    from_related : (credit idle : ℕ) (shared : H) (s t : AsmTurn H W) → AsmIsAt q f k shared s → Related m depth q q' credit idle s t
        → AsmIsAt q' f (line_in_line q q' f k) shared t
    from_related credit idle shared (go s) (go t) is (never, stands) =
        let same : is.0 ≡ lines = same_some is.0 lines (sym is.1.0 ∙ has.1.0) in
        let at : IsAtFrame f k lines.code s.frames
        = subst (λ (l : Lines). IsAtFrame f k l.code s.frames) same is.1.1.0 in
        subst (λ (h : H). AsmIsAt {W = W} q' f (line_in_line q q' f k) h (go t)) (stands.1 ∙ is.1.1.1)
        (from_frames s.frames t.frames t.shared at stands.0)
    from_related credit idle shared (go s) (ended how last) is (never, stands) = absurd stands
    from_related credit idle shared (go s) stuck is (never, stands) = absurd stands
    from_related credit idle shared (ended how last) t is (never, stands) = absurd is
    from_related credit idle shared stuck t is (never, stands) = absurd is

  -- from the start of the first function
  pub comes : (main : Lines) (first : H) → slice_get q 0 ≡ Some main → NeverStuck m depth q (asm_start main first)
      → (main' : Lines) × ((slice_get q' 0 ≡ Some main')
      × ((n f k : ℕ) (now : H) → AsmHasOwnLine q f k → AsmIsAt q f k now (state (asm_machine m depth q) n (asm_start main first))
      → (count : ℕ) × ((trace (asm_machine m depth q') count (asm_start main' first)
      ≡ trace (asm_machine m depth q) n (asm_start main first))
      × AsmIsAt q' f (line_in_line q q' f k) now (state (asm_machine m depth q') count (asm_start main' first)))))
  comes main first main_is never =
      let begins = starts m copies depth q q' all main first main_is never in (
        begins.0,
        (
          begins.1,
          λ n f k now has is.
              let many = simulates_many (asm_machine m depth q) (asm_machine m depth q') (Related m depth q q') IsNotStuck 1
              (simulates m copies depth q q' all) n 0 0 (asm_start main first) (asm_start begins.0 first) begins.3 in (
                many.steps,
                (
                  many.events_are,
                  from_related f k has many.credit_after many.idle_after now (state (asm_machine m depth q) n (asm_start main first))
                      (state (asm_machine m depth q') many.steps (asm_start begins.0 first)) is many.related,
                ),
              ),
        ),
      )
