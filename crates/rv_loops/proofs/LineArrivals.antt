-- Where the machine of the code comes to a line of its own, so does that of the rotated code.
use Rattle.std.proofs.Common.{◌≡◌, ◌≢◌, ◌<◌, ◌⊎◌, inl, inr, ℕ, zero, suc, ◌+◌, List, [], ◌∷◌, ◌++◌}
use Rattle.std.proofs.Common.{Option, Some, Bool, true, false, cond}
use Rattle.std.proofs.Common.{length, drop, slice_get, refl, sym, ap, ◌∙◌, subst, arith}
use Rattle.std.specs.Prelude.{◌==◌, not}
use Rattle.std.proofs.lemmas.Bool.{and_parts, eq-eqb, ne_eqb, false≢true, cases_lt}
use Rattle.std.proofs.lemmas.List.{append_assoc, append-nil, length-append}
use Rattle.kk_base.specs.Machines.{trace, state}
use Rattle.kk_base.proofs.Machines.{state-add, trace-add}
use Rattle.kk_base.proofs.Simulations.{simulates_many}
use Rattle.rv_isa.specs.declared.asm.Action.{Action}
use Rattle.rv_isa.specs.declared.asm.Action.TheVariants.{Compute, Label, Jump, Branch, Call, TailCall, Return, Routine, Hold}
use Rattle.rv_isa.specs.declared.asm.Action.TheVariants.{Unhold, Room}
use Rattle.rv_isa.specs.Frames.{Frame}
use Rattle.rv_isa.specs.LinePlaces.{is_made, is_load, is_always_some, is_own_line, is_instruction, IsBehindLines, IsAtFrame}
use Rattle.rv_isa.specs.LinePlaces.{PlacedIsAt, PlacedHasLine, PlacedHasOwnLine}
use Rattle.rv_isa.specs.PlacedCode.{PlacedLine, does, moves, PlacedLines}
use Rattle.rv_isa.specs.PlacedMachine.{PlacedTurn, placed_machine, placed_start}
use Rattle.rv_isa.specs.Primitives.{Primitives, go, ended, stuck}
use Rattle.rv_isa.proofs.OwnActions.{own_is_some}
use Rattle.rv_loops.specs.Rotation.{HasOpposites, ComputesAlone, Loop, is_straight_action, is_straight, AreStraight, is_call_of}
use Rattle.rv_loops.specs.Rotation.{test, mark, goes_on, leaves, rotated_lines, code_of, rotated_code, IsRotated}
use Rattle.rv_loops.specs.Rotation.{AreRotated}
use Rattle.rv_loops.specs.Relation.{IsLike, IsAtSame, IsInTurn, IsBeforeTest, FramesStand, StandsFor, NeverStuck, Related}
use Rattle.rv_loops.specs.Relation.{IsNotStuck}
use Rattle.rv_loops.specs.RotatedLines.{head_length, index_in, index_of, index_by, rotated_line_of}
use Rattle.rv_loops.proofs.MachineKnowledge.{same_some}
use Rattle.rv_loops.proofs.Places.{callee_both}
use Rattle.rv_loops.proofs.OwnLines.{head_length_is, own_lines, index_at, index_apart}
use Rattle.rv_loops.proofs.LineCopies.{Passes, passes_straight}
use Rattle.rv_loops.proofs.Simulation.{simulates}
use Rattle.rv_loops.proofs.StartStates.{starts, never_stuck}

-- ---- lines

-- what is always an instruction does not go straight on
some_not_straight : (action : Action) → is_always_some action ≡ true → is_straight_action action ≡ false
some_not_straight (Compute operation) some =
    ap not (and_parts (is_made (Compute operation)) (not (is_load (Compute operation))) some).0
some_not_straight (Label l) some = cc some
some_not_straight (Jump l) some = refl
some_not_straight (Branch condition l) some = refl
some_not_straight (Call callee) some = refl
some_not_straight (TailCall callee) some = refl
some_not_straight Return some = refl
some_not_straight (Routine routine) some = refl
some_not_straight Hold some = refl
some_not_straight Unhold some = refl
some_not_straight Room some = refl

own_not_straight : (line : PlacedLine) → is_own_line line ≡ true → is_straight line ≡ false
own_not_straight (does alive action args into) own =
    some_not_straight action (own_is_some action (length args) own)
own_not_straight (moves alive value way) own = cc own

own_not_test : (loop : Loop) (line : PlacedLine) → length loop.args ≢ 1 → is_own_line line ≡ true → line ≢ test loop
own_not_test loop line compares own same =
    let one : (length loop.args == 1) ≡ false = ne_eqb (length loop.args) 1 compares in
    false≢true (sym one ∙ ap is_own_line (sym same) ∙ own)

own_is_instruction : (line : PlacedLine) → is_own_line line ≡ true → is_instruction line ≡ true
own_is_instruction (does alive action args into) own = own_is_some action (length args) own
own_is_instruction (moves alive value way) own = cc own

-- such a line does not stand before the test
not_before : (loop : Loop) (before : List PlacedLine) (line : PlacedLine) (rest : List PlacedLine) → length loop.args ≢ 1
    → AreStraight before → line ∷ rest ≡ before ++ (test loop ∷ loop.behind) → is_own_line line ≡ true → ⊥
not_before loop [] line rest compares straight is own = own_not_test loop line compares own (cc is)
not_before loop (first ∷ before) line rest compares straight is own =
    let same : line ≡ first = cc is in
    false≢true (sym (own_not_straight line own) ∙ ap is_straight same ∙ straight.0)

-- what stands at an index
got_drop : {A : Type 0} (k : ℕ) (xs : List A) (x : A) → slice_get xs k ≡ Some x → drop k xs ≡ x ∷ drop (suc k) xs
got_drop k [] x is = cc is
got_drop zero (y ∷ xs) x is = cc is
got_drop (suc k) (y ∷ xs) x is = got_drop k xs x is

drop_got : {A : Type 0} (k : ℕ) (xs rest : List A) (x : A) → drop k xs ≡ x ∷ rest → slice_get xs k ≡ Some x
drop_got zero [] rest x is = cc is
drop_got (suc k) [] rest x is = cc is
drop_got zero (y ∷ xs) rest x is = cc is
drop_got (suc k) (y ∷ xs) rest x is = drop_got k xs rest x is

-- ---- indices

longer : (loop : Loop) → length (rotated_code loop) ≡ length (code_of loop) → ⊥
longer loop same = omega (
  arith,
  same,
  length-append loop.before (test loop ∷ mark loop ∷ rotated_lines loop loop.behind),
  length-append loop.before (test loop ∷ loop.behind),
  lines_longer loop.behind,
)
  where
    one_longer : (call : Bool) (line : PlacedLine) (after : List PlacedLine)
        → length after < length (cond call (loop.before ++ (goes_on loop ∷ leaves loop ∷ [])) (line ∷ []) ++ after)
    one_longer true line after =
        omega (
          arith,
          length-append (loop.before ++ (goes_on loop ∷ leaves loop ∷ [])) after,
          length-append loop.before (goes_on loop ∷ leaves loop ∷ []),
        )
    one_longer false line after = omega arith

    lines_longer : (lines : List PlacedLine) → length lines < suc (length (rotated_lines loop lines))
    lines_longer [] = omega arith
    lines_longer (line ∷ lines) =
        omega (
          arith,
          one_longer (is_call_of loop.function line) line (rotated_lines loop lines),
          lines_longer lines,
        )

same_index : (f : ℕ) (old new : List PlacedLine) (k : ℕ) → new ≡ old → index_of f old new k ≡ k
same_index f old new k same =
    ap (λ (b : Bool). cond b k (index_in f (head_length old) k old))
    (eq-eqb (length new) (length old) (ap (λ (lines : List PlacedLine). length lines) same))

rotated_index : (f : ℕ) (old new : List PlacedLine) (k : ℕ) (is : IsRotated f old new)
    → index_of f old new k ≡ index_in is.loop.function (length is.loop.before) k (code_of is.loop)
rotated_index f old new k is =
    let loop : Loop = is.loop in
    let other : length new ≢ length old
    = λ same. longer loop (ap (λ (lines : List PlacedLine). length lines) (sym is.new_is) ∙ same
    ∙ ap (λ (lines : List PlacedLine). length lines) is.old_is) in
    ap (λ (b : Bool). cond b k (index_in f (head_length old) k old)) (ne_eqb (length new) (length old) other)
    ∙ ap (λ (g : ℕ). index_in g (head_length old) k old) (sym is.number)
    ∙ ap (λ (lines : List PlacedLine). index_in loop.function (head_length lines) k lines) is.old_is
    ∙ ap (λ (n : ℕ). index_in loop.function n k (code_of loop)) (head_length_is loop loop.before is.straight)

-- what stands in the rotated code at the index of a line of its own
index_there : (f : ℕ) (old new : List PlacedLine) (k : ℕ) (line : PlacedLine) (rest : List PlacedLine) (is : IsRotated f old new)
    → drop k old ≡ line ∷ rest → is_own_line line ≡ true
    → drop (index_of f old new k) new ≡ own_lines is.loop line ++ rotated_lines is.loop rest
index_there f old new k line rest is at own =
    let loop : Loop = is.loop in
    ap (λ (n : ℕ). drop n new) (rotated_index f old new k is)
    ∙ ap (drop (index_in loop.function (length loop.before) k (code_of loop))) is.new_is
    ∙ index_at loop loop.before k line rest is.straight (ap (drop k) (sym is.old_is) ∙ at) (own_not_straight line own)
    (own_not_test loop line is.compares own)

-- ---- the lines of all functions

module _ (q q' : List PlacedLines) (all : AreRotated 0 q q') where
  rotated_line_is : (f k : ℕ) (old new : PlacedLines) → slice_get q f ≡ Some old → slice_get q' f ≡ Some new
      → rotated_line_of q q' f k ≡ index_of f old.code new.code k
  rotated_line_is f k old new old_is new_is =
      ap (λ (o : Option PlacedLines). index_by f k o (slice_get q' f)) old_is
      ∙ ap (λ (o : Option PlacedLines). index_by f k (Some old) o) new_is

  own_first : (loop : Loop) (line : PlacedLine) (after : List PlacedLine) → is_own_line line ≡ true
      → (first : PlacedLine) × ((rest : List PlacedLine) × ((own_lines loop line ++ after ≡ first ∷ rest)
      × (is_instruction first ≡ true)))
  own_first loop line after own = by (is_call_of loop.function line)
    where
      by : (call : Bool) → (first : PlacedLine) × ((rest : List PlacedLine)
          × ((cond call (goes_on loop ∷ leaves loop ∷ []) (line ∷ []) ++ after ≡ first ∷ rest) × (is_instruction first ≡ true)))
      by true = (goes_on loop, (leaves loop ∷ after, (refl, refl)))
      by false = (line, (after, (refl, own_is_instruction line own)))

  -- a line of its own has one in the rotated code
  pub has_there : (f k : ℕ) → PlacedHasOwnLine q f k → PlacedHasLine q' f (rotated_line_of q q' f k)
  has_there f k has =
      let there = callee_both q q' f has.0 all has.1.0 in
      let old : List PlacedLine = has.0.code in
      let line : PlacedLine = has.1.1.0 in
      let at : drop k old ≡ line ∷ drop (suc k) old = got_drop k old line has.1.1.1.0 in
      let index = rotated_line_is f k has.0 there.0 has.1.0 there.1 in
      (there.0, (there.1, by there.0.code line (drop (suc k) old) index at there.2))
    where
      by : (new : List PlacedLine) (line : PlacedLine) (rest : List PlacedLine)
          → rotated_line_of q q' f k ≡ index_of f has.0.code new k → drop k has.0.code ≡ line ∷ rest
          → IsAtSame f has.0.code new has.0.code new
          → (first : PlacedLine) × ((slice_get new (rotated_line_of q q' f k) ≡ Some first) × (is_instruction first ≡ true))
      by new line rest index at (inl (whole, code)) = (
        has.1.1.0,
        (
          ap (slice_get new) (index ∙ same_index f has.0.code new k whole)
              ∙ ap (λ (lines : List PlacedLine). slice_get lines k) whole ∙ has.1.1.1.0,
          own_is_instruction has.1.1.0 has.1.1.1.1,
        ),
      )
      by new line rest index at (inr (is, place)) =
          let same : line ≡ has.1.1.0 = same_some line has.1.1.0 (sym (drop_got k has.0.code rest line at) ∙ has.1.1.1.0) in
          let own : is_own_line line ≡ true = ap is_own_line same ∙ has.1.1.1.1 in
          let first = own_first is.loop line (rotated_lines is.loop rest) own in (
            first.0,
            (
              ap (slice_get new) index
                  ∙ drop_got (index_of f has.0.code new k) new first.1.0 first.0
                  (index_there f has.0.code new k line rest is at own ∙ first.1.1.0),
              first.1.1.1,
            ),
          )

  less_apart : (f j k : ℕ) → PlacedHasOwnLine q f k → j < k → rotated_line_of q q' f j ≡ rotated_line_of q q' f k → ⊥
  less_apart f j k has less same =
      let there = callee_both q q' f has.0 all has.1.0 in
      let one = rotated_line_is f j has.0 there.0 has.1.0 there.1 in
      let two = rotated_line_is f k has.0 there.0 has.1.0 there.1 in
      by there.0.code (sym one ∙ same ∙ two) there.2
    where
      by : (new : List PlacedLine) → index_of f has.0.code new j ≡ index_of f has.0.code new k
          → IsAtSame f has.0.code new has.0.code new → ⊥
      by new equal (inl (whole, code)) =
          omega (arith, less, equal, same_index f has.0.code new j whole, same_index f has.0.code new k whole)
      by new equal (inr (is, place)) =
          omega (
            arith,
            equal,
            rotated_index f has.0.code new j is,
            rotated_index f has.0.code new k is,
            index_apart is.loop.function (length is.loop.before) j k (code_of is.loop) has.1.1.0 (drop (suc k) has.0.code)
                (ap (drop k) (sym is.old_is) ∙ got_drop k has.0.code has.1.1.0 has.1.1.1.0) less,
          )

  -- and no two have one
  pub lines_apart : (f j k : ℕ) → PlacedHasOwnLine q f j → PlacedHasOwnLine q f k
      → rotated_line_of q q' f j ≡ rotated_line_of q q' f k → j ≡ k
  lines_apart f j k first second same = elim (cases_lt j k) as (λ _. j ≡ k) [
    | inl less ↦ absurd (less_apart f j k second less same)
    | inr far ↦
        elim (cases_lt k j) as (λ _. j ≡ k) [
          | inl less ↦ absurd (less_apart f k j first less (sym same))
          | inr near ↦ omega (arith, far, near)
        ]
  ]

-- ---- runs

module _ {H E W : Type 0} (m : Primitives H E W) (opposes : HasOpposites m) (alone : ComputesAlone m) (depth : ℕ)
    (q q' : List PlacedLines) (all : AreRotated 0 q q') where
  -- from a frame at a line of its own
  own_at : (f k : ℕ) (a g : Frame PlacedLine) (gs : List (Frame PlacedLine)) (known : ℕ → Option ℕ) (shared : H) (line : PlacedLine)
      (rest : List PlacedLine) → drop k a.whole ≡ line ∷ rest → a.code ≡ line ∷ rest → is_own_line line ≡ true
      → IsAtSame f a.whole g.whole a.code g.code
      → NeverStuck m depth q' (go (record { frames = g ∷ gs; registers = known; shared = shared }))
      → Passes m alone depth q' g gs shared (drop (index_of f a.whole g.whole k) g.whole)
      (go (record { frames = g ∷ gs; registers = known; shared = shared }))
  own_at f k a g gs known shared line rest at left own (inl (whole, code)) never =
      passes_straight m alone depth q' [] (drop (index_of f a.whole g.whole k) g.whole) g gs known shared tt
      (code ∙ left ∙ sym at ∙ ap (drop k) (sym whole) ∙ ap (λ (n : ℕ). drop n g.whole) (sym (same_index f a.whole g.whole k whole)))
      never
  own_at f k a g gs known shared line rest at left own (inr (is, place)) never = by place
    where
      loop : Loop
      loop = is.loop

      target : List PlacedLine
      target = drop (index_of f a.whole g.whole k) g.whole

      -- the copies before the line
      copied_straight : (call : Bool) → AreStraight (cond call loop.before [])
      copied_straight true = is.straight
      copied_straight false = tt

      in_parts : (call : Bool) (after : List PlacedLine)
          → cond call (loop.before ++ (goes_on loop ∷ leaves loop ∷ [])) (line ∷ []) ++ after
          ≡ cond call loop.before [] ++ (cond call (goes_on loop ∷ leaves loop ∷ []) (line ∷ []) ++ after)
      in_parts true after = append_assoc loop.before (goes_on loop ∷ leaves loop ∷ []) after
      in_parts false after = refl

      lines_are : rotated_lines loop a.code ≡ cond (is_call_of loop.function line) loop.before [] ++ target
      lines_are =
          ap (rotated_lines loop) left ∙ in_parts (is_call_of loop.function line) (rotated_lines loop rest)
          ∙ ap (λ (lines : List PlacedLine). cond (is_call_of loop.function line) loop.before [] ++ lines)
          (sym (index_there f a.whole g.whole k line rest is at own))

      by : ((g.code ≡ rotated_lines loop a.code) ⊎ ((g.code ≡ mark loop ∷ rotated_lines loop a.code)
          ⊎ IsBeforeTest loop (test loop ∷ mark loop ∷ rotated_lines loop loop.behind) a.code g.code))
          → Passes m alone depth q' g gs shared target (go (record { frames = g ∷ gs; registers = known; shared = shared }))
      by (inl new) =
          passes_straight m alone depth q' (cond (is_call_of loop.function line) loop.before []) target g gs known shared
          (copied_straight (is_call_of loop.function line)) (new ∙ lines_are) never
      by (inr (inl new)) =
          passes_straight m alone depth q' (mark loop ∷ cond (is_call_of loop.function line) loop.before []) target g gs known shared
          (refl, copied_straight (is_call_of loop.function line))
          (new ∙ ap (λ (lines : List PlacedLine). mark loop ∷ lines) lines_are) never
      by (inr (inr head)) = absurd (not_before loop head.before line rest is.compares head.straight
          (sym left ∙ head.code_is) own)

  -- by some steps that tell nothing the machine of the rotated code comes to a line
  abbrev ComesTo : ℕ → ℕ → H → PlacedTurn H W → Type 0
  ComesTo f j shared t =
      (count : ℕ) × ((trace (placed_machine m depth q') count t ≡ [])
      × PlacedIsAt q' f j shared (state (placed_machine m depth q') count t))

  module _ (f k : ℕ) (has : PlacedHasOwnLine q f k) where
    abbrev lines : PlacedLines
    lines = has.0

    abbrev line : PlacedLine
    line = has.1.1.0

    own : is_own_line line ≡ true
    own = has.1.1.1.1

    rest_is : drop k lines.code ≡ line ∷ drop (suc k) lines.code
    rest_is = got_drop k lines.code line has.1.1.1.0

    from_frames : (fs gs : List (Frame PlacedLine)) (known : ℕ → Option ℕ) (shared : H) → IsAtFrame f k lines.code fs
        → FramesStand q q' IsAtSame fs gs
        → NeverStuck m depth q' (go (record { frames = gs; registers = known; shared = shared }))
        → ComesTo f (rotated_line_of q q' f k) shared (go (record { frames = gs; registers = known; shared = shared }))
    from_frames [] gs known shared is stands never = absurd (none is.1.1.0)
      where
        none : {a : Frame PlacedLine} {fs : List (Frame PlacedLine)} → [] ≡ a ∷ fs → ⊥
        none same = cc same
    from_frames (a ∷ fs) [] known shared is stands never = absurd stands
    from_frames (a ∷ fs) (g ∷ gs) known shared is stands never =
        let first : is.0 ≡ a = cc (is.1.1.0) in
        let behind : IsBehindLines f k lines.code a = subst (IsBehindLines f k lines.code) first is.1.1.1 in
        let like : IsLike q q' a g = stands.0 in
        let new : PlacedLines = like.there'.0 in
        let number : g.function ≡ f = like.function ∙ behind.function in
        let new_is : slice_get q' f ≡ Some new = ap (slice_get q') (sym number) ∙ like.there'.1.0 in
        let new_code : new.code ≡ g.whole = like.there'.1.1 in
        let spot : IsAtSame f a.whole g.whole a.code g.code
        = subst (λ n. IsAtSame n a.whole g.whole a.code g.code) behind.function stands.1.0 in
        let passes = own_at f k a g gs known shared line (drop (suc k) lines.code) (ap (drop k) behind.whole ∙ rest_is)
        (behind.left ∙ rest_is) own spot never in
        let j : ℕ = rotated_line_of q q' f k in
        let index : j ≡ index_of f a.whole g.whole k
        = rotated_line_is q q' all f k lines new has.1.0 new_is
        ∙ ap (λ (code : List PlacedLine). index_of f code new.code k) (sym behind.whole)
        ∙ ap (λ (code : List PlacedLine). index_of f a.whole code k) new_code in
        let there : IsBehindLines f j new.code passes.there.frame
        = record {
          function = passes.there.function ∙ number;
          whole = passes.there.whole ∙ sym new_code;
          left = passes.there.code ∙ ap (λ (n : ℕ). drop n g.whole) (sym index) ∙ ap (drop j) (sym new_code);
        } in (
          passes.steps,
          (
            passes.silent,
            subst (PlacedIsAt q' f j shared) (sym passes.there.is)
                (new, (new_is, ((passes.there.frame, (gs, (refl, there))), refl))),
          ),
        )

    -- no turn begins at such a line
    not_in_turn : (fs gs : List (Frame PlacedLine)) → IsAtFrame f k lines.code fs → FramesStand q q' IsInTurn fs gs → ⊥
    not_in_turn [] gs is stands = none is.1.1.0
      where
        none : {a : Frame PlacedLine} {fs : List (Frame PlacedLine)} → [] ≡ a ∷ fs → ⊥
        none same = cc same
    not_in_turn (a ∷ fs) [] is stands = stands
    not_in_turn (a ∷ fs) (g ∷ gs) is stands =
        let first : is.0 ≡ a = cc (is.1.1.0) in
        let behind : IsBehindLines f k lines.code a = subst (IsBehindLines f k lines.code) first is.1.1.1 in
        let head = stands.1.0.1.1 in
        not_before stands.1.0.0.loop head.before line (drop (suc k) lines.code) stands.1.0.0.compares head.straight
        (sym (behind.left ∙ rest_is) ∙ head.code_is) own

    at_same : (shared : H) (s t : PlacedTurn H W) → PlacedIsAt q f k shared s → StandsFor q q' IsAtSame s t
        → NeverStuck m depth q' t → ComesTo f (rotated_line_of q q' f k) shared t
    at_same shared (go s) (go t) is stands never =
        let same : is.0 ≡ lines = same_some is.0 lines (sym is.1.0 ∙ has.1.0) in
        let at : IsAtFrame f k lines.code s.frames
        = subst (λ (l : PlacedLines). IsAtFrame f k l.code s.frames) same is.1.1.0 in
        subst (λ (h : H). ComesTo f (rotated_line_of q q' f k) h (go t)) (stands.1.1 ∙ is.1.1.1)
        (from_frames s.frames t.frames t.registers t.shared at stands.0 never)
    at_same shared (go s) (ended how last) is stands never = absurd stands
    at_same shared (go s) stuck is stands never = absurd stands
    at_same shared (ended how last) t is stands never = absurd is
    at_same shared stuck t is stands never = absurd is

    in_turn : (shared : H) (s t : PlacedTurn H W) → PlacedIsAt q f k shared s → StandsFor q q' IsInTurn s t → ⊥
    in_turn shared (go s) (go t) is stands =
        let same : is.0 ≡ lines = same_some is.0 lines (sym is.1.0 ∙ has.1.0) in
        not_in_turn s.frames t.frames (subst (λ (l : PlacedLines). IsAtFrame f k l.code s.frames) same is.1.1.0) stands.0
    in_turn shared (go s) (ended how last) is stands = stands
    in_turn shared (go s) stuck is stands = stands
    in_turn shared (ended how last) t is stands = is
    in_turn shared stuck t is stands = is

    from_related : (credit idle : ℕ) (shared : H) (s t : PlacedTurn H W) → PlacedIsAt q f k shared s
        → Related m depth q q' credit idle s t → NeverStuck m depth q' t → ComesTo f (rotated_line_of q q' f k) shared t
    from_related credit idle shared s t is (never_above, inl (some, stands)) never = at_same shared s t is stands never
    from_related credit idle shared s t is (never_above, inr (saved, stands)) never = absurd (in_turn shared s t is stands)

    -- and from one that is come to
    from_reached : (credit idle : ℕ) (shared : H) (s t : PlacedTurn H W) (first : ℕ) (events : List E)
        → trace (placed_machine m depth q') first t ≡ events → PlacedIsAt q f k shared s
        → Related m depth q q' credit idle s (state (placed_machine m depth q') first t) → NeverStuck m depth q' t
        → (count : ℕ) × ((trace (placed_machine m depth q') count t ≡ events)
        × PlacedIsAt q' f (rotated_line_of q q' f k) shared (state (placed_machine m depth q') count t))
    from_reached credit idle shared s t first events told is related never =
        let lower = placed_machine m depth q' in
        let later : ComesTo f (rotated_line_of q q' f k) shared (state lower first t)
        = from_related credit idle shared s (state lower first t) is related
        (λ i. subst (λ (u : PlacedTurn H W). u ≢ stuck) (state-add lower first i t) (never (first + i))) in
        let silent : trace lower later.0 (state lower first t) ≡ [] = later.1.0 in
        let whole : trace lower (first + later.0) t ≡ trace lower first t ++ trace lower later.0 (state lower first t)
        = trace-add lower first later.0 t in (
          first + later.0,
          (
            rw (whole, silent, told) (append-nil events),
            subst (PlacedIsAt q' f (rotated_line_of q q' f k) shared) (sym (state-add lower first later.0 t)) later.1.1,
          ),
        )

  -- from the start of the first function
  pub comes : (main : PlacedLines) (first : H) → slice_get q 0 ≡ Some main → NeverStuck m depth q (placed_start main first)
      → (main' : PlacedLines) × ((slice_get q' 0 ≡ Some main')
      × ((n f k : ℕ) (now : H) → PlacedHasOwnLine q f k
      → PlacedIsAt q f k now (state (placed_machine m depth q) n (placed_start main first))
      → (count : ℕ) × ((trace (placed_machine m depth q') count (placed_start main' first)
      ≡ trace (placed_machine m depth q) n (placed_start main first))
      × PlacedIsAt q' f (rotated_line_of q q' f k) now (state (placed_machine m depth q') count (placed_start main' first)))))
  comes main first main_is never =
      let begins = starts m opposes depth q q' all main first main_is never in
      let goes_on = never_stuck m opposes depth q q' all main first main_is never in
      let same : goes_on.0 ≡ begins.0 = same_some goes_on.0 begins.0 (sym goes_on.1 ∙ begins.1) in
      let never_below : NeverStuck m depth q' (placed_start begins.0 first)
      = subst (λ (p : PlacedLines). NeverStuck m depth q' (placed_start p first)) same goes_on.2 in (
        begins.0,
        (
          begins.1,
          λ n f k now has is.
              let many = simulates_many (placed_machine m depth q) (placed_machine m depth q') (Related m depth q q') IsNotStuck 2
              (simulates m opposes depth q q' all) n 0 1 (placed_start main first) (placed_start begins.0 first) begins.2 in
              from_reached f k has many.credit_after many.idle_after now
              (state (placed_machine m depth q) n (placed_start main first)) (placed_start begins.0 first) many.steps
              (trace (placed_machine m depth q) n (placed_start main first)) many.events_are is many.related never_below,
        ),
      )
