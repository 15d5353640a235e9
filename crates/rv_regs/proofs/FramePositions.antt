-- Each frame of the placed form's machine is behind some lines of the code of its function.
use Rattle.std.proofs.Common.{◌≡◌, ℕ, zero, suc, List, [], ◌∷◌, Option, Some, None, Bool, true, false, cond, slice_get, length, nat_le, drop, refl, sym, ◌∙◌, ap, subst, option_map, map}
use Rattle.std.specs.List.{AllByRecursion}
use Rattle.std.proofs.Math.Seq.{drop-nil}
use Rattle.kk_base.specs.Machines.{state}
use Rattle.rv_isa.specs.declared.asm.Action.{Action}
use Rattle.rv_isa.specs.declared.asm.Action.TheVariants.{Compute, Label, Jump, Branch, Call, TailCall, Return, Routine, Hold, Unhold, Room}
use Rattle.rv_isa.specs.declared.placed.Operand.{Operand}
use Rattle.rv_isa.specs.PlacedCode.{PlacedLine, does, moves, PlacedLines, from_of, to_of}
use Rattle.rv_isa.specs.Primitives.{Reply, answers, ends, fails, Primitives, go, ended, stuck, or_stuck, by_token}
use Rattle.rv_isa.specs.Conventions.{conforms}
use Rattle.rv_isa.specs.Frames.{Frame, empty, put, all_of, only_of, result_of, received, found, top, top_taken, taken_in, taken_if, holding, unholding, twice_of}
use Rattle.rv_isa.specs.AsmMachine.{unless_held}
use Rattle.rv_isa.specs.PlacedMachine.{PlacedTurn, is_label_line, read_at, kept_by, passed, awaited, only_slot, first_slot, is_held, placed_entered, placed_goes, placed_writes, unless_lost, placed_gives, placed_jumps, placed_returns, placed_answered, placed_served, placed_acts, placed_line, placed_running, placed_machine}

-- a frame's function is there, and its code is what is left of it behind some lines
abbrev pub IsInCode : List PlacedLines → Frame PlacedLine → Type 0
IsInCode placed frame =
    (lines : PlacedLines) × ((slice_get placed frame.function ≡ Some lines) × ((frame.whole ≡ lines.code)
    × ((j : ℕ) × (frame.code ≡ drop j lines.code))))

abbrev pub AreInCode : List PlacedLines → List (Frame PlacedLine) → Type 0
AreInCode placed frames = AllByRecursion (IsInCode placed) frames

-- each frame of a state that goes on
abbrev pub TurnInCode : {H W : Type 0} → List PlacedLines → PlacedTurn H W → Type 0
TurnInCode placed (go s) = AreInCode placed s.frames
TurnInCode placed (ended how shared) = Unit {0}
TurnInCode placed stuck = Unit {0}

-- ---- code that is left

-- what follows the line that is next
pub drop_next : {A : Type 0} (xs : List A) (j : ℕ) (x : A) (rest : List A) → x ∷ rest ≡ drop j xs → rest ≡ drop (suc j) xs
drop_next {A = A} [] j x rest e = absurd (none (e ∙ drop-nil {A = A} j))
  where
    none : x ∷ rest ≡ [] → ⊥
    none d = cc
drop_next (y ∷ xs) zero x rest e = cc
drop_next (y ∷ xs) (suc j) x rest e = drop_next xs j x rest e

pub next_line : (placed : List PlacedLines) (frame : Frame PlacedLine) (line : PlacedLine) (rest : List PlacedLine)
    → IsInCode placed frame → frame.code ≡ line ∷ rest
    → IsInCode placed (record frame { code = rest })
next_line placed frame line rest is at =
    let left : rest ≡ drop (suc is.1.1.1.0) is.0.code = drop_next is.0.code is.1.1.1.0 line rest (sym at ∙ is.1.1.1.1) in
    (is.0, (is.1.0, (is.1.1.0, (suc is.1.1.1.0, left))))

found_first : {A : Type 0} (b : Bool) (whole rest : List A) (below : Option (List A)) (code : List A)
    → cond b (Some whole) below ≡ Some code
    → (below ≡ Some code → (j : ℕ) × (code ≡ drop (suc j) whole)) → (j : ℕ) × (code ≡ drop j whole)
found_first true whole rest below code e later = let same : code ≡ whole = cc in (0, same)
found_first false whole rest below code e later = let there = later e in (suc there.0, there.1)

-- what is found in code is what is left behind some lines
found_drops : {A : Type 0} (marks : A → Bool) (whole code : List A) → found marks whole ≡ Some code
    → (j : ℕ) × (code ≡ drop j whole)
found_drops marks [] code e = cc
found_drops marks (line ∷ rest) code e =
    found_first (marks line) (line ∷ rest) rest (found marks rest) code e (λ d. found_drops marks rest code d)

-- ---- frames from which a token was taken

left_in_code : (placed : List PlacedLines) (frame : Frame PlacedLine) (below : Option (List (Frame PlacedLine)))
    → IsInCode placed frame
    → ((left : List (Frame PlacedLine)) → below ≡ Some left → AreInCode placed left)
    → (left : List (Frame PlacedLine)) → option_map (λ later. frame ∷ later) below ≡ Some left → AreInCode placed left
left_in_code placed frame None is later left e = cc
left_in_code placed frame (Some frames) is later left e =
    let same : frame ∷ frames ≡ left = cc in
    subst (AreInCode placed) same (is, later frames refl)

taken_in_code : (placed : List PlacedLines) (held : List ℕ) (frame : Frame PlacedLine) (frames : List (Frame PlacedLine))
    (below : Option (List (Frame PlacedLine)))
    → IsInCode placed frame → AreInCode placed frames
    → ((left : List (Frame PlacedLine)) → below ≡ Some left → AreInCode placed left)
    → (left : List (Frame PlacedLine)) → taken_in held frame frames below ≡ Some left → AreInCode placed left
taken_in_code placed [] frame frames below is all later left e = left_in_code placed frame below is later left e
taken_in_code placed (cell ∷ more) frame frames below is all later left e =
    let same : record frame { cells = put cell (Some 0) frame.cells; held = more } ∷ frames ≡ left = cc in
    subst (AreInCode placed) same (is, all)

top_in_code : (placed : List PlacedLines) (frames left : List (Frame PlacedLine)) → AreInCode placed frames
    → top_taken frames ≡ Some left → AreInCode placed left
top_in_code placed [] left all e = cc
top_in_code placed (frame ∷ frames) left all e =
    taken_in_code placed frame.held frame frames (top_taken frames) all.0 all.1
    (λ below d. top_in_code placed frames below all.1 d) left e

if_taken : (placed : List PlacedLines) (took : Bool) (frames left : List (Frame PlacedLine)) → AreInCode placed frames
    → taken_if took frames ≡ Some left → AreInCode placed left
if_taken placed true frames left all e = top_in_code placed frames left all e
if_taken placed false frames left all e = let same : frames ≡ left = cc in subst (AreInCode placed) same all

-- ---- turns

or_in_code : {A H W : Type 0} (placed : List PlacedLines) (o : Option A) (next : A → PlacedTurn H W)
    → ((a : A) → o ≡ Some a → TurnInCode placed (next a)) → TurnInCode placed (or_stuck o next)
or_in_code placed None next each = tt
or_in_code placed (Some a) next each = each a refl

if_in_code : {H W : Type 0} (placed : List PlacedLines) (b : Bool) (t u : PlacedTurn H W) → TurnInCode placed t
    → TurnInCode placed u → TurnInCode placed (cond b t u)
if_in_code placed true t u is other = is
if_in_code placed false t u is other = other

unheld_in_code : {H W : Type 0} (placed : List PlacedLines) (held : List ℕ) (t : PlacedTurn H W) → TurnInCode placed t
    → TurnInCode placed (unless_held held t)
unheld_in_code placed [] t is = is
unheld_in_code placed (cell ∷ held) t is = tt

-- the frame of a function that is there, as it begins
pub entered_in_code : (placed : List PlacedLines) (g : ℕ) (lines : PlacedLines) → slice_get placed g ≡ Some lines
    → IsInCode placed (placed_entered g lines)
entered_in_code placed g lines e = (lines, (e, (refl, (0, refl))))

module _ {H E W : Type 0} (m : Primitives H E W) (depth : ℕ) (placed : List PlacedLines) where
  gives_in_code : (into : Option Operand) (word : ℕ) (f : Frame PlacedLine) (fs : List (Frame PlacedLine))
      (registers : ℕ → Option ℕ) (shared : H)
      → AreInCode placed (f ∷ fs)
      → TurnInCode placed (placed_gives {W = W} into word f fs registers shared)
  gives_in_code None word f fs registers shared all = all
  gives_in_code (Some into) word f fs registers shared all = all

  jumps_in_code : (l : ℕ) (f : Frame PlacedLine) (fs : List (Frame PlacedLine)) (registers : ℕ → Option ℕ) (shared : H)
      → AreInCode placed (f ∷ fs)
      → TurnInCode placed (placed_jumps {W = W} l f fs registers shared)
  jumps_in_code l f fs registers shared all =
      or_in_code placed (found (is_label_line l) f.whole) (λ code. placed_goes (record f { code = code }) fs registers shared)
      (λ code e.
      let there = found_drops (is_label_line l) f.whole code e in
      ((all.0.0, (all.0.1.0, (all.0.1.1.0, (there.0, there.1 ∙ ap (drop there.0) all.0.1.1.0)))), all.1))

  returns_in_code : (fs : List (Frame PlacedLine)) (shared : H) (result : Option ℕ) → AreInCode placed fs
      → TurnInCode placed (placed_returns m fs shared result)
  returns_in_code [] shared result all = tt
  returns_in_code (f ∷ fs) shared result all =
      or_in_code placed (received f.into result empty) (λ registers. placed_goes f fs registers shared) (λ registers e. all)

  answered_in_code : (into : Option Operand) (word : ℕ) (fs : List (Frame PlacedLine)) (registers : ℕ → Option ℕ) (shared : H)
      → AreInCode placed fs
      → TurnInCode placed (placed_answered {W = W} into word fs registers shared)
  answered_in_code into word [] registers shared all = tt
  answered_in_code into word (f ∷ fs) registers shared all = gives_in_code into word f fs registers shared all

  served_in_code : (into : Option Operand) (fs : List (Frame PlacedLine)) (registers : ℕ → Option ℕ) (reply : Reply H W)
      → AreInCode placed fs
      → TurnInCode placed (placed_served into fs registers reply)
  served_in_code into fs registers (answers word shared took_held) all =
      or_in_code placed (taken_if took_held fs) (λ left. placed_answered into word left registers shared)
      (λ left e. answered_in_code into word left registers shared (if_taken placed took_held fs left all e))
  served_in_code into fs registers (ends how shared) all = tt
  served_in_code into fs registers fails all = tt

  -- a frame begins with its function, if that is there
  begins_in_code : (g : ℕ) (fs : List (Frame PlacedLine)) (registers : ℕ → Option ℕ) (shared : H) (full : PlacedTurn H W)
      (is_full : Bool)
      → AreInCode placed fs → TurnInCode placed full
      → TurnInCode placed (or_stuck (slice_get placed g) (λ callee.
      cond is_full full (placed_goes (placed_entered g callee) fs registers shared)))
  begins_in_code g fs registers shared full is_full all full_in_code =
      let enters : PlacedLines → PlacedTurn H W = λ callee. placed_goes (placed_entered g callee) fs registers shared in
      or_in_code placed (slice_get placed g) (λ callee. cond is_full full (enters callee))
      (λ callee e. if_in_code placed is_full full (enters callee) full_in_code (entered_in_code placed g callee e, all))

  -- a token is held or taken back, where each step of that is there
  chain_in_code : (into : Option Operand) (f : Frame PlacedLine) (fs : List (Frame PlacedLine)) (registers : ℕ → Option ℕ) (slot word : Option ℕ)
      (chain : ℕ → ℕ → Option (List ℕ)) (next : ℕ → Option H)
      → AreInCode placed (f ∷ fs)
      → TurnInCode {W = W} placed (or_stuck slot (λ k. or_stuck word (λ w. or_stuck (chain k w) (λ held.
      or_stuck (next w) (λ shared. placed_gives into w (record f { held = held }) fs registers shared)))))
  chain_in_code into f fs registers None word chain next all = tt
  chain_in_code into f fs registers (Some k) None chain next all = tt
  chain_in_code into f fs registers (Some k) (Some w) chain next all = held_in_code (chain k w) (next w)
    where
      held_in_code : (held : Option (List ℕ)) (shared : Option H)
          → TurnInCode {W = W} placed (or_stuck held (λ held.
          or_stuck shared (λ shared. placed_gives into w (record f { held = held }) fs registers shared)))
      held_in_code None shared = tt
      held_in_code (Some held) None = tt
      held_in_code (Some held) (Some shared) = gives_in_code into w (record f { held = held }) fs registers shared all

  -- what an action leads to
  acts_in_code : (f : Frame PlacedLine) (fs : List (Frame PlacedLine)) (registers : ℕ → Option ℕ) (shared : H) (action : Action)
      (args : List Operand) (into : Option Operand) (words : List ℕ)
      → AreInCode placed (f ∷ fs) → TurnInCode placed (placed_acts m depth placed f fs registers shared action args into words)
  acts_in_code f fs registers shared (Compute operation) args into words all =
      or_in_code placed (m.compute operation words shared)
      (λ r. placed_gives (unless_lost (Compute operation) into) r.0 f fs registers r.1)
      (λ r e. gives_in_code (unless_lost (Compute operation) into) r.0 f fs registers r.1 all)
  acts_in_code f fs registers shared (Label l) args into words all = all
  acts_in_code f fs registers shared (Jump l) args into words all = jumps_in_code l f fs registers shared all
  acts_in_code f fs registers shared (Branch condition l) args into words all =
      let jumps : PlacedTurn H W = placed_jumps l f fs registers shared in
      let falls : PlacedTurn H W = placed_goes f fs registers shared in
      or_in_code placed (m.holds condition words) (λ taken. cond taken jumps falls)
      (λ taken e. if_in_code placed taken jumps falls (jumps_in_code l f fs registers shared all) all)
  acts_in_code f fs registers shared (Call g) args into words all =
      begins_in_code g (record f { into = awaited into } ∷ fs) (passed 0 words) shared (ended m.stack_full shared)
      (nat_le depth (length (f ∷ fs))) all tt
  acts_in_code f fs registers shared (TailCall g) args into words all =
      let enters : PlacedLines → PlacedTurn H W = λ callee. placed_goes (placed_entered g callee) fs (passed 0 words) shared in
      unheld_in_code placed f.held (or_stuck (slice_get placed g) enters)
      (begins_in_code g fs (passed 0 words) shared stuck false all.1 tt)
  acts_in_code f fs registers shared Return args into words all =
      let returns : Option ℕ → PlacedTurn H W = λ result. placed_returns m fs shared result in
      unheld_in_code placed f.held (or_stuck (result_of words) returns)
      (or_in_code placed (result_of words) returns (λ result e. returns_in_code fs shared result all.1))
  acts_in_code f fs registers shared (Routine routine) args into words all =
      served_in_code into (f ∷ fs) (kept_by (Routine routine) registers) (m.serve routine words (top (f ∷ fs)) shared) all
  acts_in_code f fs registers shared Hold args into words all =
      chain_in_code None f fs (kept_by Hold registers) (first_slot args) (twice_of words) (λ k word. holding k word f.held)
      (λ word. by_token m.hold word shared) all
  acts_in_code f fs registers shared Unhold args into words all =
      chain_in_code into f fs (kept_by Unhold registers) (only_slot args) (only_of words) (λ k word. unholding k word f.held)
      (λ word. by_token m.unhold word shared) all
  acts_in_code f fs registers shared Room args into words all =
      if_in_code placed (nat_le depth (length (f ∷ fs))) (ended m.stack_full shared) (placed_goes f fs registers shared) tt all

  -- what a line leads to
  line_in_code : (f : Frame PlacedLine) (fs : List (Frame PlacedLine)) (registers : ℕ → Option ℕ) (shared : H)
      (code : List PlacedLine)
      → f.code ≡ code → AreInCode placed (f ∷ fs)
      → TurnInCode placed (placed_line m depth placed f fs registers shared code)
  line_in_code f fs registers shared [] at all = tt
  line_in_code f fs registers shared (does alive action args into ∷ rest) at all =
      let f' : Frame PlacedLine = record f { code = rest } in
      let words : Option (List ℕ) = all_of (map (λ (arg : Operand). read_at registers f.cells arg.place) args) in
      let acts : List ℕ → PlacedTurn H W = λ words. placed_acts m depth placed f' fs registers shared action args into words in
      let on : AreInCode placed (f' ∷ fs) = (next_line placed f (does alive action args into) rest all.0 at, all.1) in
      if_in_code placed (conforms action args into) (or_stuck words acts) stuck
      (or_in_code placed words acts (λ words e. acts_in_code f' fs registers shared action args into words on)) tt
  line_in_code f fs registers shared (moves alive value way ∷ rest) at all =
      let f' : Frame PlacedLine = record f { code = rest } in
      let word : Option ℕ = read_at registers f.cells (from_of way) in
      if_in_code placed (is_held f.held (to_of way)) stuck (placed_writes (to_of way) word f' fs registers shared) tt
      (next_line placed f (moves alive value way) rest all.0 at, all.1)

  running_in_code : (frames : List (Frame PlacedLine)) (registers : ℕ → Option ℕ) (shared : H) → AreInCode placed frames
      → TurnInCode placed (placed_running m depth placed frames registers shared)
  running_in_code [] registers shared all = tt
  running_in_code (f ∷ fs) registers shared all = line_in_code f fs registers shared f.code refl all

  step_in_code : (t : PlacedTurn H W) → TurnInCode placed t → TurnInCode placed ((placed_machine m depth placed).step t).1
  step_in_code (go s) all = running_in_code s.frames s.registers s.shared all
  step_in_code (ended how shared) all = tt
  step_in_code stuck all = tt

  -- so it is after any steps
  pub stays_in_code : (n : ℕ) (t : PlacedTurn H W) → TurnInCode placed t
      → TurnInCode placed (state (placed_machine m depth placed) n t)
  stays_in_code zero t all = all
  stays_in_code (suc n) t all = stays_in_code n ((placed_machine m depth placed).step t).1 (step_in_code t all)
