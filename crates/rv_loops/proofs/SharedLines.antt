-- A line that stands in both codes: both machines execute it alike, and it weighs as much.
use Rattle.std.proofs.Common.{◌≡◌, ◌≢◌, ℕ, List, ◌∷◌, Option, Some, None, Bool}
use Rattle.std.proofs.Common.{true, false, cond, map, refl, sym, ap, ◌∙◌, subst}
use Rattle.rv_isa.specs.declared.asm.Action.{Action}
use Rattle.rv_isa.specs.declared.asm.Action.TheVariants.{Compute, Label, Jump, Branch, Call, TailCall, Return, Routine, Hold}
use Rattle.rv_isa.specs.declared.asm.Action.TheVariants.{Unhold, Room}
use Rattle.rv_isa.specs.declared.placed.Listed.{Listed}
use Rattle.rv_isa.specs.declared.placed.Operand.{Operand}
use Rattle.rv_isa.specs.declared.placed.Place.{Place}
use Rattle.rv_isa.specs.declared.placed.Place.TheVariants.{Register as register, Slot as slot}
use Rattle.rv_isa.specs.declared.placed.Way.{Way}
use Rattle.rv_isa.specs.Conventions.{conforms}
use Rattle.rv_isa.specs.Costs.{instructions_of}
use Rattle.rv_isa.specs.Frames.{Frame, all_of, top}
use Rattle.rv_isa.specs.PlacedCode.{PlacedLine, does, moves, PlacedLines, from_of, to_of}
use Rattle.rv_isa.specs.PlacedMachine.{read_at, slots_with, is_held}
use Rattle.rv_isa.specs.PlacedMachine.{placed_writes, placed_acts, placed_line}
use Rattle.rv_isa.specs.PlacedMachine.{placed_line_weight}
use Rattle.rv_isa.specs.Primitives.{Primitives, stuck, or_stuck}
use Rattle.rv_loops.specs.Rotation.{is_straight}
use Rattle.rv_loops.specs.Rotation.{AreRotated}
use Rattle.rv_loops.specs.Relation.{Spot, Knows, SameAt, IsLike, IsAtSame, AllWait, StandsFor}
use Rattle.rv_loops.proofs.MachineKnowledge.{read_knows, words_known, same_aside}
use Rattle.rv_loops.proofs.LineActions.{top_same, writes_better, computes, goes, acts}

module _ {H E W : Type 0} (m : Primitives H E W) (depth : ℕ) (q q' : List PlacedLines) (all : AreRotated 0 q q') where
  pub statement_goes : (IsAt : Spot) (f g : Frame PlacedLine) (fs gs : List (Frame PlacedLine)) (known known' : ℕ
      → Option ℕ) (shared : H)
      (rest rest' : List PlacedLine) (alive : List Listed) (action : Action) (args : List Operand) (into : Option Operand)
      → IsLike q q' f g → Knows known known'
      → ((words : List ℕ) → all_of (map (λ (arg : Operand). read_at known f.cells arg.place) args) ≡ Some words
      → StandsFor q q' IsAt (placed_acts m depth q (record f { code = rest }) fs known shared action args into words)
      (placed_acts m depth q' (record g { code = rest' }) gs known' shared action args into words))
      → StandsFor q q' IsAt (placed_line m depth q f fs known shared (does alive action args into ∷ rest))
      (placed_line m depth q' g gs known' shared (does alive action args into ∷ rest'))
  statement_goes IsAt f g fs gs known known' shared rest rest' alive action args into like more meets =
      by (conforms action args into) (all_of (map (λ (arg : Operand). read_at known f.cells arg.place) args)) refl
    where
      by : (fit : Bool) (o : Option (List ℕ)) → all_of (map (λ (arg : Operand). read_at known f.cells arg.place) args) ≡ o
          → StandsFor q q' IsAt (cond fit (or_stuck o (λ words. placed_acts m depth q
          (record f { code = rest }) fs known shared action args into words)) stuck)
          (cond fit (or_stuck (all_of (map (λ (arg : Operand). read_at known' g.cells arg.place) args))
          (λ words. placed_acts m depth q' (record g { code = rest' }) gs known' shared action args into words)) stuck)
      by false o is = tt
      by true None is = tt
      by true (Some words) is =
          let same : all_of (map (λ (arg : Operand). read_at known' g.cells arg.place) args) ≡ Some words
          = words_known known known' f.cells g.cells more like.cells args words is in
          subst (λ (o : Option (List ℕ)). StandsFor q q' IsAt (placed_acts m depth q
          (record f { code = rest }) fs known shared action args into words)
          (or_stuck o (λ ws. placed_acts m depth q' (record g { code = rest' }) gs known' shared action args into ws)))
          (sym same) (meets words is)

  slots_aside : (place : Place) (held : List ℕ) (w w' : Option ℕ) (a b : ℕ → Option ℕ) → is_held held place ≡ false
      → SameAt held a b
      → SameAt held (slots_with place w a) (slots_with place w' b)
  slots_aside (register r) held w w' a b none same = same
  slots_aside (slot k) held w w' a b none same = same_aside k w w' a b held none same

  move_goes : (IsAt : Spot) (f g : Frame PlacedLine) (fs gs : List (Frame PlacedLine)) (known known' : ℕ → Option ℕ) (shared : H)
      (rest rest' : List PlacedLine) (alive : List Listed) (value : ℕ) (way : Way) → IsLike q q' f g → AllWait q q' fs gs
      → Knows known known'
      → IsAt f.function f.whole g.whole rest rest'
      → StandsFor q q' IsAt (placed_line m depth q f fs known shared (moves alive value way ∷ rest))
      (placed_line m depth q' g gs known' shared (moves alive value way ∷ rest'))
  move_goes IsAt f g fs gs known known' shared rest rest' alive value way like wait more at =
      subst (λ (held : List ℕ). StandsFor q q' IsAt (placed_line m depth q f fs known shared (moves alive value way ∷ rest))
      (cond (is_held held (to_of way)) stuck (placed_writes (to_of way) (read_at known' g.cells (from_of way))
      (record g { code = rest' }) gs known' shared)))
      (sym like.held) (by (is_held f.held (to_of way)) refl)
    where
      by : (held : Bool) → is_held f.held (to_of way) ≡ held
          → StandsFor {W = W} q q' IsAt (cond held stuck (placed_writes (to_of way) (read_at known f.cells (from_of way))
          (record f { code = rest }) fs known shared))
          (cond held stuck (placed_writes (to_of way) (read_at known' g.cells (from_of way))
          (record g { code = rest' }) gs known' shared))
      by true is = tt
      by false is =
          writes_better m depth q q' all IsAt f g fs gs known known' shared rest rest' like wait more at (to_of way)
          (read_at known f.cells (from_of way))
          (read_at known' g.cells (from_of way)) shared (read_knows known known' f.cells g.cells more like.cells (from_of way))
          (slots_aside (to_of way) f.held (read_at known' g.cells (from_of way)) (read_at known f.cells
          (from_of way)) g.cells f.cells is like.held_cells)

  -- a move or a computation leads on in the same way
  pub straight_goes : (IsAt : Spot) (f g : Frame PlacedLine) (fs gs : List (Frame PlacedLine)) (known known' : ℕ
      → Option ℕ) (shared : H)
      (rest rest' : List PlacedLine) (line : PlacedLine) → is_straight line ≡ true → IsLike q q' f g → AllWait q q' fs gs
      → Knows known known'
      → IsAt f.function f.whole g.whole rest rest'
      → StandsFor q q' IsAt (placed_line m depth q f fs known shared (line ∷ rest)) (placed_line m depth q' g gs known' shared
      (line ∷ rest'))
  straight_goes IsAt f g fs gs known known' shared rest rest' (moves alive value way) straight like wait more at =
      move_goes IsAt f g fs gs known known' shared rest rest' alive value way like wait more at
  straight_goes IsAt f g fs gs known known' shared rest rest' (does alive action args into) straight like wait more at =
      statement_goes IsAt f g fs gs known known' shared rest rest' alive action args into like more (by action straight)
    where
      by : (action : Action) → is_straight (does alive action args into) ≡ true → (words : List ℕ)
          → all_of (map (λ (arg : Operand). read_at known f.cells arg.place) args) ≡ Some words
          → StandsFor q q' IsAt (placed_acts m depth q (record f { code = rest }) fs known shared action args into words)
          (placed_acts m depth q' (record g { code = rest' }) gs known' shared action args into words)
      by (Compute operation) is words known_are =
          computes m depth q q' all IsAt f g fs gs known known' shared rest rest' like wait more at operation args into words
      by (Label l) is words known_are =
          goes m depth q q' all IsAt f g fs gs known known' shared rest rest' like wait more at known known' shared more
      by (Jump l) is words known_are = cc is
      by (Branch condition l) is words known_are = cc is
      by (Call callee) is words known_are = cc is
      by (TailCall callee) is words known_are = cc is
      by Return is words known_are = cc is
      by (Routine routine) is words known_are = cc is
      by Hold is words known_are = cc is
      by Unhold is words known_are = cc is
      by Room is words known_are = cc is

  -- any line leads to the same line of both again
  pub line_goes : (f g : Frame PlacedLine) (fs gs : List (Frame PlacedLine)) (known known' : ℕ → Option ℕ) (shared : H)
      (rest rest' : List PlacedLine) (line : PlacedLine) → IsLike q q' f g → AllWait q q' fs gs → Knows known known'
      → IsAtSame f.function f.whole g.whole rest rest'
      → StandsFor q q' IsAtSame (placed_line m depth q f fs known shared (line ∷ rest)) (placed_line m depth q' g gs known' shared
      (line ∷ rest'))
  line_goes f g fs gs known known' shared rest rest' (moves alive value way) like wait more at =
      move_goes IsAtSame f g fs gs known known' shared rest rest' alive value way like wait more at
  line_goes f g fs gs known known' shared rest rest' (does alive action args into) like wait more at =
      statement_goes IsAtSame f g fs gs known known' shared rest rest' alive action args into like more
      (λ words words_are. acts m depth q q' all f g fs gs known known' shared rest rest' like wait more at action args into words
      words_are)

  -- and weighs as much, where it can go on
  pub weighs_same : (f g : Frame PlacedLine) (fs gs : List (Frame PlacedLine)) (known known' : ℕ → Option ℕ) (shared : H)
      (rest rest' : List PlacedLine) (line : PlacedLine) → IsLike q q' f g → AllWait q q' fs gs → Knows known known'
      → placed_line m depth q f fs known shared (line ∷ rest) ≢ stuck
      → placed_line_weight m (g ∷ gs) known' shared g (line ∷ rest') ≡ placed_line_weight m (f ∷ fs) known shared f (line ∷ rest)
  weighs_same f g fs gs known known' shared rest rest' (moves alive value way) like wait more good = refl
  weighs_same f g fs gs known known' shared rest rest' (does alive action args into) like wait more good =
      by (conforms action args into) (all_of (map (λ (arg : Operand). read_at known f.cells arg.place) args)) refl good
    where
      by : (fit : Bool) (o : Option (List ℕ)) → all_of (map (λ (arg : Operand). read_at known f.cells arg.place) args) ≡ o
          → cond fit (or_stuck o (λ words. placed_acts m depth q
          (record f { code = rest }) fs known shared action args into words)) stuck ≢ stuck
          → instructions_of m action (all_of (map (λ (arg : Operand). read_at known' g.cells arg.place) args)) (top (g ∷ gs)) shared
          ≡ instructions_of m action (all_of (map (λ (arg : Operand). read_at known f.cells arg.place) args)) (top (f ∷ fs)) shared
      by false o is good = absurd (good refl)
      by true None is good = absurd (good refl)
      by true (Some words) is good =
          let same = words_known known known' f.cells g.cells more like.cells args words is in
          ap (λ (o : Option (List ℕ)). instructions_of m action o (top (g ∷ gs)) shared) (same ∙ sym is)
          ∙ ap (λ (o : Option ℕ). instructions_of m action (all_of (map (λ
          (arg : Operand). read_at known f.cells arg.place) args)) o shared)
          (top_same q q' f g fs gs like wait)
