-- What rotation of loops leaves of code with places: it is plain, has the same slots and as many functions, and can be placed.
use Rattle.std.proofs.Common.{◌≡◌, ◌⊎◌, inl, inr, ℕ, suc, List, [], ◌∷◌, ◌++◌, Option, Some, None, Bool, true, false, cond}
use Rattle.std.proofs.Common.{length, option_map, refl, sym, ap, subst}
use Rattle.std.specs.Prelude.{IsSome}
use Rattle.std.specs.List.{AllByRecursion}
use Rattle.std.proofs.lemmas.List.Elements.{All-nil}
use Rattle.rv_isa.specs.declared.asm.Action.{Action}
use Rattle.rv_isa.specs.declared.asm.Action.TheVariants.{Branch}
use Rattle.rv_isa.specs.declared.asm.Operation.TheVariants.{Register, Immediate, Shift, Li, Mv, La, Lw, Sw, Dup, Free}
use Rattle.rv_isa.specs.declared.placed.Listed.{Listed}
use Rattle.rv_isa.specs.Frames.{found}
use Rattle.rv_isa.specs.PlacedCode.{PlacedLine, does, moves, PlacedLines}
use Rattle.rv_isa.specs.PlacedMachine.{is_label_line}
use Rattle.cell_heap.specs.Pool.{Pool}
use Rattle.rv_loops.specs.Rotation.{HasOpposites, ComputesAlone, Loop, is_call_of, test, mark, goes_on, leaves}
use Rattle.rv_loops.specs.Rotation.{rotated_line, rotated_lines, IsRotated, AreRotated}
use Rattle.rv_loops.proofs.Places.{found_both, found_again}
use Rattle.rv_place.specs.ProcessorStates.{HasLabel, IsPlain, ArePlain, AllPlain}
use Rattle.rv_place.proofs.InstructionExecution.{opposite_compares}
use Rattle.rv_regs.specs.Shape.{IsBelow, HasSlotsBelow, AllSlotsBelow, HaveSlotsBelow}
use Rattle.cell_runtime.specs.Operations.{Constants, computed}
use Rattle.cell_runtime.specs.World.{World, primitives}

-- ---- what holds of all lines

module _ (P : PlacedLine → Type 0) where
  both_parts : (a b : List PlacedLine) → AllByRecursion P (a ++ b) → AllByRecursion P a × AllByRecursion P b
  both_parts [] b all = (tt, all)
  both_parts (line ∷ a) b all = let rest = both_parts a b all.1 in ((all.0, rest.0), rest.1)

  joined : (a b : List PlacedLine) → AllByRecursion P a → AllByRecursion P b → AllByRecursion P (a ++ b)
  joined [] b first second = second
  joined (line ∷ a) b first second = (first.0, joined a b first.1 second)

  module _ (loop : Loop) (before : AllByRecursion P loop.before) (turned : P (goes_on loop)) (out : P (leaves loop)) where
    one_rotated : (call : Bool) (line : PlacedLine) → P line
        → AllByRecursion P (cond call (loop.before ++ (goes_on loop ∷ leaves loop ∷ [])) (line ∷ []))
    one_rotated true line is = joined loop.before (goes_on loop ∷ leaves loop ∷ []) before (turned, (out, tt))
    one_rotated false line is = (is, tt)

    all_rotated : (lines : List PlacedLine) → AllByRecursion P lines → AllByRecursion P (rotated_lines loop lines)
    all_rotated [] all = tt
    all_rotated (line ∷ lines) all =
        joined (rotated_line loop line) (rotated_lines loop lines) (one_rotated (is_call_of loop.function line) line all.0)
        (all_rotated lines all.1)

  -- of the lines of code, and of the new ones, and so of rotated code
  rotated_has : (f : ℕ) (old new : List PlacedLine) (is : IsRotated f old new) → (P (test is.loop) → P (goes_on is.loop))
      → P (leaves is.loop) → P (mark is.loop) → AllByRecursion P old → AllByRecursion P new
  rotated_has f old new is turned out label all =
      let loop : Loop = is.loop in
      let parts = both_parts loop.before (test loop ∷ loop.behind) (subst (AllByRecursion P) is.old_is all) in
      subst (AllByRecursion P) (sym is.new_is)
      (joined loop.before (test loop ∷ mark loop ∷ rotated_lines loop loop.behind) parts.0
      (parts.1.0, (label, all_rotated loop parts.0 (turned parts.1.0) out loop.behind parts.1.1)))

-- ---- slots

slots_kept : (most f : ℕ) (old new : List PlacedLine) → IsRotated f old new → AllSlotsBelow most old → AllSlotsBelow most new
slots_kept most f old new is all =
    rotated_has (HasSlotsBelow most) f old new is (λ has. has)
    (All-nil (λ (l : Listed). IsBelow most l.place), (All-nil (λ arg. IsBelow most arg.place), tt))
    (All-nil (λ (l : Listed). IsBelow most l.place), (All-nil (λ arg. IsBelow most arg.place), tt)) all

-- rotated functions have no more slots than the functions have
pub slots_below : (most f : ℕ) (q q' : List PlacedLines) → AreRotated f q q' → HaveSlotsBelow most q → HaveSlotsBelow most q'
slots_below most f [] [] all below = tt
slots_below most f [] (new ∷ news) all below = absurd all
slots_below most f (old ∷ olds) [] all below = absurd all
slots_below most f (old ∷ olds) (new ∷ news) all below = (by all.0, slots_below most (suc f) olds news all.1 below.1)
  where
    by : (new.code ≡ old.code) ⊎ IsRotated f old.code new.code → AllSlotsBelow most new.code
    by (inl same) = subst (AllSlotsBelow most) (sym same) below.0
    by (inr is) = slots_kept most f old.code new.code is below.0

-- ---- plain code

plain_each : (whole lines : List PlacedLine) → ArePlain whole lines → AllByRecursion (IsPlain whole) lines
plain_each whole [] plain = tt
plain_each whole (line ∷ lines) plain = (plain.0, plain_each whole lines plain.1)

each_plain : (whole lines : List PlacedLine) → AllByRecursion (IsPlain whole) lines → ArePlain whole lines
each_plain whole [] all = tt
each_plain whole (line ∷ lines) all = (all.0, each_plain whole lines all.1)

some_is : {A : Type 0} (o : Option A) → IsSome o → (a : A) × (o ≡ Some a)
some_is None is = cc is
some_is (Some a) is = (a, refl)

is_some : {A : Type 0} (o : Option A) (a : A) → o ≡ Some a → IsSome o
is_some o a is = subst IsSome (sym is) refl

module _ (f : ℕ) (old new : List PlacedLine) (is : IsRotated f old new) where
  -- labels are there still
  label_there : (l : ℕ) → IsSome (found (is_label_line l) old) → IsSome (found (is_label_line l) new)
  label_there l there =
      let at = some_is (found (is_label_line l) old) there in
      let both = found_both f l old new [] [] at.0 (inr (is, inl refl)) at.1 in
      is_some (found (is_label_line l) new) both.0 both.1

  has_label : (action : Action) → HasLabel old action → HasLabel new action
  has_label (Branch condition l) has = label_there l has
  has_label action has = tt

  line_plain : (line : PlacedLine) → IsPlain old line → IsPlain new line
  line_plain (does alive action args into) plain = (plain.0, has_label action plain.1)
  line_plain (moves alive value way) plain = plain

  lines_plain : (lines : List PlacedLine) → ArePlain old lines → AllByRecursion (IsPlain new) lines
  lines_plain [] plain = tt
  lines_plain (line ∷ lines) plain = (line_plain line plain.0, lines_plain lines plain.1)

  again_there : IsSome (found (is_label_line is.loop.again) new)
  again_there = is_some (found (is_label_line is.loop.again) new) _ (found_again f old new is)

  -- where the test leads as it stands again
  led_there : (stays : Bool) → IsSome (found (is_label_line is.loop.exit) new)
      → IsSome (found (is_label_line (cond stays is.loop.exit is.loop.again)) new)
  led_there true there = there
  led_there false there = again_there

  plain_kept : ArePlain old old → ArePlain new new
  plain_kept plain =
      each_plain new new
      (rotated_has (IsPlain new) f old new is (λ has. (tt, led_there is.loop.stays has.1)) (tt, tt) (tt, tt) (lines_plain old plain))

-- rotated functions are plain where the functions are
pub all_plain : (f : ℕ) (q q' : List PlacedLines) → AreRotated f q q' → AllPlain q → AllPlain q'
all_plain f [] [] all plain = tt
all_plain f [] (new ∷ news) all plain = absurd all
all_plain f (old ∷ olds) [] all plain = absurd all
all_plain f (old ∷ olds) (new ∷ news) all plain = (by all.0, all_plain (suc f) olds news all.1 plain.1)
  where
    by : (new.code ≡ old.code) ⊎ IsRotated f old.code new.code → ArePlain new.code new.code
    by (inl same) = subst (λ (code : List PlacedLine). ArePlain code code) (sym same) plain.0
    by (inr is) = plain_kept f old.code new.code is plain.0

-- ---- numbers

pub as_many_rotated : (f : ℕ) (q q' : List PlacedLines) → AreRotated f q q' → length q' ≡ length q
as_many_rotated f [] [] all = refl
as_many_rotated f [] (new ∷ news) all = absurd all
as_many_rotated f (old ∷ olds) [] all = absurd all
as_many_rotated f (old ∷ olds) (new ∷ news) all = ap suc (as_many_rotated (suc f) olds news all.1)

-- ---- what the machines leave open

module _ (constants : Constants) (pool : Pool) where
  pub opposes : HasOpposites (primitives constants pool)
  opposes condition [] = refl
  opposes condition (a ∷ []) = ap (λ (b : Bool). Some b) (opposite_compares condition a 0)
  opposes condition (a ∷ b ∷ []) = ap (λ (c : Bool). Some c) (opposite_compares condition a b)
  opposes condition (a ∷ b ∷ c ∷ words) = refl

  word_alone : (world : World) (o : Option ℕ) (r : ℕ × World) → option_map (λ (word : ℕ). (word, world)) o ≡ Some r → r.1 ≡ world
  word_alone world None r is = cc is
  word_alone world (Some word) r is = cc is

  pub computes_alone : ComputesAlone (primitives constants pool)
  computes_alone (Register operation) words world r straight is = cc straight
  computes_alone (Immediate operation immediate) words world r straight is = cc straight
  computes_alone (Shift operation amount) words world r straight is = cc straight
  computes_alone (Li word) words world r straight is = word_alone world (computed constants (Li word) words) r is
  computes_alone Mv words world r straight is = word_alone world (computed constants Mv words) r is
  computes_alone (La index) words world r straight is = cc straight
  computes_alone (Lw offset) words world r straight is = cc straight
  computes_alone (Sw offset) words world r straight is = cc straight
  computes_alone Dup words world r straight is = cc straight
  computes_alone Free words world r straight is = cc straight
