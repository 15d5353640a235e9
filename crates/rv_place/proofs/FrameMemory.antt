-- The frames of the stack in memory: where they end, what keeps them, and what a store to a slot of the newest one changes.
use Rattle.std.proofs.Common.{◌≡◌, ◌≢◌, ◌==◌, ◌≤◌, ◌<◌, ◌⊎◌, ℕ, zero, suc, ◌+◌, ◌*◌, ◌^◌, inl, inr, List, [], ◌∷◌, length, Option, Some, None, Bool, true, false, cond, refl, sym, ap, ◌∙◌, subst, arith}
use Rattle.std.proofs.Math.Nat.{suc-mul}
use Rattle.std.proofs.lemmas.Bool.{eqb-true, eqb-false}
use Rattle.rv_isa.specs.PlacedCode.{PlacedLine}
use Rattle.rv_isa.specs.Conventions.{is_handed_out}
use Rattle.rv_isa.specs.Frames.{Frame, put}
use Rattle.rv_isa.specs.Bytes.{number_at, with_number}
use Rattle.rv_isa.specs.Processor.{value}
use Rattle.rv_isa.specs.Standing.{Code}
use Rattle.rv_isa.proofs.Memory.{word-same, word-apart}
use Rattle.rv_place.specs.Addresses.{takes_frame, slot_offset, way_offset}
use Rattle.rv_place.specs.Lines.{Map}
use Rattle.rv_place.specs.ProcessorStates.{IsIn, Slots, FramesAt, way_back, StackAt, newest_taken, Agrees}

-- what is known behind a write is what was written, or was known before
put_by : (test : Bool) (word other : Option ℕ) (w : ℕ) → cond test word other ≡ Some w → ((test ≡ true) × (word ≡ Some w)) ⊎ ((test ≡ false) × (other ≡ Some w))
put_by true word other w is = inl (refl, is)
put_by false word other w is = inr (refl, is)

put_turned : (x at w : ℕ) (word : Option ℕ) (cells : ℕ → Option ℕ) → (((x == at) ≡ true) × (word ≡ Some w)) ⊎ (((x == at) ≡ false) × (cells x ≡ Some w)) → ((x ≡ at) × (word ≡ Some w)) ⊎ ((x ≢ at) × (cells x ≡ Some w))
put_turned x at w word cells (inl new) = inl (eqb-true x at new.0, new.1)
put_turned x at w word cells (inr old) = inr (eqb-false x at old.0, old.1)

pub known_put : (at : ℕ) (word : Option ℕ) (cells : ℕ → Option ℕ) (x w : ℕ) → put at word cells x ≡ Some w → ((x ≡ at) × (word ≡ Some w)) ⊎ ((x ≢ at) × (cells x ≡ Some w))
known_put at word cells x w is = put_turned x at w word cells (put_by (x == at) word (cells x) w is)

-- ---- registers that are known

-- a register that is handed out is none that is not
pub handed_apart : (x n : ℕ) → is_handed_out n ≡ false → is_handed_out x ≡ true → x ≢ n
handed_apart x n none some same = let both : is_handed_out n ≡ true = subst (λ y. is_handed_out y ≡ true) same some in cc

-- zero has the same value always
pub value_kept : (x : ℕ) (registers after : ℕ → ℕ) → (x ≢ 0 → value after x ≡ value registers x) → value after x ≡ value registers x
value_kept zero registers after kept = refl
value_kept (suc x) registers after kept = kept (λ e. cc)

pub agrees_put : (at : ℕ) (word : Option ℕ) (known : ℕ → Option ℕ) (registers after : ℕ → ℕ) → Agrees known registers → is_handed_out at ≡ true
    → ((w : ℕ) → word ≡ Some w → (value after at ≡ w) × (w < 2 ^ 32)) → ((x : ℕ) → is_handed_out x ≡ true → x ≢ at → value after x ≡ value registers x) → Agrees (put at word known) after
agrees_put at word known registers after agrees handed new others x w is = by (known_put at word known x w is)
  where
    by : ((x ≡ at) × (word ≡ Some w)) ⊎ ((x ≢ at) × (known x ≡ Some w)) → (is_handed_out x ≡ true) × (value after x ≡ w) × (w < 2 ^ 32)
    by (inl here) = let is_word = new w here.1 in (subst (λ y. is_handed_out y ≡ true) (sym here.0) handed, subst (λ y. value after y ≡ w) (sym here.0) is_word.0, is_word.1)
    by (inr there) = let old = agrees x w there.1 in (old.0, others x old.0 there.0 ∙ old.1, old.2)

pub agrees_kept : (known : ℕ → Option ℕ) (registers after : ℕ → ℕ) → Agrees known registers → ((x : ℕ) → is_handed_out x ≡ true → value after x ≡ value registers x) → Agrees known after
agrees_kept known registers after agrees same x w is = let old = agrees x w is in (old.0, same x old.0 ∙ old.1, old.2)

-- ---- frames

more_frames : (base n frame roof : ℕ) → base + frame + n * frame ≡ roof → base + suc n * frame ≡ roof
more_frames base n frame roof is = ap (λ m. base + m) (suc-mul n frame) ∙ (omega arith ∙ is)

module _ (map : Map) (code : Code) (most stop roof : ℕ) where
  pub frames_sum : (memory : ℕ → ℕ) (at base : ℕ) (frames : List (Frame PlacedLine)) → FramesAt map code most stop roof memory at base frames → base + length frames * map.frame ≡ roof
  frames_sum memory at base [] stand = let is = stand.1 in omega arith
  frames_sum memory at base (frame ∷ frames) stand =
      more_frames base (length frames) map.frame roof (frames_sum memory (number_at memory (base + way_offset map.frame) 4) (base + map.frame) frames stand.3)

  -- the newest frame ends within the stack
  pub frame_below : (memory : ℕ → ℕ) (at base : ℕ) (frame : Frame PlacedLine) (frames : List (Frame PlacedLine)) → FramesAt map code most stop roof memory at base (frame ∷ frames) → base + map.frame ≤ roof
  frame_below memory at base frame frames stand =
      let sum = frames_sum memory (number_at memory (base + way_offset map.frame) 4) (base + map.frame) frames stand.3 in omega arith

  -- frames whose words are the same stand in another memory
  pub slots_kept : (memory after : ℕ → ℕ) (base : ℕ) (cells : ℕ → Option ℕ)
      → ((x : ℕ) → base ≤ x → x + 4 ≤ base + map.frame → number_at after x 4 ≡ number_at memory x 4) → Slots map memory base cells → Slots map after base cells
  slots_kept memory after base cells same slots k w is =
      let old = slots k w is in let inside = old.0 in (inside, same (base + slot_offset k) (omega arith) (omega arith) ∙ old.1, old.2)

  pub frames_kept : 4 ≤ map.frame → (memory after : ℕ → ℕ) (at base : ℕ) (frames : List (Frame PlacedLine))
      → ((x : ℕ) → base ≤ x → x + 4 ≤ roof → number_at after x 4 ≡ number_at memory x 4)
      → FramesAt map code most stop roof memory at base frames → FramesAt map code most stop roof after at base frames
  frames_kept some memory after at base [] same stand = stand
  frames_kept some memory after at base (frame ∷ frames) same stand =
      let ends = frame_below memory at base frame frames stand in
      let rest : FramesAt map code most stop roof after (number_at memory (base + way_offset map.frame) 4) (base + map.frame) frames =
      frames_kept some memory after (number_at memory (base + way_offset map.frame) 4) (base + map.frame) frames (λ x low high. same x (omega arith) high) stand.3 in
      let way : number_at after (base + way_offset map.frame) 4 ≡ number_at memory (base + way_offset map.frame) 4 = same (base + way_offset map.frame) (omega arith) (omega arith) in (
        stand.0,
        slots_kept memory after base frame.cells (λ x low high. same x low (omega arith)) stand.1,
        stand.2,
        subst (λ w. FramesAt map code most stop roof after w (base + map.frame) frames) (sym way) rest,
      )

-- ---- the running frame

-- where the frame goes on that waits for it
way_kept : (takes : Bool) (registers after memory memory' : ℕ → ℕ) (last : ℕ) → (takes ≡ false → value after 1 ≡ value registers 1)
    → number_at memory' last 4 ≡ number_at memory last 4 → way_back takes registers memory last ≡ way_back takes after memory' last
way_kept true registers after memory memory' last link same = sym same
way_kept false registers after memory memory' last link same = sym (link refl)

module _ (map : Map) (code : Code) (most stop roof : ℕ) where
  pub stack_sum : (registers memory : ℕ → ℕ) (at base : ℕ) (frames : List (Frame PlacedLine)) → StackAt map code most stop roof registers memory at base frames
      → base + length frames * map.frame ≡ roof
  stack_sum registers memory at base [] stand = let is = stand.1 in omega arith
  stack_sum registers memory at base (frame ∷ frames) stand =
      more_frames base (length frames) map.frame roof
      (frames_sum map code most stop roof memory (way_back (takes_frame map.jumps frame.whole) registers memory (base + way_offset map.frame)) (base + map.frame) frames stand.3)

  -- where the words of the stack are the same, and ra too, if the function takes no frame
  pub stack_kept : 4 ≤ map.frame → (registers after memory memory' : ℕ → ℕ) (at base : ℕ) (frame : Frame PlacedLine) (frames : List (Frame PlacedLine))
      → (takes_frame map.jumps frame.whole ≡ false → value after 1 ≡ value registers 1)
      → ((x : ℕ) → base ≤ x → x + 4 ≤ roof → number_at memory' x 4 ≡ number_at memory x 4)
      → StackAt map code most stop roof registers memory at base (frame ∷ frames) → StackAt map code most stop roof after memory' at base (frame ∷ frames)
  stack_kept some registers after memory memory' at base frame frames link same stand =
      let takes = takes_frame map.jumps frame.whole in
      let way : ℕ = way_back takes registers memory (base + way_offset map.frame) in
      let sum = frames_sum map code most stop roof memory way (base + map.frame) frames stand.3 in
      let rest : FramesAt map code most stop roof memory' way (base + map.frame) frames =
      frames_kept map code most stop roof some memory memory' way (base + map.frame) frames (λ x low high. same x (omega arith) high) stand.3 in (
        stand.0,
        slots_kept map code most stop roof memory memory' base frame.cells (λ x low high. same x low (omega arith)) stand.1,
        stand.2,
        subst (λ w. FramesAt map code most stop roof memory' w (base + map.frame) frames)
            (way_kept takes registers after memory memory' (base + way_offset map.frame) link (same (base + way_offset map.frame) (omega arith) (omega arith))) rest,
      )

  -- one whose function takes a frame stands as one that waits does
  pub waits_as : (registers memory : ℕ → ℕ) (at base : ℕ) (frame : Frame PlacedLine) (frames : List (Frame PlacedLine)) → takes_frame map.jumps frame.whole ≡ true
      → StackAt map code most stop roof registers memory at base (frame ∷ frames) → FramesAt map code most stop roof memory at base (frame ∷ frames)
  waits_as registers memory at base frame frames takes stand = (
    stand.0,
    stand.1,
    (stand.2, takes),
    subst (λ t. FramesAt map code most stop roof memory (way_back t registers memory (base + way_offset map.frame)) (base + map.frame) frames) takes stand.3,
  )

  pub runs_as : (registers memory : ℕ → ℕ) (at base : ℕ) (frames : List (Frame PlacedLine))
      → FramesAt map code most stop roof memory at base frames → StackAt map code most stop roof registers memory at base frames
  runs_as registers memory at base [] stand = stand
  runs_as registers memory at base (frame ∷ frames) stand = (
    stand.0,
    stand.1,
    stand.2.0,
    subst (λ t. FramesAt map code most stop roof memory (way_back t registers memory (base + way_offset map.frame)) (base + map.frame) frames) (sym stand.2.1) stand.3,
  )

  pub newest_waits : (memory : ℕ → ℕ) (at base : ℕ) (frames : List (Frame PlacedLine)) → FramesAt map code most stop roof memory at base frames
      → newest_taken map base frames ≡ base
  newest_waits memory at base [] stand = refl
  newest_waits memory at base (frame ∷ frames) stand = ap (λ t. cond t base (base + map.frame)) stand.2.1

-- ---- a store to a slot

module _ (map : Map) (memory : ℕ → ℕ) (base slot v : ℕ) (inside : slot_offset slot + 4 ≤ way_offset map.frame) where
  abbrev stored : ℕ → ℕ
  stored = with_number (base + slot_offset slot) 4 v memory

  other_slot : (k : ℕ) → k ≢ slot → number_at stored (base + slot_offset k) 4 ≡ number_at memory (base + slot_offset k) 4
  other_slot k apart = word-apart (base + slot_offset slot) v memory (base + slot_offset k) (aside k apart)
    where
      aside : (k : ℕ) → k ≢ slot → (base + slot_offset k + 4 ≤ base + slot_offset slot) ⊎ (base + slot_offset slot + 4 ≤ base + slot_offset k)
      aside k apart = grind arith

  -- the words behind the frame, and the way back
  pub store_behind : (x : ℕ) → base + map.frame ≤ x → number_at stored x 4 ≡ number_at memory x 4
  store_behind x low = word-apart (base + slot_offset slot) v memory x (inr (omega arith))

  pub store_way : number_at stored (base + way_offset map.frame) 4 ≡ number_at memory (base + way_offset map.frame) 4
  store_way = word-apart (base + slot_offset slot) v memory (base + way_offset map.frame) (inr (omega arith))

  pub slots_put : (word : Option ℕ) (cells : ℕ → Option ℕ) → ((w : ℕ) → word ≡ Some w → (v ≡ w) × (w < 2 ^ 32)) → Slots map memory base cells → Slots map stored base (put slot word cells)
  slots_put word cells new slots k w is = by (known_put slot word cells k w is)
    where
      by : ((k ≡ slot) × (word ≡ Some w)) ⊎ ((k ≢ slot) × (cells k ≡ Some w)) → (slot_offset k + 4 ≤ way_offset map.frame) × (number_at stored (base + slot_offset k) 4 ≡ w) × (w < 2 ^ 32)
      by (inl here) =
          let is_word = new w here.1 in
          let holds : number_at stored (base + slot_offset slot) 4 ≡ w = ap (λ n. number_at (with_number (base + slot_offset slot) 4 n memory) (base + slot_offset slot) 4) is_word.0 ∙ word-same (base + slot_offset slot) w memory is_word.1 in
          subst (λ j. (slot_offset j + 4 ≤ way_offset map.frame) × (number_at stored (base + slot_offset j) 4 ≡ w) × (w < 2 ^ 32)) (sym here.0) (inside, holds, is_word.1)
      by (inr there) = let old = slots k w there.1 in (old.0, other_slot k there.0 ∙ old.1, old.2)

module _ (map : Map) (code : Code) (most stop roof : ℕ) where
  -- the frames behind a store to a slot of the newest one
  pub frames_put : 4 ≤ map.frame → (memory : ℕ → ℕ) (base slot v at next : ℕ) (word : Option ℕ) (frame frame' : Frame PlacedLine) (frames : List (Frame PlacedLine))
      → slot_offset slot + 4 ≤ way_offset map.frame → ((w : ℕ) → word ≡ Some w → (v ≡ w) × (w < 2 ^ 32)) → frame'.cells ≡ put slot word frame.cells → frame'.into ≡ frame.into → frame'.whole ≡ frame.whole → IsIn map code most next frame'
      → FramesAt map code most stop roof memory at base (frame ∷ frames) → FramesAt map code most stop roof (with_number (base + slot_offset slot) 4 v memory) next base (frame' ∷ frames)
  frames_put some memory base slot v at next word frame frame' frames inside new cells_are into_is whole_is here stand =
      let after = with_number (base + slot_offset slot) 4 v memory in
      let rest : FramesAt map code most stop roof after (number_at memory (base + way_offset map.frame) 4) (base + map.frame) frames =
      frames_kept map code most stop roof some memory after (number_at memory (base + way_offset map.frame) 4) (base + map.frame) frames (λ x low high. store_behind map memory base slot v inside x low) stand.3 in (
        here,
        subst (Slots map after base) (sym cells_are) (slots_put map memory base slot v inside word frame.cells new stand.1),
        (rw into_is stand.2.0, rw whole_is stand.2.1),
        subst (λ w. FramesAt map code most stop roof after w (base + map.frame) frames) (sym (store_way map memory base slot v inside)) rest,
      )

  -- a new frame under the others, whose last word is where the newest of them goes on
  pub frames_pushed : 4 ≤ map.frame → (memory : ℕ → ℕ) (base way : ℕ) (next : ℕ) (frame : Frame PlacedLine) (frames : List (Frame PlacedLine)) → way < 2 ^ 32 → IsIn map code most next frame
      → ((k w : ℕ) → frame.cells k ≡ Some w → ⊥) → frame.into ≡ None → takes_frame map.jumps frame.whole ≡ true
      → FramesAt map code most stop roof memory way (base + map.frame) frames → FramesAt map code most stop roof (with_number (base + way_offset map.frame) 4 way memory) next base (frame ∷ frames)
  frames_pushed some memory base way next frame frames fits here unknown waits_none takes stand =
      let after = with_number (base + way_offset map.frame) 4 way memory in
      let rest : FramesAt map code most stop roof after way (base + map.frame) frames =
      frames_kept map code most stop roof some memory after way (base + map.frame) frames (λ x low high. word-apart (base + way_offset map.frame) way memory x (inr (omega arith))) stand in (
        here,
        (λ k w is. absurd (unknown k w is)),
        (rw waits_none tt, takes),
        subst (λ w. FramesAt map code most stop roof after w (base + map.frame) frames) (sym (word-same (base + way_offset map.frame) way memory fits)) rest,
      )
