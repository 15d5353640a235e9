-- Paired code, step by step.
use Rattle.std.proofs.Common.{◌≡◌, ◌≤◌, ℕ, suc, ◌+◌, Bool, true, false, ◌&&◌, if◌then◌else◌, List, [], ◌∷◌, ◌++◌, map, length, drop, append-nil, refl, sym, ap, ◌∙◌, arith}
use Rattle.std.proofs.Math.Bool.{and-false}
use Rattle.std.proofs.Math.ListN.{drop_of_length-le}
use Rattle.kk_syntax.specs.declared.program.Form.{Form}
use Rattle.kk_counted.specs.declared.form.Block.{Block}
use Rattle.kk_counted.specs.declared.tokened.TokenedBlock.{TokenedBlock}
use Rattle.kk_counted.specs.declared.tokened.TokenedStep.{TokenedStep}
use Rattle.kk_counted.specs.CountedCodes.{Counted, compute, drop as drop_code}
use Rattle.kk_counted.specs.CountedForms.{Move, computes, runs, reads, opens, opens_unique, dups, drops, put, arms_of, block_code}
use Rattle.kk_counted.specs.TokenedCodes.{Tokened, TokenedArms}
use Rattle.kk_counted.specs.TokenedForms.{TokenedMove, put_tokened, put_steps, tokened_arms, tokened_code, tokened_move}
use Rattle.kk_counted.proofs.TokenedViews.{step_pushed}
use Rattle.kk_reuse.specs.Following.{may_make, taken}
use Rattle.kk_reuse.specs.Pairing.{slots_below, frees, holds, unholds, all_taken_back, nulls, moves_up, paired_form, paired, paired_arms}
use Rattle.kk_reuse.specs.PairedForms.{is_call, move_is_call, move_is_drop, leads_to_call, held_before, held_behind, written_form}
use Rattle.kk_reuse.specs.PairedForms.{paired_block, paired_move, tokens_behind}
use Rattle.kk_reuse.proofs.TakenBack.{held_still, all_again_held, back_written, call_takes_none, call_paired, held_drop}

-- ---- slots, from the newest to the oldest

pub slots_next : (n next : ℕ) → n ≡ next + 1 → slots_below n ≡ next ∷ slots_below next
slots_next n next is = ap slots_below {x = n} {y = suc next} (omega (arith, is))

pub frees_next : (n next : ℕ) → n ≡ next + 1 → (rest : Tokened) → frees n rest ≡ Tokened.free next (frees next rest)
frees_next n next is rest = ap (λ k. frees k rest) {x = n} {y = suc next} (omega (arith, is))

pub unholds_next : (n next : ℕ) → n ≡ next + 1 → (rest : Tokened) → unholds n rest ≡ Tokened.unhold next (unholds next rest)
unholds_next n next is rest = ap (λ k. unholds k rest) {x = n} {y = suc next} (omega (arith, is))

pub nulls_next : (n next : ℕ) → n ≡ next + 1 → (rest : Tokened) → nulls n rest ≡ Tokened.null next (nulls next rest)
nulls_next n next is rest = ap (λ k. nulls k rest) {x = n} {y = suc next} (omega (arith, is))

pub moves_next : (by n next : ℕ) → n ≡ next + 1
    → (rest : Tokened) → moves_up by n rest ≡ Tokened.move (next + by) next (moves_up by next rest)
moves_next by n next is rest = ap (λ k. moves_up by k rest) {x = n} {y = suc next} (omega (arith, is))

pub holds_next : (n next : ℕ) → next ≡ n + 1 → (rest : Tokened) → holds next rest ≡ holds n (Tokened.hold n rest)
holds_next n next is rest = ap (λ k. holds k rest) {x = next} {y = suc n} (omega (arith, is))

-- what is done with the tokens that are left, after a step for the newest of them
pub one_slot_done : (f : ℕ → Tokened → Tokened) (start : Tokened → Tokened) (before after : List TokenedStep) (step : TokenedStep)
    (move : TokenedMove) (n next : ℕ) → after ≡ before ++ step ∷ [] → tokened_move step ≡ move
    → ((rest : Tokened) → f n rest ≡ put_tokened move (f next rest))
    → ((rest : Tokened) → put_steps before (f n rest) ≡ start rest)
    → (rest : Tokened) → put_steps after (f next rest) ≡ start rest
one_slot_done f start before after step move n next grown is one so_far rest =
    step_pushed before after step move grown is (f next rest) ∙ sym (ap (put_steps before) (one rest)) ∙ so_far rest

-- ---- steps

-- a step that is no call, of those in front of which no token is held
plain_put : (b : Bool) (l n : ℕ) (move : Move) (rest : Counted) → move_is_call move ≡ false
    → paired_move false false (may_make b rest) n move (paired_block b l (tokens_behind (may_make b rest) n move) rest)
    ≡ paired b l n (put move rest)
plain_put b l n (computes x form arguments) rest none =
    let behind = paired_block b l (taken form arguments n) rest in
    ap (λ c. if c then holds n (Tokened.compute x form arguments [] (unholds n behind)) else paired_form n x form arguments behind)
    none
plain_put b l n (runs x block) rest none = refl
plain_put b l n (reads x c fields) rest none = refl
plain_put b l n (opens x c fields used) rest none = refl
plain_put b l n (opens_unique x c fields used) rest none = refl
plain_put b l n (dups x) rest none = refl
plain_put b l n (drops x) rest none = refl

held_call : (already : Bool) (n : ℕ) (code : Tokened) → held_before already n code ≡ held_still already n (holds n code)
held_call true n code = sym (all_again_held n [] code)
held_call false n code = refl

-- whether tokens stay held behind a step, by the code behind it
abbrev stays_by : Bool → Bool → Move → Counted → Bool
stays_by makes already move rest =
    if move_is_drop move then already else makes && (move_is_call move && leads_to_call rest)

-- a step in front of which tokens are held already: a call, or a drop that leads to one in front of which they are kept
abbrev pub IsHeldAt : Bool → Move → Counted → Type 0
IsHeldAt b move rest = (leads_to_call (put move rest) ≡ true) × (may_make b (put move rest) ≡ true)

-- What is written for a step: where tokens are held in front of it already, they are not taken back there.
module _ (b : Bool) (l n : ℕ) (rest : Counted) where
  -- the code behind a step with so many tokens behind it, which are still held there or not
  abbrev later : Bool → Bool → ℕ → Tokened
  later makes stays k =
      if makes then held_still stays (if makes then k else 0) (paired b l (if makes then k else 0) rest)
      else frees k (held_still stays (if makes then k else 0) (paired b l (if makes then k else 0) rest))

  -- a step, and what comes behind it
  abbrev written_put : Bool → Bool → Move → Tokened
  written_put already stays move =
      paired_move already stays (may_make b rest) n move (later (may_make b rest) stays (tokens_behind (may_make b rest) n move))

  call_put : (already : Bool) (x : ℕ) (form : Form) (arguments : List ℕ) → is_call form ≡ true
      → written_put already (may_make b rest && (is_call form && leads_to_call rest)) (computes x form arguments)
      ≡ held_still already n (paired b l n (compute x form arguments rest))
  call_put already x form arguments is =
      let m : Bool = may_make b rest in
      let stays : Bool = m && leads_to_call rest in
      let behind : Tokened = later m stays n in
      let same : taken form arguments n ≡ n = call_takes_none form arguments n is in
      ap (λ c. written_form already (m && (c && leads_to_call rest)) n x form arguments
      (later m (m && (c && leads_to_call rest)) (taken form arguments n))) is
      ∙ ap (λ k. written_form already stays n x form arguments (later m stays k)) same
      ∙ ap (λ c. if c then held_before already n (Tokened.compute x form arguments [] (held_behind stays n behind))
      else paired_form n x form arguments behind) is
      ∙ ap (λ code. held_before already n (Tokened.compute x form arguments [] code)) (back_written b l n rest)
      ∙ held_call already n (Tokened.compute x form arguments [] (all_taken_back n (paired_block b l n rest)))
      ∙ sym (ap (held_still already n) (call_paired n x form arguments (paired_block b l n rest) is))
      ∙ sym (ap (λ k. held_still already n (paired_form n x form arguments (paired_block b l k rest))) same)

  -- where nothing is held a step that is no call is written as it is paired
  plain_written : (stays : Bool) (move : Move) → stays ≡ false → move_is_call move ≡ false
      → written_put false stays move ≡ paired b l n (put move rest)
  plain_written true move still none = absurd (cc)
  plain_written false move still none = plain_put b l n move rest none

  drop_put : (already : Bool) (x : ℕ) → (already ≡ true → IsHeldAt b (drops x) rest)
      → written_put already already (drops x) ≡ held_still already n (paired b l n (drop_code x rest))
  drop_put false x at = refl
  drop_put true x at =
      let is = at refl in
      ap (λ m. Tokened.drop x (later m true n)) is.1 ∙ held_drop b l n x rest is.0 is.1

  move_put : (already : Bool) (move : Move) → (already ≡ true → IsHeldAt b move rest)
      → written_put already (stays_by (may_make b rest) already move rest) move ≡ held_still already n (paired b l n (put move rest))
  move_put already (drops x) at = drop_put already x at
  move_put already (computes x form arguments) at = by already (is_call form) refl at
    where
      m : Bool
      m = may_make b rest

      by : (held call : Bool) → is_call form ≡ call → (held ≡ true → IsHeldAt b (computes x form arguments) rest)
          → written_put held (m && (is_call form && leads_to_call rest)) (computes x form arguments)
          ≡ held_still held n (paired b l n (compute x form arguments rest))
      by held true is there = call_put held x form arguments is
      by true false is there = let call : is_call form ≡ true = (there refl).0 in absurd (cc)
      by false false is there =
          plain_written (m && (is_call form && leads_to_call rest)) (computes x form arguments)
          (ap (λ c. m && (c && leads_to_call rest)) is ∙ and-false m) is
  move_put true move at = let call : false ≡ true = (at refl).0 in absurd (cc)
  move_put false move at = plain_written (may_make b rest && false) move (and-false (may_make b rest)) refl

-- a step with its tokens is written, and those are freed that are not kept behind it
pub step_paired : (b makes already stays : Bool) (l n behind after : ℕ) (move : Move) (rest : Counted)
    (old middle new : List TokenedStep) → (already ≡ true → IsHeldAt b move rest)
    → makes ≡ may_make b rest → stays ≡ stays_by makes already move rest → behind ≡ tokens_behind makes n move
    → after ≡ (if makes then behind else 0)
    → ((code : Tokened) → put_steps middle code ≡ put_steps old (paired_move already stays makes n move code))
    → ((code : Tokened) → put_steps new code ≡ put_steps middle (if makes then code else frees behind code))
    → put_steps new (held_still stays after (paired b l after rest))
    ≡ put_steps old (held_still already n (paired b l n (put move rest)))
step_paired b makes already stays l n behind after move rest old middle new at may held many left written settled_too =
    settled_too (code after) ∙ written (if makes then code after else frees behind (code after))
    ∙ ap (put_steps old)
    (ap (λ k. paired_move already stays makes n move (if makes then code k else frees behind (code k))) left
    ∙ ap (λ k. paired_move already stays makes n move (later b l n rest makes stays k)) many
    ∙ ap (λ s. paired_move already s makes n move (later b l n rest makes s (tokens_behind makes n move))) held
    ∙ ap (λ m. paired_move already (stays_by m already move rest) m n move
    (later b l n rest m (stays_by m already move rest) (tokens_behind m n move))) may
    ∙ move_put b l n rest already move at)
  where
    code : ℕ → Tokened
    code k = held_still stays k (paired b l k rest)

-- ---- arms

pub arms_paired : (b : Bool) (l n : ℕ) (codes : List Counted)
    → tokened_arms (map (paired_block b l n) codes) ≡ paired_arms b l n (arms_of codes)
arms_paired b l n [] = refl
arms_paired b l n (code ∷ codes) = ap (TokenedArms.arm (paired_block b l n code)) (arms_paired b l n codes)

pub arms_written : (b : Bool) (l n : ℕ) (made : List TokenedBlock) (arms : List Block) (i : ℕ) → length arms ≤ i
    → map tokened_code made ++ map (paired_block b l n) (map block_code (drop i arms)) ≡ map (paired_block b l n)
    (map block_code arms)
    → tokened_arms (map tokened_code made) ≡ paired_arms b l n (arms_of (map block_code arms))
arms_written b l n made arms i all so_far =
    ap tokened_arms (sym (append-nil (map tokened_code made))
    ∙ sym (ap (λ xs. map tokened_code made ++ map (paired_block b l n) (map block_code xs)) (drop_of_length-le arms all))
    ∙ so_far)
    ∙ arms_paired b l n (map block_code arms)
