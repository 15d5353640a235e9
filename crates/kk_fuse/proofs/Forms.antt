-- Fused code as its steps, its arms and its end.
use Rattle.std.proofs.Common.{◌≡◌, ◌==◌, ◌||◌, ◌&&◌, ◌+◌, ◌<◌, ℕ, suc, Bool, true, false, not, List, [], ◌∷◌, ◌++◌, length, drop, get_or, map, reverse, Option, Some, None, arith, refl, sym, ap, ◌∙◌, subst}
use Rattle.std.proofs.Math.Seq.{drop-cons}
use Rattle.std.proofs.lemmas.List.{map-append, reverse-append}
use Rattle.std.specs.Global.{Vec}
use Rattle.std.specs.Prelude.{option_map, if◌then◌else◌}
use Rattle.kk_syntax.specs.Shapes.{is_among}
use Rattle.kk_core.specs.declared.decisions.Decisions.{Decisions}
use Rattle.kk_counted.specs.declared.form.Block.{Block}
use Rattle.kk_counted.specs.declared.form.Last.{Last}
use Rattle.kk_counted.specs.declared.form.Last.TheFolds.{fold_out-Last}
use Rattle.kk_counted.specs.declared.form.Last.TheOpen.{Last-F, Return, TailCall, Case}
use Rattle.kk_counted.specs.declared.form.Last.TheVariants as OfLast
use Rattle.kk_counted.specs.declared.form.Step.{Step}
use Rattle.kk_counted.specs.CountedCodes.{Counted, case, compute, inside, read, open_cell, if_unique, dup, drop as drop_code, arm}
use Rattle.kk_counted.specs.CountedForms.{Move, computes, runs, reads, opens, opens_unique, dups, drops, put, plug, arms_of, last_step, step_step, block_step, step_move, last_code, block_code, decisions_of}
use Rattle.kk_counted.proofs.FormViews.{block_is, case_code}
use Rattle.kk_dropspec.specs.Numbers.{IsMoveInt32, AreMovesInt32}
use Rattle.kk_fuse.specs.Fused.{is_plain, without_drop, fused_dup, fuse, fuse_arms}
use Rattle.kk_fuse.specs.FusedForms.{backwards, drops_it, lets_past, moves_without, put_fused, fused_move, fused_moves}
use Rattle.kk_fuse.proofs.DropSearch.{backwards_both, backwards_one, backwards_none}

-- ---- steps in their order

-- the steps in their order
pub in_order : (steps : List Step) → map step_move (reverse steps) ≡ backwards steps
unfolding backwards
in_order [] = refl
in_order (step ∷ steps) =
    ap (map step_move) (reverse-append (step ∷ []) steps) ∙ map-append step_move (reverse steps) (step ∷ [])
    ∙ ap (λ ms. ms ++ step_move step ∷ []) (in_order steps) ∙ sym (reverse-append (step_move step ∷ []) (map step_move steps))

-- a step that is pushed comes in front of those before it
pub pushed : (before after : List Step) (step : Step) → after ≡ before ++ step ∷ []
    → backwards after ≡ step_move step ∷ backwards before
pushed before after step is =
    ap backwards is ∙ backwards_both before (step ∷ []) ∙ ap (λ ms. ms ++ backwards before) (backwards_one step)

-- what was made so far of the steps that were read, and of one more in front
pub made_before : (made after : List Step) (steps : List Step) (i left : ℕ) (copy step : Step) → left ≡ i + 1 → i < length steps
    → step ≡ get_or steps i step → backwards after ≡ put_fused (step_move copy) (backwards made)
    → step_move copy ≡ fused_move (step_move step) → backwards made ≡ fused_moves (map step_move (drop left steps))
    → backwards after ≡ fused_moves (map step_move (drop i steps))
made_before made after steps i left copy step same within is put_in copied so_far =
    put_in ∙ ap (λ move. put_fused move (backwards made)) copied ∙ ap (put_fused (fused_move (step_move step))) (so_far ∙ later)
    ∙ sym (ap (λ ss. fused_moves (map step_move ss)) (drop-cons steps i step within ∙ ap (λ s. s ∷ drop (suc i) steps) (sym is)))
  where
    later : fused_moves (map step_move (drop left steps)) ≡ fused_moves (map step_move (drop (suc i) steps))
    later = ap (λ n. fused_moves (map step_move (drop n steps))) {x = left} {y = suc i} (omega (arith, same))

-- none is made at first, and all at last
pub none_made : (made steps : List Step) → made ≡ [] → backwards made ≡ fused_moves (map step_move (drop (length steps) steps))
none_made made steps is = ap backwards is ∙ backwards_none ∙ sym (all_dropped steps)
  where
    all_dropped : (steps : List Step) → fused_moves (map step_move (drop (length steps) steps)) ≡ []
    all_dropped [] = refl
    all_dropped (step ∷ steps) = all_dropped steps

-- where no step is left, those that were made are all
pub all_made : (made ordered steps : List Step) (left : ℕ) → left ≡ 0 → ordered ≡ reverse made
    → backwards made ≡ fused_moves (map step_move (drop left steps)) → map step_move ordered ≡ fused_moves (map step_move steps)
all_made made ordered steps left none turned is =
    ap (map step_move) turned ∙ in_order made ∙ is ∙ ap (λ n. fused_moves (map step_move (drop n steps))) none

-- ---- numbers

-- at first no number is made
pub none_int32 : (made : List Step) → made ≡ [] → AreMovesInt32 (backwards made)
none_int32 made is =
    subst (λ (steps : List Step). AreMovesInt32 (backwards steps)) (sym is) (subst AreMovesInt32 (sym backwards_none) tt)

-- the numbers stay small where the steps are put in order
pub all_int32 : (made ordered : List Step) → ordered ≡ reverse made → AreMovesInt32 (backwards made)
    → AreMovesInt32 (map step_move ordered)
all_int32 made ordered turned all = subst AreMovesInt32 (sym (ap (map step_move) turned ∙ in_order made)) all

-- the numbers stay small where a drop goes
without_int32 : (x : ℕ) (moves less : List Move) → moves_without x moves ≡ Some less → AreMovesInt32 moves → AreMovesInt32 less
without_int32 x [] less is all = absurd (cc)
without_int32 x (move ∷ moves) less is all =
    by_test (drops_it x move) (lets_past x move) is (without_int32 x moves)
  where
    by_inner : (found : Option (List Move)) → option_map (λ ms. move ∷ ms) found ≡ Some less
        → ((inner : List Move) → found ≡ Some inner → AreMovesInt32 moves → AreMovesInt32 inner) → AreMovesInt32 less
    by_inner None is later = absurd (cc)
    by_inner (Some inner) is later =
        let same : (move ∷ inner) ≡ less = cc in subst AreMovesInt32 same (all.0, later inner refl all.1)

    by_test : (drops past : Bool)
        → (if drops then Some moves else if past then option_map (λ ms. move ∷ ms) (moves_without x moves) else None) ≡ Some less
        → ((inner : List Move) → moves_without x moves ≡ Some inner → AreMovesInt32 moves → AreMovesInt32 inner)
        → AreMovesInt32 less
    by_test true past is later = let same : moves ≡ less = cc in subst AreMovesInt32 same all.1
    by_test false false is later = absurd (cc)
    by_test false true is later = by_inner (moves_without x moves) is later

-- the numbers stay small where a step is put in front
put_int32 : (move : Move) (moves : List Move) → IsMoveInt32 move → AreMovesInt32 moves → AreMovesInt32 (put_fused move moves)
put_int32 (computes x form arguments) moves one all = (one, all)
put_int32 (runs x block) moves one all = (one, all)
put_int32 (reads x c fields) moves one all = (one, all)
put_int32 (opens x c fields used) moves one all = (one, all)
put_int32 (opens_unique x c fields used) moves one all = (one, all)
put_int32 (dups x) moves one all = by_case (moves_without x moves) refl
  where
    by_case : (found : Option (List Move)) → moves_without x moves ≡ found → AreMovesInt32 (put_fused (dups x) moves)
    by_case None is = rw is (one, all)
    by_case (Some less) is = rw is (without_int32 x moves less is all)
put_int32 (drops x) moves one all = (one, all)

-- the same of steps in Rust
pub moves_put : (before after : List Step) (step : Step) → backwards after ≡ put_fused (step_move step) (backwards before)
    → IsMoveInt32 (step_move step) → AreMovesInt32 (backwards before) → AreMovesInt32 (backwards after)
moves_put before after step is one all =
    subst AreMovesInt32 (sym is) (put_int32 (step_move step) (backwards before) one all)

-- ---- code without a drop, by its steps

-- an end of a block has no drop in front
step_ends : (x : ℕ) (last : Last-F Counted Move Counted) → without_drop x (last_step last) ≡ None
step_ends x (Return y) = refl
step_ends x (TailCall f arguments) = refl
step_ends x (Case y decisions arms) = refl

-- the same of an end in Rust
ends : (last : Last) (x : ℕ) → without_drop x (last_code last) ≡ None
ends last x =
    ap (without_drop x) (fold_out-Last Counted Move Counted last_step step_step block_step last) ∙ step_ends x _

module _ (x : ℕ) (last : Counted) (none : without_drop x last ≡ None) where
  -- a step in front of both
  put_both : (move : Move) (code : Option Counted) (found : Option (List Move)) → code ≡ option_map (λ less. plug less last) found
      → option_map (put move) code ≡ option_map (λ less. plug less last) (option_map (λ less. move ∷ less) found)
  put_both move code None is = rw is refl
  put_both move code (Some less) is = rw is refl

  -- the code without a drop is that of its steps without the drop
  pub without_plug : (moves : List Move)
      → without_drop x (plug moves last) ≡ option_map (λ less. plug less last) (moves_without x moves)
  without_plug [] = none
  without_plug (computes y form arguments ∷ moves) =
      by_test (y == x || is_among arguments x) (is_plain form arguments)
      (put_both (computes y form arguments) (without_drop x (plug moves last)) (moves_without x moves) (without_plug moves))
    where
      by_test : (t plain : Bool) → option_map (compute y form arguments) (without_drop x (plug moves last))
          ≡ option_map (λ less. plug less last) (option_map (λ less. computes y form arguments ∷ less) (moves_without x moves))
          → (if t then None else if plain then option_map (compute y form arguments) (without_drop x (plug moves last)) else None)
          ≡ option_map (λ less. plug less last)
          (if not t && plain then option_map (λ less. computes y form arguments ∷ less) (moves_without x moves) else None)
      by_test true plain later = refl
      by_test false false later = refl
      by_test false true later = later
  without_plug (runs y block ∷ moves) = refl
  without_plug (reads y c fields ∷ moves) =
      by_test (y == x || is_among fields x)
      (put_both (reads y c fields) (without_drop x (plug moves last)) (moves_without x moves) (without_plug moves))
    where
      by_test : (t : Bool) → option_map (read y c fields) (without_drop x (plug moves last))
          ≡ option_map (λ less. plug less last) (option_map (λ less. reads y c fields ∷ less) (moves_without x moves))
          → (if t then None else option_map (read y c fields) (without_drop x (plug moves last)))
          ≡ option_map (λ less. plug less last)
          (if not t then option_map (λ less. reads y c fields ∷ less) (moves_without x moves) else None)
      by_test true later = refl
      by_test false later = later
  without_plug (opens y c fields used ∷ moves) = refl
  without_plug (opens_unique y c fields used ∷ moves) = refl
  without_plug (dups y ∷ moves) =
      by_test (y == x) (put_both (dups y) (without_drop x (plug moves last)) (moves_without x moves) (without_plug moves))
    where
      by_test : (t : Bool) → option_map (dup y) (without_drop x (plug moves last))
          ≡ option_map (λ less. plug less last) (option_map (λ less. dups y ∷ less) (moves_without x moves))
          → (if t then None else option_map (dup y) (without_drop x (plug moves last)))
          ≡ option_map (λ less. plug less last) (if not t then option_map (λ less. dups y ∷ less) (moves_without x moves) else None)
      by_test true later = refl
      by_test false later = later
  without_plug (drops y ∷ moves) =
      by_test (y == x) (put_both (drops y) (without_drop x (plug moves last)) (moves_without x moves) (without_plug moves))
    where
      by_test : (t : Bool) → option_map (drop_code y) (without_drop x (plug moves last))
          ≡ option_map (λ less. plug less last) (option_map (λ less. drops y ∷ less) (moves_without x moves))
          → (if t then Some (plug moves last) else option_map (drop_code y) (without_drop x (plug moves last)))
          ≡ option_map (λ less. plug less last)
          (if t then Some moves else if not t then option_map (λ less. drops y ∷ less) (moves_without x moves) else None)
      by_test true later = refl
      by_test false later = later

  -- a dup is fused with code as it is with its steps
  pub dup_plug : (moves : List Move) → fused_dup x (plug moves last) ≡ plug (put_fused (dups x) moves) last
  dup_plug moves = by_case (moves_without x moves) refl
    where
      by_case : (found : Option (List Move)) → moves_without x moves ≡ found
          → fused_dup x (plug moves last) ≡ plug (put_fused (dups x) moves) last
      by_case None is = rw (without_plug moves) (rw is refl)
      by_case (Some less) is = rw (without_plug moves) (rw is refl)

-- ---- fused code

-- a step in front of fused code whose end has no drop in front
fuse_put : (last : Counted) → ((x : ℕ) → without_drop x last ≡ None) → (move : Move) (rest : Counted) (moves : List Move)
    → fuse rest ≡ plug moves last → fuse (put move rest) ≡ plug (put_fused (fused_move move) moves) last
fuse_put last none (computes x form arguments) rest moves is = ap (compute x form arguments) is
fuse_put last none (runs x block) rest moves is = ap (inside x (fuse block)) is
fuse_put last none (reads x c fields) rest moves is = ap (read x c fields) is
fuse_put last none (opens x c fields used) rest moves is = ap (open_cell x c fields used) is
fuse_put last none (opens_unique x c fields used) rest moves is = ap (if_unique x c fields used) is
fuse_put last none (dups x) rest moves is = ap (fused_dup x) is ∙ dup_plug x last (none x) moves
fuse_put last none (drops x) rest moves is = ap (drop_code x) is

-- fused code is that of its fused steps
pub fuse_plug : (moves : List Move) (last : Counted) → ((x : ℕ) → without_drop x (fuse last) ≡ None)
    → fuse (plug moves last) ≡ plug (fused_moves moves) (fuse last)
fuse_plug [] last none = refl
fuse_plug (move ∷ moves) last none =
    fuse_put (fuse last) none move (plug moves last) (fused_moves moves) (fuse_plug moves last none)

-- arms are fused one by one
fuse_arms_of : (codes : List Counted) → fuse_arms (arms_of codes) ≡ arms_of (map fuse codes)
fuse_arms_of [] = refl
fuse_arms_of (code ∷ codes) = ap (arm (fuse code)) (fuse_arms_of codes)

-- a block is fused where its steps and its end are
pub block_fused : (block made : Block) → map step_move made.steps.items ≡ fused_moves (map step_move block.steps.items)
    → last_code made.last ≡ fuse (last_code block.last) → block_code made ≡ fuse (block_code block)
block_fused block made steps last =
    block_is made ∙ ap (λ moves. plug moves (last_code made.last)) steps
    ∙ ap (plug (fused_moves (map step_move block.steps.items))) last
    ∙ sym (fuse_plug (map step_move block.steps.items) (last_code block.last)
    (λ x. ap (without_drop x) (sym last) ∙ ends made.last x)) ∙ ap fuse (sym (block_is block))

-- a case is fused where its arms are
pub case_fused : (of made : Last) (x : ℕ) (d e : Decisions) (arms others : Vec Block) → of ≡ OfLast.Case x d arms
    → made ≡ OfLast.Case x e others → decisions_of e ≡ decisions_of d
    → map block_code others.items ≡ map fuse (map block_code arms.items) → last_code made ≡ fuse (last_code of)
case_fused of made x d e arms others is made_is decisions bodies =
    ap last_code made_is ∙ case_code x e others
    ∙ ap (λ ds. case x ds (arms_of (map block_code others.items))) decisions
    ∙ ap (λ cs. case x (decisions_of d) (arms_of cs)) bodies
    ∙ ap (case x (decisions_of d)) (sym (fuse_arms_of (map block_code arms.items)))
    ∙ ap fuse (sym (case_code x d arms)) ∙ ap (λ (l : Last). fuse (last_code l)) (sym is)
