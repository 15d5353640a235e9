-- The code of each form of a block.
use Rattle.std.proofs.Common.{◌≡◌, ℕ, List, [], ◌∷◌, ◌++◌, map, sym, ap, ◌∙◌}
use Rattle.std.proofs.lemmas.List.{map-append}
use Rattle.kk_syntax.specs.declared.program.Form.{Form}
use Rattle.kk_counted.specs.declared.form.Block.{Block}
use Rattle.kk_counted.specs.declared.form.Last.TheVariants as OfLast
use Rattle.kk_counted.specs.declared.form.Last.TheFolds.{fold-roll-Last, fold-roll-Step, fold_out-Block}
use Rattle.kk_counted.specs.declared.form.Step.{Step}
use Rattle.kk_counted.specs.declared.form.Step.TheVariants as OfStep
use Rattle.kk_counted.specs.CountedCodes.{Counted, give, tail_call, case}
use Rattle.kk_counted.specs.CountedForms.{Move, computes, runs, reads, opens, dups, drops, plug, arms_of, decisions_of, last_step, step_step, block_step, block_code, last_code, step_move}

pub step_let : (x : ℕ) (form : Form) (arguments : _) → step_move (OfStep.Let x form arguments) ≡ computes x form arguments.items
step_let x form arguments = ap step_move (sym (OfStep.rolls-Let x form arguments)) ∙ fold-roll-Step Counted Move Counted last_step step_step block_step _

pub step_inside : (x : ℕ) (block : Block) → step_move (OfStep.Inside x block) ≡ runs x (block_code block)
step_inside x block = ap step_move (sym (OfStep.rolls-Inside x block)) ∙ fold-roll-Step Counted Move Counted last_step step_step block_step _

pub step_read : (x c : ℕ) (fields : _) → step_move (OfStep.Read x c fields) ≡ reads x c fields.items
step_read x c fields = ap step_move (sym (OfStep.rolls-Read x c fields)) ∙ fold-roll-Step Counted Move Counted last_step step_step block_step _

pub step_open : (x c : ℕ) (fields used : _) → step_move (OfStep.Open x c fields used) ≡ opens x c fields.items used.items
step_open x c fields used = ap step_move (sym (OfStep.rolls-Open x c fields used)) ∙ fold-roll-Step Counted Move Counted last_step step_step block_step _

pub step_dup : (x : ℕ) → step_move (OfStep.Dup x) ≡ dups x
step_dup x = ap step_move (sym (OfStep.rolls-Dup x)) ∙ fold-roll-Step Counted Move Counted last_step step_step block_step _

pub step_drop : (x : ℕ) → step_move (OfStep.Drop x) ≡ drops x
step_drop x = ap step_move (sym (OfStep.rolls-Drop x)) ∙ fold-roll-Step Counted Move Counted last_step step_step block_step _

pub block_is : (block : Block) → block_code block ≡ plug (map step_move block.steps.items) (last_code block.last)
block_is block = fold_out-Block Counted Move Counted last_step step_step block_step block

pub return_code : (x : ℕ) → last_code (OfLast.Return x) ≡ give x
return_code x = ap last_code (sym (OfLast.rolls-Return x)) ∙ fold-roll-Last Counted Move Counted last_step step_step block_step _

pub tail_call_code : (f : ℕ) (arguments : _) → last_code (OfLast.TailCall f arguments) ≡ tail_call f arguments.items
tail_call_code f arguments = ap last_code (sym (OfLast.rolls-TailCall f arguments)) ∙ fold-roll-Last Counted Move Counted last_step step_step block_step _

pub case_code : (x : ℕ) (decisions : _) (arms : _) → last_code (OfLast.Case x decisions arms) ≡ case x (decisions_of decisions) (arms_of (map block_code arms.items))
case_code x decisions arms = ap last_code (sym (OfLast.rolls-Case x decisions arms)) ∙ fold-roll-Last Counted Move Counted last_step step_step block_step _

-- one more step
pub moves_more : (steps : List Step) (step : Step) (move : Move) → step_move step ≡ move → map step_move (steps ++ step ∷ []) ≡ map step_move steps ++ move ∷ []
moves_more steps step move is = map-append step_move steps (step ∷ []) ∙ ap (λ m. map step_move steps ++ m ∷ []) is
