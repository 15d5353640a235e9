-- The code of each form of a block with tokens, and steps one behind the other.
use Rattle.std.proofs.Common.{◌≡◌, ℕ, List, [], ◌∷◌, ◌++◌, map, refl, sym, ap, ◌∙◌}
use Rattle.kk_syntax.specs.declared.program.Form.{Form}
use Rattle.kk_counted.specs.declared.tokened.TokenedBlock.{TokenedBlock}
use Rattle.kk_counted.specs.declared.tokened.TokenedLast.TheFolds.{fold_out-TokenedBlock, fold-roll-TokenedLast, fold-roll-TokenedStep}
use Rattle.kk_counted.specs.declared.tokened.TokenedLast.TheVariants as OfLast
use Rattle.kk_counted.specs.declared.tokened.TokenedStep.{TokenedStep}
use Rattle.kk_counted.specs.declared.tokened.TokenedStep.TheVariants as OfStep
use Rattle.kk_counted.specs.CountedForms.{decisions_of}
use Rattle.kk_counted.specs.TokenedCodes.{Tokened}
use Rattle.kk_counted.specs.TokenedForms.{TokenedMove, put_tokened, put_steps, tokened_block_step, tokened_last_step, tokened_step_step, tokened_arms, tokened_move, tokened_code, tokened_last_code}

pub tokened_block_is : (block : TokenedBlock) → tokened_code block ≡ put_steps block.steps.items (tokened_last_code block.last)
tokened_block_is block = fold_out-TokenedBlock Tokened TokenedMove Tokened tokened_last_step tokened_step_step tokened_block_step block

pub let_step : (x : ℕ) (form : Form) (arguments others : _) → tokened_move (OfStep.Let x form arguments others)
    ≡ TokenedMove.computes x form arguments.items others.items
let_step x form arguments others =
    ap tokened_move (sym (OfStep.rolls-Let x form arguments others))
    ∙ fold-roll-TokenedStep Tokened TokenedMove Tokened tokened_last_step tokened_step_step tokened_block_step _

pub inside_step : (x : ℕ) (block : TokenedBlock) → tokened_move (OfStep.Inside x block) ≡ TokenedMove.runs x (tokened_code block)
inside_step x block =
    ap tokened_move (sym (OfStep.rolls-Inside x block))
    ∙ fold-roll-TokenedStep Tokened TokenedMove Tokened tokened_last_step tokened_step_step tokened_block_step _

pub read_step : (x c : ℕ) (fields : _) → tokened_move (OfStep.Read x c fields) ≡ TokenedMove.reads x c fields.items
read_step x c fields =
    ap tokened_move (sym (OfStep.rolls-Read x c fields))
    ∙ fold-roll-TokenedStep Tokened TokenedMove Tokened tokened_last_step tokened_step_step tokened_block_step _

pub open_step : (x c : ℕ) (fields used : _) (y : ℕ) → tokened_move (OfStep.Open x c fields used y)
    ≡ TokenedMove.opens x c fields.items used.items y
open_step x c fields used y =
    ap tokened_move (sym (OfStep.rolls-Open x c fields used y))
    ∙ fold-roll-TokenedStep Tokened TokenedMove Tokened tokened_last_step tokened_step_step tokened_block_step _

pub if_unique_step : (x c : ℕ) (fields used : _) (y : ℕ) → tokened_move (OfStep.IfUnique x c fields used y)
    ≡ TokenedMove.opens_unique x c fields.items used.items y
if_unique_step x c fields used y =
    ap tokened_move (sym (OfStep.rolls-IfUnique x c fields used y))
    ∙ fold-roll-TokenedStep Tokened TokenedMove Tokened tokened_last_step tokened_step_step tokened_block_step _

pub dup_step : (x : ℕ) → tokened_move (OfStep.Dup x) ≡ TokenedMove.dups x
dup_step x =
    ap tokened_move (sym (OfStep.rolls-Dup x))
    ∙ fold-roll-TokenedStep Tokened TokenedMove Tokened tokened_last_step tokened_step_step tokened_block_step _

pub drop_step : (x : ℕ) → tokened_move (OfStep.Drop x) ≡ TokenedMove.drops x
drop_step x =
    ap tokened_move (sym (OfStep.rolls-Drop x))
    ∙ fold-roll-TokenedStep Tokened TokenedMove Tokened tokened_last_step tokened_step_step tokened_block_step _

pub fill_step : (x y c first : ℕ) (arguments kept others : _)
    → tokened_move (OfStep.Fill x y c first arguments kept others) ≡ TokenedMove.fills x y c first arguments.items kept.items others.items
fill_step x y c first arguments kept others =
    ap tokened_move (sym (OfStep.rolls-Fill x y c first arguments kept others))
    ∙ fold-roll-TokenedStep Tokened TokenedMove Tokened tokened_last_step tokened_step_step tokened_block_step _

pub free_step : (y : ℕ) → tokened_move (OfStep.Free y) ≡ TokenedMove.frees y
free_step y =
    ap tokened_move (sym (OfStep.rolls-Free y))
    ∙ fold-roll-TokenedStep Tokened TokenedMove Tokened tokened_last_step tokened_step_step tokened_block_step _

pub null_step : (y : ℕ) → tokened_move (OfStep.Null y) ≡ TokenedMove.nulls y
null_step y =
    ap tokened_move (sym (OfStep.rolls-Null y))
    ∙ fold-roll-TokenedStep Tokened TokenedMove Tokened tokened_last_step tokened_step_step tokened_block_step _

pub move_step : (to of : ℕ) → tokened_move (OfStep.Move to of) ≡ TokenedMove.moves to of
move_step to of =
    ap tokened_move (sym (OfStep.rolls-Move to of))
    ∙ fold-roll-TokenedStep Tokened TokenedMove Tokened tokened_last_step tokened_step_step tokened_block_step _

pub hold_step : (y : ℕ) → tokened_move (OfStep.Hold y) ≡ TokenedMove.holds y
hold_step y =
    ap tokened_move (sym (OfStep.rolls-Hold y))
    ∙ fold-roll-TokenedStep Tokened TokenedMove Tokened tokened_last_step tokened_step_step tokened_block_step _

pub unhold_step : (y : ℕ) → tokened_move (OfStep.Unhold y) ≡ TokenedMove.unholds y
unhold_step y =
    ap tokened_move (sym (OfStep.rolls-Unhold y))
    ∙ fold-roll-TokenedStep Tokened TokenedMove Tokened tokened_last_step tokened_step_step tokened_block_step _

pub return_end : (x : ℕ)
    → tokened_last_code (OfLast.Return x) ≡ Tokened.give x
return_end x =
    ap tokened_last_code (sym (OfLast.rolls-Return x))
    ∙ fold-roll-TokenedLast Tokened TokenedMove Tokened tokened_last_step tokened_step_step tokened_block_step _

pub tail_call_end : (f : ℕ) (arguments : _)
    → tokened_last_code (OfLast.TailCall f arguments) ≡ Tokened.tail_call f arguments.items
tail_call_end f arguments =
    ap tokened_last_code (sym (OfLast.rolls-TailCall f arguments))
    ∙ fold-roll-TokenedLast Tokened TokenedMove Tokened tokened_last_step tokened_step_step tokened_block_step _

pub case_end : (x : ℕ) (decisions : _) (arms : _)
    → tokened_last_code (OfLast.Case x decisions arms) ≡ Tokened.case x (decisions_of decisions) (tokened_arms
    (map tokened_code arms.items))
case_end x decisions arms =
    ap tokened_last_code (sym (OfLast.rolls-Case x decisions arms))
    ∙ fold-roll-TokenedLast Tokened TokenedMove Tokened tokened_last_step tokened_step_step tokened_block_step _

pub if_token_end : (y : ℕ) (there absent : _)
    → tokened_last_code (OfLast.IfToken y there absent) ≡ Tokened.if_token y (tokened_code there.value) (tokened_code absent.value)
if_token_end y there absent =
    ap tokened_last_code (sym (OfLast.rolls-IfToken y there absent))
    ∙ fold-roll-TokenedLast Tokened TokenedMove Tokened tokened_last_step tokened_step_step tokened_block_step _

one_behind : (steps : List TokenedStep) (step : TokenedStep) (rest : Tokened)
    → put_steps (steps ++ step ∷ []) rest ≡ put_steps steps (put_tokened (tokened_move step) rest)
one_behind [] step rest = refl
one_behind (first ∷ steps) step rest = ap (put_tokened (tokened_move first)) (one_behind steps step rest)

-- a step is added
pub step_pushed : (before after : List TokenedStep) (step : TokenedStep) (move : TokenedMove) → after ≡ before ++ step ∷ []
    → tokened_move step ≡ move → (rest : Tokened) → put_steps after rest ≡ put_steps before (put_tokened move rest)
step_pushed before after step move grown is rest =
    ap (λ steps. put_steps steps rest) grown ∙ one_behind before step rest
    ∙ ap (λ m. put_steps before (put_tokened m rest)) is
