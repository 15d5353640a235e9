-- The numbers of code, by those of its steps, its arms and its end.
use Rattle.std.proofs.Common.{◌≡◌, ◌+◌, ◌<◌, ℕ, zero, suc, List, [], ◌∷◌, ◌++◌, length, take, get_or, map, Some, arith, sym, ◌∙◌}
use Rattle.std.proofs.Common.{ap, subst}
use Rattle.std.proofs.lemmas.List.{length-append, map-append}
use Rattle.std.specs.Global.{Vec}
use Rattle.kk_syntax.specs.declared.program.Form.{Form}
use Rattle.kk_core.specs.declared.decisions.Decisions.{Decisions}
use Rattle.kk_counted.specs.declared.counted.CountedFun.{CountedFun}
use Rattle.kk_counted.specs.declared.form.Block.{Block}
use Rattle.kk_counted.specs.declared.form.Last.TheVariants as OfLast
use Rattle.kk_counted.specs.declared.form.Step.{Step}
use Rattle.kk_counted.specs.declared.form.Step.TheVariants as OfStep
use Rattle.kk_counted.specs.CountedCodes.{Counted, CountedFunction}
use Rattle.kk_counted.specs.CountedForms.{Move, computes, runs, reads, opens, opens_unique, dups, drops, plug, arms_of, step_move}
use Rattle.kk_counted.specs.CountedForms.{last_code, block_code, decisions_of}
use Rattle.kk_counted.specs.Int32.{IsFormInt32, HasInt32, HaveInt32, AreNodesInt32, AllHaveInt32}
use Rattle.kk_counted.specs.Programs.{function_of}
use Rattle.kk_counted.proofs.FormViews.{block_is, case_code, step_let}
use Rattle.kk_dropspec.specs.Numbers.{IsMoveInt32, AreMovesInt32}

plug_int32 : (moves : List Move) (last : Counted) → AreMovesInt32 moves → HasInt32 last → HasInt32 (plug moves last)
plug_int32 [] last all is = is
plug_int32 (computes x form arguments ∷ moves) last all is = (all.0, plug_int32 moves last all.1 is)
plug_int32 (runs x block ∷ moves) last all is = (all.0, plug_int32 moves last all.1 is)
plug_int32 (reads x c fields ∷ moves) last all is = plug_int32 moves last all.1 is
plug_int32 (opens x c fields used ∷ moves) last all is = plug_int32 moves last all.1 is
plug_int32 (opens_unique x c fields used ∷ moves) last all is = plug_int32 moves last all.1 is
plug_int32 (dups x ∷ moves) last all is = plug_int32 moves last all.1 is
plug_int32 (drops x ∷ moves) last all is = plug_int32 moves last all.1 is

pub block_int32 : (block : Block) → AreMovesInt32 (map step_move block.steps.items) → HasInt32 (last_code block.last)
    → HasInt32 (block_code block)
block_int32 block steps last =
    subst (λ (code : Counted). HasInt32 code) (sym (block_is block))
    (plug_int32 (map step_move block.steps.items) (last_code block.last) steps last)

pub let_int32 : (x : ℕ) (form : Form) (arguments : Vec ℕ) → IsFormInt32 form → IsMoveInt32 (step_move (OfStep.Let x form arguments))
let_int32 x form arguments is = subst (λ (move : Move). IsMoveInt32 move) (sym (step_let x form arguments)) is

pub case_int32 : (x : ℕ) (decisions : Decisions) (arms : Vec Block) → AreNodesInt32 (decisions_of decisions)
    → HaveInt32 (arms_of (map block_code arms.items)) → HasInt32 (last_code (OfLast.Case x decisions arms))
case_int32 x decisions arms nodes bodies =
    subst (λ (code : Counted). HasInt32 code) (sym (case_code x decisions arms)) (nodes, bodies)

-- ---- one more

take_next : {A : Type 0} (xs : List A) (i : ℕ) (x : A) → i < length xs → x ≡ get_or xs i x → take (i + 1) xs ≡ take i xs ++ x ∷ []
take_next [] i x less is = absurd (omega (arith, less))
take_next (y ∷ xs) zero x less is = ap (λ z. z ∷ []) (sym is)
take_next (y ∷ xs) (suc i) x less is =
    ap (λ n. take n (y ∷ xs)) {x = suc i + 1} {y = suc (i + 1)} (omega arith)
    ∙ ap (λ zs. y ∷ zs) (take_next xs i x (omega (arith, less)) is)

-- what was made so far of the items that were read, and of one more
pub made_more : {A B M : Type 0} (f : A → M) (g : B → M) (h : M → M) (before after : List A) (copy : A) (xs : List B) (i : ℕ) (item : B)
    → i < length xs → item ≡ get_or xs i item → after ≡ before ++ copy ∷ [] → f copy ≡ h (g item)
    → map f before ≡ map h (map g (take i xs)) → map f after ≡ map h (map g (take (i + 1) xs))
made_more f g h before after copy xs i item less is grown kept so_far =
    ap (map f) grown ∙ map-append f before (copy ∷ []) ∙ ap (λ ys. map f before ++ ys ∷ []) kept
    ∙ ap (λ ys. ys ++ h (g item) ∷ []) so_far
    ∙ sym (ap (λ ys. map h (map g ys)) (take_next xs i item less is)
    ∙ ap (map h) (map-append g (take i xs) (item ∷ [])) ∙ map-append h (map g (take i xs)) (g item ∷ []))

moves_more : (steps : List Step) (step : Step) → AreMovesInt32 (map step_move steps) → IsMoveInt32 (step_move step)
    → AreMovesInt32 (map step_move (steps ++ step ∷ []))
moves_more [] step all is = (is, tt)
moves_more (one ∷ steps) step all is = (all.0, moves_more steps step all.1 is)

pub moves_pushed : (before after : List Step) (step : Step) → after ≡ before ++ step ∷ []
    → AreMovesInt32 (map step_move before) → IsMoveInt32 (step_move step) → AreMovesInt32 (map step_move after)
moves_pushed before after step is all small =
    subst (λ (steps : List Step). AreMovesInt32 (map step_move steps)) (sym is) (moves_more before step all small)

arms_more : (arms : List Block) (body : Block) → HaveInt32 (arms_of (map block_code arms)) → HasInt32 (block_code body)
    → HaveInt32 (arms_of (map block_code (arms ++ body ∷ [])))
arms_more [] body all is = (is, tt)
arms_more (one ∷ arms) body all is = (all.0, arms_more arms body all.1 is)

pub arms_pushed : (before after : List Block) (body : Block) → after ≡ before ++ body ∷ []
    → HaveInt32 (arms_of (map block_code before)) → HasInt32 (block_code body) → HaveInt32 (arms_of (map block_code after))
arms_pushed before after body is all small =
    subst (λ (arms : List Block). HaveInt32 (arms_of (map block_code arms))) (sym is) (arms_more before body all small)

pub no_functions : AllHaveInt32 []
no_functions f function there = absurd (cc)

functions_more : (functions : List CountedFun) (fun : CountedFun) → AllHaveInt32 (map function_of functions)
    → HasInt32 (block_code fun.body) → AllHaveInt32 (map function_of (functions ++ fun ∷ []))
functions_more [] fun all is zero function there = subst (λ (one : CountedFunction). HasInt32 one.body) (inner there) is
  where
    inner : Some (function_of fun) ≡ Some function → function_of fun ≡ function
    inner same = cc
functions_more [] fun all is (suc f) function there = absurd (cc)
functions_more (one ∷ functions) fun all is zero function there = all zero function there
functions_more (one ∷ functions) fun all is (suc f) function there =
    functions_more functions fun (λ g other known. all (suc g) other known) is f function there

pub functions_pushed : (before after : List CountedFun) (fun : CountedFun) → after ≡ before ++ fun ∷ []
    → AllHaveInt32 (map function_of before) → HasInt32 (block_code fun.body) → AllHaveInt32 (map function_of after)
functions_pushed before after fun is all small =
    subst (λ (functions : List CountedFun). AllHaveInt32 (map function_of functions)) (sym is)
    (functions_more before fun all small)

pub one_longer : {A : Type 0} (before after : List A) (one : A) (n : ℕ) → after ≡ before ++ one ∷ [] → length before ≡ n
    → length after ≡ n + 1
one_longer before after one n is long =
    let all = ap length is in let both = length-append before (one ∷ []) in omega (arith, all, both, long)
