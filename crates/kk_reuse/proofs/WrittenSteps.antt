-- Steps with their tokens, as they are written one behind the other.
use Rattle.std.proofs.Common.{◌≡◌, ◌≤◌, ◌<◌, ℕ, suc, ◌+◌, ◌-◌, ◌&&◌, Bool, true, false, Result, Ok, Err, List, [], ◌∷◌, ◌++◌, map, length, take, drop, get_or, append-nil, length-drop, refl, sym, ap, subst, ◌∙◌, arith, append_assoc}
use Rattle.std.specs.Prelude.{if◌then◌else◌, OnOk}
use Rattle.std.proofs.lemmas.List.{map-append}
use Rattle.std.proofs.Math.ListN.{drop_of_length-le}
use Rattle.std.proofs.Math.Seq.{take_all}
use Rattle.std.specs.Global.{Vec}
use Rattle.kk_syntax.specs.declared.program.Form.{Form}
use Rattle.kk_syntax.specs.declared.program.Form.TheVariants.{Construct, Call}
use Rattle.kk_counted.specs.declared.counted.CountedFun.{CountedFun}
use Rattle.kk_counted.specs.declared.form.Block.{Block}
use Rattle.kk_counted.specs.declared.form.Last.{Last}
use Rattle.kk_counted.specs.declared.form.Last.TheFolds.{fold-roll-Step, fold_out-Last}
use Rattle.kk_counted.specs.declared.form.Last.TheOpen.{Last-F, Return, TailCall, Case}
use Rattle.kk_counted.specs.declared.form.Step.{Step}
use Rattle.kk_counted.specs.declared.form.Step.TheVariants as OfPlain
use Rattle.kk_counted.specs.declared.tokened.TokenedBlock.{TokenedBlock}
use Rattle.kk_counted.specs.declared.tokened.TokenedFun.{TokenedFun}
use Rattle.kk_counted.specs.declared.tokened.TokenedStep.{TokenedStep}
use Rattle.kk_counted.specs.declared.tokened.TokenedStep.TheVariants as OfStep
use Rattle.kk_counted.specs.CountedCodes.{Counted}
use Rattle.kk_counted.specs.CountedForms.{Move, computes, runs, reads, opens, opens_unique, dups, drops, plug, block_code, last_code, step_move, last_step, step_step, block_step}
use Rattle.kk_counted.specs.Programs.{function_of, program_of}
use Rattle.kk_counted.specs.TokenedCodes.{Tokened, TokenedFunction, TokenedProgram}
use Rattle.kk_counted.specs.TokenedForms.{TokenedMove, put_tokened, put_steps, tokened_code, tokened_last_code, tokened_move, tokened_function, tokened_program, fills_with}
use Rattle.kk_counted.proofs.FormViews.{block_is, step_read, step_open, step_dup, step_drop}
use Rattle.kk_counted.proofs.TokenedViews.{tokened_block_is, step_pushed, let_step, inside_step, dup_step, drop_step}
use Rattle.kk_reuse.specs.Following.{may_make, kept, leaves}
use Rattle.kk_reuse.specs.Pairing.{slots_below, frees, paired_form, paired, paired_function, paired_program}
use Rattle.kk_reuse.specs.PairedForms.{is_call, move_is_call, move_is_drop, lead_to_call, leads_to_call, stay_held, held_before, held_behind}
use Rattle.kk_reuse.specs.PairedForms.{moves_may_make, paired_block, paired_move, tokens_behind, written_form}
use Rattle.kk_reuse.proofs.LaterForms.{leaves_kept, may_make_plug, none_behind}
use Rattle.kk_reuse.proofs.Steps.{IsHeldAt, step_paired}
use Rattle.kk_reuse.proofs.TakenBack.{held_still}
use Rattle.kk_reuse.proofs.Walks.{one_dropped}

pub on_ok : {T E : Type 0} (result : Result T E) {P Q : Type 0} → OnOk result P → (P → Q) → OnOk result Q
on_ok (Ok x) holds follows = follows holds
on_ok (Err e) holds follows = holds

-- a part of a list up to its end
pub to_end : {A : Type 0} (xs : List A) (k : ℕ) → take (length xs - k) (drop k xs) ≡ drop k xs
to_end xs k = take_all (length xs - k) (drop k xs) (omega (arith, length-drop k xs))

-- ---- forms on variables

pub let_written : (before after : List TokenedStep) (x : ℕ) (form : Form) (arguments others : Vec ℕ) (given : List ℕ)
    → after ≡ before ++ OfStep.Let x form arguments others ∷ [] → arguments.items ≡ given → others.items ≡ []
    → (rest : Tokened) → put_steps after rest ≡ put_steps before (Tokened.compute x form given [] rest)
let_written before after x form arguments others given grown same none rest =
    step_pushed before after _ _ grown (let_step x form arguments others) rest
    ∙ ap (λ xs. put_steps before (Tokened.compute x form xs others.items rest)) same
    ∙ ap (λ xs. put_steps before (Tokened.compute x form given xs rest)) none

filled : (n slot x c : ℕ) (form : Form) (given : List ℕ) (rest : Tokened) → n ≡ slot + 1 → form ≡ Construct c → 1 ≤ length given
    → put_tokened (fills_with x slot c given [] (slots_below slot)) rest ≡ paired_form n x form given rest
filled n slot x c form [] rest one is some = absurd (omega (arith, some))
filled n slot x c form (y ∷ ys) rest one is some =
    sym (ap (λ k. paired_form k x form (y ∷ ys) rest) {x = n} {y = suc slot} (omega (arith, one))
    ∙ ap (λ f. paired_form (suc slot) x f (y ∷ ys) rest) is)

pub fill_written : (before after : List TokenedStep) (n slot x c : ℕ) (form : Form) (made : TokenedStep) (given kept others : List ℕ)
    → after ≡ before ++ made ∷ [] → n ≡ slot + 1 → form ≡ Construct c → 1 ≤ length given → kept ≡ []
    → others ≡ slots_below slot → tokened_move made ≡ fills_with x slot c given kept others
    → (rest : Tokened) → put_steps after rest ≡ put_steps before (paired_form n x form given rest)
fill_written before after n slot x c form made given kept others grown one is some none all same rest =
    step_pushed before after made _ grown same rest
    ∙ ap (λ xs. put_steps before (put_tokened (fills_with x slot c given xs others) rest)) none
    ∙ ap (λ xs. put_steps before (put_tokened (fills_with x slot c given [] xs) rest)) all
    ∙ ap (put_steps before) (filled n slot x c form given rest one is some)

-- a form that is no call is written as it is paired
pub form_written : (before after : List TokenedStep) (already stays : Bool) (n x : ℕ) (form : Form) (given : List ℕ)
    → is_call form ≡ false → ((rest : Tokened) → put_steps after rest ≡ put_steps before (paired_form n x form given rest))
    → (rest : Tokened) → put_steps after rest ≡ put_steps before (written_form already stays n x form given rest)
form_written before after already stays n x form given none written rest =
    written rest ∙ sym (ap (λ c. put_steps before
    (if c then held_before already n (Tokened.compute x form given [] (held_behind stays n rest))
    else paired_form n x form given rest)) none)

pub call_written : (before held middle after : List TokenedStep) (already stays : Bool) (n x f : ℕ) (form : Form) (given : List ℕ)
    → form ≡ Call f
    → ((rest : Tokened) → put_steps held rest ≡ put_steps before (held_before already n rest))
    → ((rest : Tokened) → put_steps middle rest ≡ put_steps held (Tokened.compute x form given [] rest))
    → ((rest : Tokened) → put_steps after rest ≡ put_steps middle (held_behind stays n rest))
    → (rest : Tokened) → put_steps after rest ≡ put_steps before (written_form already stays n x form given rest)
call_written before held middle after already stays n x f form given is first second third rest =
    third rest ∙ second (held_behind stays n rest) ∙ first (Tokened.compute x form given [] (held_behind stays n rest))
    ∙ sym (ap (λ c. put_steps before
    (if c then held_before already n (Tokened.compute x form given [] (held_behind stays n rest))
    else paired_form n x form given rest)) (ap is_call is))

-- ---- the steps of a block

-- steps in front of a code that leads to no call lead to one where the code does that they make
first_call : (moves : List Move) (last : Counted) → leads_to_call last ≡ false → leads_to_call (plug moves last) ≡ lead_to_call moves
first_call [] last none = none
first_call (drops x ∷ moves) last none = first_call moves last none
first_call (computes x form arguments ∷ moves) last none = refl
first_call (runs x block ∷ moves) last none = refl
first_call (reads x c fields ∷ moves) last none = refl
first_call (opens x c fields used ∷ moves) last none = refl
first_call (opens_unique x c fields used ∷ moves) last none = refl
first_call (dups x ∷ moves) last none = refl

-- the end of a block leads to no call
last_is_none : (last : Last) → leads_to_call (last_code last) ≡ false
last_is_none last =
    ap leads_to_call (fold_out-Last Counted Move Counted last_step step_step block_step last) ∙ none _
  where
    none : (last : Last-F Counted Move Counted) → leads_to_call (last_step last) ≡ false
    none (Return x) = refl
    none (TailCall f arguments) = refl
    none (Case x decisions arms) = refl

-- Steps and the end of a block are still to be written with so many tokens: whether those are held already, on the way to a call.
pub record IsLeft (b already : Bool) (l n : ℕ) (moves : List Move) (last : Counted) (before : List TokenedStep) (total : Tokened)
    : Type 0 where
  pub code : put_steps before (held_still already n (paired b l n (plug moves last))) ≡ total
  pub held : already ≡ true → (leads_to_call (plug moves last) ≡ true) × (may_make b (plug moves last) ≡ true)

-- where tokens stay held behind a step, code comes that leads to a call in front of which they are kept
held_on : (b already : Bool) (move : Move) (rest : Counted) → (already ≡ true → IsHeldAt b move rest)
    → (if move_is_drop move then already else may_make b rest && (move_is_call move && leads_to_call rest)) ≡ true
    → (leads_to_call rest ≡ true) × (may_make b rest ≡ true)
held_on b already (drops x) rest at stays = at stays
held_on b already (computes x form arguments) rest at stays = both (may_make b rest) (is_call form) (leads_to_call rest) stays
  where
    both : (makes call next : Bool) → (makes && (call && next)) ≡ true → (next ≡ true) × (makes ≡ true)
    both true true next is = (is, refl)
    both true false next is = absurd (cc)
    both false call next is = absurd (cc)
held_on b already move rest at stays = none (may_make b rest) stays
  where
    none : {P : Type 0} (makes : Bool) → (makes && false) ≡ true → P
    none true is = absurd (cc)
    none false is = absurd (cc)

-- a block is begun: its tokens are freed first where they are not kept
pub block_begun : (b makes : Bool) (l n tokens : ℕ) (block : Block) (start new : List TokenedStep) → start ≡ []
    → makes ≡ may_make b (block_code block) → tokens ≡ (if makes then n else 0)
    → ((rest : Tokened) → put_steps new rest ≡ put_steps start (if makes then rest else frees n rest))
    → IsLeft b false l tokens (map step_move (drop 0 block.steps.items)) (last_code block.last) new
    (paired_block b l n (block_code block))
block_begun b makes l n tokens block start new none may left written =
    record {
      code = written (paired b l tokens code)
          ∙ ap (λ xs. put_steps xs (if makes then paired b l tokens code else frees n (paired b l tokens code))) none
          ∙ ap (λ k. if makes then paired b l k code else frees n (paired b l k code)) left
          ∙ ap (λ m. if m then paired b l (if m then n else 0) code else frees n (paired b l (if m then n else 0) code)) may
          ∙ ap (λ c. if may_make b whole then paired b l (if may_make b whole then n else 0) c
          else frees n (paired b l (if may_make b whole then n else 0) c)) (sym (block_is block));
      held = λ there. absurd (cc);
    }
  where
    whole : Counted
    whole = block_code block

    code : Counted
    code = plug (map step_move block.steps.items) (last_code block.last)

-- a step is written, and those tokens are freed that are not kept behind it
pub one_written : (b makes already stays : Bool) (l n behind after i : ℕ) (steps : List Step) (step : Step) (last : Last)
    (total : Tokened) (old middle new : List TokenedStep) → i < length steps → step ≡ get_or steps i step
    → makes ≡ moves_may_make (may_make b (last_code last)) (map step_move (drop (i + 1) steps))
    → stays ≡ stay_held makes already (step_move step) (map step_move (drop (i + 1) steps))
    → behind ≡ tokens_behind makes n (step_move step) → after ≡ (if makes then behind else 0)
    → ((code : Tokened) → put_steps middle code ≡ put_steps old (paired_move already stays makes n (step_move step) code))
    → ((code : Tokened) → put_steps new code ≡ put_steps middle (if makes then code else frees behind code))
    → IsLeft b already l n (map step_move (drop i steps)) (last_code last) old total
    → IsLeft b stays l after (map step_move (drop (i + 1) steps)) (last_code last) new total
one_written b makes already stays l n behind after i steps step last total old middle new less is may held many left written
    settled_too so_far =
    let moves : List Move = map step_move (drop (i + 1) steps) in
    let move : Move = step_move step in
    let rest : Counted = plug moves (last_code last) in
    let first : map step_move (drop i steps) ≡ move ∷ moves = ap (map step_move) (one_dropped steps i step less is) in
    let here : already ≡ true → IsHeldAt b move rest
    = λ there. subst (λ xs. (leads_to_call (plug xs (last_code last)) ≡ true) × (may_make b (plug xs (last_code last)) ≡ true)) first
    (so_far.held there) in
    let makes_is : makes ≡ may_make b rest = may ∙ sym (may_make_plug b moves (last_code last)) in
    let stays_is : stays ≡ (if move_is_drop move then already else makes && (move_is_call move && leads_to_call rest))
    = held ∙ sym (ap (λ c. if move_is_drop move then already else makes && (move_is_call move && c))
    (first_call moves (last_code last) (last_is_none last))) in
    record {
      code = step_paired b makes already stays l n behind after move rest old middle new here makes_is stays_is many left written
          settled_too
          ∙ sym (ap (λ xs. put_steps old (held_still already n (paired b l n (plug xs (last_code last))))) first) ∙ so_far.code;
      held = λ there. held_on b already move rest here
          (sym (ap (λ m. if move_is_drop move then already else m && (move_is_call move && leads_to_call rest)) makes_is)
          ∙ (sym stays_is ∙ there));
    }

-- the steps of a block are written, and its end
pub block_written : (b already : Bool) (l tokens i : ℕ) (block : Block) (items : List Step) (made : TokenedBlock)
    (before : List TokenedStep)
    (total : Tokened) → items ≡ block.steps.items → length items ≤ i
    → IsLeft b already l tokens (map step_move (drop i block.steps.items)) (last_code block.last) before total
    → put_steps made.steps.items (tokened_last_code made.last) ≡ put_steps before (paired b l tokens (last_code block.last))
    → tokened_code made ≡ total
block_written b already l tokens i block items made before total is all so_far end =
    tokened_block_is made ∙ end
    ∙ sym (ap (λ held. put_steps before (held_still held tokens (paired b l tokens (last_code block.last)))) (unheld already so_far.held))
    ∙ sym (ap (λ xs. put_steps before (held_still already tokens (paired b l tokens (plug (map step_move xs) (last_code block.last)))))
    gone)
    ∙ so_far.code
  where
    last : Counted
    last = last_code block.last

    gone : drop i block.steps.items ≡ []
    gone = ap (drop i) (sym is) ∙ drop_of_length-le items all

    unheld : (held : Bool) → (held ≡ true → (leads_to_call (plug (map step_move (drop i block.steps.items)) last) ≡ true)
        × (may_make b (plug (map step_move (drop i block.steps.items)) last) ≡ true)) → held ≡ false
    unheld true only =
        let call : true ≡ false
        = sym (only refl).0 ∙ ap (λ xs. leads_to_call (plug (map step_move xs) last)) gone ∙ last_is_none block.last in
        absurd (cc)
    unheld false only = refl

-- ---- other steps

written : (before after : List TokenedStep) (made : TokenedStep) (step : Step) (tokened : TokenedMove) (move : Move) (already stays makes : Bool)
    (n : ℕ)
    → after ≡ before ++ made ∷ [] → tokened_move made ≡ tokened → step_move step ≡ move
    → ((rest : Tokened) → put_tokened tokened rest ≡ paired_move already stays makes n move rest)
    → (rest : Tokened) → put_steps after rest ≡ put_steps before (paired_move already stays makes n (step_move step) rest)
written before after made step tokened move already stays makes n grown is of same rest =
    step_pushed before after made tokened grown is rest
    ∙ ap (put_steps before) (same rest ∙ ap (λ m. paired_move already stays makes n m rest) (sym of))

step_if_unique : (x c : ℕ) (fields used : Vec ℕ)
    → step_move (OfPlain.IfUnique x c fields used) ≡ opens_unique x c fields.items used.items
step_if_unique x c fields used =
    ap step_move (sym (OfPlain.rolls-IfUnique x c fields used))
    ∙ fold-roll-Step Counted Move Counted last_step step_step block_step _

pub read_written : (before after : List TokenedStep) (step : Step) (made : TokenedStep) (already stays makes : Bool) (n x c : ℕ) (fields : Vec ℕ)
    → step ≡ OfPlain.Read x c fields → tokened_move made ≡ TokenedMove.reads x c fields.items → after ≡ before ++ made ∷ []
    → (rest : Tokened) → put_steps after rest ≡ put_steps before (paired_move already stays makes n (step_move step) rest)
read_written before after step made already stays makes n x c fields is same grown =
    written before after made step _ _ already stays makes n grown same (ap step_move is ∙ step_read x c fields) (λ rest. refl)

pub open_written : (before after : List TokenedStep) (step : Step) (made : TokenedStep) (already stays makes : Bool) (n x c : ℕ)
    (fields used : Vec ℕ) → step ≡ OfPlain.Open x c fields used
    → tokened_move made ≡ TokenedMove.opens x c fields.items used.items n → after ≡ before ++ made ∷ []
    → (rest : Tokened) → put_steps after rest ≡ put_steps before (paired_move already stays makes n (step_move step) rest)
open_written before after step made already stays makes n x c fields used is same grown =
    written before after made step _ _ already stays makes n grown same (ap step_move is ∙ step_open x c fields used) (λ rest. refl)

pub if_unique_written : (before after : List TokenedStep) (step : Step) (made : TokenedStep) (already stays makes : Bool) (n x c : ℕ)
    (fields used : Vec ℕ) → step ≡ OfPlain.IfUnique x c fields used
    → tokened_move made ≡ TokenedMove.opens_unique x c fields.items used.items n → after ≡ before ++ made ∷ []
    → (rest : Tokened) → put_steps after rest ≡ put_steps before (paired_move already stays makes n (step_move step) rest)
if_unique_written before after step made already stays makes n x c fields used is same grown =
    written before after made step _ _ already stays makes n grown same (ap step_move is ∙ step_if_unique x c fields used) (λ rest. refl)

pub dup_written : (before after : List TokenedStep) (step : Step) (already stays makes : Bool) (n x : ℕ) → step ≡ OfPlain.Dup x
    → after ≡ before ++ OfStep.Dup x ∷ []
    → (rest : Tokened) → put_steps after rest ≡ put_steps before (paired_move already stays makes n (step_move step) rest)
dup_written before after step already stays makes n x is grown =
    written before after _ step _ _ already stays makes n grown (dup_step x) (ap step_move is ∙ step_dup x) (λ rest. refl)

pub drop_written : (before after : List TokenedStep) (step : Step) (already stays makes : Bool) (n x : ℕ) → step ≡ OfPlain.Drop x
    → after ≡ before ++ OfStep.Drop x ∷ []
    → (rest : Tokened) → put_steps after rest ≡ put_steps before (paired_move already stays makes n (step_move step) rest)
drop_written before after step already stays makes n x is grown =
    written before after _ step _ _ already stays makes n grown (drop_step x) (ap step_move is ∙ step_drop x) (λ rest. refl)

-- ---- blocks inside

pub left_of_some : (makes : Bool) (n left : ℕ) (block : Counted) → makes ≡ true → left ≡ leaves true n block
    → left ≡ leaves makes (kept makes block n) block
left_of_some makes n left block is same =
    same ∙ sym (leaves_kept block n) ∙ sym (ap (λ b. leaves b (kept b block n) block) is)

pub left_of_none : (makes : Bool) (n left : ℕ) (block : Counted) → makes ≡ false → left ≡ 0
    → left ≡ leaves makes (kept makes block n) block
left_of_none makes n left block is none =
    none ∙ sym (none_behind block n) ∙ sym (ap (λ b. leaves b (kept b block n) block) is)

pub inside_written : (before after : List TokenedStep) (makes : Bool) (n x left : ℕ) (block : Counted) (made : TokenedBlock)
    → after ≡ before ++ OfStep.Inside x made ∷ [] → left ≡ leaves makes (kept makes block n) block
    → tokened_code made ≡ paired_block makes left n block
    → (rest : Tokened) → put_steps after rest
    ≡ put_steps before (Tokened.inside x (paired_block makes (leaves makes (kept makes block n) block) n block) rest)
inside_written before after makes n x left block made grown is same rest =
    step_pushed before after _ _ grown (inside_step x made) rest
    ∙ ap (λ code. put_steps before (Tokened.inside x code rest)) (same ∙ ap (λ k. paired_block makes k n block) is)

-- ---- functions

pub whole : (code : Counted) → paired_block false 0 0 code ≡ paired false 0 0 code
whole code = by (may_make false code)
  where
    by : (b : Bool) → (if b then paired false 0 (if b then 0 else 0) code else frees 0 (paired false 0 (if b then 0 else 0) code))
        ≡ paired false 0 0 code
    by true = refl
    by false = refl

function_paired : (fun : TokenedFun) (of : CountedFun) → fun.parameters ≡ of.parameters
    → tokened_code fun.body ≡ paired_block false 0 0 (block_code of.body) → tokened_function fun ≡ paired_function (function_of of)
function_paired fun of many same =
    ap (λ n. with_body n (tokened_code fun.body)) many ∙ ap (with_body of.parameters) (same ∙ whole (block_code of.body))
  where
    with_body : ℕ → Tokened → TokenedFunction
    with_body n code = record { parameters = n; body = code }

pub function_written : (before after : List TokenedFun) (fun : TokenedFun) (functions : List CountedFun) (i : ℕ) (of : CountedFun)
    (total : List TokenedFunction) → i < length functions → of ≡ get_or functions i of → after ≡ before ++ fun ∷ []
    → fun.parameters ≡ of.parameters → tokened_code fun.body ≡ paired_block false 0 0 (block_code of.body)
    → map tokened_function before ++ map paired_function (map function_of (drop i functions)) ≡ total
    → map tokened_function after ++ map paired_function (map function_of (drop (i + 1) functions)) ≡ total
function_written before after fun functions i of total less is grown many same so_far =
    let later = map paired_function (map function_of (drop (i + 1) functions)) in
    ap (λ xs. map tokened_function xs ++ later) grown
    ∙ ap (λ xs. xs ++ later) (map-append tokened_function before (fun ∷ []))
    ∙ append_assoc (map tokened_function before) (tokened_function fun ∷ []) later
    ∙ ap (λ x. map tokened_function before ++ x ∷ later) (function_paired fun of many same)
    ∙ sym (ap (λ xs. map tokened_function before ++ map paired_function (map function_of xs)) (one_dropped functions i of less is))
    ∙ so_far

pub program_written : (made : List TokenedFun) (items functions : List CountedFun) (i : ℕ) (texts : List (List ℕ))
    → items ≡ functions
    → length items ≤ i
    → map tokened_function made ++ map paired_function (map function_of (drop i items)) ≡ map paired_function
    (map function_of items)
    → tokened_program made texts ≡ paired_program (program_of functions texts)
program_written made items functions i texts is all so_far =
    ap of (sym (append-nil (map tokened_function made))
    ∙ sym (ap (λ xs. map tokened_function made ++ map paired_function (map function_of xs)) (drop_of_length-le items all))
    ∙ so_far ∙ ap (λ xs. map paired_function (map function_of xs)) is)
  where
    of : List TokenedFunction → TokenedProgram
    of functions = record { functions = functions; texts = texts; main = 0 }
