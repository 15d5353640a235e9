-- What can follow in a block, as its steps and its arms are walked over.
use Rattle.std.proofs.Common.{◌≡◌, ◌≤◌, ◌<◌, ◌+◌, ℕ, Bool, true, List, ◌∷◌, map, length, drop, get_or, Result, Ok, Err, sym, ap, ◌∙◌, arith}
use Rattle.std.specs.Prelude.{max, IfOk}
use Rattle.std.proofs.Math.ListN.{drop_of_length-le}
use Rattle.std.proofs.lemmas.List.{drop_more}
use Rattle.kk_counted.specs.declared.form.Block.{Block}
use Rattle.kk_counted.specs.declared.form.Last.TheVariants as OfLast
use Rattle.kk_counted.specs.declared.form.Step.{Step}
use Rattle.kk_counted.specs.CountedCodes.{Counted}
use Rattle.kk_counted.specs.CountedForms.{plug, arms_of, block_code, last_code, step_move}
use Rattle.kk_counted.proofs.FormViews.{block_is}
use Rattle.kk_reuse.specs.Following.{may_make, kept, leaves, arms_leave}
use Rattle.kk_reuse.specs.PairedForms.{moves_may_make, left_behind}
use Rattle.kk_reuse.proofs.LaterForms.{leaves_kept, leaves_put, may_make_plug}

pub one_dropped : {A : Type 0} (xs : List A) (i : ℕ) (item : A) → i < length xs → item ≡ get_or xs i item
    → drop i xs ≡ item ∷ drop (i + 1) xs
one_dropped xs i item less is = drop_more xs i item less ∙ ap (λ y. y ∷ drop (i + 1) xs) (sym is)

pub step_leaves : (steps : List Step) (i n after total : ℕ) (step : Step) (last : Counted) → i < length steps
    → step ≡ get_or steps i step → after ≡ left_behind n (step_move step)
    → leaves true n (plug (map step_move (drop i steps)) last) ≡ total
    → leaves true after (plug (map step_move (drop (i + 1) steps)) last) ≡ total
step_leaves steps i n after total step last less is here so_far =
    ap (λ k. leaves true k (plug (map step_move (drop (i + 1) steps)) last)) here
    ∙ sym (leaves_put (step_move step) (plug (map step_move (drop (i + 1) steps)) last) n)
    ∙ sym (ap (λ xs. leaves true n (plug (map step_move xs) last)) (one_dropped steps i step less is)) ∙ so_far

-- the greater of what the arms so far leave and what the others do
one_more_most : (most leaf next here rest all total : ℕ) → all ≡ max here rest → here ≡ leaf → next ≡ max leaf most
    → max most all ≡ total → max next rest ≡ total
one_more_most most leaf next here rest all total split same grown so_far = omega (arith, split, same, grown, so_far)

pub arm_leaves : (n most leaf next total : ℕ) (arms : List Block) (i : ℕ) (item : Block) → i < length arms
    → item ≡ get_or arms i item → leaf ≡ leaves true n (block_code item) → next ≡ max leaf most
    → max most (arms_leave true n (arms_of (map block_code (drop i arms)))) ≡ total
    → max next (arms_leave true n (arms_of (map block_code (drop (i + 1) arms)))) ≡ total
arm_leaves n most leaf next total arms i item less is here grown so_far =
    one_more_most most leaf next (leaves true (kept true (block_code item) n) (block_code item))
    (arms_leave true n (arms_of (map block_code (drop (i + 1) arms)))) (arms_leave true n
    (arms_of (map block_code (drop i arms)))) total
    (ap (λ xs. arms_leave true n (arms_of (map block_code xs))) (one_dropped arms i item less is))
    (leaves_kept (block_code item) n ∙ sym here) grown so_far

pub block_leaves : (n left : ℕ) (block : Block) (items : List Step) (i : ℕ) → items ≡ block.steps.items → length items ≤ i
    → leaves true left (plug (map step_move (drop i items)) (last_code block.last))
    ≡ leaves true n (plug (map step_move items) (last_code block.last))
    → (past : ℕ) → past ≡ leaves true left (last_code block.last) → past ≡ leaves true n (block_code block)
block_leaves n left block items i is all so_far past here =
    here ∙ sym (ap (λ xs. leaves true left (plug (map step_move xs) (last_code block.last))) (drop_of_length-le items all))
    ∙ so_far ∙ ap (λ xs. leaves true n (plug (map step_move xs) (last_code block.last))) is ∙ sym (ap (leaves true n)
    (block_is block))

pub block_may_make : (b : Bool) (block : Block)
    → may_make b (block_code block) ≡ moves_may_make (may_make b (last_code block.last)) (map step_move block.steps.items)
block_may_make b block =
    ap (may_make b) (block_is block) ∙ may_make_plug b (map step_move block.steps.items) (last_code block.last)

-- ---- results

pub also : {T E : Type 0} (result : Result T E) {P Q : T → Type 0} → IfOk result P → ((x : T) → P x → Q x) → IfOk result Q
also (Ok x) holds follows = follows x holds
also (Err e) holds follows = holds
