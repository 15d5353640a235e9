-- Respecialised code as its steps, its arms and its end are marked.
use Rattle.std.proofs.Common.{◌≡◌, ◌≤◌, ◌<◌, ◌+◌, ℕ, List, [], ◌∷◌, ◌++◌, map, length, take, drop, get_or, refl, sym, ap, ◌∙◌, arith}
use Rattle.std.proofs.lemmas.List.{take_more_set, drop-set-lt, with_items_is}
use Rattle.std.proofs.Math.ListN.{set, drop_of_length-le}
use Rattle.std.proofs.Math.Seq.{take_all}
use Rattle.std.specs.Vec.{with_items}
use Rattle.kk_counted.specs.declared.tokened.TokenedBlock.{TokenedBlock, roll-TokenedBlock}
use Rattle.kk_counted.specs.declared.tokened.TokenedLast.{TokenedLast}
use Rattle.kk_counted.specs.declared.tokened.TokenedStep.{TokenedStep}
use Rattle.kk_counted.specs.KeptFields.{KnownFields}
use Rattle.kk_counted.specs.TokenedCodes.{Tokened, TokenedArms}
use Rattle.kk_counted.specs.TokenedForms.{TokenedMove, put_tokened, plug_tokened, put_steps, tokened_arms, tokened_code, tokened_last_code, tokened_move}
use Rattle.kk_counted.proofs.TokenedViews.{tokened_block_is, step_pushed}
use Rattle.kk_reuse.proofs.Walks.{one_dropped}
use Rattle.kk_respec.specs.Respecialised.{respec, respec_arms}
use Rattle.kk_respec.specs.RespecialisedForms.{respec_move, known_behind}

-- ---- steps

respec_put : (known : List KnownFields) (move : TokenedMove) (rest : Tokened)
    → respec known (put_tokened move rest) ≡ put_tokened (respec_move known move) (respec (known_behind known move) rest)
respec_put known (TokenedMove.computes x form arguments others) rest = refl
respec_put known (TokenedMove.runs x block) rest = refl
respec_put known (TokenedMove.reads x c fields) rest = refl
respec_put known (TokenedMove.opens x c fields used y) rest = refl
respec_put known (TokenedMove.opens_unique x c fields used y) rest = refl
respec_put known (TokenedMove.dups x) rest = refl
respec_put known (TokenedMove.drops x) rest = refl
respec_put known (TokenedMove.fills x y c first arguments kept others) rest = refl
respec_put known (TokenedMove.frees y) rest = refl
respec_put known (TokenedMove.nulls y) rest = refl
respec_put known (TokenedMove.moves to of) rest = refl
respec_put known (TokenedMove.holds y) rest = refl
respec_put known (TokenedMove.unholds y) rest = refl

-- a step is marked, behind others
pub step_written : (known behind : List KnownFields) (before after : List TokenedStep) (made step : TokenedStep)
    (steps : List TokenedStep) (i : ℕ) (last total : Tokened)
    → i < length steps → step ≡ get_or steps i step → after ≡ before ++ made ∷ []
    → tokened_move made ≡ respec_move known (tokened_move step) → behind ≡ known_behind known (tokened_move step)
    → put_steps before (respec known (plug_tokened (map tokened_move (drop i steps)) last)) ≡ total
    → put_steps after (respec behind (plug_tokened (map tokened_move (drop (i + 1) steps)) last)) ≡ total
step_written known behind before after made step steps i last total less is grown same learned so_far =
    step_pushed before after made (respec_move known (tokened_move step)) grown same (respec behind rest)
    ∙ ap (λ others. put_steps before (put_tokened (respec_move known (tokened_move step)) (respec others rest))) learned
    ∙ ap (put_steps before) (sym (respec_put known (tokened_move step) rest))
    ∙ sym (ap (λ xs. put_steps before (respec known (plug_tokened (map tokened_move xs) last))) (one_dropped steps i step less is))
    ∙ so_far
  where
    rest : Tokened
    rest = plug_tokened (map tokened_move (drop (i + 1) steps)) last

-- what is known behind a step is the same where it is marked
behind_marked : (known : List KnownFields) (move : TokenedMove)
    → known_behind known (respec_move known move) ≡ known_behind known move
behind_marked known (TokenedMove.computes x form arguments others) = refl
behind_marked known (TokenedMove.runs x block) = refl
behind_marked known (TokenedMove.reads x c fields) = refl
behind_marked known (TokenedMove.opens x c fields used y) = refl
behind_marked known (TokenedMove.opens_unique x c fields used y) = refl
behind_marked known (TokenedMove.dups x) = refl
behind_marked known (TokenedMove.drops x) = refl
behind_marked known (TokenedMove.fills x y c first arguments kept others) = refl
behind_marked known (TokenedMove.frees y) = refl
behind_marked known (TokenedMove.nulls y) = refl
behind_marked known (TokenedMove.moves to of) = refl
behind_marked known (TokenedMove.holds y) = refl
behind_marked known (TokenedMove.unholds y) = refl

-- a step is marked in its place
pub step_marked : (known behind : List KnownFields) (steps : List TokenedStep) (made step : TokenedStep) (i : ℕ)
    (last total : Tokened)
    → i < length steps → step ≡ get_or steps i step
    → tokened_move made ≡ respec_move known (tokened_move step) → behind ≡ known_behind known (tokened_move made)
    → put_steps (take i steps) (respec known (plug_tokened (map tokened_move (drop i steps)) last)) ≡ total
    → put_steps (take (i + 1) (set steps i made))
    (respec behind (plug_tokened (map tokened_move (drop (i + 1) (set steps i made))) last)) ≡ total
step_marked known behind steps made step i last total less is same learned so_far =
    ap (λ xs. put_steps xs (respec behind (plug_tokened (map tokened_move (drop (i + 1) (set steps i made))) last)))
    (take_more_set steps i made less)
    ∙ ap (λ xs. put_steps (take i steps ++ made ∷ []) (respec behind (plug_tokened (map tokened_move xs) last)))
    (drop-set-lt (i + 1) steps i made (omega arith))
    ∙ step_written known behind (take i steps) (take i steps ++ made ∷ []) made step steps i last total less is refl same
    (learned ∙ (ap (known_behind known) same ∙ behind_marked known (tokened_move step))) so_far

-- the steps of a block are marked, and its end
pub block_marked : (known : List KnownFields) (block : TokenedBlock) (items : List TokenedStep) (end : TokenedLast) (i : ℕ)
    (total : Tokened)
    → length items ≡ block.steps.len → length items ≤ i
    → put_steps (take i items) (respec known (plug_tokened (map tokened_move (drop i items)) (tokened_last_code block.last)))
    ≡ total
    → tokened_last_code end ≡ respec known (tokened_last_code block.last)
    → tokened_code (roll-TokenedBlock (record { steps = with_items block.steps items; last = end })) ≡ total
block_marked known block items end i total many all so_far marked =
    tokened_block_is (roll-TokenedBlock (record { steps = with_items block.steps items; last = end }))
    ∙ ap (λ xs. put_steps xs (tokened_last_code end)) (with_items_is block.steps items many)
    ∙ ap (put_steps items) marked
    ∙ sym (ap (λ xs. put_steps xs (respec known (tokened_last_code block.last))) (take_all i items all))
    ∙ sym (ap (λ xs. put_steps (take i items) (respec known (plug_tokened (map tokened_move xs) (tokened_last_code block.last))))
    (drop_of_length-le items all))
    ∙ so_far

-- ---- arms

arms_respec : (known : List KnownFields) (codes : List Tokened)
    → tokened_arms (map (respec known) codes) ≡ respec_arms known (tokened_arms codes)
arms_respec known [] = refl
arms_respec known (code ∷ codes) = ap (TokenedArms.arm (respec known code)) (arms_respec known codes)

pub arms_marked : (known : List KnownFields) (items arms : List TokenedBlock) (i : ℕ) → length items ≤ i → length arms ≤ i
    → map tokened_code (take i items) ≡ map (respec known) (map tokened_code (take i arms))
    → tokened_arms (map tokened_code items) ≡ respec_arms known (tokened_arms (map tokened_code arms))
arms_marked known items arms i all each so_far =
    ap (λ xs. tokened_arms (map tokened_code xs)) (sym (take_all i items all))
    ∙ ap tokened_arms so_far
    ∙ ap (λ xs. tokened_arms (map (respec known) (map tokened_code xs))) (take_all i arms each)
    ∙ arms_respec known (map tokened_code arms)
