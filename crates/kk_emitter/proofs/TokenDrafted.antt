-- What an emitter of code with tokens holds after a change of its branches, as the change of its draft.
use Rattle.std.proofs.Common.{◌≡◌, ℕ, Bool, List, [], ◌∷◌, ◌++◌, map, reverse, Option, None, refl, sym, ap, ◌∙◌}
use Rattle.std.specs.Prelude.{option_map}
use Rattle.std.specs.Global.{Vec}
use Rattle.kk_core.specs.Decisions.{NodeTree}
use Rattle.kk_counted.specs.declared.tokened.TokenedStep.{TokenedStep}
use Rattle.kk_emitter.specs.declared.work.Fork.{Fork}
use Rattle.kk_emitter.specs.declared.work.Work.{Work}
use Rattle.kk_counted.specs.TokenedCodes.{Tokened}
use Rattle.kk_counted.specs.TokenedForms.{TokenedMove, tokened_move, tokened_last_code}
use Rattle.kk_emitter.specs.TokenDrafts.{EndedArm, TokenSplit, TokenDraft, tokens_entered}
use Rattle.kk_emitter.specs.TokenDrafts.{tokens_entered_by, more_ended, tokens_ended_in}
use Rattle.kk_emitter.specs.TokenDrafts.{tokens_joined, tokens_joined_in, tokens_resumed}
use Rattle.kk_emitter.specs.Works.{items_of, back_to_front, token_split_of, token_draft}
use Rattle.kk_emitter.proofs.DraftChanges.{back_more}

-- drafts with equal parts are equal, and so are branches
pub same_tokens : (t : TokenDraft) (m m' : List TokenedMove) (s s' : List ℕ) (f f' : List TokenSplit) (e e' : Option Tokened)
    → m ≡ m' → s ≡ s' → f ≡ f' → e ≡ e'
    → record t { moves = m; spare = s; splits = f; ending = e } ≡ record t { moves = m'; spare = s'; splits = f'; ending = e' }
same_tokens t m m' s s' f f' e e' one two three four =
    ap (λ (z : List TokenedMove). record t { moves = z; spare = s; splits = f; ending = e }) one
    ∙ (ap (λ (z : List ℕ). record t { moves = m'; spare = z; splits = f; ending = e }) two
    ∙ (ap (λ (z : List TokenSplit). record t { moves = m'; spare = s'; splits = z; ending = e }) three
    ∙ ap (λ (z : Option Tokened). record t { moves = m'; spare = s'; splits = f'; ending = z }) four))

pub same_branch : (u : TokenSplit) (d d' : List NodeTree) (b b' : List TokenedMove) (k k' : List ℕ) (l l' : List (List ℕ)) (a a' : List EndedArm) → d ≡ d' → b ≡ b' → k ≡ k' → l ≡ l' → a ≡ a'
    → record u { decisions = d; before = b; each = k; left = l; arms = a } ≡ record u { decisions = d'; before = b'; each = k'; left = l'; arms = a' }
same_branch u d d' b b' k k' l l' a a' one two three four five =
    ap (λ z. record u { decisions = z; before = b; each = k; left = l; arms = a }) one
    ∙ (ap (λ z. record u { decisions = d'; before = z; each = k; left = l; arms = a }) two
    ∙ (ap (λ z. record u { decisions = d'; before = b'; each = z; left = l; arms = a }) three
    ∙ (ap (λ z. record u { decisions = d'; before = b'; each = k'; left = z; arms = a }) four
    ∙ ap (λ z. record u { decisions = d'; before = b'; each = k'; left = l'; arms = z }) five)))

-- the newest branch
pub branches_are : (forks rest : List Fork) (fork : Fork) (branch : TokenSplit) → forks ≡ rest ++ fork ∷ []
    → token_split_of fork ≡ branch
    → back_to_front token_split_of forks [] ≡ branch ∷ back_to_front token_split_of rest []
branches_are forks rest fork branch is same =
    ap (λ fs. back_to_front token_split_of fs []) is ∙ (back_more token_split_of rest fork [] ∙ ap (λ s. s ∷ back_to_front token_split_of rest []) same)

pub branch_begun : (old : Work) (forks : Vec Fork) (steps : Vec TokenedStep) (spare : Vec ℕ) (fork : Fork) (branch : TokenSplit) → forks.items ≡ old.forks.items ++ fork ∷ [] → token_split_of fork ≡ branch
    → steps.items ≡ [] → spare.items ≡ []
    → token_draft (record old { steps = steps; spare = spare; forks = forks }) ≡ record (token_draft old) { moves = []; spare = []; splits = branch ∷ back_to_front token_split_of old.forks.items [] }
branch_begun old forks steps spare fork branch is same none nothing =
    same_tokens (token_draft old) (map tokened_move steps.items) [] (reverse spare.items) [] (back_to_front token_split_of forks.items []) (branch ∷ back_to_front token_split_of old.forks.items []) (token_draft old).ending (token_draft old).ending
    (ap (map tokened_move) none) (ap reverse nothing) (branches_are forks.items old.forks.items fork branch is same) refl

-- a branch is put back: an arm of it is entered, or none
pub none_left_to_enter : (old : Work) (forks : Vec Fork) (fork other : Fork) → forks.items ≡ old.forks.items ++ other ∷ [] → token_split_of other ≡ token_split_of fork → fork.spare_left.items ≡ []
    → token_draft (record old { forks = forks }) ≡ tokens_entered (record (token_draft old) { splits = token_split_of fork ∷ (token_draft old).splits })
none_left_to_enter old forks fork other is same none =
    let older : List TokenSplit = (token_draft old).splits in
    ap (λ (branches : List TokenSplit). record (token_draft old) { splits = branches }) (branches_are forks.items old.forks.items other (token_split_of fork) is same)
    ∙ sym (ap (λ left. tokens_entered_by (record (token_draft old) { splits = token_split_of fork ∷ older }) (token_split_of fork) older (back_to_front items_of left [])) none)

pub next_entered : (old : Work) (forks : Vec Fork) (spare : Vec ℕ) (fork other : Fork) (left : List (Vec ℕ)) → forks.items ≡ old.forks.items ++ other ∷ []
    → token_split_of other ≡ record (token_split_of fork) { left = back_to_front items_of left [] } → fork.spare_left.items ≡ left ++ spare ∷ []
    → token_draft (record old { spare = spare; forks = forks }) ≡ tokens_entered (record (token_draft old) { splits = token_split_of fork ∷ (token_draft old).splits })
next_entered old forks spare fork other left is same some =
    let older : List TokenSplit = (token_draft old).splits in
    ap (λ (branches : List TokenSplit). record (token_draft old) { spare = reverse spare.items; splits = branches }) (branches_are forks.items old.forks.items other (record (token_split_of fork) { left = back_to_front items_of left [] }) is same)
    ∙ sym
    (ap (λ lists. tokens_entered_by (record (token_draft old) { splits = token_split_of fork ∷ older }) (token_split_of fork) older lists) (ap (λ vs. back_to_front items_of vs []) some ∙ back_more items_of left spare []))

-- an arm of the newest branch is entered
pub entered_newest : (old new : Work) (popped : Vec Fork) (fork : Fork) → old.forks.items ≡ popped.items ++ fork ∷ []
    → token_draft new ≡ tokens_entered (record (token_draft old) { splits = token_split_of fork ∷ back_to_front token_split_of popped.items [] }) → token_draft new ≡ tokens_entered (token_draft old)
entered_newest old new popped fork was becomes =
    becomes ∙ ap (λ (branches : List TokenSplit). tokens_entered (record (token_draft old) { splits = branches })) (sym (branches_are old.forks.items popped.items fork (token_split_of fork) was refl))

-- an arm is ended
pub arm_ended : (old : Work) (forks : Vec Fork) (steps : Vec TokenedStep) (spare : Vec ℕ) (rest : List Fork) (fork other : Fork) (end : Tokened) (tails : Bool)
    → old.ending ≡ None → old.forks.items ≡ rest ++ fork ∷ [] → forks.items ≡ rest ++ other ∷ []
    → token_split_of other ≡ more_ended (token_split_of fork) (record { moves = map tokened_move old.steps.items; end = end; spare = reverse old.spare.items }) tails
    → steps.items ≡ [] → spare.items ≡ []
    → token_draft (record old { steps = steps; spare = spare; forks = forks }) ≡ tokens_ended_in (token_draft old) end tails (token_draft old).splits
arm_ended old forks steps spare rest fork other end tails gone was is same none nothing =
    let branch : TokenSplit = more_ended (token_split_of fork) (record { moves = map tokened_move old.steps.items; end = end; spare = reverse old.spare.items }) tails in
    same_tokens (token_draft old) (map tokened_move steps.items) [] (reverse spare.items) [] (back_to_front token_split_of forks.items []) (branch ∷ back_to_front token_split_of rest []) (option_map tokened_last_code old.ending) None
    (ap (map tokened_move) none) (ap reverse nothing) (branches_are forks.items rest other branch is same) (ap (option_map tokened_last_code) gone)
    ∙ sym (ap (tokens_ended_in (token_draft old) end tails) (branches_are old.forks.items rest fork (token_split_of fork) was refl))

-- a branch is joined
pub branch_joined : (old new : Work) (popped : Vec Fork) (fork : Fork) (x : ℕ)
    → old.forks.items ≡ popped.items ++ fork ∷ []
    → token_draft new ≡ tokens_resumed (token_draft (record old { forks = popped })) (token_split_of fork) x fork.tails
    → token_draft new ≡ tokens_joined (token_draft old) x
branch_joined old new popped fork x was becomes =
    becomes ∙ sym (ap (tokens_joined_in (token_draft old) x) (branches_are old.forks.items popped.items fork (token_split_of fork) was refl))
