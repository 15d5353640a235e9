-- What an emitter holds after a change, as the change of its draft.
use Rattle.std.proofs.Common.{◌≡◌, ℕ, zero, suc, ◌+◌, ◌-◌, ◌==◌, Bool, true, false, not, List, [], ◌∷◌, ◌++◌, map, take, Option, Some, None, refl, sym, ap, ◌∙◌, arith}
use Rattle.std.specs.Prelude.{filter, option_map, Result, Ok, Err, OnOk}
use Rattle.std.proofs.lemmas.List.{map-append}
use Rattle.std.specs.Global.{Vec}
use Rattle.kk_syntax.specs.PositionsOf.{PositionTable}
use Rattle.kk_counted.specs.declared.tokened.TokenedLast.{TokenedLast}
use Rattle.kk_counted.specs.declared.tokened.TokenedStep.{TokenedStep}
use Rattle.kk_emitter.specs.declared.work.Fork.{Fork}
use Rattle.kk_emitter.specs.declared.work.Work.{Work}
use Rattle.kk_counted.specs.CountedCodes.{Counted}
use Rattle.kk_counted.specs.BareForms.{bare}
use Rattle.kk_counted.specs.CountedForms.{Move, plug}
use Rattle.kk_counted.specs.TokenedForms.{TokenedMove, tokened_move, tokened_last_code}
use Rattle.kk_counted.specs.VariableLists.{minus_all}
use Rattle.kk_emitter.specs.TokenDrafts.{adds, spends, bare_moves}
use Rattle.kk_emitter.specs.Drafts.{copies, Split, Draft, entered, entered_in, entered_by, more_arms, end_code, is_tail, ended_in, ended_by_value, resumed, joined, joined_in, wrote}
use Rattle.kk_counted.specs.Marks.{CellMarks}
use Rattle.kk_emitter.specs.Works.{items_of, back_to_front, split_of, draft, token_draft, Becomes}
use Rattle.kk_emitter.proofs.TokenDraftChanges.{bare_more, put_spent}

pub back_more : {A B : Type 0} (f : A → B) (xs : List A) (x : A) (done : List B) → back_to_front f (xs ++ x ∷ []) done ≡ f x ∷ back_to_front f xs done
back_more f [] x done = refl
back_more f (y ∷ xs) x done = back_more f xs x (f y ∷ done)

-- what holds of a call that has answered follows from what it ensures
pub on_ok : {A E : Type 0} (result : Result A E) (P Q : Type 0) → (P → Q) → OnOk result P → OnOk result Q
on_ok (Ok a) P Q step holds = step holds
on_ok (Err e) P Q step holds = tt

-- drafts with equal parts are equal
pub same_draft : (d : Draft) (n n' : ℕ) (s s' : List Move) (o o' u u' : List ℕ) (f f' : List Split) (e e' : Option Counted) → n ≡ n' → s ≡ s' → o ≡ o' → u ≡ u' → f ≡ f' → e ≡ e'
    → record d { next = n; steps = s; owed = o; uncalled = u; splits = f; ending = e } ≡ record d { next = n'; steps = s'; owed = o'; uncalled = u'; splits = f'; ending = e' }
same_draft d n n' s s' o o' u u' f f' e e' one two three four five six =
    ap (λ z. record d { next = z; steps = s; owed = o; uncalled = u; splits = f; ending = e }) one
    ∙ (ap (λ z. record d { next = n'; steps = z; owed = o; uncalled = u; splits = f; ending = e }) two
    ∙ (ap (λ z. record d { next = n'; steps = s'; owed = z; uncalled = u; splits = f; ending = e }) three
    ∙ (ap (λ z. record d { next = n'; steps = s'; owed = o'; uncalled = z; splits = f; ending = e }) four
    ∙ (ap (λ z. record d { next = n'; steps = s'; owed = o'; uncalled = u'; splits = z; ending = e }) five
    ∙ ap (λ z. record d { next = n'; steps = s'; owed = o'; uncalled = u'; splits = f'; ending = z }) six))))

-- the newest branch
pub splits_are : (forks rest : List Fork) (fork : Fork) (split : Split) → forks ≡ rest ++ fork ∷ [] → split_of fork ≡ split → back_to_front split_of forks [] ≡ split ∷ back_to_front split_of rest []
splits_are forks rest fork split is same =
    ap (λ fs. back_to_front split_of fs []) is ∙ (back_more split_of rest fork [] ∙ ap (λ s. s ∷ back_to_front split_of rest []) same)

-- steps are written behind the others
pub moves_more : (before after added : List TokenedStep) (moves : List TokenedMove) → after ≡ before ++ added → map tokened_move added ≡ moves → map tokened_move after ≡ map tokened_move before ++ moves
moves_more before after added moves grown are = ap (map tokened_move) grown ∙ (map-append tokened_move before added ∙ ap (λ ms. map tokened_move before ++ ms) are)

pub steps_more : (before after added : List TokenedStep) (moves : List TokenedMove) → after ≡ before ++ added → map tokened_move added ≡ moves → bare_moves (map tokened_move after) ≡ bare_moves (map tokened_move before) ++ bare_moves moves
steps_more before after added moves grown are = ap bare_moves (moves_more before after added moves grown are) ∙ bare_more (map tokened_move before) moves

pub wrote_is : (positions : PositionTable) (counts : List ℕ) (marks : CellMarks) (old : Work) (steps : Vec TokenedStep) (owed : Vec ℕ) (added : List TokenedStep) (moves : List TokenedMove) (move : Move) (left : List ℕ)
    → steps.items ≡ old.steps.items ++ added → map tokened_move added ≡ moves → bare_moves moves ≡ move ∷ [] → owed.items ≡ left
    → draft positions counts marks (record old { steps = steps; owed = owed }) ≡ wrote (draft positions counts marks old) move left old.next
wrote_is positions counts marks old steps owed added moves move left grown are plain owes =
    let d : Draft = draft positions counts marks old in
    same_draft d d.next d.next (bare_moves (map tokened_move steps.items)) (d.steps ++ move ∷ []) owed.items left d.uncalled d.uncalled d.splits d.splits d.ending d.ending
    refl (steps_more old.steps.items steps.items added moves grown are ∙ ap (λ ms. d.steps ++ ms) plain) owes refl refl refl

pub put_is : (old : Work) (steps : Vec TokenedStep) (added : List TokenedStep) (moves : List TokenedMove) → steps.items ≡ old.steps.items ++ added → map tokened_move added ≡ moves
    → token_draft (record old { steps = steps }) ≡ adds (token_draft old) moves
put_is old steps added moves grown are = ap (λ (ms : List TokenedMove). record (token_draft old) { moves = ms }) (moves_more old.steps.items steps.items added moves grown are)

-- a step takes a value: room was made, it is written, and its arguments are used up
pub took_is : (positions : PositionTable) (counts : List ℕ) (marks : CellMarks) (old room new : Work) (steps : Vec TokenedStep) (spare : Vec ℕ) (used : List ℕ) (added : List TokenedStep) (moves : List TokenedMove) (move : Move)
    → room ≡ record old { owed = room.owed } → room.owed.items ≡ old.owed.items
    → new ≡ record room { steps = steps; spare = spare; owed = new.owed; next = room.next + 1 } → new.owed.items ≡ minus_all used room.owed.items ++ room.next ∷ []
    → steps.items ≡ room.steps.items ++ added → map tokened_move added ≡ moves → bare_moves moves ≡ move ∷ []
    → draft positions counts marks new ≡ wrote (draft positions counts marks old) move (minus_all used old.owed.items ++ old.next ∷ []) (old.next + 1)
took_is positions counts marks old room new steps spare used added moves move same owed then takes grown are plain =
    let d : Draft = draft positions counts marks old in
    let written : List Move = bare_moves (map tokened_move steps.items) in
    ap (draft positions counts marks) then
    ∙ (ap (λ (w : Work). record (draft positions counts marks w) { next = w.next + 1; steps = written; owed = new.owed.items }) same
    ∙ same_draft d (old.next + 1) (old.next + 1) written (d.steps ++ move ∷ []) new.owed.items (minus_all used old.owed.items ++ old.next ∷ []) d.uncalled d.uncalled d.splits d.splits d.ending d.ending
    refl (steps_more old.steps.items steps.items added moves (grown ∙ ap (λ (w : Work). w.steps.items ++ added) same) are ∙ ap (λ ms. d.steps ++ ms) plain)
    (takes ∙ (ap (λ xs. minus_all used xs ++ room.next ∷ []) owed ∙ ap (λ (w : Work). minus_all used old.owed.items ++ w.next ∷ []) same)) refl refl refl)

pub took_token : (old room new : Work) (steps : Vec TokenedStep) (spare : Vec ℕ) (step : TokenedStep) (move : TokenedMove) (slot : ℕ)
    → room ≡ record old { owed = room.owed } → new ≡ record room { steps = steps; spare = spare; owed = new.owed; next = room.next + 1 }
    → steps.items ≡ room.steps.items ++ step ∷ [] → spare.items ≡ filter (λ y. not (y == slot)) room.spare.items → tokened_move step ≡ move
    → token_draft new ≡ spends (token_draft old) move slot
took_token old room new steps spare step move slot same then grown left is =
    ap token_draft then
    ∙ (put_spent room steps spare step slot grown left
    ∙ (ap (λ m. spends (token_draft room) m slot) is ∙ ap (λ (w : Work). spends (token_draft w) move slot) same))

pub same_end : (ending : Option TokenedLast) → option_map bare (option_map tokened_last_code ending) ≡ None → ending ≡ None
same_end None is = refl
same_end (Some last) is = absurd (cc)

-- an arm is ended
pub ended_is : (positions : PositionTable) (counts : List ℕ) (marks : CellMarks) (old : Work) (forks : Vec Fork) (steps : Vec TokenedStep) (owed : Vec ℕ) (rest : List Fork) (fork other : Fork) (code : Counted) (tails : Bool)
    → old.ending ≡ None → old.forks.items ≡ rest ++ fork ∷ [] → forks.items ≡ rest ++ other ∷ []
    → split_of other ≡ more_arms (split_of fork) (plug (bare_moves (map tokened_move old.steps.items)) code) tails
    → steps.items ≡ [] → owed.items ≡ []
    → draft positions counts marks (record old { inside = false; steps = steps; owed = owed; forks = forks }) ≡ ended_in (draft positions counts marks old) code tails (back_to_front split_of old.forks.items [])
ended_is positions counts marks old forks steps owed rest fork other code tails gone was is same none nothing =
    let d : Draft = record (draft positions counts marks old) { inside = false } in
    let ended : Split = more_arms (split_of fork) (plug (bare_moves (map tokened_move old.steps.items)) code) tails in
    same_draft d d.next d.next (bare_moves (map tokened_move steps.items)) [] owed.items [] d.uncalled d.uncalled (back_to_front split_of forks.items []) (ended ∷ back_to_front split_of rest []) (option_map bare (option_map tokened_last_code old.ending)) None
    refl (ap (λ xs. bare_moves (map tokened_move xs)) none) nothing refl (splits_are forks.items rest other ended is same) (ap (λ e. option_map bare (option_map tokened_last_code e)) gone)
    ∙ sym (ap (ended_in (draft positions counts marks old) code tails) (splits_are old.forks.items rest fork (split_of fork) was refl))

-- a branch is joined
pub joined_is : (positions : PositionTable) (counts : List ℕ) (marks : CellMarks) (old new : Work) (popped : Vec Fork) (fork : Fork) → old.forks.items ≡ popped.items ++ fork ∷ []
    → Becomes (record old { forks = popped; next = old.next + 1 }) new (λ d. resumed d (split_of fork) old.next) → draft positions counts marks new ≡ joined (draft positions counts marks old)
joined_is positions counts marks old new popped fork was becomes =
    becomes positions counts marks ∙ sym (ap (joined_in (draft positions counts marks old)) (splits_are old.forks.items popped.items fork (split_of fork) was refl))

-- a branch begins
same_rest : (s : Split) (b b' : List Move) (k k' : List ℕ) (l l' : List (List ℕ)) (a a' : List Counted) → b ≡ b' → k ≡ k' → l ≡ l' → a ≡ a' → record s { before = b; kept = k; left = l; arms = a } ≡ record s { before = b'; kept = k'; left = l'; arms = a' }
same_rest s b b' k k' l l' a a' one two three four =
    ap (λ z. record s { before = z; kept = k; left = l; arms = a }) one
    ∙ (ap (λ z. record s { before = b'; kept = z; left = l; arms = a }) two
    ∙ (ap (λ z. record s { before = b'; kept = k'; left = z; arms = a }) three ∙ ap (λ z. record s { before = b'; kept = k'; left = l'; arms = z }) four))

pub same_split : (s : Split) (n n' : ℕ) (b b' : List Move) (k k' : List ℕ) (l l' : List (List ℕ)) (a a' : List Counted) → n ≡ n' → b ≡ b' → k ≡ k' → l ≡ l' → a ≡ a'
    → record s { lent = n; before = b; kept = k; left = l; arms = a } ≡ record s { lent = n'; before = b'; kept = k'; left = l'; arms = a' }
same_split s n n' b b' k k' l l' a a' first one two three four =
    ap (λ z. record s { lent = z; before = b; kept = k; left = l; arms = a }) first ∙ same_rest (record s { lent = n' }) b b' k k' l l' a a' one two three four

pub forked_is : (positions : PositionTable) (counts : List ℕ) (marks : CellMarks) (old : Work) (forks : Vec Fork) (steps : Vec TokenedStep) (owed : Vec ℕ) (fork : Fork) (split : Split) → forks.items ≡ old.forks.items ++ fork ∷ [] → split_of fork ≡ split → steps.items ≡ [] → owed.items ≡ []
    → draft positions counts marks (record old { inside = false; steps = steps; owed = owed; forks = forks }) ≡ record (draft positions counts marks old) { inside = false; steps = []; owed = []; splits = split ∷ back_to_front split_of old.forks.items [] }
forked_is positions counts marks old forks steps owed fork split is same none nothing =
    let d : Draft = record (draft positions counts marks old) { inside = false } in
    same_draft d d.next d.next (bare_moves (map tokened_move steps.items)) [] owed.items [] d.uncalled d.uncalled (back_to_front split_of forks.items []) (split ∷ back_to_front split_of old.forks.items []) d.ending d.ending
    refl (ap (λ xs. bare_moves (map tokened_move xs)) none) nothing refl (splits_are forks.items old.forks.items fork split is same) refl

-- a list of which nothing is taken
pub none_taken : {A : Type 0} (old new : List A) (n : ℕ) → old ≡ new ++ [] → new ≡ take (n - 1) old → n ≡ 0 → old ≡ []
none_taken old new n both rest none = both ∙ (ap (λ xs. xs ++ []) (rest ∙ ap (λ m. take (m - 1) old) none) ∙ at_none old)
  where
    at_none : {A : Type 0} (xs : List A) → take 0 xs ++ [] ≡ []
    at_none [] = refl
    at_none (x ∷ xs) = refl

-- no arm is left to be entered
pub none_entered : (positions : PositionTable) (counts : List ℕ) (marks : CellMarks) (old new : Work) (rest : List Fork) (fork other : Fork) → old.forks.items ≡ rest ++ fork ∷ []
    → back_to_front split_of new.forks.items [] ≡ split_of other ∷ back_to_front split_of rest [] → split_of other ≡ split_of fork → fork.left.items ≡ []
    → draft positions counts marks (record old { forks = new.forks }) ≡ entered (draft positions counts marks old)
none_entered positions counts marks old new rest fork other was is same none =
    ap (λ (splits : List Split). record (draft positions counts marks old) { splits = splits }) (is ∙ (ap (λ s. s ∷ back_to_front split_of rest []) same ∙ sym (splits_are old.forks.items rest fork (split_of fork) was refl)))
    ∙ sym
    (ap (entered_in (draft positions counts marks old)) (splits_are old.forks.items rest fork (split_of fork) was refl)
    ∙ ap (λ left. entered_by (draft positions counts marks old) (split_of fork) (back_to_front split_of rest []) (back_to_front items_of left [])) none)

-- an arm is entered
pub arm_entered : (positions : PositionTable) (counts : List ℕ) (marks : CellMarks) (old new : Work) (owed lent : Vec ℕ) (rest : List Fork) (fork other : Fork) (left : List (Vec ℕ)) → old.forks.items ≡ rest ++ fork ∷ []
    → back_to_front split_of new.forks.items [] ≡ split_of other ∷ back_to_front split_of rest []
    → lent.items ≡ take fork.lent old.lent.items → split_of other ≡ record (split_of fork) { left = back_to_front items_of left [] } → fork.left.items ≡ left ++ owed ∷ []
    → draft positions counts marks (record old { inside = true; owed = owed; lent = lent; forks = new.forks }) ≡ entered (draft positions counts marks old)
arm_entered positions counts marks old new owed lent rest fork other left was is lends same some =
    ap (λ (xs : List ℕ). record (draft positions counts marks old) { inside = true; owed = owed.items; lent = xs; splits = back_to_front split_of new.forks.items [] }) lends
    ∙ (ap (λ (splits : List Split). record (draft positions counts marks old) { inside = true; owed = owed.items; lent = take fork.lent old.lent.items; splits = splits }) (is ∙ ap (λ s. s ∷ back_to_front split_of rest []) same)
    ∙ sym
    (ap (entered_in (draft positions counts marks old)) (splits_are old.forks.items rest fork (split_of fork) was refl)
    ∙ ap (λ lists. entered_by (draft positions counts marks old) (split_of fork) (back_to_front split_of rest []) lists) (ap (λ vs. back_to_front items_of vs []) some ∙ back_more items_of left owed [])))

-- copies, from their end on
first_is : {A : Type 0} (x y : A) (xs ys : List A) → x ∷ xs ≡ y ∷ ys → x ≡ y
first_is x y xs ys same = cc

rest_is : {A : Type 0} (x y : A) (xs ys : List A) → x ∷ xs ≡ y ∷ ys → xs ≡ ys
rest_is x y xs ys same = cc

copies_onto : (vs : List (Vec ℕ)) (n m : ℕ) (xs : List ℕ) → map items_of vs ≡ copies n xs → back_to_front items_of vs (copies m xs) ≡ copies (n + m) xs
copies_onto [] zero m xs are = ap (λ k. copies k xs) {x = m} {y = zero + m} (omega arith)
copies_onto [] (suc n) m xs are = absurd (cc)
copies_onto (v ∷ vs) zero m xs are = absurd (cc)
copies_onto (v ∷ vs) (suc n) m xs are =
    ap (λ ys. back_to_front items_of vs (ys ∷ copies m xs)) (first_is (items_of v) xs (map items_of vs) (copies n xs) are)
    ∙ (copies_onto vs n (suc m) xs (rest_is (items_of v) xs (map items_of vs) (copies n xs) are) ∙ ap (λ k. copies k xs) {x = n + suc m} {y = suc n + m} (omega arith))

pub copies_back : (vs : List (Vec ℕ)) (n : ℕ) (xs : List ℕ) → map items_of vs ≡ copies n xs → back_to_front items_of vs [] ≡ copies n xs
copies_back vs n xs are = copies_onto vs n 0 xs are ∙ ap (λ k. copies k xs) {x = n + 0} {y = n} (omega arith)

-- ---- an arm is ended by a value, whose end may be known

ending_gone : (d : Draft) (e : Option Counted) (code : Counted) (tails : Bool) (splits : List Split) → ended_in (record d { ending = e }) code tails splits ≡ ended_in d code tails splits
ending_gone d e code tails [] = refl
ending_gone d e code tails (split ∷ splits) = refl

abbrev end_of_last : Option TokenedLast → Option Counted
end_of_last last = option_map bare (option_map tokened_last_code last)

pub ended_at : (positions : PositionTable) (counts : List ℕ) (marks : CellMarks) (old new : Work) (gone ending : Option TokenedLast) (code : Counted) (tails : Bool) (x : ℕ)
    → draft positions counts marks new ≡ ended_in (draft positions counts marks (record old { ending = gone })) code tails (back_to_front split_of old.forks.items [])
    → old.ending ≡ ending → code ≡ end_code (option_map bare (option_map tokened_last_code ending)) x → tails ≡ is_tail (option_map bare (option_map tokened_last_code ending)) → draft positions counts marks new ≡ ended_by_value (draft positions counts marks old) x
ended_at positions counts marks old new gone ending code tails x becomes is one two =
    becomes
    ∙ (ending_gone (draft positions counts marks old) (end_of_last gone) code tails (back_to_front split_of old.forks.items [])
    ∙ (ap (λ c. ended_in (draft positions counts marks old) c tails (back_to_front split_of old.forks.items [])) one
    ∙ (ap (λ t. ended_in (draft positions counts marks old) (end_code (end_of_last ending) x) t (back_to_front split_of old.forks.items [])) two
    ∙ ap (λ e. ended_in (draft positions counts marks old) (end_code (end_of_last e) x) (is_tail (end_of_last e)) (back_to_front split_of old.forks.items [])) (sym is))))
