-- Code with tokens that runs a block last and gives its value has the judgements that it needs where the block ends it instead.
use Rattle.std.proofs.Common.{◌≡◌, ℕ, ◌<◌, ◌==◌, ◌&&◌, ◌||◌, Bool, true, false, List, [], ◌∷◌, ◌++◌, map, length, Option, Some, None, arith, refl, sym, ap, ◌∙◌, subst}
use Rattle.std.specs.Prelude.{if◌then◌else◌}
use Rattle.std.proofs.lemmas.List.{map-append}
use Rattle.kk_syntax.specs.declared.program.Form.TheVariants.{Construct}
use Rattle.kk_syntax.specs.Shapes.{is_among, without}
use Rattle.kk_counted.specs.declared.tokened.TokenedBlock.{TokenedBlock}
use Rattle.kk_counted.specs.declared.tokened.TokenedStep.{TokenedStep}
use Rattle.kk_counted.specs.BareForms.{bare}
use Rattle.kk_counted.specs.CountedForms.{computes, runs, reads, opens, opens_unique, dups, drops}
use Rattle.kk_counted.specs.KeptFields.{KnownFields, forget_slot, forget_variable, forget_variables, known_opened, LeavesKnown}
use Rattle.kk_counted.specs.TokenSpending.{AreSame, SpendsTokens}
use Rattle.kk_counted.specs.TokenedCodes.{Tokened}
use Rattle.kk_counted.specs.TokenedForms.{TokenedMove, tokened_move, tokened_code, tokened_last_code, put_tokened, plug_tokened}
use Rattle.kk_emitter.specs.TokenDrafts.{tokened_end, is_tokened_branch, tokened_branch_into, tokens_given_behind, closed_moves, tokens_closed_by}
use Rattle.kk_counted.proofs.CountChanges.{same, itself}
use Rattle.kk_counted.proofs.TokenedViews.{tokened_block_is}
use Rattle.kk_emitter.proofs.ClosedBlocks.{Ends, stays, ends, behind}

-- a code, and the same where a block ends it whose value it gives
pub data TokensEnd : Tokened → Tokened → Type 0 where
  remains : (code : Tokened) → TokensEnd code code
  closes : (x : ℕ) (block : Tokened) → TokensEnd (Tokened.inside x block (Tokened.give x)) block
  follows : (move : TokenedMove) (one two : Tokened) → TokensEnd one two → TokensEnd (put_tokened move one) (put_tokened move two)

-- ---- judgements

-- without its tokens it is so too
pub bare_ends : (one two : Tokened) → TokensEnd one two → Ends (bare one) (bare two)
bare_ends _ _ (remains code) = stays (bare code)
bare_ends _ _ (closes x block) = ends x (bare block)
bare_ends _ _ (follows (TokenedMove.computes x form arguments others) one two rest) =
    behind (computes x form arguments) (bare one) (bare two) (bare_ends one two rest)
bare_ends _ _ (follows (TokenedMove.runs x block) one two rest) =
    behind (runs x (bare block)) (bare one) (bare two) (bare_ends one two rest)
bare_ends _ _ (follows (TokenedMove.reads x c fields) one two rest) =
    behind (reads x c fields) (bare one) (bare two) (bare_ends one two rest)
bare_ends _ _ (follows (TokenedMove.opens x c fields used y) one two rest) =
    behind (opens x c fields used) (bare one) (bare two) (bare_ends one two rest)
bare_ends _ _ (follows (TokenedMove.opens_unique x c fields used y) one two rest) =
    behind (opens_unique x c fields used) (bare one) (bare two) (bare_ends one two rest)
bare_ends _ _ (follows (TokenedMove.dups x) one two rest) = behind (dups x) (bare one) (bare two) (bare_ends one two rest)
bare_ends _ _ (follows (TokenedMove.drops x) one two rest) = behind (drops x) (bare one) (bare two) (bare_ends one two rest)
bare_ends _ _ (follows (TokenedMove.fills x y c first arguments kept others) one two rest) =
    behind (computes x (Construct c) (first ∷ arguments)) (bare one) (bare two) (bare_ends one two rest)
bare_ends _ _ (follows (TokenedMove.frees y) one two rest) = bare_ends one two rest
bare_ends _ _ (follows (TokenedMove.nulls y) one two rest) = bare_ends one two rest
bare_ends _ _ (follows (TokenedMove.moves to of) one two rest) = bare_ends one two rest
bare_ends _ _ (follows (TokenedMove.holds y) one two rest) = bare_ends one two rest
bare_ends _ _ (follows (TokenedMove.unholds y) one two rest) = bare_ends one two rest

-- a list without members
nothing_left : (ys : List ℕ) → AreSame ys [] → ys ≡ []
nothing_left [] none = refl
nothing_left (y ∷ ys) none = absurd (clash (none y))
  where
    there : is_among (y ∷ ys) y ≡ true
    there = ap (λ t. t || is_among ys y) (itself y)

    clash : is_among (y ∷ ys) y ≡ false → ⊥
    clash isnt = cc (sym there ∙ isnt)

-- code that leaves no token spends the same
pub tokens_end : (unspent held : List ℕ) (one two : Tokened) → TokensEnd one two → SpendsTokens [] unspent held one
    → SpendsTokens [] unspent held two
tokens_end unspent held _ _ (remains code) s = s
tokens_end unspent held _ _ (closes x block) s =
    subst (λ (h : List ℕ). SpendsTokens [] unspent h block) (sym s.1.0)
    (subst (λ (left : List ℕ). SpendsTokens left unspent [] block) (nothing_left s.0 s.1.1.1.1) s.1.1.0)
tokens_end unspent held _ _ (follows (TokenedMove.computes x form arguments others) one two rest) s =
    (s.0, tokens_end unspent held one two rest s.1)
tokens_end unspent held _ _ (follows (TokenedMove.runs x block) one two rest) s =
    (s.0, (s.1.0, (s.1.1.0, tokens_end s.0 [] one two rest s.1.1.1)))
tokens_end unspent held _ _ (follows (TokenedMove.reads x c fields) one two rest) s = (s.0, tokens_end unspent [] one two rest s.1)
tokens_end unspent held _ _ (follows (TokenedMove.opens x c fields used y) one two rest) s =
    (s.0, (s.1.0, tokens_end (y ∷ unspent) [] one two rest s.1.1))
tokens_end unspent held _ _ (follows (TokenedMove.opens_unique x c fields used y) one two rest) s =
    (s.0, (s.1.0, tokens_end (y ∷ unspent) [] one two rest s.1.1))
tokens_end unspent held _ _ (follows (TokenedMove.dups x) one two rest) s = (s.0, tokens_end unspent [] one two rest s.1)
tokens_end unspent held _ _ (follows (TokenedMove.drops x) one two rest) s = tokens_end unspent held one two rest s
tokens_end unspent held _ _ (follows (TokenedMove.fills x y c first arguments kept others) one two rest) s =
    (s.0, (s.1.0, (s.1.1.0, (s.1.1.1.0, tokens_end (without (y ∷ []) unspent) [] one two rest s.1.1.1.1))))
tokens_end unspent held _ _ (follows (TokenedMove.frees y) one two rest) s =
    (s.0, (s.1.0, tokens_end (without (y ∷ []) unspent) [] one two rest s.1.1))
tokens_end unspent held _ _ (follows (TokenedMove.nulls y) one two rest) s =
    (s.0, (s.1.0, tokens_end (y ∷ unspent) [] one two rest s.1.1))
tokens_end unspent held _ _ (follows (TokenedMove.moves to of) one two rest) s =
    (s.0, (s.1.0, (s.1.1.0, tokens_end (to ∷ without (of ∷ []) unspent) [] one two rest s.1.1.1)))
tokens_end unspent held _ _ (follows (TokenedMove.holds y) one two rest) s =
    (s.0, (s.1.0, tokens_end unspent (y ∷ held) one two rest s.1.1))
tokens_end unspent held _ _ (follows (TokenedMove.unholds y) one two rest) s =
    (s.0, (s.1.0, (s.1.1.0, tokens_end unspent s.0 one two rest s.1.1.1)))

-- it leaves only known fields
pub leaves_end : (known : List KnownFields) (one two : Tokened) → TokensEnd one two → LeavesKnown known one → LeavesKnown known two
leaves_end known _ _ (remains code) has = has
leaves_end known _ _ (closes x block) has = has.0
leaves_end known _ _ (follows (TokenedMove.computes x form arguments others) one two rest) has =
    leaves_end (forget_variable x known) one two rest has
leaves_end known _ _ (follows (TokenedMove.runs x block) one two rest) has = (has.0, leaves_end [] one two rest has.1)
leaves_end known _ _ (follows (TokenedMove.reads x c fields) one two rest) has =
    leaves_end (forget_variables fields known) one two rest has
leaves_end known _ _ (follows (TokenedMove.opens x c fields used y) one two rest) has =
    leaves_end (known_opened fields y known) one two rest has
leaves_end known _ _ (follows (TokenedMove.opens_unique x c fields used y) one two rest) has =
    leaves_end (known_opened fields y known) one two rest has
leaves_end known _ _ (follows (TokenedMove.dups x) one two rest) has = leaves_end known one two rest has
leaves_end known _ _ (follows (TokenedMove.drops x) one two rest) has = leaves_end known one two rest has
leaves_end known _ _ (follows (TokenedMove.fills x y c first arguments kept others) one two rest) has =
    (has.0, leaves_end (forget_variable x (forget_slot y known)) one two rest has.1)
leaves_end known _ _ (follows (TokenedMove.frees y) one two rest) has = leaves_end (forget_slot y known) one two rest has
leaves_end known _ _ (follows (TokenedMove.nulls y) one two rest) has = leaves_end (forget_slot y known) one two rest has
leaves_end known _ _ (follows (TokenedMove.moves to of) one two rest) has =
    leaves_end (forget_slot to (forget_slot of known)) one two rest has
leaves_end known _ _ (follows (TokenedMove.holds y) one two rest) has = leaves_end known one two rest has
leaves_end known _ _ (follows (TokenedMove.unholds y) one two rest) has = leaves_end known one two rest has

-- ---- the code that an emitter closes

move_ends : (x : ℕ) (move : TokenedMove)
    → TokensEnd (put_tokened move (Tokened.give x)) (tokens_given_behind x move (tokened_branch_into x move))
move_ends x (TokenedMove.computes y form arguments others) = remains _
move_ends x (TokenedMove.runs y block) = by_test (y == x) refl (is_tokened_branch block)
  where
    by_test : (t : Bool) → (y == x) ≡ t → (s : Bool)
        → TokensEnd (Tokened.inside y block (Tokened.give x))
        (tokens_given_behind x (TokenedMove.runs y block) (if t && s then Some block else None))
    by_test true one true =
        subst (λ z. TokensEnd (Tokened.inside z block (Tokened.give x)) block) (sym (same y x one)) (closes x block)
    by_test true one false = remains _
    by_test false one s = remains _
move_ends x (TokenedMove.reads y c fields) = remains _
move_ends x (TokenedMove.opens y c fields used z) = remains _
move_ends x (TokenedMove.opens_unique y c fields used z) = remains _
move_ends x (TokenedMove.dups y) = remains _
move_ends x (TokenedMove.drops y) = remains _
move_ends x (TokenedMove.fills y z c first arguments kept others) = remains _
move_ends x (TokenedMove.frees y) = remains _
move_ends x (TokenedMove.nulls y) = remains _
move_ends x (TokenedMove.moves to of) = remains _
move_ends x (TokenedMove.holds y) = remains _
move_ends x (TokenedMove.unholds y) = remains _

moves_end : (moves : List TokenedMove) (x : ℕ) → TokensEnd (plug_tokened moves (Tokened.give x)) (closed_moves moves x)
moves_end [] x = remains (Tokened.give x)
moves_end (move ∷ []) x = move_ends x move
moves_end (move ∷ next ∷ moves) x = follows move _ _ (moves_end (next ∷ moves) x)

pub tokens_closed_end : (moves : List TokenedMove) (ending : Option Tokened) (x : ℕ)
    → TokensEnd (plug_tokened moves (tokened_end ending x)) (tokens_closed_by moves ending x)
tokens_closed_end moves None x = moves_end moves x
tokens_closed_end moves (Some code) x = remains (plug_tokened moves code)

-- by the last step
last_move_closed : (front : List TokenedMove) (move : TokenedMove) (x : ℕ)
    → closed_moves (front ++ move ∷ []) x ≡ plug_tokened front (tokens_given_behind x move (tokened_branch_into x move))
last_move_closed [] move x = refl
last_move_closed (first ∷ []) move x = refl
last_move_closed (first ∷ next ∷ front) move x = ap (put_tokened first) (last_move_closed (next ∷ front) move x)

pub moves_closed : (front all : List TokenedStep) (step : TokenedStep) (x : ℕ) (found : Option Tokened) → all ≡ front ++ step ∷ []
    → tokened_branch_into x (tokened_move step) ≡ found
    → plug_tokened (map tokened_move front) (tokens_given_behind x (tokened_move step) found)
    ≡ closed_moves (map tokened_move all) x
moves_closed front all step x found is branch =
    ap (λ (o : Option Tokened). plug_tokened (map tokened_move front) (tokens_given_behind x (tokened_move step) o)) (sym branch)
    ∙ (sym (last_move_closed (map tokened_move front) (tokened_move step) x)
    ∙ ap (λ moves. closed_moves moves x) (sym (ap (map tokened_move) is ∙ map-append tokened_move front (step ∷ []))))

-- code that begins with a step is no branch
pub no_tokened_branch : (move : TokenedMove) (rest : Tokened) → is_tokened_branch (put_tokened move rest) ≡ false
no_tokened_branch (TokenedMove.computes x form arguments others) rest = refl
no_tokened_branch (TokenedMove.runs x block) rest = refl
no_tokened_branch (TokenedMove.reads x c fields) rest = refl
no_tokened_branch (TokenedMove.opens x c fields used y) rest = refl
no_tokened_branch (TokenedMove.opens_unique x c fields used y) rest = refl
no_tokened_branch (TokenedMove.dups x) rest = refl
no_tokened_branch (TokenedMove.drops x) rest = refl
no_tokened_branch (TokenedMove.fills x y c first arguments kept others) rest = refl
no_tokened_branch (TokenedMove.frees y) rest = refl
no_tokened_branch (TokenedMove.nulls y) rest = refl
no_tokened_branch (TokenedMove.moves to of) rest = refl
no_tokened_branch (TokenedMove.holds y) rest = refl
no_tokened_branch (TokenedMove.unholds y) rest = refl

-- a block with steps is none, and one without them is its end
pub moves_no_branch : (block : TokenedBlock) → 0 < length block.steps.items → is_tokened_branch (tokened_code block) ≡ false
moves_no_branch block some = ap is_tokened_branch (tokened_block_is block) ∙ by_steps block.steps.items some
  where
    by_steps : (steps : List TokenedStep) → 0 < length steps
        → is_tokened_branch (plug_tokened (map tokened_move steps) (tokened_last_code block.last)) ≡ false
    by_steps [] more = absurd (omega (arith, more))
    by_steps (step ∷ steps) more =
        no_tokened_branch (tokened_move step) (plug_tokened (map tokened_move steps) (tokened_last_code block.last))

pub only_token_last : (block : TokenedBlock) → (0 < length block.steps.items → ⊥)
    → tokened_code block ≡ tokened_last_code block.last
only_token_last block none = tokened_block_is block ∙ by_steps block.steps.items none
  where
    by_steps : (steps : List TokenedStep) → (0 < length steps → ⊥)
        → plug_tokened (map tokened_move steps) (tokened_last_code block.last) ≡ tokened_last_code block.last
    by_steps [] nothing = refl
    by_steps (step ∷ steps) nothing = absurd (nothing (omega arith))
