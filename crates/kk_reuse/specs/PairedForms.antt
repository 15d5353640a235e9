-- The pairing of one step of a block, and what can follow behind a step.
use Rattle.std.specs.Prelude.{ℕ, suc, Bool, true, false, List, [], ◌∷◌, ◌||◌, ◌&&◌, if◌then◌else◌}
use Rattle.kk_syntax.specs.declared.program.Form.{Form}
use Rattle.kk_syntax.specs.declared.program.Form.TheVariants.{Call}
use Rattle.kk_counted.specs.CountedCodes.{Counted, compute, drop}
use Rattle.kk_counted.specs.CountedForms.{Move, computes, runs, reads, opens, opens_unique, dups, drops}
use Rattle.kk_counted.specs.TokenedCodes.{Tokened}
use Rattle.kk_reuse.specs.Following.{makes_cell, may_make, kept, taken, leaves}
use Rattle.kk_reuse.specs.Pairing.{holds, unholds, settled, paired_form, paired}

-- whether a cell may be made from a step on, and from some steps on: `behind` is whether it may behind them
abbrev pub move_may_make : Bool → Move → Bool
move_may_make behind (computes x form arguments) = makes_cell form arguments || behind
move_may_make behind (runs x block) = may_make behind block
move_may_make behind _ = behind

abbrev pub moves_may_make : Bool → List Move → Bool
moves_may_make behind [] = behind
moves_may_make behind (move ∷ moves) = move_may_make (moves_may_make behind moves) move

-- how many tokens there are behind a step with so many in front of it, of which none is freed
abbrev pub left_behind : ℕ → Move → ℕ
left_behind n (computes x form arguments) = taken form arguments n
left_behind n (runs x block) = leaves true n block
left_behind n (opens x c fields used) = suc n
left_behind n (opens_unique x c fields used) = suc n
left_behind n _ = n

-- how many tokens there are behind a step: `makes` is whether a cell may be made behind it
abbrev pub tokens_behind : Bool → ℕ → Move → ℕ
tokens_behind makes n (runs x block) = leaves makes (kept makes block n) block
tokens_behind makes n move = left_behind n move

-- a block with so many tokens in front of it, which it may free
abbrev pub paired_block : Bool → ℕ → ℕ → Counted → Tokened
paired_block behind l n block = settled behind block n (paired behind l (kept behind block n) block)

-- ---- calls

-- whether a form and a step are a call, a step is a drop, and the first of some steps or of a code is a call, behind drops
abbrev pub is_call : Form → Bool
is_call (Call f) = true
is_call _ = false

abbrev pub move_is_call : Move → Bool
move_is_call (computes x form arguments) = is_call form
move_is_call _ = false

abbrev pub move_is_drop : Move → Bool
move_is_drop (drops x) = true
move_is_drop _ = false

abbrev pub lead_to_call : List Move → Bool
lead_to_call [] = false
lead_to_call (move ∷ moves) = if move_is_drop move then lead_to_call moves else move_is_call move

abbrev pub leads_to_call : Counted → Bool
leads_to_call (compute x form arguments rest) = is_call form
leads_to_call (drop x rest) = leads_to_call rest
leads_to_call _ = false

-- The tokens stay held behind a call where another one comes behind drops alone, and they are kept up to there. A drop leaves it as
-- it is whether they are held.
abbrev pub stay_held : Bool → Bool → Move → List Move → Bool
stay_held makes already move moves =
    if move_is_drop move then already else makes && (move_is_call move && lead_to_call moves)

-- so many tokens are held in front of a code, and taken back behind one: whether they are held there already
abbrev pub held_before : Bool → ℕ → Tokened → Tokened
held_before held n code = if held then code else holds n code

abbrev pub held_behind : Bool → ℕ → Tokened → Tokened
held_behind held n code = if held then code else unholds n code

-- ---- steps

-- a form on variables: whether tokens are held in front of it already, and whether they stay held behind it, if it is a call
abbrev pub written_form : Bool → Bool → ℕ → ℕ → Form → List ℕ → Tokened → Tokened
written_form already stays n x form arguments rest =
    if is_call form then held_before already n (Tokened.compute x form arguments [] (held_behind stays n rest))
    else paired_form n x form arguments rest

-- a step with so many tokens in front of it, and what comes behind it
abbrev pub paired_move : Bool → Bool → Bool → ℕ → Move → Tokened → Tokened
paired_move already stays makes n (computes x form arguments) rest = written_form already stays n x form arguments rest
paired_move already stays makes n (runs x block) rest =
    Tokened.inside x (paired_block makes (tokens_behind makes n (runs x block)) n block) rest
paired_move already stays makes n (reads x c fields) rest = Tokened.read x c fields rest
paired_move already stays makes n (opens x c fields used) rest = Tokened.open_cell x c fields used n rest
paired_move already stays makes n (opens_unique x c fields used) rest = Tokened.if_unique x c fields used n rest
paired_move already stays makes n (dups x) rest = Tokened.dup x rest
paired_move already stays makes n (drops x) rest = Tokened.drop x rest
