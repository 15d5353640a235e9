-- What an emitter has written of a function in code with tokens, and which of its tokens are unspent.
use Rattle.std.specs.Prelude.{ℕ, suc, ◌-◌, ◌==◌, ◌&&◌, ◌||◌, max, Bool, true, false, List, [], ◌∷◌, ◌++◌, map, reverse, length, Option, Some, None, is_some, if◌then◌else◌}
use Rattle.kk_syntax.specs.declared.program.Form.TheVariants.{Construct}
use Rattle.kk_syntax.specs.Shapes.{without}
use Rattle.kk_core.specs.Decisions.{NodeTree}
use Rattle.kk_emitter.specs.declared.debts.Held.{Held}
use Rattle.kk_emitter.specs.declared.debts.Held.TheVariants.{Nothing, Ending}
use Rattle.kk_emitter.specs.declared.debts.ArmEnd.{ArmEnd}
use Rattle.kk_emitter.specs.declared.debts.ArmEnd.TheVariants.{Value, Tail}
use Rattle.kk_counted.specs.CountedForms.{Move, computes, runs, reads, opens, opens_unique, dups, drops, plug}
use Rattle.kk_counted.specs.CountedCodes.{Counted}
use Rattle.kk_counted.specs.TokenedCodes.{Tokened}
use Rattle.kk_counted.specs.TokenedForms.{TokenedMove, tokened_arms, put_tokened, plug_tokened}
use Rattle.kk_counted.specs.Spending.{numbers_from}
use Rattle.kk_emitter.specs.Drafts.{Draft, chosen_of, copies, ended_by_value, ended_by_call}
use Rattle.kk_counted.specs.BareForms.{bare}

-- an arm that is ended: its steps, how it ends, and the slots of the tokens that it leaves to the code behind the branch, the
-- newest first
pub record EndedArm : Type 0 where
  pub moves : List TokenedMove
  pub end : Tokened
  pub spare : List ℕ

-- A branch that is not joined: on which variable, by which decisions; the steps of the block before it; the slots of the tokens
-- that each arm is to spend, the newest first; the same, the newest last, for each arm that is not entered; the arms that are
-- ended; and whether one of them ends by a tail call.
pub record TokenSplit : Type 0 where
  pub on : ℕ
  pub decisions : List NodeTree
  pub before : List TokenedMove
  pub each : List ℕ
  pub left : List (List ℕ)
  pub arms : List EndedArm
  pub tails : Bool

-- The steps of the block that is written; the slots of the unspent tokens, the newest first; the branches that are not joined,
-- the newest first; and how the block ends, once a branch with tail calls is joined.
pub record TokenDraft : Type 0 where
  pub moves : List TokenedMove
  pub spare : List ℕ
  pub splits : List TokenSplit
  pub ending : Option Tokened

abbrev pub no_tokens : TokenDraft
no_tokens = record { moves = []; spare = []; splits = []; ending = None }

-- the slot that the next token gets: the one above that of the newest token
abbrev pub next_slot : List ℕ → ℕ
next_slot [] = 0
next_slot (y ∷ ys) = suc y

-- steps are written that leave the tokens as they are; one that gives a token; and one that spends a token
abbrev pub adds : TokenDraft → List TokenedMove → TokenDraft
adds t moves = record t { moves = t.moves ++ moves }

abbrev pub gains : TokenDraft → TokenedMove → TokenDraft
gains t move = record t { moves = t.moves ++ move ∷ []; spare = next_slot t.spare ∷ t.spare }

abbrev pub spends : TokenDraft → TokenedMove → ℕ → TokenDraft
spends t move slot = record t { moves = t.moves ++ move ∷ []; spare = without (slot ∷ []) t.spare }

-- a call under the tokens: they are held before it, the oldest first, and taken back behind it, the newest first
abbrev pub under_holds : List ℕ → TokenedMove → List TokenedMove
under_holds spare call = map TokenedMove.holds (reverse spare) ++ call ∷ map TokenedMove.unholds spare

-- a step without its tokens, and so of several
abbrev pub bare_move : TokenedMove → List Move
bare_move (TokenedMove.computes x form arguments others) = computes x form arguments ∷ []
bare_move (TokenedMove.runs x block) = runs x (bare block) ∷ []
bare_move (TokenedMove.reads x c fields) = reads x c fields ∷ []
bare_move (TokenedMove.opens x c fields used y) = opens x c fields used ∷ []
bare_move (TokenedMove.opens_unique x c fields used y) = opens_unique x c fields used ∷ []
bare_move (TokenedMove.dups x) = dups x ∷ []
bare_move (TokenedMove.drops x) = drops x ∷ []
bare_move (TokenedMove.fills x y c first arguments kept others) = computes x (Construct c) (first ∷ arguments) ∷ []
bare_move (TokenedMove.frees y) = []
bare_move (TokenedMove.nulls y) = []
bare_move (TokenedMove.moves to of) = []
bare_move (TokenedMove.holds y) = []
bare_move (TokenedMove.unholds y) = []

abbrev pub bare_moves : List TokenedMove → List Move
bare_moves [] = []
bare_moves (move ∷ moves) = bare_move move ++ bare_moves moves

-- an arm without its tokens
abbrev pub bare_arm : EndedArm → Counted
bare_arm arm = plug (bare_moves arm.moves) (bare arm.end)

-- the steps that read the fields of a cell, and duplicate some of them
abbrev pub reads_with : ℕ → ℕ → List ℕ → List ℕ → List TokenedMove
reads_with x c fields used = TokenedMove.reads x c fields ∷ map TokenedMove.dups used

-- the positions that a mask names, of so many
abbrev pub kept_by : ℕ → ℕ → List ℕ
kept_by keep count = chosen_of keep (numbers_from 0 count)

-- ---- branches

-- a branch begins, each of whose arms gets all tokens
abbrev pub tokens_forked : TokenDraft → ℕ → List NodeTree → ℕ → TokenDraft
tokens_forked t on decisions rows =
    let split : TokenSplit =
    record {
      on = on;
      decisions = decisions;
      before = t.moves;
      each = t.spare;
      left = copies rows (reverse t.spare);
      arms = [];
      tails = false;
    } in
    record t { moves = []; spare = []; splits = split ∷ t.splits }

-- an arm is entered
abbrev pub tokens_entered_by : TokenDraft → TokenSplit → List TokenSplit → List (List ℕ) → TokenDraft
tokens_entered_by t split splits [] = t
tokens_entered_by t split splits (each ∷ left) =
    record t { spare = reverse each; splits = record split { left = left } ∷ splits }

abbrev pub tokens_entered_in : TokenDraft → List TokenSplit → TokenDraft
tokens_entered_in t [] = t
tokens_entered_in t (split ∷ splits) = tokens_entered_by t split splits split.left

abbrev pub tokens_entered : TokenDraft → TokenDraft
tokens_entered t = tokens_entered_in t t.splits

-- how a block ends that gives a variable's value
abbrev pub tokened_end : Option Tokened → ℕ → Tokened
tokened_end None x = Tokened.give x
tokened_end (Some code) x = code

-- a branch with one more arm that is ended, by a tail call or not
abbrev pub more_ended : TokenSplit → EndedArm → Bool → TokenSplit
more_ended split arm tails = record split { arms = split.arms ++ arm ∷ []; tails = split.tails || tails }

-- an arm is ended by a code, and leaves its tokens
abbrev pub tokens_ended_in : TokenDraft → Tokened → Bool → List TokenSplit → TokenDraft
tokens_ended_in t end tails [] = record t { ending = None }
tokens_ended_in t end tails (split ∷ splits) =
    record {
      moves = [];
      spare = [];
      splits = more_ended split (record { moves = t.moves; end = end; spare = t.spare }) tails ∷ splits;
      ending = None;
    }

abbrev pub tokens_ended_by : TokenDraft → ArmEnd → TokenDraft
tokens_ended_by t (Value owed debts) = tokens_ended_in t (tokened_end t.ending owed.variable) (is_some t.ending) t.splits
tokens_ended_by t (Tail f arguments) = tokens_ended_in t (Tokened.tail_call f arguments.items) true t.splits

-- the same of the counted code
abbrev pub ended_with : Draft → ArmEnd → Draft
ended_with d (Value owed debts) = ended_by_value d owed.variable
ended_with d (Tail f arguments) = ended_by_call d f arguments.items

-- how many tokens the arms leave at most, and a number that is above their slots
abbrev pub most_left : List EndedArm → ℕ
most_left [] = 0
most_left (arm ∷ arms) = max (length arm.spare) (most_left arms)

abbrev pub above_all : List EndedArm → ℕ
above_all [] = 0
above_all (arm ∷ arms) = max (next_slot arm.spare) (above_all arms)

-- the slots in which all arms leave tokens: as many as an arm leaves at most, the greatest below that number
abbrev pub joined_slots : List EndedArm → List ℕ
joined_slots arms = numbers_from (above_all arms - most_left arms) (most_left arms)

-- An arm's tokens are moved to the slots that all arms leave, from the newest on, both lists the newest first. Slots for which
-- it has no token are null.
abbrev pub renames : List ℕ → List ℕ → List TokenedMove
renames ys [] = []
renames [] (z ∷ zs) = TokenedMove.nulls z ∷ renames [] zs
renames (y ∷ ys) (z ∷ zs) = if y == z then renames ys zs else TokenedMove.moves z y ∷ renames ys zs

abbrev pub renamed : List ℕ → EndedArm → Tokened
renamed slots arm = plug_tokened (arm.moves ++ renames arm.spare slots) arm.end

abbrev pub joined_code : TokenSplit → Tokened
joined_code split =
    Tokened.case split.on split.decisions (tokened_arms (map (renamed (reverse (joined_slots split.arms))) split.arms))

-- the newest branch is joined, and a variable takes its value; where an arm ends by a tail call the branch ends the block
abbrev pub tokens_resumed : TokenDraft → TokenSplit → ℕ → Bool → TokenDraft
tokens_resumed t split x false =
    record t {
      moves = split.before ++ TokenedMove.runs x (joined_code split) ∷ [];
      spare = reverse (joined_slots split.arms);
    }
tokens_resumed t split x true =
    record t {
      moves = split.before;
      spare = reverse (joined_slots split.arms);
      ending = Some (joined_code split);
    }

abbrev pub tokens_joined_in : TokenDraft → ℕ → List TokenSplit → TokenDraft
tokens_joined_in t x [] = t
tokens_joined_in t x (split ∷ splits) = tokens_resumed (record t { splits = splits }) split x split.tails

abbrev pub tokens_joined : TokenDraft → ℕ → TokenDraft
tokens_joined t x = tokens_joined_in t x t.splits

-- the body of a function that gives a variable's value, as its steps were written
abbrev pub tokens_finished : TokenDraft → ℕ → Tokened
tokens_finished t x = plug_tokened t.moves (tokened_end t.ending x)

-- The same where a branch that is joined last and gives the value ends the body itself. Where a token is freed behind the branch,
-- it is not the last step.
abbrev pub is_tokened_branch : Tokened → Bool
is_tokened_branch (Tokened.case on decisions arms) = true
is_tokened_branch code = false

abbrev pub tokened_branch_into : ℕ → TokenedMove → Option Tokened
tokened_branch_into x (TokenedMove.runs y block) = if y == x && is_tokened_branch block then Some block else None
tokened_branch_into x move = None

abbrev pub tokens_given_behind : ℕ → TokenedMove → Option Tokened → Tokened
tokens_given_behind x move None = put_tokened move (Tokened.give x)
tokens_given_behind x move (Some branch) = branch

abbrev pub closed_moves : List TokenedMove → ℕ → Tokened
closed_moves [] x = Tokened.give x
closed_moves (move ∷ []) x = tokens_given_behind x move (tokened_branch_into x move)
closed_moves (move ∷ next ∷ moves) x = put_tokened move (closed_moves (next ∷ moves) x)

abbrev pub tokens_closed_by : List TokenedMove → Option Tokened → ℕ → Tokened
tokens_closed_by moves None x = closed_moves moves x
tokens_closed_by moves (Some code) x = plug_tokened moves code

abbrev pub tokens_closed : TokenDraft → ℕ → Tokened
tokens_closed t x = tokens_closed_by t.moves t.ending x

-- what is handed back of an end that finds no memory
abbrev pub held_of_end : ArmEnd → Held
held_of_end (Value owed debts) = Ending owed debts
held_of_end (Tail f arguments) = Nothing
