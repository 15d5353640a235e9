-- What is written of branches of two rows, the first of which gives a value.
use Rattle.std.specs.Prelude.{ℕ, true, false, [], ◌∷◌}
use Rattle.kk_syntax.specs.declared.positions.Ownership.TheVariants.{Owned}
use Rattle.kk_core.specs.Truths.{truth_decisions}
use Rattle.kk_counted.specs.TokenedCodes.{Tokened}
use Rattle.kk_counted.specs.TokenedForms.{TokenedMove, opens_with}
use Rattle.kk_emitter.specs.Drafts.{Draft, begun, given, unpacked, forked, entered, ended_by_value}
use Rattle.kk_emitter.specs.TokenDrafts.{TokenDraft, no_tokens, gains, spends, tokens_forked, tokens_entered, tokens_ended_in}
use Rattle.counted_tests.specs.CellTables.{table_of}

-- A branch on a variable, whose rows are to spend one: the first row has given that, and the other is entered.
abbrev pub behind_first : Draft → ℕ → ℕ → Draft
behind_first d on each = entered (ended_by_value (entered (forked d on truth_decisions (each ∷ []) 2)) each)

-- the tokens of such a branch where its first row is entered
abbrev pub tokens_first : TokenDraft → ℕ → TokenDraft
tokens_first t on = tokens_entered (tokens_forked t on truth_decisions 2)

-- the tokens where a row gives a value, in a branch without tail calls
abbrev pub tokens_given : TokenDraft → ℕ → TokenDraft
tokens_given t x = tokens_ended_in t (Tokened.give x) false t.splits

-- The second row of a branch on what is inside of the parameter, a box, which is opened by its count. The first row has freed the
-- cell and given that.
abbrev pub box_row : Draft
box_row = behind_first (unpacked (given (begun ((Owned ∷ []) ∷ []) (1 ∷ []) (table_of ((true ∷ []) ∷ [])) 0) 0) true 0 0 1) 1 1

abbrev pub tokens_box_row : TokenDraft
tokens_box_row =
    tokens_entered
    (tokens_given (spends (tokens_first (gains no_tokens (opens_with true 0 0 (1 ∷ []) (1 ∷ []) 0)) 1) (TokenedMove.frees 0) 0) 1)
