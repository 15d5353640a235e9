-- What an emitter asks of a form that it computes and of a cell that it fills, and what it gives of a cell that it opens.
use Rattle.std.specs.Prelude.{◌≡◌, ℕ, ◌<◌, false, List, [], ◌++◌, length}
use Rattle.kk_syntax.specs.declared.program.Form.{Form}
use Rattle.kk_counted.specs.CountedCodes.{CountedFunction}
use Rattle.kk_emitter.specs.declared.debts.Debts.{Debts}
use Rattle.kk_emitter.specs.declared.debts.Spare.{Spare}
use Rattle.kk_emitter.specs.Drafts.{Draft, HasFields, OwnsAll, fields_given, outside}
use Rattle.kk_counted.specs.VariableLists.{minus_all}
use Rattle.kk_counted.specs.Programs.{HaveParameters}
use Rattle.kk_counted.specs.Spending.{AllAmong, FitsForm, lent_by, used_by}
use Rattle.kk_emitter.specs.TokenDrafts.{TokenDraft, next_slot}

-- A form may be computed that uses up these of its arguments: those that it is lent are lent to the function, or stay owned, and
-- a function is called with as many arguments as it has parameters.
abbrev pub CanCompute : Draft → Form → List ℕ → List ℕ → Type 0
CanCompute d form arguments used =
    d.failed ≡ false → (functions : List CountedFunction)
    → (used_by d.positions functions form arguments ≡ used)
    × (AllAmong (lent_by d.positions functions form arguments) (d.lent ++ (minus_all used d.owed ++ outside d.uncalled d.splits))
    × (HaveParameters d.positions functions → FitsForm d.positions functions form arguments))

-- a constructor takes these references as its fields, of which it has one at least; no token is among them
abbrev pub TakesDebts : Draft → ℕ → Debts → Type 0
TakesDebts d constructor debts =
    OwnsAll d debts.emitter debts.variables.items
    × (HasFields d constructor (length debts.variables.items) × ((debts.spare.items ≡ []) × (0 < length debts.variables.items)))

-- what is given of a cell that is opened: the fields that the mask names, and its token
abbrev pub GivesFields : Draft → TokenDraft → ℕ → ℕ → Debts → Spare → Type 0
GivesFields d t constructor used debts spare =
    (debts.variables.items ≡ fields_given d constructor used) × ((debts.emitter ≡ d.instance)
    × ((debts.spare.items ≡ []) × ((spare.emitter ≡ d.instance) × (spare.slot ≡ next_slot t.spare))))
