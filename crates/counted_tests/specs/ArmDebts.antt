-- What the arms of the branches of these tests are to spend.
use Rattle.std.specs.Prelude.{◌≡◌, ℕ, false, List, [], ◌∷◌, None}
use Rattle.kk_syntax.specs.declared.positions.Ownership.TheVariants.{Owned}
use Rattle.kk_emitter.specs.declared.debts.Owed.{Owed}
use Rattle.kk_emitter.specs.declared.debts.Debts.{Debts}
use Rattle.kk_emitter.specs.Drafts.{Draft, Writes, IsInArm, HasFields}
use Rattle.kk_emitter.specs.TokenDrafts.{TokenDraft}

-- An arm is written, which owns one variable and the tokens in some slots, one at most. The debts are these.
pub record IsArmOf (x : ℕ) (slots : List ℕ) (d : Draft) (t : TokenDraft) (debts : Debts) : Type 0 where
  pub writes : Writes d
  pub arm : d.failed ≡ false → IsInArm d.splits
  pub variables : debts.variables.items ≡ x ∷ []
  pub tokens : debts.spare.items ≡ slots
  pub of : debts.emitter ≡ d.instance
  pub owed : d.failed ≡ false → d.owed ≡ x ∷ []
  pub spare : d.failed ≡ false → t.spare ≡ slots
  pub ending : d.failed ≡ false → t.ending ≡ None

-- A row is written where the first constructor has two fields, by a function of one owned parameter, which is all that it owns. The
-- next variable is so.
pub record IsCellRow (variable : ℕ) (d : Draft) (t : TokenDraft) (cell : Owed) : Type 0 where
  pub writes : Writes d
  pub positions : d.positions ≡ (Owned ∷ []) ∷ []
  pub fields : HasFields d 0 2
  pub parameter : cell.variable ≡ 0
  pub of : cell.emitter ≡ d.instance
  pub owed : d.failed ≡ false → d.owed ≡ 0 ∷ []
  pub next : d.failed ≡ false → d.next ≡ variable
  pub spare : d.failed ≡ false → t.spare ≡ []
