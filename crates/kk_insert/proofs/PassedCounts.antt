-- A number of code to which dups, drops and forms add nothing is that of the code behind them.
use Rattle.std.proofs.Common.{◌≡◌, ◌∙◌, ℕ, List, [], ◌∷◌, refl}
use Rattle.kk_syntax.specs.declared.program.Form.{Form}
use Rattle.kk_syntax.specs.PositionsOf.{PositionTable}
use Rattle.kk_syntax.specs.Shapes.{without}
use Rattle.kk_core.specs.Codes.{Code, compute}
use Rattle.kk_counted.specs.CountedCodes as Counted
use Rattle.kk_insert.specs.Insertion.{dups, drops, dropping, owns, wants, back, used, lends, own, insert}

module _ (number : Counted.Counted → ℕ) (at_dup : (x : ℕ) (rest : Counted.Counted) → number (Counted.dup x rest) ≡ number rest)
    (at_drop : (x : ℕ) (rest : Counted.Counted) → number (Counted.drop x rest) ≡ number rest) where
  pub past_dups : (xs : List ℕ) (rest : Counted.Counted) → number (dups xs rest) ≡ number rest
  past_dups [] rest = refl
  past_dups (x ∷ xs) rest = at_dup x (dups xs rest) ∙ past_dups xs rest

  pub past_drops : (xs : List ℕ) (rest : Counted.Counted) → number (drops xs rest) ≡ number rest
  past_drops [] rest = refl
  past_drops (x ∷ xs) rest = at_drop x (drops xs rest) ∙ past_drops xs rest

  -- an inserted form stands between dups and drops
  pub past_form : (positions : PositionTable) (lent left : List ℕ) (x : ℕ) (form : Form) (arguments : List ℕ) (rest : Code)
      → ((behind : Counted.Counted) → number (Counted.compute x form arguments behind) ≡ number behind)
      → number (insert positions lent left (compute x form arguments rest)) ≡ number (insert positions lent left rest)
  past_form positions lent left x form arguments rest at_form =
      let now : List ℕ = own positions lent left rest in
      let given : List ℕ = lends positions form arguments in
      let after : List ℕ = owns lent given (without (x ∷ []) now) in
      let code : Counted.Counted = insert positions lent left rest in
      past_dups (wants lent (used positions form arguments) after) (Counted.compute x form arguments (back lent given x now code))
      ∙ (at_form (back lent given x now code)
      ∙ (past_drops (without (without (x ∷ []) now) after) (dropping (x ∷ []) now code)
      ∙ past_drops (without now (x ∷ [])) code))
