-- The lines of a step before those of the code that follows it: together they are well formed, and have only their own labels.
use Rattle.std.proofs.Common.{◌≡◌, ℕ, ◌+◌, ◌<◌, Bool, true, List, [], ◌∷◌, ◌++◌, length, sym, subst, append_assoc}
use Rattle.kk_counted.specs.Lowerable.{AreBelow, bound_list}
use Rattle.kk_core.specs.Sizes.{AreBound}
use Rattle.kk_syntax.specs.Shapes.{is_among as is_bound}
use Rattle.rv_isa.specs.AsmCode.{Line}
use Rattle.rv_lower.specs.Lowered.{Goal}
use Rattle.rv_lower.proofs.WellFormedness.{AllBound, Readable, Good, HasRoom}
use Rattle.rv_lower.proofs.AbsentLabels.{has_no_append}
use Rattle.rv_lower.proofs.Operations.{Leads}
use Rattle.rv_lower.proofs.Codes.{Fits}
use Rattle.rv_cells.specs.CellLines.{dup_lines, drop_lines, ConstructLines, ReadLines}
use Rattle.rv_cells.proofs.CellForms.{dup_leads, drop_leads, construct_leads}
use Rattle.rv_cells.proofs.ReadingLines.{reads_lead}

-- variables that are bound are so for the lines of forms
pub all_bound : (bound xs : List ℕ) → AreBound bound xs → AllBound bound xs
all_bound bound [] are = tt
all_bound bound (x ∷ xs) are = (are.0, all_bound bound xs are.1)

-- a step before the code that follows, by what is bound behind it
pub fits_step : (base : ℕ) (bound behind outer : List ℕ) (goal : Goal) (low high m : ℕ) (own more : List Line)
    → Leads (Readable base base bound) (Readable base base behind) m own
    → Fits base behind outer goal low high more → Fits base bound outer goal low high (own ++ more)
fits_step base bound behind outer goal low high m own more leads fits = record {
  up = fits.up;
  none = λ l apart. has_no_append l own more (leads.no_label l) (fits.none l apart);
  good = λ tail ahead. subst (Good (Readable base base bound)) (sym (append_assoc own more tail))
      (leads.good (more ++ tail) (fits.good tail ahead));
}

module _ (base : ℕ) (bound outer : List ℕ) (has : HasRoom base bound) (goal : Goal) (low high : ℕ) (more : List Line) where
  -- a reference more, and one less
  pub fits_dup : (holds : ℕ → Bool) (x : ℕ) → is_bound bound x ≡ true → Fits base bound outer goal low high more
      → Fits base bound outer goal low high (dup_lines holds x ++ more)
  fits_dup holds x is fits =
      fits_step base bound bound outer goal low high 1 (dup_lines holds x) more (dup_leads base bound holds x has is) fits

  pub fits_drop : (holds : ℕ → Bool) (x : ℕ) → is_bound bound x ≡ true → Fits base bound outer goal low high more
      → Fits base bound outer goal low high (drop_lines holds x ++ more)
  fits_drop holds x is fits =
      fits_step base bound bound outer goal low high 1 (drop_lines holds x) more (drop_leads base bound holds x has is) fits

  -- a construction
  pub fits_construct : (x header : ℕ) (arguments : List ℕ) (own : List Line) → x < base → AreBound bound arguments
      → ConstructLines base x header arguments own → Fits base (x ∷ bound) outer goal low high more
      → Fits base bound outer goal low high (own ++ more)
  fits_construct x header arguments own less are is fits =
      fits_step base bound (x ∷ bound) outer goal low high (5 + length arguments) own more
      (construct_leads base bound x header arguments own has less are is) fits

  -- a reading
  pub fits_read : (x : ℕ) (fields : List ℕ) (own : List Line) → is_bound bound x ≡ true → AreBelow base fields
      → ReadLines x fields own → Fits base (bound_list fields bound) outer goal low high more
      → Fits base bound outer goal low high (own ++ more)
  fits_read x fields own is below lines fits =
      fits_step base bound (bound_list fields bound) outer goal low high (length fields) own more
      (reads_lead base bound x fields own has is below lines) fits
