-- Marked code gives operators and prints values without cells; and so does what drop specialisation makes of such code.
use Rattle.std.proofs.Common.{◌≡◌, ℕ, Bool, false, List, [], ◌∷◌, map}
use Rattle.kk_syntax.specs.declared.program.Form.{Form}
use Rattle.kk_syntax.specs.declared.program.Form.TheVariants.{Number, Unit as Nothing, ReadByte, PrintText, Unary, Binary, Print, Construct, Call}
use Rattle.kk_source.specs.Live.{value_of}
use Rattle.kk_source.specs.State.{Value, integer, unit, constant, place, Environment}
use Rattle.kk_counted.specs.CountedCodes.{Counted, give, tail_call, case, compute, inside, read, open_cell, if_unique, dup, drop}
use Rattle.kk_counted.specs.CountedStates.{CountedJoin, CountedFrame, CountedControl, running, stopped, stuck}
use Rattle.kk_counted.specs.CountedMachine.{NotStuck}
use Rattle.kk_counted.specs.Heaps.{Heap}
use Rattle.kk_counted.specs.Keeping.{HasNoCell, HaveNoCells, TakesNoCells, FitsAt}
use Rattle.kk_counted.specs.MarkKeeping.{FitsMark, RunFits, ControlFits}
use Rattle.kk_counted.specs.Marks.{CellMarks, AreUnmarked, IsFormMarked, result_mark}
use Rattle.kk_insert.specs.Meaning.{EndsClean}
use Rattle.kk_dropspec.specs.Specialised.{special_control}

no_cell : (v : Value) → FitsMark false v → HasNoCell v
no_cell (integer n) fits = tt
no_cell unit fits = tt
no_cell (constant c) fits = tt
no_cell (place at) fits = absurd fits

-- the law on variables that are not marked
abbrev pub NamesNoCell : Type 0
NamesNoCell =
    (marks : CellMarks) (holds : ℕ → Bool) (result : Bool) (code : Counted) (environment : Environment) (joins : List CountedJoin)
    → RunFits marks holds result code environment joins
    → (x : ℕ) → holds x ≡ false → FitsMark false (value_of environment x)

module _ (unmarked : NamesNoCell) (marks : CellMarks) where
  module _ (holds : ℕ → Bool) (environment : Environment)
      (none : (x : ℕ) → holds x ≡ false → FitsMark false (value_of environment x)) where
    have_none : (xs : List ℕ) → AreUnmarked holds xs → HaveNoCells (map (value_of environment) xs)
    have_none [] are = tt
    have_none (x ∷ xs) are = (no_cell (value_of environment x) (none x are.0), have_none xs are.1)

    takes_none : (form : Form) (xs : List ℕ) (mark : Bool) → IsFormMarked marks holds form xs mark
        → TakesNoCells form (map (value_of environment) xs)
    takes_none (Number n) xs mark is = have_none xs is.0
    takes_none Nothing xs mark is = have_none xs is.0
    takes_none ReadByte xs mark is = have_none xs is.0
    takes_none (PrintText form text) xs mark is = have_none xs is.0
    takes_none (Unary operator) xs mark is = have_none xs is.0
    takes_none (Binary operator) xs mark is = have_none xs is.0
    takes_none (Print form) xs mark is = have_none xs is.0
    takes_none (Construct c) xs mark is = tt
    takes_none (Call f) xs mark is = tt

  code_fits : (holds : ℕ → Bool) (result : Bool) (code : Counted) (environment : Environment) (joins : List CountedJoin)
      → RunFits marks holds result code environment joins → FitsAt (running code environment joins)
  code_fits holds result (give x) environment joins fits = tt
  code_fits holds result (tail_call f arguments) environment joins fits = tt
  code_fits holds result (case x decisions arms) environment joins fits = tt
  code_fits holds result (compute x form arguments rest) environment joins fits =
      takes_none holds environment (unmarked marks holds result (compute x form arguments rest) environment joins fits) form
      arguments (holds x) fits.code_marked.1.0
  code_fits holds result (inside x block rest) environment joins fits = tt
  code_fits holds result (read x c fields rest) environment joins fits = tt
  code_fits holds result (open_cell x c fields used rest) environment joins fits = tt
  code_fits holds result (if_unique x c fields used rest) environment joins fits = tt
  code_fits holds result (dup x rest) environment joins fits = tt
  code_fits holds result (drop x rest) environment joins fits = tt

  pub control_fits : (holds : ℕ → ℕ → Bool) (control : CountedControl) (numbers : List ℕ) (frames : List CountedFrame)
      → ControlFits marks holds control numbers frames → FitsAt control
  control_fits holds (running code environment joins) [] frames fits = absurd fits
  control_fits holds (running code environment joins) (f ∷ numbers) frames fits =
      code_fits (holds f) (result_mark marks f) code environment joins fits.0
  control_fits holds (stopped by) numbers frames fits = tt
  control_fits holds stuck numbers frames fits = tt

-- ---- specialised code

pub special_fits : (control : CountedControl) → FitsAt control → FitsAt (special_control control)
special_fits (running (give x) environment joins) fits = tt
special_fits (running (tail_call f arguments) environment joins) fits = tt
special_fits (running (case x decisions arms) environment joins) fits = tt
special_fits (running (compute x form arguments rest) environment joins) fits = fits
special_fits (running (inside x block rest) environment joins) fits = tt
special_fits (running (read x c fields rest) environment joins) fits = tt
special_fits (running (open_cell x c fields used rest) environment joins) fits = tt
special_fits (running (if_unique x c fields used rest) environment joins) fits = tt
special_fits (running (dup x rest) environment joins) fits = tt
special_fits (running (drop x rest) environment joins) fits = tt
special_fits (stopped by) fits = tt
special_fits stuck fits = tt

pub special_goes : (control : CountedControl) → NotStuck control → NotStuck (special_control control)
special_goes (running code environment joins) goes = tt
special_goes (stopped by) goes = tt
special_goes stuck goes = absurd goes

pub special_clean : (control : CountedControl) (heap : Heap) → EndsClean control heap → EndsClean (special_control control) heap
special_clean (running code environment joins) heap clean = tt
special_clean (stopped by) heap clean = clean
special_clean stuck heap clean = tt
