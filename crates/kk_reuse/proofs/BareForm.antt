-- Paired code without its tokens is the code that it is made of.
use Rattle.std.proofs.Common.{◌≡◌, ℕ, zero, suc, ◌-◌, Bool, true, false, if◌then◌else◌, List, [], ◌∷◌, refl, ap, ◌∙◌}
use Rattle.kk_syntax.specs.declared.program.Form.{Form}
use Rattle.kk_syntax.specs.declared.program.Form.TheVariants.{Number, Unit as Nothing, ReadByte, PrintText, Unary, Binary, Print, Construct, Call}
use Rattle.kk_counted.specs.CountedCodes.{Counted, give, tail_call, case, compute, inside, read, open_cell, if_unique, dup, drop, CountedArms, no_arm, arm}
use Rattle.kk_counted.specs.TokenedCodes.{Tokened}
use Rattle.kk_counted.specs.BareForms.{bare, bare_arms}
use Rattle.kk_reuse.specs.Following.{may_make, kept, taken}
use Rattle.kk_reuse.specs.Pairing.{frees, holds, all_taken_back, nulls, moves_up, filled_up, settled, left_by, paired_form, paired, paired_arms}
use Rattle.kk_reuse.proofs.TakenBack.{HeldAgain, back_so}

pub bare_frees : (n : ℕ) (code : Tokened) → bare (frees n code) ≡ bare code
bare_frees zero code = refl
bare_frees (suc n) code = bare_frees n code

bare_holds : (n : ℕ) (code : Tokened) → bare (holds n code) ≡ bare code
bare_holds zero code = refl
bare_holds (suc n) code = bare_holds n (Tokened.hold n code)

pub bare_again : (y : ℕ) (code less : Tokened) → HeldAgain y code less → bare less ≡ bare code
bare_again y _ _ (HeldAgain.here rest) = refl
bare_again y _ _ (HeldAgain.behind x code less again) = ap (drop x) (bare_again y code less again)

pub bare_back : (n : ℕ) (code : Tokened) → bare (all_taken_back n code) ≡ bare code
bare_back zero code = refl
bare_back (suc n) code =
    back_so (λ back. bare back ≡ bare code) n (all_taken_back n code) (bare_back n code)
    (λ less again. bare_again n (all_taken_back n code) less again ∙ bare_back n code)

bare_nulls : (n : ℕ) (code : Tokened) → bare (nulls n code) ≡ bare code
bare_nulls zero code = refl
bare_nulls (suc n) code = bare_nulls n code

bare_moves : (by n : ℕ) (code : Tokened) → bare (moves_up by n code) ≡ bare code
bare_moves by zero code = refl
bare_moves by (suc n) code = bare_moves by n code

bare_filled : (more n : ℕ) (code : Tokened) → bare (filled_up more n code) ≡ bare code
bare_filled zero n code = refl
bare_filled (suc more) n code = bare_moves (suc more) n (nulls (suc more) code) ∙ bare_nulls (suc more) code

pub bare_settled : (behind : Bool) (rest : Counted) (n : ℕ) (code : Tokened) → bare (settled behind rest n code) ≡ bare code
bare_settled behind rest n code = by (may_make behind rest)
  where
    by : (b : Bool) → bare (if b then code else frees n code) ≡ bare code
    by true = refl
    by false = bare_frees n code

bare_form : (n x : ℕ) (form : Form) (arguments : List ℕ) (rest : Tokened)
    → bare (paired_form n x form arguments rest) ≡ compute x form arguments (bare rest)
bare_form n x (Call f) arguments rest =
    called n
  where
    called : (n : ℕ) → bare (paired_form n x (Call f) arguments rest) ≡ compute x (Call f) arguments (bare rest)
    called zero = refl
    called (suc n) =
        bare_holds (suc n) (Tokened.compute x (Call f) arguments [] (all_taken_back (suc n) rest))
        ∙ ap (compute x (Call f) arguments) (bare_back (suc n) rest)
bare_form zero x (Construct c) [] rest = refl
bare_form zero x (Construct c) (first ∷ arguments) rest = refl
bare_form (suc n) x (Construct c) [] rest = refl
bare_form (suc n) x (Construct c) (first ∷ arguments) rest = refl
bare_form zero x (Number k) arguments rest = refl
bare_form zero x Nothing arguments rest = refl
bare_form zero x ReadByte arguments rest = refl
bare_form zero x (PrintText how text) arguments rest = refl
bare_form zero x (Unary operator) arguments rest = refl
bare_form zero x (Binary operator) arguments rest = refl
bare_form zero x (Print how) arguments rest = refl
bare_form (suc n) x (Number k) arguments rest = refl
bare_form (suc n) x Nothing arguments rest = refl
bare_form (suc n) x ReadByte arguments rest = refl
bare_form (suc n) x (PrintText how text) arguments rest = refl
bare_form (suc n) x (Unary operator) arguments rest = refl
bare_form (suc n) x (Binary operator) arguments rest = refl
bare_form (suc n) x (Print how) arguments rest = refl

mutual
  pub bare_paired : (behind : Bool) (l n : ℕ) (code : Counted) → bare (paired behind l n code) ≡ code
  bare_paired behind l n (give x) = bare_filled (l - n) n (Tokened.give x)
  bare_paired behind l n (tail_call f arguments) = bare_frees n (Tokened.tail_call f arguments)
  bare_paired behind l n (case x decisions arms) = ap (case x decisions) (bare_paired_arms behind l n arms)
  bare_paired behind l n (compute x form arguments rest) =
      bare_form n x form arguments
      (settled behind rest (taken form arguments n) (paired behind l (kept behind rest (taken form arguments n)) rest))
      ∙ ap (compute x form arguments) (bare_settled behind rest (taken form arguments n)
      (paired behind l (kept behind rest (taken form arguments n)) rest)
      ∙ bare_paired behind l (kept behind rest (taken form arguments n)) rest)
  bare_paired behind l n (inside x block rest) =
      let m = left_by behind n block rest in
      let b = may_make behind rest in
      let first = bare_settled b block n (paired b m (kept b block n) block) ∙ bare_paired b m (kept b block n) block in
      let second = bare_settled behind rest m (paired behind l (kept behind rest m) rest)
      ∙ bare_paired behind l (kept behind rest m) rest in
      ap (λ body. inside x body (bare (settled behind rest m (paired behind l (kept behind rest m) rest)))) first
      ∙ ap (inside x block) second
  bare_paired behind l n (read x c fields rest) =
      ap (read x c fields) (bare_settled behind rest n (paired behind l (kept behind rest n) rest)
      ∙ bare_paired behind l (kept behind rest n) rest)
  bare_paired behind l n (open_cell x c fields used rest) =
      ap (open_cell x c fields used) (bare_settled behind rest (suc n) (paired behind l (kept behind rest (suc n)) rest)
      ∙ bare_paired behind l (kept behind rest (suc n)) rest)
  bare_paired behind l n (if_unique x c fields used rest) =
      ap (if_unique x c fields used) (bare_settled behind rest (suc n) (paired behind l (kept behind rest (suc n)) rest)
      ∙ bare_paired behind l (kept behind rest (suc n)) rest)
  bare_paired behind l n (dup x rest) =
      ap (dup x) (bare_settled behind rest n (paired behind l (kept behind rest n) rest)
      ∙ bare_paired behind l (kept behind rest n) rest)
  bare_paired behind l n (drop x rest) =
      ap (drop x) (bare_settled behind rest n (paired behind l (kept behind rest n) rest)
      ∙ bare_paired behind l (kept behind rest n) rest)

  pub bare_paired_arms : (behind : Bool) (l n : ℕ) (arms : CountedArms) → bare_arms (paired_arms behind l n arms) ≡ arms
  bare_paired_arms behind l n no_arm = refl
  bare_paired_arms behind l n (arm body rest) =
      let first = bare_settled behind body n (paired behind l (kept behind body n) body)
      ∙ bare_paired behind l (kept behind body n) body in
      ap (λ code. arm code (bare_arms (paired_arms behind l n rest))) first ∙ ap (arm body) (bare_paired_arms behind l n rest)
