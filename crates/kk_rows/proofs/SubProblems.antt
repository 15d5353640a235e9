-- A problem is settled by the problems that are added for it.
use Rattle.std.proofs.Common.{◌≡◌, ◌≤◌, inr, ℕ, suc, ℤ, List, [], ◌∷◌, ◌++◌, length, Result, Ok, Err, refl, subst}
use Rattle.std.specs.Result.{OnOk}
use Rattle.kk_syntax.specs.Programs.{ProgramTree}
use Rattle.kk_slots.specs.declared.problem.Asked.TheVariants as OfAsked
use Rattle.kk_slots.specs.declared.problem.Head.TheVariants.{Free, Number}
use Rattle.kk_syntax.specs.Covered.{Each}
use Rattle.kk_slots.specs.Narrowing.{opened}
use Rattle.kk_slots.specs.Problems.{OpenProblem, child, children, first_asked, LacksNumber, owner, IsEnough, StepsTo, Settled}

pub on_ok : {T E : Type 0} (r : Result T E) (P Q : Type 0) → (P → Q) → OnOk r P → OnOk r Q
on_ok (Ok x) P Q f h = f h
on_ok (Err e) P Q f h = h

module _ (program : ProgramTree) (p : OpenProblem) (before after : List OpenProblem) where
  pub free_settled : (w : ℕ) → p.width ≡ suc w → OfAsked.Nothing ≡ first_asked p.rows → after ≡ before ++ (child p Free (opened p.rows) w ∷ []) → Settled program p before after
  free_settled w width asked grown = record {
    more = child p Free (opened p.rows) w ∷ [];
    settles = inr (w, width, subst (λ a. StepsTo program p w a (child p Free (opened p.rows) w ∷ [])) asked refl);
    grown = grown;
  }

  pub number_settled : (w : ℕ) (n : ℤ) → Each (LacksNumber n) p.rows → p.width ≡ suc w → OfAsked.Number ≡ first_asked p.rows → after ≡ before ++ (child p (Number n) (opened p.rows) w ∷ []) → Settled program p before after
  number_settled w n lacks width asked grown = record {
    more = child p (Number n) (opened p.rows) w ∷ [];
    settles = inr (w, width, subst (λ a. StepsTo program p w a (child p (Number n) (opened p.rows) w ∷ [])) asked (n, lacks, refl));
    grown = grown;
  }

  pub made_settled : (w c end : ℕ) → end ≤ length program.constructors → IsEnough program (owner program c) p.rows end → p.width ≡ suc w → OfAsked.Constructor c ≡ first_asked p.rows → after ≡ before ++ children program (owner program c) p w end → Settled program p before after
  made_settled w c end most enough width asked grown = record {
    more = children program (owner program c) p w end;
    settles = inr (w, width, subst (λ a. StepsTo program p w a (children program (owner program c) p w end)) asked (end, most, enough, refl));
    grown = grown;
  }
