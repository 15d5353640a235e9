-- Runs over an instruction set, one after the other: a run in two parts is one run, and what has ended stays.
use Rattle.std.proofs.Common.{◌≡◌, ◌≢◌, ◌<◌, inl, inr, ℕ, zero, suc, ◌+◌, ◌-◌}
use Rattle.std.proofs.Common.{refl, sym, ap, ◌∙◌, subst, arith, add_assoc, add-zero, zero-add}
use Rattle.std.proofs.lemmas.Bool.{cases_lt}
use Rattle.rv_isa.specs.Processor.{Processor, Ending, going, exited, trapped, Progress, goes}
use Rattle.rv_isa.specs.InstructionSet.{InstructionSet, step_over, resumes, go_on, run_over, LeadsOver}

resumes-resumes : (e : Ending) (s : Processor) (f g : Processor → Progress) → resumes e s (λ t. go_on (f t) g) ≡ go_on (resumes e s f) g
resumes-resumes going s f g = refl
resumes-resumes (exited n) s f g = refl
resumes-resumes (trapped c p w) s f g = refl

go_on-go_on : (a : Progress) (f g : Processor → Progress) → go_on a (λ t. go_on (f t) g) ≡ go_on (go_on a f) g
go_on-go_on a f g = resumes-resumes a.ending a.processor f g

resumes-same : (e : Ending) (s : Processor) (f g : Processor → Progress) → ((t : Processor) → f t ≡ g t) → resumes e s f ≡ resumes e s g
resumes-same going s f g same = same s
resumes-same (exited n) s f g same = refl
resumes-same (trapped c p w) s f g same = refl

resumes-ended : (e : Ending) (s : Processor) (f : Processor → Progress) → e ≢ going → resumes e s f ≡ record { processor = s; ending = e }
resumes-ended going s f ended = absurd (ended refl)
resumes-ended (exited n) s f ended = refl
resumes-ended (trapped c p w) s f ended = refl

-- what has come to an end stays
pub go_on-ended : (a : Progress) (f : Processor → Progress) → a.ending ≢ going → go_on a f ≡ a
go_on-ended a f ended = resumes-ended a.ending a.processor f ended

module _ {I : Type 0} (set : InstructionSet I) where
  pub run-zero : (s : Processor) → run_over set 0 s ≡ goes s
  unfolding run_over
  run-zero s = refl

  pub run-suc : (n : ℕ) (s : Processor) → run_over set (suc n) s ≡ go_on (step_over set s) (run_over set n)
  unfolding run_over
  run-suc n s = refl

  resumes-none : (e : Ending) (s : Processor) → resumes e s (run_over set 0) ≡ record { processor = s; ending = e }
  resumes-none going s = run-zero s
  resumes-none (exited n) s = refl
  resumes-none (trapped c p w) s = refl

  -- a run in two parts
  pub run-add : (n k : ℕ) (s : Processor) → run_over set (n + k) s ≡ go_on (run_over set n s) (run_over set k)
  run-add zero k s = rw (zero-add, run-zero) refl
  run-add (suc n) k s =
      let sum : suc n + k ≡ suc (n + k) = omega arith in
      rw (sum, run-suc, run-suc)
      (resumes-same (step_over set s).ending (step_over set s).processor (run_over set (n + k)) (λ t. go_on (run_over set n t) (run_over set k)) (run-add n k)
      ∙ go_on-go_on (step_over set s) (run_over set n) (run_over set k))

  -- what a run has come to goes on, in two parts
  pub go_on-add : (a : Progress) (n k : ℕ) → go_on a (run_over set (n + k)) ≡ go_on (go_on a (run_over set n)) (run_over set k)
  go_on-add a n k =
      resumes-same a.ending a.processor (run_over set (n + k)) (λ t. go_on (run_over set n t) (run_over set k)) (run-add n k) ∙ go_on-go_on a (run_over set n) (run_over set k)

  pub go_on-none : (a : Progress) → go_on a (run_over set 0) ≡ a
  go_on-none a = resumes-none a.ending a.processor

  -- a run of one instruction
  pub run-one : (s : Processor) → run_over set 1 s ≡ step_over set s
  run-one s = run-suc 0 s ∙ go_on-none (step_over set s)

module _ {I : Type 0} {set : InstructionSet I} where
  -- leading from one state to another
  pub Leads-none : (s : Processor) → LeadsOver set 0 s s
  Leads-none s = record { by = λ more. ap (λ n. run_over set n s) (zero-add more) }

  pub Leads-then : {n k : ℕ} {s t u : Processor} → LeadsOver set n s t → LeadsOver set k t u → LeadsOver set (n + k) s u
  Leads-then {n} {k} {s} {t} {u} first second = record {
    by = λ more. ap (λ m. run_over set m s) (add_assoc n k more) ∙ first.by (k + more) ∙ second.by more;
  }

  pub Leads-step : {s t : Processor} → step_over set s ≡ goes t → LeadsOver set 1 s t
  Leads-step {s} {t} is = record {
    by = λ more. let sum : 1 + more ≡ suc more = omega arith in rw (sum, run-suc set more s, is) refl;
  }

  -- the state that it leads to is what the run has come to
  pub Leads-run : {n : ℕ} {s t : Processor} → LeadsOver set n s t → run_over set n s ≡ goes t
  Leads-run {n} {s} {t} leads = ap (λ m. run_over set m s) (sym (add-zero n)) ∙ leads.by 0 ∙ run-zero set t

  -- a run that comes to an end by one more instruction stays there
  pub Leads-ended : {n : ℕ} {s t : Processor} {after : Progress} → LeadsOver set n s t → step_over set t ≡ after → after.ending ≢ going → (more : ℕ) → run_over set (n + suc more) s ≡ after
  Leads-ended {n} {s} {t} {after} leads is ended more =
      leads.by (suc more) ∙ run-suc set more t ∙ rw is (go_on-ended after (run_over set more) ended)

  -- what is so of each progress of two runs, the one behind the other, is so of each of the whole
  pub Leads-each : (P : Progress → Type 0) {n k : ℕ} {s t : Processor} → LeadsOver set n s t
      → ((j : ℕ) → j < n → P (run_over set j s)) → ((j : ℕ) → j < k → P (run_over set j t))
      → (j : ℕ) → j < n + k → P (run_over set j s)
  Leads-each P {n} {k} {s} {t} leads before behind j less =
      elim (cases_lt j n) [
        | inl near ↦ before j near
        | inr far ↦
            (let whole : n + (j - n) ≡ j = omega arith in
            subst (λ (m : ℕ). P (run_over set m s)) whole (subst P (sym (leads.by (j - n))) (behind (j - n) (omega arith))))
      ]
