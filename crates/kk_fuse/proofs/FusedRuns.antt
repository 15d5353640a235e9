-- Runs of fused code: each state stands for one of the code that it is made of, at no higher cost.
use Rattle.std.proofs.Common.{◌≡◌, ◌⊎◌, inl, inr, ℕ, suc, ◌+◌, ◌-◌, ◌≤◌, ◌<◌, List, [], ◌∷◌, map, Some, arith, refl, sym, ap, ◌∙◌, subst, zero-mul, append-nil}
use Rattle.kk_base.specs.Machines.{Machine, state}
use Rattle.kk_base.specs.Simulations.{Reaches, Simulates}
use Rattle.kk_base.proofs.Machines.{state-add, state_ended, trace_ended}
use Rattle.kk_syntax.specs.PositionsOf.{PositionTable}
use Rattle.kk_source.specs.State.{Environment, End}
use Rattle.kk_source.specs.Notes.{Note}
use Rattle.kk_source.specs.Actions.{performed}
use Rattle.kk_counted.specs.CountedCodes.{Counted, dup}
use Rattle.kk_counted.specs.CountedCosts.{roomy_cost}
use Rattle.kk_counted.specs.Heaps.{forwards}
use Rattle.kk_counted.specs.CountedStates.{CountedSetting, CountedJoin, CountedControl, running, stopped, stuck, CountedConfiguration, CountedState, counted_first_state, counted_end_at}
use Rattle.kk_counted.specs.CountedMachine.{counted_code_step, counted_machine, NotStuck}
use Rattle.kk_counted.specs.References.{cells_of}
use Rattle.kk_counted.specs.Spending.{IsSpent}
use Rattle.kk_counted.specs.Keeping.{FitsAt, IsRunning, IsKeptAt, IsKept, HasShape, FitsAlways, HasShapeAlways}
use Rattle.kk_counted.proofs.SoundRuns.{keeps_sound}
use Rattle.kk_counted.proofs.Progress.{never_stuck}
use Rattle.kk_fuse.specs.Fused.{fuse, fused_setting}
use Rattle.kk_fuse.specs.FusedRuns.{steps_in, HasFewSteps, fused_join, fused_frame, IsAtForm, IsBetween, AreAtOne, AreFusedStates}
use Rattle.kk_fuse.proofs.HeapEffects.{IsSeen}
use Rattle.kk_fuse.proofs.Steps.{fused_control, fused_configuration, Stays, steps_same}
use Rattle.kk_fuse.proofs.PendingDups.{AreAlike, Pending, IsPending, Follows, IsIdle, AreBoth, dup_idle}
use Rattle.kk_fuse.proofs.PendingSteps.{pending_steps}
use Rattle.kk_fuse.proofs.FormBounds.{AreFew, run_few, start_few}
use Rattle.kk_fuse.proofs.Simulation.{step_is, cost_is, IsToldAlike, told_alike, Cancels, cancels, at_form, costs_alike, one_step, IsLeft, few_left, alike_fused, settled}

module _ (positions : PositionTable) (setting : CountedSetting) (most room : ℕ) (input : List ℕ)
    (spent : IsSpent positions setting.program) (fits : FitsAlways (roomy_cost room) setting input)
    (shape : HasShapeAlways (roomy_cost room) setting input) (short : HasFewSteps most setting.program) where
  abbrev pub upper : Machine CountedState Note End
  upper = counted_machine (roomy_cost room) setting

  abbrev pub lower : Machine CountedState Note End
  lower = counted_machine (roomy_cost room) (fused_setting setting)

  abbrev pub first : CountedState
  first = counted_first_state setting input

  -- what is true of a state of the code's own run
  pub record IsReached (s : CountedState) : Type 0 where
    pub at : ℕ
    pub is : s ≡ state upper at first

  reached_is : (P : CountedConfiguration → Type 0) (s : CountedState) (r : IsReached s) → P (state upper r.at first).machine
      → P s.machine
  reached_is P s r holds = subst (λ (s : CountedState). P s.machine) (sym r.is) holds

  is_kept : (s : CountedState) → IsReached s → IsKept positions setting.program.functions s.machine
  is_kept s r =
      reached_is (IsKept positions setting.program.functions) s r
      (keeps_sound positions setting (roomy_cost room) input spent fits r.at)

  is_fit : (s : CountedState) → IsReached s → FitsAt s.machine.control
  is_fit s r = reached_is (λ c. FitsAt c.control) s r (fits r.at)

  is_shaped : (s : CountedState) → IsReached s → HasShape setting.program.functions (forwards s.machine.heap) s.machine.control
  is_shaped s r = reached_is (λ c. HasShape setting.program.functions (forwards c.heap) c.control) s r (shape r.at)

  is_going : (s : CountedState) → IsReached s → NotStuck s.machine.control
  is_going s r =
      reached_is (λ c. NotStuck c.control) s r
      (never_stuck positions setting (roomy_cost room) input spent fits shape r.at)

  is_few : (s : CountedState) → IsReached s → AreFew most s.machine
  is_few s r =
      reached_is (AreFew most) s r
      (run_few most setting short (roomy_cost room) r.at first (start_few most setting short spent.main.0 spent.main.1.0))

  next_reached : (s : CountedState) → IsReached s → IsReached (upper.step s).1
  next_reached s r =
      record { at = r.at + 1; is = ap (λ (s : CountedState). (upper.step s).1) r.is ∙ sym (state-add upper r.at 1 first) }

  -- a state of the fused code stands for a reached one, with so many steps that the code may do alone
  pub record Related (credit idle : ℕ) (s t : CountedState) : Type 0 where
    pub reached : IsReached s
    pub follows : Follows positions setting s.machine t.machine
    pub input_is : t.input ≡ s.input
    pub left : IsLeft idle s.machine.control

  -- a state of the fused code stands for one of the code's own run
  abbrev pub Passing : CountedState → Type 0
  Passing t = (n : ℕ) × AreFusedStates (state upper n first).machine t.machine

  -- the fused code does what the step of the code does, in one step or none; one is taken where the states stand for each other
  abbrev pub Goes : ℕ → ℕ → CountedState → CountedState → Type 0
  Goes credit idle s t =
      (one : Reaches lower Related Passing (suc most) (upper.weight s + credit) 1 idle (upper.step s).0 (upper.step s).1 t)
      × ((k : ℕ) → k < one.steps → (k ≡ 0) × AreFusedStates s.machine t.machine)

  passes : (s t : CountedState) → IsReached s → AreFusedStates s.machine t.machine → Passing t
  passes s t r states = (r.at, subst (λ (s : CountedState). AreFusedStates s.machine t.machine) r.is states)

  -- ---- both do a step

  module _ (credit idle : ℕ) (s t : CountedState) (reached : IsReached s) (input_is : t.input ≡ s.input)
      (code less : Counted) (environment : Environment) (joins : List CountedJoin)
      (at : s.machine.control ≡ running code environment joins)
      (fused_at : t.machine.control ≡ running less environment (map fused_join joins)) where
    both_do : t.machine.frames ≡ map fused_frame s.machine.frames → cells_of t.machine.heap ≡ cells_of s.machine.heap
        → IsAtForm code less → (t.machine.heap ≡ s.machine.heap) ⊎ IsBetween code
        → AreAlike (Follows positions setting) (counted_code_step setting code environment joins s.machine)
        (counted_code_step (fused_setting setting) less environment (map fused_join joins) t.machine)
        → Goes credit idle s t
    both_do frames cells form heaps alike = (
      record {
        steps = 1;
        credit_after = credit;
        idle_after = most;
        paid = omega (arith, costs);
        moves = omega arith;
        events_are = append-nil (lower.step t).0 ∙ told.notes;
        passes = λ k under.
            let none : k ≡ 0 = omega (arith, under) in
            subst (λ (n : ℕ). Passing (state lower n t)) (sym none) (passes s t reached stand);
        related =
            record {
              reached = next_reached s reached;
              follows = told.related;
              input_is = told.input;
              left = few_left most (upper.step s).1.machine.control (is_few (upper.step s).1 (next_reached s reached)).0;
            };
      },
      λ k under. (omega (arith, under), stand),
    )
      where
        costs : lower.weight t ≡ upper.weight s
        costs =
            cost_is room (fused_setting setting) t less environment (map fused_join joins) fused_at
            ∙ costs_alike room environment code less s.machine.heap t.machine.heap form heaps
            ∙ sym (cost_is room setting s code environment joins at)

        told : IsToldAlike (Follows positions setting) (upper.step s) (lower.step t)
        told =
            subst (λ (one : List Note × CountedState). IsToldAlike (Follows positions setting) one (lower.step t))
            (sym (step_is (roomy_cost room) setting s code environment joins at))
            (subst
            (λ (two : List Note × CountedState). IsToldAlike (Follows positions setting)
            (performed (counted_code_step setting code environment joins s.machine) s.input) two)
            (sym
            (step_is (roomy_cost room) (fused_setting setting) t less environment (map fused_join joins) fused_at
            ∙ ap (performed (counted_code_step (fused_setting setting) less environment (map fused_join joins) t.machine))
            input_is))
            (told_alike (Follows positions setting) (counted_code_step setting code environment joins s.machine)
            (counted_code_step (fused_setting setting) less environment (map fused_join joins) t.machine) s.input alike))

        stand : AreFusedStates s.machine t.machine
        stand =
            record {
              frames = frames;
              cells = cells;
              control =
                  subst (λ control. AreAtOne s.machine.heap t.machine.heap control t.machine.control) (sym at)
                  (less, (fused_at, (form, heaps)));
            }

    -- ---- the code does a step alone

    alone : IsLeft idle s.machine.control → IsIdle positions setting code environment joins s.machine t.machine
        → Goes credit idle s t
    alone left goes_on = (
      record {
        steps = 0;
        credit_after = credit;
        idle_after = idle - 1;
        paid = omega arith;
        moves = omega (arith, zero-mul (suc most), long, one_step goes_on.rest);
        events_are = sym (ap (λ (told : List Note × CountedState). told.0) next);
        passes = λ k under. absurd (omega (arith, under));
        related =
            record {
              reached = next_reached s reached;
              follows =
                  subst (λ (told : List Note × CountedState). Follows positions setting told.1.machine t.machine) (sym next)
                  goes_on.follows;
              input_is = input_is ∙ sym (ap (λ (told : List Note × CountedState). told.1.input) next);
              left =
                  subst (λ (told : List Note × CountedState). IsLeft (idle - 1) told.1.machine.control) (sym next)
                  (subst (IsLeft (idle - 1)) (sym goes_on.at) (omega (arith, long, one_step goes_on.rest)));
            };
      },
      λ k under. absurd (omega (arith, under)),
    )
      where
        next : upper.step s ≡ ([], record { machine = goes_on.to; input = s.input })
        next =
            step_is (roomy_cost room) setting s code environment joins at
            ∙ ap (λ action. performed action s.input) goes_on.is

        long : suc (steps_in goes_on.rest) ≤ suc idle
        long = subst (λ (n : ℕ). n ≤ suc idle) goes_on.shorter (subst (IsLeft idle) at left)

  -- ---- nothing is pending

  module _ (credit idle : ℕ) (s t : CountedState) (reached : IsReached s) (input_is : t.input ≡ s.input)
      (left : IsLeft idle s.machine.control) (same : t.machine ≡ fused_configuration s.machine) where
    frames_are : t.machine.frames ≡ map fused_frame s.machine.frames
    frames_are = ap (λ (c : CountedConfiguration). c.frames) same

    heap_is : t.machine.heap ≡ s.machine.heap
    heap_is = ap (λ (c : CountedConfiguration). c.heap) same

    control_is : t.machine.control ≡ fused_control s.machine.control
    control_is = ap (λ (c : CountedConfiguration). c.control) same

    same_runs : (code : Counted) (environment : Environment) (joins : List CountedJoin)
        → s.machine.control ≡ running code environment joins → Stays code ⊎ Cancels code
        → Goes credit idle s t
    same_runs code environment joins at (inl stays) =
        both_do credit idle s t reached input_is code (fuse code) environment joins at (control_is ∙ ap fused_control at) frames_are
        (ap cells_of heap_is) (at_form code stays) (inl heap_is)
        (subst (AreAlike (Follows positions setting) (counted_code_step setting code environment joins s.machine))
        (steps_same setting code environment joins s.machine stays
        ∙ ap (counted_code_step (fused_setting setting) (fuse code) environment (map fused_join joins)) (sym same))
        (alike_fused positions setting (counted_code_step setting code environment joins s.machine)))
    same_runs code environment joins at (inr cancel) =
        alone credit idle s t reached input_is (dup cancel.variable cancel.rest) (fuse code) environment joins dup_at fused_at left
        (dup_idle positions setting environment joins s.machine t.machine frames_are cancel.variable cancel.rest
        (fuse code) cancel.first pending cancel.goes_on fused_at)
      where
        dup_at : s.machine.control ≡ running (dup cancel.variable cancel.rest) environment joins
        dup_at = at ∙ ap (λ (code : Counted). running code environment joins) cancel.is

        fused_at : t.machine.control ≡ running (fuse code) environment (map fused_join joins)
        fused_at = control_is ∙ ap fused_control at

        kept : IsKept positions setting.program.functions s.machine
        kept = is_kept s reached

        r : IsRunning positions setting.program.functions s.machine.heap kept.0 (dup cancel.variable cancel.rest) environment joins
        r = subst (IsKeptAt positions setting.program.functions s.machine.heap kept.0) dup_at kept.1.1

        pending : Pending positions setting s.machine.heap t.machine.heap environment (dup cancel.variable cancel.rest) (fuse code)
        pending =
            record {
              below = kept.0;
              lent = r.lent;
              readable = r.readable;
              pending = [];
              owned = r.owned;
              left = r.left;
              strips = ap (λ (code : Counted). Some (fuse code)) (sym cancel.is);
              spends = r.spends;
              seen = record { reached = r.reached; counted = r.counted; sound = r.sound };
              fused_seen =
                  subst (IsSeen kept.0 environment r.lent r.readable r.owned) (sym heap_is)
                  (record { reached = r.reached; counted = r.counted; sound = r.sound });
              cells = ap cells_of heap_is;
            }

    ended : (end : End) → s.machine.control ≡ stopped end
        → Goes credit idle s t
    ended end at = (
      record {
        steps = 1;
        credit_after = credit;
        idle_after = idle;
        paid = omega (arith, lower.weightless t end below);
        moves = omega arith;
        events_are = trace_ended lower 1 t end below ∙ sym (ap (λ (next : List Note × CountedState). next.0) stays);
        passes = λ k under.
            let none : k ≡ 0 = omega (arith, under) in
            subst (λ (n : ℕ). Passing (state lower n t)) (sym none) (passes s t reached stand);
        related =
            subst (Related credit idle (upper.step s).1) (sym (state_ended lower 1 t end below))
            (subst (λ (next : List Note × CountedState). Related credit idle next.1 t) (sym stays)
            (record { reached = reached; follows = inl same; input_is = input_is; left = left }));
      },
      λ k under. (omega (arith, under), stand),
    )
      where
        below : lower.ending t ≡ Some end
        below = ap counted_end_at (control_is ∙ ap fused_control at)

        stays : upper.step s ≡ ([], s)
        stays = upper.stays s end (ap counted_end_at at)

        stand : AreFusedStates s.machine t.machine
        stand =
            record {
              frames = frames_are;
              cells = ap cells_of heap_is;
              control =
                  subst (λ control. AreAtOne s.machine.heap t.machine.heap control t.machine.control) (sym at)
                  (control_is ∙ ap fused_control at, heap_is);
            }

    same_by : (control : CountedControl) → s.machine.control ≡ control → NotStuck control
        → Goes credit idle s t
    same_by (running code environment joins) at going = same_runs code environment joins at (cancels code)
    same_by (stopped end) at going = ended end at
    same_by stuck at going = absurd going

  -- ---- some variables are pending

  module _ (credit idle : ℕ) (s t : CountedState) (reached : IsReached s) (input_is : t.input ≡ s.input)
      (left : IsLeft idle s.machine.control) (p : IsPending positions setting s.machine t.machine) where
    pending_by : (xs : List ℕ) → p.pending.pending ≡ xs
        → Goes credit idle s t
    pending_by [] none =
        same_by credit idle s t reached input_is left (settled positions setting s.machine t.machine p none) s.machine.control refl
        (is_going s reached)
    pending_by (x ∷ xs) some =
        by_step
        (pending_steps positions setting p.environment p.joins s.machine t.machine p.frames p.code p.less p.fused_at p.pending
        x xs some (subst FitsAt p.at (is_fit s reached))
        (subst (HasShape setting.program.functions (forwards s.machine.heap)) p.at (is_shaped s reached)))
      where
        by_step : IsIdle positions setting p.code p.environment p.joins s.machine t.machine
            ⊎ AreBoth positions setting p.code p.less p.environment p.joins s.machine t.machine
            → Goes credit idle s t
        by_step (inl goes_on) =
            alone credit idle s t reached input_is p.code p.less p.environment p.joins p.at p.fused_at left goes_on
        by_step (inr both) =
            both_do credit idle s t reached input_is p.code p.less p.environment p.joins p.at p.fused_at p.frames p.pending.cells
            both.form (inr both.between) both.alike

  -- ---- the simulation

  pub by_follows : (credit idle : ℕ) (s t : CountedState) → Related credit idle s t → Follows positions setting s.machine t.machine
      → Goes credit idle s t
  by_follows credit idle s t related (inl same) =
      same_by credit idle s t related.reached related.input_is related.left same s.machine.control refl (is_going s related.reached)
  by_follows credit idle s t related (inr p) =
      pending_by credit idle s t related.reached related.input_is related.left p p.pending.pending refl

  end_same : (control : CountedControl) → counted_end_at (fused_control control) ≡ counted_end_at control
  end_same (running code environment joins) = refl
  end_same (stopped by) = refl
  end_same stuck = refl

  alike : (s t : CountedState) → Follows positions setting s.machine t.machine → lower.ending t ≡ upper.ending s
  alike s t (inl same) =
      ap (λ (c : CountedConfiguration). counted_end_at c.control) same ∙ end_same s.machine.control
  alike s t (inr p) = ap counted_end_at p.fused_at ∙ sym (ap counted_end_at p.at)

  pub simulates : Simulates upper lower Related Passing (suc most)
  simulates =
      record {
        by = λ credit idle s t related. (by_follows credit idle s t related related.follows).0;
        alike = λ credit idle s t related. alike s t related.follows;
      }
