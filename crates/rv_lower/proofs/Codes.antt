-- The lines of a code are well formed, and have only its own labels.
use Rattle.std.proofs.Common.{◌≡◌, ℕ, ◌+◌, ◌<◌, ◌≤◌, ◌⊎◌, inl, inr, true, List, [], ◌∷◌, ◌++◌, length, None, IsSome}
use Rattle.std.proofs.Common.{refl, sym, subst, ◌∙◌, arith, append_assoc}
use Rattle.std.proofs.lemmas.Bool.{or_cases, false≢true}
use Rattle.std.proofs.lemmas.List.Elements.{All-nil, All-cons}
use Rattle.kk_base.specs.Limits.{greatest_of}
use Rattle.kk_base.specs.declared.limit.LimitKind.TheVariants.{Parameters}
use Rattle.kk_syntax.specs.Shapes.{is_among as is_bound}
use Rattle.rv_isa.specs.declared.asm.Action.{Action}
use Rattle.rv_isa.specs.declared.asm.Action.TheVariants.{Label, Jump, Branch, TailCall, Return}
use Rattle.rv_isa.specs.declared.asm.Condition.{Condition}
use Rattle.rv_isa.specs.declared.asm.Operation.TheVariants as Op
use Rattle.rv_isa.specs.AsmCode.{Line}
use Rattle.rv_isa.specs.WellFormed.{is_alive, is_alive_at, most_values, IsSpent, AreLabelsAhead, is_alive_behind}
use Rattle.rv_isa.proofs.HeldTokens.{HoldsNone}
use Rattle.rv_lower.specs.Lines.{acts, copies, temporaries}
use Rattle.rv_lower.specs.Lowered.{Goal, returns, joins, goal_lines}
use Rattle.rv_lower.proofs.WellFormedness.{Each, all_each, AllBound, formed_effect, none_some, Readable, IsWithin, within_more, readable_within}
use Rattle.rv_lower.proofs.WellFormedness.{AreFormed, formed_more, Good, HasRoom, weaker, alive_line, to_variable, good_hands, readable_small}
use Rattle.rv_lower.proofs.AbsentLabels.{HasNo, has_no_append, found_none, found_past, found_here, alive_at_past, alive_at_here, other_label}
use Rattle.rv_lower.proofs.Labels.{found_label}
use Rattle.rv_lower.proofs.Operations.{Leads, copied}

-- The goal of a code stands ahead, in what follows: its label is none of the code's own, and there only variables that are bound at
-- the goal, or the goal's, are alive.
abbrev pub IsGoalAhead : ℕ → List ℕ → Goal → ℕ → List Line → Type 0
IsGoalAhead base outer returns low tail = Unit {0}
IsGoalAhead base outer (joins y label) low tail =
    (label < low) × (y < base) × IsSome (found_label label tail)
    × ((v : ℕ) → is_alive_at label v tail ≡ true → Readable base base (y ∷ outer) v)

-- well-formed code that follows, without the labels from `low` on, below `high`
pub record Ahead (base : ℕ) (outer : List ℕ) (goal : Goal) (low high : ℕ) (tail : List Line) : Type 0 where
  pub formed : AreFormed tail
  pub fresh : (l : ℕ) → low ≤ l → l < high → HasNo l tail
  pub goal_ahead : IsGoalAhead base outer goal low tail

-- the lines of a code, by what is bound before it and what is bound at its goal
pub record Fits (base : ℕ) (bound outer : List ℕ) (goal : Goal) (low high : ℕ) (lines : List Line) : Type 0 where
  pub up : low ≤ high
  pub none : (l : ℕ) → (l < low) ⊎ (high ≤ l) → HasNo l lines
  pub good : (tail : List Line) → Ahead base outer goal low high tail → Good (Readable base base bound) (lines ++ tail)

-- more may be bound before the lines
pub fits_weaker : (base : ℕ) (bound more outer : List ℕ) (goal : Goal) (low high : ℕ) (lines : List Line) → IsWithin bound more
    → Fits base bound outer goal low high lines → Fits base more outer goal low high lines
fits_weaker base bound more outer goal low high lines within fits = record {
  up = fits.up;
  none = fits.none;
  good = λ tail ahead. weaker (readable_within base base bound more within) (fits.good tail ahead);
}

-- the goal is as well ahead of what comes later, with more labels between
pub goal_later : (base : ℕ) (outer : List ℕ) (goal : Goal) (low later : ℕ) (between tail : List Line) → low ≤ later
    → ((l : ℕ) → l < low → HasNo l between) → IsGoalAhead base outer goal low tail
    → IsGoalAhead base outer goal later (between ++ tail)
goal_later base outer returns low later between tail le none ahead = tt
goal_later base outer (joins y label) low later between tail le none ahead = (
  omega (arith, le, ahead.0),
  ahead.1,
  subst IsSome (sym (found_past label between tail (none label ahead.0))) ahead.2,
  λ v is. ahead.3 v (sym (alive_at_past label v between tail (none label ahead.0)) ∙ is),
)

pub goal_up : (base : ℕ) (outer : List ℕ) (goal : Goal) (low later : ℕ) (tail : List Line) → low ≤ later
    → IsGoalAhead base outer goal low tail → IsGoalAhead base outer goal later tail
goal_up base outer returns low later tail le ahead = tt
goal_up base outer (joins y label) low later tail le ahead = (omega (arith, le, ahead.0), ahead.1, ahead.2, ahead.3)

-- an action that reads and writes nothing
pub good_alone : (B : ℕ → Type 0) (action : Action) (rest : List Line) → AreLabelsAhead action rest → HoldsNone action → ((v : ℕ) → is_alive_behind v action rest ≡ true → B v) → AreFormed rest
    → Good B (acts action [] ∷ rest)
good_alone B action rest labels none alive formed = record {
  formed = formed_more (acts action []) rest
      (record {
        labels = labels;
        few = omega arith;
        gives = λ is. absurd (false≢true is);
        distinct = λ _. tt;
        spent = λ _. All-nil (IsSpent (acts action []) rest);
        args_small = All-nil (λ v. v < most_values);
        into_small = λ v is. absurd (none_some is);
      })
      none formed;
  alive = alive_line B (acts action []) rest tt (λ v other is. alive v is);
}

-- a label before code in which it does not stand
pub good_label : (B : ℕ → Type 0) (l : ℕ) (rest : List Line) → HasNo l rest → Good B rest → Good B (acts (Label l) [] ∷ rest)
good_label B l rest none good = good_alone B (Label l) rest (found_none l rest none) tt good.alive good.formed

-- a label, and the lines of the code behind it
module _ (base : ℕ) (bound outer : List ℕ) (goal : Goal) (low middle high : ℕ) (lines : List Line) (less : low < middle)
    (fits : Fits base bound outer goal middle high lines) where
  labelled_none : (l : ℕ) → (l < low) ⊎ (high ≤ l) → HasNo l (acts (Label low) [] ∷ lines)
  labelled_none l (inl below) = (other_label l low (λ same. absurd (omega (arith, same, below))), fits.none l (inl (omega (arith, less, below))))
  labelled_none l (inr above) = (other_label l low (λ same. let up = fits.up in absurd (omega (arith, same, less, above, up))), fits.none l (inr above))

  module _ (tail : List Line) (ahead : Ahead base outer goal low high tail) where
    labelled_good : Good (Readable base base bound) (acts (Label low) [] ∷ (lines ++ tail))
    labelled_good = good_label (Readable base base bound) low (lines ++ tail)
        (has_no_append low lines tail (fits.none low (inl less)) (ahead.fresh low (omega arith) (let up = fits.up in omega (arith, less, up))))
        (fits.good tail (record {
          formed = ahead.formed;
          fresh = λ l le under. ahead.fresh l (omega (arith, le, less)) under;
          goal_ahead = goal_up base outer goal low middle tail (omega (arith, less)) ahead.goal_ahead;
        }))

    labelled_fresh : (l : ℕ) → low + 1 ≤ l → l < middle → HasNo l (acts (Label low) [] ∷ (lines ++ tail))
    labelled_fresh l le under = (
      other_label l low (λ same. absurd (omega (arith, same, le))),
      has_no_append l lines tail (fits.none l (inl under)) (ahead.fresh l (omega (arith, le)) (let up = fits.up in omega (arith, under, up))),
    )

-- the end of a code
module _ (base : ℕ) (bound : List ℕ) (has : HasRoom base bound) where
  good_return : (x : ℕ) (tail : List Line) → is_bound bound x ≡ true → AreFormed tail → Good (Readable base base bound) (acts Return (x ∷ []) ∷ tail)
  good_return x tail is formed = record {
    formed = formed_more (acts Return (x ∷ [])) tail
        (record {
          labels = tt;
          few = omega arith;
          gives = λ is. absurd (false≢true is);
          distinct = λ _. (refl, tt);
          spent = λ _. All-cons (IsSpent (acts Return (x ∷ [])) tail) x [] refl (All-nil (IsSpent (acts Return (x ∷ [])) tail));
          args_small = All-cons (λ v. v < most_values) x [] (let low = has.low x is in let room = has.room in omega (arith, low, room)) (All-nil (λ v. v < most_values));
          into_small = λ v is. absurd (none_some is);
        })
        tt formed;
    alive = alive_line (Readable base base bound) (acts Return (x ∷ [])) tail (inl is, tt) (λ v other is. absurd (false≢true is));
  }

  pub fits_give : (outer : List ℕ) (x : ℕ) (goal : Goal) (low : ℕ) → is_bound bound x ≡ true → IsWithin outer bound
      → Fits base bound outer goal low low (goal_lines goal x)
  fits_give outer x returns low is within = record {
    up = omega arith;
    none = λ l _. (refl, tt);
    good = λ tail ahead. good_return x tail is ahead.formed;
  }
  fits_give outer x (joins y label) low is within = record {
    up = omega arith;
    none = λ l _. (refl, (refl, tt));
    good = λ tail ahead. to_variable base base bound Op.Mv (x ∷ []) y (acts (Jump label) [] ∷ tail) has (omega arith) refl
        (omega arith) (inl is, tt) ahead.goal_ahead.1
        (good_alone (Readable base base (y ∷ bound)) (Jump label) tail ahead.goal_ahead.2 tt
        (λ v alive. readable_within base base (y ∷ outer) (y ∷ bound) (within_more outer bound y within) v
        (ahead.goal_ahead.3 v alive)) ahead.formed);
  }

  pub fits_tail_call : (outer : List ℕ) (f : ℕ) (arguments : List ℕ) (goal : Goal) (low : ℕ) → length arguments ≤ greatest_of Parameters
      → AllBound bound arguments
      → Fits base bound outer goal low low (copies base arguments ++ acts (TailCall f) (temporaries base arguments) ∷ [])
  fits_tail_call outer f arguments goal low few each = record {
    up = omega arith;
    none = λ l _. has_no_append l (copies base arguments) (last ∷ []) (lines.no_label l) (refl, tt);
    good = λ tail ahead. subst (Good (Readable base base bound)) (sym (append_assoc (copies base arguments) (last ∷ []) tail))
        (lines.good (last ∷ tail)
        (good_hands base bound arguments (TailCall f) None tail has tt tt few few (λ is. absurd (false≢true is))
        (λ v is. absurd (none_some is)) (λ v other is. absurd (false≢true is)) ahead.formed));
  }
    where
      last : Line
      last = acts (TailCall f) (temporaries base arguments)

      lines : Leads (Readable base base bound) (Readable base (base + length arguments) bound) (length arguments)
          (copies base arguments)
      lines = copied base bound has arguments few each

-- a label stands in code, and only such values are alive there
abbrev pub StandsAhead : (ℕ → Type 0) → ℕ → List Line → Type 0
StandsAhead B label code = IsSome (found_label label code) × ((v : ℕ) → is_alive_at label v code ≡ true → B v)

pub stands_past : (B : ℕ → Type 0) (label : ℕ) (lines more : List Line) → HasNo label lines → StandsAhead B label more
    → StandsAhead B label (lines ++ more)
stands_past B label lines more none ahead = (
  subst IsSome (sym (found_past label lines more none)) ahead.0,
  λ v is. ahead.1 v (sym
      (alive_at_past label v lines more none) ∙ is),
)

-- at the label itself what is alive behind it is so
pub stands_here : (B : ℕ → Type 0) (label : ℕ) (code : List Line) → Good B (acts (Label label) [] ∷ code)
    → StandsAhead B label (acts (Label label) [] ∷ code)
stands_here B label code good = (
  subst IsSome (sym (found_here label code)) refl,
  λ v is. good.alive v (sym (alive_at_here label v code) ∙ is),
)

-- a branch on values
pub good_branch : (B C : ℕ → Type 0) (condition : Condition) (label : ℕ) (args : List ℕ) (rest : List Line) → length args ≤ 2
    → Each B args → ((v : ℕ) → C v → B v) → ((v : ℕ) → B v → v < most_values)
    → StandsAhead C label rest → Good C rest → Good B (acts (Branch condition label) args ∷ rest)
good_branch B C condition label args rest few each into small ahead good = record {
  formed = formed_more (acts (Branch condition label) args) rest
      (formed_effect (Branch condition label) args rest ahead.0 few refl (all_each B (λ v. v < most_values) args small each))
      tt good.formed;
  alive = alive_line B (acts (Branch condition label) args) rest each (λ v other is. into v (behind v is));
}
  where
    either : (v : ℕ) → (is_alive v rest ≡ true) ⊎ (is_alive_at label v rest ≡ true) → C v
    either v (inl is) = good.alive v is
    either v (inr is) = ahead.1 v is

    behind : (v : ℕ) → is_alive_behind v (Branch condition label) rest ≡ true → C v
    behind v is = either v (or_cases (is_alive v rest) (is_alive_at label v rest) is)

-- a branch on values, before the code of both ways
module _ (base : ℕ) (bound outer : List ℕ) (has : HasRoom base bound) (condition : Condition) (xs : List ℕ) (few : length xs ≤ 2)
    (each : Each (Readable base base bound) xs) (goal : Goal) (low middle high : ℕ) (positive negative : List Line)
    (first : Fits base bound outer goal (low + 1) middle positive) (second : Fits base bound outer goal middle high negative) where
  abbrev Bound : ℕ → Type 0
  Bound = Readable base base bound

  less : low < middle
  less = let up = first.up in omega (arith, up)

  branch_none : (l : ℕ) → (l < low) ⊎ (high ≤ l) → HasNo l (positive ++ (acts (Label low) [] ∷ negative))
  branch_none l apart =
      has_no_append l positive (acts (Label low) [] ∷ negative) (first.none l (apart_first apart))
      (labelled_none base bound outer goal low middle high negative less second l apart)
    where
      apart_first : (l < low) ⊎ (high ≤ l) → (l < low + 1) ⊎ (middle ≤ l)
      apart_first (inl below) = inl (omega (arith, below))
      apart_first (inr above) = let up = second.up in inr (omega (arith, above, up))

  module _ (tail : List Line) (ahead : Ahead base outer goal low high tail) where
    abbrev behind : List Line
    behind = acts (Label low) [] ∷ (negative ++ tail)

    behind_good : Good Bound behind
    behind_good = labelled_good base bound outer goal low middle high negative less second tail ahead

    positive_good : Good Bound (positive ++ behind)
    positive_good = first.good behind (record {
      formed = behind_good.formed;
      fresh = labelled_fresh base bound outer goal low middle high negative less second tail ahead;
      goal_ahead = goal_later base outer goal low (low + 1) (acts (Label low) [] ∷ negative) tail (omega arith)
          (λ l below. labelled_none base bound outer goal low middle high negative less second l (inl below)) ahead.goal_ahead;
    })

    no_label : HasNo low positive
    no_label = first.none low (inl (omega arith))

    branches_good : Good Bound (acts (Branch condition low) xs ∷ (positive ++ behind))
    branches_good = good_branch Bound Bound condition low xs (positive ++ behind) few each (λ v is. is)
        (readable_small base base bound has (omega arith))
        (stands_past Bound low positive behind no_label (stands_here Bound low (negative ++ tail) behind_good)) positive_good

  pub fits_split : Fits base bound outer goal low high (acts (Branch condition low) xs ∷ (positive ++ (acts (Label low) []
      ∷ negative)))
  fits_split = record {
    up = let up = second.up in omega (arith, less, up);
    none = λ l apart. (refl, branch_none l apart);
    good = λ tail ahead. subst (λ (code : List Line). Good Bound (acts (Branch condition low) xs ∷ code))
        (sym (append_assoc positive (acts (Label low) [] ∷ negative) tail)) (branches_good tail ahead);
  }

-- a block whose value a variable takes, before the code that follows: what is bound at the end of the block is so behind it
module _ (base : ℕ) (bound between outer : List ℕ) (x : ℕ) (less_x : x < base) (goal : Goal) (low middle high : ℕ)
    (part more : List Line) (first : Fits base bound between (joins x low) (low + 1) middle part)
    (second : Fits base (x ∷ between) outer goal middle high more) where
  less_inside : low < middle
  less_inside = let up = first.up in omega (arith, up)

  inside_none : (l : ℕ) → (l < low) ⊎ (high ≤ l) → HasNo l (part ++ (acts (Label low) [] ∷ more))
  inside_none l apart =
      has_no_append l part (acts (Label low) [] ∷ more) (first.none l (apart_first apart))
      (labelled_none base (x ∷ between) outer goal low middle high more less_inside second l apart)
    where
      apart_first : (l < low) ⊎ (high ≤ l) → (l < low + 1) ⊎ (middle ≤ l)
      apart_first (inl below) = inl (omega (arith, below))
      apart_first (inr above) = let up = second.up in inr (omega (arith, above, up))

  module _ (tail : List Line) (ahead : Ahead base outer goal low high tail) where
    label_good : Good (Readable base base (x ∷ between)) (acts (Label low) [] ∷ (more ++ tail))
    label_good = labelled_good base (x ∷ between) outer goal low middle high more less_inside second tail ahead

    inside_good : Good (Readable base base bound) (part ++ (acts (Label low) [] ∷ (more ++ tail)))
    inside_good = first.good (acts (Label low) [] ∷ (more ++ tail)) (record {
      formed = label_good.formed;
      fresh = labelled_fresh base (x ∷ between) outer goal low middle high more less_inside second tail ahead;
      goal_ahead = (
        omega arith,
        less_x,
        subst IsSome (sym (found_here low (more ++ tail))) refl,
        λ v is. label_good.alive v (sym (alive_at_here low v (more ++ tail)) ∙ is),
      );
    })

  pub fits_inside : Fits base bound outer goal low high (part ++ (acts (Label low) [] ∷ more))
  fits_inside = record {
    up = let up = second.up in omega (arith, less_inside, up);
    none = inside_none;
    good = λ tail ahead. subst (Good (Readable base base bound)) (sym (append_assoc part (acts (Label low) [] ∷ more) tail))
        (inside_good tail ahead);
  }
