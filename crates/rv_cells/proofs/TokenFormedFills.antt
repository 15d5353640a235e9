-- The lines of a construction in the cell of a token, before those of the code that follows it.
use Rattle.std.proofs.Common.{◌≡◌, ℕ, ◌+◌, ◌<◌, ◌≤◌, ◌==◌, ◌⊎◌, inl, inr, Bool, true, false, not, List, [], ◌∷◌, ◌++◌, length}
use Rattle.std.proofs.Common.{Some, refl, sym, ap, subst, ◌∙◌, arith, append_assoc}
use Rattle.std.specs.List.{AllByRecursion}
use Rattle.std.proofs.lemmas.Bool.{or_left, or_right, eq-eqb}
use Rattle.kk_core.specs.Sizes.{AreBound}
use Rattle.kk_syntax.specs.Shapes.{is_among as is_bound}
use Rattle.kk_counted.specs.Spending.{AreApart}
use Rattle.rv_isa.specs.declared.asm.Action.TheVariants.{Label, Branch, Routine}
use Rattle.rv_isa.specs.declared.asm.Condition.TheVariants.{NotEqual}
use Rattle.rv_isa.specs.declared.asm.Operation.TheVariants as Op
use Rattle.rv_isa.specs.declared.routine.Routine.TheVariants.{Take}
use Rattle.rv_isa.specs.AsmCode.{Line}
use Rattle.rv_isa.specs.WellFormed.{most_values}
use Rattle.rv_lower.specs.Lines.{copies_to, acts}
use Rattle.rv_lower.specs.Lowered.{Goal}
use Rattle.rv_lower.proofs.WellFormedness.{Each, Readable, Good, HasRoom, room_more, to_variable}
use Rattle.rv_lower.proofs.WellFormedness.{readable_small, readable_bound}
use Rattle.rv_lower.proofs.AbsentLabels.{HasNo, has_no_append, other_label}
use Rattle.rv_lower.proofs.Operations.{Leads}
use Rattle.rv_lower.proofs.Codes.{Ahead, Fits, good_label, goal_up, stands_past, stands_here, good_branch}
use Rattle.rv_cells.specs.CellLines.{SomeWords, is_kept, FillLines, hold_lines, unhold_lines}
use Rattle.rv_cells.proofs.CellForms.{words_lead, bound_later}
use Rattle.rv_cells.proofs.TokenFormedHeld.{holding_none, good_none, holding_weaker, holding_row, back_row, holding_take}
use Rattle.rv_cells.proofs.TokenFormedHeld.{hold_none, unhold_none}

module _ (base : ℕ) (bound outer : List ℕ) (has : HasRoom base bound) (x : ℕ) (less : x < base) (token : ℕ)
    (is_token : is_bound bound token ≡ true) (others : List ℕ) (are_others : AreBound bound others) (apart : AreApart others)
    (differ : AllByRecursion (λ (v : ℕ). (x == v) ≡ false) others) (header : ℕ) (arguments : List ℕ)
    (are : AreBound bound arguments) where
  abbrev Before : ℕ → Type 0
  Before = Readable base base bound

  abbrev With : ℕ → Type 0
  With = Readable base base (x ∷ bound)

  room : HasRoom base (x ∷ bound)
  room = room_more base bound x has less

  here : is_bound (x ∷ bound) x ≡ true
  here = or_left (x == x) (is_bound bound x) (eq-eqb x x refl)

  small : (v : ℕ) → With v → v < most_values
  small = readable_small base base (x ∷ bound) room (omega arith)

  each : Each With others
  each = by others are_others
    where
      by : (others : List ℕ) → AreBound bound others → Each With others
      by [] are = tt
      by (y ∷ others) are = (inl (or_right (x == y) (is_bound bound y) are.0), by others are.1)

  -- words are stored
  stores_lead_on : (head count : Bool) (takes : ℕ → Bool) (stores : List Line)
      → SomeWords head count takes base x header arguments stores → Leads With With (4 + length arguments) stores
  stores_lead_on head count takes stores own =
      words_lead base (x ∷ bound) head count takes x header arguments stores room here (bound_later base bound x arguments are) own

  module _ (goal : Goal) (low high : ℕ) (more : List Line) (fits : Fits base (x ∷ bound) outer goal (low + 1) high more)
      (left stores : List Line) (left_stored : Leads With With (4 + length arguments) left)
      (stored : Leads With With (4 + length arguments) stores) where
    -- a cell is taken while the other tokens are held, and the kept fields are stored
    abbrev asks : List Line
    asks = hold_lines others ++ (record { action = Routine Take; args = []; into = Some x } ∷ (unhold_lines others ++ left))

    asks_none : (l : ℕ) → HasNo l asks
    asks_none l = has_no_append l (hold_lines others) _ (hold_none others l)
        (refl, has_no_append l (unhold_lines others) left (unhold_none others l) (left_stored.no_label l))

    asks_then : (tail : List Line) → asks ++ tail
        ≡ hold_lines others ++ (record { action = Routine Take; args = []; into = Some x }
        ∷ (unhold_lines others ++ (left ++ tail)))
    asks_then tail =
        append_assoc (hold_lines others)
        (record { action = Routine Take; args = []; into = Some x } ∷ (unhold_lines others ++ left)) tail
        ∙ ap (λ ls. hold_lines others ++ (record { action = Routine Take; args = []; into = Some x } ∷ ls))
        (append_assoc (unhold_lines others) left tail)

    module _ (tail : List Line) (ahead : Ahead base outer goal low high tail) where
      abbrev built : List Line
      built = stores ++ (more ++ tail)

      abbrev labelled : List Line
      labelled = acts (Label low) [] ∷ built

      built_good : Good With built
      built_good = stored.good (more ++ tail) (fits.good tail (record {
        formed = ahead.formed;
        fresh = λ l le under. ahead.fresh l (omega (arith, le)) under;
        goal_ahead = goal_up base outer goal low (low + 1) tail (omega arith) ahead.goal_ahead;
      }))

      labelled_good : Good With labelled
      labelled_good = good_label With low built
          (has_no_append low stores (more ++ tail) (stored.no_label low)
          (has_no_append low more tail (fits.none low (inl (omega arith)))
          (ahead.fresh low (omega arith) (let up = fits.up in omega (arith, up))))) built_good

      asked : Good With (hold_lines others ++ (record { action = Routine Take; args = []; into = Some x } ∷ (unhold_lines others ++
          (left ++ labelled))))
      asked = good_none With _ (holding_row With others _ each small apart
          (holding_take base (x ∷ bound) x others _ room less differ
          (holding_weaker others With (Readable base base (x ∷ x ∷ bound)) _ (readable_bound base base (x ∷ bound) x)
          (back_row With others (left ++ labelled) each small apart
          (holding_none With (left ++ labelled) (left_stored.good labelled labelled_good))))))

      asked_good : Good With (asks ++ labelled)
      asked_good = subst (Good With) (sym (asks_then labelled)) asked

      fill_good : Good Before (copies_to token x ∷ acts (Branch NotEqual low) (x ∷ []) ∷ (asks ++ labelled))
      fill_good = to_variable base base bound Op.Mv (token ∷ []) x _ has (omega arith) refl (omega arith) (inl is_token, tt) less
          (good_branch With With NotEqual low (x ∷ []) (asks ++ labelled) (omega arith) (inl here, tt) (λ v is. is) small
          (stands_past With low asks labelled (asks_none low) (stands_here With low built labelled_good)) asked_good)

    fill_none : (l : ℕ) → (l < low) ⊎ (high ≤ l) → HasNo l ((asks ++ (acts (Label low) [] ∷ stores)) ++ more)
    fill_none l far = has_no_append l (asks ++ (acts (Label low) [] ∷ stores)) more
        (has_no_append l asks (acts (Label low) [] ∷ stores) (asks_none l)
        (other_label l low (λ same. differs same far), stored.no_label l))
        (fits.none l (later far))
      where
        differs : low ≡ l → (l < low) ⊎ (high ≤ l) → ⊥
        differs same (inl under) = absurd (omega (arith, same, under))
        differs same (inr above) = let up = fits.up in absurd (omega (arith, same, above, up))

        later : (l < low) ⊎ (high ≤ l) → (l < low + 1) ⊎ (high ≤ l)
        later (inl under) = inl (omega (arith, under))
        later (inr above) = inr above

    whole : (tail : List Line) → ((asks ++ (acts (Label low) [] ∷ stores)) ++ more) ++ tail
        ≡ asks ++ (acts (Label low) [] ∷ (stores ++ (more ++ tail)))
    whole tail =
        append_assoc (asks ++ (acts (Label low) [] ∷ stores)) more tail
        ∙ append_assoc asks (acts (Label low) [] ∷ stores) (more ++ tail)
        ∙ ap (λ (code : List Line). asks ++ (acts (Label low) [] ∷ code)) refl

    fill_fits : Fits base bound outer goal low high
        ((copies_to token x ∷ acts (Branch NotEqual low) (x ∷ []) ∷ (asks ++ (acts (Label low) [] ∷ stores)))
        ++ more)
    fill_fits = record {
      up = let up = fits.up in omega (arith, up);
      none = λ l far. (refl, (refl, fill_none l far));
      good = λ tail ahead. subst
          (λ (code : List Line). Good Before
          (copies_to token x ∷ acts (Branch NotEqual low) (x ∷ []) ∷ code))
          (sym (whole tail)) (fill_good tail ahead);
    }

  -- a construction in the cell of a token: its label is the one from `low` on
  pub fits_fill : (goal : Goal) (low high : ℕ) (kept : List ℕ) (head count : Bool) (own more : List Line)
      → FillLines base x token others low header arguments kept head count own
      → Fits base (x ∷ bound) outer goal (low + 1) high more → Fits base bound outer goal low high (own ++ more)
  fits_fill goal low high kept head count own more is fits =
      let left_stored = stores_lead_on head count (is_kept true kept) is.0 is.2 in
      let stored = stores_lead_on (not head) (not count) (is_kept false kept) is.1 is.3 in
      subst (λ (lines : List Line). Fits base bound outer goal low high (lines ++ more))
      (sym (is.4 ∙ ap (λ (code : List Line). copies_to token x ∷ acts (Branch NotEqual low) (x ∷ []) ∷ code)
      (sym (asks_then goal low high more fits is.0 is.1 left_stored stored (acts (Label low) [] ∷ is.1)))))
      (fill_fits goal low high more fits is.0 is.1 left_stored stored)
