-- Frames with slots: what they keep when cells get other addresses, and what becomes of them when the newest held token is taken.
use Rattle.std.proofs.Common.{◌≡◌, ◌≢◌, ℕ, suc, ◌+◌, ◌<◌, ◌==◌, Bool, true, false, List, [], ◌∷◌, length, Option, Some, None, refl, sym, ◌∙◌, ap, subst, arith, eqb-true}
use Rattle.std.specs.Prelude.{if◌then◌else◌}
use mathlib.Core.Path.{fun_ext}
use Rattle.kk_syntax.specs.Shapes.{is_among}
use Rattle.kk_counted.specs.Spending.{AreApart}
use Rattle.kk_counted.specs.TokenKeeping.{links_of}
use Rattle.kk_counted.specs.TokenStates.{TokenFrame}
use Rattle.kk_counted.specs.Tokens.{Slot, spent, null, token, is_unspent, is_token, Link, first_token}
use Rattle.kk_counted.proofs.TokenChain.{EqualBelow, token_is}
use Rattle.rv_isa.specs.AsmCode.{Line}
use Rattle.rv_isa.specs.Frames.{Frame, put}
use Rattle.rv_lower.proofs.FormEffects.{put_same, put_other}
use Rattle.rv_cells.proofs.Values.{Carries}
use Rattle.rv_cells.proofs.TokenRelation.{SlotIs, HaveSlotValues, held_values, Lowering, HasFrame, Waits, AllWait}

-- ---- one frame

-- a value behind those of the variables is of none that is bound
pub none_behind : (bound : List ℕ) (variables y : ℕ) → ((x : ℕ) → is_among bound x ≡ true → x < variables)
    → is_among bound (variables + y) ≡ false
none_behind bound variables y below = by (is_among bound (variables + y)) refl
  where
    by : (b : Bool) → is_among bound (variables + y) ≡ b → b ≡ false
    by true is = let low = below (variables + y) is in absurd (omega arith)
    by false is = refl

-- slots keep their values where the cells of tokens keep their addresses, and the values of unspent slots stay
pub slots_moved : {address later : ℕ → ℕ} {slots : ℕ → Slot} {variables count : ℕ} {values others : ℕ → Option ℕ}
    → HaveSlotValues address slots variables count values → ((y p : ℕ) → slots y ≡ token p → later p ≡ address p)
    → ((y : ℕ) → y < count → is_unspent (slots y) ≡ true → others (variables + y) ≡ values (variables + y))
    → HaveSlotValues later slots variables count others
slots_moved {address} {later} {slots} {variables} {count} {values} {others} have same stay = record {
  below = have.below;
  are = λ y. by y (slots y) refl (have.are y) (have.below y) (stay y);
}
  where
    by : (y : ℕ) (slot : Slot) → slots y ≡ slot → SlotIs address slot (values (variables + y)) → (is_unspent slot ≡ true → y < count)
        → (y < count → is_unspent slot ≡ true → others (variables + y) ≡ values (variables + y))
        → SlotIs later slot (others (variables + y))
    by y spent is value below stays = tt
    by y null is value below stays = stays (below refl) refl ∙ value
    by y (token p) is value below stays = stays (below refl) refl ∙ value ∙ ap Some (sym (same y p is))

-- a slot is given another token, whose value is written
pub slots_put : {address : ℕ → ℕ} {slots others : ℕ → Slot} {variables count : ℕ} {values : ℕ → Option ℕ}
    → HaveSlotValues address slots variables count values → (y word : ℕ) (slot : Slot) → y < count → others y ≡ slot
    → SlotIs address slot (Some word) → ((z : ℕ) → z ≢ y → others z ≡ slots z)
    → HaveSlotValues address others variables count (put (variables + y) (Some word) values)
slots_put {address} {slots} {others} {variables} {count} {values} have y word slot low is value same = record {
  below = λ z. (by z (z == y) refl).0;
  are = λ z. (by z (z == y) refl).1;
}
  where
    by : (z : ℕ) (b : Bool) → (z == y) ≡ b → (is_unspent (others z) ≡ true → z < count)
        × SlotIs address (others z) (put (variables + y) (Some word) values (variables + z))
    by z true test =
        let e : y ≡ z = sym (eqb-true z y test) in
        subst (λ x. (is_unspent (others x) ≡ true → x < count)
        × SlotIs address (others x) (put (variables + y) (Some word) values (variables + x))) e (
          λ unspent. low,
          subst (λ sl. SlotIs address sl (put (variables + y) (Some word) values (variables + y))) (sym is)
              (subst (SlotIs address slot) (sym (put_same (variables + y) word values)) value),
        )
    by z false test =
        let differ : z ≢ y = λ e. let itself : (z == y) ≡ true = grind arith in let both = sym itself ∙ test in cc in
        let still = same z differ in (
          λ unspent. have.below z (ap is_unspent (sym still) ∙ unspent),
          subst (λ sl. SlotIs address sl (put (variables + y) (Some word) values (variables + z))) (sym still)
              (subst (SlotIs address (slots z)) (sym (put_other (variables + y) (variables + z) word values
              (λ e. differ (omega (arith, e))))) (have.are z)),
        )

-- by the slots that are held
pub held_same : (slots others : ℕ → Slot) (variables : ℕ) (ys : List ℕ) → ((y : ℕ) → is_among ys y ≡ true → others y ≡ slots y)
    → held_values others variables ys ≡ held_values slots variables ys
held_same slots others variables [] equal = refl
held_same slots others variables (y ∷ ys) equal =
    rw (equal y (first y ys))
    (ap (λ more. if is_token (slots y) then (variables + y) ∷ more else more)
    (held_same slots others variables ys (λ z is. equal z (later y z ys is))))
  where
    first : (y : ℕ) (ys : List ℕ) → is_among (y ∷ ys) y ≡ true
    first y ys = let itself : (y == y) ≡ true = grind arith in rw itself refl

    or_true : (t : Bool) → (if t then true else true) ≡ true
    or_true true = refl
    or_true false = refl

    later : (y z : ℕ) (ys : List ℕ) → is_among ys z ≡ true → is_among (y ∷ ys) z ≡ true
    later y z ys is = by (y == z) refl
      where
        by : (b : Bool) → (y == z) ≡ b → is_among (y ∷ ys) z ≡ true
        by true test = rw test refl
        by false test = rw test is

-- The first of some held slots that has a token, with what is held once it is null and with its link; or none of them has one.
pub data First (slots : ℕ → Slot) (variables : ℕ) (ys : List ℕ) : Type 0 where
  one : (y p : ℕ) (more : List ℕ) → slots y ≡ token p → is_among ys y ≡ true → held_values slots variables ys ≡ (variables + y) ∷ more
      → ((others : ℕ → Slot) → others y ≡ null → ((z : ℕ) → z ≢ y → others z ≡ slots z) → held_values others variables ys ≡ more)
      → ((f : ℕ) (older : List Link) → (links : List Link) × (links_of slots f ys older ≡ record { frame = f; slot = y } ∷ links))
      → first_token slots ys ≡ Some y → First slots variables ys
  none : held_values slots variables ys ≡ [] → ((f : ℕ) (older : List Link) → links_of slots f ys older ≡ older)
      → first_token slots ys ≡ None → First slots variables ys

pub first_of : (slots : ℕ → Slot) (variables : ℕ) (ys : List ℕ) → AreApart ys → First slots variables ys
first_of slots variables [] apart = none refl (λ f older. refl) refl
first_of slots variables (y ∷ ys) apart = by (is_token (slots y)) refl (first_of slots variables ys apart.1)
  where
    differ : (z : ℕ) → is_among ys z ≡ true → z ≢ y
    differ z among e = let both : true ≡ false = sym among ∙ ap (is_among ys) e ∙ apart.0 in cc

    in_front : is_among (y ∷ ys) y ≡ true
    in_front = let itself : (y == y) ≡ true = grind arith in rw itself refl

    behind : (z : ℕ) → is_among ys z ≡ true → is_among (y ∷ ys) z ≡ true
    behind z is = by_same (y == z) refl
      where
        by_same : (b : Bool) → (y == z) ≡ b → is_among (y ∷ ys) z ≡ true
        by_same true test = rw test refl
        by_same false test = rw test is

    drops : (others : ℕ → Slot) → others y ≡ null → ((z : ℕ) → z ≢ y → others z ≡ slots z)
        → held_values others variables (y ∷ ys) ≡ held_values slots variables ys
    drops others gone same = rw gone (held_same slots others variables ys (λ z is. same z (differ z is)))

    by : (b : Bool) → is_token (slots y) ≡ b → First slots variables ys → First slots variables (y ∷ ys)
    by true test later =
        let cell = token_is (slots y) test in
        one y cell.0 (held_values slots variables ys) cell.1 in_front (rw test refl) drops
        (λ f older. (links_of slots f ys older, rw test refl)) (rw test refl)
    by false test (none is links first) = none (rw test is) (λ f older. rw test (links f older)) (rw test first)
    by false test (one z p more has among is drops_it links first) =
        one z p more has (behind z among) (rw test is)
        (λ others gone same.
        let still : is_token (others y) ≡ false = ap is_token (same y (λ e. differ z among (sym e))) ∙ test in
        rw still (drops_it others gone same))
        (λ f older. let found = links f older in (found.0, rw test found.1)) (rw test first)

module _ (program : Lowering) where
  -- ---- frames that wait

  -- A frame still waits where its values and its held slots are others, by what it has then.
  abbrev pub waits_so : {address : ℕ → ℕ} {next : ℕ} {slots : ℕ → Slot} {held : List ℕ} {waiting : TokenFrame} {f : Frame Line}
      {awaited : Bool} → (w : Waits program address next slots held waiting f awaited) → (later : ℕ → ℕ) (more : ℕ)
      (others : ℕ → Slot) (values : ℕ → Option ℕ) (row : List ℕ)
      → HasFrame program w.shape later more others held w.bound waiting.environment (record f { cells = values; held = row })
      → Waits program later more others held waiting (record f { cells = values; held = row }) awaited
  waits_so w later more others values row has = record {
    shape = w.shape;
    bound = w.bound;
    into = w.into;
    below = w.below;
    kind = w.kind;
    nothing = w.nothing;
    does = w.does;
    has = has;
  }

  -- the same slots, by what they have
  abbrev pub waits_at : {address : ℕ → ℕ} {next : ℕ} {slots others : ℕ → Slot} {held : List ℕ} {waiting : TokenFrame} {f : Frame
      Line}
      {awaited : Bool} → Waits program address next slots held waiting f awaited → ((y : ℕ) → slots y ≡ others y)
      → Waits program address next others held waiting f awaited
  waits_at {address} {next} {slots} {others} {held} {waiting} {f} {awaited} w equal =
      waits_so w address next others f.cells f.held
      (subst (λ sl. HasFrame program w.shape address next sl held w.bound waiting.environment f) (fun_ext equal) w.has)

  pub all_wait_at : (address : ℕ → ℕ) (next : ℕ) (slots others : ℕ → ℕ → Slot) (helds : List (List ℕ)) (frames : List TokenFrame)
      (fs : List (Frame Line)) (awaited : Bool) → EqualBelow (length helds) slots others
      → AllWait program address next slots helds frames fs awaited → AllWait program address next others helds frames fs awaited
  all_wait_at address next slots others [] [] [] awaited equal wait = tt
  all_wait_at address next slots others [] [] (f ∷ fs) awaited equal wait = absurd wait
  all_wait_at address next slots others [] (waiting ∷ frames) fs awaited equal wait = absurd wait
  all_wait_at address next slots others (held ∷ helds) [] fs awaited equal wait = absurd wait
  all_wait_at address next slots others (held ∷ helds) (waiting ∷ frames) [] awaited equal wait = absurd wait
  all_wait_at address next slots others (held ∷ helds) (waiting ∷ frames) (f ∷ fs) awaited equal wait = (
    waits_at wait.0 (λ y. equal (length helds) y (omega arith)),
    all_wait_at address next slots others helds frames fs wait.0.shape.result (λ g y less. equal g y (omega (arith, less))) wait.1,
  )

  -- names go on, and the cells of tokens keep their addresses
  pub all_carried : (address : ℕ → ℕ) (next : ℕ) (later : ℕ → ℕ) (more : ℕ) (slots : ℕ → ℕ → Slot) (helds : List (List ℕ))
      (frames : List TokenFrame) (fs : List (Frame Line)) (awaited : Bool) → Carries program.layout address next later more
      → ((f y p : ℕ) → slots f y ≡ token p → later p ≡ address p)
      → AllWait program address next slots helds frames fs awaited → AllWait program later more slots helds frames fs awaited
  all_carried address next later more slots [] [] [] awaited carries same wait = tt
  all_carried address next later more slots [] [] (f ∷ fs) awaited carries same wait = absurd wait
  all_carried address next later more slots [] (waiting ∷ frames) fs awaited carries same wait = absurd wait
  all_carried address next later more slots (held ∷ helds) [] fs awaited carries same wait = absurd wait
  all_carried address next later more slots (held ∷ helds) (waiting ∷ frames) [] awaited carries same wait = absurd wait
  all_carried address next later more slots (held ∷ helds) (waiting ∷ frames) (f ∷ fs) awaited carries same wait =
      let w = wait.0 in (
        waits_so w later more (slots (length helds)) f.cells f.held
            (record {
              values = carries w.shape.holds (w.shape.variables + w.shape.slots) w.bound waiting.environment f.cells w.has.values;
              below = w.has.below;
              tokens = slots_moved w.has.tokens (λ y p is. same (length helds) y p is) (λ y low unspent. refl);
              held_is = w.has.held_is;
              formed = w.has.formed;
              in_function = w.has.in_function;
            }),
        all_carried address next later more slots helds frames fs w.shape.result carries same wait.1,
      )

  pub as_many_wait : (address : ℕ → ℕ) (next : ℕ) (slots : ℕ → ℕ → Slot) (helds : List (List ℕ)) (frames : List TokenFrame)
      (fs : List (Frame Line)) (awaited : Bool) → AllWait program address next slots helds frames fs awaited
      → (length fs ≡ length frames) × (length helds ≡ length frames)
  as_many_wait address next slots [] [] [] awaited wait = (refl, refl)
  as_many_wait address next slots [] [] (f ∷ fs) awaited wait = absurd wait
  as_many_wait address next slots [] (waiting ∷ frames) fs awaited wait = absurd wait
  as_many_wait address next slots (held ∷ helds) [] fs awaited wait = absurd wait
  as_many_wait address next slots (held ∷ helds) (waiting ∷ frames) [] awaited wait = absurd wait
  as_many_wait address next slots (held ∷ helds) (waiting ∷ frames) (f ∷ fs) awaited wait =
      let later = as_many_wait address next slots helds frames fs wait.0.shape.result wait.1 in
      (ap suc later.0, ap suc later.1)
