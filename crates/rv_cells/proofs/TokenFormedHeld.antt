-- Well-formed lines before which the tokens of values are held.
use Rattle.std.proofs.Common.{◌≡◌, ℕ, ◌+◌, ◌<◌, ◌≤◌, ◌==◌, ◌||◌, ◌⊎◌, inl, Bool, true, false, List, [], ◌∷◌, ◌++◌, length, All, Option}
use Rattle.std.proofs.Common.{Some, None, if◌then◌else◌, refl, sym, ap, subst, ◌∙◌, arith, append_assoc}
use Rattle.std.specs.List.{AllByRecursion}
use Rattle.std.proofs.lemmas.Bool.{false≢true, ne_eqb}
use Rattle.std.proofs.lemmas.List.Elements.{All-nil, All-cons}
use Rattle.kk_base.specs.Limits.{greatest_of}
use Rattle.kk_base.specs.declared.limit.LimitKind.TheVariants.{Parameters}
use Rattle.kk_syntax.specs.Shapes.{is_among as is_bound}
use Rattle.kk_counted.specs.Spending.{AreApart}
use Rattle.rv_isa.specs.declared.asm.Action.{Action}
use Rattle.rv_isa.specs.declared.asm.Action.TheVariants.{Call, Routine, Hold, Unhold}
use Rattle.rv_isa.specs.declared.asm.Operation.TheVariants as Op
use Rattle.rv_isa.specs.declared.routine.Routine.TheVariants.{Take, Drop}
use Rattle.rv_isa.specs.AsmCode.{Line}
use Rattle.rv_isa.specs.Frames.{is_among}
use Rattle.rv_isa.specs.WellFormed.{is_written, has_value, is_alive, is_alive_behind, most_values, AreLabelsAhead, most_args, may_give, hands_over}
use Rattle.rv_isa.specs.WellFormed.{IsLineFormed, AreLinesFormed, AreTokensHeld}
use Rattle.rv_isa.proofs.HeldTokens.{held_from, held_to, held_over}
use Rattle.rv_lower.specs.Lines.{acts, copies_to, copies, temporaries}
use Rattle.rv_lower.specs.Lowered.{Goal}
use Rattle.rv_lower.proofs.WellFormedness.{AllBound, Each, Readable, IsWithin, readable_within, most_temporaries}
use Rattle.rv_lower.proofs.WellFormedness.{Good, HasRoom, alive_line, none_some, some_same, computes_formed}
use Rattle.rv_lower.proofs.WellFormedness.{readable_small, temporary_left, variable_left, hands_formed, hands_alive}
use Rattle.rv_lower.proofs.WellFormedness.{temporaries_above}
use Rattle.rv_lower.proofs.AbsentLabels.{HasNo, has_no_append}
use Rattle.rv_lower.proofs.Operations.{only_bound, copied}
use Rattle.rv_lower.proofs.Codes.{Ahead, Fits}
use Rattle.rv_cells.specs.CellLines.{drop_lines, hold_line, back_line, hold_lines, unhold_lines}
use Rattle.rv_cells.proofs.CellForms.{take_formed}

-- well-formed code, before which the tokens of these values are held, the newest first, and only certain values are alive
pub record Holding (held : List ℕ) (B : ℕ → Type 0) (code : List Line) : Type 0 where
  pub lines : AreLinesFormed code
  pub tokens : AreTokensHeld held code
  pub alive : (v : ℕ) → is_alive v code ≡ true → B v

pub holding_none : (B : ℕ → Type 0) (code : List Line) → Good B code → Holding [] B code
holding_none B code good = record { lines = good.formed.lines; tokens = good.formed.tokens; alive = good.alive }

pub good_none : (B : ℕ → Type 0) (code : List Line) → Holding [] B code → Good B code
good_none B code more = record { formed = record { lines = more.lines; tokens = more.tokens }; alive = more.alive }

pub holding_weaker : (held : List ℕ) (B C : ℕ → Type 0) (code : List Line) → ((v : ℕ) → B v → C v) → Holding held B code
    → Holding held C code
holding_weaker held B C code into more =
    record { lines = more.lines; tokens = more.tokens; alive = λ v is. into v (more.alive v is) }

-- ---- a token more is held, and one is taken back

-- an action that reads values, and hands them over to nobody
read_formed : (action : Action) (args : List ℕ) (into : Option ℕ) (rest : List Line) → AreLabelsAhead action rest
    → length args ≤ most_args action → (has_value into ≡ true → may_give action ≡ true) → hands_over action ≡ false
    → All (λ v. v < most_values) args → ((v : ℕ) → into ≡ Some v → v < most_values)
    → IsLineFormed (record { action = action; args = args; into = into }) rest
read_formed action args into rest labels few gives keeps small into_small = record {
  labels = labels;
  few = few;
  gives = gives;
  distinct = λ is. absurd (false≢true (sym keeps ∙ is));
  spent = λ is. absurd (false≢true (sym keeps ∙ is));
  args_small = small;
  into_small = into_small;
}

one_small : (y : ℕ) → y < most_values → All (λ v. v < most_values) (y ∷ [])
one_small y small = All-cons (λ v. v < most_values) y [] small (All-nil (λ v. v < most_values))

-- a token is taken back, of which no value gets the word
held_back : (y : ℕ) (held : List ℕ) (rest : List Line) → is_among y held ≡ false → AreTokensHeld held rest
    → AreTokensHeld (y ∷ held) (acts Unhold (y ∷ []) ∷ rest)
held_back y held rest apart more =
    (held, (refl, (λ u before behind. (ap (λ (b : Bool). b || false) (other u behind), refl), more)))
  where
    other : (u : ℕ) → is_among u held ≡ true → (y == u) ≡ false
    other u there = ne_eqb y u (λ e. false≢true (sym apart ∙ ap (λ w. is_among w held) e ∙ there))

-- a Hold before code before which its value is held, and an Unhold before code before which it is not, also one that gives the token
pub holding_more : (held : List ℕ) (B : ℕ → Type 0) (y : ℕ) (rest : List Line) → B y → y < most_values → is_bound held y ≡ false
    → Holding (y ∷ held) B rest → Holding held B (hold_line y ∷ rest)
holding_more held B y rest readable small other more = record {
  lines = (
    read_formed Hold (y ∷ y ∷ []) None rest tt (omega arith) (λ is. absurd (false≢true is)) refl
        (All-cons (λ v. v < most_values) y (y ∷ []) small (one_small y small)) (λ v is. absurd (none_some is)),
    more.lines,
  );
  tokens = held_from y held rest other more.tokens;
  alive = alive_line B (hold_line y) rest (readable, (readable, tt)) (λ v none is. more.alive v is);
}

pub holding_less : (held : List ℕ) (B : ℕ → Type 0) (y : ℕ) (rest : List Line) → B y → y < most_values → is_bound held y ≡ false
    → Holding held B rest → Holding (y ∷ held) B (acts Unhold (y ∷ []) ∷ rest)
holding_less held B y rest readable small other more = record {
  lines = (
    read_formed Unhold (y ∷ []) None rest tt (omega arith) (λ is. absurd (false≢true is)) refl (one_small y small)
        (λ v is. absurd (none_some is)),
    more.lines,
  );
  tokens = held_back y held rest other more.tokens;
  alive = alive_line B (acts Unhold (y ∷ [])) rest (readable, tt) (λ v none is. more.alive v is);
}

pub holding_back : (held : List ℕ) (B : ℕ → Type 0) (y : ℕ) (rest : List Line) → B y → y < most_values → is_bound held y ≡ false
    → Holding held B rest → Holding (y ∷ held) B (back_line y ∷ rest)
holding_back held B y rest readable small other more = record {
  lines = (
    read_formed Unhold (y ∷ []) (Some y) rest tt (omega arith) (λ is. refl) refl (one_small y small)
        (λ v is. subst (λ (w : ℕ). w < most_values) (some_same is) small),
    more.lines,
  );
  tokens = held_to y held rest other more.tokens;
  alive = alive_line B (back_line y) rest (readable, tt) (λ v none is. more.alive v is);
}

-- a row of tokens is held, and taken back
pub holding_row : (B : ℕ → Type 0) (others : List ℕ) (rest : List Line) → Each B others → ((v : ℕ) → B v → v < most_values)
    → AreApart others → Holding others B rest → Holding [] B (hold_lines others ++ rest)
holding_row B [] rest each small apart more = more
holding_row B (y ∷ others) rest each small apart more =
    subst (Holding [] B) (sym (append_assoc (hold_lines others) (hold_line y ∷ []) rest))
    (holding_row B others (hold_line y ∷ rest) each.1 small apart.1
    (holding_more others B y rest each.0 (small y each.0) apart.0 more))

pub back_row : (B : ℕ → Type 0) (others : List ℕ) (rest : List Line) → Each B others → ((v : ℕ) → B v → v < most_values)
    → AreApart others → Holding [] B rest → Holding others B (unhold_lines others ++ rest)
back_row B [] rest each small apart more = more
back_row B (y ∷ others) rest each small apart more =
    holding_less others B y (unhold_lines others ++ rest) each.0 (small y each.0) apart.0
    (back_row B others rest each.1 small apart.1 more)

pub hold_none : (others : List ℕ) (l : ℕ) → HasNo l (hold_lines others)
hold_none [] l = tt
hold_none (y ∷ others) l = has_no_append l (hold_lines others) (hold_line y ∷ []) (hold_none others l) (refl, tt)

pub unhold_none : (others : List ℕ) (l : ℕ) → HasNo l (unhold_lines others)
unhold_none [] l = tt
unhold_none (y ∷ others) l = (refl, unhold_none others l)

-- ---- a request, and a call

-- a cell is taken: tokens of other values stay held
pub holding_take : (base : ℕ) (bound : List ℕ) (x : ℕ) (held : List ℕ) (rest : List Line) → HasRoom base bound → x < base
    → AllByRecursion (λ (v : ℕ). (x == v) ≡ false) held → Holding held (Readable base base (x ∷ bound)) rest
    → Holding held (Readable base base bound) (record { action = Routine Take; args = []; into = Some x } ∷ rest)
holding_take base bound x held rest has less others more = record {
  lines = (take_formed base bound x rest has less, more.lines);
  tokens = held_over (record { action = Routine Take; args = []; into = Some x }) held rest tt refl (left held others) more.tokens;
  alive = alive_line (Readable base base bound) (record { action = Routine Take; args = []; into = Some x }) rest tt
      (λ v other is. variable_left base base bound x v (more.alive v is) other);
}
  where
    left : (held : List ℕ) → AllByRecursion (λ (v : ℕ). (x == v) ≡ false) held
        → AllByRecursion (λ (v : ℕ). (is_among v [] ≡ false) × (is_written (Some x) v ≡ false)) held
    left [] others = tt
    left (v ∷ held) others = ((refl, others.0), left held others.1)

-- Where the values that are held are between the variables and the temporaries, a call of variables leaves them alone.
module _ (variables base : ℕ) (bound : List ℕ) (has : HasRoom base bound) (held : List ℕ)
    (between : AllByRecursion (λ (v : ℕ). (variables ≤ v) × (v < base)) held) where
  -- a copy to a temporary leaves them alone, and so does a call
  copy_left : (x at : ℕ) → x < variables → base ≤ at → (held : List ℕ)
      → AllByRecursion (λ (v : ℕ). (variables ≤ v) × (v < base)) held
      → AllByRecursion (λ (v : ℕ). (is_among v (x ∷ []) ≡ false) × (is_written (Some at) v ≡ false)) held
  copy_left x at less le [] all = tt
  copy_left x at less le (v ∷ held) all =
      let above = all.0.0 in let below = all.0.1 in (
        (
          ap (λ (t : Bool). t || false) (ne_eqb x v (λ e. absurd (omega (arith, e, less, above)))),
          ne_eqb at v (λ e. absurd (omega (arith, e, le, below))),
        ),
        copy_left x at less le held all.1,
      )

  holding_copies : (limit last : ℕ) (xs : List ℕ) (rest : List Line) → base ≤ limit → limit + length xs ≡ last
      → last ≤ base + most_temporaries
      → AllBound bound xs → Each (λ x. x < variables) xs → Holding held (Readable base last bound) rest
      → Holding held (Readable base limit bound) (copies limit xs ++ rest)
  holding_copies limit last [] rest above is le all small more =
      subst (λ (n : ℕ). Holding held (Readable base n bound) rest) (omega (arith, is)) more
  holding_copies limit last (x ∷ xs) rest above is le all small more =
      let later = holding_copies (limit + 1) last xs rest (omega (arith, above)) (omega (arith, is)) le all.1 small.1 more in
      let room = has.room in record {
        lines = (
          computes_formed (Readable base limit bound) Op.Mv (x ∷ []) limit (copies (limit + 1) xs ++ rest) refl (omega arith)
              (inl all.0, tt) (readable_small base limit bound has (omega (arith, is, le))) (omega (arith, is, le, room)),
          later.lines,
        );
        tokens = held_over (copies_to x limit) held (copies (limit + 1) xs ++ rest) tt refl
            (copy_left x limit small.0 above held between) later.tokens;
        alive = alive_line (Readable base limit bound) (copies_to x limit) (copies (limit + 1) xs ++ rest) (inl all.0, tt)
            (λ v other is. temporary_left base limit bound v (later.alive v is) other);
      }

  call_left : (x : ℕ) (xs : List ℕ) → x < variables → (held : List ℕ)
      → AllByRecursion (λ (v : ℕ). (variables ≤ v) × (v < base)) held
      → AllByRecursion (λ (v : ℕ). (is_among v (temporaries base xs) ≡ false) × (is_written (Some x) v ≡ false)) held
  call_left x xs less [] all = tt
  call_left x xs less (v ∷ held) all =
      let above = all.0.0 in (
        (temporaries_above base v xs all.0.1, ne_eqb x v (λ e. absurd (omega (arith, e, less, above)))),
        call_left x xs less held all.1,
      )

  holding_call : (x f : ℕ) (xs : List ℕ) (rest : List Line) → x < variables → x < base → length xs ≤ greatest_of Parameters
      → Holding held (Readable base base (x ∷ bound)) rest
      → Holding held (Readable base (base + length xs) bound)
      (record { action = Call f; args = temporaries base xs; into = Some x } ∷ rest)
  holding_call x f xs rest less below few more =
      let room = has.room in record {
        lines = (
          hands_formed base bound xs (Call f) (Some x) rest has tt few few (λ _. refl)
              (λ v is. subst (λ (y : ℕ). y < most_values) (some_same is) (omega (arith, below, room))) behind,
          more.lines,
        );
        tokens = held_over (record { action = Call f; args = temporaries base xs; into = Some x }) held rest tt refl
            (call_left x xs less held between) more.tokens;
        alive = hands_alive base bound xs (Call f) (Some x) rest behind;
      }
    where
      behind : (v : ℕ) → is_written (Some x) v ≡ false → is_alive_behind v (Call f) rest ≡ true → is_bound bound v ≡ true
      behind v other is = only_bound base bound has v (variable_left base base bound x v (more.alive v is) other)

  drop_left : (x : ℕ) → x < variables → (held : List ℕ) → AllByRecursion (λ (v : ℕ). (variables ≤ v) × (v < base)) held
      → AllByRecursion (λ (v : ℕ). (is_among v (x ∷ []) ≡ false) × (is_written None v ≡ false)) held
  drop_left x less [] all = tt
  drop_left x less (v ∷ held) all =
      let above = all.0.0 in (
        (ap (λ (t : Bool). t || false) (ne_eqb x v (λ e. absurd (omega (arith, e, less, above)))), refl),
        drop_left x less held all.1,
      )

  -- a reference is given up
  holding_drop : (x : ℕ) (rest : List Line) → is_bound bound x ≡ true → x < variables
      → Holding held (Readable base base bound) rest
      → Holding held (Readable base base bound) (acts (Routine Drop) (x ∷ []) ∷ rest)
  holding_drop x rest is less more = record {
    lines = (
      read_formed (Routine Drop) (x ∷ []) None rest tt (omega arith) (λ is. absurd (false≢true is)) refl
          (one_small x (readable_small base base bound has (omega arith) x (inl is))) (λ v is. absurd (none_some is)),
      more.lines,
    );
    tokens = held_over (acts (Routine Drop) (x ∷ [])) held rest tt refl (drop_left x less held between) more.tokens;
    alive = alive_line (Readable base base bound) (acts (Routine Drop) (x ∷ [])) rest (inl is, tt) (λ v none is. more.alive v is);
  }

-- ---- code

-- the lines of a code before which the tokens of values are held
pub record FitsHeld (base : ℕ) (held bound outer : List ℕ) (goal : Goal) (low high : ℕ) (lines : List Line) : Type 0 where
  pub up : low ≤ high
  pub none : (l : ℕ) → (l < low) ⊎ (high ≤ l) → HasNo l lines
  pub good : (tail : List Line) → Ahead base outer goal low high tail → Holding held (Readable base base bound) (lines ++ tail)

module _ (base : ℕ) (bound outer : List ℕ) (goal : Goal) (low high : ℕ) (lines : List Line) where
  pub held_fits : Fits base bound outer goal low high lines → FitsHeld base [] bound outer goal low high lines
  held_fits fits = record {
    up = fits.up;
    none = fits.none;
    good = λ tail ahead. holding_none (Readable base base bound) (lines ++ tail) (fits.good tail ahead);
  }

  pub fits_held : FitsHeld base [] bound outer goal low high lines → Fits base bound outer goal low high lines
  fits_held fits = record {
    up = fits.up;
    none = fits.none;
    good = λ tail ahead. good_none (Readable base base bound) (lines ++ tail) (fits.good tail ahead);
  }

-- more may be bound before the lines
pub held_weaker : (base : ℕ) (held bound more outer : List ℕ) (goal : Goal) (low high : ℕ) (lines : List Line) → IsWithin bound more
    → FitsHeld base held bound outer goal low high lines → FitsHeld base held more outer goal low high lines
held_weaker base held bound more outer goal low high lines within fits = record {
  up = fits.up;
  none = fits.none;
  good = λ tail ahead. holding_weaker held (Readable base base bound) (Readable base base more) (lines ++ tail)
      (readable_within base base bound more within) (fits.good tail ahead);
}

module _ (base : ℕ) (held bound outer : List ℕ) (has : HasRoom base bound) (goal : Goal) (low high : ℕ) (more : List Line) where
  pub fits_hold : (y : ℕ) → is_bound bound y ≡ true → is_bound held y ≡ false
      → FitsHeld base (y ∷ held) bound outer goal low high more
      → FitsHeld base held bound outer goal low high (hold_line y ∷ more)
  fits_hold y is other fits = record {
    up = fits.up;
    none = λ l apart. (refl, fits.none l apart);
    good = λ tail ahead. holding_more held (Readable base base bound) y (more ++ tail) (inl is)
        (readable_small base base bound has (omega arith) y (inl is)) other (fits.good tail ahead);
  }

  pub fits_unhold : (y : ℕ) → is_bound bound y ≡ true → is_bound held y ≡ false → FitsHeld base held bound outer goal low high more
      → FitsHeld base (y ∷ held) bound outer goal low high (back_line y ∷ more)
  fits_unhold y is other fits = record {
    up = fits.up;
    none = λ l apart. (refl, fits.none l apart);
    good = λ tail ahead. holding_back held (Readable base base bound) y (more ++ tail) (inl is)
        (readable_small base base bound has (omega arith) y (inl is)) other (fits.good tail ahead);
  }

  -- a variable's reference is given up, where its type has cells
  pub fits_held_drop : (variables x : ℕ) (holds : ℕ → Bool) → AllByRecursion (λ (v : ℕ). (variables ≤ v) × (v < base)) held
      → (holds x ≡ true → (is_bound bound x ≡ true) × (x < variables))
      → FitsHeld base held bound outer goal low high more
      → FitsHeld base held bound outer goal low high (drop_lines holds x ++ more)
  fits_held_drop variables x holds between may fits = by (holds x) refl
    where
      own : Bool → List Line
      own some = if some then acts (Routine Drop) (x ∷ []) ∷ [] else []

      dropped : is_bound bound x ≡ true → x < variables → FitsHeld base held bound outer goal low high (own true ++ more)
      dropped is less = record {
        up = fits.up;
        none = λ l apart. (refl, fits.none l apart);
        good = λ tail ahead. holding_drop variables base bound has held between x (more ++ tail) is less (fits.good tail ahead);
      }

      by : (some : Bool) → holds x ≡ some → FitsHeld base held bound outer goal low high (own (holds x) ++ more)
      by true is =
          subst (λ (b : Bool). FitsHeld base held bound outer goal low high (own b ++ more)) (sym is) (dropped (may is).0 (may is).1)
      by false is = subst (λ (b : Bool). FitsHeld base held bound outer goal low high (own b ++ more)) (sym is) fits

  -- a call of variables, which are below the values that are held
  pub fits_held_call : (variables x f : ℕ) (xs : List ℕ) → AllByRecursion (λ (v : ℕ). (variables ≤ v) × (v < base)) held
      → x < variables → x < base → length xs ≤ greatest_of Parameters → AllBound bound xs → Each (λ z. z < variables) xs
      → FitsHeld base held (x ∷ bound) outer goal low high more
      → FitsHeld base held bound outer goal low high
      ((copies base xs ++ record { action = Call f; args = temporaries base xs; into = Some x } ∷ []) ++ more)
  fits_held_call variables x f xs between less below few all small fits = record {
    up = fits.up;
    none = λ l apart. has_no_append l (copies base xs ++ call ∷ []) more
        (has_no_append l (copies base xs) (call ∷ []) ((copied base bound has xs few all).no_label l) (refl, tt))
        (fits.none l apart);
    good = λ tail ahead. subst (Holding held (Readable base base bound))
        (sym (append_assoc (copies base xs ++ call ∷ []) more tail ∙ append_assoc (copies base xs) (call ∷ []) (more ++ tail)))
        (holding_copies variables base bound has held between base (base + length xs) xs (call ∷ (more ++ tail)) (omega arith) refl
        (omega (arith, few)) all small
        (holding_call variables base bound has held between x f xs (more ++ tail) less below few (fits.good tail ahead)));
  }
    where
      call : Line
      call = record { action = Call f; args = temporaries base xs; into = Some x }
