-- Code that is well formed, and before which only certain values are alive. A line before such code keeps it so.
use Rattle.std.proofs.Common.{◌≡◌, ◌≢◌, ℕ, suc, ◌+◌, ◌<◌, ◌≤◌, ◌==◌, ◌||◌, ◌&&◌, ◌⊎◌, inl, inr, Bool, true, false, not, List, [], ◌∷◌, ◌++◌, length, Option, Some, None, All, refl, sym, ap, subst, ◌∙◌, arith}
use Rattle.std.proofs.lemmas.Bool.{or_cases, or_left, or_right, cases_eq, eq-eqb, eqb-true, false_from_ne_true, false≢true, ne_eqb}
use Rattle.std.proofs.lemmas.List.Elements.{All-nil, All-cons}
use Rattle.kk_base.specs.Limits.{greatest_of}
use Rattle.kk_base.specs.declared.limit.LimitKind.TheVariants.{Parameters}
use Rattle.kk_syntax.specs.Shapes.{is_among as is_bound}
use Rattle.rv_isa.specs.declared.asm.Action.{Action}
use Rattle.rv_isa.specs.declared.asm.Action.TheVariants.{Compute}
use Rattle.rv_isa.specs.declared.asm.Operation.{Operation}
use Rattle.rv_isa.specs.declared.asm.Operation.TheVariants.{Mv}
use Rattle.rv_isa.specs.AsmCode.{Line}
use Rattle.rv_isa.specs.Frames.{is_among}
use Rattle.rv_isa.specs.WellFormed.{is_written, is_alive, is_alive_behind, most_values, AreLabelsAhead, most_args, has_value, may_give, hands_over, AreDistinct, IsSpent, IsLineFormed, AreLinesFormed, AreTokensHeld}
use Rattle.rv_isa.proofs.HeldTokens.{HoldsNone, none_held_before}
use Rattle.rv_lower.specs.Lines.{acts, computes, copies, temporaries}

-- a value that may be read: of a variable that is bound, or a temporary that was written
abbrev pub Readable : ℕ → ℕ → List ℕ → ℕ → Type 0
Readable base limit bound v = (is_bound bound v ≡ true) ⊎ ((base ≤ v) × (v < limit))

-- what is bound by one list is so by another
abbrev pub IsWithin : List ℕ → List ℕ → Type 0
IsWithin bound more = (v : ℕ) → is_bound bound v ≡ true → is_bound more v ≡ true

pub within_more : (bound more : List ℕ) (y : ℕ) → IsWithin bound more → IsWithin (y ∷ bound) (y ∷ more)
within_more bound more y within v is = split (or_cases (y == v) (is_bound bound v) is)
  where
    split : ((y == v) ≡ true) ⊎ (is_bound bound v ≡ true) → is_bound (y ∷ more) v ≡ true
    split (inl same) = or_left (y == v) (is_bound more v) same
    split (inr older) = or_right (y == v) (is_bound more v) (within v older)

pub readable_within : (base limit : ℕ) (bound more : List ℕ) → IsWithin bound more → (v : ℕ) → Readable base limit bound v
    → Readable base limit more v
readable_within base limit bound more within v (inl is) = inl (within v is)
readable_within base limit bound more within v (inr is) = inr is

-- each of a list
abbrev pub Each : (ℕ → Type 0) → List ℕ → Type 0
Each B [] = Unit {0}
Each B (x ∷ xs) = B x × Each B xs

-- all of some values are bound
abbrev pub AllBound : List ℕ → List ℕ → Type 0
AllBound bound xs = Each (λ v. is_bound bound v ≡ true) xs

-- well-formed lines, before which no token is held
pub record AreFormed (code : List Line) : Type 0 where
  pub lines : AreLinesFormed code
  pub tokens : AreTokensHeld [] code

-- a line more, which holds no token and takes none back
pub formed_more : (line : Line) (rest : List Line) → IsLineFormed line rest → HoldsNone line.action → AreFormed rest → AreFormed (line ∷ rest)
formed_more line rest formed none more = record { lines = (formed, more.lines); tokens = none_held_before line rest none more.tokens }

-- well-formed code, before which only such values are alive
pub record Good (B : ℕ → Type 0) (code : List Line) : Type 0 where
  pub formed : AreFormed code
  pub alive : (v : ℕ) → is_alive v code ≡ true → B v

-- the most temporaries of a form: as many as a call has arguments
abbrev pub most_temporaries : ℕ
most_temporaries = greatest_of Parameters

-- variables are below the temporaries, of which there is room for the most
pub record HasRoom (base : ℕ) (bound : List ℕ) : Type 0 where
  pub room : base + most_temporaries ≤ most_values
  pub low : (v : ℕ) → is_bound bound v ≡ true → v < base

pub weaker : {B C : ℕ → Type 0} {code : List Line} → ((v : ℕ) → B v → C v) → Good B code → Good C code
weaker into good = record { formed = good.formed; alive = λ v is. into v (good.alive v is) }

pub readable_small : (base limit : ℕ) (bound : List ℕ) → HasRoom base bound → limit ≤ base + most_temporaries → (v : ℕ) → Readable base limit bound v → v < most_values
readable_small base limit bound has le v (inl is) = omega (arith, has.low v is, has.room)
readable_small base limit bound has le v (inr is) = omega (arith, is, has.room)

-- a bound variable more
pub room_more : (base : ℕ) (bound : List ℕ) (x : ℕ) → HasRoom base bound → x < base → HasRoom base (x ∷ bound)
room_more base bound x has less = record { room = has.room; low = λ v is. low v (or_cases (x == v) (is_bound bound v) is) }
  where
    low : (v : ℕ) → ((x == v) ≡ true) ⊎ (is_bound bound v ≡ true) → v < base
    low v (inl same) = let e = eqb-true x v same in omega (arith, e, less)
    low v (inr is) = has.low v is

pub all_each : (B C : ℕ → Type 0) (xs : List ℕ) → ((v : ℕ) → B v → C v) → Each B xs → All C xs
all_each B C [] into each = All-nil C
all_each B C (x ∷ xs) into each = All-cons C x xs (into x each.0) (all_each B C xs into each.1)

pub among_each : (B : ℕ → Type 0) (xs : List ℕ) (v : ℕ) → Each B xs → is_among v xs ≡ true → B v
among_each B [] v each is = absurd (false≢true is)
among_each B (x ∷ xs) v each is = split (or_cases (x == v) (is_among v xs) is) (among_each B xs v each.1)
  where
    split : ((x == v) ≡ true) ⊎ (is_among v xs ≡ true) → (is_among v xs ≡ true → B v) → B v
    split (inl same) later_gives = subst B (eqb-true x v same) each.0
    split (inr later) later_gives = later_gives later

-- what is alive before a line: its arguments, and what is alive behind it and not written
pub alive_line : (B : ℕ → Type 0) (line : Line) (rest : List Line) → Each B line.args
    → ((v : ℕ) → is_written line.into v ≡ false → is_alive_behind v line.action rest ≡ true → B v) → (v : ℕ) → is_alive v (line ∷ rest) ≡ true → B v
alive_line B line rest args behind v is =
    split (or_cases (is_among v line.args) (not (is_written line.into v) && is_alive_behind v line.action rest) is)
  where
    both : (w b : Bool) → (not w && b) ≡ true → (w ≡ false) × (b ≡ true)
    both true b is = absurd (false≢true is)
    both false b is = (refl, is)

    split : (is_among v line.args ≡ true) ⊎ ((not (is_written line.into v) && is_alive_behind v line.action rest) ≡ true) → B v
    split (inl among) = among_each B line.args v args among
    split (inr later) = let parts = both (is_written line.into v) (is_alive_behind v line.action rest) later in behind v parts.0 parts.1

pub none_some : {A : Type 0} {v : A} → None ≡ Some v → ⊥
none_some is = grind (arith, is)

pub some_same : {x v : ℕ} → Some x ≡ Some v → x ≡ v
some_same e = grind (arith, e)

-- a line that gives no value and hands none over
pub formed_effect : (action : Action) (args : List ℕ) (rest : List Line) → AreLabelsAhead action rest
    → length args ≤ most_args action → hands_over action ≡ false → All (λ v. v < most_values) args
    → IsLineFormed (acts action args) rest
formed_effect action args rest labels few kept small = record {
  labels = labels;
  few = few;
  gives = λ is. absurd (false≢true is);
  distinct = λ is. absurd (false≢true (sym kept ∙ is));
  spent = λ is. absurd (false≢true (sym kept ∙ is));
  args_small = small;
  into_small = λ v is. absurd (none_some is);
}

-- an operation on words
pub computes_formed : (B : ℕ → Type 0) (operation : Operation) (args : List ℕ) (x : ℕ) (rest : List Line)
    → may_give (Compute operation) ≡ true → length args ≤ 2 → Each B args → ((v : ℕ) → B v → v < most_values) → x < most_values
    → IsLineFormed (computes operation args x) rest
computes_formed B operation args x rest gives few all small into_small = record {
  labels = tt;
  few = few;
  gives = λ _. gives;
  distinct = λ is. absurd (false≢true is);
  spent = λ is. absurd (false≢true is);
  args_small = all_each B (λ v. v < most_values) args small all;
  into_small = λ v is. subst (λ (y : ℕ). y < most_values) (some_same is) into_small;
}

pub good_computes : (B C : ℕ → Type 0) (operation : Operation) (args : List ℕ) (x : ℕ) (rest : List Line)
    → may_give (Compute operation) ≡ true → length args ≤ 2 → Each B args → ((v : ℕ) → B v → v < most_values) → x < most_values
    → ((v : ℕ) → C v → (x == v) ≡ false → B v) → Good C rest → Good B (computes operation args x ∷ rest)
good_computes B C operation args x rest gives few all small into_small more good = record {
  formed = formed_more (computes operation args x) rest (computes_formed B operation args x rest gives few all small into_small) tt
      good.formed;
  alive = alive_line B (computes operation args x) rest all (λ v other is. more v (good.alive v is) other);
}

-- what may be read behind a line that writes a variable, and is not that one, may be read before it
pub variable_left : (base limit : ℕ) (bound : List ℕ) (x v : ℕ) → Readable base limit (x ∷ bound) v → (x == v) ≡ false
    → Readable base limit bound v
variable_left base limit bound x v (inr is) other = inr is
variable_left base limit bound x v (inl is) other = inl (left (or_cases (x == v) (is_bound bound v) is))
  where
    left : ((x == v) ≡ true) ⊎ (is_bound bound v ≡ true) → is_bound bound v ≡ true
    left (inl same) = absurd (false≢true (sym other ∙ same))
    left (inr is) = is

-- a variable is written
pub to_variable : (base limit : ℕ) (bound : List ℕ) (operation : Operation) (args : List ℕ) (x : ℕ) (rest : List Line) → HasRoom base bound → limit ≤ base + most_temporaries
    → may_give (Compute operation) ≡ true → length args ≤ 2 → Each (Readable base limit bound) args → x < base
    → Good (Readable base limit (x ∷ bound)) rest → Good (Readable base limit bound) (computes operation args x ∷ rest)
to_variable base limit bound operation args x rest has le gives few all less good =
    good_computes (Readable base limit bound) (Readable base limit (x ∷ bound)) operation args x rest gives few all
    (readable_small base limit bound has le) (omega (arith, less, has.room)) (variable_left base limit bound x) good

-- what may be read behind a line that writes the next temporary, and is not that one, may be read before it
pub temporary_left : (base limit : ℕ) (bound : List ℕ) (v : ℕ) → Readable base (limit + 1) bound v → (limit == v) ≡ false
    → Readable base limit bound v
temporary_left base limit bound v (inl is) other = inl is
temporary_left base limit bound v (inr is) other = inr (is.0, last (cases_eq limit v))
  where
    last : (limit ≡ v) ⊎ (limit ≡ v → ⊥) → v < limit
    last (inl same) = absurd (false≢true (sym other ∙ eq-eqb limit v same))
    last (inr differs) = let ne : limit ≢ v = differs in omega (arith, is, ne)

-- the next temporary is written
pub to_temporary : (base limit : ℕ) (bound : List ℕ) (operation : Operation) (args : List ℕ) (rest : List Line) → HasRoom base bound → limit < base + most_temporaries
    → may_give (Compute operation) ≡ true → length args ≤ 2 → Each (Readable base limit bound) args
    → Good (Readable base (limit + 1) bound) rest → Good (Readable base limit bound) (computes operation args limit ∷ rest)
to_temporary base limit bound operation args rest has le gives few all good =
    good_computes (Readable base limit bound) (Readable base (limit + 1) bound) operation args limit rest gives few all
    (readable_small base limit bound has (omega (arith, le))) (omega (arith, le, has.room)) (temporary_left base limit bound) good

-- what is readable is so with more
pub readable_more : (base limit later : ℕ) (bound : List ℕ) → limit ≤ later → (v : ℕ) → Readable base limit bound v → Readable base later bound v
readable_more base limit later bound le v (inl is) = inl is
readable_more base limit later bound le v (inr is) = inr (is.0, omega (arith, is, le))

pub readable_bound : (base limit : ℕ) (bound : List ℕ) (x v : ℕ) → Readable base limit bound v → Readable base limit (x ∷ bound) v
readable_bound base limit bound x v (inl is) = inl (or_right (x == v) (is_bound bound v) is)
readable_bound base limit bound x v (inr is) = inr is

pub readable_here : (base limit : ℕ) (bound : List ℕ) (x : ℕ) → Readable base limit (x ∷ bound) x
readable_here base limit bound x = inl (or_left (x == x) (is_bound bound x) (eq-eqb x x refl))

-- arguments are copied to the next temporaries
pub good_copies : (base limit last : ℕ) (bound : List ℕ) (xs : List ℕ) (rest : List Line) → HasRoom base bound → limit + length xs ≡ last → last ≤ base + most_temporaries → AllBound bound xs
    → Good (Readable base last bound) rest → Good (Readable base limit bound) (copies limit xs ++ rest)
good_copies base limit last bound [] rest has is le all good = subst (λ (n : ℕ). Good (Readable base n bound) rest) (omega (arith, is)) good
good_copies base limit last bound (x ∷ xs) rest has is le all good =
    to_temporary base limit bound Mv (x ∷ []) (copies (limit + 1) xs ++ rest) has (omega (arith, is, le)) refl (omega arith) (inl all.0, tt)
    (good_copies base (limit + 1) last bound xs rest has (omega (arith, is)) le all.1 good)

pub temporaries_above : (at v : ℕ) (xs : List ℕ) → v < at → is_among v (temporaries at xs) ≡ false
temporaries_above at v [] less = refl
temporaries_above at v (x ∷ xs) less =
    ap (λ b. b || is_among v (temporaries (at + 1) xs)) (ne_eqb at v (λ same. absurd (omega (arith, same, less)))) ∙ temporaries_above (at + 1) v xs (omega (arith, less))

pub temporaries_distinct : (at : ℕ) (xs : List ℕ) → AreDistinct (temporaries at xs)
temporaries_distinct at [] = tt
temporaries_distinct at (x ∷ xs) = (temporaries_above (at + 1) at xs (omega arith), temporaries_distinct (at + 1) xs)

pub temporaries_each : (P : ℕ → Type 0) (at : ℕ) (xs : List ℕ) → ((v : ℕ) → at ≤ v → v < at + length xs → P v) → Each P (temporaries at xs)
temporaries_each P at [] each = tt
temporaries_each P at (x ∷ xs) each =
    (each at (omega arith) (omega arith), temporaries_each P (at + 1) xs (λ v le less. each v (omega (arith, le)) (omega (arith, less))))

pub all_temporaries : (P : ℕ → Type 0) (at : ℕ) (xs : List ℕ) → ((v : ℕ) → at ≤ v → v < at + length xs → P v) → All P (temporaries at xs)
all_temporaries P at xs each = all_each P P (temporaries at xs) (λ v is. is) (temporaries_each P at xs each)

pub temporaries_length : (at : ℕ) (xs : List ℕ) → length (temporaries at xs) ≡ length xs
temporaries_length at [] = refl
temporaries_length at (x ∷ xs) = ap suc (temporaries_length (at + 1) xs)

-- a line that temporaries are handed over to: only variables are alive behind it
pub hands_formed : (base : ℕ) (bound : List ℕ) (xs : List ℕ) (action : Action) (into : Option ℕ) (rest : List Line)
    → HasRoom base bound → AreLabelsAhead action rest → length xs ≤ most_args action → length xs ≤ greatest_of Parameters
    → (has_value into ≡ true → may_give action ≡ true) → ((v : ℕ) → into ≡ Some v → v < most_values)
    → ((v : ℕ) → is_written into v ≡ false → is_alive_behind v action rest ≡ true → is_bound bound v ≡ true)
    → IsLineFormed (record { action = action; args = temporaries base xs; into = into }) rest
hands_formed base bound xs action into rest has labels few eight gives into_small behind = record {
  labels = labels;
  few = subst (λ (n : ℕ). n ≤ most_args action) (sym (temporaries_length base xs)) few;
  gives = gives;
  distinct = λ _. temporaries_distinct base xs;
  spent = λ _. all_temporaries (IsSpent (record { action = action; args = temporaries base xs; into = into }) rest) base xs
      (λ v le less. spent v (is_written into v) refl le);
  args_small = all_temporaries (λ v. v < most_values) base xs (λ v le less. omega (arith, less, eight, has.room));
  into_small = into_small;
}
  where
    spent : (v : ℕ) (w : Bool) → is_written into v ≡ w → base ≤ v → (not w && is_alive_behind v action rest) ≡ false
    spent v true is le = refl
    spent v false is le = false_from_ne_true (is_alive_behind v action rest) (λ alive. let low = has.low v (behind v is alive) in absurd (omega (arith, low, le)))

pub hands_alive : (base : ℕ) (bound : List ℕ) (xs : List ℕ) (action : Action) (into : Option ℕ) (rest : List Line)
    → ((v : ℕ) → is_written into v ≡ false → is_alive_behind v action rest ≡ true → is_bound bound v ≡ true)
    → (v : ℕ) → is_alive v (record { action = action; args = temporaries base xs; into = into } ∷ rest) ≡ true
    → Readable base (base + length xs) bound v
hands_alive base bound xs action into rest behind =
    alive_line (Readable base (base + length xs) bound) (record { action = action; args = temporaries base xs; into = into }) rest
    (temporaries_each (Readable base (base + length xs) bound) base xs (λ v le less. inr (le, less)))
    (λ v other is. inl (behind v other is))

pub good_hands : (base : ℕ) (bound : List ℕ) (xs : List ℕ) (action : Action) (into : Option ℕ) (rest : List Line) → HasRoom base bound
    → AreLabelsAhead action rest → HoldsNone action → length xs ≤ most_args action → length xs ≤ greatest_of Parameters → (has_value into ≡ true → may_give action ≡ true)
    → ((v : ℕ) → into ≡ Some v → v < most_values)
    → ((v : ℕ) → is_written into v ≡ false → is_alive_behind v action rest ≡ true → is_bound bound v ≡ true)
    → AreFormed rest
    → Good (Readable base (base + length xs) bound) (record { action = action; args = temporaries base xs; into = into } ∷ rest)
good_hands base bound xs action into rest has labels none few eight gives into_small behind formed = record {
  formed = formed_more (record { action = action; args = temporaries base xs; into = into }) rest
      (hands_formed base bound xs action into rest has labels few eight gives into_small behind) none formed;
  alive = hands_alive base bound xs action into rest behind;
}
