-- The lines of a form: no label stands in them, they are few, and before well-formed code they are well formed.
use Rattle.std.proofs.Common.{◌≡◌, ℕ, suc, ◌+◌, ◌<◌, ◌≤◌, ◌==◌, ◌⊎◌, inl, inr, true, false, List, [], ◌∷◌, ◌++◌, length, Option, Some, None, refl, sym, ap, subst, ◌∙◌, arith, append_assoc, length-append}
use Rattle.std.proofs.lemmas.Bool.{false≢true, or_cases}
use Rattle.kk_base.specs.Limits.{greatest_of}
use Rattle.kk_base.specs.declared.limit.LimitKind.TheVariants.{Parameters}
use Rattle.kk_syntax.specs.declared.operator.UnaryOperator.TheVariants.{Negate, Not}
use Rattle.kk_syntax.specs.declared.operator.BinaryOperator.{BinaryOperator}
use Rattle.kk_syntax.specs.declared.operator.BinaryOperator.TheVariants.{Add, Subtract, Multiply, Divide, Remainder, Equal, NotEqual, Less, LessEqual, Greater, GreaterEqual}
use Rattle.kk_syntax.specs.declared.program.Form.{Form}
use Rattle.kk_syntax.specs.declared.program.Form.TheVariants.{Number, Unit as Nothing, ReadByte, PrintText, Unary, Binary, Print, Construct, Call}
use Rattle.kk_syntax.specs.Programs.{text_at}
use Rattle.kk_syntax.specs.Shapes.{is_among as is_bound}
use Rattle.kk_source.specs.FormEffects.{piece_of}
use Rattle.rv_isa.specs.declared.asm.Action.{Action}
use Rattle.rv_isa.specs.declared.asm.Action.TheVariants as OfAction
use Rattle.rv_isa.specs.declared.asm.Operation.{Operation as AsmOperation}
use Rattle.rv_isa.specs.declared.asm.Operation.TheVariants as Op
use Rattle.rv_isa.specs.declared.asm.ImmediateOperation.TheVariants as Immediate
use Rattle.rv_isa.specs.declared.asm.ShiftOperation.TheVariants as Shift
use Rattle.rv_isa.specs.declared.routine.Routine.{Routine}
use Rattle.rv_isa.specs.AsmCode.{Line}
use Rattle.rv_isa.specs.Routines.{taken_by}
use Rattle.rv_isa.specs.AsmMachine.{is_label}
use Rattle.rv_isa.specs.WellFormed.{is_written, is_alive, is_alive_behind, most_values, AreLabelsAhead, most_args, has_value, may_give}
use Rattle.rv_isa.proofs.HeldTokens.{HoldsNone}
use Rattle.rv_lower.specs.Lines.{Texts, computes, sets, copies_to, acts, unit_word, constant_word, choice_of, copies, temporaries, MakesTruth, Compares, ComparesNot, BinaryLines, PrintLines, FormLines}
use Rattle.rv_lower.proofs.WellFormedness.{most_temporaries, AllBound, Each, Readable, Good, HasRoom, weaker, room_more, to_variable, to_temporary, good_computes, readable_small, readable_more, readable_bound, readable_here, good_copies, good_hands, none_some, some_same}
use Rattle.rv_lower.proofs.AbsentLabels.{HasNo, has_no_append}

-- Lines lead from code before which C is alive to code before which B is alive: there are at most n of them.
pub record Leads (B C : ℕ → Type 0) (n : ℕ) (own : List Line) : Type 0 where
  pub no_label : (l : ℕ) → HasNo l own
  pub few : length own ≤ n
  pub good : (rest : List Line) → Good C rest → Good B (own ++ rest)

pub leads_then : (B C D : ℕ → Type 0) (n m : ℕ) (own more : List Line) → Leads B C n own → Leads C D m more → Leads B D (n + m) (own ++ more)
leads_then B C D n m own more first second = record {
  no_label = λ l. has_no_append l own more (first.no_label l) (second.no_label l);
  few = let size : length (own ++ more) ≡ length own + length more = length-append own more in omega (arith, first.few, second.few, size);
  good = λ rest good. subst (Good B) (sym (append_assoc own more rest)) (first.good (more ++ rest) (second.good rest good));
}

pub leads_weaker : (B B_more C C_less : ℕ → Type 0) (n m : ℕ) (own : List Line) → ((v : ℕ) → B v → B_more v) → ((v : ℕ) → C_less v → C v) → n ≤ m → Leads B C n own → Leads B_more C_less m own
leads_weaker B B_more C C_less n m own out into le leads = record {
  no_label = leads.no_label;
  few = omega (arith, le, leads.few);
  good = λ rest good. weaker out (leads.good rest (weaker into good));
}

-- A form on as many variables as it takes. A construction takes none here, and a call as many as there are registers for them.
abbrev pub HasArguments : Form → List ℕ → Type 0
HasArguments (Unary operator) arguments = length arguments ≡ 1
HasArguments (Binary operator) arguments = length arguments ≡ 2
HasArguments (Print form) arguments = length arguments ≡ 1
HasArguments (Construct c) arguments = length arguments ≡ 0
HasArguments (Call f) arguments = length arguments ≤ greatest_of Parameters
HasArguments form arguments = Unit {0}

module _ (base : ℕ) (bound : List ℕ) (has : HasRoom base bound) where
  -- what may be read with the temporaries below a limit
  abbrev With : ℕ → ℕ → Type 0
  With limit = Readable base limit bound

  -- a temporary is written: the next one, or one again
  pub next_temporary : (limit : ℕ) (operation : AsmOperation) (args : List ℕ) → limit < base + most_temporaries → may_give (OfAction.Compute operation) ≡ true → length args ≤ 2 → Each (With limit) args
      → Leads (With limit) (With (limit + 1)) 1 (computes operation args limit ∷ [])
  next_temporary limit operation args less gives few each = record {
    no_label = λ l. (refl, tt);
    few = omega arith;
    good = λ rest good. to_temporary base limit bound operation args rest has less gives few each good;
  }

  again_temporary : (limit at : ℕ) (operation : AsmOperation) (args : List ℕ) → limit ≤ base + most_temporaries → at < limit → may_give (OfAction.Compute operation) ≡ true → length args ≤ 2 → Each (With limit) args
      → Leads (With limit) (With limit) 1 (computes operation args at ∷ [])
  again_temporary limit at operation args le less gives few each = record {
    no_label = λ l. (refl, tt);
    few = omega arith;
    good = λ rest good. good_computes (With limit) (With limit) operation args at rest gives few each
        (readable_small base limit bound has le) (let room = has.room in omega (arith, le, less, room)) (λ v is _. is) good;
  }

  -- temporaries are handed over
  hands : (xs : List ℕ) (action : Action) (into : Option ℕ) → ((l : ℕ) → is_label l action ≡ false) → ((rest : List Line) → AreLabelsAhead action rest) → HoldsNone action
      → length xs ≤ most_args action → length xs ≤ greatest_of Parameters → (has_value into ≡ true → may_give action ≡ true) → (C : ℕ → Type 0)
      → ((v : ℕ) → into ≡ Some v → v < most_values)
      → ((rest : List Line) (v : ℕ) → Good C rest → is_written into v ≡ false → is_alive_behind v action rest ≡ true → is_bound bound v ≡ true)
      → Leads (With (base + length xs)) C 1 (record { action = action; args = temporaries base xs; into = into } ∷ [])
  hands xs action into no_label labels none few eight gives C small behind = record {
    no_label = λ l. (no_label l, tt);
    few = omega arith;
    good = λ rest good. good_hands base bound xs action into rest has (labels rest) none few eight gives small (λ v other is. behind rest v good other is) good.formed;
  }

  pub copied : (xs : List ℕ) → length xs ≤ greatest_of Parameters → AllBound bound xs → Leads (With base) (With (base + length xs)) (length xs) (copies base xs)
  copied xs few each = record {
    no_label = λ l. no_copy l base xs;
    few = let size = same base xs in omega (arith, size);
    good = λ rest good. good_copies base base (base + length xs) bound xs rest has refl (omega (arith, few)) each good;
  }
    where
      no_copy : (l at : ℕ) (xs : List ℕ) → HasNo l (copies at xs)
      no_copy l at [] = tt
      no_copy l at (x ∷ xs) = (refl, no_copy l (at + 1) xs)

      same : (at : ℕ) (xs : List ℕ) → length (copies at xs) ≡ length xs
      same at [] = refl
      same at (x ∷ xs) = ap suc (same (at + 1) xs)

  -- only a variable is alive where temporaries are not
  pub only_bound : (v : ℕ) → With base v → is_bound bound v ≡ true
  only_bound v (inl is) = is
  only_bound v (inr is) = absurd (omega (arith, is))

module _ (base : ℕ) (bound : List ℕ) (has : HasRoom base bound) (x : ℕ) (less : x < base) where
  abbrev Before : ℕ → ℕ → Type 0
  Before limit = Readable base limit bound

  abbrev Behind : ℕ → ℕ → Type 0
  Behind limit = Readable base limit (x ∷ bound)

  abbrev has_more : HasRoom base (x ∷ bound)
  has_more = room_more base bound x has less

  -- the variable is written, and again
  writes : (limit : ℕ) (operation : AsmOperation) (args : List ℕ) → limit ≤ base + most_temporaries → may_give (OfAction.Compute operation) ≡ true → length args ≤ 2 → Each (Before limit) args
      → Leads (Before limit) (Behind limit) 1 (computes operation args x ∷ [])
  writes limit operation args le gives few each = record {
    no_label = λ l. (refl, tt);
    few = omega arith;
    good = λ rest good. to_variable base limit bound operation args x rest has le gives few each less good;
  }

  writes_again : (limit : ℕ) (operation : AsmOperation) (args : List ℕ) → limit ≤ base + most_temporaries → may_give (OfAction.Compute operation) ≡ true → length args ≤ 2 → Each (Behind limit) args
      → Leads (Behind limit) (Behind limit) 1 (computes operation args x ∷ [])
  writes_again limit operation args le gives few each = record {
    no_label = λ l. (refl, tt);
    few = omega arith;
    good = λ rest good. to_variable base limit (x ∷ bound) operation args x rest has_more le gives few each less (weaker (readable_bound base limit (x ∷ bound) x) good);
  }

  here : (limit : ℕ) → Behind limit x
  here limit = readable_here base limit bound x

  known : (limit v : ℕ) → is_bound bound v ≡ true → Before limit v
  known limit v is = inl is

  still : (limit v : ℕ) → is_bound bound v ≡ true → Behind limit v
  still limit v is = readable_bound base limit bound x v (inl is)

  -- temporaries are of no more use
  forgets : (limit n : ℕ) (own : List Line) → base ≤ limit → Leads (Before base) (Behind limit) n own → Leads (Before base) (Behind base) n own
  forgets limit n own le leads =
      leads_weaker (Before base) (Before base) (Behind limit) (Behind base) n n own (λ v is. is) (readable_more base base limit (x ∷ bound) le) (omega arith) leads

  -- a form leads from what is bound to what is bound then, by at most nine lines
  abbrev Serves : List Line → Type 0
  Serves own = Leads (Before base) (Behind base) 9 own

  serves : (n : ℕ) (own : List Line) → n ≤ 9 → Leads (Before base) (Behind base) n own → Serves own
  serves n own le leads = leads_weaker (Before base) (Before base) (Behind base) (Behind base) n 9 own (λ v is. is) (λ v is. is) le leads

  then_again : (n limit : ℕ) (own : List Line) (operation : AsmOperation) (args : List ℕ) → limit ≤ base + most_temporaries → may_give (OfAction.Compute operation) ≡ true → length args ≤ 2 → Each (Behind limit) args
      → Leads (Before base) (Behind limit) n own → Leads (Before base) (Behind limit) (n + 1) (own ++ (computes operation args x ∷ []))
  then_again n limit own operation args le gives few each leads =
      leads_then (Before base) (Behind limit) (Behind limit) n 1 own (computes operation args x ∷ []) leads (writes_again limit operation args le gives few each)

  truth : (n : ℕ) (first made : List Line) → Leads (Before base) (Behind base) n first → MakesTruth x made → Leads (Before base) (Behind base) (n + 2) (first ++ made)
  truth n first made leads makes =
      subst (λ (lines : List Line). Leads (Before base) (Behind base) (n + 2) (first ++ lines)) (sym makes.4)
      (leads_then (Before base) (Behind base) (Behind base) n 2 first
      (computes (Op.Shift Shift.Slli makes.1) (x ∷ []) x ∷ computes (Op.Immediate Immediate.Addi makes.0) (x ∷ []) x ∷ [])
      leads
      (leads_then (Behind base) (Behind base) (Behind base) 1 1 (computes (Op.Shift Shift.Slli makes.1) (x ∷ []) x ∷ []) (computes (Op.Immediate Immediate.Addi makes.0) (x ∷ []) x ∷ [])
      (writes_again base _ (x ∷ []) (omega arith) refl (omega arith) (here base, tt))
      (writes_again base _ (x ∷ []) (omega arith) refl (omega arith) (here base, tt))))

  compares : (n : ℕ) (first lines : List Line) → n ≤ 7 → Leads (Before base) (Behind base) n first → Compares x first lines → Serves lines
  compares n first lines le leads is =
      subst Serves (sym is.2) (serves (n + 2) (first ++ is.0) (omega (arith, le)) (truth n first is.0 leads is.1))

  -- two variables are read
  reads : (operation : AsmOperation) (a b : ℕ) → may_give (OfAction.Compute operation) ≡ true → is_bound bound a ≡ true → is_bound bound b ≡ true
      → Leads (Before base) (Behind base) 1 (computes operation (a ∷ b ∷ []) x ∷ [])
  reads operation a b gives is_a is_b = writes base operation (a ∷ b ∷ []) (omega arith) gives (omega arith) (known base a is_a, (known base b is_b, tt))

  -- a temporary is written when the variable is
  temporary_behind : (operation : AsmOperation) (args : List ℕ) → may_give (OfAction.Compute operation) ≡ true → length args ≤ 2 → Each (Behind base) args
      → Leads (Behind base) (Behind (base + 1)) 1 (computes operation args base ∷ [])
  temporary_behind operation args gives few each = next_temporary base (x ∷ bound) has_more base operation args (omega arith) gives few each

  plain : (operation : AsmOperation) (a b : ℕ) (lines : List Line) → may_give (OfAction.Compute operation) ≡ true → is_bound bound a ≡ true → is_bound bound b ≡ true
      → lines ≡ computes operation (a ∷ b ∷ []) x ∷ [] → Serves lines
  plain operation a b lines gives is_a is_b is = subst Serves (sym is) (serves 1 _ (omega arith) (reads operation a b gives is_a is_b))

  compares_not : (operation : AsmOperation) (a b : ℕ) (lines : List Line) → may_give (OfAction.Compute operation) ≡ true → is_bound bound a ≡ true → is_bound bound b ≡ true
      → ComparesNot x (computes operation (a ∷ b ∷ []) x) lines → Serves lines
  compares_not operation a b lines gives is_a is_b is =
      compares 2 _ lines (omega arith) (then_again 1 base (computes operation (a ∷ b ∷ []) x ∷ []) _ (x ∷ []) (omega arith) refl (omega arith) (here base, tt) (reads operation a b gives is_a is_b)) is.2

  binary : (operator : BinaryOperator) (a b : ℕ) (lines : List Line) → is_bound bound a ≡ true → is_bound bound b ≡ true → BinaryLines base x operator a b lines → Serves lines
  binary Add a b lines is_a is_b is = plain _ a b lines refl is_a is_b is
  binary Subtract a b lines is_a is_b is = plain _ a b lines refl is_a is_b is
  binary Multiply a b lines is_a is_b is = plain _ a b lines refl is_a is_b is
  binary Remainder a b lines is_a is_b is = plain _ a b lines refl is_a is_b is
  binary Divide a b lines is_a is_b is =
      subst Serves (sym is) (serves 4 _ (omega arith) (forgets (base + 1) 4 _ (omega arith)
      (leads_then (Before base) (Behind base) (Behind (base + 1)) 1 3 (computes _ (a ∷ b ∷ []) x ∷ []) _ (reads _ a b refl is_a is_b)
      (leads_then (Behind base) (Behind (base + 1)) (Behind (base + 1)) 1 2 (computes _ [] base ∷ []) _ (temporary_behind _ [] refl (omega arith) tt)
      (leads_then (Behind (base + 1)) (Behind (base + 1)) (Behind (base + 1)) 1 1 (computes _ (base ∷ b ∷ []) base ∷ []) _
      (again_temporary base (x ∷ bound) has_more (base + 1) base _ (base ∷ b ∷ []) (omega arith) (omega arith) refl (omega arith) (temporary, (still (base + 1) b is_b, tt)))
      (writes_again (base + 1) _ (x ∷ base ∷ []) (omega arith) refl (omega arith) (here (base + 1), (temporary, tt))))))))
    where
      temporary : Behind (base + 1) base
      temporary = inr (omega arith, omega arith)
  binary Equal a b lines is_a is_b is =
      compares 2 _ lines (omega arith) (then_again 1 base (computes _ (a ∷ b ∷ []) x ∷ []) _ (x ∷ []) (omega arith) refl (omega arith) (here base, tt) (reads _ a b refl is_a is_b)) is.2
  binary NotEqual a b lines is_a is_b is =
      compares 3 _ lines (omega arith) (forgets (base + 1) 3 _ (omega arith)
      (leads_then (Before base) (Behind base) (Behind (base + 1)) 1 2 (computes _ (a ∷ b ∷ []) x ∷ []) _ (reads _ a b refl is_a is_b)
      (leads_then (Behind base) (Behind (base + 1)) (Behind (base + 1)) 1 1 (computes _ [] base ∷ []) _ (temporary_behind _ [] refl (omega arith) tt)
      (writes_again (base + 1) _ (base ∷ x ∷ []) (omega arith) refl (omega arith) (inr (omega arith, omega arith), (here (base + 1), tt)))))) is
  binary Less a b lines is_a is_b is = compares 1 _ lines (omega arith) (reads _ a b refl is_a is_b) is
  binary Greater a b lines is_a is_b is = compares 1 _ lines (omega arith) (reads _ b a refl is_b is_a) is
  binary LessEqual a b lines is_a is_b is = compares_not _ b a lines refl is_b is_a is
  binary GreaterEqual a b lines is_a is_b is = compares_not _ a b lines refl is_a is_b is

  -- two temporaries that were written are handed over to a routine that gives nothing
  serves_two : (routine : Routine) (first second : AsmOperation) (args : List ℕ) → length (taken_by routine) ≡ 2
      → may_give (OfAction.Compute first) ≡ true → may_give (OfAction.Compute second) ≡ true → length args ≤ 2 → Each (Before base) args
      → Leads (Before base) (Before base) 3 (computes first args base ∷ computes second [] (base + 1) ∷ acts (OfAction.Routine routine) (base ∷ (base + 1) ∷ []) ∷ [])
  serves_two routine first second args two gives_first gives_second few each =
      leads_then (Before base) (Before (base + 1)) (Before base) 1 2 (computes first args base ∷ []) _ (next_temporary base bound has base first args (omega arith) gives_first few each)
      (leads_then (Before (base + 1)) (Before (base + 1 + 1)) (Before base) 1 1 (computes second [] (base + 1) ∷ []) _ (next_temporary base bound has (base + 1) second [] (omega arith) gives_second (omega arith) tt)
      (leads_weaker (Before (base + 2)) (Before (base + 1 + 1)) (Before base) (Before base) 1 1 _ (readable_more base (base + 2) (base + 1 + 1) bound (omega arith)) (λ v is. is) (omega arith)
      (hands base bound has (base ∷ base ∷ []) (OfAction.Routine routine) None (λ l. refl) (λ rest. tt) tt (omega (arith, two)) (omega arith) (λ is. absurd (false≢true is)) (Before base)
      (λ v is. absurd (none_some is)) (λ rest v good other is. only_bound base bound has v (good.alive v is)))))

  -- the null token is freed, from a temporary
  frees_null : Leads (Before base) (Before base) 2 (sets 0 base ∷ acts (OfAction.Compute Op.Free) (base ∷ []) ∷ [])
  frees_null =
      leads_then (Before base) (Before (base + 1)) (Before base) 1 1 (sets 0 base ∷ []) _ (next_temporary base bound has base (Op.Li 0) [] (omega arith) refl (omega arith) tt)
      (hands base bound has (base ∷ []) (OfAction.Compute Op.Free) None (λ l. refl) (λ rest. tt) tt (omega arith) (omega arith) (λ is. absurd (false≢true is)) (Before base)
      (λ v is. absurd (none_some is)) (λ rest v good other is. only_bound base bound has v (good.alive v is)))

  sets_only : (word : ℕ) → Leads (Before base) (Behind base) 1 (sets word x ∷ [])
  sets_only word = writes base (Op.Li word) [] (omega arith) refl (omega arith) tt

  -- temporaries are handed over, and the variable takes what is given
  gives_variable : (xs : List ℕ) (action : Action) → ((l : ℕ) → is_label l action ≡ false) → ((rest : List Line) → AreLabelsAhead action rest) → HoldsNone action
      → length xs ≤ most_args action → length xs ≤ greatest_of Parameters → may_give action ≡ true → ((rest : List Line) (v : ℕ) → is_alive_behind v action rest ≡ true → is_alive v rest ≡ true)
      → Leads (Before (base + length xs)) (Behind base) 1 (record { action = action; args = temporaries base xs; into = Some x } ∷ [])
  gives_variable xs action no_label labels none few eight gives goes_on =
      hands base bound has xs action (Some x) no_label labels none few eight (λ _. gives) (Behind base)
      (λ v is. let room = has.room in let same = some_same is in omega (arith, same, less, room))
      (λ rest v good other is. left v other (or_cases (x == v) (is_bound bound v) (only_bound base (x ∷ bound) has_more v (good.alive v (goes_on rest v is)))))
    where
      left : (v : ℕ) → (x == v) ≡ false → ((x == v) ≡ true) ⊎ (is_bound bound v ≡ true) → is_bound bound v ≡ true
      left v other (inl same) = absurd (false≢true (sym other ∙ same))
      left v other (inr is) = is

  -- the lines of a call
  pub call_lines : (f : ℕ) (arguments : List ℕ) → length arguments ≤ greatest_of Parameters → AllBound bound arguments
      → Serves (copies base arguments ++ record { action = OfAction.Call f; args = temporaries base arguments; into = Some x } ∷ [])
  call_lines f arguments few each =
      serves (length arguments + 1) _ (omega (arith, few)) (leads_then (Before base) (Before (base + length arguments)) (Behind base) (length arguments) 1 (copies base arguments) _ (copied base bound has arguments few each)
      (gives_variable arguments (OfAction.Call f) (λ l. refl) (λ rest. tt) tt few few refl (λ rest v is. is)))

  module _ (texts : Texts) where
    prints : (bytes : List ℕ) (lines : List Line) → PrintLines base texts.constants bytes lines → Leads (Before base) (Before base) 3 lines
    prints [] lines is =
        subst (Leads (Before base) (Before base) 3) (sym is) (leads_weaker (Before base) (Before base) (Before base) (Before base) 2 3 _ (λ v is. is) (λ v is. is) (omega arith) frees_null)
    prints (byte ∷ more) lines is =
        subst (Leads (Before base) (Before base) 3) (sym is.2) (serves_two Routine.PrintText (Op.La is.0) (Op.Li (length (byte ∷ more))) [] refl refl refl (omega arith) tt)

    -- a form on as many variables as it takes
    pub form_serves : (of : Form) (arguments : List ℕ) (lines : List Line) → HasArguments of arguments → AllBound bound arguments
        → FormLines base texts x of arguments lines → Serves lines
    form_serves (Number value) arguments lines as_many each is = subst Serves (sym is.3) (serves 1 _ (omega arith) (sets_only is.0))
    form_serves Nothing arguments lines as_many each is = subst Serves (sym is) (serves 1 _ (omega arith) (sets_only unit_word))
    form_serves ReadByte arguments lines as_many each is = subst Serves (sym is) (serves 1 _ (omega arith)
        (leads_weaker (Before (base + 0)) (Before base) (Behind base) (Behind base) 1 1 _ (readable_more base (base + 0) base bound (omega arith)) (λ v is. is) (omega arith)
        (gives_variable [] (OfAction.Routine Routine.ReadByte) (λ l. refl) (λ rest. tt) tt (omega arith) (omega arith) refl (λ rest v is. is))))
    form_serves (PrintText how text) arguments lines as_many each is =
        subst Serves (sym is.2) (serves 4 _ (omega arith) (leads_then (Before base) (Before base) (Behind base) 3 1 is.0 _ (prints (piece_of how (text_at texts.literals text)) is.0 is.1) (sets_only unit_word)))
    form_serves (Unary Negate) [] lines as_many each is = absurd (omega (arith, as_many))
    form_serves (Unary Negate) (a ∷ []) lines as_many each is =
        subst Serves (sym is) (serves 2 _ (omega arith) (forgets (base + 1) 2 _ (omega arith)
        (leads_then (Before base) (Before (base + 1)) (Behind (base + 1)) 1 1 (sets 0 base ∷ []) _ (next_temporary base bound has base (Op.Li 0) [] (omega arith) refl (omega arith) tt)
        (writes (base + 1) _ (base ∷ a ∷ []) (omega arith) refl (omega arith) (inr (omega arith, omega arith), (inl each.0, tt))))))
    form_serves (Unary Negate) (a ∷ b ∷ more) lines as_many each is = absurd (omega (arith, as_many))
    form_serves (Unary Not) [] lines as_many each is = absurd (omega (arith, as_many))
    form_serves (Unary Not) (a ∷ []) lines as_many each is =
        subst Serves (sym is.2) (serves 1 _ (omega arith) (writes base _ (a ∷ []) (omega arith) refl (omega arith) (inl each.0, tt)))
    form_serves (Unary Not) (a ∷ b ∷ more) lines as_many each is = absurd (omega (arith, as_many))
    form_serves (Binary operator) [] lines as_many each is = absurd (omega (arith, as_many))
    form_serves (Binary operator) (a ∷ []) lines as_many each is = absurd (omega (arith, as_many))
    form_serves (Binary operator) (a ∷ b ∷ []) lines as_many each is = binary operator a b lines each.0 each.1.0 is
    form_serves (Binary operator) (a ∷ b ∷ c ∷ more) lines as_many each is = absurd (omega (arith, as_many))
    form_serves (Print how) [] lines as_many each is = absurd (omega (arith, as_many))
    form_serves (Print how) (a ∷ []) lines as_many each is =
        subst Serves (sym is) (serves 4 _ (omega arith) (leads_then (Before base) (Before base) (Behind base) 3 1 (copies_to a base ∷ sets (choice_of how) (base + 1) ∷ acts (OfAction.Routine Routine.PrintInt) (base ∷ (base + 1) ∷ []) ∷ []) _
        (serves_two Routine.PrintInt Op.Mv (Op.Li (choice_of how)) (a ∷ []) refl refl refl (omega arith) (inl each.0, tt)) (sets_only unit_word)))
    form_serves (Print how) (a ∷ b ∷ more) lines as_many each is = absurd (omega (arith, as_many))
    form_serves (Construct c) [] lines as_many each is = subst Serves (sym is) (serves 1 _ (omega arith) (sets_only (constant_word c)))
    form_serves (Construct c) (a ∷ more) lines as_many each is = absurd (omega (arith, as_many))
    form_serves (Call f) arguments lines as_many each is =
        subst Serves (sym is) (call_lines f arguments as_many each)
