-- Where a pattern matches, the openings at the head of its arm bind what the pattern binds.
use Rattle.std.proofs.Common.{◌≡◌, ◌⊎◌, inl, inr, ℕ, suc, ◌+◌, ◌*◌, ◌<◌, ◌≤◌, ◌==◌, Bool, true, false, List, [], ◌∷◌, ◌++◌, Option, Some, None, refl, sym, ap, subst, ◌∙◌, arith}
use Rattle.std.specs.Prelude.{if◌then◌else◌}
use Rattle.kk_base.specs.Machines.{Machine, trace, state, weight_of}
use Rattle.kk_base.proofs.Machines.{state-add, trace-add, weight_of-add}
use Rattle.kk_syntax.specs.Patterns.{Pattern, anything, variable, exactly, constructor, Patterns, no_part, part}
use Rattle.kk_syntax.specs.Shapes.{is_among, without, bound, bound_all}
use Rattle.kk_source.specs.Notes.{Note}
use Rattle.kk_source.specs.State.{Value, integer, unit, constant, place, Store, Environment, End}
use Rattle.kk_source.specs.Live.{value_of}
use Rattle.kk_source.specs.Matching.{is_integer, fields_under, and_then, matched, matched_all}
use Rattle.kk_source.specs.Actions.{performed}
use Rattle.kk_core.specs.Codes.{Code, unpack}
use Rattle.kk_core.specs.CoreStates.{CoreSetting, Join, CallFrame, running, CoreState}
use Rattle.kk_core.specs.CoreMachine.{core_machine, bind_fields, fields_opened, unpack_step}
use Rattle.kk_norm.specs.OpenedCells.{openings, openings_all}
use Rattle.kk_norm.specs.Names.{Names, name_of}
use Rattle.kk_norm.specs.Normalized.{part_count, pattern_size, parts_size, numbers, opened, opened_all, pattern_names, parts_names}
use Rattle.kk_norm.proofs.Variables.{or_else, SameBelow, Stands, value_here, value_elsewhere, among_split, among_without}

abbrev pub core_at : Code → Environment → List Join → List CallFrame → Store → List ℕ → CoreState
core_at code environment joins frames store input =
    record {
      machine = record { control = running code environment joins; frames = frames; store = store };
      input = input;
    }

-- ---- parts of matching

pub some_of_both : {A B : Type 0} (o : Option A) (next : A → Option B) (b : B) → and_then o next ≡ Some b
    → (x : A) × (o ≡ Some x) × (next x ≡ Some b)
some_of_both None next b is = absurd (cc)
some_of_both (Some x) next b is = (x, refl, is)

some_if : {A : Type 0} (b : Bool) (x y : A) → (if b then Some x else None) ≡ Some y → x ≡ y
some_if true x y is = cc
some_if false x y is = absurd (cc)

pub same_some : {A : Type 0} (x y : A) → Some x ≡ Some y → x ≡ y
same_some x y is = cc

-- a value of a constructor with fields is a cell
cell_opened : (store : Store) (c : ℕ) (v w : Value) (ws : List Value) → fields_under store c v ≡ Some (w ∷ ws)
    → fields_opened store c v ≡ Some (w ∷ ws)
cell_opened store c (integer n) w ws is = absurd (cc)
cell_opened store c unit w ws is = absurd (cc)
cell_opened store c (constant d) w ws is = absurd (let wrong : [] ≡ w ∷ ws = some_if (d == c) [] (w ∷ ws) is in cc)
cell_opened store c (place at) w ws is = is

-- ---- fields

-- as many parts as fields
abbrev pub AreAsMany : Patterns → List Value → Type 0
AreAsMany no_part [] = Unit {0}
AreAsMany no_part (v ∷ vs) = ⊥
AreAsMany (part first rest) [] = ⊥
AreAsMany (part first rest) (v ∷ vs) = AreAsMany rest vs

matched_as_many : (store : Store) (ps : Patterns) (vs : List Value) (environment later : Environment)
    → matched_all store ps vs environment ≡ Some later → AreAsMany ps vs
matched_as_many store no_part [] environment later is = tt
matched_as_many store no_part (v ∷ vs) environment later is = absurd (cc)
matched_as_many store (part first rest) [] environment later is = absurd (cc)
matched_as_many store (part first rest) (v ∷ vs) environment later is =
    let one = some_of_both (matched store first v environment) (λ bound. matched_all store rest vs bound) later is in
    matched_as_many store rest vs one.0 later one.2

-- variables from a on have these values
abbrev pub FieldsAre : Environment → ℕ → List Value → Type 0
FieldsAre core a [] = Unit {0}
FieldsAre core a (v ∷ vs) = (value_of core a ≡ v) × FieldsAre core (a + 1) vs

fields_later : (core after : Environment) (bound a : ℕ) (ps : Patterns) (vs : List Value) → AreAsMany ps vs
    → SameBelow bound core after → a + part_count ps ≤ bound → FieldsAre core a vs → FieldsAre after a vs
fields_later core after bound a no_part [] many same le are = tt
fields_later core after bound a no_part (v ∷ vs) many same le are = absurd many
fields_later core after bound a (part first rest) [] many same le are = absurd many
fields_later core after bound a (part first rest) (v ∷ vs) many same le are =
    (same a (omega arith) ∙ are.0, fields_later core after bound (a + 1) rest vs many same (omega arith) are.1)

-- fields that are bound to numbers from n on
fields_bound : (n : ℕ) (ps : Patterns) (vs : List Value) (core : Environment) → AreAsMany ps vs
    → SameBelow n core (bind_fields (numbers n ps) vs core) × FieldsAre (bind_fields (numbers n ps) vs core) n vs
fields_bound n no_part [] core many = (λ x less. refl, tt)
fields_bound n no_part (v ∷ vs) core many = absurd many
fields_bound n (part first rest) [] core many = absurd many
fields_bound n (part first rest) (v ∷ vs) core many =
    let one : Environment = record { variable = n; value = v } ∷ core in
    let more = fields_bound (n + 1) rest vs one many in (
      λ x less. more.0 x (omega arith) ∙ value_elsewhere n x v core (λ same. absurd (omega arith)),
      (more.0 n (omega arith) ∙ value_here n v core, more.1),
    )

-- ---- variables, before and after

-- a variable has its value in the variable that is its name, which is below a bound
abbrev pub StandsFor : Names → Environment → Environment → ℕ → ℕ → Type 0
StandsFor names environment core bound x = (value_of core (name_of names x) ≡ value_of environment x) × (name_of names x < bound)

still_stands : (names : Names) (environment core after : Environment) (bound most x : ℕ) → SameBelow bound core after
    → bound ≤ most → StandsFor names environment core bound x → StandsFor names environment after most x
still_stands names environment core after bound most x same le stands =
    (same (name_of names x) stands.1 ∙ stands.0, omega (arith, stands.1))

-- the step that opens a cell weighs at most so much
abbrev pub OpensFor : ℕ → (CoreState → ℕ) → Type 0
OpensFor opening weight =
    (x c : ℕ) (fields : List ℕ) (rest : Code) (core : Environment) (joins : List Join) (frames : List CallFrame) (store : Store)
    (input : List ℕ) → weight (core_at (unpack x c fields rest) core joins frames store input) ≤ opening

module _ (weight : CoreState → ℕ) (setting : CoreSetting) (opening : ℕ) (opens_for : OpensFor opening weight) where
  abbrev pub machine : Machine CoreState Note End
  machine = core_machine weight setting

  -- in so many steps, which weigh so much at most, and of which nothing is told, the machine comes from one state to another
  pub record Comes (steps heavy : ℕ) (t after : CoreState) : Type 0 where
    pub is : state machine steps t ≡ after
    pub quiet : trace machine steps t ≡ []
    pub weighs : weight_of machine steps t ≤ heavy

  comes_nowhere : (heavy : ℕ) (t : CoreState) → Comes 0 heavy t t
  comes_nowhere heavy t = record { is = refl; quiet = refl; weighs = omega arith }

  comes_within : (steps heavy more : ℕ) (t after : CoreState) → heavy ≤ more → Comes steps heavy t after → Comes steps more t after
  comes_within steps heavy more t after le comes =
      record { is = comes.is; quiet = comes.quiet; weighs = omega (arith, le, comes.weighs) }

  pub comes_on : (first second one_heavy two_heavy : ℕ) (s t u : CoreState) → Comes first one_heavy s t → Comes second two_heavy t u
      → Comes (first + second) (one_heavy + two_heavy) s u
  comes_on first second one_heavy two_heavy s t u one two = record {
    is = state-add machine first second s ∙ (ap (state machine second) one.is ∙ two.is);
    quiet =
        trace-add machine first second s
        ∙ (ap (λ (before : List Note). before ++ trace machine second (state machine first s)) one.quiet
        ∙ (ap (trace machine second) one.is ∙ two.quiet));
    weighs =
        let later : weight_of machine second (state machine first s) ≤ two_heavy
        = subst (λ (between : CoreState). weight_of machine second between ≤ two_heavy) (sym one.is) two.weighs in
        omega (arith, weight_of-add machine first second s, one.weighs, later);
  }

  pub comes_first : (steps own heavy : ℕ) (s t u : CoreState) → machine.weight s ≤ own → machine.step s ≡ ([], t)
      → Comes steps heavy t u → Comes (suc steps) (own + heavy) s u
  comes_first steps own heavy s t u weighs step_is rest = record {
    is = ap (λ (next : List Note × CoreState). state machine steps next.1) step_is ∙ rest.is;
    quiet = ap (λ (next : List Note × CoreState). next.0 ++ trace machine steps next.1) step_is ∙ rest.quiet;
    weighs =
        let later : weight_of machine steps (machine.step s).1 ≤ heavy
        = subst (λ (next : List Note × CoreState). weight_of machine steps next.1 ≤ heavy) (sym step_is) rest.weighs in
        omega (arith, weighs, later);
  }

  module _ (store : Store) where
    -- The openings are done: what is below their numbers is as it was, and each variable that the pattern binds stands for its
    -- value, as do those that stood before.
    pub record Opened (bound_here : List ℕ) (names names_after : Names) (environment later : Environment) (core : Environment)
        (low high steps : ℕ) (at : Code → Code) : Type 0 where
      pub after : Environment
      pub same : SameBelow low core after
      pub stand : (x : ℕ) → (is_among bound_here x ≡ true) ⊎ StandsFor names environment core low x
          → StandsFor names_after later after high x
      pub comes : (rest : Code) (joins : List Join) (frames : List CallFrame) (input : List ℕ)
          → Comes steps (steps * opening) (core_at (at rest) core joins frames store input)
          (core_at rest after joins frames store input)

    abbrev pub OpenedPattern : ℕ → ℕ → Pattern → Names → Environment → Environment → Environment → Type 0
    OpenedPattern a n p names environment later core =
        Opened (bound p) names (pattern_names a n p names) environment later core n (n + pattern_size p) (openings p) (opened a n p)

    abbrev pub OpenedParts : ℕ → ℕ → Patterns → Names → Environment → Environment → Environment → Type 0
    OpenedParts a n ps names environment later core =
        Opened (bound_all ps) names (parts_names a n ps names) environment later core n (n + parts_size ps) (openings_all ps)
        (opened_all a n ps)

    -- a pattern that opens nothing and binds nothing
    opens_nothing : (names : Names) (environment later core : Environment) (n : ℕ) → environment ≡ later
        → Opened [] names names environment later core n (n + 0) 0 (λ rest. rest)
    opens_nothing names environment later core n is = record {
      after = core;
      same = λ x less. refl;
      stand = λ x from. or_else from (λ among. absurd (let wrong : false ≡ true = among in cc))
          (λ stands. subst (λ (e : Environment). StandsFor names e core (n + 0) x) is
          (still_stands names environment core core n (n + 0) x (λ y less. refl) (omega arith) stands));
      comes = λ rest joins frames input. comes_nowhere (0 * opening) (core_at rest core joins frames store input);
    }

    opens_variable : (y a n : ℕ) (v : Value) (names : Names) (environment later core : Environment)
        → record { variable = y; value = v } ∷ environment ≡ later → value_of core a ≡ v → a < n
        → OpenedPattern a n (variable y) names environment later core
    opens_variable y a n v names environment later core is has less = record {
      after = core;
      same = λ x low. refl;
      stand = λ x from. subst (λ (e : Environment). StandsFor (pattern_names a n (variable y) names) e core (n + 0) x) is
          (by_test x (y == x) refl from);
      comes = λ rest joins frames input. comes_nowhere (0 * opening) (core_at rest core joins frames store input);
    }
      where
        by_test : (x : ℕ) (same : Bool) → (y == x) ≡ same → (is_among (y ∷ []) x ≡ true) ⊎ StandsFor names environment core n x
            → (value_of core (if same then a else name_of names x) ≡ (if same then v else value_of environment x))
            × ((if same then a else name_of names x) < n + 0)
        by_test x true same_is from = (has, omega arith)
        by_test x false same_is from =
            or_else from (λ among. let one = rw same_is at among in absurd (cc)) (λ stands. (stands.0, omega (arith, stands.1)))

    -- a constructor's pattern, where what opens the fields' cells is known
    opens_constructor : (a n c : ℕ) (ps : Patterns) (v : Value) (vs : List Value) (names : Names)
        (environment later core : Environment)
        → fields_under store c v ≡ Some vs → matched_all store ps vs environment ≡ Some later → value_of core a ≡ v → a < n
        → ((bound : Environment) → FieldsAre bound n vs → OpenedParts n (n + part_count ps) ps names environment later bound)
        → OpenedPattern a n (constructor c ps) names environment later core
    opens_constructor a n c no_part v [] names environment later core under is has less inner =
        opens_nothing names environment later core n (same_some environment later is)
    opens_constructor a n c no_part v (w ∷ ws) names environment later core under is has less inner = absurd (cc)
    opens_constructor a n c (part first others) v [] names environment later core under is has less inner = absurd (cc)
    opens_constructor a n c (part first others) v (w ∷ ws) names environment later core under is has less inner =
        let ps : Patterns = part first others in
        let fields : Environment = bind_fields (numbers n ps) (w ∷ ws) core in
        let bound_so = fields_bound n ps (w ∷ ws) core (matched_as_many store ps (w ∷ ws) environment later is) in
        let behind : OpenedParts n (n + part_count ps) ps names environment later fields = inner fields bound_so.1 in
        let cell : fields_opened store c (value_of core a) ≡ Some (w ∷ ws)
        = ap (fields_opened store c) has ∙ cell_opened store c v w ws under in
        record {
          after = behind.after;
          same = λ x low. behind.same x (omega arith) ∙ bound_so.0 x low;
          stand = λ x from.
              let one = behind.stand x (or_else from (λ among. inl among)
              (λ stands. inr (still_stands names environment core fields n (n + part_count ps) x bound_so.0
              (omega arith) stands))) in
              (one.0, omega (arith, one.1));
          comes = λ rest joins frames input.
              let from = core_at (opened a n (constructor c ps) rest) core joins frames store input in
              let next = core_at (opened_all n (n + part_count ps) ps rest) fields joins frames store input in
              let last = core_at rest behind.after joins frames store input in
              let more : ℕ = openings_all ps in
              comes_within (suc more) (opening + more * opening) (suc more * opening) from last (omega arith)
              (comes_first more opening (more * opening) from next last
              (opens_for a c (numbers n ps) (opened_all n (n + part_count ps) ps rest) core joins frames store input)
              (ap (λ (o : Option (List Value)). performed (unpack_step o (numbers n ps)
              (opened_all n (n + part_count ps) ps rest) core joins from.machine) input) cell)
              (behind.comes rest joins frames input));
        }

    mutual
      pub opens : (a n : ℕ) (p : Pattern) (v : Value) (names : Names) (environment later core : Environment)
          → matched store p v environment ≡ Some later → value_of core a ≡ v → a < n
          → OpenedPattern a n p names environment later core
      opens a n anything v names environment later core is has less =
          opens_nothing names environment later core n (same_some environment later is)
      opens a n (variable y) v names environment later core is has less =
          opens_variable y a n v names environment later core
          (same_some (record { variable = y; value = v } ∷ environment) later is) has less
      opens a n (exactly m) v names environment later core is has less =
          opens_nothing names environment later core n (some_if (is_integer m v) environment later is)
      opens a n (constructor c ps) v names environment later core is has less =
          let one = some_of_both (fields_under store c v) (λ vs. matched_all store ps vs environment) later is in
          opens_constructor a n c ps v one.0 names environment later core one.1 one.2 has less
          (λ bound are. opens_parts n (n + part_count ps) ps one.0 names environment later bound one.2 are (omega arith))

      pub opens_parts : (a n : ℕ) (ps : Patterns) (vs : List Value) (names : Names) (environment later core : Environment)
          → matched_all store ps vs environment ≡ Some later → FieldsAre core a vs → a + part_count ps ≤ n
          → OpenedParts a n ps names environment later core
      opens_parts a n no_part [] names environment later core is are le =
          opens_nothing names environment later core n (same_some environment later is)
      opens_parts a n no_part (v ∷ vs) names environment later core is are le = absurd (cc)
      opens_parts a n (part first rest) [] names environment later core is are le = absurd (cc)
      opens_parts a n (part first rest) (v ∷ vs) names environment later core is are le =
          let two = some_of_both (matched store first v environment) (λ bound. matched_all store rest vs bound) later is in
          let middle : Environment = two.0 in
          let here : OpenedPattern a n first names environment middle core
          = opens a n first v names environment middle core two.1 are.0 (omega arith) in
          let many : AreAsMany rest vs = matched_as_many store rest vs middle later two.2 in
          let there : OpenedParts (a + 1) (n + pattern_size first) rest (pattern_names a n first names) middle later here.after
          = opens_parts (a + 1) (n + pattern_size first) rest vs (pattern_names a n first names) middle later here.after two.2
          (fields_later core here.after n (a + 1) rest vs many here.same (omega arith) are.1) (omega arith) in
          record {
            after = there.after;
            same = λ x low. there.same x (omega arith) ∙ here.same x low;
            stand = λ x from.
                let one = there.stand x (or_else from
                (λ among. or_else (among_split (bound first) (bound_all rest) x among)
                (λ in_first. inr (here.stand x (inl in_first))) (λ in_rest. inl in_rest))
                (λ stands. inr (here.stand x (inr stands)))) in
                (one.0, omega (arith, one.1));
            comes = λ last joins frames input.
                let begin = core_at (opened_all a n (part first rest) last) core joins frames store input in
                let end = core_at last there.after joins frames store input in
                comes_within (openings first + openings_all rest) (openings first * opening + openings_all rest * opening)
                ((openings first + openings_all rest) * opening) begin end (omega arith)
                (comes_on (openings first) (openings_all rest) (openings first * opening) (openings_all rest * opening) begin
                (core_at (opened_all (a + 1) (n + pattern_size first) rest last) here.after joins frames store input) end
                (here.comes (opened_all (a + 1) (n + pattern_size first) rest last) joins frames input)
                (there.comes last joins frames input));
          }

    -- the free variables of the arm's body stand for their values
    pub opened_stands : (a n : ℕ) (p : Pattern) (names : Names) (environment later core : Environment) (low : ℕ) (xs : List ℕ)
        (o : OpenedPattern a n p names environment later core)
        → low ≤ n → Stands names environment core low (without (bound p) xs)
        → Stands (pattern_names a n p names) later o.after (n + pattern_size p) xs
    opened_stands a n p names environment later core low xs o le stands =
        λ x is. o.stand x (by_test x is (is_among (bound p) x) refl)
      where
        by_test : (x : ℕ) → is_among xs x ≡ true → (b : Bool) → is_among (bound p) x ≡ b
            → (is_among (bound p) x ≡ true) ⊎ StandsFor names environment core n x
        by_test x is true among = inl among
        by_test x is false out = let one = stands x (among_without (bound p) xs x out is) in inr (one.0, omega (arith, one.1))
