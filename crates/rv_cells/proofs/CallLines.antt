-- Calls and returns as lines, over frames with the words of their variables.
use Rattle.std.proofs.Common.{◌≡◌, ◌<◌, ◌≤◌, ℕ, zero, suc, ◌+◌, ◌*◌, Bool, true, false, cond, inl, inr, List, [], ◌∷◌, ◌++◌, length, map, Option, Some, option_map, nat_le, refl, sym, ◌∙◌, ap, subst, arith}
use Rattle.std.specs.Prelude.{slice_get}
use Rattle.kk_syntax.specs.Shapes.{is_among}
use Rattle.kk_source.specs.State.{Value, Environment}
use Rattle.kk_source.specs.Live.{value_of}
use Rattle.kk_source.specs.Step.{bind_parameters}
use Rattle.kk_source.specs.Sound.{Within}
use Rattle.kk_counted.specs.Spending.{numbers_from}
use Rattle.rv_isa.specs.declared.asm.Action.TheVariants.{Call, TailCall, Return}
use Rattle.rv_isa.specs.Processor.{exited}
use Rattle.rv_isa.specs.AsmCode.{Line, Lines}
use Rattle.rv_isa.specs.AsmMachine.{asm_acts, bound, asm_entered, asm_goes, asm_returns, unless_held}
use Rattle.rv_isa.specs.Frames.{Frame, empty, put, all_of, received}
use Rattle.rv_isa.specs.Primitives.{ended, or_stuck}
use Rattle.cell_runtime.specs.declared.process.Ending.TheVariants as OfEnding
use Rattle.cell_runtime.specs.Stops.{number_of}
use Rattle.cell_runtime.specs.World.{World}
use Rattle.rv_lower.specs.Lines.{acts, copies, temporaries}
use Rattle.rv_lower.specs.Lowered.{from_to}
use Rattle.rv_lower.proofs.Calls.{HaveWords, AreLess}
use Rattle.rv_lower.proofs.FormEffects.{put_same, put_other, reads_one}
use Rattle.rv_cells.specs.Layout.{Layout, word_in, words_in, FitsField}
use Rattle.rv_cells.proofs.NameContents.{some-is}
use Rattle.rv_cells.proofs.Values.{HasValues, among_by, value_same, value_other}
use Rattle.rv_cells.proofs.Runs.{Target, left_at, turn_of, Runs, runs_none, runs_then, world_primitives, line_runs, silent}
use Rattle.rv_cells.proofs.CellActions.{put_in, copy_runs}
use Rattle.rv_cells.proofs.LineCosts.{most_moves, row_cost}

-- ---- arguments, which are copied to temporaries

abbrev pub put_row : ℕ → List ℕ → (ℕ → Option ℕ) → ℕ → Option ℕ
put_row t [] values = values
put_row t (w ∷ ws) values = put_row (t + 1) ws (put t (Some w) values)

pub row_below : (t z : ℕ) (ws : List ℕ) (values : ℕ → Option ℕ) → z < t → put_row t ws values z ≡ values z
row_below t z [] values less = refl
row_below t z (w ∷ ws) values less =
    row_below (t + 1) z ws (put t (Some w) values) (omega (arith, less)) ∙ put_other t z w values (λ e. omega (arith, e, less))

pub row_has : (t : ℕ) (xs ws : List ℕ) (values : ℕ → Option ℕ) → length xs ≡ length ws → HaveWords (put_row t ws values)
    (temporaries t xs) ws
row_has t [] [] values many = tt
row_has t [] (w ∷ ws) values many = absurd (omega (arith, many))
row_has t (x ∷ xs) [] values many = absurd (omega (arith, many))
row_has t (x ∷ xs) (w ∷ ws) values many = (
  row_below (t + 1) t ws (put t (Some w) values) (omega arith) ∙ put_same t w values,
  row_has (t + 1) xs ws (put t (Some w) values) (omega (arith, many)),
)

still_have : (t w : ℕ) (xs ws : List ℕ) (values : ℕ → Option ℕ) → AreLess xs t → HaveWords values xs ws
    → HaveWords (put t (Some w) values) xs ws
still_have t w [] [] values less have = tt
still_have t w [] (v ∷ ws) values less have = absurd have
still_have t w (x ∷ xs) [] values less have = absurd have
still_have t w (x ∷ xs) (v ∷ ws) values less have =
    (put_other t x w values (λ e. let low = less.0 in omega arith) ∙ have.0, still_have t w xs ws values less.1 have.1)

less_more : (t : ℕ) (xs : List ℕ) → AreLess xs t → AreLess xs (t + 1)
less_more t [] less = tt
less_more t (x ∷ xs) less = (let low = less.0 in omega arith, less_more t xs less.1)

pub temporaries_many : (t : ℕ) (xs : List ℕ) → length (temporaries t xs) ≡ length xs
temporaries_many t [] = refl
temporaries_many t (x ∷ xs) = ap suc (temporaries_many (t + 1) xs)

pub copies_run : (target : Target) (rest : List Line) (fs : List (Frame Line)) (world : World) (xs ws : List ℕ) (t : ℕ)
    (f : Frame Line)
    → AreLess xs t → HaveWords f.cells xs ws
    → Runs target (row_cost xs (most_moves + 2)) (length xs) (turn_of (copies t xs ++ rest) f fs world)
    (turn_of rest (record f { cells = put_row t ws f.cells }) fs world)
copies_run target rest fs world [] [] t f less have = runs_none target (turn_of rest f fs world)
copies_run target rest fs world [] (w ∷ ws) t f less have = absurd have
copies_run target rest fs world (x ∷ xs) [] t f less have = absurd have
copies_run target rest fs world (x ∷ xs) (w ∷ ws) t f less have =
    let g = put_in t w f in
    let first = copy_runs target (copies (t + 1) xs ++ rest) f fs world x t w have.0 in
    let later = copies_run target rest fs world xs ws (t + 1) g (less_more t xs less.1)
    (still_have t w xs ws f.cells less.1 have.1) in
    let t0 = turn_of (copies t (x ∷ xs) ++ rest) f fs world in
    let t2 = turn_of rest (record f { cells = put_row t (w ∷ ws) f.cells }) fs world in
    let one_more : 1 + length xs ≡ suc (length xs) = omega arith in
    subst (λ n. Runs target (row_cost (x ∷ xs) (most_moves + 2)) n t0 t2) one_more
    (runs_then target (most_moves + 2) (row_cost xs (most_moves + 2)) 1 (length xs) t0
    (turn_of (copies (t + 1) xs ++ rest) g fs world) t2
    first later)

-- ---- parameters

index_some : (vs : List Value) (i : ℕ) → i < length vs → (v : Value) × (slice_get vs i ≡ Some v)
index_some [] i less = absurd (omega (arith, less))
index_some (v ∷ vs) zero less = (v, refl)
index_some (v ∷ vs) (suc i) less = index_some vs i (omega (arith, less))

pub among_numbers : (k n x : ℕ) → is_among (numbers_from k n) x ≡ true → (i : ℕ) × (x ≡ k + i) × (i < n)
among_numbers k zero x is = cc
among_numbers k (suc n) x is =
    elim (among_by k (numbers_from (suc k) n) x is) [
      | inl e ↦ (0, omega (arith, e), omega arith)
      | inr later ↦ (let rest = among_numbers (suc k) n x later in (suc rest.0, omega (arith, rest.1), omega (arith, rest.2)))
    ]

bind_past : (k : ℕ) (vs : List Value) (environment : Environment) (z : ℕ) → z < k → value_of (bind_parameters k vs environment) z
    ≡ value_of environment z
bind_past k [] environment z less = refl
bind_past k (v ∷ vs) environment z less =
    bind_past (suc k) vs (record { variable = k; value = v } ∷ environment) z (omega (arith, less))
    ∙ value_other k z v environment (λ e. omega (arith, e, less))

bind_value : (k : ℕ) (vs : List Value) (environment : Environment) (i : ℕ) (v : Value) → slice_get vs i ≡ Some v
    → value_of (bind_parameters k vs environment) (k + i) ≡ v
bind_value k [] environment i v is = cc
bind_value k (u ∷ vs) environment zero v is =
    let here : k + 0 ≡ k = omega arith in
    ap (value_of (bind_parameters (suc k) vs (record { variable = k; value = u } ∷ environment))) here
    ∙ bind_past (suc k) vs (record { variable = k; value = u } ∷ environment) k (omega arith) ∙ value_same k k u environment refl
    ∙ some-is is
bind_value k (u ∷ vs) environment (suc i) v is =
    let there : k + suc i ≡ suc k + i = omega arith in
    ap (value_of (bind_parameters (suc k) vs (record { variable = k; value = u } ∷ environment))) there
    ∙ bind_value (suc k) vs (record { variable = k; value = u } ∷ environment) i v is

-- the values of a function that is entered
record Entry (layout : Layout) (address : ℕ → ℕ) (k : ℕ) (vs : List Value) : Type 0 where
  values : ℕ → Option ℕ
  is : bound (from_to k (length vs)) (words_in layout address vs) ≡ Some values
  words : (i : ℕ) (v : Value) → slice_get vs i ≡ Some v → values (k + i) ≡ Some (word_in layout address v)

entry : (layout : Layout) (address : ℕ → ℕ) (k : ℕ) (vs : List Value) → Entry layout address k vs
entry layout address k [] = record { values = empty; is = refl; words = λ i v is. cc }
entry layout address k (u ∷ vs) =
    let rest = entry layout address (k + 1) vs in
    record {
      values = put k (Some (word_in layout address u)) rest.values;
      is = ap (option_map (put k (Some (word_in layout address u)))) rest.is;
      words = λ i v is. by rest i v is;
    }
  where
    by : (rest : Entry layout address (k + 1) vs) (i : ℕ) (v : Value) → slice_get (u ∷ vs) i ≡ Some v
        → put k (Some (word_in layout address u)) rest.values (k + i) ≡ Some (word_in layout address v)
    by rest zero v is =
        let here : k + 0 ≡ k = omega arith in
        ap (put k (Some (word_in layout address u)) rest.values) here ∙ put_same k (word_in layout address u) rest.values
        ∙ ap (λ w. Some (word_in layout address w)) (some-is is)
    by rest (suc i) v is =
        let there : k + suc i ≡ k + 1 + i = omega arith in
        put_other k (k + suc i) (word_in layout address u) rest.values (λ e. omega (arith, e)) ∙ ap rest.values there
        ∙ rest.words i v is

pub has_parameters : (layout : Layout) (address : ℕ → ℕ) (holds : ℕ → Bool) (base next : ℕ) (vs : List Value) → length vs ≤ base
    → ((i : ℕ) (v : Value) → slice_get vs i ≡ Some v → FitsField (holds i) v × Within next v)
    → (values : ℕ → Option ℕ) × (bound (from_to 0 (length vs)) (words_in layout address vs) ≡ Some values)
    × HasValues layout address holds base next (numbers_from 0 (length vs)) (bind_parameters 0 vs []) values
has_parameters layout address holds base next vs few each =
    let enters = entry layout address 0 vs in (
      enters.values,
      enters.is,
      record {
        below = λ x is. let among = among_numbers 0 (length vs) x is in omega (arith, among.1, among.2);
        words = λ x is. by x is (λ v. enters.values x ≡ Some (word_in layout address v))
            (λ i v e there. ap enters.values e ∙ enters.words i v there);
        fits = λ x is. by x is (FitsField (holds x))
            (λ i v e there. subst (λ y. FitsField (holds y) v) (whole i x e) (each i v there).0);
        older = λ x is. by x is (Within next) (λ i v e there. (each i v there).1);
      },
    )
  where
    whole : (i x : ℕ) → x ≡ 0 + i → i ≡ x
    whole i x e = omega (arith, e)

    by : (x : ℕ) → is_among (numbers_from 0 (length vs)) x ≡ true → (P : Value → Type 0)
        → ((i : ℕ) (v : Value) → x ≡ 0 + i → slice_get vs i ≡ Some v → P v) → P (value_of (bind_parameters 0 vs []) x)
    by x is P each_value =
        let among = among_numbers 0 (length vs) x is in
        let v = index_some vs among.0 among.2 in
        subst P (sym (ap (value_of (bind_parameters 0 vs [])) among.1 ∙ bind_value 0 vs [] among.0 v.0 v.1))
        (each_value among.0 v.0 among.1 v.1)

-- ---- calls and returns

module _ (target : Target) (f : Frame Line) (fs : List (Frame Line)) (world : World) where
  module _ (g : ℕ) (args words : List ℕ) (callee : Lines) (entry_values : ℕ → Option ℕ) (rest : List Line)
      (reads : all_of (map f.cells args) ≡ Some words) (there : slice_get target.functions g ≡ Some callee)
      (enters : bound callee.params words ≡ Some entry_values) where
    abbrev entered : Frame Line
    entered = asm_entered g callee entry_values

    -- a call, by whether the stack is full
    called : (x : ℕ) (full : Bool) → nat_le target.depth (length (f ∷ fs)) ≡ full
        → asm_acts (world_primitives target) target.depth target.functions (left_at rest f) fs world (Call g) args (Some x) words
        ≡ cond full (ended (exited (number_of OfEnding.StackFull)) world)
        (asm_goes entered (record (left_at rest f) { into = Some x } ∷ fs) world)
    called x full is =
        ap (λ o. or_stuck o (λ (c : Lines). or_stuck (bound c.params words) (λ values.
        cond (nat_le target.depth (length (f ∷ fs))) (ended (exited (number_of OfEnding.StackFull)) world)
        (asm_goes (asm_entered g c values) (record (left_at rest f) { into = Some x } ∷ fs) world)))) there
        ∙ ap (λ o. or_stuck o (λ values.
        cond (nat_le target.depth (length (f ∷ fs))) (ended (exited (number_of OfEnding.StackFull)) world)
        (asm_goes (asm_entered g callee values) (record (left_at rest f) { into = Some x } ∷ fs) world))) enters
        ∙ ap (λ b. cond b (ended (exited (number_of OfEnding.StackFull)) world)
        (asm_goes entered (record (left_at rest f) { into = Some x } ∷ fs) world)) is

    -- the callee runs, and the caller waits
    pub call_runs : (x : ℕ) → nat_le target.depth (length (f ∷ fs)) ≡ false
        → Runs target (2 * length args + 8) 1 (turn_of (record { action = Call g; args = args; into = Some x } ∷ rest) f fs world)
        (turn_of callee.code entered (record (left_at rest f) { into = Some x } ∷ fs) world)
    call_runs x room =
        line_runs target (2 * length args + 8) (record { action = Call g; args = args; into = Some x }) rest f fs world words
        (turn_of callee.code entered (record (left_at rest f) { into = Some x } ∷ fs) world) reads (called x false room)
        (λ held. omega arith) (silent target world)

    -- the stack is full
    pub full_call_runs : (x : ℕ) → nat_le target.depth (length (f ∷ fs)) ≡ true
        → Runs target (2 * length args + 8) 1 (turn_of (record { action = Call g; args = args; into = Some x } ∷ rest) f fs world)
        (ended (exited (number_of OfEnding.StackFull)) world)
    full_call_runs x full =
        line_runs target (2 * length args + 8) (record { action = Call g; args = args; into = Some x }) rest f fs world words
        (ended (exited (number_of OfEnding.StackFull)) world) reads (called x true full) (λ held. omega arith) (silent target world)

    -- the callee runs in place of a frame that holds no token
    pub tail_call_runs : f.held ≡ []
        → Runs target (2 * length args + 3) 1 (turn_of (acts (TailCall g) args ∷ rest) f fs world)
        (turn_of callee.code entered fs world)
    tail_call_runs none =
        line_runs target (2 * length args + 3) (acts (TailCall g) args) rest f fs world words
        (turn_of callee.code entered fs world) reads
        (ap (λ h. unless_held h (or_stuck (slice_get target.functions g) (λ (c : Lines). or_stuck (bound c.params words)
        (λ values. asm_goes (asm_entered g c values) fs world)))) none
        ∙ ap (λ o. or_stuck o (λ (c : Lines). or_stuck (bound c.params words) (λ values. asm_goes (asm_entered g c values) fs world)))
        there
        ∙ ap (λ o. or_stuck o (λ values. asm_goes (asm_entered g callee values) fs world)) enters)
        (λ held. omega arith) (silent target world)

-- a frame that holds no token gives a value to the one that waits, and the last frame ends the run
pub return_runs : (target : Target) (f waiting : Frame Line) (fs : List (Frame Line)) (world : World) (rest : List Line)
    (x word : ℕ)
    (values : ℕ → Option ℕ) → f.cells x ≡ Some word → f.held ≡ [] → received waiting.into (Some word) waiting.cells ≡ Some values
    → Runs target (most_moves + 3) 1 (turn_of (acts Return (x ∷ []) ∷ rest) f (waiting ∷ fs) world)
    (turn_of waiting.code (record waiting { cells = values }) fs world)
return_runs target f waiting fs world rest x word values is none gets =
    line_runs target (most_moves + 3) (acts Return (x ∷ [])) rest f (waiting ∷ fs) world (word ∷ [])
    (turn_of waiting.code (record waiting { cells = values }) fs world) (reads_one f.cells x word is)
    (ap (λ h. unless_held h (asm_returns (world_primitives target) (waiting ∷ fs) world (Some word))) none
    ∙ ap (λ o. or_stuck o (λ cells. asm_goes (record waiting { cells = cells }) fs world)) gets)
    (λ held. omega arith) (silent target world)

pub last_return_runs : (target : Target) (f : Frame Line) (world : World) (rest : List Line) (x word : ℕ) → f.cells x ≡ Some word
    → f.held ≡ []
    → Runs target (most_moves + 3) 1 (turn_of (acts Return (x ∷ []) ∷ rest) f [] world)
    (ended (exited (number_of OfEnding.Ended)) world)
last_return_runs target f world rest x word is none =
    line_runs target (most_moves + 3) (acts Return (x ∷ [])) rest f [] world (word ∷ [])
    (ended (exited (number_of OfEnding.Ended)) world)
    (reads_one f.cells x word is)
    (ap (λ h. unless_held h (asm_returns (world_primitives target) [] world (Some word))) none)
    (λ held. omega arith) (silent target world)
