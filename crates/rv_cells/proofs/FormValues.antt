-- The lines that touch cells, and those of tests, name few values: the variables and tokens of their form, and temporaries.
use Rattle.std.proofs.Common.{◌≡◌, ℕ, zero, suc, ◌+◌, ◌<◌, Bool, true, false, List, [], ◌∷◌, ◌++◌, Option, Some, None, refl, sym, subst, arith}
use Rattle.std.specs.Prelude.{not, filter, nat_eq, if◌then◌else◌}
use Rattle.std.proofs.lemmas.Bool.{cond_both}
use Rattle.kk_syntax.specs.Shapes.{is_among}
use Rattle.kk_core.specs.Decisions.{NodeTree, chooses, tests}
use Rattle.kk_core.specs.declared.decisions.Answer.{Answer}
use Rattle.kk_core.specs.declared.decisions.Edge.{Edge}
use Rattle.rv_isa.specs.declared.asm.Action.TheVariants.{Compute, Label, Jump, Branch, Routine as Calls}
use Rattle.rv_isa.specs.declared.asm.Condition.TheVariants.{Equal, NotEqual}
use Rattle.rv_isa.specs.declared.asm.Operation.TheVariants as Op
use Rattle.rv_isa.specs.declared.asm.ImmediateOperation.TheVariants.{Addi, Andi}
use Rattle.rv_isa.specs.declared.routine.Routine.TheVariants.{Take, Drop}
use Rattle.rv_isa.specs.AsmCode.{Line}
use Rattle.rv_isa.specs.ValueBounds.{AreValuesBelow, IsLineBelow, AreLinesBelow}
use Rattle.rv_isa.proofs.ValueBounds.{lines_joined}
use Rattle.rv_lower.specs.Lines.{computes, sets, copies_to, acts}
use Rattle.rv_cells.specs.Layout.{Layout, first_field}
use Rattle.rv_cells.specs.CellLines.{Loads, Stores, AllLoads, AllStores, StoresIf, SomeStores, SetIf, is_kept, dup_lines, drop_lines}
use Rattle.rv_cells.specs.CellLines.{dups_lines, drops_lines, ConstructLines, hold_line, hold_lines, unhold_lines, SomeWords, FillLines}
use Rattle.rv_cells.specs.CellLines.{both_ways, TokenUniqueLines, Walks, walked, spare, equal_lines, jump_lines, either_lines}
use Rattle.rv_cells.specs.CountedLines.{answer_word, answer_tag, Ways, number_tests, last_lines, ChoiceLines, OddLines, DecideLines}
use Rattle.rv_cells.specs.CountedLines.{NodeLines, NodesLines}

module _ (most : ℕ) where
  -- ---- words of cells

  pub load_below : (cell i into : ℕ) (line : Line) → cell < most → into < most → Loads cell i into line → IsLineBelow most line
  load_below cell i into line cell_less less is = subst (IsLineBelow most) (sym is.2) ((cell_less, tt), less)

  store_below : (cell i from : ℕ) (line : Line) → cell < most → from < most → Stores cell i from line → IsLineBelow most line
  store_below cell i from line cell_less less is = subst (IsLineBelow most) (sym is.2) ((cell_less, (less, tt)), tt)

  pub loads_below : (cell i : ℕ) (xs : List ℕ) (lines : List Line) → cell < most → AreValuesBelow most xs
      → AllLoads cell i xs lines → AreLinesBelow most lines
  loads_below cell i [] lines cell_less below is = subst (AreLinesBelow most) (sym is) tt
  loads_below cell i (x ∷ xs) lines cell_less below is =
      subst (AreLinesBelow most) (sym is.4)
      (load_below cell i x is.0 cell_less below.0 is.2, loads_below cell (suc i) xs is.1 cell_less below.1 is.3)

  stores_below : (cell i : ℕ) (xs : List ℕ) (lines : List Line) → cell < most → AreValuesBelow most xs
      → AllStores cell i xs lines → AreLinesBelow most lines
  stores_below cell i [] lines cell_less below is = subst (AreLinesBelow most) (sym is) tt
  stores_below cell i (x ∷ xs) lines cell_less below is =
      subst (AreLinesBelow most) (sym is.4)
      (store_below cell i x is.0 cell_less below.0 is.2, stores_below cell (suc i) xs is.1 cell_less below.1 is.3)

  store_if_below : (takes : Bool) (cell i from : ℕ) (lines : List Line) → cell < most → from < most
      → StoresIf takes cell i from lines → AreLinesBelow most lines
  store_if_below true cell i from lines cell_less less is =
      subst (AreLinesBelow most) (sym is.2) (store_below cell i from is.0 cell_less less is.1, tt)
  store_if_below false cell i from lines cell_less less is = subst (AreLinesBelow most) (sym is) tt

  some_stores_below : (takes : ℕ → Bool) (cell i position : ℕ) (xs : List ℕ) (lines : List Line) → cell < most
      → AreValuesBelow most xs → SomeStores takes cell i position xs lines → AreLinesBelow most lines
  some_stores_below takes cell i position [] lines cell_less below is = subst (AreLinesBelow most) (sym is) tt
  some_stores_below takes cell i position (x ∷ xs) lines cell_less below is =
      subst (AreLinesBelow most) (sym is.4)
      (lines_joined most is.0 is.1 (store_if_below (takes position) cell i x is.0 cell_less below.0 is.2)
      (some_stores_below takes cell (suc i) (suc position) xs is.1 cell_less below.1 is.3))

  set_if_below : (sets_it : Bool) (base cell i word : ℕ) (lines : List Line) → base < most → cell < most
      → SetIf sets_it base cell i word lines → AreLinesBelow most lines
  set_if_below true base cell i word lines base_less less is =
      subst (AreLinesBelow most) (sym is.2) ((tt, base_less), (store_below cell i base is.0 less base_less is.1, tt))
  set_if_below false base cell i word lines base_less less is = subst (AreLinesBelow most) (sym is) tt

  -- ---- references

  pub dup_below : (holds : ℕ → Bool) (x : ℕ) → x < most → AreLinesBelow most (dup_lines holds x)
  dup_below holds x less = by (holds x)
    where
      by : (held : Bool) → AreLinesBelow most (if held then acts (Compute Op.Dup) (x ∷ []) ∷ [] else [])
      by true = (((less, tt), tt), tt)
      by false = tt

  pub drop_below : (holds : ℕ → Bool) (x : ℕ) → (holds x ≡ true → x < most)
      → AreLinesBelow most (drop_lines holds x)
  drop_below holds x less = by (holds x) less
    where
      by : (held : Bool) → (held ≡ true → x < most) → AreLinesBelow most
          (if held then acts (Calls Drop) (x ∷ []) ∷ [] else [])
      by true less_if = (((less_if refl, tt), tt), tt)
      by false less_if = tt

  dups_below : (holds : ℕ → Bool) (xs : List ℕ) → AreValuesBelow most xs → AreLinesBelow most (dups_lines holds xs)
  dups_below holds [] below = tt
  dups_below holds (x ∷ xs) below =
      lines_joined most (dup_lines holds x) (dups_lines holds xs) (dup_below holds x below.0) (dups_below holds xs below.1)

  drops_below : (holds : ℕ → Bool) (xs : List ℕ) → AreValuesBelow most xs
      → AreLinesBelow most (drops_lines holds xs)
  drops_below holds [] below = tt
  drops_below holds (x ∷ xs) below =
      lines_joined most (drop_lines holds x) (drops_lines holds xs)
      (drop_below holds x (λ held. below.0)) (drops_below holds xs below.1)

  some_below : (test : ℕ → Bool) (xs : List ℕ) → AreValuesBelow most xs → AreValuesBelow most (filter test xs)
  some_below test [] below = tt
  some_below test (x ∷ xs) below =
      cond_both (test x) (x ∷ filter test xs) (filter test xs) (AreValuesBelow most)
      (λ t. (below.0, some_below test xs below.1)) (λ t. some_below test xs below.1)

  -- ---- forms

  pub construct_below : (base x header : ℕ) (arguments : List ℕ) (lines : List Line) → base < most → x < most
      → AreValuesBelow most arguments → ConstructLines base x header arguments lines → AreLinesBelow most lines
  construct_below base x header arguments lines base_less less below is =
      subst (AreLinesBelow most) (sym is.6) (
        (tt, less),
        (
          (tt, base_less),
          (
            store_below x 1 base is.0 less base_less is.3,
            lines_joined most is.1 (sets 1 base ∷ is.2 ∷ []) (stores_below x 2 arguments is.1 less below is.4)
                ((tt, base_less), (store_below x 0 base is.2 less base_less is.5, tt)),
          ),
        ),
      )

  hold_below : (tokens : List ℕ) → AreValuesBelow most tokens → AreLinesBelow most (hold_lines tokens)
  hold_below [] below = tt
  hold_below (token ∷ tokens) below =
      lines_joined most (hold_lines tokens) (hold_line token ∷ []) (hold_below tokens below.1)
      (((below.0, (below.0, tt)), tt), tt)

  unhold_below : (tokens : List ℕ) → AreValuesBelow most tokens → AreLinesBelow most (unhold_lines tokens)
  unhold_below [] below = tt
  unhold_below (token ∷ tokens) below = (((below.0, tt), tt), unhold_below tokens below.1)

  words_below : (head count : Bool) (takes : ℕ → Bool) (base x header : ℕ) (arguments : List ℕ) (lines : List Line) → base < most
      → x < most → AreValuesBelow most arguments → SomeWords head count takes base x header arguments lines
      → AreLinesBelow most lines
  words_below head count takes base x header arguments lines base_less less below is =
      subst (AreLinesBelow most) (sym is.6)
      (lines_joined most is.0 (is.1 ++ is.2) (set_if_below head base x 1 header is.0 base_less less is.3)
      (lines_joined most is.1 is.2 (some_stores_below takes x first_field 0 arguments is.1 less below is.4)
      (set_if_below count base x 0 1 is.2 base_less less is.5)))

  pub fill_below : (base x token : ℕ) (others : List ℕ) (filled header : ℕ) (arguments kept : List ℕ) (head count : Bool)
      (lines : List Line) → base < most → x < most → token < most → AreValuesBelow most others → AreValuesBelow most arguments
      → FillLines base x token others filled header arguments kept head count lines → AreLinesBelow most lines
  fill_below base x token others filled header arguments kept head count lines base_less less token_less others_below below is =
      subst (AreLinesBelow most) (sym is.4) (
        ((token_less, tt), less),
        (
          ((less, tt), tt),
          lines_joined most (hold_lines others)
              (record { action = Calls Take; args = []; into = Some x } ∷ (unhold_lines others ++ (is.0 ++ (acts (Label filled) [] ∷ is.1))))
              (hold_below others others_below) (
                (tt, less),
                lines_joined most (unhold_lines others) (is.0 ++ (acts (Label filled) [] ∷ is.1)) (unhold_below others others_below)
                    (lines_joined most is.0 (acts (Label filled) [] ∷ is.1)
                    (words_below head count (is_kept true kept) base x header arguments is.0 base_less less below is.2)
                    ((tt, tt), words_below (not head) (not count) (is_kept false kept) base x header arguments is.1 base_less less below is.3)),
              ),
        ),
      )

  -- both ways of an opening, and the opening
  ways_below : (into : Option ℕ) (second behind filled token : ℕ) (alone shared : List Line) → token < most
      → ((y : ℕ) → into ≡ Some y → y < most) → AreLinesBelow most alone → AreLinesBelow most shared
      → AreLinesBelow most (both_ways into second behind filled token alone shared)
  ways_below None second behind filled token alone shared less into_less alone_is shared_is =
      lines_joined most (shared ++ (acts (Jump behind) [] ∷ []))
      ((acts (Label second) [] ∷ alone) ++ (acts (Label behind) [] ∷ []))
      (lines_joined most shared (acts (Jump behind) [] ∷ []) shared_is ((tt, tt), tt))
      (lines_joined most (acts (Label second) [] ∷ alone) (acts (Label behind) [] ∷ []) ((tt, tt), alone_is) ((tt, tt), tt))
  ways_below (Some y) second behind filled token alone shared less into_less alone_is shared_is =
      lines_joined most (alone ++ (copies_to token y ∷ acts (Jump filled) [] ∷ []))
      ((acts (Label second) [] ∷ shared) ++ (acts (Label behind) [] ∷ []))
      (lines_joined most alone (copies_to token y ∷ acts (Jump filled) [] ∷ []) alone_is
      (((less, tt), into_less y refl), ((tt, tt), tt)))
      (lines_joined most (acts (Label second) [] ∷ shared) (acts (Label behind) [] ∷ []) ((tt, tt), shared_is) ((tt, tt), tt))

  pub token_unique_below : (base : ℕ) (holds : ℕ → Bool) (second behind filled x : ℕ) (fields used : List ℕ) (token : ℕ)
      (into : Option ℕ) (lines : List Line) → base + 1 < most → x < most → token < most
      → ((y : ℕ) → into ≡ Some y → y < most) → AreValuesBelow most fields
      → TokenUniqueLines base holds second behind filled x fields used token into lines → AreLinesBelow most lines
  token_unique_below base holds second behind filled x fields used token into lines room less token_less into_less below is =
      let base_less : base < most = omega (arith, room) in
      let loads = loads_below x 2 fields is.1 less below is.6 in
      let unused : List ℕ = filter (λ y. not (is_among used y)) fields in
      let kept : List ℕ = filter (is_among used) fields in
      let dropped : List Line = drops_lines holds unused ++ (copies_to x token ∷ []) in
      let lowered : List Line = is.2 ∷ computes (Op.Immediate Addi is.3) (base ∷ []) base ∷ is.4 ∷ sets 0 token
      ∷ dups_lines holds kept in
      subst (AreLinesBelow most) (sym is.10) (
        load_below x 0 base is.0 less base_less is.5,
        (
          (tt, room),
          (
            ((base_less, (room, tt)), tt),
            ways_below into second behind filled token (is.1 ++ dropped) (is.1 ++ lowered) token_less into_less
                (lines_joined most is.1 dropped loads
                (lines_joined most (drops_lines holds unused) (copies_to x token ∷ [])
                (drops_below holds unused (some_below (λ y. not (is_among used y)) fields below)) (((less, tt), token_less), tt)))
                (lines_joined most is.1 lowered loads (
                  load_below x 0 base is.2 less base_less is.7,
                  (
                    ((base_less, tt), base_less),
                    (
                      store_below x 0 base is.4 less base_less is.9,
                      ((tt, token_less), dups_below holds kept (some_below (is_among used) fields below)),
                    ),
                  ),
                )),
          ),
        ),
      )

  -- ---- tests

  walk_below : (temporary value : ℕ) (way : List ℕ) (lines : List Line) → temporary < most → value < most
      → Walks temporary value way lines → AreLinesBelow most lines
  walk_below temporary value [] lines less value_less is = subst (AreLinesBelow most) (sym is) tt
  walk_below temporary value (field ∷ way) lines less value_less is =
      subst (AreLinesBelow most) (sym is.4) (
        load_below value (first_field + field) temporary is.0 value_less less is.2,
        walk_below temporary temporary way is.1 less less is.3,
      )

  equal_below : (value word temporary label : ℕ) → value < most → temporary < most
      → AreLinesBelow most (equal_lines value word temporary label)
  equal_below value word temporary label value_less less = ((tt, less), (((value_less, (less, tt)), tt), tt))

  jump_below : (next label : ℕ) → AreLinesBelow most (jump_lines next label)
  jump_below next label = by (nat_eq label next)
    where
      by : (same : Bool) → AreLinesBelow most (if same then [] else (acts (Jump label) [] ∷ []))
      by true = tt
      by false = ((tt, tt), tt)

  either_below : (next value word temporary equal other : ℕ) → value < most → temporary < most
      → AreLinesBelow most (either_lines next value word temporary equal other)
  either_below next value word temporary equal other value_less less = ((tt, less), by (nat_eq equal next))
    where
      by : (same : Bool) → AreLinesBelow most (if same then acts (Branch NotEqual other) (value ∷ temporary ∷ []) ∷ []
          else (acts (Branch Equal equal) (value ∷ temporary ∷ []) ∷ jump_lines next other))
      by true = (((value_less, (less, tt)), tt), tt)
      by false = (((value_less, (less, tt)), tt), jump_below next other)

  module _ (number : Answer → ℕ) (to : ℕ → ℕ) (value temporary : ℕ) (value_less : value < most) (less : temporary < most) where
    tests_below : (edges : List Edge) → AreLinesBelow most (number_tests number to value temporary edges)
    tests_below [] = tt
    tests_below (edge ∷ edges) =
        lines_joined most (equal_lines value (number edge.found) temporary (to edge.next)) (number_tests number to value temporary edges)
        (equal_below value (number edge.found) temporary (to edge.next) value_less less) (tests_below edges)

    last_below : (next : ℕ) (edge : Option Edge) (other : Option ℕ)
        → AreLinesBelow most (last_lines number to next value temporary edge other)
    last_below next None None = tt
    last_below next None (Some other) = jump_below next (to other)
    last_below next (Some edge) None = equal_below value (number edge.found) temporary (to edge.next) value_less less
    last_below next (Some edge) (Some other) =
        either_below next value (number edge.found) temporary (to edge.next) (to other) value_less less

    choice_below : (next : ℕ) (edges : List Edge) (other : Option ℕ) (lines : List Line)
        → ChoiceLines number to next value temporary edges other lines → AreLinesBelow most lines
    choice_below next edges other lines is =
        subst (AreLinesBelow most) (sym is.3)
        (lines_joined most (number_tests number to value temporary is.0) (last_lines number to next value temporary is.1 other)
        (tests_below is.0) (last_below next is.1 other))

  odd_below : (value temporary : ℕ) (to : ℕ → ℕ) (otherwise : Option ℕ) (lines : List Line) → value < most → temporary < most
      → OddLines value temporary to otherwise lines → AreLinesBelow most lines
  odd_below value temporary to None lines value_less less is = subst (AreLinesBelow most) (sym is) tt
  odd_below value temporary to (Some next) lines value_less less is =
      subst (AreLinesBelow most) (sym is.2) (((value_less, tt), less), (((less, tt), tt), tt))

  decide_below : (layout : Layout) (to : ℕ → ℕ) (next value temporary : ℕ) (plain tagged : List Edge) (otherwise other : Option ℕ)
      (lines : List Line) → value < most → temporary + 1 < most
      → DecideLines layout to next value temporary plain tagged otherwise other lines → AreLinesBelow most lines
  decide_below layout to next value temporary plain [] otherwise other lines value_less room is =
      choice_below (answer_word layout) to value temporary value_less (omega (arith, room)) next plain other lines is
  decide_below layout to next value temporary plain (edge ∷ edges) otherwise other lines value_less room is =
      let less : temporary < most = omega (arith, room) in
      let chosen : List Line = is.1 ∷ computes (Op.Immediate Andi is.2) (temporary ∷ []) temporary ∷ is.3 in
      subst (AreLinesBelow most) (sym is.8)
      (lines_joined most (number_tests (answer_word layout) to value temporary plain) (is.0 ++ chosen)
      (tests_below (answer_word layout) to value temporary value_less less plain)
      (lines_joined most is.0 chosen (odd_below value temporary to otherwise is.0 value_less less is.4) (
        load_below value 1 temporary is.1 value_less less is.5,
        (
          ((less, tt), less),
          choice_below (answer_tag layout) to temporary (temporary + 1) less room next (edge ∷ edges) other is.3 is.7,
        ),
      )))

  walked_less : (base x : ℕ) (at : List ℕ) → base < most → x < most → walked base x at < most
  walked_less base x [] base_less less = less
  walked_less base x (field ∷ at) base_less less = base_less

  spare_less : (base : ℕ) (at : List ℕ) → base + 2 < most → spare base at + 1 < most
  spare_less base [] room = omega (arith, room)
  spare_less base (field ∷ at) room = omega (arith, room)

  module _ (layout : Layout) (base nodes x : ℕ) (ways : Ways) (room : base + 2 < most) (less : x < most) where
    node_below : (k : ℕ) (node : NodeTree) (lines : List Line) → NodeLines layout base nodes ways x k node lines
        → AreLinesBelow most lines
    node_below zero (chooses row) lines is = subst (AreLinesBelow most) (sym is) (jump_below (ways.behind 0) (ways.to 0))
    node_below (suc k) (chooses row) lines is = subst (AreLinesBelow most) (sym is) tt
    node_below k (tests at edges otherwise) lines is =
        let base_less : base < most = omega (arith, room) in
        subst (AreLinesBelow most) (sym is.2) (
          (tt, tt),
          subst (AreLinesBelow most) (sym is.1.8)
              (lines_joined most is.1.0 is.1.1 (walk_below base x at is.1.0 base_less less is.1.5)
              (decide_below layout ways.to (ways.behind k) (walked base x at) (spare base at) is.1.2 is.1.3 otherwise is.1.4 is.1.1
              (walked_less base x at base_less less) (spare_less base at room) is.1.7)),
        )

    pub nodes_below : (k : ℕ) (decisions : List NodeTree) (lines : List Line)
        → NodesLines layout base nodes ways x k decisions lines → AreLinesBelow most lines
    nodes_below k [] lines is = subst (AreLinesBelow most) (sym is) tt
    nodes_below k (node ∷ more) lines is =
        subst (AreLinesBelow most) (sym is.4)
        (lines_joined most is.0 is.1 (node_below k node is.0 is.2) (nodes_below (suc k) more is.1 is.3))
