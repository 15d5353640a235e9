-- The lines of a node of decisions lead to the label of the node that is chosen, or of the arm.
use Rattle.std.proofs.Common.{◌≡◌, ◌⊎◌, inl, inr, ℕ, zero, suc, ◌+◌, ◌*◌, ◌%◌, ◌<◌, ◌≤◌, Bool, true, false, not, List, [], ◌∷◌, ◌++◌, length, filter, Option, Some, None, option_to_list, nat_eq, eqb-true, bit_and, refl, sym, ◌∙◌, ap, subst, arith, append_assoc, ◌-◌}
use Rattle.std.specs.Prelude.{if◌then◌else◌, cond, ℤ, option_map}
use Rattle.cell_heap.specs.Blocks.{own}
use Rattle.rv_isa.specs.declared.asm.Operation.TheVariants as Op
use Rattle.rv_isa.specs.declared.asm.ImmediateOperation.TheVariants.{Andi}
use Rattle.std.proofs.lemmas.Nat.{and_mask}
use Rattle.kk_source.specs.State.{Value, integer, unit, constant, place, Cell}
use Rattle.kk_core.specs.Decisions.{value_at, answer_of, is_answer, next_by}
use Rattle.kk_core.specs.declared.decisions.Answer.{Answer}
use Rattle.kk_core.specs.declared.decisions.Answer.TheVariants.{Number, Constructor}
use Rattle.kk_core.specs.declared.decisions.Edge.{Edge}
use Rattle.kk_counted.specs.Heaps.{Held, cell_at, held_at, if_counted}
use Rattle.rv_isa.specs.declared.asm.Action.TheVariants.{Jump, Branch}
use Rattle.rv_isa.specs.declared.asm.Condition.{Condition}
use Rattle.rv_isa.specs.declared.asm.Condition.TheVariants.{Equal, NotEqual}
use Rattle.rv_isa.specs.declared.immediate.Immediate.{Immediate}
use Rattle.rv_isa.specs.AsmCode.{Line}
use Rattle.rv_isa.specs.Frames.{Frame, put}
use Rattle.rv_isa.specs.AsmMachine.{AsmTurn}
use Rattle.rv_isa.specs.Processor.{Ending}
use Rattle.cell_runtime.specs.Operations.{compares}
use Rattle.cell_runtime.specs.World.{World}
use Rattle.rv_lower.specs.Lines.{computes, sets, acts}
use Rattle.rv_lower.proofs.Labels.{found_label}
use Rattle.rv_lower.proofs.FormEffects.{put_same, put_other}
use Rattle.rv_cells.specs.Layout.{word_in, header_of, tag_values}
use Rattle.rv_cells.specs.CellLines.{Loads, walked, spare, equal_lines, jump_lines, either_lines}
use Rattle.rv_cells.specs.CountedLines.{is_plain, answer_word, answer_tag, number_tests, last_lines, ChoiceLines, OddLines, DecideLines, AreTried, TestLines}
use Rattle.rv_cells.proofs.LineCosts.{most_moves, row_cost, edges_cost, edges_apart}
use Rattle.rv_cells.specs.Fitting.{AreAlike, AllAlike, ShowsIts}
use Rattle.rv_cells.proofs.NameContents.{some-is, held_count}
use Rattle.rv_cells.proofs.Words.{load_own, cell_named}
use Rattle.rv_cells.proofs.Runs.{turn_of, Runs, runs_none, runs_then}
use Rattle.rv_cells.proofs.CellActions.{load_runs, andi_runs, jump_runs, falls_one_runs, branch_one_runs}
use Rattle.rv_cells.proofs.Rows.{then_some}
use Rattle.rv_cells.proofs.PositionTests.{walk_runs, test_falls, test_jumps}
use Rattle.rv_cells.proofs.Spots.{Spot, Known, Here}
use Rattle.rv_cells.proofs.TestEdges.{next_some, next_other, next_append, next_without_last, next_keeps, next_none, tried_cost, split_cost, alike_kept, same_kind, word_tells, tag_of_cell_tells}

-- each edge's number tells whether it is the answer
abbrev pub AllTell : (Answer → ℕ) → ℕ → Answer → List Edge → Type 0
AllTell number v found [] = Unit {0}
AllTell number v found (edge ∷ edges) =
    (nat_eq v (number edge.found) ≡ is_answer edge.found found) × AllTell number v found edges

-- what tells all of some edges and more tells all of both
tells_apart : (number : Answer → ℕ) (v : ℕ) (found : Answer) (some more : List Edge) → AllTell number v found (some ++ more)
    → AllTell number v found some × AllTell number v found more
tells_apart number v found [] more tell = (tt, tell)
tells_apart number v found (edge ∷ some) more tell =
    let later = tells_apart number v found some more tell.1 in ((tell.0, later.0), later.1)

module _ (known : Known) (s : Spot) (fs : List (Frame Line)) (here : Here known s) where
  abbrev moves : ℕ
  moves = most_moves

  -- at lines that are left, with these values
  abbrev turn_with : List Line → (ℕ → Option ℕ) → AsmTurn World Ending
  turn_with lines values = turn_of lines (record s.frame { cells = values }) fs s.world

  -- Lines lead to others at no more than this cost, and values below a limit are as before.
  pub record Leads (limit cost : ℕ) (from to : List Line) (values : ℕ → Option ℕ) : Type 0 where
    pub steps : ℕ
    pub later : ℕ → Option ℕ
    pub runs : Runs known.target cost steps (turn_of from (record s.frame { cells = values }) fs s.world)
        (turn_of to (record s.frame { cells = later }) fs s.world)
    pub kept : (z : ℕ) → z < limit → later z ≡ values z

  abbrev leads_none : (limit cost : ℕ) (lines : List Line) (values : ℕ → Option ℕ) → Leads limit cost lines lines values
  leads_none limit cost lines values =
      let none = runs_none known.target (turn_with lines values) in
      record {
        steps = 0;
        later = values;
        runs = record { within = omega (arith, none.within); silent = none.silent; passes = none.passes; arrives = none.arrives };
        kept = λ z less. refl;
      }

  abbrev pub leads_then : (limit cost more : ℕ) (from mid to : List Line) (values : ℕ → Option ℕ)
      → (first : Leads limit cost from mid values) → Leads limit more mid to first.later → Leads limit (cost + more) from to values
  leads_then limit cost more from mid to values first second = record {
    steps = first.steps + second.steps;
    later = second.later;
    runs = runs_then known.target cost more first.steps second.steps (turn_with from values) (turn_with mid first.later)
        (turn_with to second.later) first.runs second.runs;
    kept = λ z less. second.kept z less ∙ first.kept z less;
  }

  -- at a higher cost, and a lower limit
  abbrev pub leads_more : (limit low cost more : ℕ) (from to : List Line) (values : ℕ → Option ℕ) → cost ≤ more → low ≤ limit
      → Leads limit cost from to values → Leads low more from to values
  leads_more limit low cost more from to values cheap le leads = record {
    steps = leads.steps;
    later = leads.later;
    runs = record {
      within = omega (arith, leads.runs.within, cheap);
      silent = leads.runs.silent;
      passes = leads.runs.passes;
      arrives = leads.runs.arrives;
    };
    kept = λ z less. leads.kept z (omega (arith, less, le));
  }

  -- a run that writes one temporary
  abbrev leads_put : (limit cost t word : ℕ) (from to : List Line) (values : ℕ → Option ℕ) → limit ≤ t
      → Runs known.target cost 1 (turn_with from values) (turn_with to (put t (Some word) values)) → Leads limit cost from to values
  leads_put limit cost t word from to values high runs = record {
    steps = 1;
    later = put t (Some word) values;
    runs = runs;
    kept = λ z less. put_other t z word values (λ e. omega (arith, e, less, high));
  }

  abbrev leads_same : (limit cost : ℕ) (from to : List Line) (values : ℕ → Option ℕ)
      → Runs known.target cost 1 (turn_with from values) (turn_with to values) → Leads limit cost from to values
  leads_same limit cost from to values runs = record { steps = 1; later = values; runs = runs; kept = λ z less. refl }

  -- what is found at the next label are the next lines
  abbrev pub Comes : ℕ → List Line → Type 0
  Comes next rest = (there : List Line) → found_label next s.frame.whole ≡ Some there → there ≡ rest

  -- ---- jumps and branches

  pub jump_leads : (limit next label : ℕ) (rest there : List Line) (values : ℕ → Option ℕ)
      → found_label label s.frame.whole ≡ Some there → Comes next rest
      → Leads limit (most_moves + 2) (jump_lines next label ++ rest) there values
  jump_leads limit next label rest there values finds comes = by (nat_eq label next) refl
    where
      by : (b : Bool) → nat_eq label next ≡ b
          → Leads limit (most_moves + 2) ((if b then [] else (acts (Jump label) [] ∷ [])) ++ rest) there values
      by true same =
          let here_is : there ≡ rest = comes there (ap (λ l. found_label l s.frame.whole) (sym (eqb-true label next same)) ∙ finds) in
          subst (λ ls. Leads limit (most_moves + 2) rest ls values) (sym here_is)
          (leads_none limit (most_moves + 2) rest values)
      by false differ =
          leads_same limit (most_moves + 2) (acts (Jump label) [] ∷ rest) there values
          (jump_runs known.target rest (record s.frame { cells = values }) fs s.world label there finds)

  module _ (value t word v : ℕ) (values : ℕ → Option ℕ) (has : values value ≡ Some v) (apart : value < t) where
    compare_falls : (condition : Condition) (label : ℕ) (rest : List Line) → compares condition v word ≡ false
        → Leads t (2 * most_moves + 5) (sets word t ∷ acts (Branch condition label) (value ∷ t ∷ []) ∷ rest) rest values
    compare_falls condition label rest not =
        leads_more t t ((most_moves + 2) + (most_moves + 3)) (2 * most_moves + 5)
        (sets word t ∷ acts (Branch condition label) (value ∷ t ∷ []) ∷ rest) rest values
        (omega arith) (omega arith)
        (record {
          steps = 2;
          later = put t (Some word) values;
          runs = test_falls known.target rest (record s.frame { cells = values }) fs s.world condition value word t label v has apart
              not;
          kept = λ z less. put_other t z word values (λ e. omega (arith, e, less));
        })

    compare_jumps : (condition : Condition) (label : ℕ) (rest there : List Line) → compares condition v word ≡ true
        → found_label label s.frame.whole ≡ Some there
        → Leads t (2 * most_moves + 5) (sets word t ∷ acts (Branch condition label) (value ∷ t ∷ []) ∷ rest) there values
    compare_jumps condition label rest there holds finds =
        leads_more t t ((most_moves + 2) + (most_moves + 3)) (2 * most_moves + 5)
        (sets word t ∷ acts (Branch condition label) (value ∷ t ∷ []) ∷ rest) there values
        (omega arith) (omega arith)
        (record {
          steps = 2;
          later = put t (Some word) values;
          runs = test_jumps known.target rest (record s.frame { cells = values }) fs s.world condition value word t label v has apart
              there holds finds;
          kept = λ z less. put_other t z word values (λ e. omega (arith, e, less));
        })

    either_leads : (next equal other : ℕ) (rest there : List Line)
        → (nat_eq v word ≡ true → found_label equal s.frame.whole ≡ Some there)
        → (nat_eq v word ≡ false → found_label other s.frame.whole ≡ Some there) → Comes next rest
        → Leads t ((2 * most_moves + 5) + (most_moves + 2)) (either_lines next value word t equal other ++ rest) there values
    either_leads next equal other rest there to_equal to_other comes = by (nat_eq equal next) refl (nat_eq v word) refl
      where
        by : (b : Bool) → nat_eq equal next ≡ b → (c : Bool) → nat_eq v word ≡ c
            → Leads t ((2 * most_moves + 5) + (most_moves + 2))
            (sets word t ∷ ((if b then acts (Branch NotEqual other) (value ∷ t ∷ []) ∷ []
            else (acts (Branch Equal equal) (value ∷ t ∷ []) ∷ jump_lines next other)) ++ rest)) there values
        by true same true is =
            let here_is : there ≡ rest = comes there (ap (λ l. found_label l s.frame.whole) (sym (eqb-true equal next same)) ∙ to_equal is) in
            let from = sets word t ∷ acts (Branch NotEqual other) (value ∷ t ∷ []) ∷ rest in
            leads_more t t (2 * most_moves + 5) ((2 * most_moves + 5) + (most_moves + 2)) from there values (omega arith) (omega arith)
            (subst (λ ls. Leads t (2 * most_moves + 5) from ls values) (sym here_is)
            (compare_falls NotEqual other rest (ap not is)))
        by true same false is =
            leads_more t t (2 * most_moves + 5) ((2 * most_moves + 5) + (most_moves + 2)) (sets word t ∷ acts (Branch NotEqual other) (value ∷ t ∷ []) ∷ rest) there values
            (omega arith) (omega arith) (compare_jumps NotEqual other rest there (ap not is) (to_other is))
        by false differ true is =
            let more = jump_lines next other ++ rest in
            leads_more t t (2 * most_moves + 5) ((2 * most_moves + 5) + (most_moves + 2)) (sets word t ∷ acts (Branch Equal equal) (value ∷ t ∷ []) ∷ more) there values
            (omega arith) (omega arith) (compare_jumps Equal equal more there is (to_equal is))
        by false differ false is =
            let more = jump_lines next other ++ rest in
            let first = compare_falls Equal equal more is in
            leads_then t (2 * most_moves + 5) (most_moves + 2) (sets word t ∷ acts (Branch Equal equal) (value ∷ t ∷ []) ∷ more) more
            there values first (jump_leads t next other rest there first.later (to_other is) comes)

  -- ---- tests of numbers

  module _ (number : Answer → ℕ) (to : ℕ → ℕ) (value t v : ℕ) (found : Answer) (apart : value < t) where
    abbrev tests_of : List Edge → List Line
    tests_of edges = number_tests number to value t edges

    -- No edge is taken, and the next lines come; or one is, and its node's label.
    abbrev Tested : List Edge → List Line → (ℕ → Option ℕ) → Type 0
    Tested edges rest values =
        ((next_by edges None found ≡ None) × Leads t (edges_cost edges) (number_tests number to value t edges ++ rest) rest values)
        ⊎ ((k : ℕ) × (next_by edges None found ≡ Some k)
        × ((there : List Line) → found_label (to k) s.frame.whole ≡ Some there
        → Leads t (edges_cost edges) (number_tests number to value t edges ++ rest) there values))

    after_falls : (edge : Edge) (edges : List Edge) (rest : List Line) (values : ℕ → Option ℕ) → is_answer edge.found found ≡ false
        → (first : Leads t (2 * most_moves + 5) (number_tests number to value t (edge ∷ edges) ++ rest)
        (number_tests number to value t edges ++ rest) values)
        → Tested edges rest first.later → Tested (edge ∷ edges) rest values
    after_falls edge edges rest values not first (inl none) =
        inl (
          ap (λ b. if b then Some edge.next else next_by edges None found) not ∙ none.0,
          leads_then t (2 * most_moves + 5) (edges_cost edges) (number_tests number to value t (edge ∷ edges) ++ rest)
              (number_tests number to value t edges ++ rest) rest values first none.1,
        )
    after_falls edge edges rest values not first (inr taken) =
        inr (
          taken.0,
          ap (λ b. if b then Some edge.next else next_by edges None found) not ∙ taken.1,
          λ there finds. leads_then t (2 * most_moves + 5) (edges_cost edges)
              (number_tests number to value t (edge ∷ edges) ++ rest)
              (number_tests number to value t edges ++ rest) there values first (taken.2 there finds),
        )

    tests_run : (edges : List Edge) (rest : List Line) (values : ℕ → Option ℕ) → values value ≡ Some v
        → AllTell number v found edges → Tested edges rest values
    tests_run [] rest values has tell = inl (refl, leads_none t 0 rest values)
    tests_run (edge ∷ edges) rest values has tell =
        by (nat_eq v (number edge.found)) refl (λ later still. tests_run edges rest later still tell.1)
      where
        more : List Line
        more = number_tests number to value t edges ++ rest

        by : (b : Bool) → nat_eq v (number edge.found) ≡ b
            → ((later : ℕ → Option ℕ) → later value ≡ Some v → Tested edges rest later)
            → Tested (edge ∷ edges) rest values
        by true same again =
            inr (
              edge.next,
              ap (λ b. if b then Some edge.next else next_by edges None found) (sym tell.0 ∙ same),
              λ there finds. leads_more t t (2 * most_moves + 5) (edges_cost (edge ∷ edges))
                  (number_tests number to value t (edge ∷ edges) ++ rest) there values (omega arith) (omega arith)
                  (compare_jumps value t (number edge.found) v values has apart Equal (to edge.next) more there same finds),
            )
        by false differ again =
            let first = compare_falls value t (number edge.found) v values has apart Equal (to edge.next) more differ in
            after_falls edge edges rest values (sym tell.0 ∙ differ) first
            (again first.later (first.kept value apart ∙ has))

    -- the last one
    last_leads : (next : ℕ) (last : Option Edge) (other : Option ℕ) (k : ℕ) (rest there : List Line) (values : ℕ → Option ℕ)
        → values value ≡ Some v → AllTell number v found (option_to_list last)
        → next_by (option_to_list last) other found ≡ Some k → found_label (to k) s.frame.whole ≡ Some there → Comes next rest
        → Leads t (edges_cost (option_to_list last) + (most_moves + 2))
        (last_lines number to next value t last other ++ rest) there values
    last_leads next None None k rest there values has tell is finds comes = cc
    last_leads next None (Some other) k rest there values has tell is finds comes =
        let same : other ≡ k = some-is is in
        jump_leads t next (to other) rest there values (ap (λ n. found_label (to n) s.frame.whole) same ∙ finds) comes
    last_leads next (Some edge) None k rest there values has tell is finds comes =
        by (nat_eq v (number edge.found)) refl
      where
        by : (b : Bool) → nat_eq v (number edge.found) ≡ b
            → Leads t (edges_cost (edge ∷ []) + (most_moves + 2)) (equal_lines value (number edge.found) t (to edge.next) ++ rest)
            there values
        by true same =
            let taken : edge.next ≡ k
            = some-is (sym (ap (λ b. if b then Some edge.next else None) (sym tell.0 ∙ same)) ∙ is) in
            leads_more t t (2 * most_moves + 5) (edges_cost (edge ∷ []) + (most_moves + 2))
            (equal_lines value (number edge.found) t (to edge.next) ++ rest) there values (omega arith) (omega arith)
            (compare_jumps value t (number edge.found) v values has apart Equal (to edge.next) rest there same
            (ap (λ n. found_label (to n) s.frame.whole) taken ∙ finds))
        by false differ =
            let none : None ≡ Some k = sym (ap (λ b. if b then Some edge.next else None) (sym tell.0 ∙ differ)) ∙ is in cc
    last_leads next (Some edge) (Some other) k rest there values has tell is finds comes =
        leads_more t t ((2 * most_moves + 5) + (most_moves + 2)) (edges_cost (edge ∷ []) + (most_moves + 2))
        (either_lines next value (number edge.found) t (to edge.next) (to other) ++ rest) there values (omega arith) (omega arith)
        (either_leads value t (number edge.found) v values has apart next (to edge.next) (to other) rest there
        (λ same. ap (λ n. found_label (to n) s.frame.whole)
        (some-is (sym (ap (λ b. if b then Some edge.next else Some other) (sym tell.0 ∙ same)) ∙ is)) ∙ finds)
        (λ differ. ap (λ n. found_label (to n) s.frame.whole)
        (some-is (sym (ap (λ b. if b then Some edge.next else Some other) (sym tell.0 ∙ differ)) ∙ is)) ∙ finds)
        comes)

    -- all of them
    choice_leads : (next : ℕ) (edges : List Edge) (other : Option ℕ) (k : ℕ) (lines rest there : List Line) (values : ℕ → Option ℕ)
        → values value ≡ Some v → AllTell number v found edges → next_by edges other found ≡ Some k
        → found_label (to k) s.frame.whole ≡ Some there → Comes next rest
        → ChoiceLines number to next value t edges other lines
        → Leads t (edges_cost edges + (most_moves + 2)) (lines ++ rest) there values
    choice_leads next edges other k lines rest there values has tell is finds comes are =
        subst (λ ls. Leads t (edges_cost edges + (most_moves + 2)) ls there values)
        (sym (ap (λ ls. ls ++ rest) are.3 ∙ append_assoc (tests_of some) ending rest))
        (subst (λ n. Leads t (n + (most_moves + 2)) (tests_of some ++ (ending ++ rest)) there values)
        (sym (ap edges_cost are.2 ∙ edges_apart some (option_to_list last)))
        (by (tests_run some (ending ++ rest) values has tells.0)))
      where
        some : List Edge
        some = are.0

        last : Option Edge
        last = are.1

        ending : List Line
        ending = last_lines number to next value t are.1 other

        tells : AllTell number v found are.0 × AllTell number v found (option_to_list are.1)
        tells = tells_apart number v found are.0 (option_to_list are.1) (subst (AllTell number v found) are.2 tell)

        taken : next_by are.0 (next_by (option_to_list are.1) other found) found ≡ Some k
        taken = sym (next_append are.0 (option_to_list are.1) other found) ∙ ap (λ es. next_by es other found) (sym are.2) ∙ is

        by : Tested are.0 (last_lines number to next value t are.1 other ++ rest) values
            → Leads t (edges_cost are.0 + edges_cost (option_to_list are.1) + (most_moves + 2))
            (number_tests number to value t are.0 ++ (last_lines number to next value t are.1 other ++ rest)) there values
        by (inl none) =
            let behind = last_leads next are.1 other k rest there none.1.later (none.1.kept value apart ∙ has) tells.1
            (sym (next_other are.0 (next_by (option_to_list are.1) other found) found none.0) ∙ taken) finds comes in
            leads_more t t (edges_cost are.0 + (edges_cost (option_to_list are.1) + (most_moves + 2)))
            (edges_cost are.0 + edges_cost (option_to_list are.1) + (most_moves + 2))
            (number_tests number to value t are.0 ++ (last_lines number to next value t are.1 other ++ rest)) there values
            (omega arith) (omega arith)
            (leads_then t (edges_cost are.0) (edges_cost (option_to_list are.1) + (most_moves + 2))
            (number_tests number to value t are.0 ++ (last_lines number to next value t are.1 other ++ rest))
            (last_lines number to next value t are.1 other ++ rest) there values none.1 behind)
        by (inr (j, is_j, leads)) =
            let same : j ≡ k
            = some-is (sym (next_some are.0 (next_by (option_to_list are.1) other found) found j is_j) ∙ taken) in
            leads_more t t (edges_cost are.0) (edges_cost are.0 + edges_cost (option_to_list are.1) + (most_moves + 2))
            (number_tests number to value t are.0 ++ (last_lines number to next value t are.1 other ++ rest)) there values
            (omega arith) (omega arith) (leads there (ap (λ n. found_label (to n) s.frame.whole) same ∙ finds))

  -- ---- where a value that is no cell goes on otherwise

  -- an address is even: the next lines come
  even_falls : (value t w : ℕ) (to : ℕ → ℕ) (otherwise : Option ℕ) (odd rest : List Line) (values : ℕ → Option ℕ)
      → OddLines value t to otherwise odd → values value ≡ Some w → w % 2 ≡ 0
      → Leads t (2 * most_moves + 5) (odd ++ rest) rest values
  even_falls value t w to None odd rest values lines has even =
      subst (λ ls. Leads t (2 * most_moves + 5) (ls ++ rest) rest values) (sym lines)
      (leads_none t (2 * most_moves + 5) rest values)
  even_falls value t w to (Some next) odd rest values lines has even =
      let f = record s.frame { cells = values } in
      let bit : bit_and w lines.0.word ≡ 0 = ap (bit_and w) lines.1 ∙ and_mask w 1 ∙ even in
      let values2 = put t (Some (bit_and w lines.0.word)) values in
      let branch = acts (Branch NotEqual (to next)) (t ∷ []) ∷ rest in
      subst (λ ls. Leads t (2 * most_moves + 5) (ls ++ rest) rest values) (sym lines.2)
      (leads_more t t ((most_moves + 2) + (most_moves + 3)) (2 * most_moves + 5)
      _ rest values (omega arith) (omega arith)
      (leads_then t (most_moves + 2) (most_moves + 3) _ branch rest values
      (leads_put t (most_moves + 2) t (bit_and w lines.0.word) _ branch values (omega arith)
      (andi_runs known.target branch f fs s.world value t w lines.0 has))
      (leads_same t (most_moves + 3) branch rest values2
      (falls_one_runs known.target rest (record s.frame { cells = values2 }) fs s.world NotEqual (to next) t
      (bit_and w lines.0.word) (put_same t (bit_and w lines.0.word) values) (ap (λ b. not (nat_eq b 0)) bit)))))

  -- the word of a constructor without fields is odd: the label comes
  odd_jumps : (value t w : ℕ) (to : ℕ → ℕ) (otherwise : Option ℕ) (k : ℕ) (odd rest there : List Line) (values : ℕ → Option ℕ)
      → OddLines value t to otherwise odd → otherwise ≡ Some k → found_label (to k) s.frame.whole ≡ Some there
      → values value ≡ Some w → w % 2 ≡ 1
      → Leads t (2 * most_moves + 5) (odd ++ rest) there values
  odd_jumps value t w to None k odd rest there values lines is finds has odd_word = cc
  odd_jumps value t w to (Some next) k odd rest there values lines is finds has odd_word =
      let f = record s.frame { cells = values } in
      let same : next ≡ k = some-is is in
      let bit : bit_and w lines.0.word ≡ 1 = ap (bit_and w) lines.1 ∙ and_mask w 1 ∙ odd_word in
      let values2 = put t (Some (bit_and w lines.0.word)) values in
      let branch = acts (Branch NotEqual (to next)) (t ∷ []) ∷ rest in
      subst (λ ls. Leads t (2 * most_moves + 5) (ls ++ rest) there values) (sym lines.2)
      (leads_more t t ((most_moves + 2) + (most_moves + 3)) (2 * most_moves + 5)
      _ there values (omega arith) (omega arith)
      (leads_then t (most_moves + 2) (most_moves + 3) _ branch there values
      (leads_put t (most_moves + 2) t (bit_and w lines.0.word) _ branch values (omega arith)
      (andi_runs known.target branch f fs s.world value t w lines.0 has))
      (leads_same t (most_moves + 3) branch there values2
      (branch_one_runs known.target rest (record s.frame { cells = values2 }) fs s.world NotEqual (to next) t
      (bit_and w lines.0.word) there (put_same t (bit_and w lines.0.word) values) (ap (λ b. not (nat_eq b 0)) bit)
      (ap (λ n. found_label (to n) s.frame.whole) same ∙ finds)))))

  -- ---- the cell of a value

  record Shown (name : ℕ) (found : Answer) : Type 0 where
    made_by : ℕ
    is : found ≡ Constructor made_by
    words : ℕ → Option ℕ
    block : s.world.cells.blocks (s.address name) ≡ own words
    header : words 1 ≡ Some (header_of known.layout made_by)
    even : s.address name % 2 ≡ 0

  answered : (o : Option Cell) (found : Answer) → option_map (λ (cell : Cell). Constructor cell.made_by) o ≡ Some found
      → (cell : Cell) × (o ≡ Some cell) × (found ≡ Constructor cell.made_by)
  answered None found is = cc
  answered (Some cell) found is = (cell, refl, sym (answer_is is))
    where
      answer_is : Some (Constructor cell.made_by) ≡ Some found → Constructor cell.made_by ≡ found
      answer_is e = cc

  counted_some : (n : ℕ) (cell other : Cell) → if_counted n cell ≡ Some other → (1 ≤ n) × (cell ≡ other)
  counted_some zero cell other is = cc
  counted_some (suc n) cell other is = (omega arith, some-is is)

  shown : (name : ℕ) (found : Answer) → answer_of (cell_at s.heap) (place name) ≡ Some found → Shown name found
  shown name found is =
      let answer = answered (cell_at s.heap name) found is in
      let held = then_some (held_at s.heap name) (λ held. if_counted held.count held.cell) answer.0 answer.1 in
      let some = counted_some held.0.count held.0.cell answer.0 held.2 in
      let count = held_count s.heap name held.0 held.1 in
      let stands = cell_named here.follows name (let positive = some.0 in omega arith) in
      let same : stands.held ≡ held.0 = some-is (sym stands.there ∙ held.1) in
      let made : stands.held.cell.made_by ≡ answer.0.made_by
      = ap (λ (h : Held). h.cell.made_by) same ∙ ap (λ (c : Cell). c.made_by) some.1 in
      let aligned = stands.cell.aligned in
      record {
        made_by = answer.0.made_by;
        is = answer.2;
        words = stands.words;
        block = stands.is;
        header = stands.shows.header ∙ ap (λ c. Some (header_of known.layout c)) made;
        even = omega (arith, aligned);
      }

  -- ---- what edges tell

  plain_tell : (w : Value) (found : Answer) (edges : List Edge) → answer_of (cell_at s.heap) w ≡ Some found
      → ShowsIts known.layout w found → ((name : ℕ) → w ≡ place name → s.address name % 2 ≡ 0) → AllAlike known.layout found edges
      → AllTell (answer_word known.layout) (word_in known.layout s.address w) found
      (filter (λ edge. is_plain known.layout edge.found) edges)
  plain_tell w found [] answer shows even all = tt
  plain_tell w found (edge ∷ edges) answer shows even all =
      by (is_plain known.layout edge.found) refl (plain_tell w found edges answer shows even all.1)
    where
      by : (b : Bool) → is_plain known.layout edge.found ≡ b
          → AllTell (answer_word known.layout) (word_in known.layout s.address w) found
          (filter (λ edge. is_plain known.layout edge.found) edges)
          → AllTell (answer_word known.layout) (word_in known.layout s.address w) found
          (cond b (edge ∷ filter (λ edge. is_plain known.layout edge.found) edges)
          (filter (λ edge. is_plain known.layout edge.found) edges))
      by true plain later =
          (word_tells known.layout (cell_at s.heap) s.address w found edge.found answer shows all.0 plain even, later)
      by false plain later = later

  tags_tell : (c : ℕ) (edges : List Edge) → AllAlike known.layout (Constructor c) edges
      → AllTell (answer_tag known.layout) (known.layout.tag c) (Constructor c) edges
  tags_tell c [] all = tt
  tags_tell c (edge ∷ edges) all = (tag_of_cell_tells known.layout c edge.found all.0, tags_tell c edges all.1)

  no_tagged : (n : ℤ) (edges : List Edge) → AllAlike known.layout (Number n) edges
      → filter (λ edge. not (is_plain known.layout edge.found)) edges ≡ []
  no_tagged n [] all = refl
  no_tagged n (edge ∷ edges) all = by edge.found refl all.0 (no_tagged n edges all.1)
    where
      by : (e : Answer) → edge.found ≡ e → AreAlike known.layout e (Number n)
          → filter (λ edge. not (is_plain known.layout edge.found)) edges ≡ []
          → filter (λ edge. not (is_plain known.layout edge.found)) (edge ∷ edges) ≡ []
      by (Number m) is like later =
          ap (λ e. cond (not (is_plain known.layout e))
          (edge ∷ filter (λ edge. not (is_plain known.layout edge.found)) edges)
          (filter (λ edge. not (is_plain known.layout edge.found)) edges)) is ∙ later
      by (Constructor c) is like later = absurd like

  -- ---- a node that tests

  -- where a value goes on that is no cell, and of which no word test holds
  abbrev otherwise_of : List Edge → Option ℕ → Option ℕ → Option ℕ
  otherwise_of [] otherwise other = other
  otherwise_of (edge ∷ edges) otherwise other = otherwise

  -- The word tells of each edge that is tested by it whether it is the answer, and so do the tags of cells. By these edges it goes
  -- on to a node.
  record Tells (w : Value) (found : Answer) (plain tagged : List Edge) (otherwise other : Option ℕ) (k : ℕ) : Type 0 where
    words : AllTell (answer_word known.layout) (word_in known.layout s.address w) found plain
    tags : (c : ℕ) → found ≡ Constructor c → AllTell (answer_tag known.layout) (known.layout.tag c) found tagged
    by_word : is_plain known.layout found ≡ true → next_by plain (otherwise_of tagged otherwise other) found ≡ Some k
    by_tag : is_plain known.layout found ≡ false → (next_by plain None found ≡ None) × (next_by tagged other found ≡ Some k)
    number : (n : ℤ) → found ≡ Number n → tagged ≡ []

  tried_tells : (w : Value) (found : Answer) (words tags plain tagged : List Edge) (otherwise other : Option ℕ) (k : ℕ)
      → Tells w found words tags otherwise otherwise k → AreTried words tags otherwise plain tagged other
      → Tells w found plain tagged otherwise other k
  tried_tells w found words tags plain tagged (Some next) other k all are =
      subst (λ es. Tells w found es tagged (Some next) other k) (sym are.0)
      (subst (λ es. Tells w found words es (Some next) other k) (sym are.1)
      (subst (λ o. Tells w found words tags (Some next) o k) (sym are.2) all))
  tried_tells w found words [] plain tagged None other k all are =
      subst (λ es. Tells w found plain es None other k) (sym are.0) (record {
        words = (tells_apart (answer_word known.layout) (word_in known.layout s.address w) found plain (option_to_list are.1.0)
            (subst (AllTell (answer_word known.layout) (word_in known.layout s.address w) found) are.1.1 all.words)).0;
        tags = λ c is. tt;
        by_word = λ p. next_without_last words plain other found k are.1 (all.by_word p);
        by_tag = λ p. let both = all.by_tag p in let none : None ≡ Some k = both.1 in cc;
        number = λ n is. refl;
      })
  tried_tells w found words (edge ∷ edges) plain tagged None other k all are =
      subst (λ es. Tells w found es tagged None other k) (sym are.0) (record {
        words = all.words;
        tags = λ c is. (tells_apart (answer_tag known.layout) (known.layout.tag c) found tagged (option_to_list are.1.0)
            (subst (AllTell (answer_tag known.layout) (known.layout.tag c) found) are.1.1 (all.tags c is))).0;
        by_word = λ p. go tagged (all.by_word p);
        by_tag = λ p. let both = all.by_tag p in (both.0, next_without_last (edge ∷ edges) tagged other found k are.1 both.1);
        number = λ n is. let none = all.number n is in cc;
      })
    where
      go : (some : List Edge) → next_by words None found ≡ Some k → next_by words (otherwise_of some None other) found ≡ Some k
      go [] is = next_some words other found k is
      go (one ∷ some) is = is

  module _ (to : ℕ → ℕ) (next k : ℕ) (rest there : List Line) (finds : found_label (to k) s.frame.whole ≡ Some there)
      (comes : Comes next rest) (value t : ℕ) (apart : value < t) (w : Value) (found : Answer)
      (answer : answer_of (cell_at s.heap) w ≡ Some found) (shows : ShowsIts known.layout w found) where
    abbrev tags_cost : List Edge → ℕ
    tags_cost some = 5 * most_moves + 11 + edges_cost some

    -- a cell is told by its tag
    cell_leads : (name c : ℕ) (tagged : List Edge) (otherwise other : Option ℕ) (odd choice : List Line) (header : Line)
        (byte : Immediate) (values : ℕ → Option ℕ) → Shown name (Constructor c)
        → AllTell (answer_tag known.layout) (known.layout.tag c) found tagged → next_by tagged other found ≡ Some k
        → OddLines value t to otherwise odd → Loads value 1 t header → byte.word ≡ tag_values - 1
        → ChoiceLines (answer_tag known.layout) to next t (t + 1) tagged other choice
        → values value ≡ Some (s.address name)
        → Leads t (5 * most_moves + 11 + edges_cost tagged)
        (odd ++ (header ∷ computes (Op.Immediate Andi byte) (t ∷ []) t ∷ (choice ++ rest))) there values
    cell_leads name c tagged otherwise other odd choice header byte values shows tell by_tag odds loads bytes chooses has =
        let m = most_moves in
        let andi = computes (Op.Immediate Andi byte) (t ∷ []) t in
        let r3 = choice ++ rest in
        let r2 = andi ∷ r3 in
        let r1 = header ∷ r2 in
        let same_maker : shows.made_by ≡ c = maker shows.is in
        let word1 = header_of known.layout c in
        let first = even_falls value t (s.address name) to otherwise odd r1 values odds has shows.even in
        let v1 = first.later in
        let has1 : v1 value ≡ Some (s.address name) = first.kept value apart ∙ has in
        let v2 = put t (Some word1) v1 in
        let word = bit_and word1 byte.word in
        let v3 = put t (Some word) v2 in
        let low = known.narrow.tags c in
        let word_is : word ≡ known.layout.tag c = ap (bit_and word1) bytes ∙ and_mask word1 8 ∙ omega (arith, low) in
        let second = leads_put t (m + 2) t word1 r1 r2 v1 (omega arith)
        (load_runs known.target r2 (record s.frame { cells = v1 }) fs s.world value 1 t (s.address name) word1 header loads has1
        (load_own s.world.cells (s.address name) 1 word1 shows.words shows.block (omega arith)
        (shows.header ∙ ap (λ d. Some (header_of known.layout d)) same_maker))) in
        let third = leads_put t (m + 2) t word r2 r3 v2 (omega arith)
        (andi_runs known.target r3 (record s.frame { cells = v2 }) fs s.world t t word1 byte (put_same t word1 v1)) in
        let fourth = leads_more (t + 1) t (edges_cost tagged + (m + 2)) (edges_cost tagged + (m + 2)) r3 there v3 (omega arith)
        (omega arith)
        (choice_leads (answer_tag known.layout) to t (t + 1) (known.layout.tag c) found (omega arith) next tagged other k choice rest
        there v3 (put_same t word v2 ∙ ap (λ n. Some n) word_is) tell by_tag finds comes chooses) in
        let cost = edges_cost tagged + (m + 2) in
        leads_more t t ((2 * m + 5) + ((m + 2) + ((m + 2) + cost))) (5 * m + 11 + edges_cost tagged) (odd ++ r1) there values
        (omega arith) (omega arith)
        (leads_then t (2 * m + 5) ((m + 2) + ((m + 2) + cost)) (odd ++ r1) r1 there values first
        (leads_then t (m + 2) ((m + 2) + cost) r1 r2 there v1 second
        (leads_then t (m + 2) cost r2 r3 there v2 third fourth)))
      where
        maker : Constructor c ≡ Constructor shows.made_by → shows.made_by ≡ c
        maker is = cc

    -- the tests behind those of words, where none of those held
    tags_lead : (plain : List Edge) (edge : Edge) (edges : List Edge) (otherwise other : Option ℕ) (odd choice : List Line)
        (header : Line) (byte : Immediate) (values : ℕ → Option ℕ) (v : Value) → v ≡ w
        → Tells w found plain (edge ∷ edges) otherwise other k → next_by plain None found ≡ None
        → OddLines value t to otherwise odd → Loads value 1 t header → byte.word ≡ tag_values - 1
        → ChoiceLines (answer_tag known.layout) to next t (t + 1) (edge ∷ edges) other choice
        → values value ≡ Some (word_in known.layout s.address v)
        → Leads t (5 * most_moves + 11 + edges_cost (edge ∷ edges))
        (odd ++ (header ∷ computes (Op.Immediate Andi byte) (t ∷ []) t ∷ (choice ++ rest))) there values
    tags_lead plain edge edges otherwise other odd choice header byte values (integer n) same tells none odds loads bytes chooses
        has =
        let is : Some (Number n) ≡ Some found = ap (answer_of (cell_at s.heap)) same ∙ answer in
        let empty : edge ∷ edges ≡ [] = tells.number n (sym (some-is is)) in cc
    tags_lead plain edge edges otherwise other odd choice header byte values unit same tells none odds loads bytes chooses has =
        let is : None ≡ Some found = ap (answer_of (cell_at s.heap)) same ∙ answer in cc
    tags_lead plain edge edges otherwise other odd choice header byte values (constant d) same tells none odds loads bytes chooses
        has =
        let shown_plain : is_plain known.layout found ≡ true = subst (λ u. ShowsIts known.layout u found) (sym same) shows in
        let leads : otherwise ≡ Some k = sym (next_other plain otherwise found none) ∙ tells.by_word shown_plain in
        let behind = header ∷ computes (Op.Immediate Andi byte) (t ∷ []) t ∷ (choice ++ rest) in
        leads_more t t (2 * most_moves + 5) (5 * most_moves + 11 + edges_cost (edge ∷ edges)) (odd ++ behind) there values
        (omega arith) (omega arith)
        (odd_jumps value t (2 * known.layout.tag d + 1) to otherwise k odd behind there values odds leads finds has (omega arith))
    tags_lead plain edge edges otherwise other odd choice header byte values (place name) same tells none odds loads bytes chooses
        has =
        let is : answer_of (cell_at s.heap) (place name) ≡ Some found = ap (answer_of (cell_at s.heap)) same ∙ answer in
        let hidden : is_plain known.layout found ≡ false = subst (λ u. ShowsIts known.layout u found) (sym same) shows in
        let it = shown name found is in
        cell_leads name it.made_by (edge ∷ edges) otherwise other odd choice header byte values
        (record { made_by = it.made_by; is = refl; words = it.words; block = it.block; header = it.header; even = it.even })
        (tells.tags it.made_by it.is) (tells.by_tag hidden).1 odds loads bytes chooses has

    decided_leads : (plain tagged : List Edge) (otherwise other : Option ℕ) (lines : List Line) (values : ℕ → Option ℕ)
        → Tells w found plain tagged otherwise other k
        → DecideLines known.layout to next value t plain tagged otherwise other lines
        → values value ≡ Some (word_in known.layout s.address w)
        → Leads t (edges_cost plain + (5 * most_moves + 11 + edges_cost tagged)) (lines ++ rest) there values
    decided_leads plain [] otherwise other lines values tells are has =
        leads_more t t (edges_cost plain + (most_moves + 2)) (edges_cost plain + (5 * most_moves + 11 + 0)) (lines ++ rest) there
        values (omega arith) (omega arith)
        (choice_leads (answer_word known.layout) to value t (word_in known.layout s.address w) found apart next plain other k lines rest
        there values has tells.words (goes (is_plain known.layout found) refl) finds comes are)
      where
        goes : (b : Bool) → is_plain known.layout found ≡ b → next_by plain other found ≡ Some k
        goes true is = tells.by_word is
        goes false is = let both = tells.by_tag is in next_other plain other found both.0 ∙ both.1
    decided_leads plain (edge ∷ edges) otherwise other lines values tells are has =
        subst (λ ls. Leads t (edges_cost plain + (5 * most_moves + 11 + edges_cost (edge ∷ edges))) ls there values) (sym flat)
        (by (tests_run (answer_word known.layout) to value t (word_in known.layout s.address w) found apart plain mid values has
        tells.words))
      where
        andi : Line
        andi = computes (Op.Immediate Andi are.2) (t ∷ []) t

        numbers : List Line
        numbers = number_tests (answer_word known.layout) to value t plain

        mid : List Line
        mid = are.0 ++ (are.1 ∷ andi ∷ (are.3 ++ rest))

        flat : lines ++ rest ≡ numbers ++ mid
        flat = ap (λ ls. ls ++ rest) are.8 ∙ append_assoc numbers (are.0 ++ (are.1 ∷ andi ∷ are.3)) rest
            ∙ ap (λ ls. numbers ++ ls) (append_assoc are.0 (are.1 ∷ andi ∷ are.3) rest)

        by : Tested (answer_word known.layout) to value t (word_in known.layout s.address w) found apart plain mid values
            → Leads t (edges_cost plain + (5 * most_moves + 11 + edges_cost (edge ∷ edges))) (numbers ++ mid) there values
        by (inl none) =
            leads_then t (edges_cost plain) (5 * most_moves + 11 + edges_cost (edge ∷ edges)) (numbers ++ mid) mid there values none.1
            (tags_lead plain edge edges otherwise other are.0 are.3 are.1 are.2 none.1.later w refl tells none.0 are.4 are.5 are.6 are.7
            (none.1.kept value apart ∙ has))
        by (inr taken) = to_label (is_plain known.layout found) refl
          where
            to_label : (b : Bool) → is_plain known.layout found ≡ b → Leads t (edges_cost plain + (5 * most_moves + 11 + edges_cost (edge ∷ edges))) (numbers ++ mid) there values
            to_label true is =
                let same : taken.0 ≡ k
                = some-is (sym (next_some plain otherwise found taken.0 taken.1) ∙ tells.by_word is) in
                leads_more t t (edges_cost plain) (edges_cost plain + (5 * most_moves + 11 + edges_cost (edge ∷ edges))) (numbers ++ mid) there values (omega arith) (omega arith)
                (taken.2 there (ap (λ n. found_label (to n) s.frame.whole) same ∙ finds))
            to_label false is = let none : None ≡ Some taken.0 = sym (tells.by_tag is).0 ∙ taken.1 in cc

  -- what the edges of a test tell of a value
  all_tell : (w : Value) (found : Answer) (edges : List Edge) (otherwise : Option ℕ) (k : ℕ)
      → answer_of (cell_at s.heap) w ≡ Some found → ShowsIts known.layout w found → AllAlike known.layout found edges
      → next_by edges otherwise found ≡ Some k
      → Tells w found (filter (λ edge. is_plain known.layout edge.found) edges)
      (filter (λ edge. not (is_plain known.layout edge.found)) edges) otherwise otherwise k
  all_tell w found edges otherwise k answer shows all next = record {
    words = plain_tell w found edges answer shows even_place all;
    tags = λ c is. subst (λ a. AllTell (answer_tag known.layout) (known.layout.tag c) a tagged) (sym is)
        (tags_tell c tagged (subst (λ a. AllAlike known.layout a tagged) is
        (alike_kept known.layout (λ edge. not (is_plain known.layout edge.found)) found edges all)));
    by_word = λ is. ap (λ o. next_by plain o found) (whichever tagged)
        ∙ sym (next_keeps (λ edge. is_plain known.layout edge.found) edges otherwise found
        (λ edge e. same_kind known.layout edge.found found e ∙ is)) ∙ next;
    by_tag = λ is. (
      next_none (λ edge. is_plain known.layout edge.found) edges found
          (λ edge e. same_kind known.layout edge.found found e ∙ is),
      sym (next_keeps (λ edge. not (is_plain known.layout edge.found)) edges otherwise found
          (λ edge e. ap not (same_kind known.layout edge.found found e ∙ is))) ∙ next,
    );
    number = λ n is. no_tagged n edges (subst (λ a. AllAlike known.layout a edges) is all);
  }
    where
      tagged : List Edge
      tagged = filter (λ edge. not (is_plain known.layout edge.found)) edges

      plain : List Edge
      plain = filter (λ edge. is_plain known.layout edge.found) edges

      whichever : (some : List Edge) → otherwise_of some otherwise otherwise ≡ otherwise
      whichever [] = refl
      whichever (edge ∷ some) = refl

      even_place : (name : ℕ) → w ≡ place name → s.address name % 2 ≡ 0
      even_place name is = (shown name found (ap (answer_of (cell_at s.heap)) (sym is) ∙ answer)).even

  walked_below : (base x : ℕ) (at : List ℕ) → x < base → walked base x at < spare base at
  walked_below base x [] low = low
  walked_below base x (field ∷ way) low = omega arith

  spare_above : (base : ℕ) (at : List ℕ) → base ≤ spare base at
  spare_above base [] = omega arith
  spare_above base (field ∷ way) = omega arith

  -- the lines of a test, behind its label
  pub test_leads : (base x next k : ℕ) (to : ℕ → ℕ) (at : List ℕ) (edges : List Edge) (otherwise : Option ℕ) (found : Answer)
      (v w : Value) (lines rest there : List Line) (values : ℕ → Option ℕ) → x < base
      → TestLines known.layout base to next x at edges otherwise lines
      → values x ≡ Some (word_in known.layout s.address v) → value_at (cell_at s.heap) at v ≡ Some w
      → answer_of (cell_at s.heap) w ≡ Some found → ShowsIts known.layout w found → next_by edges otherwise found ≡ Some k
      → AllAlike known.layout found edges → found_label (to k) s.frame.whole ≡ Some there → Comes next rest
      → Leads base (6 * most_moves + 14 + row_cost at (most_moves + 2) + edges_cost edges) (lines ++ rest) there values
  test_leads base x next k to at edges otherwise found v w lines rest there values low node has walks answer shows leads all finds
      comes =
      let m = most_moves in
      let words = filter (λ edge. is_plain known.layout edge.found) edges in
      let tags = filter (λ edge. not (is_plain known.layout edge.found)) edges in
      let t = spare base at in
      let r1 = node.1 ++ rest in
      let walk = walk_runs known s.address s.owners s.heap fs s.world here.follows r1 x base at v w node.0
      (record s.frame { cells = values }) node.5 has walks in
      let first : Leads base (row_cost at (m + 2)) (node.0 ++ r1) r1 values = record {
        steps = length at;
        later = walk.0;
        runs = walk.1;
        kept = λ z less. walk.3 z (λ e. omega (arith, e, less));
      } in
      let tells = tried_tells w found words tags node.2 node.3 otherwise node.4 k (all_tell w found edges otherwise k answer shows all
      leads) node.6 in
      let cost = edges_cost node.2 + (5 * m + 11 + edges_cost node.3) in
      let second = leads_more t base cost cost r1 there walk.0 (omega arith) (spare_above base at)
      (decided_leads to next k rest there finds comes (walked base x at) t (walked_below base x at low) w found answer shows node.2
      node.3 otherwise node.4 node.1 walk.0 tells node.7 walk.2) in
      let tried = tried_cost words tags otherwise node.2 node.3 node.4 node.6 in
      let split = split_cost (λ edge. is_plain known.layout edge.found) edges in
      subst (λ ls. Leads base (6 * m + 14 + row_cost at (m + 2) + edges_cost edges) ls there values)
      (sym (ap (λ ls. ls ++ rest) node.8 ∙ append_assoc node.0 node.1 rest))
      (leads_more base base (row_cost at (m + 2) + cost) (6 * m + 14 + row_cost at (m + 2) + edges_cost edges)
      (node.0 ++ r1) there values (omega (arith, tried, split)) (omega arith)
      (leads_then base (row_cost at (m + 2)) cost (node.0 ++ r1) r1 there values first second))
