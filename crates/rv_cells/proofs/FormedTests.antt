-- The lines of the nodes of decisions: before well-formed code in which the labels that they name stand, they are well formed.
use Rattle.std.proofs.Common.{◌≡◌, ℕ, zero, suc, ◌+◌, ◌≤◌, inl, inr, Bool, true, false, not, List, []}
use Rattle.std.proofs.Common.{◌∷◌, ◌++◌, nat_eq, Option, None, Some, option_map, option_to_list, refl, sym, ap, subst, ◌∙◌, arith, append_assoc}
use Rattle.std.specs.Prelude.{filter, if◌then◌else◌}
use Rattle.kk_syntax.specs.Shapes.{is_among as is_bound}
use Rattle.kk_core.specs.declared.decisions.Answer.{Answer}
use Rattle.kk_core.specs.declared.decisions.Edge.{Edge}
use Rattle.rv_isa.specs.declared.asm.Action.TheVariants.{Jump, Branch}
use Rattle.rv_isa.specs.declared.asm.Condition.{Condition}
use Rattle.rv_isa.specs.declared.asm.Condition.TheVariants.{Equal, NotEqual}
use Rattle.rv_isa.specs.declared.asm.Operation.TheVariants as Op
use Rattle.rv_isa.specs.declared.asm.ImmediateOperation.TheVariants.{Andi}
use Rattle.rv_isa.specs.AsmCode.{Line}
use Rattle.rv_isa.specs.AsmMachine.{is_label}
use Rattle.rv_lower.specs.Lines.{computes, sets, acts}
use Rattle.rv_lower.proofs.WellFormedness.{Readable, Good, HasRoom, weaker, most_temporaries}
use Rattle.rv_lower.proofs.WellFormedness.{good_computes, readable_small, readable_more, to_temporary}
use Rattle.rv_lower.proofs.AbsentLabels.{HasNo, has_no_append}
use Rattle.rv_lower.proofs.Codes.{good_alone, StandsAhead, stands_past, good_branch}
use Rattle.rv_cells.specs.Layout.{Layout, first_field}
use Rattle.rv_cells.specs.CellLines.{Loads, Walks, walked, spare, jump_lines}
use Rattle.rv_cells.specs.CountedLines.{is_plain, answer_word, answer_tag, Ways, number_tests, last_lines, ChoiceLines}
use Rattle.rv_cells.specs.CountedLines.{OddLines, DecideLines, AreTried, TestLines, first_lines}

-- ---- no label stands in these lines

jump_none : (next label l : ℕ) → HasNo l (jump_lines next label)
jump_none next label l = by (nat_eq label next)
  where
    by : (b : Bool) → HasNo l (if b then [] else (acts (Jump label) [] ∷ []))
    by true = tt
    by false = (refl, tt)

last_none : (number : Answer → ℕ) (to : ℕ → ℕ) (next value t : ℕ) (last : Option Edge) (other : Option ℕ) (l : ℕ)
    → HasNo l (last_lines number to next value t last other)
last_none number to next value t None None l = tt
last_none number to next value t None (Some other) l = jump_none next (to other) l
last_none number to next value t (Some edge) None l = (refl, (refl, tt))
last_none number to next value t (Some edge) (Some other) l = (refl, by (nat_eq (to edge.next) next))
  where
    by : (b : Bool) → HasNo l (if b then acts (Branch NotEqual (to other)) (value ∷ t ∷ []) ∷ []
        else (acts (Branch Equal (to edge.next)) (value ∷ t ∷ []) ∷ jump_lines next (to other)))
    by true = (refl, tt)
    by false = (refl, jump_none next (to other) l)

tests_none : (number : Answer → ℕ) (to : ℕ → ℕ) (value t : ℕ) (edges : List Edge) (l : ℕ)
    → HasNo l (number_tests number to value t edges)
tests_none number to value t [] l = tt
tests_none number to value t (edge ∷ edges) l = (refl, (refl, tests_none number to value t edges l))

choice_none : (number : Answer → ℕ) (to : ℕ → ℕ) (next value t : ℕ) (edges : List Edge) (other : Option ℕ) (lines : List Line)
    (l : ℕ) → ChoiceLines number to next value t edges other lines → HasNo l lines
choice_none number to next value t edges other lines l are =
    subst (HasNo l) (sym are.3) (has_no_append l (number_tests number to value t are.0) _ (tests_none number to value t are.0 l)
    (last_none number to next value t are.1 other l))

load_none : (cell i into : ℕ) (line : Line) (l : ℕ) → Loads cell i into line → is_label l line.action ≡ false
load_none cell i into line l loads = subst (λ (line : Line). is_label l line.action ≡ false) (sym loads.2) refl

walks_none : (t value : ℕ) (at : List ℕ) (lines : List Line) (l : ℕ) → Walks t value at lines → HasNo l lines
walks_none t value [] lines l is = subst (HasNo l) (sym is) tt
walks_none t value (field ∷ way) lines l is =
    subst (HasNo l) (sym is.4) (load_none value (first_field + field) t is.0 l is.2, walks_none t t way is.1 l is.3)

odd_none : (value t : ℕ) (to : ℕ → ℕ) (otherwise : Option ℕ) (odd : List Line) (l : ℕ) → OddLines value t to otherwise odd
    → HasNo l odd
odd_none value t to None odd l is = subst (HasNo l) (sym is) tt
odd_none value t to (Some next) odd l is = subst (HasNo l) (sym is.2) (refl, (refl, tt))

decide_none : (layout : Layout) (to : ℕ → ℕ) (next value t : ℕ) (plain tagged : List Edge) (otherwise other : Option ℕ)
    (lines : List Line) (l : ℕ) → DecideLines layout to next value t plain tagged otherwise other lines → HasNo l lines
decide_none layout to next value t plain [] otherwise other lines l is =
    choice_none (answer_word layout) to next value t plain other lines l is
decide_none layout to next value t plain (edge ∷ edges) otherwise other lines l is =
    subst (HasNo l) (sym is.8) (has_no_append l (number_tests (answer_word layout) to value t plain) _
    (tests_none (answer_word layout) to value t plain l)
    (has_no_append l is.0 _ (odd_none value t to otherwise is.0 l is.4) (
      load_none value 1 t is.1 l is.5,
      (refl, choice_none (answer_tag layout) to next t (t + 1) (edge ∷ edges) other is.3 l is.7),
    )))

pub test_none : (layout : Layout) (base : ℕ) (to : ℕ → ℕ) (next x : ℕ) (at : List ℕ) (edges : List Edge) (otherwise : Option ℕ)
    (lines : List Line) (l : ℕ) → TestLines layout base to next x at edges otherwise lines → HasNo l lines
test_none layout base to next x at edges otherwise lines l is =
    subst (HasNo l) (sym is.8) (has_no_append l is.0 is.1 (walks_none base x at is.0 l is.5)
    (decide_none layout to next (walked base x at) (spare base at) is.2 is.3 otherwise is.4 is.1 l is.7))

-- the first node goes to its arm without a label
pub first_none : (ways : Ways) (k l : ℕ) → HasNo l (first_lines ways k)
first_none ways zero l = jump_none (ways.behind 0) (ways.to 0) l
first_none ways (suc k) l = tt

module _ (base : ℕ) (bound : List ℕ) (has : HasRoom base bound) where
  abbrev With : ℕ → ℕ → Type 0
  With limit = Readable base limit bound

  -- a jump, unless it goes to the next line
  pub jump_good : (t next label : ℕ) (rest : List Line) → base ≤ t → StandsAhead (With base) label rest → Good (With t) rest
      → Good (With t) (jump_lines next label ++ rest)
  jump_good t next label rest le ahead good = by (nat_eq label next)
    where
      by : (b : Bool) → Good (With t) ((if b then [] else (acts (Jump label) [] ∷ [])) ++ rest)
      by true = good
      by false = good_alone (With t) (Jump label) rest ahead.0 tt (λ v is. readable_more base base t bound le v (ahead.1 v is))
          good.formed

  module _ (to : ℕ → ℕ) where
    -- each edge's label stands ahead
    abbrev pub EdgesAhead : List Edge → List Line → Type 0
    EdgesAhead [] code = Unit {0}
    EdgesAhead (edge ∷ edges) code = StandsAhead (With base) (to edge.next) code × EdgesAhead edges code

    edges_filter : (p : Edge → Bool) (edges : List Edge) (code : List Line) → EdgesAhead edges code
        → EdgesAhead (filter p edges) code
    edges_filter p [] code ahead = tt
    edges_filter p (edge ∷ edges) code ahead = by (p edge) (edges_filter p edges code ahead.1)
      where
        by : (t : Bool) → EdgesAhead (filter p edges) code → EdgesAhead (if t then edge ∷ filter p edges else filter p edges) code
        by true more = (ahead.0, more)
        by false more = more

    edges_past : (edges : List Edge) (lines more : List Line) → ((l : ℕ) → HasNo l lines) → EdgesAhead edges more
        → EdgesAhead edges (lines ++ more)
    edges_past [] lines more none ahead = tt
    edges_past (edge ∷ edges) lines more none ahead = (
      stands_past (With base) (to edge.next) lines more (none (to edge.next)) ahead.0,
      edges_past edges lines more none ahead.1,
    )

    edges_apart : (some more : List Edge) (code : List Line) → EdgesAhead (some ++ more) code
        → EdgesAhead some code × EdgesAhead more code
    edges_apart [] more code ahead = (tt, ahead)
    edges_apart (edge ∷ some) more code ahead =
        let later = edges_apart some more code ahead.1 in ((ahead.0, later.0), later.1)

    abbrev pub OtherAhead : Option ℕ → List Line → Type 0
    OtherAhead None code = Unit {0}
    OtherAhead (Some next) code = StandsAhead (With base) (to next) code

    other_past : (otherwise : Option ℕ) (lines more : List Line) → ((l : ℕ) → HasNo l lines) → OtherAhead otherwise more
        → OtherAhead otherwise (lines ++ more)
    other_past None lines more none ahead = tt
    other_past (Some next) lines more none ahead = stands_past (With base) (to next) lines more (none (to next)) ahead

    left_ahead : (last : Option Edge) (other : Option ℕ) (code : List Line) → other ≡ option_map (λ (edge : Edge). edge.next) last
        → EdgesAhead (option_to_list last) code → OtherAhead other code
    left_ahead None other code is ahead = subst (λ o. OtherAhead o code) (sym is) tt
    left_ahead (Some edge) other code is ahead = subst (λ o. OtherAhead o code) (sym is) ahead.0

    -- the edges that are tried, and where it goes on where no test holds
    tried_ahead : (words tags : List Edge) (otherwise : Option ℕ) (plain tagged : List Edge) (other : Option ℕ) (code : List Line)
        → AreTried words tags otherwise plain tagged other → EdgesAhead words code → EdgesAhead tags code
        → OtherAhead otherwise code → EdgesAhead plain code × (EdgesAhead tagged code × OtherAhead other code)
    tried_ahead words tags (Some next) plain tagged other code are first second last = (
      subst (λ es. EdgesAhead es code) (sym are.0) first,
      (subst (λ es. EdgesAhead es code) (sym are.1) second, subst (λ o. OtherAhead o code) (sym are.2) last),
    )
    tried_ahead words [] None plain tagged other code are first second last =
        let both = edges_apart plain (option_to_list are.1.0) code (subst (λ es. EdgesAhead es code) are.1.1 first) in
        (both.0, (subst (λ es. EdgesAhead es code) (sym are.0) tt, left_ahead are.1.0 other code are.1.2 both.1))
    tried_ahead words (edge ∷ edges) None plain tagged other code are first second last =
        let both = edges_apart tagged (option_to_list are.1.0) code (subst (λ es. EdgesAhead es code) are.1.1 second) in
        (subst (λ es. EdgesAhead es code) (sym are.0) first, (both.0, left_ahead are.1.0 other code are.1.2 both.1))

    -- ---- tests of a value, with a temporary

    module _ (value t : ℕ) (le : base ≤ t) (room : t + 2 ≤ base + most_temporaries) (readable : With t value) where
      compare_good : (word : ℕ) (condition : Condition) (label : ℕ) (rest : List Line) → StandsAhead (With base) label rest
          → Good (With t) rest → Good (With t) (sets word t ∷ acts (Branch condition label) (value ∷ t ∷ []) ∷ rest)
      compare_good word condition label rest ahead good =
          to_temporary base t bound (Op.Li word) [] _ has (omega (arith, room)) refl (omega arith) tt
          (good_branch (With (t + 1)) (With t) condition label (value ∷ t ∷ []) rest (omega arith)
          (readable_more base t (t + 1) bound (omega arith) value readable, (inr (le, omega arith), tt))
          (readable_more base t (t + 1) bound (omega arith)) (readable_small base (t + 1) bound has (omega (arith, room)))
          (ahead.0, λ v is. readable_more base base t bound le v (ahead.1 v is)) good)

      tests_good : (number : Answer → ℕ) (edges : List Edge) (rest : List Line) → EdgesAhead edges rest → Good (With t) rest
          → Good (With t) (number_tests number to value t edges ++ rest)
      tests_good number [] rest ahead good = good
      tests_good number (edge ∷ edges) rest ahead good =
          compare_good (number edge.found) Equal (to edge.next) (number_tests number to value t edges ++ rest)
          (stands_past (With base) (to edge.next) (number_tests number to value t edges) rest
          (tests_none number to value t edges (to edge.next)) ahead.0)
          (tests_good number edges rest ahead.1 good)

      last_good : (number : Answer → ℕ) (next : ℕ) (last : Option Edge) (other : Option ℕ) (rest : List Line)
          → EdgesAhead (option_to_list last) rest → OtherAhead other rest → Good (With t) rest
          → Good (With t) (last_lines number to next value t last other ++ rest)
      last_good number next None None rest ahead out good = good
      last_good number next None (Some other) rest ahead out good = jump_good t next (to other) rest le out good
      last_good number next (Some edge) None rest ahead out good =
          compare_good (number edge.found) Equal (to edge.next) rest ahead.0 good
      last_good number next (Some edge) (Some other) rest ahead out good = by (nat_eq (to edge.next) next)
        where
          by : (b : Bool) → Good (With t) (sets (number edge.found) t ∷ ((if b
              then acts (Branch NotEqual (to other)) (value ∷ t ∷ []) ∷ []
              else (acts (Branch Equal (to edge.next)) (value ∷ t ∷ []) ∷ jump_lines next (to other))) ++ rest))
          by true = compare_good (number edge.found) NotEqual (to other) rest out good
          by false = compare_good (number edge.found) Equal (to edge.next) (jump_lines next (to other) ++ rest)
              (stands_past (With base) (to edge.next) (jump_lines next (to other)) rest (jump_none next (to other) (to edge.next)) ahead.0)
              (jump_good t next (to other) rest le out good)

      choice_good : (number : Answer → ℕ) (next : ℕ) (edges : List Edge) (other : Option ℕ) (lines rest : List Line)
          → ChoiceLines number to next value t edges other lines → EdgesAhead edges rest → OtherAhead other rest → Good (With t) rest
          → Good (With t) (lines ++ rest)
      choice_good number next edges other lines rest are ahead out good =
          let ending = last_lines number to next value t are.1 other in
          let both = edges_apart are.0 (option_to_list are.1) rest (subst (λ es. EdgesAhead es rest) are.2 ahead) in
          subst (Good (With t))
          (sym (ap (λ ls. ls ++ rest) are.3 ∙ append_assoc (number_tests number to value t are.0) ending rest))
          (tests_good number are.0 (ending ++ rest)
          (edges_past are.0 ending rest (last_none number to next value t are.1 other) both.0)
          (last_good number next are.1 other rest both.1 out good))

      odd_good : (otherwise : Option ℕ) (odd rest : List Line) → OddLines value t to otherwise odd → OtherAhead otherwise rest
          → Good (With t) rest → Good (With t) (odd ++ rest)
      odd_good None odd rest is ahead good = subst (λ (code : List Line). Good (With t) (code ++ rest)) (sym is) good
      odd_good (Some next) odd rest is ahead good =
          subst (λ (code : List Line). Good (With t) (code ++ rest)) (sym is.2)
          (to_temporary base t bound (Op.Immediate Andi is.0) (value ∷ [])
          (acts (Branch NotEqual (to next)) (t ∷ []) ∷ rest) has (omega (arith, room)) refl (omega arith) (readable, tt)
          (good_branch (With (t + 1)) (With t) NotEqual (to next) (t ∷ []) rest (omega arith) (inr (le, omega arith), tt)
          (readable_more base t (t + 1) bound (omega arith)) (readable_small base (t + 1) bound has (omega (arith, room)))
          (ahead.0, λ v at. readable_more base base t bound le v (ahead.1 v at)) good))

    here_readable : (t : ℕ) → base ≤ t → With (t + 1) t
    here_readable t le = inr (le, omega arith)

    decide_good : (layout : Layout) (next value t : ℕ) (plain tagged : List Edge) (otherwise other : Option ℕ) (lines rest : List Line)
        → base ≤ t → t + 3 ≤ base + most_temporaries → With t value
        → DecideLines layout to next value t plain tagged otherwise other lines → EdgesAhead plain rest → EdgesAhead tagged rest
        → OtherAhead otherwise rest → OtherAhead other rest → Good (With t) rest → Good (With t) (lines ++ rest)
    decide_good layout next value t plain [] otherwise other lines rest le room readable is words tags out left good =
        choice_good value t le (omega (arith, room)) readable (answer_word layout) next plain other lines rest is words left good
    decide_good layout next value t plain (edge ∷ edges) otherwise other lines rest le room readable is words tags out left good =
        subst (Good (With t)) (sym flat)
        (tests_good value t le (omega (arith, room)) readable (answer_word layout) plain (is.0 ++ (loads ++ rest))
        (edges_past plain is.0 (loads ++ rest) (λ l. odd_none value t to otherwise is.0 l is.4)
        (edges_past plain loads rest loads_none words))
        (odd_good value t le (omega (arith, room)) readable otherwise is.0 (loads ++ rest) is.4
        (other_past otherwise loads rest loads_none out) loaded))
      where
        andi : Line
        andi = computes (Op.Immediate Andi is.2) (t ∷ []) t

        loads : List Line
        loads = is.1 ∷ andi ∷ is.3

        loads_none : (l : ℕ) → HasNo l loads
        loads_none l = (
          load_none value 1 t is.1 l is.5,
          (refl, choice_none (answer_tag layout) to next t (t + 1) (edge ∷ edges) other is.3 l is.7),
        )

        numbers : List Line
        numbers = number_tests (answer_word layout) to value t plain

        flat : lines ++ rest ≡ numbers ++ (is.0 ++ (loads ++ rest))
        flat = ap (λ ls. ls ++ rest) is.8 ∙ append_assoc numbers (is.0 ++ loads) rest
            ∙ ap (λ (ls : List Line). numbers ++ ls) (append_assoc is.0 loads rest)

        chosen : Good (With (t + 1)) (is.3 ++ rest)
        chosen = choice_good t (t + 1) (omega (arith, le)) (omega (arith, room)) (here_readable t le) (answer_tag layout) next
            (edge ∷ edges) other is.3 rest is.7 tags left (weaker (readable_more base t (t + 1) bound (omega arith)) good)

        loaded : Good (With t) (loads ++ rest)
        loaded = subst (λ (line : Line). Good (With t) (line ∷ andi ∷ (is.3 ++ rest))) (sym is.5.2)
            (to_temporary base t bound (Op.Lw is.5.0) (value ∷ []) _ has (omega (arith, room)) refl (omega arith) (readable, tt)
            (good_computes (With (t + 1)) (With (t + 1)) (Op.Immediate Andi is.2) (t ∷ []) t _ refl (omega arith)
            (here_readable t le, tt) (readable_small base (t + 1) bound has (omega (arith, room)))
            (let roomy = has.room in omega (arith, room, roomy)) (λ v is _. is) chosen))

    -- ---- a way to a value

    again_good : (way : List ℕ) (lines rest : List Line) → Walks base base way lines → Good (With (base + 1)) rest
        → Good (With (base + 1)) (lines ++ rest)
    again_good [] lines rest is good = subst (λ (code : List Line). Good (With (base + 1)) (code ++ rest)) (sym is) good
    again_good (field ∷ way) lines rest is good =
        subst (λ (code : List Line). Good (With (base + 1)) (code ++ rest)) (sym is.4)
        (subst (λ (line : Line). Good (With (base + 1)) (line ∷ (is.1 ++ rest))) (sym is.2.2)
        (good_computes (With (base + 1)) (With (base + 1)) (Op.Lw is.2.0) (base ∷ []) base (is.1 ++ rest) refl (omega arith)
        (inr (omega arith, omega arith), tt) (readable_small base (base + 1) bound has (omega arith))
        (let room = has.room in omega (arith, room)) (λ v is _. is) (again_good way is.1 rest is.3 good)))

    walks_good : (x : ℕ) (at : List ℕ) (lines rest : List Line) → is_bound bound x ≡ true → Walks base x at lines
        → Good (With (spare base at)) rest → Good (With base) (lines ++ rest)
    walks_good x [] lines rest bound_x is good = subst (λ (code : List Line). Good (With base) (code ++ rest)) (sym is) good
    walks_good x (field ∷ way) lines rest bound_x is good =
        subst (λ (code : List Line). Good (With base) (code ++ rest)) (sym is.4)
        (subst (λ (line : Line). Good (With base) (line ∷ (is.1 ++ rest))) (sym is.2.2)
        (to_temporary base base bound (Op.Lw is.2.0) (x ∷ []) (is.1 ++ rest) has (omega arith) refl (omega arith) (inl bound_x, tt)
        (again_good way is.1 rest is.3 good)))

    walked_readable : (x : ℕ) (at : List ℕ) → is_bound bound x ≡ true → With (spare base at) (walked base x at)
    walked_readable x [] bound_x = inl bound_x
    walked_readable x (field ∷ way) bound_x = inr (omega arith, omega arith)

    spare_low : (at : List ℕ) → base ≤ spare base at × (spare base at + 3 ≤ base + most_temporaries)
    spare_low [] = (omega arith, omega arith)
    spare_low (field ∷ way) = (omega arith, omega arith)

    pub test_good : (layout : Layout) (next x : ℕ) (at : List ℕ) (edges : List Edge) (otherwise : Option ℕ) (lines rest : List Line)
        → is_bound bound x ≡ true → TestLines layout base to next x at edges otherwise lines → EdgesAhead edges rest
        → OtherAhead otherwise rest → Good (With base) rest → Good (With base) (lines ++ rest)
    test_good layout next x at edges otherwise lines rest bound_x is ahead out good =
        let words = filter (λ (edge : Edge). is_plain layout edge.found) edges in
        let tags = filter (λ (edge : Edge). not (is_plain layout edge.found)) edges in
        let tried = tried_ahead words tags otherwise is.2 is.3 is.4 rest is.6
        (edges_filter (λ (edge : Edge). is_plain layout edge.found) edges rest ahead)
        (edges_filter (λ (edge : Edge). not (is_plain layout edge.found)) edges rest ahead) out in
        let low = spare_low at in
        subst (Good (With base)) (sym (ap (λ ls. ls ++ rest) is.8 ∙ append_assoc is.0 is.1 rest))
        (walks_good x at is.0 (is.1 ++ rest) bound_x is.5
        (decide_good layout next (walked base x at) (spare base at) is.2 is.3 otherwise is.4 is.1 rest low.0 low.1
        (walked_readable x at bound_x) is.7 tried.0 tried.1.0 out tried.1.1
        (weaker (readable_more base base (spare base at) bound low.0) good)))
