-- Lines have addresses of their own: functions stand one behind the other behind the runtime, and each line that is always
-- an instruction is some of its function.
use Rattle.std.proofs.Common.{◌≡◌, ◌≤◌, ◌<◌, inl, inr, ℕ, zero, suc, ◌+◌, ◌*◌, ◌%◌, List, [], ◌∷◌, Option, Some, None, is_none, Bool, true, false, ◌&&◌, ◌||◌, not, cond}
use Rattle.std.proofs.Common.{take, drop, slice_get}
use Rattle.std.proofs.Common.{refl, sym, ap, ◌∙◌, subst, arith}
use Rattle.std.proofs.lemmas.Bool.{cases_lt, and_parts, or_from, false≢true}
use Rattle.rv_isa.specs.declared.asm.Action.{Action}
use Rattle.rv_isa.specs.declared.asm.Action.TheVariants.{Compute, Label, Jump, Branch, Call, TailCall}
use Rattle.rv_isa.specs.declared.asm.Action.TheVariants.{Return, Routine, Hold, Unhold, Room}
use Rattle.rv_isa.specs.declared.placed.Place.{Place}
use Rattle.rv_isa.specs.declared.placed.Operand.{Operand}
use Rattle.rv_isa.specs.PlacedCode.{PlacedLine, does, moves, PlacedLines}
use Rattle.rv_isa.specs.Conventions.{is_in_any, home, is_lost}
use Rattle.rv_isa.specs.LinePlaces.{is_no_label, is_copy, is_made, is_load, is_instruction, PlacedHasLine}
use Rattle.rv_isa.specs.Standing.{Code}
use Rattle.rv_isa.proofs.Copies.{lost_is}
use Rattle.rv_place.specs.Addresses.{stands_there, gives_idly, is_silent, words_of_action, words_of_line, words_of_lines, forms_of, entry_words, words_of_function, words_of_shift}
use Rattle.rv_place.specs.Addresses.{entries_from, words_of_functions}
use Rattle.rv_place.specs.LineAddresses.{address_in, line_address}
use Rattle.rv_place.specs.Lines.{Map, FunctionsAt}
use Rattle.rv_place.specs.declared.reach.Forms.{Forms}
use Rattle.rv_place.specs.declared.reach.Reach.{Reach}
use Rattle.rv_place.proofs.CodeLines.{jump_some, routine_some, branch_some, function_found}
use Rattle.rv_place.proofs.MoveSimulation.{operation_weighs}

-- ---- the lines of a function

-- the instructions of lines are those of the first ones and those of the others
pub words_split : (forms : Forms) (j : ℕ) (lines : List PlacedLine)
    → words_of_lines forms (take j lines) + words_of_lines forms (drop j lines) ≡ words_of_lines forms lines
words_split forms zero lines = omega arith
words_split forms (suc j) [] = refl
words_split forms (suc j) (line ∷ lines) = let rest = words_split forms j lines in omega arith

return_some : (frame : Bool) (jumps : Reach) → 1 ≤ cond frame (2 + words_of_shift jumps) 1
return_some true jumps = omega arith
return_some false jumps = omega arith

-- what is no label is an instruction at least
action_some : (forms : Forms) (action : Action) (args : List Operand) → is_no_label action ≡ true → 1 ≤ words_of_action forms action args
action_some forms (Compute operation) args some = (operation_weighs operation).0
action_some forms (Label l) args some = cc
action_some forms (Jump l) args some = jump_some forms.jumps
action_some forms (Branch condition l) args some = branch_some forms.jumps forms.branches
action_some forms (Call f) args some = jump_some forms.jumps
action_some forms (TailCall f) args some = jump_some forms.jumps
action_some forms Return args some = return_some forms.frame forms.jumps
action_some forms (Routine routine) args some = routine_some forms.jumps routine
action_some forms Hold args some = omega arith
action_some forms Unhold args some = omega arith
action_some forms Room args some = omega arith

not_at_home : (home : Option ℕ) (place : Place) → is_none home ≡ true → is_in_any home place ≡ false
not_at_home None place none = refl
not_at_home (Some x) place none = cc none

never_lost : (action : Action) (place : Place) → not (is_load action) ≡ true → is_lost action place ≡ false
never_lost action place other = by (is_lost action place) refl
  where
    by : (lost : Bool) → is_lost action place ≡ lost → lost ≡ false
    by false is = refl
    by true is = absurd (false≢true (subst (λ (load : Bool). not load ≡ true) (ap is_load (lost_is action place is).1) other))

never_idle : (action : Action) (into : Option Operand) → is_none (home action) ≡ true → not (is_load action) ≡ true
    → gives_idly action into ≡ false
never_idle action None none other = refl
never_idle action (Some into) none other =
    or_from (is_in_any (home action) into.place) (is_lost action into.place) (not_at_home (home action) into.place none)
    (never_lost action into.place other)

neither : (copy there goes : Bool) → not copy ≡ true → goes ≡ false → ((copy && there) || goes) ≡ false
neither true there goes is none = cc is
neither false there goes is none = none

-- and so is such a line, which is no copy, no constant that a register holds always, and no load
line_some : (forms : Forms) (line : PlacedLine) → is_instruction line ≡ true → 1 ≤ words_of_line forms line
line_some forms (does alive action args into) some =
    let both = and_parts (is_no_label action) (is_made action && not (is_load action)) some in
    let made = and_parts (is_made action) (not (is_load action)) both.1 in
    let apart = and_parts (not (is_copy action)) (is_none (home action)) made.0 in
    let loud : is_silent action args into ≡ false
    = neither (is_copy action) (stands_there args into) (gives_idly action into) apart.0
    (never_idle action into apart.1 made.1) in
    subst (λ silent. 1 ≤ cond silent 0 (words_of_action forms action args)) (sym loud) (action_some forms action args both.0)
line_some forms (moves alive value way) some = omega arith

-- such a line ends at the end of the lines at most
line_ends : (forms : Forms) (j : ℕ) (lines : List PlacedLine) (line : PlacedLine)
    → slice_get lines j ≡ Some line → is_instruction line ≡ true
    → words_of_lines forms (take j lines) + 1 ≤ words_of_lines forms lines
line_ends forms j [] line is some = cc
line_ends forms zero (first ∷ lines) line is some =
    let same : first ≡ line = cc in omega (arith, line_some forms first (ap is_instruction same ∙ some))
line_ends forms (suc j) (first ∷ lines) line is some = omega (arith, line_ends forms j lines line is some)

-- and a later one stands behind it
lines_apart : (forms : Forms) (j i : ℕ) (lines : List PlacedLine) (line : PlacedLine)
    → slice_get lines j ≡ Some line → is_instruction line ≡ true
    → j < i → words_of_lines forms (take j lines) + 1 ≤ words_of_lines forms (take i lines)
lines_apart forms j i [] line is some less = cc
lines_apart forms j zero (first ∷ lines) line is some less = absurd (omega arith)
lines_apart forms zero (suc i) (first ∷ lines) line is some less =
    let same : first ≡ line = cc in omega (arith, line_some forms first (ap is_instruction same ∙ some))
lines_apart forms (suc j) (suc i) (first ∷ lines) line is some less =
    omega (arith, lines_apart forms j i lines line is some (omega arith))

-- ---- the functions

-- a function stands behind where the functions begin
entry_low : (jumps : Reach) (at : ℕ) (functions : List PlacedLines) (g entry : ℕ)
    → slice_get (entries_from jumps at functions) g ≡ Some entry → at ≤ entry
entry_low jumps at [] g entry is = cc
entry_low jumps at (function ∷ functions) zero entry is = let same : at ≡ entry = cc in omega arith
entry_low jumps at (function ∷ functions) (suc g) entry is =
    omega (arith, entry_low jumps (at + 4 * words_of_function jumps function) functions g entry is)

-- and behind each function before it
entries_apart : (jumps : Reach) (at : ℕ) (functions : List PlacedLines) (f g first second : ℕ) (function : PlacedLines)
    → slice_get functions f ≡ Some function → slice_get (entries_from jumps at functions) f ≡ Some first
    → slice_get (entries_from jumps at functions) g ≡ Some second → f < g
    → first + 4 * words_of_function jumps function ≤ second
entries_apart jumps at [] f g first second function function_is first_is second_is less = cc
entries_apart jumps at (head ∷ functions) f zero first second function function_is first_is second_is less = absurd (omega arith)
entries_apart jumps at (head ∷ functions) zero (suc g) first second function function_is first_is second_is less =
    let same : at ≡ first = cc in
    let alike : head ≡ function = cc in
    let behind : at + 4 * words_of_function jumps head ≤ second
    = entry_low jumps (at + 4 * words_of_function jumps head) functions g second second_is in
    subst (λ (k : PlacedLines). first + 4 * words_of_function jumps k ≤ second) alike
    (subst (λ a. a + 4 * words_of_function jumps head ≤ second) same behind)
entries_apart jumps at (head ∷ functions) (suc f) (suc g) first second function function_is first_is second_is less =
    let next : ℕ = at + 4 * words_of_function jumps head in
    entries_apart jumps next functions f g first second function function_is first_is second_is (omega arith)

-- and ends before the functions end
entry_within : (jumps : Reach) (at : ℕ) (functions : List PlacedLines) (f entry : ℕ) (function : PlacedLines)
    → slice_get functions f ≡ Some function → slice_get (entries_from jumps at functions) f ≡ Some entry
    → entry + 4 * words_of_function jumps function ≤ at + 4 * words_of_functions jumps functions
entry_within jumps at [] f entry function function_is entry_is = cc
entry_within jumps at (head ∷ functions) zero entry function function_is entry_is =
    let same : at ≡ entry = cc in
    let alike : head ≡ function = cc in
    let within : at + 4 * words_of_function jumps head ≤ at + 4 * words_of_functions jumps (head ∷ functions) = omega arith in
    subst (λ (k : PlacedLines). entry + 4 * words_of_function jumps k ≤ at + 4 * words_of_functions jumps (head ∷ functions)) alike
    (subst (λ a. a + 4 * words_of_function jumps head ≤ at + 4 * words_of_functions jumps (head ∷ functions)) same within)
entry_within jumps at (head ∷ functions) (suc f) entry function function_is entry_is =
    let next : ℕ = at + 4 * words_of_function jumps head in
    let rest = entry_within jumps next functions f entry function function_is entry_is in
    omega arith

-- each begins at a word
entry_word : (jumps : Reach) (at : ℕ) (functions : List PlacedLines) (f entry : ℕ)
    → slice_get (entries_from jumps at functions) f ≡ Some entry → at % 4 ≡ 0 → entry % 4 ≡ 0
entry_word jumps at [] f entry is word = cc
entry_word jumps at (head ∷ functions) zero entry is word = let same : at ≡ entry = cc in omega arith
entry_word jumps at (head ∷ functions) (suc f) entry is word =
    entry_word jumps (at + 4 * words_of_function jumps head) functions f entry is (omega arith)

-- ---- the addresses

-- the address of a line of a function that is there
pub address_of : (map : Map) (functions : List PlacedLines) (f j entry : ℕ) (function : PlacedLines)
    → slice_get map.entries f ≡ Some entry → slice_get functions f ≡ Some function
    → line_address map functions f j
    ≡ entry + 4 * entry_words map.jumps + 4 * words_of_lines (forms_of map.jumps function.code) (take j function.code)
address_of map functions f j entry function entry_is function_is =
    ap (λ o. address_in map j o (slice_get functions f)) entry_is ∙ ap (address_in map j (Some entry)) function_is

-- a line that is always an instruction, and its function
record LineThere (map : Map) (functions : List PlacedLines) (f j : ℕ) : Type 0 where
  function : PlacedLines
  function_is : slice_get functions f ≡ Some function
  entry : ℕ
  entry_is : slice_get map.entries f ≡ Some entry
  line : PlacedLine
  line_is : slice_get function.code j ≡ Some line
  some : is_instruction line ≡ true

module _ (map : Map) (code : Code) (functions : List PlacedLines) (stand : FunctionsAt map code map.entries functions) where
  line_there : (f j : ℕ) → PlacedHasLine functions f j → LineThere map functions f j
  line_there f j has =
      let found = function_found map code map.entries functions stand f has.0 has.1.0 in
      record {
        function = has.0;
        function_is = has.1.0;
        entry = found.0;
        entry_is = found.1;
        line = has.1.1.0;
        line_is = has.1.1.1.0;
        some = has.1.1.1.1;
      }

  module _ (at : ℕ) (entries_are : map.entries ≡ entries_from map.jumps at functions) where
    entry_there : (f entry : ℕ) → slice_get map.entries f ≡ Some entry
        → slice_get (entries_from map.jumps at functions) f ≡ Some entry
    entry_there f entry is = subst (λ (entries : List ℕ). slice_get entries f ≡ Some entry) entries_are is

    -- no line stands before where the functions begin
    pub line_behind : (f j : ℕ) → PlacedHasLine functions f j → at ≤ line_address map functions f j
    line_behind f j has =
        let there = line_there f j has in
        let low = entry_low map.jumps at functions f there.entry (entry_there f there.entry there.entry_is) in
        rw (address_of map functions f j there.entry there.function there.entry_is there.function_is) (omega arith)

    -- each is a word, and ends before the functions end
    pub line_within : (f j : ℕ) → PlacedHasLine functions f j → at % 4 ≡ 0
        → (line_address map functions f j % 4 ≡ 0)
        × (line_address map functions f j + 4 ≤ at + 4 * words_of_functions map.jumps functions)
    line_within f j has word =
        let there = line_there f j has in
        let entry_is = entry_there f there.entry there.entry_is in
        let begins = entry_word map.jumps at functions f there.entry entry_is word in
        let within = entry_within map.jumps at functions f there.entry there.function there.function_is entry_is in
        let inside = line_ends (forms_of map.jumps there.function.code) j there.function.code there.line there.line_is there.some in
        rw (address_of map functions f j there.entry there.function there.entry_is there.function_is)
        (omega arith, omega arith)

    -- lines of a function before another stand before those of the other
    functions_order : (f j g i : ℕ) → LineThere map functions f j → LineThere map functions g i → f < g
        → line_address map functions f j < line_address map functions g i
    functions_order f j g i first second less =
        let inside = line_ends (forms_of map.jumps first.function.code) j first.function.code first.line first.line_is first.some in
        let apart = entries_apart map.jumps at functions f g first.entry second.entry first.function first.function_is
        (entry_there f first.entry first.entry_is) (entry_there g second.entry second.entry_is) less in
        rw (
          address_of map functions f j first.entry first.function first.entry_is first.function_is,
          address_of map functions g i second.entry second.function second.entry_is second.function_is,
        ) (omega arith)

    -- and those of one function in their order
    lines_order : (f j i : ℕ) → LineThere map functions f j → j < i
        → line_address map functions f j < line_address map functions f i
    lines_order f j i first less =
        let code = first.function.code in
        let apart = lines_apart (forms_of map.jumps code) j i code first.line first.line_is first.some less in
        rw (
          address_of map functions f j first.entry first.function first.entry_is first.function_is,
          address_of map functions f i first.entry first.function first.entry_is first.function_is,
        ) (omega arith)

    -- lines at one address are one line of a function
    one_line : (f j i : ℕ) → LineThere map functions f j → LineThere map functions f i
        → line_address map functions f j ≡ line_address map functions f i → j ≡ i
    one_line f j i first second same =
        elim (cases_lt j i) as (λ _. j ≡ i) [
          | inl less ↦ (let order = lines_order f j i first less in absurd (omega arith))
          | inr most ↦ elim (cases_lt i j) as (λ _. j ≡ i) [
            | inl less ↦ (let order = lines_order f i j second less in absurd (omega arith))
            | inr least ↦ omega arith
          ]
        ]

    -- and they are in one function
    one_function : (f j g i : ℕ) → LineThere map functions f j → LineThere map functions g i
        → line_address map functions f j ≡ line_address map functions g i → f ≡ g
    one_function f j g i first second same =
        elim (cases_lt f g) as (λ _. f ≡ g) [
          | inl less ↦ (let order = functions_order f j g i first second less in absurd (omega arith))
          | inr most ↦ elim (cases_lt g f) as (λ _. f ≡ g) [
            | inl less ↦ (let order = functions_order g i f j second first less in absurd (omega arith))
            | inr least ↦ omega arith
          ]
        ]

    -- so each line has an address of its own
    pub line_alone : (f j g i : ℕ) → PlacedHasLine functions f j → PlacedHasLine functions g i
        → line_address map functions f j ≡ line_address map functions g i → (f ≡ g) × (j ≡ i)
    line_alone f j g i has other same =
        let first = line_there f j has in
        let second = line_there g i other in
        let alike = one_function f j g i first second same in
        let back : line_address map functions f j ≡ line_address map functions f i
        = same ∙ ap (λ h. line_address map functions h i) (sym alike) in
        (alike, one_line f j i first (subst (λ h. LineThere map functions h i) (sym alike) second) back)
