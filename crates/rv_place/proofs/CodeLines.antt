-- Lines as they stand in the code: where labels and functions are found, and what is kept of the code that is left.
use Rattle.std.proofs.Common.{◌≡◌, ◌≤◌, ◌<◌, ℕ, zero, suc, ◌+◌, ◌*◌, ◌%◌, ◌^◌, max, List, [], ◌∷◌, length, Option, Some, None, Bool, true, false, cond, slice_get, IsSome, refl, sym, ap, subst, arith}
use Rattle.std.specs.List.{list_any}
use Rattle.std.proofs.lemmas.Bool.{or_left, or_right}
use Rattle.rv_isa.specs.declared.asm.Condition.{Condition}
use Rattle.rv_isa.specs.declared.instr.Instr.{Instr}
use Rattle.rv_isa.specs.declared.register.Register.{Register}
use Rattle.rv_isa.specs.declared.routine.Routine.{Routine}
use Rattle.rv_isa.specs.declared.routine.Routine.TheVariants.{Take, Drop, PrintInt, PrintText, ReadByte}
use Rattle.rv_isa.specs.Costs.{routine_length}
use Rattle.rv_isa.specs.PlacedCode.{PlacedLine, PlacedLines}
use Rattle.rv_isa.specs.Frames.{Frame, found}
use Rattle.rv_isa.specs.PlacedMachine.{is_label_line, placed_entered}
use Rattle.rv_isa.specs.Processor.{Processor}
use Rattle.rv_isa.specs.Standing.{Code, Stands}
use Rattle.rv_place.specs.Addresses.{words_of_shift, words_to_frame, words_of_line, words_of_lines, label_address, forms_of, entry_words, needs_frame, takes_frame}
use Rattle.rv_place.specs.Instructions.{words_to_name, words_of_jump, words_of_routine, JumpsBy, words_of_branch, BranchesOn}
use Rattle.rv_place.specs.Registers.{zero_register}
use Rattle.rv_place.specs.declared.reach.Forms.{Forms}
use Rattle.rv_place.specs.declared.reach.Reach.{Reach}
use Rattle.rv_place.specs.declared.reach.Reach.TheVariants.{Near, Far, Wide}
use Rattle.rv_place.specs.Lines.{Map, ShiftsStack, BeginsAt, LineAt, LinesAt, FunctionAt, FunctionsAt}
use Rattle.rv_place.specs.ProcessorStates.{IsPlain, ArePlain, AllPlain, most_lines, IsIn}

-- ---- functions that take a frame

-- one that takes none is in a text whose jumps are near
pub bare_near : (jumps : Reach) (lines : List PlacedLine) → takes_frame jumps lines ≡ false → jumps ≡ Near
bare_near Near lines none = refl
bare_near Far lines none = cc
bare_near Wide lines none = cc

-- lines that begin with one that needs a frame
pub first_takes : (jumps : Reach) (line : PlacedLine) (rest : List PlacedLine) → needs_frame line ≡ true → takes_frame jumps (line ∷ rest) ≡ true
first_takes Near line rest needs = or_left (needs_frame line) (list_any needs_frame rest) needs
first_takes Far line rest needs = refl
first_takes Wide line rest needs = refl

-- or go on with some
rest_takes : (jumps : Reach) (line : PlacedLine) (rest : List PlacedLine) → takes_frame jumps rest ≡ true → takes_frame jumps (line ∷ rest) ≡ true
rest_takes Near line rest takes = or_right (needs_frame line) (list_any needs_frame rest) takes
rest_takes Far line rest takes = refl
rest_takes Wide line rest takes = refl

-- ---- labels

-- the lines from a label on, which stand at its address, and end at another
pub record Labelled (map : Map) (forms : Forms) (code : Code) (start : ℕ) (whole : List PlacedLine) (most end : ℕ) (address : Option ℕ) (lines : List PlacedLine) : Type 0 where
  pub target : ℕ
  pub target_is : address ≡ Some target
  pub word : target % 4 ≡ 0
  pub stand : LinesAt map forms code start whole target lines
  pub plain : ArePlain whole lines
  pub few : length lines ≤ most
  pub takes : takes_frame map.jumps lines ≡ true → takes_frame map.jumps whole ≡ true
  pub place : target + 4 * words_of_lines forms lines ≡ end

module _ (map : Map) (forms : Forms) (code : Code) (start : ℕ) (whole : List PlacedLine) (most end l : ℕ) where
  label_step : (b : Bool) (at : ℕ) (lines later behind : List PlacedLine) (address : Option ℕ) (rest : Option (List PlacedLine)) → at % 4 ≡ 0 → LinesAt map forms code start whole at lines → ArePlain whole lines → length lines ≤ most → (takes_frame map.jumps lines ≡ true → takes_frame map.jumps whole ≡ true)
      → at + 4 * words_of_lines forms lines ≡ end → (rest ≡ Some behind → Labelled map forms code start whole most end address behind) → cond b (Some lines) rest ≡ Some behind → Labelled map forms code start whole most end (cond b (Some at) address) behind
  label_step true at lines later behind address rest word stand plain few takes place further is =
      let same : lines ≡ behind = cc in
      record {
        target = at;
        target_is = refl;
        word = word;
        stand = subst (λ c. LinesAt map forms code start whole at c) same stand;
        plain = subst (ArePlain whole) same plain;
        few = subst (λ (c : List PlacedLine). length c ≤ most) same few;
        takes = subst (λ (c : List PlacedLine). takes_frame map.jumps c ≡ true → takes_frame map.jumps whole ≡ true) same takes;
        place = subst (λ c. at + 4 * words_of_lines forms c ≡ end) same place;
      }
  label_step false at lines later behind address rest word stand plain few takes place further is = further is

  pub label_found : (at : ℕ) (lines behind : List PlacedLine) → at % 4 ≡ 0 → LinesAt map forms code start whole at lines → ArePlain whole lines → length lines ≤ most → (takes_frame map.jumps lines ≡ true → takes_frame map.jumps whole ≡ true)
      → at + 4 * words_of_lines forms lines ≡ end → found (is_label_line l) lines ≡ Some behind → Labelled map forms code start whole most end (label_address forms l at lines) behind
  label_found at [] behind word stand plain few takes place is = cc
  label_found at (line ∷ lines) behind word stand plain few takes place is =
      label_step (is_label_line l line) at (line ∷ lines) lines behind (label_address forms l (at + 4 * words_of_line forms line) lines) (found (is_label_line l) lines) word stand plain few takes place
      (λ later. label_found (at + 4 * words_of_line forms line) lines behind (omega arith) stand.1 plain.1 (omega arith) (λ needs. takes (rest_takes map.jumps line lines needs)) (omega arith) later) is

-- a label that is there
pub label_there : {A : Type 0} (o : Option A) → IsSome o → (a : A) × (o ≡ Some a)
label_there None some = cc
label_there (Some a) some = (a, refl)

-- the address of a jump is a word
pub jump_below : (reach : Reach) (code : Code) (at : ℕ) (back : Register) (target : ℕ) → JumpsBy reach code at back target → target < 2 ^ 32
jump_below Near code at back target (offset, sum, here) = omega arith
jump_below Far code at back target (upper, lower, sum, has) = omega arith
jump_below Wide code at back target (upper, lower, sum, has) = omega arith

-- and so is that of a branch
pub branch_below : (jumps reach : Reach) (code : Code) (at : ℕ) (condition : Condition) (a b : Register) (target : ℕ) → BranchesOn jumps reach code at condition a b target → target < 2 ^ 32
branch_below jumps Near code at condition a b target (offset, sum, here) = omega arith
branch_below jumps Far code at condition a b target (over, over_is, here, jump) = jump_below jumps code (at + 4) zero_register target jump
branch_below jumps Wide code at condition a b target (over, over_is, here, jump) = jump_below jumps code (at + 4) zero_register target jump

-- ---- how many instructions a jump and a branch are

pub jump_some : (reach : Reach) → 1 ≤ words_of_jump reach
jump_some Near = omega arith
jump_some Far = omega arith
jump_some Wide = omega arith

pub jump_most : (reach : Reach) → words_of_jump reach ≤ 2
jump_most Near = omega arith
jump_most Far = omega arith
jump_most Wide = omega arith

pub routine_some : (reach : Reach) (routine : Routine) → 1 ≤ words_of_routine reach routine
routine_some reach Take = jump_some reach
routine_some reach Drop = omega arith
routine_some reach PrintInt = jump_some reach
routine_some reach PrintText = jump_some reach
routine_some reach ReadByte = jump_some reach

pub routine_most : (reach : Reach) (routine : Routine) → words_of_routine reach routine ≤ routine_length routine
routine_most reach Take = jump_most reach
routine_most reach Drop = omega (arith, jump_most reach)
routine_most reach PrintInt = jump_most reach
routine_most reach PrintText = jump_most reach
routine_most reach ReadByte = jump_most reach

pub name_most : (at_pointer : Bool) → words_to_name at_pointer ≤ 2
name_most true = omega arith
name_most false = omega arith

pub shift_most : (reach : Reach) → words_of_shift reach ≤ 2
shift_most Near = omega arith
shift_most Far = omega arith
shift_most Wide = omega arith

pub branch_some : (jumps reach : Reach) → 1 ≤ words_of_branch jumps reach
branch_some jumps Near = omega arith
branch_some jumps Far = omega arith
branch_some jumps Wide = omega arith

pub branch_most : (jumps reach : Reach) → words_of_branch jumps reach ≤ 3
branch_most jumps Near = omega arith
branch_most jumps Far = omega (arith, jump_most jumps)
branch_most jumps Wide = omega (arith, jump_most jumps)

-- ---- functions

pub function_found : (map : Map) (code : Code) (entries : List ℕ) (functions : List PlacedLines) → FunctionsAt map code entries functions → (g : ℕ) (callee : PlacedLines) → slice_get functions g ≡ Some callee
    → (entry : ℕ) × (slice_get entries g ≡ Some entry) × FunctionAt map code entry callee
function_found map code entries [] stand g callee is = cc
function_found map code [] (function ∷ functions) stand g callee is = absurd stand
function_found map code (entry ∷ entries) (function ∷ functions) stand zero callee is =
    let same : function ≡ callee = cc in (entry, refl, subst (λ f. FunctionAt map code entry f) same stand.0)
function_found map code (entry ∷ entries) (function ∷ functions) stand (suc g) callee is = function_found map code entries functions stand.1 g callee is

pub plain_found : (functions : List PlacedLines) → AllPlain functions → (g : ℕ) (callee : PlacedLines) → slice_get functions g ≡ Some callee → ArePlain callee.code callee.code
plain_found [] plain g callee is = cc
plain_found (function ∷ functions) plain zero callee is = let same : function ≡ callee = cc in subst (λ (f : PlacedLines). ArePlain f.code f.code) same plain.0
plain_found (function ∷ functions) plain (suc g) callee is = plain_found functions plain.1 g callee is

max_left : (a b : ℕ) → a ≤ max a b
max_left a b = grind arith

max_right : (a b : ℕ) → b ≤ max a b
max_right a b = grind arith

pub few_found : (functions : List PlacedLines) (g : ℕ) (callee : PlacedLines) → slice_get functions g ≡ Some callee → length callee.code ≤ most_lines functions
few_found [] g callee is = cc
few_found (function ∷ functions) zero callee is =
    let same : function ≡ callee = cc in subst (λ (f : PlacedLines). length f.code ≤ most_lines (function ∷ functions)) same (max_left (length function.code) (most_lines functions))
few_found (function ∷ functions) (suc g) callee is =
    let rest = few_found functions g callee is in let less = max_right (length function.code) (most_lines functions) in omega arith

-- the address behind the entry is one of a word
begins_word : (map : Map) {code : Code} {s : Processor} (entry : ℕ) (takes : Bool) → (takes ≡ false → map.jumps ≡ Near) → Stands code s
    → ((at : ℕ) (i : Instr) → code at ≡ Some i → at + 4 < 2 ^ 32) → BeginsAt takes map code entry
    → ((entry + 4 * entry_words map.jumps) % 4 ≡ 0) × (entry + 4 * entry_words map.jumps < 2 ^ 32)
begins_word map entry true near stands below enters =
    let saving : ℕ = entry + 4 * words_to_frame map.jumps + 4 + 4 * words_of_jump map.jumps + 4 * words_of_shift map.jumps in
    let word = stands.aligned saving _ enters.saves in
    let last = below saving _ enters.saves in
    (omega arith, omega arith)
begins_word map {code} entry false near stands below passes =
    let gives = subst (λ (j : Reach). ShiftsStack j map.frame code (entry + 4 + 4 * words_of_jump j + 4)) (near refl) passes.gives in
    let word = stands.aligned (entry + 4 + 4 + 4) _ gives.2 in
    let last = below (entry + 4 + 4 + 4) _ gives.2 in
    subst (λ (j : Reach). ((entry + 4 * entry_words j) % 4 ≡ 0) × (entry + 4 * entry_words j < 2 ^ 32)) (sym (near refl)) (omega arith, omega arith)

-- a function behind its entry
pub entered_in : {map : Map} {code : Code} {s : Processor} (most g entry : ℕ) (callee : PlacedLines) → Stands code s → ((at : ℕ) (i : Instr) → code at ≡ Some i → at + 4 < 2 ^ 32)
    → slice_get map.entries g ≡ Some entry → FunctionAt map code entry callee → ArePlain callee.code callee.code → length callee.code ≤ most → IsIn map code most (entry + 4 * entry_words map.jumps) (placed_entered g callee)
entered_in {map} most g entry callee stands below entry_is function plain few =
    let first = begins_word map entry (takes_frame map.jumps callee.code) (bare_near map.jumps callee.code) stands below function.entry in
    let word = first.0 in
    let last = first.1 in
    record {
      forms = forms_of map.jumps callee.code;
      start = entry + 4 * entry_words map.jumps;
      start_word = omega arith;
      whole = function.lines;
      here = function.lines;
      at_word = omega arith;
      below = omega arith;
      whole_plain = plain;
      plain = plain;
      few_whole = few;
      few = few;
      takes = λ needs. needs;
      entry = entry;
      entry_is = entry_is;
      start_is = refl;
      forms_are = refl;
      place = refl;
    }

-- ---- the lines behind

module _ {map : Map} {code : Code} {most at : ℕ} {f : Frame PlacedLine} (is_in : IsIn map code most at f) where
  -- other lines of the same function
  moves_to : (next : ℕ) (lines : List PlacedLine) (g : Frame PlacedLine) → g.function ≡ f.function → g.whole ≡ f.whole → g.code ≡ lines → LinesAt map is_in.forms code is_in.start f.whole next lines → next % 4 ≡ 0 → next < 2 ^ 32 → ArePlain f.whole lines → length lines ≤ most
      → (takes_frame map.jumps lines ≡ true → takes_frame map.jumps f.whole ≡ true)
      → next + 4 * words_of_lines is_in.forms lines ≡ is_in.start + 4 * words_of_lines is_in.forms f.whole → IsIn map code most next g
  moves_to next lines g function_is whole_is code_is stand word below plain few takes place = record {
    forms = is_in.forms;
    start = is_in.start;
    start_word = is_in.start_word;
    whole = subst (λ w. LinesAt map is_in.forms code is_in.start w is_in.start w) (sym whole_is) is_in.whole;
    here = subst (λ c. LinesAt map is_in.forms code is_in.start g.whole next c) (sym code_is) (subst (λ w. LinesAt map is_in.forms code is_in.start w next lines) (sym whole_is) stand);
    at_word = word;
    below = below;
    whole_plain = subst (λ w. ArePlain w w) (sym whole_is) is_in.whole_plain;
    plain = subst (ArePlain g.whole) (sym code_is) (subst (λ w. ArePlain w lines) (sym whole_is) plain);
    few_whole = subst (λ (c : List PlacedLine). length c ≤ most) (sym whole_is) is_in.few_whole;
    few = subst (λ (c : List PlacedLine). length c ≤ most) (sym code_is) few;
    takes = subst (λ (c : List PlacedLine). takes_frame map.jumps c ≡ true → takes_frame map.jumps g.whole ≡ true) (sym code_is)
        (subst (λ (w : List PlacedLine). takes_frame map.jumps lines ≡ true → takes_frame map.jumps w ≡ true) (sym whole_is) takes);
    entry = is_in.entry;
    entry_is = subst (λ n. slice_get map.entries n ≡ Some is_in.entry) (sym function_is) is_in.entry_is;
    start_is = is_in.start_is;
    forms_are = subst (λ w. is_in.forms ≡ forms_of map.jumps w) (sym whole_is) is_in.forms_are;
    place = subst (λ c. next + 4 * words_of_lines is_in.forms c ≡ is_in.start + 4 * words_of_lines is_in.forms g.whole) (sym code_is)
        (subst (λ w. next + 4 * words_of_lines is_in.forms lines ≡ is_in.start + 4 * words_of_lines is_in.forms w) (sym whole_is) place);
  }

  -- the lines from a label on
  pub goes_to_label : (l : ℕ) (lines : List PlacedLine) (g : Frame PlacedLine) → g.function ≡ f.function → g.whole ≡ f.whole → g.code ≡ lines
      → (labelled : Labelled map is_in.forms code is_in.start f.whole most (is_in.start + 4 * words_of_lines is_in.forms f.whole) (label_address is_in.forms l is_in.start f.whole) lines) → labelled.target < 2 ^ 32 → IsIn map code most labelled.target g
  goes_to_label l lines g function_is whole_is code_is labelled below =
      moves_to labelled.target lines g function_is whole_is code_is labelled.stand labelled.word below labelled.plain labelled.few labelled.takes labelled.place

  module _ (line : PlacedLine) (rest : List PlacedLine) (code_is : f.code ≡ line ∷ rest) where
    lines_at : LinesAt map is_in.forms code is_in.start f.whole at (line ∷ rest)
    lines_at = subst (λ c. LinesAt map is_in.forms code is_in.start f.whole at c) code_is is_in.here

    lines_plain : ArePlain f.whole (line ∷ rest)
    lines_plain = subst (ArePlain f.whole) code_is is_in.plain

    lines_take : takes_frame map.jumps (line ∷ rest) ≡ true → takes_frame map.jumps f.whole ≡ true
    lines_take = subst (λ (c : List PlacedLine). takes_frame map.jumps c ≡ true → takes_frame map.jumps f.whole ≡ true) code_is is_in.takes

    -- a line that needs a frame has one
    pub line_takes : needs_frame line ≡ true → takes_frame map.jumps f.whole ≡ true
    line_takes needs = lines_take (first_takes map.jumps line rest needs)

    pub line_at : LineAt map is_in.forms code is_in.start f.whole at line
    line_at = lines_at.0

    pub line_plain : IsPlain f.whole line
    line_plain = lines_plain.0

    rest_few : length rest ≤ most
    rest_few = let all = is_in.few in let size : length f.code ≡ suc (length rest) = ap length code_is in omega arith

    -- the next line
    pub goes_behind : (next : ℕ) (g : Frame PlacedLine) → g.function ≡ f.function → g.whole ≡ f.whole → g.code ≡ rest → at + 4 * words_of_line is_in.forms line ≡ next → next < 2 ^ 32 → IsIn map code most next g
    goes_behind next g function_is whole_is rest_is next_is below =
        let word = is_in.at_word in
        let size : words_of_lines is_in.forms f.code ≡ words_of_line is_in.forms line + words_of_lines is_in.forms rest = ap (words_of_lines is_in.forms) code_is in
        let here = is_in.place in
        moves_to next rest g function_is whole_is rest_is (subst (λ a. LinesAt map is_in.forms code is_in.start f.whole a rest) next_is lines_at.1) (omega arith) below lines_plain.1 rest_few (λ needs. lines_take (rest_takes map.jumps line rest needs)) (omega arith)
