-- In a text that is short enough each near jump leads to each address, and in a short function each near branch does.
use Rattle.std.proofs.Common.{◌≡◌, ℕ, ◌+◌, ◌*◌, ◌%◌, ◌≤◌, ◌<◌, List, [], ◌∷◌, Option, Some, Bool, true, false, cond}
use Rattle.std.proofs.Common.{nat_lt, refl, sym, ap, arith}
use Rattle.std.proofs.lemmas.Bool.Decides.{nat_tests}
use Rattle.rv_isa.specs.declared.routine.Routine.{Routine}
use Rattle.rv_isa.specs.declared.routine.Routine.TheVariants.{Take, Drop, PrintInt, PrintText, ReadByte}
use Rattle.rv_isa.specs.PlacedCode.{PlacedLine}
use Rattle.rv_isa.specs.PlacedMachine.{is_label_line}
use Rattle.rv_place.specs.declared.chart.Chart.{Chart}
use Rattle.rv_place.specs.declared.reach.Forms.{Forms}
use Rattle.rv_place.specs.declared.reach.Reach.{Reach}
use Rattle.rv_place.specs.declared.reach.Reach.TheVariants.{Near, Far, Wide}
use Rattle.rv_place.specs.Instructions.{words_of_jump, words_of_branch, words_of_routine}
use Rattle.rv_place.specs.Addresses.{words_of_line, words_of_lines, label_address, reach_of, branch_words, forms_of, takes_frame}
use Rattle.rv_place.specs.Lines.{Map}
use Rattle.rv_place.specs.Emitted.{Charts, JumpReaches, RoutineReaches, BranchReaches, IsInText, IsInFunction}

-- ---- near is short

near_by : (limit words : ℕ) (short : Bool) → nat_lt words limit ≡ short → cond short Near Far ≡ Near → words < limit
near_by limit words true test is = grind (arith, nat_tests)
near_by limit words false test is = cc

pub near_within : (limit words : ℕ) → reach_of limit words ≡ Near → words < limit
near_within limit words is = near_by limit words (nat_lt words limit) refl is

-- jumps are near only where frames are narrow
pub near_narrow : (wide : Bool) (reach : Reach) → cond wide Wide reach ≡ Near → reach ≡ Near
near_narrow true reach is = cc
near_narrow false reach is = is

-- a function whose branches are near is short with them
pub short_function : (jumps : Reach) (lines : List PlacedLine) → (forms_of jumps lines).branches ≡ Near
    → words_of_lines (forms_of jumps lines) lines < branch_words
short_function jumps lines is =
    let near : Forms = record { jumps = jumps; branches = Near; frame = takes_frame jumps lines } in
    let same : forms_of jumps lines ≡ near = ap (λ (b : Reach). record { jumps = jumps; branches = b; frame = takes_frame jumps lines }) is in
    let few : words_of_lines near lines < branch_words = near_within branch_words (words_of_lines near lines) is in
    omega (arith, few, ap (λ (forms : Forms). words_of_lines forms lines) same)

-- ---- labels

-- an address is that of one of so many instructions, or behind them
pub record IsBetween (at words target : ℕ) : Type 0 where
  pub low : at ≤ target
  pub high : target ≤ at + 4 * words
  pub word : target % 4 ≡ 0

between_by : (here : Bool) (at first rest target : ℕ) (later : Option ℕ) → at % 4 ≡ 0
    → (later ≡ Some target → IsBetween (at + 4 * first) rest target)
    → cond here (Some at) later ≡ Some target → IsBetween at (first + rest) target
between_by true at first rest target later word further is =
    let same : at ≡ target = cc in record { low = omega arith; high = omega arith; word = omega arith }
between_by false at first rest target later word further is =
    let behind = further is in record { low = omega (arith, behind.low); high = omega (arith, behind.high); word = behind.word }

pub label_between : (forms : Forms) (l at : ℕ) (lines : List PlacedLine) (target : ℕ) → label_address forms l at lines ≡ Some target
    → at % 4 ≡ 0 → IsBetween at (words_of_lines forms lines) target
label_between forms l at [] target is word = cc
label_between forms l at (line ∷ lines) target is word =
    between_by (is_label_line l line) at (words_of_line forms line) (words_of_lines forms lines) target
    (label_address forms l (at + 4 * words_of_line forms line) lines) word
    (λ later. label_between forms l (at + 4 * words_of_line forms line) lines target later (omega arith)) is

-- ---- what is reached

module _ {chart : Chart} {map : Map} (charts : Charts chart map) where
  -- a jump from an address of the text to another
  pub jump_reaches : (reach : Reach) → reach ≡ map.jumps → (at target : ℕ) → at % 4 ≡ 0 → target % 4 ≡ 0 → map.runtime ≤ at
      → at ≤ map.constants.first → map.runtime ≤ target → target ≤ map.constants.first
      → JumpReaches reach at target
  jump_reaches Near is at target word target_word low high target_low target_high =
      let short = charts.short (sym is) in
      let below = charts.below in
      record {
        at_word = word;
        target_word = target_word;
        forth = omega arith;
        back = omega arith;
        at_below = omega arith;
        target_below = omega arith;
      }
  jump_reaches Far is at target word target_word low high target_low target_high = tt
  jump_reaches Wide is at target word target_word low high target_low target_high = tt

  module _ {forms : Forms} {start : ℕ} {whole : List PlacedLine} {at words : ℕ}
      (inside : IsInFunction map forms start whole at words) where
    -- a jump in a function to an address of the text
    pub text_reaches : (target : ℕ) → target % 4 ≡ 0 → map.runtime ≤ target → target ≤ map.constants.first
        → JumpReaches forms.jumps at target
    text_reaches target word low high =
        jump_reaches forms.jumps inside.jumps at target inside.word word (omega (arith, inside.low, inside.text.low))
        (omega (arith, inside.high, inside.text.high)) low high

    -- that of a call of a routine
    pub routine_reaches : (routine : Routine) → words_of_routine forms.jumps routine ≤ words → (target : ℕ) → target % 4 ≡ 0
        → map.runtime ≤ target → target ≤ map.constants.first → RoutineReaches forms.jumps routine at target
    routine_reaches Drop few target word low high =
        jump_reaches forms.jumps inside.jumps (at + 24) target (omega (arith, inside.word)) word
        (omega (arith, inside.low, inside.text.low)) (omega (arith, inside.high, inside.text.high, few)) low high
    routine_reaches Take few target word low high = text_reaches target word low high
    routine_reaches PrintInt few target word low high = text_reaches target word low high
    routine_reaches PrintText few target word low high = text_reaches target word low high
    routine_reaches ReadByte few target word low high = text_reaches target word low high

    -- and to a label of its own
    pub label_reaches : (l target : ℕ) → label_address forms l start whole ≡ Some target → JumpReaches forms.jumps at target
    label_reaches l target is =
        let label = label_between forms l start whole target is inside.text.word in
        text_reaches target label.word (omega (arith, label.low, inside.text.low))
        (omega (arith, label.high, inside.text.high))

  -- a jump that a branch leads over reaches a label
  over_jump : (forms : Forms) (start : ℕ) (whole : List PlacedLine) (at target : ℕ)
      → IsInFunction map forms start whole at (1 + words_of_jump forms.jumps)
      → IsBetween start (words_of_lines forms whole) target → JumpReaches forms.jumps (at + 4) target
  over_jump forms start whole at target inside label =
      jump_reaches forms.jumps inside.jumps (at + 4) target (omega (arith, inside.word)) label.word
      (omega (arith, inside.low, inside.text.low)) (omega (arith, inside.high, inside.text.high))
      (omega (arith, label.low, inside.text.low)) (omega (arith, label.high, inside.text.high))

  branch_by : (forms : Forms) (start : ℕ) (whole : List PlacedLine) (at target : ℕ) (reach : Reach) → forms.branches ≡ reach
      → IsInFunction map forms start whole at (words_of_branch forms.jumps reach)
      → IsBetween start (words_of_lines forms whole) target → BranchReaches forms.jumps reach at target
  branch_by forms start whole at target Near is inside label =
      let short = inside.short is in
      let below = charts.below in
      let ends = inside.text.high in
      let low = inside.low in
      let high = inside.high in
      let label_low = label.low in
      let label_high = label.high in
      record {
        at_word = inside.word;
        target_word = label.word;
        forth = omega arith;
        back = omega arith;
        at_below = omega arith;
        target_below = omega arith;
      }
  branch_by forms start whole at target Far is inside label = over_jump forms start whole at target inside label
  branch_by forms start whole at target Wide is inside label = over_jump forms start whole at target inside label

  -- a branch in a function to a label of its own
  pub branch_reaches : {forms : Forms} {start : ℕ} {whole : List PlacedLine} {at : ℕ}
      → IsInFunction map forms start whole at (words_of_branch forms.jumps forms.branches) → (l target : ℕ)
      → label_address forms l start whole ≡ Some target → BranchReaches forms.jumps forms.branches at target
  branch_reaches {forms} {start} {whole} {at} inside l target is =
      branch_by forms start whole at target forms.branches refl inside
      (label_between forms l start whole target is inside.text.word)

-- ---- parts

pub function_front : {map : Map} {forms : Forms} {start : ℕ} {whole : List PlacedLine} {at : ℕ} (first rest : ℕ)
    → IsInFunction map forms start whole at (first + rest) → IsInFunction map forms start whole at first
function_front first rest inside =
    record {
      jumps = inside.jumps;
      text = inside.text;
      short = inside.short;
      word = inside.word;
      low = inside.low;
      high = omega (arith, inside.high);
    }

pub function_back : {map : Map} {forms : Forms} {start : ℕ} {whole : List PlacedLine} {at : ℕ} (first rest : ℕ)
    → IsInFunction map forms start whole at (first + rest) → IsInFunction map forms start whole (at + 4 * first) rest
function_back first rest inside =
    record {
      jumps = inside.jumps;
      text = inside.text;
      short = inside.short;
      word = omega (arith, inside.word);
      low = omega (arith, inside.low);
      high = omega (arith, inside.high);
    }

pub text_front : {map : Map} {at : ℕ} (first rest : ℕ) → IsInText map at (first + rest) → IsInText map at first
text_front first rest inside = record { word = inside.word; low = inside.low; high = omega (arith, inside.high) }

pub text_back : {map : Map} {at : ℕ} (first rest : ℕ) → IsInText map at (first + rest) → IsInText map (at + 4 * first) rest
text_back first rest inside =
    record { word = omega (arith, inside.word); low = omega (arith, inside.low); high = omega (arith, inside.high) }
