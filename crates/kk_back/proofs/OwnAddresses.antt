-- Each form that has lines of its own in assembler code has the addresses of these lines in its image. The image comes to them, and
-- follows the counted machine.
use Rattle.std.proofs.Common.{◌≡◌, ◌≢◌, ◌+◌, ◌*◌, ◌%◌, ◌<◌, ◌≤◌, ℕ, Bool, true, false, ◌||◌, List, [], ◌∷◌, All, map, ◌⊎◌, inl, inr}
use Rattle.std.proofs.Common.{refl, sym, ap, subst, ◌∙◌}
use Rattle.std.specs.Prelude.{◌==◌}
use Rattle.std.proofs.lemmas.Bool.{both_ways, eqb-true, eq-eqb}
use Rattle.kk_base.specs.Machines.{state, trace}
use Rattle.kk_syntax.specs.Shapes.{is_among}
use Rattle.kk_source.specs.State.{Environment}
use Rattle.kk_counted.specs.BareForms.{bare_program}
use Rattle.kk_counted.specs.CodePlaces.{is_act, IsActAt}
use Rattle.kk_counted.specs.CountedCodes.{Counted, CountedProgram}
use Rattle.kk_counted.specs.CountedCosts.{roomy_cost}
use Rattle.kk_counted.specs.CountedStates.{CountedSetting, CountedJoin, running, counted_first_state}
use Rattle.kk_counted.specs.Keeping.{counted_after}
use Rattle.kk_counted.specs.TokenedCodes.{TokenedProgram}
use Rattle.cell_runtime.specs.Sizes.{runtime_words}
use Rattle.elf_image.specs.Parts.{memory_of}
use Rattle.elf_image.specs.declared.part.Part.{Part}
use Rattle.rv_cells.specs.FormLines.{HaveOwnLines, ComesToItsLines, FollowsEachState}
use Rattle.rv_cells.specs.Layout.{Layout}
use Rattle.rv_cells.specs.Meaning.{setting_on}
use Rattle.rv_cells.specs.TokenedMeaning.{roomy_outside}
use Rattle.rv_isa.specs.AsmCode.{Lines}
use Rattle.rv_isa.specs.AsmMachine.{asm_machine, asm_start}
use Rattle.rv_isa.specs.Execution.{rv32im, run}
use Rattle.rv_isa.specs.Primitives.{stuck}
use Rattle.rv_isa.specs.Processor.{Processor, can_fetch, start, goes}
use Rattle.rv_isa.specs.ProcessorMachine.{processor_machine}
use Rattle.cell_runtime.specs.Operations.{Constants}
use Rattle.cell_runtime.specs.World.{first_world, primitives}
use Rattle.kk_back.specs.Assembled.{IsAsmImage}
use Rattle.kk_back.specs.Images.{counted_setting, HasHeap, HasOwnAddresses}

-- ---- numbers that are made of numbers

-- one of two is true
one_of : (a b : Bool) → (a || b) ≡ true → (a ≡ true) ⊎ (b ≡ true)
one_of true b any = inl refl
one_of false b any = inr any

later : (a b : Bool) → b ≡ true → (a || b) ≡ true
later true b is = refl
later false b is = is

module _ (h : ℕ → ℕ) where
  -- what is made of a number that is among some is among what is made of these
  made_among : (xs : List ℕ) (k : ℕ) → is_among xs k ≡ true → is_among (map h xs) (h k) ≡ true
  made_among [] k among = absurd (both_ways false refl among)
  made_among (x ∷ xs) k among = elim (one_of (x == k) (is_among xs k) among) [
    | inl here ↦
        let same : h x ≡ h k = ap h (eqb-true x k here) in
        ap (λ b. b || is_among (map h xs) (h k)) (eq-eqb (h x) (h k) same)
    | inr behind ↦ later (h x == h k) (is_among (map h xs) (h k)) (made_among xs k behind)
  ]

  -- and what is among these is made of one of them
  made_of : (xs : List ℕ) (at : ℕ) → is_among (map h xs) at ≡ true → (k : ℕ) × ((is_among xs k ≡ true) × (h k ≡ at))
  made_of [] at among = absurd (both_ways false refl among)
  made_of (x ∷ xs) at among = elim (one_of (h x == at) (is_among (map h xs) at) among) [
    | inl here ↦ (x, (ap (λ b. b || is_among xs x) (eq-eqb x x refl), eqb-true (h x) at here))
    | inr behind ↦
        let rest = made_of xs at behind in
        (rest.0, (later (x == rest.0) (is_among xs rest.0) rest.1.0, rest.1.1))
  ]

-- ---- the addresses of the lines of forms

module _ (functions : List Lines) (texts : List (List ℕ)) (main : Lines) (cells depth entry : ℕ) (parts : List Part)
    (image : IsAsmImage functions texts main cells depth entry parts) (layout : Layout) (tokened : TokenedProgram)
    (own : HaveOwnLines (bare_program tokened) functions) where
  -- the program without its tokens
  abbrev code : CountedProgram
  code = bare_program tokened

  -- the addresses of the lines of a form
  abbrev addresses : ℕ → List ℕ → List ℕ
  addresses f way = map (image.lines.address f) (own.lines f way)

  -- an address of a form is that of one of its lines
  line_at : (f : ℕ) (way : List ℕ) (at : ℕ) → is_among (addresses f way) at ≡ true
      → (k : ℕ) × ((is_among (own.lines f way) k ≡ true) × (image.lines.address f k ≡ at))
  line_at f way at among = made_of (image.lines.address f) (own.lines f way) at among

  address_among : (f : ℕ) (way : List ℕ) (k : ℕ) → is_among (own.lines f way) k ≡ true
      → is_among (addresses f way) (image.lines.address f k) ≡ true
  address_among f way k among = made_among (image.lines.address f) (own.lines f way) k among

  -- each form has one
  some_address : (f : ℕ) (way : List ℕ) (act : Counted) → IsActAt code f way act
      → (at : ℕ) × (is_among (addresses f way) at ≡ true)
  some_address f way act is_act_at =
      let line = own.some f way act is_act_at in
      (image.lines.address f line.0, address_among f way line.0 line.1)

  -- no two forms share one
  addresses_apart : (f g : ℕ) (way other : List ℕ) (at : ℕ) → is_among (addresses f way) at ≡ true
      → is_among (addresses g other) at ≡ true → (f ≡ g) × (way ≡ other)
  addresses_apart f g way other at among among_other =
      let one = line_at f way at among in
      let two = line_at g other at among_other in
      let same : (f ≡ g) × (one.0 ≡ two.0)
      = image.lines.apart f one.0 g two.0 (own.there f way one.0 one.1.0) (own.there g other two.0 two.1.0)
      (one.1.1 ∙ sym two.1.1) in
      let in_one : is_among (own.lines f other) one.0 ≡ true
      = subst (λ (h : ℕ). is_among (own.lines h other) one.0 ≡ true) (sym same.0)
      (subst (λ (k : ℕ). is_among (own.lines g other) k ≡ true) (sym same.1) two.1.0) in
      (same.0, own.apart f way other one.0 one.1.0 in_one)

  -- they lie behind the runtime's words
  addresses_outside : (f : ℕ) (way : List ℕ) (at : ℕ) → is_among (addresses f way) at ≡ true → entry + 4 * runtime_words ≤ at
  addresses_outside f way at among =
      let line = line_at f way at among in
      subst (λ (a : ℕ). entry + 4 * runtime_words ≤ a) line.1.1
      (image.lines.outside f line.0 (own.there f way line.0 line.1.0))

  -- and a word can be fetched at each
  addresses_inside : (f : ℕ) (way : List ℕ) (at : ℕ) → is_among (addresses f way) at ≡ true
      → (at % 4 ≡ 0) × (can_fetch (memory_of parts) at 4 ≡ true)
  addresses_inside f way at among =
      let line = line_at f way at among in
      subst (λ (a : ℕ). (a % 4 ≡ 0) × (can_fetch (memory_of parts) a 4 ≡ true)) line.1.1
      (image.lines.inside f line.0 (own.there f way line.0 line.1.0))

  -- ---- runs

  abbrev constants : Constants
  constants = record { first = image.first; texts = texts }

  abbrev on_pool : CountedSetting
  on_pool = setting_on code image.pool depth

  abbrev setting : CountedSetting
  setting = counted_setting code cells depth

  same_setting : on_pool ≡ setting
  same_setting = ap (λ n. counted_setting code n depth) image.cells_are

  -- the run has told the same events as the counted machine, and memory has the cells of the counted heap
  abbrev IsLike : ℕ → List ℕ → ℕ → CountedSetting → ℕ → Processor → Type 0
  IsLike room input n counted count s =
      (trace (processor_machine rv32im) count (goes (start (memory_of parts) entry input))
      ≡ trace (roomy_outside room counted) n (counted_first_state counted input))
      × HasHeap image.pool layout (counted_after (roomy_cost room) counted input n).heap s

  -- where the counted machine is at a form, the run comes to an address of the form, goes on there, and is like that machine
  abbrev IsThere : ℕ → List ℕ → ℕ → Counted → CountedSetting → Type 0
  IsThere room input n act counted =
      (f : ℕ) × ((way : List ℕ) × (IsActAt code f way act × ((at : ℕ) × ((is_among (addresses f way) at ≡ true)
      × ((count : ℕ) × ((s : Processor) × ((run count (start (memory_of parts) entry input) ≡ goes s) × ((s.pc ≡ at)
      × IsLike room input n counted count s))))))))

  -- the run goes on, and is like the counted machine
  abbrev KeepsUp : ℕ → List ℕ → ℕ → CountedSetting → Type 0
  KeepsUp room input n counted =
      (count : ℕ) × ((s : Processor) × ((run count (start (memory_of parts) entry input) ≡ goes s)
      × IsLike room input n counted count s))

  module _ (comes : (room : ℕ) (input : List ℕ) → All (λ byte. byte < 256) input
      → ComesToItsLines layout code room texts functions main image.pool depth image.first input own
      × FollowsEachState layout code room texts functions main image.pool depth image.first input)
      (never : (input : List ℕ) → All (λ byte. byte < 256) input → (n : ℕ)
      → state (asm_machine (primitives constants image.pool) depth functions) n (asm_start main (first_world image.pool input))
      ≢ stuck) where
    arrives : (room : ℕ) (input : List ℕ) → All (λ byte. byte < 256) input
        → (n : ℕ) (act : Counted) (environment : Environment) (joins : List CountedJoin)
        → (counted_after (roomy_cost room) on_pool input n).control ≡ running act environment joins → is_act act ≡ true
        → IsThere room input n act on_pool
    arrives room input bytes n act environment joins runs acts =
        let (f, (way, (is_act_at, (k, (among, (m, (world, (at_line, (told, heap)))))))))
        = (comes room input bytes).0 n act environment joins runs acts in
        let (count, (s, (goes_on, (pc_is, (events, has))))) =
        image.lines.comes input bytes (never input bytes) m f k world (own.there f way k among) at_line in (
          f,
          (
            way,
            (
              is_act_at,
              (
                image.lines.address f k,
                (address_among f way k among, (count, (s, (goes_on, (pc_is, (events ∙ told, (world.cells, (has, heap)))))))),
              ),
            ),
          ),
        )

    keeps_up : (room : ℕ) (input : List ℕ) → All (λ byte. byte < 256) input
        → (n : ℕ) (form : Counted) (environment : Environment) (joins : List CountedJoin)
        → (counted_after (roomy_cost room) on_pool input n).control ≡ running form environment joins
        → KeepsUp room input n on_pool
    keeps_up room input bytes n form environment joins runs =
        let (m, (high, (there, (told, heap)))) = (comes room input bytes).1 n form environment joins runs in
        let (count, (s, (goes_on, (events, has)))) =
        image.lines.follows input bytes (never input bytes) m high there in
        (count, (s, (goes_on, (events ∙ told, (high.shared.cells, ((has.0, has.1.0), heap))))))

    -- a state of the one setting is one of the other
    on_that : (room : ℕ) (input : List ℕ) (n : ℕ) (form : Counted) (environment : Environment) (joins : List CountedJoin)
        → (counted_after (roomy_cost room) setting input n).control ≡ running form environment joins
        → (counted_after (roomy_cost room) on_pool input n).control ≡ running form environment joins
    on_that room input n form environment joins runs =
        subst (λ (counted : CountedSetting). (counted_after (roomy_cost room) counted input n).control
        ≡ running form environment joins) (sym same_setting) runs

    -- so the image has addresses for the forms
    pub own_addresses : HasOwnAddresses layout tokened cells depth entry parts
    own_addresses = record {
      pool = image.pool;
      cells_are = image.cells_are;
      frame = image.lines.frame;
      fill = image.lines.fill;
      addresses = addresses;
      some = some_address;
      apart = addresses_apart;
      outside = addresses_outside;
      inside = addresses_inside;
      comes = λ room input bytes n act environment joins runs acts.
          subst (IsThere room input n act) same_setting
          (arrives room input bytes n act environment joins (on_that room input n act environment joins runs) acts);
      follows = λ room input bytes n form environment joins runs.
          subst (KeepsUp room input n) same_setting
          (keeps_up room input bytes n form environment joins (on_that room input n form environment joins runs));
    }
