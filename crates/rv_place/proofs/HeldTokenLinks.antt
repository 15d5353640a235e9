-- The held tokens that frames tell of: where their slots lie, and what changes them.
use Rattle.std.proofs.Common.{◌≡◌, ◌≢◌, ◌==◌, ◌||◌, ◌≤◌, ◌<◌, ◌⊎◌, inl, inr, ℕ, suc, ◌+◌, ◌^◌, List, [], ◌∷◌, length, map}
use Rattle.std.proofs.Common.{Option, Some, None, Bool, true, false, option_map, refl, sym, ap, ◌∙◌, subst, arith, lit<, eq-eqb}
use Rattle.std.specs.List.{list_any}
use Rattle.std.proofs.lemmas.Bool.{or_parts, or_from, or_left, or_right, ne_eqb, cond-false, false≢true}
use Rattle.rv_isa.specs.PlacedCode.{PlacedLine}
use Rattle.rv_isa.specs.Conventions.{is_handed_out, one_register, header_register}
use Rattle.rv_isa.specs.Frames.{Frame, put, top, top_in, top_taken, taken_in, is_among}
use Rattle.rv_isa.specs.Bytes.{number_at}
use Rattle.rv_isa.specs.Processor.{Processor}
use Rattle.rv_isa.specs.Standing.{Code}
use Rattle.cell_heap.specs.Cells.{occurs}
use Rattle.cell_heap.specs.Pool.{Pool}
use Rattle.cell_heap.specs.View.{Link}
use Rattle.cell_heap.specs.Blocks.{Cells}
use Rattle.cell_heap.specs.ProgramMemory.{HoldsCells, SameRoots}
use Rattle.cell_heap.proofs.Sums.{occurs-none, occurs-first, occurs-by}
use Rattle.cell_heap.proofs.Frames.{SameSlots}
use Rattle.cell_heap.proofs.Blocks.{outside-holds}
use Rattle.cell_runtime.specs.Registers.{IsOutside}
use Rattle.cell_runtime.specs.Calls.{KeepsOutside, Exits}
use Rattle.cell_runtime.proofs.Blocks.{word_kept}
use Rattle.rv_place.specs.Addresses.{slot_offset, way_offset}
use Rattle.rv_place.specs.Lines.{Map}
use Rattle.rv_place.specs.ProcessorStates.{IsIn, Slots, FramesAt, word_of, links_in, links_of}
use Rattle.rv_place.proofs.InstructionExecution.{Done}
use Rattle.rv_place.proofs.FrameMemory.{handed_apart, known_put, slots_kept, frames_kept}

abbrev pub slots_in : List Link → List ℕ
slots_in links = map (λ link. link.slot) links

-- ---- the registers of the runtime

-- the registers of the chains, the border and the end of the cells
abbrev pub is_own : ℕ → Bool
is_own x = (x == 8) || ((x == 9) || ((x == 18) || (x == 19)))

pub outside_own : (x : ℕ) → is_own x ≡ true → (changed : List ℕ) → list_any is_own changed ≡ false → IsOutside x changed
outside_own x own [] none = tt
outside_own x own (y ∷ ys) none =
    let both = or_parts (is_own y) (list_any is_own ys) none in
    ((λ e. false≢true (sym both.0 ∙ ap is_own (sym e) ∙ own)), outside_own x own ys both.1)

-- these, and those that hold a word always
abbrev pub is_fixed : ℕ → Bool
is_fixed x = (x == one_register) || ((x == header_register) || is_own x)

pub outside_fixed : (x : ℕ) → is_fixed x ≡ true → (changed : List ℕ) → list_any is_fixed changed ≡ false → IsOutside x changed
outside_fixed x fixed [] none = tt
outside_fixed x fixed (y ∷ ys) none =
    let both = or_parts (is_fixed y) (list_any is_fixed ys) none in
    ((λ e. false≢true (sym both.0 ∙ ap is_fixed (sym e) ∙ fixed)), outside_fixed x fixed ys both.1)

pub none_own : (changed : List ℕ) → list_any is_fixed changed ≡ false → list_any is_own changed ≡ false
none_own [] none = refl
none_own (y ∷ ys) none =
    let both = or_parts (is_fixed y) (list_any is_fixed ys) none in
    let constants = or_parts (y == one_register) _ both.0 in
    or_from (is_own y) (list_any is_own ys) (or_parts (y == header_register) (is_own y) constants.1).1 (none_own ys both.1)

-- a register that is handed out is none of the runtime's
pub handed_own : (x : ℕ) → is_handed_out x ≡ true → is_own x ≡ false
handed_own x handed =
    or_from (x == 8) _ (ne_eqb x 8 (handed_apart x 8 refl handed))
    (or_from (x == 9) _ (ne_eqb x 9 (handed_apart x 9 refl handed))
    (or_from (x == 18) _ (ne_eqb x 18 (handed_apart x 18 refl handed)) (ne_eqb x 19 (handed_apart x 19 refl handed))))

pub roots_done : {cells : ℕ} {code : Code} {n : ℕ} {changed : List ℕ} {memory : ℕ → ℕ} {next : ℕ} {s u : Processor}
    → Done cells code n changed memory next s u → list_any is_own changed ≡ false → SameRoots s u
roots_done {changed = changed} done none = record {
  parts = done.parts_are;
  chain = done.kept 8 (outside_own 8 refl changed none);
  held = done.kept 9 (outside_own 9 refl changed none);
  border = done.kept 18 (outside_own 18 refl changed none);
  end = done.kept 19 (outside_own 19 refl changed none);
}

-- where memory is as before
pub cells_done : {pool : Pool} {cells : Cells} {links : List Link} {s u : Processor} → HoldsCells pool cells links s
    → SameRoots s u → u.memory ≡ s.memory → HoldsCells pool cells links u
cells_done holds roots same =
    outside-holds holds roots (record { same = λ x low high. ap (λ m. number_at m x 4) same })
    (record { same = λ slot some. ap (λ m. number_at m slot 4) same })

-- at an exit the cells are as before
pub cells_ended : {pool : Pool} {cells : Cells} {links : List Link} {code : Code} {number count : ℕ} {u : Processor}
    → HoldsCells pool cells links u → (exits : Exits code number count u) → HoldsCells pool cells links exits.last
cells_ended holds exits =
    cells_done holds (record {
      parts = exits.parts;
      chain = exits.registers 8 ((λ e. cc), ((λ e. cc), tt));
      held = exits.registers 9 ((λ e. cc), ((λ e. cc), tt));
      border = exits.registers 18 ((λ e. cc), ((λ e. cc), tt));
      end = exits.registers 19 ((λ e. cc), ((λ e. cc), tt));
    }) exits.memory

-- ---- where the slots lie

links_in_all : (P : ℕ → Type 0) (base : ℕ) (cells : ℕ → Option ℕ) (held : List ℕ) (below : List Link)
    → ((k : ℕ) → is_among k held ≡ true → P (base + slot_offset k))
    → ((slot : ℕ) → occurs slot (slots_in below) ≢ 0 → P slot) → (slot : ℕ)
    → occurs slot (slots_in (links_in base cells held below)) ≢ 0 → P slot
links_in_all P base cells [] below here later slot some = later slot some
links_in_all P base cells (k ∷ ks) below here later slot some =
    elim (occurs-by slot (base + slot_offset k) (slots_in (links_in base cells ks below)) some) [
      | inl e ↦ subst P (sym e) (here k (or_left (k == k) (is_among k ks) (eq-eqb k k refl)))
      | inr more ↦ links_in_all P base cells ks below (λ j among. here j (or_right (k == j) (is_among j ks) among)) later slot more
    ]

-- in the newest frame and above
pub links_low : (map : Map) (base : ℕ) (frames : List (Frame PlacedLine)) (slot : ℕ)
    → occurs slot (slots_in (links_of map base frames)) ≢ 0 → base ≤ slot
links_low map base [] slot some = absurd (some refl)
links_low map base (frame ∷ frames) slot some =
    links_in_all (λ x. base ≤ x) base frame.cells frame.held (links_of map (base + map.frame) frames) (λ k among. omega arith)
    (λ x more. let low = links_low map (base + map.frame) frames x more in omega arith) slot some

-- a store below the frames leaves the slots
pub slots_below : (map : Map) (base : ℕ) (frames : List (Frame PlacedLine)) (old new : ℕ → ℕ)
    → ((x : ℕ) → base ≤ x → number_at new x 4 ≡ number_at old x 4) → SameSlots old new (links_of map base frames)
slots_below map base frames old new same = record { same = λ slot some. same slot (links_low map base frames slot some) }

-- ---- a store to a slot of the newest frame

among_not : (j k : ℕ) (ks : List ℕ) → is_among j ks ≡ false → is_among k ks ≡ true → k ≢ j
among_not j k ks none some same = false≢true (sym none ∙ ap (λ x. is_among x ks) (sym same) ∙ some)

pub links_put : (base j : ℕ) (word : Option ℕ) (cells : ℕ → Option ℕ) (held : List ℕ) (below : List Link) → is_among j held ≡ false
    → links_in base (put j word cells) held below ≡ links_in base cells held below
links_put base j word cells [] below none = refl
links_put base j word cells (k ∷ ks) below none =
    let both = or_parts (k == j) (is_among j ks) none in
    ap (λ w. record { cell = word_of w; slot = base + slot_offset k } ∷ links_in base (put j word cells) ks below)
    (cond-false (k == j) word (cells k) both.0)
    ∙ ap (λ ls. record { cell = word_of (cells k); slot = base + slot_offset k } ∷ ls) (links_put base j word cells ks below both.1)

-- the slots of held tokens are apart from another slot
pub slots_apart : (map : Map) (base j : ℕ) (frame : Frame PlacedLine) (frames : List (Frame PlacedLine))
    → slot_offset j + 4 ≤ way_offset map.frame → is_among j frame.held ≡ false
    → (slot : ℕ) → occurs slot (slots_in (links_of map base (frame ∷ frames))) ≢ 0
    → (slot + 4 ≤ base + slot_offset j) ⊎ (base + slot_offset j + 4 ≤ slot)
slots_apart map base j frame frames inside none =
    links_in_all (λ x. (x + 4 ≤ base + slot_offset j) ⊎ (base + slot_offset j + 4 ≤ x)) base frame.cells frame.held
    (links_of map (base + map.frame) frames)
    (λ k among. aside k (among_not j k frame.held none among))
    (λ x more. let low = links_low map (base + map.frame) frames x more in inr (omega arith))
  where
    aside : (k : ℕ) → k ≢ j → (base + slot_offset k + 4 ≤ base + slot_offset j) ⊎ (base + slot_offset j + 4 ≤ base + slot_offset k)
    aside k differ = grind arith

-- ---- the newest held token is taken

-- code that is left does not depend on words and held tokens
pub is_in_again : {map : Map} {code : Code} {most at : ℕ} {frame : Frame PlacedLine} → IsIn map code most at frame
    → (cells : ℕ → Option ℕ) (held : List ℕ) → IsIn map code most at (record frame { cells = cells; held = held })
is_in_again i cells held = record {
  forms = i.forms;
  start = i.start;
  start_word = i.start_word;
  whole = i.whole;
  here = i.here;
  at_word = i.at_word;
  below = i.below;
  whole_plain = i.whole_plain;
  plain = i.plain;
  few_whole = i.few_whole;
  few = i.few;
  takes = i.takes;
  entry = i.entry;
  entry_is = i.entry_is;
  start_is = i.start_is;
  forms_are = i.forms_are;
  place = i.place;
}

known_word : (o : Option ℕ) → word_of o ≢ 0 → o ≡ Some (word_of o)
known_word None some = absurd (some refl)
known_word (Some w) some = refl

none_again : (base k : ℕ) (cells : ℕ → Option ℕ) (ks : List ℕ) (below : List Link)
    → occurs (base + slot_offset k) (slots_in (links_in base cells ks below)) ≡ 0 → is_among k ks ≡ false
none_again base k cells [] below none = refl
none_again base k cells (j ∷ js) below none =
    let both = occurs-none (base + slot_offset k) (base + slot_offset j) (slots_in (links_in base cells js below)) none in
    or_from (j == k) (is_among k js) (ne_eqb j k (λ e. both.0 (ap (λ x. base + slot_offset x) (sym e))))
    (none_again base k cells js below both.1)

-- The frames from which the newest held token was taken.
pub record TakenFrames (map : Map) (code : Code) (most stop roof : ℕ) (memory : ℕ
    → ℕ) (at base : ℕ) (frames : List (Frame PlacedLine)) (link : Link) (left : List Link) : Type 0 where
  pub after : List (Frame PlacedLine)
  pub taken_is : top_taken frames ≡ Some after
  pub top_is : top frames ≡ Some link.cell
  pub links_are : links_of map base after ≡ left
  pub stand : FramesAt map code most stop roof memory at base after
  pub size : length after ≡ length frames

module _ (map : Map) (code : Code) (most stop roof : ℕ) (some : 4 ≤ map.frame) (s t : Processor) (link : Link) (left : List Link)
    (cell : link.cell ≢ 0) (once : occurs link.slot (slots_in left) ≡ 0)
    (zero : number_at t.memory link.slot 4 ≡ 0) (keeps : KeepsOutside link.slot 4 s t) where
  -- it is one of the newest frame's
  taken_here : (at base : ℕ) (frame : Frame PlacedLine) (frames : List (Frame PlacedLine)) (k : ℕ) (ks : List ℕ)
      → frame.held ≡ k ∷ ks
      → record { cell = word_of (frame.cells k); slot = base + slot_offset k } ∷ links_in base frame.cells ks
      (links_of map (base + map.frame) frames) ≡ link ∷ left
      → FramesAt map code most stop roof s.memory at base (frame ∷ frames)
      → TakenFrames map code most stop roof t.memory at base (frame ∷ frames) link left
  taken_here at base frame frames k ks held_is newest stand =
      let cells = frame.cells in
      let below = links_of map (base + map.frame) frames in
      let head : record { cell = word_of (cells k); slot = base + slot_offset k } ≡ link = cc in
      let tail : links_in base cells ks below ≡ left = cc in
      let cell_is : word_of (cells k) ≡ link.cell = ap (λ (l : Link). l.cell) head in
      let slot_is : base + slot_offset k ≡ link.slot = ap (λ (l : Link). l.slot) head in
      let known : cells k ≡ Some (word_of (cells k)) = known_word (cells k) (λ e. cell (sym cell_is ∙ e)) in
      let inside : slot_offset k + 4 ≤ way_offset map.frame = (stand.1 k (word_of (cells k)) known).0 in
      let only : is_among k ks ≡ false =
      none_again base k cells ks below
      (subst (λ x. occurs x (slots_in (links_in base cells ks below)) ≡ 0) (sym slot_is)
      (subst (λ ls. occurs link.slot (slots_in ls) ≡ 0) (sym tail) once)) in
      let way : number_at t.memory (base + way_offset map.frame) 4 ≡ number_at s.memory (base + way_offset map.frame) 4 = word_kept link.slot 4 s t (base + way_offset map.frame) keeps (inr (omega arith)) in
      let rest = frames_kept map code most stop roof some s.memory t.memory (number_at s.memory (base + way_offset map.frame) 4) (base + map.frame) frames
      (λ x low high. word_kept link.slot 4 s t x keeps (inr (omega arith))) stand.3 in
      record {
        after = record frame { cells = put k (Some 0) cells; held = ks } ∷ frames;
        taken_is = ap (λ h. taken_in h frame frames (top_taken frames)) held_is;
        top_is = ap (λ h. top_in h cells (top frames)) held_is ∙ known ∙ ap (λ w. Some w) cell_is;
        links_are = links_put base k (Some 0) cells ks below only ∙ tail;
        stand = (
          is_in_again stand.0 (put k (Some 0) cells) ks,
          (λ j w is. slot_word at base frame frames k slot_is inside stand.1 j w (known_put k (Some 0) cells j w is)),
          stand.2,
          subst (λ w. FramesAt map code most stop roof t.memory w (base + map.frame) frames) (sym way) rest,
        );
        size = refl;
      }
    where
      slot_word : (at base : ℕ) (frame : Frame PlacedLine) (frames : List (Frame PlacedLine)) (k : ℕ)
          → base + slot_offset k ≡ link.slot → slot_offset k + 4 ≤ way_offset map.frame → Slots map s.memory base frame.cells
          → (j w : ℕ) → ((j ≡ k) × (Some 0 ≡ Some w)) ⊎ ((j ≢ k) × (frame.cells j ≡ Some w))
          → (slot_offset j + 4 ≤ way_offset map.frame) × (number_at t.memory (base + slot_offset j) 4 ≡ w) × (w < 2 ^ 32)
      slot_word at base frame frames k slot_is inside slots j w (inl here) =
          let none : 0 ≡ w = cc (here.1) in
          let there : number_at t.memory (base + slot_offset j) 4 ≡ 0 = ap
          (λ i. number_at t.memory (base + slot_offset i) 4) here.0 ∙ ap (λ x. number_at t.memory x 4) slot_is ∙ zero in
          (subst (λ i. slot_offset i + 4 ≤ way_offset map.frame) (sym here.0) inside, there ∙ none, subst (λ v. v < 2 ^ 32) none (lit< tt))
      slot_word at base frame frames k slot_is inside slots j w (inr other) =
          let old = slots j w other.1 in
          (old.0, word_kept link.slot 4 s t (base + slot_offset j) keeps (aside other.0) ∙ old.1, old.2)
        where
          aside : j ≢ k → (base + slot_offset j + 4 ≤ link.slot) ⊎ (link.slot + 4 ≤ base + slot_offset j)
          aside differ = subst (λ x. (base + slot_offset j + 4 ≤ x) ⊎ (x + 4 ≤ base + slot_offset j)) slot_is (by differ)
            where
              by : j ≢ k → (base + slot_offset j + 4 ≤ base + slot_offset k) ⊎ (base + slot_offset k + 4 ≤ base + slot_offset j)
              by differ = grind arith

  pub frames_taken : (at base : ℕ) (frames : List (Frame PlacedLine)) → links_of map base frames ≡ link ∷ left
      → FramesAt map code most stop roof s.memory at base frames
      → TakenFrames map code most stop roof t.memory at base frames link left
  frames_taken at base [] newest stand = cc
  frames_taken at base (frame ∷ frames) newest stand = by frame.held refl
      (frames_taken (number_at s.memory (base + way_offset map.frame) 4) (base + map.frame) frames)
    where
      by : (held : List ℕ) → frame.held ≡ held
          → (links_of map (base + map.frame) frames ≡ link ∷ left
          → FramesAt map code most stop roof s.memory (number_at s.memory (base + way_offset map.frame) 4) (base + map.frame) frames
          → TakenFrames map code most stop roof t.memory (number_at s.memory (base + way_offset map.frame) 4) (base + map.frame) frames link left)
          → TakenFrames map code most stop roof t.memory at base (frame ∷ frames) link left
      by [] held_is older =
          let below : links_of map (base + map.frame) frames ≡ link ∷ left = ap
          (λ h. links_in base frame.cells h (links_of map (base + map.frame) frames)) (sym held_is) ∙ newest in
          let rest = older below stand.3 in
          let there : base + map.frame ≤ link.slot =
          links_low map (base + map.frame) frames link.slot
          (subst (λ ls. occurs link.slot (slots_in ls) ≢ 0) (sym below) (occurs-first link.slot (slots_in left))) in
          let way : number_at t.memory (base + way_offset map.frame) 4 ≡ number_at s.memory (base + way_offset map.frame) 4 = word_kept link.slot 4 s t (base + way_offset map.frame) keeps
          (inl (omega arith)) in
          record {
            after = frame ∷ rest.after;
            taken_is = ap (λ h. taken_in h frame frames (top_taken frames)) held_is
                ∙ ap (option_map (λ later. frame ∷ later)) rest.taken_is;
            top_is = ap (λ h. top_in h frame.cells (top frames)) held_is ∙ rest.top_is;
            links_are = ap (λ h. links_in base frame.cells h (links_of map (base + map.frame) rest.after)) held_is ∙ rest.links_are;
            stand = (
              stand.0,
              slots_kept map code most stop roof s.memory t.memory base frame.cells
                  (λ x low high. word_kept link.slot 4 s t x keeps (inl (omega arith))) stand.1,
              stand.2,
              subst (λ w. FramesAt map code most stop roof t.memory w (base + map.frame) rest.after) (sym way) rest.stand,
            );
            size = ap suc rest.size;
          }
      by (k ∷ ks) held_is older =
          taken_here at base frame frames k ks held_is
          (ap (λ h. links_in base frame.cells h (links_of map (base + map.frame) frames)) (sym held_is) ∙ newest) stand

-- where no token is held there is no newest one
pub top_none : (map : Map) (base : ℕ) (frames : List (Frame PlacedLine)) → links_of map base frames ≡ [] → top frames ≡ None
top_none map base [] none = refl
top_none map base (frame ∷ frames) none = by frame.held refl (top_none map (base + map.frame) frames)
  where
    by : (held : List ℕ) → frame.held ≡ held → (links_of map (base + map.frame) frames ≡ [] → top frames ≡ None)
        → top (frame ∷ frames) ≡ None
    by [] held_is later =
        ap (λ h. top_in h frame.cells (top frames)) held_is
        ∙ later (ap (λ h. links_in base frame.cells h (links_of map (base + map.frame) frames)) (sym held_is) ∙ none)
    by (k ∷ ks) held_is later = let some = ap (λ h. links_in base frame.cells h (links_of map (base + map.frame) frames))
        (sym held_is) ∙ none in cc some
