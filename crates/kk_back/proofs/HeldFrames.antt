-- Held tokens stand where frames say, in each form of the code: what memory has of the frames of rotated code it has of those of
-- the code with places, of those of the assembler code with calls in line, and of those of the assembler code.
use Rattle.std.proofs.Common.{◌≡◌, ◌≢◌, ℕ, List, [], ◌∷◌, length, suc, Option, Some}
use Rattle.std.proofs.Common.{None, true, refl, sym, ◌∙◌, ap, subst, ◌⊎◌, inl, inr}
use Rattle.std.specs.Prelude.{unwrap_or}
use Rattle.rv_isa.specs.declared.placed.Listed.{Listed}
use Rattle.rv_isa.specs.declared.placed.Place.TheVariants.{Slot as slot}
use Rattle.rv_isa.specs.AsmCode.{Line, Lines}
use Rattle.rv_isa.specs.Frames.{Frame}
use Rattle.rv_isa.specs.PlacedCode.{PlacedLine, PlacedLines}
use Rattle.rv_isa.specs.ValueBounds.{AreValuesBelow}
use Rattle.cell_heap.specs.View.{Link}
use Rattle.rv_cells.specs.TokenMemory.{HeldCell, held_in, held_cells}
use Rattle.rv_inline.specs.Relation as InLine
use Rattle.rv_inline.proofs.Frames.{wait_length}
use Rattle.rv_loops.specs.Relation as Loops
use Rattle.rv_place.specs.HeldSlots.{HoldsFirst, AreHeld}
use Rattle.rv_regs.specs.Listings.{first_alive, listed_as}
use Rattle.rv_regs.specs.Relation as Regs
use Rattle.kk_back.specs.TokenStates.{AreLinked}

module _ (size end : ℕ) where
  -- ---- rotated code

  -- the held tokens of a frame, by the same words
  same_first : (number : ℕ) (cells other : ℕ → Option ℕ) (ks : List ℕ) (Behind Before : List Link → Type 0)
      → Loops.SameAt ks other cells → ((links : List Link) → Before links → Behind links) → (links : List Link)
      → HoldsFirst size end number other ks Before links → HoldsFirst size end number cells ks Behind links
  same_first number cells other [] Behind Before same later links holds = later links holds
  same_first number cells other (k ∷ ks) Behind Before same later [] holds = absurd holds
  same_first number cells other (k ∷ ks) Behind Before same later (link ∷ links) holds =
      (sym same.0 ∙ holds.0, (holds.1.0, same_first number cells other ks Behind Before same.1 later links holds.1.1))

  module _ (q q' : List PlacedLines) where
    rotated_number : (fs gs : List (Frame PlacedLine)) → Loops.AllWait q q' fs gs → length gs ≡ length fs
    rotated_number [] [] waits = refl
    rotated_number [] (g ∷ gs) waits = absurd waits
    rotated_number (f ∷ fs) [] waits = absurd waits
    rotated_number (f ∷ fs) (g ∷ gs) waits = ap suc (rotated_number fs gs waits.1.1.1)

    -- a frame and those behind it
    rotated_first : (f g : Frame PlacedLine) (fs gs : List (Frame PlacedLine)) → Loops.IsLike q q' f g → length gs ≡ length fs
        → ((links : List Link) → AreHeld size end gs links → AreHeld size end fs links) → (links : List Link)
        → AreHeld size end (g ∷ gs) links → AreHeld size end (f ∷ fs) links
    rotated_first f g fs gs like number later links holds =
        same_first (length fs) f.cells g.cells f.held (AreHeld size end fs) (AreHeld size end gs) like.held_cells later links
        (subst (λ ks. HoldsFirst size end (length fs) g.cells ks (AreHeld size end gs) links) like.held
        (subst (λ n. HoldsFirst size end n g.cells g.held (AreHeld size end gs) links) number holds))

    rotated_waiting : (fs gs : List (Frame PlacedLine)) → Loops.AllWait q q' fs gs → (links : List Link)
        → AreHeld size end gs links → AreHeld size end fs links
    rotated_waiting [] [] waits links holds = holds
    rotated_waiting [] (g ∷ gs) waits links holds = absurd waits
    rotated_waiting (f ∷ fs) [] waits links holds = absurd waits
    rotated_waiting (f ∷ fs) (g ∷ gs) waits links holds =
        rotated_first f g fs gs waits.0 (rotated_number fs gs waits.1.1.1) (rotated_waiting fs gs waits.1.1.1) links holds

    frames_rotated : (IsAt : Loops.Spot) (fs gs : List (Frame PlacedLine)) → Loops.FramesStand q q' IsAt fs gs → (links : List Link)
        → AreHeld size end gs links → AreHeld size end fs links
    frames_rotated IsAt [] [] stand links holds = holds
    frames_rotated IsAt [] (g ∷ gs) stand links holds = absurd stand
    frames_rotated IsAt (f ∷ fs) [] stand links holds = absurd stand
    frames_rotated IsAt (f ∷ fs) (g ∷ gs) stand links holds =
        rotated_first f g fs gs stand.0 (rotated_number fs gs stand.1.1) (rotated_waiting fs gs stand.1.1) links holds

    -- what memory has of the frames of rotated code it has of those of the code
    pub held_before_rotation : (fs gs : List (Frame PlacedLine))
        → Loops.FramesStand q q' Loops.IsAtSame fs gs ⊎ Loops.FramesStand q q' Loops.IsInTurn fs gs → (links : List Link)
        → AreHeld size end gs links → AreHeld size end fs links
    held_before_rotation fs gs (inl stand) links holds = frames_rotated Loops.IsAtSame fs gs stand links holds
    held_before_rotation fs gs (inr stand) links holds = frames_rotated Loops.IsInTurn fs gs stand links holds

  -- ---- code with places

  -- a held value and its slot have the same word
  abbrev AreSame : List Listed → (ℕ → Option ℕ) → (ℕ → Option ℕ) → Type 0
  AreSame alive values slots =
      (v k : ℕ) → listed_as v alive ≡ Some (record { value = v; place = slot k; held = true; copy = None }) → values v ≡ slots k

  -- so the held tokens of a frame are those of its slots
  placed_first : (alive : List Listed) (number : ℕ) (values slots : ℕ → Option ℕ) (vs ks : List ℕ)
      (Behind Before : List Link → Type 0) → Regs.HeldAs alive vs ks → AreSame alive values slots
      → ((links : List Link) → Before links → Behind links) → (links : List Link)
      → HoldsFirst size end number slots ks Before links → HoldsFirst size end number values vs Behind links
  placed_first alive number values slots [] [] Behind Before held same later links holds = later links holds
  placed_first alive number values slots [] (k ∷ ks) Behind Before held same later links holds = absurd held
  placed_first alive number values slots (v ∷ vs) [] Behind Before held same later links holds = absurd held
  placed_first alive number values slots (v ∷ vs) (k ∷ ks) Behind Before held same later [] holds = absurd holds
  placed_first alive number values slots (v ∷ vs) (k ∷ ks) Behind Before held same later (link ∷ links) holds = (
    same v k held.0 ∙ holds.0,
    (holds.1.0, placed_first alive number values slots vs ks Behind Before held.1.1 same later links holds.1.1),
  )

  slot_same : (values slots : ℕ → Option ℕ) (v k : ℕ) → Regs.IsSlotOf values slots v (slot k) → values v ≡ slots k
  slot_same values slots v k (other, place_is, same) = let is : k ≡ other = cc in same ∙ ap slots (sym is)

  -- in a frame that waits
  waits_same : (alive : List Listed) (into to : Option ℕ) (values slots : ℕ → Option ℕ)
      → Regs.WaitsFor alive into to values slots → AreSame alive values slots
  waits_same alive None None values slots waits = λ v k listed.
      slot_same values slots v k (waits v (record { value = v; place = slot k; held = true; copy = None }) listed).1
  waits_same alive None (Some x) values slots waits = absurd waits
  waits_same alive (Some u) None values slots waits = absurd waits
  waits_same alive (Some u) (Some x) values slots waits = λ v k listed.
      by v k (waits v (record { value = v; place = slot k; held = true; copy = None }) listed).1
    where
      by : (v k : ℕ) → ((v ≡ u) × (None ≡ Some x)) ⊎ ((v ≢ u) × Regs.IsSlotOf values slots v (slot k)) → values v ≡ slots k
      by v k (inl awaited) = cc (awaited.1)
      by v k (inr stands) = slot_same values slots v k stands.1

  placed_number : (fs : List (Frame Line)) (gs : List (Frame PlacedLine)) → Regs.AllWait fs gs → length gs ≡ length fs
  placed_number [] [] waits = refl
  placed_number [] (g ∷ gs) waits = absurd waits
  placed_number (f ∷ fs) [] waits = absurd waits
  placed_number (f ∷ fs) (g ∷ gs) waits = ap suc (placed_number fs gs waits.1)

  placed_waiting : (fs : List (Frame Line)) (gs : List (Frame PlacedLine)) → Regs.AllWait fs gs → (links : List Link)
      → AreHeld size end gs links → AreHeld size end fs links
  placed_waiting [] [] waits links holds = holds
  placed_waiting [] (g ∷ gs) waits links holds = absurd waits
  placed_waiting (f ∷ fs) [] waits links holds = absurd waits
  placed_waiting (f ∷ fs) (g ∷ gs) waits links holds =
      placed_first (first_alive g.code) (length fs) f.cells g.cells f.held g.held (AreHeld size end fs) (AreHeld size end gs)
      waits.0.held (waits_same (first_alive g.code) f.into g.into f.cells g.cells waits.0.awaits) (placed_waiting fs gs waits.1)
      links
      (subst (λ n. HoldsFirst size end n g.cells g.held (AreHeld size end gs) links) (placed_number fs gs waits.1) holds)

  -- what memory has of the frames of code with places it has of those of the assembler code
  pub held_before_places : (registers : ℕ → Option ℕ) (fs : List (Frame Line)) (gs : List (Frame PlacedLine))
      → Regs.FramesStand registers fs gs → (links : List Link) → AreHeld size end gs links → AreHeld size end fs links
  held_before_places registers [] gs stand links holds = absurd stand
  held_before_places registers (f ∷ fs) [] stand links holds = absurd stand
  held_before_places registers (f ∷ fs) (g ∷ gs) stand links holds =
      placed_first (first_alive g.code) (length fs) f.cells g.cells f.held g.held (AreHeld size end fs) (AreHeld size end gs)
      stand.0.held
      (λ v k listed. (stand.0.holds v (record { value = v; place = slot k; held = true; copy = None }) listed).0)
      (placed_waiting fs gs stand.1) links
      (subst (λ n. HoldsFirst size end n g.cells g.held (AreHeld size end gs) links) (placed_number fs gs stand.1) holds)

  -- ---- code with calls in line

  -- the held tokens of a frame, by the same words below a number
  below_first : (number base : ℕ) (cells other : ℕ → Option ℕ) (ks : List ℕ) (Behind Before : List Link → Type 0)
      → InLine.SameBelow base cells other → AreValuesBelow base ks → ((links : List Link) → Before links → Behind links)
      → (links : List Link) → HoldsFirst size end number other ks Before links → HoldsFirst size end number cells ks Behind links
  below_first number base cells other [] Behind Before same below later links holds = later links holds
  below_first number base cells other (k ∷ ks) Behind Before same below later [] holds = absurd holds
  below_first number base cells other (k ∷ ks) Behind Before same below later (link ∷ links) holds = (
    sym (same k below.0) ∙ holds.0,
    (holds.1.0, below_first number base cells other ks Behind Before same below.1 later links holds.1.1),
  )

  module _ (q q' : List Lines) where
    -- a frame and those behind it
    inlined_first : (base : ℕ) (f g : Frame Line) (fs gs : List (Frame Line)) → InLine.IsLike q q' base f g
        → length gs ≡ length fs → ((links : List Link) → AreHeld size end gs links → AreHeld size end fs links)
        → (links : List Link) → AreHeld size end (g ∷ gs) links → AreHeld size end (f ∷ fs) links
    inlined_first base f g fs gs like number later links holds =
        below_first (length fs) base f.cells g.cells f.held (AreHeld size end fs) (AreHeld size end gs) like.cells like.held_below
        later links
        (subst (λ ks. HoldsFirst size end (length fs) g.cells ks (AreHeld size end gs) links) like.held
        (subst (λ n. HoldsFirst size end n g.cells g.held (AreHeld size end gs) links) number holds))

    inlined_waiting : (fs gs : List (Frame Line)) → InLine.AllWait q q' fs gs → (links : List Link)
        → AreHeld size end gs links → AreHeld size end fs links
    inlined_waiting [] [] waits links holds = holds
    inlined_waiting [] (g ∷ gs) waits links holds = absurd waits
    inlined_waiting (f ∷ fs) [] waits links holds = absurd waits
    inlined_waiting (f ∷ fs) (g ∷ gs) waits links holds =
        inlined_first waits.0.0 f g fs gs waits.0.1.0 (wait_length q q' fs gs waits.1) (inlined_waiting fs gs waits.1) links holds

    standing_inlined : (fs gs : List (Frame Line)) → InLine.FramesStand q q' fs gs → (links : List Link)
        → AreHeld size end gs links → AreHeld size end fs links
    standing_inlined [] [] stand links holds = holds
    standing_inlined [] (g ∷ gs) stand links holds = absurd stand
    standing_inlined (f ∷ fs) [] stand links holds = absurd stand
    standing_inlined (f ∷ fs) (g ∷ gs) stand links holds =
        inlined_first stand.0.0 f g fs gs stand.0.1.0 (wait_length q q' fs gs stand.1) (inlined_waiting fs gs stand.1) links holds

    -- the frame of a leaf holds nothing
    called_inlined : (fs gs : List (Frame Line)) → InLine.FramesInCall q q' fs gs → (links : List Link)
        → AreHeld size end gs links → AreHeld size end fs links
    called_inlined [] gs call links holds = absurd call
    called_inlined (h ∷ []) gs call links holds = absurd call
    called_inlined (h ∷ f ∷ fs) [] call links holds = absurd call
    called_inlined (h ∷ f ∷ fs) (g ∷ gs) call links holds =
        subst (λ ks. HoldsFirst size end (length (f ∷ fs)) h.cells ks (AreHeld size end (f ∷ fs)) links)
        (sym call.0.1.1.none_held)
        (inlined_first call.0.0 f g fs gs call.0.1.0 (wait_length q q' fs gs call.1) (inlined_waiting fs gs call.1) links holds)

    -- what memory has of the frames of code with calls in line it has of those of the code
    pub held_before_calls : (fs gs : List (Frame Line)) → InLine.FramesStand q q' fs gs ⊎ InLine.FramesInCall q q' fs gs
        → (links : List Link) → AreHeld size end gs links → AreHeld size end fs links
    held_before_calls fs gs (inl stand) links holds = standing_inlined fs gs stand links holds
    held_before_calls fs gs (inr call) links holds = called_inlined fs gs call links holds

  -- ---- links

  linked_first : (number : ℕ) (cells : ℕ → Option ℕ) (ks : List ℕ) (helds : List HeldCell) (Behind : List Link → Type 0)
      → ((links : List Link) → Behind links → AreLinked size end helds links) → (links : List Link)
      → HoldsFirst size end number cells ks Behind links → AreLinked size end (held_in number cells ks helds) links
  linked_first number cells [] helds Behind later links holds = later links holds
  linked_first number cells (k ∷ ks) helds Behind later [] holds = absurd holds
  linked_first number cells (k ∷ ks) helds Behind later (link ∷ links) holds = (
    sym (ap (λ word. unwrap_or word 0) holds.0),
    (holds.1.0, linked_first number cells ks helds Behind later links holds.1.1),
  )

  -- the links are the held tokens of the frames
  pub frames_linked : {C : Type 0} (frames : List (Frame C)) (links : List Link) → AreHeld size end frames links
      → AreLinked size end (held_cells frames) links
  frames_linked [] links holds = subst (AreLinked size end []) (sym holds) tt
  frames_linked (frame ∷ frames) links holds =
      linked_first (length frames) frame.cells frame.held (held_cells frames) (AreHeld size end frames) (frames_linked frames) links
      holds
