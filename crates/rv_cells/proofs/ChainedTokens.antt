-- Where a spot stands for a state of the machine with tokens, the cells and the frames have the tokens of that state.
use Rattle.std.proofs.Common.{◌≡◌, ℕ, suc, ◌+◌, Bool, true, false, List, [], ◌∷◌, length, Option, refl, sym, ◌∙◌, ap, subst}
use Rattle.std.specs.Prelude.{if◌then◌else◌, unwrap_or}
use Rattle.kk_counted.specs.Heaps.{Heap, fields_held}
use Rattle.kk_counted.specs.TokenKeeping.{links_of, chain_of}
use Rattle.kk_counted.specs.TokenStates.{TokenJoin, TokenFrame}
use Rattle.kk_counted.specs.TokenedCodes.{Tokened}
use Rattle.kk_counted.specs.Tokens.{Slot, spent, null, token, is_token, Link, Tokens, is_linked}
use Rattle.cell_heap.specs.Blocks.{Block}
use Rattle.rv_isa.specs.AsmCode.{Line}
use Rattle.rv_isa.specs.Frames.{Frame}
use Rattle.rv_cells.specs.CountedCells.{Owner, cell_of, in_hand, kept_aside, BlockOf}
use Rattle.rv_cells.specs.Layout.{words_in}
use Rattle.rv_cells.specs.TokenMemory.{HeldCell, held_in, held_cells, AreOnChain, IsTokenBlock, HasTokens}
use Rattle.rv_cells.proofs.Spots.{Spot}
use Rattle.rv_cells.proofs.TokenRelation.{Lowering, SlotIs, HaveSlotValues, held_values, IsTokenCell, AllWait, At}

-- ---- chains

module _ (address : ℕ → ℕ) (slots : ℕ → ℕ → Slot) where
  -- a slot of a frame is on the chain, where it has a token, before others
  abbrev IsNext : (f variables y : ℕ) → (ℕ → Option ℕ) → List Link → List ℕ → List HeldCell → Bool → Type 0
  IsNext f variables y values links ks helds there =
      AreOnChain address slots (if there then record { frame = f; slot = y } ∷ links else links)
      (held_in f values (if there then (variables + y) ∷ ks else ks) helds)

  one_held : (f variables y : ℕ) (values : ℕ → Option ℕ) (links : List Link) (ks : List ℕ) (helds : List HeldCell) (slot : Slot)
      → slots f y ≡ slot → SlotIs address slot (values (variables + y))
      → AreOnChain address slots links (held_in f values ks helds) → IsNext f variables y values links ks helds (is_token slot)
  one_held f variables y values links ks helds spent is value older = older
  one_held f variables y values links ks helds null is value older = older
  one_held f variables y values links ks helds (token p) is value older =
      (p, (is, (refl, (ap (λ word. unwrap_or word 0) value, older))))

  -- so are the held slots of a frame
  links_held : (f variables count : ℕ) (values : ℕ → Option ℕ) (links : List Link) (helds : List HeldCell) (ys : List ℕ)
      → HaveSlotValues address (slots f) variables count values → AreOnChain address slots links helds
      → AreOnChain address slots (links_of (slots f) f ys links) (held_in f values (held_values (slots f) variables ys) helds)
  links_held f variables count values links helds [] have older = older
  links_held f variables count values links helds (y ∷ ys) have older =
      one_held f variables y values (links_of (slots f) f ys links) (held_values (slots f) variables ys) helds (slots f y) refl
      (have.are y) (links_held f variables count values links helds ys have older)

-- ---- frames

module _ (program : Lowering) where
  -- as many frames wait as have lists of held slots
  waiting_number : (address : ℕ → ℕ) (next : ℕ) (slots : ℕ → ℕ → Slot) (helds : List (List ℕ)) (frames : List TokenFrame)
      (fs : List (Frame Line)) (awaited : Bool) → AllWait program address next slots helds frames fs awaited
      → length fs ≡ length helds
  waiting_number address next slots [] [] [] awaited waits = refl
  waiting_number address next slots [] [] (f ∷ fs) awaited waits = absurd waits
  waiting_number address next slots [] (waiting ∷ frames) fs awaited waits = absurd waits
  waiting_number address next slots (held ∷ helds) [] fs awaited waits = absurd waits
  waiting_number address next slots (held ∷ helds) (waiting ∷ frames) [] awaited waits = absurd waits
  waiting_number address next slots (held ∷ helds) (waiting ∷ frames) (f ∷ fs) awaited waits =
      ap suc (waiting_number address next slots helds frames fs waits.0.shape.result waits.1)

  -- the frames that wait hold the tokens of their chain
  waiting_chain : (address : ℕ → ℕ) (next : ℕ) (slots : ℕ → ℕ → Slot) (helds : List (List ℕ)) (frames : List TokenFrame)
      (fs : List (Frame Line)) (awaited : Bool) → AllWait program address next slots helds frames fs awaited
      → AreOnChain address slots (chain_of slots helds) (held_cells fs)
  waiting_chain address next slots [] [] [] awaited waits = tt
  waiting_chain address next slots [] [] (f ∷ fs) awaited waits = absurd waits
  waiting_chain address next slots [] (waiting ∷ frames) fs awaited waits = absurd waits
  waiting_chain address next slots (held ∷ helds) [] fs awaited waits = absurd waits
  waiting_chain address next slots (held ∷ helds) (waiting ∷ frames) [] awaited waits = absurd waits
  waiting_chain address next slots (held ∷ helds) (waiting ∷ frames) (f ∷ fs) awaited waits =
      let one = waits.0 in
      let older = waiting_chain address next slots helds frames fs one.shape.result waits.1 in
      let same : length fs ≡ length helds
      = waiting_number address next slots helds frames fs one.shape.result waits.1 in
      subst (λ k. AreOnChain address slots (chain_of slots (held ∷ helds)) (held_in k f.cells f.held (held_cells fs))) (sym same)
      (subst (λ ks. AreOnChain address slots (chain_of slots (held ∷ helds)) (held_in (length helds) f.cells ks (held_cells fs)))
      (sym one.has.held_is)
      (links_held address slots (length helds) one.shape.variables one.shape.slots f.cells (chain_of slots helds) (held_cells fs)
      held one.has.tokens older))

  -- ---- blocks

  -- the block of a token's cell, by what stands at its address
  token_block : (address : ℕ → ℕ) (heap : Heap) (at : ℕ) (block : Block) (linked : Bool) (fields : List ℕ) (owner : Owner)
      → IsTokenCell linked fields owner → BlockOf program.pool program.layout address heap at owner block
      → IsTokenBlock linked fields block
  token_block address heap at block true fields owner is stands =
      let block_is = subst (λ o. BlockOf program.pool program.layout address heap at o block) is.1 stands in
      (is.0, (block_is.1, is.2))
  token_block address heap at block false fields owner is stands =
      let block_is = subst (λ o. BlockOf program.pool program.layout address heap at o block) is.1 stands in
      (is.0, (block_is.1, is.2))

  -- a token's cell is none that is counted
  not_counted : (linked : Bool) (fields : List ℕ) (owner : Owner) (name : ℕ) → IsTokenCell linked fields owner
      → owner ≡ cell_of name → ⊥
  not_counted true fields owner name is counted = let both : kept_aside is.0 ≡ cell_of name = sym is.1 ∙ counted in cc
  not_counted false fields owner name is counted = let both : in_hand is.0 ≡ cell_of name = sym is.1 ∙ counted in cc

  -- ---- spots

  module _ (code : Tokened) (inner : List TokenJoin) (frames : List TokenFrame) (tokens : Tokens) (input : List ℕ) (s : Spot)
      (fs : List (Frame Line)) (left : List Line) where
    -- the cells and the frames of a spot have the tokens of its state
    pub at_tokens : At program code inner frames tokens input s fs left
        → HasTokens program.pool program.layout s.address s.owners s.heap tokens s.world.cells (held_cells (s.frame ∷ fs))
    at_tokens at =
        let older = at.lists.older in
        let pooled = at.judged.are.pooled in
        let same : length fs ≡ length older
        = waiting_number s.address (length s.heap) tokens.slots older frames fs at.shape.result at.waits in
        let behind = waiting_chain s.address (length s.heap) tokens.slots older frames fs at.shape.result at.waits in
        record {
          chain = subst (λ links. AreOnChain s.address tokens.slots links (held_cells (s.frame ∷ fs))) (sym at.judged.are.chain)
              (subst (λ k. AreOnChain s.address tokens.slots (chain_of tokens.slots (at.lists.held ∷ older))
              (held_in k s.frame.cells s.frame.held (held_cells fs))) (sym same)
              (subst (λ ks. AreOnChain s.address tokens.slots (chain_of tokens.slots (at.lists.held ∷ older))
              (held_in (length older) s.frame.cells ks (held_cells fs))) (sym at.has.held_is)
              (links_held s.address tokens.slots (length older) at.shape.variables at.shape.slots s.frame.cells
              (chain_of tokens.slots older) (held_cells fs) at.lists.held at.has.tokens behind)));
          blocks = λ f y p is.
              token_block s.address s.heap (s.address p) (s.world.cells.blocks (s.address p)) (is_linked f y tokens.chain)
              (words_in program.layout s.address (fields_held s.heap p)) (s.owners (s.address p))
              (at.cells.are f y p (pooled.marks f y p is)) (at.follows.blocks (s.address p));
          apart = λ f y p g z q one other.
              at.cells.apart f y p g z q (pooled.marks f y p one) (pooled.marks g z q other);
          uncounted = λ f y p name is counted same_at.
              not_counted (is_linked f y tokens.chain) (words_in program.layout s.address (fields_held s.heap p))
              (s.owners (s.address p)) name (at.cells.are f y p (pooled.marks f y p is))
              (ap s.owners (sym same_at) ∙ at.follows.named name counted);
          number = at.cells.number;
        }
