-- The newest held token of the frames that wait is taken: its cell has the address that the frames show, and its slot is null then.
use Rattle.std.proofs.Common.{◌≡◌, ◌≢◌, ℕ, ◌+◌, ◌<◌, ◌==◌, Bool, true, false, List, [], ◌∷◌, length, Some, None, option_map, refl, sym, ◌∙◌, ap, subst, arith}
use Rattle.std.specs.Prelude.{◌&&◌}
use Rattle.kk_counted.specs.TokenKeeping.{chain_of}
use Rattle.kk_counted.specs.TokenStates.{TokenFrame}
use Rattle.kk_counted.specs.Tokens.{Slot, null, token, is_unspent, Link, slots_with}
use Rattle.kk_counted.proofs.TokenChain.{equal_one, AllApart, chain_top}
use Rattle.kk_counted.proofs.SlotMarks.{slot_here, slot_there}
use Rattle.rv_isa.specs.AsmCode.{Line}
use Rattle.rv_isa.specs.Frames.{Frame, put, top, top_in, top_taken, taken_in}
use Rattle.rv_cells.proofs.Values.{has_other}
use Rattle.rv_cells.proofs.TokenRelation.{SlotIs, held_values, Lowering, Waits, AllWait}
use Rattle.rv_cells.proofs.TokenFrames.{none_behind, slots_put, First, one, none, first_of, waits_so, waits_at, all_wait_at}

module _ (program : Lowering) (address : ℕ → ℕ) (next : ℕ) (slots : ℕ → ℕ → Slot) where
  -- the token of a slot is taken
  pub record IsTaken (helds : List (List ℕ)) (frames : List TokenFrame) (fs : List (Frame Line)) (awaited : Bool) (g y p : ℕ)
      : Type 0 where
    pub gs : List (Frame Line)
    pub newest : top fs ≡ Some (address p)
    pub taken : top_taken fs ≡ Some gs
    pub waits : AllWait program address next (slots_with g y null slots) helds frames gs awaited

  -- of the newest frame
  own_taken : (held : List ℕ) (helds : List (List ℕ)) (waiting : TokenFrame) (frames : List TokenFrame) (f : Frame Line)
      (fs : List (Frame Line)) (awaited : Bool) (w : Waits program address next (slots (length helds)) held waiting f awaited)
      → AllWait program address next slots helds frames fs w.shape.result → (y p : ℕ) (more : List ℕ)
      → slots (length helds) y ≡ token p → held_values (slots (length helds)) w.shape.variables held ≡ (w.shape.variables + y) ∷ more
      → ((others : ℕ → Slot) → others y ≡ null → ((z : ℕ) → z ≢ y → others z ≡ slots (length helds) z)
      → held_values others w.shape.variables held ≡ more)
      → IsTaken (held ∷ helds) (waiting ∷ frames) (f ∷ fs) awaited (length helds) y p
  own_taken held helds waiting frames f fs awaited w rest y p more has first drops =
      let n = length helds in
      let v = w.shape.variables in
      let value : f.cells (v + y) ≡ Some (address p) = subst (λ slot. SlotIs address slot (f.cells (v + y))) has
      (w.has.tokens.are y) in
      let low = w.has.tokens.below y (ap is_unspent has) in
      let there : (z : ℕ) → z ≢ y → slots_with n y null slots n z ≡ slots n z
      = λ z differ. slot_there n y n z null slots (apart n z differ) in
      let is = w.has.held_is ∙ first in
      record {
        gs = record f { cells = put (v + y) (Some 0) f.cells; held = more } ∷ fs;
        newest = ap (λ h. top_in h f.cells (top fs)) is ∙ value;
        taken = ap (λ h. taken_in h f fs (top_taken fs)) is;
        waits = (
          waits_so program w address next (slots_with n y null slots n) (put (v + y) (Some 0) f.cells) more
              (record {
                values = has_other w.has.values (v + y) 0 (none_behind w.bound v y w.has.below);
                below = w.has.below;
                tokens = slots_put w.has.tokens y 0 null low (slot_here n y null slots) refl there;
                held_is = sym (drops (slots_with n y null slots n) (slot_here n y null slots) there);
                formed = w.has.formed;
                in_function = w.has.in_function;
              }),
          all_wait_at program address next slots (slots_with n y null slots) helds frames fs w.shape.result
              (equal_one n n y null slots (omega arith)) rest,
        );
      }
    where
      apart : (n z : ℕ) → z ≢ y → ((n == n) && (z == y)) ≡ false
      apart n z differ =
          let itself : (n == n) ≡ true = grind arith in
          let other : (z == y) ≡ false = grind arith in
          rw itself other

  -- the frame at the front holds none that has a token
  older_taken : (held : List ℕ) (helds : List (List ℕ)) (waiting : TokenFrame) (frames : List TokenFrame) (f : Frame Line)
      (fs : List (Frame Line)) (awaited : Bool) (w : Waits program address next (slots (length helds)) held waiting f awaited)
      (g y p : ℕ) → g < length helds → held_values (slots (length helds)) w.shape.variables held ≡ []
      → IsTaken helds frames fs w.shape.result g y p → IsTaken (held ∷ helds) (waiting ∷ frames) (f ∷ fs) awaited g y p
  older_taken held helds waiting frames f fs awaited w g y p less nothing inner =
      let is = w.has.held_is ∙ nothing in
      record {
        gs = f ∷ inner.gs;
        newest = ap (λ h. top_in h f.cells (top fs)) is ∙ inner.newest;
        taken = ap (λ h. taken_in h f fs (top_taken fs)) is ∙ ap (option_map (λ later. f ∷ later)) inner.taken;
        waits = (
          waits_at program w (λ z. sym (slot_there g y (length helds) z null slots (apart z))),
          inner.waits,
        );
      }
    where
      apart : (z : ℕ) → ((length helds == g) && (z == y)) ≡ false
      apart z = let far : (length helds == g) ≡ false = grind arith in rw far refl

  first_is : {a b : Link} {xs ys : List Link} → a ∷ xs ≡ b ∷ ys → a ≡ b
  first_is e = cc

  -- the first link of the chain is the newest held token of the frames
  pub taken_from : (helds : List (List ℕ)) (frames : List TokenFrame) (fs : List (Frame Line)) (awaited : Bool)
      → AllWait program address next slots helds frames fs awaited → AllApart helds → (link : Link) (links : List Link)
      → chain_of slots helds ≡ link ∷ links → (p : ℕ) → slots link.frame link.slot ≡ token p
      → IsTaken helds frames fs awaited link.frame link.slot p
  taken_from [] [] [] awaited wait apart link links is p has = cc
  taken_from [] [] (f ∷ fs) awaited wait apart link links is p has = absurd wait
  taken_from [] (waiting ∷ frames) fs awaited wait apart link links is p has = absurd wait
  taken_from (held ∷ helds) [] fs awaited wait apart link links is p has = absurd wait
  taken_from (held ∷ helds) (waiting ∷ frames) [] awaited wait apart link links is p has = absurd wait
  taken_from (held ∷ helds) (waiting ∷ frames) (f ∷ fs) awaited wait apart link links is p has =
      by (first_of (slots (length helds)) wait.0.shape.variables held apart.0)
      (λ inner. taken_from helds frames fs wait.0.shape.result wait.1 apart.1 link links inner p has)
    where
      by : First (slots (length helds)) wait.0.shape.variables held
          → (chain_of slots helds ≡ link ∷ links → IsTaken helds frames fs wait.0.shape.result link.frame link.slot p)
          → IsTaken (held ∷ helds) (waiting ∷ frames) (f ∷ fs) awaited link.frame link.slot p
      by (one y q more has_one among first drops found front) later =
          let row = found (length helds) (chain_of slots helds) in
          let same : record { frame = length helds; slot = y } ≡ link = first_is (sym row.1 ∙ is) in
          let again : slots (length helds) y ≡ token p = ap (λ (l : Link). slots l.frame l.slot) same ∙ has in
          subst (λ (l : Link). IsTaken (held ∷ helds) (waiting ∷ frames) (f ∷ fs) awaited l.frame l.slot p) same
          (own_taken held helds waiting frames f fs awaited wait.0 wait.1 y p more again first drops)
      by (none nothing found front) later =
          let inner = sym (found (length helds) (chain_of slots helds)) ∙ is in
          older_taken held helds waiting frames f fs awaited wait.0 link.frame link.slot p
          (chain_top slots helds link links apart.1 inner).below nothing (later inner)

  -- where the chain is empty no frame holds a token
  pub none_held : (helds : List (List ℕ)) (frames : List TokenFrame) (fs : List (Frame Line)) (awaited : Bool)
      → AllWait program address next slots helds frames fs awaited → AllApart helds → chain_of slots helds ≡ [] → top fs ≡ None
  none_held [] [] [] awaited wait apart is = refl
  none_held [] [] (f ∷ fs) awaited wait apart is = absurd wait
  none_held [] (waiting ∷ frames) fs awaited wait apart is = absurd wait
  none_held (held ∷ helds) [] fs awaited wait apart is = absurd wait
  none_held (held ∷ helds) (waiting ∷ frames) [] awaited wait apart is = absurd wait
  none_held (held ∷ helds) (waiting ∷ frames) (f ∷ fs) awaited wait apart is =
      by (first_of (slots (length helds)) wait.0.shape.variables held apart.0)
      (λ inner. none_held helds frames fs wait.0.shape.result wait.1 apart.1 inner)
    where
      by : First (slots (length helds)) wait.0.shape.variables held → (chain_of slots helds ≡ [] → top fs ≡ None)
          → top (f ∷ fs) ≡ None
      by (one y q more has_one among first drops found front) later =
          let row = found (length helds) (chain_of slots helds) in let both = sym row.1 ∙ is in cc
      by (none nothing found front) later =
          ap (λ h. top_in h f.cells (top fs)) (wait.0.has.held_is ∙ nothing)
          ∙ later (sym (found (length helds) (chain_of slots helds)) ∙ is)
