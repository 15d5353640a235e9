-- The newest held token of frames in both forms, and frames from which it was taken.
use Rattle.std.proofs.Common.{◌≡◌, ℕ, suc, List, [], ◌∷◌, Option, Some, None, Bool, true, false, length, refl, ap, subst, option_map}
use Rattle.rv_isa.specs.declared.placed.Listed.{Listed}
use Rattle.rv_isa.specs.AsmCode.{Line}
use Rattle.rv_isa.specs.PlacedCode.{PlacedLine, does, moves}
use Rattle.rv_isa.specs.Frames.{Frame, put, top, top_in, top_taken, taken_in, taken_if}
use Rattle.rv_regs.specs.Listings.{first_alive, listed_as}
use Rattle.rv_regs.specs.Conditions.{Apart, AllFit}
use Rattle.rv_regs.specs.Relation.{HeldAs, Stands, Waits, AllWait}
use Rattle.rv_regs.proofs.Chains.{token, token_waits, zero_waits, zero_holds}

-- what is listed before code is apart
pub apart_first : (whole code : List PlacedLine) → AllFit whole code → Apart (first_alive code)
apart_first whole [] fit = tt
apart_first whole (does alive action args into ∷ rest) fit = fit.0.1.apart
apart_first whole (moves alive value way ∷ rest) fit = fit.0.apart

pub as_many_wait : (fs : List (Frame Line)) (gs : List (Frame PlacedLine)) → AllWait fs gs → length fs ≡ length gs
as_many_wait [] [] all = refl
as_many_wait [] (g ∷ gs) all = absurd all
as_many_wait (f ∷ fs) [] all = absurd all
as_many_wait (f ∷ fs) (g ∷ gs) all = ap suc (as_many_wait fs gs all.1)

top_both : (alive : List Listed) (vs ks : List ℕ) (values slots : ℕ → Option ℕ) (below below' : Option ℕ) → HeldAs alive vs ks
    → ((v k : ℕ) → listed_as v alive ≡ Some (token v k) → values v ≡ slots k) → below ≡ below' → top_in vs values below ≡ top_in ks slots below'
top_both alive [] [] values slots below below' held words same = same
top_both alive [] (k ∷ ks) values slots below below' held words same = absurd held
top_both alive (v ∷ vs) [] values slots below below' held words same = absurd held
top_both alive (v ∷ vs) (k ∷ ks) values slots below below' held words same = words v k held.0

top_waits : (fs : List (Frame Line)) (gs : List (Frame PlacedLine)) → AllWait fs gs → top fs ≡ top gs
top_waits [] [] all = refl
top_waits [] (g ∷ gs) all = absurd all
top_waits (f ∷ fs) [] all = absurd all
top_waits (f ∷ fs) (g ∷ gs) all =
    top_both (first_alive g.code) f.held g.held f.cells g.cells (top fs) (top gs) all.0.held (token_waits (first_alive g.code) f.into g.into f.cells g.cells all.0.awaits) (top_waits fs gs all.1)

-- the newest held token is the same
pub top_same : (alive : List Listed) (registers : ℕ → Option ℕ) (f : Frame Line) (fs : List (Frame Line)) (g : Frame PlacedLine) (gs : List (Frame PlacedLine))
    → Stands alive registers f g → AllWait fs gs → top (f ∷ fs) ≡ top (g ∷ gs)
top_same alive registers f fs g gs stands all =
    top_both alive f.held g.held f.cells g.cells (top fs) (top gs) stands.held (λ v k listed. (stands.holds v (token v k) listed).0) (top_waits fs gs all)

-- a waiting frame whose newest held token was taken
wait_taken : (f : Frame Line) (g : Frame PlacedLine) (v k : ℕ) (vs ks : List ℕ) → Waits f g → HeldAs (first_alive g.code) (v ∷ vs) (k ∷ ks)
    → Waits (record f { cells = put v (Some 0) f.cells; held = vs }) (record g { cells = put k (Some 0) g.cells; held = ks })
wait_taken f g v k vs ks waits held =
    record {
      same = record { function = waits.same.function; code = waits.same.code; whole = waits.same.whole; code_fits = waits.same.code_fits; whole_fits = waits.same.whole_fits };
      awaits = zero_waits (first_alive g.code) f.into g.into f.cells g.cells v k (apart_first g.whole g.code waits.same.code_fits) held.0 waits.awaits;
      held = held.1.1;
    }

wait_left : (f : Frame Line) (fs : List (Frame Line)) (g : Frame PlacedLine) (gs : List (Frame PlacedLine)) (o : Option (List (Frame Line))) (o' : Option (List (Frame PlacedLine)))
    → Waits f g → ((left : List (Frame Line)) → o ≡ Some left → (left' : List (Frame PlacedLine)) × (o' ≡ Some left') × AllWait left left')
    → (left : List (Frame Line)) → option_map (λ later. f ∷ later) o ≡ Some left
    → (left' : List (Frame PlacedLine)) × (option_map (λ later. g ∷ later) o' ≡ Some left') × AllWait left left'
wait_left f fs g gs None o' waits later left e = cc
wait_left f fs g gs (Some below) o' waits later left e =
    let b = later below refl in
    let same : f ∷ below ≡ left = cc in
    (g ∷ b.0, ap (option_map (λ ms. g ∷ ms)) b.1, subst (λ ls. AllWait ls (g ∷ b.0)) same (waits, b.2))

waits_taken_in : (vs ks : List ℕ) (f : Frame Line) (fs : List (Frame Line)) (g : Frame PlacedLine) (gs : List (Frame PlacedLine)) → Waits f g → AllWait fs gs → HeldAs (first_alive g.code) vs ks
    → ((left : List (Frame Line)) → top_taken fs ≡ Some left → (left' : List (Frame PlacedLine)) × (top_taken gs ≡ Some left') × AllWait left left')
    → (left : List (Frame Line)) → taken_in vs f fs (top_taken fs) ≡ Some left
    → (left' : List (Frame PlacedLine)) × (taken_in ks g gs (top_taken gs) ≡ Some left') × AllWait left left'
waits_taken_in [] [] f fs g gs waits all held later left e = wait_left f fs g gs (top_taken fs) (top_taken gs) waits later left e
waits_taken_in [] (k ∷ ks) f fs g gs waits all held later left e = absurd held
waits_taken_in (v ∷ vs) [] f fs g gs waits all held later left e = absurd held
waits_taken_in (v ∷ vs) (k ∷ ks) f fs g gs waits all held later left e =
    let same : record f { cells = put v (Some 0) f.cells; held = vs } ∷ fs ≡ left = cc in (
      record g { cells = put k (Some 0) g.cells; held = ks } ∷ gs,
      refl,
      subst (λ ls. AllWait ls (record g { cells = put k (Some 0) g.cells; held = ks } ∷ gs)) same (wait_taken f g v k vs ks waits held, all),
    )

waits_taken : (fs : List (Frame Line)) (gs : List (Frame PlacedLine)) → AllWait fs gs → (left : List (Frame Line)) → top_taken fs ≡ Some left
    → (left' : List (Frame PlacedLine)) × (top_taken gs ≡ Some left') × AllWait left left'
waits_taken [] [] all left e = cc
waits_taken [] (g ∷ gs) all left e = absurd all
waits_taken (f ∷ fs) [] all left e = absurd all
waits_taken (f ∷ fs) (g ∷ gs) all left e =
    waits_taken_in f.held g.held f fs g gs all.0 all.1 all.0.held (waits_taken fs gs all.1) left e

-- The frames from which the newest held token was taken, if it was; the running frame's code is as before.
pub record Left (alive : List Listed) (registers : ℕ → Option ℕ) (g : Frame PlacedLine) (left : List (Frame Line)) (taken : Option (List (Frame PlacedLine))) : Type 0 where
  pub f' : Frame Line
  pub fs' : List (Frame Line)
  pub g' : Frame PlacedLine
  pub gs' : List (Frame PlacedLine)
  pub left_is : left ≡ f' ∷ fs'
  pub taken_is : taken ≡ Some (g' ∷ gs')
  pub code_is : g'.code ≡ g.code
  pub stands : Stands alive registers f' g'
  pub waits : AllWait fs' gs'

stand_taken : (alive : List Listed) (registers : ℕ → Option ℕ) (f : Frame Line) (g : Frame PlacedLine) (v k : ℕ) (vs ks : List ℕ) → Stands alive registers f g → HeldAs alive (v ∷ vs) (k ∷ ks)
    → Stands alive registers (record f { cells = put v (Some 0) f.cells; held = vs }) (record g { cells = put k (Some 0) g.cells; held = ks })
stand_taken alive registers f g v k vs ks stands held =
    record {
      same = record { function = stands.same.function; code = stands.same.code; whole = stands.same.whole; code_fits = stands.same.code_fits; whole_fits = stands.same.whole_fits };
      apart = stands.apart;
      holds = zero_holds alive f.cells registers g.cells v k stands.apart held.0 stands.holds;
      held = held.1.1;
    }

left_below : (alive : List Listed) (registers : ℕ → Option ℕ) (f : Frame Line) (g : Frame PlacedLine) (o : Option (List (Frame Line))) (o' : Option (List (Frame PlacedLine)))
    → Stands alive registers f g → ((left : List (Frame Line)) → o ≡ Some left → (left' : List (Frame PlacedLine)) × (o' ≡ Some left') × AllWait left left')
    → (left : List (Frame Line)) → option_map (λ later. f ∷ later) o ≡ Some left → Left alive registers g left (option_map (λ later. g ∷ later) o')
left_below alive registers f g None o' stands later left e = cc
left_below alive registers f g (Some below) o' stands later left e =
    let b = later below refl in
    record {
      f' = f;
      fs' = below;
      g' = g;
      gs' = b.0;
      left_is = cc;
      taken_is = ap (option_map (λ ms. g ∷ ms)) b.1;
      code_is = refl;
      stands = stands;
      waits = b.2;
    }

left_in : (alive : List Listed) (registers : ℕ → Option ℕ) (vs ks : List ℕ) (f : Frame Line) (fs : List (Frame Line)) (g : Frame PlacedLine) (gs : List (Frame PlacedLine))
    → Stands alive registers f g → AllWait fs gs → HeldAs alive vs ks → (left : List (Frame Line)) → taken_in vs f fs (top_taken fs) ≡ Some left
    → Left alive registers g left (taken_in ks g gs (top_taken gs))
left_in alive registers [] [] f fs g gs stands all held left e = left_below alive registers f g (top_taken fs) (top_taken gs) stands (waits_taken fs gs all) left e
left_in alive registers [] (k ∷ ks) f fs g gs stands all held left e = absurd held
left_in alive registers (v ∷ vs) [] f fs g gs stands all held left e = absurd held
left_in alive registers (v ∷ vs) (k ∷ ks) f fs g gs stands all held left e =
    record {
      f' = record f { cells = put v (Some 0) f.cells; held = vs };
      fs' = fs;
      g' = record g { cells = put k (Some 0) g.cells; held = ks };
      gs' = gs;
      left_is = cc;
      taken_is = refl;
      code_is = refl;
      stands = stand_taken alive registers f g v k vs ks stands held;
      waits = all;
    }

pub left_over : (alive : List Listed) (registers : ℕ → Option ℕ) (took : Bool) (f : Frame Line) (fs : List (Frame Line)) (g : Frame PlacedLine) (gs : List (Frame PlacedLine))
    → Stands alive registers f g → AllWait fs gs → (left : List (Frame Line)) → taken_if took (f ∷ fs) ≡ Some left → Left alive registers g left (taken_if took (g ∷ gs))
left_over alive registers true f fs g gs stands all left e = left_in alive registers f.held g.held f fs g gs stands all stands.held left e
left_over alive registers false f fs g gs stands all left e =
    record {
      f' = f;
      fs' = fs;
      g' = g;
      gs' = gs;
      left_is = cc;
      taken_is = refl;
      code_is = refl;
      stands = stands;
      waits = all;
    }
