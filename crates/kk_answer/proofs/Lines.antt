-- Lines that are put piece by piece.
use Rattle.std.proofs.Common.{◌≡◌, ℕ, suc, ◌+◌, ◌<◌, List, ◌++◌, length, take, drop, get_or, flat_map, true, false, Option, Some, None, option_map, sym, ap, ◌∙◌, subst, arith, append_assoc, length-append}
use Rattle.std.proofs.lemmas.List.{take-append-drop, take-append-le}
use Rattle.std.proofs.lemmas.List.Concat.{flat_map-append}
use Rattle.std.proofs.Math.Seq.{take-append-add, drop-cons}
use Rattle.kk_base.specs.Faults.{Rises}
use Rattle.kk_base.specs.Sink.{SinkState}
use Rattle.kk_answer.specs.Puts.{Puts, PutsPart}

-- a part of a piece that stands in a longer line is a part of the line
put_part : (first second rest : List ℕ) (old mid new : Option (List ℕ)) → mid ≡ option_map (λ before. before ++ first) old → PutsPart second mid new → PutsPart (first ++ (second ++ rest)) old new
put_part first second rest None mid new h part = record {
  count = 0;
  within = omega arith;
  held = let e = part.held in cc;
}
put_part first second rest (Some before) mid new h part =
    let within = part.within in
    let parts : take (length first + part.count) (first ++ (second ++ rest)) ≡ first ++ take part.count second =
    take-append-add first (second ++ rest) part.count ∙ ap (λ xs. first ++ xs) (take-append-le part.count second rest within) in
    record {
      count = length first + part.count;
      within = omega (arith, length-append first (second ++ rest), length-append second rest);
      held = part.held ∙ ap (option_map (λ xs. xs ++ take part.count second)) h ∙ ap Some (append_assoc before first (take part.count second) ∙ ap (λ xs. before ++ xs) (sym parts));
    }

-- the pieces before an index, the one at it, and those after it
pieces_at : {X : Type 0} (f : X → List ℕ) (xs : List X) (i : ℕ) (d : X) → i < length xs → flat_map f xs ≡ flat_map f (take i xs) ++ (f (get_or xs i d) ++ flat_map f (drop (suc i) xs))
pieces_at f xs i d h =
    ap (flat_map f) (sym (take-append-drop i xs)) ∙ flat_map-append f (take i xs) (drop i xs) ∙ ap (λ ys. flat_map f (take i xs) ++ flat_map f ys) (drop-cons xs i d h)

-- a piece whose put failed, after pieces that were put, is a line of which a part was put
pub failed_at : {X : Type 0} (f : X → List ℕ) (xs : List X) (i : ℕ) (d : X) (old mid new : SinkState) → i < length xs → mid.held ≡ option_map (λ held. held ++ flat_map f (take i xs)) old.held → mid.faults ≡ old.faults
    → Puts false (f (get_or xs i d)) mid new → Puts false (flat_map f xs) old new
failed_at f xs i d old mid new h put same failed = record {
  content = let P : List ℕ → Type 0 = λ line. PutsPart line old.held new.held in
      subst P (sym (pieces_at f xs i d h)) (put_part (flat_map f (take i xs)) (f (get_or xs i d)) (flat_map f (drop (suc i) xs)) old.held mid.held new.held put failed.content);
  faults = let P : ℕ → Type 0 = λ n. Rises true n new.faults in subst P same failed.faults;
}
