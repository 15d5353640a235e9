-- Labels and functions of rotated code.
use Rattle.std.proofs.Common.{◌≡◌, ◌==◌, ◌⊎◌, inl, inr, ℕ, zero, suc, ◌+◌, List, [], ◌∷◌, ◌++◌, Option, Some, None, Bool, true}
use Rattle.std.proofs.Common.{false, cond}
use Rattle.std.proofs.Common.{slice_get, refl, sym, ap, ◌∙◌, subst, arith}
use Rattle.std.proofs.lemmas.Bool.{eqb-true, eq-eqb}
use Rattle.std.proofs.lemmas.List.{append_assoc}
use Rattle.rv_isa.specs.declared.asm.Action.{Action}
use Rattle.rv_isa.specs.declared.asm.Action.TheVariants.{Compute, Label, Jump, Branch, Call, TailCall, Return, Routine, Hold}
use Rattle.rv_isa.specs.declared.asm.Action.TheVariants.{Unhold, Room}
use Rattle.rv_isa.specs.AsmMachine.{is_label}
use Rattle.rv_isa.specs.Frames.{found}
use Rattle.rv_isa.specs.PlacedCode.{PlacedLine, does, moves, PlacedLines}
use Rattle.rv_isa.specs.PlacedMachine.{is_label_line}
use Rattle.rv_loops.specs.Rotation.{Loop, AreStraight, calls, is_call_of, test, mark, goes_on}
use Rattle.rv_loops.specs.Rotation.{leaves}
use Rattle.rv_loops.specs.Rotation.{rotated_lines, IsRotated, AreRotated}
use Rattle.rv_loops.proofs.MachineKnowledge.{same_some}
use Rattle.rv_loops.specs.Relation.{IsAtSame}

-- ---- labels

call_no_label : (l f : ℕ) (action : Action) → calls f action ≡ true → is_label l action ≡ false
call_no_label l f (Compute operation) is = cc is
call_no_label l f (Label k) is = cc is
call_no_label l f (Jump k) is = cc is
call_no_label l f (Branch condition k) is = cc is
call_no_label l f (Call g) is = cc is
call_no_label l f (TailCall g) is = refl
call_no_label l f Return is = cc is
call_no_label l f (Routine routine) is = cc is
call_no_label l f Hold is = cc is
call_no_label l f Unhold is = cc is
call_no_label l f Room is = cc is

line_no_label : (l f : ℕ) (line : PlacedLine) → is_call_of f line ≡ true → is_label_line l line ≡ false
line_no_label l f (does alive action args into) is = call_no_label l f action is
line_no_label l f (moves alive value way) is = refl

-- a line that is not marked is passed
passed_by : (here : Bool) (o o' : Option (List PlacedLine)) → here ≡ false → cond here o o' ≡ o'
passed_by true o o' is = cc is
passed_by false o o' is = refl

-- what is found in two parts of code
in_first : (l : ℕ) (first after code : List PlacedLine) → found (is_label_line l) first ≡ Some code
    → found (is_label_line l) (first ++ after) ≡ Some (code ++ after)
in_first l [] after code is = cc is
in_first l (line ∷ first) after code is = by (is_label_line l line) is (in_first l first after code)
  where
    by : (here : Bool) → cond here (Some (line ∷ first)) (found (is_label_line l) first) ≡ Some code
        → (found (is_label_line l) first ≡ Some code → found (is_label_line l) (first ++ after) ≡ Some (code ++ after))
        → cond here (Some (line ∷ first ++ after)) (found (is_label_line l) (first ++ after)) ≡ Some (code ++ after)
    by true is later = let same : line ∷ first ≡ code = cc is in ap (λ (c : List PlacedLine). Some (c ++ after)) same
    by false is later = later is

pub in_second : (l : ℕ) (first after : List PlacedLine) → found (is_label_line l) first ≡ None
    → found (is_label_line l) (first ++ after) ≡ found (is_label_line l) after
in_second l [] after is = refl
in_second l (line ∷ first) after is = by (is_label_line l line) is (in_second l first after)
  where
    by : (here : Bool) → cond here (Some (line ∷ first)) (found (is_label_line l) first) ≡ None
        → (found (is_label_line l) first ≡ None → found (is_label_line l) (first ++ after) ≡ found (is_label_line l) after)
        → cond here (Some (line ∷ first ++ after)) (found (is_label_line l) (first ++ after)) ≡ found (is_label_line l) after
    by true is later = cc is
    by false is later = later is

-- what is found in no code is found in no part of it
none_in_first : (l : ℕ) (first after : List PlacedLine) → found (is_label_line l) (first ++ after) ≡ None
    → found (is_label_line l) first ≡ None
none_in_first l first after none = by (found (is_label_line l) first) refl
  where
    by : (o : Option (List PlacedLine)) → found (is_label_line l) first ≡ o → found (is_label_line l) first ≡ None
    by None is = is
    by (Some code) is = let there = in_first l first after code is in cc (there, none)

-- what is found in straight lines is straight
found_straight : (l : ℕ) (lines code : List PlacedLine) → AreStraight lines → found (is_label_line l) lines ≡ Some code
    → AreStraight code
found_straight l [] code straight is = cc is
found_straight l (line ∷ lines) code straight is = by (is_label_line l line) is (found_straight l lines code straight.1)
  where
    by : (here : Bool) → cond here (Some (line ∷ lines)) (found (is_label_line l) lines) ≡ Some code
        → (found (is_label_line l) lines ≡ Some code → AreStraight code) → AreStraight code
    by true is later = let same : line ∷ lines ≡ code = cc is in subst AreStraight same straight
    by false is later = later is

module _ (loop : Loop) (l : ℕ) (apart : found (is_label_line l) loop.before ≡ None) where
  -- what a label is found at in code, it is found at in the rotated code
  found_line : (line : PlacedLine) (lines code : List PlacedLine) (call label : Bool) → is_call_of loop.function line ≡ call
      → is_label_line l line ≡ label
      → (found (is_label_line l) lines ≡ Some code → found (is_label_line l) (rotated_lines loop lines) ≡ Some
      (rotated_lines loop code))
      → cond label (Some (line ∷ lines)) (found (is_label_line l) lines) ≡ Some code
      → found (is_label_line l) (cond call (loop.before ++ (goes_on loop ∷ leaves loop ∷ []))
      (line ∷ []) ++ rotated_lines loop lines)
      ≡ Some (rotated_lines loop code)
  found_line line lines code true true call_is label_is later is =
      let none = line_no_label l loop.function line call_is in cc (none, label_is)
  found_line line lines code true false call_is label_is later is =
      ap (found (is_label_line l)) (append_assoc loop.before (goes_on loop ∷ leaves loop ∷ []) (rotated_lines loop lines))
      ∙ in_second l loop.before (goes_on loop ∷ leaves loop ∷ rotated_lines loop lines) apart ∙ later is
  found_line line lines code false true call_is label_is later is =
      let same : line ∷ lines ≡ code = cc is in
      let here : rotated_lines loop (line ∷ lines) ≡ line ∷ rotated_lines loop lines
      = ap (λ (call : Bool). cond call (loop.before ++ (goes_on loop ∷ leaves loop ∷ []))
      (line ∷ []) ++ rotated_lines loop lines) call_is in
      ap (λ (label : Bool). cond label (Some (line ∷ rotated_lines loop lines)) (found (is_label_line l)
      (rotated_lines loop lines))) label_is
      ∙ ap (λ (c : List PlacedLine). Some c) (sym here ∙ ap (rotated_lines loop) same)
  found_line line lines code false false call_is label_is later is =
      passed_by (is_label_line l line) (Some (line ∷ rotated_lines loop lines)) (found (is_label_line l)
      (rotated_lines loop lines)) label_is
      ∙ later is

  pub found_rotated : (lines code : List PlacedLine) → found (is_label_line l) lines ≡ Some code
      → found (is_label_line l) (rotated_lines loop lines) ≡ Some (rotated_lines loop code)
  found_rotated [] code is = cc is
  found_rotated (line ∷ lines) code is =
      found_line line lines code (is_call_of loop.function line) (is_label_line l line) refl refl (found_rotated lines code) is

-- a label that stands in code is no other
other_label : (again l : ℕ) (lines code : List PlacedLine) → found (is_label_line again) lines ≡ None
    → found (is_label_line l) lines ≡ Some code
    → (again == l) ≡ false
other_label again l lines code none is = by (again == l) refl
  where
    by : (same : Bool) → (again == l) ≡ same → (again == l) ≡ false
    by true same = let equal : again ≡ l = eqb-true again l same in cc (none, is, ap (λ n. found (is_label_line n) lines) equal)
    by false same = same

-- where a label leads in both
pub found_both : (f l : ℕ) (whole rotated here here' code : List PlacedLine) → IsAtSame f whole rotated here here'
    → found (is_label_line l) whole ≡ Some code
    → (code' : List PlacedLine) × (found (is_label_line l) rotated ≡ Some code') × IsAtSame f whole rotated code code'
found_both f l whole rotated here here' code (inl same) is =
    (code, ap (found (is_label_line l)) same.0 ∙ is, inl (same.0, refl))
found_both f l whole rotated here here' code (inr (is_rotated, place)) is = by (found (is_label_line l) loop.before) refl
  where
    loop : Loop
    loop = is_rotated.loop

    found_here : found (is_label_line l) (loop.before ++ (test loop ∷ loop.behind)) ≡ Some code
    found_here = ap (found (is_label_line l)) (sym is_rotated.old_is) ∙ is

    by : (first : Option (List PlacedLine)) → found (is_label_line l) loop.before ≡ first
        → (code' : List PlacedLine) × (found (is_label_line l) rotated ≡ Some code') × IsAtSame f whole rotated code code'
    by (Some before) at =
        let after : List PlacedLine = test loop ∷ mark loop ∷ rotated_lines loop loop.behind in
        let same : before ++ (test loop ∷ loop.behind) ≡ code
        = same_some _ _ (sym (in_first l loop.before (test loop ∷ loop.behind) before at) ∙ found_here) in (
          before ++ after,
          ap (found (is_label_line l)) is_rotated.new_is ∙ in_first l loop.before after before at,
          inr (
            is_rotated,
            inr (inr (record {
              before = before;
              straight = found_straight l loop.before before is_rotated.straight at;
              code_is = sym same;
              new_is = refl;
            })),
          ),
        )
    by None at =
        let behind : found (is_label_line l) loop.behind ≡ Some code
        = sym (in_second l loop.before (test loop ∷ loop.behind) at) ∙ found_here in
        let other : (loop.again == l) ≡ false = other_label loop.again l whole code is_rotated.fresh is in
        let new : found (is_label_line l) rotated ≡ Some (rotated_lines loop code)
        = ap (found (is_label_line l)) is_rotated.new_is
        ∙ in_second l loop.before (test loop ∷ mark loop ∷ rotated_lines loop loop.behind) at
        ∙ passed_by (loop.again == l) (Some (mark loop ∷ rotated_lines loop loop.behind))
        (found (is_label_line l) (rotated_lines loop loop.behind)) other
        ∙ found_rotated loop l at loop.behind code behind in
        (rotated_lines loop code, new, inr (is_rotated, inl refl))

-- the new label leads behind the test
pub found_again : (f : ℕ) (whole rotated : List PlacedLine) (is : IsRotated f whole rotated)
    → found (is_label_line is.loop.again) rotated ≡ Some (mark is.loop ∷ rotated_lines is.loop is.loop.behind)
found_again f whole rotated is =
    let loop : Loop = is.loop in
    let here : (loop.again == loop.again) ≡ true = eq-eqb loop.again loop.again refl in
    ap (found (is_label_line loop.again)) is.new_is
    ∙ in_second loop.again loop.before (test loop ∷ mark loop ∷ rotated_lines loop loop.behind)
    (none_in_first loop.again loop.before (test loop ∷ loop.behind) (ap (found (is_label_line loop.again)) (sym is.old_is)
    ∙ is.fresh))
    ∙ ap (λ (b : Bool). cond b (Some (mark loop ∷ rotated_lines loop loop.behind))
    (found (is_label_line loop.again) (rotated_lines loop loop.behind))) here

-- ---- functions

-- a function begins alike
begins : (f : ℕ) (old new : PlacedLines) → ((new.code ≡ old.code) ⊎ IsRotated f old.code new.code)
    → IsAtSame f old.code new.code old.code new.code
begins f old new (inl same) = inl (same, same)
begins f old new (inr is) =
    inr (is, inr (inr (record { before = is.loop.before; straight = is.straight; code_is = is.old_is; new_is = is.new_is })))

callee_from : (q q' : List PlacedLines) (n g : ℕ) (callee : PlacedLines) → AreRotated n q q' → slice_get q g ≡ Some callee
    → (callee' : PlacedLines) × (slice_get q' g ≡ Some callee') × IsAtSame (n + g) callee.code callee'.code callee.code callee'.code
callee_from [] q' n g callee all is = cc is
callee_from (old ∷ q) [] n g callee all is = absurd all
callee_from (old ∷ q) (new ∷ q') n zero callee all is =
    let same : old ≡ callee = cc is in
    let number : n ≡ n + zero = omega arith in (
      new,
      refl,
      subst (λ k. IsAtSame k callee.code new.code callee.code new.code) number
          (subst (λ (c : PlacedLines). IsAtSame n c.code new.code c.code new.code) same (begins n old new all.0)),
    )
callee_from (old ∷ q) (new ∷ q') n (suc g) callee all is =
    let rest = callee_from q q' (suc n) g callee all.1 is in
    let number : suc n + g ≡ n + suc g = omega arith in
    (rest.0, rest.1, subst (λ k. IsAtSame k callee.code rest.0.code callee.code rest.0.code) number rest.2)

-- a function that is called is there in both
pub callee_both : (q q' : List PlacedLines) (g : ℕ) (callee : PlacedLines) → AreRotated 0 q q' → slice_get q g ≡ Some callee
    → (callee' : PlacedLines) × (slice_get q' g ≡ Some callee') × IsAtSame g callee.code callee'.code callee.code callee'.code
callee_both q q' g callee all is =
    let there = callee_from q q' 0 g callee all is in
    let number : 0 + g ≡ g = omega arith in
    (there.0, there.1, subst (λ k. IsAtSame k callee.code there.0.code callee.code there.0.code) number there.2)
