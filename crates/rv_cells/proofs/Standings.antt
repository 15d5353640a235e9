-- Code that keeps what stands, by the truth that tells it.
use Rattle.std.proofs.Common.{◌≡◌, ℕ, ◌&&◌, Bool, true, false, not, List, [], ◌∷◌, map, refl, sym, ◌∙◌, ap, arith}
use Rattle.std.proofs.lemmas.Bool.Decides.{nat_tests}
use Rattle.kk_syntax.specs.declared.program.Form.{Form}
use Rattle.kk_syntax.specs.declared.program.Form.TheVariants.{Number, Unit as Nothing_made, ReadByte, PrintText, Unary, Binary, Print}
use Rattle.kk_syntax.specs.declared.program.Form.TheVariants.{Construct, Call}
use Rattle.kk_counted.proofs.TokenedViews.{tokened_block_is}
use Rattle.kk_counted.specs.TokenedCodes.{Tokened, TokenedArms}
use Rattle.kk_counted.specs.TokenedForms.{TokenedMove, plug_tokened, tokened_code, tokened_last_code, tokened_move}
use Rattle.kk_counted.specs.declared.tokened.TokenedBlock.{TokenedBlock}
use Rattle.kk_counted.specs.declared.tokened.TokenedStep.{TokenedStep}
use Rattle.rv_cells.specs.declared.standing.Standing.{Standing}
use Rattle.rv_cells.specs.declared.standing.Standing.TheVariants.{Nothing, Count, Cell}
use Rattle.rv_cells.specs.TokenedLines.{count_stands, IsOf, CallsNone, HoldsNone, Keeps, AllKeep}
use Rattle.rv_cells.specs.Standings.{is_of, calls_none, holds_none, keeps_in, keeps_in_arms, keeps_step, keeps_steps}

-- ---- truths

pub and_over : (a b c : Bool) → ((a && b) && c) ≡ (a && (b && c))
and_over true b c = refl
and_over false b c = refl

first_of : (a b : Bool) → (a && b) ≡ true → a ≡ true
first_of true b is = refl
first_of false b is = cc is

second_of : (a b : Bool) → (a && b) ≡ true → b ≡ true
second_of true b is = is
second_of false b is = cc is

is_nothing : (standing : Standing) → not (count_stands standing) ≡ true → standing ≡ Nothing
is_nothing Nothing is = refl
is_nothing Count is = cc is
is_nothing (Cell k) is = cc is

of_it : (standing : Standing) (c : ℕ) → is_of standing c ≡ true → IsOf standing c
of_it Nothing c is = tt
of_it Count c is = tt
of_it (Cell k) c is = grind (arith, nat_tests, is)

none_held : (standing : Standing) (others : List ℕ) → holds_none standing others ≡ true → HoldsNone standing others
none_held standing [] is = tt
none_held standing (other ∷ others) is = is_nothing standing is

none_called : (standing : Standing) (form : Form) → calls_none standing form ≡ true → CallsNone standing form
none_called standing (Number n) is = tt
none_called standing Nothing_made is = tt
none_called standing ReadByte is = tt
none_called standing (PrintText how text) is = tt
none_called standing (Unary operator) is = tt
none_called standing (Binary operator) is = tt
none_called standing (Print how) is = tt
none_called standing (Construct c) is = tt
none_called standing (Call f) is = is_nothing standing is

-- ---- codes

module _ (standing : Standing) where
  mutual
    pub keeps_code : (code : Tokened) → keeps_in standing code ≡ true → Keeps standing code
    keeps_code (Tokened.give x) is = tt
    keeps_code (Tokened.tail_call f arguments) is = tt
    keeps_code (Tokened.case x decisions arms) is = keeps_arms arms is
    keeps_code (Tokened.compute x form arguments others rest) is =
        let both = first_of (calls_none standing form && holds_none standing others) (keeps_in standing rest) is in (
          none_called standing form (first_of (calls_none standing form) (holds_none standing others) both),
          (
            none_held standing others (second_of (calls_none standing form) (holds_none standing others) both),
            keeps_code rest (second_of (calls_none standing form && holds_none standing others) (keeps_in standing rest) is),
          ),
        )
    keeps_code (Tokened.inside x block rest) is = (
      keeps_code block (first_of (keeps_in standing block) (keeps_in standing rest) is),
      keeps_code rest (second_of (keeps_in standing block) (keeps_in standing rest) is),
    )
    keeps_code (Tokened.read x c fields rest) is = keeps_code rest is
    keeps_code (Tokened.open_cell x c fields used y rest) is = (
      of_it standing c (first_of (is_of standing c) (keeps_in standing rest) is),
      keeps_code rest (second_of (is_of standing c) (keeps_in standing rest) is),
    )
    keeps_code (Tokened.if_unique x c fields used y rest) is = (
      of_it standing c (first_of (is_of standing c) (keeps_in standing rest) is),
      keeps_code rest (second_of (is_of standing c) (keeps_in standing rest) is),
    )
    keeps_code (Tokened.dup x rest) is = keeps_code rest is
    keeps_code (Tokened.drop x rest) is = keeps_code rest is
    keeps_code (Tokened.fill x y c first arguments kept others rest) is = (
      none_held standing others (first_of (holds_none standing others) (keeps_in standing rest) is),
      keeps_code rest (second_of (holds_none standing others) (keeps_in standing rest) is),
    )
    keeps_code (Tokened.free y rest) is = keeps_code rest is
    keeps_code (Tokened.null y rest) is = keeps_code rest is
    keeps_code (Tokened.move to of rest) is = (
      is_nothing standing (first_of (not (count_stands standing)) (keeps_in standing rest) is),
      keeps_code rest (second_of (not (count_stands standing)) (keeps_in standing rest) is),
    )
    keeps_code (Tokened.hold y rest) is = (
      is_nothing standing (first_of (not (count_stands standing)) (keeps_in standing rest) is),
      keeps_code rest (second_of (not (count_stands standing)) (keeps_in standing rest) is),
    )
    keeps_code (Tokened.unhold y rest) is = (
      is_nothing standing (first_of (not (count_stands standing)) (keeps_in standing rest) is),
      keeps_code rest (second_of (not (count_stands standing)) (keeps_in standing rest) is),
    )
    keeps_code (Tokened.if_token y there absent) is = (
      keeps_code there (first_of (keeps_in standing there) (keeps_in standing absent) is),
      keeps_code absent (second_of (keeps_in standing there) (keeps_in standing absent) is),
    )

    keeps_arms : (arms : TokenedArms) → keeps_in_arms standing arms ≡ true → AllKeep standing arms
    keeps_arms TokenedArms.no_arm is = tt
    keeps_arms (TokenedArms.arm body rest) is = (
      keeps_code body (first_of (keeps_in standing body) (keeps_in_arms standing rest) is),
      keeps_arms rest (second_of (keeps_in standing body) (keeps_in_arms standing rest) is),
    )

-- where nothing stands all code keeps it
and_both : (a b : Bool) → a ≡ true → b ≡ true → (a && b) ≡ true
and_both true b first second = second
and_both false b first second = cc first

holds_nothing : (others : List ℕ) → holds_none Nothing others ≡ true
holds_nothing [] = refl
holds_nothing (other ∷ others) = refl

calls_nothing : (form : Form) → calls_none Nothing form ≡ true
calls_nothing (Number n) = refl
calls_nothing Nothing_made = refl
calls_nothing ReadByte = refl
calls_nothing (PrintText how text) = refl
calls_nothing (Unary operator) = refl
calls_nothing (Binary operator) = refl
calls_nothing (Print how) = refl
calls_nothing (Construct c) = refl
calls_nothing (Call f) = refl

mutual
  none_lost : (code : Tokened) → keeps_in Nothing code ≡ true
  none_lost (Tokened.give x) = refl
  none_lost (Tokened.tail_call f arguments) = refl
  none_lost (Tokened.case x decisions arms) = none_lost_in arms
  none_lost (Tokened.compute x form arguments others rest) =
      and_both (calls_none Nothing form && holds_none Nothing others) (keeps_in Nothing rest)
      (and_both (calls_none Nothing form) (holds_none Nothing others) (calls_nothing form) (holds_nothing others)) (none_lost rest)
  none_lost (Tokened.inside x block rest) =
      and_both (keeps_in Nothing block) (keeps_in Nothing rest) (none_lost block) (none_lost rest)
  none_lost (Tokened.read x c fields rest) = none_lost rest
  none_lost (Tokened.open_cell x c fields used y rest) = none_lost rest
  none_lost (Tokened.if_unique x c fields used y rest) = none_lost rest
  none_lost (Tokened.dup x rest) = none_lost rest
  none_lost (Tokened.drop x rest) = none_lost rest
  none_lost (Tokened.fill x y c first arguments kept others rest) =
      and_both (holds_none Nothing others) (keeps_in Nothing rest) (holds_nothing others) (none_lost rest)
  none_lost (Tokened.free y rest) = none_lost rest
  none_lost (Tokened.null y rest) = none_lost rest
  none_lost (Tokened.move to of rest) = none_lost rest
  none_lost (Tokened.hold y rest) = none_lost rest
  none_lost (Tokened.unhold y rest) = none_lost rest
  none_lost (Tokened.if_token y there absent) =
      and_both (keeps_in Nothing there) (keeps_in Nothing absent) (none_lost there) (none_lost absent)

  none_lost_in : (arms : TokenedArms) → keeps_in_arms Nothing arms ≡ true
  none_lost_in TokenedArms.no_arm = refl
  none_lost_in (TokenedArms.arm body rest) =
      and_both (keeps_in Nothing body) (keeps_in_arms Nothing rest) (none_lost body) (none_lost_in rest)

pub nothing_kept : (code : Tokened) → Keeps Nothing code
nothing_kept code = keeps_code Nothing code (none_lost code)

-- ---- blocks

put_keeps : (standing : Standing) (move : TokenedMove) (moves : List TokenedMove) (last : Tokened)
    → keeps_in standing (plug_tokened moves last) ≡ (keeps_steps standing moves && keeps_in standing last)
    → keeps_in standing (plug_tokened (move ∷ moves) last)
    ≡ ((keeps_step standing move && keeps_steps standing moves) && keeps_in standing last)
put_keeps standing (TokenedMove.computes x form arguments others) moves last is =
    ap (λ b. (calls_none standing form && holds_none standing others) && b) is
    ∙ sym (and_over (calls_none standing form && holds_none standing others) (keeps_steps standing moves) (keeps_in standing last))
put_keeps standing (TokenedMove.runs x block) moves last is =
    ap (λ b. keeps_in standing block && b) is
    ∙ sym (and_over (keeps_in standing block) (keeps_steps standing moves) (keeps_in standing last))
put_keeps standing (TokenedMove.reads x c fields) moves last is = is
put_keeps standing (TokenedMove.opens x c fields used y) moves last is =
    ap (λ b. is_of standing c && b) is
    ∙ sym (and_over (is_of standing c) (keeps_steps standing moves) (keeps_in standing last))
put_keeps standing (TokenedMove.opens_unique x c fields used y) moves last is =
    ap (λ b. is_of standing c && b) is
    ∙ sym (and_over (is_of standing c) (keeps_steps standing moves) (keeps_in standing last))
put_keeps standing (TokenedMove.dups x) moves last is = is
put_keeps standing (TokenedMove.drops x) moves last is = is
put_keeps standing (TokenedMove.fills x y c first arguments kept others) moves last is =
    ap (λ b. holds_none standing others && b) is
    ∙ sym (and_over (holds_none standing others) (keeps_steps standing moves) (keeps_in standing last))
put_keeps standing (TokenedMove.frees y) moves last is = is
put_keeps standing (TokenedMove.nulls y) moves last is = is
put_keeps standing (TokenedMove.moves to of) moves last is =
    ap (λ b. not (count_stands standing) && b) is
    ∙ sym (and_over (not (count_stands standing)) (keeps_steps standing moves) (keeps_in standing last))
put_keeps standing (TokenedMove.holds y) moves last is =
    ap (λ b. not (count_stands standing) && b) is
    ∙ sym (and_over (not (count_stands standing)) (keeps_steps standing moves) (keeps_in standing last))
put_keeps standing (TokenedMove.unholds y) moves last is =
    ap (λ b. not (count_stands standing) && b) is
    ∙ sym (and_over (not (count_stands standing)) (keeps_steps standing moves) (keeps_in standing last))

plug_keeps : (standing : Standing) (moves : List TokenedMove) (last : Tokened)
    → keeps_in standing (plug_tokened moves last) ≡ (keeps_steps standing moves && keeps_in standing last)
plug_keeps standing [] last = refl
plug_keeps standing (move ∷ moves) last = put_keeps standing move moves last (plug_keeps standing moves last)

-- a block keeps what its steps and its end keep
pub block_keeps : (standing : Standing) (block : TokenedBlock) (steps : List TokenedStep) (first last whole : Bool)
    → steps ≡ block.steps.items → first ≡ keeps_steps standing (map tokened_move steps)
    → last ≡ keeps_in standing (tokened_last_code block.last) → whole ≡ (first && last)
    → whole ≡ keeps_in standing (tokened_code block)
block_keeps standing block steps first last whole steps_are first_is last_is is =
    is ∙ ap (λ b. b && last) (first_is ∙ ap (λ xs. keeps_steps standing (map tokened_move xs)) steps_are)
    ∙ ap (λ b. keeps_steps standing (map tokened_move block.steps.items) && b) last_is
    ∙ sym (plug_keeps standing (map tokened_move block.steps.items) (tokened_last_code block.last))
    ∙ ap (keeps_in standing) (sym (tokened_block_is block))
