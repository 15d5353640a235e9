-- Code in front of which tokens are taken back, or stay held.
use Rattle.std.proofs.Common.{◌≡◌, ℕ, zero, suc, ◌==◌, ◌-◌, ◌&&◌, Bool, true, false, if◌then◌else◌, List, [], ◌∷◌, refl, sym, ap, subst, ◌∙◌}
use Rattle.std.specs.Prelude.{Option, Some, None, option_map}
use Rattle.kk_syntax.specs.declared.program.Form.{Form}
use Rattle.kk_syntax.specs.declared.program.Form.TheVariants.{Number, Unit as Nothing, ReadByte, PrintText, Unary, Binary, Print, Construct, Call}
use Rattle.kk_counted.specs.CountedCodes.{Counted, give, tail_call, case, compute, inside, read, open_cell, if_unique, dup, drop}
use Rattle.kk_counted.specs.TokenedCodes.{Tokened}
use Rattle.kk_reuse.specs.Following.{may_make, taken}
use Rattle.kk_counted.proofs.CountChanges.{same, itself}
use Rattle.kk_reuse.specs.Pairing.{frees, holds, unholds, still_held, or_taken_back, taken_back, all_taken_back, filled_up, paired_form, paired}
use Rattle.kk_reuse.specs.PairedForms.{is_call, leads_to_call, held_behind, paired_block}

-- a code, and what is left of it where a token that it holds behind drops alone stays held instead
pub data HeldAgain (y : ℕ) : Tokened → Tokened → Type 0 where
  here : (rest : Tokened) → HeldAgain y (Tokened.hold y rest) rest
  behind : (x : ℕ) (code less : Tokened) → HeldAgain y code less → HeldAgain y (Tokened.drop x code) (Tokened.drop x less)

again_found : (y : ℕ) (code : Tokened) (found : Option Tokened) → still_held y code ≡ found
    → (less : Tokened) → found ≡ Some less → HeldAgain y code less
again_found y (Tokened.hold z rest) found is less there = by (y == z) refl (is ∙ there)
  where
    by : (b : Bool) → (y == z) ≡ b → (if b then Some rest else None) ≡ Some less → HeldAgain y (Tokened.hold z rest) less
    by true test one =
        let whole : rest ≡ less = cc in
        subst (λ (code : Tokened). HeldAgain y (Tokened.hold z rest) code) whole
        (subst (λ (w : ℕ). HeldAgain y (Tokened.hold w rest) rest) (same y z test) (HeldAgain.here rest))
    by false test one = absurd (cc)
again_found y (Tokened.drop x rest) found is less there =
    by (still_held y rest) (is ∙ there) (λ code. again_found y rest (still_held y rest) refl code)
  where
    by : (later : Option Tokened) → option_map (Tokened.drop x) later ≡ Some less
        → ((code : Tokened) → later ≡ Some code → HeldAgain y rest code) → HeldAgain y (Tokened.drop x rest) less
    by None one inner = absurd (cc)
    by (Some code) one inner =
        let whole : Tokened.drop x code ≡ less = cc in
        subst (λ (made : Tokened). HeldAgain y (Tokened.drop x rest) made) whole (HeldAgain.behind x rest code (inner code refl))
again_found y code found is less there = absurd (cc)

-- What is so where a token is taken back is so where it stays held instead, if it is so of what is left of the code.
pub back_so : (P : Tokened → Type 0) (y : ℕ) (code : Tokened) → P (Tokened.unhold y code)
    → ((less : Tokened) → HeldAgain y code less → P less) → P (taken_back y code)
back_so P y code so without = by (still_held y code) refl
  where
    by : (found : Option Tokened) → still_held y code ≡ found → P (or_taken_back y code found)
    by None is = so
    by (Some less) is = without less (again_found y code (Some less) is less refl)

-- ---- tokens that are held already

-- a reference of each variable is given up in front of a code
abbrev pub dropped : List ℕ → Tokened → Tokened
dropped [] code = code
dropped (x ∷ xs) code = Tokened.drop x (dropped xs code)

-- tokens that are held behind drops stay held
pub all_again_held : (n : ℕ) (xs : List ℕ) (code : Tokened) → all_taken_back n (dropped xs (holds n code)) ≡ dropped xs code
all_again_held zero xs code = refl
all_again_held (suc n) xs code =
    ap (taken_back n) (all_again_held n xs (Tokened.hold n code))
    ∙ ap (or_taken_back n (dropped xs (Tokened.hold n code))) (found n xs)
  where
    found : (n : ℕ) (xs : List ℕ) → still_held n (dropped xs (Tokened.hold n code)) ≡ Some (dropped xs code)
    found n [] = ap (λ b. if b then Some code else None) (itself n)
    found n (x ∷ xs) = ap (option_map (Tokened.drop x)) (found n xs)

-- ---- code that holds nothing behind its first drops

abbrev holds_first : Tokened → Bool
holds_first (Tokened.hold y rest) = true
holds_first (Tokened.drop x rest) = holds_first rest
holds_first code = false

none_found : (y : ℕ) (code : Tokened) → holds_first code ≡ false → still_held y code ≡ None
none_found y (Tokened.hold z rest) none = absurd (cc)
none_found y (Tokened.drop x rest) none = ap (option_map (Tokened.drop x)) (none_found y rest none)
none_found y code none = refl

all_back : (n : ℕ) (code : Tokened) → holds_first code ≡ false → all_taken_back n code ≡ unholds n code
all_back zero code none = refl
all_back (suc n) code none =
    ap (taken_back n) (all_back n code none)
    ∙ ap (or_taken_back n (unholds n code)) (none_found n (unholds n code) (first n))
  where
    first : (n : ℕ) → holds_first (unholds n code) ≡ false
    first zero = none
    first (suc n) = refl

form_holds_none : (n x : ℕ) (form : Form) (arguments : List ℕ) (rest : Tokened) → is_call form ≡ false
    → holds_first (paired_form n x form arguments rest) ≡ false
form_holds_none n x (Call f) arguments rest none = absurd (cc)
form_holds_none zero x (Construct c) [] rest none = refl
form_holds_none zero x (Construct c) (first ∷ arguments) rest none = refl
form_holds_none (suc n) x (Construct c) [] rest none = refl
form_holds_none (suc n) x (Construct c) (first ∷ arguments) rest none = refl
form_holds_none zero x (Number k) arguments rest none = refl
form_holds_none zero x Nothing arguments rest none = refl
form_holds_none zero x ReadByte arguments rest none = refl
form_holds_none zero x (PrintText how text) arguments rest none = refl
form_holds_none zero x (Unary operator) arguments rest none = refl
form_holds_none zero x (Binary operator) arguments rest none = refl
form_holds_none zero x (Print how) arguments rest none = refl
form_holds_none (suc n) x (Number k) arguments rest none = refl
form_holds_none (suc n) x Nothing arguments rest none = refl
form_holds_none (suc n) x ReadByte arguments rest none = refl
form_holds_none (suc n) x (PrintText how text) arguments rest none = refl
form_holds_none (suc n) x (Unary operator) arguments rest none = refl
form_holds_none (suc n) x (Binary operator) arguments rest none = refl
form_holds_none (suc n) x (Print how) arguments rest none = refl

-- only code whose first form behind drops is a call holds tokens there
holds_none : (code : Counted) (b : Bool) (l n : ℕ) → leads_to_call code ≡ false → holds_first (paired b l n code) ≡ false
holds_none (give x) b l n none = by (l - n) n
  where
    by : (more n : ℕ) → holds_first (filled_up more n (Tokened.give x)) ≡ false
    by zero n = refl
    by (suc more) zero = refl
    by (suc more) (suc n) = refl
holds_none (tail_call f arguments) b l zero none = refl
holds_none (tail_call f arguments) b l (suc n) none = refl
holds_none (case x decisions arms) b l n none = refl
holds_none (compute x form arguments rest) b l n none =
    form_holds_none n x form arguments (paired_block b l (taken form arguments n) rest) none
holds_none (inside x block rest) b l n none = refl
holds_none (read x c fields rest) b l n none = refl
holds_none (open_cell x c fields used rest) b l n none = refl
holds_none (if_unique x c fields used rest) b l n none = refl
holds_none (dup x rest) b l n none = refl
holds_none (drop x rest) b l n none = by (may_make b rest) (holds_none rest b l n none) (holds_none rest b l 0 none)
  where
    freed : (n : ℕ) (code : Tokened) → holds_first code ≡ false → holds_first (frees n code) ≡ false
    freed zero code first = first
    freed (suc n) code first = refl

    by : (makes : Bool) → holds_first (paired b l n rest) ≡ false → holds_first (paired b l 0 rest) ≡ false
        → holds_first (if makes then paired b l (if makes then n else 0) rest
        else frees n (paired b l (if makes then n else 0) rest)) ≡ false
    by true all some = all
    by false all some = freed n (paired b l 0 rest) some

-- ---- what is written behind a call

-- a code in front of which so many tokens are still held, or are not
abbrev pub held_still : Bool → ℕ → Tokened → Tokened
held_still held n code = if held then all_taken_back n code else code

-- Behind a call tokens stay held only where another one comes behind drops, and they are kept. There they are not yet taken back.
pub back_written : (b : Bool) (l n : ℕ) (rest : Counted)
    → held_behind (may_make b rest && leads_to_call rest) n
    (if may_make b rest
    then held_still (may_make b rest && leads_to_call rest) (if may_make b rest then n else 0)
    (paired b l (if may_make b rest then n else 0) rest)
    else frees n (held_still (may_make b rest && leads_to_call rest) (if may_make b rest then n else 0)
    (paired b l (if may_make b rest then n else 0) rest)))
    ≡ all_taken_back n (paired_block b l n rest)
back_written b l n rest = by (may_make b rest) (leads_to_call rest) refl
  where
    freed : (n : ℕ) → unholds n (frees n (paired b l 0 rest)) ≡ all_taken_back n (frees n (paired b l 0 rest))
    freed zero = refl
    freed (suc n) = sym (all_back (suc n) (frees (suc n) (paired b l 0 rest)) refl)

    by : (makes calls : Bool) → leads_to_call rest ≡ calls
        → held_behind (makes && calls) n
        (if makes then held_still (makes && calls) (if makes then n else 0) (paired b l (if makes then n else 0) rest)
        else frees n (held_still (makes && calls) (if makes then n else 0) (paired b l (if makes then n else 0) rest)))
        ≡ all_taken_back n (if makes then paired b l (if makes then n else 0) rest
        else frees n (paired b l (if makes then n else 0) rest))
    by true true is = refl
    by true false is = sym (all_back n (paired b l n rest) (holds_none rest b l n is))
    by false calls is = freed n

-- ---- calls

-- a call takes no token
pub call_takes_none : (form : Form) (arguments : List ℕ) (n : ℕ) → is_call form ≡ true → taken form arguments n ≡ n
call_takes_none (Call f) arguments n is = refl
call_takes_none form arguments n is = absurd (cc)

pub call_paired : (n x : ℕ) (form : Form) (arguments : List ℕ) (rest : Tokened) → is_call form ≡ true
    → paired_form n x form arguments rest ≡ holds n (Tokened.compute x form arguments [] (all_taken_back n rest))
call_paired zero x (Call f) arguments rest is = refl
call_paired (suc n) x (Call f) arguments rest is = refl
call_paired n x form arguments rest is = absurd (cc)

drop_kept : (b : Bool) (l n x : ℕ) (rest : Counted) → may_make b rest ≡ true
    → paired b l n (drop x rest) ≡ Tokened.drop x (paired b l n rest)
drop_kept b l n x rest makes =
    ap (λ m. Tokened.drop x (if m then paired b l (if m then n else 0) rest else frees n (paired b l (if m then n else 0) rest))) makes

-- code whose first form behind drops is a call, where its tokens are kept, holds them there
pub held_first : (b : Bool) (l n : ℕ) (code : Counted) → leads_to_call code ≡ true → may_make b code ≡ true
    → (xs : List ℕ) × ((rest : Tokened) × (paired b l n code ≡ dropped xs (holds n rest)))
held_first b l n (compute x form arguments rest) call makes =
    let behind = paired_block b l (taken form arguments n) rest in
    ([], (Tokened.compute x form arguments [] (all_taken_back n behind), call_paired n x form arguments behind call))
held_first b l n (drop x rest) call makes =
    let later = held_first b l n rest call makes in
    (x ∷ later.0, (later.1.0, drop_kept b l n x rest makes ∙ ap (Tokened.drop x) later.1.1))
held_first b l n code call makes = absurd (cc)

-- so a drop in front of it leaves its tokens held
pub held_drop : (b : Bool) (l n x : ℕ) (rest : Counted) → leads_to_call rest ≡ true → may_make b rest ≡ true
    → Tokened.drop x (all_taken_back n (paired b l n rest)) ≡ all_taken_back n (paired b l n (drop x rest))
held_drop b l n x rest call makes =
    let one = held_first b l n rest call makes in
    ap (λ code. Tokened.drop x (all_taken_back n code)) one.1.1
    ∙ ap (Tokened.drop x) (all_again_held n one.0 one.1.0)
    ∙ sym (ap (all_taken_back n) (drop_kept b l n x rest makes ∙ ap (Tokened.drop x) one.1.1)
    ∙ all_again_held n (x ∷ one.0) one.1.0)
