-- Paired code takes few words: what it takes more than the code that it is made of is paid by that code's calls and constructions, its
-- arms, and the ends of its blocks.
use Rattle.std.proofs.Common.{◌≡◌, ◌≤◌, ℕ, zero, suc, ◌+◌, ◌-◌, ◌*◌, ◌==◌, ◌||◌, Bool, true, false, if◌then◌else◌, List, []}
use Rattle.std.proofs.Common.{◌∷◌, refl, ap, ◌∙◌, ne_eqb, arith}
use Rattle.kk_syntax.specs.declared.program.Form.{Form}
use Rattle.kk_syntax.specs.declared.program.Form.TheVariants.{Construct, Call}
use Rattle.kk_core.specs.CodeNodes.{form_words}
use Rattle.kk_counted.specs.CountedCodes.{Counted, give, tail_call, case, compute, inside, read, open_cell, if_unique, dup}
use Rattle.kk_counted.specs.CountedCodes.{drop, CountedArms, no_arm, arm}
use Rattle.kk_counted.specs.TokenCosts.{openings, openings_of}
use Rattle.kk_counted.specs.TokenedCodes.{Tokened}
use Rattle.kk_counted.specs.BlockEnds.{HasAnArm, EndsWell, ArmsEndWell}
use Rattle.kk_counted.specs.TokenWords.{code_words, arms_words, branch_ends, arms_ends, lacking, arms_lacking, holds_tokens}
use Rattle.kk_counted.specs.TokenWords.{token_words, arms_token_words}
use Rattle.kk_counted.specs.TokenedWords.{tokened_words, tokened_arms_words}
use Rattle.kk_reuse.specs.Following.{makes_cell, may_make, arms_may_make, kept, taken, leaves}
use Rattle.kk_reuse.specs.Pairing.{frees, holds, all_taken_back, nulls, moves_up, filled_up, settled, left_by, paired_form, paired}
use Rattle.kk_reuse.specs.Pairing.{paired_arms}
use Rattle.kk_reuse.proofs.LaterForms.{none_behind}
use Rattle.kk_reuse.proofs.TakenBack.{HeldAgain, back_so}
use Rattle.kk_reuse.proofs.TokenRoom.{kept_few, taken_few, leaves_few, slots_many}

-- ---- forms that only tokens have, in front of a code

frees_words : (n : ℕ) (code : Tokened) → tokened_words (frees n code) ≡ 5 * n + tokened_words code
frees_words zero code = omega arith
frees_words (suc n) code = omega (arith, frees_words n code)

holds_words : (n : ℕ) (code : Tokened) → tokened_words (holds n code) ≡ 7 * n + tokened_words code
holds_words zero code = omega arith
holds_words (suc n) code = omega (arith, holds_words n (Tokened.hold n code))

words_still : (y : ℕ) (code less : Tokened) → HeldAgain y code less → tokened_words less ≤ tokened_words code
words_still y _ _ (HeldAgain.here rest) = omega arith
words_still y _ _ (HeldAgain.behind x code less again) = omega (arith, words_still y code less again)

back_words : (n : ℕ) (code : Tokened) → tokened_words (all_taken_back n code) ≤ 4 * n + tokened_words code
back_words zero code = omega arith
back_words (suc n) code =
    back_so (λ back. tokened_words back ≤ 4 * suc n + tokened_words code) n (all_taken_back n code)
    (omega (arith, back_words n code))
    (λ less again. omega (arith, words_still n (all_taken_back n code) less again, back_words n code))

nulls_words : (n : ℕ) (code : Tokened) → tokened_words (nulls n code) ≡ 3 * n + tokened_words code
nulls_words zero code = omega arith
nulls_words (suc n) code = omega (arith, nulls_words n code)

moves_words : (by n : ℕ) (code : Tokened) → tokened_words (moves_up by n code) ≡ 4 * n + tokened_words code
moves_words by zero code = omega arith
moves_words by (suc n) code = omega (arith, moves_words by n code)

-- the end of a block that leaves l tokens
filled_words : (l n : ℕ) (code : Tokened) → tokened_words (filled_up (l - n) n code) ≤ 4 * l + tokened_words code
filled_words l n code = by (l - n) refl
  where
    by : (more : ℕ) → more ≡ l - n → tokened_words (filled_up more n code) ≤ 4 * l + tokened_words code
    by zero is = omega arith
    by (suc more) is =
        omega (arith, is, moves_words (suc more) n (nulls (suc more) code), nulls_words (suc more) code)

-- nothing is written where it has as many
filled_none : (l n : ℕ) (code : Tokened) → l ≤ n → tokened_words (filled_up (l - n) n code) ≡ tokened_words code
filled_none l n code few = by (l - n) refl
  where
    by : (more : ℕ) → more ≡ l - n → tokened_words (filled_up more n code) ≡ tokened_words code
    by zero is = refl
    by (suc more) is = absurd (omega (arith, is, few))

form_takes : (n x : ℕ) (form : Form) (arguments : List ℕ) (rest : Tokened)
    → tokened_words (paired_form n x form arguments rest)
    ≤ form_words form arguments + (if holds_tokens form arguments then 11 * n else 0) + tokened_words rest
form_takes (suc n) x (Construct c) (first ∷ arguments) rest = omega (arith, slots_many n)
form_takes n x (Call f) arguments rest =
    omega (
      arith,
      holds_words n (Tokened.compute x (Call f) arguments [] (all_taken_back n rest)),
      back_words n rest,
    )
form_takes n x form arguments rest = omega arith

-- fewer tokens are held with fewer words
held_few : (b : Bool) (n t : ℕ) → n ≤ t → (if b then 11 * n else 0) ≤ (if b then 11 * t else 0)
held_few true n t few = omega (arith, few)
held_few false n t few = omega arith

-- ---- what can follow

or_true : (b : Bool) → (b || true) ≡ true
or_true true = refl
or_true false = refl

-- before the end of a block behind which a cell may be made, one may be made
mutual
  makes : (code : Counted) → EndsWell true code → may_make true code ≡ true
  makes (give x) ends = refl
  makes (tail_call f arguments) ends = absurd (cc)
  makes (case x decisions no_arm) ends = absurd ends.0
  makes (case x decisions (arm body rest)) ends = ap (λ b. b || arms_may_make true rest) (makes body ends.1.0)
  makes (compute x form arguments rest) ends =
      ap (λ b. makes_cell form arguments || b) (makes rest ends) ∙ or_true (makes_cell form arguments)
  makes (inside x block rest) ends = ap (λ b. may_make b block) (makes rest ends.1) ∙ makes block ends.0
  makes (read x c fields rest) ends = makes rest ends
  makes (open_cell x c fields used rest) ends = makes rest ends
  makes (if_unique x c fields used rest) ends = makes rest ends
  makes (dup x rest) ends = makes rest ends
  makes (drop x rest) ends = makes rest ends

-- so all tokens are kept there
kept_all : (code : Counted) → EndsWell true code → (n : ℕ) → kept true code n ≡ n
kept_all code ends n = ap (λ b. if b then n else 0) (makes code ends)

settled_all : (code : Counted) → EndsWell true code → (l n : ℕ)
    → tokened_words (settled true code n (paired true l (kept true code n) code)) ≡ tokened_words (paired true l n code)
settled_all code ends l n =
    ap (λ b. tokened_words (if b then paired true l (if b then n else 0) code
    else frees n (paired true l (if b then n else 0) code))) (makes code ends)

-- ---- the ends of blocks

-- the tokens that the ends of a code lack, where a block that leaves l ends with it
abbrev short : ℕ → ℕ → Counted → ℕ
short l t code = if branch_ends code == 0 then l else lacking (l - t) code

either_less : (e : Bool) (a b c d : ℕ) → a ≤ b → c ≤ d → (if e then a else c) ≤ (if e then b else d)
either_less true a b c d one two = one
either_less false a b c d one two = two

mutual
  lacking_more : (code : Counted) (a b : ℕ) → a ≤ b → lacking a code ≤ lacking b code
  lacking_more (give x) a b less = omega arith
  lacking_more (tail_call f arguments) a b less = omega arith
  lacking_more (case x decisions arms) a b less = arms_lacking_more arms a b less
  lacking_more (compute x form arguments rest) a b less = lacking_more rest a b less
  lacking_more (inside x block rest) a b less =
      lacking_more rest (a - openings block) (b - openings block) (omega (arith, less))
  lacking_more (read x c fields rest) a b less = lacking_more rest a b less
  lacking_more (open_cell x c fields used rest) a b less = lacking_more rest (a - 1) (b - 1) (omega (arith, less))
  lacking_more (if_unique x c fields used rest) a b less = lacking_more rest (a - 1) (b - 1) (omega (arith, less))
  lacking_more (dup x rest) a b less = lacking_more rest a b less
  lacking_more (drop x rest) a b less = lacking_more rest a b less

  arms_lacking_more : (arms : CountedArms) (a b : ℕ) → a ≤ b → arms_lacking a arms ≤ arms_lacking b arms
  arms_lacking_more no_arm a b less = omega arith
  arms_lacking_more (arm body rest) a b less =
      omega (
        arith,
        either_less (branch_ends body == 0) a b (lacking a body) (lacking b body) less (lacking_more body a b less),
        arms_lacking_more rest a b less,
      )

-- a case with an arm has ends
some_ends : (x : ℕ) (arms : CountedArms) → HasAnArm arms → (e : ℕ) → e ≡ arms_ends arms → (e == 0) ≡ false
some_ends x no_arm has e is = absurd has
some_ends x (arm body rest) has zero is = absurd (omega (arith, is))
some_ends x (arm body rest) has (suc e) is = ne_eqb (suc e) 0 (λ same. omega (arith, same))

-- ---- blocks behind which a cell may be made

abbrev FitsBlock : Counted → Type 0
FitsBlock code =
    (l n t : ℕ) → n ≤ t
    → tokened_words (paired true l n code) + 5 * openings code ≤ code_words code + token_words t code + 4 * short l t code

abbrev FitsStraight : Counted → Type 0
FitsStraight code =
    branch_ends code ≡ 0 → (l n t : ℕ) → l ≡ leaves true n code → n ≤ t
    → tokened_words (paired true l n code) + 5 * openings code ≤ code_words code + token_words t code

abbrev FitsExactly : Counted → Type 0
FitsExactly code =
    (n t : ℕ) → n ≤ t
    → tokened_words (paired true (leaves true n code) n code) + 5 * openings code
    ≤ code_words code + token_words t code + 4 * lacking (openings code) code

exactly : (code : Counted) → FitsBlock code → FitsStraight code → FitsExactly code
exactly code fits straight n t few = by (branch_ends code) refl
  where
    by : (e : ℕ) → branch_ends code ≡ e
        → tokened_words (paired true (leaves true n code) n code) + 5 * openings code
        ≤ code_words code + token_words t code + 4 * lacking (openings code) code
    by zero is = omega (arith, straight is (leaves true n code) n t refl few)
    by (suc e) is =
        let l : ℕ = leaves true n code in
        let some : short l t code ≡ lacking (l - t) code
        = ap (λ k. if k == 0 then l else lacking (l - t) code) is
        ∙ ap (λ b. if b then l else lacking (l - t) code) (ne_eqb (suc e) 0 (λ same. omega (arith, same))) in
        let less = lacking_more code (l - t) (openings code) (omega (arith, leaves_few code true n, few)) in
        omega (arith, fits l n t few, some, less)

-- the block of a form that runs one
abbrev inner : Bool → ℕ → Counted → Tokened
inner b n block = settled b block n (paired b (leaves b (kept b block n) block) (kept b block n) block)

inner_true : (block : Counted) → EndsWell true block → (n : ℕ)
    → tokened_words (inner true n block) ≡ tokened_words (paired true (leaves true n block) n block)
inner_true block ends n =
    settled_all block ends (leaves true (kept true block n) block) n
    ∙ ap (λ k. tokened_words (paired true (leaves true k block) n block)) (kept_all block ends n)

-- A block inside and what comes behind it, where a cell may be made behind both: as many tokens as the block leaves come behind it,
-- and none is freed in front of either.
record InsideTakes (block rest : Counted) (n l : ℕ) : Type 0 where
  same : left_by true n block rest ≡ leaves true n block
  own : tokened_words (settled (may_make true rest) block n (paired (may_make true rest) (left_by true n block rest)
      (kept (may_make true rest) block n) block)) ≡ tokened_words (paired true (leaves true n block) n block)
  later : tokened_words (settled true rest (left_by true n block rest)
      (paired true l (kept true rest (left_by true n block rest)) rest)) ≡ tokened_words (paired true l (leaves true n block) rest)

takes_inside : (block rest : Counted) → EndsWell true block → EndsWell true rest → (n l : ℕ) → InsideTakes block rest n l
takes_inside block rest first ends n l =
    let same : left_by true n block rest ≡ leaves true n block
    = ap (λ b. leaves b (kept b block n) block) (makes rest ends) ∙ ap (λ k. leaves true k block) (kept_all block first n) in
    record {
      same = same;
      own = ap (λ b. tokened_words (inner b n block)) (makes rest ends) ∙ inner_true block first n;
      later = settled_all rest ends l (left_by true n block rest) ∙ ap (λ k. tokened_words (paired true l k rest)) same;
    }

-- an arm pays for the tokens that are there
end_paid : (e : Bool) (l t k : ℕ) → 4 * (if e then l else k) ≤ 5 * t + 4 * (if e then l - t else k)
end_paid true l t k = omega arith
end_paid false l t k = omega arith

mutual
  fits_block : (code : Counted) → EndsWell true code → FitsBlock code
  fits_block (give x) ends l n t few = omega (arith, filled_words l n (Tokened.give x))
  fits_block (tail_call f arguments) ends l n t few = absurd (cc)
  fits_block (case x decisions arms) ends l n t few =
      let some : short l t (case x decisions arms) ≡ arms_lacking (l - t) arms
      = ap (λ b. if b then l else arms_lacking (l - t) arms) (some_ends x arms ends.0 (arms_ends arms) refl) in
      omega (arith, some, arms_fit arms ends.1 l n t few)
  fits_block (compute x form arguments rest) ends l n t few =
      let n2 : ℕ = taken form arguments n in
      let left : n2 ≤ n = taken_few form arguments n in
      omega (
        arith,
        form_takes n x form arguments (settled true rest n2 (paired true l (kept true rest n2) rest)),
        held_few (holds_tokens form arguments) n t few,
        settled_all rest ends l n2,
        fits_block rest ends l n2 t (omega (arith, few, left)),
      )
  fits_block (inside x block rest) ends l n t few =
      let o : ℕ = openings block in
      let inside_takes = takes_inside block rest ends.0 ends.1 n l in
      let further : leaves true n block ≤ t + o = omega (arith, leaves_few block true n, few) in
      let lacks : short l (t + o) rest ≡ short l t (inside x block rest)
      = ap (λ k. if branch_ends rest == 0 then l else lacking k rest) (omega arith) in
      omega (
        arith,
        inside_takes.own,
        exactly block (fits_block block ends.0) (fits_straight block ends.0) n t few,
        inside_takes.later,
        lacks,
        fits_block rest ends.1 l (leaves true n block) (t + o) further,
      )
  fits_block (read x c fields rest) ends l n t few =
      omega (arith, settled_all rest ends l n, fits_block rest ends l n t few)
  fits_block (open_cell x c fields used rest) ends l n t few =
      let lacks : short l (suc t) rest ≡ short l t (open_cell x c fields used rest)
      = ap (λ k. if branch_ends rest == 0 then l else lacking k rest) (omega arith) in
      omega (arith, lacks, settled_all rest ends l (suc n), fits_block rest ends l (suc n) (suc t) (omega (arith, few)))
  fits_block (if_unique x c fields used rest) ends l n t few =
      let lacks : short l (suc t) rest ≡ short l t (if_unique x c fields used rest)
      = ap (λ k. if branch_ends rest == 0 then l else lacking k rest) (omega arith) in
      omega (arith, lacks, settled_all rest ends l (suc n), fits_block rest ends l (suc n) (suc t) (omega (arith, few)))
  fits_block (dup x rest) ends l n t few =
      omega (arith, settled_all rest ends l n, fits_block rest ends l n t few)
  fits_block (drop x rest) ends l n t few =
      omega (arith, settled_all rest ends l n, fits_block rest ends l n t few)

  arms_fit : (arms : CountedArms) → ArmsEndWell true arms → (l n t : ℕ) → n ≤ t
      → tokened_arms_words (paired_arms true l n arms) + 5 * openings_of arms
      ≤ arms_words arms + arms_token_words t arms + 4 * arms_lacking (l - t) arms
  arms_fit no_arm ends l n t few = omega arith
  arms_fit (arm body rest) ends l n t few =
      omega (
        arith,
        settled_all body ends.0 l n,
        fits_block body ends.0 l n t few,
        end_paid (branch_ends body == 0) l t (lacking (l - t) body),
        arms_fit rest ends.1 l n t few,
      )

  fits_straight : (code : Counted) → EndsWell true code → FitsStraight code
  fits_straight (give x) ends none l n t is few = omega (arith, filled_none l n (Tokened.give x) (omega (arith, is)))
  fits_straight (tail_call f arguments) ends none l n t is few = absurd (cc)
  fits_straight (case x decisions no_arm) ends none l n t is few = absurd ends.0
  fits_straight (case x decisions (arm body rest)) ends none l n t is few = absurd (omega (arith, none))
  fits_straight (compute x form arguments rest) ends none l n t is few =
      let n2 : ℕ = taken form arguments n in
      let left : n2 ≤ n = taken_few form arguments n in
      let leave : l ≡ leaves true n2 rest = is ∙ ap (λ k. leaves true k rest) (kept_all rest ends n2) in
      omega (
        arith,
        form_takes n x form arguments (settled true rest n2 (paired true l (kept true rest n2) rest)),
        held_few (holds_tokens form arguments) n t few,
        settled_all rest ends l n2,
        fits_straight rest ends none l n2 t leave (omega (arith, few, left)),
      )
  fits_straight (inside x block rest) ends none l n t is few =
      let o : ℕ = openings block in
      let inside_takes = takes_inside block rest ends.0 ends.1 n l in
      let further : leaves true n block ≤ t + o = omega (arith, leaves_few block true n, few) in
      let leave : l ≡ leaves true (leaves true n block) rest
      = is ∙ (ap (λ k. leaves true k rest) (kept_all rest ends.1 (left_by true n block rest))
      ∙ ap (λ k. leaves true k rest) inside_takes.same) in
      omega (
        arith,
        inside_takes.own,
        exactly block (fits_block block ends.0) (fits_straight block ends.0) n t few,
        inside_takes.later,
        fits_straight rest ends.1 none l (leaves true n block) (t + o) leave further,
      )
  fits_straight (read x c fields rest) ends none l n t is few =
      let leave : l ≡ leaves true n rest = is ∙ ap (λ k. leaves true k rest) (kept_all rest ends n) in
      omega (arith, settled_all rest ends l n, fits_straight rest ends none l n t leave few)
  fits_straight (open_cell x c fields used rest) ends none l n t is few =
      let leave : l ≡ leaves true (suc n) rest = is ∙ ap (λ k. leaves true k rest) (kept_all rest ends (suc n)) in
      omega (
        arith,
        settled_all rest ends l (suc n),
        fits_straight rest ends none l (suc n) (suc t) leave (omega (arith, few)),
      )
  fits_straight (if_unique x c fields used rest) ends none l n t is few =
      let leave : l ≡ leaves true (suc n) rest = is ∙ ap (λ k. leaves true k rest) (kept_all rest ends (suc n)) in
      omega (
        arith,
        settled_all rest ends l (suc n),
        fits_straight rest ends none l (suc n) (suc t) leave (omega (arith, few)),
      )
  fits_straight (dup x rest) ends none l n t is few =
      let leave : l ≡ leaves true n rest = is ∙ ap (λ k. leaves true k rest) (kept_all rest ends n) in
      omega (arith, settled_all rest ends l n, fits_straight rest ends none l n t leave few)
  fits_straight (drop x rest) ends none l n t is few =
      let leave : l ≡ leaves true n rest = is ∙ ap (λ k. leaves true k rest) (kept_all rest ends n) in
      omega (arith, settled_all rest ends l n, fits_straight rest ends none l n t leave few)

-- ---- code behind which no cell may be made

abbrev FitsTail : Counted → Type 0
FitsTail code =
    (l n t : ℕ) → l ≡ 0 → n ≤ t → tokened_words (paired false l n code) ≤ code_words code + token_words t code + 5 * n

settled_tail : (code : Counted) → FitsTail code → (l n t : ℕ) → l ≡ 0 → n ≤ t
    → tokened_words (settled false code n (paired false l (kept false code n) code))
    ≤ code_words code + token_words t code + 5 * n
settled_tail code fits l n t none few = by (may_make false code)
  where
    start : Bool → Tokened
    start b = paired false l (if b then n else 0) code

    by : (b : Bool) → tokened_words (if b then start b else frees n (start b)) ≤ code_words code + token_words t code + 5 * n
    by true = fits l n t none few
    by false = omega (arith, frees_words n (paired false l 0 code), fits l 0 t none (omega arith))

-- a block, with what it takes to free the tokens that it leaves
block_takes : (block : Counted) → EndsWell true block → FitsTail block → (n t : ℕ) → n ≤ t → (b : Bool)
    → tokened_words (inner b n block) + 5 * leaves b (kept b block n) block
    ≤ code_words block + token_words t block + 4 * lacking (openings block) block + 5 * n
block_takes block ends fits n t few true =
    let same : leaves true (kept true block n) block ≡ leaves true n block
    = ap (λ k. leaves true k block) (kept_all block ends n) in
    omega (
      arith,
      inner_true block ends n,
      exactly block (fits_block block ends) (fits_straight block ends) n t few,
      same,
      leaves_few block true n,
    )
block_takes block ends fits n t few false =
    let none : leaves false (kept false block n) block ≡ 0 = none_behind block n in
    omega (arith, none, settled_tail block fits (leaves false (kept false block n) block) n t none few)

mutual
  fits_tail : (code : Counted) (b : Bool) → EndsWell b code → FitsTail code
  fits_tail (give x) b ends l n t none few = omega (arith, filled_none l n (Tokened.give x) (omega (arith, none)))
  fits_tail (tail_call f arguments) b ends l n t none few = omega (arith, frees_words n (Tokened.tail_call f arguments))
  fits_tail (case x decisions no_arm) b ends l n t none few = absurd ends.0
  fits_tail (case x decisions (arm body rest)) b ends l n t none few =
      omega (arith, arms_tail (arm body rest) b ends.1 l n t none few)
  fits_tail (compute x form arguments rest) b ends l n t none few =
      let n2 : ℕ = taken form arguments n in
      let left : n2 ≤ n = taken_few form arguments n in
      omega (
        arith,
        form_takes n x form arguments (settled false rest n2 (paired false l (kept false rest n2) rest)),
        held_few (holds_tokens form arguments) n t few,
        settled_tail rest (fits_tail rest b ends) l n2 t none (omega (arith, few, left)),
        left,
      )
  fits_tail (inside x block rest) b ends l n t none few =
      let m : Bool = may_make false rest in
      let outer : ℕ = left_by false n block rest in
      let o : ℕ = openings block in
      let most = leaves_few block m (kept m block n) in
      let some = kept_few (may_make m block) n in
      let further : outer ≤ t + o = omega (arith, most, some, few) in
      omega (
        arith,
        block_takes block ends.0 (fits_tail block true ends.0) n t few m,
        settled_tail rest (fits_tail rest b ends.1) l outer (t + o) none further,
      )
  fits_tail (read x c fields rest) b ends l n t none few =
      omega (arith, settled_tail rest (fits_tail rest b ends) l n t none few)
  fits_tail (open_cell x c fields used rest) b ends l n t none few =
      omega (arith, settled_tail rest (fits_tail rest b ends) l (suc n) (suc t) none (omega (arith, few)))
  fits_tail (if_unique x c fields used rest) b ends l n t none few =
      omega (arith, settled_tail rest (fits_tail rest b ends) l (suc n) (suc t) none (omega (arith, few)))
  fits_tail (dup x rest) b ends l n t none few =
      omega (arith, settled_tail rest (fits_tail rest b ends) l n t none few)
  fits_tail (drop x rest) b ends l n t none few =
      omega (arith, settled_tail rest (fits_tail rest b ends) l n t none few)

  arms_tail : (arms : CountedArms) (b : Bool) → ArmsEndWell b arms → (l n t : ℕ) → l ≡ 0 → n ≤ t
      → tokened_arms_words (paired_arms false l n arms) ≤ arms_words arms + arms_token_words t arms
  arms_tail no_arm b ends l n t none few = omega arith
  arms_tail (arm body rest) b ends l n t none few =
      omega (
        arith,
        settled_tail body (fits_tail body b ends.0) l n t none few,
        arms_tail rest b ends.1 l n t none few,
        few,
      )

-- ---- functions

-- the body of a function, paired
pub body_takes : (code : Counted) → EndsWell false code
    → tokened_words (paired false 0 0 code) ≤ code_words code + token_words 0 code
body_takes code ends = omega (arith, fits_tail code false ends 0 0 0 refl (omega arith))
