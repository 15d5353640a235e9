-- Paired code spends its tokens: each once on each path, and all are held at a call.
use Rattle.std.proofs.Common.{◌≡◌, ◌≤◌, ℕ, zero, suc, ◌+◌, ◌-◌, ◌==◌, Bool, true, false, ◌||◌, ◌&&◌, not, if◌then◌else◌, List, [], ◌∷◌, ◌++◌, nat_lt, nat_le, refl, sym, ap, subst, ◌∙◌, arith}
use Rattle.std.proofs.lemmas.Bool.Decides.{nat_tests}
use Rattle.kk_syntax.specs.declared.program.Form.{Form}
use Rattle.kk_syntax.specs.declared.program.Form.TheVariants.{Number, Unit as Nothing, ReadByte, PrintText, Unary, Binary, Print, Construct, Call}
use Rattle.kk_syntax.specs.Shapes.{is_among, without}
use Rattle.kk_counted.specs.CountedCodes.{Counted, give, tail_call, case, compute, inside, read, open_cell, if_unique, dup, drop, CountedArms, no_arm, arm, CountedProgram}
use Rattle.kk_counted.specs.Spending.{AreApart}
use Rattle.kk_counted.specs.TokenedCodes.{Tokened}
use Rattle.kk_counted.specs.TokenSpending.{AreSame, SpendsTokens, SpendAllTokens, AreTokensSpent}
use Rattle.kk_counted.proofs.Evenness.{among_front}
use Rattle.kk_counted.proofs.TokenForms.{among_without}
use Rattle.kk_reuse.specs.Following.{may_make, kept, taken, leaves, arms_leave}
use Rattle.kk_reuse.specs.Pairing.{slots_below, frees, holds, all_taken_back, nulls, moves_up, filled_up, settled, left_by, paired_form, paired, paired_arms, paired_function, paired_program}
use Rattle.kk_reuse.proofs.TakenBack.{HeldAgain, back_so}
use Rattle.kk_reuse.proofs.MappedLists.{each_made}

-- slots are those below a number
abbrev pub AreBelow : List ℕ → ℕ → Type 0
AreBelow slots n = (z : ℕ) → is_among slots z ≡ nat_lt z n

none_below : (z : ℕ) → nat_lt z 0 ≡ false
none_below z = grind (arith, nat_tests)

below_next : (n z : ℕ) → ((n == z) || nat_lt z n) ≡ nat_lt z (suc n)
below_next n z = grind (arith, nat_tests)

last_low : (n : ℕ) → nat_lt n (suc n) ≡ true
last_low n = grind (arith, nat_tests)

low_next : (n z : ℕ) → nat_lt z n ≡ true → nat_lt z (suc n) ≡ true
low_next n z low = grind (arith, nat_tests, low)

pub slots_are : (n : ℕ) → AreBelow (slots_below n) n
slots_are zero z = sym (none_below z)
slots_are (suc n) z = ap (λ b. (n == z) || b) (slots_are n z) ∙ below_next n z

last_there : (slots : List ℕ) (n : ℕ) → AreBelow slots (suc n) → is_among slots n ≡ true
last_there slots n below = below n ∙ last_low n

pub next_free : (slots : List ℕ) (n : ℕ) → AreBelow slots n → is_among slots n ≡ false
next_free slots n below = below n ∙ high n
  where
    high : (n : ℕ) → nat_lt n n ≡ false
    high n = grind (arith, nat_tests)

without_last : (slots : List ℕ) (n : ℕ) → AreBelow slots (suc n) → AreBelow (without (n ∷ []) slots) n
without_last slots n below z = among_without n z slots ∙ (ap (λ b. b && not (n == z)) (below z) ∙ less n z)
  where
    less : (n z : ℕ) → (nat_lt z (suc n) && not (n == z)) ≡ nat_lt z n
    less n z = grind (arith, nat_tests)

with_next : (slots : List ℕ) (n : ℕ) → AreBelow slots n → AreBelow (n ∷ slots) (suc n)
with_next slots n below z = ap (λ b. (n == z) || b) (below z) ∙ below_next n z

below_same : (slots others : List ℕ) (n : ℕ) → AreBelow slots n → AreBelow others n → AreSame slots others
below_same slots others n one other z = one z ∙ sym (other z)

pub slots_apart : (n : ℕ) → AreApart (slots_below n)
slots_apart zero = tt
slots_apart (suc n) = (next_free (slots_below n) n (slots_are n), slots_apart n)

-- ---- tokens that are freed, held, taken back, moved and null

frees_spend : (n : ℕ) (left slots : List ℕ) (code : Tokened) → AreBelow slots n
    → ((later : List ℕ) → AreBelow later 0 → SpendsTokens left later [] code) → SpendsTokens left slots [] (frees n code)
frees_spend zero left slots code below spends = spends slots below
frees_spend (suc n) left slots code below spends =
    (refl, (last_there slots n below, frees_spend n left (without (n ∷ []) slots) code (without_last slots n below) spends))

pub or_parts : (b c : Bool) → (b || c) ≡ false → (b ≡ false) × (c ≡ false)
or_parts true c = λ none. cc none
or_parts false c = λ none. (refl, none)

among_both : (xs ys : List ℕ) (z : ℕ) → is_among xs z ≡ false → is_among ys z ≡ false → is_among (xs ++ ys) z ≡ false
among_both [] ys z none absent = absent
among_both (x ∷ xs) ys z none absent =
    let parts = or_parts (x == z) (is_among xs z) none in
    ap (λ b. b || is_among (xs ++ ys) z) parts.0 ∙ among_both xs ys z parts.1 absent

holds_spend : (n : ℕ) (left slots held : List ℕ) (code : Tokened)
    → ((z : ℕ) → nat_lt z n ≡ true → (is_among slots z ≡ true) × (is_among held z ≡ false))
    → SpendsTokens left slots (slots_below n ++ held) code → SpendsTokens left slots held (holds n code)
holds_spend zero left slots held code each spends = spends
holds_spend (suc n) left slots held code each spends =
    holds_spend n left slots held (Tokened.hold n code) (λ z low. each z (low_next n z low))
    ((each n (last_low n)).0, (among_both (slots_below n) held n (next_free (slots_below n) n (slots_are n)) (each n (last_low n)).1, spends))

-- a token that is taken back and held again can stay held
spends_still : (y : ℕ) (left unspent held : List ℕ) (code less : Tokened) → HeldAgain y code less
    → SpendsTokens left unspent held (Tokened.unhold y code) → SpendsTokens left unspent held less
spends_still y left unspent held _ _ (HeldAgain.here rest) spends =
    subst (λ (slots : List ℕ). SpendsTokens left unspent slots rest) (sym spends.1.0) spends.1.1.1.1.1
spends_still y left unspent held _ _ (HeldAgain.behind x code less again) spends =
    spends_still y left unspent held code less again spends

back_spends : (n : ℕ) (left slots : List ℕ) (code : Tokened) → ((z : ℕ) → nat_lt z n ≡ true → is_among slots z ≡ true)
    → SpendsTokens left slots [] code → SpendsTokens left slots (slots_below n ++ []) (all_taken_back n code)
back_spends zero left slots code each spends = spends
back_spends (suc n) left slots code each spends =
    let held = n ∷ (slots_below n ++ []) in
    let back : SpendsTokens left slots held (Tokened.unhold n (all_taken_back n code))
    = (slots_below n ++ [], (refl, (each n (last_low n), back_spends n left slots code (λ z low. each z (low_next n z low)) spends))) in
    back_so (SpendsTokens left slots held) n (all_taken_back n code) back
    (λ less again. spends_still n left slots held (all_taken_back n code) less again back)

-- slots of which those from a number on have moved up
abbrev AreMoved : List ℕ → ℕ → ℕ → ℕ → Type 0
AreMoved slots by n k = (z : ℕ) → is_among slots z ≡ (nat_lt z k || (nat_le (k + by) z && nat_lt z (n + by)))

moves_spend : (by n k : ℕ) (left slots : List ℕ) (code : Tokened) → 1 ≤ by → k ≤ n → AreMoved slots by n k
    → ((later : List ℕ) → AreMoved later by n 0 → SpendsTokens left later [] code) → SpendsTokens left slots [] (moves_up by k code)
moves_spend by n zero left slots code some low moved spends = spends slots moved
moves_spend by n (suc k) left slots code some low moved spends =
    (refl, (there, (free, moves_spend by n k left ((k + by) ∷ without (k ∷ []) slots) code some (omega (arith, low)) next spends)))
  where
    at_last : (by n k : ℕ) → 1 ≤ by → suc k ≤ n → (nat_lt k (suc k) || (nat_le (suc k + by) k && nat_lt k (n + by))) ≡ true
    at_last by n k some low = grind (arith, nat_tests, some, low)

    at_next : (by n k : ℕ) → 1 ≤ by → suc k ≤ n
        → ((nat_lt (k + by) (suc k) || (nat_le (suc k + by) (k + by) && nat_lt (k + by) (n + by))) && not (k == k + by)) ≡ false
    at_next by n k some low = grind (arith, nat_tests, some, low)

    at_all : (by n k z : ℕ) → 1 ≤ by → suc k ≤ n
        → ((k + by == z) || ((nat_lt z (suc k) || (nat_le (suc k + by) z && nat_lt z (n + by))) && not (k == z)))
        ≡ (nat_lt z k || (nat_le (k + by) z && nat_lt z (n + by)))
    at_all by n k z some low = grind (arith, nat_tests, some, low)

    there : is_among slots k ≡ true
    there = moved k ∙ at_last by n k some low

    free : is_among (without (k ∷ []) slots) (k + by) ≡ false
    free = among_without k (k + by) slots ∙ (ap (λ b. b && not (k == k + by)) (moved (k + by)) ∙ at_next by n k some low)

    next : AreMoved ((k + by) ∷ without (k ∷ []) slots) by n k
    next z = ap (λ b. (k + by == z) || b) (among_without k z slots ∙ ap (λ b. b && not (k == z)) (moved z)) ∙ at_all by n k z some low

-- slots from a number on, below another one
abbrev AreFrom : List ℕ → ℕ → ℕ → Type 0
AreFrom slots low high = (z : ℕ) → is_among slots z ≡ (nat_le low z && nat_lt z high)

nulls_spend : (more high : ℕ) (left slots : List ℕ) (code : Tokened) → more ≤ high → AreFrom slots more high
    → ((later : List ℕ) → AreFrom later 0 high → SpendsTokens left later [] code) → SpendsTokens left slots [] (nulls more code)
nulls_spend zero high left slots code low from spends = spends slots from
nulls_spend (suc more) high left slots code low from spends = (
  refl,
  (
    from more ∙ not_yet more high,
    nulls_spend more high left (more ∷ slots) code (omega (arith, low))
        (λ z. ap (λ b. (more == z) || b) (from z) ∙ now more high z low) spends,
  ),
)
  where
    not_yet : (more high : ℕ) → (nat_le (suc more) more && nat_lt more high) ≡ false
    not_yet more high = grind (arith, nat_tests)

    now : (more high z : ℕ) → suc more ≤ high
        → ((more == z) || (nat_le (suc more) z && nat_lt z high)) ≡ (nat_le more z && nat_lt z high)
    now more high z low = grind (arith, nat_tests, low)

filled_spends : (l n x : ℕ) (left slots : List ℕ) → AreBelow slots n → AreBelow left l → n ≤ l
    → SpendsTokens left slots [] (filled_up (l - n) n (Tokened.give x))
filled_spends l n x left slots below all few = by (l - n) refl
  where
    by : (more : ℕ) → l - n ≡ more → SpendsTokens left slots [] (filled_up more n (Tokened.give x))
    by zero is =
        let same : n ≡ l = omega (arith, is, few) in
        (refl, below_same slots left l (subst (AreBelow slots) same below) all)
    by (suc more) is =
        moves_spend (suc more) n n left slots (nulls (suc more) (Tokened.give x)) (omega arith) (omega arith)
        (λ z. below z ∙ first (suc more) n z)
        (λ later moved. nulls_spend (suc more) l left later (Tokened.give x) (omega (arith, is, few))
        (λ z. moved z ∙ ends (suc more) n l z (omega (arith, is, few)))
        (λ last from. (refl, λ z. from z ∙ (whole l z ∙ sym (all z)))))
      where
        first : (by n z : ℕ) → nat_lt z n ≡ (nat_lt z n || (nat_le (n + by) z && nat_lt z (n + by)))
        first by n z = grind (arith, nat_tests)

        ends : (by n l z : ℕ) → n + by ≡ l → (nat_lt z 0 || (nat_le (0 + by) z && nat_lt z (n + by))) ≡ (nat_le by z && nat_lt z l)
        ends by n l z is = grind (arith, nat_tests, is)

        whole : (l z : ℕ) → (nat_le 0 z && nat_lt z l) ≡ nat_lt z l
        whole l z = grind (arith, nat_tests)

-- where nothing can be made any more, all are freed first
settles : (b : Bool) (n : ℕ) (left slots : List ℕ) (code : ℕ → Tokened) → AreBelow slots n
    → ((later : List ℕ) → AreBelow later (if b then n else 0) → SpendsTokens left later [] (code (if b then n else 0)))
    → SpendsTokens left slots [] (if b then code (if b then n else 0) else frees n (code (if b then n else 0)))
settles true n left slots code below spends = spends slots below
settles false n left slots code below spends = frees_spend n left slots (code 0) below spends

-- ---- forms on variables

abbrev Spends_behind : List ℕ → ℕ → Tokened → Type 0
Spends_behind left n rest = (later : List ℕ) → AreBelow later n → SpendsTokens left later [] rest

called : (n x f : ℕ) (arguments left slots : List ℕ) (rest : Tokened) → AreBelow slots n → Spends_behind left n rest
    → SpendsTokens left slots [] (holds n (Tokened.compute x (Call f) arguments [] (all_taken_back n rest)))
called n x f arguments left slots rest below spends =
    holds_spend n left slots [] (Tokened.compute x (Call f) arguments [] (all_taken_back n rest)) (λ z low. (below z ∙ low, refl)) (
      (λ y there. among_front (slots_below n) [] y (slots_are n y ∙ (sym (below y) ∙ there))),
      back_spends n left slots rest (λ z low. below z ∙ low) (spends slots below),
    )

form_spends : (n x : ℕ) (form : Form) (arguments left slots : List ℕ) (rest : Tokened) → AreBelow slots n
    → Spends_behind left (taken form arguments n) rest → SpendsTokens left slots [] (paired_form n x form arguments rest)
form_spends zero x (Call f) arguments left slots rest below spends = called zero x f arguments left slots rest below spends
form_spends (suc n) x (Call f) arguments left slots rest below spends = called (suc n) x f arguments left slots rest below spends
form_spends zero x (Construct c) [] left slots rest below spends = (refl, spends slots below)
form_spends zero x (Construct c) (first ∷ arguments) left slots rest below spends =
    ((refl, (tt, λ z. sym (below z ∙ none_below z))), spends slots below)
form_spends (suc n) x (Construct c) [] left slots rest below spends = (refl, spends slots below)
form_spends (suc n) x (Construct c) (first ∷ arguments) left slots rest below spends =
    let less = without_last slots n below in (
      refl,
      (
        last_there slots n below,
        (
          slots_apart n,
          (
            below_same (slots_below n) (without (n ∷ []) slots) n (slots_are n) less,
            spends (without (n ∷ []) slots) (subst (AreBelow (without (n ∷ []) slots)) (one_less n) less),
          ),
        ),
      ),
    )
  where
    one_less : (n : ℕ) → n ≡ suc n - 1
    one_less n = omega arith
form_spends zero x (Number k) arguments left slots rest below spends = (refl, spends slots below)
form_spends zero x Nothing arguments left slots rest below spends = (refl, spends slots below)
form_spends zero x ReadByte arguments left slots rest below spends = (refl, spends slots below)
form_spends zero x (PrintText how text) arguments left slots rest below spends = (refl, spends slots below)
form_spends zero x (Unary operator) arguments left slots rest below spends = (refl, spends slots below)
form_spends zero x (Binary operator) arguments left slots rest below spends = (refl, spends slots below)
form_spends zero x (Print how) arguments left slots rest below spends = (refl, spends slots below)
form_spends (suc n) x (Number k) arguments left slots rest below spends = (refl, spends slots below)
form_spends (suc n) x Nothing arguments left slots rest below spends = (refl, spends slots below)
form_spends (suc n) x ReadByte arguments left slots rest below spends = (refl, spends slots below)
form_spends (suc n) x (PrintText how text) arguments left slots rest below spends = (refl, spends slots below)
form_spends (suc n) x (Unary operator) arguments left slots rest below spends = (refl, spends slots below)
form_spends (suc n) x (Binary operator) arguments left slots rest below spends = (refl, spends slots below)
form_spends (suc n) x (Print how) arguments left slots rest below spends = (refl, spends slots below)

-- ---- codes

mutual
  pub paired_spends : (code : Counted) (behind : Bool) (l n : ℕ) (left slots : List ℕ) → AreBelow slots n → AreBelow left l
      → leaves behind n code ≤ l → SpendsTokens left slots [] (paired behind l n code)
  paired_spends (give x) behind l n left slots below all few = filled_spends l n x left slots below all few
  paired_spends (tail_call f arguments) behind l n left slots below all few =
      frees_spend n left slots (Tokened.tail_call f arguments) below (λ later none. (refl, λ z. none z ∙ none_below z))
  paired_spends (case x decisions arms) behind l n left slots below all few =
      (refl, arms_spend arms behind l n left slots below all few)
  paired_spends (compute x form arguments rest) behind l n left slots below all few =
      form_spends n x form arguments left slots
      (settled behind rest (taken form arguments n) (paired behind l (kept behind rest (taken form arguments n)) rest)) below
      (λ later lower. settles (may_make behind rest) (taken form arguments n) left later (λ k. paired behind l k rest) lower
      (λ last low. paired_spends rest behind l (kept behind rest (taken form arguments n)) left last low all few))
  paired_spends (inside x block rest) behind l n left slots below all few =
      let m = left_by behind n block rest in (
        slots_below m,
        (
          refl,
          (
            settles (may_make (may_make behind rest) block) n (slots_below m) slots (λ k. paired (may_make behind rest) m k block) below
                (λ later lower. paired_spends block (may_make behind rest) m (kept (may_make behind rest) block n) (slots_below m) later
                lower (slots_are m) (omega arith)),
            settles (may_make behind rest) m left (slots_below m) (λ k. paired behind l k rest) (slots_are m)
                (λ later lower. paired_spends rest behind l (kept behind rest m) left later lower all few),
          ),
        ),
      )
  paired_spends (read x c fields rest) behind l n left slots below all few = (
    refl,
    settles (may_make behind rest) n left slots (λ k. paired behind l k rest) below
        (λ later lower. paired_spends rest behind l (kept behind rest n) left later lower all few),
  )
  paired_spends (open_cell x c fields used rest) behind l n left slots below all few = (
    refl,
    (
      next_free slots n below,
      settles (may_make behind rest) (suc n) left (n ∷ slots) (λ k. paired behind l k rest)
          (with_next slots n below)
          (λ later lower. paired_spends rest behind l (kept behind rest (suc n)) left later lower all few),
    ),
  )
  paired_spends (if_unique x c fields used rest) behind l n left slots below all few = (
    refl,
    (
      next_free slots n below,
      settles (may_make behind rest) (suc n) left (n ∷ slots) (λ k. paired behind l k rest)
          (with_next slots n below)
          (λ later lower. paired_spends rest behind l (kept behind rest (suc n)) left later lower all few),
    ),
  )
  paired_spends (dup x rest) behind l n left slots below all few = (
    refl,
    settles (may_make behind rest) n left slots (λ k. paired behind l k rest) below
        (λ later lower. paired_spends rest behind l (kept behind rest n) left later lower all few),
  )
  paired_spends (drop x rest) behind l n left slots below all few =
      settles (may_make behind rest) n left slots (λ k. paired behind l k rest) below
      (λ later lower. paired_spends rest behind l (kept behind rest n) left later lower all few)

  arms_spend : (arms : CountedArms) (behind : Bool) (l n : ℕ) (left slots : List ℕ) → AreBelow slots n → AreBelow left l
      → arms_leave behind n arms ≤ l → SpendAllTokens left slots (paired_arms behind l n arms)
  arms_spend no_arm behind l n left slots below all few = tt
  arms_spend (arm body rest) behind l n left slots below all few = (
    settles (may_make behind body) n left slots (λ k. paired behind l k body) below
        (λ later lower. paired_spends body behind l (kept behind body n) left later lower all (omega (arith, few))),
    arms_spend rest behind l n left slots below all (omega (arith, few)),
  )

-- ---- a function leaves none

abbrev IsIdle : Bool → ℕ → Type 0
IsIdle makes n = makes ≡ false → n ≡ 0

pub kept_idle : (makes : Bool) (n : ℕ) → IsIdle makes (if makes then n else 0)
kept_idle true n = λ none. cc none
kept_idle false n = λ none. refl

mutual
  pub none_left : (code : Counted) (n : ℕ) → IsIdle (may_make false code) n → leaves false n code ≤ 0
  none_left (give x) n idle = let none = idle refl in omega (arith, none)
  none_left (tail_call f arguments) n idle = omega arith
  none_left (case x decisions arms) n idle = none_left_arms arms n
  none_left (compute x form arguments rest) n idle =
      none_left rest (kept false rest (taken form arguments n)) (kept_idle (may_make false rest) (taken form arguments n))
  none_left (inside x block rest) n idle =
      none_left rest (kept false rest (left_by false n block rest)) (kept_idle (may_make false rest) (left_by false n block rest))
  none_left (read x c fields rest) n idle = none_left rest (kept false rest n) (kept_idle (may_make false rest) n)
  none_left (open_cell x c fields used rest) n idle =
      none_left rest (kept false rest (suc n)) (kept_idle (may_make false rest) (suc n))
  none_left (if_unique x c fields used rest) n idle =
      none_left rest (kept false rest (suc n)) (kept_idle (may_make false rest) (suc n))
  none_left (dup x rest) n idle = none_left rest (kept false rest n) (kept_idle (may_make false rest) n)
  none_left (drop x rest) n idle = none_left rest (kept false rest n) (kept_idle (may_make false rest) n)

  none_left_arms : (arms : CountedArms) (n : ℕ) → arms_leave false n arms ≤ 0
  none_left_arms no_arm n = omega arith
  none_left_arms (arm body rest) n =
      let one = none_left body (kept false body n) (kept_idle (may_make false body) n) in
      let other = none_left_arms rest n in
      omega (arith, one, other)

pub function_leaves_none : (code : Counted) → leaves false 0 code ≤ 0
function_leaves_none code = none_left code 0 (λ none. refl)

pub program_spends : (program : CountedProgram) → AreTokensSpent (paired_program program)
program_spends program =
    each_made paired_function (λ function. SpendsTokens [] [] [] function.body) program.functions
    (λ f function is.
    paired_spends function.body false 0 0 [] [] (λ z. sym (none_below z)) (λ z. sym (none_below z))
    (function_leaves_none function.body))
