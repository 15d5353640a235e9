-- Paired code is paired: each construction takes the newest token, and the others are freed where none can follow.
use Rattle.std.proofs.Common.{◌≡◌, ◌≤◌, ◌⊎◌, inl, inr, ℕ, zero, suc, ◌+◌, ◌-◌, Bool, true, false, if◌then◌else◌, List, [], ◌∷◌, ◌++◌, refl, sym, ap, subst, ◌∙◌, arith, append_assoc}
use Rattle.kk_syntax.specs.declared.program.Form.{Form}
use Rattle.kk_syntax.specs.declared.program.Form.TheVariants.{Number, Unit as Nothing, ReadByte, PrintText, Unary, Binary, Print, Construct, Call}
use Rattle.kk_counted.specs.CountedCodes.{Counted, give, tail_call, case, compute, inside, read, open_cell, if_unique, dup, drop, CountedArms, no_arm, arm, CountedProgram}
use Rattle.kk_counted.specs.TokenedCodes.{Tokened}
use Rattle.kk_counted.specs.BareForms.{bare}
use Rattle.kk_reuse.specs.Following.{makes_cell, may_make, kept, taken, leaves, arms_leave}
use Rattle.kk_reuse.specs.Pairing.{slots_below, frees, holds, all_taken_back, nulls, moves_up, filled_up, settled, left_by, paired_form, paired, paired_arms, paired_function, paired_program}
use Rattle.kk_reuse.specs.Paired.{IsTimely, Without, Renamed, IsPaired, ArePaired, AllPaired}
use Rattle.kk_reuse.proofs.TakenBack.{HeldAgain, back_so}
use Rattle.kk_reuse.proofs.BareForm.{bare_frees, bare_again, bare_back, bare_settled, bare_paired}
use Rattle.kk_reuse.proofs.MappedLists.{each_made}
use Rattle.kk_reuse.proofs.TokenSpending.{function_leaves_none}

-- tokens are there only where a cell may be made
abbrev IsKept : Bool → Counted → ℕ → Type 0
IsKept behind code n = (n ≡ 0) ⊎ (may_make behind code ≡ true)

timely : (behind : Bool) (code : Counted) (n : ℕ) (tokened : Tokened) → bare tokened ≡ code → IsKept behind code n
    → IsTimely behind (slots_below n) tokened
timely behind code n tokened is (inl none) = inl (ap slots_below none)
timely behind code n tokened is (inr makes) = inr (ap (may_make behind) is ∙ makes)

-- ---- tokens that are freed, held, taken back, moved and null

frees_pair : (n : ℕ) (behind : Bool) (left : List ℕ) (code : Tokened) → may_make behind (bare code) ≡ false
    → IsPaired behind left [] code → IsPaired behind left (slots_below n) (frees n code)
frees_pair zero behind left code none pairs = pairs
frees_pair (suc n) behind left code none pairs = (
  slots_below n,
  ap (may_make behind) (bare_frees n code) ∙ none,
  Without.here (slots_below n),
  frees_pair n behind left code none pairs,
)

pairs_still : (y : ℕ) (behind : Bool) (left tokens : List ℕ) (code less : Tokened) → HeldAgain y code less
    → IsPaired behind left tokens code → IsPaired behind left tokens less
pairs_still y behind left tokens _ _ (HeldAgain.here rest) pairs = pairs.1
pairs_still y behind left tokens _ _ (HeldAgain.behind x code less again) pairs = (
  subst (λ c. (tokens ≡ []) ⊎ (may_make behind (drop x c) ≡ true)) (sym (bare_again y code less again)) pairs.0,
  pairs_still y behind left tokens code less again pairs.1,
)

back_pairs : (n : ℕ) (behind : Bool) (left tokens : List ℕ) (code : Tokened) → IsPaired behind left tokens code
    → IsPaired behind left tokens (all_taken_back n code)
back_pairs zero behind left tokens code pairs = pairs
back_pairs (suc n) behind left tokens code pairs =
    let back = back_pairs n behind left tokens code pairs in
    back_so (IsPaired behind left tokens) n (all_taken_back n code) back
    (λ less again. pairs_still n behind left tokens (all_taken_back n code) less again back)

holds_pair : (n : ℕ) (behind : Bool) (left tokens : List ℕ) (code : Tokened) → IsTimely behind tokens code
    → IsPaired behind left tokens code → IsPaired behind left tokens (holds n code)
holds_pair zero behind left tokens code time pairs = pairs
holds_pair (suc n) behind left tokens code time pairs =
    holds_pair n behind left tokens (Tokened.hold n code) time (time, pairs)

nulls_pair : (n : ℕ) (behind : Bool) (left tokens : List ℕ) (code : Tokened) → IsPaired behind left (tokens ++ slots_below n) code
    → IsPaired behind left tokens (nulls n code)
nulls_pair zero behind left tokens code pairs = subst (λ ts. IsPaired behind left ts code) (all tokens) pairs
  where
    all : (xs : List ℕ) → xs ++ [] ≡ xs
    all [] = refl
    all (x ∷ xs) = ap (λ ys. x ∷ ys) (all xs)
nulls_pair (suc n) behind left tokens code pairs =
    nulls_pair n behind left (tokens ++ n ∷ []) code
    (subst (λ ts. IsPaired behind left ts code) (sym (append_assoc tokens (n ∷ []) (slots_below n))) pairs)

-- slots below a number, so much higher
abbrev raised : ℕ → ℕ → List ℕ
raised by zero = []
raised by (suc n) = (n + by) ∷ raised by n

renamed_behind : (to from : ℕ) (done rest : List ℕ) → Renamed to from (done ++ from ∷ rest) (done ++ to ∷ rest)
renamed_behind to from [] rest = Renamed.here rest
renamed_behind to from (x ∷ done) rest = Renamed.deeper x (done ++ from ∷ rest) (done ++ to ∷ rest) (renamed_behind to from done rest)

moves_pair : (by n : ℕ) (behind : Bool) (left done : List ℕ) (code : Tokened) → IsPaired behind left (done ++ raised by n) code
    → IsPaired behind left (done ++ slots_below n) (moves_up by n code)
moves_pair by zero behind left done code pairs = pairs
moves_pair by (suc n) behind left done code pairs =
    let rest = moves_pair by n behind left (done ++ (n + by) ∷ []) code
    (subst (λ ts. IsPaired behind left ts code) (sym (append_assoc done ((n + by) ∷ []) (raised by n))) pairs) in (
      done ++ (n + by) ∷ slots_below n,
      renamed_behind (n + by) n done (slots_below n),
      subst (λ ts. IsPaired behind left ts (moves_up by n code)) (append_assoc done ((n + by) ∷ []) (slots_below n)) rest,
    )

raised_all : (by n : ℕ) → raised by n ++ slots_below by ≡ slots_below (n + by)
raised_all by zero = ap slots_below (same by)
  where
    same : (by : ℕ) → by ≡ 0 + by
    same by = omega arith
raised_all by (suc n) = ap (λ ts. (n + by) ∷ ts) (raised_all by n) ∙ ap slots_below (next by n)
  where
    next : (by n : ℕ) → suc (n + by) ≡ suc n + by
    next by n = omega arith

filled_pairs : (l n x : ℕ) (behind : Bool) → n ≤ l
    → IsPaired behind (slots_below l) (slots_below n) (filled_up (l - n) n (Tokened.give x))
filled_pairs l n x behind few = by (l - n) refl
  where
    by : (more : ℕ) → l - n ≡ more → IsPaired behind (slots_below l) (slots_below n) (filled_up more n (Tokened.give x))
    by zero is = ap slots_below (omega (arith, is, few))
    by (suc more) is =
        let same : n + suc more ≡ l = omega (arith, is, few) in
        moves_pair (suc more) n behind (slots_below l) [] (nulls (suc more) (Tokened.give x))
        (nulls_pair (suc more) behind (slots_below l) (raised (suc more) n) (Tokened.give x)
        (raised_all (suc more) n ∙ ap slots_below same))

-- where nothing can be made any more, all are freed first
settles_pair : (b : Bool) (n : ℕ) (behind : Bool) (left : List ℕ) (rest : Counted) (code : ℕ → Tokened) → may_make behind rest ≡ b
    → ((k : ℕ) → bare (code k) ≡ rest)
    → (IsKept behind rest (if b then n else 0) → IsPaired behind left (slots_below (if b then n else 0)) (code (if b then n else 0)))
    → IsPaired behind left (slots_below n) (if b then code (if b then n else 0) else frees n (code (if b then n else 0)))
settles_pair true n behind left rest code makes is pairs = pairs (inr makes)
settles_pair false n behind left rest code makes is pairs =
    frees_pair n behind left (code 0) (ap (may_make behind) (is 0) ∙ makes) (pairs (inl refl))

-- ---- forms on variables

plain_pairs : (n x : ℕ) (form : Form) (arguments : List ℕ) (behind : Bool) (left : List ℕ) (rest : Tokened) (code : Counted)
    → bare (Tokened.compute x form arguments [] rest) ≡ code → IsKept behind code n → (makes_cell form arguments ≡ true → n ≡ 0)
    → IsPaired behind left (slots_below n) rest → IsPaired behind left (slots_below n) (Tokened.compute x form arguments [] rest)
plain_pairs n x form arguments behind left rest code is kept none pairs =
    (timely behind code n (Tokened.compute x form arguments [] rest) is kept, (λ makes. ap slots_below (none makes)), pairs)

no_cell : {A : Type 0} → false ≡ true → A
no_cell e = cc e

called : (n x f : ℕ) (arguments : List ℕ) (behind : Bool) (left : List ℕ) (rest : Tokened) (code : Counted)
    → compute x (Call f) arguments (bare rest) ≡ code → IsKept behind code n → IsPaired behind left (slots_below n) rest
    → IsPaired behind left (slots_below n) (holds n (Tokened.compute x (Call f) arguments [] (all_taken_back n rest)))
called n x f arguments behind left rest code is kept pairs =
    let call = Tokened.compute x (Call f) arguments [] (all_taken_back n rest) in
    let same : bare call ≡ code = ap (compute x (Call f) arguments) (bare_back n rest) ∙ is in
    let time = timely behind code n call same kept in
    holds_pair n behind left (slots_below n) call time
    (time, (λ makes. no_cell makes), back_pairs n behind left (slots_below n) rest pairs)

form_pairs : (n x : ℕ) (form : Form) (arguments : List ℕ) (behind : Bool) (left : List ℕ) (rest : Tokened) (code : Counted)
    → compute x form arguments (bare rest) ≡ code → IsKept behind code n
    → IsPaired behind left (slots_below (taken form arguments n)) rest
    → IsPaired behind left (slots_below n) (paired_form n x form arguments rest)
form_pairs zero x (Call f) arguments behind left rest code is kept pairs =
    called zero x f arguments behind left rest code is kept pairs
form_pairs (suc n) x (Call f) arguments behind left rest code is kept pairs =
    called (suc n) x f arguments behind left rest code is kept pairs
form_pairs zero x (Construct c) [] behind left rest code is kept pairs =
    plain_pairs zero x (Construct c) [] behind left rest code is kept (λ makes. refl) pairs
form_pairs zero x (Construct c) (first ∷ arguments) behind left rest code is kept pairs =
    plain_pairs zero x (Construct c) (first ∷ arguments) behind left rest code is kept (λ makes. refl) pairs
form_pairs (suc n) x (Construct c) [] behind left rest code is kept pairs =
    plain_pairs (suc n) x (Construct c) [] behind left rest code is kept (λ makes. no_cell makes) pairs
form_pairs (suc n) x (Construct c) (first ∷ arguments) behind left rest code is kept pairs =
    (slots_below n, refl, refl, subst (λ k. IsPaired behind left (slots_below k) rest) (less n) pairs)
  where
    less : (n : ℕ) → suc n - 1 ≡ n
    less n = omega arith
form_pairs zero x (Number k) arguments behind left rest code is kept pairs =
    plain_pairs zero x (Number k) arguments behind left rest code is kept (λ makes. no_cell makes) pairs
form_pairs zero x Nothing arguments behind left rest code is kept pairs =
    plain_pairs zero x Nothing arguments behind left rest code is kept (λ makes. no_cell makes) pairs
form_pairs zero x ReadByte arguments behind left rest code is kept pairs =
    plain_pairs zero x ReadByte arguments behind left rest code is kept (λ makes. no_cell makes) pairs
form_pairs zero x (PrintText how text) arguments behind left rest code is kept pairs =
    plain_pairs zero x (PrintText how text) arguments behind left rest code is kept (λ makes. no_cell makes) pairs
form_pairs zero x (Unary operator) arguments behind left rest code is kept pairs =
    plain_pairs zero x (Unary operator) arguments behind left rest code is kept (λ makes. no_cell makes) pairs
form_pairs zero x (Binary operator) arguments behind left rest code is kept pairs =
    plain_pairs zero x (Binary operator) arguments behind left rest code is kept (λ makes. no_cell makes) pairs
form_pairs zero x (Print how) arguments behind left rest code is kept pairs =
    plain_pairs zero x (Print how) arguments behind left rest code is kept (λ makes. no_cell makes) pairs
form_pairs (suc n) x (Number k) arguments behind left rest code is kept pairs =
    plain_pairs (suc n) x (Number k) arguments behind left rest code is kept (λ makes. no_cell makes) pairs
form_pairs (suc n) x Nothing arguments behind left rest code is kept pairs =
    plain_pairs (suc n) x Nothing arguments behind left rest code is kept (λ makes. no_cell makes) pairs
form_pairs (suc n) x ReadByte arguments behind left rest code is kept pairs =
    plain_pairs (suc n) x ReadByte arguments behind left rest code is kept (λ makes. no_cell makes) pairs
form_pairs (suc n) x (PrintText how text) arguments behind left rest code is kept pairs =
    plain_pairs (suc n) x (PrintText how text) arguments behind left rest code is kept (λ makes. no_cell makes) pairs
form_pairs (suc n) x (Unary operator) arguments behind left rest code is kept pairs =
    plain_pairs (suc n) x (Unary operator) arguments behind left rest code is kept (λ makes. no_cell makes) pairs
form_pairs (suc n) x (Binary operator) arguments behind left rest code is kept pairs =
    plain_pairs (suc n) x (Binary operator) arguments behind left rest code is kept (λ makes. no_cell makes) pairs
form_pairs (suc n) x (Print how) arguments behind left rest code is kept pairs =
    plain_pairs (suc n) x (Print how) arguments behind left rest code is kept (λ makes. no_cell makes) pairs

behind_pairs : (rest : Counted) (behind : Bool) (l n : ℕ)
    → (IsKept behind rest (kept behind rest n)
    → IsPaired behind (slots_below l) (slots_below (kept behind rest n)) (paired behind l (kept behind rest n) rest))
    → IsPaired behind (slots_below l) (slots_below n) (settled behind rest n (paired behind l (kept behind rest n) rest))
behind_pairs rest behind l n pairs =
    settles_pair (may_make behind rest) n behind (slots_below l) rest (λ k. paired behind l k rest) refl
    (λ k. bare_paired behind l k rest) pairs

-- ---- codes

mutual
  pub paired_pairs : (code : Counted) (behind : Bool) (l n : ℕ) → IsKept behind code n → leaves behind n code ≤ l
      → IsPaired behind (slots_below l) (slots_below n) (paired behind l n code)
  paired_pairs (give x) behind l n keeps few = filled_pairs l n x behind few
  paired_pairs (tail_call f arguments) behind l n keeps few =
      frees_pair n behind (slots_below l) (Tokened.tail_call f arguments) refl refl
  paired_pairs (case x decisions arms) behind l n keeps few =
      let all = case x decisions arms in
      (timely behind all n (paired behind l n all) (bare_paired behind l n all) keeps, arms_pair arms behind l n few)
  paired_pairs (compute x form arguments rest) behind l n keeps few =
      let m = taken form arguments n in
      let later = settled behind rest m (paired behind l (kept behind rest m) rest) in
      form_pairs n x form arguments behind (slots_below l) later (compute x form arguments rest)
      (ap (compute x form arguments) (bare_settled behind rest m (paired behind l (kept behind rest m) rest)
      ∙ bare_paired behind l (kept behind rest m) rest)) keeps
      (behind_pairs rest behind l m (λ k. paired_pairs rest behind l (kept behind rest m) k few))
  paired_pairs (inside x block rest) behind l n keeps few =
      let all = inside x block rest in
      let m = left_by behind n block rest in
      let b = may_make behind rest in
      let later = settled behind rest m (paired behind l (kept behind rest m) rest) in
      let same : bare later ≡ rest = bare_settled behind rest m (paired behind l (kept behind rest m) rest)
      ∙ bare_paired behind l (kept behind rest m) rest in (
        slots_below m,
        timely behind all n (paired behind l n all) (bare_paired behind l n all) keeps,
        subst (λ r. IsPaired (may_make behind r) (slots_below m) (slots_below n)
            (settled b block n (paired b m (kept b block n) block))) (sym same)
            (behind_pairs block b m n (λ k. paired_pairs block b m (kept b block n) k (omega arith))),
        behind_pairs rest behind l m (λ k. paired_pairs rest behind l (kept behind rest m) k few),
      )
  paired_pairs (read x c fields rest) behind l n keeps few =
      let all = read x c fields rest in (
        timely behind all n (paired behind l n all) (bare_paired behind l n all) keeps,
        behind_pairs rest behind l n (λ k. paired_pairs rest behind l (kept behind rest n) k few),
      )
  paired_pairs (open_cell x c fields used rest) behind l n keeps few =
      let all = open_cell x c fields used rest in (
        timely behind all n (paired behind l n all) (bare_paired behind l n all) keeps,
        behind_pairs rest behind l (suc n) (λ k. paired_pairs rest behind l (kept behind rest (suc n)) k few),
      )
  paired_pairs (if_unique x c fields used rest) behind l n keeps few =
      let all = if_unique x c fields used rest in (
        timely behind all n (paired behind l n all) (bare_paired behind l n all) keeps,
        behind_pairs rest behind l (suc n) (λ k. paired_pairs rest behind l (kept behind rest (suc n)) k few),
      )
  paired_pairs (dup x rest) behind l n keeps few =
      let all = dup x rest in (
        timely behind all n (paired behind l n all) (bare_paired behind l n all) keeps,
        behind_pairs rest behind l n (λ k. paired_pairs rest behind l (kept behind rest n) k few),
      )
  paired_pairs (drop x rest) behind l n keeps few =
      let all = drop x rest in (
        timely behind all n (paired behind l n all) (bare_paired behind l n all) keeps,
        behind_pairs rest behind l n (λ k. paired_pairs rest behind l (kept behind rest n) k few),
      )

  arms_pair : (arms : CountedArms) (behind : Bool) (l n : ℕ) → arms_leave behind n arms ≤ l
      → ArePaired behind (slots_below l) (slots_below n) (paired_arms behind l n arms)
  arms_pair no_arm behind l n few = tt
  arms_pair (arm body rest) behind l n few = (
    behind_pairs body behind l n (λ k. paired_pairs body behind l (kept behind body n) k (omega (arith, few))),
    arms_pair rest behind l n (omega (arith, few)),
  )

pub program_pairs : (program : CountedProgram) → AllPaired (paired_program program)
program_pairs program =
    each_made paired_function (λ function. IsPaired false [] [] function.body) program.functions
    (λ f function is. paired_pairs function.body false 0 0 (inl refl) (function_leaves_none function.body))
