-- Each match is covered or misses something, and each typed program comes to one thing.
use Rattle.std.proofs.Common.{◌≡◌, ◌≢◌, ◌<◌, ◌≤◌, ◌⊎◌, inl, inr, ℕ, zero, suc, ◌+◌, ℤ, pos, negsuc, Bool, true, false, List, [], ◌∷◌, ◌++◌, length, take, Some, None, refl, ap, subst, arith}
use Rattle.std.specs.Prelude.{Result, Ok, Err, MatchOption, slice_get}
use Rattle.std.proofs.lemmas.Bool.{cases_lt}
use Rattle.kk_syntax.specs.Covered.{Each, IsMissed}
use Rattle.kk_syntax.specs.OfType.{values_of}
use Rattle.kk_syntax.specs.Outlines.{Outline, any, exactly, made, Outlines, no_outline, outline}
use Rattle.kk_syntax.specs.Programs.{FunctionTree, ProgramTree, AreDeclared}
use Rattle.kk_syntax.specs.Types.{TypeTree}
use Rattle.kk_syntax.specs.Typing.{Choice, IsTypable, TypesAs}
use Rattle.kk_slots.specs.declared.problem.Asked.{Asked}
use Rattle.kk_slots.specs.declared.problem.Asked.TheVariants as OfAsked
use Rattle.kk_slots.specs.declared.problem.Head.TheVariants.{Free, Number}
use Rattle.kk_syntax.specs.Matches.{IsMatchCovered}
use Rattle.kk_rows.specs.Covered.{IsMatchMissed}
use Rattle.kk_syntax.specs.Matches.{matches, IsFunctionCovered}
use Rattle.kk_cover.specs.Matches.{IsFirstMissed, Miss, IsFirstMiss, CoversAs, missed_in, IsDecided, EachTypedProgramIsDecided}
use Rattle.kk_slots.specs.Narrowing.{anys, opened, top}
use Rattle.kk_slots.specs.Problems.{OpenProblem, built, child, children, has_blank, first_asked, owner, LacksNumber, StepsTo, Settles}
use Rattle.kk_cover.specs.TypedRows.{AreOfChosenType}
use Rattle.kk_rows.proofs.MatchRows.{one_typed, one_misses}
use Rattle.kk_rows.proofs.SearchSoundness.{Leads, Closed, settles_leads, settles_closed}
use Rattle.kk_rows.proofs.SearchTermination.{left, left_next}
use Rattle.kk_rows.proofs.KeptRows.{each-append, each_front, each_back}
use Rattle.kk_rows.proofs.ConstructorDeclarations.{knows}
use Rattle.kk_rows.proofs.CoverSearches.{first_problem, first_leads, wildcards}
use Rattle.kk_cover.proofs.TypedRows.{function_rows}

-- ---- a problem with rows is settled by some others

-- a number above all that rows ask for first
above_of : ℤ → ℕ
above_of (pos n) = suc n
above_of (negsuc n) = 0

above_row : Outlines → ℕ
above_row no_outline = 0
above_row (outline any ps) = 0
above_row (outline (exactly n) ps) = above_of n
above_row (outline (made d qs) ps) = 0

above : List Outlines → ℕ
above [] = 0
above (row ∷ rows) = above_row row + above rows

other_number : (m : ℤ) (n : ℕ) → above_of m ≤ n → m ≢ pos n
unfolding above_of
other_number (pos m) n le = λ same. let e : m ≡ n = cc in absurd (omega arith)
other_number (negsuc m) n le = λ same. absurd (cc)

row_lacks : (row : Outlines) (n : ℕ) → above_row row ≤ n → LacksNumber (pos n) row
unfolding above_row
row_lacks no_outline n le = tt
row_lacks (outline any ps) n le = tt
row_lacks (outline (exactly m) ps) n le = other_number m n le
row_lacks (outline (made d qs) ps) n le = tt

rows_lack : (rows : List Outlines) (n : ℕ) → above rows ≤ n → Each (LacksNumber (pos n)) rows
unfolding above
rows_lack [] n le = tt
rows_lack (row ∷ rows) n le = (row_lacks row n (omega arith), rows_lack rows n (omega arith))

module _ (program : ProgramTree) (p : OpenProblem) where
  steps : (w : ℕ) (a : Asked) → (more : List OpenProblem) × StepsTo program p w a more
  steps w OfAsked.Nothing = (child p Free (opened p.rows) w ∷ [], refl)
  steps w OfAsked.Number =
      let n = pos (above p.rows) in
      (child p (Number n) (opened p.rows) w ∷ [], (n, rows_lack p.rows (above p.rows) (omega arith), refl))
  steps w (OfAsked.Constructor c) =
      let end = length program.constructors in
      (children program (owner program c) p w end, (end, omega arith, inl refl, refl))

  settled_by : 0 < length p.rows → (more : List OpenProblem) × Settles program p more
  settled_by some = by (has_blank p.rows) refl p.width refl
    where
      by : (b : Bool) → has_blank p.rows ≡ b → (w : ℕ) → p.width ≡ w → (more : List OpenProblem) × Settles program p more
      by true blank w width = ([], inl (inl blank, refl))
      by false blank zero width = ([], inl (inr (width, some), refl))
      by false blank (suc w) width = let next = steps w (first_asked p.rows) in (next.0, inr (w, width, next.1))

-- ---- the search, for what is sought at each type: all is closed, or a problem without rows is reached

module _ (program : ProgramTree) (declared : AreDeclared program.constructors) (Sought : TypeTree → Outlines → Type 0) where
  record Reaches (ps : List OpenProblem) : Type 0 where
    problem : OpenProblem
    none : problem.rows ≡ []
    reached : (t : TypeTree) → Each (Leads (values_of program.constructors) (Sought t)) ps → Leads (values_of program.constructors) (Sought t) problem

  next_closed : (p : OpenProblem) (more ps : List OpenProblem) → Settles program p more → Each (Closed (values_of program.constructors)) (more ++ ps) → Each (Closed (values_of program.constructors)) (p ∷ ps)
  next_closed p more ps settles closed = (
    settles_closed (values_of program.constructors) program (knows program declared) p more settles (each_front (Closed (values_of program.constructors)) more ps closed),
    each_back (Closed (values_of program.constructors)) more ps closed,
  )

  next_reached : (p : OpenProblem) (more ps : List OpenProblem) → Settles program p more → Reaches (more ++ ps) → Reaches (p ∷ ps)
  next_reached p more ps settles reaches = record {
    problem = reaches.problem;
    none = reaches.none;
    reached = λ t leads. reaches.reached t (each-append (Leads (values_of program.constructors) (Sought t)) more ps (settles_leads (values_of program.constructors) program (knows program declared) p more (Sought t) settles leads.0) leads.1);
  }

  search : (fuel : ℕ) (ps : List OpenProblem) → left program ps < fuel → Each (Closed (values_of program.constructors)) ps ⊎ Reaches ps
  search zero ps less = absurd (omega arith)
  search (suc fuel) [] less = inl tt
  search (suc fuel) (p ∷ ps) less = by p.rows refl (λ more settles. search fuel (more ++ ps) (omega (arith, less, left_next program p more ps settles)))
    where
      by : (rows : List Outlines) → p.rows ≡ rows → ((more : List OpenProblem) → Settles program p more → Each (Closed (values_of program.constructors)) (more ++ ps) ⊎ Reaches (more ++ ps))
          → Each (Closed (values_of program.constructors)) (p ∷ ps) ⊎ Reaches (p ∷ ps)
      by [] none rest = inr (record { problem = p; none = none; reached = λ t leads. leads.0 })
      by (row ∷ rows) is rest =
          let settled = settled_by program p (omega (arith, ap length is)) in
          elim (rest settled.0 settled.1) [
            | inl closed ↦ inl (next_closed p settled.0 ps settled.1 closed)
            | inr reaches ↦ inr (next_reached p settled.0 ps settled.1 reaches)
          ]

-- ---- a match, the matches of a function, and the functions of a program

module _ (program : ProgramTree) (declared : AreDeclared program.constructors) where
  match_decided : (rows : List Outline) → IsMatchCovered program rows ⊎ ((e : Outline) × IsMatchMissed program rows e)
  match_decided rows =
      let Sought : TypeTree → Outlines → Type 0 = λ t es. IsMissed (values_of program.constructors) t rows (top es) in
      let start = first_problem rows in
      elim (search program declared Sought (suc (left program (start ∷ []))) (start ∷ []) (omega arith)) [
        | inl closed ↦ inl (λ t typed e missed.
            closed.0.covered (t ∷ []) refl (one_typed (values_of program.constructors) t rows typed) _ (one_misses (values_of program.constructors) t rows e missed))
        | inr reaches ↦ inr (
          top (built reaches.problem.path (anys reaches.problem.width)),
          λ t typed. wildcards (values_of program.constructors) (Sought t) reaches.problem reaches.none (reaches.reached t (first_leads program rows t typed, tt)),
        )
      ]

  matches_decided : (all : List (List Outline)) → Each (IsMatchCovered program) all ⊎ ((e : Outline) × IsFirstMissed program all e)
  matches_decided [] = inl tt
  matches_decided (rows ∷ all) = by (match_decided rows) (matches_decided all)
    where
      by : IsMatchCovered program rows ⊎ ((e : Outline) × IsMatchMissed program rows e) → Each (IsMatchCovered program) all ⊎ ((e : Outline) × IsFirstMissed program all e)
          → Each (IsMatchCovered program) (rows ∷ all) ⊎ ((e : Outline) × IsFirstMissed program (rows ∷ all) e)
      by (inr found) rest = inr (found.0, record { before = []; rows = rows; behind = all; place = refl; covered = tt; missed = found.1 })
      by (inl covered) (inl others) = inl (covered, others)
      by (inl covered) (inr (e, first)) = inr (
        e,
        record {
          before = rows ∷ first.before;
          rows = first.rows;
          behind = first.behind;
          place = ap (λ (xs : List (List Outline)). rows ∷ xs) first.place;
          covered = (covered, first.covered);
          missed = first.missed;
        },
      )

  -- the first function of a list with a match that is not covered
  record IsFirstIn (functions : List FunctionTree) (miss : Miss) : Type 0 where
    function : FunctionTree
    there : slice_get functions miss.function ≡ Some function
    earlier : Each (IsFunctionCovered program) (take miss.function functions)
    missed : IsFirstMissed program (matches function.body) miss.example

  functions_decided : (functions : List FunctionTree) → Each (IsFunctionCovered program) functions ⊎ ((miss : Miss) × IsFirstIn functions miss)
  functions_decided [] = inl tt
  functions_decided (f ∷ fs) = by (matches_decided (matches f.body)) (functions_decided fs)
    where
      by : IsFunctionCovered program f ⊎ ((e : Outline) × IsFirstMissed program (matches f.body) e) → Each (IsFunctionCovered program) fs ⊎ ((miss : Miss) × IsFirstIn fs miss)
          → Each (IsFunctionCovered program) (f ∷ fs) ⊎ ((miss : Miss) × IsFirstIn (f ∷ fs) miss)
      by (inr found) rest = inr (record { function = 0; example = found.0 }, record { function = f; there = refl; earlier = tt; missed = found.1 })
      by (inl covered) (inl others) = inl (covered, others)
      by (inl covered) (inr (miss, first)) = inr (
        record { function = suc miss.function; example = miss.example },
        record {
          function = first.function;
          there = first.there;
          earlier = (covered, first.earlier);
          missed = first.missed;
        },
      )

  -- ---- of a typed program, one of the two holds

  each_at : {X : Type 0} (P : X → Type 0) (xs : List X) (k : ℕ) (x : X) → Each P xs → slice_get xs k ≡ Some x → P x
  each_at P [] k x each is = absurd (cc)
  each_at P (y ∷ xs) zero x each is = let same : y ≡ x = cc in subst P same each.0
  each_at P (y ∷ xs) (suc k) x each is = each_at P xs k x each.1 is

  each_before : {X : Type 0} (P : X → Type 0) (xs : List X) (n k : ℕ) (x : X) → k < n → Each P (take n xs) → slice_get xs k ≡ Some x → P x
  each_before P xs zero k x lt each is = absurd (omega arith)
  each_before P [] (suc n) k x lt each is = absurd (cc)
  each_before P (y ∷ xs) (suc n) zero x lt each is = let same : y ≡ x = cc in subst P same each.0
  each_before P (y ∷ xs) (suc n) (suc k) x lt each is = each_before P xs n k x (omega arith) each.1 is

  first_missed : (choices : List Choice) (all : List (List Outline)) (e : Outline) → Each (AreOfChosenType program choices) all → IsFirstMissed program all e → Each (IsMatchCovered program) all → ⊥
  first_missed choices all e typed first covered =
      let of = (each_back (AreOfChosenType program choices) first.before (first.rows ∷ first.behind) (subst (Each (AreOfChosenType program choices)) first.place typed)).0 in
      let this = (each_back (IsMatchCovered program) first.before (first.rows ∷ first.behind) (subst (Each (IsMatchCovered program)) first.place covered)).0 in
      this of.at of.typed e (first.missed of.at of.typed)

  module _ (types : TypesAs program (Ok tt)) where
    not_both : (miss : Miss) → (first : IsFirstMiss program miss) → IsFunctionCovered program first.function → ⊥
    not_both miss first covered =
        let typable : IsTypable program first.function = subst (λ o. MatchOption o (Unit {0}) (IsTypable program)) first.there (types miss.function) in
        first_missed typable.0 (matches first.function.body) miss.example (function_rows program first.function typable.0 typable.1) first.missed covered

    missed_once : (a b : Miss) → IsFirstMiss program a → IsFirstMiss program b → a.function < b.function → ⊥
    missed_once a b one other lt =
        not_both a one (each_before (IsFunctionCovered program) program.functions b.function a.function one.function lt other.earlier one.there)

    missed_or_covered : (miss : Miss) → IsFirstMiss program miss → Each (IsFunctionCovered program) program.functions → ⊥
    missed_or_covered miss first covered = not_both miss first (each_at (IsFunctionCovered program) program.functions miss.function first.function covered first.there)

    same_function : (a b : Miss) → IsFirstMiss program a → IsFirstMiss program b → a.function ≡ b.function
    same_function a b one other =
        elim (cases_lt a.function b.function) [
          | inl lt ↦ absurd (missed_once a b one other lt)
          | inr above ↦ elim (cases_lt b.function a.function) [
            | inl lt ↦ absurd (missed_once b a other one lt)
            | inr below ↦ omega (arith, above, below)
          ]
        ]

    only_covered : Each (IsFunctionCovered program) program.functions → IsDecided program
    only_covered covered = record { outcome = Ok tt; holds = covered; only = one }
      where
        one : (other : Result (Unit {0}) Miss) → CoversAs program other → missed_in other ≡ None
        one (Ok _) h = refl
        one (Err miss) h = absurd (missed_or_covered miss h covered)

    only_missed : (miss : Miss) → IsFirstMiss program miss → IsDecided program
    only_missed miss first = record { outcome = Err miss; holds = first; only = one }
      where
        one : (other : Result (Unit {0}) Miss) → CoversAs program other → missed_in other ≡ Some miss.function
        one (Ok _) h = absurd (missed_or_covered miss first h)
        one (Err other) h = ap Some (same_function other miss h first)

pub each_typed_program_is_decided : EachTypedProgramIsDecided
each_typed_program_is_decided program declared types = elim (functions_decided program declared program.functions) [
  | inl covered ↦ only_covered program declared types covered
  | inr found ↦ only_missed program declared types found.0 (record { function = found.1.function; there = found.1.there; earlier = found.1.earlier; missed = found.1.missed })
]
