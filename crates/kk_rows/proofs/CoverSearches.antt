-- The two searches: whether a problem is covered, and the way to an example of a problem that is not.
use Rattle.std.proofs.Common.{◌≡◌, true, false, List, [], ◌∷◌, ◌++◌, length, refl, sym, subst}
use Rattle.kk_syntax.specs.Types.{TypeTree}
use Rattle.kk_syntax.specs.Programs.{ProgramTree, AreDeclared}
use Rattle.kk_syntax.specs.Covered.{Each, IsMissed, IsCovered}
use Rattle.kk_syntax.specs.Outlines.{Outline, Outlines, ClashIn}
use Rattle.kk_syntax.specs.OfType.{Values, IsPatternOf, ArePatternsOf, values_of}
use Rattle.kk_slots.specs.Narrowing.{IsMissedIn, IsCoveredIn, anys, top}
use Rattle.kk_slots.specs.Problems.{OpenProblem, built, Settled}
use Rattle.kk_slots.specs.Turned.{turned, Tells, Picked}
use Rattle.kk_rows.proofs.PatternLists.{typed_anys}
use Rattle.kk_rows.proofs.KeptRows.{each-append, each_front, each_back}
use Rattle.kk_rows.proofs.ConstructorDeclarations.{knows}
use Rattle.kk_rows.proofs.SearchSoundness.{Leads, Closed, Decides, settles_leads, settles_closed, decides_next}
use Rattle.kk_rows.proofs.Rotations.{closed_turned, leads_turned}
use Rattle.kk_rows.proofs.MatchRows.{ones, one_typed, one_missed, one_misses}

-- an example for a problem, at some types
abbrev pub Exists : ProgramTree → OpenProblem → List TypeTree → Type 0
Exists program p ts = (es : Outlines) × IsMissedIn (values_of program.constructors) ts p.rows es

-- what the open problems say of a problem
abbrev pub Decided : ProgramTree → OpenProblem → List OpenProblem → Type 0
Decided program p ps =
    (ts : List TypeTree) → length ts ≡ p.width → Each (ArePatternsOf (values_of program.constructors) ts) p.rows
    → Decides (values_of program.constructors) (λ es. Exists program p ts) (IsCoveredIn (values_of program.constructors) ts p.rows) ps

-- a problem may be turned
pub turns : (program : ProgramTree) (p q : OpenProblem) (before : List OpenProblem) → Decided program p (before ++ (q ∷ [])) → Decided program p (before ++ (turned q ∷ []))
turns program p q before decided ts wide typed =
    let values = values_of program.constructors in
    let here = decided ts wide typed in
    let Sought : Outlines → Type 0 = λ es. Exists program p ts in
    record {
      leads = each-append (Leads values Sought) before (turned q ∷ []) (each_front (Leads values Sought) before (q ∷ []) here.leads) (leads_turned values q (Exists program p ts) (each_back (Leads values Sought) before (q ∷ []) here.leads).0, tt);
      covers = λ closed. here.covers (each-append (Closed values) before (q ∷ []) (each_front (Closed values) before (turned q ∷ []) closed) (closed_turned values q (each_back (Closed values) before (turned q ∷ []) closed).0, tt));
    }

pub begins : (program : ProgramTree) (p : OpenProblem) → Decided program p (p ∷ [])
begins program p ts wide typed = record {
  leads = (record { types = ts; wide = wide; typed = typed; lifts = λ es example. (es, example) }, tt);
  covers = λ closed. closed.0.covered ts wide typed;
}

pub goes_on : (program : ProgramTree) → AreDeclared program.constructors → (p q : OpenProblem) (before after : List OpenProblem) → Settled program q before after → Decided program p (before ++ (q ∷ [])) → Decided program p after
goes_on program declared p q before after settled decided ts wide typed =
    decides_next (values_of program.constructors) program (knows program declared) q settled.more (λ es. Exists program p ts) (IsCoveredIn (values_of program.constructors) ts p.rows) before after settled.settles settled.grown (decided ts wide typed)

-- an open problem without rows has an example, wildcards
pub wildcards : {T : Type 0} (values : Values T) (Sought : Outlines → Type 0) (p : OpenProblem) → p.rows ≡ [] → Leads values Sought p → Sought (built p.path (anys p.width))
wildcards {T} values Sought p none leads =
    leads.lifts (anys p.width) (record {
      typed = subst (λ k. ArePatternsOf values leads.types (anys k)) leads.wide (typed_anys values leads.types);
      clashes = subst (Each (ClashIn (anys p.width))) (sym none) tt;
    })

pub tells_open : (program : ProgramTree) (p q : OpenProblem) (before : List OpenProblem) → q.rows ≡ [] → Decided program p (before ++ (q ∷ [])) → Tells program p false
tells_open program p q before none decided ts wide typed =
    wildcards (values_of program.constructors) (λ es. Exists program p ts) q none (each_back (Leads (values_of program.constructors) (λ es. Exists program p ts)) before (q ∷ []) (decided ts wide typed).leads).0

pub tells_covered : (program : ProgramTree) (p : OpenProblem) → Decided program p [] → Tells program p true
tells_covered program p decided ts wide typed = (decided ts wide typed).covers tt

-- a problem on the way to an example: it leads there, and has an example itself
pub record OnTheWay (program : ProgramTree) (rows : List Outline) (t : TypeTree) (p : OpenProblem) : Type 0 where
  pub leads : Leads (values_of program.constructors) (λ es. IsMissed (values_of program.constructors) t rows (top es)) p
  pub exists : Exists program p leads.types

abbrev pub Going : ProgramTree → List Outline → OpenProblem → Type 0
Going program rows p = (t : TypeTree) → Each (IsPatternOf (values_of program.constructors) t) rows → OnTheWay program rows t p

abbrev pub first_problem : List Outline → OpenProblem
first_problem rows = record { path = []; rows = ones rows; width = 1 }

pub first_leads : (program : ProgramTree) (rows : List Outline) (t : TypeTree) → Each (IsPatternOf (values_of program.constructors) t) rows → Leads (values_of program.constructors) (λ es. IsMissed (values_of program.constructors) t rows (top es)) (first_problem rows)
first_leads program rows t typed = record {
  types = t ∷ [];
  wide = refl;
  typed = one_typed (values_of program.constructors) t rows typed;
  lifts = λ es example. one_missed (values_of program.constructors) t rows es example;
}

pub sets_out : (program : ProgramTree) (rows : List Outline) → Tells program (first_problem rows) false → Going program rows (first_problem rows)
unfolding first_leads
sets_out program rows tells t typed = record {
  leads = first_leads program rows t typed;
  exists = tells (t ∷ []) refl (one_typed (values_of program.constructors) t rows typed);
}

pub nothing_left : (program : ProgramTree) (rows : List Outline) → Tells program (first_problem rows) true → (t : TypeTree) → Each (IsPatternOf (values_of program.constructors) t) rows → IsCovered (values_of program.constructors) t rows
nothing_left program rows tells t typed e example =
    tells (t ∷ []) refl (one_typed (values_of program.constructors) t rows typed) _ (one_misses (values_of program.constructors) t rows e example)

pub picks_next : (program : ProgramTree) → AreDeclared program.constructors → (rows : List Outline) (p q : OpenProblem) (children : List OpenProblem) → Settled program p [] children → Picked program children q → Going program rows p → Going program rows q
picks_next program declared rows p q children settled picked going t typed =
    let values = values_of program.constructors in
    let Sought : Outlines → Type 0 = λ es. IsMissed values t rows (top es) in
    let all : Each (Leads values Sought) children = subst (Each (Leads values Sought)) (sym settled.grown) (settles_leads values program (knows program declared) p settled.more Sought settled.settles (going t typed).leads) in
    let here : Leads values Sought q = (each_back (Leads values Sought) picked.before (q ∷ picked.behind) (subst (Each (Leads values Sought)) picked.place all)).0 in
    record { leads = here; exists = picked.tells here.types here.wide here.typed }

all_closed : (program : ProgramTree) (ps : List OpenProblem) → Each (λ p. Tells program p true) ps → Each (Closed (values_of program.constructors)) ps
all_closed program [] tells = tt
all_closed program (p ∷ ps) tells = (record { covered = tells.0 }, all_closed program ps tells.1)

-- one of what a problem on the way comes down to is not covered
pub picks_none : (program : ProgramTree) → AreDeclared program.constructors → (rows : List Outline) (p : OpenProblem) (children : List OpenProblem) → Settled program p [] children → Each (λ q. Tells program q true) children → Going program rows p → (t : TypeTree) → Each (IsPatternOf (values_of program.constructors) t) rows → ⊥
picks_none program declared rows p children settled tells going t typed =
    let way = going t typed in
    let closed = settles_closed (values_of program.constructors) program (knows program declared) p settled.more settled.settles (subst (Each (Closed (values_of program.constructors))) settled.grown (all_closed program children tells)) in
    closed.covered way.leads.types way.leads.wide way.leads.typed way.exists.0 way.exists.1

pub arrives : (program : ProgramTree) (rows : List Outline) (p : OpenProblem) (e : Outline) → p.rows ≡ [] → e ≡ top (built p.path (anys p.width)) → Going program rows p → (t : TypeTree) → Each (IsPatternOf (values_of program.constructors) t) rows → IsMissed (values_of program.constructors) t rows e
arrives program rows p e none is going t typed =
    subst (IsMissed (values_of program.constructors) t rows) (sym is)
    (wildcards (values_of program.constructors) (λ es. IsMissed (values_of program.constructors) t rows (top es)) p none (going t typed).leads)
