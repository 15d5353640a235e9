-- The search keeps this: each open problem leads to what is sought, and if all are closed, none is left.
use Rattle.std.proofs.Common.{◌≡◌, ◌<◌, ◌≤◌, inl, inr, ℕ, zero, suc, ◌==◌, ℤ, Bool, true, false, cond, List, [], ◌∷◌, ◌++◌, length, Some, refl, sym, ap, ◌∙◌, subst, arith, length-append}
use Rattle.std.proofs.lemmas.Bool.{both_ways, eqb-true, eq-eqb, cases_eq}
use Rattle.kk_syntax.specs.Programs.{ProgramTree}
use Rattle.kk_slots.specs.declared.problem.Asked.{Asked}
use Rattle.kk_slots.specs.declared.problem.Asked.TheVariants as OfAsked
use Rattle.kk_slots.specs.declared.problem.Head.{Head}
use Rattle.kk_slots.specs.declared.problem.Head.TheVariants.{Free, Number, Constructor}
use Rattle.kk_syntax.specs.Covered.{Each}
use Rattle.kk_syntax.specs.Outlines.{any, exactly, made, Outlines, no_outline, outline, ClashIn}
use Rattle.kk_syntax.specs.OfType.{Values, ArePatternsOf}
use Rattle.kk_slots.specs.Narrowing.{IsMissedIn, IsCoveredIn, join, anys, front, back, narrowed, opened}
use Rattle.kk_slots.specs.Problems.{OpenProblem, plug, built, child, has_blank, has_constructor, first_asked, LacksNumber, owner, arity, made_child, children, IsEnough, StepsTo, Settles}
use Rattle.kk_rows.proofs.KeptRows.{each-append, each_front, each_back}
use Rattle.kk_rows.proofs.RowNarrowing.{narrowed_typed, narrowed_up, narrowed_down, narrowed_down_any, narrowed_lacking, opened_typed, opened_down, opened_free, opened_number, none_asked, number_asked, constructor_asked, lacks_constructor, blanks_clash}

-- What the search asks of a program's declarations: at a type that has one constructor, its constructors are those of the
-- same owner, with so many fields, and it has no numbers.
pub record Knows {T : Type 0} (values : Values T) (program : ProgramTree) : Type 0 where
  pub within : (t : T) (c d : ℕ) (us vs : List T) → values.fields t c ≡ Some us → values.fields t d ≡ Some vs → (d < length program.constructors) × (owner program d ≡ owner program c)
  pub members : (t : T) (c d : ℕ) (us : List T) → values.fields t c ≡ Some us → d < length program.constructors → owner program d ≡ owner program c → (vs : List T) × (values.fields t d ≡ Some vs) × (length vs ≡ arity program d)
  pub apart : (t : T) (c : ℕ) (us : List T) → values.fields t c ≡ Some us → values.has_numbers t ≡ false

-- what the rows that are left miss makes what is sought
pub record Leads {T : Type 0} (values : Values T) (Sought : Outlines → Type 0) (p : OpenProblem) : Type 0 where
  pub types : List T
  pub wide : length types ≡ p.width
  pub typed : Each (ArePatternsOf values types) p.rows
  pub lifts : (es : Outlines) → IsMissedIn values types p.rows es → Sought (built p.path es)

-- the rows that are left are covered at all types
pub record Closed {T : Type 0} (values : Values T) (p : OpenProblem) : Type 0 where
  pub covered : (ts : List T) → length ts ≡ p.width → Each (ArePatternsOf values ts) p.rows → IsCoveredIn values ts p.rows

pub record Decides {T : Type 0} (values : Values T) (Sought : Outlines → Type 0) (NoneLeft : Type 0) (ps : List OpenProblem) : Type 0 where
  pub leads : Each (Leads values Sought) ps
  pub covers : Each (Closed values) ps → NoneLeft

pub built-append : (hs : List Head) (h : Head) (es : Outlines) → built (hs ++ (h ∷ [])) es ≡ built hs (plug h es)
built-append [] h es = refl
built-append (x ∷ hs) h es = ap (plug x) (built-append hs h es)

-- of the list of children, and of each child
module _ (program : ProgramTree) (of : ℕ) (p : OpenProblem) (width : ℕ) (P : OpenProblem → Type 0) where
  pub each_child : (end : ℕ) → ((d : ℕ) → d < end → owner program d ≡ of → P (made_child program p width d)) → Each P (children program of p width end)
  each_child zero h = tt
  each_child (suc e) h = pick (owner program e == of) refl (each_child e (λ d lt own. h d (omega arith) own))
    where
      pick : (b : Bool) → (owner program e == of) ≡ b → Each P (children program of p width e) → Each P (cond b (made_child program p width e ∷ children program of p width e) (children program of p width e))
      pick true is rest = (h e (omega arith) (eqb-true (owner program e) of is), rest)
      pick false is rest = rest

  pub child_of : (end d : ℕ) → d < end → owner program d ≡ of → Each P (children program of p width end) → P (made_child program p width d)
  child_of zero d lt own a = absurd (omega arith)
  child_of (suc e) d lt own a = pick (owner program e == of) refl a (λ less rest. child_of e d less own rest)
    where
      pick : (b : Bool) → (owner program e == of) ≡ b → Each P (cond b (made_child program p width e ∷ children program of p width e) (children program of p width e)) → (d < e → Each P (children program of p width e) → P (made_child program p width d)) → P (made_child program p width d)
      pick true is a more = elim (cases_eq d e) [
        | inl same ↦ subst (λ k. P (made_child program p width k)) (sym same) a.0
        | inr other ↦ more (omega arith) a.1
      ]
      pick false is a more = elim (cases_eq d e) [
        | inl same ↦ absurd (both_ways (owner program e == of) is (eq-eqb (owner program e) of (subst (λ k. owner program k ≡ of) same own)))
        | inr other ↦ more (omega arith) a
      ]

module _ {T : Type 0} (values : Values T) (Sought : Outlines → Type 0) (p : OpenProblem) (w : ℕ) (width : p.width ≡ suc w) where
  leads_free : first_asked p.rows ≡ OfAsked.Nothing → Leads values Sought p → Leads values Sought (child p Free (opened p.rows) w)
  leads_free none leads = at leads.types leads.wide leads.typed leads.lifts
    where
      at : (ts : List T) → length ts ≡ p.width → Each (ArePatternsOf values ts) p.rows → ((es : Outlines) → IsMissedIn values ts p.rows es → Sought (built p.path es)) → Leads values Sought (child p Free (opened p.rows) w)
      at [] wide typed lifts = absurd (omega (arith, wide, width))
      at (t ∷ ts) wide typed lifts = record {
        types = ts;
        wide = omega (arith, wide, width);
        typed = opened_typed values t ts p.rows typed;
        lifts = λ es example. subst Sought (sym (built-append p.path Free es)) (lifts (outline any es) (opened_free values t ts p.rows es typed (none_asked p.rows none) example));
      }

  leads_number : (n : ℤ) → Each (LacksNumber n) p.rows → first_asked p.rows ≡ OfAsked.Number → Leads values Sought p → Leads values Sought (child p (Number n) (opened p.rows) w)
  leads_number n lacks number leads = at leads.types leads.wide leads.typed leads.lifts
    where
      at : (ts : List T) → length ts ≡ p.width → Each (ArePatternsOf values ts) p.rows → ((es : Outlines) → IsMissedIn values ts p.rows es → Sought (built p.path es)) → Leads values Sought (child p (Number n) (opened p.rows) w)
      at [] wide typed lifts = absurd (omega (arith, wide, width))
      at (t ∷ ts) wide typed lifts = record {
        types = ts;
        wide = omega (arith, wide, width);
        typed = opened_typed values t ts p.rows typed;
        lifts = λ es example. subst Sought (sym (built-append p.path (Number n) es)) (lifts (outline (exactly n) es) (opened_number values t ts p.rows n es typed lacks (number_asked values t ts p.rows typed number) example));
      }

  leads_made : (program : ProgramTree) → Knows values program → (c d : ℕ) → first_asked p.rows ≡ OfAsked.Constructor c → d < length program.constructors → owner program d ≡ owner program c → Leads values Sought p → Leads values Sought (made_child program p w d)
  leads_made program knows c d constructor lt own leads = at leads.types leads.wide leads.typed leads.lifts
    where
      of : (t : T) (ts : List T) → length (t ∷ ts) ≡ p.width → Each (ArePatternsOf values (t ∷ ts)) p.rows → ((es : Outlines) → IsMissedIn values (t ∷ ts) p.rows es → Sought (built p.path es)) → (vs : List T) → values.fields t d ≡ Some vs → length vs ≡ arity program d → Leads values Sought (made_child program p w d)
      of t ts wide typed lifts vs at_d len = record {
        types = vs ++ ts;
        wide = omega (arith, length-append vs ts, len, wide, width);
        typed = subst (λ k. Each (ArePatternsOf values (vs ++ ts)) (narrowed d k p.rows)) len (narrowed_typed values vs ts t d at_d p.rows typed);
        lifts = λ es example.
            let here : IsMissedIn values (vs ++ ts) (narrowed d (length vs) p.rows) es = subst (λ k. IsMissedIn values (vs ++ ts) (narrowed d k p.rows) es) (sym len) example in
            let lifted : Sought (built p.path (outline (made d (front (length vs) es)) (back (length vs) es))) = lifts (outline (made d (front (length vs) es)) (back (length vs) es)) (narrowed_up values vs ts t d at_d p.rows es typed here) in
            subst Sought (sym (built-append p.path (Constructor d (arity program d)) es)) (subst (λ k. Sought (built p.path (plug (Constructor d k) es))) len lifted);
      }

      at : (ts : List T) → length ts ≡ p.width → Each (ArePatternsOf values ts) p.rows → ((es : Outlines) → IsMissedIn values ts p.rows es → Sought (built p.path es)) → Leads values Sought (made_child program p w d)
      at [] wide typed lifts = absurd (omega (arith, wide, width))
      at (t ∷ ts) wide typed lifts =
          let asked = constructor_asked values t ts c p.rows typed constructor in
          let member = knows.members t c d asked.0 asked.1 lt own in
          of t ts wide typed lifts member.0 member.1 member.2

module _ {T : Type 0} (values : Values T) (p : OpenProblem) (w : ℕ) (width : p.width ≡ suc w) where
  closed_open : (h : Head) → Closed values (child p h (opened p.rows) w) → Closed values p
  closed_open h closed = record { covered = at }
    where
      at : (ts : List T) → length ts ≡ p.width → Each (ArePatternsOf values ts) p.rows → IsCoveredIn values ts p.rows
      at [] wide typed es example = absurd (omega (arith, wide, width))
      at (t ∷ ts) wide typed no_outline example = absurd example.typed
      at (t ∷ ts) wide typed (outline e es) example =
          closed.covered ts (omega (arith, wide, width)) (opened_typed values t ts p.rows typed) es (opened_down values t ts p.rows e es example.typed.1 example.clashes)

  -- a child is closed: there is no example in it
  child_covered : (program : ProgramTree) (d : ℕ) → Closed values (made_child program p w d) → (t : T) (ts vs : List T) → length (t ∷ ts) ≡ p.width → Each (ArePatternsOf values (t ∷ ts)) p.rows → values.fields t d ≡ Some vs → length vs ≡ arity program d → (es : Outlines) → IsMissedIn values (vs ++ ts) (narrowed d (length vs) p.rows) es → ⊥
  child_covered program d closed t ts vs wide typed at_d len es example =
      closed.covered (vs ++ ts) (omega (arith, length-append vs ts, len, wide, width))
      (subst (λ k. Each (ArePatternsOf values (vs ++ ts)) (narrowed d k p.rows)) len (narrowed_typed values vs ts t d at_d p.rows typed))
      es (subst (λ k. IsMissedIn values (vs ++ ts) (narrowed d k p.rows) es) len example)

  closed_made : (program : ProgramTree) → Knows values program → (c end : ℕ) → end ≤ length program.constructors → first_asked p.rows ≡ OfAsked.Constructor c → IsEnough program (owner program c) p.rows end → Each (Closed values) (children program (owner program c) p w end) → Closed values p
  closed_made program knows c end most constructor enough closed = record { covered = at }
    where
      child_at : (d : ℕ) → d < end → owner program d ≡ owner program c → Closed values (made_child program p w d)
      child_at d lt own = child_of program (owner program c) p w (Closed values) end d lt own closed

      all : (t : T) (ts cs : List T) → length (t ∷ ts) ≡ p.width → Each (ArePatternsOf values (t ∷ ts)) p.rows → values.fields t c ≡ Some cs → end ≡ length program.constructors → IsCoveredIn values (t ∷ ts) p.rows
      all t ts cs wide typed at_c whole no_outline example = absurd example.typed
      all t ts cs wide typed at_c whole (outline any es) example =
          let here = knows.within t c c cs cs at_c at_c in
          let member = knows.members t c c cs at_c here.0 refl in
          child_covered program c (child_at c (omega (arith, here.0, whole)) refl) t ts member.0 wide typed member.1 member.2 (join (anys (length member.0)) es)
          (narrowed_down_any values member.0 ts t c member.1 p.rows es typed example.typed.1 example.clashes)
      all t ts cs wide typed at_c whole (outline (exactly n) es) example = both_ways (values.has_numbers t) (knows.apart t c cs at_c) example.typed.0
      all t ts cs wide typed at_c whole (outline (made d ds) es) example =
          let vs = example.typed.0.0 in
          let at_d = example.typed.0.1 in
          let here = knows.within t c d cs vs at_c at_d in
          let member = knows.members t c d cs at_c here.0 here.1 in
          let len : length vs ≡ arity program d = (let same : member.0 ≡ vs = cc (member.1, at_d) in ap length (sym same) ∙ member.2) in
          child_covered program d (child_at d (omega (arith, here.0, whole)) here.1) t ts vs wide typed at_d len (join ds es)
          (narrowed_down values vs ts t d at_d p.rows ds es typed example.typed.0.2 example.typed.1 example.clashes)

      missing : (t : T) (ts cs : List T) → length (t ∷ ts) ≡ p.width → Each (ArePatternsOf values (t ∷ ts)) p.rows → values.fields t c ≡ Some cs → (d : ℕ) → end ≡ suc d → owner program d ≡ owner program c → has_constructor d p.rows ≡ false → IsCoveredIn values (t ∷ ts) p.rows
      missing t ts cs wide typed at_c d last own lacks no_outline example = absurd example.typed
      missing t ts cs wide typed at_c d last own lacks (outline e es) example =
          let member = knows.members t c d cs at_c (omega (arith, last, most)) own in
          child_covered program d (child_at d (omega (arith, last)) own) t ts member.0 wide typed member.1 member.2 (join (anys (length member.0)) es)
          (narrowed_lacking values member.0 ts t d member.1 p.rows e es (lacks_constructor d p.rows lacks) example.typed.1 example.clashes)

      at : (ts : List T) → length ts ≡ p.width → Each (ArePatternsOf values ts) p.rows → IsCoveredIn values ts p.rows
      at [] wide typed = absurd (omega (arith, wide, width))
      at (t ∷ ts) wide typed =
          let asked = constructor_asked values t ts c p.rows typed constructor in
          elim enough [
            | inl whole ↦ all t ts asked.0 wide typed asked.1 whole
            | inr last ↦ missing t ts asked.0 wide typed asked.1 last.0 last.1 last.2 last.3
          ]

nothing_clash : (es : Outlines) → ClashIn es no_outline → ⊥
nothing_clash no_outline b = b
nothing_clash (outline e es) b = b

ended_clash : {T : Type 0} (values : Values T) (rows : List Outlines) (es : Outlines) → 0 < length rows → Each (ArePatternsOf values []) rows → Each (ClashIn es) rows → ⊥
ended_clash values [] es some typed clashes = omega arith
ended_clash values (no_outline ∷ rows) es some typed clashes = nothing_clash es clashes.0
ended_clash values (outline q qs ∷ rows) es some typed clashes = typed.0

closed_blank : {T : Type 0} (values : Values T) (p : OpenProblem) → has_blank p.rows ≡ true → Closed values p
closed_blank values p blank = record { covered = λ ts wide typed es example. blanks_clash p.rows es blank example.clashes }

closed_ended : {T : Type 0} (values : Values T) (p : OpenProblem) → p.width ≡ 0 → 0 < length p.rows → Closed values p
closed_ended {T} values p none some = record { covered = at }
  where
    at : (ts : List T) → length ts ≡ p.width → Each (ArePatternsOf values ts) p.rows → IsCoveredIn values ts p.rows
    at [] wide typed es example = ended_clash values p.rows es some typed example.clashes
    at (t ∷ ts) wide typed es example = absurd (omega (arith, wide, none))

module _ {T : Type 0} (values : Values T) (program : ProgramTree) (knows : Knows values program) (p : OpenProblem) (more : List OpenProblem) where
  pub settles_leads : (Sought : Outlines → Type 0) → Settles program p more → Leads values Sought p → Each (Leads values Sought) more
  settles_leads Sought settles leads = elim settles [
    | inl closed ↦ subst (Each (Leads values Sought)) (sym closed.1) tt
    | inr steps ↦ by steps.0 steps.1 (first_asked p.rows) refl steps.2
  ]
    where
      by : (w : ℕ) → p.width ≡ suc w → (a : Asked) → first_asked p.rows ≡ a → StepsTo program p w a more → Each (Leads values Sought) more
      by w width OfAsked.Nothing is step = subst (Each (Leads values Sought)) (sym step) (leads_free values Sought p w width is leads, tt)
      by w width OfAsked.Number is step = subst (Each (Leads values Sought)) (sym step.2) (leads_number values Sought p w width step.0 step.1 is leads, tt)
      by w width (OfAsked.Constructor c) is step =
          subst (Each (Leads values Sought)) (sym step.3)
          (each_child program (owner program c) p w (Leads values Sought) step.0 (λ d lt own. leads_made values Sought p w width program knows c d is (let most : step.0 ≤ length program.constructors = step.1 in omega (arith, lt, most)) own leads))

  pub settles_closed : Settles program p more → Each (Closed values) more → Closed values p
  settles_closed settles closed = elim settles [
    | inl dead ↦ elim dead.0 [ inl blank ↦ closed_blank values p blank | inr ended ↦ closed_ended values p ended.0 ended.1 ]
    | inr steps ↦ by steps.0 steps.1 (first_asked p.rows) refl steps.2
  ]
    where
      by : (w : ℕ) → p.width ≡ suc w → (a : Asked) → first_asked p.rows ≡ a → StepsTo program p w a more → Closed values p
      by w width OfAsked.Nothing is step = closed_open values p w width Free (subst (Each (Closed values)) step closed).0
      by w width OfAsked.Number is step = closed_open values p w width (Number step.0) (subst (Each (Closed values)) step.2 closed).0
      by w width (OfAsked.Constructor c) is step = closed_made values p w width program knows c step.0 step.1 is step.2 (subst (Each (Closed values)) step.3 closed)

  pub decides_next : (Sought : Outlines → Type 0) (NoneLeft : Type 0) (before after : List OpenProblem) → Settles program p more → after ≡ before ++ more → Decides values Sought NoneLeft (before ++ (p ∷ [])) → Decides values Sought NoneLeft after
  decides_next Sought NoneLeft before after settles grown decides = subst (Decides values Sought NoneLeft) (sym grown) (record {
    leads = each-append (Leads values Sought) before more (each_front (Leads values Sought) before (p ∷ []) decides.leads) (settles_leads Sought settles (each_back (Leads values Sought) before (p ∷ []) decides.leads).0);
    covers = λ closed. decides.covers (each-append (Closed values) before (p ∷ []) (each_front (Closed values) before more closed) (settles_closed settles (each_back (Closed values) before more closed), tt));
  })
