-- A step of code in which some variables are pending: the code does it alone, or the fused code does it too.
use Rattle.std.proofs.Common.{◌≡◌, ◌⊎◌, inl, inr, ℕ, true, false, List, [], ◌∷◌, ◌++◌, map, Option, Some, None, arith, refl, sym, ap, ◌∙◌, subst}
use Rattle.std.specs.Fmt.{signed_decimal}
use Rattle.kk_syntax.specs.declared.program.Form.{Form}
use Rattle.kk_syntax.specs.declared.program.Form.TheVariants.{Number, Unit as Nothing, ReadByte, PrintText, Unary, Binary, Print, Construct, Call}
use Rattle.kk_syntax.specs.Programs.{text_at}
use Rattle.kk_syntax.specs.Shapes.{is_among}
use Rattle.kk_syntax.specs.PositionsOf.{PositionTable}
use Rattle.kk_source.specs.State.{Value, integer, unit, constant, Environment}
use Rattle.kk_source.specs.Live.{value_of}
use Rattle.kk_source.specs.FormEffects.{integer_of, unary_result, binary_result, argument, piece_of, byte_value}
use Rattle.kk_counted.specs.CountedCodes.{Counted, give, tail_call, case, compute, inside, read, open_cell, if_unique, dup, drop}
use Rattle.kk_counted.specs.Heaps.{forwards}
use Rattle.kk_counted.specs.CountedStates.{CountedSetting, CountedJoin, running, CountedConfiguration}
use Rattle.kk_counted.specs.CountedMachine.{bound_then, form_step}
use Rattle.kk_counted.specs.References.{refs_of}
use Rattle.kk_counted.specs.Spending.{total, AreEven, used_by}
use Rattle.kk_counted.specs.Keeping.{values_of, HaveNoCells, TakesNoCells, FitsAt, HasShape}
use Rattle.kk_counted.proofs.Evenness.{even_among, total_append, among_behind}
use Rattle.kk_counted.proofs.Order.{spends_even}
use Rattle.kk_counted.proofs.SoundSteps.{with_variable, unary_free, number_free, byte_free}
use Rattle.kk_fuse.specs.Fused.{is_plain, without_drop, fuse, fused_setting}
use Rattle.kk_fuse.specs.FusedRuns.{fused_join, fused_frame}
use Rattle.kk_fuse.proofs.Strips.{strip, ArePast, IsPast, IsTaken, strip_dup, strip_read, strip_compute, strip_plain, strip_drop, IsSplit, split}
use Rattle.kk_fuse.proofs.HeapEffects.{seen_even, seen_value}
use Rattle.kk_fuse.proofs.Steps.{dup_stays}
use Rattle.kk_fuse.proofs.PendingDups.{AreAlike, print_alike, not_among, Pending, Follows, IsIdle, AreBoth, rest_follows, dup_idle, drop_idle, dup_both, drop_both, read_both}

-- a form that makes no cell and calls no function uses up its arguments
plain_used : (positions : PositionTable) (setting : CountedSetting) (form : Form) (arguments kept owned : List ℕ)
    → is_plain form arguments ≡ true
    → AreEven owned (used_by positions setting.program.functions form arguments ++ kept) → AreEven owned (arguments ++ kept)
plain_used positions setting (Number n) arguments kept owned plain even = even
plain_used positions setting Nothing arguments kept owned plain even = even
plain_used positions setting ReadByte arguments kept owned plain even = even
plain_used positions setting (PrintText form text) arguments kept owned plain even = even
plain_used positions setting (Unary operator) arguments kept owned plain even = even
plain_used positions setting (Binary operator) arguments kept owned plain even = even
plain_used positions setting (Print form) arguments kept owned plain even = even
plain_used positions setting (Construct c) arguments kept owned plain even = even
plain_used positions setting (Call f) arguments kept owned plain even = absurd (cc)

module _ (positions : PositionTable) (setting : CountedSetting) where
  module _ (environment : Environment) (joins : List CountedJoin) (from fused : CountedConfiguration)
      (frames : fused.frames ≡ map fused_frame from.frames) where
    -- a plain form: its value names no cell, and its arguments name none
    form_alike : (form : Form) (arguments : List ℕ) (y : ℕ) (rest less : Counted) → is_plain form arguments ≡ true
        → TakesNoCells form (values_of environment arguments)
        → (HaveNoCells (values_of environment arguments) → (v : Value) → ((q : ℕ) → refs_of v q ≡ 0)
        → Follows positions setting (bound_then y v rest environment joins from)
        (bound_then y v less environment (map fused_join joins) fused))
        → AreAlike (Follows positions setting)
        (form_step setting form (map (value_of environment) arguments) y rest environment joins from)
        (form_step (fused_setting setting) form (map (value_of environment) arguments) y less environment (map fused_join joins)
        fused)
    form_alike (Number n) arguments y rest less plain fits each = (_, (refl, each fits (integer n) (λ q. refl)))
    form_alike Nothing arguments y rest less plain fits each = (_, (refl, each fits unit (λ q. refl)))
    form_alike ReadByte arguments y rest less plain fits each =
        (_, (refl, λ byte. each fits (byte_value byte) (byte_free byte)))
    form_alike (PrintText form text) arguments y rest less plain fits each =
        print_alike (Follows positions setting) (piece_of form (text_at setting.program.texts text))
        (bound_then y unit rest environment joins from) (bound_then y unit less environment (map fused_join joins) fused)
        (each fits unit (λ q. refl))
    form_alike (Unary operator) arguments y rest less plain fits each = (
      _,
      (
        refl,
        each fits (unary_result operator (argument 0 (map (value_of environment) arguments)))
            (unary_free operator (argument 0 (map (value_of environment) arguments))),
      ),
    )
    form_alike (Binary operator) arguments y rest less plain fits each = (
      _,
      (
        refl,
        each fits
            (binary_result operator (argument 0 (map (value_of environment) arguments))
            (argument 1 (map (value_of environment) arguments)))
            (number_free operator (integer_of (argument 0 (map (value_of environment) arguments)))
            (integer_of (argument 1 (map (value_of environment) arguments)))),
      ),
    )
    form_alike (Print form) arguments y rest less plain fits each =
        print_alike (Follows positions setting)
        (piece_of form (signed_decimal (integer_of (argument 0 (map (value_of environment) arguments)))))
        (bound_then y unit rest environment joins from) (bound_then y unit less environment (map fused_join joins) fused)
        (each fits unit (λ q. refl))
    form_alike (Construct c) [] y rest less plain fits each = (_, (refl, each tt (constant c) (λ q. refl)))
    form_alike (Construct c) (x ∷ xs) y rest less plain fits each = absurd (cc)
    form_alike (Call f) arguments y rest less plain fits each = absurd (cc)

    -- both compute a plain form
    compute_both : (y : ℕ) (form : Form) (arguments : List ℕ) (rest less : Counted)
        → (p : Pending positions setting from.heap fused.heap environment (compute y form arguments rest) less)
        → (past : IsPast p.pending y (compute y form arguments) (fuse rest) less) → ArePast p.pending arguments
        → is_plain form arguments ≡ true → TakesNoCells form (values_of environment arguments)
        → AreBoth positions setting (compute y form arguments rest) (compute y form arguments past.less) environment joins from
        fused
    compute_both y form arguments rest less p past others plain fits =
        record {
          form = (past.less, refl);
          between = plain;
          alike =
              form_alike form arguments y rest past.less plain fits
              (λ none v free.
              rest_follows positions setting environment joins from fused frames rest past.less from.heap fused.heap
              (with_variable y v environment)
              (record {
                below = p.below;
                lent = p.lent;
                readable = [];
                pending = p.pending;
                owned = y ∷ parts.beside;
                left = p.left;
                strips = past.strips;
                spends =
                    spends_even positions setting.program.functions p.lent [] p.left (y ∷ p.spends.0)
                    (p.pending ++ (y ∷ parts.beside)) even rest p.spends.1.1.1.1.1.1;
                seen =
                    seen_even p.below (with_variable y v environment) p.lent from.heap [] (y ∷ p.spends.0)
                    (p.pending ++ (y ∷ parts.beside)) (λ weight. sym (even weight))
                    (seen_value p.below environment p.lent from.heap p.readable (p.pending ++ p.owned) arguments p.spends.0 y v used
                    none free p.spends.1.1.1.1.0 p.spends.1.1.1.1.1.0 p.seen);
                fused_seen =
                    seen_value p.below environment p.lent fused.heap p.readable p.owned arguments parts.beside y v parts.owned_is
                    none free beside_fresh p.spends.1.1.1.1.1.0 p.fused_seen;
                cells = p.cells;
              }));
        }
      where
        used : AreEven (p.pending ++ p.owned) (arguments ++ p.spends.0)
        used = plain_used positions setting form arguments p.spends.0 (p.pending ++ p.owned) plain p.spends.1.0

        parts : IsSplit p.pending arguments p.spends.0 p.owned
        parts = split p.pending arguments p.spends.0 p.owned used others

        even : (weight : ℕ → ℕ) → total weight (p.pending ++ (y ∷ parts.beside)) ≡ total weight (y ∷ p.spends.0)
        even weight =
            omega (
              arith,
              parts.kept_is weight,
              total_append weight p.pending parts.beside,
              total_append weight p.pending (y ∷ parts.beside),
            )

        beside_fresh : is_among parts.beside y ≡ false
        beside_fresh =
            not_among parts.beside p.spends.0 y
            (λ is. even_among (p.pending ++ parts.beside) p.spends.0 y (λ weight. sym (parts.kept_is weight))
            (among_behind p.pending parts.beside y is))
            p.spends.1.1.1.1.0

    -- ---- by the code

    -- the code does the step alone, or both do it
    abbrev Steps : Counted → Counted → Type 0
    Steps code less =
        IsIdle positions setting code environment joins from fused
        ⊎ AreBoth positions setting code less environment joins from fused

    -- a dup is done by both, or it cancels
    dup_steps : (y : ℕ) (rest less : Counted) → fused.control ≡ running less environment (map fused_join joins)
        → Pending positions setting from.heap fused.heap environment (dup y rest) less → Steps (dup y rest) less
    dup_steps y rest less at p = by_found (without_drop y (fuse rest)) refl
      where
        by_found : (found : Option Counted) → without_drop y (fuse rest) ≡ found
            → IsIdle positions setting (dup y rest) environment joins from fused
            ⊎ AreBoth positions setting (dup y rest) less environment joins from fused
        by_found None is =
            let past : IsPast p.pending y (dup y) (fuse rest) less = strip_dup p.pending y (fuse rest) less
            (ap (strip p.pending) (sym (dup_stays y (fuse rest) is)) ∙ p.strips) in
            inr (subst (λ less. AreBoth positions setting (dup y rest) less environment joins from fused) (sym past.is)
            (dup_both positions setting environment joins from fused frames y rest less p past))
        by_found (Some first) is =
            inl (dup_idle positions setting environment joins from fused frames y rest less first p is at)

    -- a drop is done by both, or it cancels with an earlier dup
    drop_steps : (y : ℕ) (rest less : Counted) → fused.control ≡ running less environment (map fused_join joins)
        → Pending positions setting from.heap fused.heap environment (drop y rest) less → Steps (drop y rest) less
    drop_steps y rest less at p = by_found (strip_drop p.pending y (fuse rest) less p.strips)
      where
        by_found : IsPast p.pending y (drop y) (fuse rest) less ⊎ IsTaken p.pending y (fuse rest) less
            → IsIdle positions setting (drop y rest) environment joins from fused
            ⊎ AreBoth positions setting (drop y rest) less environment joins from fused
        by_found (inl past) =
            inr (subst (λ less. AreBoth positions setting (drop y rest) less environment joins from fused) (sym past.is)
            (drop_both positions setting environment joins from fused frames y rest less p past))
        by_found (inr taken) =
            inl (drop_idle positions setting environment joins from fused frames y rest less p taken at)

    -- a code in which a variable is pending
    pub pending_steps : (code less : Counted) → fused.control ≡ running less environment (map fused_join joins)
        → (p : Pending positions setting from.heap fused.heap environment code less)
        → (x : ℕ) (xs : List ℕ) → p.pending ≡ x ∷ xs
        → FitsAt (running code environment joins)
        → HasShape setting.program.functions (forwards from.heap) (running code environment joins)
        → Steps code less
    pending_steps (give y) less at p x xs some fits shape =
        absurd (let none : strip (x ∷ xs) (fuse (give y)) ≡ Some less
        = ap (λ zs. strip zs (fuse (give y))) (sym some) ∙ p.strips in cc)
    pending_steps (tail_call f arguments) less at p x xs some fits shape =
        absurd (let none : strip (x ∷ xs) (fuse (tail_call f arguments)) ≡ Some less
        = ap (λ zs. strip zs (fuse (tail_call f arguments))) (sym some) ∙ p.strips in cc)
    pending_steps (case y decisions arms) less at p x xs some fits shape =
        absurd (let none : strip (x ∷ xs) (fuse (case y decisions arms)) ≡ Some less
        = ap (λ zs. strip zs (fuse (case y decisions arms))) (sym some) ∙ p.strips in cc)
    pending_steps (inside y block rest) less at p x xs some fits shape =
        absurd (let none : strip (x ∷ xs) (fuse (inside y block rest)) ≡ Some less
        = ap (λ zs. strip zs (fuse (inside y block rest))) (sym some) ∙ p.strips in cc)
    pending_steps (open_cell y c fields used rest) less at p x xs some fits shape =
        absurd (let none : strip (x ∷ xs) (fuse (open_cell y c fields used rest)) ≡ Some less
        = ap (λ zs. strip zs (fuse (open_cell y c fields used rest))) (sym some) ∙ p.strips in cc)
    pending_steps (if_unique y c fields used rest) less at p x xs some fits shape =
        absurd (let none : strip (x ∷ xs) (fuse (if_unique y c fields used rest)) ≡ Some less
        = ap (λ zs. strip zs (fuse (if_unique y c fields used rest))) (sym some) ∙ p.strips in cc)
    pending_steps (compute y form arguments rest) less at p x xs some fits shape =
        let past = strip_compute p.pending y form arguments (fuse rest) less p.strips in
        let plain = strip_plain x xs y form arguments (fuse rest) less
        (ap (λ zs. strip zs (fuse (compute y form arguments rest))) (sym some) ∙ p.strips) in
        inr (subst (λ less. AreBoth positions setting (compute y form arguments rest) less environment joins from fused)
        (sym past.0.is) (compute_both y form arguments rest less p past.0 past.1 plain fits))
    pending_steps (read y c fields rest) less at p x xs some fits shape =
        let past = strip_read p.pending y c fields (fuse rest) less p.strips in
        inr (subst (λ less. AreBoth positions setting (read y c fields rest) less environment joins from fused) (sym past.is)
        (read_both positions setting environment joins from fused frames y c fields rest less p past shape))
    pending_steps (dup y rest) less at p x xs some fits shape = dup_steps y rest less at p
    pending_steps (drop y rest) less at p x xs some fits shape = drop_steps y rest less at p
