-- The machine of code with calls in line simulates that of the code, step by step.
use Rattle.std.proofs.Common.{◌≡◌, ◌≤◌, ◌⊎◌, inl, inr, ℕ, ◌+◌, List, [], ◌∷◌, ◌++◌, Some}
use Rattle.std.proofs.Common.{map, length, refl, sym, ap, ◌∙◌, subst, arith}
use Rattle.kk_base.specs.Simulations.{Reaches, Simulates}
use Rattle.kk_base.proofs.Simulations.{ended_reaches}
use Rattle.rv_isa.specs.AsmCode.{Line, Lines}
use Rattle.rv_isa.specs.AsmMachine.{AsmState, AsmTurn, asm_line, asm_next, asm_line_weight, asm_weight, asm_machine}
use Rattle.rv_isa.specs.Frames.{Frame}
use Rattle.rv_isa.specs.Primitives.{Primitives, go, ended, stuck, end_of}
use Rattle.rv_isa.specs.ValueBounds.{AreLinesBelow}
use Rattle.rv_inline.specs.InLine.{AreComputing, gives_back, named, named_line, copy, lines_for, AreInLine, HasInLine}
use Rattle.rv_inline.specs.Relation.{Copies, IsLike, IsAtLine, AllWait, FramesStand, IsInCall, FramesInCall, StandsFor}
use Rattle.rv_inline.specs.Relation.{NeverStuck, Related, IsNotStuck}
use Rattle.rv_inline.proofs.LinePlaces.{next_line, behind_call_line}
use Rattle.rv_inline.proofs.LineActions.{line_goes, line_weighs}
use Rattle.rv_inline.proofs.LeafSteps.{call_goes, call_weighs, leaf_goes, leaf_weighs, return_goes, return_weighs}
use Rattle.rv_inline.proofs.Steps.{Step, one_step}

-- equal weights are no larger
no_more : (a b : ℕ) → a ≡ b → a ≤ b
no_more a b same = omega (arith, same)

module _ {H E W : Type 0} (m : Primitives H E W) (copies : Copies m) (depth : ℕ) (q q' : List Lines) (all : HasInLine q q') where
  -- from frames whose code begins so
  by_code : (credit idle : ℕ) (f g : Frame Line) (fs gs : List (Frame Line)) (shared shared' : H) (code code' : List Line)
      → f.code ≡ code → g.code ≡ code' → shared' ≡ shared
      → NeverStuck m depth q (go (record { frames = f ∷ fs; shared = shared }))
      → StandsFor q q' (asm_line m depth q f fs shared code) (asm_line m depth q' g gs shared code')
      → asm_line_weight m (g ∷ gs) shared g code' ≤ asm_line_weight m (f ∷ fs) shared f code
      → Step m depth q q' credit idle (record { frames = f ∷ fs; shared = shared }) (record { frames = g ∷ gs; shared = shared' })
  by_code credit idle f g fs gs shared shared' code code' here there same never stands weighs =
      let s : AsmState H = record { frames = f ∷ fs; shared = shared } in
      let t : AsmState H = record { frames = g ∷ gs; shared = shared' } in
      let weight_s : asm_weight {W = W} m (go s) ≡ asm_line_weight m (f ∷ fs) shared f code
      = ap (asm_line_weight m (f ∷ fs) shared f) here in
      let weight_t : asm_weight {W = W} m (go t) ≡ asm_line_weight m (g ∷ gs) shared g code'
      = ap (asm_line_weight m (g ∷ gs) shared' g) there ∙ ap (λ (h : H). asm_line_weight m (g ∷ gs) h g code') same in
      let next_s : asm_next m depth q (go s) ≡ asm_line m depth q f fs shared code = ap (asm_line m depth q f fs shared) here in
      let next_t : asm_next m depth q' (go t) ≡ asm_line m depth q' g gs shared code'
      = ap (asm_line m depth q' g gs shared') there ∙ ap (λ (h : H). asm_line m depth q' g gs h code') same in
      one_step m depth q q' credit idle s t same (omega (arith, weight_s, weight_t, weighs)) never
      (subst (λ (u : AsmTurn H W). StandsFor q q' (asm_next m depth q (go s)) u) (sym next_t)
      (subst (λ (u : AsmTurn H W). StandsFor q q' u (asm_line m depth q' g gs shared code')) (sym next_s) stands))

  -- ---- at the same line

  module _ (credit idle base : ℕ) (f g : Frame Line) (fs gs : List (Frame Line)) (shared shared' : H) (same : shared' ≡ shared)
      (like : IsLike q q' base f g) (wait : AllWait q q' fs gs)
      (never : NeverStuck m depth q (go (record { frames = f ∷ fs; shared = shared }))) where
    abbrev Here : Type 0
    Here = Step m depth q q' credit idle (record { frames = f ∷ fs; shared = shared }) (record { frames = g ∷ gs; shared = shared' })

    at_line : (code : List Line) → f.code ≡ code → AreLinesBelow base code → AreInLine q base code g.code
        → IsAtLine q base f.whole g.whole code g.code → Here
    at_line [] here below is at = absurd (never 1 (ap (asm_line m depth q f fs shared) here))
    at_line (line ∷ rest) here below (inl (rest', (there, is))) at =
        let on : IsAtLine q base f.whole g.whole rest rest' = next_line q base f.whole g.whole line rest rest' g.code at there is in
        by_code credit idle f g fs gs shared shared' (line ∷ rest) (line ∷ rest') here there same never
        (line_goes m depth q q' all base f g fs gs shared rest rest' line like wait on below.0)
        (no_more _ _ (line_weighs m depth q q' all base f g fs gs shared rest rest' line like wait below.0))
    at_line (line ∷ rest) here below (inr (call, (rest', (there, is)))) at =
        let on : IsAtLine q base f.whole g.whole rest rest'
        = behind_call_line q base f.whole g.whole line rest rest' g.code call at there is in
        by_code credit idle f g fs gs shared shared' (line ∷ rest) (lines_for line call rest') here there same never
        (call_goes m copies depth q q' base f g fs gs shared line rest rest' like wait call below.0 on)
        (call_weighs m copies depth q q' base f g fs gs shared line rest rest' like wait call below.0 on)

  -- ---- in a leaf

  module _ (credit idle base : ℕ) (h f g : Frame Line) (fs gs : List (Frame Line)) (shared shared' : H) (same : shared' ≡ shared)
      (like : IsLike q q' base f g) (wait : AllWait q q' fs gs) (call : IsInCall q base h f g)
      (never : NeverStuck m depth q (go (record { frames = h ∷ f ∷ fs; shared = shared }))) where
    in_leaf : (body : List Line) → AreComputing (length call.args) body → h.code ≡ body ++ (gives_back call.value ∷ [])
        → g.code ≡ map (named_line base call.args) body ++ (copy (named base call.args call.value) call.into ∷ call.rest)
        → Step m depth q q' credit idle (record { frames = h ∷ f ∷ fs; shared = shared }) (record { frames = g ∷ gs; shared = shared' })
    in_leaf [] computing here there =
        by_code credit idle h g (f ∷ fs) gs shared shared' (gives_back call.value ∷ [])
        (copy (named base call.args call.value) call.into ∷ call.rest) here there same never
        (return_goes m copies depth q q' base h f g fs gs shared call.args call.value call.into call.rest like wait
        call.none_held call.known call.waits call.at)
        (return_weighs m copies depth q q' base h f g fs gs shared call.args call.value call.into call.rest like wait
        call.none_held call.known call.waits call.at)
    in_leaf (line ∷ body) computing here there =
        by_code credit idle h g (f ∷ fs) gs shared shared' (line ∷ (body ++ (gives_back call.value ∷ [])))
        (named_line base call.args line ∷ (map (named_line base call.args) body
        ++ (copy (named base call.args call.value) call.into ∷ call.rest))) here there same never
        (leaf_goes m copies depth q q' base h f g fs gs shared call.args line body call.value call.into call.rest like wait
        call.args_below call.into_below computing.0 computing.1 call.none_held call.known call.waits call.at)
        (leaf_weighs m copies depth q q' base h f g fs gs shared call.args line body call.value call.into call.rest like wait
        call.args_below call.into_below computing.0 computing.1 call.none_held call.known call.waits call.at)

  -- ---- states

  stand_steps : (credit idle : ℕ) (fs gs : List (Frame Line)) (shared shared' : H)
      → NeverStuck m depth q (go (record { frames = fs; shared = shared })) → FramesStand q q' fs gs → shared' ≡ shared
      → Step m depth q q' credit idle (record { frames = fs; shared = shared }) (record { frames = gs; shared = shared' })
  stand_steps credit idle [] gs shared shared' never stand same = absurd (never 1 refl)
  stand_steps credit idle (f ∷ fs) [] shared shared' never stand same = absurd stand
  stand_steps credit idle (f ∷ fs) (g ∷ gs) shared shared' never stand same =
      let at : IsAtLine q stand.0.0 f.whole g.whole f.code g.code = stand.0.1.1 in
      at_line credit idle stand.0.0 f g fs gs shared shared' same stand.0.1.0 stand.1 never f.code refl at.below at.is at

  call_steps : (credit idle : ℕ) (fs gs : List (Frame Line)) (shared shared' : H)
      → NeverStuck m depth q (go (record { frames = fs; shared = shared })) → FramesInCall q q' fs gs → shared' ≡ shared
      → Step m depth q q' credit idle (record { frames = fs; shared = shared }) (record { frames = gs; shared = shared' })
  call_steps credit idle [] gs shared shared' never stand same = absurd stand
  call_steps credit idle (h ∷ []) gs shared shared' never stand same = absurd stand
  call_steps credit idle (h ∷ f ∷ fs) [] shared shared' never stand same = absurd stand
  call_steps credit idle (h ∷ f ∷ fs) (g ∷ gs) shared shared' never stand same =
      let call : IsInCall q stand.0.0 h f g = stand.0.1.1 in
      in_leaf credit idle stand.0.0 h f g fs gs shared shared' same stand.0.1.0 stand.1 call never call.body call.computing
      call.code call.code'

  frames_step : (credit idle : ℕ) (s t : AsmState H) → NeverStuck m depth q (go s)
      → FramesStand q q' s.frames t.frames ⊎ FramesInCall q q' s.frames t.frames → t.shared ≡ s.shared → Step m depth q q' credit idle s t
  frames_step credit idle s t never (inl stand) same = stand_steps credit idle s.frames t.frames s.shared t.shared never stand same
  frames_step credit idle s t never (inr call) same = call_steps credit idle s.frames t.frames s.shared t.shared never call same

  -- ---- the simulation

  alike : (credit idle : ℕ) (s t : AsmTurn H W) → Related m depth q q' credit idle s t → end_of t ≡ end_of s
  alike credit idle (go s) (go t) (never, stands) = refl
  alike credit idle (go s) (ended how shared) (never, stands) = absurd stands
  alike credit idle (go s) stuck (never, stands) = absurd stands
  alike credit idle (ended how shared) (go t) (never, stands) = absurd stands
  alike credit idle (ended how shared) (ended how' shared') (never, stands) = ap (λ (w : W). Some w) stands.0
  alike credit idle (ended how shared) stuck (never, stands) = absurd stands
  alike credit idle stuck t (never, stands) = absurd (never 0 refl)

  abbrev Reached : ℕ → ℕ → AsmTurn H W → AsmTurn H W → Type 0
  Reached credit idle s t =
      Reaches (asm_machine m depth q') (Related m depth q q') IsNotStuck 1 ((asm_machine m depth q).weight s + credit) 1 idle
      ((asm_machine m depth q).step s).0 ((asm_machine m depth q).step s).1 t

  ended_goes : (how : W) (shared : H) → IsNotStuck {H = H} {W = W} (ended how shared)
  ended_goes how shared e = cc e

  by_related : (credit idle : ℕ) (s t : AsmTurn H W) → Related m depth q q' credit idle s t → Reached credit idle s t
  by_related credit idle (go s) (go t) (never, stands) = frames_step credit idle s t never stands.0 stands.1
  by_related credit idle (go s) (ended how shared) (never, stands) = absurd stands
  by_related credit idle (go s) stuck (never, stands) = absurd stands
  by_related credit idle (ended how shared) (go t) (never, stands) = absurd stands
  by_related credit idle (ended how shared) (ended how' shared') (never, stands) =
      ended_reaches (asm_machine m depth q) (asm_machine m depth q') (Related m depth q q') IsNotStuck 1 credit idle
      (ended how shared) (ended how' shared') how (omega arith) (never, stands) refl (ap (λ (w : W). Some w) stands.0)
      (ended_goes how' shared')
  by_related credit idle (ended how shared) stuck (never, stands) = absurd stands
  by_related credit idle stuck t (never, stands) = absurd (never 0 refl)

  pub simulates : Simulates (asm_machine m depth q) (asm_machine m depth q') (Related m depth q q') IsNotStuck 1
  simulates = record { by = by_related; alike = alike }
