-- What the branches of an emitter of code with tokens change of what it has written leaves it such code.
use Rattle.std.proofs.Common.{◌≡◌, ℕ, ◌||◌, Bool, true, false, List, [], ◌∷◌}
use Rattle.std.proofs.Common.{◌++◌, reverse, length, Option, Some, None, refl, sym, ap, ◌∙◌, subst}
use Rattle.std.specs.Prelude.{option_map, is_some}
use Rattle.std.proofs.lemmas.List.{reverse-reverse}
use Rattle.kk_syntax.specs.Shapes.{is_among}
use Rattle.kk_core.specs.Decisions.{NodeTree}
use Rattle.kk_counted.specs.CountedCodes.{Counted, give, tail_call}
use Rattle.kk_counted.specs.CountedForms.{plug}
use Rattle.kk_counted.specs.TokenedCodes.{Tokened}
use Rattle.kk_counted.specs.TokenedForms.{plug_tokened}
use Rattle.kk_counted.specs.TokenSpending.{SpendsTokens}
use Rattle.kk_counted.specs.BareForms.{bare}
use Rattle.kk_counted.specs.KeptFields.{KnownFields, LeavesKnown}
use Rattle.kk_emitter.specs.Drafts.{Split, Draft, copies, forked, entered, entered_in, entered_by, ended_in}
use Rattle.kk_emitter.specs.Drafts.{IsBetween, AreNewest, IsInArm, Writes, end_code, is_tail}
use Rattle.kk_emitter.specs.Drafts.{ended_by_value, ended_by_call}
use Rattle.kk_emitter.specs.TokenDrafts.{EndedArm, TokenSplit, TokenDraft, tokens_forked, tokens_entered}
use Rattle.kk_emitter.specs.TokenDrafts.{tokens_entered_in, tokens_entered_by, tokens_ended_in, tokened_end}
use Rattle.kk_emitter.specs.TokenEmitting.{LeadsTokens, AreFalling, known_behind, AllLeave, first_spare, first_known, known_now}
use Rattle.kk_emitter.specs.TokenEmitting.{LeaveNone, IsTokenArm, AreTokenArms, IsTokenSplit, AreTokenSplits, IsTokened}
use Rattle.kk_emitter.specs.TokenEmitting.{KeepsTokens, AreNone, CanEnd, AreNewestTokens}
use Rattle.kk_emitter.proofs.CaseArms.{copies_length}
use Rattle.kk_counted.proofs.Variables.{right_false}
use Rattle.kk_emitter.proofs.TokenDraftChanges.{not_closed}

-- ---- a branch begins

pub no_two : {A : Type 0} {b : Bool} → b ≡ true → b ≡ false → A
no_two one two = absurd (clash one two)
  where
    clash : {b : Bool} → b ≡ true → b ≡ false → ⊥
    clash one two = cc

pub forked_keeps : (d e : Draft) (t u : TokenDraft) → KeepsTokens d t → Writes d
    → (on : ℕ) (decisions : List NodeTree) (each : List ℕ) (rows : ℕ)
    → e ≡ forked d on decisions each rows → u ≡ tokens_forked t on decisions rows → KeepsTokens e u
forked_keeps d e t u keeps writes on decisions each rows becomes is failed =
    subst (IsTokened e) (sym is) (subst (λ (x : Draft). IsTokened x (tokens_forked t on decisions rows)) (sym becomes) begun)
  where
    going : d.failed ≡ false
    going = sym (ap (λ (x : Draft). x.failed) becomes) ∙ failed

    old : IsTokened d t
    old = keeps going

    here : (d.inside ≡ true) × (d.ending ≡ None)
    here = writes going

    begun : IsTokened (forked d on decisions each rows) (tokens_forked t on decisions rows)
    begun =
        record {
          plain = refl;
          leads = λ inside open_end. no_two inside refl;
          leaves = tt;
          falling = tt;
          splits = (
            record {
              on = refl;
              decisions = refl;
              tails = refl;
              plain = old.plain;
              leads = old.leads here.0 here.1;
              leaves = old.leaves;
              falling = old.falling;
              left = ap (λ n. copies n (reverse t.spare)) (sym (copies_length rows each));
              arms = tt;
            },
            old.splits,
          );
          ending = old.ending;
          closed = λ code ends. absurd (not_closed t.ending code (old.ending ∙ here.1) ends);
          quiet = λ out. (refl, open_end t.ending (old.ending ∙ here.1));
        }
      where
        open_end : (ending : Option Tokened) → option_map bare ending ≡ None → ending ≡ None
        open_end None none = refl
        open_end (Some code) none = absurd (not_closed (Some code) code none refl)

-- what is left for the arms is what they are handed
pub forked_left : (t u : TokenDraft) (on : ℕ) (decisions : List NodeTree) (rows : ℕ) (left : List (List ℕ))
    → u ≡ tokens_forked t on decisions rows → left ≡ copies rows (reverse t.spare) → AreNewestTokens u.splits left
forked_left t u on decisions rows left is same = subst (λ (x : TokenDraft). AreNewestTokens x.splits left) (sym is) (sym same)

-- ---- an arm is entered

module _ (d : Draft) (t : TokenDraft) (is : IsTokened d t) (out : d.inside ≡ false) where
  entered_arm : (split : Split) (splits : List Split) (branch : TokenSplit) (branches : List TokenSplit) (next : List ℕ) (rest : List (List ℕ))
      → IsTokenSplit (first_spare branches) (first_known branches) split branch → AreTokenSplits splits branches
      → IsTokened (entered_by d split splits (next ∷ rest)) (tokens_entered_by t branch branches (reverse branch.each ∷ copies (length rest) (reverse branch.each)))
  entered_arm split splits branch branches next rest one others =
      record {
        plain = is.plain;
        leads = λ inside open_end.
            subst (λ (spare : List ℕ). LeadsTokens branch.each spare t.moves) (sym (reverse-reverse branch.each))
            (subst (LeadsTokens branch.each branch.each) (sym (is.quiet out).0) (λ left code spent. spent));
        leaves = subst (AllLeave (known_behind branch.before (first_known branches))) (sym (is.quiet out).0) tt;
        falling = subst AreFalling (sym (reverse-reverse branch.each)) one.falling;
        splits = (
          record {
            on = one.on;
            decisions = one.decisions;
            tails = one.tails;
            plain = one.plain;
            leads = one.leads;
            leaves = one.leaves;
            falling = one.falling;
            left = refl;
            arms = one.arms;
          },
          others,
        );
        ending = is.ending;
        closed = λ code ends. absurd (not_closed t.ending code (ap (option_map bare) (is.quiet out).1) ends);
        quiet = λ inside. no_two refl inside;
      }

  entered_now : (splits : List Split) (branches : List TokenSplit) (depth : ℕ) (next : List ℕ) (rest : List (List ℕ))
      → AreTokenSplits splits branches → AreNewest splits depth (next ∷ rest)
      → IsTokened (entered_in d splits) (tokens_entered_in t branches)
  entered_now [] branches depth next rest are newest = absurd newest
  entered_now (split ∷ splits) [] depth next rest are newest = absurd are
  entered_now (split ∷ splits) (branch ∷ branches) depth next rest are newest =
      subst (λ left. IsTokened (entered_by d split splits left) (tokens_entered_by t branch branches branch.left)) (sym newest.1)
      (subst (λ left. IsTokened (entered_by d split splits (next ∷ rest)) (tokens_entered_by t branch branches left))
      (sym (are.0.left ∙ ap (λ left. copies (length left) (reverse branch.each)) newest.1))
      (entered_arm split splits branch branches next rest are.0 are.1))

-- where an arm is left, its tokens are
pub tokens_left : (splits : List Split) (branches : List TokenSplit) (depth : ℕ) (next : List ℕ) (rest left : List (List ℕ)) → AreTokenSplits splits branches → AreNewest splits depth (next ∷ rest) → AreNewestTokens branches left
    → (x : List ℕ) × ((xs : List (List ℕ)) × (left ≡ x ∷ xs))
tokens_left [] branches depth next rest left are newest handed = absurd newest
tokens_left (split ∷ splits) [] depth next rest left are newest handed = absurd are
tokens_left (split ∷ splits) (branch ∷ branches) depth next rest left are newest handed =
    (reverse branch.each, (copies (length rest) (reverse branch.each), sym handed ∙ (are.0.left ∙ ap (λ arms. copies (length arms) (reverse branch.each)) newest.1)))

pub entered_keeps : (d e : Draft) (t u : TokenDraft) → KeepsTokens d t → (e.failed ≡ false → d.failed ≡ false) → IsBetween d
    → (depth : ℕ) (next : List ℕ) (rest : List (List ℕ))
    → (d.failed ≡ false → AreNewest d.splits depth (next ∷ rest)) → (d.failed ≡ false → e ≡ entered d) → u ≡ tokens_entered t
    → KeepsTokens e u
entered_keeps d e t u keeps going between depth next rest newest becomes is failed =
    let on : d.failed ≡ false = going failed in
    let old : IsTokened d t = keeps on in
    subst (IsTokened e) (sym is) (subst (λ (x : Draft). IsTokened x (tokens_entered t)) (sym (becomes on))
    (entered_now d t old (between on) d.splits t.splits depth next rest old.splits (newest on)))

-- ---- an arm is ended

-- arms of a branch that has no tail call yet, where the next one ends by a tail call
arms_stop : (each : List ℕ) (known : List KnownFields) (arms : List EndedArm) (codes : List Counted) → LeaveNone arms
    → AreTokenArms each known false arms codes → AreTokenArms each known true arms codes
arms_stop each known [] [] none are = tt
arms_stop each known [] (code ∷ codes) none are = absurd are
arms_stop each known (one ∷ arms) [] none are = absurd are
arms_stop each known (one ∷ arms) (code ∷ codes) none are = (
  record {
    plain = are.0.plain;
    leaves = are.0.leaves;
    goes = λ is. no_two refl is;
    stops = λ is. (none.0, stop (are.0.goes refl));
  },
  arms_stop each known arms codes none.1 are.1,
)
  where
    stop : (x : ℕ) × ((one.end ≡ Tokened.give x) × (LeadsTokens each one.spare one.moves × AreFalling one.spare))
        → SpendsTokens [] each [] (plug_tokened one.moves one.end)
    stop goes =
        subst (λ (end : Tokened). SpendsTokens [] each [] (plug_tokened one.moves end)) (sym goes.1.0)
        (goes.1.1.0 [] (Tokened.give goes.0) (refl, λ y. ap (λ ys. is_among ys y) none.0))

arms_so_far : (each : List ℕ) (known : List KnownFields) (older tails : Bool) (arms : List EndedArm) (codes : List Counted) (spare : List ℕ) → AreNone (older || tails) arms spare
    → AreTokenArms each known older arms codes → AreTokenArms each known (older || tails) arms codes
arms_so_far each known true tails arms codes spare none are = are
arms_so_far each known false true arms codes spare none are = arms_stop each known arms codes none.1 are
arms_so_far each known false false arms codes spare none are = are

arms_more : (each : List ℕ) (known : List KnownFields) (tails : Bool) (arms : List EndedArm) (codes : List Counted) (one : EndedArm) (code : Counted)
    → AreTokenArms each known tails arms codes → IsTokenArm each known tails one code
    → AreTokenArms each known tails (arms ++ one ∷ []) (codes ++ code ∷ [])
arms_more each known tails [] [] one code are is = (is, tt)
arms_more each known tails [] (other ∷ codes) one code are is = absurd are
arms_more each known tails (first ∷ arms) [] one code are is = absurd are
arms_more each known tails (first ∷ arms) (other ∷ codes) one code are is = (are.0, arms_more each known tails arms codes one code are.1 is)

module _ (d : Draft) (t : TokenDraft) (is : IsTokened d t) (code : Counted) (end : Tokened) (tails : Bool) (same : bare end ≡ code)
    (leaves : LeavesKnown (known_now t) end)
    (stops : t.spare ≡ [] → SpendsTokens [] (first_spare t.splits) [] (plug_tokened t.moves end))
    (goes : tails ≡ false → (x : ℕ) × ((end ≡ Tokened.give x) × LeadsTokens (first_spare t.splits) t.spare t.moves)) where
  new_arm : (branch : TokenSplit) (branches : List TokenSplit) → t.splits ≡ branch ∷ branches
      → AreNone (branch.tails || tails) branch.arms t.spare
      → IsTokenArm branch.each (known_behind branch.before (first_known branches)) (branch.tails || tails) (record { moves = t.moves; end = end; spare = t.spare }) (plug d.steps code)
  new_arm branch branches of none =
      record {
        plain = ap (λ moves. plug moves (bare end)) is.plain ∙ ap (plug d.steps) same;
        leaves = (
          subst (λ (all : List TokenSplit). AllLeave (first_known all) t.moves) of is.leaves,
          subst (λ (all : List TokenSplit). LeavesKnown (known_behind t.moves (first_known all)) end) of leaves,
        );
        goes = λ both.
            let on = goes (right_false branch.tails tails both) in
            (on.0, (on.1.0, (subst (λ (all : List TokenSplit). LeadsTokens (first_spare all) t.spare t.moves) of on.1.1, is.falling)));
        stops = λ one.
            let nothing : t.spare ≡ [] = (subst (λ b. AreNone b branch.arms t.spare) one none).0 in
            (nothing, subst (λ (all : List TokenSplit). SpendsTokens [] (first_spare all) [] (plug_tokened t.moves end)) of (stops nothing));
      }

  ended_now : (splits : List Split) (branches : List TokenSplit) → t.splits ≡ branches → AreTokenSplits splits branches
      → IsInArm splits → CanEnd t tails branches
      → IsTokened (ended_in d code tails splits) (tokens_ended_in t end tails branches)
  ended_now [] branches of are in_arm can = absurd in_arm
  ended_now (split ∷ splits) [] of are in_arm can = absurd are
  ended_now (split ∷ splits) (branch ∷ branches) of are in_arm can =
      record {
        splits = (
          record {
            on = are.0.on;
            decisions = are.0.decisions;
            tails = ap (λ b. b || tails) are.0.tails;
            plain = are.0.plain;
            leads = are.0.leads;
            leaves = are.0.leaves;
            falling = are.0.falling;
            left = are.0.left;
            arms =
                arms_more branch.each (known_behind branch.before (first_known branches)) (branch.tails || tails) branch.arms split.arms _ _
                (arms_so_far branch.each _ branch.tails tails branch.arms split.arms t.spare can are.0.arms) (new_arm branch branches of can);
          },
          are.1,
        );
        plain = refl;
        leads = λ inside open_end. no_two inside refl;
        leaves = tt;
        falling = tt;
        ending = refl;
        closed = λ other ends. absurd (not_closed None other refl ends);
        quiet = λ inside. (refl, refl);
      }

pub ended_by_value_is : (d : Draft) (t : TokenDraft) (x : ℕ) → IsTokened d t → d.inside ≡ true → IsInArm d.splits
    → CanEnd t (is_some t.ending) t.splits
    → IsTokened (ended_by_value d x) (tokens_ended_in t (tokened_end t.ending x) (is_some t.ending) t.splits)
ended_by_value_is d t x is inside in_arm can =
    subst (λ (e : Option Counted). IsTokened (ended_in d (end_code e x) (is_tail e) d.splits) (tokens_ended_in t (tokened_end t.ending x) (is_some t.ending) t.splits)) is.ending (found t.ending refl)
  where
    found : (ending : Option Tokened) → t.ending ≡ ending
        → IsTokened (ended_in d (end_code (option_map bare ending) x) (is_tail (option_map bare ending)) d.splits) (tokens_ended_in t (tokened_end ending x) (is_some ending) t.splits)
    found None ends =
        let open_end : d.ending ≡ None = sym is.ending ∙ ap (option_map bare) ends in
        let leads : LeadsTokens (first_spare t.splits) t.spare t.moves = is.leads inside open_end in
        ended_now d t is (give x) (Tokened.give x) false refl tt
        (λ none. leads [] (Tokened.give x) (refl, λ y. ap (λ ys. is_among ys y) none))
        (λ no. (x, (refl, leads))) d.splits t.splits refl is.splits in_arm (subst (λ e. CanEnd t (is_some e) t.splits) ends can)
    found (Some last) ends =
        let closed = is.closed last ends in
        ended_now d t is (bare last) last true refl closed.1.1 (λ none. closed.1.0) (λ no. no_two refl no) d.splits t.splits refl is.splits in_arm
        (subst (λ e. CanEnd t (is_some e) t.splits) ends can)

pub ended_value_keeps : (d e : Draft) (t u : TokenDraft) (x : ℕ) → KeepsTokens d t → (d.failed ≡ false → d.inside ≡ true)
    → (d.failed ≡ false → IsInArm d.splits) → (d.failed ≡ false → CanEnd t (is_some t.ending) t.splits)
    → (e.failed ≡ false → d.failed ≡ false) → e ≡ ended_by_value d x
    → u ≡ tokens_ended_in t (tokened_end t.ending x) (is_some t.ending) t.splits → KeepsTokens e u
ended_value_keeps d e t u x keeps inside in_arm can going becomes is failed =
    let on : d.failed ≡ false = going failed in
    subst (IsTokened e) (sym is) (subst (λ (y : Draft). IsTokened y (tokens_ended_in t (tokened_end t.ending x) (is_some t.ending) t.splits)) (sym becomes)
    (ended_by_value_is d t x (keeps on) (inside on) (in_arm on) (can on)))

pub ended_call_keeps : (d e : Draft) (t u : TokenDraft) (f : ℕ) (arguments : List ℕ) → KeepsTokens d t → Writes d
    → (d.failed ≡ false → IsInArm d.splits) → (d.failed ≡ false → CanEnd t true t.splits)
    → (e.failed ≡ false → d.failed ≡ false) → e ≡ ended_by_call d f arguments
    → u ≡ tokens_ended_in t (Tokened.tail_call f arguments) true t.splits → KeepsTokens e u
ended_call_keeps d e t u f arguments keeps writes in_arm can going becomes is failed =
    let on : d.failed ≡ false = going failed in
    let old : IsTokened d t = keeps on in
    let here : (d.inside ≡ true) × (d.ending ≡ None) = writes on in
    subst (IsTokened e) (sym is) (subst (λ (y : Draft). IsTokened y (tokens_ended_in t (Tokened.tail_call f arguments) true t.splits)) (sym becomes)
    (ended_now d t old (tail_call f arguments) (Tokened.tail_call f arguments) true refl tt
    (λ none. old.leads here.0 here.1 [] (Tokened.tail_call f arguments) (refl, λ y. ap (λ ys. is_among ys y) none))
    (λ no. no_two refl no) d.splits t.splits refl old.splits (in_arm on) (can on)))
