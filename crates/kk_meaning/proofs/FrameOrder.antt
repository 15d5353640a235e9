-- Frames are kept with the newest last, and listed with the newest first.
use Rattle.std.proofs.Common.{◌≡◌, ℕ, zero, suc, ◌-◌, ◌<◌, ◌≤◌, List, [], ◌∷◌, ◌++◌, length, get_or, set, take, map, reverse, refl, sym, ap, ap₂, ◌∙◌, arith, subst, Some, length-set, get_or-set_same}
use Rattle.std.proofs.Math.Seq.{take-suc}
use Rattle.std.proofs.lemmas.List.{take_all, take-set, reverse-append, length-map, length-reverse}
use Rattle.kk_source.specs.State as source
use Rattle.kk_syntax.specs.Programs.{FunctionTree}
use Rattle.kk_source.specs.State.{Setting}
use Rattle.kk_source.specs.Step.{call_frames, call_step, push_step}
use Rattle.kk_meaning.specs.declared.binding.Link.{Link}
use Rattle.kk_meaning.specs.declared.frame.Frame.{Frame}
use Rattle.kk_meaning.specs.declared.frame.Frame.TheVariants as OfFrame
use Rattle.kk_meaning.specs.View.{value_view}
use Rattle.kk_syntax.specs.Trees.{trees_of, rows_of, expr_tree, row_tree}
use Rattle.kk_meaning.specs.Frames.{block_tree, frame_view}
use Rattle.kk_meaning.specs.Machines.{FramesFit, HasEnvironment, IsCallOf, IsNewest, IsBelow, HasNoCall}
use Rattle.kk_meaning.proofs.Environments.{Agree, agree_below, environment_agree}

-- the newest, and the older ones
pub newest_first : {X : Type 0} (items : List X) (n : ℕ) (newest : X) → n ≡ length items → 0 < n → newest ≡ get_or items (n - 1) newest → reverse items ≡ newest ∷ reverse (take (n - 1) items)
newest_first items n newest len some at =
    let last : n - 1 < length items = omega arith in
    let all : length items ≡ suc (n - 1) = omega arith in
    let whole = sym (take_all _ items (omega arith)) ∙ (ap (λ k. take k items) all ∙ take-suc items (n - 1) newest last) in
    ap reverse (whole ∙ ap (λ x. take (n - 1) items ++ x ∷ []) (sym at)) ∙ reverse-append (take (n - 1) items) (newest ∷ [])

pub newest_is : {X : Type 0} (items : List X) (newest : X) → 0 < length items → newest ≡ get_or items (length items - 1) newest → reverse items ≡ newest ∷ reverse (take (length items - 1) items)
newest_is items newest some at = newest_first items (length items) newest refl some at

pub one_newer : {X : Type 0} (items : List X) (newest : X) → reverse (items ++ newest ∷ []) ≡ newest ∷ reverse items
one_newer items newest = reverse-append items (newest ∷ [])

pub no_items : {X : Type 0} (items : List X) → length items ≡ 0 → items ≡ []
no_items [] none = refl
no_items (x ∷ items) none = absurd (omega (arith, none))

-- frames keep their view while the bindings that they use stay
pub frames_agree : (links others : List Link) (n : ℕ) (fs : List Frame) → Agree links others n → FramesFit n fs → map (frame_view links) fs ≡ map (frame_view others) fs
frames_agree links others n [] a f = refl
frames_agree links others n (OfFrame.Arguments form values left environment ∷ older) a f =
    ap₂ (λ (g : source.Frame) (gs : List source.Frame). g ∷ gs) (ap (λ (e : source.Environment). source.arguments form (map value_view values.items) (trees_of (map expr_tree left.now)) e) (environment_agree links others n environment a f.0)) (frames_agree links others n older a f.1)
frames_agree links others n (OfFrame.Branches positive negative environment ∷ older) a f =
    ap₂ (λ (g : source.Frame) (gs : List source.Frame). g ∷ gs) (ap (λ (e : source.Environment). source.branches (expr_tree positive.now) (expr_tree negative.now) e) (environment_agree links others n environment a f.0)) (frames_agree links others n older a f.1)
frames_agree links others n (OfFrame.Rows rows environment ∷ older) a f =
    ap₂ (λ (g : source.Frame) (gs : List source.Frame). g ∷ gs) (ap (λ (e : source.Environment). source.rows (rows_of (map row_tree rows.now)) e) (environment_agree links others n environment a f.0)) (frames_agree links others n older a f.1)
frames_agree links others n (OfFrame.Statement variable rest environment ∷ older) a f =
    ap₂ (λ (g : source.Frame) (gs : List source.Frame). g ∷ gs) (ap (λ (e : source.Environment). source.statement variable (block_tree rest) e) (environment_agree links others n environment a f.0)) (frames_agree links others n older a f.1)
frames_agree links others n (OfFrame.Call lent before ∷ older) a f =
    ap (λ (gs : List source.Frame). source.call (map value_view lent.items) ∷ gs) (frames_agree links others before older (agree_below links others n before f.0 a) f.1)

pub fits_more : (n m : ℕ) (fs : List Frame) → n ≤ m → FramesFit n fs → FramesFit m fs
fits_more n m [] le f = tt
fits_more n m (OfFrame.Arguments form values left environment ∷ older) le f = (omega arith, fits_more n m older le f.1)
fits_more n m (OfFrame.Branches positive negative environment ∷ older) le f = (omega arith, fits_more n m older le f.1)
fits_more n m (OfFrame.Rows rows environment ∷ older) le f = (omega arith, fits_more n m older le f.1)
fits_more n m (OfFrame.Statement variable rest environment ∷ older) le f = (omega arith, fits_more n m older le f.1)
fits_more n m (OfFrame.Call lent before ∷ older) le f = (omega arith, f.1)

-- call frames are counted alike in every view
pub calls_alike : (links others : List Link) (fs : List Frame) → call_frames (map (frame_view links) fs) ≡ call_frames (map (frame_view others) fs)
calls_alike links others [] = refl
calls_alike links others (OfFrame.Arguments form values left environment ∷ older) = calls_alike links others older
calls_alike links others (OfFrame.Branches positive negative environment ∷ older) = calls_alike links others older
calls_alike links others (OfFrame.Rows rows environment ∷ older) = calls_alike links others older
calls_alike links others (OfFrame.Statement variable rest environment ∷ older) = calls_alike links others older
calls_alike links others (OfFrame.Call lent before ∷ older) = ap suc (calls_alike links others older)

-- a frame that is no call fits with its environment, and is not counted
pub one_fits : (n e : ℕ) (frame : Frame) (fs : List Frame) → HasEnvironment e frame → e ≤ n → FramesFit n fs → FramesFit n (frame ∷ fs)
one_fits n e (OfFrame.Arguments form values left environment) fs h le f = (omega arith, f)
one_fits n e (OfFrame.Branches positive negative environment) fs h le f = (omega arith, f)
one_fits n e (OfFrame.Rows rows environment) fs h le f = (omega arith, f)
one_fits n e (OfFrame.Statement variable rest environment) fs h le f = (omega arith, f)
one_fits n e (OfFrame.Call lent before) fs h le f = absurd h

pub rest_fits : (n e : ℕ) (frame : Frame) (fs : List Frame) → HasEnvironment e frame → FramesFit n (frame ∷ fs) → FramesFit n fs
rest_fits n e (OfFrame.Arguments form values left environment) fs h f = f.1
rest_fits n e (OfFrame.Branches positive negative environment) fs h f = f.1
rest_fits n e (OfFrame.Rows rows environment) fs h f = f.1
rest_fits n e (OfFrame.Statement variable rest environment) fs h f = f.1
rest_fits n e (OfFrame.Call lent before) fs h f = absurd h

pub environment_fits : (n e : ℕ) (frame : Frame) (fs : List Frame) → HasEnvironment e frame → FramesFit n (frame ∷ fs) → e ≤ n
environment_fits n e (OfFrame.Arguments form values left environment) fs h f = omega arith
environment_fits n e (OfFrame.Branches positive negative environment) fs h f = omega arith
environment_fits n e (OfFrame.Rows rows environment) fs h f = omega arith
environment_fits n e (OfFrame.Statement variable rest environment) fs h f = omega arith
environment_fits n e (OfFrame.Call lent before) fs h f = absurd h

pub one_not_counted : (links : List Link) (e : ℕ) (frame : Frame) (fs : List Frame) → HasEnvironment e frame → call_frames (map (frame_view links) (frame ∷ fs)) ≡ call_frames (map (frame_view links) fs)
one_not_counted links e (OfFrame.Arguments form values left environment) fs h = refl
one_not_counted links e (OfFrame.Branches positive negative environment) fs h = refl
one_not_counted links e (OfFrame.Rows rows environment) fs h = refl
one_not_counted links e (OfFrame.Statement variable rest environment) fs h = refl
one_not_counted links e (OfFrame.Call lent before) fs h = absurd h

-- all frames, and all but one that is no call
pub below_all : (frames : List Frame) (n : ℕ) → n ≡ length frames → IsBelow n frames
below_all frames n len =
    let all : take n frames ≡ frames = take_all n frames (omega arith) in
    record {
      within = omega arith;
      calls = λ links. ap (λ fs. call_frames (map (frame_view links) (reverse fs))) all;
      fits = λ k f. subst (λ fs. FramesFit k (reverse fs)) (sym all) f;
    }

pub below_newest : (frames : List Frame) (e n : ℕ) (frame : Frame) → HasEnvironment e frame → IsNewest frame frames → n ≡ length frames - 1 → IsBelow n frames
below_newest frames e n frame h newest len = record {
  within = omega arith;
  calls = λ links.
      ap (λ k. call_frames (map (frame_view links) (reverse (take k frames)))) len
      ∙ (sym (one_not_counted links e frame (reverse (take (length frames - 1) frames)) h)
      ∙ ap (λ fs. call_frames (map (frame_view links) fs)) (sym newest));
  fits = λ k f.
      subst (λ m. FramesFit k (reverse (take m frames))) (sym len)
      (rest_fits k e frame (reverse (take (length frames - 1) frames)) h (subst (FramesFit k) newest f));
}

-- the newest is another
pub newest_changed : {X : Type 0} (items : List X) (n : ℕ) (newest : X) → n ≡ length items → 0 < n → reverse (set items (n - 1) newest) ≡ newest ∷ reverse (take (n - 1) items)
newest_changed items n newest len some =
    let last : n - 1 < length items = omega arith in
    let all : n ≡ length (set items (n - 1) newest) = omega (arith, length-set items (n - 1) newest) in
    newest_first (set items (n - 1) newest) n newest all some (sym (get_or-set_same items (n - 1) newest newest last))
    ∙ ap (λ l. newest ∷ reverse l) (take-set items (n - 1) newest)

-- what a call knows
pub call_fits : (n before : ℕ) (frame : Frame) (fs : List Frame) → IsCallOf before frame → FramesFit n (frame ∷ fs) → (before ≤ n) × FramesFit before fs
call_fits n before (OfFrame.Call lent b) fs is f = (omega (arith, f.0), subst (λ k. FramesFit k fs) is f.1)
call_fits n before (OfFrame.Arguments form values left environment) fs is f = absurd is
call_fits n before (OfFrame.Branches positive negative environment) fs is f = absurd is
call_fits n before (OfFrame.Rows rows environment) fs is f = absurd is
call_fits n before (OfFrame.Statement variable rest environment) fs is f = absurd is

pub call_counts : (links : List Link) (before : ℕ) (frame : Frame) (fs : List Frame) → IsCallOf before frame → call_frames (map (frame_view links) (frame ∷ fs)) ≡ suc (call_frames (map (frame_view links) fs))
call_counts links before (OfFrame.Call lent b) fs is = refl
call_counts links before (OfFrame.Arguments form values left environment) fs is = absurd is
call_counts links before (OfFrame.Branches positive negative environment) fs is = absurd is
call_counts links before (OfFrame.Rows rows environment) fs is = absurd is
call_counts links before (OfFrame.Statement variable rest environment) fs is = absurd is

pub call_seen : (links : List Link) (before : ℕ) (frame : Frame) → IsCallOf before frame → (lent : List source.Value) × (frame_view links frame ≡ source.call lent)
call_seen links before (OfFrame.Call lent b) is = (map value_view lent.items, refl)
call_seen links before (OfFrame.Arguments form values left environment) is = absurd is
call_seen links before (OfFrame.Branches positive negative environment) is = absurd is
call_seen links before (OfFrame.Rows rows environment) is = absurd is
call_seen links before (OfFrame.Statement variable rest environment) is = absurd is

pub call_fits_back : (n before : ℕ) (frame : Frame) (fs : List Frame) → IsCallOf before frame → before ≤ n → FramesFit before fs → FramesFit n (frame ∷ fs)
call_fits_back n before (OfFrame.Call lent b) fs is le f = (omega arith, subst (λ k. FramesFit k fs) (sym is) f)
call_fits_back n before (OfFrame.Arguments form values left environment) fs is le f = absurd is
call_fits_back n before (OfFrame.Branches positive negative environment) fs is le f = absurd is
call_fits_back n before (OfFrame.Rows rows environment) fs is le f = absurd is
call_fits_back n before (OfFrame.Statement variable rest environment) fs is le f = absurd is

-- a call that is no tail call
pub no_tail : (setting : Setting) (links : List Link) (f : ℕ) (function : FunctionTree) (values : List source.Value) (fs : List Frame) (c : source.Configuration) → HasNoCall fs → call_step setting f (Some function) values (map (frame_view links) fs) c ≡ push_step setting f function values (map (frame_view links) fs) c
no_tail setting links f function values [] c none = refl
no_tail setting links f function values (OfFrame.Arguments form vs left environment ∷ older) c none = refl
no_tail setting links f function values (OfFrame.Branches positive negative environment ∷ older) c none = refl
no_tail setting links f function values (OfFrame.Rows rows environment ∷ older) c none = refl
no_tail setting links f function values (OfFrame.Statement variable rest environment ∷ older) c none = refl
no_tail setting links f function values (OfFrame.Call lent b ∷ older) c none = absurd none

-- nothing is left
pub nothing_left : {X Y : Type 0} (view : X → Y) (xs : List X) → map view (reverse xs) ≡ [] → length xs ≡ 0
nothing_left view xs none = omega (arith, sym (length-reverse xs) ∙ (sym (length-map (reverse xs) view) ∙ ap length none))

pub front_length : {X : Type 0} (xs : List X) (k : ℕ) → k ≤ length xs → length (take k xs) ≡ k
front_length [] zero le = refl
front_length [] (suc k) le = absurd (omega arith)
front_length (x ∷ xs) zero le = refl
front_length (x ∷ xs) (suc k) le = omega (arith, front_length xs k (omega arith))
