-- The words of the values that forms give, and of those that they take.
use Rattle.std.proofs.Common.{◌≡◌, ℕ, ◌+◌, ◌*◌, ◌^◌, ◌<◌, ◌≤◌, ℤ, pos, negsuc, w32, Bool, true, false, List, [], ◌∷◌, length, Option, Some, All, refl, sym, ◌∙◌, ap, subst, arith}
use Rattle.std.specs.Int.{int_wrap}
use Rattle.std.proofs.lemmas.Int.{int_wrap_fits}
use Rattle.std.proofs.lemmas.List.Elements.{All-tail}
use Rattle.kk_base.specs.Trace.{output}
use Rattle.kk_syntax.specs.declared.program.Form.{Form}
use Rattle.kk_syntax.specs.declared.program.Form.TheVariants.{Construct, Call}
use Rattle.kk_syntax.specs.Shapes.{is_among}
use Rattle.kk_syntax.specs.Types.{TypeTree, int32, unit_type, type_variable, named}
use Rattle.kk_source.specs.Arithmetic.{wrapped}
use Rattle.kk_source.specs.State.{Value, constant, Environment}
use Rattle.kk_source.specs.Live.{value_of}
use Rattle.kk_source.specs.Sound.{Within}
use Rattle.kk_source.specs.FormEffects.{truth, is_true}
use Rattle.rv_isa.specs.Arithmetic.{signed, word_of}
use Rattle.rv_isa.specs.Processor.{Ending}
use Rattle.rv_isa.specs.AsmCode.{Line}
use Rattle.rv_isa.specs.AsmMachine.{AsmTurn}
use Rattle.rv_isa.specs.Frames.{Frame}
use Rattle.rv_isa.specs.Primitives.{go}
use Rattle.cell_runtime.specs.Prints.{put_of}
use Rattle.cell_runtime.specs.World.{World}
use Rattle.rv_lower.proofs.Words.{same_word, signed_fits, truth_word}
use Rattle.rv_lower.proofs.WordValues.{IsWordOf, turn_at}
use Rattle.rv_lower.proofs.FormEffects as Performing
use Rattle.rv_lower.proofs.Runs.{Target as NumberTarget}
use Rattle.rv_cells.specs.Layout.{Layout, word_in, FitsField}
use Rattle.rv_cells.specs.Fitting.{IsInt32}
use Rattle.rv_cells.proofs.Values.{HasValues}
use Rattle.rv_cells.proofs.Runs.{turn_of}

-- ---- words of numbers

pub word_fits : (z : ℤ) → word_of z < 2 ^ 32
word_fits (pos n) = omega arith
word_fits (negsuc n) = omega arith

pub word_wraps : (z : ℤ) → signed (word_of z) ≡ wrapped z
unfolding int_wrap
word_wraps z = refl

pub word_signed : (a : ℕ) → a < 2 ^ 32 → word_of (signed a) ≡ a
word_signed a fits =
    same_word (word_of (signed a)) a (word_fits (signed a)) fits
    (word_wraps (signed a) ∙ int_wrap_fits w32 (signed a) (signed_fits a fits))

-- ---- values of a frame

-- values of other words of the same variables
pub has_same : {layout : Layout} {address : ℕ → ℕ} {holds : ℕ → Bool} {base next : ℕ} {bound : List ℕ} {environment : Environment}
    {values : ℕ → Option ℕ} → HasValues layout address holds base next bound environment values → (later : ℕ → Option ℕ)
    → ((z : ℕ) → is_among bound z ≡ true → later z ≡ values z) → HasValues layout address holds base next bound environment later
has_same has later same = record {
  below = has.below;
  words = λ z is. same z is ∙ has.words z is;
  fits = has.fits;
  older = has.older;
}

-- the word of a number
pub number_word : {layout : Layout} {address : ℕ → ℕ} {holds : ℕ → Bool} {base next : ℕ} {bound : List ℕ}
    {environment : Environment} {values : ℕ → Option ℕ} → HasValues layout address holds base next bound environment values
    → (a : ℕ) → is_among bound a ≡ true → (number : IsInt32 (value_of environment a)) → values a ≡ Some number.0
number_word {layout} {address} has a bound number =
    has.words a bound
    ∙ ap (λ v. Some (word_in layout address v)) number.1 ∙ ap (λ w. Some w) (word_signed number.0 number.2)

-- the word of a value of a type, which holds no cell
pub word_follows : (layout : Layout) → layout.tag 0 ≡ 0 → layout.tag 1 ≡ 1 → (address : ℕ → ℕ) (next : ℕ) (t : TypeTree) (v : Value)
    (word : ℕ) → IsWordOf t v word → (word_in layout address v ≡ word) × FitsField false v × Within next v
word_follows layout falsity truth_is address next int32 v word is = (
  ap (word_in layout address) is.0 ∙ word_signed word is.1,
  subst (FitsField false) (sym is.0) tt,
  subst (Within next) (sym is.0) tt,
)
word_follows layout falsity truth_is address next unit_type v word is = (
  ap (word_in layout address) is.0 ∙ sym is.1,
  subst (FitsField false) (sym is.0) tt,
  subst (Within next) (sym is.0) tt,
)
word_follows layout falsity truth_is address next (type_variable of) v word is = absurd is
word_follows layout falsity truth_is address next (named by arguments) v word is = by_truth is.0 is.1 is.2
  where
    by_truth : (b : Bool) → v ≡ truth b → word ≡ truth_word b
        → (word_in layout address v ≡ word) × FitsField false v × Within next v
    by_truth true v_is word_is = (
      ap (word_in layout address) v_is ∙ ap (λ t. 2 * t + 1) truth_is ∙ sym word_is,
      subst (FitsField false) (sym v_is) tt,
      subst (Within next) (sym v_is) tt,
    )
    by_truth false v_is word_is = (
      ap (word_in layout address) v_is ∙ ap (λ t. 2 * t + 1) falsity ∙ sym word_is,
      subst (FitsField false) (sym v_is) tt,
      subst (Within next) (sym v_is) tt,
    )

-- ---- forms

-- a form that is no call and no construction with fields
abbrev pub IsPlainForm : Form → List ℕ → Type 0
IsPlainForm (Call f) arguments = ⊥
IsPlainForm (Construct c) (a ∷ more) = ⊥
IsPlainForm form arguments = Unit {0}

pub put_some : (piece : List ℕ) → 1 ≤ length piece → put_of piece ≡ output piece ∷ []
put_some [] some = absurd (omega (arith, some))
put_some (byte ∷ bytes) some = refl

pub is_true_of : (b : Bool) → is_true (truth b) ≡ b
is_true_of true = refl
is_true_of false = refl

pub fits_constant : (b : Bool) (c : ℕ) → FitsField b (constant c)
fits_constant true c = tt
fits_constant false c = tt

-- what is left of the input behind a read are bytes
pub bytes_behind : (target : NumberTarget) (input : List ℕ) → All (λ byte. byte < 256) input
    → All (λ byte. byte < 256) (Performing.left_behind target input)
bytes_behind target [] bytes = bytes
bytes_behind target (byte ∷ rest) bytes = All-tail (λ b. b < 256) byte rest bytes

-- a turn of a frame that holds no token
pub turns_are : (lines : List Line) (f : Frame Line) (fs : List (Frame Line)) (world : World) → f.held ≡ []
    → turn_at (f.function, f.whole) lines f.cells f.into fs world ≡ turn_of lines f fs world
turns_are lines f fs world none =
    ap (λ (held : List ℕ). turn_held held) (sym none)
  where
    turn_held : List ℕ → AsmTurn World Ending
    turn_held held = go (record {
      frames = record { function = f.function; whole = f.whole; code = lines; cells = f.cells; held = held; into = f.into } ∷ fs;
      shared = world;
    })
