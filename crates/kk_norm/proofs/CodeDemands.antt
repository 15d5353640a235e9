-- A core form asks what types tell.
use Rattle.std.proofs.Common.{◌≡◌, ℕ, zero, suc, ◌+◌, true, false, List, [], ◌∷◌, Some, sym, subst}
use Rattle.std.specs.Prelude.{slice_get}
use Rattle.std.proofs.lemmas.Option.{none-some, same_Some}
use Rattle.kk_syntax.specs.declared.program.Form.{Form}
use Rattle.kk_syntax.specs.declared.program.Form.TheVariants.{Number, Unit as Nothing, ReadByte, PrintText, Unary, Binary, Print, Construct, Call}
use Rattle.kk_syntax.specs.Patterns.{Pattern, anything, variable as pattern_variable, exactly, constructor, Patterns, no_part, part}
use Rattle.kk_syntax.specs.Programs.{ConstructorTree, FunctionTree, ProgramTree}
use Rattle.kk_syntax.specs.Trees.{Tree, variable, apply, branch, match, sequence, Trees, no_tree, tree, Rows, no_row, row, row_parts}
use Rattle.kk_core.specs.Kinds.{AskTyped, ArmsAskTyped, AllAskTyped}
use Rattle.kk_core.specs.Codes.{Code, Arms, FunctionCode, ProgramCode}
use Rattle.kk_core.specs.Kinds.{AsksTyped}
use Rattle.kk_norm.specs.Names.{Names}
use Rattle.kk_norm.specs.Normalized.{Then, final, next, after_use, within, joined, finish, opened, opened_all, IsCode, AreCodes, AreArms, AreCoresOf, IsCoreForm}
use Rattle.kk_norm.proofs.CoreTyping.{patterns_are}
use Rattle.kk_norm.proofs.Truths.{truths_ask}

module _ (constructors : List ConstructorTree) where
  -- ---- what comes after

  abbrev ThenAsksTyped : Then → Type 0
  ThenAsksTyped (final tail) = Unit {0}
  ThenAsksTyped (next rest) = AskTyped constructors rest

  within_asks : (k : Then) → ThenAsksTyped (within k)
  within_asks (final tail) = tt
  within_asks (next rest) = tt

  used_asks : (k : Then) (x : ℕ) → ThenAsksTyped k → AskTyped constructors (after_use k x)
  used_asks (final tail) x then = tt
  used_asks (next rest) x then = then

  joined_asks : (k : Then) (m : ℕ) (c : Code) → AskTyped constructors c → ThenAsksTyped k → AskTyped constructors (joined k m c)
  joined_asks (final tail) m c own then = own
  joined_asks (next rest) m c own then = (own, then)

  finish_asks : (k : Then) (m : ℕ) (form : Form) (xs : List ℕ) → ThenAsksTyped k → AskTyped constructors (finish k m form xs)
  finish_asks (final true) m (Call f) xs then = tt
  finish_asks (final false) m (Call f) xs then = tt
  finish_asks (next rest) m (Call f) xs then = then
  finish_asks (final tail) m (Number z) xs then = tt
  finish_asks (next rest) m (Number z) xs then = then
  finish_asks (final tail) m Nothing xs then = tt
  finish_asks (next rest) m Nothing xs then = then
  finish_asks (final tail) m ReadByte xs then = tt
  finish_asks (next rest) m ReadByte xs then = then
  finish_asks (final tail) m (PrintText form text) xs then = tt
  finish_asks (next rest) m (PrintText form text) xs then = then
  finish_asks (final tail) m (Unary operator) xs then = tt
  finish_asks (next rest) m (Unary operator) xs then = then
  finish_asks (final tail) m (Binary operator) xs then = tt
  finish_asks (next rest) m (Binary operator) xs then = then
  finish_asks (final tail) m (Print form) xs then = tt
  finish_asks (next rest) m (Print form) xs then = then
  finish_asks (final tail) m (Construct c) xs then = tt
  finish_asks (next rest) m (Construct c) xs then = then

  -- openings have no cases
  mutual
    opened_asks : (a n : ℕ) (pattern : Pattern) (rest : Code) → AskTyped constructors rest → AskTyped constructors (opened a n pattern rest)
    opened_asks a n anything rest then = then
    opened_asks a n (pattern_variable x) rest then = then
    opened_asks a n (exactly value) rest then = then
    opened_asks a n (constructor c no_part) rest then = then
    opened_asks a n (constructor c (part first others)) rest then =
        opened_asks n _ first _ (all_opened_ask (n + 1) _ others rest then)

    all_opened_ask : (a n : ℕ) (parts : Patterns) (rest : Code) → AskTyped constructors rest → AskTyped constructors (opened_all a n parts rest)
    all_opened_ask a n no_part rest then = then
    all_opened_ask a n (part first others) rest then = opened_asks a n first _ (all_opened_ask (a + 1) _ others rest then)

  -- ---- expressions

  mutual
    code_asks : (k : Then) (names : Names) (n : ℕ) (e : Tree) (c : Code) → IsCode constructors k names n e c → ThenAsksTyped k
        → AskTyped constructors c
    code_asks k names n (variable x) c is then = subst (AskTyped constructors) (sym is) (used_asks k _ then)
    code_asks k names n (apply form es) c is then = codes_ask names n es _ c is (finish_asks k _ form _ then)
    code_asks k names n (branch e positive negative) c is then =
        code_asks _ names n e c is.4
        (joined_asks k _ _ (
          truths_ask constructors,
          (code_asks (within k) names _ positive is.0 is.2 (within_asks k), (code_asks (within k) names _ negative is.1 is.3 (within_asks k), tt)),
        ) then)
    code_asks k names n (match e rows) c is then =
        code_asks _ names n e c is.4
        (joined_asks k _ _ (
          subst (λ (patterns : List Pattern). AsksTyped constructors patterns is.0) (sym (patterns_are constructors (within k) names _ _ rows is.1 is.3)) is.2.asks,
          arms_ask (within k) names _ _ rows is.1 is.3 (within_asks k),
        )
        then)
    code_asks k names n (sequence binder first rest) c is then =
        code_asks _ names n first c is.2 (code_asks k _ _ rest is.0 is.1 then)

    codes_ask : (names : Names) (n : ℕ) (es : Trees) (last c : Code) → AreCodes constructors names n es last c → AskTyped constructors last
        → AskTyped constructors c
    codes_ask names n no_tree last c is then = subst (AskTyped constructors) (sym is) then
    codes_ask names n (tree first rest) last c is then = code_asks _ names n first c is.2 (codes_ask names _ rest last is.0 is.1 then)

    arms_ask : (k : Then) (names : Names) (a n : ℕ) (rows : Rows) (arms : Arms) → AreArms constructors k names a n rows arms → ThenAsksTyped k
        → ArmsAskTyped constructors arms
    arms_ask k names a n no_row arms are then = subst (ArmsAskTyped constructors) (sym are) tt
    arms_ask k names a n (row (row_parts pattern body) rest) arms are then =
        subst (ArmsAskTyped constructors) (sym are.2)
        (opened_asks a n pattern are.0 (code_asks k _ _ body are.0 are.3 then), arms_ask k names a _ rest are.1 are.4 then)

  functions_ask : (functions : List FunctionTree) (cores : List FunctionCode) → AreCoresOf constructors functions cores
      → (f : ℕ) (core : FunctionCode) → slice_get cores f ≡ Some core → AskTyped constructors core.body
  functions_ask [] cores are f core is = absurd (none-some core (subst (λ (some : List FunctionCode). slice_get some f ≡ Some core) are is))
  functions_ask (function ∷ functions) [] are f core is = absurd are
  functions_ask (function ∷ functions) (first ∷ cores) are zero core is =
      subst (λ (one : FunctionCode). AskTyped constructors one.body) (same_Some first core is)
      (code_asks (final true) [] _ function.body first.body are.0.body tt)
  functions_ask (function ∷ functions) (first ∷ cores) are (suc f) core is = functions_ask functions cores are.1 f core is

pub forms_ask : (program : ProgramTree) (code : ProgramCode) → IsCoreForm program code → AllAskTyped program.constructors code
forms_ask program code form = functions_ask program.constructors program.functions code.functions form.functions
