-- Forms with tokens have as many arguments as they take, where their bare forms do; and a call, a print and a construction with
-- fields begins with copies and constants, or with none, and behind them has an own line.
use Rattle.std.proofs.Common.{◌≡◌, ℕ, zero, suc, ◌+◌, ◌≤◌, ◌<◌, ◌&&◌, not, Bool, true, false, cond, List, [], ◌∷◌, ◌++◌, length, Option, Some, slice_get}
use Rattle.std.proofs.Common.{refl, sym, ◌∙◌, ap, subst, arith}
use Rattle.kk_syntax.specs.declared.program.Form.{Form}
use Rattle.kk_syntax.specs.declared.program.Form.TheVariants.{Number, Unit as Nothing, ReadByte, PrintText, Unary, Binary, Print, Construct, Call}
use Rattle.kk_syntax.specs.Programs.{text_at}
use Rattle.kk_syntax.specs.Shapes.{without}
use Rattle.kk_source.specs.FormEffects.{piece_of}
use Rattle.kk_counted.specs.BareForms.{bare, bare_arms}
use Rattle.kk_counted.specs.CodePlaces.{is_act}
use Rattle.kk_counted.specs.Lowerable.{HasArity, HasArities, HaveArities}
use Rattle.kk_counted.specs.TokenRuns.{is_quiet}
use Rattle.kk_counted.specs.TokenSpending.{SpendsTokens, SpendAllTokens}
use Rattle.kk_counted.specs.TokenedCodes.{Tokened, TokenedArms}
use Rattle.rv_isa.specs.AsmCode.{Line}
use Rattle.rv_isa.specs.declared.asm.Action.{Action}
use Rattle.rv_isa.specs.declared.asm.Action.TheVariants.{Compute, Jump}
use Rattle.rv_isa.specs.declared.asm.Operation.TheVariants.{Mv, Li, La}
use Rattle.rv_isa.specs.LinePlaces.{is_own}
use Rattle.rv_lower.specs.Lines.{acts, copies_to, sets, copies, PrintLines}
use Rattle.rv_lower.specs.Lowered.{Goal}
use Rattle.rv_cells.specs.declared.compare.Branching.{Branching}
use Rattle.rv_cells.specs.ComparisonBranch.{branch_of}
use Rattle.rv_cells.specs.CountedLines.{Setting}
use Rattle.rv_cells.specs.TokenedLines.{OwnLines, LinesBehind}
use Rattle.rv_cells.proofs.FormPlaces.{Parts, no_part, part, entry_lines, parts_behind}

-- ---- arities

-- each form on values has as many arguments as it takes
abbrev mutual
  pub FitArities : Tokened → Type 0
  FitArities (Tokened.give x) = Unit {0}
  FitArities (Tokened.tail_call f arguments) = Unit {0}
  FitArities (Tokened.case x decisions arms) = FitAllArities arms
  FitArities (Tokened.compute x form arguments others rest) = HasArity form arguments × FitArities rest
  FitArities (Tokened.inside x block rest) = FitArities block × FitArities rest
  FitArities (Tokened.read x c fields rest) = FitArities rest
  FitArities (Tokened.open_cell x c fields used y rest) = FitArities rest
  FitArities (Tokened.if_unique x c fields used y rest) = FitArities rest
  FitArities (Tokened.dup x rest) = FitArities rest
  FitArities (Tokened.drop x rest) = FitArities rest
  FitArities (Tokened.fill x y c first arguments kept others rest) = FitArities rest
  FitArities (Tokened.free y rest) = FitArities rest
  FitArities (Tokened.null y rest) = FitArities rest
  FitArities (Tokened.move to of rest) = FitArities rest
  FitArities (Tokened.hold y rest) = FitArities rest
  FitArities (Tokened.unhold y rest) = FitArities rest
  FitArities (Tokened.if_token y there absent) = FitArities there × FitArities absent

  pub FitAllArities : TokenedArms → Type 0
  FitAllArities TokenedArms.no_arm = Unit {0}
  FitAllArities (TokenedArms.arm body rest) = FitArities body × FitAllArities rest

mutual
  pub fit_arities : (code : Tokened) (left unspent held : List ℕ) → SpendsTokens left unspent held code → HasArities (bare code)
      → FitArities code
  fit_arities (Tokened.give x) left unspent held s a = tt
  fit_arities (Tokened.tail_call f arguments) left unspent held s a = tt
  fit_arities (Tokened.case x decisions arms) left unspent held s a = fit_all_arities arms left unspent s.1 a
  fit_arities (Tokened.compute x form arguments others rest) left unspent held s a =
      (a.0, fit_arities rest left unspent held s.1 a.1)
  fit_arities (Tokened.inside x block rest) left unspent held s a =
      (fit_arities block s.0 unspent [] s.1.1.0 a.0, fit_arities rest left s.0 [] s.1.1.1 a.1)
  fit_arities (Tokened.read x c fields rest) left unspent held s a = fit_arities rest left unspent [] s.1 a
  fit_arities (Tokened.open_cell x c fields used y rest) left unspent held s a =
      fit_arities rest left (y ∷ unspent) [] s.1.1 a
  fit_arities (Tokened.if_unique x c fields used y rest) left unspent held s a =
      fit_arities rest left (y ∷ unspent) [] s.1.1 a
  fit_arities (Tokened.dup x rest) left unspent held s a = fit_arities rest left unspent [] s.1 a
  fit_arities (Tokened.drop x rest) left unspent held s a = fit_arities rest left unspent held s a
  fit_arities (Tokened.fill x y c first arguments kept others rest) left unspent held s a =
      fit_arities rest left (without (y ∷ []) unspent) [] s.1.1.1.1 a.1
  fit_arities (Tokened.free y rest) left unspent held s a = fit_arities rest left (without (y ∷ []) unspent) [] s.1.1 a
  fit_arities (Tokened.null y rest) left unspent held s a = fit_arities rest left (y ∷ unspent) [] s.1.1 a
  fit_arities (Tokened.move to of rest) left unspent held s a =
      fit_arities rest left (to ∷ without (of ∷ []) unspent) [] s.1.1.1 a
  fit_arities (Tokened.hold y rest) left unspent held s a = fit_arities rest left unspent (y ∷ held) s.1.1 a
  fit_arities (Tokened.unhold y rest) left unspent held s a = fit_arities rest left unspent s.0 s.1.1.1 a
  fit_arities (Tokened.if_token y there absent) left unspent held s a = (
    fit_arities there left unspent held s.1.1.0 a,
    fit_arities absent left unspent held s.1.1.1 (subst HasArities (sym s.1.0) a),
  )

  fit_all_arities : (arms : TokenedArms) (left unspent : List ℕ) → SpendAllTokens left unspent arms
      → HaveArities (bare_arms arms) → FitAllArities arms
  fit_all_arities TokenedArms.no_arm left unspent s a = tt
  fit_all_arities (TokenedArms.arm body rest) left unspent s a =
      (fit_arities body left unspent [] s.0 a.0, fit_all_arities rest left unspent s.1 a.1)

-- ---- first lines

-- a call, a print or a construction with fields, which the bare form has too
abbrev pub is_own_act : Tokened → Bool
is_own_act code = not (is_quiet code) && is_act (bare code)

-- whether the action makes a word and nothing else, of another one or of none
abbrev pub makes_word : Action → Bool
makes_word (Compute Mv) = true
makes_word (Compute (Li word)) = true
makes_word (Compute (La index)) = true
makes_word _ = false

-- how many of these lines begin with
abbrev pub lead : List Line → ℕ
lead [] = 0
lead (line ∷ lines) = cond (makes_word line.action) (suc (lead lines)) 0

-- behind them is an own line
pub record Begins (lines : List Line) : Type 0 where
  pub line : Line
  pub is : slice_get lines (lead lines) ≡ Some line
  pub some : is_own line.action (length line.args) ≡ true

-- no part begins with the first of these lines
abbrev pub StartsBehind : ℕ → Parts → Type 0
StartsBehind first no_part = Unit {0}
StartsBehind first (part way before inner more) = first ≤ length before

-- a code begins with lines of its own, of which one is an own line
pub record IsOwn (own : List Line) (parts : Parts) : Type 0 where
  pub begins : Begins own
  pub apart : StartsBehind (suc (lead own)) parts

begins_by : (lines these : List Line) → lines ≡ these → Begins these → Begins lines
begins_by lines these is begins = subst Begins (sym is) begins

begins_at : (line : Line) (more : List Line) → makes_word line.action ≡ false → is_own line.action (length line.args) ≡ true
    → Begins (line ∷ more)
begins_at line more no_copy some = record {
  line = line;
  is = ap (λ copy. slice_get (line ∷ more) (cond copy (suc (lead more)) 0)) no_copy;
  some = some;
}

-- behind a line that makes a word
begins_behind : (line : Line) (more : List Line) → makes_word line.action ≡ true → Begins more → Begins (line ∷ more)
begins_behind line more makes begins = record {
  line = begins.line;
  is = ap (λ one. slice_get (line ∷ more) (cond one (suc (lead more)) 0)) makes ∙ begins.is;
  some = begins.some;
}

-- a line that is there, in front of others too
pub get_left : (xs ys : List Line) (k : ℕ) (line : Line) → slice_get xs k ≡ Some line → slice_get (xs ++ ys) k ≡ Some line
get_left [] ys k line is = cc is
get_left (x ∷ xs) ys zero line is = is
get_left (x ∷ xs) ys (suc k) line is = get_left xs ys k line is

pub get_below : (xs : List Line) (k : ℕ) (line : Line) → slice_get xs k ≡ Some line → k < length xs
get_below [] k line is = cc is
get_below (x ∷ xs) zero line is = omega arith
get_below (x ∷ xs) (suc k) line is = let later = get_below xs k line is in omega (arith, later)

-- the copies that lines begin with end at a line of theirs
lead_ends : (copy : Bool) (first : Line) (front more : List Line) (line : Line)
    → (slice_get front (lead front) ≡ Some line → lead (front ++ more) ≡ lead front)
    → slice_get (first ∷ front) (cond copy (suc (lead front)) 0) ≡ Some line
    → cond copy (suc (lead (front ++ more))) 0 ≡ cond copy (suc (lead front)) 0
lead_ends true first front more line later is = ap suc (later is)
lead_ends false first front more line later is = refl

lead_front : (first more : List Line) (line : Line) → slice_get first (lead first) ≡ Some line
    → lead (first ++ more) ≡ lead first
lead_front [] more line is = cc is
lead_front (line ∷ first) more there is =
    lead_ends (makes_word line.action) line first more there (lead_front first more there) is

-- with others behind them there are no less
less_ends : (copy : Bool) (front whole : ℕ) → front ≤ whole → cond copy (suc front) 0 ≤ cond copy (suc whole) 0
less_ends true front whole less = omega arith
less_ends false front whole less = omega arith

pub lead_less : (first more : List Line) → lead first ≤ lead (first ++ more)
lead_less [] more = omega arith
lead_less (line ∷ first) more =
    less_ends (makes_word line.action) (lead first) (lead (first ++ more)) (lead_less first more)

-- lines in front of others
begins_more : (lines first more : List Line) → lines ≡ first ++ more → Begins first → Begins lines
begins_more lines first more is begins =
    begins_by lines (first ++ more) is (record {
      line = begins.line;
      is = ap (slice_get (first ++ more)) (lead_front first more begins.line begins.is)
          ∙ get_left first more (lead first) begins.line begins.is;
      some = begins.some;
    })

-- the copies of arguments, and what comes behind them
copies_begin : (base : ℕ) (arguments : List ℕ) (last : Line) → makes_word last.action ≡ false → is_own last.action (length last.args) ≡ true
    → Begins (copies base arguments ++ (last ∷ []))
copies_begin base [] last no_copy some = begins_at last [] no_copy some
copies_begin base (x ∷ xs) last no_copy some =
    begins_behind (copies_to x base) (copies (base + 1) xs ++ (last ∷ [])) refl (copies_begin (base + 1) xs last no_copy some)

-- a print of constant bytes
print_begins : (base : ℕ) (texts : List (List ℕ)) (bytes : List ℕ) (print : List Line) (last : Line)
    → PrintLines base texts bytes print → Begins (print ++ (last ∷ []))
print_begins base texts [] print last is =
    begins_by (print ++ (last ∷ [])) _ (ap (λ ls. ls ++ (last ∷ [])) is) (begins_behind _ _ refl (begins_at _ _ refl refl))
print_begins base texts (byte ∷ more) print last is =
    begins_by (print ++ (last ∷ [])) _ (ap (λ ls. ls ++ (last ∷ [])) is.2)
    (begins_behind _ _ refl (begins_behind _ _ refl (begins_at _ _ refl refl)))

-- the lines by which an opening goes on behind the test of a construction
pub entry_own : (token into filled : ℕ) → IsOwn (entry_lines token into filled) no_part
entry_own token into filled = record {
  begins = begins_behind (copies_to token into) (acts (Jump filled) [] ∷ []) refl (begins_at (acts (Jump filled) []) [] refl refl);
  apart = tt;
}

module _ (setting : Setting) (variables : ℕ) where
  -- the lines of a form on values
  form_begins : (low x : ℕ) (form : Form) (arguments others : List ℕ) (joined : Bool) (rest : Tokened) (own : List Line) (high : ℕ)
      → OwnLines (branch_of form arguments joined) setting variables low x form arguments others own high
      → HasArity form arguments
      → is_own_act (Tokened.compute x form arguments others rest) ≡ true → Begins own
  form_begins low x (Number n) arguments others joined rest own high lines arity act = cc act
  form_begins low x Nothing arguments others joined rest own high lines arity act = cc act
  form_begins low x ReadByte arguments others joined rest own high lines arity act = cc act
  form_begins low x (PrintText how text) arguments others joined rest own high lines arity act =
      begins_by own _ lines.0.2 (print_begins setting.base setting.texts.constants (piece_of how (text_at setting.texts.literals text))
      lines.0.0 _ lines.0.1)
  form_begins low x (Unary operator) arguments others joined rest own high lines arity act = cc act
  form_begins low x (Binary operator) arguments others joined rest own high lines arity act = cc act
  form_begins low x (Print how) [] others joined rest own high lines arity act = absurd (omega (arith, arity))
  form_begins low x (Print how) (a ∷ b ∷ more) others joined rest own high lines arity act = absurd (omega (arith, arity))
  form_begins low x (Print how) (a ∷ []) others joined rest own high lines arity act =
      begins_by own _ lines.0
      (begins_behind _ _ refl (begins_behind _ _ refl (begins_at _ _ refl refl)))
  form_begins low x (Construct c) [] others joined rest own high lines arity act = cc act
  form_begins low x (Construct c) (a ∷ more) [] joined rest own high lines arity act =
      begins_by own _ lines.0.6 (begins_at _ _ refl refl)
  form_begins low x (Construct c) (a ∷ more) (other ∷ others) joined rest own high lines arity act =
      begins_by own _ lines.2
      (begins_behind (sets 0 x) lines.0 refl (begins_by lines.0 _ lines.1.4 (begins_behind _ _ refl (begins_at _ _ refl refl))))
  form_begins low x (Call f) arguments others joined rest own high lines arity act =
      begins_by own _ lines.0 (copies_begin setting.base arguments _ refl refl)

  -- an act whose own lines begin so, and whose other part comes behind them
  own_by : (own first more : List Line) (way : List ℕ) (inner : _) → own ≡ first ++ more → Begins first
      → IsOwn own (part way first inner no_part)
  own_by own first more way inner is begins = record {
    begins = begins_more own first more is begins;
    apart =
        let few = get_below first (lead first) begins.line begins.is in
        let same = ap lead is ∙ lead_front first more begins.line begins.is in
        omega (arith, few, same);
  }

  pub act_own : (left : Option Branching) (goal : Goal) (low : ℕ) (code : Tokened) (own : List Line) (high : ℕ)
      (lines : LinesBehind left setting variables goal low code own high) → FitArities code → is_own_act code ≡ true
      → IsOwn own (parts_behind setting variables left goal low code own high lines)
  act_own left goal low (Tokened.give x) own high lines arity act = cc act
  act_own left goal low (Tokened.tail_call f arguments) own high lines arity act =
      record { begins = begins_by own _ lines.0 (copies_begin setting.base arguments _ refl refl); apart = tt }
  act_own left goal low (Tokened.case x decisions arms) own high lines arity act = cc act
  act_own left goal low (Tokened.compute x form arguments others rest) own high lines arity act =
      own_by own lines.0 lines.1 _ _ lines.7
      (form_begins low x form arguments others lines.3 rest lines.0 lines.2 lines.4 arity.0 act)
  act_own left goal low (Tokened.inside x block rest) own high lines arity act = cc act
  act_own left goal low (Tokened.read x c fields rest) own high lines arity act = cc act
  act_own left goal low (Tokened.open_cell x c fields used y rest) own high lines arity act = cc act
  act_own left goal low (Tokened.if_unique x c fields used y rest) own high lines arity act = cc act
  act_own left goal low (Tokened.dup x rest) own high lines arity act = cc act
  act_own left goal low (Tokened.drop x rest) own high lines arity act = cc act
  act_own left goal low (Tokened.fill x y c first arguments kept others rest) own high lines arity act =
      own_by own lines.0 lines.1 _ _ lines.4 (begins_by lines.0 _ lines.2.4 (begins_behind _ _ refl (begins_at _ _ refl refl)))
  act_own left goal low (Tokened.free y rest) own high lines arity act = cc act
  act_own left goal low (Tokened.null y rest) own high lines arity act = cc act
  act_own left goal low (Tokened.move to of rest) own high lines arity act = cc act
  act_own left goal low (Tokened.hold y rest) own high lines arity act = cc act
  act_own left goal low (Tokened.unhold y rest) own high lines arity act = cc act
  act_own left goal low (Tokened.if_token y there absent) own high lines arity act = cc act
