-- Code with tokens that grows: the lines and the texts of parts make those of the whole.
use Rattle.std.proofs.Common.{◌≡◌, ◌⊎◌, inl, inr, Bool, Option, ℕ, suc, ◌+◌, ◌-◌, ◌<◌, false, List, [], ◌∷◌, ◌++◌, length, map, take, get_or, refl, sym, ap}
use Rattle.std.proofs.Common.{subst, ◌∙◌, arith, append_assoc, append-nil}
use Rattle.std.specs.Prelude.{drop}
use Rattle.std.proofs.lemmas.List.{length-map, map-append, take_more, drop_more, length-drop, take_all}
use Rattle.kk_syntax.specs.declared.program.Form.{Form}
use Rattle.kk_syntax.specs.declared.program.Form.TheVariants.{Number, Unit as Nothing, ReadByte, PrintText, Unary, Binary, Print}
use Rattle.kk_syntax.specs.declared.program.Form.TheVariants.{Construct, Call}
use Rattle.kk_core.specs.Decisions.{NodeTree, node_tree}
use Rattle.kk_core.specs.declared.decisions.Decisions.{Decisions}
use Rattle.kk_core.specs.declared.decisions.Node.{Node}
use Rattle.kk_counted.proofs.TokenedViews as Views
use Rattle.kk_counted.specs.Arms.{arm_count}
use Rattle.kk_counted.specs.BareForms.{bare_arms}
use Rattle.kk_counted.specs.CountedForms.{decisions_of}
use Rattle.kk_counted.specs.TokenedWords.{prints_in_form, tokened_prints, tokened_arms_prints}
use Rattle.kk_counted.specs.TokenedCodes.{Tokened, TokenedArms}
use Rattle.kk_counted.specs.TokenedForms.{TokenedMove, put_tokened, plug_tokened, tokened_arms, tokened_code, tokened_last_code}
use Rattle.kk_counted.specs.TokenedForms.{tokened_move}
use Rattle.kk_counted.specs.declared.tokened.TokenedBlock.{TokenedBlock}
use Rattle.kk_counted.specs.declared.tokened.TokenedLast.{TokenedLast}
use Rattle.kk_counted.specs.declared.tokened.TokenedLast.TheVariants as OfLast
use Rattle.kk_counted.specs.declared.tokened.TokenedStep.{TokenedStep}
use Rattle.kk_counted.specs.declared.tokened.TokenedStep.TheVariants as OfStep
use Rattle.rv_isa.specs.declared.asm.Action.TheVariants.{Compute, Label}
use Rattle.rv_isa.specs.declared.asm.Operation.TheVariants.{Free}
use Rattle.rv_isa.specs.AsmCode.{Line}
use Rattle.rv_lower.specs.declared.lowering.Lowering.{Lowering}
use Rattle.rv_lower.specs.Lines.{sets, copies_to, acts}
use Rattle.rv_lower.specs.Lowered.{Goal, joins}
use Rattle.rv_lower.specs.Written.{lines_written, texts_written, Wrote, WroteLines, TookLabel, Grows}
use Rattle.rv_lower.proofs.CodeGrowth.{grows_of, grows_took, grows_none, grows_then, grows_more, later_texts}
use Rattle.rv_tokens.specs.declared.decide.Targets.{Targets}
use Rattle.rv_cells.specs.Layout.{header_of}
use Rattle.rv_cells.specs.CellLines.{FillLines, ReadLines, dup_lines, drop_lines, hold_line, back_line}
use Rattle.rv_cells.specs.CountedLines.{Setting, ways_of, NodesLines}
use Rattle.rv_cells.specs.TokenedLines.{OwnLines, LinesBehind, CodeLines, ArmsLines, MayFill, values_of_slots, header_stands, count_stands}
use Rattle.rv_tokens.specs.TokenedWritten.{token_test_lines, WroteFill, WroteAsk, WroteTokened, WroteTokenedArms, WroteTokenedSteps}
use Rattle.rv_tokens.specs.Written.{Facts, setting_in, TookTargets, WroteOpening, WroteValue}
use Rattle.rv_cells.proofs.Comparisons.{never_left}

-- the lines of a code at equal places
pub code_same : (facts : Facts) {base base_too : ℕ} {texts texts_too : List (List ℕ)} {low low_too : ℕ} (variables : ℕ) (goal : Goal)
    (code : Tokened) (lines : List Line) (high : ℕ)
    → base ≡ base_too → texts ≡ texts_too → low ≡ low_too
    → CodeLines (setting_in facts base texts) variables goal low code lines high
    → CodeLines (setting_in facts base_too texts_too) variables goal low_too code lines high
code_same facts {base} {base_too} {texts} {texts_too} {low} {low_too} variables goal code lines high same_base same_texts same_low
    are =
    subst (λ (b : ℕ). CodeLines (setting_in facts b texts_too) variables goal low_too code lines high) same_base
    (subst (λ (ts : List (List ℕ)). CodeLines (setting_in facts base ts) variables goal low_too code lines high) same_texts
    (subst (λ (l : ℕ). CodeLines (setting_in facts base texts) variables goal l code lines high) same_low are))

pub arms_same : (facts : Facts) {base base_too : ℕ} {texts texts_too : List (List ℕ)} {low low_too : ℕ} (variables : ℕ) (goal : Goal)
    (label : ℕ) (arms : TokenedArms) (lines : List Line) (high : ℕ)
    → base ≡ base_too → texts ≡ texts_too → low ≡ low_too
    → ArmsLines (setting_in facts base texts) variables goal label low arms lines high
    → ArmsLines (setting_in facts base_too texts_too) variables goal label low_too arms lines high
arms_same facts {base} {base_too} {texts} {texts_too} {low} {low_too} variables goal label arms lines high same_base same_texts
    same_low are =
    subst (λ (b : ℕ). ArmsLines (setting_in facts b texts_too) variables goal label low_too arms lines high) same_base
    (subst (λ (ts : List (List ℕ)). ArmsLines (setting_in facts base ts) variables goal label low_too arms lines high) same_texts
    (subst (λ (l : ℕ). ArmsLines (setting_in facts base texts) variables goal label l arms lines high) same_low are))

-- ---- steps

zero_plus : (n : ℕ) → n ≡ 0 + n
zero_plus n = omega arith

pub steps_none : (facts : Facts) (variables : ℕ) (behind : List TokenedMove) (a : Lowering)
    → WroteTokenedSteps facts variables [] behind a a
steps_none facts variables behind a = record {
  lines = [];
  n = 0;
  grows = grows_none a;
  counted = λ rest. zero_plus (tokened_prints rest);
  are = λ later goal rest more high is. is;
}

pub plug_more : (moves : List TokenedMove) (move : TokenedMove) (rest : Tokened)
    → plug_tokened (moves ++ move ∷ []) rest ≡ plug_tokened moves (put_tokened move rest)
plug_more [] move rest = refl
plug_more (first ∷ moves) move rest = ap (put_tokened first) (plug_more moves move rest)

pub steps_then : {a b c : Lowering} (facts : Facts) (variables : ℕ) (moves : List TokenedMove) (move : TokenedMove)
    (behind : List TokenedMove) → WroteTokenedSteps facts variables moves (move ∷ behind) a b
    → WroteTokenedSteps facts variables (move ∷ []) behind b c → WroteTokenedSteps facts variables (moves ++ move ∷ []) behind a c
steps_then {a} {b} {c} facts variables moves move behind wrote one = record {
  lines = wrote.lines ++ one.lines;
  n = wrote.n + one.n;
  grows = grows_then wrote.grows one.grows;
  counted = λ rest. ap tokened_prints (plug_more moves move rest)
      ∙ counts _ _ wrote.n one.n (tokened_prints rest) (wrote.counted (put_tokened move rest)) (one.counted rest);
  are = λ later goal rest more high is.
      let next : Tokened = plug_tokened behind rest in
      subst (λ (code : Tokened). CodeLines (setting_in facts a.base (texts_written c ++ later)) variables goal a.next_label code
      ((wrote.lines ++ one.lines) ++ more) high) (sym (plug_more moves move next))
      (subst (λ (lines : List Line). CodeLines (setting_in facts a.base (texts_written c ++ later)) variables goal a.next_label
      (plug_tokened moves (put_tokened move next)) lines high) (sym (append_assoc wrote.lines one.lines more))
      (code_same facts variables goal (plug_tokened moves (put_tokened move next)) (wrote.lines ++ (one.lines ++ more)) high refl
      (later_texts one.grows later) refl
      (wrote.are (one.grows.more ++ later) goal rest (one.lines ++ more) high
      (code_same facts variables goal (put_tokened move next) (one.lines ++ more) high wrote.grows.base
      (sym (later_texts one.grows later)) refl
      (one.are later goal rest more high
      (code_same facts variables goal next more high (sym wrote.grows.base) refl refl is))))));
}
  where
    counts : (x y n m k : ℕ) → x ≡ n + y → y ≡ m + k → x ≡ n + m + k
    counts x y n m k e f = omega (arith, e, f)

pub step_asks : {a b : Lowering} (facts : Facts) (variables x : ℕ) (form : Form) (arguments others : List ℕ)
    → WroteAsk facts variables x form arguments others a b
    → WroteTokenedSteps facts variables (TokenedMove.computes x form arguments others ∷ []) [] a b
step_asks {a} {b} facts variables x form arguments others wrote = record {
  lines = wrote.lines;
  n = prints_in_form form;
  grows = wrote.grows;
  counted = λ rest. refl;
  are = λ later goal rest more high is. (
    wrote.lines,
    more,
    b.next_label,
    false,
    subst (λ left. OwnLines left (setting_in facts a.base (texts_written b ++ later)) variables a.next_label x form arguments others
        wrote.lines b.next_label) (sym (never_left form arguments)) (wrote.are later),
    subst (λ left. LinesBehind left (setting_in facts a.base (texts_written b ++ later)) variables goal b.next_label rest more high)
        (sym (never_left form arguments)) is,
    tt,
    refl,
  );
}

-- a block inside: its label is taken first, and stands behind it
pub step_runs : {a b c d : Lowering} {label : ℕ} (facts : Facts) (variables x : ℕ) (block : Tokened) → TookLabel label a b
    → WroteTokened facts variables (joins x label) block b c
    → Wrote (acts (Label label) [] ∷ []) c d → WroteTokenedSteps facts variables (TokenedMove.runs x block ∷ []) [] a d
step_runs {a} {b} {c} {d} {label} facts variables x block took part labelled = record {
  lines = part.lines ++ (acts (Label label) [] ∷ []);
  n = tokened_prints block;
  grows = grows_more (omega arith) (grows_then (grows_took took) (grows_then part.grows (grows_of labelled)));
  counted = λ rest. refl;
  are = λ later goal rest more high is. subst (λ (low : ℕ). CodeLines (setting_in facts a.base (texts_written d ++ later))
      variables goal low (Tokened.inside x block rest) ((part.lines ++ (acts (Label label) [] ∷ [])) ++ more) high) took.is (
        part.lines,
        more,
        c.next_label,
        code_same facts variables (joins x label) block part.lines c.next_label took.base
            (ap (λ (texts : List (List ℕ)). texts ++ later) (sym labelled.texts)) (took.next ∙ ap (λ (l : ℕ). l + 1) (sym took.is))
            (part.are later),
        code_same facts variables goal rest more high refl refl labelled.label is,
        append_assoc part.lines (acts (Label label) [] ∷ []) more,
      );
}

-- a step before others whose own lines were written, and no text
step_before : {a b : Lowering} (facts : Facts) (variables : ℕ) (move : TokenedMove) (behind : List TokenedMove) (lines : List Line)
    → Grows 0 lines a b
    → ((rest : Tokened) → tokened_prints (put_tokened move rest) ≡ tokened_prints rest)
    → ((later : List (List ℕ)) (goal : Goal) (rest : Tokened) (more : List Line) (high : ℕ)
    → CodeLines (setting_in facts a.base (texts_written b ++ later)) variables goal b.next_label
    (plug_tokened behind rest) more high
    → CodeLines (setting_in facts a.base (texts_written b ++ later)) variables goal a.next_label
    (put_tokened move (plug_tokened behind rest)) (lines ++ more) high)
    → WroteTokenedSteps facts variables (move ∷ []) behind a b
step_before facts variables move behind lines grows same are = record {
  lines = lines;
  n = 0;
  grows = grows;
  counted = λ rest. same rest ∙ zero_plus (tokened_prints rest);
  are = are;
}

-- and one whose lines tell nothing of the steps behind it
step_alone : {a b : Lowering} (facts : Facts) (variables : ℕ) (move : TokenedMove) (lines : List Line) → Grows 0 lines a b
    → ((rest : Tokened) → tokened_prints (put_tokened move rest) ≡ tokened_prints rest)
    → ((later : List (List ℕ)) (goal : Goal) (rest : Tokened) (more : List Line) (high : ℕ)
    → CodeLines (setting_in facts a.base (texts_written b ++ later)) variables goal b.next_label rest more high
    → CodeLines (setting_in facts a.base (texts_written b ++ later)) variables goal a.next_label (put_tokened move rest)
    (lines ++ more) high)
    → WroteTokenedSteps facts variables (move ∷ []) [] a b
step_alone facts variables move lines grows same are = step_before facts variables move [] lines grows same are

pub step_reads : {a b : Lowering} (facts : Facts) (variables x c : ℕ) (fields : List ℕ) → WroteLines (ReadLines x fields) a b
    → WroteTokenedSteps facts variables (TokenedMove.reads x c fields ∷ []) [] a b
step_reads facts variables x c fields wrote =
    step_alone facts variables (TokenedMove.reads x c fields) wrote.lines (grows_of wrote.wrote) (λ rest. refl)
    (λ later goal rest more high is.
    (wrote.lines, more, wrote.are, code_same facts variables goal rest more high refl refl wrote.wrote.label is, refl))

-- the lines of an opening, behind which its slot's construction may come, stand before those of the steps behind it
opens_before : {a b : Lowering} (facts : Facts) (variables x c : ℕ) (fields used : List ℕ) (y : ℕ) (into : Option ℕ)
    (behind : List TokenedMove) → ((rest : Tokened) → MayFill into y (plug_tokened behind rest))
    → (wrote : WroteOpening facts.holds x fields used (variables + y) into a b)
    → (later : List (List ℕ)) (goal : Goal) (rest : Tokened) (more : List Line) (high : ℕ)
    → CodeLines (setting_in facts a.base (texts_written b ++ later)) variables goal b.next_label
    (plug_tokened behind rest) more high
    → CodeLines (setting_in facts a.base (texts_written b ++ later)) variables goal a.next_label
    (Tokened.open_cell x c fields used y (plug_tokened behind rest)) (wrote.lines ++ more) high
opens_before facts variables x c fields used y into behind may wrote later goal rest more high is = (
  wrote.lines,
  more,
  (into, may rest, wrote.are),
  code_same facts variables goal (plug_tokened behind rest) more high refl refl wrote.label is,
  refl,
)

pub step_opens : {a b : Lowering} (facts : Facts) (variables x c : ℕ) (fields used : List ℕ) (y : ℕ) (into : Option ℕ)
    (behind : List TokenedMove) → ((rest : Tokened) → MayFill into y (plug_tokened behind rest))
    → WroteOpening facts.holds x fields used (variables + y) into a b
    → WroteTokenedSteps facts variables (TokenedMove.opens x c fields used y ∷ []) behind a b
step_opens facts variables x c fields used y into behind may wrote =
    step_before facts variables (TokenedMove.opens x c fields used y) behind wrote.lines wrote.grows (λ rest. refl)
    (opens_before facts variables x c fields used y into behind may wrote)

pub step_opens_unique : {a b : Lowering} (facts : Facts) (variables x c : ℕ) (fields used : List ℕ) (y : ℕ) (into : Option ℕ)
    (behind : List TokenedMove) → ((rest : Tokened) → MayFill into y (plug_tokened behind rest))
    → WroteOpening facts.holds x fields used (variables + y) into a b
    → WroteTokenedSteps facts variables (TokenedMove.opens_unique x c fields used y ∷ []) behind a b
step_opens_unique facts variables x c fields used y into behind may wrote =
    step_before facts variables (TokenedMove.opens_unique x c fields used y) behind wrote.lines wrote.grows (λ rest. refl)
    (opens_before facts variables x c fields used y into behind may wrote)

pub step_dups : {a b : Lowering} (facts : Facts) (variables x : ℕ) → Wrote (dup_lines facts.holds x) a b
    → WroteTokenedSteps facts variables (TokenedMove.dups x ∷ []) [] a b
step_dups facts variables x wrote =
    step_alone facts variables (TokenedMove.dups x) (dup_lines facts.holds x) (grows_of wrote) (λ rest. refl)
    (λ later goal rest more high is. (more, code_same facts variables goal rest more high refl refl wrote.label is, refl))

pub step_drops : {a b : Lowering} (facts : Facts) (variables x : ℕ) → Wrote (drop_lines facts.holds x) a b
    → WroteTokenedSteps facts variables (TokenedMove.drops x ∷ []) [] a b
step_drops facts variables x wrote =
    step_alone facts variables (TokenedMove.drops x) (drop_lines facts.holds x) (grows_of wrote) (λ rest. refl)
    (λ later goal rest more high is. (more, code_same facts variables goal rest more high refl refl wrote.label is, refl))

pub step_fills : {a b : Lowering} (facts : Facts) (variables x y c first : ℕ) (arguments kept others : List ℕ)
    → WroteFill x (variables + y) (values_of_slots variables others) (header_of facts.layout c) (first ∷ arguments) kept
    (header_stands facts.standing c) (count_stands facts.standing) a b
    → WroteTokenedSteps facts variables (TokenedMove.fills x y c first arguments kept others ∷ []) [] a b
step_fills facts variables x y c first arguments kept others wrote =
    step_alone facts variables (TokenedMove.fills x y c first arguments kept others) wrote.lines wrote.grows (λ rest. refl)
    (λ later goal rest more high is.
    (wrote.lines, more, wrote.are, code_same facts variables goal rest more high refl refl wrote.label is, refl))

-- a construction in the cell of the same token, of the same words
pub fill_is : {x token token_too header header_too : ℕ} {others arguments arguments_too kept : List ℕ}
    {head head_too count count_too : Bool} {a b : Lowering} → token ≡ token_too → header ≡ header_too → arguments ≡ arguments_too
    → head ≡ head_too → count ≡ count_too → WroteFill x token others header arguments kept head count a b
    → WroteFill x token_too others header_too arguments_too kept head_too count_too a b
fill_is {x} {token} {token_too} {header} {header_too} {others} {arguments} {arguments_too} {kept} {head} {head_too} {count}
    {count_too} {a} {b} same same_header same_arguments same_head same_count wrote =
    subst (λ y. WroteFill x y others header_too arguments_too kept head_too count_too a b) same
    (subst (λ word. WroteFill x token others word arguments_too kept head_too count_too a b) same_header
    (subst (λ ys. WroteFill x token others header ys kept head_too count_too a b) same_arguments
    (subst (λ one. WroteFill x token others header arguments kept one count_too a b) same_head
    (subst (λ one. WroteFill x token others header arguments kept head one a b) same_count wrote))))

pub step_frees : {a b : Lowering} (facts : Facts) (variables y : ℕ) → Wrote (acts (Compute Free) ((variables + y) ∷ []) ∷ []) a b
    → WroteTokenedSteps facts variables (TokenedMove.frees y ∷ []) [] a b
step_frees facts variables y wrote =
    step_alone facts variables (TokenedMove.frees y) (acts (Compute Free) ((variables + y) ∷ []) ∷ []) (grows_of wrote)
    (λ rest. refl)
    (λ later goal rest more high is. (more, code_same facts variables goal rest more high refl refl wrote.label is, refl))

pub step_nulls : {a b : Lowering} (facts : Facts) (variables y : ℕ) → Wrote (sets 0 (variables + y) ∷ []) a b
    → WroteTokenedSteps facts variables (TokenedMove.nulls y ∷ []) [] a b
step_nulls facts variables y wrote =
    step_alone facts variables (TokenedMove.nulls y) (sets 0 (variables + y) ∷ []) (grows_of wrote) (λ rest. refl)
    (λ later goal rest more high is. (more, code_same facts variables goal rest more high refl refl wrote.label is, refl))

pub step_moves : {a b : Lowering} (facts : Facts) (variables to of : ℕ)
    → Wrote (copies_to (variables + of) (variables + to) ∷ []) a b
    → WroteTokenedSteps facts variables (TokenedMove.moves to of ∷ []) [] a b
step_moves facts variables to of wrote =
    step_alone facts variables (TokenedMove.moves to of) (copies_to (variables + of) (variables + to) ∷ []) (grows_of wrote)
    (λ rest. refl)
    (λ later goal rest more high is. (more, code_same facts variables goal rest more high refl refl wrote.label is, refl))

pub step_holds : {a b : Lowering} (facts : Facts) (variables y : ℕ) → Wrote (hold_line (variables + y) ∷ []) a b
    → WroteTokenedSteps facts variables (TokenedMove.holds y ∷ []) [] a b
step_holds facts variables y wrote =
    step_alone facts variables (TokenedMove.holds y) (hold_line (variables + y) ∷ []) (grows_of wrote) (λ rest. refl)
    (λ later goal rest more high is. (more, code_same facts variables goal rest more high refl refl wrote.label is, refl))

pub step_unholds : {a b : Lowering} (facts : Facts) (variables y : ℕ) → Wrote (back_line (variables + y) ∷ []) a b
    → WroteTokenedSteps facts variables (TokenedMove.unholds y ∷ []) [] a b
step_unholds facts variables y wrote =
    step_alone facts variables (TokenedMove.unholds y) (back_line (variables + y) ∷ []) (grows_of wrote) (λ rest. refl)
    (λ later goal rest more high is. (more, code_same facts variables goal rest more high refl refl wrote.label is, refl))

-- ---- forms that may ask for a cell

-- a form that is no construction asks for none
pub asks_nothing : {a b : Lowering} (facts : Facts) (variables x : ℕ) (form : Form) (arguments others : List ℕ)
    → ((c : ℕ) → form ≡ Construct c → ⊥) → WroteValue facts x form arguments a b
    → WroteAsk facts variables x form arguments others a b
asks_nothing facts variables x (Construct c) arguments others other wrote = absurd (other c refl)
asks_nothing facts variables x (Number n) arguments others other wrote = record
    { lines = wrote.lines; grows = wrote.grows; are = λ later. (wrote.are later, sym wrote.label) }
asks_nothing facts variables x Nothing arguments others other wrote = record
    { lines = wrote.lines; grows = wrote.grows; are = λ later. (wrote.are later, sym wrote.label) }
asks_nothing facts variables x ReadByte arguments others other wrote = record
    { lines = wrote.lines; grows = wrote.grows; are = λ later. (wrote.are later, sym wrote.label) }
asks_nothing facts variables x (PrintText form text) arguments others other wrote = record
    { lines = wrote.lines; grows = wrote.grows; are = λ later. (wrote.are later, sym wrote.label) }
asks_nothing facts variables x (Unary operator) arguments others other wrote = record
    { lines = wrote.lines; grows = wrote.grows; are = λ later. (wrote.are later, sym wrote.label) }
asks_nothing facts variables x (Binary operator) arguments others other wrote = record
    { lines = wrote.lines; grows = wrote.grows; are = λ later. (wrote.are later, sym wrote.label) }
asks_nothing facts variables x (Print form) arguments others other wrote = record
    { lines = wrote.lines; grows = wrote.grows; are = λ later. (wrote.are later, sym wrote.label) }
asks_nothing facts variables x (Call f) arguments others other wrote = record
    { lines = wrote.lines; grows = wrote.grows; are = λ later. (wrote.are later, sym wrote.label) }

-- a list that has no first member is empty
pub none_there : (xs : List ℕ) → (0 < length xs → ⊥) → xs ≡ []
none_there [] none = refl
none_there (x ∷ xs) none = absurd (none (omega arith))

-- a construction without fields asks for none, and one that names no other tokens holds none
pub asks_alone : {a b : Lowering} (facts : Facts) (variables x c : ℕ) (form : Form) (arguments others : List ℕ)
    → form ≡ Construct c → (arguments ≡ []) ⊎ (others ≡ []) → WroteValue facts x (Construct c) arguments a b
    → WroteAsk facts variables x form arguments others a b
asks_alone {a} {b} facts variables x c form arguments others is none wrote =
    subst (λ f. WroteAsk facts variables x f arguments others a b) (sym is)
    (by arguments others none wrote)
  where
    by : (arguments others : List ℕ) → (arguments ≡ []) ⊎ (others ≡ []) → WroteValue facts x (Construct c) arguments a b
        → WroteAsk facts variables x (Construct c) arguments others a b
    by [] others none own = record
        { lines = own.lines; grows = own.grows; are = λ later. (own.are later, sym own.label) }
    by (first ∷ arguments) [] none own = record
        { lines = own.lines; grows = own.grows; are = λ later. (own.are later, sym own.label) }
    by (first ∷ arguments) (other ∷ others) (inl none) own = absurd (cc)
    by (first ∷ arguments) (other ∷ others) (inr none) own = absurd (cc)

-- a construction that names other tokens fills the cell of a null one
pub asks_held : {a b d : Lowering} (facts : Facts) (variables x c : ℕ) (form : Form) (arguments others : List ℕ)
    → form ≡ Construct c → (arguments ≡ [] → ⊥) → (others ≡ [] → ⊥) → Wrote (sets 0 x ∷ []) a b
    → WroteFill x x (values_of_slots variables others) (header_of facts.layout c) arguments [] false false b d
    → WroteAsk facts variables x form arguments others a d
asks_held {a} {b} {d} facts variables x c form arguments others is some some_too null fill =
    subst (λ f. WroteAsk facts variables x f arguments others a d) (sym is) (by arguments others some some_too fill)
  where
    by : (arguments others : List ℕ) → (arguments ≡ [] → ⊥) → (others ≡ [] → ⊥)
        → WroteFill x x (values_of_slots variables others) (header_of facts.layout c) arguments [] false false b d
        → WroteAsk facts variables x (Construct c) arguments others a d
    by [] others some some_too fill = absurd (some refl)
    by (first ∷ arguments) [] some some_too fill = absurd (some_too refl)
    by (first ∷ arguments) (other ∷ others) some some_too fill = record {
      lines = sets 0 x ∷ fill.lines;
      grows = grows_more (omega arith) (grows_then (grows_of null) fill.grows);
      are = λ later. (
        fill.lines,
        subst (λ n. FillLines n x x (values_of_slots variables (other ∷ others)) a.next_label (header_of facts.layout c)
            (first ∷ arguments) [] false false fill.lines) null.base
            (subst (λ n. FillLines b.base x x (values_of_slots variables (other ∷ others)) n (header_of facts.layout c)
            (first ∷ arguments) [] false false fill.lines) null.label fill.are),
        refl,
        ap (λ n. n + 1) (sym null.label) ∙ sym fill.label,
      );
    }

-- ---- codes

-- Two ways: a label is taken first, a test goes there, and it stands between the code of both.
module _ {facts : Facts} {variables : ℕ} {goal : Goal} {label : ℕ} {positive negative : Tokened} {a b c d e f : Lowering}
    {test : List Line} (took : TookLabel label a b) (tested : Wrote test b c)
    (first : WroteTokened facts variables goal positive c d)
    (labelled : Wrote (acts (Label label) [] ∷ []) d e) (second : WroteTokened facts variables goal negative e f) where
  abbrev ways_lines : List Line
  ways_lines = test ++ (first.lines ++ (acts (Label label) [] ∷ second.lines))

  ways_grow : Grows (tokened_prints positive + tokened_prints negative) ways_lines a f
  ways_grow = grows_more (omega arith) (grows_then (grows_took took)
      (grows_then (grows_of tested) (grows_then first.grows (grows_then (grows_of labelled) second.grows))))

  first_way : (later : List (List ℕ))
      → CodeLines (setting_in facts a.base (texts_written f ++ later)) variables goal (label + 1) positive first.lines d.next_label
  first_way later = code_same facts variables goal positive first.lines d.next_label (tested.base ∙ took.base)
      (ap (λ (texts : List (List ℕ)). texts ++ (second.grows.more ++ later)) (sym labelled.texts)
      ∙ later_texts second.grows later)
      (tested.label ∙ took.next ∙ ap (λ (l : ℕ). l + 1) (sym took.is)) (first.are (second.grows.more ++ later))

  second_way : (later : List (List ℕ))
      → CodeLines (setting_in facts a.base (texts_written f ++ later)) variables goal d.next_label negative second.lines
      f.next_label
  second_way later = code_same facts variables goal negative second.lines f.next_label
      (labelled.base ∙ first.grows.base ∙ tested.base ∙ took.base) refl labelled.label (second.are later)

pub code_if_tokens : {facts : Facts} {variables : ℕ} {goal : Goal} {y label : ℕ} {there absent : Tokened}
    {a b c d e f : Lowering}
    → TookLabel label a b → Wrote (token_test_lines (variables + y) label) b c
    → WroteTokened facts variables goal there c d → Wrote (acts (Label label) [] ∷ []) d e
    → WroteTokened facts variables goal absent e f → WroteTokened facts variables goal (Tokened.if_token y there absent) a f
code_if_tokens {facts} {variables} {goal} {y} {label} {there} {absent} {a} {b} {c} {d} {e} {f} took test first labelled
    second = record {
      lines = ways_lines took test first labelled second;
      grows = ways_grow took test first labelled second;
      are = λ later. subst (λ (low : ℕ). CodeLines (setting_in facts a.base (texts_written f ++ later)) variables goal low
          (Tokened.if_token y there absent) (ways_lines took test first labelled second) f.next_label) took.is (
            first.lines,
            second.lines,
            d.next_label,
            first_way took test first labelled second later,
            second_way took test first labelled second later,
            refl,
          );
    }

-- ---- arms

more_arms : (setting : Setting) (variables : ℕ) (goal : Goal) (label low middle high : ℕ) (each : List Tokened) (body : Tokened)
    (lines first : List Line)
    → ArmsLines setting variables goal label low (tokened_arms each) lines middle
    → CodeLines setting variables goal middle body first high
    → ArmsLines setting variables goal label low (tokened_arms (each ++ body ∷ []))
    (lines ++ (acts (Label (label + length each)) [] ∷ first)) high
more_arms setting variables goal label low middle high [] body lines first all one = (
  first,
  [],
  high,
  subst (λ l. CodeLines setting variables goal l body first high) (sym all.1) one,
  (refl, refl),
  ap (λ (ls : List Line). ls ++ (acts (Label (label + 0)) [] ∷ first)) all.0
      ∙ ap (λ (n : ℕ). acts (Label n) [] ∷ first) (zero_more label)
      ∙ ap (λ (ls : List Line). acts (Label label) [] ∷ ls) (sym (append-nil first)),
)
  where
    zero_more : (n : ℕ) → n + 0 ≡ n
    zero_more n = omega arith
more_arms setting variables goal label low middle high (other ∷ each) body lines first all one = (
  all.0,
  all.1 ++ (acts (Label (label + 1 + length each)) [] ∷ first),
  all.2,
  all.3,
  more_arms setting variables goal (label + 1) all.2 middle high each body all.1 first all.4 one,
  ap (λ (ls : List Line). ls ++ (acts (Label (label + suc (length each))) [] ∷ first)) all.5
      ∙ ap (λ (ls : List Line). acts (Label label) [] ∷ ls) (append_assoc all.0 all.1
      (acts (Label (label + suc (length each))) [] ∷ first))
      ∙ ap (λ (n : ℕ). acts (Label label) [] ∷ (all.0 ++ (all.1 ++ (acts (Label n) [] ∷ first)))) (one_more label (length each)),
)
  where
    one_more : (n m : ℕ) → n + suc m ≡ n + 1 + m
    one_more n m = omega arith

prints_of_more : (each : List Tokened) (body : Tokened)
    → tokened_arms_prints (tokened_arms (each ++ body ∷ [])) ≡ tokened_arms_prints (tokened_arms each) + tokened_prints body
prints_of_more [] body = omega arith
prints_of_more (other ∷ each) body = omega (arith, prints_of_more each body)

pub arms_then : {a b c d : Lowering} {here : ℕ} (facts : Facts) (variables : ℕ) (goal : Goal) (label : ℕ) (each : List Tokened)
    (body : Tokened)
    → here ≡ label + length each
    → WroteTokenedArms facts variables goal label each a b → Wrote (acts (Label here) [] ∷ []) b c
    → WroteTokened facts variables goal body c d
    → WroteTokenedArms facts variables goal label (each ++ body ∷ []) a d
arms_then {a} {b} {c} {d} {here} facts variables goal label each body is wrote labelled one = record {
  lines = wrote.lines ++ (acts (Label (label + length each)) [] ∷ one.lines);
  grows = subst (λ n. Grows n (wrote.lines ++ (acts (Label (label + length each)) [] ∷ one.lines)) a d)
      (sym (prints_of_more each body))
      (grows_more (omega arith) (grows_then wrote.grows (grows_then
      (grows_of (subst (λ n. Wrote (acts (Label n) [] ∷ []) b c) is labelled)) one.grows)));
  are = λ later. more_arms (setting_in facts a.base (texts_written d ++ later)) variables goal label a.next_label b.next_label
      d.next_label each body wrote.lines one.lines
      (arms_same facts variables goal label (tokened_arms each) wrote.lines b.next_label refl
      (ap (λ (texts : List (List ℕ)). texts ++ (one.grows.more ++ later)) (sym labelled.texts) ∙ later_texts one.grows later)
      refl (wrote.are (one.grows.more ++ later)))
      (code_same facts variables goal body one.lines d.next_label (labelled.base ∙ wrote.grows.base) refl labelled.label
      (one.are later));
}

pub count_of_arms : (each : List Tokened) → arm_count (bare_arms (tokened_arms each)) ≡ length each
count_of_arms [] = refl
count_of_arms (body ∷ each) = ap suc (count_of_arms each)

-- labels are no lines
pub took_none : {a b : Lowering} {arms nodes : ℕ} {targets : Targets} → TookTargets arms nodes targets a b → Grows 0 [] a b
took_none {a} took = record {
  code = took.took.code ∙ sym (append-nil (lines_written a));
  base = took.took.base;
  more = [];
  texts = took.took.texts ∙ sym (append-nil (texts_written a));
  few = omega arith;
}

-- a case: its labels are taken first, those of its arms and then those of its nodes
pub code_cases : {a b c d : Lowering} (facts : Facts) (variables : ℕ) (goal : Goal) (x : ℕ) (decisions : List NodeTree)
    (arms : List Tokened) (targets : Targets)
    → TookTargets (length arms) (length decisions) targets a b
    → WroteLines (NodesLines facts.layout b.base targets.nodes (ways_of decisions targets.nodes targets.arms) x 0 decisions) b c
    → WroteTokenedArms facts variables goal targets.arms arms c d
    → WroteTokened facts variables goal (Tokened.case x decisions (tokened_arms arms)) a d
code_cases {a} {b} {c} {d} facts variables goal x decisions arms targets took choice bodies = record {
  lines = choice.lines ++ bodies.lines;
  grows = grows_more (omega arith) (grows_then (took_none took) (grows_then (grows_of choice.wrote) bodies.grows));
  are = λ later. (
    choice.lines,
    bodies.lines,
    targets.nodes,
    took.second ∙ ap (λ (n : ℕ). a.next_label + n) (sym (count_of_arms arms)),
    subst (λ n. NodesLines facts.layout a.base targets.nodes (ways_of decisions targets.nodes n) x 0 decisions choice.lines)
        took.first (subst (λ n. NodesLines facts.layout n targets.nodes (ways_of decisions targets.nodes targets.arms) x 0 decisions
        choice.lines) took.took.base choice.are),
    arms_same facts variables goal a.next_label (tokened_arms arms) bodies.lines d.next_label (choice.wrote.base ∙ took.took.base)
        refl low_is
        (subst (λ n. ArmsLines (setting_in facts c.base (texts_written d ++ later)) variables goal n c.next_label
        (tokened_arms arms) bodies.lines d.next_label) took.first (bodies.are later)),
    refl,
  );
}
  where
    low_is : c.next_label ≡ targets.nodes + length decisions
    low_is = omega (arith, choice.wrote.label, took.took.next, took.second)

-- ---- the steps and the end of a block of the program

pub steps_more : (steps : List TokenedStep) (i : ℕ) (step : TokenedStep) → i < length steps → get_or steps i step ≡ step
    → map tokened_move (take i steps) ++ tokened_move step ∷ [] ≡ map tokened_move (take (i + 1) steps)
steps_more steps i step within is =
    ap (λ (s : TokenedStep). map tokened_move (take i steps) ++ tokened_move s ∷ []) (sym is)
    ∙ sym (map-append tokened_move (take i steps) (get_or steps i step ∷ []))
    ∙ ap (map tokened_move) (sym (take_more steps i step within))

-- one of the steps is written behind those in front of it, before those behind it
pub steps_on : {a b c : Lowering} (facts : Facts) (variables : ℕ) (steps : List TokenedStep) (i : ℕ) (step : TokenedStep)
    → i < length steps → step ≡ get_or steps i step
    → WroteTokenedSteps facts variables (map tokened_move (take i steps)) (map tokened_move (drop i steps)) a b
    → WroteTokenedSteps facts variables (tokened_move step ∷ [])
    (map tokened_move (take (length steps - (i + 1)) (drop (i + 1) steps))) b c
    → WroteTokenedSteps facts variables (map tokened_move (take (i + 1) steps)) (map tokened_move (drop (i + 1) steps)) a c
steps_on {a} {b} {c} facts variables steps i step within is wrote one =
    let behind : List TokenedMove = map tokened_move (drop (i + 1) steps) in
    let all : take (length steps - (i + 1)) (drop (i + 1) steps) ≡ drop (i + 1) steps
    = take_all (length steps - (i + 1)) (drop (i + 1) steps) (omega (arith, length-drop (i + 1) steps)) in
    let next : map tokened_move (drop i steps) ≡ tokened_move step ∷ behind
    = ap (map tokened_move) (drop_more steps i step within) ∙ ap (λ (s : TokenedStep). tokened_move s ∷ behind) (sym is) in
    subst (λ (moves : List TokenedMove). WroteTokenedSteps facts variables moves behind a c) (steps_more steps i step within (sym
    is))
    (steps_then facts variables (map tokened_move (take i steps)) (tokened_move step) behind
    (subst (λ (moves : List TokenedMove). WroteTokenedSteps facts variables (map tokened_move (take i steps)) moves a b) next wrote)
    (subst (λ (rest : List TokenedStep). WroteTokenedSteps facts variables (tokened_move step ∷ []) (map tokened_move rest) b c) all
    one))

pub blocks_more : (blocks : List TokenedBlock) (i : ℕ) (block : TokenedBlock) → i < length blocks → get_or blocks i block ≡ block
    → map tokened_code (take i blocks) ++ tokened_code block ∷ [] ≡ map tokened_code (take (i + 1) blocks)
blocks_more blocks i block within is =
    ap (λ (b : TokenedBlock). map tokened_code (take i blocks) ++ tokened_code b ∷ []) (sym is)
    ∙ sym (map-append tokened_code (take i blocks) (get_or blocks i block ∷ []))
    ∙ ap (map tokened_code) (sym (take_more blocks i block within))

pub code_of_if_token : (last : TokenedLast) (y : ℕ) (p n : _) (there absent : TokenedBlock) → last ≡ OfLast.IfToken y p n
    → there ≡ p.value → absent ≡ n.value
    → Tokened.if_token y (tokened_code there) (tokened_code absent) ≡ tokened_last_code last
code_of_if_token last y p n there absent is first second =
    ap (λ (b : TokenedBlock). Tokened.if_token y (tokened_code b) (tokened_code absent)) first
    ∙ ap (λ (b : TokenedBlock). Tokened.if_token y (tokened_code p.value) (tokened_code b)) second
    ∙ sym (Views.if_token_end y p n) ∙ ap tokened_last_code (sym is)

pub cases_written : {a b c d : Lowering} (facts : Facts) (variables : ℕ) (goal : Goal) (last : TokenedLast) (x : ℕ)
    (decisions : Decisions) (arms : _) (targets : Targets) (nodes : List Node) (second : List TokenedBlock) (count : ℕ)
    → last ≡ OfLast.Case x decisions arms → nodes ≡ decisions.nodes.items
    → second ≡ arms.items → count ≡ length arms.items
    → TookTargets count (length decisions.nodes.items) targets a b
    → WroteLines (NodesLines facts.layout b.base targets.nodes (ways_of (map node_tree nodes) targets.nodes targets.arms) x 0
    (map node_tree nodes)) b c
    → WroteTokenedArms facts variables goal targets.arms (map tokened_code second) c d
    → WroteTokened facts variables goal (tokened_last_code last) a d
cases_written {a} {b} {c} {d} facts variables goal last x decisions arms targets nodes second count is nodes_is second_is
    count_is took choice bodies =
    subst (λ (code : Tokened). WroteTokened facts variables goal code a d)
    (sym (Views.case_end x decisions arms) ∙ ap tokened_last_code (sym is))
    (code_cases facts variables goal x (decisions_of decisions) (map tokened_code arms.items) targets
    (subst (λ n. TookTargets n (length (decisions_of decisions)) targets a b)
    (count_is ∙ sym (length-map arms.items tokened_code))
    (subst (λ n. TookTargets count n targets a b) (sym (length-map decisions.nodes.items node_tree)) took))
    (subst (λ ns. WroteLines (NodesLines facts.layout b.base targets.nodes
    (ways_of (map node_tree ns) targets.nodes targets.arms) x 0 (map node_tree ns)) b c) nodes_is choice)
    (subst (λ bs. WroteTokenedArms facts variables goal targets.arms (map tokened_code bs) c d) second_is bodies))

step_is : (step : TokenedStep) (same : TokenedStep) (move : TokenedMove) → step ≡ same → tokened_move same ≡ move
    → move ≡ tokened_move step
step_is step same move is of = sym of ∙ ap tokened_move (sym is)

pub step_of_let : (step : TokenedStep) (x : ℕ) (form : Form) (arguments others : _) (given named : List ℕ)
    → step ≡ OfStep.Let x form arguments others → given ≡ arguments.items → named ≡ others.items
    → TokenedMove.computes x form given named ≡ tokened_move step
step_of_let step x form arguments others given named is same same_too =
    ap (λ (xs : List ℕ). TokenedMove.computes x form xs named) same
    ∙ ap (λ (ys : List ℕ). TokenedMove.computes x form arguments.items ys) same_too
    ∙ step_is step _ _ is (Views.let_step x form arguments others)

pub step_of_inside : (step : TokenedStep) (x : ℕ) (block : TokenedBlock) → step ≡ OfStep.Inside x block
    → TokenedMove.runs x (tokened_code block) ≡ tokened_move step
step_of_inside step x block is = step_is step _ _ is (Views.inside_step x block)

pub step_of_read : (step : TokenedStep) (x c : ℕ) (fields : _) (taken : List ℕ) → step ≡ OfStep.Read x c fields
    → taken ≡ fields.items → TokenedMove.reads x c taken ≡ tokened_move step
step_of_read step x c fields taken is same =
    ap (λ (xs : List ℕ). TokenedMove.reads x c xs) same ∙ step_is step _ _ is (Views.read_step x c fields)

pub step_of_open : (step : TokenedStep) (x c : ℕ) (fields used : _) (y : ℕ) (taken kept : List ℕ)
    → step ≡ OfStep.Open x c fields used y → taken ≡ fields.items → kept ≡ used.items
    → TokenedMove.opens x c taken kept y ≡ tokened_move step
step_of_open step x c fields used y taken kept is same same_too =
    ap (λ (xs : List ℕ). TokenedMove.opens x c xs kept y) same
    ∙ ap (λ (xs : List ℕ). TokenedMove.opens x c fields.items xs y) same_too
    ∙ step_is step _ _ is (Views.open_step x c fields used y)

pub step_of_unique : (step : TokenedStep) (x c : ℕ) (fields used : _) (y : ℕ) (taken kept : List ℕ)
    → step ≡ OfStep.IfUnique x c fields used y → taken ≡ fields.items → kept ≡ used.items
    → TokenedMove.opens_unique x c taken kept y ≡ tokened_move step
step_of_unique step x c fields used y taken kept is same same_too =
    ap (λ (xs : List ℕ). TokenedMove.opens_unique x c xs kept y) same
    ∙ ap (λ (xs : List ℕ). TokenedMove.opens_unique x c fields.items xs y) same_too
    ∙ step_is step _ _ is (Views.if_unique_step x c fields used y)

pub step_of_dup : (step : TokenedStep) (x : ℕ) → step ≡ OfStep.Dup x → TokenedMove.dups x ≡ tokened_move step
step_of_dup step x is = step_is step _ _ is (Views.dup_step x)

pub step_of_drop : (step : TokenedStep) (x : ℕ) → step ≡ OfStep.Drop x → TokenedMove.drops x ≡ tokened_move step
step_of_drop step x is = step_is step _ _ is (Views.drop_step x)

pub step_of_fill : (step : TokenedStep) (x y c first : ℕ) (arguments kept others : _) (given left named : List ℕ)
    → step ≡ OfStep.Fill x y c first arguments kept others → given ≡ arguments.items → left ≡ kept.items → named ≡ others.items
    → TokenedMove.fills x y c first given left named ≡ tokened_move step
step_of_fill step x y c first arguments kept others given left named is same same_left same_too =
    ap (λ (xs : List ℕ). TokenedMove.fills x y c first xs left named) same
    ∙ ap (λ (zs : List ℕ). TokenedMove.fills x y c first arguments.items zs named) same_left
    ∙ ap (λ (ys : List ℕ). TokenedMove.fills x y c first arguments.items kept.items ys) same_too
    ∙ step_is step _ _ is (Views.fill_step x y c first arguments kept others)

pub step_of_free : (step : TokenedStep) (y : ℕ) → step ≡ OfStep.Free y → TokenedMove.frees y ≡ tokened_move step
step_of_free step y is = step_is step _ _ is (Views.free_step y)

pub step_of_null : (step : TokenedStep) (y : ℕ) → step ≡ OfStep.Null y → TokenedMove.nulls y ≡ tokened_move step
step_of_null step y is = step_is step _ _ is (Views.null_step y)

pub step_of_move : (step : TokenedStep) (to of : ℕ) → step ≡ OfStep.Move to of → TokenedMove.moves to of ≡ tokened_move step
step_of_move step to of is = step_is step _ _ is (Views.move_step to of)

pub step_of_hold : (step : TokenedStep) (y : ℕ) → step ≡ OfStep.Hold y → TokenedMove.holds y ≡ tokened_move step
step_of_hold step y is = step_is step _ _ is (Views.hold_step y)

pub step_of_unhold : (step : TokenedStep) (y : ℕ) → step ≡ OfStep.Unhold y → TokenedMove.unholds y ≡ tokened_move step
step_of_unhold step y is = step_is step _ _ is (Views.unhold_step y)

-- what is written before any code is written before any steps
pub steps_before : {facts : Facts} {variables : ℕ} {moves : List TokenedMove} {a b : Lowering} (behind : List TokenedMove)
    → WroteTokenedSteps facts variables moves [] a b → WroteTokenedSteps facts variables moves behind a b
steps_before behind wrote = record {
  lines = wrote.lines;
  n = wrote.n;
  grows = wrote.grows;
  counted = wrote.counted;
  are = λ later goal rest more high is. wrote.are later goal (plug_tokened behind rest) more high is;
}

-- the lines of a step of the program, before these steps and before any
pub step_wrote_before : {facts : Facts} {variables : ℕ} {move : TokenedMove} {behind : List TokenedMove} {a b : Lowering}
    (step : TokenedStep) → move ≡ tokened_move step → WroteTokenedSteps facts variables (move ∷ []) behind a b
    → WroteTokenedSteps facts variables (tokened_move step ∷ []) behind a b
step_wrote_before {facts} {variables} {move} {behind} {a} {b} step is wrote =
    subst (λ (m : TokenedMove). WroteTokenedSteps facts variables (m ∷ []) behind a b) is wrote

pub step_wrote : {facts : Facts} {variables : ℕ} {move : TokenedMove} {behind : List TokenedMove} {a b : Lowering}
    (step : TokenedStep) → move ≡ tokened_move step → WroteTokenedSteps facts variables (move ∷ []) [] a b
    → WroteTokenedSteps facts variables (tokened_move step ∷ []) behind a b
step_wrote {behind = behind} step is wrote = steps_before behind (step_wrote_before step is wrote)
