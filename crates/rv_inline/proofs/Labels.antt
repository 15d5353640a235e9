-- Labels of code with calls in line, and its functions.
use Rattle.std.proofs.Common.{◌≡◌, ℕ, zero, suc, List, [], ◌∷◌, ◌++◌, Option, Some, Bool, true, false, cond, map}
use Rattle.std.proofs.Common.{length, slice_get, refl, ◌∙◌, subst}
use Rattle.rv_isa.specs.declared.asm.Action.{Action}
use Rattle.rv_isa.specs.declared.asm.Action.TheVariants.{Compute, Label, Jump, Branch, Call, TailCall, Return, Routine, Hold}
use Rattle.rv_isa.specs.declared.asm.Action.TheVariants.{Unhold, Room}
use Rattle.rv_isa.specs.AsmCode.{Line, Lines}
use Rattle.rv_isa.specs.AsmMachine.{is_label}
use Rattle.rv_isa.specs.Frames.{found}
use Rattle.rv_isa.specs.ValueBounds.{AreLinesBelow}
use Rattle.rv_inline.specs.InLine.{computes, AreComputing, named, named_line, copy, IsLeafCall, lines_for, IsInLine, HaveInLine}
use Rattle.rv_inline.proofs.FrameValues.{same_some}

-- ---- labels

abbrev pub marks : ℕ → Line → Bool
marks l line = is_label l line.action

pub computes_no_label : (l : ℕ) (action : Action) → computes action ≡ true → is_label l action ≡ false
computes_no_label l (Compute operation) is = refl
computes_no_label l (Label k) is = cc is
computes_no_label l (Jump k) is = cc is
computes_no_label l (Branch condition k) is = cc is
computes_no_label l (Call g) is = cc is
computes_no_label l (TailCall g) is = cc is
computes_no_label l Return is = cc is
computes_no_label l (Routine routine) is = cc is
computes_no_label l Hold is = cc is
computes_no_label l Unhold is = cc is
computes_no_label l Room is = cc is

-- a line that is not marked is passed
pub passed_by : (here : Bool) (o o' : Option (List Line)) → here ≡ false → cond here o o' ≡ o'
passed_by true o o' is = cc is
passed_by false o o' is = refl

-- no label stands in a leaf
pub behind_leaf : (l base count : ℕ) (args : List ℕ) (body after : List Line) → AreComputing count body
    → found (marks l) (map (named_line base args) body ++ after) ≡ found (marks l) after
behind_leaf l base count args [] after computing = refl
behind_leaf l base count args (line ∷ body) after computing =
    passed_by (marks l line) (Some (map (named_line base args) (line ∷ body) ++ after))
    (found (marks l) (map (named_line base args) body ++ after)) (computes_no_label l line.action computing.0.0)
    ∙ behind_leaf l base count args body after computing.1

pub behind_call : (q : List Lines) (l base : ℕ) (line : Line) (call : IsLeafCall q base line) (rest : List Line)
    → found (marks l) (lines_for line call rest) ≡ found (marks l) rest
behind_call q l base line call rest =
    behind_leaf l base (length call.leaf.params) line.args call.body (copy (named base line.args call.value) call.into ∷ rest)
    call.is_leaf.computing

-- what is left at a label names no more values
pub found_below : (l base : ℕ) (code left : List Line) → AreLinesBelow base code → found (marks l) code ≡ Some left
    → AreLinesBelow base left
found_below l base [] left below at = cc at
found_below l base (line ∷ code) left below at = by (marks l line) at (found_below l base code left below.1)
  where
    by : (here : Bool) → cond here (Some (line ∷ code)) (found (marks l) code) ≡ Some left
        → (found (marks l) code ≡ Some left → AreLinesBelow base left) → AreLinesBelow base left
    by true at later = subst (AreLinesBelow base) (same_some (line ∷ code) left at) below
    by false at later = later at

-- ---- functions

callee_from : (functions olds news : List Lines) (g : ℕ) (callee : Lines) → HaveInLine functions olds news
    → slice_get olds g ≡ Some callee
    → (callee' : Lines) × ((slice_get news g ≡ Some callee') × ((base : ℕ) × IsInLine functions base callee callee'))
callee_from functions [] news g callee all is = cc is
callee_from functions (old ∷ olds) [] g callee all is = absurd all
callee_from functions (old ∷ olds) (new ∷ news) zero callee all is =
    let same : old ≡ callee = same_some old callee is in
    (new, (refl, subst (λ (c : Lines). (base : ℕ) × IsInLine functions base c new) same all.0))
callee_from functions (old ∷ olds) (new ∷ news) (suc g) callee all is = callee_from functions olds news g callee all.1 is

-- a function that is called is there in both
pub callee_both : (q q' : List Lines) (g : ℕ) (callee : Lines) → HaveInLine q q q' → slice_get q g ≡ Some callee
    → (callee' : Lines) × ((slice_get q' g ≡ Some callee') × ((base : ℕ) × IsInLine q base callee callee'))
callee_both q q' g callee all is = callee_from q q q' g callee all is
