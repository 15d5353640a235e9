-- What was written of forms, and the nodes of decisions one after the other.
use Rattle.std.proofs.Common.{◌≡◌, ℕ, ◌+◌, ◌<◌, List, [], ◌∷◌, ◌++◌, length, map, take, get_or, Option, refl, sym, ap, ◌∙◌, arith}
use Rattle.std.proofs.lemmas.List.{length-map, length-take-le, map-append, take_more}
use Rattle.kk_syntax.specs.declared.program.Form.{Form}
use Rattle.kk_syntax.specs.declared.program.Form.TheVariants.{
  Number,
  Unit as Nothing,
  ReadByte,
  PrintText,
  Unary,
  Binary,
  Print,
  Construct,
  Call,
}
use Rattle.kk_core.specs.Decisions.{node_tree, tests}
use Rattle.kk_core.specs.declared.decisions.Edge.{Edge}
use Rattle.kk_core.specs.declared.decisions.Node.{Node}
use Rattle.kk_core.specs.declared.decisions.Node.TheVariants.{Test}
use Rattle.rv_lower.specs.declared.lowering.Lowering.{Lowering}
use Rattle.rv_lower.specs.Written.{WroteForm}
use Rattle.rv_tokens.specs.Written.{Facts, WroteValue}

-- a form that is no construction
pub value_of_form : {a b : Lowering} (facts : Facts) (x : ℕ) (form : Form) (arguments : List ℕ) → ((c : ℕ) → form ≡ Construct c → ⊥)
    → WroteForm facts.literals x form arguments a b → WroteValue facts x form arguments a b
value_of_form facts x (Construct c) arguments other wrote = absurd (other c refl)
value_of_form facts x (Number n) arguments other wrote = record
    { lines = wrote.lines; grows = wrote.grows; label = wrote.label; are = wrote.are }
value_of_form facts x Nothing arguments other wrote = record
    { lines = wrote.lines; grows = wrote.grows; label = wrote.label; are = wrote.are }
value_of_form facts x ReadByte arguments other wrote = record
    { lines = wrote.lines; grows = wrote.grows; label = wrote.label; are = wrote.are }
value_of_form facts x (PrintText form text) arguments other wrote = record
    { lines = wrote.lines; grows = wrote.grows; label = wrote.label; are = wrote.are }
value_of_form facts x (Unary operator) arguments other wrote = record
    { lines = wrote.lines; grows = wrote.grows; label = wrote.label; are = wrote.are }
value_of_form facts x (Binary operator) arguments other wrote = record
    { lines = wrote.lines; grows = wrote.grows; label = wrote.label; are = wrote.are }
value_of_form facts x (Print form) arguments other wrote = record
    { lines = wrote.lines; grows = wrote.grows; label = wrote.label; are = wrote.are }
value_of_form facts x (Call f) arguments other wrote = record
    { lines = wrote.lines; grows = wrote.grows; label = wrote.label; are = wrote.are }

-- ---- nodes

pub nodes_taken : (nodes : List Node) (i : ℕ) (node : Node) → i < length nodes → get_or nodes i node ≡ node
    → map node_tree (take i nodes) ++ node_tree node ∷ [] ≡ map node_tree (take (i + 1) nodes)
nodes_taken nodes i node within is =
    ap (λ (n : Node). map node_tree (take i nodes) ++ node_tree n ∷ []) (sym is)
    ∙ sym (map-append node_tree (take i nodes) (get_or nodes i node ∷ []))
    ∙ ap (map node_tree) (sym (take_more nodes i node within))

pub length_mapped : {A B : Type 0} (f : A → B) (xs : List A) (n : ℕ) → n < length xs → length (map f (take n xs)) ≡ n
length_mapped f xs n less = length-map (take n xs) f ∙ length-take-le n xs (omega (arith, less))

pub node_is : (node : Node) (at edges : _) (otherwise : Option ℕ) (way : List ℕ) (tested : List Edge)
    → node ≡ Test at edges otherwise → way ≡ at.items
    → tested ≡ edges.items → tests way tested otherwise ≡ node_tree node
node_is node at edges otherwise way tested is first second =
    ap (λ w. tests w tested otherwise) first ∙ ap (λ es. tests at.items es otherwise) second ∙ ap node_tree (sym is)
