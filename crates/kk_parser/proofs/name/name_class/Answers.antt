use Rattle.std.proofs.Common.{◌≡◌, ℕ, true, false, List, [], ◌∷◌, ◌++◌, bytes_eq, sym, ◌∙◌, refl}
use Rattle.kk_parser.specs.Classes.{Word, print, println, main, total, div, exn, console, word, type_variable, other, spelling_of, has_variable_shape, class_among}
use Rattle.kk_parser.proofs.name.name_class.Goals as goal

-- a spelling is none of some words
abbrev Others : List Word → List ℕ → Type 0
Others [] spelling = Unit {0}
Others (w ∷ ws) spelling = (bytes_eq spelling (spelling_of w) ≡ false) × Others ws spelling

-- a spelling is a word behind others
found : (others : List Word) (w : Word) (ws : List Word) (spelling : List ℕ) → Others others spelling → bytes_eq spelling (spelling_of w) ≡ true → word w ≡ class_among (others ++ w ∷ ws) spelling
found [] w ws spelling h e = rw e refl
found (v ∷ others) w ws spelling h e = rw h.0 (found others w ws spelling h.1 e)

-- it is no word, and has the shape of a type variable, or another
shaped : (others : List Word) (spelling : List ℕ) → Others others spelling → has_variable_shape spelling ≡ true → type_variable ≡ class_among others spelling
shaped [] spelling h e = rw e refl
shaped (v ∷ others) spelling h e = rw h.0 (shaped others spelling h.1 e)

unshaped : (others : List Word) (spelling : List ℕ) → Others others spelling → has_variable_shape spelling ≡ false → other ≡ class_among others spelling
unshaped [] spelling h e = rw e refl
unshaped (v ∷ others) spelling h e = rw h.0 (unshaped others spelling h.1 e)

pub returns-then-eq : goal.returns-then-eq
returns-then-eq c = found [] print (println ∷ main ∷ total ∷ div ∷ exn ∷ console ∷ []) c.args.name.now tt (sym c.eq.ensures ∙ c.if-eq.true)

pub returns-then-eq-2 : goal.returns-then-eq-2
returns-then-eq-2 c = found (print ∷ []) println (main ∷ total ∷ div ∷ exn ∷ console ∷ []) c.args.name.now (sym c.eq.ensures ∙ c.if-eq.false, tt) (sym c.eq-2.ensures ∙ c.if-eq-2.true)

pub returns-then-eq-3 : goal.returns-then-eq-3
returns-then-eq-3 c = found (print ∷ println ∷ []) main (total ∷ div ∷ exn ∷ console ∷ []) c.args.name.now (sym c.eq.ensures ∙ c.if-eq.false, (sym c.eq-2.ensures ∙ c.if-eq-2.false, tt)) (sym c.eq-3.ensures ∙ c.if-eq-3.true)

pub returns-then-eq-4 : goal.returns-then-eq-4
returns-then-eq-4 c = found (print ∷ println ∷ main ∷ []) total (div ∷ exn ∷ console ∷ []) c.args.name.now (sym c.eq.ensures ∙ c.if-eq.false, (sym c.eq-2.ensures ∙ c.if-eq-2.false, (sym c.eq-3.ensures ∙ c.if-eq-3.false, tt))) (sym c.eq-4.ensures ∙ c.if-eq-4.true)

pub returns-then-eq-5 : goal.returns-then-eq-5
returns-then-eq-5 c = found (print ∷ println ∷ main ∷ total ∷ []) div (exn ∷ console ∷ []) c.args.name.now (sym c.eq.ensures ∙ c.if-eq.false, (sym c.eq-2.ensures ∙ c.if-eq-2.false, (sym c.eq-3.ensures ∙ c.if-eq-3.false, (sym c.eq-4.ensures ∙ c.if-eq-4.false, tt)))) (sym c.eq-5.ensures ∙ c.if-eq-5.true)

pub returns-then-eq-6 : goal.returns-then-eq-6
returns-then-eq-6 c = found (print ∷ println ∷ main ∷ total ∷ div ∷ []) exn (console ∷ []) c.args.name.now (sym c.eq.ensures ∙ c.if-eq.false, (sym c.eq-2.ensures ∙ c.if-eq-2.false, (sym c.eq-3.ensures ∙ c.if-eq-3.false, (sym c.eq-4.ensures ∙ c.if-eq-4.false, (sym c.eq-5.ensures ∙ c.if-eq-5.false, tt))))) (sym c.eq-6.ensures ∙ c.if-eq-6.true)

pub returns-then-eq-7 : goal.returns-then-eq-7
returns-then-eq-7 c = found (print ∷ println ∷ main ∷ total ∷ div ∷ exn ∷ []) console [] c.args.name.now (sym c.eq.ensures ∙ c.if-eq.false, (sym c.eq-2.ensures ∙ c.if-eq-2.false, (sym c.eq-3.ensures ∙ c.if-eq-3.false, (sym c.eq-4.ensures ∙ c.if-eq-4.false, (sym c.eq-5.ensures ∙ c.if-eq-5.false, (sym c.eq-6.ensures ∙ c.if-eq-6.false, tt)))))) (sym c.eq-7.ensures ∙ c.if-eq-7.true)

pub returns-then-has_variable_shape : goal.returns-then-has_variable_shape
returns-then-has_variable_shape c = shaped (print ∷ println ∷ main ∷ total ∷ div ∷ exn ∷ console ∷ []) c.args.name.now (sym c.eq.ensures ∙ c.if-eq.false, (sym c.eq-2.ensures ∙ c.if-eq-2.false, (sym c.eq-3.ensures ∙ c.if-eq-3.false, (sym c.eq-4.ensures ∙ c.if-eq-4.false, (sym c.eq-5.ensures ∙ c.if-eq-5.false, (sym c.eq-6.ensures ∙ c.if-eq-6.false, (sym c.eq-7.ensures ∙ c.if-eq-7.false, tt))))))) (sym c.has_variable_shape.ensures ∙ c.if-has_variable_shape.true)

pub returns : goal.returns
returns c = unshaped (print ∷ println ∷ main ∷ total ∷ div ∷ exn ∷ console ∷ []) c.args.name.now (sym c.eq.ensures ∙ c.if-eq.false, (sym c.eq-2.ensures ∙ c.if-eq-2.false, (sym c.eq-3.ensures ∙ c.if-eq-3.false, (sym c.eq-4.ensures ∙ c.if-eq-4.false, (sym c.eq-5.ensures ∙ c.if-eq-5.false, (sym c.eq-6.ensures ∙ c.if-eq-6.false, (sym c.eq-7.ensures ∙ c.if-eq-7.false, tt))))))) (sym c.has_variable_shape.ensures ∙ c.if-has_variable_shape.false)
