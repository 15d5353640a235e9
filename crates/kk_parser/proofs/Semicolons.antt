-- What is told apart by semicolons, in the two forms in which the grammars have it.
use Rattle.std.proofs.Common.{◌≡◌, ℕ, List, [], ◌∷◌, ◌++◌, map, Some, None, refl, ap, ◌∙◌, subst}
use Rattle.kk_syntax.specs.declared.token.Symbol.TheVariants.{Semicolon}
use Rattle.kk_syntax.specs.declared.tree.SurfaceBinder.TheVariants.{Nothing}
use Rattle.kk_syntax.specs.Surface.{Written, WrittenStatement, block_of, sequence}
use Rattle.kk_parser.specs.Kinds.{symbol}
use Rattle.kk_parser.specs.Phrases.{Grammar, Phrase, token, ◌▸◌, many, rule, stmt, expr, PhraseValue}
use Rattle.kk_parser.specs.Grammar.{semicolons, some_semicolons, binder_of, program_grammar}
use Rattle.kk_parser.specs.Forms.{form_grammar, and_more, those_given, binding, items, bindings_of, as_statement, block_from}
use Rattle.kk_parser.specs.Spells.{Marked, Spells, by_both, by_first, by_second, by_none, by_more, by_absence, by_presence, by_rule}

module _ (grammar : Grammar) where
  -- some phrases, each behind a semicolon of its own or not, say these
  pub record Loose (a : Phrase) (n : ℕ) (xs : List (PhraseValue a)) (m : ℕ) (ts us : List Marked) : Type 0 where
    pub more : PhraseValue (and_more a)
    pub same : those_given more ≡ xs
    pub spells : Spells grammar (and_more a) n more m ts us

  -- the same, with all semicolons before each phrase together, and those behind the last
  pub record Grouped (a : Phrase) (n : ℕ) (xs : List (PhraseValue a)) (m : ℕ) (ts us : List Marked) : Type 0 where
    pub groups : PhraseValue (many (some_semicolons ▸ a))
    pub same : map (λ g. g.1) groups ≡ xs
    pub levels : ℕ
    pub rest : List Marked
    pub spells : Spells grammar (many (some_semicolons ▸ a)) n groups levels ts rest
    pub last : PhraseValue semicolons
    pub ends : Spells grammar semicolons levels last m rest us

  semicolons_alone : (a : Phrase) {n m : ℕ} {s : PhraseValue semicolons} {ts us : List Marked} → Spells grammar semicolons n s m ts us → Loose a n [] m ts us
  semicolons_alone a by_none = record { more = []; same = refl; spells = by_none }
  semicolons_alone a (by_more r s) =
      let l = semicolons_alone a s in
      record { more = (tt, None) ∷ l.more; same = l.same; spells = by_more (by_both r by_absence) l.spells }

  one_group : (a : Phrase) {n i j k m : ℕ} {u : Unit {0}} {s : PhraseValue semicolons} {x : PhraseValue a} {xs : List (PhraseValue a)} {ts us vs ws zs : List Marked}
      → Spells grammar (token (symbol Semicolon)) n u i ts us → Spells grammar semicolons i s j us vs → Spells grammar a j x k vs ws → Loose a k xs m ws zs → Loose a n (x ∷ xs) m ts zs
  one_group a {x = x} t by_none r l = record { more = (tt, Some x) ∷ l.more; same = ap (λ ys. x ∷ ys) l.same; spells = by_more (by_both t (by_presence r)) l.spells }
  one_group a t (by_more t' s) r l =
      let k = one_group a t' s r l in
      record { more = (tt, None) ∷ k.more; same = k.same; spells = by_more (by_both t by_absence) k.spells }

  -- semicolons let go
  pub loose : (a : Phrase) {n k m : ℕ} {gs : PhraseValue (many (some_semicolons ▸ a))} {s : PhraseValue semicolons} {ts us ws : List Marked}
      → Spells grammar (many (some_semicolons ▸ a)) n gs k ts us → Spells grammar semicolons k s m us ws → Loose a n (map (λ g. g.1) gs) m ts ws
  loose a by_none s = semicolons_alone a s
  loose a (by_more (by_both (by_both t g) r) rs) s = one_group a t g r (loose a rs s)

  regrouped : (a : Phrase) {n i k m : ℕ} {u : Unit {0}} {gs : PhraseValue (many (some_semicolons ▸ a))} {s : PhraseValue semicolons} {ts us vs ws : List Marked}
      → Spells grammar (token (symbol Semicolon)) n u i ts us → Spells grammar (many (some_semicolons ▸ a)) i gs k us vs → Spells grammar semicolons k s m vs ws → Grouped a n (map (λ g. g.1) gs) m ts ws
  regrouped a {s = s} {vs = vs} t by_none e = record { groups = []; same = refl; levels = _; rest = _; spells = by_none; last = tt ∷ s; ends = by_more t e }
  regrouped a {k = k} {s = s} {vs = vs} t (by_more {vs = gs} (by_both {v = x} (by_both {u = t'} {v = g} r' r) q) rs) e = record {
    groups = ((tt, tt ∷ g), x) ∷ gs;
    same = refl;
    levels = k;
    rest = vs;
    spells = by_more (by_both (by_both t (by_more r' r)) q) rs;
    last = s;
    ends = e;
  }

  one_regrouped : (a : Phrase) {n i k m : ℕ} {u : Unit {0}} {x : PhraseValue a} {xs : List (PhraseValue a)} {ts us vs ws : List Marked}
      → Spells grammar (token (symbol Semicolon)) n u i ts us → Spells grammar a i x k us vs → Grouped a k xs m vs ws → Grouped a n (x ∷ xs) m ts ws
  one_regrouped a {x = x} t r g = record {
    groups = ((tt, []), x) ∷ g.groups;
    same = ap (λ ys. x ∷ ys) g.same;
    levels = g.levels;
    rest = g.rest;
    spells = by_more (by_both (by_both t by_none) r) g.spells;
    last = g.last;
    ends = g.ends;
  }

  none_regrouped : (a : Phrase) {n i m : ℕ} {u : Unit {0}} {xs : List (PhraseValue a)} {ts us ws : List Marked}
      → Spells grammar (token (symbol Semicolon)) n u i ts us → Grouped a i xs m us ws → Grouped a n xs m ts ws
  none_regrouped a {n} {i} {m} {u} {xs} {ts} {us} {ws} t g = subst (λ ys. Grouped a n ys m ts ws) g.same (regrouped a t g.spells g.ends)

  -- semicolons gathered
  pub grouped : (a : Phrase) {n m : ℕ} {more : PhraseValue (and_more a)} {ts us : List Marked} → Spells grammar (and_more a) n more m ts us → Grouped a n (those_given more) m ts us
  grouped a by_none = record { groups = []; same = refl; levels = _; rest = _; spells = by_none; last = []; ends = by_none }
  grouped a (by_more (by_both t by_absence) rs) = none_regrouped a t (grouped a rs)
  grouped a (by_more (by_both t (by_presence r)) rs) = one_regrouped a t r (grouped a rs)

-- the statements of a block and the expression behind them mean a term
pub record Statements (n : ℕ) (t : Written) (m : ℕ) (ts us : List Marked) : Type 0 where
  pub statements : PhraseValue (many (rule stmt ▸ some_semicolons))
  pub value : Written
  pub same : block_of (map (λ s. s.0) statements) value ≡ t
  pub levels : ℕ
  pub rest : List Marked
  pub spells : Spells program_grammar (many (rule stmt ▸ some_semicolons)) n statements levels ts rest
  pub ends : Spells program_grammar (rule expr) levels value m rest us

-- the same by items
pub record Items (n : ℕ) (t : Written) (m : ℕ) (ts us : List Marked) : Type 0 where
  pub first : PhraseValue items
  pub more : PhraseValue (many (some_semicolons ▸ items))
  pub same : block_from first (map (λ g. g.1) more) ≡ t
  pub levels : ℕ
  pub rest : List Marked
  pub spells : Spells form_grammar items n first levels ts rest
  pub ends : Spells form_grammar (many (some_semicolons ▸ items)) levels more m rest us

-- one more statement that binds before some items
bound_first : (b : PhraseValue binding) (g : PhraseValue some_semicolons) (first : PhraseValue items) (more : List (PhraseValue items)) → block_from ((b, g) ∷ first.0, first.1) more ≡ sequence (binder_of b.1.0) b.1.1.1 (block_from first more)
bound_first b g first [] = refl
bound_first b g first (next ∷ more) = refl

bound_items : {n i k m : ℕ} {b : PhraseValue binding} {g : PhraseValue some_semicolons} {first : PhraseValue items} {ts us vs ws : List Marked}
    → Spells form_grammar binding n b i ts us → Spells form_grammar some_semicolons i g k us vs → Spells form_grammar items k first m vs ws → Spells form_grammar items n ((b, g) ∷ first.0, first.1) m ts ws
bound_items r g (by_both bs e) = by_both (by_more (by_both r g) bs) e

statement_first : {n i j m : ℕ} {s : WrittenStatement} {g : PhraseValue some_semicolons} {t : Written} {ts us vs ws : List Marked}
    → Spells form_grammar (rule stmt) n s i ts us → Spells form_grammar some_semicolons i g j us vs → Items j t m vs ws → Items n (sequence s.binder s.value t) m ts ws
statement_first {g = g'} (by_rule (by_first {v = b} r)) g c = record {
  first = ((b, g') ∷ c.first.0, c.first.1);
  more = c.more;
  same = bound_first b g' c.first (map (λ x. x.1) c.more) ∙ ap (λ t. sequence (binder_of b.1.0) b.1.1.1 t) c.same;
  levels = c.levels;
  rest = c.rest;
  spells = bound_items r g c.spells;
  ends = c.ends;
}
statement_first {g = g'} (by_rule (by_second {v = value} r)) g c = record {
  first = ([], value);
  more = (g', c.first) ∷ c.more;
  same = ap (λ t. sequence Nothing value t) c.same;
  levels = _;
  rest = _;
  spells = by_both by_none r;
  ends = by_more (by_both g c.spells) c.ends;
}

-- the items of statements
pub gathered : {n k m : ℕ} {ss : PhraseValue (many (rule stmt ▸ some_semicolons))} {value : Written} {ts us ws : List Marked}
    → Spells form_grammar (many (rule stmt ▸ some_semicolons)) n ss k ts us → Spells form_grammar (rule expr) k value m us ws → Items n (block_of (map (λ s. s.0) ss) value) m ts ws
gathered {value = value} by_none e = record { first = ([], value); more = []; same = refl; levels = _; rest = _; spells = by_both by_none e; ends = by_none }
gathered (by_more (by_both r g) rs) e = statement_first r g (gathered rs e)

first_statement : {n i j m : ℕ} {s : WrittenStatement} {g : PhraseValue some_semicolons} {t : Written} {ts us vs ws : List Marked}
    → Spells program_grammar (rule stmt) n s i ts us → Spells program_grammar some_semicolons i g j us vs → Statements j t m vs ws → Statements n (sequence s.binder s.value t) m ts ws
first_statement {s = s} {g = g'} r g c = record {
  statements = (s, g') ∷ c.statements;
  value = c.value;
  same = ap (λ t. sequence s.binder s.value t) c.same;
  levels = c.levels;
  rest = c.rest;
  spells = by_more (by_both r g) c.spells;
  ends = c.ends;
}

bound_statements : {n k m : ℕ} {bs : PhraseValue (many (binding ▸ some_semicolons))} {t : Written} {ts us ws : List Marked}
    → Spells program_grammar (many (binding ▸ some_semicolons)) n bs k ts us → Statements k t m us ws → Statements n (block_of (bindings_of bs) t) m ts ws
bound_statements by_none c = c
bound_statements (by_more (by_both r g) rs) c = first_statement (by_rule (by_first r)) g (bound_statements rs c)

pub block_of-push : (before : List WrittenStatement) (value last : Written) → block_of before (sequence Nothing value last) ≡ block_of (before ++ as_statement value ∷ []) last
block_of-push [] value last = refl
block_of-push (s ∷ ss) value last = ap (λ t. sequence s.binder s.value t) (block_of-push ss value last)

-- the statements of items
pub scattered : {n k m : ℕ} {first : PhraseValue items} {more : PhraseValue (many (some_semicolons ▸ items))} {ts us ws : List Marked}
    → Spells program_grammar items n first k ts us → Spells program_grammar (many (some_semicolons ▸ items)) k more m us ws → Statements n (block_from first (map (λ g. g.1) more)) m ts ws
scattered (by_both {v = value} bs e) by_none = bound_statements bs (record { statements = []; value = value; same = refl; levels = _; rest = _; spells = by_none; ends = e })
scattered {n} {k} {m} {ts = ts} {ws = ws} (by_both {u = bindings} {v = value} bs e) (by_more {u = next} {vs = more} (by_both g i) rs) =
    subst (λ t. Statements n t m ts ws) (block_of-push (bindings_of bindings) value (block_from next.1 (map (λ x. x.1) more)))
    (bound_statements bs (first_statement (by_rule (by_second e)) g (scattered i rs)))
