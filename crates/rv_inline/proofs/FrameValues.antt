-- What frames have in their values: below a number both have the same, and the values of a leaf in line stand where it names them.
use Rattle.std.proofs.Common.{◌≡◌, ◌≢◌, ◌==◌, ◌<◌, ◌≤◌, ℕ, zero, suc, ◌+◌, List, [], ◌∷◌, Option, Some, None, Bool, true, false}
use Rattle.std.proofs.Common.{cond, map, length, refl, ap, ◌∙◌, arith, option_map}
use Rattle.std.proofs.lemmas.Bool.{eqb-true, eq-eqb, ne_eqb}
use Rattle.rv_isa.specs.AsmMachine.{bound}
use Rattle.rv_isa.specs.Frames.{empty, put, put_into, all_of}
use Rattle.rv_isa.specs.ValueBounds.{AreValuesBelow}
use Rattle.rv_inline.specs.InLine.{AreFrom, named}
use Rattle.rv_inline.specs.Relation.{SameBelow}

pub same_some : {A : Type 0} (a b : A) → Some a ≡ Some b → a ≡ b
same_some a b same = cc same

mapped_some : (w : ℕ) (o : Option (List ℕ)) (words : List ℕ) → option_map (λ rest. w ∷ rest) o ≡ Some words
    → (rest : List ℕ) × ((o ≡ Some rest) × (w ∷ rest ≡ words))
mapped_some w None words is = cc is
mapped_some w (Some rest) words is = (rest, (refl, cc is))

-- the first word and the others
pub all_parts : (o : Option ℕ) (os : List (Option ℕ)) (words : List ℕ) → all_of (o ∷ os) ≡ Some words
    → (w : ℕ) × ((rest : List ℕ) × ((o ≡ Some w) × ((all_of os ≡ Some rest) × (w ∷ rest ≡ words))))
all_parts None os words is = cc is
all_parts (Some w) os words is = let rest = mapped_some w (all_of os) words is in (w, (rest.0, (refl, rest.1)))

-- ---- the same below a number

pub same_put : (base at : ℕ) (w : Option ℕ) (a b : ℕ → Option ℕ) → SameBelow base a b → SameBelow base (put at w a) (put at w b)
same_put base at w a b same x less = ap (λ (o : Option ℕ). cond (x == at) w o) (same x less)

pub same_put_into : (base : ℕ) (into : Option ℕ) (word : ℕ) (a b : ℕ → Option ℕ) → SameBelow base a b
    → SameBelow base (put_into into word a) (put_into into word b)
same_put_into base None word a b same = same
same_put_into base (Some at) word a b same = same_put base at (Some word) a b same

-- a value from there on may be written
pub same_fresh : (base at : ℕ) (w : Option ℕ) (a b : ℕ → Option ℕ) → base ≤ at → SameBelow base a b → SameBelow base a (put at w b)
same_fresh base at w a b high same x less =
    let other : (x == at) ≡ false = ne_eqb x at (λ e. absurd (omega (arith, high, less, e))) in
    ap (λ (c : Bool). cond c w (b x)) other ∙ same x less

pub same_words : (base : ℕ) (args : List ℕ) (a b : ℕ → Option ℕ) → AreValuesBelow base args → SameBelow base a b
    → map b args ≡ map a args
same_words base [] a b below same = refl
same_words base (v ∷ args) a b below same =
    ap (λ (o : Option ℕ). o ∷ map b args) (same v below.0)
    ∙ ap (λ (os : List (Option ℕ)). a v ∷ os) (same_words base args a b below.1 same)

-- ---- the values of a leaf

pub named_low : (base : ℕ) (args : List ℕ) (v : ℕ) → AreValuesBelow base args → v < length args → named base args v < base
named_low base [] v below less = absurd (omega (arith, less))
named_low base (arg ∷ args) zero below less = below.0
named_low base (arg ∷ args) (suc v) below less = named_low base args v below.1 (omega (arith, less))

pub named_high : (base : ℕ) (args : List ℕ) (v : ℕ) → length args ≤ v → base ≤ named base args v
named_high base [] v high = omega arith
named_high base (arg ∷ args) zero high = absurd (omega (arith, high))
named_high base (arg ∷ args) (suc v) high = named_high base args v (omega (arith, high))

-- no other value stands where one that is no parameter stands
pub named_apart : (base : ℕ) (args : List ℕ) (x v : ℕ) → AreValuesBelow base args → length args ≤ v → x ≢ v
    → named base args x ≢ named base args v
named_apart base [] x v below high other same = other (omega (arith, same))
named_apart base (arg ∷ args) x zero below high other same = absurd (omega (arith, high))
named_apart base (arg ∷ args) zero (suc v) below high other same =
    absurd (omega (arith, below.0, same, named_high base args v (omega (arith, high))))
named_apart base (arg ∷ args) (suc x) (suc v) below high other same =
    named_apart base args x v below.1 (omega (arith, high)) (λ e. other (ap suc e)) same

-- what is known of the values of a leaf in a frame of its own is known in line
abbrev pub KnowsNamed : ℕ → List ℕ → (ℕ → Option ℕ) → (ℕ → Option ℕ) → Type 0
KnowsNamed base args a b = (v word : ℕ) → a v ≡ Some word → b (named base args v) ≡ Some word

pub named_words : (base : ℕ) (args values words : List ℕ) (a b : ℕ → Option ℕ) → KnowsNamed base args a b
    → all_of (map a values) ≡ Some words → all_of (map b (map (named base args) values)) ≡ Some words
named_words base args [] words a b known is = is
named_words base args (v ∷ values) words a b known is =
    let parts = all_parts (a v) (map a values) words is in
    let first : b (named base args v) ≡ Some parts.0 = known v parts.0 parts.1.1.0 in
    let rest : all_of (map b (map (named base args) values)) ≡ Some parts.1.0
    = named_words base args values parts.1.0 a b known parts.1.1.1.0 in
    ap (λ (o : Option ℕ). all_of (o ∷ map b (map (named base args) values))) first
    ∙ ap (option_map (λ rest. parts.0 ∷ rest)) rest ∙ ap (λ (ws : List ℕ). Some ws) parts.1.1.1.1

not_same : (x v : ℕ) → (x == v) ≡ false → x ≢ v
not_same x v other same = cc (eq-eqb x v same, other)

-- a value that is no parameter is written in both
pub named_put : (base : ℕ) (args : List ℕ) (at w : ℕ) (a b : ℕ → Option ℕ) → AreValuesBelow base args → length args ≤ at
    → KnowsNamed base args a b → KnowsNamed base args (put at (Some w) a) (put (named base args at) (Some w) b)
named_put base args at w a b below high known v word is = by (v == at) refl is
  where
    there : ℕ
    there = named base args v

    by : (here : Bool) → (v == at) ≡ here → cond here (Some w) (a v) ≡ Some word
        → cond (there == named base args at) (Some w) (b there) ≡ Some word
    by true same is =
        let equal : (there == named base args at) ≡ true
        = eq-eqb there (named base args at) (ap (named base args) (eqb-true v at same)) in
        ap (λ (c : Bool). cond c (Some w) (b there)) equal ∙ is
    by false other is =
        let apart : (there == named base args at) ≡ false
        = ne_eqb there (named base args at) (named_apart base args v at below high (not_same v at other)) in
        ap (λ (c : Bool). cond c (Some w) (b there)) apart ∙ known v word is

-- ---- the start of a leaf

mapped_cells : (p w : ℕ) (o : Option (ℕ → Option ℕ)) (cells : ℕ → Option ℕ) → option_map (put p (Some w)) o ≡ Some cells
    → (rest : ℕ → Option ℕ) × ((o ≡ Some rest) × (put p (Some w) rest ≡ cells))
mapped_cells p w None cells is = cc is
mapped_cells p w (Some rest) cells is = (rest, (refl, same_some (put p (Some w) rest) cells is))

-- a parameter has the word of its argument
starts_named : (base n : ℕ) (params args words : List ℕ) (f g cells : ℕ → Option ℕ) → AreFrom n params
    → bound params words ≡ Some cells → all_of (map f args) ≡ Some words → SameBelow base f g → AreValuesBelow base args
    → (v word : ℕ) → cells v ≡ Some word → (k : ℕ) × ((v ≡ n + k) × (g (named base args k) ≡ Some word))
starts_named base n [] args [] f g cells numbers is words_are same below v word has =
    let none : None ≡ Some word = ap (λ (c : ℕ → Option ℕ). c v) (same_some empty cells is) ∙ has in cc none
starts_named base n [] args (w ∷ words) f g cells numbers is words_are same below v word has = cc is
starts_named base n (p ∷ params) args [] f g cells numbers is words_are same below v word has = cc is
starts_named base n (p ∷ params) [] (w ∷ words) f g cells numbers is words_are same below v word has = cc words_are
starts_named base n (p ∷ params) (arg ∷ args) (w ∷ words) f g cells numbers is words_are same below v word has =
    by (v == p) refl (ap (λ (c : ℕ → Option ℕ). c v) under.1.1 ∙ has)
    (starts_named base (suc n) params args words f g under.0 numbers.1 under.1.0
    (parts.1.1.1.0 ∙ ap (λ (ws : List ℕ). Some ws) others) same below.1 v word)
  where
    under : (rest : ℕ → Option ℕ) × ((bound params words ≡ Some rest) × (put p (Some w) rest ≡ cells))
    under = mapped_cells p w (bound params words) cells is

    parts : (w' : ℕ) × ((rest : List ℕ) × ((f arg ≡ Some w') × ((all_of (map f args) ≡ Some rest) × (w' ∷ rest ≡ w ∷ words))))
    parts = all_parts (f arg) (map f args) (w ∷ words) words_are

    word_is : parts.0 ≡ w
    word_is = cc parts.1.1.1.1

    others : parts.1.0 ≡ words
    others = cc parts.1.1.1.1

    by : (here : Bool) → (v == p) ≡ here → cond here (Some w) (under.0 v) ≡ Some word
        → (under.0 v ≡ Some word → (k : ℕ) × ((v ≡ suc n + k) × (g (named base args k) ≡ Some word)))
        → (k : ℕ) × ((v ≡ n + k) × (g (named base (arg ∷ args) k) ≡ Some word))
    by true equal is_word later =
        let v_is : v ≡ p = eqb-true v p equal in
        let p_is : p ≡ n = numbers.0 in
        (0, (omega (arith, v_is, p_is), same arg below.0 ∙ parts.1.1.0 ∙ ap (λ (x : ℕ). Some x) word_is ∙ is_word))
    by false other is_word later =
        let rest = later is_word in
        let v_is : v ≡ suc n + rest.0 = rest.1.0 in
        (suc rest.0, (omega (arith, v_is), rest.1.1))

pub starts_known : (base : ℕ) (params args words : List ℕ) (f g cells : ℕ → Option ℕ) → AreFrom 0 params
    → bound params words ≡ Some cells → all_of (map f args) ≡ Some words → SameBelow base f g → AreValuesBelow base args
    → KnowsNamed base args cells g
starts_known base params args words f g cells numbers is words_are same below v word has =
    let there = starts_named base 0 params args words f g cells numbers is words_are same below v word has in
    let v_is : v ≡ there.0 = omega (arith, there.1.0) in
    ap (λ (k : ℕ). g (named base args k)) v_is ∙ there.1.1
