-- The insides of strings, from the left.
use Rattle.std.proofs.Common.{◌≡◌, ℕ, List, [], ◌∷◌, ◌++◌, true, false, Some, None, refl, sym, ap, subst, ◌∙◌}
use Rattle.kk_lexer.specs.Strings.{IsInside, empty, plain, escape, is_plain, escaped}

-- a word inside of a string behind a byte that stands for itself, and behind an escape
pub IsInside-plain : {b : ℕ} {w bs : List ℕ} → IsInside (b ∷ w) bs → is_plain b ≡ true → (bytes : List ℕ) × IsInside w bytes × (bs ≡ b ∷ bytes)
IsInside-plain (plain b w bytes is h) _ = (bytes, h, refl)
IsInside-plain (escape c e w bytes is h) no_plain = cc

escape_at : {v bs : List ℕ} → IsInside v bs → (c e : ℕ) (w : List ℕ) → v ≡ 92 ∷ c ∷ w → escaped c ≡ Some e → (bytes : List ℕ) × IsInside w bytes × (bs ≡ e ∷ bytes)
escape_at empty c e w is is_escape = cc
escape_at (plain b v bytes is_plain_b h) c e w is is_escape =
    let b_is : b ≡ 92 = cc in
    let bad : true ≡ false = sym is_plain_b ∙ ap is_plain b_is in
    cc
escape_at (escape c' e' v bytes is_e h) c e w is is_escape =
    let c_is : c' ≡ c = cc in
    let w_is : v ≡ w = cc in
    let e_is : Some e' ≡ Some e = sym is_e ∙ (ap escaped c_is ∙ is_escape) in
    (bytes, subst (λ u. IsInside u bytes) w_is h, ap (λ x. x ∷ bytes) cc)

pub IsInside-escape : {c e : ℕ} {w bs : List ℕ} → IsInside (92 ∷ c ∷ w) bs → escaped c ≡ Some e → (bytes : List ℕ) × IsInside w bytes × (bs ≡ e ∷ bytes)
IsInside-escape h is = escape_at h _ _ _ refl is

-- a word whose first byte is a quote or a line's end is inside of no string, nor is one whose first escape there is not
stop_at : {v bs : List ℕ} → IsInside v bs → (b : ℕ) (w : List ℕ) → v ≡ b ∷ w → is_plain b ≡ false → (b ≡ 92 → ⊥) → ⊥
stop_at empty b w is not_plain no_escape = cc
stop_at (plain b' v bytes is_plain_b h) b w is not_plain no_escape =
    let b_is : b' ≡ b = cc in
    let bad : true ≡ false = sym is_plain_b ∙ (ap is_plain b_is ∙ not_plain) in
    cc
stop_at (escape c e v bytes is_e h) b w is not_plain no_escape = no_escape cc

pub IsInside-stop : {b : ℕ} {w bs : List ℕ} → IsInside (b ∷ w) bs → is_plain b ≡ false → (b ≡ 92 → ⊥) → ⊥
IsInside-stop h = stop_at h _ _ refl

no_escape_at : {v bs : List ℕ} → IsInside v bs → (c : ℕ) (w : List ℕ) → v ≡ 92 ∷ c ∷ w → escaped c ≡ None → ⊥
no_escape_at empty c w is none = cc
no_escape_at (plain b v bytes is_plain_b h) c w is none = let b_is : b ≡ 92 = cc in let bad : true ≡ false = sym is_plain_b ∙ ap is_plain b_is in cc
no_escape_at (escape c' e v bytes is_e h) c w is none =
    let c_is : c' ≡ c = cc in
    let bad : Some e ≡ None = sym is_e ∙ (ap escaped c_is ∙ none) in
    cc

pub IsInside-no_escape : {c : ℕ} {w bs : List ℕ} → IsInside (92 ∷ c ∷ w) bs → escaped c ≡ None → ⊥
IsInside-no_escape h = no_escape_at h _ _ refl

one_at : {v bs : List ℕ} → IsInside v bs → v ≡ 92 ∷ [] → ⊥
one_at empty is = cc
one_at (plain b v bytes is_plain_b h) is = let b_is : b ≡ 92 = cc in let bad : true ≡ false = sym is_plain_b ∙ ap is_plain b_is in cc
one_at (escape c e v bytes is_e h) is = cc

pub IsInside-one : {bs : List ℕ} → IsInside (92 ∷ []) bs → ⊥
IsInside-one h = one_at h refl

-- one word more at the end
pub IsInside-append : {u v bs cs : List ℕ} → IsInside u bs → IsInside v cs → IsInside (u ++ v) (bs ++ cs)
IsInside-append empty k = k
IsInside-append (plain b w bytes is h) k = plain b _ _ is (IsInside-append h k)
IsInside-append (escape c e w bytes is h) k = escape c e _ _ is (IsInside-append h k)

-- what is behind a word inside of a string is inside of it too
pub IsInside-behind : {u bs : List ℕ} → IsInside u bs → (v cs : List ℕ) → IsInside (u ++ v) cs → (bytes : List ℕ) × IsInside v bytes × (cs ≡ bs ++ bytes)
IsInside-behind empty v cs h = (cs, h, refl)
IsInside-behind (plain b w bytes is h) v cs k =
    let first = IsInside-plain k is in
    let rest = IsInside-behind h v first.0 first.1 in
    (rest.0, rest.1, first.2 ∙ ap (λ x. b ∷ x) rest.2)
IsInside-behind (escape c e w bytes is h) v cs k =
    let first = IsInside-escape k is in
    let rest = IsInside-behind h v first.0 first.1 in
    (rest.0, rest.1, first.2 ∙ ap (λ x. e ∷ x) rest.2)
