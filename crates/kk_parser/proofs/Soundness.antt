-- What is read is spelled so; and where a reading fails, what was read before begins a text. Each text stands before
-- tokens that it does not go on with.
use Rattle.std.proofs.Common.{◌≡◌, ℕ, ◌+◌, ◌≤◌, true, false, List, [], ◌∷◌, Some, refl, sym, subst, inl, inr, arith}
use Rattle.std.proofs.lemmas.Bool.{and_parts}
use Rattle.kk_syntax.specs.declared.token.LocatedToken.{LocatedToken}
use Rattle.kk_parser.specs.Classes.{Class, is_at}
use Rattle.kk_parser.specs.Kinds.{Kind, classes_of}
use Rattle.kk_parser.specs.Phrases.{Phrase, opener, each, PhraseValue}
use Rattle.kk_parser.specs.Forms.{form_meaning, form_grammar}
use Rattle.kk_parser.specs.Spells.{Marked, tokens_of, Spells, by_token, by_opener, by_both, by_first, by_second, by_none, by_more, by_absence, by_presence, by_level, by_rule, by_no_more, by_each, by_nothing, by_something, by_quoted, by_unquoted}
use Rattle.kk_parser.specs.Reading.{Finds, finds_token, finds_opener, finds_both, finds_first, finds_second, finds_none, finds_more, finds_absence, finds_presence, finds_level, finds_rule, finds_no_more, finds_each, finds_nothing, finds_something, finds_quoted, finds_unquoted, Failure, unexpected, too_deep, ReadingFails, fails_token, fails_opener, fails_deep, fails_front, fails_behind, fails_first, fails_second, fails_one, fails_more, fails_presence, fails_level, fails_rule, fails_each_deep, fails_each, fails_each_more, fails_something, fails_quoted, fails_unquoted}
use Rattle.kk_parser.proofs.ClassDisjointness.{next_of, within}
use Rattle.kk_parser.proofs.Samples.{claimed, Calm, plain, plain-form, none_within, a_text}

-- Fronts limit xs zs ts us: the tokens of xs up to zs are those of ts up to us, and no more than `limit` levels are open
-- at them
pub data Fronts (limit : ℕ) : List Marked → List Marked → List LocatedToken → List LocatedToken → Type 0 where
  no_front : {zs : List Marked} {us : List LocatedToken} → Fronts limit zs zs us us
  one_front : {x : Marked} {xs zs : List Marked} {ts us : List LocatedToken} → x.levels ≤ limit → Fronts limit xs zs ts us → Fronts limit (x ∷ xs) zs (x.token ∷ ts) us

pub fronts_both : {limit : ℕ} {xs ys zs : List Marked} {ts us ws : List LocatedToken} → Fronts limit xs ys ts us → Fronts limit ys zs us ws → Fronts limit xs zs ts ws
fronts_both no_front s = s
fronts_both (one_front h r) s = one_front h (fronts_both r s)

-- the tokens at which a reading fails
abbrev pub rest_of : Failure → List LocatedToken
rest_of (unexpected rest) = rest
rest_of (too_deep rest) = rest

-- at a reading that fails for depth, the token there opens a level too many
abbrev pub Opened : ℕ → Failure → List Marked → Type 0
Opened limit (unexpected rest) xs = Unit {0}
Opened limit (too_deep rest) [] = ⊥
Opened limit (too_deep rest) (x ∷ xs) = (x.levels ≡ limit + 1) × (us : List LocatedToken) × (rest ≡ x.token ∷ us)

-- Reaches limit xs ts f: the tokens of xs are those of ts up to where the reading fails, and no more than `limit` levels
-- are open at them
pub data Reaches (limit : ℕ) : List Marked → List LocatedToken → Failure → Type 0 where
  there : {xs : List Marked} {us : List LocatedToken} {f : Failure} → us ≡ rest_of f → Opened limit f xs → Reaches limit xs us f
  behind : {x : Marked} {xs : List Marked} {us : List LocatedToken} {f : Failure} → x.levels ≤ limit → Reaches limit xs us f → Reaches limit (x ∷ xs) (x.token ∷ us) f

reaches_behind : {limit : ℕ} {xs ys : List Marked} {ts us : List LocatedToken} {f : Failure} → Fronts limit xs ys ts us → Reaches limit ys us f → Reaches limit xs ts f
reaches_behind no_front s = s
reaches_behind (one_front h r) s = behind h (reaches_behind r s)

-- Onward us zs: zs begin with no claimed token, or with the same token as us. So no phrase goes on with zs that does not
-- go on with us.
pub data Onward : List LocatedToken → List Marked → Type 0 where
  onward_calm : {us : List LocatedToken} {zs : List Marked} → Calm zs → Onward us zs
  onward_same : {z : Marked} {us : List LocatedToken} {zs : List Marked} → Onward (z.token ∷ us) (z ∷ zs)

-- where none of some claimed classes is next of us, none of them is next of zs
none_onward : (cs : List Class) {us : List LocatedToken} {zs : List Marked} → within cs claimed ≡ true → Onward us zs → is_at cs us ≡ false → is_at cs (tokens_of zs) ≡ false
none_onward cs {zs = zs} h (onward_calm calm) e = none_within cs claimed (tokens_of zs) h calm
none_onward cs h onward_same e = e

pub onward : {limit : ℕ} {xs zs : List Marked} {ts us : List LocatedToken} → Fronts limit xs zs ts us → Onward us zs → Onward ts xs
onward no_front o = o
onward (one_front h r) o = onward_same

module _ (limit : ℕ) where
  levels_kept : {p : Phrase} {n m : ℕ} {v : PhraseValue p} {ts us : List LocatedToken} → Finds limit p n ts v m us → n ≤ limit → m ≤ limit
  levels_kept (finds_token h) l = l
  levels_kept (finds_opener h k) l = omega arith
  levels_kept (finds_both r s) l = levels_kept s (levels_kept r l)
  levels_kept (finds_first h r) l = levels_kept r l
  levels_kept (finds_second h r) l = levels_kept r l
  levels_kept (finds_none h) l = l
  levels_kept (finds_more h r s) l = levels_kept s (levels_kept r l)
  levels_kept (finds_absence h) l = l
  levels_kept (finds_presence h r) l = levels_kept r l
  levels_kept (finds_level r) l = l
  levels_kept (finds_rule r) l = levels_kept r l
  levels_kept (finds_no_more h) l = l
  levels_kept (finds_each h k r s) l = levels_kept s (levels_kept r (omega arith))
  levels_kept (finds_nothing h) l = l
  levels_kept (finds_something h r) l = levels_kept r l
  levels_kept (finds_quoted h r) l = levels_kept r l
  levels_kept (finds_unquoted h r) l = levels_kept r l

  -- a text whose tokens are those read, before any others
  abbrev pub Spelled : (p : Phrase) → ℕ → PhraseValue p → ℕ → List LocatedToken → List LocatedToken → List Marked → Type 0
  Spelled p n v m ts us zs = (xs : List Marked) × Spells form_grammar p n v m xs zs × Fronts limit xs zs ts us

  pub spelled : {p : Phrase} {n m : ℕ} {v : PhraseValue p} {ts us : List LocatedToken} → Finds limit p n ts v m us → n ≤ limit → plain p ≡ true → (zs : List Marked) → Onward us zs → Spelled p n v m ts us zs
  spelled (finds_token {t = t} {n = n} h) l e zs o = (record { token = t; levels = n } ∷ zs, by_token h, one_front l no_front)
  spelled (finds_opener {t = t} {n = n} h k) l e zs o = (record { token = t; levels = n + 1 } ∷ zs, by_opener h, one_front (omega arith) no_front)
  spelled (finds_both r s) l e zs o =
      let q = and_parts _ _ e in
      let b = spelled s (levels_kept r l) q.1 zs o in
      let a = spelled r l q.0 b.0 (onward b.2 o) in
      (a.0, by_both a.1 b.1, fronts_both a.2 b.2)
  spelled (finds_first h r) l e zs o = let a = spelled r l (and_parts _ _ e).0 zs o in (a.0, by_first a.1, a.2)
  spelled (finds_second h r) l e zs o = let a = spelled r l (and_parts _ _ e).1 zs o in (a.0, by_second a.1, a.2)
  spelled (finds_none h) l e zs o = (zs, by_none, no_front)
  spelled (finds_more h r s) l e zs o =
      let b = spelled s (levels_kept r l) e zs o in
      let a = spelled r l e b.0 (onward b.2 o) in
      (a.0, by_more a.1 b.1, fronts_both a.2 b.2)
  spelled (finds_absence h) l e zs o = (zs, by_absence, no_front)
  spelled (finds_presence h r) l e zs o = let a = spelled r l e zs o in (a.0, by_presence a.1, a.2)
  spelled (finds_level r) l e zs o = let a = spelled r l e zs o in (a.0, by_level a.1, a.2)
  spelled (finds_rule {x = x} r) l e zs o = let a = spelled r l (plain-form x) zs o in (a.0, by_rule a.1, a.2)
  spelled (finds_no_more {k = k} h) l e zs o = (zs, by_no_more (none_onward (classes_of k) (and_parts _ _ e).0 o h), no_front)
  spelled (finds_each {n = n} {t = t} h k r s) l e zs o =
      let deeper : n + 1 ≤ limit = omega arith in
      let b = spelled s (levels_kept r deeper) e zs o in
      let a = spelled r deeper (and_parts _ _ e).1 b.0 (onward b.2 o) in
      (record { token = t; levels = n + 1 } ∷ a.0, by_each h a.1 b.1, one_front deeper (fronts_both a.2 b.2))
  spelled (finds_nothing {k = k} h) l e zs o = (zs, by_nothing (none_onward (classes_of k) (and_parts _ _ e).0 o h), no_front)
  spelled (finds_something {n = n} {t = t} h r) l e zs o =
      let a = spelled r l (and_parts _ _ e).1 zs o in
      (record { token = t; levels = n } ∷ a.0, by_something h a.1, one_front l a.2)
  spelled (finds_quoted h r) l e zs o = let a = spelled r l refl zs o in (a.0, by_quoted a.1, a.2)
  spelled (finds_unquoted h r) l e zs o = let a = spelled r l e zs o in (a.0, by_unquoted a.1, a.2)

  -- a text, before some tokens, that begins with the tokens read up to where the reading fails
  abbrev pub BegunText : (p : Phrase) → ℕ → PhraseValue p → ℕ → List LocatedToken → Failure → List Marked → Type 0
  BegunText p n v m ts f zs = (xs : List Marked) × Spells form_grammar p n v m xs zs × Reaches limit xs ts f × Onward ts xs

  -- such texts before all tokens that no phrase goes on with
  pub record Begun (p : Phrase) (n : ℕ) (ts : List LocatedToken) (f : Failure) : Type 0 where
    pub value : PhraseValue p
    pub levels : ℕ
    pub text : (zs : List Marked) → Calm zs → BegunText p n value levels ts f zs

  -- where nothing is read, any text of the phrase will do
  begun_here : {p : Phrase} {n : ℕ} {ts : List LocatedToken} → plain p ≡ true → Begun p n ts (unexpected ts)
  begun_here {p} {n} e =
      let t = a_text p e n in
      record { value = t.value; levels = t.levels; text = λ zs calm. let x = t.spelled zs calm in (x.0, x.1, there refl tt, onward_calm x.2) }

  -- some tokens begin with this one
  first_is : {ts us : List LocatedToken} (x : Marked) (xs : List Marked) → ts ≡ x.token ∷ us → Onward ts (x ∷ xs)
  first_is x xs e = subst (λ ws. Onward ws (x ∷ xs)) (sym e) onward_same

  begun_deep : (k : Kind) (n : ℕ) (ts : List LocatedToken) → is_at (classes_of k) ts ≡ true → limit ≤ n → n ≤ limit → Begun (opener k) n ts (too_deep ts)
  begun_deep k n ts h d l =
      let t = next_of k ts h in
      let x : Marked = record { token = t.0; levels = n + 1 } in
      record {
        value = t.2;
        levels = n + 1;
        text = λ zs calm. (x ∷ zs, by_opener t.4, there refl (omega arith, t.1, t.3), first_is x zs t.3);
      }

  begun_each_deep : (k : Kind) (a : Phrase) (n : ℕ) (ts : List LocatedToken) → plain (each k a) ≡ true → is_at (classes_of k) ts ≡ true → limit ≤ n → n ≤ limit → Begun (each k a) n ts (too_deep ts)
  begun_each_deep k a n ts e h d l =
      let q = and_parts _ _ e in
      let t = next_of k ts h in
      let x : Marked = record { token = t.0; levels = n + 1 } in
      let y = a_text a q.1 (n + 1) in
      record {
        value = y.value ∷ [];
        levels = y.levels;
        text = λ zs calm.
            let b = y.spelled zs calm in
            (x ∷ b.0, by_each t.4 b.1 (by_no_more (none_within (classes_of k) claimed (tokens_of zs) q.0 calm)), there refl (omega arith, t.1, t.3), first_is x b.0 t.3);
      }

  pub begun : {p : Phrase} {n : ℕ} {ts : List LocatedToken} {f : Failure} → ReadingFails limit p n ts f → n ≤ limit → plain p ≡ true → Begun p n ts f
  begun (fails_token h) l e = begun_here e
  begun (fails_opener h) l e = begun_here e
  begun (fails_deep {k = k} {n = n} {ts = ts} h d) l e = begun_deep k n ts h d l
  begun (fails_front {b = b} r) l e =
      let q = and_parts _ _ e in
      let x = begun r l q.0 in
      let y = a_text b q.1 x.levels in
      record {
        value = (x.value, y.value);
        levels = y.levels;
        text = λ zs calm.
            let s = y.spelled zs calm in
            let t = x.text s.0 s.2 in
            (t.0, by_both t.1 s.1, t.2, t.3);
      }
  begun (fails_behind {u = u} r s) l e =
      let q = and_parts _ _ e in
      let y = begun s (levels_kept r l) q.1 in
      record {
        value = (u, y.value);
        levels = y.levels;
        text = λ zs calm.
            let t = y.text zs calm in
            let a = spelled r l q.0 t.0 t.3 in
            (a.0, by_both a.1 t.1, reaches_behind a.2 t.2, onward a.2 t.3);
      }
  begun (fails_first h r) l e =
      let x = begun r l (and_parts _ _ e).0 in
      record { value = inl x.value; levels = x.levels; text = λ zs calm. let t = x.text zs calm in (t.0, by_first t.1, t.2, t.3) }
  begun (fails_second h r) l e =
      let x = begun r l (and_parts _ _ e).1 in
      record { value = inr x.value; levels = x.levels; text = λ zs calm. let t = x.text zs calm in (t.0, by_second t.1, t.2, t.3) }
  begun (fails_one h r) l e =
      let x = begun r l e in
      record { value = x.value ∷ []; levels = x.levels; text = λ zs calm. let t = x.text zs calm in (t.0, by_more t.1 by_none, t.2, t.3) }
  begun (fails_more {u = u} h r s) l e =
      let y = begun s (levels_kept r l) e in
      record {
        value = u ∷ y.value;
        levels = y.levels;
        text = λ zs calm.
            let t = y.text zs calm in
            let a = spelled r l e t.0 t.3 in
            (a.0, by_more a.1 t.1, reaches_behind a.2 t.2, onward a.2 t.3);
      }
  begun (fails_presence h r) l e =
      let x = begun r l e in
      record { value = Some x.value; levels = x.levels; text = λ zs calm. let t = x.text zs calm in (t.0, by_presence t.1, t.2, t.3) }
  begun (fails_level {n = n} r) l e =
      let x = begun r l e in
      record { value = x.value; levels = n; text = λ zs calm. let t = x.text zs calm in (t.0, by_level t.1, t.2, t.3) }
  begun (fails_rule {x = nonterminal} r) l e =
      let x = begun r l (plain-form nonterminal) in
      record { value = form_meaning nonterminal x.value; levels = x.levels; text = λ zs calm. let t = x.text zs calm in (t.0, by_rule t.1, t.2, t.3) }
  begun (fails_each_deep {k = k} {a = a} {n = n} {ts = ts} h d) l e = begun_each_deep k a n ts e h d l
  begun (fails_each {k = k} {n = n} {t = t} h d r) l e =
      let deeper : n + 1 ≤ limit = omega arith in
      let q = and_parts _ _ e in
      let x = begun r deeper q.1 in
      record {
        value = x.value ∷ [];
        levels = x.levels;
        text = λ zs calm.
            let b = x.text zs calm in
            (record { token = t; levels = n + 1 } ∷ b.0, by_each h b.1 (by_no_more (none_within (classes_of k) claimed (tokens_of zs) q.0 calm)), behind deeper b.2, onward_same);
      }
  begun (fails_each_more {n = n} {t = t} {u = u} h d r s) l e =
      let deeper : n + 1 ≤ limit = omega arith in
      let q = and_parts _ _ e in
      let y = begun s (levels_kept r deeper) e in
      record {
        value = u ∷ y.value;
        levels = y.levels;
        text = λ zs calm.
            let b = y.text zs calm in
            let a = spelled r deeper q.1 b.0 b.3 in
            (record { token = t; levels = n + 1 } ∷ a.0, by_each h a.1 b.1, behind deeper (reaches_behind a.2 b.2), onward_same);
      }
  begun (fails_something {n = n} {t = t} h r) l e =
      let x = begun r l (and_parts _ _ e).1 in
      record {
        value = Some x.value;
        levels = x.levels;
        text = λ zs calm.
            let b = x.text zs calm in
            (record { token = t; levels = n } ∷ b.0, by_something h b.1, behind l b.2, onward_same);
      }
  begun (fails_quoted h r) l e =
      let x = begun r l refl in
      record { value = inl x.value.0; levels = x.levels; text = λ zs calm. let t = x.text zs calm in (t.0, by_quoted t.1, t.2, t.3) }
  begun (fails_unquoted h r) l e =
      let x = begun r l e in
      record { value = inr x.value; levels = x.levels; text = λ zs calm. let t = x.text zs calm in (t.0, by_unquoted t.1, t.2, t.3) }
