-- What the tests of values tell, where the terms of a system are apart and its values normal.
use Rattle.std.proofs.Common.{drop, get_or}
use Rattle.std.proofs.lemmas.List.{drop_more}
use Rattle.std.specs.Prelude.{ℕ, zero, suc, ◌+◌, ◌<◌, Bool, true, false, cond, not, ◌&&◌, ◌||◌, ◌≡◌, ◌≢◌, List, [], ◌∷◌, length, slice_get, Option, Some, None}
use Rattle.std.proofs.lemmas.Bool.{and_parts, and_from, and_right}
use Rattle.std.proofs.lemmas.Option.{same_Some}
use mathlib.Core.Path.{refl, sym, ap, subst, ◌∙◌}
use native.Mathlib.Omega.{arith}
use Rattle.ae_base.specs.Decided.{decided}
use Rattle.ae_base.specs.Options.{◌>>=◌}
use Rattle.ae_base.proofs.Decided.{decided_of, decided_yes}
use Rattle.ae_base.proofs.Options.{bind_some}
use Rattle.ae_core.specs.Decided.{Term_discrete}
use Rattle.ae_core.specs.declared.terms.Term.{Term}
use Rattle.ae_num.specs.declared.forms.Value.{Value}
use Rattle.ae_journal.specs.Values.{Val, meaning}
use Rattle.ae_journal.specs.Systems.{IsName, IsNormalValue, ValueOf, ValuesOf, value_at}
use Rattle.ae_journal.specs.declared.systems.System.{System}
use Rattle.ae_decide.specs.Values.{Value_discrete, place_from, value_of, same_known, are_alike, all_alike}
use Rattle.ae_decide.proofs.NormalValues.{one_written}

-- ---- the steps of the loops
pub place_step : (ts : List Term) (i : ℕ) (d t : Term) → i < length ts
    → place_from i (drop i ts) t ≡ cond (decided (Term_discrete (get_or ts i d) t)) (Some i) (place_from (i + 1) (drop (i + 1) ts) t)
place_step ts i d t h = ap (λ us. place_from i us t) (drop_more ts i d h)

pub alike_step : (y : System) (ts us : List Term) (i : ℕ) (d : Term) → i < length ts → length ts ≡ length us
    → all_alike y (drop i ts) (drop i us) ≡ are_alike y (get_or ts i d) (get_or us i d) && all_alike y (drop (i + 1) ts) (drop (i + 1) us)
alike_step y ts us i d h e = λ j. all_alike y (drop_more ts i d h j) (drop_more us i d (let k : i < length us = omega (arith, h, e) in k) j)

pub alike_lengths : (y : System) (ts us : List Term) → length ts ≢ length us → all_alike y ts us ≡ false
alike_lengths y [] [] n = absurd (n refl)
alike_lengths y [] (u ∷ us) n = refl
alike_lengths y (t ∷ ts) [] n = refl
alike_lengths y (t ∷ ts) (u ∷ us) n = and_right (are_alike y t u) (all_alike y ts us) (alike_lengths y ts us (λ e. n (ap suc e)))

-- ---- one test that follows another
pub implied : (b c : Bool) → (b ≡ true → c ≡ true) → not b || c ≡ true
implied true c f = f refl
implied false c f = refl

pub by_implied : (b c : Bool) → not b || c ≡ true → b ≡ true → c ≡ true
by_implied true c e f = e
by_implied false c e f = absurd (cc)

-- ---- places
found : (k : ℕ) (us : List Term) (t : Term) (m : ℕ) → place_from k us t ≡ Some m → (n : ℕ) × (m ≡ k + n) × (slice_get us n ≡ Some t)
found k [] t m e = absurd (cc)
found k (u ∷ us) t m e = go (decided (Term_discrete u t)) refl (found (k + 1) us t m) e
  where
    go : (b : Bool) → decided (Term_discrete u t) ≡ b → (place_from (k + 1) us t ≡ Some m → (n : ℕ) × (m ≡ k + 1 + n) × (slice_get us n ≡ Some t))
        → cond b (Some k) (place_from (k + 1) us t) ≡ Some m → (n : ℕ) × (m ≡ k + n) × (slice_get (u ∷ us) n ≡ Some t)
    go true d ih f = let z : k ≡ m = same_Some k m f in (0, omega (arith, z), ap (λ (w : Term). Some w) (decided_yes (Term_discrete u t) d))
    go false d ih f = let (n, q, r) = ih f in (suc n, omega (arith, q), r)

somewhere : (k : ℕ) (us : List Term) (t : Term) (n : ℕ) → slice_get us n ≡ Some t → (m : ℕ) × (place_from k us t ≡ Some m)
somewhere k [] t n e = absurd (cc)
somewhere k (u ∷ us) t zero e =
    (k, ap (λ b. cond b (Some k) (place_from (k + 1) us t)) (decided_of (Term_discrete u t) (same_Some u t e)))
somewhere k (u ∷ us) t (suc n) e = go (decided (Term_discrete u t)) (somewhere (k + 1) us t n e)
  where
    go : (b : Bool) → (m : ℕ) × (place_from (k + 1) us t ≡ Some m) → (m : ℕ) × (cond b (Some k) (place_from (k + 1) us t) ≡ Some m)
    go true w = (k, refl)
    go false w = w

abbrev pub AreApart : System → Type 0
AreApart y = (m n : ℕ) (t : Term) → IsName y m t → IsName y n t → m ≡ n

abbrev pub AreNormal : System → Type 0
AreNormal y = (n : ℕ) (v : Value) → slice_get y.values n ≡ Some v → IsNormalValue v

-- each name has a value
beside : {A B : Type 0} (xs : List A) (ys : List B) (n : ℕ) (x : A) → length ys ≡ length xs → slice_get xs n ≡ Some x → (z : B) × (slice_get ys n ≡ Some z)
beside [] ys n x e i = absurd (cc)
beside (w ∷ xs) [] n x e i = absurd (omega (arith, e))
beside (w ∷ xs) (z ∷ ys) zero x e i = (z, refl)
beside (w ∷ xs) (z ∷ ys) (suc n) x e i = beside xs ys n x (let q : length ys ≡ length xs = omega (arith, e) in q) i

pub has_written : (y : System) → length y.values ≡ length y.names → (n : ℕ) (t : Term) → IsName y n t → (w : Value) × (slice_get y.values n ≡ Some w)
has_written y e n t i = beside y.names y.values n t e i

-- what is written for a name is its value
pub written_at : (y : System) (n : ℕ) (w : Value) → slice_get y.values n ≡ Some w → value_at y n ≡ Some (meaning w)
written_at y n w e = ap (λ (o : Option Value). o >>= λ v. Some (meaning v)) e

module _ (y : System) (apart : AreApart y) where
  pub place_is : (n : ℕ) (t : Term) → IsName y n t → place_from 0 y.names t ≡ Some n
  place_is n t i =
      let (m, e) = somewhere 0 y.names t n i in
      let (k, q, r) = found 0 y.names t m e in
      let z : m ≡ k = omega (arith, q) in
      e ∙ ap (λ (x : ℕ). Some x) (z ∙ apart k n t r i)

  pub value_here : (n : ℕ) (t : Term) (v : Val) → IsName y n t → ValueOf y t v → value_at y n ≡ Some v
  value_here n t v i (k, j, e) = ap (value_at y) (apart n k t i j) ∙ e

  -- the value at the place of a term
  pub value_is : (n : ℕ) (t : Term) → IsName y n t → value_of y t ≡ slice_get y.values n
  value_is n t i = ap (λ (o : Option ℕ). o >>= λ m. slice_get y.values m) (place_is n t i)

  pub of_written : (t : Term) (w : Value) → value_of y t ≡ Some w → ValueOf y t (meaning w)
  of_written t w e =
      let (m, f, g) = bind_some (place_from 0 y.names t) (λ m. slice_get y.values m) w e in
      let (n, q, r) = found 0 y.names t m f in
      let z : n ≡ m = omega (arith, q) in
      (n, r, ap (λ (k : ℕ). value_at y k) z ∙ ap (λ (o : Option Value). o >>= λ v. Some (meaning v)) g)

  pub written_of : (t : Term) (v : Val) → ValueOf y t v → (w : Value) × (value_of y t ≡ Some w) × (meaning w ≡ v)
  written_of t v (n, i, e) =
      let (w, f, g) = bind_some (slice_get y.values n) (λ w. Some (meaning w)) v e in
      (w, value_is n t i ∙ f, same_Some (meaning w) v g)

  module _ (normal : AreNormal y) where
    pub normal_at : (t : Term) (w : Value) → value_of y t ≡ Some w → IsNormalValue w
    normal_at t w e = let (m, f, g) = bind_some (place_from 0 y.names t) (λ m. slice_get y.values m) w e in normal m w g

    -- alike: with one value
    pub alike_of : (t u : Term) (v : Val) → ValueOf y t v → ValueOf y u v → are_alike y t u ≡ true
    alike_of t u v a b =
        let (w, e, p) = written_of t v a in
        let (x, f, q) = written_of u v b in
        (λ i. same_known (e i) (f i)) ∙ decided_of (Value_discrete w x) (one_written w x (normal_at t w e) (normal_at u x f) (p ∙ sym q))

    pub all_alike_of : (ts us : List Term) (vs : List Val) → ValuesOf y ts vs → ValuesOf y us vs → all_alike y ts us ≡ true
    all_alike_of [] [] [] a b = refl
    all_alike_of [] [] (v ∷ vs) a b = absurd a
    all_alike_of [] (u ∷ us) [] a b = absurd b
    all_alike_of [] (u ∷ us) (v ∷ vs) a b = absurd a
    all_alike_of (t ∷ ts) us [] a b = absurd a
    all_alike_of (t ∷ ts) [] (v ∷ vs) a b = absurd b
    all_alike_of (t ∷ ts) (u ∷ us) (v ∷ vs) a b = and_from (are_alike y t u) (all_alike y ts us) (alike_of t u v a.0 b.0) (all_alike_of ts us vs a.1 b.1)

  pub of_alike : (t u : Term) → are_alike y t u ≡ true → (v : Val) × ValueOf y t v × ValueOf y u v
  of_alike t u e = go (value_of y t) (value_of y u) refl refl e
    where
      go : (o p : Option Value) → value_of y t ≡ o → value_of y u ≡ p → same_known o p ≡ true → (v : Val) × ValueOf y t v × ValueOf y u v
      go None None a b f = absurd (cc)
      go None (Some x) a b f = absurd (cc)
      go (Some w) None a b f = absurd (cc)
      go (Some w) (Some x) a b f =
          let z = decided_yes (Value_discrete w x) f in
          (meaning w, of_written t w a, subst (λ z. ValueOf y u (meaning z)) (sym z) (of_written u x b))

  pub of_all_alike : (ts us : List Term) → all_alike y ts us ≡ true → (vs : List Val) × ValuesOf y ts vs × ValuesOf y us vs
  of_all_alike [] [] e = ([], tt, tt)
  of_all_alike [] (u ∷ us) e = absurd (cc)
  of_all_alike (t ∷ ts) [] e = absurd (cc)
  of_all_alike (t ∷ ts) (u ∷ us) e =
      let p = and_parts (are_alike y t u) (all_alike y ts us) e in
      let (v, a, b) = of_alike t u p.0 in
      let (vs, c, d) = of_all_alike ts us p.1 in
      (v ∷ vs, (a, c), (b, d))
