-- What a form over numbered keys means once the terms are put for the keys. Over the same keys forms of one meaning are equal.
use Rattle.std.specs.Prelude.{ℕ, zero, suc, ℤ, pos, negsuc, ◌*ℤ◌, ◌≡◌, ◌≢◌, ◌<◌, ◌≤◌, ◌<ℤ◌, ◌⊎◌, List, [], ◌∷◌, map, length, get_or, slice_get, Some, None}
use Rattle.std.specs.List.{AllByRecursion}
use Rattle.std.proofs.Common.{arith, refl, sym, ap, ◌∙◌, subst, inl, inr}
use Rattle.std.proofs.lemmas.Bool.{cases_lt}
use Rattle.std.proofs.lemmas.List.{map-append}
use Rattle.std.proofs.lemmas.Option.{slice_get-get_or, get_or_from_slice_get, slice_get_past}
use native.Mathlib.Decide.{ℕ_discrete}
use borrow.Author.Differences.{ints}
use Rattle.ae_base.specs.Decided.{pick}
use Rattle.ae_base.proofs.Decided.{pick_no}
use Rattle.ae_math.specs.Fractions.{ℚ, zero_ℚ, one_ℚ, ◌+ℚ◌, ◌*ℚ◌, ratio}
use Rattle.ae_math.specs.Forms.{Form, factor_in, factor, plus, scale, sum_of, value}
use Rattle.ae_math.proofs.FractionLaws.{same_frac, zero_add_q, add_zero_q, one_mul_q', zero_mul_q, mul_zero_q}
use Rattle.ae_math.proofs.FormLaws.{factor_in-append, factor_in-scale, value-same, same_sym, same_trans, plus-same, scale-same}
use Rattle.ae_num.specs.declared.forms.Part.{Part}
use Rattle.ae_num.specs.declared.forms.Lin.{Lin}
use Rattle.ae_num.specs.Forms.{meaning, SameMeaning, IsNormal, IsRising, factor_of as part_factor}
use Rattle.ae_num.proofs.PairLaws.{factor_head, factor_tail}
use Rattle.ae_num.proofs.MeaningLaws.{factor_meaning}
use Rattle.ae_num.proofs.UniqueLaws.{unique}
use Rattle.ae_core.specs.Decided.{Term_discrete}
use Rattle.ae_rules.specs.Linear.{Linear, factor_of, IsSame}
use Rattle.ae_core.specs.declared.terms.Term.{Term, Bound}
use Rattle.ae_numeric.specs.Computing.{named, AreDistinct, HasKeys, IsFormOf}

-- ---- places of keys
-- two places of distinct keys with one term are one place
pub same_place : (ks : List Term) (i j : ℕ) (d : Term) → AreDistinct ks → i < length ks → j < length ks → get_or ks i d ≡ get_or ks j d → i ≡ j
same_place ks i j d a p q e = by_test (ℕ_discrete i j) (cases_lt i j)
  where
    by_test : Dec (i ≡ j) → (i < j) ⊎ (j ≤ i) → i ≡ j
    by_test (yes h) o = h
    by_test (no n) (inl h) = absurd (a i j d h q e)
    by_test (no n) (inr h) = absurd (a j i d (omega (arith, h, n)) p (sym e))

-- a place that keys have keeps its term where each of them keeps its own
pub still_there : (ks ls : List Term) → ((k : ℕ) → k < length ks → slice_get ls k ≡ slice_get ks k) → (k : ℕ) → k < length ks → k < length ls
still_there ks ls kept k b = by_order (cases_lt k (length ls))
  where
    some_none : (t : Term) → Some t ≡ None → k < length ls
    some_none t e = cc

    by_order : (k < length ls) ⊎ (length ls ≤ k) → k < length ls
    by_order (inl h) = h
    by_order (inr h) = some_none (get_or ks k (Bound 0)) (sym (slice_get-get_or ks k (Bound 0) b) ∙ sym (kept k b) ∙ slice_get_past ls k h)

pub same_term_there : (ks ls : List Term) → ((k : ℕ) → k < length ks → slice_get ls k ≡ slice_get ks k) → (k : ℕ) (d : Term) → k < length ks → get_or ls k d ≡ get_or ks k d
same_term_there ks ls kept k d b = get_or_from_slice_get ls k (get_or ks k d) d (kept k b ∙ slice_get-get_or ks k d b)

-- ---- the terms put for the keys of a form
abbrev pub put : List Term → Form ℕ → Linear
put ks f = record { parts = map (λ p. (get_or ks p.0 (Bound 0), p.1)) f.parts; constant = f.constant }

named_parts : (ks : List Term) (d : ℤ) (ps : List Part)
    → ◌≡◌ {A = List (Term × ℚ)} (map (λ p. (get_or ks p.key (Bound 0), ratio p.factor d)) ps) (map (λ (q : ℕ × ℚ). (get_or ks q.0 (Bound 0), q.1)) (map (λ p. (p.key, ratio p.factor d)) ps))
named_parts ks d [] = refl
named_parts ks d (p ∷ ps) = ap (λ qs. (get_or ks p.key (Bound 0), ratio p.factor d) ∷ qs) (named_parts ks d ps)

pub named_put : (ks : List Term) (f : Lin) → named ks f ≡ put ks (meaning f)
named_put ks f = λ i. record { parts = named_parts ks f.den f.parts i; constant = ratio f.constant f.den }

abbrev marks : List Term → Term → ℕ → ℚ
marks ks u k = pick (Term_discrete (get_or ks k (Bound 0)) u) one_ℚ zero_ℚ

factor_put : (ks : List Term) (u : Term) (ps : List (ℕ × ℚ)) → factor_in Term_discrete (map (λ (p : ℕ × ℚ). (get_or ks p.0 (Bound 0), p.1)) ps) u ≡ sum_of (marks ks u) ps
factor_put ks u [] = refl
factor_put ks u (p ∷ ps) = by_test (Term_discrete (get_or ks p.0 (Bound 0)) u) (factor_in Term_discrete (map (λ (p : ℕ × ℚ). (get_or ks p.0 (Bound 0), p.1)) ps) u) (factor_put ks u ps)
  where
    by_test : (t : Dec (get_or ks p.0 (Bound 0) ≡ u)) (rest : ℚ) → rest ≡ sum_of (marks ks u) ps → pick t (p.1 +ℚ rest) rest ≡ p.1 *ℚ pick t one_ℚ zero_ℚ +ℚ sum_of (marks ks u) ps
    by_test (yes e) rest ih = λ i. sym (one_mul_q' p.1) i +ℚ ih i
    by_test (no n) rest ih = sym (zero_add_q rest) ∙ (λ i. sym (mul_zero_q p.1) i +ℚ ih i)

sum_value : (g : ℕ → ℚ) (f : Form ℕ) → value g zero_ℚ f ≡ sum_of g f.parts
sum_value g f = ap (λ x. sum_of g f.parts +ℚ x) (zero_mul_q f.constant) ∙ add_zero_q (sum_of g f.parts)

pub put_same : (ks : List Term) (f g : Form ℕ) → SameMeaning f g → IsSame (put ks f) (put ks g)
put_same ks f g s = record {
  factors = λ u.
      factor_put ks u f.parts ∙ sym (sum_value (marks ks u) f) ∙ value-same ℕ_discrete (marks ks u) zero_ℚ f g s ∙ sum_value (marks ks u) g ∙ sym (factor_put ks u g.parts);
  constants = s.constants;
}

put_scaled : (ks : List Term) (x : ℚ) (ps : List (ℕ × ℚ))
    → ◌≡◌ {A = List (Term × ℚ)} (map (λ (p : ℕ × ℚ). (get_or ks p.0 (Bound 0), p.1)) (map (λ (p : ℕ × ℚ). (p.0, x *ℚ p.1)) ps)) (map (λ (p : Term × ℚ). (p.0, x *ℚ p.1)) (map (λ (p : ℕ × ℚ). (get_or ks p.0 (Bound 0), p.1)) ps))
put_scaled ks x [] = refl
put_scaled ks x (p ∷ ps) = ap (λ qs. (get_or ks p.0 (Bound 0), x *ℚ p.1) ∷ qs) (put_scaled ks x ps)

pub put_scale : (ks : List Term) (x : ℚ) (f : Form ℕ) → put ks (scale x f) ≡ scale x (put ks f)
put_scale ks x f = λ i. record { parts = put_scaled ks x f.parts i; constant = x *ℚ f.constant }

pub put_plus : (ks : List Term) (f g : Form ℕ) → put ks (plus f g) ≡ plus (put ks f) (put ks g)
put_plus ks f g = λ i. record { parts = map-append (λ (p : ℕ × ℚ). (get_or ks p.0 (Bound 0), p.1)) f.parts g.parts i; constant = f.constant +ℚ g.constant }

-- ---- one factor
-- the factor of a key is the factor of its term
named_factor_in : (ks : List Term) (d : ℤ) (k : ℕ) (ps : List Part) → AreDistinct ks → k < length ks → AllByRecursion (λ p. p.key < length ks) ps
    → factor_in Term_discrete (map (λ p. (get_or ks p.key (Bound 0), ratio p.factor d)) ps) (get_or ks k (Bound 0)) ≡ factor_in ℕ_discrete (map (λ p. (p.key, ratio p.factor d)) ps) k
named_factor_in ks d k [] a b h = refl
named_factor_in ks d k (p ∷ ps) a b h = by_tests (Term_discrete (get_or ks p.key (Bound 0)) (get_or ks k (Bound 0))) (ℕ_discrete p.key k) (named_factor_in ks d k ps a b h.1)
  where
    by_tests : (t : Dec (get_or ks p.key (Bound 0) ≡ get_or ks k (Bound 0))) (s : Dec (p.key ≡ k)) {x y : ℚ} → x ≡ y → pick t (ratio p.factor d +ℚ x) x ≡ pick s (ratio p.factor d +ℚ y) y
    by_tests (yes e) (yes f) ih = ap (λ x. ratio p.factor d +ℚ x) ih
    by_tests (yes e) (no n) ih = absurd (n (same_place ks p.key k (Bound 0) a h.0 b e))
    by_tests (no n) (yes f) ih = absurd (n (ap (λ i. get_or ks i (Bound 0)) f))
    by_tests (no n) (no m) ih = ih

pub named_factor : (ks : List Term) (f : Lin) (k : ℕ) → AreDistinct ks → HasKeys ks f → k < length ks → factor_of (named ks f) (get_or ks k (Bound 0)) ≡ factor ℕ_discrete (meaning f) k
named_factor ks f k a h b = named_factor_in ks f.den k f.parts a b h

-- a key that the terms lack has no factor
key_beyond_in : (n : ℕ) (d : ℤ) (k : ℕ) (ps : List Part) → n ≤ k → AllByRecursion (λ p. p.key < n) ps → factor_in ℕ_discrete (map (λ p. (p.key, ratio p.factor d)) ps) k ≡ zero_ℚ
key_beyond_in n d k [] b h = refl
key_beyond_in n d k (p ∷ ps) b h = pick_no (ℕ_discrete p.key k) _ _ (λ e. apart p.key k e h.0 b) ∙ key_beyond_in n d k ps b h.1
  where
    apart : (i j : ℕ) → i ≡ j → i < n → n ≤ j → ⊥
    apart i j e a c = omega (arith, e, a, c)

pub key_beyond : (ks : List Term) (f : Lin) (k : ℕ) → HasKeys ks f → length ks ≤ k → factor ℕ_discrete (meaning f) k ≡ zero_ℚ
key_beyond ks f k h b = key_beyond_in (length ks) f.den k f.parts b h

pub ratio_is_zero : (a d : ℤ) → pos 0 <ℤ d → ratio a d ≡ zero_ℚ → a ≡ pos 0
unfolding zero_ℚ
ratio_is_zero a (pos zero) p e = absurd (omega (arith, ints))
ratio_is_zero a (negsuc n) p e = absurd (omega (arith, ints))
ratio_is_zero a (pos (suc n)) p e = cancel_one a (same_frac a (pos 0) n 0 e)
  where
    cancel_one : (a : ℤ) → a *ℤ pos 1 ≡ pos 0 *ℤ pos (suc n) → a ≡ pos 0
    cancel_one a e = omega (arith, ints)

-- where the keys that the terms lack have no factor, a normal form has the terms' keys alone
keys_within_in : (f : Lin) (n : ℕ) (ps : List Part) → pos 0 <ℤ f.den → IsRising ps → AllByRecursion (λ p. p.factor ≢ pos 0) ps → ((k : ℕ) → n ≤ k → ratio (part_factor ps k) f.den ≡ zero_ℚ) → AllByRecursion (λ p. p.key < n) ps
keys_within_in f n [] d r z h = tt
keys_within_in f n (p ∷ ps) d r z h = (here, keys_within_in f n ps d r.1 z.1 (λ k b. ap (λ y. ratio y f.den) (sym (factor_tail p ps k (omega (arith, here, b)))) ∙ h k b))
  where
    by_order : (p.key < n) ⊎ (n ≤ p.key) → p.key < n
    by_order (inl b) = b
    by_order (inr b) = absurd (z.0 (ratio_is_zero p.factor f.den d (ap (λ y. ratio y f.den) (sym (factor_head p ps)) ∙ h p.key b)))

    here : p.key < n
    here = by_order (cases_lt p.key n)

pub keys_within : (ks : List Term) (f : Lin) → IsNormal f → ((k : ℕ) → length ks ≤ k → factor ℕ_discrete (meaning f) k ≡ zero_ℚ) → HasKeys ks f
keys_within ks f n h = keys_within_in f (length ks) f.parts n.positive n.rising n.nonzero (λ k b. sym (factor_meaning f k n.rising) ∙ h k b)

-- ---- normal forms over the same keys
-- forms that mean the same are equal
pub equal_forms : (ks : List Term) (f g : Lin) (a b : Linear) → IsFormOf ks f a → IsFormOf ks g b → IsSame a b → f ≡ g
equal_forms ks f g a b p q s = unique f g p.normal q.normal same
  where
    named_same : IsSame (named ks f) (named ks g)
    named_same = same_trans Term_discrete (named ks f) a (named ks g) p.means (same_trans Term_discrete a b (named ks g) s (same_sym Term_discrete (named ks g) b q.means))

    by_order : (k : ℕ) → (k < length ks) ⊎ (length ks ≤ k) → factor ℕ_discrete (meaning f) k ≡ factor ℕ_discrete (meaning g) k
    by_order k (inl h) = sym (named_factor ks f k p.distinct p.keys h) ∙ named_same.factors (get_or ks k (Bound 0)) ∙ named_factor ks g k p.distinct q.keys h
    by_order k (inr h) = key_beyond ks f k p.keys h ∙ sym (key_beyond ks g k q.keys h)

    same : SameMeaning (meaning f) (meaning g)
    same = record { factors = λ k. by_order k (cases_lt k (length ks)); constants = named_same.constants }

-- equal forms mean the same
pub same_meanings : (ks : List Term) (f g : Lin) (a b : Linear) → IsFormOf ks f a → IsFormOf ks g b → f ≡ g → IsSame a b
same_meanings ks f g a b p q e =
    same_trans Term_discrete a (named ks f) b (same_sym Term_discrete (named ks f) a p.means) (subst (λ h. IsSame (named ks h) b) (sym e) q.means)

-- a form means what is the same as its meaning
pub means_same : (ks : List Term) (f : Lin) (a b : Linear) → IsFormOf ks f a → IsSame a b → IsFormOf ks f b
means_same ks f a b p s = record { distinct = p.distinct; keys = p.keys; normal = p.normal; means = same_trans Term_discrete (named ks f) a b p.means s }

-- ---- sums and multiples
pub sum_form : (ks : List Term) (f g h : Lin) (a b : Linear) → IsFormOf ks f a → IsFormOf ks g b → IsNormal h → SameMeaning (meaning h) (plus (meaning f) (meaning g)) → IsFormOf ks h (plus a b)
sum_form ks f g h a b p q n s = record {
  distinct = p.distinct;
  keys = keys_within ks h n (λ k l. s.factors k ∙ factor_in-append ℕ_discrete (meaning f).parts (meaning g).parts k ∙ (λ i. key_beyond ks f k p.keys l i +ℚ key_beyond ks g k q.keys l i) ∙ zero_add_q zero_ℚ);
  normal = n;
  means = means;
}
  where
    put_sum : plus (put ks (meaning f)) (put ks (meaning g)) ≡ plus (named ks f) (named ks g)
    put_sum = λ i. plus (sym (named_put ks f) i) (sym (named_put ks g) i)

    means : IsSame (named ks h) (plus a b)
    means =
        same_trans Term_discrete (named ks h) (plus (named ks f) (named ks g)) (plus a b)
        (subst (λ x. IsSame x (plus (named ks f) (named ks g))) (sym (named_put ks h)) (subst (IsSame (put ks (meaning h))) (put_plus ks (meaning f) (meaning g) ∙ put_sum) (put_same ks (meaning h) (plus (meaning f) (meaning g)) s)))
        (plus-same Term_discrete (named ks f) a (named ks g) b p.means q.means)

pub multiple_form : (ks : List Term) (x : ℚ) (f h : Lin) (a : Linear) → IsFormOf ks f a → IsNormal h → SameMeaning (meaning h) (scale x (meaning f)) → IsFormOf ks h (scale x a)
multiple_form ks x f h a p n s = record {
  distinct = p.distinct;
  keys = keys_within ks h n (λ k l. s.factors k ∙ factor_in-scale ℕ_discrete x (meaning f).parts k ∙ ap (λ y. x *ℚ y) (key_beyond ks f k p.keys l) ∙ mul_zero_q x);
  normal = n;
  means = means;
}
  where
    means : IsSame (named ks h) (scale x a)
    means =
        same_trans Term_discrete (named ks h) (scale x (named ks f)) (scale x a)
        (subst (λ y. IsSame y (scale x (named ks f))) (sym (named_put ks h)) (subst (IsSame (put ks (meaning h))) (put_scale ks x (meaning f) ∙ ap (scale x) (sym (named_put ks f))) (put_same ks (meaning h) (scale x (meaning f)) s)))
        (scale-same Term_discrete x (named ks f) a p.means)

-- ---- keys that are added behind the others
named_kept_parts : (ks ls : List Term) (d : ℤ) → ((k : ℕ) → k < length ks → slice_get ls k ≡ slice_get ks k) → (ps : List Part) → AllByRecursion (λ p. p.key < length ks) ps
    → ◌≡◌ {A = List (Term × ℚ)} (map (λ p. (get_or ks p.key (Bound 0), ratio p.factor d)) ps) (map (λ p. (get_or ls p.key (Bound 0), ratio p.factor d)) ps)
named_kept_parts ks ls d kept [] h = refl
named_kept_parts ks ls d kept (p ∷ ps) h = λ i. (sym (same_term_there ks ls kept p.key (Bound 0) h.0) i, ratio p.factor d) ∷ named_kept_parts ks ls d kept ps h.1 i

keys_kept : (ks ls : List Term) → ((k : ℕ) → k < length ks → slice_get ls k ≡ slice_get ks k) → (ps : List Part) → AllByRecursion (λ p. p.key < length ks) ps → AllByRecursion (λ p. p.key < length ls) ps
keys_kept ks ls kept [] h = tt
keys_kept ks ls kept (p ∷ ps) h = (still_there ks ls kept p.key h.0, keys_kept ks ls kept ps h.1)

pub kept_form : (ks ls : List Term) (f : Lin) (a : Linear) → AreDistinct ls → ((k : ℕ) → k < length ks → slice_get ls k ≡ slice_get ks k) → IsFormOf ks f a → IsFormOf ls f a
kept_form ks ls f a d kept p = record {
  distinct = d;
  keys = keys_kept ks ls kept f.parts p.keys;
  normal = p.normal;
  means = subst (λ (ps : List (Term × ℚ)). IsSame (record { parts = ps; constant = ratio f.constant f.den }) a) (named_kept_parts ks ls f.den kept f.parts p.keys) p.means;
}

pub kept_twice : (ks ls ms : List Term) → ((k : ℕ) → k < length ks → slice_get ls k ≡ slice_get ks k) → ((k : ℕ) → k < length ls → slice_get ms k ≡ slice_get ls k) → (k : ℕ) → k < length ks → slice_get ms k ≡ slice_get ks k
kept_twice ks ls ms a b k h = b k (still_there ks ls a k h) ∙ a k h

-- ---- forms without an opaque term
-- a normal form without parts is a number
pub no_parts_constant : (ks : List Term) (f : Lin) (a : Linear) → IsFormOf ks f a → f.parts ≡ [] → (u : Term) → factor_of a u ≡ zero_ℚ
no_parts_constant ks f a p e u =
    sym (p.means.factors u) ∙ ap (λ ps. factor_in Term_discrete (map (λ (q : Part). (get_or ks q.key (Bound 0), ratio q.factor f.den)) ps) u) e

-- one with a part has an opaque term
pub part_occurs : (ks : List Term) (f : Lin) (a : Linear) (q : Part) (qs : List Part) → IsFormOf ks f a → f.parts ≡ q ∷ qs → ¬ ((u : Term) → factor_of a u ≡ zero_ℚ)
part_occurs ks f a q qs p e none = z.0 (ratio_is_zero q.factor f.den p.normal.positive gone)
  where
    z : AllByRecursion (λ p. p.factor ≢ pos 0) (q ∷ qs)
    z = subst (AllByRecursion (λ (p : Part). p.factor ≢ pos 0)) e p.normal.nonzero

    h : AllByRecursion (λ p. p.key < length ks) (q ∷ qs)
    h = subst (AllByRecursion (λ (p : Part). p.key < length ks)) e p.keys

    gone : ratio q.factor f.den ≡ zero_ℚ
    gone =
        ap (λ z. ratio z f.den) (sym (factor_head q qs) ∙ ap (λ ps. part_factor ps q.key) (sym e)) ∙ sym (factor_meaning f q.key p.normal.rising)
        ∙ sym (named_factor ks f q.key p.distinct p.keys h.0) ∙ p.means.factors (get_or ks q.key (Bound 0)) ∙ none (get_or ks q.key (Bound 0))
