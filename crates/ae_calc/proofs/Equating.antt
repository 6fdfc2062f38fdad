-- Lines that equate the terms of two lists, and the fields of two records, one by one.
use Rattle.std.specs.Prelude.{ℕ, zero, suc, ◌+◌, ◌<◌, ◌≤◌, List, [], ◌∷◌, ◌++◌, ◌≡◌, length, take, get_or}
use Rattle.std.proofs.lemmas.List.{take_more, take_all}
use mathlib.Core.Path.{refl, sym, ap, ◌∙◌, subst}
use native.Mathlib.Omega.{arith}
use Rattle.ae_rules.specs.Lines.{Stated, Equated, equal, fields_from}
use Rattle.ae_core.specs.declared.terms.Sort.{Sort}
use Rattle.ae_core.specs.declared.terms.Term.{Term, Apply}
use Rattle.ae_core.specs.declared.terms.Head.TheVariants as head
use Rattle.ae_core.specs.declared.proofs.EqLine.{EqLine}

equated_push : (e : List EqLine) (ks : List ℕ) (us vs : List Term) (k : ℕ) (u v : Term) → Equated e ks us vs → Stated e k (equal u v) → Equated e (ks ++ k ∷ []) (us ++ u ∷ []) (vs ++ v ∷ [])
equated_push e [] [] [] k u v a s = (s, tt)
equated_push e (j ∷ ks) (x ∷ us) (y ∷ vs) k u v a s = (a.0, equated_push e ks us vs k u v a.1 s)
equated_push e ks us vs k u v a s = absurd a

equated_at : (e : List EqLine) (ks : List ℕ) (us vs : List Term) (i k : ℕ) (u v : Term) → i < length ks → Equated e ks us vs → Stated e (get_or ks i k) (equal (get_or us i u) (get_or vs i v))
equated_at e [] us vs i k u v b a = absurd (omega (arith, b))
equated_at e (j ∷ ks) (x ∷ us) (y ∷ vs) zero k u v b a = a.0
equated_at e (j ∷ ks) (x ∷ us) (y ∷ vs) (suc i) k u v b a = equated_at e ks us vs i k u v (omega (arith, b)) a.1
equated_at e ks us vs i k u v b a = absurd a

-- the lists are of one length
pub equated_lengths : (e : List EqLine) (ks : List ℕ) (us vs : List Term) → Equated e ks us vs → (length ks ≡ length us) × (length ks ≡ length vs)
equated_lengths e [] [] [] a = (refl, refl)
equated_lengths e (j ∷ ks) (x ∷ us) (y ∷ vs) a =
    let h = equated_lengths e ks us vs a.1 in
    (ap suc h.0, ap suc h.1)
equated_lengths e ks us vs a = absurd a

-- one more line that equates two terms
pub equated_more : (e : List EqLine) (ks : List ℕ) (us vs : List Term) (i k : ℕ) (u v : Term) → i < length ks → length ks ≡ length us → length ks ≡ length vs → Equated e (take i ks) (take i us) (take i vs) → Stated e (get_or ks i k) (equal (get_or us i u) (get_or vs i v)) → Equated e (take (i + 1) ks) (take (i + 1) us) (take (i + 1) vs)
equated_more e ks us vs i k u v b p q a s =
    subst (λ (w : List ℕ × List Term × List Term). Equated e w.0 w.1 w.2)
    (λ j. (sym (take_more ks i k b) j, sym (take_more us i u (omega (arith, b, p))) j, sym (take_more vs i v (omega (arith, b, q))) j))
    (equated_push e (take i ks) (take i us) (take i vs) (get_or ks i k) (get_or us i u) (get_or vs i v) a s)

-- one line that doesn't
pub equated_stop : (e : List EqLine) (ks : List ℕ) (us vs : List Term) (i k : ℕ) (u v : Term) → i < length ks → ¬ (Stated e (get_or ks i k) (equal (get_or us i u) (get_or vs i v))) → ¬ (Equated e ks us vs)
equated_stop e ks us vs i k u v b n a = n (equated_at e ks us vs i k u v b a)

-- ---- the fields of records
pub length-fields_from : (n : ℕ) (ss : List Sort) (t : Term) (i k : ℕ) → length (fields_from n ss t i k) ≡ k
length-fields_from n ss t i zero = refl
length-fields_from n ss t i (suc k) = ap suc (length-fields_from n ss t (suc i) k)

abbrev field_of : ℕ → List Sort → Term → ℕ → Term
field_of n ss t i = Apply (head.Field n i) ss (t ∷ [])

field_at : (n : ℕ) (ss : List Sort) (t : Term) (from k i : ℕ) (d : Term) → i < k → get_or (fields_from n ss t from k) i d ≡ field_of n ss t (from + i)
field_at n ss t from zero i d b = absurd (omega (arith, b))
field_at n ss t from (suc k) zero d b = ap (field_of n ss t) (omega arith)
field_at n ss t from (suc k) (suc i) d b = field_at n ss t (suc from) k i d (omega (arith, b)) ∙ ap (field_of n ss t) (omega arith)

field_from_0 : (n : ℕ) (ss : List Sort) (t : Term) (k i : ℕ) (d : Term) → i < k → get_or (fields_from n ss t 0 k) i d ≡ field_of n ss t i
field_from_0 n ss t k i d b = field_at n ss t 0 k i d b ∙ ap (field_of n ss t) (omega arith)

pub fields_lengths : (e : List EqLine) (ks : List ℕ) (n : ℕ) (ss : List Sort) (s t : Term) (k : ℕ) → Equated e ks (fields_from n ss s 0 k) (fields_from n ss t 0 k) → length ks ≡ k
fields_lengths e ks n ss s t k a = (equated_lengths e ks (fields_from n ss s 0 k) (fields_from n ss t 0 k) a).0 ∙ length-fields_from n ss s 0 k

pub fields_more : (e : List EqLine) (ks : List ℕ) (n : ℕ) (ss : List Sort) (s t : Term) (k i d : ℕ) → i < length ks → length ks ≡ k → Equated e (take i ks) (take i (fields_from n ss s 0 k)) (take i (fields_from n ss t 0 k)) → Stated e (get_or ks i d) (equal (Apply (head.Field n i) ss (s ∷ [])) (Apply (head.Field n i) ss (t ∷ []))) → Equated e (take (i + 1) ks) (take (i + 1) (fields_from n ss s 0 k)) (take (i + 1) (fields_from n ss t 0 k))
fields_more e ks n ss s t k i d b p a h =
    let below : i < k = omega (arith, b, p) in
    equated_more e ks (fields_from n ss s 0 k) (fields_from n ss t 0 k) i d s t b (p ∙ sym (length-fields_from n ss s 0 k)) (p ∙ sym (length-fields_from n ss t 0 k)) a
    (subst (λ (w : Term × Term). Stated e (get_or ks i d) (equal w.0 w.1)) (λ j. (sym (field_from_0 n ss s k i s below) j, sym (field_from_0 n ss t k i t below) j)) h)

pub fields_stop : (e : List EqLine) (ks : List ℕ) (n : ℕ) (ss : List Sort) (s t : Term) (k i d : ℕ) → i < length ks → length ks ≡ k → ¬ (Stated e (get_or ks i d) (equal (Apply (head.Field n i) ss (s ∷ [])) (Apply (head.Field n i) ss (t ∷ [])))) → ¬ (Equated e ks (fields_from n ss s 0 k) (fields_from n ss t 0 k))
fields_stop e ks n ss s t k i d b p m a =
    let below : i < k = omega (arith, b, p) in
    m (subst (λ (w : Term × Term). Stated e (get_or ks i d) (equal w.0 w.1)) (λ j. (field_from_0 n ss s k i s below j, field_from_0 n ss t k i t below j))
    (equated_at e ks (fields_from n ss s 0 k) (fields_from n ss t 0 k) i d s t b a))

pub fields_end : (e : List EqLine) (ks : List ℕ) (n : ℕ) (ss : List Sort) (s t : Term) (k i : ℕ) → length ks ≤ i → length ks ≡ k → Equated e (take i ks) (take i (fields_from n ss s 0 k)) (take i (fields_from n ss t 0 k)) → Equated e ks (fields_from n ss s 0 k) (fields_from n ss t 0 k)
fields_end e ks n ss s t k i b p a =
    subst (λ (w : List ℕ × List Term × List Term). Equated e w.0 w.1 w.2)
    (λ j. (
      take_all i ks b j,
      take_all i (fields_from n ss s 0 k) (omega (arith, b, p, length-fields_from n ss s 0 k)) j,
      take_all i (fields_from n ss t 0 k) (omega (arith, b, p, length-fields_from n ss t 0 k)) j,
    ))
    a
