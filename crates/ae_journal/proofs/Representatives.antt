-- Representatives: unique, least, and their own.
use Rattle.std.proofs.Common.{◌≡◌, ℕ, zero, suc, ◌+◌, ◌<◌, ◌≤◌, List, [], ◌∷◌, length, Option, Some, None, slice_get, inl, inr, ◌⊎◌, refl, sym, ◌∙◌, ap, arith}
use Rattle.std.proofs.lemmas.Option.{same_Some, none-some}
use Rattle.ae_core.specs.Sorts.{sort_of}
use Rattle.ae_base.specs.Options.{or_else}
use Rattle.ae_core.specs.Decided.{Term_discrete}
use Rattle.ae_base.specs.Decided.{pick}
use Rattle.ae_core.specs.declared.terms.Sort.{Sort}
use Rattle.ae_core.specs.declared.terms.Term.{Term}
use Rattle.ae_core.specs.declared.problems.Signature.{Signature}
use Rattle.ae_journal.specs.Systems.{value_at}
use Rattle.ae_journal.specs.TermValues.{number_from, IsLeast, value_by}
use Rattle.ae_journal.specs.Inner.Numbering.{term_number, same_number}
use Rattle.ae_journal.specs.Laws.{OneRepresentative, OneValue, LeafRepresentative, OneRepresentativeNow, RepresentsItself, OneLeaf}
use Rattle.ae_journal.specs.declared.lines.Line.{Line}

pub one_representative : OneRepresentative
one_representative sig y s v m n a b = omega (arith, a.least n b.has, b.least m a.has)

pub leaf_representative : LeafRepresentative
leaf_representative sig y s n r l p = (p.least n l, p.has.value)

pub one_value : OneValue
one_value sig y t v w c a b =
    let e : a.0 ≡ b.0 = c.apart a.0 b.0 t a.1 b.1 in
    same_Some v w (sym a.2 ∙ ap (value_at y) e ∙ b.2)

module _ (sig : Signature) (names : List Term) (js : List Line) where
  one_sort : (n : ℕ) (s t : Term) (o p : Sort) → slice_get names n ≡ Some s → slice_get names n ≡ Some t → sort_of sig s ≡ Some o → sort_of sig t ≡ Some p → (s ≡ t) × (o ≡ p)
  one_sort n s t o p a b c d = let e : s ≡ t = same_Some s t (sym a ∙ b) in (e, same_Some o p (sym c ∙ ap (sort_of sig) e ∙ d))

  at_most : (n q r : ℕ) → IsLeast sig names js n q → IsLeast sig names js n r → q ≤ r
  at_most n q r a b =
      let e = one_sort n a.term b.term a.sort b.sort a.is b.is a.sorted.0 b.sorted.0 in
      a.least r b.other b.stands (b.sorted.1 ∙ ap (λ s. Some s) (sym e.1)) (b.same ∙ ap (value_by sig names js) (sym e.0))

  pub one_now : (n q r : ℕ) → IsLeast sig names js n q → IsLeast sig names js n r → q ≡ r
  one_now n q r a b = omega (arith, at_most n q r a b, at_most n r q b a)

  pub itself_now : (n r : ℕ) → IsLeast sig names js n r → IsLeast sig names js r r
  itself_now n r a = record {
    term = a.other;
    other = a.other;
    sort = a.sort;
    is = a.stands;
    stands = a.stands;
    sorted = (a.sorted.1, a.sorted.1);
    same = refl;
    least = λ m t i s e. a.least m t i s (e ∙ a.same);
  }

pub one_representative_now : OneRepresentativeNow
one_representative_now x js = one_now x.problem.signature x.names _

pub represents_itself : RepresentsItself
represents_itself x js = itself_now x.problem.signature x.names _

-- ---- leaves of terms
-- a number in the list is that of the term at its place
found_by : (n k : ℕ) (u t : Term) (rest : Option ℕ) (d : Dec (u ≡ t)) → pick d (Some n) rest ≡ Some k → ((n ≡ k) × (u ≡ t)) ⊎ (rest ≡ Some k)
found_by n k u t rest (yes e) h = inl (same_Some n k h, e)
found_by n k u t rest (no e) h = inr h

found_at : (n : ℕ) (us : List Term) (t : Term) (k : ℕ) → number_from n us t ≡ Some k → (i : ℕ) × (k ≡ n + i) × (i < length us) × (slice_get us i ≡ Some t)
found_at n [] t k h = absurd (none-some k h)
found_at n (u ∷ us) t k h =
    elim (found_by n k u t (number_from (suc n) us t) (Term_discrete u t) h) [
      | inl p ↦ (zero, omega (arith, p.0), omega arith, ap (λ w. Some w) p.1)
      | inr r ↦ let f = found_at (suc n) us t k r in (suc f.0, omega (arith, f.1), omega (arith, f.2), f.3)
    ]

leaf_by : (names : List Term) (s t : Term) (o p : Option ℕ) → number_from 0 names s ≡ o → number_from 0 names t ≡ p
    → or_else o (length names + term_number s) ≡ or_else p (length names + term_number t) → s ≡ t
leaf_by names s t (Some m) (Some n) a b e =
    let f = found_at 0 names s m a in
    let g = found_at 0 names t n b in
    let i : f.0 ≡ g.0 = omega (arith, f.1, g.1, e) in
    same_Some s t (sym f.3 ∙ ap (slice_get names) i ∙ g.3)
leaf_by names s t (Some m) None a b e = let f = found_at 0 names s m a in absurd (omega (arith, f.1, f.2, e))
leaf_by names s t None (Some n) a b e = let g = found_at 0 names t n b in absurd (omega (arith, g.1, g.2, e))
leaf_by names s t None None a b e = same_number s t (omega (arith, e))

pub one_leaf : OneLeaf
one_leaf names s t e = leaf_by names s t (number_from 0 names s) (number_from 0 names t) refl refl e
