-- Consequence is an equivalence and a congruence on well-sorted terms, and within the plain fragment.
use Rattle.std.specs.Prelude.{ℤ, Bool, true, ◌&&◌, List, [], ◌∷◌, ◌≡◌, map}
use Rattle.std.specs.List.{list_all}
use mathlib.Core.Path.{refl, sym, ap, ◌∙◌}
use Rattle.ae_core.specs.declared.terms.Sort.{Sort}
use Rattle.ae_core.specs.declared.terms.Head.{Head}
use Rattle.ae_core.specs.declared.terms.Term.{Term, Apply}
use Rattle.ae_core.specs.declared.formulas.Lit.{Lit}
use Rattle.ae_core.specs.declared.problems.Signature.{Signature}
use Rattle.ae_core.specs.Sorts.{sort_of, is_closed_sort, head_sort, term_ok}
use Rattle.ae_base.specs.Options.{known, all_known, only, ◌>>=◌}
use Rattle.ae_rules.specs.Linear.{is_plain}
use Rattle.ae_rules.specs.Lines.{Fact, equal, fact_ok, plain_ok, Equations, Conseq, PlainConseq, Follows, by_hyp, by_refl, by_sym, by_trans, by_cong, by_ac, by_lin, by_field, by_le_hyp, by_lt_hyp, by_le_sum, by_lt_sum, by_fields, by_round, FollowAll, none, more, FollowEach, no_fact, a_fact}
use Rattle.ae_base.specs.Relations.{Pairwise}
use Rattle.ae_core.proofs.SortLaws.{sort_in_apply}
use Rattle.ae_core.proofs.SortFacts.{same_known_is, same_known_of}
use Rattle.ae_rules.proofs.Respects.{follows_ok}
use Rattle.ae_base.proofs.Tests.{three_parts}

-- ---- what follows with one choice of good facts follows with a wider one
module _ (sig : Signature) (ok wider : Fact → Bool) (hyps : Lit → Type 0) (widen : (f : Fact) → ok f ≡ true → wider f ≡ true) where
  mutual
    pub loosen : {f : Fact} → Follows sig ok hyps f → Follows sig wider hyps f
    loosen (by_hyp h o) = by_hyp h (widen _ o)
    loosen (by_refl o) = by_refl (widen _ o)
    loosen (by_sym a o) = by_sym (loosen a) (widen _ o)
    loosen (by_trans a b o) = by_trans (loosen a) (loosen b) (widen _ o)
    loosen (by_cong h ss a o) = by_cong h ss (loosen_all a) (widen _ o)
    loosen (by_ac h ss us vs c x y p o) = by_ac h ss us vs c x y p (widen _ o)
    loosen (by_lin d fs n q z a o) = by_lin d fs n q z (loosen_each a) (widen _ o)
    loosen (by_field n place ss args g o) = by_field n place ss args g (widen _ o)
    loosen (by_le_hyp h o) = by_le_hyp h (widen _ o)
    loosen (by_lt_hyp h o) = by_lt_hyp h (widen _ o)
    loosen (by_le_sum d fs n q z a o) = by_le_sum d fs n q z (loosen_each a) (widen _ o)
    loosen (by_lt_sum d fs n q w z a o) = by_lt_sum d fs n q w z (loosen_each a) (widen _ o)
    loosen (by_fields n ss e fs a b c q o) = by_fields n ss e fs a b c (loosen_all q) (widen _ o)
    loosen (by_round from r a o) = by_round from r (loosen a) (widen _ o)

    loosen_all : {us vs : List Term} → FollowAll sig ok hyps us vs → FollowAll sig wider hyps us vs
    loosen_all none = none
    loosen_all (more a b) = more (loosen a) (loosen_all b)

    loosen_each : {fs : List (ℤ × Fact)} → FollowEach sig ok hyps fs → FollowEach sig wider hyps fs
    loosen_each no_fact = no_fact
    loosen_each (a_fact a b) = a_fact (loosen a) (loosen_each b)

-- ---- consequence
module _ (sig : Signature) (E : Term → Term → Type 0) where
  pub conseq_sorted : (s t : Term) → Conseq sig E s t → (term_ok sig s ≡ true) × (sort_of sig s ≡ sort_of sig t)
  conseq_sorted s t c = same_known_is (sort_of sig s) (sort_of sig t) (follows_ok c)

  pub conseq_given : (s t : Term) → E s t → term_ok sig s ≡ true → sort_of sig s ≡ sort_of sig t → Conseq sig E s t
  conseq_given s t e k o = by_hyp (s, t, e, refl) (same_known_of (sort_of sig s) (sort_of sig t) k o)

  pub conseq_reflexive : (s : Term) → term_ok sig s ≡ true → Conseq sig E s s
  conseq_reflexive s k = by_refl (same_known_of (sort_of sig s) (sort_of sig s) k refl)

  turned : (s t : Term) → fact_ok sig (equal s t) ≡ true → fact_ok sig (equal t s) ≡ true
  turned s t o =
      let k = same_known_is (sort_of sig s) (sort_of sig t) o in
      same_known_of (sort_of sig t) (sort_of sig s) (ap known (sym k.1) ∙ k.0) (sym k.1)

  joined : (s m t : Term) → fact_ok sig (equal s m) ≡ true → fact_ok sig (equal m t) ≡ true → fact_ok sig (equal s t) ≡ true
  joined s m t o p =
      let k = same_known_is (sort_of sig s) (sort_of sig m) o in
      let l = same_known_is (sort_of sig m) (sort_of sig t) p in
      same_known_of (sort_of sig s) (sort_of sig t) k.0 (k.1 ∙ l.1)

  pub conseq_symmetric : (s t : Term) → Conseq sig E s t → Conseq sig E t s
  conseq_symmetric s t c = by_sym c (turned s t (follows_ok c))

  pub conseq_transitive : (s m t : Term) → Conseq sig E s m → Conseq sig E m t → Conseq sig E s t
  conseq_transitive s m t c d = by_trans c d (joined s m t (follows_ok c) (follows_ok d))

  pairs : (ok : Fact → Bool) (us vs : List Term) → Pairwise (λ u v. Follows sig ok (Equations E) (equal u v)) us vs → FollowAll sig ok (Equations E) us vs
  pairs ok [] [] p = none
  pairs ok (u ∷ us) (v ∷ vs) p = more p.0 (pairs ok us vs p.1)
  pairs ok [] (v ∷ vs) p = absurd p
  pairs ok (u ∷ us) [] p = absurd p

  same_sorts_each : (us vs : List Term) → Pairwise (Conseq sig E) us vs → map (sort_of sig) us ≡ map (sort_of sig) vs
  same_sorts_each [] [] p = refl
  same_sorts_each (u ∷ us) (v ∷ vs) p = λ i. (conseq_sorted u v p.0).1 i ∷ same_sorts_each us vs p.1 i
  same_sorts_each [] (v ∷ vs) p = absurd p
  same_sorts_each (u ∷ us) [] p = absurd p

  same_sort_applied : (h : Head) (ss : List Sort) (us vs : List Term) → Pairwise (Conseq sig E) us vs → sort_of sig (Apply h ss us) ≡ sort_of sig (Apply h ss vs)
  same_sort_applied h ss us vs p =
      let may = is_closed_sort sig in
      sort_in_apply sig may [] h ss us ∙ ap (λ os. only (list_all may ss) (all_known os) >>= head_sort sig h ss) (same_sorts_each us vs p) ∙ sym (sort_in_apply sig may [] h ss vs)

  applied_ok : (h : Head) (ss : List Sort) (us vs : List Term) → Pairwise (Conseq sig E) us vs → term_ok sig (Apply h ss us) ≡ true → fact_ok sig (equal (Apply h ss us) (Apply h ss vs)) ≡ true
  applied_ok h ss us vs p k = same_known_of (sort_of sig (Apply h ss us)) (sort_of sig (Apply h ss vs)) k (same_sort_applied h ss us vs p)

  pub conseq_congruent : (h : Head) (ss : List Sort) (us vs : List Term) → Pairwise (Conseq sig E) us vs → term_ok sig (Apply h ss us) ≡ true → Conseq sig E (Apply h ss us) (Apply h ss vs)
  conseq_congruent h ss us vs p k = by_cong h ss (pairs (fact_ok sig) us vs p) (applied_ok h ss us vs p k)

  -- ---- within the plain fragment

  plain_parts : (f : Fact) → plain_ok sig f ≡ true → (fact_ok sig f ≡ true) × (is_plain f.left ≡ true) × (is_plain f.right ≡ true)
  plain_parts f = three_parts (fact_ok sig f) (is_plain f.left) (is_plain f.right)

  plain_from : (s t : Term) → fact_ok sig (equal s t) ≡ true → is_plain s ≡ true → is_plain t ≡ true → plain_ok sig (equal s t) ≡ true
  plain_from s t o p q = λ i. o i && p i && q i

  pub plain_is_conseq : (s t : Term) → PlainConseq sig E s t → Conseq sig E s t
  plain_is_conseq s t c = loosen sig (plain_ok sig) (fact_ok sig) (Equations E) (λ f o. (plain_parts f o).0) c

  pub plain_sides : (s t : Term) → PlainConseq sig E s t → (is_plain s ≡ true) × (is_plain t ≡ true)
  plain_sides s t c = let o = plain_parts (equal s t) (follows_ok c) in (o.1, o.2)

  pub plain_reflexive : (s : Term) → term_ok sig s ≡ true → is_plain s ≡ true → PlainConseq sig E s s
  plain_reflexive s k p = by_refl (plain_from s s (same_known_of (sort_of sig s) (sort_of sig s) k refl) p p)

  pub plain_symmetric : (s t : Term) → PlainConseq sig E s t → PlainConseq sig E t s
  plain_symmetric s t c = let o = plain_parts (equal s t) (follows_ok c) in by_sym c (plain_from t s (turned s t o.0) o.2 o.1)

  pub plain_transitive : (s m t : Term) → PlainConseq sig E s m → PlainConseq sig E m t → PlainConseq sig E s t
  plain_transitive s m t c d =
      let o = plain_parts (equal s m) (follows_ok c) in
      let p = plain_parts (equal m t) (follows_ok d) in
      by_trans c d (plain_from s t (joined s m t o.0 p.0) o.1 p.2)

  pairs_loosened : (us vs : List Term) → Pairwise (PlainConseq sig E) us vs → Pairwise (Conseq sig E) us vs
  pairs_loosened [] [] p = tt
  pairs_loosened (u ∷ us) (v ∷ vs) p = (plain_is_conseq u v p.0, pairs_loosened us vs p.1)
  pairs_loosened [] (v ∷ vs) p = absurd p
  pairs_loosened (u ∷ us) [] p = absurd p

  pub plain_congruent : (h : Head) (ss : List Sort) (us vs : List Term) → Pairwise (PlainConseq sig E) us vs → term_ok sig (Apply h ss us) ≡ true → is_plain (Apply h ss us) ≡ true → is_plain (Apply h ss vs) ≡ true → PlainConseq sig E (Apply h ss us) (Apply h ss vs)
  plain_congruent h ss us vs p k a b =
      by_cong h ss (pairs (plain_ok sig) us vs p) (plain_from (Apply h ss us) (Apply h ss vs) (applied_ok h ss us vs (pairs_loosened us vs p) k) a b)
