-- What allowed lines state follows, and consequence is an equivalence on well-sorted terms.
use Rattle.std.specs.Prelude.{Bool, true, ℕ, zero, suc, ℤ, ◌⊎◌, List, [], ◌∷◌, ◌++◌, ◌≡◌}
use mathlib.Core.Logic.{inl, inr, ⊎_elim}
use mathlib.Core.Path.{sym, ap, ◌∙◌, subst}
use mathlib.Core.List.{append_assoc, append-nil}
use Rattle.ae_core.specs.declared.terms.Term.{Term, Apply}
use Rattle.ae_core.specs.declared.formulas.Lit.{Lit}
use Rattle.ae_core.specs.declared.problems.Signature.{Signature}
use Rattle.ae_core.specs.declared.proofs.Scaled.{Scaled}
use Rattle.ae_core.specs.declared.proofs.EqLine.{EqLine}
use Rattle.ae_core.specs.declared.proofs.EqLine.TheVariants.{EqHyp, EqRefl, EqSym, EqTrans, EqCong, EqAc, EqLin, EqField, EqFields, LeHyp, LtHyp, LeSum, LtSum, LeRound}
use Rattle.ae_rules.specs.Lines.{Fact, equal, states, Stated, Equated, Combined, Allowed, AllAllowed, Follows, by_hyp, by_refl, by_sym, by_trans, by_cong, by_ac, by_lin, by_field, by_le_hyp, by_lt_hyp, by_le_sum, by_lt_sum, by_fields, by_round, FollowAll, none, more, FollowEach, no_fact, a_fact, Among, Conseq, fact_ok}

module _ (sig : Signature) (ok : Fact → Bool) (hyps : List Lit) where
  abbrev Known : List EqLine → Type 0
  Known earlier = (k : ℕ) (f : Fact) → Stated earlier k f → Follows sig ok (Among hyps) f

  all_equated : (earlier : List EqLine) → Known earlier → (ks : List ℕ) (us vs : List Term) → Equated earlier ks us vs → FollowAll sig ok (Among hyps) us vs
  all_equated earlier known [] [] [] e = none
  all_equated earlier known (k ∷ ks) (u ∷ us) (v ∷ vs) e = more (known k (equal u v) e.0) (all_equated earlier known ks us vs e.1)
  all_equated earlier known [] [] (v ∷ vs) e = absurd e
  all_equated earlier known [] (u ∷ us) vs e = absurd e
  all_equated earlier known (k ∷ ks) [] vs e = absurd e
  all_equated earlier known (k ∷ ks) (u ∷ us) [] e = absurd e

  all_combined : (earlier : List EqLine) → Known earlier → (ps : List Scaled) (fs : List (ℤ × Fact)) → Combined earlier ps fs → FollowEach sig ok (Among hyps) fs
  all_combined earlier known [] [] c = no_fact
  all_combined earlier known (p ∷ ps) (f ∷ fs) c = a_fact (known p.line f.1 c.1) (all_combined earlier known ps fs c.2)
  all_combined earlier known [] (f ∷ fs) c = absurd c
  all_combined earlier known (p ∷ ps) [] c = absurd c

  follows_one : (earlier : List EqLine) → Known earlier → (l : EqLine) → ok (states l) ≡ true → Allowed sig hyps earlier l → Follows sig ok (Among hyps) (states l)
  follows_one earlier known (EqHyp s t i) o a = by_hyp (i, a) o
  follows_one earlier known (EqRefl s t) o a = subst (λ u. Follows sig ok (Among hyps) (equal s u)) a (by_refl (ap (λ u. ok (equal s u)) a ∙ o))
  follows_one earlier known (EqSym s t k) o a = by_sym (known k (equal t s) a) o
  follows_one earlier known (EqTrans s t j k) o (m, a, b) = by_trans (known j (equal s m) a) (known k (equal m t) b) o
  follows_one earlier known (EqCong s t ks) o (h, ss, us, vs, a, b, e) =
      let f : Follows sig ok (Among hyps) (equal (Apply h ss us) (Apply h ss vs)) =
      by_cong h ss (all_equated earlier known ks us vs e) ((λ i. ok (equal (sym a i) (sym b i))) ∙ o) in
      subst (λ (p : Term × Term). Follows sig ok (Among hyps) (equal p.0 p.1)) (λ i. (sym a i, sym b i)) f
  follows_one earlier known (EqAc s t) o (h, ss, ac, us, vs, x, y, p) = by_ac h ss us vs ac x y p o
  follows_one earlier known (EqLin s t d ps) o (n, fs, c, q, z) = by_lin d fs n q z (all_combined earlier known ps fs c) o
  follows_one earlier known (EqField s t) o (n, place, ss, args, a, g) =
      subst (λ u. Follows sig ok (Among hyps) (equal u t)) (sym a) (by_field n place ss args g (ap (λ u. ok (equal u t)) (sym a) ∙ o))
  follows_one earlier known (EqFields s t ks) o (n, ss, e, fs, a, b, c, q) = by_fields n ss e fs a b c (all_equated earlier known ks _ _ q) o
  follows_one earlier known (LeHyp s t i) o a = by_le_hyp (⊎_elim (λ x. inl (i, x)) (λ x. inr (i, x)) a) o
  follows_one earlier known (LtHyp s t i) o a = by_lt_hyp (⊎_elim (λ x. inl (i, x)) (λ x. inr (i, x)) a) o
  follows_one earlier known (LeSum s t d ps) o (n, fs, c, q, z) = by_le_sum d fs n q z (all_combined earlier known ps fs c) o
  follows_one earlier known (LtSum s t d ps) o (n, fs, c, q, w, z) = by_lt_sum d fs n q w z (all_combined earlier known ps fs c) o
  follows_one earlier known (LeRound s t k) o (from, a, r) = by_round from r (known k from a) o

  last_or_before : (earlier : List EqLine) (l : EqLine) (k : ℕ) (f : Fact) → Stated (earlier ++ l ∷ []) k f → Stated earlier k f ⊎ (states l ≡ f)
  last_or_before [] l zero f e = inr cc
  last_or_before [] l (suc k) f e = inl e
  last_or_before (x ∷ xs) l zero f e = inl e
  last_or_before (x ∷ xs) l (suc k) f e = last_or_before xs l k f e

  -- every fact that allowed lines state follows from the hypotheses
  pub all_follow : (earlier rest : List EqLine) → Known earlier → AllAllowed sig ok hyps earlier rest → Known (earlier ++ rest)
  all_follow earlier [] known a = subst Known (sym (append-nil earlier)) known
  all_follow earlier (l ∷ rest) known a =
      let one = follows_one earlier known l a.0.0 a.0.1 in
      let next : Known (earlier ++ l ∷ []) = λ k f e. ⊎_elim (known k f) (λ s. subst (Follows sig ok (Among hyps)) s one) (last_or_before earlier l k f e) in
      subst Known (append_assoc earlier (l ∷ []) rest) (all_follow (earlier ++ l ∷ []) rest next a.1)

-- ---- consequence is reflexive, symmetric and transitive, on good facts
module _ (sig : Signature) (E : Term → Term → Type 0) where
  pub Conseq-refl : (s : Term) → fact_ok sig (equal s s) ≡ true → Conseq sig E s s
  Conseq-refl s o = by_refl o

  pub Conseq-sym : (s t : Term) → fact_ok sig (equal t s) ≡ true → Conseq sig E s t → Conseq sig E t s
  Conseq-sym s t o c = by_sym c o

  pub Conseq-trans : (s m t : Term) → fact_ok sig (equal s t) ≡ true → Conseq sig E s m → Conseq sig E m t → Conseq sig E s t
  Conseq-trans s m t o a b = by_trans a b o
