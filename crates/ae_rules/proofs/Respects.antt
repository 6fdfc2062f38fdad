-- Values that respect each rule respect what follows.
use Rattle.std.specs.Prelude.{ℤ, Bool, true, List, ◌∷◌, ◌≡◌, map}
use Rattle.std.specs.List.{AllByRecursion}
use mathlib.Core.Path.{refl, sym, ap, ◌∙◌, subst}
use Rattle.std.specs.List.Sorted.{IsPermutation}
use Rattle.ae_core.specs.declared.terms.Sort.{Sort}
use Rattle.ae_core.specs.declared.terms.Head.{Head}
use Rattle.ae_core.specs.declared.terms.Term.{Term, Apply}
use Rattle.ae_core.specs.declared.formulas.Lit.{Lit}
use Rattle.ae_core.specs.declared.problems.Signature.{Signature}
use Rattle.ae_rules.specs.Lines.{Fact, equal, IsAc, flat, Follows, by_hyp, by_refl, by_sym, by_trans, by_cong, by_ac, by_lin, by_field, by_le_hyp, by_lt_hyp, by_le_sum, by_lt_sum, by_fields, by_round, FollowAll, none, more, FollowEach, no_fact, a_fact}
use Rattle.ae_rules.specs.Valuations.{Means, IsEstablished, Respects}

-- what follows is ok
pub follows_ok : {sig : Signature} {ok : Fact → Bool} {hyps : Lit → Type 0} {f : Fact} → Follows sig ok hyps f → ok f ≡ true
follows_ok (by_hyp h o) = o
follows_ok (by_refl o) = o
follows_ok (by_sym a o) = o
follows_ok (by_trans a b o) = o
follows_ok (by_cong h ss a o) = o
follows_ok (by_ac h ss us vs c x y p o) = o
follows_ok (by_lin d fs n q z a o) = o
follows_ok (by_field n place ss args g o) = o
follows_ok (by_le_hyp h o) = o
follows_ok (by_lt_hyp h o) = o
follows_ok (by_le_sum d fs n q z a o) = o
follows_ok (by_lt_sum d fs n q w z a o) = o
follows_ok (by_fields n ss e fs a b c q o) = o
follows_ok (by_round from r a o) = o

module _ {V : Type 0} (sig : Signature) (ok : Fact → Bool) (hyps : Lit → Type 0) (ev : Term → V) (le lt : V → V → Bool) (laws : Respects sig ok hyps ev le lt) where
  respects_ac : (s t : Term) (h : Head) (ss : List Sort) (us vs : List Term) → IsAc sig h → s ≡ Apply h ss us → t ≡ Apply h ss vs → IsPermutation (flat h ss s) (flat h ss t) → ok (equal s t) ≡ true → ev s ≡ ev t
  respects_ac s t h ss us vs c x y p o =
      let q = subst (λ (w : Term × Term). IsPermutation (flat h ss w.0) (flat h ss w.1) × (ok (equal w.0 w.1) ≡ true)) (λ i. (x i, y i)) (p, o) in
      ap ev x ∙ laws.rules.ac h ss us vs c q.0 q.1 ∙ sym (ap ev y)

  mutual
    pub respects : {f : Fact} → Follows sig ok hyps f → Means ev le lt f
    respects (by_hyp h o) = laws.hyp _ _ h o
    respects (by_refl o) = refl
    respects (by_sym a o) = sym (respects a)
    respects (by_trans a b o) = respects a ∙ respects b
    respects (by_cong h ss {us = us} {vs = vs} a o) = laws.rules.cong h ss us vs (respects_all a) o
    respects (by_ac {s = s} {t = t} h ss us vs c x y p o) = respects_ac s t h ss us vs c x y p o
    respects (by_lin {s = s} {t = t} d fs n q z a o) = laws.rules.lin s t d fs n q z (respects_each a) o
    respects (by_field n place ss args {t = t} g o) = laws.rules.field n place ss args t g o
    respects (by_le_hyp {s = s} {t = t} h o) = laws.le_hyp s t h o
    respects (by_lt_hyp {s = s} {t = t} h o) = laws.lt_hyp s t h o
    respects (by_le_sum {s = s} {t = t} d fs n q z a o) = laws.rules.le_sum s t d fs n q z (respects_each a) o
    respects (by_lt_sum {s = s} {t = t} d fs n q w z a o) = laws.rules.lt_sum s t d fs n q w z (respects_each a) o
    respects (by_fields {s = s} {t = t} n ss e fs a b c q o) = laws.rules.fields s t n ss e fs a b c (respects_all q) o
    respects (by_round {s = s} {t = t} from r a o) = laws.rules.round s t from r (follows_ok a, respects a) o

    respects_all : {us vs : List Term} → FollowAll sig ok hyps us vs → map ev us ≡ map ev vs
    respects_all none = refl
    respects_all (more a b) = λ i. respects a i ∷ respects_all b i

    respects_each : {fs : List (ℤ × Fact)} → FollowEach sig ok hyps fs → AllByRecursion (λ f. IsEstablished ok ev le lt f.1) fs
    respects_each no_fact = tt
    respects_each (a_fact a b) = ((follows_ok a, respects a), respects_each b)
