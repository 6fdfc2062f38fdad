-- What follows from some equations follows from more.
use Rattle.std.specs.Prelude.{ℤ, Bool, List, ◌⊎◌}
use Rattle.std.proofs.Common.{inl, inr}
use Rattle.ae_core.specs.declared.formulas.Lit.{Lit}
use Rattle.ae_core.specs.declared.problems.Signature.{Signature}
use Rattle.ae_core.specs.declared.terms.Term.{Term}
use Rattle.ae_rules.specs.Lines.{Fact, fact_ok, Equations, Conseq, Follows, by_hyp, by_refl, by_sym, by_trans, by_cong, by_ac, by_lin, by_field, by_le_hyp, by_lt_hyp, by_le_sum, by_lt_sum, by_fields, by_round, FollowAll, none, more, FollowEach, no_fact, a_fact}

module _ (sig : Signature) (ok : Fact → Bool) (few many : Lit → Type 0) (wider : (l : Lit) → few l → many l) where
  either : (l m : Lit) → few l ⊎ few m → many l ⊎ many m
  either l m (inl h) = inl (wider l h)
  either l m (inr h) = inr (wider m h)

  mutual
    follow_more : {f : Fact} → Follows sig ok few f → Follows sig ok many f
    follow_more (by_hyp h o) = by_hyp (wider _ h) o
    follow_more (by_refl o) = by_refl o
    follow_more (by_sym a o) = by_sym (follow_more a) o
    follow_more (by_trans a b o) = by_trans (follow_more a) (follow_more b) o
    follow_more (by_cong h ss a o) = by_cong h ss (follow_all_more a) o
    follow_more (by_ac h ss us vs c x y p o) = by_ac h ss us vs c x y p o
    follow_more (by_lin d fs n q z a o) = by_lin d fs n q z (follow_each_more a) o
    follow_more (by_field n place ss args g o) = by_field n place ss args g o
    follow_more (by_le_hyp h o) = by_le_hyp (either _ _ h) o
    follow_more (by_lt_hyp h o) = by_lt_hyp (either _ _ h) o
    follow_more (by_le_sum d fs n q z a o) = by_le_sum d fs n q z (follow_each_more a) o
    follow_more (by_lt_sum d fs n q w z a o) = by_lt_sum d fs n q w z (follow_each_more a) o
    follow_more (by_fields n ss e fs a b c q o) = by_fields n ss e fs a b c (follow_all_more q) o
    follow_more (by_round from r a o) = by_round from r (follow_more a) o

    follow_all_more : {us vs : List Term} → FollowAll sig ok few us vs → FollowAll sig ok many us vs
    follow_all_more none = none
    follow_all_more (more a b) = more (follow_more a) (follow_all_more b)

    follow_each_more : {fs : List (ℤ × Fact)} → FollowEach sig ok few fs → FollowEach sig ok many fs
    follow_each_more no_fact = no_fact
    follow_each_more (a_fact a b) = a_fact (follow_more a) (follow_each_more b)

pub conseq_more : (sig : Signature) (few many : Term → Term → Type 0) → ((s t : Term) → few s t → many s t) → (s t : Term) → Conseq sig few s t → Conseq sig many s t
conseq_more sig few many wider s t c = follow_more sig (fact_ok sig) (Equations few) (Equations many) (λ l e. (e.0, e.1, wider e.0 e.1 e.2, e.3)) c
