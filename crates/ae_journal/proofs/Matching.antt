-- Matches where more terms are known.
use Rattle.std.proofs.Common.{ℕ, List}
use Rattle.ae_base.proofs.AllOf.{all_weaker}
use Rattle.ae_rules.specs.Matches.{IsSame, Equals, EqualEach, IsMatch}
use Rattle.ae_rules.specs.Matches.Equals.{variable, application, turned, own}
use Rattle.ae_rules.specs.Matches.EqualEach.{none, more}
use Rattle.ae_core.specs.declared.terms.Sort.{Sort}
use Rattle.ae_core.specs.declared.terms.Term.{Term}
use Rattle.ae_core.specs.declared.problems.Signature.{Signature}

module _ (sig : Signature) (few many : Term → Type 0) (wider : (t : Term) → few t → many t) (same : Term → Term → Type 0) (sorts : List Sort) (values : List Term) where
  same_more : (t u : Term) → IsSame few same t u → IsSame many same t u
  same_more t u s = (wider t s.0, wider u s.1, s.2)

  mutual
    equals_more : (p u : Term) → Equals sig few same sorts values p u → Equals sig many same sorts values p u
    equals_more _ _ (variable e k s) = variable e (wider _ k) s
    equals_more _ _ (application n es m s) = application n (each_more _ _ es) m (same_more _ _ s)
    equals_more _ _ (turned a n e f m s) = turned a n (equals_more _ _ e) (equals_more _ _ f) m (same_more _ _ s)
    equals_more _ _ (own o s) = own o (same_more _ _ s)

    each_more : (ps us : List Term) → EqualEach sig few same sorts values ps us → EqualEach sig many same sorts values ps us
    each_more _ _ none = none
    each_more _ _ (more e es) = more (equals_more _ _ e) (each_more _ _ es)

  pub match_more : (type_vars : ℕ) (vars : List Sort) (trigger : List Term) → IsMatch sig few same type_vars vars trigger sorts values → IsMatch sig many same type_vars vars trigger sorts values
  match_more type_vars vars trigger m = record {
    one_each = m.one_each;
    closed = m.closed;
    determined = m.determined;
    all_known = all_weaker few many wider values m.all_known;
    sorted = m.sorted;
    equal = all_weaker (λ p. (u : Term) × Equals sig few same sorts values p u) (λ p. (u : Term) × Equals sig many same sorts values p u) (λ p e. (e.0, equals_more p e.0 e.1)) trigger m.equal;
  }
