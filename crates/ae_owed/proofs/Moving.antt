-- Matches where more terms are known, and others of them are the same.
use Rattle.std.specs.Prelude.{ℕ, ◌<◌, List, ◌≡◌, length, reverse, slice_get, Some}
use Rattle.std.specs.List.{AllByRecursion}
use Rattle.std.proofs.Common.{arith}
use Rattle.std.proofs.lemmas.List.{length-reverse}
use Rattle.std.proofs.lemmas.Option.{slice_get_within}
use Rattle.ae_base.proofs.AllOf.{all_weaker, all_at_reverse}
use Rattle.ae_core.specs.declared.problems.Signature.{Signature}
use Rattle.ae_core.specs.declared.terms.Sort.{Sort}
use Rattle.ae_core.specs.declared.terms.Term.{Term}
use Rattle.ae_rules.specs.Matches.{IsSame, Equals, EqualEach, IsMatch}
use Rattle.ae_rules.specs.Matches.Equals.{variable, application, turned, own}
use Rattle.ae_rules.specs.Matches.EqualEach.{none, more}

module _ (sig : Signature) (few many : Term → Type 0) (wider : (t : Term) → few t → many t) (same other : Term → Term → Type 0) (moved : (t u : Term) → few t → few u → same t u → other t u)
    (sorts : List Sort) (values : List Term) where
  same_moved : (t u : Term) → IsSame few same t u → IsSame many other t u
  same_moved t u s = (wider t s.0, wider u s.1, moved t u s.0 s.1 s.2)

  module _ (known : AllByRecursion few values) where
    value_known : (i : ℕ) (v : Term) → slice_get (reverse values) i ≡ Some v → few v
    value_known i v e =
        let l : i < length values = omega (arith, slice_get_within (reverse values) i v e, length-reverse values) in
        all_at_reverse few values i v known l e

    mutual
      equals_moved : (p u : Term) → Equals sig few same sorts values p u → Equals sig many other sorts values p u
      equals_moved _ _ (variable e k s) = variable e (wider _ k) (moved _ _ (value_known _ _ e) k s)
      equals_moved _ _ (application n es m s) = application n (each_moved _ _ es) m (same_moved _ _ s)
      equals_moved _ _ (turned a n e f m s) = turned a n (equals_moved _ _ e) (equals_moved _ _ f) m (same_moved _ _ s)
      equals_moved _ _ (own o s) = own o (same_moved _ _ s)

      each_moved : (ps us : List Term) → EqualEach sig few same sorts values ps us → EqualEach sig many other sorts values ps us
      each_moved _ _ none = none
      each_moved _ _ (more e es) = more (equals_moved _ _ e) (each_moved _ _ es)

  pub match_moved : (type_vars : ℕ) (vars : List Sort) (trigger : List Term) → IsMatch sig few same type_vars vars trigger sorts values → IsMatch sig many other type_vars vars trigger sorts values
  match_moved type_vars vars trigger m = record {
    one_each = m.one_each;
    closed = m.closed;
    determined = m.determined;
    all_known = all_weaker few many wider values m.all_known;
    sorted = m.sorted;
    equal = all_weaker (λ p. (u : Term) × Equals sig few same sorts values p u) (λ p. (u : Term) × Equals sig many other sorts values p u) (λ p e. (e.0, equals_moved m.all_known p e.0 e.1)) trigger m.equal;
  }
