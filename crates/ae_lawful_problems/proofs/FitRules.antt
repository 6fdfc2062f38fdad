-- What holds of a part whose conditions are met: the sorts of its conditions fit too.
use Rattle.std.proofs.Common.{◌≡◌, ℕ, true, List, [], ◌∷◌}
use Rattle.std.specs.List.{AllByRecursion}
use Rattle.ae_base.proofs.AllOf.{all_append, all_front, all_back}
use Rattle.ae_core.specs.declared.terms.Sort.{Sort}
use Rattle.ae_core.specs.declared.problems.Signature.{Signature}
use Rattle.ae_elab.specs.Conditions.{Demand, Test, Same, Possible, First, Condition}
use Rattle.ae_elab.specs.Rules.{Passed, Rule, give, ◌>>◌, ◌⇒◌, all_of}
use Rattle.ae_typed_laws.proofs.MetConditions.{IsMetOne, Grows, grows_not, grows_then, Meeting}
use Rattle.ae_lawful_problems.proofs.SortedTrees.{fits}

module _ (F : Signature) where
  abbrev pub FitDemand : Demand → Type 0
  FitDemand (Test b) = Unit {0}
  FitDemand (Same s t) = (fits F s ≡ true) × (fits F t ≡ true)
  FitDemand (Possible n s) = fits F s ≡ true
  FitDemand (First n s) = fits F s ≡ true

  abbrev pub FitCondition : Condition → Type 0
  FitCondition c = FitDemand c.demand

  module _ (m : ℕ → Sort) where
    pub record GivenFit {A : Type 0} (Q : A → Passed → Type 0) (r : Rule A) (p : Passed) : Type 0 where
      pub fit : AllByRecursion FitCondition (r p).conditions
      pub grows : Grows m p (r p).passed
      pub value : Q (r p).value (r p).passed

    pub record Gives {A : Type 0} (p : Passed) (Q : A → Passed → Type 0) (r : Rule A) : Type 0 where
      pub by : Meeting m p r → GivenFit Q r p

    pub gives_value : {A : Type 0} (Q : A → Passed → Type 0) (x : A) (p : Passed) → Q x p → Gives p Q (give x)
    gives_value Q x p q = record { by = λ c. record { fit = tt; grows = grows_not m p; value = q } }

    pub gives_then : {A B : Type 0} (Q : A → Passed → Type 0) (R : B → Passed → Type 0) (r : Rule A) (f : A → Rule B) (p : Passed) → Gives p Q r
        → ((x : A) (q : Passed) → Grows m p q → Q x q → Gives q R (f x)) → Gives p R (r >> f)
    gives_then Q R r f p h k = record {
      by = λ c. let a = h.by (all_front (IsMetOne m) (r p).conditions (f (r p).value (r p).passed).conditions c) in
          let b = (k (r p).value (r p).passed a.grows a.value).by (all_back (IsMetOne m) (r p).conditions (f (r p).value (r p).passed).conditions c) in
          record {
            fit = all_append FitCondition (r p).conditions (f (r p).value (r p).passed).conditions a.fit b.fit;
            grows = grows_then m p (r p).passed (f (r p).value (r p).passed).passed a.grows b.grows;
            value = b.value;
          };
    }

    pub gives_after : {A : Type 0} (Q : A → Passed → Type 0) (c : Condition) (r : Rule A) (p : Passed) → FitCondition c → (IsMetOne m c → Gives p Q r) → Gives p Q (c ⇒ r)
    gives_after Q c r p f h = record { by = λ k. let a = (h k.0).by k.1 in record { fit = (f, a.fit); grows = a.grows; value = a.value } }

    pub gives_after_all : {A : Type 0} (Q : A → Passed → Type 0) (cs : List Condition) (r : Rule A) (p : Passed) → AllByRecursion FitCondition cs
        → (AllByRecursion (IsMetOne m) cs → Gives p Q r) → Gives p Q (all_of cs r)
    gives_after_all Q [] r p f h = h tt
    gives_after_all Q (c ∷ cs) r p f h = gives_after Q c (all_of cs r) p f.0 (λ i. gives_after_all Q cs r p f.1 (λ is. h (i, is)))
