-- A part that is typed, and then the answer of what follows it.
use Rattle.std.proofs.Common.{◌≡◌, ℕ, List, Result, Ok, Err, subst}
use Rattle.ae_types.specs.Bound.{bound}
use Rattle.ae_types.specs.Inner.Enters.{Sheet}
use Rattle.ae_syntax.specs.declared.spans.Span.{Span}
use Rattle.ae_elab.specs.declared.faults.TypeFault.{TypeFault}
use Rattle.ae_elab.specs.declared.faults.TypeFault.TheVariants as fault
use Rattle.ae_elab.specs.declared.typings.Context.{Context}
use Rattle.ae_elab.specs.declared.typings.Typing.{Typing}
use Rattle.ae_elab.specs.declared.typings.TypedTerm.{TypedTerm}
use Rattle.ae_elab.specs.Conditions.{Condition}
use Rattle.ae_elab.specs.Expressions.{formula_in_term}
use Rattle.ae_elab.specs.Rules.{Rule, Typed, typed, no_term, ◌>>◌, ◌⇒◌, refuse}
use Rattle.ae_elab.specs.Scope.{Scope}
use Rattle.ae_elab.specs.Steps.{IsMet, IsWalked, IsStopped}
use Rattle.ae_elab.specs.Trees.{Tree, Trees, Claim}
use Rattle.ae_elab.specs.Typings.{scope_at, Walks, Stops, TermAnswer, TreeAnswer, TreesAnswer, ClaimAnswer}
use Rattle.ae_elab.proofs.TypingLaws.{with_bindings, walks_then, stops_first, stops_later, walks_demand, stops_after, stops_refused}

module _ (c : Context) {A : Type 0} (r : Scope → Rule A) (old mid new : Typing) (x : A) (a : Walks c r old mid x) where
  pub then_term : (f : Scope → A → Rule Typed) (result : Result TypedTerm TypeFault) → TermAnswer c (λ sc. f sc x) mid new result → TermAnswer c (λ sc. r sc >> f sc) old new result
  then_term f (Ok t) b = record { tree = b.tree; stands = b.stands; walks = walks_then c r f old mid new x (typed b.tree t.sort) a b.walks }
  then_term f (Err e) b = stops_later c r f old mid x e a b

  pub then_tree : (f : Scope → A → Rule Tree) (result : Result ℕ TypeFault) → TreeAnswer c (λ sc. f sc x) mid new result → TreeAnswer c (λ sc. r sc >> f sc) old new result
  then_tree f (Ok n) b = record { tree = b.tree; stands = b.stands; walks = walks_then c r f old mid new x b.tree a b.walks }
  then_tree f (Err e) b = stops_later c r f old mid x e a b

  pub then_trees : (f : Scope → A → Rule Trees) (result : Result (List ℕ) TypeFault) → TreesAnswer c (λ sc. f sc x) mid new result → TreesAnswer c (λ sc. r sc >> f sc) old new result
  then_trees f (Ok ns) b = record { terms = b.terms; stand = b.stand; walks = walks_then c r f old mid new x b.terms a b.walks }
  then_trees f (Err e) b = stops_later c r f old mid x e a b

  pub then_claim : (f : Scope → A → Rule Claim) (result : Result ℕ TypeFault) → ClaimAnswer c (λ sc. f sc x) mid new result → ClaimAnswer c (λ sc. r sc >> f sc) old new result
  then_claim f (Ok n) b = record { claim = b.claim; stands = b.stands; walks = walks_then c r f old mid new x b.claim a b.walks }
  then_claim f (Err e) b = stops_later c r f old mid x e a b

module _ (c : Context) (d : Scope → Condition) (old new : Typing) (b : Sheet) (h : IsMet (d (scope_at c old)) (bound old.bindings) (bound b)) where
  pub demand_term : (r : Scope → Rule Typed) (result : Result TypedTerm TypeFault) → TermAnswer c r (with_bindings b old) new result → TermAnswer c (λ sc. d sc ⇒ r sc) old new result
  demand_term r (Ok t) a = record { tree = a.tree; stands = a.stands; walks = walks_demand c d r old b new (typed a.tree t.sort) h a.walks }
  demand_term r (Err e) a = stops_after c d r old b e h a

  pub demand_tree : (r : Scope → Rule Tree) (result : Result ℕ TypeFault) → TreeAnswer c r (with_bindings b old) new result → TreeAnswer c (λ sc. d sc ⇒ r sc) old new result
  demand_tree r (Ok n) a = record { tree = a.tree; stands = a.stands; walks = walks_demand c d r old b new a.tree h a.walks }
  demand_tree r (Err e) a = stops_after c d r old b e h a

  pub demand_claim : (r : Scope → Rule Claim) (result : Result ℕ TypeFault) → ClaimAnswer c r (with_bindings b old) new result → ClaimAnswer c (λ sc. d sc ⇒ r sc) old new result
  demand_claim r (Ok n) a = record { claim = a.claim; stands = a.stands; walks = walks_demand c d r old b new a.claim h a.walks }
  demand_claim r (Err e) a = stops_after c d r old b e h a

-- a formula in a term's place
pub in_term_stops : (c : Context) (place : Span) (r : Scope → Rule Claim) (old mid : Typing) (f : Claim) → Walks c r old mid f
    → Stops c (λ sc. formula_in_term place (r sc)) old (fault.PropInTerm place.from place.to)
in_term_stops c place r old mid f a =
    let e = fault.PropInTerm place.from place.to in
    stops_later c r (λ sc g. refuse e no_term) old mid f e a (stops_refused c e no_term mid)

pub in_term_first : (c : Context) (place : Span) (r : Scope → Rule Claim) (old : Typing) (e : TypeFault) → Stops c r old e → Stops c (λ sc. formula_in_term place (r sc)) old e
in_term_first c place r old e h = stops_first c r (λ sc g. refuse (fault.PropInTerm place.from place.to) no_term) old e h

-- ---- a rule that is another one at the place
module _ (c : Context) (old new : Typing) where
  pub term_here : (r q : Scope → Rule Typed) → r (scope_at c old) ≡ q (scope_at c old) → (result : Result TypedTerm TypeFault) → TermAnswer c r old new result → TermAnswer c q old new result
  term_here r q e (Ok t) a = record {
    tree = a.tree;
    stands = a.stands;
    walks = record {
      walked = subst (λ z. IsWalked z (bound old.bindings) (bound new.bindings) old.passing new.passing (typed a.tree t.sort)) e a.walks.walked;
      locals = a.walks.locals;
      kept = a.walks.kept;
    };
  }
  term_here r q e (Err x) a = subst (λ z. IsStopped z (bound old.bindings) old.passing x) e a

  pub claim_here : (r q : Scope → Rule Claim) → r (scope_at c old) ≡ q (scope_at c old) → (result : Result ℕ TypeFault) → ClaimAnswer c r old new result → ClaimAnswer c q old new result
  claim_here r q e (Ok n) a = record {
    claim = a.claim;
    stands = a.stands;
    walks = record {
      walked = subst (λ z. IsWalked z (bound old.bindings) (bound new.bindings) old.passing new.passing a.claim) e a.walks.walked;
      locals = a.walks.locals;
      kept = a.walks.kept;
    };
  }
  claim_here r q e (Err x) a = subst (λ z. IsStopped z (bound old.bindings) old.passing x) e a

  pub tree_here : (r q : Scope → Rule Tree) → r (scope_at c old) ≡ q (scope_at c old) → (result : Result ℕ TypeFault) → TreeAnswer c r old new result → TreeAnswer c q old new result
  tree_here r q e (Ok n) a = record {
    tree = a.tree;
    stands = a.stands;
    walks = record {
      walked = subst (λ z. IsWalked z (bound old.bindings) (bound new.bindings) old.passing new.passing a.tree) e a.walks.walked;
      locals = a.walks.locals;
      kept = a.walks.kept;
    };
  }
  tree_here r q e (Err x) a = subst (λ z. IsStopped z (bound old.bindings) old.passing x) e a
