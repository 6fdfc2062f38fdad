-- Bound names in a term's place: each exit of the function is one of these lemmas.
use Rattle.std.proofs.Common.{◌≡◌, ℕ, nat_eq, IsTrue, List, length, Some, None, ap}
use Rattle.std.proofs.lemmas.Bool.{eqb-true}
use Rattle.ae_core.specs.declared.terms.Sort.{Sort}
use Rattle.ae_syntax.specs.declared.spans.Span.{Span}
use Rattle.ae_elab.specs.declared.environment.Class.{Class}
use Rattle.ae_elab.specs.declared.faults.TypeFault.{TypeFault}
use Rattle.ae_elab.specs.declared.faults.TypeFault.TheVariants as fault
use Rattle.ae_elab.specs.declared.typings.Context.{Context}
use Rattle.ae_elab.specs.declared.typings.TypedTerm.{TypedTerm}
use Rattle.ae_elab.specs.declared.typings.Typing.{Typing}
use Rattle.ae_elab.specs.Environments.{class_in}
use Rattle.ae_elab.specs.Expressions.{name_term, name_formula, formula_in_term}
use Rattle.ae_elab.specs.Formulas.{merging_into}
use Rattle.ae_elab.specs.Nodes.{a_tree, IsTree}
use Rattle.ae_elab.specs.Rules.{Rule, Typed, typed, no_term, give, Part, refuse, Around, all_of}
use Rattle.ae_elab.specs.Scope.{Scope, Meaning, a_variable, a_term, a_formula, bound}
use Rattle.ae_elab.specs.Steps.{AreHeld, AreFailed}
use Rattle.ae_elab.specs.Trees.{Tree, Claim, variable, falsity}
use Rattle.ae_types.specs.Bound.{bound as sheet_bound}
use Rattle.ae_elab.proofs.WalkLaws.{none_met}
use Rattle.ae_elab.specs.Typings.{Stops, TypesTerm, TypesClaim, Puts, nodes_of}
use Rattle.ae_elab.proofs.TypingLaws.{walks_give, walks_test, walks_all, walks_push, stands_put, stops_test, stops_past, stops_all, stops_refused, stops_later}

is_zero : (n : ℕ) → n ≡ 0 → IsTrue (nat_eq n 0)
is_zero n e = ap (λ k. nat_eq k 0) e

not_zero : (n : ℕ) → (n ≡ 0 → ⊥) → IsTrue (nat_eq n 0) → ⊥
not_zero n h e = h (eqb-true n 0 e)

module _ (c : Context) (place name : Span) (args : List Part) (old : Typing) where
  abbrev rule : Meaning → Scope → Rule Typed
  rule m sc = name_term name args sc place (bound m)

  pub bound_count : (m : Meaning) → (length args ≡ 0 → ⊥) → Stops c (rule m) old (fault.Arity name.from name.to)
  bound_count (a_variable x s) h = stops_test c (nat_eq (length args) 0) (fault.Arity name.from name.to) (λ sc. give (typed (variable x) s)) old (not_zero (length args) h)
  bound_count (a_term k t s) h = stops_test c (nat_eq (length args) 0) (fault.Arity name.from name.to) (λ sc. give (typed t s)) old (not_zero (length args) h)
  bound_count (a_formula f) h = stops_test c (nat_eq (length args) 0) (fault.Arity name.from name.to) (λ sc. formula_in_term place (give f)) old (not_zero (length args) h)

  module _ (none : length args ≡ 0) where
    pub bound_variable : (x : ℕ) (s : Sort) (new : Typing) (n : ℕ) → Puts old new (a_tree (variable x)) n → TypesTerm c (rule (a_variable x s)) old new (record { tree = n; sort = s })
    bound_variable x s new n p = record {
      tree = variable x;
      stands = stands_put old new (a_tree (variable x)) n p;
      walks = walks_test c (nat_eq (length args) 0) (fault.Arity name.from name.to) (λ sc. give (typed (variable x) s)) old new (typed (variable x) s) (is_zero (length args) none)
          (walks_push c old new (a_tree (variable x)) n (typed (variable x) s) p);
    }

    pub bound_value : (k : Class) (t : Tree) (s : Sort) (n : ℕ) → IsTree (nodes_of old) n t → TypesTerm c (rule (a_term (class_in k) t s)) old old (record { tree = n; sort = s })
    bound_value k t s n h = record {
      tree = t;
      stands = h;
      walks = walks_test c (nat_eq (length args) 0) (fault.Arity name.from name.to) (λ sc. give (typed t s)) old old (typed t s) (is_zero (length args) none) (walks_give c old (typed t s));
    }

    pub bound_given : (k : Class) (t : Tree) (s : Sort) (new : Typing) (n : TypedTerm) → TypesTerm c (λ sc. give (typed t s)) old new n → TypesTerm c (rule (a_term (class_in k) t s)) old new n
    bound_given k t s new n a = record {
      tree = a.tree;
      stands = a.stands;
      walks = walks_test c (nat_eq (length args) 0) (fault.Arity name.from name.to) (λ sc. give (typed t s)) old new (typed a.tree n.sort) (is_zero (length args) none) a.walks;
    }

    pub bound_claim : (f : Claim) → Stops c (rule (a_formula f)) old (fault.PropInTerm place.from place.to)
    bound_claim f =
        let e = fault.PropInTerm place.from place.to in
        stops_past c (nat_eq (length args) 0) (fault.Arity name.from name.to) (λ sc. formula_in_term place (give f)) old e (is_zero (length args) none)
        (stops_later c (λ sc. give f) (λ sc g. refuse e no_term) old old f e (walks_give c old f) (stops_refused c e no_term old))

-- ---- and in a formula's place
module _ (c : Context) (place name : Span) (args : List Part) (around : Around) (old : Typing) where
  abbrev claim_rule : Claim → Scope → Rule Claim
  claim_rule f sc = name_formula name args sc around place (bound (a_formula f))

  abbrev merged : Claim → Scope → Rule Claim
  merged f sc = all_of (merging_into around f) (give f)

  pub claim_count : (f : Claim) → (length args ≡ 0 → ⊥) → Stops c (claim_rule f) old (fault.Arity name.from name.to)
  claim_count f h = stops_test c (nat_eq (length args) 0) (fault.Arity name.from name.to) (merged f) old (not_zero (length args) h)

  module _ (none : length args ≡ 0) (f : Claim) where
    pub claim_failed : (e : TypeFault) → AreFailed (merging_into around f) e → Stops c (claim_rule f) old e
    claim_failed e h =
        stops_past c (nat_eq (length args) 0) (fault.Arity name.from name.to) (merged f) old e (is_zero (length args) none)
        (stops_all c (λ sc. merging_into around f) (λ sc. give f) old e (h (sheet_bound old.bindings)))

    pub claim_held : (new : Typing) (n : ℕ) → AreHeld (merging_into around f) → TypesClaim c (λ sc. give f) old new n → TypesClaim c (claim_rule f) old new n
    claim_held new n h a = record {
      claim = a.claim;
      stands = a.stands;
      walks = walks_test c (nat_eq (length args) 0) (fault.Arity name.from name.to) (merged f) old new a.claim (is_zero (length args) none)
          (walks_all c (λ sc. merging_into around f) (λ sc. give f) old old.bindings new a.claim (h (sheet_bound old.bindings)) a.walks);
    }

-- no conditions where a formula is no block
pub falsity_merged : (around : Around) → AreHeld (merging_into around falsity)
falsity_merged None m = none_met m
falsity_merged (Some a) m = none_met m
