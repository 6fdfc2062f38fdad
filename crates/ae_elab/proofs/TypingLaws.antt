-- How the answers of functions that type parts make the answer of one that types the whole.
use Rattle.std.proofs.Common.{◌≡◌, ◌∙◌, ℕ, Bool, IsTrue, List, [], ◌∷◌, length, Some, refl, sym, ap, subst, slice_get}
use Rattle.ae_core.specs.declared.terms.Sort.{Sort}
use Rattle.ae_types.specs.Bound.{bound}
use Rattle.ae_types.specs.Inner.Enters.{Sheet}
use Rattle.ae_elab.specs.declared.faults.TypeFault.{TypeFault}
use Rattle.ae_elab.specs.declared.typings.Context.{Context}
use Rattle.ae_elab.specs.declared.typings.Typing.{Typing}
use Rattle.ae_elab.specs.Conditions.{Condition, test}
use Rattle.ae_elab.specs.Nodes.{Entry, a_tree, a_claim}
use Rattle.ae_elab.specs.Trees.{Tree, Claim}
use Rattle.ae_elab.specs.Rules.{Passed, Rule, typed, give, ◌>>◌, ◌⇒◌, all_of, refuse}
use Rattle.ae_elab.specs.Scope.{Scope, Local, scope_with}
use Rattle.ae_elab.specs.Steps.{IsMet, IsNotMet, AreMet, AreNotMet, IsWalked, IsStopped}
use Rattle.ae_elab.specs.Typings.{scope_at, Walks, Stops, TypesTerm, TypesTree, TypesClaim, Puts, nodes_of}
use Rattle.ae_elab.proofs.EachLaws.{all_walked, all_stop, all_stop_later}
use Rattle.ae_elab.proofs.NodeLaws.{begins_itself, begins_on, pushed}
use Rattle.ae_elab.proofs.WalkLaws.{give_walked, then_walked, then_stops, then_stops_later, demand_walked, demand_stops, demand_stops_later, refuse_stops, test_met, test_not_met}

-- a typing with other bindings, and with other numbers
abbrev pub with_bindings : Sheet → Typing → Typing
with_bindings b t = record { passing = t.passing; bindings = b; environment = t.environment }

abbrev pub with_passing : Passed → Typing → Typing
with_passing p t = record { passing = p; bindings = t.bindings; environment = t.environment }

module _ (c : Context) where
  abbrev at_locals : Typing → List Local → Scope
  at_locals t ls = scope_with c.text.now c.known ls

  pub walks_give : {A : Type 0} (t : Typing) (x : A) → Walks c (λ sc. give x) t t x
  walks_give t x = record { walked = give_walked x (bound t.bindings) t.passing; locals = refl; kept = begins_itself (nodes_of t) }

  -- ---- a part, and then what follows it
  pub walks_then : {A B : Type 0} (r : Scope → Rule A) (f : Scope → A → Rule B) (old mid new : Typing) (x : A) (y : B)
      → Walks c r old mid x → Walks c (λ sc. f sc x) mid new y → Walks c (λ sc. r sc >> f sc) old new y
  walks_then r f old mid new x y a b = record {
    walked = then_walked (r (scope_at c old)) (f (scope_at c old)) (bound old.bindings) (bound mid.bindings) (bound new.bindings) old.passing mid.passing new.passing x y a.walked
        (subst (λ ls. IsWalked (f (at_locals old ls) x) (bound mid.bindings) (bound new.bindings) mid.passing new.passing y) a.locals b.walked);
    locals = b.locals ∙ a.locals;
    kept = begins_on (nodes_of old) (nodes_of mid) (nodes_of new) a.kept b.kept;
  }

  pub stops_first : {A B : Type 0} (r : Scope → Rule A) (f : Scope → A → Rule B) (old : Typing) (e : TypeFault) → Stops c r old e → Stops c (λ sc. r sc >> f sc) old e
  stops_first r f old e a = then_stops (r (scope_at c old)) (f (scope_at c old)) (bound old.bindings) old.passing e a

  pub stops_later : {A B : Type 0} (r : Scope → Rule A) (f : Scope → A → Rule B) (old mid : Typing) (x : A) (e : TypeFault)
      → Walks c r old mid x → Stops c (λ sc. f sc x) mid e → Stops c (λ sc. r sc >> f sc) old e
  stops_later r f old mid x e a b =
      then_stops_later (r (scope_at c old)) (f (scope_at c old)) (bound old.bindings) (bound mid.bindings) old.passing mid.passing x e a.walked
      (subst (λ ls. IsStopped (f (at_locals old ls) x) (bound mid.bindings) mid.passing e) a.locals b)

  -- ---- a condition, and then what follows it
  module _ {A : Type 0} (d : Scope → Condition) (r : Scope → Rule A) (old : Typing) where
    pub walks_demand : (b : Sheet) (new : Typing) (x : A) → IsMet (d (scope_at c old)) (bound old.bindings) (bound b) → Walks c r (with_bindings b old) new x → Walks c (λ sc. d sc ⇒ r sc) old new x
    walks_demand b new x h a = record {
      walked = demand_walked (d (scope_at c old)) (r (scope_at c old)) (bound old.bindings) (bound b) (bound new.bindings) old.passing new.passing x h a.walked;
      locals = a.locals;
      kept = a.kept;
    }

    pub stops_demand : (e : TypeFault) → IsNotMet (d (scope_at c old)) (bound old.bindings) e → Stops c (λ sc. d sc ⇒ r sc) old e
    stops_demand e h = demand_stops (d (scope_at c old)) (r (scope_at c old)) (bound old.bindings) old.passing e h

    pub stops_after : (b : Sheet) (e : TypeFault) → IsMet (d (scope_at c old)) (bound old.bindings) (bound b) → Stops c r (with_bindings b old) e → Stops c (λ sc. d sc ⇒ r sc) old e
    stops_after b e h a = demand_stops_later (d (scope_at c old)) (r (scope_at c old)) (bound old.bindings) (bound b) old.passing e h a

  -- a test
  module _ {A : Type 0} (b : Bool) (d : TypeFault) (r : Scope → Rule A) (old : Typing) where
    pub walks_test : (new : Typing) (x : A) → IsTrue b → Walks c r old new x → Walks c (λ sc. test b d ⇒ r sc) old new x
    walks_test new x h a = walks_demand (λ sc. test b d) r old old.bindings new x (test_met b d (bound old.bindings) h) a

    pub stops_test : (IsTrue b → ⊥) → Stops c (λ sc. test b d ⇒ r sc) old d
    stops_test h = stops_demand (λ sc. test b d) r old d (test_not_met b d (bound old.bindings) h)

    pub stops_past : (e : TypeFault) → IsTrue b → Stops c r old e → Stops c (λ sc. test b d ⇒ r sc) old e
    stops_past e h a = stops_after (λ sc. test b d) r old old.bindings e (test_met b d (bound old.bindings) h) a

  -- ---- conditions, and then what follows them
  module _ {A : Type 0} (ds : Scope → List Condition) (r : Scope → Rule A) (old : Typing) where
    pub walks_all : (b : Sheet) (new : Typing) (x : A) → AreMet (ds (scope_at c old)) (bound old.bindings) (bound b) → Walks c r (with_bindings b old) new x → Walks c (λ sc. all_of (ds sc) (r sc)) old new x
    walks_all b new x h a = record {
      walked = all_walked (r (scope_at c old)) old.passing (ds (scope_at c old)) (bound old.bindings) (bound b) (bound new.bindings) new.passing x h a.walked;
      locals = a.locals;
      kept = a.kept;
    }

    pub stops_all : (e : TypeFault) → AreNotMet (ds (scope_at c old)) (bound old.bindings) e → Stops c (λ sc. all_of (ds sc) (r sc)) old e
    stops_all e h = all_stop (r (scope_at c old)) old.passing (ds (scope_at c old)) (bound old.bindings) e h

    pub stops_after_all : (b : Sheet) (e : TypeFault) → AreMet (ds (scope_at c old)) (bound old.bindings) (bound b) → Stops c r (with_bindings b old) e → Stops c (λ sc. all_of (ds sc) (r sc)) old e
    stops_after_all b e h a = all_stop_later (r (scope_at c old)) old.passing (ds (scope_at c old)) (bound old.bindings) (bound b) e h a

  -- ---- a rule that states nothing of sorts, and a fault
  pub walks_taken : {A : Type 0} (r : Scope → Rule A) (old : Typing) (q : Passed) (x : A)
      → ((m : ℕ → Sort) → IsWalked (r (scope_at c old)) m m old.passing q x) → Walks c r old (with_passing q old) x
  walks_taken r old q x a = record { walked = a (bound old.bindings); locals = refl; kept = begins_itself (nodes_of old) }

  pub stops_halted : {A : Type 0} (r : Scope → Rule A) (old : Typing) (e : TypeFault) → ((m : ℕ → Sort) → IsStopped (r (scope_at c old)) m old.passing e) → Stops c r old e
  stops_halted r old e a = a (bound old.bindings)

  pub stops_refused : {A : Type 0} (e : TypeFault) (x : A) (old : Typing) → Stops c (λ sc. refuse e x) old e
  stops_refused e x old = refuse_stops e x (bound old.bindings) old.passing

  -- ---- one node more
  pub walks_push : {A : Type 0} (old new : Typing) (e : Entry) (n : ℕ) (x : A) → Puts old new e n → Walks c (λ sc. give x) old new x
  walks_push old new e n x p = record {
    walked = subst (λ b. IsWalked (give x) (bound old.bindings) (bound b) old.passing new.passing x) (sym p.bindings)
        (subst (λ q. IsWalked (give x) (bound old.bindings) (bound old.bindings) old.passing q x) (sym p.passing) (give_walked x (bound old.bindings) old.passing));
    locals = p.locals;
    kept = (e ∷ [], p.nodes);
  }

-- what was put stands there
pub stands_put : (old new : Typing) (e : Entry) (n : ℕ) → Puts old new e n → slice_get (nodes_of new) n ≡ Some e
stands_put old new e n p = ap (slice_get (nodes_of new)) p.place ∙ ap (λ es. slice_get es (length (nodes_of old))) p.nodes ∙ pushed (nodes_of old) e

-- ---- a node that is a term, or a formula
module _ (c : Context) (old new : Typing) where
  pub puts_term : (t : Tree) (n : ℕ) (s : Sort) → Puts old new (a_tree t) n → TypesTerm c (λ sc. give (typed t s)) old new (record { tree = n; sort = s })
  puts_term t n s p = record { tree = t; stands = stands_put old new (a_tree t) n p; walks = walks_push c old new (a_tree t) n (typed t s) p }

  pub puts_tree : (t : Tree) (n : ℕ) → Puts old new (a_tree t) n → TypesTree c (λ sc. give t) old new n
  puts_tree t n p = record { tree = t; stands = stands_put old new (a_tree t) n p; walks = walks_push c old new (a_tree t) n t p }

  pub puts_claim : (f : Claim) (n : ℕ) → Puts old new (a_claim f) n → TypesClaim c (λ sc. give f) old new n
  puts_claim f n p = record { claim = f; stands = stands_put old new (a_claim f) n p; walks = walks_push c old new (a_claim f) n f p }
