-- `let`: its value is typed, its name is bound, its body is typed, and the name is left.
use Rattle.std.proofs.Common.{◌≡◌, ◌∙◌, ℕ, [], ◌∷◌, refl, sym, ap, subst}
use Rattle.ae_core.specs.declared.terms.Sort.{Sort}
use Rattle.ae_types.specs.Bound.{bound}
use Rattle.ae_syntax.specs.declared.spans.Span.{Span}
use Rattle.ae_elab.specs.declared.faults.TypeFault.{TypeFault}
use Rattle.ae_elab.specs.declared.typings.Context.{Context}
use Rattle.ae_elab.specs.declared.typings.TypedTerm.{TypedTerm}
use Rattle.ae_elab.specs.declared.typings.Typing.{Typing}
use Rattle.ae_elab.specs.Expressions.{bind}
use Rattle.ae_expressions.specs.Inner.Bindings.{Binds, Enters, Leaves, value_rule}
use Rattle.ae_elab.specs.Nodes.{IsTree, IsClaim}
use Rattle.ae_elab.specs.Rules.{Rule, Part, Typed, typed, give, ◌>>◌, as_term, as_formula}
use Rattle.ae_elab.specs.Scope.{Scope, Class, Meaning, formula, either, term, a_term, a_formula, named, name_in, with_locals, scope_with}
use Rattle.ae_elab.specs.Steps.{IsWalked, IsStopped}
use Rattle.ae_elab.specs.Trees.{Tree, Claim}
use Rattle.ae_elab.specs.Typings.{scope_at, Begins, Walks, Stops, TypesTerm, TypesClaim, nodes_of, locals_of}
use Rattle.ae_elab.proofs.NodeLaws.{begins_on}
use Rattle.ae_elab.proofs.WalkLaws.{give_walked, then_walked, then_stops, then_stops_later}

module _ (c : Context) (x : Span) (v : Part) (old : Typing) where
  abbrev inside : Meaning → Scope
  inside m = with_locals (named (name_in c.text.now x) m ∷ []) (scope_at c old)

  abbrev bound_by : Class → Rule Scope
  bound_by k = bind x k v (scope_at c old)

  -- ---- the value
  value_formula : (k : Class) (mid : Typing) (f : Claim) → k ≡ formula → Walks c (λ sc. as_formula sc v) old mid f
      → IsWalked (bound_by k) (bound old.bindings) (bound mid.bindings) old.passing mid.passing (inside (a_formula f))
  value_formula k mid f e a =
      subst (λ z. IsWalked (bound_by z) (bound old.bindings) (bound mid.bindings) old.passing mid.passing (inside (a_formula f))) (sym e)
      (then_walked (as_formula (scope_at c old) v) (λ g. give (inside (a_formula g))) (bound old.bindings) (bound mid.bindings) (bound mid.bindings) old.passing mid.passing mid.passing f (inside (a_formula f))
      a.walked (give_walked (inside (a_formula f)) (bound mid.bindings) mid.passing))

  term_walked : (k : Class) (mid : Typing) (t : Tree) (s : Sort) → Walks c (λ sc. as_term sc v) old mid (typed t s)
      → IsWalked (as_term (scope_at c old) v >> λ u. give (inside (a_term k u.tree u.sort))) (bound old.bindings) (bound mid.bindings) old.passing mid.passing (inside (a_term k t s))
  term_walked k mid t s a =
      then_walked (as_term (scope_at c old) v) (λ u. give (inside (a_term k u.tree u.sort))) (bound old.bindings) (bound mid.bindings) (bound mid.bindings) old.passing mid.passing mid.passing (typed t s)
      (inside (a_term k t s)) a.walked (give_walked (inside (a_term k t s)) (bound mid.bindings) mid.passing)

  value_term : (k : Class) (mid : Typing) (t : Tree) (s : Sort) → (k ≡ formula → ⊥) → Walks c (λ sc. as_term sc v) old mid (typed t s)
      → IsWalked (bound_by k) (bound old.bindings) (bound mid.bindings) old.passing mid.passing (inside (a_term k t s))
  value_term formula mid t s n a = absurd (n refl)
  value_term either mid t s n a = term_walked either mid t s a
  value_term term mid t s n a = term_walked term mid t s a

  -- its name is bound
  module _ (k : Class) (is : v.class (scope_at c old) ≡ k) (mid new : Typing) where
    bound_after : (m : Meaning) → IsWalked (bound_by k) (bound old.bindings) (bound mid.bindings) old.passing mid.passing (inside m) → locals_of mid ≡ locals_of old → Begins (nodes_of old) (nodes_of mid)
        → Enters c x m mid new → Binds c x v old new
    bound_after m a same kept enters = record {
      meaning = m;
      walked = subst (λ z. IsWalked (value_rule c x v old) (bound old.bindings) (bound z) old.passing new.passing (inside m)) (sym enters.bindings)
          (subst (λ z. IsWalked (value_rule c x v old) (bound old.bindings) (bound mid.bindings) old.passing z (inside m)) (sym enters.passing)
          (subst (λ z. IsWalked (bound_by z) (bound old.bindings) (bound mid.bindings) old.passing mid.passing (inside m)) (sym is) a));
      locals = enters.locals ∙ ap (λ ls. named (name_in c.text.now x) m ∷ ls) same;
      kept = subst (λ z. Begins (nodes_of old) z) (sym enters.nodes) kept;
    }

    pub binds_formula : (f : Claim) → k ≡ formula → Walks c (λ sc. as_formula sc v) old mid f → Enters c x (a_formula f) mid new → Binds c x v old new
    binds_formula f e a enters = bound_after (a_formula f) (value_formula k mid f e a) a.locals a.kept enters

    pub binds_term : (t : Tree) (s : Sort) → (k ≡ formula → ⊥) → Walks c (λ sc. as_term sc v) old mid (typed t s) → Enters c x (a_term k t s) mid new → Binds c x v old new
    binds_term t s n a enters = bound_after (a_term k t s) (value_term k mid t s n a) a.locals a.kept enters

  -- the value has a fault
  formula_stops : (k : Class) (e : TypeFault) → k ≡ formula → Stops c (λ sc. as_formula sc v) old e → IsStopped (bound_by k) (bound old.bindings) old.passing e
  formula_stops k e is h =
      subst (λ z. IsStopped (bound_by z) (bound old.bindings) old.passing e) (sym is) (then_stops (as_formula (scope_at c old) v) (λ g. give (inside (a_formula g))) (bound old.bindings) old.passing e h)

  term_stops : (k : Class) (e : TypeFault) → (k ≡ formula → ⊥) → Stops c (λ sc. as_term sc v) old e → IsStopped (bound_by k) (bound old.bindings) old.passing e
  term_stops formula e n h = absurd (n refl)
  term_stops either e n h = then_stops (as_term (scope_at c old) v) (λ u. give (inside (a_term either u.tree u.sort))) (bound old.bindings) old.passing e h
  term_stops term e n h = then_stops (as_term (scope_at c old) v) (λ u. give (inside (a_term term u.tree u.sort))) (bound old.bindings) old.passing e h

  module _ (k : Class) (is : v.class (scope_at c old) ≡ k) (e : TypeFault) where
    pub unbound_formula : k ≡ formula → Stops c (λ sc. as_formula sc v) old e → IsStopped (value_rule c x v old) (bound old.bindings) old.passing e
    unbound_formula f h = subst (λ z. IsStopped (bound_by z) (bound old.bindings) old.passing e) (sym is) (formula_stops k e f h)

    pub unbound_term : (k ≡ formula → ⊥) → Stops c (λ sc. as_term sc v) old e → IsStopped (value_rule c x v old) (bound old.bindings) old.passing e
    unbound_term n h = subst (λ z. IsStopped (bound_by z) (bound old.bindings) old.passing e) (sym is) (term_stops k e n h)

  -- ---- the body
  module _ {A : Type 0} (f : Scope → Rule A) where
    abbrev let_rule : Scope → Rule A
    let_rule sc = bind x (v.class sc) v sc >> f

    pub let_first : (e : TypeFault) → IsStopped (value_rule c x v old) (bound old.bindings) old.passing e → Stops c let_rule old e
    let_first e h = then_stops (value_rule c x v old) f (bound old.bindings) old.passing e h

    module _ (mid : Typing) (value : Binds c x v old mid) where
      there : scope_at c mid ≡ inside value.meaning
      there = ap (λ ls. scope_with c.text.now c.known ls) value.locals

      pub let_second : (e : TypeFault) → Stops c f mid e → Stops c let_rule old e
      let_second e a =
          then_stops_later (value_rule c x v old) f (bound old.bindings) (bound mid.bindings) old.passing mid.passing (inside value.meaning) e value.walked
          (subst (λ z. IsStopped (f z) (bound mid.bindings) mid.passing e) there a)

      pub let_walks : (end new : Typing) (y : A) → Walks c f mid end y → Leaves end new → Walks c let_rule old new y
      let_walks end new y a leaves = record {
        walked = subst (λ z. IsWalked (let_rule (scope_at c old)) (bound old.bindings) (bound z) old.passing new.passing y) (sym leaves.bindings)
            (subst (λ z. IsWalked (let_rule (scope_at c old)) (bound old.bindings) (bound end.bindings) old.passing z y) (sym leaves.passing)
            (then_walked (value_rule c x v old) f (bound old.bindings) (bound mid.bindings) (bound end.bindings) old.passing mid.passing end.passing (inside value.meaning) y value.walked
            (subst (λ z. IsWalked (f z) (bound mid.bindings) (bound end.bindings) mid.passing end.passing y) there a.walked)));
        locals = leaves.locals (locals_of old) (named (name_in c.text.now x) value.meaning) (a.locals ∙ value.locals);
        kept = subst (λ z. Begins (nodes_of old) z) (sym leaves.nodes) (begins_on (nodes_of old) (nodes_of mid) (nodes_of end) value.kept a.kept);
      }

-- a typed body
module _ (c : Context) (x : Span) (v : Part) (old mid end new : Typing) (value : Binds c x v old mid) (leaves : Leaves end new) where
  pub let_term : (f : Scope → Rule Typed) (t : TypedTerm) → TypesTerm c f mid end t → TypesTerm c (λ sc. bind x (v.class sc) v sc >> f) old new t
  let_term f t b = record {
    tree = b.tree;
    stands = subst (λ es. IsTree es t.tree b.tree) (sym leaves.nodes) b.stands;
    walks = let_walks c x v old f mid value end new (typed b.tree t.sort) b.walks leaves;
  }

  pub let_claim : (f : Scope → Rule Claim) (n : ℕ) → TypesClaim c f mid end n → TypesClaim c (λ sc. bind x (v.class sc) v sc >> f) old new n
  let_claim f n b = record {
    claim = b.claim;
    stands = subst (λ es. IsClaim es n b.claim) (sym leaves.nodes) b.stands;
    walks = let_walks c x v old f mid value end new b.claim b.walks leaves;
  }
