-- A rule that is another one, and what a part came to, with one node more.
use Rattle.std.proofs.Common.{◌≡◌, ◌∙◌, ℕ, [], ◌∷◌, sym, subst}
use Rattle.ae_types.specs.Bound.{bound}
use Rattle.ae_elab.specs.declared.faults.TypeFault.{TypeFault}
use Rattle.ae_elab.specs.declared.typings.Context.{Context}
use Rattle.ae_elab.specs.declared.typings.Typing.{Typing}
use Rattle.ae_elab.specs.Nodes.{Entry}
use Rattle.ae_elab.specs.Rules.{Rule}
use Rattle.ae_elab.specs.Scope.{Scope}
use Rattle.ae_elab.specs.Steps.{IsWalked, IsStopped}
use Rattle.ae_elab.specs.Typings.{scope_at, Walks, Stops, Puts, nodes_of}
use Rattle.ae_elab.proofs.NodeLaws.{begins_on}

module _ (c : Context) where
  -- ---- a rule that is another one
  pub walks_same : {A : Type 0} (r q : Scope → Rule A) (old new : Typing) (x : A) → ((sc : Scope) → r sc ≡ q sc) → Walks c r old new x → Walks c q old new x
  walks_same r q old new x e a = record {
    walked = subst (λ z. IsWalked z (bound old.bindings) (bound new.bindings) old.passing new.passing x) (e (scope_at c old)) a.walked;
    locals = a.locals;
    kept = a.kept;
  }

  pub stops_same : {A : Type 0} (r q : Scope → Rule A) (old : Typing) (x : TypeFault) → ((sc : Scope) → r sc ≡ q sc) → Stops c r old x → Stops c q old x
  stops_same r q old x e a = subst (λ z. IsStopped z (bound old.bindings) old.passing x) (e (scope_at c old)) a

  -- and what a part came to stays
  pub walks_after : {A : Type 0} (r : Scope → Rule A) (old mid new : Typing) (e : Entry) (n : ℕ) (x : A) → Walks c r old mid x → Puts mid new e n → Walks c r old new x
  walks_after r old mid new e n x a p = record {
    walked = subst (λ b. IsWalked (r (scope_at c old)) (bound old.bindings) (bound b) old.passing new.passing x) (sym p.bindings)
        (subst (λ q. IsWalked (r (scope_at c old)) (bound old.bindings) (bound mid.bindings) old.passing q x) (sym p.passing) a.walked);
    locals = p.locals ∙ a.locals;
    kept = begins_on (nodes_of old) (nodes_of mid) (nodes_of new) a.kept (e ∷ [], p.nodes);
  }
