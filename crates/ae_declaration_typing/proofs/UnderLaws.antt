-- The body of a definition, under its formal parameters.
use Rattle.std.proofs.Common.{◌≡◌, ◌∙◌, ℕ, List, ◌++◌, length, map, reverse, sym, ap, subst}
use Rattle.std.proofs.lemmas.List.{length-map, length-reverse}
use Rattle.ae_types.specs.Bound.{bound}
use Rattle.ae_elab.specs.declared.faults.TypeFault.{TypeFault}
use Rattle.ae_elab.specs.declared.typings.Bound as code
use Rattle.ae_elab.specs.declared.typings.Context.{Context}
use Rattle.ae_elab.specs.declared.typings.Typing.{Typing}
use Rattle.ae_elab.specs.Environments.{Bench, entries, locals}
use Rattle.ae_elab.specs.Formulas.{Bound, local_of, with_block}
use Rattle.ae_elab.specs.Nodes.{IsTree, IsClaim}
use Rattle.ae_elab.specs.Rules.{Rule}
use Rattle.ae_elab.specs.Scope.{Scope, scope_with}
use Rattle.ae_elab.specs.Steps.{IsStopped, IsWalked}
use Rattle.ae_elab.specs.Trees.{Tree, Claim}
use Rattle.ae_elab.specs.Typings.{Begins, Stops, TypesClaim, TypesTree, Walks, bound_in, locals_of, nodes_of, scope_at}

pub as_many : (text : List ℕ) (bs : List code.Bound) → length (reverse (map local_of (map (bound_in text) bs))) ≡ length bs
as_many text bs = length-reverse (map local_of (map (bound_in text) bs)) ∙ length-map (map (bound_in text) bs) local_of ∙ length-map bs (bound_in text)

module _ (c : Context) {A : Type 0} (r : Scope → Rule A) (old : Typing) (bs : List Bound) (env : Bench) (nodes : entries env ≡ nodes_of old) (names : locals env ≡ reverse (map local_of bs) ++ locals_of old) where
  abbrev pub inside : Typing
  inside = record { passing = old.passing; bindings = old.bindings; environment = env }

  abbrev pub under : Scope → Rule A
  under sc = r (with_block bs sc)

  there : scope_at c inside ≡ with_block bs (scope_at c old)
  there = ap (λ ls. scope_with c.text.now c.known ls) names

  pub under_stops : (e : TypeFault) → Stops c r inside e → Stops c under old e
  under_stops e h = subst (λ z. IsStopped (r z) (bound old.bindings) old.passing e) there h

  module _ (end : Typing) (x : A) (walks : Walks c r inside end x) (left : Bench) (same : entries left ≡ nodes_of end) (outer : locals left ≡ locals_of old) where
    abbrev pub outside : Typing
    outside = record { passing = end.passing; bindings = end.bindings; environment = left }

    pub walks_under : Walks c under old outside x
    walks_under = record {
      walked = subst (λ z. IsWalked (r z) (bound old.bindings) (bound end.bindings) old.passing end.passing x) there walks.walked;
      locals = outer;
      kept = subst (λ z. Begins z (entries left)) nodes (subst (λ z. Begins (entries env) z) (sym same) walks.kept);
    }

pub tree_under : (c : Context) (r : Scope → Rule Tree) (old : Typing) (bs : List Bound) (env : Bench) (nodes : entries env ≡ nodes_of old) (names : locals env ≡ reverse (map local_of bs) ++ locals_of old) (end : Typing) (n : ℕ)
    → TypesTree c r (inside c r old bs env nodes names) end n → (left : Bench) → entries left ≡ nodes_of end → locals left ≡ locals_of old
    → TypesTree c (λ sc. r (with_block bs sc)) old (record { passing = end.passing; bindings = end.bindings; environment = left }) n
tree_under c r old bs env nodes names end n a left same outer =
    record { tree = a.tree; stands = subst (λ es. IsTree es n a.tree) (sym same) a.stands; walks = walks_under c r old bs env nodes names end a.tree a.walks left same outer }

pub claim_under : (c : Context) (r : Scope → Rule Claim) (old : Typing) (bs : List Bound) (env : Bench) (nodes : entries env ≡ nodes_of old) (names : locals env ≡ reverse (map local_of bs) ++ locals_of old) (end : Typing) (n : ℕ)
    → TypesClaim c r (inside c r old bs env nodes names) end n → (left : Bench) → entries left ≡ nodes_of end → locals left ≡ locals_of old
    → TypesClaim c (λ sc. r (with_block bs sc)) old (record { passing = end.passing; bindings = end.bindings; environment = left }) n
claim_under c r old bs env nodes names end n a left same outer =
    record { claim = a.claim; stands = subst (λ es. IsClaim es n a.claim) (sym same) a.stands; walks = walks_under c r old bs env nodes names end a.claim a.walks left same outer }
