-- Once the class of an expression was looked at, the bound names and the nodes are as they were: what a part comes to from then
-- on, it comes to from before.
use Rattle.std.proofs.Common.{◌≡◌, ◌∙◌, ℕ, List, [], ◌∷◌, Result, Ok, Err, ap, subst}
use Rattle.ae_types.specs.Bound.{bound}
use Rattle.ae_syntax.specs.declared.spans.Span.{Span}
use Rattle.ae_elab.specs.declared.faults.TypeFault.{TypeFault}
use Rattle.ae_elab.specs.declared.typings.Context.{Context}
use Rattle.ae_elab.specs.declared.typings.Typing.{Typing}
use Rattle.ae_elab.specs.declared.environment.Class.TheVariants.{Either, Term}
use Rattle.ae_elab.specs.Environments.{Bench, class_in, entries, locals}
use Rattle.ae_elab.specs.Expressions.{bind}
use Rattle.ae_elab.specs.Rules.{Part, Rule}
use Rattle.ae_elab.specs.Scope.{Scope, Class, formula, either, term, Local, named, name_in, scope_with, with_locals}
use Rattle.ae_elab.specs.Steps.{IsWalked, IsStopped}
use Rattle.ae_elab.specs.Trees.{Tree}
use Rattle.ae_elab.specs.Typings.{Begins, Walks, Stops, TreeAnswer, nodes_of, locals_of}
use Rattle.ae_expressions.specs.Inner.Bindings.{BindsAnswer}

abbrev IsNoFormula : Class → Type 0
IsNoFormula formula = ⊥
IsNoFormula either = Unit {0}
IsNoFormula term = Unit {0}

module _ (c : Context) (old : Typing) (env : Bench) (nodes : entries env ≡ nodes_of old) (names : locals env ≡ locals_of old) where
  abbrev pub looked : Typing
  looked = record { passing = old.passing; bindings = old.bindings; environment = env }

  abbrev with_names : List Local → Scope
  with_names ls = scope_with c.text.now c.known ls

  pub stops_before : {A : Type 0} (r : Scope → Rule A) (e : TypeFault) → Stops c r looked e → Stops c r old e
  stops_before r e h = subst (λ ls. IsStopped (r (with_names ls)) (bound old.bindings) old.passing e) names h

  pub walks_before : {A : Type 0} (r : Scope → Rule A) (new : Typing) (x : A) → Walks c r looked new x → Walks c r old new x
  walks_before r new x a = record {
    walked = subst (λ ls. IsWalked (r (with_names ls)) (bound old.bindings) (bound new.bindings) old.passing new.passing x) names a.walked;
    locals = a.locals ∙ names;
    kept = subst (λ z. Begins z (nodes_of new)) nodes a.kept;
  }

  pub tree_before : (r : Scope → Rule Tree) (new : Typing) (result : Result ℕ TypeFault) → TreeAnswer c r looked new result → TreeAnswer c r old new result
  tree_before r new (Ok n) a = record { tree = a.tree; stands = a.stands; walks = walks_before r new a.tree a.walks }
  tree_before r new (Err e) a = stops_before r e a

  pub binds_before : (x : Span) (v : Part) (new : Typing) (result : Result (Unit {0}) TypeFault) → BindsAnswer c x v looked new result → BindsAnswer c x v old new result
  binds_before x v new (Ok u) a = record {
    meaning = a.meaning;
    walked = subst (λ ls. IsWalked (bind x (v.class (with_names ls)) v (with_names ls)) (bound old.bindings) (bound new.bindings) old.passing new.passing (with_locals (named (name_in c.text.now x) a.meaning ∷ []) (with_names ls))) names a.walked;
    locals = a.locals ∙ ap (λ ls. named (name_in c.text.now x) a.meaning ∷ ls) names;
    kept = subst (λ z. Begins z (nodes_of new)) nodes a.kept;
  }
  binds_before x v new (Err e) a = subst (λ ls. IsStopped (bind x (v.class (with_names ls)) v (with_names ls)) (bound old.bindings) old.passing e) names a

-- ---- a class that is no formula's
pub either≢formula : class_in Either ≡ formula → ⊥
either≢formula e = subst IsNoFormula e tt

pub term≢formula : class_in Term ≡ formula → ⊥
term≢formula e = subst IsNoFormula e tt
