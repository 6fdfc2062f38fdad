-- What functions promise that bind a name, type the value of a `let`, and leave a name.
use Rattle.std.specs.Prelude.{List, [], ◌∷◌, ◌≡◌, Result, Ok, Err}
use Rattle.ae_types.specs.Bound.{bound}
use Rattle.ae_syntax.specs.declared.spans.Span.{Span}
use Rattle.ae_elab.specs.declared.faults.TypeFault.{TypeFault}
use Rattle.ae_elab.specs.declared.typings.Context.{Context}
use Rattle.ae_elab.specs.declared.typings.Typing.{Typing}
use Rattle.ae_elab.specs.Expressions.{bind}
use Rattle.ae_elab.specs.Rules.{Part, Rule}
use Rattle.ae_elab.specs.Scope.{Scope, Local, Meaning, named, name_in, with_locals}
use Rattle.ae_elab.specs.Steps.{IsWalked, IsStopped}
use Rattle.ae_elab.specs.Typings.{Begins, scope_at, nodes_of, locals_of}

-- a typing with one bound name more
pub record Enters (c : Context) (x : Span) (m : Meaning) (mid new : Typing) : Type 0 where
  pub nodes : nodes_of new ≡ nodes_of mid
  pub locals : locals_of new ≡ named (name_in c.text.now x) m ∷ locals_of mid
  pub bindings : new.bindings ≡ mid.bindings
  pub passing : new.passing ≡ mid.passing

-- a typing without its innermost name
pub record Leaves (end new : Typing) : Type 0 where
  pub nodes : nodes_of new ≡ nodes_of end
  pub locals : (outer : List Local) (l : Local) → locals_of end ≡ l ∷ outer → locals_of new ≡ outer
  pub bindings : new.bindings ≡ end.bindings
  pub passing : new.passing ≡ end.passing

-- the value's rule
abbrev pub value_rule : Context → Span → Part → Typing → Rule Scope
value_rule c x v old = bind x (v.class (scope_at c old)) v (scope_at c old)

pub record Binds (c : Context) (x : Span) (v : Part) (old new : Typing) : Type 0 where
  pub meaning : Meaning
  pub walked : IsWalked (value_rule c x v old) (bound old.bindings) (bound new.bindings) old.passing new.passing (with_locals (named (name_in c.text.now x) meaning ∷ []) (scope_at c old))
  pub locals : locals_of new ≡ named (name_in c.text.now x) meaning ∷ locals_of old
  pub kept : Begins (nodes_of old) (nodes_of new)

abbrev pub BindsAnswer : Context → Span → Part → Typing → Typing → Result (Unit {0}) TypeFault → Type 0
BindsAnswer c x v old new (Ok u) = Binds c x v old new
BindsAnswer c x v old new (Err e) = IsStopped (value_rule c x v old) (bound old.bindings) old.passing e
