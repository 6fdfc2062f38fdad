-- Axioms and goals.
use Rattle.std.proofs.Common.{◌≡◌, ◌∙◌, ℕ, Bool, [], ◌∷◌, ap, subst}
use Rattle.ae_types.specs.Bound.{bound}
use Rattle.ae_declaration_typing.specs.declared.drafts.Draft as code
use Rattle.ae_declaration_typing.specs.Drafts.{TypesDraft, draft_of}
use Rattle.ae_elab.specs.declared.faults.TypeFault.{TypeFault}
use Rattle.ae_elab.specs.declared.typings.Context.{Context}
use Rattle.ae_elab.specs.declared.typings.Typing.{Typing}
use Rattle.ae_elab.specs.Declarations.{Declared, drafted, scope_of, statement_decl}
use Rattle.ae_elab.specs.Expressions.{part_of}
use Rattle.ae_elab.specs.Rules.{Rule, as_formula}
use Rattle.ae_elab.specs.Scope.{Scope, name_in, scope_with}
use Rattle.ae_elab.specs.Steps.{IsWalked, IsStopped}
use Rattle.ae_elab.specs.Trees.{Claim}
use Rattle.ae_elab.specs.Typings.{Stops, TypesClaim, locals_of, scope_at}
use Rattle.ae_elab.proofs.WalkLaws.{give_walked, then_walked, then_stops}
use Rattle.ae_syntax.specs.declared.exprs.Expr.{Expr}
use Rattle.ae_syntax.specs.declared.spans.Span.{Span}

module _ (c : Context) (place : Span) (g : Bool) (n : Span) (body : Expr) (old : Typing) (bare : locals_of old ≡ []) where
  there : scope_at c old ≡ scope_of c.text.now c.known
  there = ap (λ ls. scope_with c.text.now c.known ls) bare

  abbrev stated : Scope → Rule Claim
  stated sc = as_formula sc (part_of body)

  abbrev after : Claim → Rule Declared
  after f = drafted c.known place g (name_in c.text.now n) f

  abbrev whole : Rule Declared
  whole = statement_decl c.text.now c.known place g n body

  pub statement_fault : (e : TypeFault) → Stops c stated old e → IsStopped whole (bound old.bindings) old.passing e
  statement_fault e h =
      then_stops (stated (scope_of c.text.now c.known)) after (bound old.bindings) old.passing e (subst (λ z. IsStopped (stated z) (bound old.bindings) old.passing e) there h)

  pub statement_typed : (new : Typing) (i : ℕ) → TypesClaim c stated old new i → TypesDraft c.text.now whole c.known old new (record { place = place; is_goal = g; name = n; claim = i })
  statement_typed new i t =
      let d : code.Draft = record { place = place; is_goal = g; name = n; claim = i } in
      let y : Declared = record { signature = c.known; drafts = draft_of c.text.now d t.claim ∷ [] } in
      record {
        claim = t.claim;
        stands = t.stands;
        walked = then_walked (stated (scope_of c.text.now c.known)) after (bound old.bindings) (bound new.bindings) (bound new.bindings) old.passing new.passing new.passing t.claim y
            (subst (λ z. IsWalked (stated z) (bound old.bindings) (bound new.bindings) old.passing new.passing t.claim) there t.walks.walked) (give_walked y (bound new.bindings) new.passing);
        locals = t.walks.locals ∙ bare;
        kept = t.walks.kept;
      }
