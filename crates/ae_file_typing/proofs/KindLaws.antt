-- A declaration by its kind.
use Rattle.std.proofs.Common.{◌≡◌, ℕ, List, [], ◌∷◌, Option, Result, Ok, Err, sym, subst}
use Rattle.std.specs.List.{AllByRecursion}
use Rattle.std.specs.Prelude.{option_to_list}
use Rattle.ae_core.specs.declared.problems.Signature.{Signature}
use Rattle.ae_core.specs.declared.terms.Sort.{Sort}
use Rattle.ae_types.specs.Bound.{bound}
use Rattle.ae_declaration_typing.specs.declared.drafts.Draft as code
use Rattle.ae_declaration_typing.specs.Drafts.{TypesDraft, draft_of}
use Rattle.ae_elab.specs.declared.faults.TypeFault.{TypeFault}
use Rattle.ae_elab.specs.declared.typings.Typing.{Typing}
use Rattle.ae_elab.specs.Declarations.{Declared, alone, kind_rule, only_declared}
use Rattle.ae_elab.specs.Names.{IsName, names_in_kind}
use Rattle.ae_elab.specs.Nodes.{IsClaim}
use Rattle.ae_elab.specs.Rules.{Passed, Rule}
use Rattle.ae_elab.specs.Steps.{IsStopped, IsWalked}
use Rattle.ae_elab.specs.Typings.{locals_of, nodes_of}
use Rattle.ae_elab.proofs.NodeLaws.{begins_itself, claim_is}
use Rattle.ae_syntax.specs.declared.decls.DeclKind.{DeclKind}
use Rattle.ae_syntax.specs.declared.spans.Span.{Span}
use Rattle.ae_file_typing.specs.Files.{drafts_at}
use Rattle.ae_file_typing.specs.Inner.Walks.{Declares, DeclaresAnswer, with_passing}

-- it gives no axiom and no goal
pub declares_none : (text : List ℕ) (r : Rule Declared) (sig : Signature) (old : Typing) (q : Passed) → locals_of old ≡ [] → IsWalked r (bound old.bindings) (bound old.bindings) old.passing q (only_declared sig)
    → Declares text r sig old (with_passing q old) []
declares_none text r sig old q bare a = record { stand = tt; walked = a; locals = bare; kept = begins_itself (nodes_of old) }

-- it gives one
pub declares_one : (text : List ℕ) (r : Rule Declared) (sig : Signature) (old new : Typing) (d : code.Draft) → TypesDraft text r sig old new d → Declares text r sig old new (d ∷ [])
declares_one text r sig old new d a =
    let e = claim_is (nodes_of new) d.claim a.claim a.stands in
    record {
      stand = (subst (λ f. IsClaim (nodes_of new) d.claim f) (sym e) a.stands, tt);
      walked = subst (λ f. IsWalked r (bound old.bindings) (bound new.bindings) old.passing new.passing (record { signature = sig; drafts = draft_of text d f ∷ [] })) (sym e) a.walked;
      locals = a.locals;
      kept = a.kept;
    }

-- a declaration begins without type variables
pub alone_walked : (r : Rule Declared) (m w : ℕ → Sort) (p q : Passed) (x : Declared) → IsWalked r m w (record { next = p.next; written = [] }) q x → IsWalked (alone r) m w p q x
alone_walked r m w p q x a = record { met = a.met; value = a.value; passed = a.passed }

pub begun_anew : (p q : Passed) → q.next ≡ p.next → q.written ≡ [] → q ≡ record { next = p.next; written = [] }
begun_anew p q e h = λ i. record { next = e i; written = h i }

-- ---- the kind that a declaration has, and its names
module _ (text : List ℕ) (sig : Signature) (place : Span) (k : DeclKind) where
  pub of_kind : (j : DeclKind) (known : Signature) (old new : Typing) (o : Result (Option code.Draft) TypeFault) → k ≡ j → DeclaresAnswer text (kind_rule text sig place j) known old new o
      → DeclaresAnswer text (kind_rule text sig place k) known old new o
  of_kind j known old new o e a = subst (λ z. DeclaresAnswer text (kind_rule text sig place z) known old new o) (sym e) a

  pub kind_names : (j : DeclKind) → k ≡ j → AllByRecursion (IsName text) (names_in_kind k) → AllByRecursion (IsName text) (names_in_kind j)
  kind_names j e a = subst (λ z. AllByRecursion (IsName text) (names_in_kind z)) e a

pub alone_answer : (text : List ℕ) (r : Rule Declared) (sig : Signature) (old new : Typing) (q : Passed) → q.next ≡ old.passing.next → q.written ≡ [] → (o : Result (Option code.Draft) TypeFault)
    → DeclaresAnswer text r sig (with_passing q old) new o
    → DeclaresAnswer text (alone r) sig old new o
alone_answer text r sig old new q e h (Ok o) a = record {
  stand = a.stand;
  walked = alone_walked r (bound old.bindings) (bound new.bindings) old.passing new.passing (record { signature = sig; drafts = drafts_at text (nodes_of new) (option_to_list o) })
      (subst (λ z. IsWalked r (bound old.bindings) (bound new.bindings) z new.passing (record { signature = sig; drafts = drafts_at text (nodes_of new) (option_to_list o) })) (begun_anew old.passing q e h) a.walked);
  locals = a.locals;
  kept = a.kept;
}
alone_answer text r sig old new q e h (Err x) a = subst (λ z. IsStopped r (bound old.bindings) z x) (begun_anew old.passing q e h) a
