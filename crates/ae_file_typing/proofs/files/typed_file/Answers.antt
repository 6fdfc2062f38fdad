use Rattle.std.proofs.Common.{List, sym, ap, subst}
use Rattle.ae_types.specs.Bound.{bound}
use Rattle.ae_elab.specs.Declarations.{Declared, decls_rule}
use Rattle.ae_elab.specs.Names.{IsName, names_in_kind}
use Rattle.ae_elab.specs.Steps.{IsStopped, IsWalked}
use Rattle.ae_elab.specs.Typings.{nodes_of}
use Rattle.ae_expressions.proofs.ExprParts.{all_joined}
use Rattle.ae_syntax.specs.declared.decls.Decl.{Decl}
use Rattle.ae_file_typing.specs.Files.{AreNamedDecls, drafts_at}
use Rattle.ae_file_typing.proofs.FileRules.{file_principal, file_stops, file_value}
use Rattle.ae_file_typing.proofs.files.typed_file.Goals as goal

pub declarations-requires : goal.declarations-requires
declarations-requires c = record {
  locals = c.new-4.ensures.locals;
  names = subst (λ (ds : List Decl). AreNamedDecls c.args.text.now ds) (sym c.as_slice.ensures) (all_joined (IsName c.args.text.now) (λ (d : Decl). names_in_kind d.kind) c.args.file.now.decls c.requires.names);
}

pub returns-in-Ok-clause-principal : goal.returns-in-Ok-clause-principal
returns-in-Ok-clause-principal c =
    let text = c.args.text.now in
    let b = c.new-3.result in
    let p = c.new-2.result in
    let t = c.declarations.new.typing in
    let y : Declared = record { signature = c.declarations.new.context.known; drafts = drafts_at text (nodes_of t) c.in-Ok.drafts } in
    file_principal text c.args.file.now c.new.result (bound b) p c.new.ensures c.new-3.ensures c.new-2.ensures.next c.new-2.ensures.written (bound t.bindings) t.passing y
    (subst (λ (ds : List Decl). IsWalked (decls_rule text c.new.result ds) (bound b) (bound t.bindings) p t.passing y) c.as_slice.ensures c.in-Ok.ensures.walked)

pub returns-in-Ok-clause-signature : goal.returns-in-Ok-clause-signature
returns-in-Ok-clause-signature c =
    let text = c.args.text.now in
    let b = c.new-3.result in
    let p = c.new-2.result in
    let t = c.declarations.new.typing in
    let y : Declared = record { signature = c.declarations.new.context.known; drafts = drafts_at text (nodes_of t) c.in-Ok.drafts } in
    sym (ap (λ (z : Declared). z.signature) (file_value text c.args.file.now c.new.result (bound b) p c.new.ensures c.new-3.ensures c.new-2.ensures.next c.new-2.ensures.written (bound t.bindings) t.passing y
    (subst (λ (ds : List Decl). IsWalked (decls_rule text c.new.result ds) (bound b) (bound t.bindings) p t.passing y) c.as_slice.ensures c.in-Ok.ensures.walked)))

pub returns-in-Ok-clause-drafts : goal.returns-in-Ok-clause-drafts
returns-in-Ok-clause-drafts c =
    let text = c.args.text.now in
    let b = c.new-3.result in
    let p = c.new-2.result in
    let t = c.declarations.new.typing in
    let y : Declared = record { signature = c.declarations.new.context.known; drafts = drafts_at text (nodes_of t) c.in-Ok.drafts } in
    sym (ap (λ (z : Declared). z.drafts) (file_value text c.args.file.now c.new.result (bound b) p c.new.ensures c.new-3.ensures c.new-2.ensures.next c.new-2.ensures.written (bound t.bindings) t.passing y
    (subst (λ (ds : List Decl). IsWalked (decls_rule text c.new.result ds) (bound b) (bound t.bindings) p t.passing y) c.as_slice.ensures c.in-Ok.ensures.walked)))

pub returns-clause-fault : goal.returns-clause-fault
returns-clause-fault c =
    let text = c.args.text.now in
    let b = c.new-3.result in
    let p = c.new-2.result in
    file_stops text c.args.file.now c.new.result (bound b) p c.new.ensures c.new-3.ensures c.new-2.ensures.next c.new-2.ensures.written c.in-Err.fault
    (subst (λ (ds : List Decl). IsStopped (decls_rule text c.new.result ds) (bound b) p c.in-Err.fault) c.as_slice.ensures c.in-Err.ensures)
