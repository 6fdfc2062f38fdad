use Rattle.std.proofs.Common.{List, map, refl, sym, subst}
use Rattle.std.specs.List.{AllByRecursion}
use Rattle.std.proofs.lemmas.Result.{err_from_is_err_and}
use Rattle.ae_types.specs.Bound.{bound}
use Rattle.ae_declaration_typing.specs.Drafts.{DraftAnswer}
use Rattle.ae_declaration_typing.specs.Inner.Rests.{predicate_rest}
use Rattle.ae_declaration_typing.proofs.DefinitionLaws.{draft_after, name_fault, formals_fault, after_formals}
use Rattle.ae_elab.specs.declared.typings.Bound as code
use Rattle.ae_elab.specs.declared.typings.Typing.{Typing}
use Rattle.ae_elab.specs.Declarations.{predicate_decl}
use Rattle.ae_elab.specs.Names.{IsName}
use Rattle.ae_elab.specs.Typings.{bound_in}
use Rattle.ae_declaration_typing.proofs.definitions.predicate.Goals as goal

pub returns-in_err-new_symbol-clause-draft : goal.returns-in_err-new_symbol-clause-draft
returns-in_err-new_symbol-clause-draft c =
    let p = err_from_is_err_and c.from_residual.result c.from_residual.ensures.1 in
    let d = c.args.context.now in
    let text = d.text.now in
    let old = c.args.typing.now in
    rw (p.1, p.2) (name_fault text d.known c.args.place c.args.name (bound old.bindings) old.passing c.args.formals.now (predicate_rest text d.known c.args.place c.args.name c.args.body.now)
    c.in_err-new_symbol.field-0.0 c.in_err-new_symbol.ensures.fault)

pub returns-in_err-bounds-clause-draft : goal.returns-in_err-bounds-clause-draft
returns-in_err-bounds-clause-draft c =
    let p = err_from_is_err_and c.from_residual-in_err-bounds.result c.from_residual-in_err-bounds.ensures.1 in
    let d = c.args.context.now in
    let text = d.text.now in
    let old = c.args.typing.now in
    rw (p.1, p.2) (formals_fault text d.known c.args.place c.args.name (bound old.bindings) old.passing c.args.formals.now (predicate_rest text d.known c.args.place c.args.name c.args.body.now)
    c.in_ok-new_symbol.ensures.met c.in_err-bounds.field-0.0 c.in_err-bounds.ensures.fault)

pub define_predicate-requires : goal.define_predicate-requires
define_predicate-requires c = record {
  locals = c.requires.locals;
  name = c.requires.name;
  bounds = subst (AllByRecursion (λ (b : code.Bound). IsName c.args.context.now.text.now b.name)) (sym c.as_slice-own.ensures) c.in_ok-bounds.ensures.names;
  body = c.requires.body;
}

pub returns-clause-draft : goal.returns-clause-draft
returns-clause-draft c =
    let d = c.args.context.now in
    let text = d.text.now in
    let old = c.args.typing.now in
    let m = bound old.bindings in
    let bs = map (bound_in text) c.in_ok-bounds.bounds in
    let q = c.formals_of.new.passing in
    let whole = predicate_decl text d.known c.args.place c.args.name c.args.formals.now c.args.body.now in
    let mid : Typing = record { passing = q; bindings = old.bindings; environment = old.environment } in
    draft_after text whole (predicate_rest text d.known c.args.place c.args.name c.args.body.now bs) c.define_predicate.new.context.known old mid c.define_predicate.new.typing
    (after_formals text d.known c.args.place c.args.name m old.passing c.args.formals.now (predicate_rest text d.known c.args.place c.args.name c.args.body.now) c.in_ok-new_symbol.ensures.met q bs c.in_ok-bounds.ensures.bounds)
    refl c.define_predicate.result
    (subst (λ (bounds : List code.Bound). DraftAnswer text (predicate_rest text d.known c.args.place c.args.name c.args.body.now (map
    (bound_in text) bounds)) c.define_predicate.new.context.known mid c.define_predicate.new.typing c.define_predicate.result)
    c.as_slice-own.ensures c.define_predicate.ensures.draft)
