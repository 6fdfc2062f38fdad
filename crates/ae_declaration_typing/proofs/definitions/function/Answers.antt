use Rattle.std.proofs.Common.{List, [], map, refl, sym, subst}
use Rattle.std.specs.List.{AllByRecursion}
use Rattle.std.proofs.lemmas.Result.{err_from_is_err_and}
use Rattle.ae_types.specs.Bound.{bound}
use Rattle.ae_declaration_typing.specs.Drafts.{DraftAnswer}
use Rattle.ae_declaration_typing.specs.Inner.Rests.{function_rest}
use Rattle.ae_declaration_typing.proofs.DefinitionLaws.{draft_after, name_fault, formals_fault, after_formals, after_bounds, value_fault, after_value}
use Rattle.ae_elab.specs.declared.typings.Bound as code
use Rattle.ae_elab.specs.declared.typings.Typing.{Typing}
use Rattle.ae_elab.specs.Declarations.{function_decl}
use Rattle.ae_elab.specs.Names.{IsName}
use Rattle.ae_elab.specs.Typings.{bound_in}
use Rattle.ae_declaration_typing.proofs.definitions.function.Goals as goal

pub returns-in_err-new_symbol-clause-draft : goal.returns-in_err-new_symbol-clause-draft
returns-in_err-new_symbol-clause-draft c =
    let p = err_from_is_err_and c.from_residual.result c.from_residual.ensures.1 in
    let d = c.args.context.now in
    let text = d.text.now in
    let old = c.args.typing.now in
    rw (p.1, p.2) (name_fault text d.known c.args.place c.args.name (bound old.bindings) old.passing c.args.formals.now (after_bounds text d.known c.args.place c.args.name
    (bound old.bindings) old.passing c.args.body.now c.args.value.now)
    c.in_err-new_symbol.field-0.0 c.in_err-new_symbol.ensures.fault)

pub returns-in_err-bounds-clause-draft : goal.returns-in_err-bounds-clause-draft
returns-in_err-bounds-clause-draft c =
    let p = err_from_is_err_and c.from_residual-in_err-bounds.result c.from_residual-in_err-bounds.ensures.1 in
    let d = c.args.context.now in
    let text = d.text.now in
    let old = c.args.typing.now in
    rw (p.1, p.2) (formals_fault text d.known c.args.place c.args.name (bound old.bindings) old.passing c.args.formals.now (after_bounds text d.known c.args.place c.args.name
    (bound old.bindings) old.passing c.args.body.now c.args.value.now)
    c.in_ok-new_symbol.ensures.met c.in_err-bounds.field-0.0 c.in_err-bounds.ensures.fault)

pub returns-in_err-sort-clause-draft : goal.returns-in_err-sort-clause-draft
returns-in_err-sort-clause-draft c =
    let p = err_from_is_err_and c.from_residual-in_err-sort.result c.from_residual-in_err-sort.ensures.1 in
    let d = c.args.context.now in
    let text = d.text.now in
    let old = c.args.typing.now in
    let m = bound old.bindings in
    let bs = map (bound_in text) c.in_ok-bounds.bounds in
    let q = c.formals_of.new.passing in
    let rest = after_bounds text d.known c.args.place c.args.name m old.passing c.args.body.now c.args.value.now in
    rw (p.1, p.2) (value_fault text d.known c.args.place c.args.name m old.passing c.args.body.now c.args.value.now (function_decl text d.known c.args.place c.args.name c.args.formals.now c.args.value.now c.args.body.now) q bs
    (after_formals text d.known c.args.place c.args.name m old.passing c.args.formals.now rest c.in_ok-new_symbol.ensures.met q bs c.in_ok-bounds.ensures.bounds)
    c.in_err-sort.field-0.0 (c.in_err-sort.ensures.fault []))

pub define_function-requires : goal.define_function-requires
define_function-requires c = record {
  locals = c.requires.locals;
  name = c.requires.name;
  bounds = subst (AllByRecursion (λ (b : code.Bound). IsName c.args.context.now.text.now b.name)) (sym c.as_slice-own.ensures) c.in_ok-bounds.ensures.names;
  body = c.requires.body;
}

pub returns-clause-draft : goal.returns-clause-draft
returns-clause-draft c =
    let d = c.args.context.now in
    let text = d.text.now in
    let old = c.args.typing.now in
    let m = bound old.bindings in
    let bs = map (bound_in text) c.in_ok-bounds.bounds in
    let q = c.formals_of.new.passing in
    let r = c.sort_of.new.passing in
    let s = c.in_ok-sort.sort in
    let rest = after_bounds text d.known c.args.place c.args.name m old.passing c.args.body.now c.args.value.now in
    let whole = function_decl text d.known c.args.place c.args.name c.args.formals.now c.args.value.now c.args.body.now in
    let mid : Typing = record { passing = r; bindings = old.bindings; environment = old.environment } in
    draft_after text whole (function_rest text d.known c.args.place c.args.name c.args.body.now bs s) c.define_function.new.context.known old mid c.define_function.new.typing
    (after_value text d.known c.args.place c.args.name m old.passing c.args.body.now c.args.value.now whole q bs
    (after_formals text d.known c.args.place c.args.name m old.passing c.args.formals.now rest c.in_ok-new_symbol.ensures.met q bs c.in_ok-bounds.ensures.bounds) r s (c.in_ok-sort.ensures.sort []))
    refl c.define_function.result
    (subst (λ (bounds : List code.Bound). DraftAnswer text (function_rest text d.known c.args.place c.args.name c.args.body.now (map
    (bound_in text) bounds) s) c.define_function.new.context.known mid c.define_function.new.typing c.define_function.result)
    c.as_slice-own.ensures c.define_function.ensures.draft)
