use Rattle.std.proofs.Common.{arith, ◌∙◌, ℕ, ◌+◌, List, ◌∷◌, Some, drop, refl, sym, ap, subst}
use Rattle.std.specs.List.{AllByRecursion}
use Rattle.std.specs.Prelude.{option_to_list}
use Rattle.std.proofs.lemmas.List.{drop_more, drop_all}
use Rattle.std.proofs.lemmas.Option.{slice_get-get_or}
use Rattle.std.proofs.lemmas.Result.{err_from_is_err_and}
use Rattle.ae_base.proofs.AllOf.{all_at}
use Rattle.ae_types.specs.Bound.{bound}
use Rattle.ae_declaration_typing.specs.declared.drafts.Draft as code
use Rattle.ae_elab.specs.Declarations.{decl_rule, decls_rule}
use Rattle.ae_elab.specs.Names.{IsName, names_in_kind}
use Rattle.ae_elab.specs.Steps.{IsStopped}
use Rattle.ae_elab.specs.Typings.{nodes_of}
use Rattle.ae_elab.proofs.NodeLaws.{begins_itself, begins_on}
use Rattle.ae_syntax.specs.declared.decls.Decl.{Decl}
use Rattle.ae_file_typing.specs.Files.{drafts_at}
use Rattle.ae_file_typing.specs.Inner.Walks.{Declares, Stand}
use Rattle.ae_file_typing.proofs.FileRules.{Goes, goes_end, goes_next, goes_start, goes_stop, stand_next}
use Rattle.ae_file_typing.proofs.declarations.declarations.Goals as goal

abbrev AreNamed : List ℕ → Decl → Type 0
AreNamed text d = AllByRecursion (IsName text) (names_in_kind d.kind)

pub loop-decl-init : goal.loop-decl-init
loop-decl-init c =
    let text = c.args.context.now.text.now in
    let old = c.args.typing.now in
    let sig = c.args.context.now.known in
    let ds = c.args.decls.now in
    let whole = decls_rule text sig ds in
    record {
      text = refl;
      locals = c.requires.locals;
      kept = begins_itself (nodes_of old);
      stand = subst (λ (xs : List code.Draft). Stand (nodes_of old) xs) (sym c.new-drafts.ensures) tt;
      goes = subst (λ (xs : List code.Draft). Goes text whole (bound old.bindings) old.passing sig (bound old.bindings) old.passing (drafts_at text (nodes_of old) xs) ds) (sym c.new-drafts.ensures)
          (goes_start text sig ds (bound old.bindings) old.passing);
    }

pub declaration-requires : goal.declaration-requires
declaration-requires c =
    let xs = c.args.decls.now in
    let x = c.decl-item.result in
    let i = c.loop-decl.decl-index in
    record {
      locals = c.loop-decl.invariant.locals;
      names = subst (λ (t : List ℕ). AreNamed t x) (sym c.loop-decl.invariant.text)
          (all_at (AreNamed c.args.context.now.text.now) xs i x c.requires.names (slice_get-get_or xs i x c.loop-decl-test.true ∙ ap Some (sym c.decl-item.is)));
    }

pub returns-in_err-draft : goal.returns-in_err-draft
returns-in_err-draft c =
    let p = err_from_is_err_and c.from_residual.result c.from_residual.ensures.1 in
    let text = c.args.context.now.text.now in
    let old = c.args.typing.now in
    let xs = c.args.decls.now in
    let x = c.decl-item.result in
    let i = c.loop-decl.decl-index in
    let whole = decls_rule text c.args.context.now.known xs in
    let now = c.loop-decl.typing in
    let e = c.in_err-draft.field-0.0 in
    let done = drafts_at text (nodes_of now) c.loop-decl.drafts in
    let here = subst (λ (rest : List Decl). Goes text whole (bound old.bindings) old.passing c.loop-decl.context.known (bound now.bindings) now.passing done rest)
    (drop_more xs i x c.loop-decl-test.true ∙ ap (λ (z : Decl). z ∷ drop (i + 1) xs) (sym c.decl-item.is)) c.loop-decl.invariant.goes in
    rw (p.1, p.2) (goes_stop text whole (bound old.bindings) old.passing c.loop-decl.context.known (bound now.bindings) now.passing done x (drop (i + 1) xs) here e
    (subst (λ (t : List ℕ). IsStopped (decl_rule t c.loop-decl.context.known x) (bound now.bindings) now.passing e) c.loop-decl.invariant.text c.in_err-draft.ensures.declared))

pub loop-decl-preserved : goal.loop-decl-preserved
loop-decl-preserved c =
    let text = c.args.context.now.text.now in
    let old = c.args.typing.now in
    let xs = c.args.decls.now in
    let x = c.decl-item.result in
    let i = c.loop-decl.decl-index in
    let whole = decls_rule text c.args.context.now.known xs in
    let now = c.loop-decl.typing in
    let next = c.declaration.new.typing in
    let sig = c.loop-decl.context.known in
    let known = c.declaration.new.context.known in
    let ds = c.loop-decl.drafts in
    let ns = option_to_list c.in_ok-draft.draft in
    let done = drafts_at text (nodes_of now) ds in
    let here = subst (λ (rest : List Decl). Goes text whole (bound old.bindings) old.passing sig (bound now.bindings) now.passing done rest)
    (drop_more xs i x c.loop-decl-test.true ∙ ap (λ (z : Decl). z ∷ drop (i + 1) xs) (sym c.decl-item.is)) c.loop-decl.invariant.goes in
    let a : Declares text (decl_rule text sig x) known now next ns = subst (λ (t : List ℕ). Declares t (decl_rule t sig x) known now next ns) c.loop-decl.invariant.text c.in_ok-draft.ensures.declared in
    let more = c.in_ok-push_some.ensures in
    record {
      text = c.in_ok-draft.ensures.text ∙ c.loop-decl.invariant.text;
      locals = a.locals;
      kept = begins_on (nodes_of old) (nodes_of now) (nodes_of next) c.loop-decl.invariant.kept a.kept;
      stand = subst (λ (zs : List code.Draft). Stand (nodes_of next) zs) (sym more) (stand_next text whole (bound old.bindings) old.passing sig known now next ds ns x a c.loop-decl.invariant.stand);
      goes = subst (λ (zs : List code.Draft). Goes text whole (bound old.bindings) old.passing known (bound next.bindings) next.passing (drafts_at text (nodes_of next) zs) (drop (i + 1) xs)) (sym more)
          (goes_next text whole (bound old.bindings) old.passing sig known now next ds ns x a c.loop-decl.invariant.stand (drop (i + 1) xs) here);
    }

pub returns : goal.returns
returns c =
    let text = c.args.context.now.text.now in
    let old = c.args.typing.now in
    let xs = c.args.decls.now in
    let whole = decls_rule text c.args.context.now.known xs in
    let now = c.loop-decl.typing in
    let done = drafts_at text (nodes_of now) c.loop-decl.drafts in
    record {
      stand = c.loop-decl.invariant.stand;
      walked = goes_end text whole (bound old.bindings) old.passing c.loop-decl.context.known (bound now.bindings) now.passing done
          (subst (λ (rest : List Decl). Goes text whole (bound old.bindings) old.passing c.loop-decl.context.known (bound now.bindings) now.passing done rest) (drop_all c.loop-decl.decl-index xs (omega
          (arith, c.loop-decl-test.false))) c.loop-decl.invariant.goes);
      locals = c.loop-decl.invariant.locals;
      kept = c.loop-decl.invariant.kept;
    }
