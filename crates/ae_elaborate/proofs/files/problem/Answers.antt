use Rattle.std.proofs.Common.{◌∙◌, List, map, sym, ap, subst}
use Rattle.std.specs.List.{AllByRecursion}
use Rattle.std.specs.Str.{IsUtf8}
use Rattle.std.proofs.lemmas.Result.{err_from_is_err_and}
use Rattle.ae_declaration_typing.specs.declared.drafts.Draft as code
use Rattle.ae_elab.specs.Conditions.{shown}
use Rattle.ae_elab.specs.Nodes.{Entry, entries_of}
use Rattle.ae_elab.specs.Problems.{item_of}
use Rattle.ae_elab.specs.Scope.{name_in}
use Rattle.ae_elab.specs.Typings.{nodes_of}
use Rattle.ae_elaborate.specs.Inner.Typed.{large_place, typing_of}
use Rattle.ae_elaborate.proofs.ElaborateLaws.{large_at, none_large}
use Rattle.ae_file_typing.specs.Files.{drafts_at}
use Rattle.ae_elaborate.proofs.files.problem.Goals as goal

pub items-all-requires : goal.items-all-requires
items-all-requires c = subst (AllByRecursion (λ (d : code.Draft). IsUtf8 (name_in c.args.text.now d.name))) (sym c.as_slice-drafts.ensures) c.requires

pub returns-in_err-large-clause-large : goal.returns-in_err-large-clause-large
returns-in_err-large-clause-large c = let p = err_from_is_err_and c.from_residual.result c.from_residual.ensures.1 in rw (p.1, p.2) tt

pub returns-in-Some-clause-large : goal.returns-in-Some-clause-large
returns-in-Some-clause-large c =
    let t = c.args.typed.now in
    let text = c.args.text.now in
    let f = shown (typing_of t) in
    large_at text t c.in-Some.place
    (ap (λ (ds : List code.Draft). large_place f (drafts_at text (nodes_of t.typing) ds)) (sym c.as_slice-drafts.ensures)
    ∙ ap (λ (es : List Entry). large_place f (drafts_at text es c.as_slice-drafts.result.now)) (sym c.nodes-nodes.ensures)
    ∙ sym (c.in_ok-large.ensures text) ∙ c.in-Some.is)

pub returns-in_err-problem-in-None-clause-large : goal.returns-in_err-problem-in-None-clause-large
returns-in_err-problem-in-None-clause-large c =
    let p = err_from_is_err_and c.from_residual-in_err-problem-in-None.result c.from_residual-in_err-problem-in-None.ensures.1 in rw (p.1, p.2) tt

pub returns-in_ok-problem-in-None-clause-problem : goal.returns-in_ok-problem-in-None-clause-problem
returns-in_ok-problem-in-None-clause-problem c =
    let t = c.args.typed.now in
    let text = c.args.text.now in
    let f = shown (typing_of t) in
    let es = entries_of c.nodes-nodes.result.now in
    let ds = c.as_slice-drafts.result.now in
    let made = c.in_ok-problem-in-None.ensures (map (item_of (typing_of t)) (drafts_at text es ds)) c.items-all.ensures in
    record {
      small = none_large text t
          (ap (λ (zs : List code.Draft). large_place f (drafts_at text (nodes_of t.typing) zs)) (sym c.as_slice-drafts.ensures)
          ∙ ap (λ (xs : List Entry). large_place f (drafts_at text xs ds)) (sym c.nodes-nodes.ensures)
          ∙ sym (c.in_ok-large.ensures text) ∙ c.in-None.is);
      signature = made.0 ∙ c.signature.ensures;
      items = made.1
          ∙ ap (λ (zs : List code.Draft). map (item_of (typing_of t)) (drafts_at text es zs)) c.as_slice-drafts.ensures
          ∙ ap (λ (xs : List Entry). map (item_of (typing_of t)) (drafts_at text xs t.drafts)) c.nodes-nodes.ensures;
    }
