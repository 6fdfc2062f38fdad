use Rattle.std.proofs.Common.{◌≡◌, ◌∙◌, get_or, ap, subst}
use Rattle.std.specs.Prelude.{not}
use Rattle.std.proofs.lemmas.List.{get_or_read}
use Rattle.std.proofs.lemmas.Result.{on_ok_weaker, on_err_weaker}
use Rattle.ae_propagation.specs.declared.occurrences.Occurrences.{Occurrences}
use Rattle.ae_propagation.specs.Inner.Finding.{none_listed, side, IsPut}
use Rattle.ae_propagation.proofs.Numbering.{code_own, code_others, code_same}
use Rattle.ae_propagation.proofs.occurrences.put.Goals as goal

pub returns-clause-own : goal.returns-clause-own
returns-clause-own c =
    let table = c.args.table.now.items in
    let k = c.args.code.now in
    let o = c.push_side.new.o in
    let r : c.index_mut.result.now ≡ get_or table k.number none_listed = get_or_read table k.number c.index_mut.result.now c.requires.within c.index_mut.ensures.value none_listed in
    on_ok_weaker c.push_side.result
    (λ p numbers l is. code_own (IsPut c.args.clause) numbers table l k o is c.requires.within (subst (λ (x : Occurrences). IsPut c.args.clause (side k.positive x) (side k.positive o)) r p)) c.push_side.ensures.put

pub returns-clause-others : goal.returns-clause-others
returns-clause-others c numbers l m h is d =
    let table = c.args.table.now.items in
    let k = c.args.code.now in
    let o = c.push_side.new.o in
    let r : c.index_mut.result.now ≡ get_or table k.number none_listed = get_or_read table k.number c.index_mut.result.now c.requires.within c.index_mut.ensures.value none_listed in
    code_others numbers table l m k o h is (c.push_side.ensures.other ∙ ap (side (not k.positive)) r) d

pub returns-clause-err : goal.returns-clause-err
returns-clause-err c =
    let table = c.args.table.now.items in
    let k = c.args.code.now in
    let o = c.push_side.new.o in
    let r : c.index_mut.result.now ≡ get_or table k.number none_listed = get_or_read table k.number c.index_mut.result.now c.requires.within c.index_mut.ensures.value none_listed in
    on_err_weaker c.push_side.result
    (λ e numbers l m h is. code_same numbers table l m k o h is (e ∙ ap (side k.positive) r) (c.push_side.ensures.other ∙ ap (side (not k.positive)) r)) c.push_side.ensures.err
