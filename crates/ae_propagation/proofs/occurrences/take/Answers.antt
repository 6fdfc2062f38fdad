use Rattle.std.proofs.Common.{◌≡◌, ◌∙◌, get_or, ap, subst}
use Rattle.std.specs.Prelude.{not}
use Rattle.std.proofs.lemmas.List.{get_or_read}
use Rattle.ae_propagation.specs.declared.occurrences.Occurrences.{Occurrences}
use Rattle.ae_propagation.specs.Inner.Finding.{none_listed, side, IsTaken}
use Rattle.ae_propagation.proofs.Numbering.{code_own, code_others}
use Rattle.ae_propagation.proofs.occurrences.take.Goals as goal

pub returns-clause-own : goal.returns-clause-own
returns-clause-own c numbers l is =
    let table = c.args.table.now.items in
    let k = c.args.code.now in
    let o = c.take_side.new.o in
    let r : c.index_mut.result.now ≡ get_or table k.number none_listed = get_or_read table k.number c.index_mut.result.now c.requires.within c.index_mut.ensures.value none_listed in
    code_own (IsTaken c.args.clause) numbers table l k o is c.requires.within (subst (λ (x : Occurrences). IsTaken c.args.clause (side k.positive x) (side k.positive o)) r c.take_side.ensures.taken)

pub returns-clause-others : goal.returns-clause-others
returns-clause-others c numbers l m h is d =
    let table = c.args.table.now.items in
    let k = c.args.code.now in
    let o = c.take_side.new.o in
    let r : c.index_mut.result.now ≡ get_or table k.number none_listed = get_or_read table k.number c.index_mut.result.now c.requires.within c.index_mut.ensures.value none_listed in
    code_others numbers table l m k o h is (c.take_side.ensures.other ∙ ap (side (not k.positive)) r) d
