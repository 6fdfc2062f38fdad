use Rattle.std.proofs.Common.{List, subst, [], sym, ◌∙◌}
use Rattle.ae_ages.specs.declared.entries.Aged.{Aged}
use Rattle.ae_brought_clauses.specs.Inner.Bringing.{AreAgedBut}
use Rattle.ae_brought_clauses.proofs.Again.{names_there, names_kept}
use Rattle.ae_brought_clauses.proofs.Whole.{all_brought}
use Rattle.ae_brought_clauses.proofs.bringing.bring_clause.Goals as goal

pub bring_fallen-requires-clause-same : goal.bring_fallen-requires-clause-same
bring_fallen-requires-clause-same c = c.requires.same ∙ sym (c.in_ok-bring_literals.ensures []).named.signature

pub bring_fallen-requires-clause-there : goal.bring_fallen-requires-clause-there
bring_fallen-requires-clause-there c =
    names_kept c.args.opened.now c.args.store.now c.bring_literals.new.store (c.in_ok-bring_literals.ensures []).named.keeps (names_there c.args.opened.now c.args.store.now c.requires.there)

pub returns : goal.returns
returns c =
    let os = c.args.opened.now in
    all_brought os c.args.generation c.args.store.now c.args.ages.now c.bring_literals.new.store c.bring_literals.new.ages c.bring_fallen.new.store c.bring_fallen.new.ages c.args.literals.now c.in_ok-places.places
    (c.in_ok-bring_literals.ensures os) c.in_ok-bring_fallen.ensures.brings
    (subst (λ (es : List Aged). AreAgedBut os c.args.generation es c.in_ok-places.places) c.as_slice.ensures c.in_ok-places.ensures.others) c.in_ok-bring_fallen.ensures.served
