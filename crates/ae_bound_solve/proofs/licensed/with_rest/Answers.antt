use Rattle.std.specs.Prelude.{List, ◌≡◌}
use Rattle.std.proofs.Common.{refl, subst, sym, inl, inr}
use Rattle.ae_journal.specs.Licences.{IsLicensed}
use Rattle.ae_bounds.specs.declared.rows.Row.{Row}
use Rattle.ae_bounds.specs.Rounding.{AreRounded}
use Rattle.ae_bound_rest.specs.Rest.{AreNoted, AreAllNoted, AreWide}
use Rattle.ae_bound_rest.proofs.Dominated.{making_licensed}
use Rattle.ae_bound_rest.proofs.Ending.{rest_width}
use Rattle.ae_bound_solve.proofs.Making.{combination_licensed, making_of}
use Rattle.ae_bound_solve.proofs.licensed.with_rest.Goals as goal

pub note_rest-requires-clause-rounded : goal.note_rest-requires-clause-rounded
note_rest-requires-clause-rounded c = subst (λ (rs : List Row). AreRounded rs) (sym c.rows.ensures.rows) c.rows.ensures.rounded

pub returns-then-is_of_combination-clause-noted : goal.returns-then-is_of_combination-clause-noted
returns-then-is_of_combination-clause-noted c = inl refl

pub returns-then-is_of_combination-clause-licensed : goal.returns-then-is_of_combination-clause-licensed
returns-then-is_of_combination-clause-licensed c = λ at x e a g.
    let same : c.args.wide ≡ at = cc in
    subst (IsLicensed x c.args.journal.now.lines) same (combination_licensed x c.args.bounds.now c.args.journal.now.lines c.args.wide c.requires (c.is_of_combination.ensures.yes c.if-is_of_combination.true) a)

pub returns-in-Ok-clause-noted : goal.returns-in-Ok-clause-noted
returns-in-Ok-clause-noted c = inr ((making_of c.args.bounds.now c.args.wide c.requires (c.is_of_combination.ensures.no c.if-is_of_combination.false)).1, subst (λ (rs : List Row). AreNoted rs c.args.journal.now.lines c.note_rest.new.journal.lines) c.rows.ensures.rows c.note_rest.ensures.noted)

pub returns-in-Ok-clause-licensed : goal.returns-in-Ok-clause-licensed
returns-in-Ok-clause-licensed c = λ at x e a g.
    let same : c.args.wide ≡ at = cc in
    let p = making_of c.args.bounds.now c.args.wide c.requires (c.is_of_combination.ensures.no c.if-is_of_combination.false) in
    subst (IsLicensed x c.note_rest.new.journal.lines) same
    (making_licensed x c.args.journal.now.lines c.args.bounds.now a p.1 c.rows.ensures.settled c.note_rest.new.journal.lines
    (subst (λ (rs : List Row). AreAllNoted rs c.args.journal.now.lines c.note_rest.new.journal.lines) c.rows.ensures.rows c.in-Ok.ensures.all) g c.args.wide p.0)

pub returns-in-Err-clause-noted : goal.returns-in-Err-clause-noted
returns-in-Err-clause-noted c = inr ((making_of c.args.bounds.now c.args.wide c.requires (c.is_of_combination.ensures.no c.if-is_of_combination.false)).1, subst (λ (rs : List Row). AreNoted rs c.args.journal.now.lines c.note_rest.new.journal.lines) c.rows.ensures.rows c.note_rest.ensures.noted)

pub returns-in-Err-clause-licensed : goal.returns-in-Err-clause-licensed
returns-in-Err-clause-licensed c = λ at x e a g.
    let p = making_of c.args.bounds.now c.args.wide c.requires (c.is_of_combination.ensures.no c.if-is_of_combination.false) in
    rest_width x c.args.bounds.now c.args.journal.now.lines c.note_rest.new.journal.lines at a p.1
    (subst (λ (rs : List Row). AreWide rs c.args.journal.now.lines c.note_rest.new.journal.lines at) c.rows.ensures.rows (c.note_rest.ensures.number at (let i = c.in-Err.is in cc)))
