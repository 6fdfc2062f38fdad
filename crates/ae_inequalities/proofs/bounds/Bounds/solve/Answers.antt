use Rattle.std.specs.Prelude.{OnOk}
use Rattle.std.proofs.Common.{sym, subst}
use Rattle.ae_journal.specs.Standing.{Setting}
use Rattle.ae_bound_rest.specs.Laws.{AreAgreed}
use Rattle.ae_inequalities.specs.Held.{Held, AreOfTags}
use Rattle.ae_inequalities.proofs.Numbered.{tight_literals}
use Rattle.ae_inequalities.proofs.bounds.Bounds.solve.Goals as goal

pub returns-clause-literals : goal.returns-clause-literals
returns-clause-literals c = λ e assumed h all. c.solve_rows.ensures.literals e assumed h (subst (λ (b : Held). AreOfTags assumed b) (sym c.self.view_is) all)

pub returns-clause-tight_literals : goal.returns-clause-tight_literals
returns-clause-tight_literals c = λ found assumed h all.
    tight_literals c.args.store.now (record { rows = c.solve_rows.new.rows; given = c.self.inside.given; tags = c.self.inside.tags }) assumed found (subst (λ (b : Held). AreOfTags assumed b) (sym c.self.view_is) all)
    (c.solve_rows.ensures.tight found h)

pub returns-clause-agreed : goal.returns-clause-agreed
returns-clause-agreed c =
    subst (λ (b : Held). OnOk c.solve_rows.result ((x : Setting) → AreAgreed x c.args.journal.now.lines b.rows → AreAgreed x c.solve_rows.new.journal.lines c.solve_rows.new.rows)) c.self.view_is c.solve_rows.ensures.agreed

pub returns-clause-licensed : goal.returns-clause-licensed
returns-clause-licensed c = λ w x e agreed given. c.solve_rows.ensures.licensed w x e (subst (λ (b : Held). AreAgreed x c.args.journal.now.lines b.rows) (sym c.self.view_is) agreed) given
