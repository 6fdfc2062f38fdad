use Rattle.std.proofs.Common.{rules, ◌<◌, ◌≤◌, sym, subst, suc, length, arith}
use Rattle.ae_rules.specs.Linear.{form}
use Rattle.ae_store.specs.Growing.{IsFront}
use Rattle.ae_store.specs.Shapes.{shapes}
use Rattle.ae_store.specs.Terms.{terms, named}
use Rattle.ae_constants.specs.Forms.{meaning, IsExact}
use Rattle.ae_constants.specs.Tables.{AreForms}
use Rattle.ae_constants.proofs.TableLaws.{count_terms, forms_push, front_more}
use Rattle.ae_constants.proofs.table.Forms.take_in.Goals as goal

pub names-preserved : goal.names-preserved
names-preserved c =
    let ts = terms (shapes c.args.store.now.nodes) in
    let fs = c.names.self.forms in
    let left : length fs < length c.args.store.now.nodes = search rules in
    let inside : length fs < length ts = omega (arith, left, count_terms c.args.store.now.nodes) in
    let next : IsExact ts (suc (length fs)) (form (named ts (length fs))) (meaning c.in_ok-form.form) =
    subst (λ gs. IsExact ts (suc (length gs)) (form (named ts (length gs))) (meaning c.in_ok-form.form)) c.as_slice.ensures c.in_ok-form.ensures in
    record {
      fits = subst (AreForms ts) (sym c.in_ok-push.ensures.ok) (forms_push ts fs c.in_ok-form.form c.names.invariant.fits inside next);
      kept = subst (IsFront c.args.self.now.forms) (sym c.in_ok-push.ensures.ok) (front_more c.args.self.now.forms fs c.in_ok-form.form c.names.invariant.kept);
    }

pub returns-clause-all : goal.returns-clause-all
returns-clause-all c =
    let all : length c.args.store.now.nodes ≤ length c.names.self.forms = search rules in
    omega (arith, all, c.names.invariant.fits.within, count_terms c.args.store.now.nodes)
