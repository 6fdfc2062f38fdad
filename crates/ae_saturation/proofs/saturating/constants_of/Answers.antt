use Rattle.std.specs.Prelude.{◌+◌}
use Rattle.std.proofs.Common.{sym, subst, arith}
use Rattle.std.proofs.lemmas.List.{length-map}
use Rattle.ae_store.specs.Shapes.{shapes, shape_of}
use Rattle.ae_store.proofs.TermLaws.{length_terms}
use Rattle.ae_theory.specs.Names.{terms_in}
use Rattle.ae_saturation.proofs.Constants.{AreFirstConstants, constants_none, constants_pushed}
use Rattle.ae_saturation.proofs.saturating.constants_of.Goals as goal

pub take_in-requires : goal.take_in-requires
take_in-requires c = c.new-forms.ensures.fits (terms_in c.args.store.now)

pub is_constant-requires : goal.is_constant-requires
is_constant-requires c = omega (arith, c.loop-name-test.true, c.loop-name.auto.name-end, c.len-name-end.ensures.len, c.in_ok-take_in.ensures.all)

pub loop-name-init : goal.loop-name-init
loop-name-init c = subst (AreFirstConstants (terms_in c.args.store.now) 0) (sym c.new-constants.ensures) (constants_none (terms_in c.args.store.now))

pub loop-name-preserved : goal.loop-name-preserved
loop-name-preserved c =
    let ts = terms_in c.args.store.now in
    let told = c.is_constant.ensures ts ((c.len-name-end.ensures.store).sound).one_name c.in_ok-take_in.ensures.fits in
    subst (AreFirstConstants ts (c.loop-name.name + 1)) (sym c.in_ok-push.ensures.ok) (constants_pushed ts c.loop-name.name c.loop-name.constants c.is_constant.result told c.loop-name.invariant)

pub returns : goal.returns
returns c =
    let nodes = c.args.store.now.nodes in
    record {
      one_each = omega (arith, c.loop-name.invariant.one_each, c.loop-name-test.false, c.loop-name.auto.name-end, c.len-name-end.ensures.len, length_terms (shapes nodes), length-map nodes shape_of);
      each = c.loop-name.invariant.each;
    }
