use Rattle.std.specs.Prelude.{Bool}
use Rattle.std.proofs.Common.{sym, subst, arith}
use Rattle.std.proofs.lemmas.Result.{IfOk-weaker}
use Rattle.ae_pmap.specs.Forest.{present}
use Rattle.ae_state_steps.specs.ValueSteps.{IsNumberName}
use Rattle.ae_theory.specs.Names.{terms_in}
use Rattle.ae_state.proofs.Explained.{steps_in_store}
use Rattle.ae_state.proofs.ExplainedValues.{real_by, row_within, row_rests, row_ends, own_ends, known_sort}
use Rattle.ae_state.proofs.holding.Holding.explain_value.Goals as goal

pub derived-requires-clause-step : goal.derived-requires-clause-step
derived-requires-clause-step c =
    let r = c.in-Some.ensures.some in
    row_within c.args.self.now c.args.store.now c.requires.fits c.args.name c.requires.within r.0 c.in-Some.step r.1 r.2

pub derived-requires-clause-fits : goal.derived-requires-clause-fits
derived-requires-clause-fits c = steps_in_store c.args.self.now c.args.store.now c.requires.fits

pub returns-in-Some-clause-tags : goal.returns-in-Some-clause-tags
returns-in-Some-clause-tags c =
    let r = c.in-Some.ensures.some in
    IfOk-weaker c.derived.result _ _
    (λ d h. h (present c.args.self.now.assumed) (row_rests c.args.self.now c.args.store.now c.requires.fits c.args.name c.requires.within r.0 c.in-Some.step r.1 r.2)) c.derived.ensures.tags

pub returns-in-Some-clause-stated : goal.returns-in-Some-clause-stated
returns-in-Some-clause-stated c =
    let r = c.in-Some.ensures.some in
    IfOk-weaker c.derived.result _ _
    (λ d h. row_ends c.args.self.now c.args.store.now c.requires.fits c.args.name c.requires.within r.0 c.in-Some.step r.1 r.2 d.deriv.lines h) c.derived.ensures.stated

pub entry-requires : goal.entry-requires
entry-requires c = omega (arith, c.requires.within, ((c.requires.fits).right).within)

pub own_derived-requires : goal.own_derived-requires
own_derived-requires c =
    let n = c.requires.number in
    let sort = known_sort c.args.self.now c.args.store.now c.requires.fits c.args.name c.requires.within c.entry.result.now n.0 c.entry.ensures n.1 in
    let same = real_by c.is_real-real.result n.0 c.entry.result.now.sort sort c.is_real-real.ensures in
    record { name = subst (λ (r : Bool). IsNumberName c.args.store.now.signature (terms_in c.args.store.now) r c.args.name) (sym same) n.1 }

pub returns-in-None-clause-tags : goal.returns-in-None-clause-tags
returns-in-None-clause-tags c = IfOk-weaker c.own_derived.result _ _ (λ d h. h (present c.args.self.now.assumed)) c.own_derived.ensures.tags

pub returns-in-None-clause-stated : goal.returns-in-None-clause-stated
returns-in-None-clause-stated c =
    let n = c.requires.number in
    let sort = known_sort c.args.self.now c.args.store.now c.requires.fits c.args.name c.requires.within c.entry.result.now n.0 c.entry.ensures n.1 in
    let same = real_by c.is_real-real.result n.0 c.entry.result.now.sort sort c.is_real-real.ensures in
    let name = subst (λ (r : Bool). IsNumberName c.args.store.now.signature (terms_in c.args.store.now) r c.args.name) (sym same) n.1 in
    IfOk-weaker c.own_derived.result _ _
    (λ d h real is. own_ends c.args.self.now c.args.store.now c.requires.fits c.args.name c.requires.within d.deriv.lines c.is_real-real.result real c.in-None.ensures.none name is h) c.own_derived.ensures.stated
