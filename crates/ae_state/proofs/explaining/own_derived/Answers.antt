use Rattle.std.proofs.Common.{sym, subst}
use Rattle.std.proofs.lemmas.Result.{IfOk-weaker}
use Rattle.ae_math.specs.Forms.{single}
use Rattle.ae_num.specs.Forms.{meaning, SameMeaning}
use Rattle.ae_num.specs.declared.forms.Lin.{Lin}
use Rattle.ae_just.specs.Steps.{Fits}
use Rattle.ae_state_steps.specs.ValueSteps.{IsWritten}
use Rattle.ae_theory.specs.Names.{terms_in}
use Rattle.ae_value_fitting.proofs.Written.{own_means}
use Rattle.ae_state.proofs.Beginning.{fits_none}
use Rattle.ae_state.proofs.OwnValues.{own_written, own_within, own_rests, own_said}
use Rattle.ae_state.proofs.explaining.own_derived.Goals as goal

pub state_own-requires-clause-fits : goal.state_own-requires-clause-fits
state_own-requires-clause-fits c =
    subst (Fits c.args.store.now.signature (terms_in c.args.store.now)) (sym c.new-justs.ensures) (fits_none c.args.store.now.signature (terms_in c.args.store.now))

pub state_own-requires-clause-written : goal.state_own-requires-clause-written
state_own-requires-clause-written c =
    subst (IsWritten c.args.store.now.signature (terms_in c.args.store.now) c.args.real c.args.name) (sym c.in_ok-form.ensures.form)
    (own_written c.args.store.now.signature (terms_in c.args.store.now) c.args.real c.args.name c.requires.name)

pub state_own-requires-clause-own : goal.state_own-requires-clause-own
state_own-requires-clause-own c = subst (λ (f : Lin). SameMeaning (meaning f) (single c.args.name)) (sym c.in_ok-form.ensures.form) (own_means c.args.name)

pub derived-requires-clause-step : goal.derived-requires-clause-step
derived-requires-clause-step c =
    own_within c.args.store.now.signature (terms_in c.args.store.now) c.new-justs.result c.state_own.new.justs c.args.real c.args.name c.in_ok-form.form c.in_ok-form.ensures.form
    c.in_ok-step.step c.in_ok-step.ensures.added

pub returns-clause-tags : goal.returns-clause-tags
returns-clause-tags c =
    IfOk-weaker c.derived.result _ _
    (λ d h held. h held
    (own_rests c.args.store.now.signature (terms_in c.args.store.now) c.new-justs.result c.state_own.new.justs c.args.real c.args.name c.in_ok-form.form c.in_ok-form.ensures.form
    c.in_ok-step.step c.in_ok-step.ensures.added c.state_own.ensures.fits held))
    c.derived.ensures.tags

pub returns-clause-stated : goal.returns-clause-stated
returns-clause-stated c =
    IfOk-weaker c.derived.result _ _
    (λ d h. own_said c.args.store.now.signature (terms_in c.args.store.now) c.new-justs.result c.state_own.new.justs c.args.real c.args.name c.in_ok-form.form c.in_ok-form.ensures.form
    c.in_ok-step.step c.in_ok-step.ensures.added d.deriv.lines h)
    c.derived.ensures.stated
