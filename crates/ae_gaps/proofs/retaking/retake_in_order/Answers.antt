use Rattle.std.proofs.Common.{refl, sym, subst}
use Rattle.ae_monoid.specs.Equations.{AreApart}
use Rattle.ae_monoid.specs.Rules.{Contents as Rules, rule_at}
use Rattle.ae_rule_steps.specs.Said.{AreSaid}
use Rattle.ae_journal.specs.Journals.{live}
use Rattle.ae_theory.specs.Names.{terms_in}
use Rattle.ae_turns.proofs.DroppedRules.{kept_in}
use Rattle.ae_turns.proofs.Steps.{going_on_leads}
use Rattle.ae_representatives.proofs.MoreSteps.{with_steps, step_more, reps_more, taken_more, steps_lead}
use Rattle.ae_representatives.proofs.Taken.{fits_all, ruled_all}
use Rattle.ae_gaps.specs.Inner.Overlapping.{IsOverlapSaid}
use Rattle.ae_gaps.proofs.Composed.{apart_joined, said_joined}
use Rattle.ae_gaps.proofs.Coupled.{overlap_source}
use Rattle.ae_gaps.proofs.Grounds.{overlap_rests}
use Rattle.ae_gaps.proofs.retaking.retake_in_order.Goals as goal

pub overlap_equation-requires-clause-fits : goal.overlap_equation-requires-clause-fits
overlap_equation-requires-clause-fits c = fits_all c.args.held.now c.args.store.now c.requires.taken

pub overlap_equation-requires-clause-said : goal.overlap_equation-requires-clause-said
overlap_equation-requires-clause-said c =
    let o = c.args.held.now in
    let s = c.args.store.now in
    subst (λ (r : Rules). AreSaid s.signature (terms_in s) o.justs (λ n. rule_at r n)) (sym c.rules-rules.ensures.rules) (ruled_all o s c.requires.taken).rules

pub returns-in_err-stated-clause-leads : goal.returns-in_err-stated-clause-leads
returns-in_err-stated-clause-leads c =
    steps_lead c.args.held.now c.overlap_equation.new.justs c.overlap_equation.ensures.kept c.args.store.now c.requires.taken c.overlap_equation.ensures.fits c.args.journal.now

pub take_up_equation-requires : goal.take_up_equation-requires
take_up_equation-requires c =
    let o = c.args.held.now in
    let s = c.args.store.now in
    let t = c.requires.taken in
    let js = c.overlap_equation.new.justs in
    let w = c.in-Some.equation in
    let said : IsOverlapSaid s.signature (terms_in s) o.justs js (kept_in o.equations) c.args.first c.args.second w =
    subst (λ (r : Rules). IsOverlapSaid s.signature (terms_in s) o.justs js (λ n. rule_at r n) c.args.first c.args.second w) c.rules-rules.ensures.rules (rw c.in-Some.is at c.in_ok-stated.ensures.some) in
    record {
      taken = taken_more o js c.overlap_equation.ensures.kept s t c.overlap_equation.ensures.fits;
      step = step_more o js (live c.args.journal.now.lines) c.requires.step;
      reps = reps_more o js c.args.reps.now c.requires.reps;
      rights = c.requires.composed.rights;
      none_waits = c.requires.none_waits;
      said = said.said;
      rests = overlap_rests o js s.signature (terms_in s) c.args.first c.args.second w (t.fits).right said;
      source = overlap_source o c.args.journal.now.lines c.requires.step c.args.first c.args.second s.signature (terms_in s) o.justs js w c.requires.paired said;
    }

pub returns-in-Some-clause-leads : goal.returns-in-Some-clause-leads
returns-in-Some-clause-leads c =
    let o = c.args.held.now in
    let s = c.args.store.now in
    let js = c.overlap_equation.new.justs in
    going_on_leads s o (with_steps o js) c.take_up_equation.new.held c.args.journal.now c.args.journal.now c.take_up_equation.new.journal
    (steps_lead o js c.overlap_equation.ensures.kept s c.requires.taken c.overlap_equation.ensures.fits c.args.journal.now) c.take_up_equation.ensures.leads

pub returns-in-Some-clause-idle : goal.returns-in-Some-clause-idle
returns-in-Some-clause-idle c q = let i = c.take_up_equation.ensures.idle q in record { stays = i.stays; rules = i.rules; pairs = i.pairs; none = i.none; lines = i.lines }

pub returns-in-Some-clause-joined : goal.returns-in-Some-clause-joined
returns-in-Some-clause-joined c q =
    let o = c.args.held.now in
    let s = c.args.store.now in
    let reps = c.args.reps.now in
    let js = c.overlap_equation.new.justs in
    let w = c.in-Some.equation in
    let said : IsOverlapSaid s.signature (terms_in s) o.justs js (kept_in o.equations) c.args.first c.args.second w =
    subst (λ (r : Rules). IsOverlapSaid s.signature (terms_in s) o.justs js (λ n. rule_at r n) c.args.first c.args.second w) c.rules-rules.ensures.rules (rw c.in-Some.is at c.in_ok-stated.ensures.some) in
    said_joined reps (kept_in o.equations) c.requires.composed (c.least_names_represent.ensures.least o reps c.requires.reps) c.args.first c.args.second w s.signature (terms_in s) o.justs js said
    (c.take_up_equation.ensures.meets q)

pub returns-in-None-clause-leads : goal.returns-in-None-clause-leads
returns-in-None-clause-leads c =
    steps_lead c.args.held.now c.overlap_equation.new.justs c.overlap_equation.ensures.kept c.args.store.now c.requires.taken c.overlap_equation.ensures.fits c.args.journal.now

pub returns-in-None-clause-taken : goal.returns-in-None-clause-taken
returns-in-None-clause-taken c =
    taken_more c.args.held.now c.overlap_equation.new.justs c.overlap_equation.ensures.kept c.args.store.now c.requires.taken c.overlap_equation.ensures.fits

pub returns-in-None-clause-step : goal.returns-in-None-clause-step
returns-in-None-clause-step c = step_more c.args.held.now c.overlap_equation.new.justs (live c.args.journal.now.lines) c.requires.step

pub returns-in-None-clause-idle : goal.returns-in-None-clause-idle
returns-in-None-clause-idle c q = record { stays = refl; rules = refl; pairs = refl; none = c.requires.none_waits; lines = refl }

pub returns-in-None-clause-joined : goal.returns-in-None-clause-joined
returns-in-None-clause-joined c q =
    let o = c.args.held.now in
    apart_joined (kept_in o.equations) c.args.first c.args.second
    (subst (λ (r : Rules). AreApart (rule_at r c.args.first) (rule_at r c.args.second)) c.rules-rules.ensures.rules (rw c.in-None.is at c.in_ok-stated.ensures.none))
