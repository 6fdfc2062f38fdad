use Rattle.std.specs.Prelude.{ℕ, List, map}
use Rattle.std.proofs.Common.{sym, subst}
use Rattle.ae_core.specs.declared.problems.AcSymbol.{AcSymbol}
use Rattle.ae_core.specs.declared.problems.Signature.{Signature}
use Rattle.ae_core.specs.declared.terms.Term.{Term}
use Rattle.ae_journal.specs.Journals.{live}
use Rattle.ae_multiset.specs.Rewriting.{Joins}
use Rattle.ae_rule_lines.specs.InStep.{HasSource}
use Rattle.ae_settled.specs.Held.{HasRule}
use Rattle.ae_state.specs.Names.{rules_now}
use Rattle.ae_state.specs.Stepping.{equation}
use Rattle.ae_sweeps.specs.Given.{rep_in}
use Rattle.ae_turns.proofs.DroppedRules.{kept_in}
use Rattle.ae_turns.proofs.Steps.{going_on_leads}
use Rattle.ae_representatives.proofs.MoreSteps.{with_steps, step_more, reps_more, taken_more, steps_lead}
use Rattle.ae_representatives.proofs.Taken.{fits_all, seen_now}
use Rattle.ae_gaps.proofs.Composed.{meets_join}
use Rattle.ae_gaps.proofs.Grounds.{rests_on_nothing}
use Rattle.ae_gaps.proofs.JoinedNames.{joined_source}
use Rattle.ae_gaps.proofs.joins.take_up_join.Goals as goal

pub join_equation-requires-clause-fits : goal.join_equation-requires-clause-fits
join_equation-requires-clause-fits c = fits_all c.args.held.now c.args.store.now c.requires.taken

pub returns-in_err-equation-clause-leads : goal.returns-in_err-equation-clause-leads
returns-in_err-equation-clause-leads c =
    steps_lead c.args.held.now c.join_equation.new.justs c.join_equation.ensures.kept c.args.store.now c.requires.taken c.join_equation.ensures.fits c.args.journal.now

pub take_up_equation-requires : goal.take_up_equation-requires
take_up_equation-requires c =
    let o = c.args.held.now in
    let s = c.args.store.now in
    let t = c.requires.taken in
    let js = c.join_equation.new.justs in
    let w = c.in_ok-equation.equation in
    let x = c.requires.joined in
    let e = c.in_ok-equation.ensures in
    let ls = live c.args.journal.now.lines in
    record {
      taken = taken_more o js c.join_equation.ensures.kept s t c.join_equation.ensures.fits;
      step = step_more o js ls c.requires.step;
      reps = reps_more o js c.args.reps.now c.requires.reps;
      rights = c.requires.composed.rights;
      none_waits = c.requires.none_waits;
      said = e.said;
      rests = rests_on_nothing o js w.step e.rests;
      source =
          subst (λ (z : Signature × List Term). HasSource z.0 z.1 ls (equation w)) (sym (seen_now o s t))
          (joined_source s.signature s.nodes c.args.name x t.store ls w (e.symbol x.node x.symbol x.left x.right x.at x.joins) (e.left x.node x.symbol x.left x.right x.at x.joins) e.right);
    }

pub returns-clause-leads : goal.returns-clause-leads
returns-clause-leads c =
    let o = c.args.held.now in
    let s = c.args.store.now in
    let js = c.join_equation.new.justs in
    going_on_leads s o (with_steps o js) c.take_up_equation.new.held c.args.journal.now c.args.journal.now c.take_up_equation.new.journal
    (steps_lead o js c.join_equation.ensures.kept s c.requires.taken c.join_equation.ensures.fits c.args.journal.now) c.take_up_equation.ensures.leads

pub returns-clause-idle : goal.returns-clause-idle
returns-clause-idle c q = let i = c.take_up_equation.ensures.idle q in record { stays = i.stays; rules = i.rules; pairs = i.pairs; none = i.none; lines = i.lines }

pub returns-clause-joins : goal.returns-clause-joins
returns-clause-joins c q p u i j at k =
    let o = c.args.held.now in
    let reps = c.args.reps.now in
    let rep = rep_in reps in
    let w = c.in_ok-equation.equation in
    let e = c.in_ok-equation.ensures in
    let least = c.least_names_represent.ensures.least o reps c.requires.reps in
    let all = meets_join reps (kept_in o.equations) c.requires.composed least w (c.take_up_equation.ensures.meets q) in
    subst (λ (z : AcSymbol × List ℕ × List ℕ). Joins (HasRule (rules_now o) z.0) (map rep z.1) (map rep z.2)) (λ n. (e.symbol p u i j at k n, e.left p u i j at k n, e.right n)) all
