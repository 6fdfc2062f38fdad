use Rattle.std.proofs.Common.{sym, ap, ◌∙◌, subst}
use Rattle.ae_journal.specs.Noted.{Noted}
use Rattle.ae_monoid.specs.Equations.{AreApart}
use Rattle.ae_monoid.specs.Rules.{Contents as Rules, rule_at, AreRules}
use Rattle.ae_rule_steps.specs.Said.{AreSaid}
use Rattle.ae_state.specs.Stepping.{paired_now}
use Rattle.ae_theory.specs.Names.{terms_in}
use Rattle.ae_turns.specs.Leading.{Leads}
use Rattle.ae_turns.proofs.DroppedRules.{kept_in}
use Rattle.ae_representatives.proofs.MoreSteps.{with_steps, steps_lead}
use Rattle.ae_representatives.proofs.Taken.{fits_all, ruled_all}
use Rattle.ae_sweeps.proofs.Bridges.{from_none}
use Rattle.ae_gaps.specs.Inner.Overlapping.{AreUnpaired, IsOverlapSaid}
use Rattle.ae_gaps.proofs.Coupled.{overlap_not_apart, first_stands, second_stands, pair_counted}
use Rattle.ae_gaps.proofs.CoupledLeads.{refused_leads, coupled_leads, coupled_taken, coupled_step}
use Rattle.ae_gaps.proofs.coupling.couple.Goals as goal

pub overlap_equation-requires-clause-fits : goal.overlap_equation-requires-clause-fits
overlap_equation-requires-clause-fits c = fits_all c.args.held.now c.args.store.now c.requires.taken

pub overlap_equation-requires-clause-said : goal.overlap_equation-requires-clause-said
overlap_equation-requires-clause-said c =
    let o = c.args.held.now in
    let s = c.args.store.now in
    subst (λ (r : Rules). AreSaid s.signature (terms_in s) o.justs (λ n. rule_at r n)) (sym c.rules-rules.ensures.rules) (ruled_all o s c.requires.taken).rules

pub returns-in_err-stated-clause-leads : goal.returns-in_err-stated-clause-leads
returns-in_err-stated-clause-leads c =
    steps_lead c.args.held.now c.overlap_equation.new.justs c.overlap_equation.ensures.kept c.args.store.now c.requires.taken c.overlap_equation.ensures.fits c.args.journal.now

pub unreachable-requires : goal.unreachable-requires
unreachable-requires c =
    let un = c.requires.unpaired in
    overlap_not_apart _ _ un.pair un.overlap
    (subst (λ (r : Rules). AreApart (rule_at r c.args.first) (rule_at r c.args.second)) c.rules-rules.ensures.rules (from_none c.in_ok-stated.stated c.in_default.not-Some c.in_ok-stated.ensures.none))

pub pair_line-requires-clause-first : goal.pair_line-requires-clause-first
pair_line-requires-clause-first c e =
    let un = c.requires.unpaired in
    first_stands _ _ un.pair un.overlap (ap (λ (r : Rules). rule_at r c.args.first) (sym c.rules-2.ensures.rules) ∙ e)

pub pair_line-requires-clause-second : goal.pair_line-requires-clause-second
pair_line-requires-clause-second c e =
    let un = c.requires.unpaired in
    second_stands _ _ un.pair un.overlap (ap (λ (r : Rules). rule_at r c.args.second) (sym c.rules-2.ensures.rules) ∙ e)

pub returns-in_err-line-clause-leads : goal.returns-in_err-line-clause-leads
returns-in_err-line-clause-leads c =
    steps_lead c.args.held.now c.overlap_equation.new.justs c.overlap_equation.ensures.kept c.args.store.now c.requires.taken c.overlap_equation.ensures.fits c.args.journal.now

pub returns-in_err-noted-clause-leads : goal.returns-in_err-noted-clause-leads
returns-in_err-noted-clause-leads c =
    let o = c.args.held.now in
    let s = c.args.store.now in
    let js = c.overlap_equation.new.justs in
    subst (λ (k : Noted). Leads s o c.args.journal.now (with_steps o js) k) (sym c.in_err-noted.ensures.err)
    (steps_lead o js c.overlap_equation.ensures.kept s c.requires.taken c.overlap_equation.ensures.fits c.args.journal.now)

pub enter_pair-requires-clause-first : goal.enter_pair-requires-clause-first
enter_pair-requires-clause-first c = first_stands _ _ (c.requires.unpaired).pair (c.requires.unpaired).overlap

pub enter_pair-requires-clause-second : goal.enter_pair-requires-clause-second
enter_pair-requires-clause-second c = second_stands _ _ (c.requires.unpaired).pair (c.requires.unpaired).overlap

pub returns-in_err-enter_pair-clause-leads : goal.returns-in_err-enter_pair-clause-leads
returns-in_err-enter_pair-clause-leads c =
    let o = c.args.held.now in
    let s = c.args.store.now in
    let js = c.overlap_equation.new.justs in
    let l = c.in_ok-line.line in
    let un = c.requires.unpaired in
    let over = un.overlap in
    let are = subst (λ (r : Rules). AreRules (λ n. rule_at r n) r.next) c.rules.ensures.rules c.rule-rule.ensures.rules in
    let is_line =
    c.in_ok-line.ensures over.first over.second (ap (λ (r : Rules). rule_at r c.args.first) c.rules-2.ensures.rules ∙ over.first_there)
    (ap (λ (r : Rules). rule_at r c.args.second) c.rules-2.ensures.rules ∙ over.second_there) in
    refused_leads s o c.requires.taken js c.overlap_equation.ensures.kept c.overlap_equation.ensures.fits c.args.first c.args.second c.requires.before un are c.args.journal.now c.noted.new.journal l c.in_ok-noted.ensures.ok is_line
    c.requires.step c.enter_pair.new.equations c.enter_pair.ensures.rules c.enter_pair.ensures.lasts c.in_err-enter_pair.ensures.err

pub returns-clause-leads : goal.returns-clause-leads
returns-clause-leads c =
    let o = c.args.held.now in
    let s = c.args.store.now in
    let js = c.overlap_equation.new.justs in
    let l = c.in_ok-line.line in
    let w = c.in-Some.equation in
    let said : IsOverlapSaid s.signature (terms_in s) o.justs js (kept_in o.equations) c.args.first c.args.second w =
    subst (λ (r : Rules). IsOverlapSaid s.signature (terms_in s) o.justs js (λ n. rule_at r n) c.args.first c.args.second w) c.rules-rules.ensures.rules (rw c.in-Some.is at c.in_ok-stated.ensures.some) in
    let un = c.requires.unpaired in
    let over = un.overlap in
    let are = subst (λ (r : Rules). AreRules (λ n. rule_at r n) r.next) c.rules.ensures.rules c.rule-rule.ensures.rules in
    let is_line =
    c.in_ok-line.ensures over.first over.second (ap (λ (r : Rules). rule_at r c.args.first) c.rules-2.ensures.rules ∙ over.first_there)
    (ap (λ (r : Rules). rule_at r c.args.second) c.rules-2.ensures.rules ∙ over.second_there) in
    coupled_leads s o c.requires.taken js c.overlap_equation.ensures.kept c.overlap_equation.ensures.fits c.args.first c.args.second c.requires.before un are c.args.journal.now c.noted.new.journal l c.in_ok-noted.ensures.ok is_line
    c.requires.step c.enter_pair.new.equations c.enter_pair.ensures.rules c.enter_pair.ensures.lasts w said c.in_ok-enter_pair.ensures.ok

pub returns-clause-taken : goal.returns-clause-taken
returns-clause-taken c =
    let o = c.args.held.now in
    let s = c.args.store.now in
    let js = c.overlap_equation.new.justs in
    let l = c.in_ok-line.line in
    let w = c.in-Some.equation in
    let said : IsOverlapSaid s.signature (terms_in s) o.justs js (kept_in o.equations) c.args.first c.args.second w =
    subst (λ (r : Rules). IsOverlapSaid s.signature (terms_in s) o.justs js (λ n. rule_at r n) c.args.first c.args.second w) c.rules-rules.ensures.rules (rw c.in-Some.is at c.in_ok-stated.ensures.some) in
    let un = c.requires.unpaired in
    let over = un.overlap in
    let are = subst (λ (r : Rules). AreRules (λ n. rule_at r n) r.next) c.rules.ensures.rules c.rule-rule.ensures.rules in
    let is_line =
    c.in_ok-line.ensures over.first over.second (ap (λ (r : Rules). rule_at r c.args.first) c.rules-2.ensures.rules ∙ over.first_there)
    (ap (λ (r : Rules). rule_at r c.args.second) c.rules-2.ensures.rules ∙ over.second_there) in
    coupled_taken s o c.requires.taken js c.overlap_equation.ensures.kept c.overlap_equation.ensures.fits c.args.first c.args.second c.requires.before un are c.args.journal.now c.noted.new.journal l c.in_ok-noted.ensures.ok is_line
    c.requires.step c.enter_pair.new.equations c.enter_pair.ensures.rules c.enter_pair.ensures.lasts w said c.in_ok-enter_pair.ensures.ok

pub returns-clause-step : goal.returns-clause-step
returns-clause-step c =
    let o = c.args.held.now in
    let s = c.args.store.now in
    let js = c.overlap_equation.new.justs in
    let l = c.in_ok-line.line in
    let w = c.in-Some.equation in
    let said : IsOverlapSaid s.signature (terms_in s) o.justs js (kept_in o.equations) c.args.first c.args.second w =
    subst (λ (r : Rules). IsOverlapSaid s.signature (terms_in s) o.justs js (λ n. rule_at r n) c.args.first c.args.second w) c.rules-rules.ensures.rules (rw c.in-Some.is at c.in_ok-stated.ensures.some) in
    let un : AreUnpaired (kept_in o.equations) (paired_now o) c.args.first c.args.second = record { pair = said.pair; overlap = said.overlap; unpaired = c.requires.unpaired.unpaired } in
    let over = said.overlap in
    let is_line =
    c.in_ok-line.ensures over.first over.second (ap (λ (r : Rules). rule_at r c.args.first) c.rules-2.ensures.rules ∙ over.first_there)
    (ap (λ (r : Rules). rule_at r c.args.second) c.rules-2.ensures.rules ∙ over.second_there) in
    coupled_step o js c.args.first c.args.second c.requires.before un c.args.journal.now c.noted.new.journal l c.in_ok-noted.ensures.ok is_line c.requires.step c.enter_pair.new.equations w said.symbol said.left said.right
    c.enter_pair.ensures.rules c.in_ok-enter_pair.ensures.ok c.in_ok-enter_pair.ensures.paired c.in_ok-enter_pair.ensures.others

pub returns-clause-advanced : goal.returns-clause-advanced
returns-clause-advanced c =
    let l = c.in_ok-line.line in
    let over = (c.requires.unpaired).overlap in
    let is_line =
    c.in_ok-line.ensures over.first over.second (ap (λ (r : Rules). rule_at r c.args.first) c.rules-2.ensures.rules ∙ over.first_there)
    (ap (λ (r : Rules). rule_at r c.args.second) c.rules-2.ensures.rules ∙ over.second_there) in
    pair_counted c.args.journal.now c.noted.new.journal l c.in_ok-noted.ensures.ok _ _ _ is_line
