use Rattle.std.proofs.Common.{refl, sym, ap, ◌∙◌}
use Rattle.std.proofs.lemmas.Option.{none-some}
use Rattle.ae_monoid.specs.Rules.{Contents, rule_at}
use Rattle.ae_turns.proofs.DroppedRules.{kept_in}
use Rattle.ae_representatives.proofs.Taken.{fits_all, ruled_all}
use Rattle.ae_right_sides.proofs.Lefts.{reduced_reduced, reduced_own, own_same}
use Rattle.ae_right_sides.proofs.OtherRights.{rights_stay, rights_same}
use Rattle.ae_right_sides.proofs.Changed.{rights_reduced}
use Rattle.ae_right_sides.proofs.rights.reduce_one.Goals as goal

-- ---- no rule
pub returns-in_default-clause-rights : goal.returns-in_default-clause-rights
returns-in_default-clause-rights c = rights_stay c.args.store.now c.args.held.now (c.requires.taken).fits

pub returns-in_default-clause-own : goal.returns-in_default-clause-own
returns-in_default-clause-own c reps own = own

pub returns-in_default-clause-reduced : goal.returns-in_default-clause-reduced
returns-in_default-clause-reduced c rule at =
    absurd (none-some rule (c.in_default.ensures.rule ∙ ap (λ (r : Contents). rule_at r c.args.number) c.rules-rules.ensures.rules ∙ at))

pub returns-in_default-clause-others : goal.returns-in_default-clause-others
returns-in_default-clause-others c n d = refl

-- ---- the right side
pub reduce_right-requires-clause-fits : goal.reduce_right-requires-clause-fits
reduce_right-requires-clause-fits c = fits_all c.args.held.now c.args.store.now c.requires.taken

pub reduce_right-requires-clause-held : goal.reduce_right-requires-clause-held
reduce_right-requires-clause-held c = ruled_all c.args.held.now c.args.store.now c.requires.taken

pub reduce_right-requires-clause-stands : goal.reduce_right-requires-clause-stands
reduce_right-requires-clause-stands c none =
    none-some c.in-Some._rule.now (sym none ∙ sym (ap (λ (r : Contents). rule_at r c.args.number) c.rules-rules.ensures.rules) ∙ sym c.in-Some.ensures.rule)

pub returns-in_err-reduce_right-clause-rights : goal.returns-in_err-reduce_right-clause-rights
returns-in_err-reduce_right-clause-rights c =
    rights_same c.args.store.now c.args.held.now c.requires.taken c.reduce_right.new.equations c.reduce_right.new.justs c.reduce_right.ensures.kept c.reduce_right.ensures.fits c.reduce_right.ensures.held
    c.reduce_right.ensures.pairs c.reduce_right.ensures.queue c.reduce_right.ensures.len c.reduce_right.ensures.lasts c.in_err-reduce_right.ensures.err

pub returns-in_err-reduce_right-clause-own : goal.returns-in_err-reduce_right-clause-own
returns-in_err-reduce_right-clause-own c reps own = own_same reps (kept_in c.args.held.now.equations) (kept_in c.reduce_right.new.equations) c.in_err-reduce_right.ensures.err own

pub returns-in_err-reduce_right-clause-others : goal.returns-in_err-reduce_right-clause-others
returns-in_err-reduce_right-clause-others c n d = c.in_err-reduce_right.ensures.err n

pub returns-clause-rights : goal.returns-clause-rights
returns-clause-rights c =
    rights_reduced c.args.store.now c.args.held.now c.requires.taken c.reduce_right.new.equations c.reduce_right.new.justs c.reduce_right.ensures.fits c.reduce_right.ensures.held c.reduce_right.ensures.pairs
    c.reduce_right.ensures.queue c.reduce_right.ensures.len c.reduce_right.ensures.lasts c.args.number c.reduce_right.ensures.kept c.in_ok-reduce_right.ensures.ok

pub returns-clause-own : goal.returns-clause-own
returns-clause-own c =
    let o = c.args.held.now in
    reduced_own (kept_in o.equations) (kept_in c.reduce_right.new.equations) o.justs c.reduce_right.new.justs c.args.number c.in_ok-reduce_right.ensures.ok

pub returns-clause-reduced : goal.returns-clause-reduced
returns-clause-reduced c =
    let o = c.args.held.now in
    reduced_reduced (kept_in o.equations) (kept_in c.reduce_right.new.equations) o.justs c.reduce_right.new.justs c.args.number c.in_ok-reduce_right.ensures.ok

pub returns-clause-others : goal.returns-clause-others
returns-clause-others c = ((c.in_ok-reduce_right.ensures.ok).composed).others
