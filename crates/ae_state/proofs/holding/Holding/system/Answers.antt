use Rattle.std.specs.Prelude.{take}
use Rattle.std.proofs.Common.{ap, ◌∙◌, arith}
use Rattle.ae_settled.specs.Held.{entries}
use Rattle.ae_sweeps.specs.Given.{entries_of}
use Rattle.ae_theory.specs.Names.{terms_in}
use Rattle.ae_monoid.specs.Rules.{Contents}
use Rattle.ae_state.proofs.Shown.{names_within, terms_shown}
use Rattle.ae_state.proofs.holding.Holding.system.Goals as goal

pub first_terms-requires : goal.first_terms-requires
first_terms-requires c = omega (arith, c.len.ensures.len, names_within c.args.self.now c.args.store.now c.requires.fits)

pub returns-clause-system : goal.returns-clause-system
returns-clause-system c =
    let names = c.in_ok-first_terms.ensures ∙ ap (λ n. take n (terms_in c.args.store.now)) c.len.ensures.len ∙ terms_shown c.args.self.now c.args.store.now c.requires.fits in
    let rules = c.in_ok-all_rules.ensures.rules ∙ ap (λ (r : Contents). entries (entries_of r) r.next) c.rules.ensures.rules in
    λ i. record { names = names i; values = c.in_ok-all_values.ensures i; rules = rules i }

pub returns-clause-rises : goal.returns-clause-rises
returns-clause-rises c = c.in_ok-all_rules.ensures.rises
