use Rattle.std.specs.List.{AllByRecursion}
use Rattle.std.proofs.Common.{sym, ap, ◌∙◌, subst}
use Rattle.std.proofs.lemmas.Result.{IfOk-weaker}
use Rattle.ae_journal.specs.declared.systems.System.{System}
use Rattle.ae_open_states.specs.Shown.{shown}
use Rattle.ae_rising_rules.proofs.Written.{rules_writable}
use Rattle.ae_state.specs.declared.holding.Holding.{Holding}
use Rattle.ae_state.specs.Fitting.{FitsStore}
use Rattle.ae_state.specs.Names.{system_now, IsWrittenRising}
use Rattle.ae_rounds.proofs.answering.shown.Goals as goal

pub system-requires : goal.system-requires
system-requires c = record { fits = subst (λ (o : Holding). FitsStore o c.args.search.now.store) (sym c.theory.ensures) c.requires.fits }

pub returns : goal.returns
returns c =
    let same = c.in_ok-system.ensures.system ∙ ap system_now c.theory.ensures in
    let rising = subst (λ (y : System). AllByRecursion IsWrittenRising y.rules) same c.in_ok-system.ensures.rises in
    let rules = rules_writable c.args.search.now.solver.theory c.requires.fits.right rising in
    record {
      is = IfOk-weaker c.open_state.result _ _ (λ state e. e ∙ (λ i. shown (c.trail.ensures i) (same i))) c.open_state.ensures;
      rules = IfOk-weaker c.open_state.result _ _ (λ state e. rules) c.open_state.ensures;
    }
