use Rattle.std.specs.Prelude.{◌≡◌, IfOk}
use Rattle.std.specs.List.{AllByRecursion}
use Rattle.std.proofs.Common.{sym, ◌∙◌, subst}
use Rattle.ae_open_states.specs.Shown.{shown}
use Rattle.ae_state.specs.Fitting.{FitsStore}
use Rattle.ae_state.specs.Names.{system_now}
use Rattle.ae_writable.specs.Writable.{IsWritableRule}
use Rattle.ae_search.proofs.ending.opened.Goals as goal

pub state_of-requires : goal.state_of-requires
state_of-requires c = record { fits = subst (λ v. FitsStore v.theory c.args.store.now) (sym (c.get.ensures ∙ c.in_ok-held.ensures)) c.requires.fits }

pub returns : goal.returns
returns c =
    let same = c.get.ensures ∙ c.in_ok-held.ensures in
    record {
      is = subst (λ v. IfOk c.state_of.result (λ state. state ≡ shown v.propagation.trail (system_now v.theory))) same c.state_of.ensures.is;
      rules = subst (λ v. IfOk c.state_of.result (λ state. AllByRecursion (IsWritableRule v.theory.signature) (system_now v.theory).rules)) same c.state_of.ensures.rules;
    }
