use Rattle.std.specs.Prelude.{[]}
use Rattle.std.proofs.Common.{sym, subst}
use Rattle.std.proofs.lemmas.List.{append-nil}
use Rattle.ae_equations.specs.Held.{Contents}
use Rattle.ae_equations.specs.Versions.{Lasts}
use Rattle.ae_equations.proofs.Lasting.{lasts_by}
use Rattle.ae_equations.proofs.equations.Equations.push.Goals as goal

pub invariant_of-self : goal.invariant_of-self
invariant_of-self c = record { noted = c.self.invariant.noted; given = c.self.invariant.given; placed = c.push_waiting.ensures.placed }

pub returns-clause-lasts : goal.returns-clause-lasts
returns-clause-lasts c =
    let start : Contents = record { rules = c.self.inside.rules; pairs = c.self.inside.pairs; queue = c.self.inside.queue } in
    let now : Contents = record { rules = c.self.inside.rules; pairs = c.self.inside.pairs; queue = c.push_waiting.new.queue } in
    subst (λ (r : Contents). Lasts r now) c.self.view_is
    (lasts_by start now (λ shared rules len s. s) (λ root map s. s) [] (sym (append-nil c.self.inside.pairs.links)) c.push_waiting.ensures.lasts)
