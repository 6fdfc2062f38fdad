use Rattle.std.specs.Prelude.{ℕ, ◌≡◌, option_copied}
use Rattle.std.proofs.Common.{◌∙◌, subst}
use Rattle.ae_pmap.specs.Forest.{present}
use Rattle.ae_pmap.specs.Walk.{first_of}
use Rattle.ae_equations.specs.declared.queue.Waiting.{Waiting}
use Rattle.ae_equations.specs.Held.{Contents}
use Rattle.ae_equations.specs.Queued.{waiting}
use Rattle.ae_equations.proofs.QueueLaws.{first_mapped}
use Rattle.ae_equations.proofs.equations.Equations.first.Goals as goal

pub returns : goal.returns
returns c =
    subst (λ (r : Contents). option_copied c.first_waiting.result ≡ first_of (waiting r.queue)) c.self.view_is
    (c.first_waiting.ensures ∙ first_mapped (λ (p : ℕ × Waiting). p.1) (present c.self.inside.queue.places))
