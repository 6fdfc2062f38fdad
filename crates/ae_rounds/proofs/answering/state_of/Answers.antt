use Rattle.std.proofs.Common.{ap, ◌∙◌}
use Rattle.ae_journal.specs.declared.systems.Saturated.{Saturated}
use Rattle.ae_rounds.proofs.answering.state_of.Goals as goal

pub shown-requires : goal.shown-requires
shown-requires c = record { fits = c.requires.fits }

pub returns : goal.returns
returns c = record {
  is = c.with_point.ensures ∙ ap (λ (s : Saturated). record s { point = c.args.point }) c.in_ok-state.ensures.is;
  rules = c.in_ok-state.ensures.rules;
}
