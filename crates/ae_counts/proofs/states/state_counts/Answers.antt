use Rattle.std.proofs.Common.{ap, ◌∙◌, sym}
use Rattle.std.specs.List.{list_all}
use Rattle.ae_counts.specs.Inner.Counted.{literal_counts}
use Rattle.ae_counts.proofs.Within.{state_within}
use Rattle.ae_counts.proofs.states.state_counts.Goals as goal

pub returns : goal.returns
returns c = record {
  limits = λ sig.
      state_within sig c.args.state.now (ap (list_all literal_counts) (sym c.as_slice.ensures) ∙ c.literals_count.ensures) c.system_counts.ensures.names c.system_counts.ensures.few
      c.system_counts.ensures.values c.system_counts.ensures.rules;
}
