use Rattle.std.proofs.Common.{◌∙◌}
use Rattle.ae_types.proofs.JoinLaws.{shortened_trans}
use Rattle.ae_types.proofs.graph.flatten.Goals as goal

pub returns-in_err-shorten_at-clause-shortened : goal.returns-in_err-shorten_at-clause-shortened
returns-in_err-shorten_at-clause-shortened c =
    shortened_trans c.args.classes.now c.loop-at.classes c.shorten_at.new.classes c.loop-at.invariant.shortened c.shorten_at.ensures.shortened

pub loop-at-preserved : goal.loop-at-preserved
loop-at-preserved c = record {
  shortened = shortened_trans c.args.classes.now c.loop-at.classes c.shorten_at.new.classes c.loop-at.invariant.shortened c.shorten_at.ensures.shortened;
  rewinds = c.shorten_at.ensures.rewinds ∙ c.loop-at.invariant.rewinds;
}
