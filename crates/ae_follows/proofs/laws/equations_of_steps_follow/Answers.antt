use Rattle.ae_rules.specs.Lines.{Among}
use Rattle.ae_rules.specs.Valuations.{Where}
use Rattle.ae_follows.proofs.Following.{step_follows, step_is_consequence}
use Rattle.ae_follows.proofs.laws.equations_of_steps_follow.Goals as goal

pub returns-clause-follows : goal.returns-clause-follows
returns-clause-follows c = λ sig ts steps hyps id s fits at a. step_follows sig (Among hyps) ts steps fits id s at a

pub returns-clause-consequence : goal.returns-clause-consequence
returns-clause-consequence c = λ sig ts steps E id s fits at a. step_is_consequence sig ts steps (Where E) fits id s at a
