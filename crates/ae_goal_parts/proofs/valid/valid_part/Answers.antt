use Rattle.std.proofs.lemmas.Result.{IfOk-weaker}
use Rattle.ae_trim.proofs.Deriving.{derivation_trims}
use Rattle.ae_goal_parts.proofs.Kept.{writable_kept}
use Rattle.ae_goal_parts.proofs.Shown.{valid_read_back}
use Rattle.ae_goal_parts.proofs.valid.valid_part.Goals as goal

pub trim-requires-clause-earlier : goal.trim-requires-clause-earlier
trim-requires-clause-earlier c = (derivation_trims c.args.problem.now c.args.goal c.args.proof.now c.requires.derives).0

pub returns-clause-read_back : goal.returns-clause-read_back
returns-clause-read_back c =
    let earlier = (derivation_trims c.args.problem.now c.args.goal c.args.proof.now c.requires.derives).0 in
    let writable = writable_kept c.args.proof.now c.in_ok-trimmed.trimmed earlier c.in_ok-trimmed.ensures.exact c.requires.writable in
    IfOk-weaker c.proof_part.result _ _
    (λ part w.
    valid_read_back c.args.problem.now c.args.goal c.args.name.now c.in_ok-trimmed.trimmed c.in_ok-places.places part.items c.requires.lawful c.requires.named
    (c.in_ok-trimmed.ensures.derives c.args.problem.now c.args.goal c.requires.derives) c.in_ok-places.ensures
    (c.proof_counts.ensures.limits writable (c.in_ok-places.ensures).rising) w)
    c.proof_part.ensures
