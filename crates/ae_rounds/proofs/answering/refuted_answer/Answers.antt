use Rattle.ae_rounds.proofs.Written.{proof_writable}
use Rattle.ae_rounds.proofs.answering.refuted_answer.Goals as goal

pub returns : goal.returns
returns g c =
    let o = c.args.search.now in
    let w = c.requires.refuted in
    record {
      answer = c.proof_of-proof.ensures.derives c.args.task.problem.now c.args.task.goal w.0.searching.stated.allowed w.1;
      written = λ low. proof_writable o.store o.lines.items o.solver.propagation.clauses c.proof_of-proof.result c.proof_of-proof.ensures.is (w.0.holds.fine low);
    }
