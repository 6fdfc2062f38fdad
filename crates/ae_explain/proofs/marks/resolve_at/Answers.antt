use Rattle.std.proofs.Common.{◌≡◌, ◌∙◌, sym, subst, Some}
use Rattle.ae_explain.specs.Trail.{at}
use Rattle.ae_explain.specs.Inner.Marks.{KeepsClause}
use Rattle.ae_explain.proofs.Marking.{resolves}
use Rattle.ae_explain.proofs.marks.resolve_at.Goals as goal

pub returns-clause-resolves : goal.returns-clause-resolves
returns-clause-resolves c =
    let by : (at c.args.trail.now.assigned c.args.place).by ≡ Some c.in-Some.number = sym c.by_at.ensures ∙ c.in-Some.is in
    resolves c.args.trail.now.assigned c.args.clauses.now c.requires.lawful c.args.marks.now c.let_go-left.new.marks c.keep_clause.new.marks c.args.place c.in-Some.number c.requires.within c.requires.len
    c.let_go-left.ensures.marks c.requires.kept by (subst (KeepsClause c.args.trail.now.assigned c.let_go-left.new.marks c.keep_clause.new.marks) c.clause_at.ensures c.keep_clause.ensures.kept)
