use Rattle.std.proofs.Common.{List, [], get_or, subst, arith}
use Rattle.ae_explain.specs.Assignments.{number_in}
use Rattle.ae_explain.specs.Trail.{clause}
use Rattle.ae_propagation.specs.declared.codes.Code.{Code}
use Rattle.ae_propagation.specs.Inner.Coding.{SaysCodes}
use Rattle.ae_propagation.proofs.Coding.{says}
use Rattle.ae_propagation.proofs.propagation.state_at.Goals as goal

pub codes_at-requires : goal.codes_at-requires
codes_at-requires g c = record { within = omega (arith, c.requires.within, c.requires.fit.codes.size) }

pub returns-clause-state : goal.returns-clause-state
returns-clause-state g c =
    let fit = c.requires.fit in
    let t = c.args.trail.now in
    let vs = c.values.result.now in
    let n = c.args.number in
    let ks : List Code = get_or c.args.coded.now.codes n [] in
    let r = c.state_of.result in
    let s : SaysCodes vs ks r = subst (λ (k : List Code). SaysCodes vs k r) c.codes_at.ensures c.state_of.ensures in
    says (number_in t.numbers) fit.is_table.apart vs t.assigned c.values.ensures (clause c.args.coded.now.clauses n) ks (fit.codes.each n c.requires.within) r s
