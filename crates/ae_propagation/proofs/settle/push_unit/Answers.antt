use Rattle.std.proofs.Common.{◌<◌, ◌++◌, ◌∷◌, List, [], sym, subst}
use Rattle.std.proofs.lemmas.Result.{on_ok_weaker}
use Rattle.ae_explain.specs.declared.trail.Assigned.{Assigned}
use Rattle.ae_explain.specs.Trail.{IsLawful}
use Rattle.ae_propagation.specs.Settled.{Grown}
use Rattle.ae_propagation.specs.Inner.Scan.{open_all}
use Rattle.ae_explain.proofs.Results.{either_way}
use Rattle.ae_propagation.proofs.settle.push_unit.Goals as goal

pub assign-requires : goal.assign-requires
assign-requires c = record { new = c.in_ok-assigned.ensures.new }

pub returns-clause-lawful : goal.returns-clause-lawful
returns-clause-lawful c =
    let t = c.args.trail.now.assigned in
    either_way (λ (w : List Assigned). IsLawful w c.args.clauses.now) c.assign.result t (t ++ c.in_ok-assigned.assigned ∷ []) c.assign.new.self.assigned c.assign.ensures.ok c.assign.ensures.err c.requires.lawful
    c.in_ok-assigned.ensures.lawful

pub returns-clause-grown : goal.returns-clause-grown
returns-clause-grown c first h =
    let t = c.args.trail.now.assigned in
    either_way (Grown first) c.assign.result t (t ++ c.in_ok-assigned.assigned ∷ []) c.assign.new.self.assigned c.assign.ensures.ok c.assign.ensures.err h (c.in_ok-assigned.ensures.grown first h)

pub returns-clause-falls : goal.returns-clause-falls
returns-clause-falls c =
    let t = c.args.trail.now.assigned in
    let u = c.args.clauses.now in
    on_ok_weaker c.assign.result (λ e. subst (λ (w : List Assigned). open_all w u < open_all t u) (sym e) c.in_ok-assigned.ensures.falls) c.assign.ensures.ok
