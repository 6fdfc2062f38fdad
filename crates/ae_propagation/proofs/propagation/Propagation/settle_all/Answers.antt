use Rattle.std.proofs.Common.{ℕ, ◌<◌, length, take, sym, subst}
use Rattle.std.proofs.lemmas.Option.{MatchOption-at_none}
use Rattle.ae_explain.specs.Trail.{clause, AreFalse}
use Rattle.ae_propagation.specs.Contents.{Contents}
use Rattle.ae_propagation.specs.Settled.{Grown}
use Rattle.ae_propagation.specs.Watched.{AreQuietBy}
use Rattle.ae_propagation.proofs.Settling.{grown_trans}
use Rattle.ae_propagation.proofs.propagation.Propagation.settle_all.Goals as goal

pub settle_from-requires-clause-quiet : goal.settle_from-requires-clause-quiet
settle_from-requires-clause-quiet g c =
    let u = c.self.inside.coded.clauses in
    let new = c.look_at_all.new.trail.assigned in
    let t = c.self.inside.trail.assigned in
    subst (λ (n : ℕ). AreQuietBy (take n new) new u) (sym c.len-from.ensures)
    (MatchOption-at_none (AreQuietBy (take (length t) new) new u) (λ (k : ℕ). (k < length u) × AreFalse new (clause u k)) c.in-None.is c.in_ok-number.ensures.says)

pub returns-in-None-clause-grown : goal.returns-in-None-clause-grown
returns-in-None-clause-grown g c =
    let new = c.settle_from.new.trail.assigned in
    subst (λ (v : Contents). Grown v.trail new) c.self.view_is (grown_trans c.self.inside.trail.assigned c.look_at_all.new.trail.assigned new c.look_at_all.ensures.grown c.settle_from.ensures.grown)
