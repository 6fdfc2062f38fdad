use Rattle.std.proofs.Common.{[], length, refl, sym, ◌∙◌, ◌≡◌, true, subst, arith}
use Rattle.std.proofs.lemmas.Option.{same_Some, slice_get_read, slice_get_within}
use Rattle.ae_core.specs.declared.problems.Problem.{Problem}
use Rattle.ae_explain.specs.declared.trail.Assigned.{Assigned}
use Rattle.ae_journal.specs.States.{is_universal, of_literal}
use Rattle.ae_owners.proofs.Numbers.{both_more, none_more, trail_further}
use Rattle.ae_owners.specs.Owners.{HasOwner, IsOwnerIn}
use Rattle.ae_owners.proofs.finding.add_literals.Goals as goal

pub loop-assigned-init : goal.loop-assigned-init
loop-assigned-init c = (λ p g s. none_more (IsOwnerIn p g) c.args.owners.now, λ a. a, λ k a l e u. absurd (omega (arith, l)))

pub loop-assigned-preserved : goal.loop-assigned-preserved
loop-assigned-preserved c =
    let i = c.loop-assigned.invariant in
    let n = c.in_ok-add_literal.ensures in
    let q : Problem = record { signature = c.args.signature.now; items = [] } in
    let at = slice_get_read c.args.trail.now (length c.args.trail.now) c.loop-assigned.assigned-index c.assigned-item.result refl (omega arith) c.assigned-item.is in (
      λ p g s. both_more (IsOwnerIn p g) c.args.owners.now c.loop-assigned.owners c.add_literal.new.owners (i.0 p g s) (n.more p g s),
      λ a. n.apart (i.1 a),
      trail_further (IsOwnerIn q 0) c.loop-assigned.owners c.add_literal.new.owners c.args.trail.now c.loop-assigned.assigned-index (n.more q 0 refl) i.2
          (λ a e u.
          let s = same_Some c.assigned-item.result a (sym at ∙ e) in
          subst (λ (z : Assigned). HasOwner c.add_literal.new.owners (of_literal z.lit)) s (n.own (subst (λ (z : Assigned). is_universal z.lit ≡ true) (sym s) u))),
    )

pub returns : goal.returns
returns c = record {
  more = c.loop-assigned.invariant.0;
  apart = c.loop-assigned.invariant.1;
  all = λ k a e u. c.loop-assigned.invariant.2 k a (let l = slice_get_within c.args.trail.now k a e in omega (arith, l)) e u;
}
