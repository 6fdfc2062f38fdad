use Rattle.std.specs.Prelude.{Some}
use Rattle.std.proofs.Common.{refl, ap, ◌∙◌}
use Rattle.ae_pmap.specs.Forest.{present}
use Rattle.ae_pmap.specs.Pairs.{found, put_in}
use Rattle.ae_equations.proofs.QueueLaws.{on_err_always}
use Rattle.ae_state.proofs.Putting.{put_other, put_here}
use Rattle.ae_state.proofs.holding.Holding.put.Goals as goal

pub returns-in_err-insert-clause-before : goal.returns-in_err-insert-clause-before
returns-in_err-insert-clause-before c place apart = ap (λ ps. found ps place) c.in_err-insert.ensures.err

pub returns-in_err-insert-clause-err : goal.returns-in_err-insert-clause-err
returns-in_err-insert-clause-err c = on_err_always _ refl

pub returns-in_err-insert-clause-err_next : goal.returns-in_err-insert-clause-err_next
returns-in_err-insert-clause-err_next c = on_err_always _ refl

pub returns-in_err-tagged-clause-before : goal.returns-in_err-tagged-clause-before
returns-in_err-tagged-clause-before c place apart =
    c.in_ok-insert.ensures.at place ∙ put_other (found (present c.args.self.now.said)) c.args.self.now.next (Some c.args.said) place apart

pub returns-in_err-tagged-clause-err : goal.returns-in_err-tagged-clause-err
returns-in_err-tagged-clause-err c = on_err_always _ refl

pub returns-in_err-tagged-clause-err_next : goal.returns-in_err-tagged-clause-err_next
returns-in_err-tagged-clause-err_next c = on_err_always _ refl

pub returns-in_err-insert-2-clause-before : goal.returns-in_err-insert-2-clause-before
returns-in_err-insert-2-clause-before c place apart =
    c.in_ok-insert.ensures.at place ∙ put_other (found (present c.args.self.now.said)) c.args.self.now.next (Some c.args.said) place apart

pub returns-in_err-insert-2-clause-err : goal.returns-in_err-insert-2-clause-err
returns-in_err-insert-2-clause-err c = on_err_always _ c.in_err-insert-2.ensures.err

pub returns-in_err-insert-2-clause-err_next : goal.returns-in_err-insert-2-clause-err_next
returns-in_err-insert-2-clause-err_next c = on_err_always _ refl

pub returns-clause-assumed : goal.returns-clause-assumed
returns-clause-assumed c =
    c.in_ok-insert-2.ensures.ok ∙ ap (λ x. put_in c.args.self.now.next x (present c.args.self.now.assumed)) c.in_ok-tagged.ensures

pub returns-clause-next : goal.returns-clause-next
returns-clause-next c = c.in-Some.ensures.1

pub returns-clause-said : goal.returns-clause-said
returns-clause-said c =
    c.in_ok-insert.ensures.at c.args.self.now.next ∙ put_here (found (present c.args.self.now.said)) c.args.self.now.next (Some c.args.said)

pub returns-clause-before : goal.returns-clause-before
returns-clause-before c place apart =
    c.in_ok-insert.ensures.at place ∙ put_other (found (present c.args.self.now.said)) c.args.self.now.next (Some c.args.said) place apart
