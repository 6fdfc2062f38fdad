use Rattle.std.proofs.Common.{◌++◌, sym, ap, ◌∙◌}
use Rattle.std.proofs.lemmas.List.{append-nil}
use Rattle.ae_trigger.specs.Inner.Candidates as spec
use Rattle.ae_trigger.proofs.CandidateLaws.{candidates_bound, candidates_num, candidates_fresh, apply_joined}
use Rattle.ae_trigger.proofs.candidates.+candidates.Goals as goal

pub put_candidates-returns-in-Bound : goal.put_candidates-returns-in-Bound
put_candidates-returns-in-Bound t c =
    sym (append-nil c.args.found.now)
    ∙ ap (λ w. c.args.found.now ++ w) (sym (ap (spec.outer_candidates c.args.signature.now c.args.depth) c.in-Bound.is ∙ candidates_bound c.args.signature.now c.args.depth _))

pub put_candidates-returns-in-Num : goal.put_candidates-returns-in-Num
put_candidates-returns-in-Num t c =
    sym (append-nil c.args.found.now)
    ∙ ap (λ w. c.args.found.now ++ w) (sym (ap (spec.outer_candidates c.args.signature.now c.args.depth) c.in-Num.is ∙ candidates_num c.args.signature.now c.args.depth _ _ _))

pub put_candidates-returns-in-Fresh : goal.put_candidates-returns-in-Fresh
put_candidates-returns-in-Fresh t c =
    sym (append-nil c.args.found.now)
    ∙ ap (λ w. c.args.found.now ++ w) (sym (ap (spec.outer_candidates c.args.signature.now c.args.depth) c.in-Fresh.is ∙ candidates_fresh c.args.signature.now c.args.depth _ _))

pub put_candidates-returns-in_ok-put_all-in-Apply : goal.put_candidates-returns-in_ok-put_all-in-Apply
put_candidates-returns-in_ok-put_all-in-Apply t c =
    apply_joined c.args.signature.now c.args.depth c.args.term.now c.in-Apply.head _ c.in-Apply.args c.as_slice.result.now c.as_slice-in-Apply.result.now c.args.found.now c.put_whole.new.found c.put_all.new.found
    c.in-Apply.is c.as_slice.ensures c.as_slice-in-Apply.ensures c.in_ok-put_whole-in-Apply.ensures c.in_ok-put_all-in-Apply.ensures
