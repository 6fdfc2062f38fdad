use Rattle.std.proofs.Common.{rules, arith, ◌≡◌, ◌<◌, ◌++◌, [], ◌∷◌, ap, sym, ◌∙◌, map, take, length}
use Rattle.std.proofs.lemmas.List.{take_all, take_more}
use Rattle.ae_core.specs.declared.terms.Sort.{Named}
use Rattle.ae_types.specs.Bound.{bound, reads, solved_by}
use Rattle.ae_types.specs.Inner.Enters.{sheet}
use Rattle.ae_types.specs.Inner.Graphs.{slots_of, unknown, value}
use Rattle.ae_types.specs.Substitutions.{put}
use Rattle.ae_types.proofs.FollowLaws.{map_before}
use Rattle.ae_types.proofs.SortLaws.{put_named, put_var}
use Rattle.ae_types.proofs.bindings.+apply_in.Goals as goal

pub returns-after-loop-arg : goal.returns-after-loop-arg
returns-after-loop-arg t c =
    let e : take c.loop-arg.arg-index c.as_slice-arg-items.result.now ≡ c.in-Named.args =
    take_all c.loop-arg.arg-index c.as_slice-arg-items.result.now (omega arith) ∙ c.as_slice-arg-items.ensures in
    ap (Named c.in-Named.head) (c.loop-arg.invariant ∙ ap (map (put (bound (sheet c.args.graph.now)))) e)
    ∙ sym (put_named (bound (sheet c.args.graph.now)) c.in-Named.head c.in-Named.args)
    ∙ ap (put (bound (sheet c.args.graph.now))) (sym c.in-Named.is)

pub returns-in_ok-found-in-Some : goal.returns-in_ok-found-in-Some
returns-in_ok-found-in-Some t c =
    let nodes = c.args.graph.now.nodes in
    let classes = c.args.graph.now.classes in
    c.in_ok-found-in-Some.ensures
    ∙ ap (λ xs. value (unknown xs) (length c.as_slice-classes.result.now) (slots_of xs c.as_slice-classes.result.now) c.in-Some.place) c.as_slice.ensures
    ∙ ap (λ cs. value (unknown nodes) (length cs) (slots_of nodes cs) c.in-Some.place) c.as_slice-classes.ensures
    ∙ ap (reads (solved_by (sheet c.args.graph.now)) c.in-Var.var) c.in-Some.ensures
    ∙ sym (put_var (bound (sheet c.args.graph.now)) c.in-Var.var) ∙ ap (put (bound (sheet c.args.graph.now))) (sym c.in-Var.is)

pub resolve-requires-clause-within : goal.resolve-requires-clause-within
resolve-requires-clause-within t c =
    let s = (c.requires.named.stands c.in-Var.var c.in-Some.place (sym c.in-Some.ensures)).0 in
    let e = ap length c.as_slice-classes.ensures in
    let l = c.requires.graph.lengths in
    omega arith

pub loop-arg-preserved : goal.loop-arg-preserved
loop-arg-preserved t c =
    let f = bound (sheet c.args.graph.now) in
    let h : c.loop-arg.arg-index < length c.as_slice-arg-items.result.now = search rules in
    let e = take_more c.as_slice-arg-items.result.now c.loop-arg.arg-index c.arg-item.result h
    ∙ ap (λ x. take c.loop-arg.arg-index c.as_slice-arg-items.result.now ++ x ∷ []) (sym c.arg-item.is) in
    c.in_ok-push-in-Named.ensures.ok ∙ ap (λ x. x ++ c.in_ok-apply_in-in-Named.field-0 ∷ []) c.loop-arg.invariant
    ∙ ap (λ y. map (put f) (take c.loop-arg.arg-index c.as_slice-arg-items.result.now) ++ y ∷ []) c.in_ok-apply_in-in-Named.ensures
    ∙ sym (map_before f (take c.loop-arg.arg-index c.as_slice-arg-items.result.now) (c.arg-item.result ∷ [])) ∙ ap (map (put f)) (sym e)
