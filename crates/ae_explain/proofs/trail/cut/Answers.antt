use Rattle.std.proofs.Common.{◌≡◌, ◌∙◌, ◌+◌, ◌-◌, ◌<◌, ◌++◌, ◌∷◌, [], ℕ, List, length, get_or, take, subst, ap, arith}
use Rattle.std.proofs.lemmas.List.{take_more, get_or-take, get_or_default}
use Rattle.ae_explain.specs.declared.trail.Assigned.{Assigned}
use Rattle.ae_explain.specs.Trail.{at, nothing}
use Rattle.ae_explain.proofs.trail.cut.Goals as goal

pub loop-count-preserved : goal.loop-count-preserved
loop-count-preserved c =
    let t = c.args.assigned.now in
    let i = c.loop-count.invariant in
    let m = c.loop-count.count - 1 in
    let l : m < length t = omega (arith, i.0, c.loop-count-test.true) in
    let next : c.loop-count.count ≡ m + 1 = omega (arith, c.loop-count-test.true) in
    let all : c.loop-count.assigned ≡ take m t ++ at t m ∷ [] = i.1 ∙ (ap (λ (n : ℕ). take n t) next ∙ take_more t m nothing l) in
    let x = c.index-as_slice-place.result in
    let same : c.as_slice.result.now ≡ take c.loop-count.count t = c.as_slice.ensures ∙ i.1 in
    let read : get_or c.as_slice.result.now m x ≡ at t m =
    ap (λ (w : List Assigned). get_or w m x) same ∙ (get_or-take c.loop-count.count t m x (omega (arith, next)) ∙ get_or_default t m x nothing l) in
    let above : m < length t → c.args.level < (at t m).level = λ w. subst (λ (a : Assigned). c.args.level < a.level) read c.if-as_slice-place.false in
    (omega (arith, l), c.forget_last.ensures.kept (take m t) (at t m) all, above, λ number places h. c.forget_last.ensures.index number places (i.3 number places h))
