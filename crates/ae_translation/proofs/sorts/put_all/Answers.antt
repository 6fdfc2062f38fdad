use Rattle.std.proofs.Common.{◌∙◌, ◌++◌, ◌∷◌, [], List, map, take, sym, ap}
use Rattle.std.proofs.lemmas.List.{map-append, take_more}
use Rattle.ae_core.specs.declared.terms.Sort.{Sort}
use Rattle.ae_types.specs.Bound.{bound}
use Rattle.ae_types.specs.Substitutions.{put}
use Rattle.ae_translation.proofs.sorts.put_all.Goals as goal

pub loop-sort-preserved : goal.loop-sort-preserved
loop-sort-preserved c =
    let f = put (bound c.args.bindings.now) in
    let ss = c.args.sorts.now in
    let i = c.loop-sort.sort-index in
    let s = c.sort-item.result in
    let before = map f (take i ss) in
    c.in_ok-push.ensures.ok
    ∙ ap (λ (zs : List Sort). zs ++ c.in_ok-next.next ∷ []) c.loop-sort.invariant
    ∙ ap (λ (z : Sort). before ++ z ∷ []) c.in_ok-next.ensures
    ∙ sym (ap (map f) (take_more ss i s c.loop-sort-test.true ∙ ap (λ (z : Sort). take i ss ++ z ∷ []) (sym c.sort-item.is)) ∙ map-append f (take i ss) (s ∷ []))
