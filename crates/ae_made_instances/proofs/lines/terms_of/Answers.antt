use Rattle.std.proofs.Common.{◌<◌, ◌∙◌, ap, sym, subst, length, map, get_or, arith}
use Rattle.std.specs.List.{AllByRecursion}
use Rattle.std.proofs.lemmas.List.{take_all}
use Rattle.std.proofs.lemmas.Option.{slice_get-get_or}
use Rattle.ae_base.proofs.AllOf.{all_at}
use Rattle.ae_store.specs.Shapes.{shapes}
use Rattle.ae_store.specs.Terms.{terms, named}
use Rattle.ae_made_instances.proofs.lines.terms_of.Goals as goal

pub term-requires : goal.term-requires
term-requires c =
    let ns = c.as_slice-name-items.result.now in
    let k = c.loop-name.name-index in
    all_at (λ n. n < length c.args.store.now.nodes) ns k (get_or ns k 0)
    (subst (AllByRecursion (λ n. n < length c.args.store.now.nodes)) (sym c.as_slice-name-items.ensures) c.requires.within) (slice_get-get_or ns k 0 c.loop-name-test.true)

pub returns : goal.returns
returns c =
    let ns = c.as_slice-name-items.result.now in
    c.loop-name.invariant ∙ ap (map (named (terms (shapes c.args.store.now.nodes)))) (take_all c.loop-name.name-index ns (omega arith) ∙ c.as_slice-name-items.ensures)
