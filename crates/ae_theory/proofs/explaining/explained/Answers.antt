use Rattle.std.proofs.Common.{◌<◌, length, sym, subst}
use Rattle.std.specs.List.{AllByRecursion}
use Rattle.std.proofs.lemmas.Result.{IfOk-weaker}
use Rattle.ae_base.proofs.ListFacts.{get_read}
use Rattle.ae_theory.specs.Paths.{list_at}
use Rattle.ae_theory.specs.Inner.Hops.{IsPath}
use Rattle.ae_theory.specs.declared.chains.Hop.{Hop}
use Rattle.ae_theory.proofs.Conflicts.{apart_from, apart_within}
use Rattle.ae_theory.proofs.Hopping.{adds_all, path_within}
use Rattle.ae_theory.proofs.explaining.explained.Goals as goal

pub push_path-requires-clause-alike : goal.push_path-requires-clause-alike
push_path-requires-clause-alike c = (apart_from c.args.nodes.now c.args.last c.args.number _ c.ends-left.result.0 c.ends-left.result.1 c.requires.own c.ends-left.ensures).alike

pub block_of-requires-clause-from : goal.block_of-requires-clause-from
block_of-requires-clause-from c =
    apart_within c.args.store.now c.args.nodes.now (list_at c.args.nodes.now c.args.last) c.args.number c.ends-left.result.0 c.ends-left.result.1 c.requires.fits
    (apart_from c.args.nodes.now c.args.last c.args.number _ c.ends-left.result.0 c.ends-left.result.1 c.requires.own c.ends-left.ensures)

pub block_of-requires-clause-number : goal.block_of-requires-clause-number
block_of-requires-clause-number c = (get_read c.args.nodes.now c.args.number c.requires.own.node c.requires.own.node c.requires.own.at).1

pub block_of-requires-clause-within : goal.block_of-requires-clause-within
block_of-requires-clause-within c =
    let nodes = c.args.nodes.now in
    let xs = list_at nodes c.args.last in
    subst (AllByRecursion (λ (h : Hop). h.node < length nodes)) (sym c.as_slice.ensures)
    (path_within nodes xs c.ends-left.result.0 c.ends-left.result.1 c.push_path.new.hops (adds_all nodes xs c.ends-left.result.0 c.ends-left.result.1 c.new-hops.result c.push_path.new.hops c.in_ok-push_path.ensures c.new-hops.ensures))

pub returns-clause-contradictory : goal.returns-clause-contradictory
returns-clause-contradictory c =
    let nodes = c.args.nodes.now in
    let xs = list_at nodes c.args.last in
    let a = apart_from nodes c.args.last c.args.number _ c.ends-left.result.0 c.ends-left.result.1 c.requires.own c.ends-left.ensures in
    let path = adds_all nodes xs c.ends-left.result.0 c.ends-left.result.1 c.new-hops.result c.push_path.new.hops c.in_ok-push_path.ensures c.new-hops.ensures in
    IfOk-weaker c.block_of.result _ _ (λ e h. (h xs a.node c.ends-left.result.1 a.at a.stands a.edge (subst (IsPath nodes xs c.ends-left.result.0 c.ends-left.result.1) (sym c.as_slice.ensures) path)).0) c.block_of.ensures

pub returns-clause-sorted : goal.returns-clause-sorted
returns-clause-sorted c =
    let nodes = c.args.nodes.now in
    let xs = list_at nodes c.args.last in
    let a = apart_from nodes c.args.last c.args.number _ c.ends-left.result.0 c.ends-left.result.1 c.requires.own c.ends-left.ensures in
    let path = adds_all nodes xs c.ends-left.result.0 c.ends-left.result.1 c.new-hops.result c.push_path.new.hops c.in_ok-push_path.ensures c.new-hops.ensures in
    IfOk-weaker c.block_of.result _ _ (λ e h. (h xs a.node c.ends-left.result.1 a.at a.stands a.edge (subst (IsPath nodes xs c.ends-left.result.0 c.ends-left.result.1) (sym c.as_slice.ensures) path)).1) c.block_of.ensures

pub returns-clause-tags : goal.returns-clause-tags
returns-clause-tags c =
    let nodes = c.args.nodes.now in
    let xs = list_at nodes c.args.last in
    let a = apart_from nodes c.args.last c.args.number _ c.ends-left.result.0 c.ends-left.result.1 c.requires.own c.ends-left.ensures in
    let path = adds_all nodes xs c.ends-left.result.0 c.ends-left.result.1 c.new-hops.result c.push_path.new.hops c.in_ok-push_path.ensures c.new-hops.ensures in
    IfOk-weaker c.block_of.result _ _ (λ e h. (h xs a.node c.ends-left.result.1 a.at a.stands a.edge (subst (IsPath nodes xs c.ends-left.result.0 c.ends-left.result.1) (sym c.as_slice.ensures) path)).2) c.block_of.ensures

pub returns-clause-built : goal.returns-clause-built
returns-clause-built c =
    let nodes = c.args.nodes.now in
    let xs = list_at nodes c.args.last in
    let a = apart_from nodes c.args.last c.args.number _ c.ends-left.result.0 c.ends-left.result.1 c.requires.own c.ends-left.ensures in
    let path = adds_all nodes xs c.ends-left.result.0 c.ends-left.result.1 c.new-hops.result c.push_path.new.hops c.in_ok-push_path.ensures c.new-hops.ensures in
    IfOk-weaker c.block_of.result _ _ (λ e h. (h xs a.node c.ends-left.result.1 a.at a.stands a.edge (subst (IsPath nodes xs c.ends-left.result.0 c.ends-left.result.1) (sym c.as_slice.ensures) path)).3) c.block_of.ensures
