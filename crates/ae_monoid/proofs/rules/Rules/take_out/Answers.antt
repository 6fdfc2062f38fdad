use Rattle.std.proofs.Common.{refl, ◌∙◌, subst}
use Rattle.ae_base.specs.Relations.{Pairwise}
use Rattle.ae_pmap.specs.Forest.{present}
use Rattle.ae_pmap.specs.Pairs.{found}
use Rattle.ae_monoid.specs.Rules.{Contents, rule_at}
use Rattle.ae_monoid.specs.Changes.{IsEquationOf}
use Rattle.ae_monoid.specs.Versions.{Lasts}
use Rattle.ae_monoid.proofs.ChainLaws.{grows_same}
use Rattle.ae_monoid.proofs.Grown.{indexed_fewer}
use Rattle.ae_monoid.proofs.VersionLaws.{indexed_same, versions_last, map_lasts, same_last}
use Rattle.ae_monoid.proofs.rules.Rules.take_out.Goals as goal

pub back-requires : goal.back-requires
back-requires g c = (map_lasts c.self.inside.kept c.remove_each.new.kept c.share-before.result c.remove_each.ensures.lasts c.share-before.ensures.version.fits).0

pub invariant_of-self : goal.invariant_of-self
invariant_of-self g c =
    indexed_fewer (λ n. found (present c.self.inside.kept) n) (λ n. found (present c.remove_each.new.kept) n) c.self.inside.next (λ n. found (present c.self.inside.largest) n) (λ n. found (present c.self.inside.elements) n)
    c.self.inside.links.items
    c.remove_each.ensures.fewer c.self.invariant

pub invariant_of-self-in-Err-1 : goal.invariant_of-self-in-Err-1
invariant_of-self-in-Err-1 g c =
    indexed_same (present c.self.inside.kept) (present c.back.new.self) c.self.inside.next (present c.self.inside.largest) (present c.self.inside.largest) (present c.self.inside.elements) (present c.self.inside.elements)
    c.self.inside.links.items
    (c.back.ensures.map ∙ (map_lasts c.self.inside.kept c.remove_each.new.kept c.share-before.result c.remove_each.ensures.lasts c.share-before.ensures.version.fits).1 ∙ c.share-before.ensures.version.is) refl refl c.self.invariant

pub returns-in-Ok-clause-equations : goal.returns-in-Ok-clause-equations
returns-in-Ok-clause-equations g c =
    subst (λ (r : Contents). Pairwise (λ n pair. IsEquationOf (rule_at r n) pair) c.args.numbers.now c.in_ok-pairs.pairs) c.self.view_is c.in_ok-pairs.ensures

pub returns-in-Ok-clause-lasts : goal.returns-in-Ok-clause-lasts
returns-in-Ok-clause-lasts g c =
    subst (λ (r : Contents). Lasts r (record { kept = c.remove_each.new.kept; next = c.self.inside.next; largest = c.self.inside.largest; elements = c.self.inside.elements; links = c.self.inside.links.items })) c.self.view_is
    (versions_last c.self.inside.kept c.remove_each.new.kept c.self.inside.next c.self.inside.next c.self.inside.largest c.self.inside.largest c.self.inside.elements c.self.inside.elements c.self.inside.links.items
    c.self.inside.links.items
    c.remove_each.ensures.lasts (same_last c.self.inside.largest) (same_last c.self.inside.elements) (grows_same c.self.inside.links.items) c.self.invariant.are_linked)

pub returns-in-Err-clause-lasts : goal.returns-in-Err-clause-lasts
returns-in-Err-clause-lasts g c =
    subst (λ (r : Contents). Lasts r (record { kept = c.back.new.self; next = c.self.inside.next; largest = c.self.inside.largest; elements = c.self.inside.elements; links = c.self.inside.links.items })) c.self.view_is
    (versions_last c.self.inside.kept c.back.new.self c.self.inside.next c.self.inside.next c.self.inside.largest c.self.inside.largest c.self.inside.elements c.self.inside.elements c.self.inside.links.items c.self.inside.links.items
    (λ root map s. c.back.ensures.lasts root map (c.remove_each.ensures.lasts root map s)) (same_last c.self.inside.largest) (same_last c.self.inside.elements) (grows_same c.self.inside.links.items) c.self.invariant.are_linked)
