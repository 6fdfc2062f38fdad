use Rattle.std.specs.Prelude.{ℕ, [], ◌∷◌, List}
use Rattle.std.proofs.Common.{sym, subst}
use Rattle.ae_core.specs.declared.terms.Sort.{Sort}
use Rattle.ae_core.specs.declared.terms.Head.TheVariants as head
use Rattle.ae_store.specs.Shapes.{shapes}
use Rattle.ae_store.specs.Terms.{terms}
use Rattle.ae_strips.specs.Applied.{IsAppliedTo}
use Rattle.ae_strips.specs.Stripping.{RestsOnNothing}
use Rattle.ae_strips.proofs.FieldMoves.{field_moved, are_moved}
use Rattle.ae_strips.proofs.Freedom.{equating_added, each_one}
use Rattle.ae_strips.proofs.stripping.moved_by.Goals as goal

pub field_name-other-requires : goal.field_name-other-requires
field_name-other-requires c =
    let s = c.args.store.now in
    record {
      there =
          subst (λ (ss : List Sort). (m : ℕ) × IsAppliedTo s.nodes m (head.Field c.args.field.of c.args.field.place) ss c.args.owner) (sym c.as_slice.ensures)
          (field_moved s.signature s.nodes c.len-len.ensures.store c.args.name c.args.field c.requires.field c.node-node.result.now c.node-node.ensures.node c.args.justs.now c.requires.fits c.args.owner c.args.step c.requires.equal c.requires.within);
    }

pub state_moved-requires-clause-moved : goal.state_moved-requires-clause-moved
state_moved-requires-clause-moved c =
    let s = c.args.store.now in
    are_moved s.signature s.nodes c.len-len.ensures.store c.args.name c.args.field c.requires.field c.node-node.result.now c.node-node.ensures.node c.args.justs.now c.args.owner c.args.step c.field_name-other.result c.requires.equal
    (subst (λ (ss : List Sort). IsAppliedTo s.nodes c.field_name-other.result (head.Field c.args.field.of c.args.field.place) ss c.args.owner) c.as_slice.ensures c.field_name-other.ensures)

pub returns-clause-same : goal.returns-clause-same
returns-clause-same c =
    let s = c.args.store.now in
    record {
      node = c.node-node.result.now;
      there = c.node-node.ensures.node;
      same = subst (λ (ss : List Sort). IsAppliedTo s.nodes c.field_name-other.result (head.Field c.args.field.of c.args.field.place) ss c.args.owner) c.as_slice.ensures c.field_name-other.ensures;
    }

pub returns-clause-said : goal.returns-clause-said
returns-clause-said c =
    let s = c.args.store.now in
    equating_added s.signature (terms (shapes s.nodes)) c.args.justs.now c.state_moved.new.justs c.state_moved.ensures.fits c.args.name c.field_name-other.result c.in_ok-equal.equal (c.args.step ∷ []) c.in_ok-equal.ensures.added
    (λ p m. each_one (RestsOnNothing c.args.justs.now) c.args.step p c.requires.equal.free m)
