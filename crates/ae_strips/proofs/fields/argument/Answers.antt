use Rattle.std.specs.Prelude.{ℕ, List, ◌≡◌, length, slice_get}
use Rattle.std.proofs.Common.{refl, ap, ◌∙◌, sym}
use Rattle.std.proofs.lemmas.Option.{same_Some, none-some, slice_get_read, slice_get_past}
use Rattle.ae_store.specs.declared.nodes.Node.{Node}
use Rattle.ae_strips.proofs.fields.argument.Goals as goal

pub returns-in-Some-clause-some : goal.returns-in-Some-clause-some
returns-in-Some-clause-some c =
    let xs = c.as_slice.result.now in
    record {
      node = c.node-node.result.now;
      there = c.node-node.ensures.node;
      written = c.if-not-is_written.ensures.0 refl;
      at = ap (λ (l : List ℕ). slice_get l c.args.place) (sym c.as_slice.ensures) ∙ slice_get_read xs (length xs) c.args.place c.in-Some.argument.now refl c.in-Some.ensures.lookup.3.0 c.in-Some.ensures.lookup.1;
    }

pub returns-in-None-clause-none : goal.returns-in-None-clause-none
returns-in-None-clause-none c = λ u h.
    let xs = c.as_slice.result.now in
    let same : h.node ≡ c.node-node.result.now = same_Some h.node c.node-node.result.now (sym h.there ∙ c.node-node.ensures.node) in
    none-some u (sym (slice_get_past xs c.args.place c.in-None.ensures.lookup.3) ∙ ap (λ (l : List ℕ). slice_get l c.args.place) (c.as_slice.ensures ∙ ap (λ (p : Node). p.args) (sym same)) ∙ h.at)
