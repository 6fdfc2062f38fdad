use Rattle.std.specs.Prelude.{List, [], ◌∷◌, ◌++◌, ◌≡◌, length, slice_get, Some}
use Rattle.std.proofs.Common.{sym, ap, ◌∙◌, subst, arith}
use Rattle.std.proofs.lemmas.List.{append-nil, length_push}
use Rattle.ae_store.specs.Shapes.{shape_of}
use Rattle.ae_store.specs.Terms.{terms, Keeps}
use Rattle.ae_store.specs.declared.nodes.Shape.{Shape}
use Rattle.ae_theory.specs.Names.{terms_in}
use Rattle.ae_state.proofs.Learning.{keeps_next}
use Rattle.ae_state.proofs.Lasting.{front_then}
use Rattle.ae_state.proofs.names.push_shapes.Goals as goal

pub loop-name-init : goal.loop-name-init
loop-name-init c = (c.requires.keeps, ([], sym (append-nil c.args.shapes.now)), sym c.len-start.ensures)

pub loop-name-preserved : goal.loop-name-preserved
loop-name-preserved c =
    let s = c.args.store.now in
    let xs : List Shape = c.loop-name.shapes in
    let p = c.node.result.now in
    let there : slice_get s.nodes (length xs) ≡ Some p = ap (slice_get s.nodes) (c.loop-name.invariant.2) ∙ c.node.ensures.node in
    let pushed : c.push.new.self ≡ xs ++ shape_of p ∷ [] = c.in_ok-push.ensures.ok ∙ ap (λ (y : Shape). xs ++ y ∷ []) c.in_ok-shape.ensures in (
      subst (λ (ys : List Shape). Keeps (terms ys) (terms_in s)) (sym pushed) (keeps_next s.signature s.nodes c.len-end.ensures.store xs c.loop-name.invariant.0 p there),
      front_then c.args.shapes.now xs c.push.new.self c.loop-name.invariant.1 (shape_of p ∷ [], pushed),
      omega (arith, ap length pushed, length_push xs (shape_of p), c.loop-name.invariant.2),
    )

pub returns-clause-all : goal.returns-clause-all
returns-clause-all c = omega (arith, c.loop-name-test.false, c.loop-name.invariant.2, c.len-end.ensures.len)
