use Rattle.std.specs.Prelude.{pos, ◌≡◌, ◌≤ℤ◌, Some}
use Rattle.std.proofs.Common.{rules, sym, ap, ◌∙◌}
use Rattle.std.proofs.lemmas.Int.{to_z-of_z}
use mir.Syntax.{w128}
use Rattle.ae_core.specs.declared.terms.Sort.{Int}
use Rattle.ae_core.specs.declared.terms.Term.{Term}
use Rattle.ae_journal.specs.Sides.{times_term}
use Rattle.ae_store.specs.Shapes.{shapes}
use Rattle.ae_store.specs.Terms.{terms, named}
use Rattle.ae_row_sides.specs.Inner.Sums.{after}
use Rattle.ae_row_sides.proofs.Sums.{part_added, name_here}
use Rattle.ae_row_sides.proofs.sides.with_part.Goals as goal

pub returns : goal.returns
returns c =
    let ts = terms (shapes c.args.store.now.nodes) in
    let q = c.args.part in
    let h : pos 0 ≤ℤ q.factor = search rules in
    let term : c.in_ok-term.term ≡ times_term Int q.factor (named ts q.key) = c.in_ok-term.ensures ∙ (λ i. times_term Int (to_z-of_z w128 q.factor (search rules) i) (c.in_ok-name.ensures i)) in
    ap (λ (t : Term). Some t) (c.in_ok-more.ensures ∙ ap (λ (t : Term). after c.args.sum t) term) ∙ sym (part_added ts q c.args.sum (named ts q.key) h (name_here c.args.store.now.nodes q.key c.requires))
