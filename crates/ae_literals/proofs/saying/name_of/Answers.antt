use Rattle.std.proofs.Common.{◌≡◌, ◌<◌, length, slice_get, sym, ap, ◌∙◌, arith}
use Rattle.std.proofs.lemmas.List.{length-map}
use Rattle.std.proofs.lemmas.Option.{same_Some, slice_get_within}
use native.Mathlib.Decide.{ℕ_discrete}
use Rattle.ae_base.proofs.Tests.{false_true}
use Rattle.ae_store.specs.Shapes.{shapes, shape_of}
use Rattle.ae_store.proofs.TermLaws.{length_terms}
use Rattle.ae_theory.specs.Names.{terms_in}
use Rattle.ae_literals.proofs.saying.name_of.Goals as goal

pub loop-name-preserved : goal.loop-name-preserved
loop-name-preserved c = λ n l e.
    elim (ℕ_discrete n c.loop-name.name) [
      | yes f ↦ false_true (sym c.if-same_term.false ∙ c.same_term.ensures.1 (same_Some _ _ (sym c.in_ok-term.ensures.term ∙ ap (slice_get (terms_in c.args.store.now)) (sym f) ∙ e)))
      | no m ↦ c.loop-name.invariant n (omega (arith, l, m)) e
    ]

pub returns-clause-none : goal.returns-clause-none
returns-clause-none c = λ n e.
    let nodes = c.args.store.now.nodes in
    let l : n < length (terms_in c.args.store.now) = slice_get_within (terms_in c.args.store.now) n _ e in
    let k : length (terms_in c.args.store.now) ≡ length nodes = length_terms (shapes nodes) ∙ length-map nodes shape_of in
    c.loop-name.invariant n (omega (arith, l, k, c.loop-name-test.false, c.loop-name.auto.name-end, c.len-name-end.ensures.len)) e
