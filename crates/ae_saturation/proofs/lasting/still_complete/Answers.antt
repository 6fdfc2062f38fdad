use Rattle.std.proofs.Common.{◌≡◌, length, sym, ◌∙◌}
use Rattle.std.proofs.lemmas.List.{length-map}
use Rattle.ae_base.proofs.Tests.{false_true}
use Rattle.ae_store.specs.Shapes.{shapes, shape_of}
use Rattle.ae_store.specs.Stores.{Stored}
use Rattle.ae_store.proofs.TermLaws.{length_terms}
use Rattle.ae_theory.specs.Names.{terms_in}
use Rattle.ae_unmet.proofs.TakenNames.{taken_long}
use Rattle.ae_saturation.proofs.StillComplete.{all_complete}
use Rattle.ae_saturation.proofs.Looking.{taken_by}
use Rattle.ae_saturation.proofs.lasting.still_complete.Goals as goal

terms_many : (s : Stored) → length (terms_in s) ≡ length s.nodes
terms_many s = length_terms (shapes s.nodes) ∙ length-map s.nodes shape_of

pub returns-then-known-names-clause-exact : goal.returns-then-known-names-clause-exact
returns-then-known-names-clause-exact c = (
  λ t. absurd (false_true t),
  λ p. absurd (c.if-known-names.true (c.len-known.ensures.len ∙ taken_long c.args.held.now c.args.store.now p.0 ∙ sym c.len-names.ensures.len)),
)

pub returns-then-known-names-clause-complete : goal.returns-then-known-names-clause-complete
returns-then-known-names-clause-complete c t = false_true t

pub are_met-requires : goal.are_met-requires
are_met-requires c =
    record {
      taken = taken_by c.args.held.now c.args.store.now c.requires.fits c.len-names.ensures.store (sym c.len-known.ensures.len ∙ c.if-known-names.false ∙ c.len-names.ensures.len) (terms_many c.args.store.now);
    }

pub returns-clause-exact : goal.returns-clause-exact
returns-clause-exact c = (
  λ t. (
    taken_by c.args.held.now c.args.store.now c.requires.fits c.len-names.ensures.store (sym c.len-known.ensures.len ∙ c.if-known-names.false ∙ c.len-names.ensures.len) (terms_many c.args.store.now),
    c.are_met.ensures.0 t,
  ),
  λ p. c.are_met.ensures.1 p.1,
)

pub returns-clause-complete : goal.returns-clause-complete
returns-clause-complete c t =
    all_complete c.args.held.now c.args.store.now
    (taken_by c.args.held.now c.args.store.now c.requires.fits c.len-names.ensures.store (sym c.len-known.ensures.len ∙ c.if-known-names.false ∙ c.len-names.ensures.len) (terms_many c.args.store.now))
    c.args.count c.requires.before (c.are_met.ensures.0 t)
