use Rattle.std.proofs.Common.{◌<◌, length, refl, arith}
use Rattle.std.proofs.lemmas.Option.{slice_get_within}
use Rattle.ae_store.specs.Terms.{named}
use Rattle.ae_theory.specs.Names.{terms_in}
use Rattle.ae_literals.proofs.NamedLiterals.{names_push}
use Rattle.ae_literals.proofs.saying.are_names_of.Goals as goal

pub returns : goal.returns
returns c = (
  λ t. names_push (named (terms_in c.args.store.now)) c.args.names.now c.args.terms.now (omega (arith, c.if-names-terms.false))
      (λ k u e. (let l : k < length c.args.terms.now = slice_get_within c.args.terms.now k u e in
      c.loop-i.invariant k u (omega (arith, l, c.if-names-terms.false, c.loop-i-test.false, c.loop-i.auto.i-end)) e)),
  λ e. refl,
)
