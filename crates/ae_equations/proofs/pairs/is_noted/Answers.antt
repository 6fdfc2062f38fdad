use Rattle.std.specs.Prelude.{ℕ, List, ◌≡◌, ◌≤◌, length}
use Rattle.std.specs.List.{Contains}
use Rattle.std.proofs.Common.{sym, ap, ◌∙◌, subst}
use Rattle.ae_equations.specs.declared.pairs.Link.{Link}
use Rattle.ae_equations.specs.Paired.{chain_at, partners}
use Rattle.ae_equations.specs.Inner.Chained.{AreChained}
use Rattle.ae_equations.proofs.pairs.is_noted.Goals as goal

pub is_on-requires-clause-chained : goal.is_on-requires-clause-chained
is_on-requires-clause-chained c = subst AreChained (sym c.as_slice.ensures) c.requires.noted.chained

pub is_on-requires-clause-within : goal.is_on-requires-clause-within
is_on-requires-clause-within c = subst (λ (ls : List Link). c.head_in-head.result ≤ length ls) (sym c.as_slice.ensures) c.head_in-head.ensures.within

pub returns : goal.returns
returns c =
    let second = c.args.second in
    let links = c.args.pairs.now.links in
    let e : chain_at c.as_slice.result.now c.head_in-head.result ≡ partners c.args.pairs.now c.args.first = ap (λ (ls : List Link). chain_at ls c.head_in-head.result) c.as_slice.ensures ∙ ap
    (chain_at links) c.head_in-head.ensures.head in (
      λ t. subst (λ (ns : List ℕ). Contains ns second) e (c.is_on.ensures.0 t),
      λ t. c.is_on.ensures.1 (subst (λ (ns : List ℕ). Contains ns second) (sym e) t),
    )
