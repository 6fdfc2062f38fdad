use Rattle.std.specs.Prelude.{ℕ, List, ◌≡◌}
use Rattle.std.proofs.Common.{sym, subst, inl, inr, ◌∙◌}
use Rattle.ae_monoid.specs.Rules.{rule_at}
use Rattle.ae_monoid.specs.Reductions.{ReducesBy}
use Rattle.ae_sweeps.proofs.RulePairs.{swept_by, join_at, open_at}
use Rattle.ae_sweeps.proofs.pairs.overlap_gap.Goals as goal

pub returns-then-not-same_names-clause-some : goal.returns-then-not-same_names-clause-some
returns-then-not-same_names-clause-some c =
    let K = λ (n : ℕ). rule_at c.args.rules.now n in
    let u = c.args.pair.now.symbol in
    let a = c.in_ok-left.left in
    let b = c.in_ok-right.right in
    λ sig nodes rep. open_at K c.args.first c.args.second c.args.one.now c.args.other.now c.requires.one c.requires.other c.args.pair.now c.requires.deduced a.names b.names a.justs b.justs
    (subst (λ (l : List ℕ). ReducesBy K u l a.justs a.names) c.as_slice.ensures c.in_ok-left.ensures.justs) (subst (λ (l : List ℕ). ReducesBy K u l b.justs b.names) c.as_slice-2.ensures c.in_ok-right.ensures.justs)
    c.in_ok-left.ensures.reduced c.in_ok-right.ensures.reduced c.requires.before c.requires.symbols c.in_ok-left.ensures.rises c.in_ok-right.ensures.rises
    (λ e. (rw c.if-not-same_names.true at c.same_names.ensures) (c.as_slice-3.ensures ∙ e ∙ sym c.as_slice-4.ensures))

pub returns-clause-none : goal.returns-clause-none
returns-clause-none c =
    let K = λ (n : ℕ). rule_at c.args.rules.now n in
    let u = c.args.pair.now.symbol in
    let a = c.in_ok-left.left in
    let b = c.in_ok-right.right in
    let e : a.names ≡ b.names = sym c.as_slice-3.ensures ∙ (rw c.if-not-same_names.false at c.same_names.ensures) ∙ c.as_slice-4.ensures in
    swept_by K c.args.first c.args.second c.args.one.now c.args.other.now c.requires.one c.requires.other (λ p. c.requires.apart (inl p)) (λ p. c.requires.apart (inr p))
    (join_at K c.args.first c.args.second c.args.one.now c.args.other.now c.requires.one c.requires.other c.args.pair.now c.requires.deduced a.names b.names a.justs b.justs
    (subst (λ (l : List ℕ). ReducesBy K u l a.justs a.names) c.as_slice.ensures c.in_ok-left.ensures.justs) (subst (λ (l : List ℕ). ReducesBy K u l b.justs b.names) c.as_slice-2.ensures c.in_ok-right.ensures.justs)
    c.in_ok-left.ensures.reduced c.in_ok-right.ensures.reduced e)
