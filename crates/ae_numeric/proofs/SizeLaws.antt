-- The arguments of an application are smaller than it is.
use Rattle.std.specs.Prelude.{ℕ, ◌≡◌, ◌<◌, ◌≤◌, ◌+◌, ◌*◌, List, length, get_or}
use Rattle.std.proofs.Common.{arith, sym, subst}
use denote.Param.Weighed.{most, at_most}
use Rattle.ae_core.specs.declared.terms.Sort.{Sort}
use Rattle.ae_core.specs.declared.terms.Head.{Head}
use Rattle.ae_core.specs.declared.terms.Term.{Term, Apply, size-Term, size_is-Term}
use Rattle.ae_core.specs.declared.terms.Term.TheVariants.{outs-Apply}

arguments_smaller : (h : Head) (ss : List Sort) (ts : List Term) → most size-Term ts < size-Term (Apply h ss ts)
arguments_smaller h ss ts = grind (arith, size_is-Term (Apply h ss ts), outs-Apply h ss ts)

pub pair_falls : (t : Term) (h : Head) (ss : List Sort) (ts us : List Term) → t ≡ Apply h ss ts → us ≡ ts → 2 * most size-Term us + 1 < 2 * size-Term t + 0
pair_falls t h ss ts us is view = subst (λ (x : Term). 2 * most size-Term us + 1 < 2 * size-Term x + 0) (sym is) (subst (λ (xs : List Term). 2 * most size-Term xs + 1 < 2 * size-Term (Apply h ss ts) + 0) (sym view) (twice (most size-Term ts) (size-Term (Apply h ss ts)) (arguments_smaller h ss ts)))
  where
    twice : (m n : ℕ) → m < n → 2 * m + 1 < 2 * n + 0
    twice m n l = omega arith

pub first_falls : (t : Term) (h : Head) (ss : List Sort) (ts us : List Term) (x d : Term) → t ≡ Apply h ss ts → us ≡ ts → 0 < length us → x ≡ get_or us 0 d → 2 * size-Term x + 0 < 2 * size-Term t + 0
first_falls t h ss ts us x d is view l e = subst (λ (y : Term). 2 * size-Term y + 0 < 2 * size-Term t + 0) (sym e) (less (size-Term (get_or us 0 d)) (most size-Term us) (size-Term t) (at_most size-Term us 0 d l) (pair_falls t h ss ts us is view))
  where
    less : (a m n : ℕ) → a ≤ m → 2 * m + 1 < 2 * n + 0 → 2 * a + 0 < 2 * n + 0
    less a m n p q = omega arith
