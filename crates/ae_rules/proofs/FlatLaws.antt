-- A term flattened under a symbol, at each form of term.
use Rattle.std.specs.Prelude.{ℕ, ℤ, Bool, List, [], ◌∷◌, ◌≡◌, map}
use mathlib.Core.Path.{sym, ap, ◌∙◌}
use Rattle.ae_core.specs.declared.terms.Sort.{Sort}
use Rattle.ae_core.specs.declared.terms.Head.{Head}
use Rattle.ae_core.specs.declared.terms.Term.{Term, Bound, Num, Fresh, Apply, para-roll-Term}
use Rattle.ae_core.specs.declared.terms.Term.TheOpen as layer
use Rattle.ae_core.specs.declared.terms.Term.TheVariants.{rolls-Apply, rolls-Bound, rolls-Num, rolls-Fresh}
use Rattle.ae_rules.specs.Lines.{flat, flat_step}

pub flat_apply : (h : Head) (ss : List Sort) (g : Head) (rs : List Sort) (ts : List Term)
    → flat h ss (Apply g rs ts) ≡ flat_step h ss (layer.Apply g rs (map (λ t. (t, flat h ss t)) ts))
unfolding flat
flat_apply h ss g rs ts = ap (flat h ss) (sym (rolls-Apply g rs ts)) ∙ para-roll-Term (List Term) (flat_step h ss) (layer.Apply g rs ts)

pub flat_bound : (h : Head) (ss : List Sort) (n : ℕ) → flat h ss (Bound n) ≡ Bound n ∷ []
unfolding flat
flat_bound h ss n = ap (flat h ss) (sym (rolls-Bound n)) ∙ para-roll-Term (List Term) (flat_step h ss) (layer.Bound n)

pub flat_num : (h : Head) (ss : List Sort) (a b : ℤ) (r : Bool) → flat h ss (Num a b r) ≡ Num a b r ∷ []
unfolding flat
flat_num h ss a b r = ap (flat h ss) (sym (rolls-Num a b r)) ∙ para-roll-Term (List Term) (flat_step h ss) (layer.Num a b r)

pub flat_fresh : (h : Head) (ss : List Sort) (n : ℕ) (s : Sort) → flat h ss (Fresh n s) ≡ Fresh n s ∷ []
unfolding flat
flat_fresh h ss n s = ap (flat h ss) (sym (rolls-Fresh n s)) ∙ para-roll-Term (List Term) (flat_step h ss) (layer.Fresh n s)
