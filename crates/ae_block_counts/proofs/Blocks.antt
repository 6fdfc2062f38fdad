-- The blocks of formulas and clauses, and their quantifiers together.
use Rattle.std.specs.Prelude.{◌+◌, ◌≡◌, List, [], ◌∷◌, ◌++◌, sum_by, Some}
use Rattle.std.specs.List.{Contains, flat_map}
use Rattle.std.proofs.Common.{refl, sym, ap, ◌∙◌, subst, arith, inl, inr}
use Rattle.std.proofs.lemmas.List.Elements.{Contains-append_left, Contains-append_right}
use Rattle.std.proofs.lemmas.List.Sums.{sum_by-append, sum_by-cons}
use Rattle.ae_base.proofs.Options.{never_some}
use Rattle.ae_core.specs.Inner.Induction.{by_formulas}
use Rattle.ae_core.specs.declared.formulas.Formula.{Formula, Formula-F, True, False, Eq, Lt, Le, Pred, Not, And, Or, Xor, Iff, All, Ex, map-Formula, out-Formula, roll-Formula, roll-out-Formula, para-roll-Formula}
use Rattle.ae_core.specs.declared.formulas.Formula.TheOpen as layer
use Rattle.ae_core.specs.declared.formulas.Formula.TheVariants.{rolls-All, rolls-Ex, outs-True, outs-False, outs-Eq, outs-Lt, outs-Le, outs-Pred, outs-Not, outs-And, outs-Or, outs-Xor, outs-Iff, outs-All, outs-Ex}
use Rattle.ae_core.specs.declared.formulas.Lit.{Lit}
use Rattle.ae_core.specs.declared.formulas.Quant.{Quant, para-Quant}
use Rattle.ae_journal.proofs.Splits.{contains_one, contains_here, contains_cases}
use Rattle.ae_journal.specs.Standing.{parts_of, parts_by}
use Rattle.ae_journal.specs.States.{quant_of}
use Rattle.ae_rules.specs.Clauses.{Clause}
use Rattle.ae_block_counts.specs.Counts.{quantifiers, blocks_of, blocks_step, blocks_in}
use Rattle.ae_block_counts.proofs.Numbers.{of_layer, by_layer}

-- ---- by the head
abbrev block_mark : Quant → Unit {0}
block_mark = para-Quant (List Formula) (Unit {0}) blocks_step (λ q. tt)

abbrev blocks_layer : Formula-F Formula Quant → List Formula
blocks_layer o = blocks_step (map-Formula Formula Quant (Formula × List Formula) (Quant × Unit {0}) (λ f. (f, blocks_of f)) (λ q. (q, block_mark q)) o)

blocks_by : (f : Formula) (o : Formula-F Formula Quant) → out-Formula f ≡ o → blocks_of f ≡ blocks_layer o
unfolding blocks_of
blocks_by f o e = ap blocks_of (sym (roll-out-Formula f) ∙ ap roll-Formula e) ∙ para-roll-Formula (List Formula) (Unit {0}) blocks_step (λ q. tt) o

-- a block is its own one
pub own_block : (f : Formula) (q : Quant) → quant_of (out-Formula f) ≡ Some q → blocks_of f ≡ f ∷ []
own_block f q e = from (out-Formula f) refl e
  where
    from : (o : Formula-F Formula Quant) → out-Formula f ≡ o → quant_of o ≡ Some q → blocks_of f ≡ f ∷ []
    from (layer.All r) o i = blocks_by f (layer.All r) o ∙ ap (λ (z : Formula). z ∷ []) (sym (rolls-All r) ∙ ap roll-Formula (sym o) ∙ roll-out-Formula f)
    from (layer.Ex r) o i = blocks_by f (layer.Ex r) o ∙ ap (λ (z : Formula). z ∷ []) (sym (rolls-Ex r) ∙ ap roll-Formula (sym o) ∙ roll-out-Formula f)
    from layer.True o i = never_some q i
    from layer.False o i = never_some q i
    from (layer.Eq x y) o i = never_some q i
    from (layer.Lt x y) o i = never_some q i
    from (layer.Le x y) o i = never_some q i
    from (layer.Pred p ss us) o i = never_some q i
    from (layer.Not x) o i = never_some q i
    from (layer.And x y) o i = never_some q i
    from (layer.Or x y) o i = never_some q i
    from (layer.Xor x y) o i = never_some q i
    from (layer.Iff x y) o i = never_some q i

-- ---- parts
module _ (h b : Formula) where
  either : (x y : Formula) → Contains (blocks_of h) b → Contains (x ∷ y ∷ []) h → Contains (blocks_of x ++ blocks_of y) b
  either x y c i = elim (contains_cases x (y ∷ []) h i) as (λ _. Contains (blocks_of x ++ blocks_of y) b) [
    | inl e ↦ Contains-append_left (blocks_of x) (blocks_of y) b (subst (λ (z : Formula). Contains (blocks_of z) b) (sym e) c)
    | inr r ↦ Contains-append_right (blocks_of x) (blocks_of y) b (subst (λ (z : Formula). Contains (blocks_of z) b) (sym (contains_one y h r)) c)
  ]

  pub part_blocks : (f : Formula) → Contains (parts_of f) h → Contains (blocks_of h) b → Contains (blocks_of f) b
  part_blocks f i c = subst (λ (w : List Formula). Contains w b) (sym (blocks_by f (out-Formula f) refl)) (from (out-Formula f) i)
    where
      from : (o : Formula-F Formula Quant) → Contains (parts_by o) h → Contains (blocks_layer o) b
      from (layer.Not x) i = subst (λ (z : Formula). Contains (blocks_of z) b) (sym (contains_one x h i)) c
      from (layer.And x y) i = either x y c i
      from (layer.Or x y) i = either x y c i
      from (layer.Xor x y) i = either x y c i
      from (layer.Iff x y) i = either x y c i
      from layer.True i = absurd (omega (arith, i.1))
      from layer.False i = absurd (omega (arith, i.1))
      from (layer.Eq x y) i = absurd (omega (arith, i.1))
      from (layer.Lt x y) i = absurd (omega (arith, i.1))
      from (layer.Le x y) i = absurd (omega (arith, i.1))
      from (layer.Pred p ss us) i = absurd (omega (arith, i.1))
      from (layer.All q) i = absurd (omega (arith, i.1))
      from (layer.Ex q) i = absurd (omega (arith, i.1))

-- ---- clauses
pub in_flat : {X Y : Type 0} (f : X → List Y) (xs : List X) (x : X) (y : Y) → Contains xs x → Contains (f x) y → Contains (flat_map f xs) y
in_flat f [] x y c d = absurd (omega (arith, c.1))
in_flat f (z ∷ xs) x y c d = elim (contains_cases z xs x c) as (λ _. Contains (f z ++ flat_map f xs) y) [
  | inl e ↦ Contains-append_left (f z) (flat_map f xs) y (subst (λ w. Contains (f w) y) (sym e) d)
  | inr r ↦ Contains-append_right (f z) (flat_map f xs) y (in_flat f xs x y r d)
]

abbrev pub clause_blocks : Clause → List Formula
clause_blocks c = flat_map (λ (l : Lit). blocks_of l.formula) c

pub block_in : (clauses : List Clause) (c : Clause) (l : Lit) (q : Quant) → Contains clauses c → Contains c l → quant_of (out-Formula l.formula) ≡ Some q → Contains (blocks_in clauses) l.formula
block_in clauses c l q h k e =
    in_flat clause_blocks clauses c l.formula h
    (in_flat (λ (m : Lit). blocks_of m.formula) c l l.formula k (subst (λ (w : List Formula). Contains w l.formula) (sym (own_block l.formula q e)) (contains_here l.formula [])))

-- ---- all quantifiers of a formula are in its blocks
abbrev Sums : Formula → Type 0
Sums f = sum_by quantifiers (blocks_of f) ≡ quantifiers f

none : (f : Formula) (o : Formula-F Formula Quant) → out-Formula f ≡ o → blocks_layer o ≡ [] → of_layer o ≡ 0 → Sums f
none f o e b k = ap (sum_by quantifiers) (blocks_by f o e ∙ b) ∙ sym (by_layer f o e ∙ k)

one : (f : Formula) (o : Formula-F Formula Quant) → out-Formula f ≡ o → blocks_layer o ≡ f ∷ [] → Sums f
one f o e b = let s = ap (sum_by quantifiers) (blocks_by f o e ∙ b) ∙ sum_by-cons quantifiers f [] in omega (arith, s)

two : (x y f : Formula) (o : Formula-F Formula Quant) → out-Formula f ≡ o → blocks_layer o ≡ blocks_of x ++ blocks_of y → of_layer o ≡ quantifiers x + quantifiers y → Sums x → Sums y → Sums f
two x y f o e b k s t = ap (sum_by quantifiers) (blocks_by f o e ∙ b) ∙ sum_by-append quantifiers (blocks_of x) (blocks_of y) ∙ (λ i. s i + t i) ∙ sym (by_layer f o e ∙ k)

pub all_together : (f : Formula) → Sums f
all_together =
    by_formulas Sums (λ q. Unit {0})
    (none True layer.True outs-True refl refl)
    (none False layer.False outs-False refl refl)
    (λ x y. none (Eq x y) (layer.Eq x y) (outs-Eq x y) refl refl)
    (λ x y. none (Lt x y) (layer.Lt x y) (outs-Lt x y) refl refl)
    (λ x y. none (Le x y) (layer.Le x y) (outs-Le x y) refl refl)
    (λ p ss us. none (Pred p ss us) (layer.Pred p ss us) (outs-Pred p ss us) refl refl)
    (λ x h. ap (sum_by quantifiers) (blocks_by (Not x) (layer.Not x) (outs-Not x)) ∙ h ∙ sym (by_layer (Not x) (layer.Not x) (outs-Not x)))
    (λ x y h k. two x y (And x y) (layer.And x y) (outs-And x y) refl refl h k)
    (λ x y h k. two x y (Or x y) (layer.Or x y) (outs-Or x y) refl refl h k)
    (λ x y h k. two x y (Xor x y) (layer.Xor x y) (outs-Xor x y) refl refl h k)
    (λ x y h k. two x y (Iff x y) (layer.Iff x y) (outs-Iff x y) refl refl h k)
    (λ q h. one (All q) (layer.All q) (outs-All q) refl)
    (λ q h. one (Ex q) (layer.Ex q) (outs-Ex q) refl)
    (λ q h. tt)
