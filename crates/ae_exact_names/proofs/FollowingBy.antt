-- What an allowed step states follows from the literals that it rests on, by lines within any bounds that all steps keep.
use Rattle.std.specs.Prelude.{ℕ, ℤ, zero, suc, ◌<◌, Bool, true, List, [], ◌∷◌, ◌≡◌, map, take, slice_get, Some}
use Rattle.std.specs.List.{AllByRecursion}
use Rattle.std.proofs.Common.{refl, sym, subst, arith}
use Rattle.ae_base.proofs.AllOf.{all_at, all_from_places}
use Rattle.ae_base.proofs.ListFacts.{get_front}
use Rattle.ae_core.specs.declared.terms.Term.{Term, Apply}
use Rattle.ae_core.specs.declared.formulas.Formula.{Eq}
use Rattle.ae_core.specs.declared.formulas.Lit.{Lit}
use Rattle.ae_core.specs.declared.problems.Signature.{Signature}
use Rattle.ae_core.specs.declared.proofs.Scaled.{Scaled}
use Rattle.ae_core.specs.declared.proofs.EqLine.{EqLine}
use Rattle.ae_rules.specs.Lines.{Fact, equal, Stated, Equated, Combined, Follows, by_hyp, by_refl, by_sym, by_trans, by_cong, by_ac, by_lin, by_field, by_fields, FollowAll, none, more, FollowEach, no_fact, a_fact}
use Rattle.ae_store.specs.Parts.{IsIn}
use Rattle.ae_just.specs.declared.steps.Step.{Step}
use Rattle.ae_just.specs.declared.steps.Rule.{Rule}
use Rattle.ae_just.specs.declared.steps.Rule.TheVariants as rule
use Rattle.ae_just.specs.Sides.{side_term}
use Rattle.ae_just.specs.Steps.{fact_of, own_line, line_by, premises, RuleAllowed, Fits}
use Rattle.ae_just.specs.Needed.{RestsOn, itself, premise}
use Rattle.ae_just.proofs.LineLaws.{own_stated}
use Rattle.ae_just.proofs.EmitLaws.{rest_on_earlier}
use Rattle.ae_follows.specs.Assuming.{AssumesOnly}
use Rattle.ae_follows.proofs.Following.{rests_through}

module _ (sig : Signature) (ok : Fact → Bool) (hyps : Lit → Type 0) where
  abbrev Follow : Fact → Type 0
  Follow f = Follows sig ok hyps f

  -- ---- one line
  -- whatever the line of this number states follows
  abbrev Carried : List EqLine → ℕ → Type 0
  Carried xs k = (f : Fact) → Stated xs k f → Follow f

  equated : (xs : List EqLine) (ks : List ℕ) (us vs : List Term) → AllByRecursion (Carried xs) ks → Equated xs ks us vs → FollowAll sig ok hyps us vs
  equated xs [] [] [] c e = none
  equated xs (k ∷ ks) (u ∷ us) (v ∷ vs) c e = more (c.0 (equal u v) e.0) (equated xs ks us vs c.1 e.1)
  equated xs [] [] (v ∷ vs) c e = absurd e
  equated xs [] (u ∷ us) vs c e = absurd e
  equated xs (k ∷ ks) [] vs c e = absurd e
  equated xs (k ∷ ks) (u ∷ us) [] c e = absurd e

  combined : (xs : List EqLine) (ps : List Scaled) (fs : List (ℤ × Fact)) → AllByRecursion (Carried xs) (map (λ p. p.line) ps) → Combined xs ps fs → FollowEach sig ok hyps fs
  combined xs [] [] q c = no_fact
  combined xs (p ∷ ps) (f ∷ fs) q c = a_fact (q.0 f.1 c.1) (combined xs ps fs q.1 c.2)
  combined xs [] (f ∷ fs) q c = absurd c
  combined xs (p ∷ ps) [] q c = absurd c

  -- of terms that are the same
  put : (l r a b : Term) → l ≡ a → r ≡ b → ok (equal l r) ≡ true → (ok (equal a b) ≡ true → Follow (equal a b)) → Follow (equal l r)
  put l r a b p q o f =
      subst (λ z. Follow (equal z r)) (sym p) (subst (λ z. Follow (equal a z)) (sym q) (f (subst (λ z. ok (equal a z) ≡ true) q (subst (λ z. ok (equal z r) ≡ true) p o))))

  by_rule : (xs : List EqLine) (l r : Term) (u : Rule) → AllByRecursion (Carried xs) (premises u) → ok (equal l r) ≡ true → RuleAllowed sig xs (line_by 0 l r u) u
      → ((tag : ℕ) → u ≡ rule.Hyp tag → hyps (record { positive = true; formula = Eq l r })) → Follow (equal l r)
  by_rule xs l r (rule.Hyp tag) c o a given = by_hyp (given tag refl) o
  by_rule xs l r rule.Refl c o a given = put l r r r a refl o (λ p. by_refl p)
  by_rule xs l r (rule.Sym k) c o a given = by_sym (c.0 (equal r l) a) o
  by_rule xs l r (rule.Trans j k) c o (m, a, b) given = by_trans (c.0 (equal l m) a) (c.1.0 (equal m r) b) o
  by_rule xs l r (rule.Cong ks) c o (h, ss, us, vs, p, q, e) given = put l r (Apply h ss us) (Apply h ss vs) p q o (λ w. by_cong h ss (equated xs ks us vs c e) w)
  by_rule xs l r rule.Ac c o (h, ss, is, us, vs, p, q, same) given = by_ac h ss us vs is p q same o
  by_rule xs l r (rule.Lin d ps) c o (n, fs, e, q, z) given = by_lin d fs n q z (combined xs ps fs c e) o
  by_rule xs l r rule.Field c o (n, place, ss, args, p, g) given = put l r _ r p refl o (λ w. by_field n place ss args g w)
  by_rule xs l r (rule.Fields ks) c o (n, ss, e, fs, p, q, s, z) given = by_fields n ss e fs p q s (equated xs ks _ _ c z) o

  -- ---- all steps
  module _ (ts : List Term) (steps : List Step) (fits : Fits sig ts steps) (within : (id : ℕ) (s : Step) → slice_get steps id ≡ Some s → ok (fact_of ts s) ≡ true) where
    abbrev FollowsAt : ℕ → Type 0
    FollowsAt id = (s : Step) → slice_get steps id ≡ Some s → AssumesOnly ts steps hyps id → Follow (fact_of ts s)

    -- one step, where the earlier ones follow
    next : (id : ℕ) → ((p : ℕ) → p < id → FollowsAt p) → FollowsAt id
    next id earlier s at a =
        let allowed = fits.allowed.each id s at in
        let low : AllByRecursion (λ p. p < id) (premises s.rule) = (rest_on_earlier sig ts steps fits.allowed).each id s at in
        let xs = map (own_line ts) (take id steps) in
        let carried : (p : ℕ) → IsIn p (premises s.rule) → Carried xs p = λ p m f e.
        let o = own_stated ts (take id steps) p f e in
        let there = (get_front steps id p o.0 o.1).0 in
        let below : p < id = all_at (λ q. q < id) (premises s.rule) m.place p low m.is in
        let rests : RestsOn steps id p = premise id p s itself at m in
        subst (λ (g : Fact). Follow g) o.2 (earlier p below o.0 there (record { each = λ k tag t b q e. a.each k tag t (rests_through steps id p k rests b) q e })) in
        by_rule xs (side_term ts s.left) (side_term ts s.right) s.rule
        (all_from_places (Carried xs) (premises s.rule) (λ i p e. carried p (record { place = i; is = e })))
        (within id s at) allowed.allowed (λ tag r. a.each id tag s itself at r)

    below : (n id : ℕ) → id < n → FollowsAt id
    below zero id l = absurd (omega (arith, l))
    below (suc n) id l = next id (λ p m. below n p (omega (arith, l, m)))

    -- what a step states follows from the literals that it rests on
    pub follows_within : (id : ℕ) → FollowsAt id
    follows_within id = below (suc id) id (omega arith)
