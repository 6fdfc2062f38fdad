-- Steps that fit a store fit it when it has grown.
use Rattle.std.specs.Prelude.{ℕ, zero, suc, ◌<◌, Bool, List, [], ◌∷◌, ◌≡◌, map, take, length}
use Rattle.std.specs.List.{AllByRecursion}
use Rattle.std.proofs.Common.{refl, sym, ap, ◌∙◌, subst, inl, inr}
use Rattle.std.proofs.lemmas.Option.{slice_get_within}
use Rattle.ae_rules.specs.Built.{HasApplied, HasIntegers, HasUnplain}
use Rattle.ae_rules.specs.Lines.{fact_ok}
use Rattle.ae_base.specs.Options.{or_else}
use Rattle.ae_core.specs.declared.terms.Sort.{Sort}
use Rattle.ae_core.specs.declared.terms.Head.{Head}
use Rattle.ae_core.specs.declared.terms.Head.TheVariants as head
use Rattle.ae_core.specs.declared.terms.Op.TheVariants as op
use Rattle.ae_core.specs.declared.terms.Term.{Term, Apply, Bound}
use Rattle.ae_core.specs.declared.problems.Signature.{Signature}
use Rattle.ae_store.specs.Terms.{named, Keeps}
use Rattle.ae_base.proofs.ListFacts.{value_at}
use Rattle.ae_just.specs.declared.steps.Times.{Times}
use Rattle.ae_just.specs.declared.steps.Side.{Side}
use Rattle.ae_just.specs.declared.steps.Side.TheVariants as side
use Rattle.ae_just.specs.declared.steps.Step.{Step}
use Rattle.ae_just.specs.Sides.{side_term, product, numeric, joined, whole, sum_from, many_from, IsWithin, ArePartsWithin}
use Rattle.ae_just.specs.Steps.{fact_of, own_line, line_by, RuleAllowed, IsStepWithin, AreWithin, IsSymbolOfNames, IsOfNames, Fits}

module _ (old new : List Term) (keeps : Keeps old new) where
  name_kept : (a : ℕ) → a < length old → named new a ≡ named old a
  name_kept a h = let g = value_at old a h in ap (λ o. or_else o (Bound 0)) (keeps a g.0 g.1 ∙ sym g.1)

  name_within : (a : ℕ) → a < length old → a < length new
  name_within a h = let g = value_at old a h in slice_get_within new a g.0 (keeps a g.0 g.1)

  product_kept : (real : Bool) (p : Times) → p.name < length old → product real new p ≡ product real old p
  product_kept real p h = ap (λ t. joined (numeric real op.Mul) [] (whole real p.factor) t) (name_kept p.name h)

  sum_kept : (real : Bool) (t : Term) (ps : List Times) → ArePartsWithin (length old) ps → sum_from real new t ps ≡ sum_from real old t ps
  sum_kept real t [] h = refl
  sum_kept real t (p ∷ ps) h = ap (λ x. sum_from real new (joined (numeric real op.Add) [] t x) ps) (product_kept real p h.0) ∙ sum_kept real (joined (numeric real op.Add) [] t (product real old p)) ps h.1

  many_kept : (u : Head) (ss : List Sort) (t : Term) (ns : List ℕ) → AllByRecursion (λ a. a < length old) ns → many_from u ss new t ns ≡ many_from u ss old t ns
  many_kept u ss t [] h = refl
  many_kept u ss t (n ∷ ns) h = ap (λ x. many_from u ss new (joined u ss t x) ns) (name_kept n h.0) ∙ many_kept u ss (joined u ss t (named old n)) ns h.1

  pub side_kept : (s : Side) → IsWithin (length old) s → side_term new s ≡ side_term old s
  side_kept (side.Name n) h = name_kept n h
  side_kept (side.Sum [] c real) h = refl
  side_kept (side.Sum (p ∷ ps) c real) h =
      ap (λ t. joined (numeric real op.Add) [] t (whole real c)) (ap (λ t. sum_from real new t ps) (product_kept real p h.0) ∙ sum_kept real (product real old p) ps h.1)
  side_kept (side.Many u []) h = refl
  side_kept (side.Many u (n ∷ ns)) h = ap (λ t. many_from u.head u.sorts new t ns) (name_kept n h.0) ∙ many_kept u.head u.sorts (named old n) ns h.1

  names_wider : (ns : List ℕ) → AllByRecursion (λ a. a < length old) ns → AllByRecursion (λ a. a < length new) ns
  names_wider [] h = tt
  names_wider (n ∷ ns) h = (name_within n h.0, names_wider ns h.1)

  parts_wider : (ps : List Times) → ArePartsWithin (length old) ps → ArePartsWithin (length new) ps
  parts_wider [] h = tt
  parts_wider (p ∷ ps) h = (name_within p.name h.0, parts_wider ps h.1)

  side_wider : (s : Side) → IsWithin (length old) s → IsWithin (length new) s
  side_wider (side.Name n) h = name_within n h
  side_wider (side.Sum ps c real) h = parts_wider ps h
  side_wider (side.Many u ns) h = names_wider ns h

  -- ---- what is said of sides
  pub integers_kept : (sig : Signature) → HasIntegers sig old → HasIntegers sig new
  integers_kept sig h = (h.0, h.1, keeps h.0 h.1 h.2, h.3)

  pub unplain_kept : HasUnplain old → HasUnplain new
  unplain_kept h = (h.0, h.1, keeps h.0 h.1 h.2, h.3)

  applied_kept : (k : ℕ) (ss : List Sort) → HasApplied old k ss → HasApplied new k ss
  applied_kept k ss h = record { name = h.name; arguments = h.arguments; there = keeps h.name (Apply (head.Symbol k) ss h.arguments) h.there }

  pub symbol_kept : (sig : Signature) (u : Head) (ss : List Sort) → IsSymbolOfNames sig old u ss → IsSymbolOfNames sig new u ss
  symbol_kept sig u ss h = elim h [ inl d ↦ inl (d.0, d.1, d.2, applied_kept d.0 ss d.3) | inr n ↦ inr (unplain_kept n) ]

  of_names_kept : (sig : Signature) (s : Side) → IsOfNames sig old s → IsOfNames sig new s
  of_names_kept sig (side.Name n) h = tt
  of_names_kept sig (side.Sum ps c real) h = elim h [ inl e ↦ inl e | inr i ↦ inr (integers_kept sig i) ]
  of_names_kept sig (side.Many u ns) h = symbol_kept sig u.head u.sorts h

  line_kept : (s : Step) → IsStepWithin (length old) s → own_line new s ≡ own_line old s
  line_kept s h = λ i. line_by 0 (side_kept s.left h.0 i) (side_kept s.right h.1 i) s.rule

  lines_kept : (steps : List Step) (i : ℕ) → AreWithin (length old) steps → map (own_line new) (take i steps) ≡ map (own_line old) (take i steps)
  lines_kept [] zero w = refl
  lines_kept [] (suc i) w = refl
  lines_kept (s ∷ ss) zero w = refl
  lines_kept (s ∷ ss) (suc i) w =
      let rest : AreWithin (length old) ss = record { each = λ k t e. w.each (suc k) t e } in
      λ j. line_kept s (w.each 0 s refl) j ∷ lines_kept ss i rest j

  pub fits_kept : (sig : Signature) (steps : List Step) → Fits sig old steps → Fits sig new steps
  fits_kept sig steps f = record {
    allowed = record {
      each = λ i s e.
          let a = f.allowed.each i s e in
          let w = f.within.each i s e in
          record {
            sorted = ap (fact_ok sig) (λ j. record { relation = (fact_of old s).relation; left = side_kept s.left w.0 j; right = side_kept s.right w.1 j }) ∙ a.sorted;
            allowed = subst (λ x. RuleAllowed sig x (own_line new s) s.rule) (sym (lines_kept steps i f.within)) (subst (λ x. RuleAllowed sig (map (own_line old) (take i steps)) x s.rule) (sym (line_kept s w)) a.allowed);
          };
    };
    within = record { each = λ i s e. let w = f.within.each i s e in (side_wider s.left w.0, side_wider s.right w.1) };
    built = record { each = λ i s e. let b = f.built.each i s e in (of_names_kept sig s.left b.0, of_names_kept sig s.right b.1) };
    factors = f.factors;
  }
