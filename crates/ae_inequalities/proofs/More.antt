-- A store with more terms.
use Rattle.std.specs.Prelude.{ℕ, ◌≡◌, Bool, List, [], ◌∷◌, map, Some}
use Rattle.std.specs.List.{AllByRecursion, Contains}
use Rattle.std.proofs.Common.{refl, sym, ap, ◌∙◌, subst, inl, inr}
use Rattle.std.proofs.lemmas.Option.{slice_get-get_or}
use Rattle.ae_base.specs.Options.{or_else}
use Rattle.ae_base.proofs.AllOf.{all_weaker}
use Rattle.ae_math.specs.Fractions.{ℚ, zero_ℚ, one_ℚ, ◌+ℚ◌, ◌*ℚ◌, ratio, whole}
use Rattle.ae_math.specs.Forms.{single, sum_of}
use Rattle.ae_core.specs.Sorts.{sort_of}
use Rattle.ae_core.specs.declared.proofs.EqLine.{EqLine}
use Rattle.ae_core.specs.declared.terms.Head.TheVariants as head
use Rattle.ae_core.specs.declared.terms.Term.{Term, Apply, Bound}
use Rattle.ae_core.specs.declared.problems.Signature.{Signature}
use Rattle.ae_num.specs.declared.forms.Part.{Part}
use Rattle.ae_num.specs.declared.forms.Lin.{Lin}
use Rattle.ae_num.specs.Forms.{meaning}
use Rattle.ae_rules.specs.Built.{HasIntegers, IsBuilt, of_name, of_number, of_product, of_sum, of_symbol, of_unplain}
use Rattle.ae_rules.specs.Linear.{form, factor_of}
use Rattle.ae_rules.specs.Lines.{Fact, states}
use Rattle.ae_row_lines.specs.Says.{Says}
use Rattle.ae_store.specs.Stores.{Stored}
use Rattle.ae_store.specs.Terms.{named, Keeps}
use Rattle.ae_journal.proofs.Splits.{all_contained, contains_at}
use Rattle.ae_state_steps.specs.ValueSteps.{IsNumberName}
use Rattle.ae_theory.specs.Names.{terms_in, Extends}
use Rattle.ae_bounds.specs.declared.rows.Unrounded.{Unrounded}
use Rattle.ae_bound_blocks.specs.declared.given.Given.{Given}
use Rattle.ae_bound_blocks.specs.Said.{was, HasNumbers, IsBuiltLine, IsGiven}
use Rattle.ae_inequalities.specs.Held.{Held, Fits}
use Rattle.ae_inequalities.proofs.Sources.{name_at}

module _ (ts us : List Term) (keeps : Keeps ts us) where
  same_name : (sig : Signature) (real : Bool) (n : ℕ) → IsNumberName sig ts real n → named us n ≡ named ts n
  same_name sig real n h = ap (λ o. or_else o (Bound 0)) (keeps n (named ts n) (name_at sig ts real n h))

  same_sum : (f g : Term → ℚ) → ((t : Term) → f t ≡ g t) → (ps : List Part) (d : _) → AllByRecursion (λ (p : Part). named us p.key ≡ named ts p.key) ps
      → sum_of (λ k. f (named us k)) (map (λ (p : Part). (p.key, ratio p.factor d)) ps) ≡ sum_of (λ k. f (named ts k)) (map (λ (p : Part). (p.key, ratio p.factor d)) ps)
  same_sum f g e [] d a = refl
  same_sum f g e (p ∷ ps) d a = (λ i. ratio p.factor d *ℚ f (a.0 i) +ℚ same_sum f g e ps d a.1 i)

  says_more : (m : _) (l : Lin) (fact : Fact) → AllByRecursion (λ (p : Part). named us p.key ≡ named ts p.key) l.parts → Says (named ts) m (meaning l) fact → Says (named us) m (meaning l) fact
  says_more m l fact a s = record {
    positive = s.positive;
    factors = λ t. s.factors t ∙ ap (λ x. whole m *ℚ (x +ℚ zero_ℚ *ℚ (meaning l).constant)) (sym (same_sum (λ u. factor_of (form u) t) (λ u. factor_of (form u) t) (λ u. refl) l.parts l.den a));
    constants = s.constants ∙ ap (λ x. whole m *ℚ (x +ℚ one_ℚ *ℚ (meaning l).constant)) (sym (same_sum (λ u. (form u).constant) (λ u. (form u).constant) (λ u. refl) l.parts l.den a));
  }

  -- ---- terms that are built of the names
  contains_more : (u : Term) → Contains ts u → Contains us u
  contains_more u c = contains_at us c.0 u (keeps c.0 u (slice_get-get_or ts c.0 u c.1 ∙ ap (λ (t : Term). Some t) c.2))

  integers_more : (sig : Signature) → HasIntegers sig ts → HasIntegers sig us
  integers_more sig i = (i.0, i.1, keeps i.0 i.1 i.2, i.3)

  numbers_more : (sig : Signature) (real : Bool) → HasNumbers sig ts real → HasNumbers sig us real
  numbers_more sig real (inl e) = inl e
  numbers_more sig real (inr i) = inr (integers_more sig i)

  built_more : (sig : Signature) (u : Term) → IsBuilt sig ts u → IsBuilt sig us u
  built_more sig _ (of_name u c) = of_name u (contains_more u c)
  built_more sig _ (of_number u real z e o) = of_number u real z e (numbers_more sig real o)
  built_more sig _ (of_product u real z t e c) = of_product u real z t e (contains_more t c)
  built_more sig _ (of_sum u real s t e a b) = of_sum u real s t e (built_more sig s a) (built_more sig t b)
  built_more sig _ (of_symbol u k ss s t e ac h a b) =
      of_symbol u k ss s t e ac (record { name = h.name; arguments = h.arguments; there = keeps h.name (Apply (head.Symbol k) ss h.arguments) h.there }) (built_more sig s a) (built_more sig t b)
  built_more sig _ (of_unplain u h ss s t e n a b) = of_unplain u h ss s t e (n.0, n.1, keeps n.0 n.1 n.2, n.3) (built_more sig s a) (built_more sig t b)

  line_more : (sig : Signature) (l : EqLine) → IsBuiltLine sig ts l → IsBuiltLine sig us l
  line_more sig l b = record { left = built_more sig (states l).left b.left; right = built_more sig (states l).right b.right; factors = b.factors }

  given_more : (sig : Signature) (real : Bool) (u : Unrounded) (g : Given) → IsGiven sig ts real u g → IsGiven sig us real u g
  given_more sig real u g h =
      let names = all_weaker (λ (p : Part). IsNumberName sig ts real p.key) (λ (p : Part). named us p.key ≡ named ts p.key) (λ p n. same_name sig real p.key n) u.lin.parts h.numbers in
      record {
        allowed = h.allowed;
        front = h.front;
        last = h.last;
        lines = h.lines;
        relation = h.relation;
        says = says_more g.multiple u.lin (states h.last) names h.says;
        sorted = h.sorted;
        numbers = all_weaker (λ (p : Part). IsNumberName sig ts real p.key) (λ (p : Part). IsNumberName sig us real p.key) (λ p n. ap (sort_of sig) (same_name sig real p.key n) ∙ n) u.lin.parts h.numbers;
        integers = numbers_more sig real h.integers;
        fits = h.fits;
        built = all_weaker (IsBuiltLine sig ts) (IsBuiltLine sig us) (line_more sig) g.deriv.lines h.built;
      }

pub more_fit : (a b : Stored) (held : Held) → Extends a b → Fits a held → Fits b held
more_fit a b held e f = record {
  given = λ r tag c o.
      let g = f.given r tag c o in
      (g.0, g.1, subst (λ (sig : Signature). IsGiven sig (terms_in b) (g.0).real (was r) g.0) (sym e.signature) (given_more (terms_in a) (terms_in b) e.keeps a.signature (g.0).real (was r) g.0 g.2), g.3);
  opaque = λ n w.
      let g = f.given w.row w.tag w.among w.from in
      let same : named (terms_in b) n ≡ named (terms_in a) n =
      subst (λ k. named (terms_in b) k ≡ named (terms_in a) k) w.is
      (same_name (terms_in a) (terms_in b) e.keeps a.signature (g.0).real w.part.key (all_contained (λ (p : Part). IsNumberName a.signature (terms_in a) (g.0).real p.key) (was w.row).lin.parts w.part (g.2).numbers w.in_row)) in
      ap form same ∙ f.opaque n w ∙ ap single (sym same);
}
