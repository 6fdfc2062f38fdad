-- Steps that are allowed.
use Rattle.std.specs.Prelude.{ℕ, ◌<◌, ◌≤◌, ◌≡◌, true, List, [], ◌∷◌, ◌++◌, map, length, slice_get, Option, Some}
use Rattle.std.specs.List.{AllByRecursion}
use Rattle.std.proofs.Common.{refl, sym, ap, ◌∙◌, subst, arith}
use Rattle.ae_base.specs.Options.{◌>>=◌, known}
use Rattle.ae_base.proofs.AllOf.{all_front, all_back}
use Rattle.ae_base.proofs.ListFacts.{get_map}
use Rattle.ae_core.proofs.SortFacts.{same_known_is, same_known_of}
use Rattle.ae_core.specs.Sorts.{sort_of}
use Rattle.ae_core.specs.declared.terms.Term.{Term, Apply}
use Rattle.ae_core.specs.declared.problems.Signature.{Signature}
use Rattle.ae_core.specs.declared.problems.AcSymbol.{AcSymbol}
use Rattle.ae_core.specs.declared.proofs.EqLine.{EqLine}
use Rattle.ae_multiset.specs.Multisets.{IsSame}
use Rattle.ae_rules.specs.Lines.{Fact, equal, states, Stated}
use Rattle.ae_store.specs.Terms.{named}
use Rattle.ae_just.specs.declared.steps.Side.{Side}
use Rattle.ae_just.specs.declared.steps.Side.TheVariants as side
use Rattle.ae_just.specs.declared.steps.Rule.{Rule}
use Rattle.ae_just.specs.declared.steps.Rule.TheVariants as rule
use Rattle.ae_just.specs.declared.steps.Step.{Step}
use Rattle.ae_just.specs.Sides.{side_term}
use Rattle.ae_just.specs.Steps.{Fits, IsAllowedStep, IsOfNames, IsStepOfNames, IsSymbolOfNames, fact_of, own_line, line_by}
use Rattle.ae_state_steps.specs.ManySteps.{IsOfSort, StatesMany, StatesNames, NameStep, ExtendStep, OrderStep}
use Rattle.ae_multiset_steps.specs.Equating.{AreNamesOf}
use Rattle.ae_multiset_steps.specs.Inner.Longer.{IsLonger}
use Rattle.ae_multiset_steps.proofs.Lists.{same_one}

line_states : (l r : Term) (by : Rule) → states (line_by 0 l r by) ≡ equal l r
line_states l r (rule.Hyp tag) = refl
line_states l r rule.Refl = refl
line_states l r (rule.Sym k) = refl
line_states l r (rule.Trans j k) = refl
line_states l r (rule.Cong ks) = refl
line_states l r rule.Ac = refl
line_states l r (rule.Lin d ps) = refl
line_states l r rule.Field = refl
line_states l r (rule.Fields ks) = refl

-- what a step that stands states
stated : (ts : List Term) (steps : List Step) (id : ℕ) (s : Step) → slice_get steps id ≡ Some s → Stated (map (own_line ts) steps) id (fact_of ts s)
stated ts steps id s e =
    ap (λ (o : Option EqLine). o >>= λ l. Some (states l)) (get_map (own_line ts) steps id s e) ∙ ap (λ (f : Fact). Some f) (line_states (side_term ts s.left) (side_term ts s.right) s.rule)

pub sides_allowed : (sig : Signature) (ts : List Term) (steps : List Step) (u : AcSymbol) (xs ys : List ℕ) (by : Rule) (l r : Side) → l ≡ side.Many u xs → r ≡ side.Many u ys
    → IsAllowedStep sig ts steps (record { left = side.Many u xs; right = side.Many u ys; rule = by }) → IsAllowedStep sig ts steps (record { left = l; right = r; rule = by })
sides_allowed sig ts steps u xs ys by l r e f a =
    subst (λ (z : Side). IsAllowedStep sig ts steps (record { left = z; right = r; rule = by })) (sym e)
    (subst (λ (z : Side). IsAllowedStep sig ts steps (record { left = side.Many u xs; right = z; rule = by })) (sym f) a)

pub sides_of_names : (sig : Signature) (ts : List Term) (u : AcSymbol) (xs ys : List ℕ) (by : Rule) (l r : Side) → l ≡ side.Many u xs → r ≡ side.Many u ys → IsSymbolOfNames sig ts u.head u.sorts
    → IsStepOfNames sig ts (record { left = l; right = r; rule = by })
sides_of_names sig ts u xs ys by l r e f h = (subst (IsOfNames sig ts) (sym e) h, subst (IsOfNames sig ts) (sym f) h)

-- the symbol of a step that stands
pub symbol_of : (sig : Signature) (ts : List Term) (steps : List Step) → Fits sig ts steps → (id : ℕ) (u : AcSymbol) (xs ys : List ℕ) → StatesMany steps id u xs ys → IsSymbolOfNames sig ts u.head u.sorts
symbol_of sig ts steps fits id u xs ys s = (fits.built.each id (record { left = side.Many u xs; right = side.Many u ys; rule = s.by }) s.there).0

pub itself_step : (sig : Signature) (ts : List Term) (steps : List Step) (n : ℕ) → known (sort_of sig (named ts n)) ≡ true
    → IsAllowedStep sig ts steps (record { left = side.Name n; right = side.Name n; rule = rule.Refl })
itself_step sig ts steps n k = record { sorted = same_known_of (sort_of sig (named ts n)) (sort_of sig (named ts n)) k refl; allowed = refl }

-- ---- steps by their own rule
module _ (sig : Signature) (ts : List Term) (steps : List Step) (u : AcSymbol) where
  -- the same names in another order: one name is itself, more are by the rule of AC symbols
  pub one_step : (xs ys : List ℕ) → AreNamesOf sig ts u (xs ++ ys) → IsSame xs ys → 0 < length xs → length xs < 2
      → IsAllowedStep sig ts steps (record { left = side.Many u xs; right = side.Many u ys; rule = rule.Refl })
  one_step [] ys a s some one = absurd (omega (arith, some))
  one_step (x ∷ []) ys a s some one =
      let e = same_one x ys s in
      record {
        sorted = same_known_of (sort_of sig (named ts x)) (sort_of sig (side_term ts (side.Many u ys))) (ap known a.sorted.0) (ap (λ (l : List ℕ). sort_of sig (side_term ts (side.Many u l))) e);
        allowed = ap (λ (l : List ℕ). side_term ts (side.Many u l)) e;
      }
  one_step (x ∷ y ∷ xs) ys a s some one = absurd (omega (arith, one))

  pub order_step : OrderStep → (xs ys : List ℕ) → AreNamesOf sig ts u (xs ++ ys) → IsSame xs ys → 2 ≤ length xs
      → IsAllowedStep sig ts steps (record { left = side.Many u xs; right = side.Many u ys; rule = rule.Ac })
  order_step law xs ys a s two = law sig ts steps u a.sort xs ys a.symbol (all_front (IsOfSort sig ts a.sort) xs ys a.sorted) (all_back (IsOfSort sig ts a.sort) xs ys a.sorted) s two

  -- the two arguments of a name
  pub arguments_step : NameStep → (a b n : ℕ) → AreNamesOf sig ts u (n ∷ []) → named ts n ≡ Apply u.head u.sorts (named ts a ∷ named ts b ∷ [])
      → IsAllowedStep sig ts steps (record { left = side.Many u (a ∷ b ∷ []); right = side.Many u (n ∷ []); rule = rule.Refl })
  arguments_step law a b n names e = let h = law sig ts steps u names.sort a b n names.sorted.0 e in record { sorted = h.sorted; allowed = h.allowed }

  -- one name more each
  pub longer_step : ExtendStep → (left right : List ℕ) (many names : ℕ) (ps : List ℕ) → ps ≡ many ∷ names ∷ [] → AreNamesOf sig ts u (left ++ right) → IsLonger steps u left right many names
      → IsAllowedStep sig ts steps (record { left = side.Many u left; right = side.Many u right; rule = rule.Cong ps })
  longer_step law left right many names ps e a l =
      let P = IsOfSort sig ts a.sort in
      let all_left = subst (λ (zs : List ℕ). AllByRecursion P zs) l.left_is (all_front P left right a.sorted) in
      let all_right = subst (λ (zs : List ℕ). AllByRecursion P zs) l.right_is (all_back P left right a.sorted) in
      let h = law sig ts steps u a.sort l.xs l.ys l.x l.y many names a.symbol all_left all_right l.left_some l.right_some l.lists l.lasts in
      subst (λ (qs : List ℕ). IsAllowedStep sig ts steps (record { left = side.Many u left; right = side.Many u right; rule = rule.Cong qs })) (sym e)
      (subst (λ (zs : List ℕ). IsAllowedStep sig ts steps (record { left = side.Many u zs; right = side.Many u right; rule = rule.Cong (many ∷ names ∷ []) })) (sym l.left_is)
      (subst (λ (zs : List ℕ). IsAllowedStep sig ts steps (record { left = side.Many u (l.xs ++ l.x ∷ []); right = side.Many u zs; rule = rule.Cong (many ∷ names ∷ []) })) (sym l.right_is) h))

-- ---- steps by earlier ones
module _ (sig : Signature) (ts : List Term) (steps : List Step) (u : AcSymbol) (fits : Fits sig ts steps) where
  pub chain_step : (xs ms ys : List ℕ) (first second : ℕ) → StatesMany steps first u xs ms → StatesMany steps second u ms ys
      → IsAllowedStep sig ts steps (record { left = side.Many u xs; right = side.Many u ys; rule = rule.Trans first second })
  chain_step xs ms ys first second a b =
      let s : Step = record { left = side.Many u xs; right = side.Many u ms; rule = a.by } in
      let t : Step = record { left = side.Many u ms; right = side.Many u ys; rule = b.by } in
      let x = side_term ts (side.Many u xs) in
      let m = side_term ts (side.Many u ms) in
      let y = side_term ts (side.Many u ys) in
      let p = same_known_is (sort_of sig x) (sort_of sig m) (fits.allowed.each first s a.there).sorted in
      let q = same_known_is (sort_of sig m) (sort_of sig y) (fits.allowed.each second t b.there).sorted in
      record { sorted = same_known_of (sort_of sig x) (sort_of sig y) p.0 (p.1 ∙ q.1); allowed = (m, stated ts steps first s a.there, stated ts steps second t b.there) }

  pub turn_step : (xs ys : List ℕ) (id : ℕ) → StatesMany steps id u ys xs → IsAllowedStep sig ts steps (record { left = side.Many u xs; right = side.Many u ys; rule = rule.Sym id })
  turn_step xs ys id a =
      let s : Step = record { left = side.Many u ys; right = side.Many u xs; rule = a.by } in
      let x = side_term ts (side.Many u xs) in
      let y = side_term ts (side.Many u ys) in
      let p = same_known_is (sort_of sig y) (sort_of sig x) (fits.allowed.each id s a.there).sorted in
      record { sorted = same_known_of (sort_of sig x) (sort_of sig y) (ap known (sym p.1) ∙ p.0) (sym p.1); allowed = stated ts steps id s a.there }

  -- two names that are multisets of their own
  pub single_step : (x y names same : ℕ) → StatesNames steps names x y → StatesNames steps same y y
      → IsAllowedStep sig ts steps (record { left = side.Many u (x ∷ []); right = side.Many u (y ∷ []); rule = rule.Trans names same })
  single_step x y names same a b =
      let s : Step = record { left = side.Name x; right = side.Name y; rule = a.by } in
      let t : Step = record { left = side.Name y; right = side.Name y; rule = b.by } in
      record { sorted = (fits.allowed.each names s a.there).sorted; allowed = (named ts y, stated ts steps names s a.there, stated ts steps same t b.there) }
