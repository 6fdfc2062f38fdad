-- Two rules that are paired: their line, and the equation of their overlap, which waits then.
use Rattle.std.specs.Prelude.{ℕ, ◌+◌, ◌<◌, ◌⊎◌, ◌≡◌, ◌≢◌, List, [], ◌∷◌, ◌++◌, map, Option, Some, None}
use Rattle.std.specs.List.{Contains}
use Rattle.std.proofs.Common.{refl, sym, ap, ◌∙◌, subst, arith, inl, inr}
use Rattle.std.proofs.lemmas.List.{append_cancel_left, map-append}
use Rattle.std.proofs.lemmas.Option.{none-some}
use Rattle.std.proofs.lemmas.List.Elements.{Contains-append_cases, Contains-append_left, Contains-append_right}
use Rattle.ae_core.specs.declared.problems.AcSymbol.{AcSymbol}
use Rattle.ae_core.specs.declared.problems.Signature.{Signature}
use Rattle.ae_core.specs.declared.terms.Term.{Term}
use Rattle.ae_descents.specs.Descents.Descends.{itself}
use Rattle.ae_descents.proofs.Descending.{descends_inside, to_same}
use Rattle.ae_equations.specs.Held.{Contents as Equations}
use Rattle.ae_equations.specs.Paired.{partners}
use Rattle.ae_equations.specs.Queued.{waiting}
use Rattle.ae_equations.specs.declared.queue.Waiting.{Waiting}
use Rattle.ae_journal.specs.Journals.{live, counted_in}
use Rattle.ae_journal.specs.Legal.{AreLegal}
use Rattle.ae_journal.specs.Noted.{Noted}
use Rattle.ae_journal.specs.RuleLines.{WasNoted, IsPaired, MayPair}
use Rattle.ae_journal.specs.Standing.{Setting}
use Rattle.ae_journal.specs.declared.lines.Line.{Line}
use Rattle.ae_journal.specs.declared.lines.Line.TheVariants as line
use Rattle.ae_journal.specs.declared.systems.RuleEntry.{RuleEntry}
use Rattle.ae_just.specs.declared.steps.Step.{Step}
use Rattle.ae_journal.proofs.Counting.{counted_push}
use Rattle.ae_journal.proofs.Living.{live_push}
use Rattle.ae_journal.proofs.Splits.{contains_here, contains_one}
use Rattle.ae_monoid.specs.Equations.{IsOverlap, AreApart}
use Rattle.ae_monoid.specs.Rules.{AreRules}
use Rattle.ae_monoid.specs.declared.pending.PendingPair.{PendingPair}
use Rattle.ae_monoid.specs.declared.rules.Kept.{Kept}
use Rattle.ae_multiset.specs.Multisets.{minus, common}
use Rattle.ae_multiset.proofs.Counts.{back, same}
use Rattle.ae_name_lines.proofs.Solving.{other_lines_keep_step, other_lines_solve_nothing}
use Rattle.ae_rule_changes.proofs.TakenOut.{rising_sides}
use Rattle.ae_rule_changes.proofs.Turned.{noted_paired}
use Rattle.ae_rule_lines.specs.Changes.{overlap_of, HasNewSides}
use Rattle.ae_rule_lines.specs.InStep.{AreRulesInStep, HasSource, IsLeftOf, Waiting as Equation}
use Rattle.ae_rule_lines.specs.Lineage.{HadRepresentative, DescendsIn, IsSourceOf}
use Rattle.ae_rule_lines.specs.Lineage.IsSourceOf.{of_pair}
use Rattle.ae_rule_lines.proofs.Coupled.{pairs_keep}
use Rattle.ae_rule_lines.proofs.Legality.{rules_paired}
use Rattle.ae_rule_lines.proofs.LiveLines.{live_once, noted_of}
use Rattle.ae_rule_lines.proofs.NewSides.{new_sides_keep}
use Rattle.ae_sweeps.specs.Given.{entries_of, entry_of}
use Rattle.ae_theory.specs.Noting.{is_theory_line, HasNoted, NotesLegal}
use Rattle.ae_state.specs.declared.holding.Holding.{Holding}
use Rattle.ae_state.specs.Names.{terms_now}
use Rattle.ae_state.specs.Stepping.{equation, equations_now, paired_now, IsInStep}
use Rattle.ae_turns.proofs.DroppedRules.{with_equations, entries_are, kept_in}
use Rattle.ae_value_table.specs.Table.{values}
use Rattle.ae_gaps.specs.Inner.Overlapping.{AreUnpaired, ArePairedOrApart, AreNotPairedInOrder, AreApartOrInOrder, IsOverlapSaid, IsLineOf}

-- ---- the rules of an overlap
module _ (kept : ℕ → Option Kept) (m n : ℕ) (pair : PendingPair) (o : IsOverlap (kept m) (kept n) pair) where
  abbrev pub the_line : Line
  the_line = line.Pair (o.first).entry.symbol (o.first).entry.left (o.second).entry.left

  -- the sides of their equation, without the step
  abbrev pub sides : Equation
  sides = record { symbol = pair.symbol; left = pair.left; right = pair.right }

  pub new_sides : (sig : Signature) (ts : List Term) (js : List Line) → HasNewSides sig ts js (overlap_of (o.first).entry (o.second).entry) sides
  new_sides sig ts js = record { symbol = (o.deduced).symbol; left = itself (back (o.deduced).left); right = itself (back (o.deduced).right) }

-- ---- one line
module _ (j k : Noted) (l : Line) (made : k ≡ record j { lines = j.lines ++ l ∷ [] }) where
  pub pair_noted : (u : AcSymbol) (a b : List ℕ) → l ≡ line.Pair u a b → HasNoted j k
  pair_noted u a b e = record { added = l ∷ []; is = ap (λ (z : Noted). z.lines) made; limit = ap (λ (z : Noted). z.limit) made; theory = (ap is_theory_line e, tt) }

  pub pair_legal : (x : Setting) (bound : ℕ) (u : AcSymbol) (a b : List ℕ) → l ≡ line.Pair u a b → MayPair j.lines u a b → NotesLegal x bound j.lines k.lines
  pair_legal x bound u a b e may added f =
      let all : AreLegal x bound j.lines (line.Pair u a b ∷ []) = (may, tt) in
      let one : l ∷ [] ≡ added = append_cancel_left j.lines (l ∷ []) added (sym (ap (λ (z : Noted). z.lines) made) ∙ f) in
      subst (AreLegal x bound j.lines) one (subst (λ (z : Line). AreLegal x bound j.lines (z ∷ [])) (sym e) all)

  pub pair_live : (u : AcSymbol) (a b : List ℕ) → l ≡ line.Pair u a b → live k.lines ≡ live j.lines ++ line.Pair u a b ∷ []
  pair_live u a b e = ap (λ (z : Noted). live z.lines) made ∙ ap (λ (z : Line). live (j.lines ++ z ∷ [])) e ∙ live_push j.lines (line.Pair u a b)

  pub pair_counted : (u : AcSymbol) (a b : List ℕ) → l ≡ line.Pair u a b → counted_in j.lines < counted_in k.lines
  pair_counted u a b e =
      let c : counted_in (j.lines ++ line.Pair u a b ∷ []) ≡ counted_in j.lines + 1 = counted_push j.lines (line.Pair u a b) in
      let d : counted_in k.lines ≡ counted_in (j.lines ++ line.Pair u a b ∷ []) = ap (λ (z : Noted). counted_in z.lines) made ∙ ap (λ (z : Line). counted_in (j.lines ++ z ∷ [])) e in
      omega (arith, c, d)

-- ---- what is held, with the two rules paired
module _ (o : Holding) (m n : ℕ) (before : m < n) (un : AreUnpaired (kept_in o.equations) (paired_now o) m n) where
  abbrev over : IsOverlap (kept_in o.equations m) (kept_in o.equations n) un.pair
  over = un.overlap

  abbrev d : RuleEntry
  d = (over.first).entry

  abbrev e : RuleEntry
  e = (over.second).entry

  first_there : entries_of o.equations.rules m ≡ Some d
  first_there = ap entry_of over.first_there

  second_there : entries_of o.equations.rules n ≡ Some e
  second_there = ap entry_of over.second_there

  apart : m ≢ n
  apart q = omega (arith, before, q)

  -- the line may come
  pub may_pair : AreRules (kept_in o.equations) o.equations.rules.next → (js : List Line) → IsInStep o (live js) → MayPair js d.symbol d.left e.left
  may_pair are js step =
      rules_paired o.signature (terms_now o) js (entries_of o.equations.rules) (paired_now o) (equations_now o) m n (over.deduced).shared d e step.ruled
      (rising_sides (kept_in o.equations) (entries_of o.equations.rules) o.equations.rules.next are (entries_are o.equations)) first_there second_there apart over.same (over.deduced).in_first (over.deduced).in_second un.unpaired

  module _ (f : Equations) (w : Waiting) (symbol : w.symbol ≡ (un.pair).symbol) (left : w.left ≡ (un.pair).left) (right : w.right ≡ (un.pair).right) (rules : f.rules ≡ o.equations.rules)
      (queue : waiting f.queue ≡ waiting o.equations.queue ++ w ∷ []) (paired : partners f.pairs m ≡ n ∷ partners o.equations.pairs m)
      (others : (k : ℕ) → k ≢ m → partners f.pairs k ≡ partners o.equations.pairs k) (js : List Line) where
    abbrev The : Line
    The = line.Pair d.symbol d.left e.left

    abbrev paired_then : ℕ → List ℕ
    paired_then k = partners f.pairs k

    coupled_ruled : IsInStep o js → AreRulesInStep o.signature (terms_now o) (js ++ The ∷ []) (entries_of o.equations.rules) paired_then (equations_now o ++ overlap_of d e ∷ [])
    coupled_ruled step =
        pairs_keep o.signature (terms_now o) js (entries_of o.equations.rules) (paired_now o) paired_then (equations_now o) m n d e first_there second_there over.same (noted_paired m n (paired_now o) paired_then paired others)
        step.ruled

    its_sides : HasNewSides o.signature (terms_now o) (js ++ The ∷ []) (overlap_of d e) (equation w)
    its_sides =
        subst (HasNewSides o.signature (terms_now o) (js ++ The ∷ []) (overlap_of d e)) (λ i. record { symbol = sym symbol i; left = sym left i; right = sym right i })
        (new_sides (kept_in o.equations) m n un.pair over o.signature (terms_now o) (js ++ The ∷ []))

    came : (v : Equation) → Contains (equations_now o) v ⊎ Contains (equation w ∷ []) v → (u : Equation) × Contains (equations_now o ++ overlap_of d e ∷ []) u × HasNewSides o.signature (terms_now o) (js ++ The ∷ []) u v
    came v (inl c) = (v, Contains-append_left (equations_now o) (overlap_of d e ∷ []) v c, record { symbol = refl; left = itself (same v.left); right = itself (same v.right) })
    came v (inr c) = (
      overlap_of d e,
      Contains-append_right (equations_now o) (overlap_of d e ∷ []) (overlap_of d e) (contains_here (overlap_of d e) []),
      subst (HasNewSides o.signature (terms_now o) (js ++ The ∷ []) (overlap_of d e)) (contains_one (equation w) v c) its_sides,
    )

    coupled_then : IsInStep o js → AreRulesInStep o.signature (terms_now o) (js ++ The ∷ []) (entries_of o.equations.rules) paired_then (equations_now o ++ equation w ∷ [])
    coupled_then step =
        new_sides_keep o.signature (terms_now o) (js ++ The ∷ []) (entries_of o.equations.rules) paired_then (equations_now o ++ overlap_of d e ∷ []) (equations_now o ++ equation w ∷ [])
        (λ v c. came v (Contains-append_cases (equations_now o) (equation w ∷ []) v c)) (coupled_ruled step)

    pub step_coupled : IsInStep o js → IsInStep (with_equations o f) (js ++ The ∷ [])
    step_coupled step =
        record {
          valued = other_lines_keep_step o.signature (terms_now o) (values o.values) js The refl step.valued;
          solved = other_lines_solve_nothing o.values.taken js The refl step.solved;
          ruled =
              subst (λ (z : (ℕ → Option RuleEntry) × List Equation). AreRulesInStep o.signature (terms_now o) (js ++ The ∷ []) z.0 paired_then z.1)
              (sym (λ i. ((λ k. entries_of (rules i) k), (ap (map equation) queue ∙ map-append equation (waiting o.equations.queue) (w ∷ [])) i))) (coupled_then step);
        }

-- ---- the overlap of two rules that were paired in this order has a source
paired_source : (sig : Signature) (ts : List Term) (js : List Line) (rules : ℕ → Option RuleEntry) (paired : ℕ → List ℕ) (waiting : List Equation) → AreRulesInStep sig ts js rules paired waiting
    → (m n : ℕ) (d e : RuleEntry) → rules m ≡ Some d → rules n ≡ Some e → d.symbol ≡ e.symbol → Contains (live js) (line.Pair d.symbol d.left e.left) → HasSource sig ts js (overlap_of d e)
paired_source sig ts js rules paired waiting i m n d e f g one c =
    let p = i.standing m d f in
    let q = i.standing n e g in
    let noted : WasNoted js d.symbol e.left q.right = subst (λ (u : AcSymbol). WasNoted js u e.left q.right) (sym one) (noted_of js e.symbol e.left q.right q.stands) in
    let down : DescendsIn sig ts js d.symbol q.right e.right = subst (λ (u : AcSymbol). DescendsIn sig ts js u q.right e.right) (sym one) q.descends in
    let had = HadRepresentative sig ts js in
    let by = WasNoted js d.symbol in
    record {
      one = p.right ++ minus e.left (common d.left e.left);
      other = q.right ++ minus d.left (common d.left e.left);
      source = of_pair d.left e.left p.right q.right c (noted_of js d.symbol d.left p.right p.stands) noted;
      left = descends_inside had by (minus e.left (common d.left e.left)) p.descends;
      right = descends_inside had by (minus d.left (common d.left e.left)) down;
    }

module _ (o : Holding) (js : List Line) (step : IsInStep o (live js)) (m n : ℕ) where
  -- where they overlap, in the words of their equation
  pub overlap_source : (sig : Signature) (ts : List Term) (old new : List Step) (w : Waiting) → AreApartOrInOrder (kept_in o.equations) js m n → IsOverlapSaid sig ts old new (kept_in o.equations) m n w
      → HasSource o.signature (terms_now o) (live js) (equation w)
  overlap_source sig ts old new w (inl a) s =
      let over = s.overlap in
      absurd (a over.first over.second over.first_there over.second_there over.same (over.deduced).shared (over.deduced).in_first (over.deduced).in_second)
  overlap_source sig ts old new w (inr h) s =
      let over = s.overlap in
      let d = (over.first).entry in
      let e = (over.second).entry in
      let there : Contains (live (live js)) (line.Pair d.symbol d.left e.left) =
      subst (λ (ls : List Line). Contains ls (line.Pair d.symbol d.left e.left)) (sym (live_once js)) (h over.first over.second over.first_there over.second_there over.same) in
      let at : HasSource o.signature (terms_now o) (live js) (overlap_of d e) =
      paired_source o.signature (terms_now o) (live js) (entries_of o.equations.rules) (paired_now o) (equations_now o) step.ruled m n d e (ap entry_of over.first_there) (ap entry_of over.second_there) over.same there in
      record {
        one = at.one;
        other = at.other;
        source = subst (λ (u : AcSymbol). IsSourceOf o.signature (terms_now o) (live js) u at.one at.other) (sym (s.symbol ∙ (over.deduced).symbol)) at.source;
        left =
            subst (λ (z : AcSymbol × List ℕ). DescendsIn o.signature (terms_now o) (live js) z.0 at.one z.1) (λ i. (sym (s.symbol ∙ (over.deduced).symbol) i, sym s.left i))
            (to_same (HadRepresentative o.signature (terms_now o) (live js)) (WasNoted (live js) d.symbol) at.left (back (over.deduced).left));
        right =
            subst (λ (z : AcSymbol × List ℕ). DescendsIn o.signature (terms_now o) (live js) z.0 at.other z.1) (λ i. (sym (s.symbol ∙ (over.deduced).symbol) i, sym s.right i))
            (to_same (HadRepresentative o.signature (terms_now o) (live js)) (WasNoted (live js) d.symbol) at.right (back (over.deduced).right));
      }

  -- two rules that were paired, though not in this order, were paired in the other one
  is_left : (k : Kept) (i : ℕ) → kept_in o.equations i ≡ Some k → (u : AcSymbol) → k.entry.symbol ≡ u → IsLeftOf (entries_of o.equations.rules) u k.entry.left i
  is_left k i t u s = record { rule = k.entry; there = ap entry_of t; symbol = s; left = refl }

  in_lines : (ls before after : List Line) (x : Line) → ls ≡ before ++ x ∷ after → Contains ls x
  in_lines ls before after x e = subst (λ (z : List Line). Contains z x) (sym e) (Contains-append_right before (x ∷ after) x (contains_here x after))

  by_order : (d e : Kept) → d.entry.symbol ≡ e.entry.symbol → (IsLineOf js d e → ⊥) → IsPaired (live js) d.entry.symbol d.entry.left e.entry.left → IsLineOf js e d
  by_order d e s none p =
      elim p.is as (λ _. IsLineOf js e d) [
        | inl h ↦ absurd (none (subst (λ (ls : List Line). Contains ls (line.Pair d.entry.symbol d.entry.left e.entry.left)) (live_once js) (in_lines (live (live js)) p.before p.after _ h)))
        | inr h ↦ subst (λ (z : List Line × AcSymbol). Contains z.0 (line.Pair z.1 e.entry.left d.entry.left)) (λ i. (live_once js i, s i)) (in_lines (live (live js)) p.before p.after _ h)
      ]

  pub paired_turned : ArePairedOrApart (kept_in o.equations) (paired_now o) m n → AreNotPairedInOrder (kept_in o.equations) js m n → AreApartOrInOrder (kept_in o.equations) js n m
  paired_turned (inr a) none = inl (λ p q f g s x h k. a q p g f (sym s) x k h)
  paired_turned (inl h) none = inr both
    where
      both : (e d : Kept) → kept_in o.equations n ≡ Some e → kept_in o.equations m ≡ Some d → e.entry.symbol ≡ d.entry.symbol → IsLineOf js e d
      both e d g f s =
          by_order d e (sym s) (none d e f g)
          (((step.ruled).pairs d.entry.symbol d.entry.left e.entry.left).1
          (record { first = m; second = n; first_is = is_left d m f d.entry.symbol refl; second_is = is_left e n g d.entry.symbol s; are_paired = h }))

-- ---- rules that overlap aren't apart
pub overlap_not_apart : (o u : Option Kept) (pair : PendingPair) → IsOverlap o u pair → AreApart o u → ⊥
overlap_not_apart o u pair v a = a v.first v.second v.first_there v.second_there v.same (v.deduced).shared (v.deduced).in_first (v.deduced).in_second

pub first_stands : (o u : Option Kept) (pair : PendingPair) → IsOverlap o u pair → o ≡ None → ⊥
first_stands o u pair v e = none-some v.first (sym e ∙ v.first_there)

pub second_stands : (o u : Option Kept) (pair : PendingPair) → IsOverlap o u pair → u ≡ None → ⊥
second_stands o u pair v e = none-some v.second (sym e ∙ v.second_there)
