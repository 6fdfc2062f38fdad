-- The symbols of the rules of a legal journal head names, so they have the sorts that they take.
use Rattle.std.specs.Prelude.{ℕ, Bool, true, false, ◌&&◌, nat_eq, List, [], ◌∷◌, ◌++◌, ◌≡◌, map, length, slice_get, Option, Some, None}
use Rattle.std.specs.List.{AllByRecursion, flat_map, list_all}
use Rattle.std.proofs.Common.{refl, sym, ap, ◌∙◌, subst, true≢false, inl, inr}
use Rattle.std.proofs.lemmas.Bool.{and_parts, eqb-true}
use Rattle.ae_base.specs.Options.{or_else, ◌>>=◌, only, all_known}
use Rattle.ae_base.proofs.AllOf.{all_at, all_back, all_front, all_push}
use Rattle.ae_base.proofs.Decided.{decided_yes}
use Rattle.ae_base.proofs.Options.{bind_some, only_some, when_some}
use Rattle.ae_core.specs.Decided.{Sorts_discrete}
use Rattle.ae_core.specs.Putting.{put_sort}
use Rattle.ae_core.specs.Sorts.{is_closed_sort, sort_in, head_sort, symbol_sort, same_sorts, operands, on_real, predicate_ok, predicate_fits}
use Rattle.ae_core.specs.declared.problems.AcSymbol.{AcSymbol}
use Rattle.ae_core.specs.declared.problems.Signature.{Signature}
use Rattle.ae_core.specs.declared.problems.SymbolEntry.{SymbolEntry}
use Rattle.ae_core.specs.declared.terms.Head.{Head}
use Rattle.ae_core.specs.declared.terms.Head.TheVariants as head
use Rattle.ae_core.specs.declared.terms.Op.TheVariants as op
use Rattle.ae_core.specs.declared.terms.Sort.{Sort, Int, Real}
use Rattle.ae_core.specs.declared.terms.Term.{Term, Apply, out-Term}
use Rattle.ae_core.specs.declared.terms.Term.TheOpen as layer
use Rattle.ae_core.specs.declared.terms.Term.TheVariants.{outs-Apply}
use Rattle.ae_core.proofs.ClosedSorts.{applied_is}
use Rattle.ae_core.proofs.Recursion.{fold_apply}
use Rattle.ae_core.proofs.SortLaws.{formula_in_pred}
use Rattle.ae_journal.proofs.Splits.{all_contained}
use Rattle.ae_journal.specs.Journals.{live}
use Rattle.ae_journal.specs.Legal.{IsLegalLine, AreLegal}
use Rattle.ae_journal.specs.RuleLines.{IsStanding, IsSource}
use Rattle.ae_journal.specs.RuleLines.IsSource.{of_name, of_pair, of_drop}
use Rattle.ae_journal.specs.Standing.{Setting}
use Rattle.ae_journal.specs.Systems.{IsJoin}
use Rattle.ae_journal.specs.declared.lines.Line.{Line}
use Rattle.ae_journal.specs.declared.lines.Line.TheVariants as line
use Rattle.ae_journal.specs.declared.lines.Oriented.TheVariants as oriented
use Rattle.ae_legal_states.specs.Writable.{SortsFor, HasSorts}
use Rattle.ae_legal_texts.specs.Numbers.{Number, IsWithin, AreWithin, sort_numbers, term_numbers, term_numbers_step}
use Rattle.ae_rules.specs.Lines.{IsAc}
use Rattle.ae_legal_stories.specs.Writable.{IsSortedName}
use Rattle.ae_legal_stories.proofs.Lasting.{all_live}

-- ---- each symbol heads a name
module _ (x : Setting) where
  abbrev pub HeadsName : AcSymbol → Type 0
  HeadsName u = (n : ℕ) × (a : Term) × (b : Term) × (slice_get x.names n ≡ Some (Apply u.head u.sorts (a ∷ b ∷ []))) × IsJoin x.problem.signature u.head a b

  abbrev pub OfName : Line → Type 0
  OfName (line.Orient (oriented.Rule u l r)) = HeadsName u
  OfName (line.Drop (oriented.Rule u l r)) = HeadsName u
  OfName (line.Pair u l m) = HeadsName u
  OfName _ = Unit {0}

module _ (x : Setting) (bound : ℕ) where
  module _ (js : List Line) (stand : AllByRecursion (OfName x) (live js)) where
    standing_of_name : (u : AcSymbol) (l r : List ℕ) → IsStanding js u l r → HeadsName x u
    standing_of_name u l r s =
        (all_back (OfName x) s.before (line.Orient (oriented.Rule u l r) ∷ s.after) (subst (AllByRecursion (OfName x)) s.is stand)).0

    source_of_name : (u : AcSymbol) (one other : List ℕ) → IsSource x js u one other → HeadsName x u
    source_of_name u _ _ (of_name n i j a b stands join ia ib) = (n, a, b, stands.0, join)
    source_of_name u _ _ (of_pair l m q r c w z) = all_contained (OfName x) (live js) (line.Pair u l m) stand c
    source_of_name u _ _ (of_drop l d r c w) = all_contained (OfName x) (live js) (line.Drop (oriented.Rule u l d)) stand c

    line_of_name : (j : Line) → IsLegalLine x bound js j → OfName x j
    line_of_name (line.Decide l) g = tt
    line_of_name (line.Orient (oriented.Named n v)) g = tt
    line_of_name (line.Orient (oriented.Rule u l r)) g = source_of_name u (g.0).one (g.0).other (g.0).source
    line_of_name (line.Drop (oriented.Named n v)) g = tt
    line_of_name (line.Drop (oriented.Rule u l r)) g = standing_of_name u l (g.0).right (g.0).stands
    line_of_name (line.Pair u l m) g = standing_of_name u l g.first.0 g.first.1
    line_of_name (line.Learn c) g = tt
    line_of_name (line.TypeInstance k ss) g = tt
    line_of_name (line.TermInstance f ts) g = tt
    line_of_name (line.Combine b f) g = tt
    line_of_name (line.Back n) g = tt

  pub lines_of_names : (before js : List Line) → AllByRecursion (OfName x) before → AreLegal x bound before js → AllByRecursion (OfName x) js
  lines_of_names before [] a g = tt
  lines_of_names before (j ∷ js) a g =
      let h = line_of_name before (all_live (OfName x) [] before tt a) j g.0 in
      (h, lines_of_names (before ++ j ∷ []) js (all_push (OfName x) before j a h) g.1)

-- ---- an application of an AC symbol that is well sorted
module _ (sig : Signature) where
  join_ac : (h : Head) (a b : Term) → IsJoin sig h a b → IsAc sig h
  join_ac (head.Symbol n) a b j = j
  join_ac (head.Int op.Mul) a b j = tt
  join_ac (head.Real op.Mul) a b j = tt
  join_ac (head.Int op.Add) a b j = absurd j
  join_ac (head.Int op.Sub) a b j = absurd j
  join_ac (head.Int op.Neg) a b j = absurd j
  join_ac (head.Int op.Div) a b j = absurd j
  join_ac (head.Int op.Mod) a b j = absurd j
  join_ac (head.Real op.Add) a b j = absurd j
  join_ac (head.Real op.Sub) a b j = absurd j
  join_ac (head.Real op.Neg) a b j = absurd j
  join_ac (head.Real op.Div) a b j = absurd j
  join_ac (head.Real op.Mod) a b j = absurd j
  join_ac (head.Build k) a b j = absurd j
  join_ac (head.Field k p) a b j = absurd j
  join_ac head.True a b j = absurd j
  join_ac head.False a b j = absurd j
  join_ac head.Void a b j = absurd j

  no_sorts : (ss : List Sort) → same_sorts ss [] ≡ true → ss ≡ []
  no_sorts ss e = decided_yes (Sorts_discrete ss []) e

  -- the sorts that the head takes
  pub sorts_for : (h : Head) (ss args : List Sort) (s : Sort) → IsAc sig h → head_sort sig h ss args ≡ Some s → SortsFor sig h ss
  sorts_for (head.Symbol n) ss args s a e =
      let b = bind_some (slice_get sig.symbols n) (symbol_sort ss args) s e in
      let fits : Bool = nat_eq (length ss) b.0.vars && same_sorts args (map (put_sort ss) b.0.args) in
      let r = bind_some (only fits b.0.result) (λ r. Some (put_sort ss r)) s b.2 in
      let w = only_some fits b.0.result r.0 r.1 in
      (b.0, b.1, eqb-true (length ss) b.0.vars (and_parts (nat_eq (length ss) b.0.vars) (same_sorts args (map (put_sort ss) b.0.args)) w.0).0)
  sorts_for (head.Int op.Mul) ss args s a e =
      no_sorts ss (and_parts (same_sorts ss []) (same_sorts args (operands op.Mul (Int ∷ []))) (when_some (same_sorts ss [] && same_sorts args (operands op.Mul (Int ∷ []))) Int s e).0).0
  sorts_for (head.Real op.Mul) ss args s a e =
      let w = when_some (on_real op.Mul && same_sorts ss [] && same_sorts args (operands op.Mul (Real ∷ []))) Real s e in
      no_sorts ss (and_parts (on_real op.Mul && same_sorts ss []) (same_sorts args (operands op.Mul (Real ∷ []))) w.0).0
  sorts_for (head.Int op.Add) ss args s a e = absurd a
  sorts_for (head.Int op.Sub) ss args s a e = absurd a
  sorts_for (head.Int op.Neg) ss args s a e = absurd a
  sorts_for (head.Int op.Div) ss args s a e = absurd a
  sorts_for (head.Int op.Mod) ss args s a e = absurd a
  sorts_for (head.Real op.Add) ss args s a e = absurd a
  sorts_for (head.Real op.Sub) ss args s a e = absurd a
  sorts_for (head.Real op.Neg) ss args s a e = absurd a
  sorts_for (head.Real op.Div) ss args s a e = absurd a
  sorts_for (head.Real op.Mod) ss args s a e = absurd a
  sorts_for (head.Build k) ss args s a e = absurd a
  sorts_for (head.Field k p) ss args s a e = absurd a
  sorts_for head.True ss args s a e = absurd a
  sorts_for head.False ss args s a e = absurd a
  sorts_for head.Void ss args s a e = absurd a

  -- those that a predicate takes
  predicate_length : (ss args : List Sort) (e : SymbolEntry) (r : Option Sort) → elim r [ Some t ↦ false | None ↦ nat_eq (length ss) e.vars && same_sorts args (map (put_sort ss) e.args) ] ≡ true → length ss ≡ e.vars
  predicate_length ss args e (Some t) h = absurd (true≢false (sym h))
  predicate_length ss args e None h = eqb-true (length ss) e.vars (and_parts (nat_eq (length ss) e.vars) (same_sorts args (map (put_sort ss) e.args)) h).0

  entry_fits : (ss args : List Sort) (o : Option SymbolEntry) → or_else (o >>= λ e. Some (predicate_fits ss args e)) false ≡ true → (e : SymbolEntry) × (o ≡ Some e) × (length ss ≡ e.vars)
  entry_fits ss args (Some e) h = (e, refl, predicate_length ss args e e.result h)
  entry_fits ss args None h = absurd (true≢false (sym h))

  predicate_sorts : (p : ℕ) (ss : List Sort) (o : Option (List Sort)) → predicate_ok sig (is_closed_sort sig) p ss o ≡ true → (list_all (is_closed_sort sig) ss ≡ true) × SortsFor sig (head.Symbol p) ss
  predicate_sorts p ss (Some args) h =
      let w = and_parts (list_all (is_closed_sort sig) ss) (or_else (slice_get sig.symbols p >>= λ e. Some (predicate_fits ss args e)) false) h in
      (w.0, entry_fits ss args (slice_get sig.symbols p) w.1)
  predicate_sorts p ss None h = absurd (true≢false (sym h))

  abbrev Takes : Head → List Sort → Type 0
  Takes h ss = (list_all (is_closed_sort sig) ss ≡ true) × SortsFor sig h ss

  same_layer : (h k : Head) (ss ps : List Sort) (us vs : List Term) → layer.Apply h ss us ≡ layer.Apply k ps vs → Takes k ps → Takes h ss
  same_layer h k ss ps us vs e t =
      let p : k ≡ h = cc e in
      let q : ps ≡ ss = cc e in
      subst (λ z. Takes z ss) p (subst (Takes k) q t)

  name_sorts : (h : Head) (ss : List Sort) (us : List Term) → IsAc sig h → IsSortedName sig (Apply h ss us) → Takes h ss
  name_sorts h ss us a (inl s) = let w = applied_is sig h ss us s.0 s.1 in (w.closed, sorts_for h ss w.args s.0 a w.is)
  name_sorts h ss us a (inr q) =
      same_layer h (head.Symbol q.0) ss q.1 us q.2 (sym (outs-Apply h ss us) ∙ ap out-Term q.3 ∙ outs-Apply (head.Symbol q.0) q.1 q.2)
      (predicate_sorts q.0 q.1 (all_known (map (sort_in sig (is_closed_sort sig) []) q.2)) (sym (formula_in_pred sig (is_closed_sort sig) [] q.0 q.1 q.2) ∙ q.4))

  sort_limits : (h : Head) (ss : List Sort) (us : List Term) → AreWithin (term_numbers (Apply h ss us)) → AreWithin (flat_map sort_numbers ss)
  unfolding term_numbers
  sort_limits h ss us w =
      all_front IsWithin (flat_map sort_numbers ss) (flat_map (λ u. u) (map term_numbers us)) (subst AreWithin (fold_apply (List Number) term_numbers_step h ss us) w)

-- ---- so they have texts
module _ (x : Setting) (sorted : AllByRecursion (IsSortedName x.problem.signature) x.names) (limits : AllByRecursion (λ t. AreWithin (term_numbers t)) x.names) where
  pub heads_name : (u : AcSymbol) → HeadsName x u → IsAc x.problem.signature u.head × HasSorts x.problem.signature u
  heads_name u n =
      let sig = x.problem.signature in
      let t = Apply u.head u.sorts (n.1 ∷ n.2 ∷ []) in
      let ac = join_ac sig u.head n.1 n.2 n.4 in
      let w = name_sorts sig u.head u.sorts (n.1 ∷ n.2 ∷ []) ac (all_at (IsSortedName sig) x.names n.0 t sorted n.3) in
      (ac, record { each = w.1; closed = w.0; numbers = sort_limits sig u.head u.sorts (n.1 ∷ n.2 ∷ []) (all_at (λ t. AreWithin (term_numbers t)) x.names n.0 t limits n.3) })
