-- The lines of a way.
use Rattle.std.proofs.Common.{◌≡◌, ℕ, ◌+◌, ◌-◌, Bool, true, false, cond, List, [], ◌∷◌, ◌++◌, length, map, slice_get, Some, Result, Ok, Err, OnOk, ◌∙◌, ap, subst, sym, refl, arith, length-append}
use Rattle.std.specs.Prelude.{slice_index_or}
use Rattle.std.specs.List.{AllByRecursion, Contains}
use Rattle.std.proofs.lemmas.Bool.{and_from}
use Rattle.std.proofs.lemmas.Option.{same_Some}
use Rattle.std.proofs.lemmas.Result.{on_ok_weaker}
use Rattle.std.proofs.lemmas.List.{length-map}
use Rattle.ae_base.proofs.AllOf.{all_push}
use Rattle.ae_base.proofs.ListFacts.{get_append, get_map, get_read, get_seam}
use Rattle.ae_core.specs.Sorts.{sort_of, formula_ok}
use Rattle.ae_core.specs.declared.terms.Sort.{Sort}
use Rattle.ae_core.specs.declared.terms.Term.{Term, Bound}
use Rattle.ae_core.specs.declared.formulas.Formula.{Formula, Formula-F, Eq, out-Formula}
use Rattle.ae_core.specs.declared.formulas.Formula.TheOpen as layer_of
use Rattle.ae_core.specs.declared.formulas.Formula.TheVariants.{outs-Eq}
use Rattle.ae_core.specs.declared.formulas.Quant.{Quant}
use Rattle.ae_core.specs.declared.formulas.Lit.{Lit}
use Rattle.ae_core.specs.declared.problems.Signature.{Signature}
use Rattle.ae_core.specs.declared.proofs.EqLine.{EqLine}
use Rattle.ae_core.specs.declared.proofs.EqLine.TheVariants.{EqHyp, EqRefl, EqSym, EqTrans}
use Rattle.ae_journal.proofs.Splits.{contains_at}
use Rattle.ae_rules.specs.Built.{IsBuiltEquation, of_name}
use Rattle.ae_rules.specs.Lines.{AllAllowed, Allowed, Given, Stated, equal, fact_ok, states}
use Rattle.ae_core.specs.declared.proofs.Ending.TheVariants.{Neq}
use Rattle.ae_rules.specs.Derivations.{IsContradictory, clause_ok}
use Rattle.ae_rules.proofs.Written.{all_append, stated_before, stated_last}
use Rattle.ae_store.specs.Stores.{Stored}
use Rattle.ae_theory.specs.Names.{terms_in}
use Rattle.ae_theory.specs.Classes.{AllFit, IsEdgeOf, IsEquation, tagged}
use Rattle.ae_theory.specs.Noting.{IsBlockOf}
use Rattle.ae_theory.proofs.Hopping.{block_tags}
use Rattle.ae_theory.specs.Inner.Hops.{AreHypotheses, IsPath, Pushes, Shows, lit_of, no_node, tag_of}
use Rattle.ae_theory.specs.declared.nodes.Node.{Node}
use Rattle.ae_theory.specs.declared.nodes.Edge.TheVariants.{Apart}
use Rattle.ae_theory.specs.declared.chains.Hop.{Hop}
use Rattle.ae_theory.proofs.Following.{sorted_pair}
use Rattle.ae_theory.proofs.Conflicts.{equation_sorted}

module _ (sig : Signature) (ts : List Term) where
  hyp_built : (s t : Term) (i : ℕ) → Contains ts s → Contains ts t → IsBuiltEquation sig ts (EqHyp s t i)
  hyp_built s t i a b = record { equation = refl; left = of_name s a; right = of_name t b; factors = tt }

  sym_built : (s t : Term) (i : ℕ) → Contains ts s → Contains ts t → IsBuiltEquation sig ts (EqSym s t i)
  sym_built s t i a b = record { equation = refl; left = of_name s a; right = of_name t b; factors = tt }

  trans_built : (s t : Term) (i k : ℕ) → Contains ts s → Contains ts t → IsBuiltEquation sig ts (EqTrans s t i k)
  trans_built s t i k a b = record { equation = refl; left = of_name s a; right = of_name t b; factors = tt }

  refl_built : (s : Term) → Contains ts s → IsBuiltEquation sig ts (EqRefl s s)
  refl_built s a = record { equation = refl; left = of_name s a; right = of_name s a; factors = tt }

  built_push : (ls : List EqLine) (l : EqLine) → AllByRecursion (IsBuiltEquation sig ts) ls → IsBuiltEquation sig ts l → AllByRecursion (IsBuiltEquation sig ts) (ls ++ l ∷ [])
  built_push ls l a b = all_push (IsBuiltEquation sig ts) ls l a b

module _ (sig : Signature) (ts : List Term) (hyps : List Lit) where
  abbrev AllOk : List EqLine → Type 0
  AllOk ls = AllAllowed sig (fact_ok sig) hyps [] ls

  ok_push : (ls : List EqLine) (l : EqLine) → AllOk ls → fact_ok sig (states l) ≡ true → Allowed sig hyps ls l → AllOk (ls ++ l ∷ [])
  ok_push ls l a o h = all_append sig (fact_ok sig) hyps [] ls (l ∷ []) a ((o, h), tt)

  last_at : (ls : List EqLine) (l : EqLine) → Stated (ls ++ l ∷ []) (length (ls ++ l ∷ []) - 1) (states l)
  last_at ls l = subst (λ k. Stated (ls ++ l ∷ []) k (states l)) (omega (arith, length-append ls (l ∷ []))) (stated_last ls l)

  pub shows_start : (s : Term) (sort : Sort) → sort_of sig s ≡ Some sort → Contains ts s → Shows sig ts hyps (EqRefl s s ∷ []) s s
  shows_start s sort p at = record { all = ((sorted_pair sig s s sort p p, refl), tt); some = omega arith; last = refl; built = (refl_built sig ts s at, tt) }

  -- one equation more, straight on or turned
  pub shows_on : (ls : List EqLine) (start s t : Term) (sort : Sort) (i : ℕ) → Given hyps i true (Eq s t) → sort_of sig start ≡ Some sort → sort_of sig s ≡ Some sort → sort_of sig t ≡ Some sort
      → Contains ts start → Contains ts s → Contains ts t → Shows sig ts hyps ls start s → Shows sig ts hyps ((ls ++ EqHyp s t i ∷ []) ++ EqTrans start t (length ls - 1) (length ls) ∷ []) start t
  shows_on ls start s t sort i g a b c x y z h =
      let one = ls ++ EqHyp s t i ∷ [] in
      let l : EqLine = EqTrans start t (length ls - 1) (length ls) in
      let first : Stated one (length ls - 1) (equal start s) = stated_before ls (EqHyp s t i ∷ []) (length ls - 1) (equal start s) h.last in
      let next : Stated one (length ls) (equal s t) = subst (λ k. Stated one k (equal s t)) (omega arith) (stated_last ls (EqHyp s t i)) in
      record {
        all = ok_push one l (ok_push ls (EqHyp s t i) h.all (sorted_pair sig s t sort b c) g) (sorted_pair sig start t sort a c) (s, first, next);
        some = omega (arith, length-append one (l ∷ []));
        last = last_at one l;
        built = built_push sig ts one l (built_push sig ts ls (EqHyp s t i) h.built (hyp_built sig ts s t i y z)) (trans_built sig ts start t (length ls - 1) (length ls) x z);
      }

  pub shows_turned : (ls : List EqLine) (start s t : Term) (sort : Sort) (i : ℕ) → Given hyps i true (Eq s t) → sort_of sig start ≡ Some sort → sort_of sig s ≡ Some sort → sort_of sig t ≡ Some sort
      → Contains ts start → Contains ts s → Contains ts t → Shows sig ts hyps ls start t → Shows sig ts hyps (((ls ++ EqHyp s t i ∷ []) ++ EqSym t s (length ls) ∷ []) ++ EqTrans start s (length ls - 1) (length ls + 1) ∷ []) start s
  shows_turned ls start s t sort i g a b c x y z h =
      let one = ls ++ EqHyp s t i ∷ [] in
      let two = one ++ EqSym t s (length ls) ∷ [] in
      let l : EqLine = EqTrans start s (length ls - 1) (length ls + 1) in
      let hyp : Stated one (length ls) (equal s t) = subst (λ k. Stated one k (equal s t)) (omega arith) (stated_last ls (EqHyp s t i)) in
      let first : Stated two (length ls - 1) (equal start t) =
      stated_before one (EqSym t s (length ls) ∷ []) (length ls - 1) (equal start t) (stated_before ls (EqHyp s t i ∷ []) (length ls - 1) (equal start t) h.last) in
      let next : Stated two (length ls + 1) (equal t s) = subst (λ k. Stated two k (equal t s)) (omega (arith, length-append ls (EqHyp s t i ∷ []))) (stated_last one (EqSym t s (length ls))) in
      record {
        all = ok_push two l (ok_push one (EqSym t s (length ls)) (ok_push ls (EqHyp s t i) h.all (sorted_pair sig s t sort b c) g) (sorted_pair sig t s sort c b) hyp) (sorted_pair sig start s sort a b) (t, first, next);
        some = omega (arith, length-append two (l ∷ []));
        last = last_at two l;
        built =
            built_push sig ts two l (built_push sig ts one (EqSym t s (length ls)) (built_push sig ts ls (EqHyp s t i) h.built (hyp_built sig ts s t i y z)) (sym_built sig ts t s (length ls) z y))
            (trans_built sig ts start s (length ls - 1) (length ls + 1) x y);
      }

-- the sides of an equation
left_of : Formula-F Formula Quant → Term
left_of (layer_of.Eq s t) = s
left_of _ = Bound 0

right_of : Formula-F Formula Quant → Term
right_of (layer_of.Eq s t) = t
right_of _ = Bound 0

pub same_left : (a b s t : Term) → Eq a b ≡ Eq s t → a ≡ s
unfolding left_of
same_left a b s t e = sym (ap left_of (outs-Eq a b)) ∙ (ap (λ (f : Formula). left_of (out-Formula f)) e ∙ ap left_of (outs-Eq s t))

pub same_right : (a b s t : Term) → Eq a b ≡ Eq s t → b ≡ t
unfolding right_of
same_right a b s t e = sym (ap right_of (outs-Eq a b)) ∙ (ap (λ (f : Formula). right_of (out-Formula f)) e ∙ ap right_of (outs-Eq s t))

-- what is put behind the lines, as it was written
pub on_shown : {A E : Type 0} (r : Result A E) (old mid new : List EqLine) (a a1 b b1 b2 s s1 : Term) (hyp n : ℕ) → mid ≡ old ++ EqHyp a1 b1 hyp ∷ [] → n ≡ length old → a1 ≡ a → b1 ≡ b → b2 ≡ b → s1 ≡ s
    → OnOk r (new ≡ mid ++ EqTrans s1 b2 (n - 1) n ∷ []) → OnOk r (new ≡ (old ++ EqHyp a b hyp ∷ []) ++ EqTrans s b (length old - 1) (length old) ∷ [])
on_shown r old mid new a a1 b b1 b2 s s1 hyp n m en ea eb ec es =
    on_ok_weaker r (λ e. e ∙ (λ i. (m ∙ (λ j. old ++ EqHyp (ea j) (eb j) hyp ∷ [])) i ++ EqTrans (es i) (ec i) (en i - 1) (en i) ∷ []))

pub on_turned : {A E : Type 0} (r : Result A E) (old mid mid2 new : List EqLine) (a a1 a2 a3 b b1 b2 s s1 : Term) (hyp n k : ℕ) → mid ≡ old ++ EqHyp a1 b1 hyp ∷ [] → mid2 ≡ mid ++ EqSym b2 a2 n ∷ [] → n ≡ length old → k ≡ length mid2
    → a1 ≡ a → a2 ≡ a → a3 ≡ a → b1 ≡ b → b2 ≡ b → s1 ≡ s
    → OnOk r (new ≡ mid2 ++ EqTrans s1 a3 (n - 1) (k - 1) ∷ []) → OnOk r (new ≡ ((old ++ EqHyp a b hyp ∷ []) ++ EqSym b a (length old) ∷ []) ++ EqTrans s a (length old - 1) (length old + 1) ∷ [])
on_turned r old mid mid2 new a a1 a2 a3 b b1 b2 s s1 hyp n k m m2 en ek ea ea2 ea3 eb eb2 es =
    let first : mid ≡ old ++ EqHyp a b hyp ∷ [] = m ∙ (λ j. old ++ EqHyp (ea j) (eb j) hyp ∷ []) in
    let both : mid2 ≡ (old ++ EqHyp a b hyp ∷ []) ++ EqSym b a (length old) ∷ [] = m2 ∙ (λ j. first j ++ EqSym (eb2 j) (ea2 j) (en j) ∷ []) in
    let last : k - 1 ≡ length old + 1 = omega (arith, ek, ap length both, length-append (old ++ EqHyp a b hyp ∷ []) (EqSym b a (length old) ∷ []), length-append old (EqHyp a b hyp ∷ [])) in
    on_ok_weaker r (λ e. e ∙ (λ i. both i ++ EqTrans (es i) (ea3 i) (en i - 1) (last i) ∷ []))

pub pushes_on : {A E : Type 0} (r : Result A E) (lit : Lit) (a b : Term) (hyp : ℕ) (start : Term) (old new : List EqLine) → lit.formula ≡ Eq a b
    → OnOk r (new ≡ (old ++ EqHyp a b hyp ∷ []) ++ EqTrans start b (length old - 1) (length old) ∷ []) → OnOk r (Pushes lit false hyp start old new)
pushes_on (Err e) lit a b hyp start old new f ok = tt
pushes_on (Ok u) lit a b hyp start old new f ok = λ sig ts hyps sort s t is given c d e x y z h.
    let same : Eq a b ≡ Eq s t = sym f ∙ ap (λ (w : Lit). w.formula) is in
    subst (λ (w : List EqLine). Shows sig ts hyps w start t) (sym (ok ∙ (λ i. (old ++ EqHyp (same_left a b s t same i) (same_right a b s t same i) hyp ∷ []) ++ EqTrans start (same_right a b s t same i) (length old - 1) (length old) ∷ [])))
    (shows_on sig ts hyps old start s t sort hyp given c d e x y z h)

pub pushes_turned : {A E : Type 0} (r : Result A E) (lit : Lit) (a b : Term) (hyp : ℕ) (start : Term) (old new : List EqLine) → lit.formula ≡ Eq a b
    → OnOk r (new ≡ ((old ++ EqHyp a b hyp ∷ []) ++ EqSym b a (length old) ∷ []) ++ EqTrans start a (length old - 1) (length old + 1) ∷ []) → OnOk r (Pushes lit true hyp start old new)
pushes_turned (Err e) lit a b hyp start old new f ok = tt
pushes_turned (Ok u) lit a b hyp start old new f ok = λ sig ts hyps sort s t is given c d e x y z h.
    let same : Eq a b ≡ Eq s t = sym f ∙ ap (λ (w : Lit). w.formula) is in
    let l = same_left a b s t same in
    let r = same_right a b s t same in
    subst (λ (w : List EqLine). Shows sig ts hyps w start s) (sym (ok ∙ (λ i. ((old ++ EqHyp (l i) (r i) hyp ∷ []) ++ EqSym (r i) (l i) (length old) ∷ []) ++ EqTrans start (l i) (length old - 1) (length old + 1) ∷ [])))
    (shows_turned sig ts hyps old start s t sort hyp given c d e x y z h)

-- ---- on the way: the lines equate the start with the term of a name, from which the rest leads to n
pub record IsAfoot (s : Stored) (nodes xs : List Node) (hyps : List Lit) (lines : List EqLine) (start : Term) (sort : Sort) (n : ℕ) (rest : List Hop) : Type 0 where
  pub at : ℕ
  pub end : Term
  pub there : slice_get (terms_in s) at ≡ Some end
  pub sorted : sort_of s.signature end ≡ Some sort
  pub shows : Shows s.signature (terms_in s) hyps lines start end
  pub left : IsPath nodes xs at n rest

abbrev pub Walks : Stored → List Node → List Hop → List Lit → ℕ → Term → List EqLine → List Hop → Type 0
Walks s nodes hops hyps from start lines rest =
    (xs : List Node) (n : ℕ) (sort : Sort) → IsPath nodes xs from n hops → AreHypotheses nodes hops hyps → sort_of s.signature start ≡ Some sort → IsAfoot s nodes xs hyps lines start sort n rest

pub walk_start : (s : Stored) (nodes : List Node) (hops : List Hop) (hyps : List Lit) (from : ℕ) (start : Term) → slice_get (terms_in s) from ≡ Some start → Walks s nodes hops hyps from start (EqRefl start start ∷ []) hops
walk_start s nodes hops hyps from start e xs n sort path given sorted =
    record { at = from; end = start; there = e; sorted = sorted; shows = shows_start s.signature (terms_in s) hyps start sort sorted (contains_at (terms_in s) from start e); left = path }

module _ (s : Stored) (x : Lit) (l r : ℕ) (e : IsEquation s true x l r) where
  near_at : (b : Bool) → slice_get (terms_in s) (cond b r l) ≡ Some (cond b e.right e.left)
  near_at true = e.right_at
  near_at false = e.left_at

  far_at : (b : Bool) → slice_get (terms_in s) (cond b l r) ≡ Some (cond b e.left e.right)
  far_at true = e.left_at
  far_at false = e.right_at

  far_sorted : (b : Bool) → sort_of s.signature (cond b e.left e.right) ≡ Some e.sort
  far_sorted true = e.left_sorted
  far_sorted false = e.right_sorted

  near_sorted : (b : Bool) → sort_of s.signature (cond b e.right e.left) ≡ Some e.sort
  near_sorted true = e.right_sorted
  near_sorted false = e.left_sorted

pub walk_step : (s : Stored) (nodes : List Node) (hops : List Hop) (hyps : List Lit) (from i : ℕ) (start : Term) (old new : List EqLine) (h : Hop) (rest : List Hop) → AllFit s nodes → slice_get (terms_in s) from ≡ Some start → slice_get hops i ≡ Some h
    → Pushes (lit_of nodes h) h.turned i start old new → Walks s nodes hops hyps from start old (h ∷ rest) → Walks s nodes hops hyps from start new rest
walk_step s nodes hops hyps from i start old new h rest fit here at push w xs n sort path given sorted =
    let a = w xs n sort path given sorted in
    let hop = (a.left).1 in
    let lit : lit_of nodes h ≡ hop.node.lit = ap (λ (w : Node). w.lit) (get_read nodes h.node hop.node no_node hop.at).0 in
    let e : IsEquation s true hop.node.lit hop.left hop.right = subst (IsEdgeOf s hop.node.lit) hop.edge (fit h.node hop.node hop.at) in
    let met : a.end ≡ cond h.turned e.right e.left =
    same_Some _ _ (sym a.there ∙ (ap (slice_get (terms_in s)) hop.start ∙ near_at s hop.node.lit hop.left hop.right e h.turned)) in
    let same : ◌≡◌ {A = Sort} e.sort sort =
    same_Some _ _ (sym (near_sorted s hop.node.lit hop.left hop.right e h.turned) ∙ (ap (sort_of s.signature) (sym met) ∙ a.sorted)) in
    let far : sort_of s.signature (cond h.turned e.left e.right) ≡ Some sort = far_sorted s hop.node.lit hop.left hop.right e h.turned ∙ ap Some same in
    record {
      at = (a.left).0;
      end = cond h.turned e.left e.right;
      there = ap (slice_get (terms_in s)) hop.end ∙ far_at s hop.node.lit hop.left hop.right e h.turned;
      sorted = far;
      shows =
          push s.signature (terms_in s) hyps sort e.left e.right (lit ∙ e.is) (given i h at ∙ ap Some (lit ∙ e.is)) sorted (e.left_sorted ∙ ap Some same) (e.right_sorted ∙ ap Some same)
          (contains_at (terms_in s) from start here) (contains_at (terms_in s) hop.left e.left e.left_at) (contains_at (terms_in s) hop.right e.right e.right_at) (subst (Shows s.signature (terms_in s) hyps old start) met a.shows);
      left = (a.left).2;
    }

pub walk_end : (s : Stored) (nodes : List Node) (hops : List Hop) (hyps : List Lit) (from : ℕ) (start : Term) (lines : List EqLine) → slice_get (terms_in s) from ≡ Some start → Walks s nodes hops hyps from start lines []
    → (xs : List Node) (n : ℕ) (sort : Sort) (a b : Term) → IsPath nodes xs from n hops → AreHypotheses nodes hops hyps → slice_get (terms_in s) from ≡ Some a → sort_of s.signature a ≡ Some sort → slice_get (terms_in s) n ≡ Some b
    → Shows s.signature (terms_in s) hyps lines a b
walk_end s nodes hops hyps from start lines at w xs n sort a b path given p sorted q =
    let same : start ≡ a = same_Some _ _ (sym at ∙ p) in
    let f = w xs n sort path given (ap (sort_of s.signature) same ∙ sorted) in
    let end : f.end ≡ b = same_Some _ _ (sym f.there ∙ (ap (slice_get (terms_in s)) f.left ∙ q)) in
    subst (λ (w : Term). Shows s.signature (terms_in s) hyps lines w b) same (subst (Shows s.signature (terms_in s) hyps lines start) end f.shows)

-- ---- the block
pub hypotheses_are : (nodes : List Node) (hops : List Hop) (l : Lit) → AreHypotheses nodes hops (map (lit_of nodes) hops ++ l ∷ [])
hypotheses_are nodes hops l i h e = get_append (map (lit_of nodes) hops) (l ∷ []) i (lit_of nodes h) (get_map (lit_of nodes) hops i h e)

pub last_hypothesis : (nodes : List Node) (hops : List Hop) (l : Lit) → slice_get (map (lit_of nodes) hops ++ l ∷ []) (length hops) ≡ Some l
last_hypothesis nodes hops l = subst (λ k. slice_get (map (lit_of nodes) hops ++ l ∷ []) k ≡ Some l) (length-map hops (lit_of nodes)) (get_seam (map (lit_of nodes) hops) [] l)

pub block_sorted : (s : Stored) (nodes xs : List Node) (m n : ℕ) (hops : List Hop) (l : Lit) → AllFit s nodes → IsPath nodes xs m n hops → formula_ok s.signature l.formula ≡ true
    → clause_ok s.signature (map (lit_of nodes) hops ++ l ∷ []) ≡ true
block_sorted s nodes xs m n [] l fit p o = and_from (formula_ok s.signature l.formula) true o refl
block_sorted s nodes xs m n (h ∷ hops) l fit p o =
    let hop = p.1 in
    let e : IsEquation s true hop.node.lit hop.left hop.right = subst (IsEdgeOf s hop.node.lit) hop.edge (fit h.node hop.node hop.at) in
    let lit : lit_of nodes h ≡ hop.node.lit = ap (λ (w : Node). w.lit) (get_read nodes h.node hop.node no_node hop.at).0 in
    and_from _ _ (ap (λ (w : Lit). formula_ok s.signature w.formula) lit ∙ equation_sorted s true hop.node.lit hop.left hop.right e) (block_sorted s nodes xs p.0 n hops l fit p.2 o)

-- the lines from one side of a denied equation to the other, with its literal as the last hypothesis
pub block_shows : (s : Stored) (nodes xs : List Node) (m n number : ℕ) (hops : List Hop) (x : Node) (lines : List EqLine) → AllFit s nodes → slice_get nodes number ≡ Some x → Contains xs x → x.edge ≡ Apart m n → IsPath nodes xs m n hops
    → ((sort : Sort) (a b : Term) → AreHypotheses nodes hops (map (lit_of nodes) hops ++ lit_of nodes (record { node = number; turned = false }) ∷ []) → slice_get (terms_in s) m ≡ Some a → sort_of s.signature a ≡ Some sort
    → slice_get (terms_in s) n ≡ Some b
    → Shows s.signature (terms_in s) (map (lit_of nodes) hops ++ lit_of nodes (record { node = number; turned = false }) ∷ []) lines a b)
    → IsContradictory s.signature (record {
      deriv = record { hyps = map (lit_of nodes) hops ++ lit_of nodes (record { node = number; turned = false }) ∷ []; lines = lines };
      ending = Neq (length lines - 1) (length hops);
    }) × (clause_ok s.signature (map (lit_of nodes) hops ++ lit_of nodes (record { node = number; turned = false }) ∷ []) ≡ true)
    × IsBlockOf (map tagged xs) (map (lit_of nodes) hops ++ lit_of nodes (record { node = number; turned = false }) ∷ []) (map (tag_of nodes) hops ++ tag_of nodes (record { node = number; turned = false }) ∷ [])
    × AllByRecursion (IsBuiltEquation s.signature (terms_in s)) lines
block_shows s nodes xs m n number hops x lines fit at stands edge path shows =
    let e : IsEquation s false x.lit m n = subst (IsEdgeOf s x.lit) edge (fit number x at) in
    let read : slice_index_or nodes number no_node ≡ x = (get_read nodes number x no_node at).0 in
    let last : lit_of nodes (record { node = number; turned = false }) ≡ x.lit = ap (λ (w : Node). w.lit) read in
    let tag : tag_of nodes (record { node = number; turned = false }) ≡ x.tag = ap (λ (w : Node). w.tag) read in
    let own : Lit = lit_of nodes (record { node = number; turned = false }) in
    let sh = shows e.sort e.left e.right (hypotheses_are nodes hops own) e.left_at e.left_sorted e.right_at in (
      (sh.all, (e.left, e.right, sh.last, last_hypothesis nodes hops own ∙ ap Some (last ∙ e.is))),
      block_sorted s nodes xs m n hops own fit path (ap (λ (w : Lit). formula_ok s.signature w.formula) last ∙ equation_sorted s false x.lit m n e),
      subst (λ (w : Lit). IsBlockOf (map tagged xs) (map (lit_of nodes) hops ++ w ∷ []) (map (tag_of nodes) hops ++ tag_of nodes (record { node = number; turned = false }) ∷ [])) (sym last)
          (subst (λ w. IsBlockOf (map tagged xs) (map (lit_of nodes) hops ++ x.lit ∷ []) (map (tag_of nodes) hops ++ w ∷ [])) (sym tag) (block_tags nodes xs m n hops x path stands)),
      sh.built,
    )
