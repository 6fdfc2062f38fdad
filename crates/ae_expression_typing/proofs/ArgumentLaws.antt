-- The terms of a list, one by one.
use Rattle.std.proofs.Common.{◌≡◌, ◌∙◌, ℕ, ◌+◌, ◌<◌, ◌≤◌, List, [], ◌∷◌, ◌++◌, map, length, drop, get_or, refl, sym, ap, subst}
use Rattle.std.proofs.lemmas.List.{drop_more, drop_all}
use Rattle.ae_core.specs.declared.terms.Sort.{Sort}
use Rattle.ae_syntax.specs.declared.exprs.Expr.{Expr}
use Rattle.ae_elab.specs.declared.faults.TypeFault.{TypeFault}
use Rattle.ae_elab.specs.declared.typings.Context.{Context}
use Rattle.ae_elab.specs.declared.typings.Typing.{Typing}
use Rattle.ae_elab.specs.Expressions.{part_of}
use Rattle.ae_elab.specs.Formulas.{of_one_sort, distinct_rule}
use Rattle.ae_elab.specs.Nodes.{Entry, AreTrees, IsTree, a_claim, trees_at}
use Rattle.ae_elab.specs.Rules.{Rule, Typed, typed, give, ◌>>◌, as_term, wanted, all_wanted}
use Rattle.ae_elab.specs.Scope.{Scope}
use Rattle.ae_elab.specs.Trees as tree
use Rattle.ae_elab.specs.Trees.{Tree, Trees, Claim, more, distinct}
use Rattle.ae_elab.specs.Typings.{Walks, Stops, TypesTrees, TypesClaim, Puts, nodes_of}
use Rattle.ae_elab.proofs.NodeLaws.{later_trees, trees_are}
use Rattle.ae_elab.proofs.TypingLaws.{walks_give, walks_then, stands_put, stops_first, stops_later, puts_claim}
use Rattle.ae_expression_typing.proofs.RuleLaws.{walks_same, walks_after, stops_same}

-- terms behind others
abbrev pub onto : Trees → Trees → Trees
onto tree.none us = us
onto (more t ts) us = more t (onto ts us)

pub onto_end : (ts : Trees) (t : Tree) (us : Trees) → onto (onto ts (more t tree.none)) us ≡ onto ts (more t us)
onto_end tree.none t us = refl
onto_end (more s ts) t us = ap (more s) (onto_end ts t us)

pub onto_none : (ts : Trees) → onto ts tree.none ≡ ts
onto_none tree.none = refl
onto_none (more t ts) = ap (more t) (onto_none ts)

pub stand_more : (es : List Entry) (ns : List ℕ) (ts : Trees) (n : ℕ) (t : Tree) → AreTrees es ns ts → IsTree es n t → AreTrees es (ns ++ n ∷ []) (onto ts (more t tree.none))
stand_more es [] tree.none n t h i = (i, tt)
stand_more es (m ∷ ns) (more s ts) n t h i = (h.0, stand_more es ns ts n t h.1 i)
stand_more es [] (more s ts) n t h i = absurd h
stand_more es (m ∷ ns) tree.none n t h i = absurd h

-- what the rest comes to, the whole comes to with the terms that are done
pub record Gathers {X : Type 0} (c : Context) (whole : Scope → Rule X) (value : Trees → X) (rest : Scope → Rule Trees) (old now : Typing) (done : List ℕ) : Type 0 where
  pub terms : Trees
  pub stand : AreTrees (nodes_of now) done terms
  pub walks : (end : Typing) (ts : Trees) → Walks c rest now end ts → Walks c whole old end (value (onto terms ts))
  pub stops : (x : TypeFault) → Stops c rest now x → Stops c whole old x

module _ {X : Type 0} (c : Context) (whole : Scope → Rule X) (value : Trees → X) (rest : Scope → Rule Trees) (old now : Typing) (done : List ℕ) (g : Gathers c whole value rest old now done) where
  module _ (r : Scope → Rule Tree) (later : Scope → Rule Trees) where
    abbrev one_then : Scope → Tree → Rule Trees
    one_then sc t = later sc >> λ ts. give (more t ts)

    module _ (here : (sc : Scope) → rest sc ≡ (r sc >> one_then sc)) where
      pub gather_stop : (x : TypeFault) → Stops c r now x → Stops c whole old x
      gather_stop x h = g.stops x (stops_same c (λ sc. r sc >> one_then sc) rest now x (λ sc. sym (here sc)) (stops_first c r one_then now x h))

      pub gather_next : (next : Typing) (n : ℕ) (t : Tree) (longer : List ℕ) → Walks c r now next t → IsTree (nodes_of next) n t → longer ≡ done ++ n ∷ [] → Gathers c whole value later old next longer
      gather_next next n t longer a h same = record {
        terms = onto g.terms (more t tree.none);
        stand = subst (λ z. AreTrees (nodes_of next) z (onto g.terms (more t tree.none))) (sym same)
            (stand_more (nodes_of next) done g.terms n t (later_trees (nodes_of now) (nodes_of next) a.kept done g.terms g.stand) h);
        walks = λ end ts b. subst (λ z. Walks c whole old end (value z)) (sym (onto_end g.terms t ts))
            (g.walks end (more t ts) (walks_same c (λ sc. r sc >> one_then sc) rest now end (more t ts) (λ sc. sym (here sc))
            (walks_then c r one_then now next end t (more t ts) a (walks_then c later (λ sc us. give (more t us)) next end end ts (more t ts) b (walks_give c end (more t ts))))));
        stops = λ x b. g.stops x (stops_same c (λ sc. r sc >> one_then sc) rest now x (λ sc. sym (here sc))
            (stops_later c r one_then now next t x a (stops_first c later (λ sc us. give (more t us)) next x b)));
      }

  pub gather_end : ((sc : Scope) → rest sc ≡ give tree.none) → Walks c whole old now (value g.terms)
  gather_end none_left =
      subst (λ z. Walks c whole old now (value z)) (onto_none g.terms) (g.walks now tree.none (walks_same c (λ sc. give tree.none) rest now now tree.none (λ sc. sym (none_left sc)) (walks_give c now tree.none)))

-- ---- terms with the sorts that are expected of them
module _ (c : Context) (ss : List Sort) (es : List Expr) (old : Typing) where
  abbrev wanted_from : ℕ → Scope → Rule Trees
  wanted_from i sc = all_wanted sc (drop i ss) (map part_of (drop i es))

  abbrev pub Wants : Typing → List ℕ → ℕ → Type 0
  Wants now done i = Gathers c (λ sc. all_wanted sc ss (map part_of es)) (λ ts. ts) (wanted_from i) old now done

  pub wants_start : Wants old [] 0
  wants_start = record { terms = tree.none; stand = tt; walks = λ end ts a. a; stops = λ x a. a }

  module _ (now : Typing) (done : List ℕ) (i : ℕ) (s : Sort) (e : Expr) (fits : i < length ss) (within : i < length es) (sort_is : s ≡ get_or ss i s) (is : e ≡ get_or es i e) (w : Wants now done i) where
    wanted_here : (sc : Scope) → wanted_from i sc ≡ (wanted sc s (part_of e) >> λ t. wanted_from (i + 1) sc >> λ ts. give (more t ts))
    wanted_here sc =
        ap (λ z. all_wanted sc z (map part_of (drop i es))) (drop_more ss i s fits ∙ ap (λ z. z ∷ drop (i + 1) ss) (sym sort_is))
        ∙ ap (λ z. all_wanted sc (s ∷ drop (i + 1) ss) (map part_of z)) (drop_more es i e within ∙ ap (λ z. z ∷ drop (i + 1) es) (sym is))

    pub wants_stop : (x : TypeFault) → Stops c (λ sc. wanted sc s (part_of e)) now x → Stops c (λ sc. all_wanted sc ss (map part_of es)) old x
    wants_stop x h = gather_stop c (λ sc. all_wanted sc ss (map part_of es)) (λ ts. ts) (wanted_from i) old now done w (λ sc. wanted sc s (part_of e)) (wanted_from (i + 1)) wanted_here x h

    pub wants_next : (next : Typing) (n : ℕ) (t : Tree) (longer : List ℕ) → Walks c (λ sc. wanted sc s (part_of e)) now next t → IsTree (nodes_of next) n t → longer ≡ done ++ n ∷ [] → Wants next longer (i + 1)
    wants_next next n t longer a h same = gather_next c (λ sc. all_wanted sc ss (map part_of es)) (λ ts. ts) (wanted_from i) old now done w (λ sc. wanted sc s (part_of e)) (wanted_from (i + 1)) wanted_here next n t longer a h same

  pub wants_whole : (now : Typing) (done : List ℕ) (i : ℕ) → length ss ≤ i → length es ≤ i → Wants now done i → TypesTrees c (λ sc. all_wanted sc ss (map part_of es)) old now done
  wants_whole now done i fits within w = record {
    terms = w.terms;
    stand = w.stand;
    walks = gather_end c (λ sc. all_wanted sc ss (map part_of es)) (λ ts. ts) (wanted_from i) old now done w
        (λ sc. ap (λ z. all_wanted sc z (map part_of (drop i es))) (drop_all i ss fits) ∙ ap (λ z. all_wanted sc [] (map part_of z)) (drop_all i es within));
  }

-- ---- terms of one sort, behind a first one
module _ (c : Context) (a : Expr) (es : List Expr) (old : Typing) where
  abbrev different : Scope → Rule Claim
  different sc = distinct_rule (part_of a ∷ map part_of es) sc

  abbrev after_first : Scope → Typed → Rule Claim
  after_first sc t = of_one_sort sc t.sort (map part_of es) >> λ ts. give (distinct (more t.tree ts))

  pub different_first : (x : TypeFault) → Stops c (λ sc. as_term sc (part_of a)) old x → Stops c different old x
  different_first x h = stops_first c (λ sc. as_term sc (part_of a)) after_first old x h

  module _ (s : Sort) where
    abbrev sorted_from : ℕ → Scope → Rule Trees
    sorted_from i sc = of_one_sort sc s (map part_of (drop i es))

    abbrev pub Differ : Typing → List ℕ → ℕ → Type 0
    Differ now done i = Gathers c different distinct (sorted_from i) old now done

    pub differ_start : (mid : Typing) (x : Tree) (n : ℕ) (done : List ℕ) → Walks c (λ sc. as_term sc (part_of a)) old mid (typed x s) → IsTree (nodes_of mid) n x → done ≡ n ∷ [] → Differ mid done 0
    differ_start mid x n done one h same = record {
      terms = more x tree.none;
      stand = subst (λ z. AreTrees (nodes_of mid) z (more x tree.none)) (sym same) (h, tt);
      walks = λ end ts b. walks_then c (λ sc. as_term sc (part_of a)) after_first old mid end (typed x s) (distinct (more x ts)) one
          (walks_then c (sorted_from 0) (λ sc us. give (distinct (more x us))) mid end end ts (distinct (more x ts)) b (walks_give c end (distinct (more x ts))));
      stops = λ y b. stops_later c (λ sc. as_term sc (part_of a)) after_first old mid (typed x s) y one (stops_first c (sorted_from 0) (λ sc us. give (distinct (more x us))) mid y b);
    }

    module _ (now : Typing) (done : List ℕ) (i : ℕ) (e : Expr) (within : i < length es) (is : e ≡ get_or es i e) (w : Differ now done i) where
      sorted_here : (sc : Scope) → sorted_from i sc ≡ (wanted sc s (part_of e) >> λ t. sorted_from (i + 1) sc >> λ ts. give (more t ts))
      sorted_here sc = ap (λ z. of_one_sort sc s (map part_of z)) (drop_more es i e within ∙ ap (λ z. z ∷ drop (i + 1) es) (sym is))

      pub differ_stop : (x : TypeFault) → Stops c (λ sc. wanted sc s (part_of e)) now x → Stops c different old x
      differ_stop x h = gather_stop c different distinct (sorted_from i) old now done w (λ sc. wanted sc s (part_of e)) (sorted_from (i + 1)) sorted_here x h

      pub differ_next : (next : Typing) (n : ℕ) (t : Tree) (longer : List ℕ) → Walks c (λ sc. wanted sc s (part_of e)) now next t → IsTree (nodes_of next) n t → longer ≡ done ++ n ∷ [] → Differ next longer (i + 1)
      differ_next next n t longer b h same = gather_next c different distinct (sorted_from i) old now done w (λ sc. wanted sc s (part_of e)) (sorted_from (i + 1)) sorted_here next n t longer b h same

    pub differ_whole : (now new : Typing) (done : List ℕ) (i n : ℕ) → length es ≤ i → Differ now done i → Puts now new (a_claim (distinct (trees_at (nodes_of now) done))) n → TypesClaim c different old new n
    differ_whole now new done i n within w p =
        let f = distinct w.terms in
        let last : Puts now new (a_claim f) n = subst (λ us. Puts now new (a_claim (distinct us)) n) (trees_are (nodes_of now) done w.terms w.stand) p in
        let whole = gather_end c different distinct (sorted_from i) old now done w (λ sc. ap (λ z. of_one_sort sc s (map part_of z)) (drop_all i es within)) in
        record { claim = f; stands = stands_put now new (a_claim f) n last; walks = walks_after c different old now new (a_claim f) n f whole last }

-- no terms at all
pub differ_none : (c : Context) (es : List Expr) (old new : Typing) (ns : List ℕ) (n : ℕ) → es ≡ [] → ns ≡ [] → Puts old new (a_claim (distinct (trees_at (nodes_of old) ns))) n
    → TypesClaim c (λ sc. distinct_rule (map part_of es) sc) old new n
differ_none c es old new ns n no_terms no_trees p =
    subst (λ (z : List Expr). TypesClaim c (λ sc. distinct_rule (map part_of z) sc) old new n) (sym no_terms)
    (puts_claim c old new (distinct tree.none) n (subst (λ (z : List ℕ). Puts old new (a_claim (distinct (trees_at (nodes_of old) z))) n) no_trees p))
