-- What a search holds beside the solver stays so where clauses, lines and names are more.
use Rattle.std.specs.Prelude.{ℕ, suc, ◌<◌, ◌≤◌, ◌≡◌, ◌⊎◌, true, List, [], ◌∷◌, ◌++◌, length, Some}
use Rattle.std.specs.List.{AllByRecursion, Contains}
use Rattle.std.proofs.Common.{refl, sym, append-nil, ap, ◌∙◌, subst, arith, inl, inr, length-append}
use Rattle.std.proofs.lemmas.List.Elements.{Contains-append_cases, Contains-append_left}
use Rattle.std.proofs.lemmas.Option.{same_Some}
use Rattle.ae_base.proofs.AllOf.{all_push, all_weaker}
use Rattle.ae_base.proofs.ListFacts.{value_at}
use Rattle.ae_base.proofs.Relations.{pairwise_weaker}
use Rattle.ae_ages.specs.Interned.{IsHad}
use Rattle.ae_ages.specs.Laws.{AreAllHad}
use Rattle.ae_ages.specs.declared.entries.Aged.{Aged}
use Rattle.ae_between_rounds.specs.Fine.{AreFine, AreOrderless, IsFineFormula, IsFineLine}
use Rattle.ae_between_rounds.specs.Held.{HasFirstOnes, HaveChoices, HaveConstants, HaveInstances, IsNotedAs, by_owner}
use Rattle.ae_between_rounds.specs.declared.search.Instance.{Instance}
use Rattle.ae_block_constants.proofs.Numbers.{agrees, first_of}
use Rattle.ae_block_constants.specs.Blocks.{AreApart, opened_pairs}
use Rattle.ae_block_constants.specs.declared.opened.Opened.{Opened}
use Rattle.ae_core.specs.declared.formulas.Formula.{Formula}
use Rattle.ae_core.specs.declared.formulas.Lit.{Lit}
use Rattle.ae_core.specs.declared.problems.Problem.{Problem}
use Rattle.ae_core.specs.declared.problems.Signature.{Signature}
use Rattle.ae_core.specs.declared.proofs.ClauseLine.{ClauseLine}
use Rattle.ae_core.specs.declared.terms.Term.{Term, Apply}
use Rattle.ae_goal_names.proofs.Joining.{as_many}
use Rattle.ae_goal_names.specs.Named.{HasNamed, StandsIn, itself, argument, field, clause_terms}
use Rattle.ae_inst.specs.declared.instances.Taken.{Taken}
use Rattle.ae_journal.proofs.Splits.{all_contained, contains_here, contains_later}
use Rattle.ae_journal.specs.Standing.{Setting}
use Rattle.ae_journal.specs.States.{outside}
use Rattle.ae_journal.specs.Systems.{field_terms}
use Rattle.ae_journal.specs.declared.lines.Line.{Line}
use Rattle.ae_journal.specs.declared.lines.Line.TheVariants as line
use Rattle.ae_later_lines.proofs.Later.{justified_ages_stay, justified_stay, records_stay}
use Rattle.ae_new_constants.specs.Below.{IsClauseBelow, IsLineBelow, IsTermBelow}
use Rattle.ae_numerals_kept.proofs.Lowest.{arguments_lowest, fields_lowest, outside_lowest}
use Rattle.ae_numerals_kept.specs.Lowest.{IsLowest, IsLowestTerm}
use Rattle.ae_open_states.specs.Choices.{IsChoiceOf}
use Rattle.ae_orderless.specs.Orderless.{is_orderless}
use Rattle.ae_owed.specs.Generations.{IsJustified}
use Rattle.ae_owed.specs.Instances.{Instance as NotedInstance}
use Rattle.ae_owed.specs.Known.{IsYoung}
use Rattle.ae_ages.specs.Laws.{AreJustifiedAges}
use Rattle.ae_owners.specs.Owners.{owner_of}
use Rattle.ae_owners.specs.declared.owners.Owner.{Owner}
use Rattle.ae_rules.specs.Clauses.{Clause, yes_of, no_of}
use Rattle.ae_sat.proofs.Learnt.{one_more, still_one}
use Rattle.ae_sat.specs.Standing.{IsOneOf}
use Rattle.ae_searching.proofs.Settings.{keeps_splits, told_before}
use Rattle.ae_searching.specs.Steps.{NotesNoInstance}
use Rattle.ae_searching.specs.Told.{IsToldIn}
use Rattle.ae_store.proofs.TermLaws.{all_named_kept}
use Rattle.ae_store.specs.Stores.{Stored}
use Rattle.ae_theory.specs.Names.{Extends, terms_in}

-- ---- names
pub more_names : (s t : Stored) → Extends s t → length s.nodes ≤ length t.nodes
more_names s t e =
    let r = keeps_splits (terms_in s) (terms_in t) e.keeps in
    omega (arith, as_many s, as_many t, ap length r.1, length-append (terms_in s) r.0)

-- some setting is told of
pub some_told : (p : Problem) (g next : ℕ) (s : Stored) (opened : List Opened) → AreApart next opened → (x : Setting) × IsToldIn p g s opened x
some_told p g next s opened apart = (
  record { problem = p; goal = g; names = terms_in s; fresh = first_of next opened },
  record { problem = refl; goal = refl; more = []; names = sym (append-nil (terms_in s)); fresh = λ o c. agrees next opened apart o c },
)

-- ---- hypotheses, the goal, enumerations
pub firsts_grow : (p : Problem) (g : ℕ) (old new : List Clause) → ((c : Clause) → IsOneOf old c → IsOneOf new c) → HasFirstOnes p g old → HasFirstOnes p g new
firsts_grow p g old new kept h = record { hypotheses = λ k f e. kept (yes_of f ∷ []) (h.hypotheses k f e); goal = λ f e. kept (no_of f ∷ []) (h.goal f e) }

pub choices_grow : (sig : Signature) (s t : Stored) (looked : ℕ) (old new : List Clause) → Extends s t → ((c : Clause) → IsOneOf old c → IsOneOf new c) → HaveChoices sig s looked old → HaveChoices sig t looked new
choices_grow sig s t looked old new e kept h = record {
  within = (let more = more_names s t e in omega (arith, more, h.within));
  chosen = λ n u c lt at x.
      let v = value_at (terms_in s) n (let many = as_many s in omega (arith, many, lt, h.within)) in
      let same : v.0 ≡ u = same_Some v.0 u (sym (e.keeps n v.0 v.1) ∙ at) in
      elim (h.chosen n u c lt (v.1 ∙ ap (λ (z : Term). Some z) same) x) as (λ _. IsChoiceOf sig u u ⊎ IsOneOf new c) [ inl a ↦ inl a | inr b ↦ inr (kept c b) ];
}

-- ---- inequalities
pub orderless_more : (cs : List Clause) (c : Clause) → ((l : Lit) → Contains c l → is_orderless l.formula ≡ true) → AreOrderless cs → AreOrderless (cs ++ c ∷ [])
orderless_more cs c own h d l o k = elim (one_more cs c d o) as (λ _. is_orderless l.formula ≡ true) [
  | inl i ↦ h d l i k
  | inr e ↦ own l (subst (λ (x : Clause). Contains x l) e k)
]

-- ---- numerals
standing_lowest : (sig : Signature) (ts : List Term) → ((t : Term) → Contains ts t → IsLowestTerm t) → (t : Term) → StandsIn sig ts t → IsLowestTerm t
standing_lowest sig ts low t (itself c) = low t c
standing_lowest sig ts low t (argument h ss us a i) = all_contained IsLowestTerm us t (arguments_lowest h ss us (standing_lowest sig ts low (Apply h ss us) a)) i
standing_lowest sig ts low t (field s ss u a e f i) = all_contained IsLowestTerm (field_terms s u (length ss)) t (fields_lowest s u (length ss) (standing_lowest sig ts low u a)) i

-- the terms of a clause whose formulas have lowest numerals
pub clause_terms_lowest : (c : Clause) → ((m : Lit) → Contains c m → IsLowest m.formula) → (t : Term) → Contains (clause_terms c) t → IsLowestTerm t
clause_terms_lowest [] low t h = absurd (omega (arith, h.1))
clause_terms_lowest (m ∷ c) low t h = elim (Contains-append_cases (outside m.formula) (clause_terms c) t h) as (λ _. IsLowestTerm t) [
  | inl a ↦ all_contained IsLowestTerm (outside m.formula) t (outside_lowest m.formula (low m (contains_here m c))) a
  | inr b ↦ clause_terms_lowest c (λ k i. low k (contains_later m c k i)) t b
]

pub fine_more : (s : Stored) (lines : List ClauseLine) (cs : List Clause) (l : ClauseLine) (c : Clause) → IsFineLine l → ((m : Lit) → Contains c m → IsFineFormula m.formula) → AreFine s lines cs
    → AreFine s (lines ++ l ∷ []) (cs ++ c ∷ [])
fine_more s lines cs l c line own h = record {
  names = h.names;
  formulas = λ d m o k. elim (one_more cs c d o) as (λ _. IsFineFormula m.formula) [
    | inl i ↦ h.formulas d m i k
    | inr e ↦ own m (subst (λ (x : Clause). Contains x m) e k)
  ];
  lines = all_push IsFineLine lines l h.lines line;
}

pub fine_names : (old new : Stored) (ts : List Term) (lines : List ClauseLine) (cs : List Clause) → HasNamed old new ts → ((t : Term) → Contains ts t → IsLowestTerm t) → AreFine old lines cs → AreFine new lines cs
fine_names old new ts lines cs named low h = record {
  names = λ t i. elim (named.only t i) as (λ _. IsLowestTerm t) [ inl a ↦ h.names t a | inr b ↦ standing_lowest old.signature ts low t b ];
  formulas = h.formulas;
  lines = h.lines;
}

-- ---- constants
module _ (p : Problem) (g next : ℕ) (opened : List Opened) (s : Stored) (lines : List ClauseLine) (cs : List Clause) (h : HaveConstants p g next opened s lines cs) where
  pub constants_more : (l : ClauseLine) (c : Clause) → IsLineBelow p g next l → IsClauseBelow next c → HaveConstants p g next opened s (lines ++ l ∷ []) (cs ++ c ∷ [])
  constants_more l c line own = record {
    apart = h.apart;
    sorted = h.sorted;
    added = λ o i. let a = h.added o i in (a.0, a.1, still_one cs c a.0 a.2);
    lines = all_push (IsLineBelow p g next) lines l h.lines line;
    clauses = all_push (IsClauseBelow next) cs c h.clauses own;
    names = h.names;
  }

  pub constants_names : (t : Stored) → AllByRecursion (IsTermBelow next) (terms_in t) → HaveConstants p g next opened t lines cs
  constants_names t names = record { apart = h.apart; sorted = h.sorted; added = h.added; lines = h.lines; clauses = h.clauses; names = names }

-- ---- instances
pub noted_kept : (s t : Stored) (owners : List Owner) (i : Instance) (n : NotedInstance) → Extends s t → IsNotedAs s owners i n → IsNotedAs t owners i n
noted_kept s t owners _ _ e (by_owner o i at within) =
    let many = as_many s in
    let more = more_names s t e in
    let same = all_named_kept (terms_in s) (terms_in t) e.keeps i.subst.terms
    (all_weaker (λ n. n < length s.nodes) (λ n. n < length (terms_in s)) (λ n lt. omega (arith, lt, many)) i.subst.terms within) in
    subst (IsNotedAs t owners i) (λ j. record { owner = owner_of o; sorts = i.subst.sorts; terms = same j; number = i.number })
    (by_owner o i at (all_weaker (λ n. n < length s.nodes) (λ n. n < length t.nodes) (λ n lt. omega (arith, lt, more)) i.subst.terms within))

pub had_stays : (p : Problem) (g : ℕ) (opened : List (Formula × ℕ)) (is : List NotedInstance) (s t : Stored) (es : List Aged) → ((n : ℕ) (u : Term) → IsYoung s n u → IsYoung t n u) → AreAllHad p g opened is s es
    → AreAllHad p g opened is t es
had_stays p g opened is s t es grown h = record {
  hypotheses = λ k f e. still 0 (yes_of f).formula (h.hypotheses k f e);
  goal = λ f e. still 0 (no_of f).formula (h.goal f e);
  instance_ones = λ i l a b. still (suc i.number) l.formula (h.instance_ones i l a b);
  bodies = λ f m n c l a b d i. elim (h.bodies f m n c l a b d i) as (λ _. (l.formula ≡ f) ⊎ IsHad t es n l.formula) [ inl x ↦ inl x | inr y ↦ inr (still n l.formula y) ];
}
  where
    still : (n : ℕ) (f : Formula) → IsHad s es n f → IsHad t es n f
    still n f a = record { terms = λ u i. grown n u (a.terms u i); formulas = a.formulas }

module _ (p : Problem) (g bound : ℕ) (s : Stored) (opened : List Opened) (owners : List Owner) (made : List Instance) (taken : List Taken) (ages : List Aged) (js : List Line)
    (h : HaveInstances p g bound s opened owners made taken ages js) where
  -- more names, none of them younger than the bound, and no old one older than it was
  pub instances_names : (t : Stored) → Extends s t → ((n : ℕ) (u : Term) → IsYoung s n u → IsYoung t n u) → ((n : ℕ) (u : Term) → n < bound → IsYoung t n u → IsYoung s n u)
      → HaveInstances p g bound t opened owners made taken ages js
  instances_names t e grown late = record {
    right = h.right;
    apart = h.apart;
    axioms = h.axioms;
    instances = h.instances;
    are = pairwise_weaker (IsNotedAs s owners) (IsNotedAs t owners) (λ i n r. noted_kept s t owners i n e r) made h.instances h.are;
    taken_ones = h.taken_ones;
    recorded = λ x told. h.recorded x (narrow x told);
    typed = h.typed;
    had = had_stays p g (opened_pairs opened) h.instances s t ages grown h.had;
    justified = λ x told. let j = h.justified x (narrow x told) in (λ n u lt y. j.0 n u lt (late n u lt y), j.1);
  }
    where
      narrow : (x : Setting) → IsToldIn p g t opened x → IsToldIn p g s opened x
      narrow x told = told_before p g s t opened opened x e (λ o i. i) told

  -- more lines of the journal, none of them that of an instance
  pub instances_lines : (ks : List Line) → NotesNoInstance js ks → HaveInstances p g bound s opened owners made taken ages ks
  instances_lines ks w = record {
    right = h.right;
    apart = h.apart;
    axioms = h.axioms;
    instances = h.instances;
    are = h.are;
    taken_ones = h.taken_ones;
    recorded = λ x told. records_stay x bound js ks h.instances w (h.recorded x told);
    typed = λ i k c e. subst (λ (v : List Line). Contains v (line.TypeInstance k i.sorts)) (sym w.is) (Contains-append_left js w.added (line.TypeInstance k i.sorts) (h.typed i k c e));
    had = h.had;
    justified = λ x told.
        let j = h.justified x told in
        subst (λ (v : List Line). IsJustified x bound s v × AreJustifiedAges x bound ages v) (sym w.is)
        (justified_stay x bound s js w.added j.0, justified_ages_stay x bound ages js w.added j.1);
  }
