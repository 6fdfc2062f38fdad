-- Name after name.
use Rattle.std.specs.Prelude.{ℕ, ◌+◌, ◌<◌, List, [], ◌∷◌, ◌++◌, ◌≡◌, ◌⊎◌, length, slice_get, Some, None}
use Rattle.std.specs.List.{Contains}
use Rattle.std.proofs.Common.{refl, sym, ap, ◌∙◌, subst, arith, inl, inr, append-nil, append_assoc}
use Rattle.std.proofs.lemmas.Bool.{cases_eq}
use Rattle.std.proofs.lemmas.Option.{same_Some}
use Rattle.ae_base.specs.Relations.{Pairwise}
use Rattle.ae_base.proofs.Options.{never_some}
use Rattle.ae_base.proofs.Relations.{pairwise_push, pairwise_weaker}
use Rattle.ae_core.specs.Signatures.{IsLawful}
use Rattle.ae_core.specs.declared.problems.Problem.{Problem}
use Rattle.ae_core.specs.declared.problems.Signature.{Signature}
use Rattle.ae_core.specs.declared.proofs.ClauseLine.{ClauseLine}
use Rattle.ae_core.specs.declared.proofs.ClauseLine.TheVariants.{Exh}
use Rattle.ae_core.specs.declared.terms.Term.{Term}
use Rattle.ae_data.proofs.ExhaustionLaws.{line_states}
use Rattle.ae_rules.specs.Clauses.{Clause}
use Rattle.ae_rules.specs.Derivations.{conclusion, IsAllowed, AreAllowed}
use Rattle.ae_rules.specs.Instances.{exhaustion}
use Rattle.ae_journal.proofs.Splits.{contains_at}
use Rattle.ae_store.specs.Stores.{Stored}
use Rattle.ae_store.specs.Terms.{Keeps}
use Rattle.ae_theory.specs.Names.{terms_in}
use Rattle.ae_sat.specs.Standing.{IsOneOf}
use Rattle.ae_sat.proofs.Deriving.{allowed_join}
use Rattle.ae_sat.proofs.Learnt.{still_one, new_one}
use Rattle.ae_open_states.specs.Choices.{IsChoiceOf}
use Rattle.ae_goal_names.proofs.Joining.{as_many}
use Rattle.ae_choice_clauses.specs.Choices.{IsChoiceLine, a_choice, StatesChoice, AddsChoices}
use Rattle.ae_choice_clauses.specs.Inner.Added.{choices_at, NamesChoices, IsKept, left_out, with_clause, HasAdded}
use Rattle.ae_choice_clauses.proofs.Constructors.{choices_there}
use Rattle.ae_choice_clauses.proofs.Kept.{place_of, kept_in}

-- a term without constructors asks for no names
pub none_to_name : (sig : Signature) (u : Term) (s : Stored) → choices_at sig u ≡ None → NamesChoices sig u s s
none_to_name sig u s e = record { signature = refl; keeps = λ i t h. h; only = λ t c. inl c; named = λ t k. never_some k.heads (sym e ∙ choices_there sig u t k) }

module _ (sig : Signature) where
  pub none_added : (s : Stored) (ls : List ClauseLine) (cs : List Clause) → HasAdded sig 0 s s ls ls cs cs
  none_added s ls cs = record {
    more_lines = [];
    more = [];
    lines_are = sym (append-nil ls);
    clauses_are = sym (append-nil cs);
    states = tt;
    signature = refl;
    keeps = λ i t e. e;
    only = λ t c. inl c;
    named = λ i u t lt at k. absurd (omega (arith, lt));
    all = λ i u c lt at e. absurd (omega (arith, lt));
  }

  module _ (n : ℕ) (old mid new : Stored) (ls mls : List ClauseLine) (cs mcs : List Clause) (h : HasAdded sig n old mid ls mls cs mcs)
      (u : Term) (at : slice_get (terms_in old) n ≡ Some u) (names : NamesChoices sig u mid new) where
    same_term : (i : ℕ) (w : Term) → i ≡ n → slice_get (terms_in old) i ≡ Some w → w ≡ u
    same_term i w q e = same_Some w u (sym e ∙ ap (slice_get (terms_in old)) q ∙ at)

    keeps_so : Keeps (terms_in old) (terms_in new)
    keeps_so i t e = names.keeps i t (h.keeps i t e)

    only_so : (t : Term) → Contains (terms_in new) t → Contains (terms_in old) t ⊎ ((w : Term) × Contains (terms_in old) w × IsChoiceOf sig w t)
    only_so t c = elim (names.only t c) as (λ _. Contains (terms_in old) t ⊎ ((w : Term) × Contains (terms_in old) w × IsChoiceOf sig w t)) [
      | inl m ↦ h.only t m
      | inr k ↦ inr (u, contains_at (terms_in old) n u at, k)
    ]

    named_so : (i : ℕ) (w t : Term) → i < n + 1 → slice_get (terms_in old) i ≡ Some w → IsChoiceOf sig w t → Contains (terms_in new) t
    named_so i w t lt e k = elim (cases_eq i n) as (λ _. Contains (terms_in new) t) [
      | inl q ↦ names.named t (subst (λ (z : Term). IsChoiceOf sig z t) (same_term i w q e) k)
      | inr d ↦ kept_in (terms_in mid) (terms_in new) names.keeps t (h.named i w t (omega (arith, lt, d)) e k)
    ]

    all_out : exhaustion sig u ≡ None ⊎ IsChoiceOf sig u u → (i : ℕ) (w : Term) (c : Clause) → i < n + 1 → slice_get (terms_in old) i ≡ Some w → exhaustion sig w ≡ Some c → IsChoiceOf sig w w ⊎ IsOneOf mcs c
    all_out o i w c lt e x = elim (cases_eq i n) as (λ _. IsChoiceOf sig w w ⊎ IsOneOf mcs c) [
      | inl q ↦ elim o as (λ _. IsChoiceOf sig w w ⊎ IsOneOf mcs c) [
        | inl none ↦ never_some c (sym none ∙ ap (exhaustion sig) (sym (same_term i w q e)) ∙ x)
        | inr k ↦ inl (subst (λ (z : Term). IsChoiceOf sig z z) (sym (same_term i w q e)) k)
      ]
      | inr d ↦ h.all i w c (omega (arith, lt, d)) e x
    ]

    all_with : (d : Clause) → exhaustion sig u ≡ Some d → (i : ℕ) (w : Term) (c : Clause) → i < n + 1 → slice_get (terms_in old) i ≡ Some w → exhaustion sig w ≡ Some c → IsChoiceOf sig w w ⊎ IsOneOf (mcs ++ d ∷ []) c
    all_with d y i w c lt e x = elim (cases_eq i n) as (λ _. IsChoiceOf sig w w ⊎ IsOneOf (mcs ++ d ∷ []) c) [
      | inl q ↦ inr (subst (IsOneOf (mcs ++ d ∷ [])) (same_Some d c (sym y ∙ ap (exhaustion sig) (sym (same_term i w q e)) ∙ x)) (new_one mcs d))
      | inr a ↦ elim (h.all i w c (omega (arith, lt, a)) e x) as (λ _. IsChoiceOf sig w w ⊎ IsOneOf (mcs ++ d ∷ []) c) [
        | inl k ↦ inl k
        | inr o ↦ inr (still_one mcs d c o)
      ]
    ]

    pub one_more : (ls2 : List ClauseLine) (cs2 : List Clause) → IsKept sig u mls mcs ls2 cs2 → HasAdded sig (n + 1) old new ls ls2 cs cs2
    one_more _ _ (left_out o) = record {
      more_lines = h.more_lines;
      more = h.more;
      lines_are = h.lines_are;
      clauses_are = h.clauses_are;
      states = h.states;
      signature = names.signature ∙ h.signature;
      keeps = keeps_so;
      only = only_so;
      named = named_so;
      all = all_out o;
    }
    one_more _ _ (with_clause c e) = record {
      more_lines = h.more_lines ++ Exh u ∷ [];
      more = h.more ++ c ∷ [];
      lines_are = ap (λ (zs : List ClauseLine). zs ++ Exh u ∷ []) h.lines_are ∙ append_assoc ls h.more_lines (Exh u ∷ []);
      clauses_are = ap (λ (zs : List Clause). zs ++ c ∷ []) h.clauses_are ∙ append_assoc cs h.more (c ∷ []);
      states = pairwise_push (IsChoiceLine sig (terms_in old)) h.more_lines h.more (Exh u) c h.states (a_choice u c (contains_at (terms_in old) n u at) e);
      signature = names.signature ∙ h.signature;
      keeps = keeps_so;
      only = only_so;
      named = named_so;
      all = all_with c e;
    }

module _ (p : Problem) (g : ℕ) (ts : List Term) where
  choice_allowed : (earlier : List ClauseLine) (l : ClauseLine) (c : Clause) → IsChoiceLine p.signature ts l c → conclusion p g l ≡ Some c → IsAllowed p g earlier l
  choice_allowed earlier _ c (a_choice t _ i e) w = ((c, w), tt)

  all_allowed : (earlier ms : List ClauseLine) (cs : List Clause) → Pairwise (StatesChoice p g ts) ms cs → AreAllowed p g [] earlier → AreAllowed p g [] (earlier ++ ms)
  all_allowed earlier [] cs h a = subst (AreAllowed p g []) (sym (append-nil earlier)) a
  all_allowed earlier (m ∷ ms) [] h a = absurd h
  all_allowed earlier (m ∷ ms) (c ∷ cs) h a =
      subst (AreAllowed p g []) (append_assoc earlier (m ∷ []) ms)
      (all_allowed (earlier ++ m ∷ []) ms cs h.1 (allowed_join p g [] earlier m a (choice_allowed earlier m c (h.0).0 (h.0).1)))

  choice_stated : IsLawful p.signature → (l : ClauseLine) (c : Clause) → IsChoiceLine p.signature ts l c → StatesChoice p g ts l c
  choice_stated law _ c (a_choice t _ i e) = (a_choice t c i e, line_states p.signature law t p g refl ∙ e)

-- what was added for all names
pub adds : (p : Problem) (g : ℕ) → IsLawful p.signature → (old new : Stored) (ls ls2 : List ClauseLine) (cs cs2 : List Clause) → HasAdded p.signature (length old.nodes) old new ls ls2 cs cs2
    → AddsChoices p g old new ls ls2 cs cs2
adds p g law old new ls ls2 cs cs2 h =
    let states : Pairwise (StatesChoice p g (terms_in old)) h.more_lines h.more =
    pairwise_weaker (IsChoiceLine p.signature (terms_in old)) (StatesChoice p g (terms_in old)) (choice_stated p g (terms_in old) law) h.more_lines h.more h.states in
    record {
      more_lines = h.more_lines;
      more = h.more;
      lines_are = h.lines_are;
      clauses_are = h.clauses_are;
      states = states;
      signature = h.signature;
      keeps = h.keeps;
      only = h.only;
      named = λ u t c k. h.named c.0 u t (let w = c.1 in omega (arith, w, as_many old)) (place_of (terms_in old) u c) k;
      all = λ u d c e. h.all c.0 u d (let w = c.1 in omega (arith, w, as_many old)) (place_of (terms_in old) u c) e;
      allowed = λ a. subst (AreAllowed p g []) (sym h.lines_are) (all_allowed p g (terms_in old) ls h.more_lines h.more states a);
    }
