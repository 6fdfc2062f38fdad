-- Constructors that are seen one after another, one for each representative.
use Rattle.std.specs.Prelude.{ℕ, ◌+◌, ◌<◌, List, [], ◌≡◌, length, get_or, Option, Some, None}
use Rattle.std.specs.List.{AllByRecursion}
use Rattle.std.proofs.Common.{refl, sym, ap, ◌∙◌, subst, arith, set, inl, inr}
use Rattle.std.proofs.lemmas.Bool.{cases_lt}
use Rattle.std.proofs.lemmas.List.{length-map, length-set, get_or-set_same, get_or-set_other, get_or_past}
use Rattle.std.proofs.lemmas.Option.{same_Some, none-some, slice_get_within, slice_get-get_or}
use Rattle.ae_base.proofs.AllOf.{all_at}
use native.Mathlib.Decide.{ℕ_discrete}
use Rattle.ae_core.specs.declared.problems.Signature.{Signature}
use Rattle.ae_core.specs.declared.terms.Head.{Head}
use Rattle.ae_core.specs.declared.terms.Term.{Term, Term-F, Apply, out-Term}
use Rattle.ae_core.specs.declared.terms.Term.TheOpen as layer
use Rattle.ae_core.specs.declared.terms.Term.TheVariants.{outs-Apply}
use Rattle.ae_store.specs.declared.nodes.Node.{Node}
use Rattle.ae_store.specs.Shapes.{shapes, shape_of}
use Rattle.ae_store.specs.Terms.{terms}
use Rattle.ae_store.proofs.TermLaws.{length_terms}
use Rattle.ae_data.specs.Constructors.{NamesConstructor, AreDifferentConstructors}
use Rattle.ae_sweeps.specs.Given.{rep_in}
use Rattle.ae_literals.specs.Inner.Seen.{IsConstructors, HasSeen, AreSeen}

apply_heads : (h k : Head) → Apply h [] [] ≡ Apply k [] [] → h ≡ k
apply_heads h k e = let f : ◌≡◌ {A = Term-F Term} (layer.Apply h [] []) (layer.Apply k [] []) = sym (outs-Apply h [] []) ∙ ap out-Term e ∙ outs-Apply k [] [] in cc f

module _ (sig : Signature) (nodes : List Node) (rep : ℕ → ℕ) where
  abbrev ts : List Term
  ts = terms (shapes nodes)

  not_itself : (n : ℕ) → ¬ AreDifferentConstructors sig ts n n
  not_itself n d =
      d.differ (apply_heads d.first d.second (same_Some (Apply d.first [] []) (Apply d.second [] []) (sym (d.left_names).term ∙ (d.right_names).term)))

  pub none_seen : (seen : List (Option ℕ)) → ((r : ℕ) → get_or seen r None ≡ None) → length seen ≡ length nodes → AreSeen sig nodes rep seen 0
  none_seen seen h n = record { size = n; each = λ k l. absurd (omega (arith, l)); only = λ r m e. absurd (none-some m (sym (h r) ∙ e)) }

  module _ (seen : List (Option ℕ)) (name : ℕ) (were : AreSeen sig nodes rep seen name) where
    pub skipped : (IsConstructors sig nodes name → ⊥) → AreSeen sig nodes rep seen (name + 1)
    skipped none = record { size = were.size; each = each; only = were.only }
      where
        by_name : (n : ℕ) → n < name + 1 → IsConstructors sig nodes n → Dec (n ≡ name) → HasSeen sig nodes rep seen n
        by_name n l c (yes e) = absurd (none (subst (IsConstructors sig nodes) e c))
        by_name n l c (no e) = were.each n (omega (arith, l, e)) c

        each : (n : ℕ) → n < name + 1 → IsConstructors sig nodes n → HasSeen sig nodes rep seen n
        each n l c = by_name n l c (ℕ_discrete n name)

    pub seen_again : (first : ℕ) → get_or seen (rep name) None ≡ Some first → (AreDifferentConstructors sig ts first name → ⊥) → AreSeen sig nodes rep seen (name + 1)
    seen_again first is same = record { size = were.size; each = each; only = were.only }
      where
        this : HasSeen sig nodes rep seen name
        this = record { name = first; is = is; constructors = (were.only (rep name) first is).1; same = same }

        by_name : (n : ℕ) → n < name + 1 → IsConstructors sig nodes n → Dec (n ≡ name) → HasSeen sig nodes rep seen n
        by_name n l c (yes e) = subst (HasSeen sig nodes rep seen) (sym e) this
        by_name n l c (no e) = were.each n (omega (arith, l, e)) c

        each : (n : ℕ) → n < name + 1 → IsConstructors sig nodes n → HasSeen sig nodes rep seen n
        each n l c = by_name n l c (ℕ_discrete n name)

    pub mixed : (first : ℕ) → get_or seen (rep name) None ≡ Some first → rep first ≡ rep name
    mixed first is = (were.only (rep name) first is).0

    module _ (none : get_or seen (rep name) None ≡ None) (below : rep name < length nodes) (constructor : IsConstructors sig nodes name) where
      abbrev after : List (Option ℕ)
      after = set seen (rep name) (Some name)

      here : get_or after (rep name) None ≡ Some name
      here = let l : rep name < length seen = omega (arith, below, were.size) in get_or-set_same seen (rep name) (Some name) None l

      elsewhere : (r : ℕ) → (r ≡ rep name → ⊥) → get_or after r None ≡ get_or seen r None
      elsewhere r d = get_or-set_other seen (rep name) r (Some name) None d

      pub noted : AreSeen sig nodes rep after (name + 1)
      noted = record { size = length-set seen (rep name) (Some name) ∙ were.size; each = each; only = only }
        where
          kept : (n : ℕ) → HasSeen sig nodes rep seen n → HasSeen sig nodes rep after n
          kept n h =
              record {
                name = h.name;
                is = elsewhere (rep n) (λ e. none-some h.name (sym none ∙ ap (λ r. get_or seen r None) (sym e) ∙ h.is)) ∙ h.is;
                constructors = h.constructors;
                same = h.same;
              }

          by_name : (n : ℕ) → n < name + 1 → IsConstructors sig nodes n → Dec (n ≡ name) → HasSeen sig nodes rep after n
          by_name n l c (yes e) = subst (HasSeen sig nodes rep after) (sym e) (record { name = name; is = here; constructors = constructor; same = not_itself name })
          by_name n l c (no e) = kept n (were.each n (omega (arith, l, e)) c)

          each : (n : ℕ) → n < name + 1 → IsConstructors sig nodes n → HasSeen sig nodes rep after n
          each n l c = by_name n l c (ℕ_discrete n name)

          at_rep : (r m : ℕ) → get_or after r None ≡ Some m → Dec (r ≡ rep name) → (rep m ≡ r) × IsConstructors sig nodes m
          at_rep r m e (yes f) =
              let z : name ≡ m = same_Some name m (sym here ∙ ap (λ k. get_or after k None) (sym f) ∙ e) in
              (ap rep (sym z) ∙ sym f, subst (IsConstructors sig nodes) z constructor)
          at_rep r m e (no f) = were.only r m (sym (elsewhere r f) ∙ e)

          only : (r m : ℕ) → get_or after r None ≡ Some m → (rep m ≡ r) × IsConstructors sig nodes m
          only r m e = at_rep r m e (ℕ_discrete r (rep name))

  -- ---- where all were seen, no two different constructors have one representative
  named_within : (n : ℕ) (h : Head) → NamesConstructor sig ts n h → n < length nodes
  named_within n h c =
      let l : n < length ts = slice_get_within ts n (Apply h [] []) c.term in
      let k : length ts ≡ length nodes = length_terms (shapes nodes) ∙ length-map nodes shape_of in
      omega (arith, l, k)

  pub constructor_within : (n : ℕ) → IsConstructors sig nodes n → n < length nodes
  constructor_within n c = named_within n c.0 c.1

  pub none_mixed : (seen : List (Option ℕ)) → AreSeen sig nodes rep seen (length nodes) → (m n : ℕ) → AreDifferentConstructors sig ts m n → rep m ≡ rep n → ⊥
  none_mixed seen all m n d same =
      let a = all.each m (named_within m d.first d.left_names) (d.first, d.left_names) in
      let b = all.each n (named_within n d.second d.right_names) (d.second, d.right_names) in
      let one : a.name ≡ b.name = same_Some a.name b.name (sym a.is ∙ ap (λ r. get_or seen r None) same ∙ b.is) in
      let h : Head = (a.constructors).0 in
      let names_a : NamesConstructor sig ts a.name h = (a.constructors).1 in
      let names_b : NamesConstructor sig ts b.name h = subst (λ k. NamesConstructor sig ts k h) one names_a in
      let unless : h ≡ d.first → h ≡ d.second → ⊥ = λ e f. d.differ (sym e ∙ f) in
      let second : h ≡ d.first → ⊥ = λ e. b.same (record { first = h; second = d.second; left_names = names_b; right_names = d.right_names; differ = unless e }) in
      a.same (record { first = h; second = d.first; left_names = names_a; right_names = d.left_names; differ = second })

-- ---- representatives
pub rep_below : (n : ℕ) (reps : List ℕ) (name : ℕ) → AllByRecursion (λ r. r < n) reps → name < n → rep_in reps name < n
rep_below n reps name a l = elim (cases_lt name (length reps)) [
  | inl b ↦ all_at (λ r. r < n) reps name (rep_in reps name) a (slice_get-get_or reps name name b)
  | inr b ↦ subst (λ r. r < n) (sym (get_or_past reps name name b)) l
]

-- ---- options
pub is_none : {A : Type 0} (o : Option A) → ((a : A) → o ≡ Some a → ⊥) → o ≡ None
is_none None n = refl
is_none (Some a) n = absurd (n a refl)
