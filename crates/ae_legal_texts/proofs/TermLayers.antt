-- Each layer of a term has a text where its parts have.
use Rattle.std.specs.Prelude.{ℕ, suc, ℤ, ◌^◌, ◌<◌, ◌≡◌, ◌⊎◌, Bool, true, false, IsTrue, List, [], ◌∷◌, ◌++◌, length}
use Rattle.std.specs.List.{AllByRecursion, flat_map}
use Rattle.std.proofs.Common.{refl, sym, ap, ◌∙◌, subst, arith, inl, inr}
use Rattle.std.proofs.lemmas.List.Folds.{flat_map-map}
use Rattle.ae_base.proofs.Tests.{true_false}
use Rattle.ae_codes.specs.Closers.{Close, closers, by_blank, by_bracket, round, square}
use Rattle.ae_codes.specs.Codes.{Code, both, one, mapped, words}
use Rattle.ae_codes.specs.Names.{Listed, Proper, names, closing}
use Rattle.ae_codes.specs.Plans.{fixed, known as known_plan, inside, sequence, choice, sends}
use Rattle.ae_codes.specs.Rows.{alone}
use Rattle.ae_core.specs.Sorts.{numeral_ok}
use Rattle.ae_core.proofs.Recursion.{fold_bound, fold_num, fold_fresh, fold_apply}
use Rattle.ae_core.specs.declared.problems.Signature.{Signature}
use Rattle.ae_core.specs.declared.terms.Sort.{Sort, Int}
use Rattle.ae_core.specs.declared.terms.Term.{Term, Term-F, Bound, Num, Fresh, Apply, roll-Term, out-Term, roll-out-Term}
use Rattle.ae_core.specs.declared.terms.Term.TheOpen as layer
use Rattle.ae_core.specs.declared.terms.Term.TheVariants.{outs-Bound, outs-Num, outs-Fresh, outs-Apply}
use Rattle.ae_core.specs.declared.terms.Head.{Head}
use Rattle.ae_prooftext.specs.Grammar.{sort_code}
use Rattle.ae_prooftext.specs.Words.{head_word, takes_sorts, head_of, lone_head_of}
use Rattle.ae_prooftext.specs.WordLaws.{at_real, same_takes}
use Rattle.ae_prooftext.specs.SortTexts.{above_round, fine, blank}
use Rattle.ae_prooftext.specs.TermTexts.{term_shape, term_sure, term_inside, inside_shaped, TermValue, above_square, head_fine, bracket_table, lone_table, arguments, term_arguments, raw_term, term}
use Rattle.ae_prooftext.specs.TermTexts.{term_is_shaped, term_layer_fits, term_layer_of, term_end_of, term_from_layer, applied_from, term_to, first_real, sort_plan, sort_plan_shaped, sort_plan_begins}
use Rattle.ae_prooftext.specs.Numbers.{Numeral, numeral_from, numerals}
use Rattle.ae_legal_texts.specs.Numbers.{Number, count, numeral, IsWithin, sort_numbers, term_numbers, term_numbers_step}
use Rattle.ae_legal_texts.proofs.Closing.{ClosesNoName}
use Rattle.ae_legal_texts.proofs.Sorts.{count_fits}
use Rattle.ae_legal_texts.proofs.Lists.{some_has, following_has, listing_has}
use Rattle.ae_legal_texts.proofs.Numerals.{stands, numeral_fits, numeral_comes, numeral_last}

-- ---- numbers
pub numbers_bound : (n : ℕ) → term_numbers (Bound n) ≡ count n ∷ []
unfolding term_numbers
numbers_bound n = fold_bound (List Number) term_numbers_step n

pub numbers_num : (a b : ℤ) (r : Bool) → term_numbers (Num a b r) ≡ numeral a b ∷ []
unfolding term_numbers
numbers_num a b r = fold_num (List Number) term_numbers_step a b r

pub numbers_fresh : (n : ℕ) (s : Sort) → term_numbers (Fresh n s) ≡ count n ∷ sort_numbers s
unfolding term_numbers
numbers_fresh n s = fold_fresh (List Number) term_numbers_step n s

pub numbers_apply : (h : Head) (ss : List Sort) (us : List Term) → term_numbers (Apply h ss us) ≡ flat_map sort_numbers ss ++ flat_map term_numbers us
unfolding term_numbers
numbers_apply h ss us = fold_apply (List Number) term_numbers_step h ss us ∙ ap (λ z. flat_map sort_numbers ss ++ z) (flat_map-map (λ u. u) term_numbers us)

-- ---- how an application may be written: in brackets by a word that names its head, with arguments where no sorts stand behind it
pub record InBrackets (sig : Signature) (real : Term → Bool) (h : Head) (ss : List Sort) (us : List Term) : Type 0 where
  pub back : at_real (first_real sig real us) (head_of sig (head_word sig h)) ≡ h
  pub listed : Listed (bracket_table sig) (head_word sig h)
  pub proper : Proper head_fine (bracket_table sig) blank (head_word sig h)
  pub plain : takes_sorts sig h ≡ false → (ss ≡ []) × (t : Term) × (ts : List Term) × (us ≡ t ∷ ts)

-- or alone
pub record Alone (sig : Signature) (h : Head) (ss : List Sort) (us : List Term) : Type 0 where
  pub plain : takes_sorts sig h ≡ false
  pub no_sorts : ss ≡ []
  pub no_terms : us ≡ []
  pub back : lone_head_of sig (head_word sig h) ≡ h
  pub listed : Listed (lone_table sig) (head_word sig h)
  pub proper : (k : Close) → ClosesNoName k → Proper fine (lone_table sig) (closers k.one k.two) (head_word sig h)

module _ (sig : Signature) (real : Term → Bool) (k : Close) where
  abbrev raw : Code TermValue
  raw = (raw_term sig real k).make (term sig real) (term_is_shaped sig real)

  -- a layer that has a text and comes back
  layer_fits : (t : Term) (l : Term-F Term) (e : ℕ) → out-Term t ≡ l → raw.Fits (term_from_layer sig real l e) → term_layer_of sig real (term_from_layer sig real l e) ≡ l
      → term_end_of sig real (term_from_layer sig real l e) ≡ e → (term sig real k).Fits (t, e)
  unfolding sends mapped
  layer_fits t l e o f b g =
      term_layer_fits sig real k (t, e) (
        subst (λ y. raw.Fits (term_from_layer sig real y e)) (sym o) f,
        ap (λ y. term_to sig real (term_from_layer sig real y e)) o ∙ (λ i. (roll-Term (b i), g i)) ∙ ap (λ y. (roll-Term y, e)) (sym o) ∙ ap (λ z. (z, e)) (roll-out-Term t),
      )

  -- ---- leaves
  bound_has : (n e : ℕ) → n < 2 ^ 64 → IsTrue (closers k.one k.two e) → raw.Fits (inr (inl (tt, (n, e))))
  unfolding choice fixed one both alone words
  bound_has n e l c = (refl, count_fits k n e l c)

  numeral_has : (v : _) → (numerals k).Fits v → raw.Fits (inr (inr (inl v)))
  unfolding choice fixed one
  numeral_has v f = f

  word_has : (w : List ℕ) (e : ℕ) → Listed (lone_table sig) w → Proper fine (lone_table sig) (closers k.one k.two) w → IsTrue (closers k.one k.two e) → raw.Fits (inr (inr (inr (w, e))))
  unfolding choice fixed one names words
  word_has w e i p c = record { listed = i; clean = p; closed = c }

  -- ---- brackets
  fresh_has : (n : ℕ) (s : Sort) (e : ℕ) → n < 2 ^ 64 → (sort_code sig by_bracket).Fits (s, 41) → IsTrue (closers k.one k.two e) → raw.Fits (inl (tt, (inl (tt, ((n, 32), (s, 41))), e)))
  unfolding choice sequence fixed one both alone words closing by_blank
  fresh_has n s e l f c = (refl, ((refl, (count_fits by_blank n 32 l refl, f)), c))

  bracket_has : (w : List ℕ) (ss : List Sort) (us : List Term) (e : ℕ) → Listed (bracket_table sig) w → Proper head_fine (bracket_table sig) blank w
      → ((term_arguments sig real (takes_sorts sig (head_of sig w))).make (term sig real) (term_is_shaped sig real)).Fits (ss, us) → IsTrue (closers k.one k.two e) → raw.Fits (inl (tt, (inr ((w, 32), (ss, us)), e)))
  unfolding choice sequence fixed one both alone words names closing
  bracket_has w ss us e i p f c = (refl, ((record { listed = i; clean = p; closed = refl }, f), c))

  abbrev SortItem : Sort → Type 0
  SortItem s = (sort_code sig square).Fits (s, 32) × (sort_code sig square).Fits (s, 93)

  abbrev TermItem : Term → Type 0
  TermItem t = (term sig real round).Fits (t, 32) × (term sig real round).Fits (t, 41)

  sorted_has : (ss : List Sort) (us : List Term) → AllByRecursion SortItem ss → AllByRecursion TermItem us → ((term_arguments sig real true).make (term sig real) (term_is_shaped sig real)).Fits (ss, us)
  unfolding arguments sends mapped sequence both fixed alone words known_plan inside
  sorted_has ss us a b = (
    (
      refl,
      (
        listing_has term_shape term_sure 93 above_square (sort_plan sig term_shape term_sure) Int (sort_plan_shaped sig term_shape term_sure) (term sig real) (term_is_shaped sig real) (sort_plan_begins sig term_shape term_sure) ss a,
        following_has term_shape term_sure 41 above_round (term_inside sig real) (Bound 0) (inside_shaped sig real) (term sig real) (term_is_shaped sig real) us b,
      ),
    ),
    refl,
  )

  unsorted_has : (u : Term) (us : List Term) → AllByRecursion TermItem (u ∷ us) → ((term_arguments sig real false).make (term sig real) (term_is_shaped sig real)).Fits ([], u ∷ us)
  unfolding arguments sends mapped inside
  unsorted_has u us b = (some_has term_shape term_sure 41 above_round (term_inside sig real) (Bound 0) (inside_shaped sig real) (term sig real) (term_is_shaped sig real) u us b, refl)

  -- ---- applications
  abbrev Written : Bool → Head → List Sort → List Term → ℕ → Type 0
  Written t h ss us e =
      raw.Fits (applied_from sig real t h ss us e) × (term_layer_of sig real (applied_from sig real t h ss us e) ≡ layer.Apply h ss us) × (term_end_of sig real (applied_from sig real t h ss us e) ≡ e)

  same_test : (h : Head) (ss : List Sort) (us : List Term) → InBrackets sig real h ss us → takes_sorts sig (head_of sig (head_word sig h)) ≡ takes_sorts sig h
  same_test h ss us b = sym (same_takes sig (first_real sig real us) (head_of sig (head_word sig h))) ∙ ap (takes_sorts sig) b.back

  in_brackets : (t : Bool) (h : Head) (ss : List Sort) (us : List Term) (e : ℕ) → takes_sorts sig h ≡ t → InBrackets sig real h ss us → AllByRecursion SortItem ss → AllByRecursion TermItem us
      → IsTrue (closers k.one k.two e) → Written t h ss us e
  in_brackets true h ss us e q b x y c = (
    bracket_has (head_word sig h) ss us e b.listed b.proper (subst (λ z. ((term_arguments sig real z).make (term sig real) (term_is_shaped sig real)).Fits (ss, us)) (sym (same_test h ss us b ∙ q)) (sorted_has ss us x y)) c,
    ap (λ z. layer.Apply z ss us) b.back,
    refl,
  )
  in_brackets false h ss [] e q b x y c = let p = b.plain q in let l : 0 ≡ suc (length p.2) = ap length p.3 in absurd (omega (arith, l))
  in_brackets false h ss (u ∷ us) e q b x y c = (
    bracket_has (head_word sig h) ss (u ∷ us) e b.listed b.proper
        (subst (λ z. ((term_arguments sig real z).make (term sig real) (term_is_shaped sig real)).Fits (ss, u ∷ us)) (sym (same_test h ss (u ∷ us) b ∙ q))
        (subst (λ z. ((term_arguments sig real false).make (term sig real) (term_is_shaped sig real)).Fits (z, u ∷ us)) (sym (b.plain q).0) (unsorted_has u us y))) c,
    ap (λ z. layer.Apply z ss (u ∷ us)) b.back,
    refl,
  )

  stands_alone : (t : Bool) (h : Head) (ss : List Sort) (us : List Term) (e : ℕ) → takes_sorts sig h ≡ t → ss ≡ [] → us ≡ [] → Alone sig h ss us → ClosesNoName k → IsTrue (closers k.one k.two e) → Written t h ss us e
  stands_alone true h ss us e q p r a n c = true_false (sym q ∙ a.plain)
  stands_alone false h ss us e q p r a n c =
      subst (λ z. Written false h z us e) (sym p) (subst (λ z. Written false h [] z e) (sym r) (word_has (head_word sig h) e a.listed (a.proper k n) c, ap (λ z. layer.Apply z [] []) a.back, refl))

  pub apply_fits : (h : Head) (ss : List Sort) (us : List Term) (e : ℕ) → InBrackets sig real h ss us ⊎ Alone sig h ss us → AllByRecursion SortItem ss → AllByRecursion TermItem us
      → ClosesNoName k → IsTrue (closers k.one k.two e) → (term sig real k).Fits (Apply h ss us, e)
  apply_fits h ss us e (inl b) x y n c = let w = in_brackets (takes_sorts sig h) h ss us e refl b x y c in layer_fits (Apply h ss us) (layer.Apply h ss us) e (outs-Apply h ss us) w.0 w.1 w.2
  apply_fits h ss us e (inr a) x y n c = let w = stands_alone (takes_sorts sig h) h ss us e refl a.no_sorts a.no_terms a n c in layer_fits (Apply h ss us) (layer.Apply h ss us) e (outs-Apply h ss us) w.0 w.1 w.2

  pub bound_fits : (n e : ℕ) → n < 2 ^ 64 → IsTrue (closers k.one k.two e) → (term sig real k).Fits (Bound n, e)
  bound_fits n e l c = layer_fits (Bound n) (layer.Bound n) e (outs-Bound n) (bound_has n e l c) refl refl

  pub fresh_fits : (n : ℕ) (s : Sort) (e : ℕ) → n < 2 ^ 64 → (sort_code sig by_bracket).Fits (s, 41) → IsTrue (closers k.one k.two e) → (term sig real k).Fits (Fresh n s, e)
  fresh_fits n s e l f c = layer_fits (Fresh n s) (layer.Fresh n s) e (outs-Fresh n s) (fresh_has n s e l f c) refl refl

  pub num_fits : (a b : ℤ) (r : Bool) (e : ℕ) → numeral_ok a b r ≡ true → IsWithin (numeral a b) → closers k.one k.two 47 ≡ false → IsTrue (closers k.one k.two e) → (term sig real k).Fits (Num a b r, e)
  num_fits a b r e o g n c =
      let m = stands a b r o g in
      layer_fits (Num a b r) (layer.Num a b r) e (outs-Num a b r) (numeral_has (numeral_from a b r e) (numeral_fits k n a b r e m.size (m.plain k n) c))
      (ap (λ (v : Numeral). layer.Num v.top v.bottom v.real) (numeral_comes a b r e m.bottom)) (numeral_last a b r e)
