-- How a well sorted application may be written: by which word, and whether in brackets.
use Rattle.std.specs.Prelude.{ℕ, zero, suc, ◌<◌, ◌≡◌, ◌≢◌, ◌⊎◌, Bool, true, false, ◌&&◌, not, nat_eq, List, [], ◌∷◌, map, length, slice_get, Option, Some, None}
use Rattle.std.proofs.Common.{refl, sym, ap, ◌∙◌, subst, arith, inl, inr}
use Rattle.std.proofs.lemmas.Bool.{and_parts, eqb-true, ne_eqb}
use Rattle.std.proofs.lemmas.List.{nil_from_length}
use Rattle.std.proofs.lemmas.Option.{none-some}
use Rattle.ae_base.specs.Options.{or_else, ◌>>=◌, only, when, all_known}
use Rattle.ae_base.proofs.Decided.{decided_yes, decided_of, decided_not}
use Rattle.ae_base.proofs.Options.{bind_some, only_some, when_some, known_each}
use Rattle.ae_base.proofs.ListFacts.{cons_head}
use Rattle.ae_base.proofs.Tests.{true_false, three_parts}
use Rattle.ae_codes.specs.Closers.{Close, closers}
use Rattle.ae_codes.specs.Names.{Listed, Clean, Proper}
use Rattle.ae_core.specs.Decided.{Sort_discrete, Sorts_discrete}
use Rattle.ae_core.specs.Putting.{put_sort}
use Rattle.ae_core.specs.Signatures.{IsLawful, IsLawfulType, fields_of}
use Rattle.ae_core.specs.Sorts.{same_known, sort_in, is_closed_sort, head_sort, same_sorts, operands, on_real, symbol_sort, record_sort, field_sort, field_at}
use Rattle.ae_core.specs.declared.problems.Signature.{Signature}
use Rattle.ae_core.specs.declared.problems.SymbolEntry.{SymbolEntry}
use Rattle.ae_core.specs.declared.problems.TypeEntry.{TypeEntry}
use Rattle.ae_core.specs.declared.problems.FieldEntry.{FieldEntry}
use Rattle.ae_core.specs.declared.problems.Kind.{Kind}
use Rattle.ae_core.specs.declared.problems.Kind.TheVariants.{Abstract, Choices, Fields}
use Rattle.ae_core.specs.declared.terms.Sort.{Sort, Sort-F, Int, Real, Bool as BoolSort, Unit as UnitSort, Named, out-Sort}
use Rattle.ae_core.specs.declared.terms.Sort.TheOpen as sort_layer
use Rattle.ae_core.specs.declared.terms.Sort.TheVariants.{outs-Int, outs-Real}
use Rattle.ae_core.specs.declared.terms.Term.{Term}
use Rattle.ae_core.specs.declared.terms.Head.{Head}
use Rattle.ae_core.specs.declared.terms.Head.TheVariants as head
use Rattle.ae_core.specs.declared.terms.Op.{Op}
use Rattle.ae_core.specs.declared.terms.Op.TheVariants as op
use Rattle.ae_prooftext.specs.Grammar.{is_real}
use Rattle.ae_prooftext.specs.Words.{head_word, takes_sorts, has_variables, has_parameters, head_of, lone_heads}
use Rattle.ae_prooftext.specs.WordLaws.{at_real}
use Rattle.ae_prooftext.specs.SortTexts.{blank, fine}
use Rattle.ae_prooftext.specs.TermTexts.{first_real, lone_table, bracket_table, head_fine}
use Rattle.ae_legal_texts.proofs.Named.{symbol_named}
use Rattle.ae_legal_texts.proofs.Closing.{ClosesNoName}
use Rattle.ae_legal_texts.proofs.Sorts.{proper_name}
use Rattle.ae_legal_texts.proofs.Heads.{Declared}
use Rattle.ae_legal_texts.proofs.Worded.{symbol_name_is, head_named, head_listed, head_proper, lone_head_listed, lone_head_back, true_back, false_back, void_back}
use Rattle.ae_legal_texts.proofs.TermLayers.{InBrackets, Alone}

-- ---- an operation on `real`
real_symbol : (b : Bool) (n : ℕ) → at_real b (head.Symbol n) ≡ head.Symbol n
real_symbol true n = refl
real_symbol false n = refl

real_build : (b : Bool) (n : ℕ) → at_real b (head.Build n) ≡ head.Build n
real_build true n = refl
real_build false n = refl

real_field : (b : Bool) (n p : ℕ) → at_real b (head.Field n p) ≡ head.Field n p
real_field true n p = refl
real_field false n p = refl

int_apart : Int ≡ Real → ⊥
int_apart e = let q : ◌≡◌ {A = Sort-F Sort} sort_layer.Int sort_layer.Real = sym outs-Int ∙ ap out-Sort e ∙ outs-Real in cc

-- ---- what kind of type a record's head says
module _ {A : Type 0} (F : List FieldEntry → Option A) where
  abbrev by_fields : Kind → Option A
  by_fields k = elim k as (λ _. Option A) [ Fields fs ↦ F fs | Abstract ↦ None | Choices cs ↦ None ]

  fields_there : (k : Kind) (s : A) → by_fields k ≡ Some s → (fs : List FieldEntry) × (k ≡ Fields fs) × (F fs ≡ Some s)
  fields_there Abstract s h = absurd (none-some s h)
  fields_there (Choices cs) s h = absurd (none-some s h)
  fields_there (Fields fs) s h = (fs, refl, h)

fields_are : (e : TypeEntry) (fs : List FieldEntry) → e.kind ≡ Fields fs → fields_of e ≡ fs
fields_are e fs q = ap (λ (k : Kind). elim k as (λ _. List FieldEntry) [ Fields fs ↦ fs | Abstract ↦ [] | Choices cs ↦ [] ]) q

no_zero : (n : ℕ) → not (nat_eq n 0) ≡ false → n ≡ 0
no_zero zero h = refl
no_zero (suc n) h = let q : nat_eq (suc n) 0 ≡ false = ne_eqb (suc n) 0 (λ e. omega (arith, e)) in true_false (sym (ap not q) ∙ h)

-- with no type variables there are no sorts
pub no_sorts : (ss : List Sort) (n : ℕ) → length ss ≡ n → not (nat_eq n 0) ≡ false → ss ≡ []
no_sorts ss n l h = nil_from_length ss (l ∙ no_zero n h)

map_none : {X Y : Type 0} (f : X → Y) (xs : List X) → map f xs ≡ [] → xs ≡ []
map_none f [] e = refl
map_none f (x ∷ xs) e = let l : suc (length (map f xs)) ≡ 0 = ap length e in absurd (omega (arith, l))

module _ (sig : Signature) (lawful : IsLawful sig) (env : List Sort) where
  abbrev sort_here : Term → Option Sort
  sort_here = sort_in sig (is_closed_sort sig) env

  abbrev real : Term → Bool
  real = is_real sig env

  -- the arguments have these sorts
  abbrev Sorted : List Term → List Sort → Type 0
  Sorted us args = map sort_here us ≡ map Some args

  some_terms : (us : List Term) (a : Sort) (args : List Sort) → Sorted us (a ∷ args) → (t : Term) × (ts : List Term) × (us ≡ t ∷ ts) × (sort_here t ≡ Some a)
  some_terms [] a args q = let l : 0 ≡ suc (length (map Some args)) = ap length q in absurd (omega (arith, l))
  some_terms (t ∷ ts) a args q = (t, ts, refl, cons_head (sort_here t) (Some a) _ _ q)

  no_terms : (us : List Term) → Sorted us [] → us ≡ []
  no_terms us q = map_none sort_here us q

  nonempty : (us : List Term) (args : List Sort) → Sorted us args → args ≢ [] → (t : Term) × (ts : List Term) × (us ≡ t ∷ ts)
  nonempty us [] q m = absurd (m refl)
  nonempty us (a ∷ args) q m = let r = some_terms us a args q in (r.0, r.1, r.2)

  -- ---- symbols
  abbrev Way : Head → List Sort → List Term → Type 0
  Way h ss us = InBrackets sig real h ss us ⊎ Alone sig h ss us

  variables_are : (n : ℕ) (e : SymbolEntry) → slice_get sig.symbols n ≡ Some e → takes_sorts sig (head.Symbol n) ≡ not (nat_eq e.vars 0)
  unfolding takes_sorts
  variables_are n e g = ap (λ (o : Option SymbolEntry). or_else (o >>= λ e. Some (not (nat_eq e.vars 0))) false) g

  variables_test : (n : ℕ) → takes_sorts sig (head.Symbol n) ≡ has_variables sig n
  unfolding takes_sorts
  variables_test n = refl

  symbol_brackets : (n : ℕ) (e : SymbolEntry) (ss : List Sort) (us : List Term) → slice_get sig.symbols n ≡ Some e
      → (takes_sorts sig (head.Symbol n) ≡ false → (ss ≡ []) × (t : Term) × (ts : List Term) × (us ≡ t ∷ ts)) → InBrackets sig real (head.Symbol n) ss us
  symbol_brackets n e ss us g p = record {
    back = ap (at_real (first_real sig real us)) (head_named sig lawful (head.Symbol n) (e, g)) ∙ real_symbol (first_real sig real us) n;
    listed = head_listed sig lawful (head.Symbol n) (e, g);
    proper = head_proper sig lawful (head.Symbol n) (e, g);
    plain = p;
  }

  alone_proper : (n : ℕ) (e : SymbolEntry) → slice_get sig.symbols n ≡ Some e → (w : List ℕ) → w ≡ e.name → (k : Close) → ClosesNoName k → Proper fine (lone_table sig) (closers k.one k.two) w
  alone_proper n e g w q k c = subst (Proper fine (lone_table sig) (closers k.one k.two)) (sym q) (proper_name e.name (symbol_named sig lawful n e g) (lone_table sig) (closers k.one k.two) c)

  word_is : (n : ℕ) (e : SymbolEntry) → slice_get sig.symbols n ≡ Some e → head_word sig (head.Symbol n) ≡ e.name
  unfolding head_word
  word_is n e g = symbol_name_is sig n e g

  symbol_way : (t : Bool) (n : ℕ) (e : SymbolEntry) (ss : List Sort) (us : List Term) → takes_sorts sig (head.Symbol n) ≡ t → slice_get sig.symbols n ≡ Some e → length ss ≡ e.vars → Way (head.Symbol n) ss us
  symbol_way true n e ss us q g l = inl (symbol_brackets n e ss us g (λ z. true_false (sym q ∙ z)))
  symbol_way false n e ss (u ∷ us) q g l = inl (symbol_brackets n e ss (u ∷ us) g (λ z. (no_sorts ss e.vars l (sym (variables_are n e g) ∙ z), u, us, refl)))
  symbol_way false n e ss [] q g l = inr (record {
    plain = q;
    no_sorts = no_sorts ss e.vars l (sym (variables_are n e g) ∙ q);
    no_terms = refl;
    back = lone_head_back sig lawful n (e, g) (sym (variables_test n) ∙ q);
    listed = lone_head_listed sig lawful n (e, g) (sym (variables_test n) ∙ q);
    proper = λ k c. alone_proper n e g (head_word sig (head.Symbol n)) (word_is n e g) k c;
  })

  pub symbol_written : (n : ℕ) (e : SymbolEntry) (ss : List Sort) (us : List Term) → slice_get sig.symbols n ≡ Some e → length ss ≡ e.vars → Way (head.Symbol n) ss us
  symbol_written n e ss us g l = symbol_way (takes_sorts sig (head.Symbol n)) n e ss us refl g l

  -- ---- records and fields
  parameters_are : (n : ℕ) (e : TypeEntry) → slice_get sig.types n ≡ Some e → has_parameters sig n ≡ not (nat_eq e.arity 0)
  parameters_are n e g = ap (λ (o : Option TypeEntry). or_else (o >>= λ e. Some (not (nat_eq e.arity 0))) false) g

  some_fields : (n : ℕ) (e : TypeEntry) (fs : List FieldEntry) → slice_get sig.types n ≡ Some e → e.kind ≡ Fields fs → fs ≢ []
  some_fields n e fs g q = (go e.kind (lawful.types n e g) q)
    where
      go : (k : Kind) → IsLawfulType sig n (record { name = e.name; arity = e.arity; kind = k }) → k ≡ Fields fs → fs ≢ []
      go k l q = (subst (λ z. IsLawfulType sig n (record { name = e.name; arity = e.arity; kind = z })) q l).0

  build_written : (n : ℕ) (ss args : List Sort) (us : List Term) (s : Sort) → Sorted us args → head_sort sig (head.Build n) ss args ≡ Some s → Way (head.Build n) ss us
  unfolding takes_sorts
  build_written n ss args us s q h =
      let b = bind_some (slice_get sig.types n) (record_sort n ss args) s h in
      let e = b.0 in
      let k = fields_there (λ fs. when (nat_eq (length ss) e.arity && same_sorts args (map (λ (f : FieldEntry). put_sort ss f.sort) fs)) (Named n ss)) e.kind s b.2 in
      let p = and_parts (nat_eq (length ss) e.arity) (same_sorts args (map (λ (f : FieldEntry). put_sort ss f.sort) k.0))
      (when_some (nat_eq (length ss) e.arity && same_sorts args (map (λ (f : FieldEntry). put_sort ss f.sort) k.0)) (Named n ss) s k.2).0 in
      let are = decided_yes (Sorts_discrete args (map (λ (f : FieldEntry). put_sort ss f.sort) k.0)) p.1 in
      let m = some_fields n e k.0 b.1 k.1 in
      let t = nonempty us args q (λ y. m (map_none (λ (f : FieldEntry). put_sort ss f.sort) k.0 (sym are ∙ y))) in
      let d : Declared sig (head.Build n) = (e, b.1, (λ z. m (sym (fields_are e k.0 k.1) ∙ z))) in
      inl (record {
        back = ap (at_real (first_real sig real us)) (head_named sig lawful (head.Build n) d) ∙ real_build (first_real sig real us) n;
        listed = head_listed sig lawful (head.Build n) d;
        proper = head_proper sig lawful (head.Build n) d;
        plain = λ z. (no_sorts ss e.arity (eqb-true (length ss) e.arity p.0) (sym (parameters_are n e b.1) ∙ z), t.0, t.1, t.2);
      })

  field_written : (n i : ℕ) (ss args : List Sort) (us : List Term) (s : Sort) → Sorted us args → head_sort sig (head.Field n i) ss args ≡ Some s → Way (head.Field n i) ss us
  unfolding takes_sorts
  field_written n i ss args us s q h =
      let b = bind_some (slice_get sig.types n) (field_sort n i ss args) s h in
      let e = b.0 in
      let k = fields_there (λ fs. only (nat_eq (length ss) e.arity && same_sorts args (Named n ss ∷ [])) (field_at ss fs i)) e.kind s b.2 in
      let o = only_some (nat_eq (length ss) e.arity && same_sorts args (Named n ss ∷ [])) (field_at ss k.0 i) s k.2 in
      let p = and_parts (nat_eq (length ss) e.arity) (same_sorts args (Named n ss ∷ [])) o.0 in
      let f = bind_some (slice_get k.0 i) (λ (f : FieldEntry). Some (put_sort ss f.sort)) s o.1 in
      let d : Declared sig (head.Field n i) = (e, f.0, b.1, ap (λ z. slice_get z i) (fields_are e k.0 k.1) ∙ f.1) in
      let t = some_terms us (Named n ss) [] (q ∙ ap (map Some) (decided_yes (Sorts_discrete args (Named n ss ∷ [])) p.1)) in
      inl (record {
        back = ap (at_real (first_real sig real us)) (head_named sig lawful (head.Field n i) d) ∙ real_field (first_real sig real us) n i;
        listed = head_listed sig lawful (head.Field n i) d;
        proper = head_proper sig lawful (head.Field n i) d;
        plain = λ z. (no_sorts ss e.arity (eqb-true (length ss) e.arity p.0) (sym (parameters_are n e b.1) ∙ z), t.0, t.1, t.2);
      })

  -- ---- signs
  operands_some : (o : Op) (x : Sort) → (more : List Sort) × (operands o (x ∷ []) ≡ x ∷ more)
  operands_some op.Add x = (x ∷ [], refl)
  operands_some op.Sub x = (x ∷ [], refl)
  operands_some op.Neg x = ([], refl)
  operands_some op.Mul x = (x ∷ [], refl)
  operands_some op.Div x = (x ∷ [], refl)
  operands_some op.Mod x = (x ∷ [], refl)

  real_is : (t : Term) (x : Sort) (b : Bool) → sort_here t ≡ Some x → same_known (Some x) (Some Real) ≡ b → real t ≡ b
  real_is t x b q r = ap (λ o. same_known o (Some Real)) q ∙ r

  first_is : (us : List Term) (t : Term) (ts : List Term) (b : Bool) → us ≡ t ∷ ts → real t ≡ b → first_real sig real us ≡ b
  first_is us t ts b q r = ap (first_real sig real) q ∙ r

  int_written : (o : Op) (ss args : List Sort) (us : List Term) (s : Sort) → Sorted us args → head_sort sig (head.Int o) ss args ≡ Some s → Way (head.Int o) ss us
  int_written o ss args us s q h =
      let p = and_parts (same_sorts ss []) (same_sorts args (operands o (Int ∷ []))) (when_some (same_sorts ss [] && same_sorts args (operands o (Int ∷ []))) Int s h).0 in
      let m = operands_some o Int in
      let t = some_terms us Int m.0 (q ∙ ap (map Some) (decided_yes (Sorts_discrete args (operands o (Int ∷ []))) p.1 ∙ m.1)) in
      inl (record {
        back = ap (λ b. at_real b (head_of sig (head_word sig (head.Int o)))) (first_is us t.0 t.1 false t.2 (real_is t.0 Int false t.3 (decided_not (Sort_discrete Int Real) int_apart))) ∙ head_named sig lawful (head.Int o) tt;
        listed = head_listed sig lawful (head.Int o) tt;
        proper = head_proper sig lawful (head.Int o) tt;
        plain = λ z. (decided_yes (Sorts_discrete ss []) p.0, t.0, t.1, t.2);
      })

  same_sign : (o : Op) → head_word sig (head.Real o) ≡ head_word sig (head.Int o)
  unfolding head_word
  same_sign o = refl

  real_written : (o : Op) (ss args : List Sort) (us : List Term) (s : Sort) → Sorted us args → head_sort sig (head.Real o) ss args ≡ Some s → Way (head.Real o) ss us
  real_written o ss args us s q h =
      let p = three_parts (on_real o) (same_sorts ss []) (same_sorts args (operands o (Real ∷ []))) (when_some (on_real o && same_sorts ss [] && same_sorts args (operands o (Real ∷ []))) Real s h).0 in
      let m = operands_some o Real in
      let t = some_terms us Real m.0 (q ∙ ap (map Some) (decided_yes (Sorts_discrete args (operands o (Real ∷ []))) p.2 ∙ m.1)) in
      inl (record {
        back = ap (λ b. at_real b (head_of sig (head_word sig (head.Real o)))) (first_is us t.0 t.1 true t.2 (real_is t.0 Real true t.3 (decided_of (Sort_discrete Real Real) refl)))
            ∙ ap (λ w. at_real true (head_of sig w)) (same_sign o) ∙ ap (at_real true) (head_named sig lawful (head.Int o) tt);
        listed = subst (Listed (bracket_table sig)) (sym (same_sign o)) (head_listed sig lawful (head.Int o) tt);
        proper = subst (Proper head_fine (bracket_table sig) blank) (sym (same_sign o)) (head_proper sig lawful (head.Int o) tt);
        plain = λ z. (decided_yes (Sorts_discrete ss []) p.1, t.0, t.1, t.2);
      })

  -- ---- `true`, `false` and `void`
  given_proper : (k : Close) (a b c d : ℕ) → 96 < a → 96 < b → 96 < c → 96 < d → Clean fine (lone_table sig) (closers k.one k.two) (a ∷ b ∷ c ∷ d ∷ [])
  given_proper k a b c d p q r s = (k.letters a p, (k.letters b q, (k.letters c r, (k.letters d s, tt))))

  true_alone : (ss : List Sort) (us : List Term) → ss ≡ [] → us ≡ [] → Alone sig head.True ss us
  unfolding takes_sorts lone_heads head_word
  true_alone ss us p q = record { plain = refl; no_sorts = p; no_terms = q; back = true_back sig lawful; listed = inl refl; proper = λ k c. (given_proper k 116 114 117 101 (omega arith) (omega arith) (omega arith) (omega arith), refl) }

  false_alone : (ss : List Sort) (us : List Term) → ss ≡ [] → us ≡ [] → Alone sig head.False ss us
  unfolding takes_sorts lone_heads head_word
  false_alone ss us p q = record {
    plain = refl;
    no_sorts = p;
    no_terms = q;
    back = false_back sig lawful;
    listed = inr (inl refl);
    proper = λ k c.
        ((k.letters 102 (omega arith), given_proper k 97 108 115 101 (omega arith) (omega arith) (omega arith) (omega arith)), refl);
  }

  void_alone : (ss : List Sort) (us : List Term) → ss ≡ [] → us ≡ [] → Alone sig head.Void ss us
  unfolding takes_sorts lone_heads head_word
  void_alone ss us p q = record {
    plain = refl;
    no_sorts = p;
    no_terms = q;
    back = void_back sig lawful;
    listed = inr (inr (inl refl));
    proper = λ k c.
        (given_proper k 118 111 105 100 (omega arith) (omega arith) (omega arith) (omega arith), refl);
  }

  nothing_in : (x : Sort) (ss args : List Sort) (us : List Term) (s : Sort) → Sorted us args → when (same_sorts ss [] && same_sorts args []) x ≡ Some s → (ss ≡ []) × (us ≡ [])
  nothing_in x ss args us s q h =
      let p = and_parts (same_sorts ss []) (same_sorts args []) (when_some (same_sorts ss [] && same_sorts args []) x s h).0 in
      (decided_yes (Sorts_discrete ss []) p.0, no_terms us (q ∙ ap (map Some) (decided_yes (Sorts_discrete args []) p.1)))

  -- each head
  written : (h : Head) (ss args : List Sort) (us : List Term) (s : Sort) → Sorted us args → head_sort sig h ss args ≡ Some s → Way h ss us
  written (head.Symbol n) ss args us s q h =
      let b = bind_some (slice_get sig.symbols n) (symbol_sort ss args) s h in
      let e = b.0 in
      let r = bind_some (only (nat_eq (length ss) e.vars && same_sorts args (map (put_sort ss) e.args)) e.result) (λ s. Some (put_sort ss s)) s b.2 in
      let o = only_some (nat_eq (length ss) e.vars && same_sorts args (map (put_sort ss) e.args)) e.result r.0 r.1 in
      symbol_written n e ss us b.1 (eqb-true (length ss) e.vars (and_parts (nat_eq (length ss) e.vars) (same_sorts args (map (put_sort ss) e.args)) o.0).0)
  written (head.Build n) ss args us s q h = build_written n ss args us s q h
  written (head.Field n i) ss args us s q h = field_written n i ss args us s q h
  written (head.Int o) ss args us s q h = int_written o ss args us s q h
  written (head.Real o) ss args us s q h = real_written o ss args us s q h
  written head.True ss args us s q h = let r = nothing_in BoolSort ss args us s q h in inr (true_alone ss us r.0 r.1)
  written head.False ss args us s q h = let r = nothing_in BoolSort ss args us s q h in inr (false_alone ss us r.0 r.1)
  written head.Void ss args us s q h = let r = nothing_in UnitSort ss args us s q h in inr (void_alone ss us r.0 r.1)

  pub application_written : (h : Head) (ss args : List Sort) (us : List Term) (s : Sort) → all_known (map sort_here us) ≡ Some args → head_sort sig h ss args ≡ Some s → Way h ss us
  application_written h ss args us s k h' = written h ss args us s (known_each sort_here us args k) h'
