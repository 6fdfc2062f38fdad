-- The structure of trees, and that it interprets its signature.
use Rattle.std.specs.Prelude.{ℕ, suc, ◌+◌, pos, Bool, true, false, cond, ◌&&◌, nat_eq, List, [], ◌∷◌, ◌++◌, ◌≡◌, ◌≢◌}
use Rattle.std.specs.Prelude.{length, slice_get, Option, Some, None}
use Rattle.std.specs.List.{list_any}
use Rattle.std.proofs.Common.{refl, sym, ap, ◌∙◌, subst, arith, append_assoc, length-append}
use Rattle.std.proofs.lemmas.Bool.{and_parts}
use Rattle.std.proofs.lemmas.Option.{same_Some}
use Rattle.std.proofs.lemmas.List.{length-map}
use Rattle.ae_math.specs.Fractions.{ℚ, zero_ℚ, whole}
use Rattle.ae_base.specs.Options.{◌>>=◌, or_else}
use Rattle.ae_core.specs.Putting.{put_sort}
use Rattle.ae_core.specs.Sorts.{is_closed_sort}
use Rattle.ae_core.specs.Signatures.{is_sort_over, IsChoice, IsEnumeration, is_result}
use Rattle.ae_core.proofs.PuttingLaws.{put_named}
use Rattle.ae_core.specs.declared.terms.Sort.{Sort, Sort-F, Named, out-Sort, out-roll-Sort}
use Rattle.ae_core.specs.declared.terms.Sort.TheOpen as sort_layer
use Rattle.ae_core.specs.declared.terms.Sort.TheVariants.{rolls-Var}
use Rattle.ae_core.specs.declared.problems.Signature.{Signature}
use Rattle.ae_core.specs.declared.problems.SymbolEntry.{SymbolEntry}
use Rattle.ae_core.specs.declared.problems.TypeEntry.{TypeEntry}
use Rattle.ae_core.specs.declared.problems.FieldEntry.{FieldEntry}
use Rattle.ae_core.specs.declared.problems.Kind.{Kind}
use Rattle.ae_core.specs.declared.problems.Kind.TheVariants.{Choices, Fields}
use Rattle.ae_core.specs.declared.problems.Nature.{Nature}
use Rattle.ae_core.specs.declared.problems.Nature.TheVariants.{Free, Ac, Choice}
use Rattle.ae_math.proofs.Wholes.{zero_whole}
use Rattle.ae_base.proofs.Decided.{decided_of, decided_yes}
use Rattle.ae_base.proofs.Tests.{false_true}
use Rattle.ae_models.proofs.Entries.{HasLawfulEntries}
use Rattle.ae_base.proofs.ListFacts.{get_seam, number_at}
use Rattle.ae_core.proofs.ClosedSorts.{put_closed}
use Rattle.ae_models.specs.Structures.{Value, Element, Number, Truth, Void, Structure, BelongsTo, Belongs, AllBelong, AreSorts, fields_of}
use Rattle.ae_models.specs.Structures.{field_sorts, IsInterpretation}
use Rattle.ae_models.specs.Trees.{Tree, Atom, Record, NoField, ThingField, NumberField, TruthField, VoidField}
use Rattle.ae_models.proofs.ModelTerms.{out_named}
use Rattle.ae_models.proofs.ModelRules.{KindSays, NatureSays}
use Rattle.ae_models.specs.Fields.{fractions}
use Rattle.ae_models.proofs.Trees.Wholes.{whole_or_not}
use Rattle.ae_models.proofs.Trees.Shapes.{Tree_discrete, tuple, parts, parts_of_tuple, layer_fits, fits, no_sorts, nowhere, kind_takes, layer_takes}
use Rattle.ae_models.proofs.Trees.Shapes.{kind_fields, record_fields, is_record, measured, tree_sort, sorted_value, all_fit, all_fit_more}
use Rattle.ae_models.proofs.Trees.Shapes.{tuple_of_parts}
use Rattle.ae_models.proofs.Trees.Inhabited.{is_among, thing_fits, atom_sort, record_tree_sort, closed_inhabited}

-- ---- the structure
module _ (sig : Signature) (lawful : HasLawfulEntries sig) where
  pub chosen : (s : Sort) (b : Bool) → is_closed_sort sig s ≡ b → Value Tree ℚ
  chosen s true e = (closed_inhabited sig lawful s e).0
  chosen s false e = Void

  -- a value of a closed sort
  pub some_value : Sort → Value Tree ℚ
  some_value s = chosen s (is_closed_sort sig s) refl

  -- a constructor is a thing without parts, and another symbol is constant
  abbrev symbol_with : ℕ → List Sort → Nature → Option Sort → Value Tree ℚ
  symbol_with n ss (Choice of place) r = Element (Atom n (Named of []))
  symbol_with n ss Free (Some r) = some_value (put_sort ss r)
  symbol_with n ss Free None = Void
  symbol_with n ss Ac (Some r) = some_value (put_sort ss r)
  symbol_with n ss Ac None = Void

  abbrev symbol_value : ℕ → List Sort → Value Tree ℚ
  symbol_value n ss = or_else (slice_get sig.symbols n >>= λ e. Some (symbol_with n ss e.nature e.result)) Void

  abbrev part_at : ℕ → Value Tree ℚ → Value Tree ℚ
  part_at place (Element (Record m rs t)) = or_else (slice_get (parts t) place) Void
  part_at place _ = Void

  abbrev pub trees : Structure Tree ℚ
  trees = record {
    same_thing = Tree_discrete;
    reals = fractions;
    sort = tree_sort sig;
    symbol = λ n ss vs. symbol_value n ss;
    predicate = λ n ss vs. false;
    build = λ n ss vs. Element (Record n ss (tuple vs));
    field = λ n place ss v. part_at place v;
    quotient = λ a b. zero_ℚ;
    remainder = λ a b. zero_ℚ;
    by_zero = λ a. zero_ℚ;
  }

  -- ---- a value belongs to a sort where it fits

  layer_belongs : (s : Sort) (l : Sort-F Sort) (v : Value Tree ℚ) → layer_fits s l (sorted_value sig v) ≡ true → BelongsTo trees s l v
  layer_belongs s sort_layer.Int (Number q) e = let w = decided_yes (whole_or_not q) e in (w.0, ap Number w.1)
  layer_belongs s sort_layer.Real (Number q) e = (q, refl)
  layer_belongs s sort_layer.Bool (Truth b) e = (b, refl)
  layer_belongs s sort_layer.Unit Void e = refl
  layer_belongs s (sort_layer.Var i) (Element t) e = (t, refl, decided_yes _ e)
  layer_belongs s (sort_layer.Rigid i) (Element t) e = (t, refl, decided_yes _ e)
  layer_belongs s (sort_layer.Named n ss) (Element t) e = (t, refl, decided_yes _ e)
  layer_belongs s _ (Element t) e = false_true e
  layer_belongs s _ (Number q) e = false_true e
  layer_belongs s _ (Truth b) e = false_true e
  layer_belongs s _ Void e = false_true e

  belongs_layer : (s : Sort) (l : Sort-F Sort) (v : Value Tree ℚ) → BelongsTo trees s l v → layer_fits s l (sorted_value sig v) ≡ true
  belongs_layer s sort_layer.Int v h =
      subst (λ w. layer_fits s sort_layer.Int (sorted_value sig w) ≡ true) (sym h.1) (decided_of (whole_or_not (whole h.0)) (h.0, refl))
  belongs_layer s sort_layer.Real v h = subst (λ w. layer_fits s sort_layer.Real (sorted_value sig w) ≡ true) (sym h.1) refl
  belongs_layer s sort_layer.Bool v h = subst (λ w. layer_fits s sort_layer.Bool (sorted_value sig w) ≡ true) (sym h.1) refl
  belongs_layer s sort_layer.Unit v h = subst (λ w. layer_fits s sort_layer.Unit (sorted_value sig w) ≡ true) (sym h) refl
  belongs_layer s (sort_layer.Var i) v h = subst (λ w. layer_fits s (sort_layer.Var i) (sorted_value sig w) ≡ true) (sym h.1) (decided_of _ h.2)
  belongs_layer s (sort_layer.Rigid i) v h = subst (λ w. layer_fits s (sort_layer.Rigid i) (sorted_value sig w) ≡ true) (sym h.1) (decided_of _ h.2)
  belongs_layer s (sort_layer.Named n ss) v h = subst (λ w. layer_fits s (sort_layer.Named n ss) (sorted_value sig w) ≡ true) (sym h.1) (decided_of _ h.2)

  fits_belongs : (s : Sort) (v : Value Tree ℚ) → fits s (sorted_value sig v) ≡ true → Belongs trees s v
  fits_belongs s v e = layer_belongs s (out-Sort s) v e

  all_fit_belong : (ss : List Sort) (vs : List (Value Tree ℚ)) → all_fit sig ss vs ≡ true → AllBelong trees ss vs
  all_fit_belong [] [] e = tt
  all_fit_belong (s ∷ ss) [] e = false_true e
  all_fit_belong [] (v ∷ vs) e = false_true (sym (all_fit_more sig [] v vs) ∙ e)
  all_fit_belong (s ∷ ss) (v ∷ vs) e =
      let p = and_parts (fits s (sorted_value sig v)) (all_fit sig ss vs) (sym (all_fit_more sig (s ∷ ss) v vs) ∙ e) in
      (fits_belongs s v p.0, all_fit_belong ss vs p.1)

  all_belong_fit : (ss : List Sort) (vs : List (Value Tree ℚ)) → AllBelong trees ss vs → all_fit sig ss vs ≡ true
  all_belong_fit [] [] h = refl
  all_belong_fit (s ∷ ss) [] h = absurd h
  all_belong_fit [] (v ∷ vs) h = absurd h
  all_belong_fit (s ∷ ss) (v ∷ vs) h = all_fit_more sig (s ∷ ss) v vs ∙ (λ i. belongs_layer s (out-Sort s) v h.0 i && all_belong_fit ss vs h.1 i)

  belong_length : (ss : List Sort) (vs : List (Value Tree ℚ)) → AllBelong trees ss vs → length vs ≡ length ss
  belong_length [] [] h = refl
  belong_length (s ∷ ss) [] h = absurd h
  belong_length [] (v ∷ vs) h = absurd h
  belong_length (s ∷ ss) (v ∷ vs) h = ap suc (belong_length ss vs h.1)

  -- ---- things of a declared type
  a_thing : (n : ℕ) (ss : List Sort) (v : Value Tree ℚ) → Belongs trees (Named n ss) v
      → (t : Tree) × (v ≡ Element t) × (tree_sort sig t ≡ Named n ss)
  a_thing n ss v b = subst (λ o. BelongsTo trees (Named n ss) o v) (out_named n ss) b

  is_thing : (n : ℕ) (ss : List Sort) (t : Tree) → tree_sort sig t ≡ Named n ss → Belongs trees (Named n ss) (Element t)
  is_thing n ss t e = fits_belongs (Named n ss) (Element t) (thing_fits sig lawful n ss t e)

  same_named : (m n : ℕ) (rs ss : List Sort) → Named m rs ≡ Named n ss → (m ≡ n) × (rs ≡ ss)
  same_named m n rs ss e = let h : ◌≡◌ {A = Sort-F Sort} (sort_layer.Named m rs) (sort_layer.Named n ss) = sym (out_named m rs) ∙ ap out-Sort e ∙ out_named n ss in (cc, cc)

  not_nowhere : {P : Type 0} (n : ℕ) (ss : List Sort) → nowhere ≡ Named n ss → P
  not_nowhere n ss e =
      let h : ◌≡◌ {A = Sort-F Sort} (sort_layer.Var 0) (sort_layer.Named n ss) = sym (ap out-Sort (sym (rolls-Var 0)) ∙ out-roll-Sort (sort_layer.Var 0)) ∙ ap out-Sort e ∙ out_named n ss in
      cc h

  sort_is : (b : Bool) (s : Sort) (n : ℕ) (ss : List Sort) → cond b s nowhere ≡ Named n ss → (b ≡ true) × (s ≡ Named n ss)
  sort_is true s n ss e = (refl, e)
  sort_is false s n ss e = not_nowhere n ss e

  -- what a sort takes as a thing without parts
  atom_is : (m n : ℕ) (s : Sort) (ss : List Sort) (e : TypeEntry) (k : Kind) → slice_get sig.types n ≡ Some e → e.kind ≡ k
      → tree_sort sig (Atom m s) ≡ Named n ss → (s ≡ Named n ss) × (kind_takes sig m ss k ≡ true)
  atom_is m n s ss e k g is h =
      let p = sort_is (layer_takes sig m (out-Sort s)) s n ss h in
      let at : or_else (slice_get sig.types n >>= λ e. Some (kind_takes sig m ss e.kind)) false ≡ true = ap (layer_takes sig m) (sym (ap out-Sort p.1 ∙ out_named n ss)) ∙ p.0 in
      (p.1, sym (ap (λ o. or_else (o >>= λ e. Some (kind_takes sig m ss e.kind)) false) g ∙ ap (kind_takes sig m ss) is) ∙ at)

  record_is : (m n : ℕ) (rs ss : List Sort) (t : Tree) (e : TypeEntry) (k : Kind) → slice_get sig.types n ≡ Some e → e.kind ≡ k
      → tree_sort sig (Record m rs t) ≡ Named n ss
      → (m ≡ n) × (rs ≡ ss) × (is_record sig (kind_fields sig ss k) (measured sig t).1 ≡ true)
  record_is m n rs ss t e k g is h =
      let p = sort_is (is_record sig (record_fields sig m rs) (measured sig t).1) (Named m rs) n ss h in
      let q = same_named m n rs ss p.1 in
      let at : record_fields sig m rs ≡ kind_fields sig ss k = (λ i. record_fields sig (q.0 i) (q.1 i)) ∙ ap (λ o. o >>= λ e. kind_fields sig ss e.kind) g ∙ ap (kind_fields sig ss) is in
      (q.0, q.1, ap (λ o. is_record sig o (measured sig t).1) (sym at) ∙ p.0)

  -- ---- records
  fields_are : (n m : ℕ) (ss rs : List Sort) (t : Tree) (before rest : List (Value Tree ℚ)) → parts t ≡ before ++ rest
      → fields_of trees n ss (Element (Record m rs t)) (length before) (length rest) ≡ rest
  fields_are n m ss rs t before [] e = refl
  fields_are n m ss rs t before (x ∷ rest) e =
      let first : or_else (slice_get (parts t) (length before)) Void ≡ x = ap (λ xs. or_else (slice_get xs (length before)) Void) e ∙ ap (λ o. or_else o Void) (get_seam before rest x) in
      let more = fields_are n m ss rs t (before ++ x ∷ []) rest (e ∙ sym (append_assoc before (x ∷ []) rest)) in
      let place : length (before ++ x ∷ []) ≡ suc (length before) = length-append before (x ∷ []) ∙ (let q : length before + 1 ≡ suc (length before) = omega arith in q) in
      (λ i. first i ∷ subst (λ k. fields_of trees n ss (Element (Record m rs t)) k (length rest) ≡ rest) place more i)

  records_law : (n : ℕ) (e : TypeEntry) (fs : List FieldEntry) (ss : List Sort) (vs : List (Value Tree ℚ)) → slice_get sig.types n ≡ Some e
      → e.kind ≡ Fields fs → AllBelong trees (field_sorts ss fs) vs
      → Belongs trees (Named n ss) (Element (Record n ss (tuple vs))) × (fields_of trees n ss (Element (Record n ss (tuple vs))) 0 (length fs) ≡ vs)
  records_law n e fs ss vs g k b =
      let count : length vs ≡ length fs = belong_length (field_sorts ss fs) vs b ∙ length-map fs (λ f. put_sort ss f.sort) in (
        is_thing n ss (Record n ss (tuple vs)) (record_tree_sort sig lawful n ss e fs (tuple vs) g k (all_belong_fit (field_sorts ss fs) vs b)),
        ap (fields_of trees n ss (Element (Record n ss (tuple vs))) 0) (sym count) ∙ fields_are n n ss ss (tuple vs) [] vs (parts_of_tuple vs),
      )

  abbrev IsBuilt : ℕ → List Sort → List FieldEntry → Value Tree ℚ → Type 0
  IsBuilt n ss fs v = AllBelong trees (field_sorts ss fs) (fields_of trees n ss v 0 (length fs)) × (Element (Record n ss (tuple (fields_of trees n ss v 0 (length fs)))) ≡ v)

  fields_law : (n : ℕ) (e : TypeEntry) (fs : List FieldEntry) (ss : List Sort) (v : Value Tree ℚ) → slice_get sig.types n ≡ Some e
      → e.kind ≡ Fields fs → Belongs trees (Named n ss) v → IsBuilt n ss fs v
  fields_law n e fs ss v g k b = let t = a_thing n ss v b in subst (IsBuilt n ss fs) (sym t.1) (go t.0 t.2)
    where
      written : (m : ℕ) (rs : List Sort) (t : Tree) → m ≡ n → rs ≡ ss → (measured sig t).1 (field_sorts ss fs) ≡ true
          → IsBuilt n ss fs (Element (Record m rs t))
      written m rs t p q fit =
          let whole_tuple : tuple (parts t) ≡ t = tuple_of_parts sig t (field_sorts ss fs) fit in
          let belong : AllBelong trees (field_sorts ss fs) (parts t) = all_fit_belong (field_sorts ss fs) (parts t) (ap (λ u. (measured sig u).1 (field_sorts ss fs)) whole_tuple ∙ fit) in
          let count : length (parts t) ≡ length fs = belong_length (field_sorts ss fs) (parts t) belong ∙ length-map fs (λ f. put_sort ss f.sort) in
          let are : fields_of trees n ss (Element (Record m rs t)) 0 (length fs) ≡ parts t =
          ap (fields_of trees n ss (Element (Record m rs t)) 0) (sym count) ∙ fields_are n m ss rs t [] (parts t) refl in (
            subst (AllBelong trees (field_sorts ss fs)) (sym are) belong,
            ap (λ ws. Element (Record n ss (tuple ws))) are ∙ (λ i. Element (Record (sym p i) (sym q i) (whole_tuple i))),
          )

      go : (t : Tree) → tree_sort sig t ≡ Named n ss → IsBuilt n ss fs (Element t)
      go (Atom m s) h = false_true (atom_is m n s ss e (Fields fs) g k h).1
      go (Record m rs t) h = let r = record_is m n rs ss t e (Fields fs) g k h in written m rs t r.0 r.1 r.2
      go NoField h = not_nowhere n ss h
      go (ThingField t r) h = not_nowhere n ss h
      go (NumberField q r) h = not_nowhere n ss h
      go (TruthField c r) h = not_nowhere n ss h
      go (VoidField r) h = not_nowhere n ss h

  -- ---- enumerations
  -- the value of a constructor
  choice_value : (c n place : ℕ) (ss : List Sort) → IsChoice sig c n place → symbol_value c ss ≡ Element (Atom c (Named n []))
  choice_value c n place ss h =
      ap (λ o. or_else (o >>= λ e. Some (symbol_with c ss e.nature e.result)) Void) h.1 ∙ ap (λ k. symbol_with c ss k (h.0).result) h.2

  enumeration : (n : ℕ) (e : TypeEntry) (cs : List ℕ) → slice_get sig.types n ≡ Some e → e.kind ≡ Choices cs
      → IsEnumeration sig n e.arity cs
  enumeration n e cs g k = subst (KindSays sig n e) k (lawful.types n e g)

  abbrev IsOneOf : List ℕ → Value Tree ℚ → Type 0
  IsOneOf cs v = (k : ℕ) × (c : ℕ) × (slice_get cs k ≡ Some c) × (v ≡ symbol_value c [])

  choices_law : (n : ℕ) (e : TypeEntry) (cs : List ℕ) (ss : List Sort) (v : Value Tree ℚ) → slice_get sig.types n ≡ Some e
      → e.kind ≡ Choices cs → Belongs trees (Named n ss) v → IsOneOf cs v
  choices_law n e cs ss v g k b = let t = a_thing n ss v b in subst (IsOneOf cs) (sym t.1) (go t.0 t.2)
    where
      none_left : (ss : List Sort) → no_sorts ss ≡ true → ss ≡ []
      none_left [] e = refl
      none_left (s ∷ ss) e = false_true e

      go : (t : Tree) → tree_sort sig t ≡ Named n ss → IsOneOf cs (Element t)
      go (Atom m s) h =
          let a = atom_is m n s ss e (Choices cs) g k h in
          let p = and_parts (no_sorts ss) (list_any (nat_eq m) cs) a.1 in
          let at = number_at cs m p.1 in
          let choice = ((enumeration n e cs g k).each m at.0).0 at.1 in
          (at.0, m, at.1, ap (λ r. Element (Atom m r)) (a.0 ∙ ap (Named n) (none_left ss p.0)) ∙ sym (choice_value m n at.0 [] choice))
      go (Record m rs t) h = false_true (record_is m n rs ss t e (Choices cs) g k h).2
      go NoField h = not_nowhere n ss h
      go (ThingField t r) h = not_nowhere n ss h
      go (NumberField q r) h = not_nowhere n ss h
      go (TruthField c r) h = not_nowhere n ss h
      go (VoidField r) h = not_nowhere n ss h

  different_law : (n : ℕ) (e : TypeEntry) (cs : List ℕ) (k j c d : ℕ) → slice_get sig.types n ≡ Some e → e.kind ≡ Choices cs
      → slice_get cs k ≡ Some c → slice_get cs j ≡ Some d → k ≢ j → symbol_value c [] ≢ symbol_value d []
  different_law n e cs k j c d g is p q apart same =
      let first = ((enumeration n e cs g is).each c k).0 p in
      let second = ((enumeration n e cs g is).each d j).0 q in
      let values : ◌≡◌ {A = Value Tree ℚ} (Element (Atom c (Named n []))) (Element (Atom d (Named n []))) = sym (choice_value c n k [] first) ∙ same ∙ choice_value d n j [] second in
      let one : c ≡ d = cc in
      let entry : first.0 ≡ second.0 = same_Some first.0 second.0 (sym first.1 ∙ ap (slice_get sig.symbols) one ∙ second.1) in
      let natures : ◌≡◌ {A = Nature} (Choice n k) (Choice n j) = sym first.2 ∙ ap (λ e. e.nature) entry ∙ second.2 in
      apart cc

  -- ---- symbols
  chosen_belongs : (s : Sort) (b : Bool) (e : is_closed_sort sig s ≡ b) → b ≡ true → Belongs trees s (chosen s b e)
  unfolding chosen
  chosen_belongs s true e h = let c = closed_inhabited sig lawful s e in fits_belongs s c.0 c.1
  chosen_belongs s false e h = false_true h

  some_belongs : (s : Sort) → is_closed_sort sig s ≡ true → Belongs trees s (some_value s)
  unfolding some_value
  some_belongs s c = chosen_belongs s (is_closed_sort sig s) refl c

  symbols_law : (n : ℕ) (e : SymbolEntry) (r : Sort) (ss : List Sort) → slice_get sig.symbols n ≡ Some e → e.result ≡ Some r
      → AreSorts sig e.vars ss → Belongs trees (put_sort ss r) (symbol_value n ss)
  symbols_law n e r ss g h are =
      let value : symbol_value n ss ≡ symbol_with n ss e.nature (Some r) = ap (λ o. or_else (o >>= λ e. Some (symbol_with n ss e.nature e.result)) Void) g ∙ ap (symbol_with n ss e.nature) h in
      let law = lawful.symbols n e g in
      let over : is_sort_over sig (length ss) r ≡ true = ap (λ k. is_sort_over sig k r) are.0 ∙ ap (is_result sig e.vars) (sym h) ∙ law.1 in
      subst (Belongs trees (put_sort ss r)) (sym value) (go e.nature refl law.2 (some_belongs (put_sort ss r) (put_closed sig ss are.1 r over)))
    where
      go : (k : Nature) → e.nature ≡ k → NatureSays sig e k → Belongs trees (put_sort ss r) (some_value (put_sort ss r))
          → Belongs trees (put_sort ss r) (symbol_with n ss k (Some r))
      go Free is law b = b
      go Ac is law b = b
      go (Choice of place) is law b =
          let type_entry = law.3 in
          let among = ((enumeration of type_entry.0 type_entry.1 type_entry.2 type_entry.3).each n place).1 (e, g, is) in
          let same : put_sort ss r ≡ Named of [] = ap (put_sort ss) (same_Some r (Named of []) (sym h ∙ law.2)) ∙ put_named ss of [] in
          subst (λ s. Belongs trees s (Element (Atom n (Named of [])))) (sym same)
          (is_thing of [] (Atom n (Named of [])) (atom_sort sig lawful n of [] type_entry.0 (Choices type_entry.1) type_entry.2 type_entry.3 (is_among type_entry.1 place n among)))

  pub trees_interpret : IsInterpretation sig trees
  trees_interpret = record {
    inhabited = λ s c. (some_value s, some_belongs s c);
    symbols = λ n e r ss vs g h are b. symbols_law n e r ss g h are;
    commutative = λ n e s ss u v g k a are p q. refl;
    associative = λ n e s ss u v w g k a are p q r. refl;
    records = λ n e fs ss vs g k are b. records_law n e fs ss vs g k b;
    fields = λ n e fs ss v g k b. fields_law n e fs ss v g k b;
    choices = λ n e cs ss v g k b. choices_law n e cs ss v g k b;
    different = different_law;
    whole_quotient = λ a b. (pos 0, zero_whole);
    whole_remainder = λ a b. (pos 0, zero_whole);
  }
