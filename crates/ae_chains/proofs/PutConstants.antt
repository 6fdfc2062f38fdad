-- Constants of abstract types may have any values of their types: with others in the place of their own an interpretation stays one.
use Rattle.std.specs.Prelude.{ℕ, Bool, true, false, cond, List, [], ◌∷◌, ◌≡◌, ◌≢◌, slice_get, Some, map}
use Rattle.std.proofs.Common.{refl, sym, ap, ◌∙◌, subst, ⊎_elim}
use Rattle.std.proofs.lemmas.Bool.{cases_Bool}
use Rattle.std.proofs.lemmas.Option.{same_Some}
use Rattle.ae_core.specs.Putting.{put_sort}
use Rattle.ae_core.specs.Signatures.{IsEnumeration}
use Rattle.ae_core.proofs.PuttingLaws.{put_named}
use Rattle.ae_core.specs.declared.terms.Sort.{Sort, Named}
use Rattle.ae_core.specs.declared.problems.Signature.{Signature}
use Rattle.ae_core.specs.declared.problems.SymbolEntry.{SymbolEntry}
use Rattle.ae_core.specs.declared.problems.TypeEntry.{TypeEntry}
use Rattle.ae_core.specs.declared.problems.Kind.TheVariants.{Choices}
use Rattle.ae_core.specs.declared.problems.Nature.TheVariants.{Free, Ac, Choice}
use Rattle.ae_models.specs.Structures.{Value, Structure, Belongs, AllBelong, AreSorts, IsInterpretation}
use Rattle.ae_models.proofs.Entries.{HasLawfulEntries}
use Rattle.ae_models.proofs.ModelRules.{KindSays}
use Rattle.ae_chains.specs.Reach.{IsPlainConstant}

free_no_ac : Free ≡ Ac → ⊥
free_no_ac e = cc

free_no_choice : (of place : ℕ) → Free ≡ Choice of place → ⊥
free_no_choice of place e = cc

module _ {E K : Type 0} (M : Structure E K) (among : ℕ → Bool) (worth : ℕ → Value E K) where
  -- the symbols that are among these have the values
  abbrev pub put : Structure E K
  put = record {
    same_thing = M.same_thing;
    reals = M.reals;
    sort = M.sort;
    symbol = λ n ss vs. cond (among n) (worth n) (M.symbol n ss vs);
    predicate = M.predicate;
    build = M.build;
    field = M.field;
    quotient = M.quotient;
    remainder = M.remainder;
    by_zero = M.by_zero;
  }

  module _ (sig : Signature) (lawful : HasLawfulEntries sig) (is : IsInterpretation sig M)
      (plain : (n : ℕ) → among n ≡ true → (h : ℕ) × IsPlainConstant sig h n × Belongs M (Named h []) (worth n)) where
    entry_of : (n : ℕ) (e : SymbolEntry) (is_among : among n ≡ true) → slice_get sig.symbols n ≡ Some e → ((plain n is_among).1).entry ≡ e
    entry_of n e is_among at = same_Some _ e (sym ((plain n is_among).1).is_entry ∙ at)

    nature_of : (n : ℕ) (e : SymbolEntry) → among n ≡ true → slice_get sig.symbols n ≡ Some e → Free ≡ e.nature
    nature_of n e is_among at = sym (((plain n is_among).1).is_constant).free ∙ ap (λ (x : SymbolEntry). x.nature) (entry_of n e is_among at)

    not_among : (n : ℕ) (e : SymbolEntry) → slice_get sig.symbols n ≡ Some e → (Free ≡ e.nature → ⊥) → among n ≡ false
    not_among n e at bad = ⊎_elim (λ yes. absurd (bad (nature_of n e yes at))) (λ no. no) (cases_Bool (among n))

    not_ac : (n : ℕ) (e : SymbolEntry) → slice_get sig.symbols n ≡ Some e → e.nature ≡ Ac → among n ≡ false
    not_ac n e at ac = not_among n e at (λ free. free_no_ac (free ∙ ac))

    -- a constructor isn't among them
    not_choice : (n c k : ℕ) (e : TypeEntry) (cs : List ℕ) → slice_get sig.types n ≡ Some e → e.kind ≡ Choices cs → slice_get cs k ≡ Some c → among c ≡ false
    not_choice n c k e cs at kind place =
        let enumeration : IsEnumeration sig n e.arity cs = subst (KindSays sig n e) kind (lawful.types n e at) in
        let choice = (enumeration.each c k).0 place in
        not_among c choice.0 choice.1 (λ free. free_no_choice n k (free ∙ choice.2))

    symbol_belongs : (b : Bool) (n : ℕ) (e : SymbolEntry) (r : Sort) (ss : List Sort) (vs : List (Value E K)) → among n ≡ b → slice_get sig.symbols n ≡ Some e → e.result ≡ Some r
        → AreSorts sig e.vars ss → AllBelong M (map (put_sort ss) e.args) vs → Belongs M (put_sort ss r) (cond b (worth n) (M.symbol n ss vs))
    symbol_belongs true n e r ss vs a at result sorts belong =
        let p = plain n a in
        let same : Named p.0 [] ≡ r = same_Some (Named p.0 []) r (sym ((p.1).is_constant).result ∙ ap (λ (x : SymbolEntry). x.result) (entry_of n e a at) ∙ result) in
        subst (λ s. Belongs M s (worth n)) (sym (put_named ss p.0 []) ∙ ap (put_sort ss) same) p.2
    symbol_belongs false n e r ss vs a at result sorts belong = is.symbols n e r ss vs at result sorts belong

    pub put_interprets : IsInterpretation sig put
    put_interprets = record {
      inhabited = is.inhabited;
      symbols = λ n e r ss vs at result sorts belong. symbol_belongs (among n) n e r ss vs refl at result sorts belong;
      commutative = λ n e s ss u v at ac args sorts p q.
          subst (λ b. cond b (worth n) (M.symbol n ss (u ∷ v ∷ [])) ≡ cond b (worth n) (M.symbol n ss (v ∷ u ∷ []))) (sym (not_ac n e at ac)) (is.commutative n e s ss u v at ac args sorts p q);
      associative = λ n e s ss u v w at ac args sorts p q r.
          subst
          (λ b. cond b (worth n) (M.symbol n ss (cond b (worth n) (M.symbol n ss (u ∷ v ∷ [])) ∷ w ∷ [])) ≡ cond b (worth n) (M.symbol n ss (u ∷ cond b (worth n) (M.symbol n ss (v ∷ w ∷ [])) ∷ [])))
          (sym (not_ac n e at ac)) (is.associative n e s ss u v w at ac args sorts p q r);
      records = is.records;
      fields = is.fields;
      choices = λ n e cs ss v at kind belong.
          let r = is.choices n e cs ss v at kind belong in
          (r.0, r.1, r.2, r.3 ∙ sym (ap (λ b. cond b (worth r.1) (M.symbol r.1 [] [])) (not_choice n r.1 r.0 e cs at kind r.2)));
      different = λ n e cs k j c d at kind p q apart.
          subst (λ b. cond b (worth c) (M.symbol c [] []) ≢ cond (among d) (worth d) (M.symbol d [] [])) (sym (not_choice n c k e cs at kind p))
          (subst (λ b. M.symbol c [] [] ≢ cond b (worth d) (M.symbol d [] [])) (sym (not_choice n d j e cs at kind q)) (is.different n e cs k j c d at kind p q apart));
      whole_quotient = is.whole_quotient;
      whole_remainder = is.whole_remainder;
    }
