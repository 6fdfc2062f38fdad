-- In a lawful signature the sort of a closed term is closed: sorts put into a sort, the sort of an application and of a field.
use Rattle.std.specs.Prelude.{ℕ, ◌<◌, Bool, true, false, cond, ◌&&◌, nat_lt, nat_eq, List, [], ◌∷◌, ◌≡◌, ◌≢◌, map, length, slice_get, get_or, Option, Some, None}
use Rattle.std.specs.List.{AllByRecursion, list_all}
use Rattle.std.proofs.Common.{refl, sym, ap, ◌∙◌, arith}
use Rattle.std.proofs.lemmas.Bool.{and_parts, eqb-true, eq-eqb}
use Rattle.std.proofs.lemmas.Bool.Decides.{nat_tests}
use Rattle.std.proofs.lemmas.List.{length-map}
use Rattle.std.proofs.lemmas.Option.{slice_get-get_or}
use Rattle.ae_base.specs.Options.{or_else, ◌>>=◌, only, when, all_known}
use Rattle.ae_base.proofs.Decided.{decided_of}
use Rattle.ae_base.proofs.Options.{bind_some, only_some, when_some}
use Rattle.ae_base.proofs.ListFacts.{list_all_at}
use Rattle.ae_core.specs.Decided.{Sorts_discrete}
use Rattle.ae_core.specs.Putting.{put_sort}
use Rattle.ae_core.specs.Sorts.{type_fits, is_closed_sort, head_sort, symbol_sort, record_sort, field_sort, field_at, same_sorts, operands, on_real, sort_of, numeral_ok}
use Rattle.ae_core.specs.Signatures.{names_below, is_sort_over, is_field_sort, is_result, fields_of, IsLawful, IsLawfulType}
use Rattle.ae_core.specs.declared.terms.Sort.{Sort, Var, Rigid, Int, Real, Bool as BoolSort, Unit as UnitSort, Named}
use Rattle.ae_core.specs.declared.terms.Head.{Head}
use Rattle.ae_core.specs.declared.terms.Head.TheVariants as head
use Rattle.ae_core.specs.declared.terms.Term.{Term, Term-F, Bound, Num, Fresh, Apply, out-Term, roll-Term, roll-out-Term}
use Rattle.ae_core.specs.declared.terms.Term.TheOpen as layer
use Rattle.ae_core.specs.declared.terms.Term.TheVariants.{rolls-Bound, rolls-Num, rolls-Fresh, rolls-Apply}
use Rattle.ae_core.specs.declared.problems.Signature.{Signature}
use Rattle.ae_core.specs.declared.problems.TypeEntry.{TypeEntry}
use Rattle.ae_core.specs.declared.problems.FieldEntry.{FieldEntry}
use Rattle.ae_core.specs.declared.problems.Kind.{Kind}
use Rattle.ae_core.specs.declared.problems.Kind.TheVariants.{Abstract, Choices, Fields}
use Rattle.ae_core.specs.Inner.Induction.{by_sorts}
use Rattle.ae_core.proofs.SortLaws.{ok_var, ok_rigid, ok_int, ok_real, ok_bool, ok_unit, ok_named, sort_in_bound, sort_in_num, sort_in_fresh, sort_in_apply}
use Rattle.ae_core.proofs.PuttingLaws.{put_var, put_int, put_real, put_bool, put_unit, put_named}

-- ---- what is put for variables
module _ (sig : Signature) (ss : List Sort) (closed : list_all (is_closed_sort sig) ss ≡ true) where
  Closes : Sort → Type 0
  Closes s = is_sort_over sig (length ss) s ≡ true → is_closed_sort sig (put_sort ss s) ≡ true

  var_closes : (i : ℕ) → Closes (Var i)
  unfolding Closes
  var_closes i h =
      let l : nat_lt i (length ss) ≡ true = sym (ok_var sig (λ i. nat_lt i (length ss)) (λ i. false) i) ∙ h in
      let l' : i < length ss = grind (arith, nat_tests, l) in
      let g = slice_get-get_or ss i (Var 0) l' in
      ap (is_closed_sort sig) (put_var ss i ∙ ap (λ o. or_else o (Var i)) g) ∙ list_all_at (is_closed_sort sig) ss i (get_or ss i (Var 0)) closed g

  rigid_closes : (i : ℕ) → Closes (Rigid i)
  unfolding Closes
  rigid_closes i h = let f : ◌≡◌ {A = Bool} false true = sym (ok_rigid sig (λ i. nat_lt i (length ss)) (λ i. false) i) ∙ h in cc f

  plain_closes : (s : Sort) → put_sort ss s ≡ s → is_closed_sort sig s ≡ true → Closes s
  unfolding Closes
  plain_closes s p q h = ap (is_closed_sort sig) p ∙ q

  all_close : (args : List Sort) → AllByRecursion Closes args → list_all (is_sort_over sig (length ss)) args ≡ true → list_all (is_closed_sort sig) (map (put_sort ss) args) ≡ true
  unfolding Closes
  all_close [] h e = refl
  all_close (a ∷ args) h e =
      let p = and_parts (is_sort_over sig (length ss) a) (list_all (is_sort_over sig (length ss)) args) e in
      λ i. h.0 p.0 i && all_close args h.1 p.1 i

  named_closes : (h : ℕ) (args : List Sort) → AllByRecursion Closes args → Closes (Named h args)
  unfolding Closes
  named_closes h args all e =
      let p = and_parts (type_fits sig h (length args)) (list_all (is_sort_over sig (length ss)) args) (sym (ok_named sig (λ i. nat_lt i (length ss)) (λ i. false) h args) ∙ e) in
      ap (is_closed_sort sig) (put_named ss h args) ∙ ok_named sig (λ i. false) (λ i. true) h (map (put_sort ss) args)
      ∙ (λ i. (ap (type_fits sig h) (length-map args (put_sort ss)) ∙ p.0) i && all_close args all p.1 i)

  pub put_closed : (s : Sort) → is_sort_over sig (length ss) s ≡ true → is_closed_sort sig (put_sort ss s) ≡ true
  unfolding Closes
  put_closed =
      by_sorts Closes var_closes rigid_closes
      (plain_closes Int (put_int ss) (ok_int sig (λ i. false) (λ i. true))) (plain_closes Real (put_real ss) (ok_real sig (λ i. false) (λ i. true)))
      (plain_closes BoolSort (put_bool ss) (ok_bool sig (λ i. false) (λ i. true))) (plain_closes UnitSort (put_unit ss) (ok_unit sig (λ i. false) (λ i. true))) named_closes

-- ---- the sort of an application
module _ (sig : Signature) (law : IsLawful sig) (ss : List Sort) (closed : list_all (is_closed_sort sig) ss ≡ true) where
  symbol_closed : (n : ℕ) (args : List Sort) (s : Sort) → head_sort sig (head.Symbol n) ss args ≡ Some s → is_closed_sort sig s ≡ true
  symbol_closed n args s e =
      let x = bind_some (slice_get sig.symbols n) (symbol_sort ss args) s e in
      let b : Bool = nat_eq (length ss) x.0.vars && same_sorts args (map (put_sort ss) x.0.args) in
      let y = bind_some (only b x.0.result) (λ s. Some (put_sort ss s)) s x.2 in
      let z = only_some b x.0.result y.0 y.1 in
      let l : length ss ≡ x.0.vars = eqb-true (length ss) x.0.vars (and_parts (nat_eq (length ss) x.0.vars) (same_sorts args (map (put_sort ss) x.0.args)) z.0).0 in
      let r : is_sort_over sig x.0.vars y.0 ≡ true = ap (is_result sig x.0.vars) (sym z.1) ∙ (law.symbols n x.0 x.1).1 in
      let t : ◌≡◌ {A = Option Sort} (Some (put_sort ss y.0)) (Some s) = y.2 in
      let u : put_sort ss y.0 ≡ s = cc t in
      ap (is_closed_sort sig) (sym u) ∙ put_closed sig ss closed y.0 (ap (λ k. is_sort_over sig k y.0) l ∙ r)

  pub named_closed : (n : ℕ) (e : TypeEntry) → slice_get sig.types n ≡ Some e → length ss ≡ e.arity → is_closed_sort sig (Named n ss) ≡ true
  named_closed n e p l =
      ok_named sig (λ i. false) (λ i. true) n ss
      ∙ (λ i. (ap (λ o. or_else (o >>= λ (e : TypeEntry). Some (nat_eq e.arity (length ss))) false) p ∙ eq-eqb e.arity (length ss) (sym l)) i && closed i)

  record_closed : (n : ℕ) (args : List Sort) (s : Sort) (x : TypeEntry) (k : Kind) → slice_get sig.types n ≡ Some x → x.kind ≡ k → record_sort n ss args x ≡ Some s → is_closed_sort sig s ≡ true
  record_closed n args s x (Fields fs) p q e =
      let b : Bool = nat_eq (length ss) x.arity && same_sorts args (map (λ (f : FieldEntry). put_sort ss f.sort) fs) in
      let e' : when b (Named n ss) ≡ Some s = rw q at e in
      let w = when_some b (Named n ss) s e' in
      let l : length ss ≡ x.arity = eqb-true (length ss) x.arity (and_parts (nat_eq (length ss) x.arity) (same_sorts args (map (λ (f : FieldEntry). put_sort ss f.sort) fs)) w.0).0 in
      ap (is_closed_sort sig) (sym w.1) ∙ named_closed n x p l
  record_closed n args s x Abstract p q e = let f : ◌≡◌ {A = Option Sort} None (Some s) = rw q at e in cc f
  record_closed n args s x (Choices cs) p q e = let f : ◌≡◌ {A = Option Sort} None (Some s) = rw q at e in cc f

  field_over : (n : ℕ) (arity : ℕ) (fs : List FieldEntry) (k : ℕ) (f : FieldEntry) → list_all (λ (f : FieldEntry). is_field_sort sig n arity f.sort) fs ≡ true → slice_get fs k ≡ Some f → is_sort_over sig arity f.sort ≡ true
  field_over n arity fs k f h e = (and_parts (is_sort_over sig arity f.sort) (names_below n f.sort) (list_all_at (λ (f : FieldEntry). is_field_sort sig n arity f.sort) fs k f h e)).0

  field_closed : (n place : ℕ) (args : List Sort) (s : Sort) (x : TypeEntry) (k : Kind) → slice_get sig.types n ≡ Some x → x.kind ≡ k → field_sort n place ss args x ≡ Some s → is_closed_sort sig s ≡ true
  field_closed n place args s x (Fields fs) p q e =
      let b : Bool = nat_eq (length ss) x.arity && same_sorts args (Named n ss ∷ []) in
      let e' : only b (field_at ss fs place) ≡ Some s = rw q at e in
      let w = only_some b (field_at ss fs place) s e' in
      let l : length ss ≡ x.arity = eqb-true (length ss) x.arity (and_parts (nat_eq (length ss) x.arity) (same_sorts args (Named n ss ∷ [])) w.0).0 in
      let y = bind_some (slice_get fs place) (λ (f : FieldEntry). Some (put_sort ss f.sort)) s w.1 in
      let law' : IsLawfulType sig n x = law.types n x p in
      let both : (fs ≢ []) × (list_all (λ (f : FieldEntry). is_field_sort sig n x.arity f.sort) fs ≡ true) = rw q at law' in
      let h = both.1 in
      let t : ◌≡◌ {A = Option Sort} (Some (put_sort ss y.0.sort)) (Some s) = y.2 in
      let u : put_sort ss y.0.sort ≡ s = cc t in
      ap (is_closed_sort sig) (sym u) ∙ put_closed sig ss closed y.0.sort (ap (λ k. is_sort_over sig k y.0.sort) l ∙ field_over n x.arity fs place y.0 h y.1)
  field_closed n place args s x Abstract p q e = let f : ◌≡◌ {A = Option Sort} None (Some s) = rw q at e in cc f
  field_closed n place args s x (Choices cs) p q e = let f : ◌≡◌ {A = Option Sort} None (Some s) = rw q at e in cc f

  flat_closed : (b : Bool) (t s : Sort) → is_closed_sort sig t ≡ true → when b t ≡ Some s → is_closed_sort sig s ≡ true
  flat_closed b t s p e = ap (is_closed_sort sig) (sym (when_some b t s e).1) ∙ p

  pub head_closed : (h : Head) (args : List Sort) (s : Sort) → head_sort sig h ss args ≡ Some s → is_closed_sort sig s ≡ true
  head_closed (head.Symbol n) args s e = symbol_closed n args s e
  head_closed (head.Build n) args s e = let x = bind_some (slice_get sig.types n) (record_sort n ss args) s e in record_closed n args s x.0 x.0.kind x.1 refl x.2
  head_closed (head.Field n place) args s e = let x = bind_some (slice_get sig.types n) (field_sort n place ss args) s e in field_closed n place args s x.0 x.0.kind x.1 refl x.2
  head_closed (head.Int o) args s e = flat_closed (same_sorts ss [] && same_sorts args (operands o (Int ∷ []))) Int s (ok_int sig (λ i. false) (λ i. true)) e
  head_closed (head.Real o) args s e = flat_closed (on_real o && same_sorts ss [] && same_sorts args (operands o (Real ∷ []))) Real s (ok_real sig (λ i. false) (λ i. true)) e
  head_closed head.True args s e = flat_closed (same_sorts ss [] && same_sorts args []) BoolSort s (ok_bool sig (λ i. false) (λ i. true)) e
  head_closed head.False args s e = flat_closed (same_sorts ss [] && same_sorts args []) BoolSort s (ok_bool sig (λ i. false) (λ i. true)) e
  head_closed head.Void args s e = flat_closed (same_sorts ss [] && same_sorts args []) UnitSort s (ok_unit sig (λ i. false) (λ i. true)) e

-- ---- applications
pub record IsApplied (sig : Signature) (h : Head) (ss : List Sort) (us : List Term) (s : Sort) : Type 0 where
  pub closed : list_all (is_closed_sort sig) ss ≡ true
  pub args : List Sort
  pub are : all_known (map (sort_of sig) us) ≡ Some args
  pub is : head_sort sig h ss args ≡ Some s

pub applied_is : (sig : Signature) (h : Head) (ss : List Sort) (us : List Term) (s : Sort) → sort_of sig (Apply h ss us) ≡ Some s → IsApplied sig h ss us s
applied_is sig h ss us s e =
    let x = bind_some (only (list_all (is_closed_sort sig) ss) (all_known (map (sort_of sig) us))) (head_sort sig h ss) s (sym (sort_in_apply sig (is_closed_sort sig) [] h ss us) ∙ e) in
    let y = only_some (list_all (is_closed_sort sig) ss) (all_known (map (sort_of sig) us)) x.0 x.1 in
    record { closed = y.0; args = x.0; are = y.1; is = x.2 }

only_true : {A : Type 0} (b : Bool) (o : Option A) → b ≡ true → only b o ≡ o
only_true b o e = ap (λ c. only c o) e

pub applied_from : (sig : Signature) (h : Head) (ss : List Sort) (us : List Term) (s : Sort) → IsApplied sig h ss us s → sort_of sig (Apply h ss us) ≡ Some s
applied_from sig h ss us s a =
    sort_in_apply sig (is_closed_sort sig) [] h ss us
    ∙ ap (λ o. o >>= head_sort sig h ss) (only_true (list_all (is_closed_sort sig) ss) (all_known (map (sort_of sig) us)) a.closed ∙ a.are) ∙ a.is

-- ---- the sort of a closed term is closed
module _ (sig : Signature) (law : IsLawful sig) where
  closed_by : (t : Term) (l : Term-F Term) (s : Sort) → out-Term t ≡ l → sort_of sig t ≡ Some s → is_closed_sort sig s ≡ true
  closed_by t (layer.Bound i) s p e =
      let q : Bound i ≡ t = rolls_back t (layer.Bound i) (Bound i) p (rolls-Bound i) in
      let f : ◌≡◌ {A = Option Sort} None (Some s) = sym (ap (sort_of sig) (sym q) ∙ sort_in_bound sig (is_closed_sort sig) [] i) ∙ e in
      cc f
    where
      rolls_back : (t : Term) (l : Term-F Term) (u : Term) → out-Term t ≡ l → roll-Term l ≡ u → u ≡ t
      rolls_back t l u p r = sym r ∙ ap roll-Term (sym p) ∙ roll-out-Term t
  closed_by t (layer.Num a b r) s p e =
      let q : Num a b r ≡ t = sym (rolls-Num a b r) ∙ ap roll-Term (sym p) ∙ roll-out-Term t in
      let w = when_some (numeral_ok a b r) (cond r Real Int) s (sym (ap (sort_of sig) (sym q) ∙ sort_in_num sig (is_closed_sort sig) [] a b r) ∙ e) in
      ap (is_closed_sort sig) (sym w.1) ∙ flat r
    where
      flat : (r : Bool) → is_closed_sort sig (cond r Real Int) ≡ true
      flat true = ok_real sig (λ i. false) (λ i. true)
      flat false = ok_int sig (λ i. false) (λ i. true)
  closed_by t (layer.Fresh n u) s p e =
      let q : Fresh n u ≡ t = sym (rolls-Fresh n u) ∙ ap roll-Term (sym p) ∙ roll-out-Term t in
      let w = when_some (is_closed_sort sig u) u s (sym (ap (sort_of sig) (sym q) ∙ sort_in_fresh sig (is_closed_sort sig) [] n u) ∙ e) in
      ap (is_closed_sort sig) (sym w.1) ∙ w.0
  closed_by t (layer.Apply h ss us) s p e =
      let q : Apply h ss us ≡ t = sym (rolls-Apply h ss us) ∙ ap roll-Term (sym p) ∙ roll-out-Term t in
      let a = applied_is sig h ss us s (ap (sort_of sig) q ∙ e) in
      head_closed sig law ss a.closed h a.args s a.is

  pub sort_closed : (t : Term) (s : Sort) → sort_of sig t ≡ Some s → is_closed_sort sig s ≡ true
  sort_closed t s e = closed_by t (out-Term t) s refl e

  -- ---- fields
  arity_is : (h : ℕ) (n : ℕ) (e : TypeEntry) → slice_get sig.types h ≡ Some e → type_fits sig h n ≡ true → nat_eq n e.arity ≡ true
  arity_is h n e p q =
      let r : nat_eq e.arity n ≡ true = sym (ap (λ (o : Option TypeEntry). or_else (o >>= λ (e : TypeEntry). Some (nat_eq e.arity n)) false) p) ∙ q in
      eq-eqb n e.arity (sym (eqb-true e.arity n r))

  kind_field : (h k : ℕ) (ss args : List Sort) (e : TypeEntry) (f : FieldEntry) (K : Kind) → e.kind ≡ K → slice_get (fields_of e) k ≡ Some f → nat_eq (length ss) e.arity && same_sorts args (Named h ss ∷ []) ≡ true
      → field_sort h k ss args e ≡ Some (put_sort ss f.sort)
  kind_field h k ss args e f (Fields fs) p q b =
      let q' : slice_get fs k ≡ Some f = rw p at q in
      rw p (only_true (nat_eq (length ss) e.arity && same_sorts args (Named h ss ∷ [])) (field_at ss fs k) b ∙ ap (λ (o : Option FieldEntry). o >>= λ f. Some (put_sort ss f.sort)) q')
  kind_field h k ss args e f Abstract p q b = let q' : ◌≡◌ {A = Option FieldEntry} None (Some f) = rw p at q in cc q'
  kind_field h k ss args e f (Choices cs) p q b = let q' : ◌≡◌ {A = Option FieldEntry} None (Some f) = rw p at q in cc q'

  pub field_sorted : (h k : ℕ) (ss : List Sort) (t : Term) (e : TypeEntry) (f : FieldEntry) → slice_get sig.types h ≡ Some e → slice_get (fields_of e) k ≡ Some f → sort_of sig t ≡ Some (Named h ss)
      → sort_of sig (Apply (head.Field h k) ss (t ∷ [])) ≡ Some (put_sort ss f.sort)
  field_sorted h k ss t e f p q r =
      let c : type_fits sig h (length ss) && list_all (is_closed_sort sig) ss ≡ true = sym (ok_named sig (λ i. false) (λ i. true) h ss) ∙ sort_closed t (Named h ss) r in
      let d = and_parts (type_fits sig h (length ss)) (list_all (is_closed_sort sig) ss) c in
      let b : nat_eq (length ss) e.arity && same_sorts (Named h ss ∷ []) (Named h ss ∷ []) ≡ true = λ i. arity_is h (length ss) e p d.0 i && decided_of (Sorts_discrete (Named h ss ∷ []) (Named h ss ∷ [])) refl i in
      applied_from sig (head.Field h k) ss (t ∷ []) (put_sort ss f.sort) (record {
        closed = d.1;
        args = Named h ss ∷ [];
        are = ap (λ o. o >>= λ s. Some (s ∷ [])) r;
        is = ap (λ (o : Option TypeEntry). o >>= field_sort h k ss (Named h ss ∷ [])) p ∙ kind_field h k ss (Named h ss ∷ []) e f e.kind refl q b;
      })
