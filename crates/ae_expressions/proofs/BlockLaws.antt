-- The variables of a block, group by group.
use Rattle.std.proofs.Common.{◌≡◌, ◌∙◌, ℕ, ◌+◌, ◌<◌, ◌≤◌, Bool, true, false, not, ◌||◌, List, [], ◌∷◌, ◌++◌, map, length, take, drop, get_or, reverse, refl, sym, ap, subst}
use Rattle.std.specs.List.{list_any}
use Rattle.std.specs.Str.{bytes_eq}
use Rattle.std.proofs.lemmas.List.{append_assoc, append-nil, map-append, reverse-append, take_more, take_all, drop_more, drop_all}
use Rattle.std.proofs.lemmas.Option.{same_Some, slice_get-get_or}
use Rattle.std.proofs.lemmas.List.Folds.{list_any-append}
use Rattle.std.proofs.Math.Bool.{or-false}
use Rattle.ae_core.specs.declared.terms.Sort.{Sort, Unit as UnitSort}
use Rattle.ae_syntax.specs.declared.exprs.Group.{Group}
use Rattle.ae_syntax.specs.declared.spans.Span.{Span}
use Rattle.ae_elab.specs.declared.faults.TypeFault.{TypeFault}
use Rattle.ae_elab.specs.declared.grounds.Ground.TheVariants.{Free}
use Rattle.ae_elab.specs.Conditions.{Condition, test}
use Rattle.ae_elab.specs.Declarations.{all_different, twice}
use Rattle.ae_elab.specs.Formulas.{Bound, all_new, groups_rule, local_of, variable_of}
use Rattle.ae_elab.specs.Rules.{Passed, Rule, give, ◌>>◌, all_of, each, fresh}
use Rattle.ae_elab.specs.Scope.{Scope, Local, a_variable, name_at, name_in, named, is_among}
use Rattle.ae_elab.specs.Steps.{AreMet, AreNotMet, IsWalked, IsStopped, IsTaken}
use Rattle.ae_elab.specs.Typings.{bound_in}
use Rattle.ae_elab.specs.declared.typings.Bound as code
use Rattle.ae_elab.specs.WrittenTypes.{type_rule}
use Rattle.ae_elab.proofs.EachLaws.{Goes, goes_start, goes_next, goes_whole, all_walked, all_stop, all_stop_later}
use Rattle.ae_elab.proofs.WalkLaws.{give_walked, then_walked, then_stops, then_stops_later}

-- ---- names that are seen, in whatever order
abbrev pub AreSame : List (List ℕ) → List (List ℕ) → Type 0
AreSame xs ys = (n : List ℕ) → is_among n xs ≡ is_among n ys

swapped : (a b : Bool) → (a || b) ≡ (b || a)
swapped true true = refl
swapped true false = refl
swapped false true = refl
swapped false false = refl

any_reversed : {A : Type 0} (p : A → Bool) (xs : List A) → list_any p (reverse xs) ≡ list_any p xs
any_reversed p [] = refl
any_reversed p (x ∷ xs) =
    ap (list_any p) (reverse-append (x ∷ []) xs) ∙ list_any-append p (reverse xs) (x ∷ []) ∙ ap (λ b. b || list_any p (x ∷ [])) (any_reversed p xs)
    ∙ swapped (list_any p xs) (list_any p (x ∷ [])) ∙ ap (λ b. b || list_any p xs) (or-false (p x))

-- the names that were seen, and those of a group
more_seen : (ns ms : List (List ℕ)) → AreSame (ms ++ reverse ns) (reverse (ns ++ ms))
more_seen ns ms n =
    list_any-append (bytes_eq n) ms (reverse ns) ∙ ap (λ b. b || list_any (bytes_eq n) (reverse ns)) (sym (any_reversed (bytes_eq n) ms))
    ∙ sym (list_any-append (bytes_eq n) (reverse ms) (reverse ns)) ∙ ap (list_any (bytes_eq n)) (sym (reverse-append ns ms))

-- ---- the conditions on a group's names
module _ (sc : Scope) where
  pub new_same : (s t : List (List ℕ)) (xs : List Span) → AreSame s t → all_new s xs sc ≡ all_new t xs sc
  new_same s t [] h = refl
  new_same s t (x ∷ xs) h =
      ap (λ b. test (not b) (twice sc.text x) ∷ all_new (name_at sc x ∷ s) xs sc) (h (name_at sc x))
      ∙ ap (λ cs. test (not (is_among (name_at sc x) t)) (twice sc.text x) ∷ cs) (new_same (name_at sc x ∷ s) (name_at sc x ∷ t) xs (λ n. ap (λ b. bytes_eq n (name_at sc x) || b) (h n)))

  pub new_different : (s : List (List ℕ)) (xs : List Span) → all_new s xs sc ≡ all_different sc.text s xs
  new_different s [] = refl
  new_different s (x ∷ xs) = ap (λ cs. test (not (is_among (name_at sc x) s)) (twice sc.text x) ∷ cs) (new_different (name_at sc x ∷ s) xs)

  pub groups_same : (s t : List (List ℕ)) (gs : List Group) → AreSame s t → groups_rule s gs sc ≡ groups_rule t gs sc
  groups_same s t [] h = refl
  groups_same s t (g ∷ gs) h =
      ap (λ cs. all_of cs (type_rule g.sort Free sc) >> λ z. each (variable_of sc z) g.names >> λ bs. groups_rule (map (name_at sc) g.names ++ s) gs sc >> λ ds. give (bs ++ ds)) (new_same s t g.names h)
      ∙ ap (λ (r : Rule (List Bound)). all_of (all_new t g.names sc) (type_rule g.sort Free sc) >> λ z. each (variable_of sc z) g.names >> λ bs. r >> λ ds. give (bs ++ ds))
      (groups_same (map (name_at sc) g.names ++ s) (map (name_at sc) g.names ++ t) gs
      (λ n. list_any-append (bytes_eq n) (map (name_at sc) g.names) s ∙ ap (λ b. is_among n (map (name_at sc) g.names) || b) (h n) ∙ sym (list_any-append (bytes_eq n) (map (name_at sc) g.names) t)))

-- ---- along the groups: what the rest comes to, the whole comes to with what is done
pub record Groups (sc : Scope) (gs : List Group) (m : ℕ → Sort) (start now : Passed) (done : List Bound) (seen : List (List ℕ)) (rest : List Group) : Type 0 where
  pub walks : (q : Passed) (cs : List Bound) → IsWalked (groups_rule (reverse seen) rest sc) m m now q cs → IsWalked (groups_rule [] gs sc) m m start q (done ++ cs)
  pub stops : (e : TypeFault) → IsStopped (groups_rule (reverse seen) rest sc) m now e → IsStopped (groups_rule [] gs sc) m start e

pub groups_start : (sc : Scope) (gs : List Group) (m : ℕ → Sort) (p : Passed) → Groups sc gs m p p [] [] gs
groups_start sc gs m p = record { walks = λ q cs a. a; stops = λ e a. a }

module _ (sc : Scope) (gs : List Group) (m : ℕ → Sort) (start now : Passed) (done : List Bound) (seen : List (List ℕ)) (g : Group) (rest : List Group) (so_far : Groups sc gs m start now done seen (g ∷ rest)) where
  abbrev sorted : Rule Sort
  sorted = all_of (all_new (reverse seen) g.names sc) (type_rule g.sort Free sc)

  abbrev after_names : List Bound → Rule (List Bound)
  after_names bs = groups_rule (map (name_at sc) g.names ++ reverse seen) rest sc >> λ cs. give (bs ++ cs)

  abbrev after_sort : Sort → Rule (List Bound)
  after_sort s = each (variable_of sc s) g.names >> after_names

  pub group_twice : (e : TypeFault) → AreNotMet (all_different sc.text (reverse seen) g.names) m e → IsStopped (groups_rule [] gs sc) m start e
  group_twice e h =
      so_far.stops e (then_stops sorted after_sort m now e (all_stop (type_rule g.sort Free sc) now (all_new (reverse seen) g.names sc) m e
      (subst (λ (cs : List Condition). AreNotMet cs m e) (sym (new_different sc (reverse seen) g.names)) h)))

  module _ (new : AreMet (all_different sc.text (reverse seen) g.names) m m) where
    here : AreMet (all_new (reverse seen) g.names sc) m m
    here = subst (λ (cs : List Condition). AreMet cs m m) (sym (new_different sc (reverse seen) g.names)) new

    pub group_sortless : (e : TypeFault) → IsStopped (type_rule g.sort Free sc) m now e → IsStopped (groups_rule [] gs sc) m start e
    group_sortless e h =
        so_far.stops e (then_stops sorted after_sort m now e (all_stop_later (type_rule g.sort Free sc) now (all_new (reverse seen) g.names sc) m m e here h))

    pub group_done : (p q : Passed) (s : Sort) (bs : List Bound) (later : List (List ℕ)) → IsWalked (type_rule g.sort Free sc) m m now p s → IsWalked (each (variable_of sc s) g.names) m m p q bs
        → later ≡ seen ++ map (name_in sc.text) g.names → Groups sc gs m start q (done ++ bs) later rest
    group_done p q s bs later a b names = record {
      walks = λ r cs k. subst (λ z. IsWalked (groups_rule [] gs sc) m m start r z) (sym (append_assoc done bs cs))
          (so_far.walks r (bs ++ cs) (then_walked sorted after_sort m m m now p r s (bs ++ cs) (all_walked (type_rule g.sort Free sc) now (all_new (reverse seen) g.names sc) m m m p s here a)
          (then_walked (each (variable_of sc s) g.names) after_names m m m p q r bs (bs ++ cs) b
          (then_walked (groups_rule (map (name_at sc) g.names ++ reverse seen) rest sc) (λ ds. give (bs ++ ds)) m m m q r r cs (bs ++ cs)
          (subst (λ z. IsWalked z m m q r cs) (sym as_seen) k) (give_walked (bs ++ cs) m r)))));
      stops = λ e k. so_far.stops e (then_stops_later sorted after_sort m m now p s e (all_walked (type_rule g.sort Free sc) now (all_new (reverse seen) g.names sc) m m m p s here a)
          (then_stops_later (each (variable_of sc s) g.names) after_names m m p q bs e b
          (then_stops (groups_rule (map (name_at sc) g.names ++ reverse seen) rest sc) (λ ds. give (bs ++ ds)) m q e
          (subst (λ z. IsStopped z m q e) (sym as_seen) k))));
    }
      where
        as_seen : groups_rule (map (name_at sc) g.names ++ reverse seen) rest sc ≡ groups_rule (reverse later) rest sc
        as_seen =
            groups_same sc (map (name_at sc) g.names ++ reverse seen) (reverse (seen ++ map (name_in sc.text) g.names)) rest (more_seen seen (map (name_in sc.text) g.names))
            ∙ ap (λ ns. groups_rule (reverse ns) rest sc) (sym names)

pub groups_whole : (sc : Scope) (gs : List Group) (m : ℕ → Sort) (start now : Passed) (done : List Bound) (seen : List (List ℕ)) → Groups sc gs m start now done seen []
    → IsWalked (groups_rule [] gs sc) m m start now done
groups_whole sc gs m start now done seen a = subst (λ z. IsWalked (groups_rule [] gs sc) m m start now z) (append-nil done) (a.walks now [] (give_walked [] m now))

-- ---- the variables of a group, one by one
pub variable_taken : (sc : Scope) (s : Sort) (x : Span) (p q : Passed) (n : ℕ) → IsTaken fresh p q n → (m : ℕ → Sort) → IsWalked (variable_of sc s x) m m p q (record { name = name_at sc x; number = n; sort = s })
variable_taken sc s x p q n t m =
    let v = λ (k : ℕ). (let b : Bound = record { name = name_at sc x; number = k; sort = s } in b) in
    then_walked fresh (λ k. give (v k)) m m m p q q n (v n) (t m) (give_walked (v n) m q)

pub record Variables (sc : Scope) (s : Sort) (xs : List Span) (old new : List code.Bound) (start now : Passed) (i : ℕ) : Type 0 where
  pub more : List code.Bound
  pub longer : new ≡ old ++ more
  pub goes : (m : ℕ → Sort) → Goes (variable_of sc s) xs m m start now (map (bound_in sc.text) more) (drop i xs)

module _ (sc : Scope) (s : Sort) (xs : List Span) (old : List code.Bound) (start : Passed) where
  pub variables_start : Variables sc s xs old old start start 0
  variables_start = record { more = []; longer = sym (append-nil old); goes = λ m. goes_start (variable_of sc s) xs m start }

  module _ (new : List code.Bound) (now : Passed) (i : ℕ) where
    pub variables_next : (x : Span) (n : ℕ) (k : Sort) (later : List code.Bound) (next : Passed) → i < length xs → x ≡ get_or xs i x → k ≡ s → IsTaken fresh now next n → later ≡ new ++ record { name = x; number = n; sort = k } ∷ []
        → Variables sc s xs old new start now i → Variables sc s xs old later start next (i + 1)
    variables_next x n k later next l is copied t more_is v =
        let b : code.Bound = record { name = x; number = n; sort = k } in
        let c : Bound = record { name = name_at sc x; number = n; sort = s } in
        record {
          more = v.more ++ b ∷ [];
          longer = more_is ∙ ap (λ z. z ++ b ∷ []) v.longer ∙ append_assoc old v.more (b ∷ []);
          goes = λ m. subst (λ z. Goes (variable_of sc s) xs m m start next z (drop (i + 1) xs))
              (sym (map-append (bound_in sc.text) v.more (b ∷ []) ∙ ap (λ z. map (bound_in sc.text) v.more ++ record { name = name_at sc x; number = n; sort = z } ∷ []) copied))
              (goes_next (variable_of sc s) xs m m start now (map (bound_in sc.text) v.more) i m next x c l is (v.goes m) (variable_taken sc s x now next n t m));
        }

    pub variables_whole : length xs ≤ i → Variables sc s xs old new start now i → (more : List code.Bound) × (new ≡ old ++ more) × IsTaken (each (variable_of sc s) xs) start now (map (bound_in sc.text) more)
    variables_whole l v = (v.more, v.longer, λ m. goes_whole (variable_of sc s) xs m m start now (map (bound_in sc.text) v.more) i l (v.goes m))

-- ---- the names that a list has
pub same_place : {A : Type 0} (xs : List A) (i : ℕ) (d : A) → i < length xs → get_or xs i d ≡ get_or xs i (get_or xs i d)
same_place xs i d l = same_Some (get_or xs i d) (get_or xs i (get_or xs i d)) (sym (slice_get-get_or xs i d l) ∙ slice_get-get_or xs i (get_or xs i d) l)

-- ---- the variables are bound
module _ (text : List ℕ) (outer : List Local) (bs : List code.Bound) where
  abbrev block : List code.Bound → List Local
  block cs = reverse (map local_of (map (bound_in text) cs)) ++ outer

  pub block_next : (i : ℕ) (b : code.Bound) (k : Sort) (name : List ℕ) (now later : List Local) → i < length bs → b ≡ get_or bs i b → k ≡ b.sort → name ≡ name_in text b.name
      → later ≡ named name (a_variable b.number k) ∷ now → now ≡ block (take i bs) → later ≡ block (take (i + 1) bs)
  block_next i b k name now later l is copied called more so_far =
      more ∙ ap (λ n. named n (a_variable b.number k) ∷ now) called ∙ ap (λ s. named (name_in text b.name) (a_variable b.number s) ∷ now) copied ∙ ap (λ ls. local_of (bound_in text b) ∷ ls) so_far
      ∙ sym (ap (λ ls. ls ++ outer) (ap (λ cs. reverse (map local_of (map (bound_in text) cs))) (take_more bs i b l ∙ ap (λ z. take i bs ++ z ∷ []) (sym is))
      ∙ ap (λ cs. reverse (map local_of cs)) (map-append (bound_in text) (take i bs) (b ∷ [])) ∙ ap reverse (map-append local_of (map (bound_in text) (take i bs)) (bound_in text b ∷ []))
      ∙ reverse-append (map local_of (map (bound_in text) (take i bs))) (local_of (bound_in text b) ∷ [])))

  pub block_whole : (i : ℕ) (now : List Local) → length bs ≤ i → now ≡ block (take i bs) → now ≡ block bs
  block_whole i now l h = h ∙ ap block (take_all i bs l)

-- ---- and left
pub left_next : (now later inner outer : List Local) (i : ℕ) → ((l : Local) (ls : List Local) → now ≡ l ∷ ls → later ≡ ls) → i < length inner → now ≡ drop i inner ++ outer → later ≡ drop (i + 1) inner ++ outer
left_next now later inner outer i one l h =
    let rest = drop (i + 1) inner in
    let d = named [] (a_variable 0 UnitSort) in
    one (get_or inner i d) (rest ++ outer) (h ∙ ap (λ ls. ls ++ outer) (drop_more inner i d l))

pub left_whole : (now inner outer : List Local) (i : ℕ) → length inner ≤ i → now ≡ drop i inner ++ outer → now ≡ outer
left_whole now inner outer i l h = h ∙ ap (λ ls. ls ++ outer) (drop_all i inner l)
