-- A shape that is found, and one that is entered.
use Rattle.std.specs.Prelude.{ℕ, ◌<◌, ◌≤◌, List, [], ◌∷◌, ◌++◌, ◌≡◌, map, length, position, slice_get, Some, None}
use Rattle.std.proofs.Common.{refl, sym, ap, ◌∙◌, subst, arith, append-nil, append_assoc, length-append}
use Rattle.std.specs.List.{AllByRecursion}
use Rattle.std.proofs.lemmas.Option.{slice_get_within}
use Rattle.std.proofs.lemmas.List.{map_push, map-append, length-map}
use Rattle.ae_base.specs.Options.{or_else}
use Rattle.ae_core.specs.declared.terms.Term.{Term, Bound}
use Rattle.ae_core.specs.declared.problems.Signature.{Signature}
use Rattle.ae_store.specs.declared.nodes.Node.{Node}
use Rattle.ae_store.specs.declared.nodes.Shape.{Shape}
use Rattle.ae_store.specs.Shapes.{shape_of, shapes}
use Rattle.ae_store.specs.Keys.{is_same}
use Rattle.ae_store.specs.Terms.{terms, named, term_of, IsSound, IsShapeAt, Keeps, IsOfSort}
use Rattle.ae_store.specs.Growing.{IsFront}
use Rattle.ae_store.specs.Names.{AreNames, AreWithin}
use Rattle.ae_store.proofs.Gets.{get_last}
use Rattle.ae_store.proofs.TermLaws.{length_terms, terms_push, term_at, sound_push, keeps_append, all_named_kept, widened}
use Rattle.ae_store.proofs.TableLaws.{not_found, found_there}

pub front_same : {A : Type 0} (xs : List A) → IsFront xs xs
front_same xs = ([], sym (append-nil xs))

pub front_push : {A : Type 0} (xs ys : List A) (x : A) → ys ≡ xs ++ x ∷ [] → IsFront xs ys
front_push xs ys x e = (x ∷ [], e)

pub front_then : {A : Type 0} (xs ys zs : List A) → IsFront xs ys → IsFront ys zs → IsFront xs zs
front_then xs ys zs f g = (f.0 ++ g.0, g.1 ∙ ap (λ l. l ++ g.0) f.1 ∙ append_assoc xs f.0 g.0)

pub term_found : (sig : Signature) (ns : List Node) (s : Shape) (i : ℕ) → IsSound sig (shapes ns) → position (is_same s) (shapes ns) ≡ Some i → slice_get (terms (shapes ns)) i ≡ Some (term_of (terms (shapes ns)) s)
term_found sig ns s i sound e = term_at sig (shapes ns) sound i s (found_there s (shapes ns) i e)

shapes_pushed : (ns ms : List Node) (n : Node) (s : Shape) → ms ≡ ns ++ n ∷ [] → shape_of n ≡ s → shapes ms ≡ shapes ns ++ s ∷ []
shapes_pushed ns ms n s e f = ap shapes e ∙ map_push shape_of ns n ∙ ap (λ x. shapes ns ++ x ∷ []) f

pub sound_entered : (sig : Signature) (ns ms : List Node) (n : Node) (s : Shape) → IsSound sig (shapes ns) → IsShapeAt sig (length ns) s → position (is_same s) (shapes ns) ≡ None
    → IsOfSort sig (term_of (terms (shapes ns)) s) s.sort → ms ≡ ns ++ n ∷ [] → shape_of n ≡ s → IsSound sig (shapes ms)
sound_entered sig ns ms n s sound at new of e f =
    subst (IsSound sig) (sym (shapes_pushed ns ms n s e f))
    (sound_push sig (shapes ns) sound s (subst (λ k. IsShapeAt sig k s) (sym (length-map ns shape_of)) at) (not_found s (shapes ns) new) of)

pub term_entered : (ns ms : List Node) (n : Node) (s : Shape) → ms ≡ ns ++ n ∷ [] → shape_of n ≡ s → slice_get (terms (shapes ms)) (length ns) ≡ Some (term_of (terms (shapes ns)) s)
term_entered ns ms n s e f =
    ap (λ xs. slice_get (terms xs) (length ns)) (shapes_pushed ns ms n s e f)
    ∙ ap (λ ts. slice_get ts (length ns)) (terms_push (shapes ns) s)
    ∙ ap (slice_get (terms (shapes ns) ++ term_of (terms (shapes ns)) s ∷ [])) (sym (length_terms (shapes ns) ∙ length-map ns shape_of))
    ∙ get_last (terms (shapes ns)) (term_of (terms (shapes ns)) s)

pub place_found : (ns : List Node) (s : Shape) (i : ℕ) → position (is_same s) (shapes ns) ≡ Some i → slice_get (shapes ns) i ≡ Some s
place_found ns s i e = found_there s (shapes ns) i e

pub place_entered : (ns ms : List Node) (n : Node) (s : Shape) → ms ≡ ns ++ n ∷ [] → shape_of n ≡ s → slice_get (shapes ms) (length ns) ≡ Some s
place_entered ns ms n s e f =
    ap (λ xs. slice_get xs (length ns)) (shapes_pushed ns ms n s e f)
    ∙ ap (slice_get (shapes ns ++ s ∷ [])) (sym (length-map ns shape_of))
    ∙ get_last (shapes ns) s

-- ---- terms and names that are kept where nodes come behind
shapes_front : (ns more : List Node) → shapes (ns ++ more) ≡ shapes ns ++ shapes more
shapes_front ns more = map-append shape_of ns more

pub keeps_front : (ns ms : List Node) → IsFront ns ms → Keeps (terms (shapes ns)) (terms (shapes ms))
keeps_front ns ms f i t e = ap (λ xs. slice_get (terms xs) i) (ap shapes f.1 ∙ shapes_front ns f.0) ∙ keeps_append (shapes ns) (shapes f.0) i t e

pub longer : {A : Type 0} (xs ys : List A) → IsFront xs ys → length xs ≤ length ys
longer xs ys f = omega (arith, ap length f.1, length-append xs f.0)

pub no_names : (ns : List Node) → AreNames ns [] []
no_names ns = record { terms = refl; within = tt }

pub all_push : (n : ℕ) (names : List ℕ) (a : ℕ) → AllByRecursion (λ a. a < n) names → a < n → AllByRecursion (λ a. a < n) (names ++ a ∷ [])
all_push n [] a all h = (h, tt)
all_push n (b ∷ names) a all h = (all.0, all_push n names a all.1 h)

pub name_pushed : (ns ms : List Node) (names names' : List ℕ) (ts : List Term) (t : Term) (a : ℕ) → AreNames ns names ts → IsFront ns ms
    → slice_get (terms (shapes ms)) a ≡ Some t → names' ≡ names ++ a ∷ [] → AreNames ms names' (ts ++ t ∷ [])
name_pushed ns ms names names' ts t a h f e p =
    let len : length ns ≡ length (terms (shapes ns)) = sym (length_terms (shapes ns) ∙ length-map ns shape_of) in
    let len' : length (terms (shapes ms)) ≡ length ms = length_terms (shapes ms) ∙ length-map ms shape_of in
    let l : a < length (terms (shapes ms)) = slice_get_within (terms (shapes ms)) a t e in
    let lw : length ns ≤ length ms = longer ns ms f in
    let kept : map (named (terms (shapes ms))) names ≡ map (named (terms (shapes ns))) names =
    all_named_kept (terms (shapes ns)) (terms (shapes ms)) (keeps_front ns ms f) names (subst (λ n. AllByRecursion (λ a. a < n) names) len h.within) in
    record {
      terms = ap (map (named (terms (shapes ms)))) p ∙ map_push (named (terms (shapes ms))) names a ∙ (λ i. (kept ∙ h.terms) i ++ or_else (e i) (Bound 0) ∷ []);
      within = subst (λ l. AllByRecursion (λ a. a < length ms) l) (sym p) (all_push (length ms) names a (widened (length ns) (length ms) lw names h.within) (omega arith));
    }

-- numbers that are below a length, and one more
pub within_none : (n : ℕ) → AreWithin n []
within_none n = record { all = tt }

pub within_wider : (m n : ℕ) (names : List ℕ) → m ≤ n → AreWithin m names → AreWithin n names
within_wider m n names h w = record { all = widened m n h names w.all }

pub within_push : {A : Type 0} (xs ys : List A) (names names' : List ℕ) (a : ℕ) → IsFront xs ys → AreWithin (length xs) names → a < length ys → names' ≡ names ++ a ∷ [] → AreWithin (length ys) names'
within_push xs ys names names' a f w h e =
    subst (AreWithin (length ys)) (sym e) (record { all = all_push (length ys) names a (widened (length xs) (length ys) (longer xs ys f) names w.all) h })

pub shape_within : (ns : List Node) (i : ℕ) (s : Shape) → slice_get (shapes ns) i ≡ Some s → i < length ns
shape_within ns i s e = let h : i < length (shapes ns) = slice_get_within (shapes ns) i s e in omega (arith, h, length-map ns shape_of)
