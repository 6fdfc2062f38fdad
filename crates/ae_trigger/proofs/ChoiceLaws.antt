-- Which candidates are triggers, as the program and the definition say it.
use Rattle.std.specs.Prelude.{ℕ, ◌+◌, ◌<◌, ◌≡◌, ◌≢◌, Bool, true, false, cond, not, ◌&&◌, List, [], ◌∷◌, ◌++◌, map, take, length}
use Rattle.std.specs.List.{list_any}
use Rattle.std.proofs.Common.{refl, sym, ap, ◌∙◌, get_or, append_assoc, add-one}
use Rattle.std.proofs.lemmas.List.{take_more, append-nil, map-append}
use Rattle.std.proofs.lemmas.List.Folds.{list_all-map}
use Rattle.ae_core.specs.declared.terms.Term.{Term}
use Rattle.ae_journal.specs.Triggers as definition
use Rattle.ae_journal.specs.Triggers.{numbers_below, occurs, kept, adding, made_by, smallest}
use Rattle.ae_trigger.specs.declared.choice.Wanted.{Wanted}
use Rattle.ae_trigger.specs.Inner.Kept.{with_one}
use Rattle.ae_trigger.specs.Inner.Choices.{meant, has_all, adds, have_all, joint, made_of}
use Rattle.ae_trigger.proofs.OccurrenceRules.{any_map}
use Rattle.ae_trigger.proofs.KeptLaws.{one_is}

-- ---- what is wanted
pub wanted_step : (front : List (Bool × ℕ)) (old new : List Wanted) (i : ℕ) (k : Bool) (w : Wanted) → map meant old ≡ front ++ map (λ j. (k, j)) (numbers_below i) → new ≡ old ++ w ∷ [] → meant w ≡ (k, i)
    → map meant new ≡ front ++ map (λ j. (k, j)) (numbers_below (i + 1))
wanted_step front old new i k w e p m =
    let f : ℕ → Bool × ℕ = λ j. (k, j) in
    let more : map f (numbers_below (i + 1)) ≡ map f (numbers_below i) ++ (k, i) ∷ [] = ap (λ n. map f (numbers_below n)) (add-one i) ∙ map-append f (numbers_below i) (i ∷ []) in
    ap (map meant) p ∙ map-append meant old (w ∷ []) ∙ (λ j. e j ++ m j ∷ []) ∙ append_assoc front (map f (numbers_below i)) ((k, i) ∷ []) ∙ ap (λ z. front ++ z) (sym more)

all_is : (ws : List Wanted) (t : Term) → has_all ws t ≡ definition.has_all (map meant ws) t
all_is ws t = sym (list_all-map (λ v. occurs v t) meant ws)

-- ---- from left to right
-- it adds something wanted
abbrev is_new : List (Bool × ℕ) → List Term → Term → Bool
is_new want taken t = list_any (λ v. occurs v t && not (list_any (occurs v) taken)) want

abbrev AddingMore : List (Bool × ℕ) → List Term → List Term → Term → Type 0
AddingMore want taken xs x = adding want taken (xs ++ x ∷ []) ≡ adding want taken xs ++ cond (is_new want (taken ++ adding want taken xs) x) (x ∷ []) []

adding_more : (want : List (Bool × ℕ)) (taken xs : List Term) (x : Term) → AddingMore want taken xs x
adding_more want taken [] x = ap (λ k. cond (is_new want k x) (x ∷ []) []) (sym (append-nil taken))
adding_more want taken (y ∷ xs) x = go (adding_more want (taken ++ y ∷ []) xs x) (adding_more want taken xs x) (is_new want taken y)
  where
    go : AddingMore want (taken ++ y ∷ []) xs x → AddingMore want taken xs x → (b : Bool) → cond b (y ∷ adding want (taken ++ y ∷ []) (xs ++ x ∷ [])) (adding want taken (xs ++ x ∷ []))
        ≡ cond b (y ∷ adding want (taken ++ y ∷ []) xs) (adding want taken xs)
        ++ cond (is_new want (taken ++ cond b (y ∷ adding want (taken ++ y ∷ []) xs) (adding want taken xs)) x) (x ∷ []) []
    go new there true =
        let rest = adding want (taken ++ y ∷ []) xs in
        ap (λ w. y ∷ w) (new ∙ ap (λ k. rest ++ cond (is_new want k x) (x ∷ []) []) (append_assoc taken (y ∷ []) rest))
    go new there false = there

pub adding_step : (ws : List Wanted) (xs : List Term) (i : ℕ) (d x : Term) (b : Bool) (ks more : List Term) → i < length xs → ks ≡ adding (map meant ws) [] (take i xs) → x ≡ get_or xs i d → b ≡ adds ws ks x
    → more ≡ with_one b ks x → more ≡ adding (map meant ws) [] (take (i + 1) xs)
adding_step ws xs i d x b ks more l k g t e =
    let want = map meant ws in
    let passes : b ≡ is_new want (adding want [] (take i xs)) (get_or xs i d) =
    t ∙ sym (any_map (λ v. occurs v x && not (list_any (occurs v) ks)) meant ws) ∙ (λ j. is_new want (k j) (g j)) in
    e ∙ (λ j. with_one (passes j) (k j) (g j)) ∙ one_is (is_new want (adding want [] (take i xs)) (get_or xs i d)) (adding want [] (take i xs)) (get_or xs i d)
    ∙ sym (ap (adding want []) (take_more xs i d l) ∙ adding_more want [] (take i xs) (get_or xs i d))

-- ---- one trigger of several terms
pub joint_none : (ws : List Wanted) (ts : List Term) → ts ≡ [] → [] ≡ joint ws ts
joint_none ws ts e = sym (ap (joint ws) e)

pub joint_lacks : (ws : List Wanted) (ts us : List Term) → us ≡ ts → have_all ws us ≡ false → [] ≡ joint ws ts
joint_lacks ws [] us e h = refl
joint_lacks ws (t ∷ ts) us e h = sym (ap (λ b. cond b ((t ∷ ts) ∷ []) []) (sym (ap (have_all ws) e) ∙ h))

pub joint_all : (ws : List Wanted) (ts us : List Term) → us ≡ ts → ts ≢ [] → have_all ws us ≡ true → ts ∷ [] ≡ joint ws ts
joint_all ws [] us e n h = absurd (n refl)
joint_all ws (t ∷ ts) us e n h = sym (ap (λ b. cond b ((t ∷ ts) ∷ []) []) (sym (ap (have_all ws) e) ∙ h))

joint_is : (ws : List Wanted) (ts : List Term) → joint ws ts ≡ definition.joint (map meant ws) ts
joint_is ws [] = refl
joint_is ws (t ∷ ts) = ap (λ b. cond b ((t ∷ ts) ∷ []) []) (sym (list_all-map (λ v. list_any (occurs v) (t ∷ ts)) meant ws))

-- ---- all of it
module _ (ws : List Wanted) (all cover small : List Term) (c : cover ≡ kept (has_all ws) all) (s : small ≡ smallest cover) where
  smallest_is : smallest (kept (definition.has_all (map meant ws)) all) ≡ small
  smallest_is = sym (s ∙ ap smallest (c ∙ (λ i. kept (λ t. all_is ws t i) all)))

  pub made_several : (several : List Term) (triggers : List (List Term)) → small ≡ [] → several ≡ adding (map meant ws) [] all → triggers ≡ joint ws several → triggers ≡ made_of (map meant ws) all
  made_several several triggers n a j = j ∙ joint_is ws several ∙ ap (definition.joint (map meant ws)) a ∙ sym (ap (made_by (map meant ws) all) (smallest_is ∙ n))

  made_some : (ts : List Term) → ts ≢ [] → map (λ u. u ∷ []) (take 10 ts) ≡ made_by (map meant ws) all ts
  made_some [] n = absurd (n refl)
  made_some (t ∷ ts) n = refl

  pub made_singles : (ten : List Term) (triggers : List (List Term)) → small ≢ [] → ten ≡ take 10 small → triggers ≡ map (λ u. u ∷ []) ten → triggers ≡ made_of (map meant ws) all
  made_singles ten triggers n t e = e ∙ ap (map (λ u. u ∷ [])) t ∙ made_some small n ∙ sym (ap (made_by (map meant ws) all) smallest_is)
