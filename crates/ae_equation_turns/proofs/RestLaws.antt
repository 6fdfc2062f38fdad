-- What steps rest on: given steps, and justifications of rules.
use Rattle.std.specs.Prelude.{ℕ, zero, suc, ◌+◌, ◌<◌, ◌⊎◌, ◌≡◌, List, [], ◌∷◌, ◌++◌, length, slice_get, Option, Some, Result, Ok, Err, IfOk}
use Rattle.std.proofs.Common.{refl, sym, ◌∙◌, subst, arith, inl, inr}
use Rattle.std.proofs.lemmas.Option.{slice_get_within}
use Rattle.ae_base.proofs.ListFacts.{get_after, value_at}
use Rattle.ae_core.specs.declared.terms.Term.{Term}
use Rattle.ae_core.specs.declared.problems.AcSymbol.{AcSymbol}
use Rattle.ae_core.specs.declared.problems.Signature.{Signature}
use Rattle.ae_store.specs.Growing.{IsFront}
use Rattle.ae_store.specs.Parts.{IsIn, AreIn}
use Rattle.ae_store.proofs.EnterLaws.{front_then}
use Rattle.ae_store.proofs.PartLaws.{in_front, is_one, are_one, are_then}
use Rattle.ae_just.specs.declared.steps.Rule.TheVariants as variant
use Rattle.ae_just.specs.declared.steps.Step.{Step}
use Rattle.ae_just.specs.Needed.{RestsOn}
use Rattle.ae_just.specs.Steps.{Fits}
use Rattle.ae_just.proofs.EmitLaws.{rest_on_earlier}
use Rattle.ae_state_steps.specs.ManySteps.{StatesMany}
use Rattle.ae_multiset_steps.specs.Equating.{IsUnder, RestsOnThese, AreEquated}
use Rattle.ae_multiset_steps.proofs.Fronts.{names_kept}
use Rattle.ae_multiset_steps.proofs.Resting.{rests_as_before, rests_through_one, rests_through_two, rests_wider, rests_later}
use Rattle.ae_monoid.specs.declared.rules.Kept.{Kept}
use Rattle.ae_rule_steps.specs.Said.{AreSaid, IsJustOf, RestsOnRules}
use Rattle.ae_equation_turns.specs.Said.{RestsOnHeld}

-- ---- numbers of two lists
split_at : (a : ℕ) (xs ys : List ℕ) (k : ℕ) → slice_get (xs ++ ys) k ≡ Some a → IsIn a xs ⊎ IsIn a ys
split_at a [] ys k e = inr (record { place = k; is = e })
split_at a (x ∷ xs) ys zero e = inl (record { place = 0; is = e })
split_at a (x ∷ xs) ys (suc k) e = elim (split_at a xs ys k e) [ inl i ↦ inl (record { place = suc i.place; is = i.is }) | inr i ↦ inr i ]

in_back : (a : ℕ) (xs ys : List ℕ) → IsIn a ys → IsIn a (xs ++ ys)
in_back a xs ys i = record { place = length xs + i.place; is = get_after xs ys i.place ∙ i.is }

pub fronts : (xs ys : List ℕ) → AreIn xs (xs ++ ys)
fronts xs ys = record { each = λ a i. in_front a xs ys i }

pub backs : (xs ys : List ℕ) → AreIn ys (xs ++ ys)
backs xs ys = record { each = λ a i. in_back a xs ys i }

-- ---- steps that came before the others
pub rests_sooner_all : (sig : Signature) (ts : List Term) (a b c : List Step) → IsFront a b → Fits sig ts b → (id : ℕ) (given : List ℕ) → ((p : ℕ) → IsIn p given → p < length a) → RestsOnThese b c id given → RestsOnThese a c id given
rests_sooner_all sig ts a b c f fits id given below r = record { each = each }
  where
    each : (k tag : ℕ) (s : Step) → RestsOn c id k → slice_get c k ≡ Some s → s.rule ≡ variant.Hyp tag → IsUnder a given k s
    each k tag s q at is =
        let w = r.each k tag s q at is in
        let u = (rests_as_before a b f (rest_on_earlier sig ts b fits.allowed) w.by (below w.by w.one)).each k tag s w.rests w.there is in
        record { by = w.by; one = w.one; rests = subst (λ (x : ℕ). RestsOn a x k) (is_one u.by w.by u.one) u.rests; there = u.there }

module _ (kept : ℕ → Option Kept) (symbol : AcSymbol) (given : List ℕ) where
  pub held_these : (a b : List Step) (id : ℕ) → RestsOnThese a b id given → RestsOnHeld kept symbol given a b id
  held_these a b id r = record { on = given; are = λ j m. inl m; rests = r }

  -- a given step
  pub held_given : (sig : Signature) (ts : List Term) (a b : List Step) → IsFront a b → Fits sig ts b → (id : ℕ) → id < length a → IsIn id given → RestsOnHeld kept symbol given a b id
  held_given sig ts a b f fits id l i =
      record { on = id ∷ []; are = λ j m. inl (subst (λ (x : ℕ). IsIn x given) (sym (is_one j id m)) i); rests = rests_as_before a b f (rest_on_earlier sig ts b fits.allowed) id l }

  -- a step that rests on rules whose steps came before
  pub held_rules : (sig : Signature) (ts : List Term) (a b c : List Step) → IsFront a b → Fits sig ts b → AreSaid sig ts a kept → (id : ℕ) → RestsOnRules kept symbol b c id → RestsOnHeld kept symbol given a c id
  held_rules sig ts a b c f fits said id r = record { on = r.given; are = λ j m. inr (r.are j m); rests = rests_sooner_all sig ts a b c f fits id r.given below r.rests }
    where
      below : (j : ℕ) → IsIn j r.given → j < length a
      below j m =
          let h = r.are j m in
          let s = (said.each h.number h.rule h.there).states.there in
          subst (λ (x : ℕ). x < length a) h.is (slice_get_within a h.rule.just _ s)

  pub held_later : (sig : Signature) (ts : List Term) (a b c : List Step) → IsFront b c → Fits sig ts c → (id : ℕ) → id < length b → RestsOnHeld kept symbol given a b id → RestsOnHeld kept symbol given a c id
  held_later sig ts a b c f fits id l h = record { on = h.on; are = h.are; rests = rests_later sig ts a b c f fits id l h.on h.rests }

  pub held_one : (a b c : List Step) (id p : ℕ) → RestsOnThese b c id (p ∷ []) → RestsOnHeld kept symbol given a b p → RestsOnHeld kept symbol given a c id
  held_one a b c id p r h = record { on = h.on; are = h.are; rests = rests_through_one a b c id p h.on r h.rests }

  pub held_two : (a b c : List Step) (id p q : ℕ) → RestsOnThese b c id (p ∷ q ∷ []) → RestsOnHeld kept symbol given a b p → RestsOnHeld kept symbol given a b q → RestsOnHeld kept symbol given a c id
  held_two a b c id p q r h g =
      let on = h.on ++ g.on in
      record { on = on; are = are; rests = rests_through_two a b c id p q on r (rests_wider a b p h.on on (fronts h.on g.on) h.rests) (rests_wider a b q g.on on (backs h.on g.on) g.rests) }
    where
      are : (j : ℕ) → IsIn j (h.on ++ g.on) → IsIn j given ⊎ IsJustOf kept symbol j
      are j m = elim (split_at j h.on g.on m.place m.is) [ inl i ↦ h.are j i | inr i ↦ g.are j i ]

  pub held_wider : (more : List ℕ) → AreIn given more → (a b : List Step) (id : ℕ) → RestsOnHeld kept symbol given a b id → RestsOnHeld kept symbol more a b id
  held_wider more w a b id h = record { on = h.on; are = are; rests = h.rests }
    where
      are : (j : ℕ) → IsIn j h.on → IsIn j more ⊎ IsJustOf kept symbol j
      are j m = elim (h.are j m) [ inl i ↦ inl (w.each j i) | inr i ↦ inr i ]

  -- the justification of a rule counts for itself
  pub held_ruled : (number : ℕ) (rule : Kept) → kept number ≡ Some rule → rule.entry.symbol ≡ symbol → (a b : List Step) (id : ℕ) → RestsOnThese a b id (rule.just ∷ given) → RestsOnHeld kept symbol given a b id
  held_ruled number rule there of a b id r = record { on = rule.just ∷ given; are = are; rests = r }
    where
      are : (j : ℕ) → IsIn j (rule.just ∷ given) → IsIn j given ⊎ IsJustOf kept symbol j
      are j m = elim (split_at j (rule.just ∷ []) given m.place m.is) [ inl i ↦ inr (record { number = number; rule = rule; there = there; of = of; is = sym (is_one j rule.just i) }) | inr i ↦ inl i ]

-- a rule's justification, and a step that rests on rules
pub ruled_two : (sig : Signature) (ts : List Term) (kept : ℕ → Option Kept) (symbol : AcSymbol) (number : ℕ) (rule : Kept) → kept number ≡ Some rule → rule.entry.symbol ≡ symbol → (a b c : List Step) → IsFront a b → Fits sig ts b
    → rule.just < length a → (id p : ℕ) → RestsOnRules kept symbol a b p → RestsOnThese b c id (rule.just ∷ p ∷ []) → RestsOnRules kept symbol a c id
ruled_two sig ts kept symbol number rule there of a b c f fits l id p r h =
    let given : List ℕ = (rule.just ∷ []) ++ r.given in
    record {
      given = given;
      are = are;
      rests =
          rests_through_two a b c id rule.just p given h (rests_wider a b rule.just (rule.just ∷ []) given (fronts (rule.just ∷ []) r.given) (rests_as_before a b f (rest_on_earlier sig ts b fits.allowed) rule.just l))
          (rests_wider a b p r.given given (backs (rule.just ∷ []) r.given) r.rests);
    }
  where
    are : (j : ℕ) → IsIn j ((rule.just ∷ []) ++ r.given) → IsJustOf kept symbol j
    are j m = elim (split_at j (rule.just ∷ []) r.given m.place m.is) [ inl i ↦ record { number = number; rule = rule; there = there; of = of; is = sym (is_one j rule.just i) } | inr i ↦ r.are j i ]

-- ---- from one side across to the other
pub states_as : {E : Type 0} (new : List Step) (u : AcSymbol) (xs ys left right : List ℕ) → xs ≡ left → ys ≡ right → (r : Result ℕ E) → IfOk r (λ id. StatesMany new id u xs ys) → IfOk r (λ id. StatesMany new id u left right)
states_as new u xs ys left right e f (Ok id) s = subst (λ (zs : List ℕ). StatesMany new id u zs right) e (subst (λ (zs : List ℕ). StatesMany new id u xs zs) f s)
states_as new u xs ys left right e f (Err x) s = tt

rests_across_at : (sig : Signature) (ts : List Term) (a b c d : List Step) → IsFront a b → IsFront b c → Fits sig ts b → Fits sig ts c → (left middle right back across id : ℕ) → middle < length a → right < length a
    → back < length b → across < length c → RestsOnThese a b back (left ∷ []) → RestsOnThese b c across (back ∷ middle ∷ []) → RestsOnThese c d id (across ∷ right ∷ []) → RestsOnThese a d id (left ∷ middle ∷ right ∷ [])
rests_across_at sig ts a b c d f g fb fc left middle right back across id lm lr lb lc r1 r2 r3 =
    let given : List ℕ = left ∷ middle ∷ right ∷ [] in
    let m = rests_wider a b middle (middle ∷ []) given (are_one middle given (record { place = 1; is = refl })) (rests_as_before a b f (rest_on_earlier sig ts b fb.allowed) middle lm) in
    let l = rests_wider a b back (left ∷ []) given (are_one left given (record { place = 0; is = refl })) r1 in
    let both = rests_through_two a b c across back middle given r2 l m in
    let ac = front_then a b c f g in
    let r = rests_wider a c right (right ∷ []) given (are_one right given (record { place = 2; is = refl })) (rests_as_before a c ac (rest_on_earlier sig ts c fc.allowed) right lr) in
    rests_through_two a c d id across right given r3 both r

pub rests_across : {E : Type 0} (sig : Signature) (ts : List Term) (a b c d : List Step) → IsFront a b → IsFront b c → Fits sig ts b → Fits sig ts c → (left middle right back across : ℕ) → middle < length a → right < length a
    → back < length b → across < length c → RestsOnThese a b back (left ∷ []) → RestsOnThese b c across (back ∷ middle ∷ []) → (r : Result ℕ E) → IfOk r (λ id. RestsOnThese c d id (across ∷ right ∷ []))
    → IfOk r (λ id. RestsOnThese a d id (left ∷ middle ∷ right ∷ []))
rests_across sig ts a b c d f g fb fc left middle right back across lm lr lb lc r1 r2 (Ok id) r3 = rests_across_at sig ts a b c d f g fb fc left middle right back across id lm lr lb lc r1 r2 r3
rests_across sig ts a b c d f g fb fc left middle right back across lm lr lb lc r1 r2 (Err e) r3 = tt

-- ---- steps one for each name
pub equated_kept : (old new : List Step) → IsFront old new → (xs ys ids : List ℕ) → AreEquated old xs ys ids → AreEquated new xs ys ids
equated_kept old new f xs ys ids a = record { as_many = a.as_many; one_each = a.one_each; each = λ i x y id e g h. names_kept old new f id x y (a.each i x y id e g h) }

equated_below : (steps : List Step) (xs ys ids : List ℕ) → AreEquated steps xs ys ids → (id : ℕ) → IsIn id ids → id < length steps
equated_below steps xs ys ids a id i =
    let m = a.as_many in
    let n = a.one_each in
    let l = slice_get_within ids i.place id i.is in
    let x = value_at xs i.place (omega (arith, l, n)) in
    let y = value_at ys i.place (omega (arith, l, n, m)) in
    slice_get_within steps id _ (a.each i.place x.0 y.0 id x.1 y.1 i.is).there

-- ---- what an equation rests on, of whose sides each was reduced
rests_through_all : (a b c : List Step) (id : ℕ) (between given : List ℕ) → RestsOnThese b c id between → ((p : ℕ) → IsIn p between → RestsOnThese a b p given) → RestsOnThese a c id given
rests_through_all a b c id between given r h = record { each = λ k tag s q at is. (let w = r.each k tag s q at is in (h w.by w.one).each k tag s w.rests w.there is) }

module _ (sig : Signature) (ts : List Term) (kept : ℕ → Option Kept) (u : AcSymbol) where
  -- given steps and rules that stood before
  held_sooner : (given : List ℕ) (a b c : List Step) → IsFront a b → Fits sig ts b → AreSaid sig ts a kept → ((p : ℕ) → IsIn p given → p < length a) → (id : ℕ) → RestsOnHeld kept u given b c id → RestsOnHeld kept u given a c id
  held_sooner given a b c f fits said below id h = record { on = h.on; are = h.are; rests = rests_sooner_all sig ts a b c f fits id h.on each h.rests }
    where
      each : (p : ℕ) → IsIn p h.on → p < length a
      each p m = elim (h.are p m) [
        | inl i ↦ below p i
        | inr j ↦ subst (λ (x : ℕ). x < length a) j.is (slice_get_within a j.rule.just _ (said.each j.number j.rule j.there).states.there)
      ]

  pub held_across : (a b c d : List Step) → IsFront a b → IsFront b c → Fits sig ts b → Fits sig ts c → AreSaid sig ts a kept → (xs ys left_equal xs' ys' right_equal : List ℕ) → AreEquated a xs ys left_equal
      → AreEquated a xs' ys' right_equal
      → (left middle right id : ℕ) → middle < length a → left < length b → RestsOnHeld kept u left_equal a b left → RestsOnHeld kept u right_equal b c right → RestsOnThese c d id (left ∷ middle ∷ right ∷ [])
      → RestsOnHeld kept u ((middle ∷ []) ++ (left_equal ++ right_equal)) a d id
  held_across a b c d f g fb fc said xs ys left_equal xs' ys' right_equal el er left middle right id lm ll hl hr r =
      let both = left_equal ++ right_equal in
      let given : List ℕ = (middle ∷ []) ++ both in
      let p = held_wider kept u left_equal given (are_then left_equal both given (fronts left_equal right_equal) (backs (middle ∷ []) both)) a c left (held_later kept u left_equal sig ts a b c g fc left ll hl) in
      let q = held_given kept u given sig ts a c (front_then a b c f g) fc middle lm (in_front middle (middle ∷ []) both (record { place = 0; is = refl })) in
      let w = held_wider kept u right_equal given (are_then right_equal both given (backs left_equal right_equal) (backs (middle ∷ []) both)) a c right
      (held_sooner right_equal a b c f fb said (equated_below a xs' ys' right_equal er) right hr) in
      let on = p.on ++ (q.on ++ w.on) in
      record { on = on; are = are p q w; rests = rests_through_all a c d id (left ∷ middle ∷ right ∷ []) on r (each p q w) }
    where
      are : (p : RestsOnHeld kept u ((middle ∷ []) ++ (left_equal ++ right_equal)) a c left) (q : RestsOnHeld kept u ((middle ∷ []) ++ (left_equal ++ right_equal)) a c middle)
          (w : RestsOnHeld kept u ((middle ∷ []) ++ (left_equal ++ right_equal)) a c right) (j : ℕ) → IsIn j (p.on ++ (q.on ++ w.on)) → IsIn j ((middle ∷ []) ++ (left_equal ++ right_equal)) ⊎ IsJustOf kept u j
      are p q w j m = elim (split_at j p.on (q.on ++ w.on) m.place m.is) [ inl i ↦ p.are j i | inr i ↦ elim (split_at j q.on w.on i.place i.is) [ inl k ↦ q.are j k | inr k ↦ w.are j k ] ]

      each : (p : RestsOnHeld kept u ((middle ∷ []) ++ (left_equal ++ right_equal)) a c left) (q : RestsOnHeld kept u ((middle ∷ []) ++ (left_equal ++ right_equal)) a c middle)
          (w : RestsOnHeld kept u ((middle ∷ []) ++ (left_equal ++ right_equal)) a c right) (j : ℕ) → IsIn j (left ∷ middle ∷ right ∷ []) → RestsOnThese a c j (p.on ++ (q.on ++ w.on))
      each p q w j m =
          let on = p.on ++ (q.on ++ w.on) in
          elim (split_at j (left ∷ []) (middle ∷ right ∷ []) m.place m.is) [
            | inl i ↦ subst (λ (x : ℕ). RestsOnThese a c x on) (sym (is_one j left i)) (rests_wider a c left p.on on (fronts p.on (q.on ++ w.on)) p.rests)
            | inr i ↦ elim (split_at j (middle ∷ []) (right ∷ []) i.place i.is) [
              | inl k ↦ subst (λ (x : ℕ). RestsOnThese a c x on) (sym (is_one j middle k)) (rests_wider a c middle q.on on (are_then q.on (q.on ++ w.on) on (fronts q.on w.on) (backs p.on (q.on ++ w.on))) q.rests)
              | inr k ↦ subst (λ (x : ℕ). RestsOnThese a c x on) (sym (is_one j right k)) (rests_wider a c right w.on on (are_then w.on (q.on ++ w.on) on (backs q.on w.on) (backs p.on (q.on ++ w.on))) w.rests)
            ]
          ]
