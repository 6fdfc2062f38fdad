-- The rules that stand on the chain of a name are those whose left sides have it.
use Rattle.std.specs.Prelude.{◌≡◌, ℕ, ◌↔◌, List}
use Rattle.std.proofs.Common.{sym, subst}
use Rattle.ae_pmap.specs.Forest.{present}
use Rattle.ae_pmap.specs.Pairs.{found}
use Rattle.ae_monoid.specs.declared.chains.Link.{Link}
use Rattle.ae_monoid.specs.Rules.{Contents, rule_at}
use Rattle.ae_monoid.specs.Changes.{HasName}
use Rattle.ae_monoid.specs.Inner.Chains.{IsOn, IsOnOf}
use Rattle.ae_monoid.specs.Inner.Indexes.{AreIndexed, StandsOn}

pub holding : (now inside : Contents) → inside ≡ now → (first second : List Link) → first ≡ inside.links → second ≡ inside.links → (name head : ℕ)
    → ((n : ℕ) → IsOnOf inside.elements first name n → IsOn first head n) → ((n : ℕ) → IsOn first head n → IsOnOf inside.elements first name n)
    → AreIndexed (λ n. rule_at inside n) inside.next (λ n. found (present inside.largest) n) (λ n. found (present inside.elements) n) inside.links
    → (n : ℕ) → StandsOn (λ m. rule_at inside m) second head n ↔ HasName name (rule_at now n)
holding now inside e first second f s name head all only i n = (there, back)
  where
    there : StandsOn (λ m. rule_at inside m) second head n → HasName name (rule_at now n)
    there st =
        let on = subst (λ (ls : List Link). IsOn ls head n) (sym f) (subst (λ (ls : List Link). IsOn ls head n) s st.on) in
        let o = subst (λ (ls : List Link). IsOnOf inside.elements ls name n) f (only n on) in
        subst (λ (c : Contents). HasName name (rule_at c n)) e (record { rule = st.rule; there = st.there; has = i.only_element n name st.rule st.there o })

    back : HasName name (rule_at now n) → StandsOn (λ m. rule_at inside m) second head n
    back h =
        let k = subst (λ (c : Contents). HasName name (rule_at c n)) (sym e) h in
        let o = subst (λ (ls : List Link). IsOnOf inside.elements ls name n) (sym f) (i.by_element n name k.rule k.there k.has) in
        let on = subst (λ (ls : List Link). IsOn ls head n) (sym s) (subst (λ (ls : List Link). IsOn ls head n) f (all n o)) in
        record { rule = k.rule; there = k.there; on = on }
