-- The loop of turns, one turn after the other.
use Rattle.std.proofs.Common.{◌≡◌, ℕ, suc, ◌-◌, ◌<◌, List, [], ◌∷◌, ◌++◌, Option, Some, None, sym, ap, subst, ◌∙◌, arith}
use Rattle.pl_term.specs.declared.node.Node.{Node}
use Rattle.pl_term.specs.Tree.{Tree}
use Rattle.pl_term.specs.Nodes.{forest}
use Rattle.pl_model.specs.Unify.{Bindings, solve}
use Rattle.pl_model.specs.declared.unifying.Outcome.{Outcome}
use Rattle.pl_model.specs.declared.unifying.Outcome.TheVariants.{Same, Clash, Binds}
use Rattle.pl_model.specs.laws.UnifyTurns.{Turned}
use Rattle.pl_model.proofs.UnifyCode.{Unifying}

one_turn : (bs : Bindings) (ls rs : List Node) (k : ℕ) (answer : Option Bindings) → Unifying bs ls rs k answer → 0 < k
    → solve (suc (k - 1)) bs (forest ls) (forest rs) ≡ answer
one_turn bs ls rs k answer u h =
    let more : suc (k - 1) ≡ k = omega arith in
    ap (λ n. solve n bs (forest ls) (forest rs)) more ∙ u.solves

pub unifying_same : (bs : Bindings) (ls rs ms ns : List Node) (k : ℕ) (o : Outcome) (answer : Option Bindings) → Unifying bs ls rs k answer → 0 < k
    → o ≡ Same → Turned o ls rs ms ns → Some bs ≡ answer
unifying_same bs ls rs ms ns k o answer u h e t =
    let turned = subst (λ p. Turned p ls rs ms ns) e t in
    sym (turned (k - 1) bs) ∙ one_turn bs ls rs k answer u h

pub unifying_clash : (bs : Bindings) (ls rs ms ns : List Node) (k : ℕ) (o : Outcome) (answer : Option Bindings) → Unifying bs ls rs k answer → 0 < k
    → o ≡ Clash → Turned o ls rs ms ns → None ≡ answer
unifying_clash bs ls rs ms ns k o answer u h e t =
    let turned = subst (λ p. Turned p ls rs ms ns) e t in
    sym (turned (k - 1) bs) ∙ one_turn bs ls rs k answer u h

pub unifying_more : (bs cs : Bindings) (ls rs ms ns : List Node) (k l x : ℕ) (s : Tree) (o : Outcome) (answer : Option Bindings)
    → Unifying bs ls rs k answer → 0 < k → k - 1 ≡ l → o ≡ Binds x s → Turned o ls rs ms ns → cs ≡ bs ++ (x, s) ∷ [] → Unifying cs ms ns l answer
unifying_more bs cs ls rs ms ns k l x s o answer u h less e t pushed =
    let turned = subst (λ p. Turned p ls rs ms ns) e t in
    record {
      facing = turned.0;
      solves = ap (λ b. solve l b (forest ms) (forest ns)) pushed ∙ ap (λ n. solve n (bs ++ (x, s) ∷ []) (forest ms) (forest ns)) (sym less)
          ∙ sym (turned.1 (k - 1) bs) ∙ one_turn bs ls rs k answer u h;
    }

pub unifying_end : (bs : Bindings) (ls rs : List Node) (k : ℕ) (answer : Option Bindings) → Unifying bs ls rs k answer → k ≡ 0 → None ≡ answer
unifying_end bs ls rs k answer u e = ap (λ n. solve n bs (forest ls) (forest rs)) (sym e) ∙ u.solves
