use Rattle.std.proofs.Common.{◌≡◌, ℕ, ◌∷◌, [], ◌++◌, List, replicate, sym, ap, ◌∙◌, append_assoc, append-nil}
use Rattle.atom_words.specs.Opening.{shut}
use Rattle.atom_words.proofs.OpenWords.{shut_more}
use Rattle.atom_words.proofs.opening.extend_shut.Goals as goal

pub loop-i-init : goal.loop-i-init
loop-i-init c = sym (append-nil c.args.words.now.items)

pub loop-i-preserved : goal.loop-i-preserved
loop-i-preserved c = let before : List ℕ = c.args.words.now.items in let n : ℕ = c.loop-i._i in
    c.in_ok-extend-2.ensures ∙ (ap (λ (l : List ℕ). l ++ replicate 7 0) (c.in_ok-extend.ensures ∙ ap (λ (l : List ℕ). l ++ (1 ∷ [])) c.loop-i.invariant)
    ∙ (append_assoc (before ++ shut n) (1 ∷ []) (replicate 7 0) ∙ (append_assoc before (shut n) (1 ∷ replicate 7 0) ∙ ap (λ (l : List ℕ). before ++ l) (shut_more n))))
