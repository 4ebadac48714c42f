-- What is kept stays as the history grows, and as more is held.
use Rattle.std.proofs.Common.{◌≡◌, ℕ, List, [], ◌∷◌, ◌++◌, length, Option, Some, None, IsSome, refl, sym, ap, subst, ◌∙◌, arith, append-nil, length-append}
use Rattle.std.specs.List.{All}
use Rattle.std.proofs.lemmas.List.Elements.{All-weaker}
use Rattle.pl_model.specs.History.{History}
use Rattle.atom_api.specs.Names.{Names}
use Rattle.world_api.specs.Texts.{Holds}
use Rattle.kept_answers.specs.declared.answers.Kept.{Kept}
use Rattle.kept_answers.specs.declared.answers.Space.{Space}
use Rattle.kept_answers.specs.Answered.{AreSound, IsKept, IsSound, IsSoundIn, answer_atoms}
use Rattle.kept_answers.proofs.Keeping.{all_both, held_same}

no_more : (later : History) → length later ≡ 0 → later ≡ []
no_more [] is = refl
no_more (x ∷ later) is = absurd (omega (arith, is))

stays : (goals : ℕ) (h later : History) (n : Names) (k : Option Kept) → IsSoundIn goals h n k → IsSoundIn goals (h ++ later) n k
stays goals h later n None is = is
stays goals h later n (Some k) is =
    let longer = length-append h later in (
      omega (arith, is.0, longer),
      λ same.
          let none : later ≡ [] = no_more later (omega (arith, is.0, longer, same)) in
          let all : h ≡ h ++ later = sym (append-nil h) ∙ ap (λ (x : History). h ++ x) (sym none) in
          subst (λ (x : History). IsKept goals x k.asked k.found n) all (is.1 (omega (arith, is.0, longer, same))),
    )

pub all_stay : (goals : ℕ) (h later : History) (n : Names) (ss : List Space) → AreSound goals h n ss → AreSound goals (h ++ later) n ss
all_stay goals h later n ss all = All-weaker (IsSound goals h n) (IsSound goals (h ++ later) n) (λ s. stays goals h later n s.kept) ss all

kept_on : (goals : ℕ) (h : History) (n o : Names) → Holds n o → (k : Option Kept) → IsSoundIn goals h n k → IsSoundIn goals h o k
kept_on goals h n o holds None is = is
kept_on goals h n o holds (Some k) is = (is.0, λ same. more (is.1 same))
  where
    more : IsKept goals h k.asked k.found n → IsKept goals h k.asked k.found o
    more kept =
        let xs : List ℕ = answer_atoms k.asked k.found in
        let alike : All (λ x. n x ≡ o x) xs = All-weaker (λ x. IsSome (n x)) (λ x. n x ≡ o x) (λ x some. held_same n o x some holds) xs kept.held in
        record {
          held = all_both (λ x. IsSome (n x)) (λ x. n x ≡ o x) (λ x. IsSome (o x)) (λ x some is. subst IsSome is some) xs kept.held alike;
          again = λ m nm same. kept.again m nm (all_both (λ x. m x ≡ o x) (λ x. n x ≡ o x) (λ x. m x ≡ n x) (λ x a b. a ∙ sym b) xs same alike);
        }

pub all_kept_on : (goals : ℕ) (h : History) (n o : Names) → Holds n o → (ss : List Space) → AreSound goals h n ss → AreSound goals h o ss
all_kept_on goals h n o holds ss all = All-weaker (IsSound goals h n) (IsSound goals h o) (λ s. kept_on goals h n o holds s.kept) ss all
