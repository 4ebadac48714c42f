-- The engines of a run, sorted, of which the last in the list is the first one.
use Rattle.std.proofs.Common.{◌≡◌, ◌⊎◌, Bool, inl, inr, ℕ, List, [], ◌∷◌, ◌++◌, sym, subst}
use Rattle.std.specs.List.{All, Contains}
use Rattle.std.specs.Prelude.{IsPermutation}
use Rattle.std.proofs.lemmas.List.{map-append}
use Rattle.std.proofs.lemmas.List.Elements.{All-cons, All-head, All-nil, All-tail, Contains-append_cases}
use Rattle.std.proofs.lemmas.List.Sorted.{All-permutation, Contains-permutation, IsPermutation-map}
use Rattle.pl_term.specs.Tree.{Chars}
use Rattle.pl_model.specs.History.{History}
use Rattle.run_model.specs.Execution.{Execution, Refusal, Word}
use Rattle.run_model.specs.Lawful.{Program, Told}
use Rattle.run_model.specs.Report.{Finals}
use Rattle.run_model.specs.WholeRuns.{Carried}
use Rattle.run_report.specs.declared.parts.Part.{Part}
use Rattle.run_report.specs.Parts.{IsWhole}
use Rattle.toplevel.specs.declared.opened.OpenedEngine.{OpenedEngine}
use Rattle.toplevel.specs.Kept.{AllBegun, Covers}
use Rattle.toplevel.specs.Opened.{IsOpened, opened_numbers}

all_before : {X : Type 0} (P : X → Type 0) (xs ys : List X) → All P (xs ++ ys) → All P xs
all_before P [] ys all = All-nil P
all_before P (x ∷ xs) ys all = All-cons P x xs (All-head P x (xs ++ ys) all) (all_before P xs ys (All-tail P x (xs ++ ys) all))

all_behind : {X : Type 0} (P : X → Type 0) (xs ys : List X) → All P (xs ++ ys) → All P ys
all_behind P [] ys all = all
all_behind P (x ∷ xs) ys all = all_behind P xs ys (All-tail P x (xs ++ ys) all)

module _ (p : Program) (file : Chars) (board : ℕ) (h : History) (opened sorted left : List OpenedEngine) (first : OpenedEngine)
    (permuted : IsPermutation opened sorted) (popped : sorted ≡ left ++ first ∷ []) where
  all_sorted : All (IsOpened p file board h) opened → All (IsOpened p file board h) (left ++ first ∷ [])
  all_sorted all =
      subst (λ (os : List OpenedEngine). All (IsOpened p file board h) os) popped (All-permutation (IsOpened p file board h) opened sorted permuted all)

  -- THE FIRST ONE and the others were opened.
  pub first_opened : All (IsOpened p file board h) opened → IsOpened p file board h first
  first_opened all = All-head (IsOpened p file board h) first [] (all_behind (IsOpened p file board h) left (first ∷ []) (all_sorted all))

  pub rest_opened : All (IsOpened p file board h) opened → All (IsOpened p file board h) left
  rest_opened all = all_before (IsOpened p file board h) left (first ∷ []) (all_sorted all)

  -- NO OTHER ENGINE has begun.
  pub first_covers : (c : Carried p h) → first.part.number ≡ c.number → AllBegun h opened → Covers left (c ∷ [])
  first_covers c own begun e is =
      go
      (Contains-append_cases (opened_numbers left) (first.part.number ∷ []) e
      (subst (λ (ns : List ℕ). Contains ns e) (map-append (λ (o : OpenedEngine). o.part.number) left (first ∷ []))
      (subst (λ (os : List OpenedEngine). Contains (opened_numbers os) e) popped
      (Contains-permutation (opened_numbers opened) (opened_numbers sorted) e (IsPermutation-map (λ (o : OpenedEngine). o.part.number) opened sorted permuted) (begun e is)))))
    where
      go : Contains (opened_numbers left) e ⊎ Contains (first.part.number ∷ []) e → Contains (opened_numbers left) e ⊎ Contains (c.number ∷ []) e
      go (inl q) = inl q
      go (inr q) = inr (subst (λ (n : ℕ). Contains (n ∷ []) e) own q)

-- The same by other lists that are the same.
pub whole_as : (file : Chars) (p : Program) (told : Told) (finals : Finals) (x : Execution) (text text₁ : List ℕ) (faulty faulty₁ : Bool) (ws ws₁ : List Word) (rs rs₁ : List Refusal)
    (es es₁ ts ts₁ : List Part)
    → text₁ ≡ text → faulty₁ ≡ faulty → ws₁ ≡ ws → rs₁ ≡ rs → es₁ ≡ es → ts₁ ≡ ts
    → IsWhole file p told finals x text faulty ws rs es ts → IsWhole file p told finals x text₁ faulty₁ ws₁ rs₁ es₁ ts₁
whole_as file p told finals x text text₁ faulty faulty₁ ws ws₁ rs rs₁ es es₁ ts ts₁ a b c d e f whole =
    subst (λ (y : List ℕ). IsWhole file p told finals x y faulty₁ ws₁ rs₁ es₁ ts₁) (sym a)
    (subst (λ (y : Bool). IsWhole file p told finals x text y ws₁ rs₁ es₁ ts₁) (sym b)
    (subst (λ (y : List Word). IsWhole file p told finals x text faulty y rs₁ es₁ ts₁) (sym c)
    (subst (λ (y : List Refusal). IsWhole file p told finals x text faulty ws y es₁ ts₁) (sym d)
    (subst (λ (y : List Part). IsWhole file p told finals x text faulty ws rs y ts₁) (sym e)
    (subst (λ (y : List Part). IsWhole file p told finals x text faulty ws rs es y) (sym f) whole)))))
