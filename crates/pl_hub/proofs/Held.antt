-- Parts of a list that has a property.
use Rattle.std.proofs.Common.{List, [], ◌∷◌, ◌++◌, map}
use Rattle.std.specs.List.{All}
use Rattle.std.proofs.lemmas.List.Elements.{All-nil, All-cons, All-head, All-tail}

pub all_left : {A : Type 0} (P : A → Type 0) (xs ys : List A) → All P (xs ++ ys) → All P xs
all_left P [] ys a = All-nil P
all_left P (x ∷ xs) ys a = All-cons P x xs (All-head P x (xs ++ ys) a) (all_left P xs ys (All-tail P x (xs ++ ys) a))

pub all_right : {A : Type 0} (P : A → Type 0) (xs ys : List A) → All P (xs ++ ys) → All P ys
all_right P [] ys a = a
all_right P (x ∷ xs) ys a = all_right P xs ys (All-tail P x (xs ++ ys) a)

pub all_mapped : {A B : Type 0} (f : A → B) (P : B → Type 0) (xs : List A) → All P (map f xs) → All (λ x. P (f x)) xs
all_mapped f P [] a = All-nil (λ x. P (f x))
all_mapped f P (x ∷ xs) a = All-cons (λ y. P (f y)) x xs (All-head P (f x) (map f xs) a) (all_mapped f P xs (All-tail P (f x) (map f xs) a))
