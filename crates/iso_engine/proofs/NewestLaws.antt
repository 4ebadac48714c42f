-- Whether the newest choice point has clauses that were not tried.
use Rattle.std.proofs.Common.{◌≡◌, ℕ, suc, ◌<◌, List, [], ◌∷◌, ◌++◌, length, get_or, take, drop, reverse, false, true, refl, sym, ap, ◌∙◌, arith, length-drop}
use Rattle.std.proofs.Math.Seq.{split_at}
use Rattle.std.proofs.lemmas.Bool.{true≢false}
use Rattle.term_store.specs.declared.words.Place.{Place}
use Rattle.iso_search.specs.declared.choices.Alternative.{Alternative}
use Rattle.iso_search.specs.declared.choices.Alternative.TheVariants.{Clauses, Answers, Told, Branch, Barrier, Catch, Findall}
use Rattle.iso_search.specs.declared.choices.ChoicePoint.{ChoicePoint}
use Rattle.iso_search.specs.declared.choices.Purpose.{Purpose}
use Rattle.iso_search.proofs.Heights.{newest_first}
use Rattle.iso_engine.specs.Newest.{are_clauses, are_clauses_newest}

empty : {X : Type 0} (xs : List X) → length xs ≡ 0 → xs ≡ []
empty [] e = refl
empty (x ∷ xs) e = absurd (omega (arith, e))

pub newest_alternative : (ks : List ChoicePoint) (i : ℕ) (d : ChoicePoint) → length ks ≡ suc i → are_clauses (get_or ks i d).alternative ≡ are_clauses_newest (reverse ks)
newest_alternative ks i d long =
    let k = get_or ks i d in
    let lt : i < length ks = omega (arith, long) in
    let none : drop (suc i) ks ≡ [] = empty (drop (suc i) ks) (omega (arith, length-drop (suc i) ks, long)) in
    let split : ks ≡ take i ks ++ k ∷ [] = split_at ks i d lt ∙ ap (λ l. take i ks ++ (k ∷ l)) none in
    sym (ap (λ l. are_clauses_newest (reverse l)) split ∙ ap are_clauses_newest (newest_first (take i ks) k))

pub none_newest : (ks : List ChoicePoint) → length ks ≡ 0 → false ≡ are_clauses_newest (reverse ks)
none_newest ks none = sym (ap (λ l. are_clauses_newest (reverse l)) (empty ks none))

pub no_clauses : (a : Alternative) → ((p : Purpose) (g : Place) (n l : ℕ) → a ≡ Clauses p g n l → ⊥) → false ≡ are_clauses a
no_clauses (Clauses p g n l) none = absurd (none p g n l refl)
no_clauses (Answers g l) none = refl
no_clauses (Told g ls l) none = refl
no_clauses Branch none = refl
no_clauses Barrier none = refl
no_clauses (Catch c r) none = refl
no_clauses (Findall l f) none = refl

-- Where clauses were newest, those of the choice point that was taken off are it.
pub taken_off : (ks js : List ChoicePoint) (k : ChoicePoint) → are_clauses_newest (reverse ks) ≡ true → ks ≡ js ++ k ∷ []
    → ((p : Purpose) (g : Place) (n l : ℕ) → k.alternative ≡ Clauses p g n l → ⊥) → ⊥
taken_off ks js k is split none =
    true≢false
    (sym is ∙ ap (λ l. are_clauses_newest (reverse l)) split ∙ ap are_clauses_newest (newest_first js k) ∙ sym (no_clauses k.alternative none))

pub some_newest : (ks : List ChoicePoint) → are_clauses_newest (reverse ks) ≡ true → ks ≡ [] → ⊥
some_newest ks is none = true≢false (sym is ∙ ap (λ l. are_clauses_newest (reverse l)) none)
