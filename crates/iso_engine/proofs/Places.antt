-- The places of variables that were found.
use Rattle.std.proofs.Common.{◌≡◌, ℕ, zero, suc, ◌+◌, List, [], ◌∷◌, ◌++◌, length, map, sym, ap, ap₂, ◌∙◌, arith, length-append}
use Rattle.std.proofs.lemmas.List.{map-append}
use Rattle.pl_term.specs.Tree.{var}
use Rattle.term_store.specs.declared.words.Place.{Place}
use Rattle.term_store.specs.Contents.{Contents, term_at, upwards}

-- One more, whose number is how many were found.
pub found_more : (s : Contents) (found new : List Place) (p : Place) (n : ℕ) → new ≡ found ++ p ∷ [] → term_at s p ≡ var n → n ≡ length found
    → map (term_at s) found ≡ map var (upwards zero (length found))
    → map (term_at s) new ≡ map var (upwards zero (length new))
found_more s found new p n is stands number h =
    ap (map (term_at s)) is
    ∙ map-append (term_at s) found (p ∷ [])
    ∙ ap₂ (λ xs x. xs ++ x ∷ []) h (stands ∙ ap var (number ∙ (let e : length found ≡ zero + length found = omega arith in e)))
    ∙ sym (map-append var (upwards zero (length found)) ((zero + length found) ∷ []))
    ∙ ap (λ k. map var (upwards zero k)) (sym (ap length is ∙ length-append found (p ∷ []) ∙ (let e : length found + 1 ≡ suc (length found) = omega arith in e)))
