-- What is still to be met of a head.
use Rattle.std.proofs.Common.{◌≡◌, ℕ, ◌+◌, ◌<◌, List, [], ◌∷◌, ◌++◌, length, map, reverse, refl, ap, ◌∙◌, arith}
use Rattle.std.proofs.lemmas.List.{length-map}
use Rattle.pl_term.specs.Cells.{compound_cells, compound_cells_all}
use Rattle.pl_term.specs.Tree.{Chars, comp, trees}
use Rattle.pl_term.proofs.Spelled.{count-trees}
use Rattle.term_store.specs.declared.words.Word.{Word}
use Rattle.term_store.specs.declared.words.Word.TheVariants.{Comp}
use Rattle.term_store.specs.declared.words.Pair.{Pair}
use Rattle.term_store.specs.declared.block.Block.{Block}
use Rattle.term_store.specs.Blocks.{part_of}
use Rattle.term_store.specs.Entering.{weight, weights}
use Rattle.term_store.specs.Unifying.{zip_words}
use Rattle.term_store.proofs.Pairing.{reverse-cons}

pub weights-append : (b : Block) (ps qs : List Pair) → weights b (ps ++ qs) ≡ weights b ps + weights b qs
weights-append b [] qs = omega arith
weights-append b (p ∷ ps) qs = omega (arith, weights-append b ps qs)

weights-reverse : (b : Block) (ps : List Pair) → weights b (reverse ps) ≡ weights b ps
weights-reverse b [] = refl
weights-reverse b (p ∷ ps) =
    omega (arith, ap (weights b) (reverse-cons p ps), weights-append b (reverse ps) (p ∷ []), weights-reverse b ps)

weights-zip : (b : Block) (vs ws : List Word) → length vs ≡ length ws
    → weights b (zip_words vs ws) ≡ length ws + compound_cells_all (trees (map (part_of b) ws))
weights-zip b [] [] e = refl
weights-zip b [] (w ∷ ws) e = cc
weights-zip b (v ∷ vs) [] e = cc
weights-zip b (v ∷ vs) (w ∷ ws) e =
    let e' : length vs ≡ length ws = cc in
    omega (arith, weights-zip b vs ws e')

-- The arguments of a compound term weigh less than the term.
pub parts_lighter : (b : Block) (vs : List Word) (k : ℕ) (name : Chars) (first : Word) (others : List Word) → length vs ≡ length (first ∷ others)
    → part_of b (Comp k) ≡ comp name (part_of b first) (trees (map (part_of b) others)) → weights b (reverse (zip_words vs (first ∷ others))) < weight b (Comp k)
parts_lighter b vs k name first others e means =
    omega (
      arith,
      weights-reverse b (zip_words vs (first ∷ others)),
      weights-zip b vs (first ∷ others) e,
      ap compound_cells means,
      count-trees (map (part_of b) others) ∙ length-map others (part_of b),
    )
