-- How contents are told apart where a proof stores them. Nothing of them is stored at run time.
use Rattle.std.specs.Prelude.{◌≡◌, ◌⊎◌, ℕ, ℤ, List, refl}
use Rattle.std.specs.Coded.{Coded, code_by, coded_list, coded_ℕ, coded_ℤ, coded×, coded⊎}
use Rattle.std.proofs.Common.{inl, inr}
use Rattle.term_store.specs.declared.words.Word.{Word}
use Rattle.term_store.specs.declared.words.Word.TheVariants.{Var, Int, Atom, Comp}
use Rattle.term_store.specs.declared.words.Head.{Head}
use Rattle.term_store.specs.declared.words.Bond.{Bond}
use Rattle.term_store.specs.Heap.{Heap}
use Rattle.term_store.specs.Contents.{Contents}

abbrev pub WordParts : Type 0
WordParts = (ℕ ⊎ ℤ) ⊎ (ℕ ⊎ ℕ)

abbrev pub word_parts : Word → WordParts
word_parts (Var i) = inl (inl i)
word_parts (Int n) = inl (inr n)
word_parts (Atom a) = inr (inl a)
word_parts (Comp k) = inr (inr k)

abbrev pub word_of : WordParts → Word
word_of (inl (inl i)) = Var i
word_of (inl (inr n)) = Int n
word_of (inr (inl a)) = Atom a
word_of (inr (inr k)) = Comp k

pub word_back : (w : Word) → word_of (word_parts w) ≡ w
word_back (Var i) = refl
word_back (Int n) = refl
word_back (Atom a) = refl
word_back (Comp k) = refl

abbrev pub coded_word : Coded Word
coded_word = code_by WordParts (coded⊎ (coded⊎ coded_ℕ coded_ℤ) (coded⊎ coded_ℕ coded_ℕ)) word_parts word_of word_back

abbrev pub coded_head : Coded Head
coded_head =
    code_by (ℕ × (ℕ × ℕ)) (coded× coded_ℕ (coded× coded_ℕ coded_ℕ)) (λ h. (h.name, (h.start, h.count)))
    (λ t. record { name = t.0; start = t.1.0; count = t.1.1 }) (λ _. refl)

abbrev pub coded_bond : Coded Bond
coded_bond = code_by (ℕ × Word) (coded× coded_ℕ coded_word) (λ b. (b.slot, b.word)) (λ t. record { slot = t.0; word = t.1 }) (λ _. refl)

abbrev pub coded_heap : Coded Heap
coded_heap =
    code_by ((List Head × List Word) × (List ℕ × List Bond))
    (coded× (coded× (coded_list coded_head) (coded_list coded_word)) (coded× (coded_list coded_ℕ) (coded_list coded_bond)))
    (λ h. ((h.heads, h.args), (h.numbers, h.trail)))
    (λ t. record { heads = t.0.0; args = t.0.1; numbers = t.1.0; trail = t.1.1 }) (λ _. refl)

abbrev pub coded_contents : Coded Contents
coded_contents =
    code_by (Heap × (ℕ × ℕ)) (coded× coded_heap (coded× coded_ℕ coded_ℕ)) (λ s. (s.heap, (s.used, s.budget)))
    (λ t. record { heap = t.0; used = t.1.0; budget = t.1.1 }) (λ _. refl)
