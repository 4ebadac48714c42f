-- Arguments of two compound terms that are still to be made the same.
use Rattle.std.specs.Prelude.{◌≡◌, ◌≢◌, ◌⊎◌, ℕ, zero, ◌+◌, ◌-◌, ◌<◌, ◌≤◌, ◌==◌, List, [], ◌∷◌, ◌++◌, length, reverse, take, drop, pos, slice_index_or, Option, Some, None, if◌then◌else◌}
use Rattle.std.specs.List.{All}
use Rattle.term_store.specs.declared.words.Word.{Word}
use Rattle.term_store.specs.declared.words.Word.TheVariants.{Int}
use Rattle.term_store.specs.declared.words.Head.{Head}
use Rattle.term_store.specs.declared.words.Pair.{Pair}
use Rattle.term_store.specs.declared.words.Rest.{Rest}
use Rattle.term_store.specs.declared.block.Block.{Block}
use Rattle.term_store.specs.Entering.{Never, Turned, entered}
use Rattle.term_store.specs.Heap.{Heap, meaning}
use Rattle.term_store.specs.Unifying.{zip_words}

-- The pairs of their words, the first one last.
abbrev pub rest_pairs : List Word → List Word → Rest → List Pair
rest_pairs args parts r = reverse (zip_words (take r.count (drop r.left args)) (take r.count (drop r.right parts)))

abbrev pub pairs_of : List Word → List Word → List Rest → List Pair
pairs_of args parts [] = []
pairs_of args parts (r ∷ rs) = rest_pairs args parts r ++ pairs_of args parts rs

-- The words where they begin.
abbrev pub pair_at : List Word → List Word → Rest → Pair
pair_at args parts r = record { left = slice_index_or args r.left (Int (pos 0)); right = slice_index_or parts r.right (Int (pos 0)) }

-- Those behind the first ones.
abbrev pub rest_after : Rest → Rest
rest_after r = record { left = r.left + 1; right = r.right + 1; count = r.count - 1 }

abbrev pub no_rest : Rest
no_rest = record { left = zero; right = zero; count = zero }

-- They are arguments of the heap and of the block.
pub record IsRest (c : Heap) (b : Block) (r : Rest) : Type 0 where
  pub left : r.left + r.count ≤ length c.args
  pub right : r.right + r.count ≤ length b.args.items

-- Those on the stack, which are some each, and those in hand.
pub record AreRests (c : Heap) (b : Block) (rs : List Rest) (r : Rest) : Type 0 where
  pub some : All (λ s. 0 < s.count) rs
  pub stack : All (IsRest c b) rs
  pub hand : IsRest c b r

-- The stack with those that were in hand, if they are some.
abbrev pub stacked : List Rest → Rest → List Rest
stacked rs r = if r.count == zero then rs else rs ++ r ∷ []

-- What comes next: those in hand, or the last ones of the stack if those in hand are none; or nothing is left.
abbrev pub IsNext : Option Rest → List Rest → Rest → List Rest → Type 0
IsNext (Some n) rs r ss = ((0 < r.count) × ((n ≡ r) × (ss ≡ rs))) ⊎ ((r.count ≡ zero) × (rs ≡ ss ++ n ∷ []))
IsNext None rs r ss = (r.count ≡ zero) × (rs ≡ [])

-- A word of the heap and one of the block were made the same, or their arguments are still to be, which were taken in hand then, and
-- what was to come next was put on the stack.
pub record Stepped (b : Block) (c : Heap) (from : ℕ) (known : List Word) (w p : Word) (rs : List Rest) (next : Rest) (d : Heap) (after : List Word) (ss : List Rest) (r : Rest) : Type 0 where
  pub kept : AreRests d b rs next → AreRests d b ss r
  pub turned : Turned b c from known w p (pairs_of d.args b.args.items (rs ++ next ∷ [])) d after (pairs_of d.args b.args.items (ss ++ r ∷ []))

abbrev pub Steps : Option Rest → Block → Heap → ℕ → List Word → Word → Word → List Rest → Rest → Heap → List Word → List Rest → Type 0
Steps (Some r) b c from known w p rs next d after ss = Stepped b c from known w p rs next d after ss r
Steps None b c from known w p rs next d after ss = Never (meaning c w) (entered b c from known p)

-- The same of the words where arguments in hand begin.
abbrev pub StepsAt : Option Rest → Block → Heap → ℕ → List Word → List Rest → Rest → Heap → List Word → List Rest → Type 0
StepsAt q b c from known rs r d after ss =
    Steps q b c from known (pair_at c.args b.args.items r).left (pair_at c.args b.args.items r).right rs (rest_after r) d after ss

-- Two heads of the same name and number of arguments were opened, and what was to come next was put on the stack; or they differ.
abbrev pub Opens : Option Rest → Head → Head → List Rest → Rest → List Rest → Type 0
Opens (Some r) g h rs next ss =
    ((g.name ≡ h.name) × (g.count ≡ h.count)) × ((ss ≡ stacked rs next) × (r ≡ record { left = g.start; right = h.start; count = g.count }))
Opens None g h rs next ss = (g.name ≢ h.name) ⊎ (g.count ≢ h.count)
