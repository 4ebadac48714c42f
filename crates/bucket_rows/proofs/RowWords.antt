-- Heads and the row word: what a kind of step on them gives to a step of the table. And the words that a change of rows makes.
use Rattle.std.proofs.Common.{◌≡◌, ◌≢◌, ℕ, ◌+◌, ◌*◌, ◌/◌, ◌%◌, ◌^◌, ◌<◌, ◌≤◌, List, bit_and, refl, ap, ◌∙◌, arith, false}
use Rattle.std.proofs.lemmas.Nat.{and_block, and_mask}
use mathlib.Core.Logic.{dite}
use mathlib.Core.Option.{some}
use native.Mathlib.Decide.{ℕ_discrete}
use lib.ListN.{get_elem?}
use Rattle.atomic_table.specs.Table.{Allows}
use Rattle.atom_words.specs.Layout.{first_of, closed_of, version_of, head_word, row_first}
use Rattle.atom_words.specs.Board.{Board, head, head_at, with_row, with_head}
use Rattle.atom_words.specs.Rule.{Rule}
use Rattle.atom_words.specs.Kept.{Kept}
use Rattle.atom_words.specs.declared.size.Size.{Size}
use Rattle.atom_words.specs.declared.view.View.{View}
use Rattle.atom_words.proofs.Regions.{head_read, head_write}
use Rattle.atom_words.proofs.Rowing.{rows_apart}
use Rattle.atom_words.proofs.Adapters.{Sat, Picks, goes_at}

pub head_goes : (key z : Size) (slots id : ℕ) (me : Sat) (h : ℕ) (f : ℕ → ℕ) (then : ℕ → Sat → Type 0) → key ≡ z → me.0.gone ≡ false → h < z.heads
    → ((b : Board) (vs : List View) → Kept z b vs → get_elem? vs id ≡ some me.0 → head b h < 18446744073709551616 → Picks z id me (head_at z h) then (λ y. head y h) b (with_head b h (f (head b h))))
    → Allows (Rule key) slots id me (head_at z h) f then
head_goes key z slots id me h f then is here inside picks = goes_at key z slots id me (head_at z h) f then (λ y. head y h) (λ y x. with_head y h x) (λ b sz. head_read z b sz h inside) (λ b x sz. head_write z b sz h x inside) is here picks

pub row_goes : (key z : Size) (slots id : ℕ) (me : Sat) (f : ℕ → ℕ) (then : ℕ → Sat → Type 0) → key ≡ z → me.0.gone ≡ false
    → ((b : Board) (vs : List View) → Kept z b vs → get_elem? vs id ≡ some me.0 → b.row < 18446744073709551616 → Picks z id me 1 then (λ y. y.row) b (with_row b (f b.row)))
    → Allows (Rule key) slots id me 1 f then
row_goes key z slots id me f then is here picks = goes_at key z slots id me 1 f then (λ y. y.row) (λ y x. with_row y x) (λ b sz. refl) (λ b x sz. refl) is here picks

-- a row is known by its first head
pub one_row : (r s : ℕ) → 256 ≤ 2 ^ r → 256 ≤ 2 ^ s → row_first r ≡ row_first s → r ≡ s
one_row r s wide wide_too e = dite (ℕ_discrete r s) (λ (same : r ≡ s). same)
    (λ (ne : r ≢ s). absurd (rows_apart r s (row_first r) wide wide_too ne (omega arith) (omega (arith, wide)) (omega (arith, e)) (omega (arith, e, wide_too))))

-- the exchange that clears the first slot of a closed head
pub and_rest : (n : ℕ) → n < 18446744073709551616 → closed_of n ≡ 1 → bit_and n 18446744073707454464 ≡ head_word 0 1 (version_of n)
and_rest n small closed = let e : bit_and (n / 2097152 * 2097152 + n % 2097152) (8796093022207 * 2097152 + 0) ≡ bit_and (n / 2097152) 8796093022207 * 2097152 + bit_and (n % 2097152) 0 = and_block 21 (n / 2097152) 8796093022207 (n % 2097152) 0 (omega arith) (omega arith) in
    let high : bit_and (n / 2097152) 8796093022207 ≡ n / 2097152 % 8796093022208 = and_mask (n / 2097152) 43 in let low : bit_and (n % 2097152) 0 ≡ n % 2097152 % 1 = and_mask (n % 2097152) 0 in
    let whole : n ≡ n / 2097152 * 2097152 + n % 2097152 = omega arith in ap (λ (m : ℕ). bit_and m 18446744073707454464) whole ∙ (e ∙ (let sum : bit_and (n / 2097152) 8796093022207 * 2097152 + bit_and (n % 2097152) 0 ≡ head_word 0 1 (version_of n) = omega (arith, high, low, small, closed) in sum))

-- the exchange that opens a closed head, whose version is not the last
pub open_word : (n : ℕ) → closed_of n ≡ 1 → version_of n < 4398046511103 → (n + 2097152) % 18446744073709551616 ≡ head_word (first_of n) 0 (version_of n + 1)
open_word n closed early = omega (arith, closed, early)

-- the word that closes an open head
pub shut_word : (n : ℕ) → closed_of n ≡ 0 → head_word (first_of n) 1 (version_of n + 1) ≡ n + 2097152 + 4194304
shut_word n open_ = omega (arith, open_)

-- the word of a closed head with no slot, to which one is put
pub put_word : (n k : ℕ) → first_of n ≡ 0 → closed_of n ≡ 1 → head_word (k + 1) 1 (version_of n) ≡ n + k + 1
put_word n k empty closed = omega (arith, empty, closed)
