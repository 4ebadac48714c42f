-- The words of a new table.
use Rattle.std.specs.Prelude.{ℕ, zero, suc, ◌-◌, ◌*◌, ◌^◌, ◌<◌, ◌≤◌, List, [], ◌∷◌, ◌++◌, replicate}
use Rattle.atom_words.specs.Layout.{head_word}
use Rattle.atom_words.specs.Board.{Board}
use Rattle.atom_words.specs.declared.size.Size.{Size}

-- the sizes that a table may have
abbrev pub Allowed : Size → Type 0
Allowed z = (512 ≤ z.slots) × (z.slots ≤ 1048576) × (z.engines ≤ 64) × (256 ≤ z.heads) × (z.heads ≤ 4194304) × (z.start < 2 ^ 42) × (z.fixed ≤ 256)

-- the eight words of each of n reserved slots, which have no text
abbrev pub shut : ℕ → List ℕ
shut zero = []
shut (suc n) = (1 ∷ replicate 7 0) ++ shut n

-- no atom, all chains empty; the slots below 256 that hold no fixed atom stand reserved, and the heads of all rows but the first are closed
abbrev pub opening_board : Size → Board
opening_board z = record {
  epoch = 0;
  row = 8;
  acks = replicate z.engines 0;
  atoms = replicate z.fixed 0 ++ (replicate (256 - z.fixed) 1 ++ replicate (z.slots - 256) 0);
  links = replicate z.slots 0;
  heads = replicate 256 (head_word 0 0 0) ++ replicate (z.heads - 256) (head_word 0 1 z.start);
  texts = replicate (32 * z.slots) 0;
}
