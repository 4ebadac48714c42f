-- A new table and its seats.
use Rattle.std.specs.Prelude.{◌≡◌, ℕ, ◌+◌, ◌<◌, List, [], ◌∷◌, ◌++◌, map, replicate, Some, None}
use Rattle.pl_term.specs.Tree.{Chars}
use Rattle.atom_words.specs.Chains.{In}
use Rattle.atom_words.specs.Plays.{Alone}
use Rattle.atom_words.specs.Views.{uncounted}
use Rattle.atom_words.specs.Seats.{seen}
use Rattle.atom_words.specs.declared.view.Held.{Held}
use Rattle.atom_words.specs.declared.view.View.{View}
use Rattle.atom_words.specs.declared.words.Words.{Words}
use Rattle.atom_words.specs.declared.words.AtomSeat.{AtomSeat}
use Rattle.bucket_rows.specs.Walks.{spelled}
use Rattle.atom_api.specs.Fixed.{fixed_texts, numbered}
use Rattle.atom_table.specs.Holding.{Sits}

-- The fixed atoms, each in the slot of its number
abbrev pub fixed_slot : ℕ × Chars → Held
fixed_slot r = record { slot = r.0; text = spelled r.1 }

abbrev pub fixed_slots : List Held
fixed_slots = map fixed_slot (numbered 0 fixed_texts)

-- The seat of an engine of a new table. It knows that each of the first 256 heads has the version that the table begins with, or a later one
pub record Fresh (w : Words) (engine : ℕ) (s : AtomSeat) : Type 0 where
  pub sits : Sits w s
  pub held : (seen s).held ≡ []
  pub fixed : (seen s).fixed ≡ fixed_slots
  pub numbered : (seen s).cycle.engine ≡ engine
  pub counts : (seen s).counts ≡ None
  pub refusals : (seen s).refusals ≡ []
  pub asked : (seen s).asked ≡ []
  pub sweep : (seen s).sweep ≡ None
  pub risen : (seen s).risen ≡ 256

-- those of the engines from a number on
abbrev pub FreshFrom : Words → ℕ → List AtomSeat → Type 0
FreshFrom w n [] = Unit {0}
FreshFrom w n (s ∷ ss) = Fresh w n s × FreshFrom w (n + 1) ss

-- the seat from which n engines' seats are still to be dealt
pub record Source (w : Words) (n : ℕ) (s : AtomSeat) : Type 0 where
  pub sits : Sits w s
  pub held : (seen s).held ≡ []
  pub fixed : (seen s).fixed ≡ fixed_slots
  pub undealt : (seen s).undealt ≡ n
  pub sweep : (seen s).sweep ≡ None
  pub risen : (seen s).risen ≡ 256

-- what is held, the walk, the pass, the refusals, the texts asked and the steps made aside, the view w is v
pub record Stays (v w : View) : Type 0 where
  pub gone : w.gone ≡ v.gone
  pub size : w.size ≡ v.size
  pub own : w.own ≡ v.own
  pub fixed : w.fixed ≡ v.fixed
  pub counts : w.counts ≡ v.counts
  pub undealt : w.undealt ≡ v.undealt
  pub cycle : w.cycle ≡ v.cycle
  pub sweep : w.sweep ≡ v.sweep
  pub risen : w.risen ≡ v.risen

-- the same, the own slot aside
pub record Carries (v w : View) : Type 0 where
  pub gone : w.gone ≡ v.gone
  pub size : w.size ≡ v.size
  pub fixed : w.fixed ≡ v.fixed
  pub counts : w.counts ≡ v.counts
  pub undealt : w.undealt ≡ v.undealt
  pub cycle : w.cycle ≡ v.cycle
  pub sweep : w.sweep ≡ v.sweep
  pub risen : w.risen ≡ v.risen

-- it counts nothing yet
abbrev pub IsKeeper : View → Type 0
IsKeeper v = (v.counts ≡ Some (replicate v.size.slots uncounted)) × (v.held ≡ []) × (v.fixed ≡ fixed_slots)

-- the slot k, and nothing else, is held beside
pub record Placed (row : List ℕ) (k : ℕ) (v w : View) : Type 0 where
  pub held : w.held ≡ v.held ++ record { slot = k; text = row } ∷ []
  pub alone : Alone v k row
  pub inside : k < v.size.slots
  pub stays : Stays v w

-- the seat holds slots for the fixed atoms alone
abbrev pub Low : View → Type 0
Low v = (a : Held) → In a v.held → a.slot < 256
