-- What a seat keeps at run time of its view.
use Rattle.std.specs.Prelude.{◌≡◌, ℕ, ◌<◌, Option, Some, None}
use Rattle.atom_words.specs.declared.view.Own.{Own}
use Rattle.atom_words.specs.declared.view.Walk.{Walk}
use Rattle.atom_words.specs.declared.view.Passing.{Passing}
use Rattle.atom_words.specs.declared.view.View.{View}

-- the number of the own slot, the head and word of the walk, and the parts of the pass: where there is none, the number given
abbrev pub own_slot : ℕ → Option Own → ℕ
own_slot d None = d
own_slot d (Some o) = o.slot

abbrev pub walk_head : ℕ → Option Walk → ℕ
walk_head d None = d
walk_head d (Some w) = w.head

abbrev pub walk_word : ℕ → Option Walk → ℕ
walk_word d None = d
walk_word d (Some w) = w.word

abbrev pub pass_began : ℕ → Option Passing → ℕ
pass_began d None = d
pass_began d (Some p) = p.began

abbrev pub pass_first : ℕ → Option Passing → ℕ
pass_first d None = d
pass_first d (Some p) = p.first

abbrev pub pass_counted : ℕ → Option Passing → ℕ
pass_counted d None = d
pass_counted d (Some p) = p.counted

abbrev pub OwnTied : View → ℕ → Type 0
OwnTied v own = (own_slot own v.own ≡ own) × (own < v.size.slots)

abbrev pub WalkTied : View → ℕ → ℕ → Type 0
WalkTied v head word = (walk_head head v.walk ≡ head) × (walk_word word v.walk ≡ word) × (head < v.size.heads)

abbrev pub PassTied : View → ℕ → ℕ → ℕ → Type 0
PassTied v began first counted = (pass_began began v.pass ≡ began) × (pass_first first v.pass ≡ first) × (pass_counted counted v.pass ≡ counted)
