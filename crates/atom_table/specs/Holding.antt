-- What a seat of an atom table holds.
use Rattle.std.specs.Prelude.{◌≡◌, ◌≢◌, ℕ, ◌+◌, ◌^◌, ◌<◌, ◌≤◌, true, List, [], ◌∷◌, ◌++◌, length, Some, None}
use Rattle.std.specs.Str.{all_scalars, chars}
use Rattle.pl_term.specs.Tree.{Chars}
use Rattle.pl_term.specs.Texts.{size}
use Rattle.atom_words.specs.Texts.{bytes_of, bucket}
use Rattle.atom_words.specs.Layout.{version_of, worn}
use Rattle.atom_words.specs.Board.{text_at}
use Rattle.atom_words.specs.declared.size.Size.{Size}
use Rattle.atom_words.specs.Seats.{seen, Fits, Has}
use Rattle.atom_words.specs.Plays.{Alone}
use Rattle.atom_words.specs.Kinds.{counted}
use Rattle.atom_words.specs.declared.view.Held.{Held}
use Rattle.atom_words.specs.declared.view.Counted.{Counted}
use Rattle.atom_words.specs.declared.view.View.{View}
use Rattle.atom_words.specs.declared.kind.Kind.{Kind}
use Rattle.atom_words.specs.declared.kind.Kind.TheVariants.{Load}
use Rattle.atom_words.specs.declared.words.Words.{Words}
use Rattle.atom_words.specs.declared.words.AtomSeat.{AtomSeat}
use Rattle.bucket_rows.specs.Walks.{spelled}
use Rattle.atom_api.specs.Interns.{refused}
use Rattle.atom_api.specs.declared.interned.Interned.{Interned}
use Rattle.atom_api.specs.declared.interned.Interned.TheVariants.{Is, Full, Again, TooLong, Worn, Memory}

-- the text that 32 words spell
abbrev pub unspelled : List ℕ → Chars
unspelled row = chars (bytes_of row)

-- the words are those of a text of at most 248 bytes
abbrev pub Spelled : List ℕ → Type 0
Spelled row = (size (unspelled row) ≤ 248) × (all_scalars (unspelled row) ≡ true) × (row ≡ spelled (unspelled row))

-- What the seat holds are slots of the table with texts, and of equal texts and equal slots there is one each; what it counts has texts
pub record Sound (v : View) : Type 0 where
  pub inside : (a : Held) → Has v a → a.slot < v.size.slots
  pub texts : (a : Held) → Has v a → Spelled a.text
  pub alone : (a : Held) → Has v a → Alone v a.slot a.text
  pub counts : (cs : List Counted) → v.counts ≡ Some cs → (length cs ≡ v.size.slots) × ((k : ℕ) → 0 < (counted cs k).count → Spelled (counted cs k).text)

-- the seat is an engine's
abbrev pub IsEngine : View → Type 0
IsEngine v = (v.cycle.engine ≢ 0) × (v.sweep ≡ None)

-- a seat of the table between its calls
abbrev pub Sits : Words → AtomSeat → Type 0
Sits w s = Fits w s × ((seen s).own ≡ None) × Sound (seen s)

-- the slots held, the walk, the pass, the refusals, the texts asked and the steps made aside, the view w is v
pub record Rest (v w : View) : Type 0 where
  pub gone : w.gone ≡ v.gone
  pub size : w.size ≡ v.size
  pub own : w.own ≡ v.own
  pub fixed : w.fixed ≡ v.fixed
  pub counts : w.counts ≡ v.counts
  pub undealt : w.undealt ≡ v.undealt
  pub cycle : w.cycle ≡ v.cycle
  pub sweep : w.sweep ≡ v.sweep
  pub risen : w.risen ≡ v.risen

-- THE ANSWERS of interning a text, where h is the head of its bucket: the atom is held afterwards with that text, and nothing else that is held has changed; no other slot that was held has the text, and the slot had no other text
abbrev pub Answers : Chars → ℕ → View → Interned → View → Type 0
Answers t h v (Is a) w = (size t ≤ 248) × (w.held ≡ v.held ++ record { slot = a; text = spelled t } ∷ []) × Alone v a (spelled t) × (a < v.size.slots)
Answers t h v (Full p) w = (size t ≤ 248) × (w.held ≡ v.held) × (p.counted ≡ v.size.slots) × (p.seat ≡ v.cycle.engine)
Answers t h v (Again c) w = (size t ≤ 248) × (w.held ≡ v.held)
Answers t h v (TooLong b) w = (248 < size t) × (b ≡ size t) × (w ≡ v)
Answers t h v (Worn x) w = (size t ≤ 248) × (w.held ≡ v.held) × (x.head ≡ h) × (worn ≤ version_of x.word)
Answers t h v Memory w = ⊥

-- the bucket is the text's in some row
abbrev pub AnswersIn : Chars → View → Interned → View → Type 0
AnswersIn t v r w = (s : ℕ) × (256 ≤ 2 ^ s) × Answers t (bucket s (spelled t)) v r w

-- what an answer tells, the texts asked and the steps made aside
pub record Told (t : Chars) (h : ℕ) (v : View) (r : Interned) (w : View) : Type 0 where
  pub answer : Answers t h v r w
  pub rest : Rest v w
  pub refusal : w.refusals ≡ v.refusals ++ refused r

abbrev pub ToldIn : Chars → View → Interned → View → Type 0
ToldIn t v r w = (s : ℕ) × (256 ≤ 2 ^ s) × Told t (bucket s (spelled t)) v r w

-- the texts asked, after an answer
abbrev pub asked_after : List ℕ → Interned → List (List ℕ) → List (List ℕ)
asked_after row (Is a) asked = asked ++ row ∷ []
asked_after row (Full p) asked = asked ++ row ∷ []
asked_after row (Again c) asked = asked ++ row ∷ []
asked_after row (TooLong b) asked = asked
asked_after row (Worn x) asked = asked ++ row ∷ []
asked_after row Memory asked = asked

-- loads of the words of the text of the slot k, from the word n on
abbrev pub loads : Size → ℕ → ℕ → List ℕ → List Kind
loads z k n [] = []
loads z k n (x ∷ xs) = Load (text_at z k n) x ∷ loads z k (n + 1) xs
