-- What a kind of step gives to a step of the table. The first four serve every call; an upper crate uses them for the kinds that it makes.
use Rattle.std.proofs.Common.{◌≡◌, ◌≢◌, ℕ, suc, ◌+◌, ◌*◌, ◌<◌, eqb, false, List, get_or, set, refl, sym, ap, ◌∙◌, subst}
use mathlib.Core.Option.{some}
use lib.ListN.{get_elem?}
use lib.Seq.{set-get_or}
use prog.Atomic.{either}
use Rattle.atomic_table.specs.Table.{State, Me, Act, keeps, stepped, Allows}
use Rattle.atomic_table.proofs.Lists.{exchanged}
use Rattle.atom_words.specs.Board.{Board, Sized, laid, atom, link, head, atom_at, link_at, head_at, text_at, with_atom, with_link, with_head, with_text}
use Rattle.atom_words.specs.Kinds.{view_after, Does}
use Rattle.atom_words.specs.Rule.{goes, Rule}
use Rattle.atom_words.specs.Kept.{Kept}
use Rattle.atom_words.specs.declared.size.Size.{Size}
use Rattle.atom_words.specs.declared.view.View.{View}
use Rattle.atom_words.specs.declared.kind.Kind.{Kind}
use Rattle.atom_words.proofs.Regions.{atom_read, atom_write, link_read, link_write, head_read, head_write, text_read, text_write}
use Rattle.atom_words.proofs.Every.{reached_kept}

abbrev pub Sat : Type 0
Sat = Me (Unit {0}) View

module _ (z : Size) (id : ℕ) (me : Sat) (at : ℕ) (then : ℕ → Sat → Type 0) where
  -- a kind that the seat may make of the words b, and what its caller is told
  abbrev pub Picks : (Board → ℕ) → Board → Board → Type 0
  Picks get b b' = (kind : Kind) × Does z b me.0 kind b' × then (get b) (view_after me.0 kind, me.1)

-- A step on the word at `at`, which `get` reads and `put` writes
pub goes_at : (key z : Size) (slots id : ℕ) (me : Sat) (at : ℕ) (f : ℕ → ℕ) (then : ℕ → Sat → Type 0) (get : Board → ℕ) (put : Board → ℕ → Board)
    → ((b : Board) → Sized z b → get_or (laid z b) at 0 ≡ get b) → ((b : Board) (x : ℕ) → Sized z b → set (laid z b) at x ≡ laid z (put b x))
    → key ≡ z → me.0.gone ≡ false
    → ((b : Board) (vs : List View) → Kept z b vs → get_elem? vs id ≡ some me.0 → get b < 18446744073709551616 → Picks z id me at then get b (put b (f (get b))))
    → Allows (Rule key) slots id me at f then
goes_at key z slots id me at f then get put reads writes is here picks s r _ seen small = let r' : Rule z s = subst (λ y. Rule y s) is r in let b : Board = r'.board in
    let kept : Kept z b s.views = reached_kept r'.steps z b s.views r'.reached in
    let read : get_or s.words at 0 ≡ get b = ap (λ l. get_or l at 0) r'.words ∙ reads b kept.sized in
    let p : Picks z id me at then get b (put b (f (get b))) = picks b s.views kept seen (subst (λ (n : ℕ). n < 18446744073709551616) read small) in
    let now : Rule z (stepped s at (f (get_or s.words at 0)) id me.1 (view_after me.0 p.0) keeps) = record {
      board = put b (f (get b));
      words = (λ i. set (r'.words i) at (f (read i))) ∙ writes b (f (get b)) kept.sized;
      steps = suc r'.steps;
      reached = (b, s.views, r'.reached, goes record { id = id; view = me.0; kind = p.0; at = seen; here = here; does = p.1; views = refl });
    } in (
      view_after me.0 p.0,
      keeps,
      tt,
      subst (λ y. Rule y (stepped s at (f (get_or s.words at 0)) id me.1 (view_after me.0 p.0) keeps)) (sym is) now,
      subst (λ (n : ℕ). then n (view_after me.0 p.0, me.1)) (sym read) p.2,
    )

-- The same for a load, whose kind leaves the words
pub load_at : (key z : Size) (slots id : ℕ) (me : Sat) (at : ℕ) (then : ℕ → Sat → Type 0) (get : Board → ℕ)
    → ((b : Board) → Sized z b → get_or (laid z b) at 0 ≡ get b) → key ≡ z → me.0.gone ≡ false
    → ((b : Board) (vs : List View) → Kept z b vs → get_elem? vs id ≡ some me.0 → get b < 18446744073709551616 → Picks z id me at then get b b)
    → Allows (Rule key) slots id me at (λ n. n) then
load_at key z slots id me at then get reads is here picks s r _ seen small = let r' : Rule z s = subst (λ y. Rule y s) is r in let b : Board = r'.board in
    let kept : Kept z b s.views = reached_kept r'.steps z b s.views r'.reached in
    let read : get_or s.words at 0 ≡ get b = ap (λ l. get_or l at 0) r'.words ∙ reads b kept.sized in
    let p : Picks z id me at then get b b = picks b s.views kept seen (subst (λ (n : ℕ). n < 18446744073709551616) read small) in
    let now : Rule z (stepped s at (get_or s.words at 0) id me.1 (view_after me.0 p.0) keeps) = record {
      board = b;
      words = set-get_or s.words at 0 ∙ r'.words;
      steps = suc r'.steps;
      reached = (b, s.views, r'.reached, goes record { id = id; view = me.0; kind = p.0; at = seen; here = here; does = p.1; views = refl });
    } in (
      view_after me.0 p.0,
      keeps,
      tt,
      subst (λ y. Rule y (stepped s at (get_or s.words at 0) id me.1 (view_after me.0 p.0) keeps)) (sym is) now,
      subst (λ (n : ℕ). then n (view_after me.0 p.0, me.1)) (sym read) p.2,
    )

-- The same for an exchange of `old` for `new`: a kind where it is made, and a kind of load where it is lost
pub exchange_at : (key z : Size) (slots id : ℕ) (me : Sat) (at old new : ℕ) (then : ℕ → Sat → Type 0) (get : Board → ℕ) (put : Board → ℕ → Board)
    → ((b : Board) → Sized z b → get_or (laid z b) at 0 ≡ get b) → ((b : Board) (x : ℕ) → Sized z b → set (laid z b) at x ≡ laid z (put b x))
    → key ≡ z → me.0.gone ≡ false
    → ((b : Board) (vs : List View) → Kept z b vs → get_elem? vs id ≡ some me.0 → get b ≡ old → Picks z id me at then get b (put b new))
    → ((b : Board) (vs : List View) → Kept z b vs → get_elem? vs id ≡ some me.0 → get b ≢ old → Picks z id me at then get b b)
    → Allows (Rule key) slots id me at (λ n. either (eqb n old) new n) then
exchange_at key z slots id me at old new then get put reads writes is here hit miss s r _ seen small = let r' : Rule z s = subst (λ y. Rule y s) is r in let b : Board = r'.board in
    let kept : Kept z b s.views = reached_kept r'.steps z b s.views r'.reached in
    let read : get_or s.words at 0 ≡ get b = ap (λ l. get_or l at 0) r'.words ∙ reads b kept.sized in
    let Goal : ℕ → Type 0 = λ x. (w : View) × (a : Act (Unit {0})) × Rattle.atomic_table.specs.Table.Valid s.homes me.1 a × Rule key (stepped s at x id me.1 w a) × then (get_or s.words at 0) (w, Rattle.atomic_table.specs.Table.carried_after me.1 a) in
    exchanged (get_or s.words at 0) old new Goal
    (λ e. let p : Picks z id me at then get b (put b new) = hit b s.views kept seen (sym read ∙ e) in let now : Rule z (stepped s at new id me.1 (view_after me.0 p.0) keeps) = record {
      board = put b new;
      words = ap (λ l. set l at new) r'.words ∙ writes b new kept.sized;
      steps = suc r'.steps;
      reached = (b, s.views, r'.reached, goes record { id = id; view = me.0; kind = p.0; at = seen; here = here; does = p.1; views = refl });
    } in (
      view_after me.0 p.0,
      keeps,
      tt,
      subst (λ y. Rule y (stepped s at new id me.1 (view_after me.0 p.0) keeps)) (sym is) now,
      subst (λ (n : ℕ). then n (view_after me.0 p.0, me.1)) (sym read) p.2,
    ))
    (λ ne. let p : Picks z id me at then get b b = miss b s.views kept seen (λ e. ne (read ∙ e)) in let now : Rule z (stepped s at (get_or s.words at 0) id me.1 (view_after me.0 p.0) keeps) = record {
      board = b;
      words = set-get_or s.words at 0 ∙ r'.words;
      steps = suc r'.steps;
      reached = (b, s.views, r'.reached, goes record { id = id; view = me.0; kind = p.0; at = seen; here = here; does = p.1; views = refl });
    } in (
      view_after me.0 p.0,
      keeps,
      tt,
      subst (λ y. Rule y (stepped s at (get_or s.words at 0) id me.1 (view_after me.0 p.0) keeps)) (sym is) now,
      subst (λ (n : ℕ). then n (view_after me.0 p.0, me.1)) (sym read) p.2,
    ))

-- REGION BY REGION
pub atom_goes : (key z : Size) (slots id : ℕ) (me : Sat) (k : ℕ) (f : ℕ → ℕ) (then : ℕ → Sat → Type 0) → key ≡ z → me.0.gone ≡ false → k < z.slots
    → ((b : Board) (vs : List View) → Kept z b vs → get_elem? vs id ≡ some me.0 → atom b k < 18446744073709551616 → Picks z id me (atom_at z k) then (λ y. atom y k) b (with_atom b k (f (atom b k))))
    → Allows (Rule key) slots id me (atom_at z k) f then
atom_goes key z slots id me k f then is here inside picks = goes_at key z slots id me (atom_at z k) f then (λ y. atom y k) (λ y x. with_atom y k x) (λ b sz. atom_read z b sz k inside) (λ b x sz. atom_write z b sz k x inside) is here picks

pub atom_exchange : (key z : Size) (slots id : ℕ) (me : Sat) (k old new : ℕ) (then : ℕ → Sat → Type 0) → key ≡ z → me.0.gone ≡ false → k < z.slots
    → ((b : Board) (vs : List View) → Kept z b vs → get_elem? vs id ≡ some me.0 → atom b k ≡ old → Picks z id me (atom_at z k) then (λ y. atom y k) b (with_atom b k new))
    → ((b : Board) (vs : List View) → Kept z b vs → get_elem? vs id ≡ some me.0 → atom b k ≢ old → Picks z id me (atom_at z k) then (λ y. atom y k) b b)
    → Allows (Rule key) slots id me (atom_at z k) (λ n. either (eqb n old) new n) then
atom_exchange key z slots id me k old new then is here inside hit miss = exchange_at key z slots id me (atom_at z k) old new then (λ y. atom y k) (λ y x. with_atom y k x) (λ b sz. atom_read z b sz k inside) (λ b x sz. atom_write z b sz k x inside) is here hit miss

pub link_goes : (key z : Size) (slots id : ℕ) (me : Sat) (k : ℕ) (f : ℕ → ℕ) (then : ℕ → Sat → Type 0) → key ≡ z → me.0.gone ≡ false → k < z.slots
    → ((b : Board) (vs : List View) → Kept z b vs → get_elem? vs id ≡ some me.0 → link b k < 18446744073709551616 → Picks z id me (link_at z k) then (λ y. link y k) b (with_link b k (f (link b k))))
    → Allows (Rule key) slots id me (link_at z k) f then
link_goes key z slots id me k f then is here inside picks = goes_at key z slots id me (link_at z k) f then (λ y. link y k) (λ y x. with_link y k x) (λ b sz. link_read z b sz k inside) (λ b x sz. link_write z b sz k x inside) is here picks

pub head_exchange : (key z : Size) (slots id : ℕ) (me : Sat) (h old new : ℕ) (then : ℕ → Sat → Type 0) → key ≡ z → me.0.gone ≡ false → h < z.heads
    → ((b : Board) (vs : List View) → Kept z b vs → get_elem? vs id ≡ some me.0 → head b h ≡ old → Picks z id me (head_at z h) then (λ y. head y h) b (with_head b h new))
    → ((b : Board) (vs : List View) → Kept z b vs → get_elem? vs id ≡ some me.0 → head b h ≢ old → Picks z id me (head_at z h) then (λ y. head y h) b b)
    → Allows (Rule key) slots id me (head_at z h) (λ n. either (eqb n old) new n) then
head_exchange key z slots id me h old new then is here inside hit miss = exchange_at key z slots id me (head_at z h) old new then (λ y. head y h) (λ y x. with_head y h x) (λ b sz. head_read z b sz h inside) (λ b x sz. head_write z b sz h x inside) is here hit miss

pub text_goes : (key z : Size) (slots id : ℕ) (me : Sat) (k n : ℕ) (f : ℕ → ℕ) (then : ℕ → Sat → Type 0) → key ≡ z → me.0.gone ≡ false → k < z.slots → n < 32
    → ((b : Board) (vs : List View) → Kept z b vs → get_elem? vs id ≡ some me.0 → get_or b.texts (32 * k + n) 0 < 18446744073709551616 → Picks z id me (text_at z k n) then (λ y. get_or y.texts (32 * k + n) 0) b (with_text b (32 * k + n) (f (get_or b.texts (32 * k + n) 0))))
    → Allows (Rule key) slots id me (text_at z k n) f then
text_goes key z slots id me k n f then is here inside low picks = goes_at key z slots id me (text_at z k n) f then (λ y. get_or y.texts (32 * k + n) 0) (λ y x. with_text y (32 * k + n) x) (λ b sz. text_read z b sz k n inside low) (λ b x sz. text_write z b sz k n x inside low) is here picks

pub atom_load : (key z : Size) (slots id : ℕ) (me : Sat) (k : ℕ) (then : ℕ → Sat → Type 0) → key ≡ z → me.0.gone ≡ false → k < z.slots
    → ((b : Board) (vs : List View) → Kept z b vs → get_elem? vs id ≡ some me.0 → atom b k < 18446744073709551616 → Picks z id me (atom_at z k) then (λ y. atom y k) b b)
    → Allows (Rule key) slots id me (atom_at z k) (λ n. n) then
atom_load key z slots id me k then is here inside picks = load_at key z slots id me (atom_at z k) then (λ y. atom y k) (λ b sz. atom_read z b sz k inside) is here picks

pub link_load : (key z : Size) (slots id : ℕ) (me : Sat) (k : ℕ) (then : ℕ → Sat → Type 0) → key ≡ z → me.0.gone ≡ false → k < z.slots
    → ((b : Board) (vs : List View) → Kept z b vs → get_elem? vs id ≡ some me.0 → link b k < 18446744073709551616 → Picks z id me (link_at z k) then (λ y. link y k) b b)
    → Allows (Rule key) slots id me (link_at z k) (λ n. n) then
link_load key z slots id me k then is here inside picks = load_at key z slots id me (link_at z k) then (λ y. link y k) (λ b sz. link_read z b sz k inside) is here picks

pub head_load : (key z : Size) (slots id : ℕ) (me : Sat) (h : ℕ) (then : ℕ → Sat → Type 0) → key ≡ z → me.0.gone ≡ false → h < z.heads
    → ((b : Board) (vs : List View) → Kept z b vs → get_elem? vs id ≡ some me.0 → head b h < 18446744073709551616 → Picks z id me (head_at z h) then (λ y. head y h) b b)
    → Allows (Rule key) slots id me (head_at z h) (λ n. n) then
head_load key z slots id me h then is here inside picks = load_at key z slots id me (head_at z h) then (λ y. head y h) (λ b sz. head_read z b sz h inside) is here picks

pub text_load : (key z : Size) (slots id : ℕ) (me : Sat) (k n : ℕ) (then : ℕ → Sat → Type 0) → key ≡ z → me.0.gone ≡ false → k < z.slots → n < 32
    → ((b : Board) (vs : List View) → Kept z b vs → get_elem? vs id ≡ some me.0 → get_or b.texts (32 * k + n) 0 < 18446744073709551616 → Picks z id me (text_at z k n) then (λ y. get_or y.texts (32 * k + n) 0) b b)
    → Allows (Rule key) slots id me (text_at z k n) (λ n. n) then
text_load key z slots id me k n then is here inside low picks = load_at key z slots id me (text_at z k n) then (λ y. get_or y.texts (32 * k + n) 0) (λ b sz. text_read z b sz k n inside low) is here picks

pub epoch_load : (key z : Size) (slots id : ℕ) (me : Sat) (then : ℕ → Sat → Type 0) → key ≡ z → me.0.gone ≡ false
    → ((b : Board) (vs : List View) → Kept z b vs → get_elem? vs id ≡ some me.0 → b.epoch < 18446744073709551616 → Picks z id me 0 then (λ y. y.epoch) b b)
    → Allows (Rule key) slots id me 0 (λ n. n) then
epoch_load key z slots id me then is here picks = load_at key z slots id me 0 then (λ y. y.epoch) (λ b sz. refl) is here picks

pub row_load : (key z : Size) (slots id : ℕ) (me : Sat) (then : ℕ → Sat → Type 0) → key ≡ z → me.0.gone ≡ false
    → ((b : Board) (vs : List View) → Kept z b vs → get_elem? vs id ≡ some me.0 → b.row < 18446744073709551616 → Picks z id me 1 then (λ y. y.row) b b)
    → Allows (Rule key) slots id me 1 (λ n. n) then
row_load key z slots id me then is here picks = load_at key z slots id me 1 then (λ y. y.row) (λ b sz. refl) is here picks
